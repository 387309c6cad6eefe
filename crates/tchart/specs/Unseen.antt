-- What pictures do not tell: what the buffers of pending inputs hold.
-- Source: own choice, a law of the text.
use Rattle.std.specs.Prelude.{◌≡◌, List}
use Rattle.tplan.specs.declared.event.Event.{Event}
use Rattle.tnet.specs.Net.{NetState}
use Rattle.tnet.specs.Sound.{IsSound}
use Rattle.twhere.specs.Unseen.{hidden_net}
use Rattle.tchart.specs.Layout.{chart_of}

-- nets that agree but for hidden bytes have one picture, whatever events are done
abbrev pub ChartIsOfTheView : Type 0
ChartIsOfTheView =
    (events : List Event) (a b : NetState) → IsSound a → IsSound b → hidden_net a ≡ hidden_net b
    → chart_of events a ≡ chart_of events b
