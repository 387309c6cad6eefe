-- What histories do not tell: what the buffers of pending inputs hold.
-- Source: own choice, a law of the texts.
use Rattle.std.specs.Prelude.{◌≡◌, ℕ, List}
use Rattle.tplan.specs.declared.event.Event.{Event}
use Rattle.tnet.specs.Net.{NetState}
use Rattle.tnet.specs.Sound.{IsSound}
use Rattle.twhere.specs.Unseen.{hidden_net}
use Rattle.thistory.specs.declared.steps.Asked.{Asked}
use Rattle.thistory.specs.declared.watch.Place.{Place}
use Rattle.thistory.specs.Halts.{halts_text}
use Rattle.thistory.specs.Steps.{net_after, steps_text}
use Rattle.thistory.specs.Watch.{watch_text}

-- nets that agree except for hidden bytes have one history, whatever is asked for and whatever events are done
abbrev pub StepsAreOfTheView : Type 0
StepsAreOfTheView =
    (asked : Asked) (events : List Event) (a b : NetState) → IsSound a → IsSound b → hidden_net a ≡ hidden_net b
    → steps_text asked events a ≡ steps_text asked events b

-- and one history of the bytes of each place
abbrev pub WatchIsOfTheView : Type 0
WatchIsOfTheView =
    (place : Place) (events : List Event) (a b : NetState) → IsSound a → IsSound b → hidden_net a ≡ hidden_net b
    → watch_text place events a ≡ watch_text place events b

-- and the same events halt their nodes, by the same instructions
abbrev pub HaltsAreOfTheView : Type 0
HaltsAreOfTheView =
    (named : ℕ → List ℕ → List ℕ) (events : List Event) (a b : NetState) → IsSound a → IsSound b
    → hidden_net a ≡ hidden_net b → halts_text named events a ≡ halts_text named events b

-- and the nets that the events leave agree except for hidden bytes
abbrev pub LeftIsOfTheView : Type 0
LeftIsOfTheView =
    (events : List Event) (a b : NetState) → IsSound a → IsSound b → hidden_net a ≡ hidden_net b
    → hidden_net (net_after events a) ≡ hidden_net (net_after events b)
