-- Marks and texts that the definitions compute.
use Rattle.std.specs.Prelude.{◌≡◌, ℕ, zero, suc, ◌+◌, ◌*◌, true, false, List, [], ◌∷◌, ◌++◌, Some, None, refl, codes}
use Rattle.std.specs.Fmt.{digits}
use Rattle.hex.specs.Hex.{encode_with}
use Rattle.tword.specs.declared.breaks.Break.TheVariants.{LengthMismatch}
use Rattle.tplan.specs.declared.plan.End.{End}
use Rattle.tproc.specs.declared.waiter.Reason.TheVariants.{LinkInput, LinkOutput, Chooses}
use Rattle.tproc.specs.declared.waiter.Waiter.{Waiter}
use Rattle.tchart.specs.declared.shown.Message.{Message}
use Rattle.tchart.specs.declared.shown.Shown.TheVariants as shown
use Rattle.tchart.specs.declared.layout.Column.{Column}
use Rattle.tchart.specs.declared.layout.Kind.TheVariants as kind
use Rattle.tchart.specs.declared.marks.Mark.{Mark}
use Rattle.tchart.specs.declared.marks.Mark.TheVariants as mark
use Rattle.tchart.specs.declared.marks.Pause.{Pause}
use Rattle.tchart.specs.declared.waits.Awaited.TheVariants.{Channel}
use Rattle.tchart.specs.declared.waits.Need.TheVariants as need
use Rattle.tchart.specs.Drawing.{column_text, crowd_text, head_text, key_line, label_reach, label_text, mark_text}
use Rattle.tchart.specs.Drawing.{rest_text, width_of}
use Rattle.tchart.specs.Plots.{PlotState, below, ended, laid, most_lanes, opening, over}
use Rattle.tchart.specs.Titles.{bar_title, pause_title}
use Rattle.tchart.specs.Waits.{reason_in}

abbrev sender : End
sender = record { node = 0; link = 1 }

abbrev receiver : End
receiver = record { node = 1; link = 2 }

-- a message of ten bytes; eight of them are shown
abbrev ten_bytes : Message
ten_bytes =
    record {
      from = sender;
      length = 10;
      bytes = 1 ∷ 2 ∷ 3 ∷ 4 ∷ 5 ∷ 6 ∷ 7 ∷ 0x2a ∷ [];
      process = None;
    }

-- ---- rows

-- node 0 sends a message of one byte to node 1, both wait for it, and node 0 goes on
abbrev one_byte : Message
one_byte = record { from = sender; length = 1; bytes = 0x2a ∷ []; process = Some 0x8000_0201 }

abbrev who_sends : Waiter
who_sends = record { process = 0x8000_0101; reason = LinkOutput 1 }

abbrev who_receives : Waiter
who_receives = record { process = 0x8000_0201; reason = LinkInput 2 }

abbrev both_wait : PlotState
both_wait =
    laid 1 1 (shown.Run (Some 0x8000_0201) false (Some who_receives))
    (laid 0 0 (shown.Run (Some 0x8000_0101) false (Some who_sends)) opening)

abbrev byte_taken : PlotState
byte_taken =
    over most_lanes 1 4 None
    (laid 1 4 (shown.Taken 2 (Some sender) (Some one_byte))
    (laid 1 3 (shown.Came 2) (laid 0 2 (shown.Sent 1 (Some receiver) true (Some 0x8000_0101)) both_wait)))

abbrev goes_on_below : PlotState
goes_on_below =
    laid 0 6 (shown.Run (Some 0x8000_0101) false None)
    (over most_lanes 0 5 None (laid 0 5 (shown.Acknowledged 1) byte_taken))

-- the byte is taken below the row in which it was sent, and node 0 goes on below that
rows_of_a_message : (ended 2 4 goes_on_below).marks
    ≡ mark.Begin 0 2 2 1 (Some 0x8000_0101)
    ∷ mark.Message receiver (record { row = 2; number = 2 }) 3 4 one_byte
    ∷ mark.Pause 1 0 (record { from = 2; first = 1; process = 0x8000_0201; need = need.Input 2 }) 3 (Some 4)
    ∷ mark.Pause 0 0 (record { from = 2; first = 0; process = 0x8000_0101; need = need.Output 1 }) 3 (Some 5)
    ∷ mark.Bar 0 (record { row = 1; first = 0; last = 0; count = 1; process = Some 0x8000_0101 })
    ∷ mark.Bar 0 (record { row = 4; first = 6; last = 6; count = 1; process = Some 0x8000_0101 })
    ∷ mark.Bar 1 (record { row = 1; first = 1; last = 1; count = 1; process = Some 0x8000_0201 })
    ∷ []
rows_of_a_message = refl

lowest_row : goes_on_below.rows ≡ 4
lowest_row = refl

-- two runs in a row are one bar
two_runs : (ended 1 1 (laid 0 8 (shown.Run None false None)
    (laid 0 7 (shown.Run (Some 0x8000_0101) false None) opening))).marks
    ≡ mark.Bar 0 (record { row = 1; first = 7; last = 8; count = 2; process = Some 0x8000_0101 }) ∷ []
two_runs = refl

-- a freeze stands below what the node did before
a_freeze : (laid 0 8 (shown.Frozen LengthMismatch)
    (laid 0 7 (shown.Run (Some 0x8000_0101) false None) opening)).marks
    ≡ mark.Bar 0 (record { row = 1; first = 7; last = 7; count = 1; process = Some 0x8000_0101 })
    ∷ mark.Freeze 0 2 8 LengthMismatch ∷ []
a_freeze = refl

-- what is not enabled shows nothing
nothing_shown : (laid 0 7 shown.Nothing opening).marks ≡ []
nothing_shown = refl

-- the rows below the last one that is drawn are one
last_rows : below 1999 ∷ below 2000 ∷ below 2001 ∷ [] ≡ 2000 ∷ 2001 ∷ 2001 ∷ []
last_rows = refl

-- ---- what is waited for

reason_found : reason_in 0x8000_0201 (who_sends ∷ who_receives ∷ []) ≡ Some (LinkInput 2)
reason_found = refl

-- one who waits to the end
abbrev who_chooses : Waiter
who_chooses = record { process = 0x8000_0101; reason = Chooses }

waits_to_the_end : (ended 1 3 (laid 0 7 (shown.Run (Some 0x8000_0101) false (Some who_chooses)) opening)).marks
    ≡ mark.Bar 0 (record { row = 1; first = 7; last = 7; count = 1; process = Some 0x8000_0101 })
    ∷ mark.Pause 0 0 (record { from = 2; first = 7; process = 0x8000_0101; need = need.Alternative }) 3 None ∷ []
waits_to_the_end = refl

-- processes of a node wait, as many as this
abbrev wait_at_once : (count : ℕ) → PlotState
wait_at_once zero = opening
wait_at_once (suc n) =
    laid 0 n
    (shown.Run (Some 0x8000_0101) false (Some (record { process = 0x8000_0101 + 256 * n; reason = Chooses })))
    (wait_at_once n)

-- six of them have lanes
six_waits : (wait_at_once 6).is_crowded ≡ false
six_waits = refl

seven_waits : (wait_at_once 7).is_crowded ≡ true
seven_waits = refl

-- ---- texts

a_bar : mark_text (mark.Bar 1 (record { row = 2; first = 3; last = 9; count = 7; process = Some 0x8000_0101 }))
    ≡ codes "<g><title>node 1: events 3 to 9, 7 steps, process #80000101</title>"
    ++ codes "<rect class='run' x='320' y='183' width='64' height='18'/>"
    ++ codes "<text class='count' x='352' y='196'>7</text></g>" ++ 10 ∷ []
unfolding digits encode_with
a_bar = refl

one_step : bar_title 0 (record { row = 2; first = 3; last = 3; count = 1; process = None })
    ≡ codes "node 0: event 3, 1 step"
unfolding digits
one_step = refl

abbrev a_wait : Pause
a_wait = record { from = 2; first = 7; process = 0x8000_0201; need = need.Input 2 }

a_pause : mark_text (mark.Pause 0 1 a_wait 3 (Some 12))
    ≡ codes "<g><title>node 0: events 7 to 12, waits for input on link 2, process #80000201</title>"
    ++ codes "<rect class='input' x='58' y='181' width='8' height='46'/></g>" ++ 10 ∷ []
unfolding digits encode_with
a_pause = refl

-- what of the titles of waits is not like that
abbrev waits_on : Pause
waits_on =
    record {
      from = 2;
      first = 7;
      process = 0x8000_0101;
      need = need.Sends 0x8000_0300;
    }

a_wait_on_a_channel : pause_title 1 waits_on None
    ≡ codes "node 1: from event 7 on, waits for output on channel #80000300, process #80000101"
unfolding digits encode_with
a_wait_on_a_channel = refl

a_beginning : mark_text (mark.Begin 0 2 41 1 (Some 0x8000_0101))
    ≡ codes "<g><title>node 0: event 41, a message begins on link 1, process #80000101</title>"
    ++ codes "<circle class='begin' cx='84' cy='192' r='4'/></g>" ++ 10 ∷ []
unfolding digits encode_with
a_beginning = refl

abbrev arrow : Mark
arrow = mark.Message receiver (record { row = 2; number = 41 }) 3 66 ten_bytes

a_message : mark_text arrow
    ≡ codes "<g><title>message 0.1 to 1.2: events 41 to 66, 10: 010203040506072a..</title>"
    ++ codes "<line class='way' x1='84' y1='192' x2='324' y2='216'/></g>" ++ 10 ∷ []
unfolding digits encode_with
a_message = refl

its_text : label_text arrow ≡ codes "<text class='label' x='94' y='188'>10: 010203040506072a..</text>" ++ 10 ∷ []
unfolding digits encode_with
its_text = refl

its_reach : label_reach ten_bytes ≡ 270
its_reach = refl

frozen_node : mark_text (mark.Freeze 1 3 70 LengthMismatch)
    ≡ codes "<g><title>node 1: event 70, freeze LengthMismatch</title>"
    ++ codes "<rect class='freeze' x='318' y='210' width='12' height='12'/>"
    ++ codes "<text class='beside' x='336' y='220'>freeze LengthMismatch</text></g>" ++ 10 ∷ []
unfolding digits
frozen_node = refl

a_column : column_text 4 (record { kind = kind.Sink; number = 2 })
    ≡ codes "<text class='name' x='564' y='120'>sink 2</text>"
    ++ codes "<line class='column' x1='564' y1='132' x2='564' y2='254'/>" ++ 10 ∷ []
unfolding digits
a_column = refl

a_key : key_line Channel 74
    ≡ codes "<rect class='channel' x='12' y='64' width='8' height='12'/>"
    ++ codes "<text class='beside' x='28' y='74'>waits on an internal channel</text>" ++ 10 ∷ []
unfolding digits
a_key = refl

-- two columns, and one with what reaches beyond it
abbrev two_nodes : List Column
two_nodes = record { kind = kind.Node; number = 0 } ∷ record { kind = kind.Node; number = 1 } ∷ []

width_of_two : width_of (record { columns = two_nodes; marks = arrow ∷ []; rows = 3; is_crowded = false }) ≡ 408
width_of_two = refl

width_of_a_freeze
    : width_of
    (record { columns = two_nodes; marks = mark.Freeze 1 3 70 LengthMismatch ∷ []; rows = 3; is_crowded = false })
    ≡ 532
width_of_a_freeze = refl

first_line : head_text 1300 580 31408
    ≡ codes "<svg xmlns='http://www.w3.org/2000/svg' width='580' height='31408' viewBox='0 0 580 31408'>" ++ 10 ∷ []
unfolding digits
first_line = refl

-- one of more than 1,300 rows is a third smaller
first_line_of_many : head_text 2000 580 48208
    ≡ codes "<svg xmlns='http://www.w3.org/2000/svg' width='386' height='32138' viewBox='0 0 580 48208'>" ++ 10 ∷ []
unfolding digits
first_line_of_many = refl

-- all is drawn, or lines say what is not
no_rest : rest_text 2000 100 ++ crowd_text false 114 ≡ []
no_rest = refl

a_rest : rest_text 2001 100
    ≡ codes "<text class='beside' x='12' y='100'>only the first 2000 rows are drawn</text>" ++ 10 ∷ []
unfolding digits
a_rest = refl

a_crowd : crowd_text true 114
    ≡ codes "<text class='beside' x='12' y='114'>at most 6 waits of a node are drawn</text>" ++ 10 ∷ []
unfolding digits
a_crowd = refl
