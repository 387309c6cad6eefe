-- The titles of marks, which a viewer shows.
-- Source: own choice.
use Rattle.std.specs.Prelude.{ℕ, ◌==◌, nat_lt, List, [], ◌++◌, codes, decimal, Option, Some, None}
use Rattle.std.specs.Prelude.{if◌then◌else◌}
use Rattle.hex.specs.Hex.{encode_lower}
use Rattle.tplan.specs.declared.plan.End.{End}
use Rattle.tfiles.specs.Texts.{break_name, end_text}
use Rattle.twhere.specs.Standing.{word_text}
use Rattle.tchart.specs.declared.shown.Message.{Message}
use Rattle.tchart.specs.declared.marks.Bar.{Bar}
use Rattle.tchart.specs.declared.marks.Mark.{Mark}
use Rattle.tchart.specs.declared.marks.Mark.TheVariants as mark
use Rattle.tchart.specs.declared.marks.Pause.{Pause}
use Rattle.tchart.specs.declared.waits.Need.{Need}
use Rattle.tchart.specs.declared.waits.Need.TheVariants.{Receives, Sends, Input, Output, Alternative}

-- ---- words

-- the process, if one is known
abbrev pub process_text : Option ℕ → List ℕ
process_text (Some w) = codes ", process " ++ word_text w
process_text None = []

-- more bytes than those that are shown
abbrev pub more_text : ℕ → List ℕ
more_text length = if nat_lt 8 length then codes ".." else []

-- the length of a message, and its first bytes
abbrev pub bytes_text : Message → List ℕ
bytes_text m = decimal m.length ++ (codes ": " ++ (encode_lower m.bytes ++ more_text m.length))

-- what stands before the title of a mark of a node
abbrev pub node_text : ℕ → List ℕ
node_text n = codes "node " ++ (decimal n ++ codes ": ")

-- the event of a mark, and its first and its last one
abbrev pub event_text : ℕ → List ℕ
event_text k = codes "event " ++ decimal k

abbrev pub events_text : (first last : ℕ) → List ℕ
events_text first last =
    if first == last then event_text first
    else codes "events " ++ (decimal first ++ (codes " to " ++ decimal last))

-- how many steps
abbrev pub steps_text : ℕ → List ℕ
steps_text count = if count == 1 then codes "1 step" else decimal count ++ codes " steps"

-- from the first event of a wait on, or to the last one
abbrev pub since_text : (first : ℕ) → Option ℕ → List ℕ
since_text first (Some last) = events_text first last
since_text first None = codes "from event " ++ (decimal first ++ codes " on")

-- what a process waits for
abbrev pub need_text : Need → List ℕ
need_text (Receives channel) = codes "input on channel " ++ word_text channel
need_text (Sends channel) = codes "output on channel " ++ word_text channel
need_text (Input l) = codes "input on link " ++ decimal l
need_text (Output l) = codes "output on link " ++ decimal l
need_text Alternative = codes "an alternative"

-- ---- titles

-- instructions and dispatches
abbrev pub bar_title : ℕ → Bar → List ℕ
bar_title n b =
    node_text n ++ (events_text b.first b.last ++ (codes ", " ++ (steps_text b.count ++ process_text b.process)))

-- a wait
abbrev pub pause_title : ℕ → Pause → Option ℕ → List ℕ
pause_title n q last =
    node_text n
    ++ (since_text q.first last
    ++ (codes ", waits for " ++ (need_text q.need ++ process_text (Some q.process))))

-- the beginning of a message
abbrev pub begin_title : (n k l : ℕ) → Option ℕ → List ℕ
begin_title n k l process =
    node_text n ++ (event_text k ++ (codes ", a message begins on link " ++ (decimal l ++ process_text process)))

-- a message
abbrev pub message_title : End → (first last : ℕ) → Message → List ℕ
message_title to first last m =
    codes "message "
    ++ (end_text m.from
    ++ (codes " to "
    ++ (end_text to
    ++ (codes ": "
    ++ (events_text first last ++ (codes ", " ++ (bytes_text m ++ process_text m.process)))))))

-- a halt, and a freeze
abbrev pub halt_title : (n k : ℕ) → List ℕ
halt_title n k = node_text n ++ (event_text k ++ codes ", halt")

abbrev pub freeze_title : (n k : ℕ) → List ℕ → List ℕ
freeze_title n k name = node_text n ++ (event_text k ++ (codes ", freeze " ++ name))

-- the title of a mark
abbrev pub title_text : Mark → List ℕ
title_text (mark.Bar n b) = bar_title n b
title_text (mark.Pause n lane q to last) = pause_title n q last
title_text (mark.Begin n row k l process) = begin_title n k l process
title_text (mark.Message to begun row k m) = message_title to begun.number k m
title_text (mark.Halt n row k) = halt_title n k
title_text (mark.Freeze n row k broken) = freeze_title n k (break_name broken)
