-- Rows that the definitions compute.
use Rattle.std.specs.Prelude.{◌≡◌, [], ◌∷◌, ◌++◌, None, Some, refl, codes, replicate, true}
use Rattle.std.specs.Fmt.{digits}
use Rattle.hex.specs.Hex.{encode_with}
use Rattle.tword.specs.declared.breaks.Break.TheVariants.{InTransit}
use Rattle.tword.specs.Stores.{as_cells}
use Rattle.tplan.specs.declared.event.Note.TheVariants.{Freeze, Halt, Msg}
use Rattle.tjson.specs.Runs.{line_object, node_object, note_object, sink_object}

-- two messages of a sink
kept_row : sink_object 3 ((1 ∷ 0x2a ∷ []) ∷ (0xff ∷ []) ∷ []) ≡ codes "{\"sink\": 3, \"kept\": [\"012a\", \"ff\"]}"
unfolding encode_with digits
kept_row = refl

-- a message of two bytes
message_row : note_object (Msg (record { node = 0; link = 1 }) (record { node = 12; link = 2 }) (0x2a ∷ 7 ∷ []))
    ≡ codes "{\"msg\": {\"from\": [0, 1], \"to\": [12, 2], \"bytes\": \"2a07\"}}"
unfolding encode_with digits
message_row = refl

halt_row : note_object (Halt 5) ≡ codes "{\"halt\": 5}"
unfolding digits
halt_row = refl

freeze_row : note_object (Freeze 1 InTransit) ≡ codes "{\"freeze\": {\"node\": 1, \"break\": \"InTransit\"}}"
unfolding digits
freeze_row = refl

-- the last three bytes of a memory, of which one is hidden
line_row : line_object 0x80ff_fff0 (Some 1 ∷ None ∷ Some 0xa0 ∷ [])
    ≡ codes "{\"at\": \"80fffff0\", \"bytes\": \"01--a0\"}"
unfolding encode_with
line_row = refl

-- a node with lines of zeros between two others
node_row : node_object 2 (Some InTransit) true (as_cells (7 ∷ replicate 47 0 ++ 9 ∷ []))
    ≡ codes "{\"node\": 2, \"state\": \"frozen\", \"break\": \"InTransit\", \"memory\": ["
    ++ codes "{\"at\": \"80000000\", \"bytes\": \"07000000000000000000000000000000\"}, "
    ++ codes "{\"at\": \"80000030\", \"bytes\": \"09\"}]}"
unfolding encode_with digits
node_row = refl
