-- The end of a run of the process machine, as it is printed.
-- Source: own choice, a format of this program.
use Rattle.std.specs.Prelude.{ℕ, suc, ◌+◌, ◌-◌, ◌/◌, List, [], ◌∷◌, ◌++◌, flat_map, length, map, None, false, codes}
use Rattle.std.specs.List.{range_with_len}
use Rattle.tword.specs.Stores.{Store}
use Rattle.tplan.specs.declared.plan.NodePlan.{NodePlan}
use Rattle.tplan.specs.declared.plan.SourcePlan.{SourcePlan}
use Rattle.tplan.specs.declared.plan.SinkPlan.{SinkPlan}
use Rattle.tplan.specs.declared.plan.Plan.{Plan}
use Rattle.tplan.specs.Wires.{end_at}
use Rattle.tfiles.specs.Logs.{line}
use Rattle.tfiles.specs.Texts.{node_line, sink_line, source_line, words}
use Rattle.tprocesses.specs.Places.{WordAt, Messages, Kept}
use Rattle.tprocesses.specs.Values.{Value, AreKept, AreMessages, word_in}
use Rattle.tcertify.specs.Running.{State}
use Rattle.tcertify.specs.declared.node.Node.{Node}
use Rattle.tcertify.specs.declared.sink.Sink.{Sink}
use Rattle.tfindings.specs.Cells.{known_text, memory_text, words_of}

-- the messages that a source has left, and those that a sink has kept
abbrev pub messages_in : Value → List (List ℕ)
messages_in (AreMessages messages) = messages
messages_in _ = []

abbrev pub kept_in : Value → List Store
kept_in (AreKept room messages) = messages
kept_in _ = []

-- the first `count` words of the memory of node n
abbrev pub words_at : State → (n count : ℕ) → List Store
words_at s n count = map (λ k. (word_in (s (WordAt n k))).cells) (range_with_len 0 count)

-- a node, by its number
abbrev pub node_text : State → ℕ → NodePlan → List ℕ
node_text s n p = node_line n None false ++ memory_text (words_at s n (p.memory / 4))

-- a source: how many of its messages have gone over
abbrev pub source_text : State → ℕ → SourcePlan → List ℕ
source_text s n p =
    source_line n (length p.messages - length (messages_in (s (Messages (end_at n 0))))) (length p.messages)

-- a message that a sink has kept
abbrev pub kept_line : Store → List ℕ
kept_line cells = line (words (codes "kept" ∷ flat_map known_text cells ∷ []))

-- what a sink has kept
abbrev pub kept_text : ℕ → List Store → List ℕ
kept_text n kept = sink_line n (length kept) ++ flat_map kept_line kept

-- a sink
abbrev pub sink_text : State → ℕ → SinkPlan → List ℕ
sink_text s n p = kept_text n (kept_in (s (Kept (end_at n 0))))

-- one after another, by their numbers from one on
abbrev pub each_from : {P : Type 0} → (ℕ → P → List ℕ) → ℕ → List P → List ℕ
each_from text n [] = []
each_from text n (p ∷ ps) = text n p ++ each_from text (suc n) ps

-- the whole end
abbrev pub end_text : Plan → State → List ℕ
end_text plan s =
    each_from (node_text s) 0 plan.nodes
    ++ (each_from (source_text s) (length plan.nodes) plan.sources
    ++ each_from (sink_text s) (length plan.nodes + length plan.sources) plan.sinks)

-- the same of what the program keeps: a node, and a sink
abbrev pub kept_node : ℕ → Node → List ℕ
kept_node n node = node_line n None false ++ memory_text (words_of node.words.items.items)

abbrev pub kept_sink : ℕ → Sink → List ℕ
kept_sink n sink = kept_text n (map (λ m. m.items) sink.messages.items)

-- the text of a source of which `sent` messages have gone over
abbrev pub sent_text : ℕ → SourcePlan → ℕ → List ℕ
sent_text n p sent =
    source_line n (length p.messages - (length p.messages - sent)) (length p.messages)

-- the sources from a number on
abbrev pub sent_from : ℕ → List SourcePlan → List ℕ → List ℕ
sent_from n (p ∷ ps) (sent ∷ more) = sent_text n p sent ++ sent_from (suc n) ps more
sent_from n _ _ = []
