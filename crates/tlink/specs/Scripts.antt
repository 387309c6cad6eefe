-- Scripted ends as a program holds them.
-- Source: own choice, words for contracts.
use Rattle.std.specs.Prelude.{◌≡◌, ℕ, ◌+◌, ◌-◌, ◌<◌, ◌≤◌, All, List, [], ◌∷◌, ◌++◌, drop, take, length, sum, Option}
use Rattle.std.specs.Prelude.{Some, None}
use Rattle.tword.specs.Limits.{largest_capacity}
use Rattle.tword.specs.Words.{most_neg}
use Rattle.tword.specs.Stores.{shown}
use Rattle.tproc.specs.Machine.{Machine}
use Rattle.tlink.specs.declared.counts.Counts.{Counts}
use Rattle.tlink.specs.Roles.{Role, Processor, Source, Sink, script_machine, offering, asking}
use Rattle.tlink.specs.Node.{NodeState, no_counts, counts_at, one_link}

-- each element of a list is a byte
abbrev pub AreBytes : List ℕ → Type 0
AreBytes bytes = All (λ b. b < 256) bytes

-- the counts of link 0; the other links have counted nothing
abbrev pub only_counts : Counts → List Counts
only_counts c = c ∷ no_counts ∷ no_counts ∷ no_counts ∷ []

-- a source of messages of these lengths, the first `done` of them over, the next one from place `start` of the bytes
-- on
abbrev pub source_state : (bytes lengths : List ℕ) → (done start : ℕ) → Counts → NodeState
source_state bytes lengths done start c =
    record {
      role = Source (take done lengths) (drop done lengths);
      machine = script_machine (offering (most_neg + start) (drop done lengths)) bytes;
      counts = only_counts c;
      wired = one_link;
      broken = None;
    }

-- a sink that has kept messages of these lengths, in the first `kept` bytes of the memory
abbrev pub sink_state : (bytes lengths : List ℕ) → (kept : ℕ) → Counts → NodeState
sink_state bytes lengths kept c =
    record {
      role = Sink lengths;
      machine = script_machine (asking (most_neg + kept) (length bytes - kept)) bytes;
      counts = only_counts c;
      wired = one_link;
      broken = None;
    }

-- how many messages of a source are over, the lengths of those and of the others, and how many it has
abbrev pub done_messages : Role → ℕ
done_messages (Source over rest) = length over
done_messages _ = 0

abbrev pub over_messages : Role → List ℕ
over_messages (Source over rest) = over
over_messages _ = []

abbrev pub left_messages : Role → List ℕ
left_messages (Source over rest) = rest
left_messages _ = []

abbrev pub all_messages : Role → ℕ
all_messages (Source over rest) = length over + length rest
all_messages _ = 0

-- bytes cut into messages of these lengths
abbrev pub cut : (lengths bytes : List ℕ) → List (List ℕ)
cut [] bytes = []
cut (n ∷ ns) bytes = take n bytes ∷ cut ns (drop n bytes)

-- all messages of a source, those that are over included, which are the first bytes of its memory
abbrev pub offered_of : Role → List ℕ → List (List ℕ)
offered_of (Source over rest) bytes = cut (over ++ rest) bytes
offered_of _ bytes = []

abbrev pub source_messages : NodeState → List (List ℕ)
source_messages n = offered_of n.role (shown n.machine.store)

-- the lengths of the messages that a sink has kept
abbrev pub kept_lengths : Role → List ℕ
kept_lengths (Sink kept) = kept
kept_lengths _ = []

-- the messages that a sink has kept, which are the first bytes of its memory
abbrev pub messages_of : Role → List ℕ → List (List ℕ)
messages_of (Sink kept) bytes = cut kept bytes
messages_of _ bytes = []

abbrev pub kept_messages : NodeState → List (List ℕ)
kept_messages n = messages_of n.role (shown n.machine.store)

-- the bytes that a sink has of the message that is not complete
abbrev pub part_in : Role → ℕ → List ℕ → List ℕ
part_in (Sink kept) got bytes = take got (drop (sum kept) bytes)
part_in _ got bytes = []

abbrev pub kept_part : NodeState → List ℕ
kept_part n = part_in n.role (counts_at n 0).got (shown n.machine.store)

-- the processor of a node, and a node that is a source or a sink
abbrev pub processor_of : Role → Machine → Option Machine
processor_of Processor m = Some m
processor_of _ m = None

abbrev pub source_of : NodeState → Role → Option NodeState
source_of n (Source over rest) = Some n
source_of n _ = None

abbrev pub sink_of : NodeState → Role → Option NodeState
sink_of n (Sink kept) = Some n
sink_of n _ = None

-- the messages of a source lie in its bytes, and those that are not over from this place on
pub record IsSourceWithin (bytes lengths : List ℕ) (done start : ℕ) : Type 0 where
  pub all : sum lengths ≤ length bytes
  pub few : done ≤ length lengths
  pub within : start + sum (drop done lengths) ≤ length bytes

-- the messages that a sink has kept are its first `kept` bytes, and the first lengths, one a message, are theirs;
-- there is room for as many lengths as for bytes
pub record IsSinkWithin (bytes lengths : List ℕ) (messages kept : ℕ) : Type 0 where
  pub all : sum (take messages lengths) ≡ kept
  pub each : messages ≤ kept
  pub within : kept ≤ length bytes
  pub room : length lengths ≡ length bytes
  pub few : length bytes ≤ largest_capacity
