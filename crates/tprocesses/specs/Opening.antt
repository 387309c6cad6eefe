-- The process machine before its first step.
-- Source: own choice; silicon boots from a link or a ROM.
use Rattle.std.specs.Prelude.{ℕ, ◌+◌, ◌-◌, ◌*◌, ◌==◌, ◌&&◌, nat_le, nat_lt, pos, Bool, false, List, [], ◌∷◌, length}
use Rattle.std.specs.Prelude.{map, fold, Option, Some, None, slice_get, slice_index, if◌then◌else◌}
use Rattle.std.specs.List.{list_any, count_by}
use Rattle.tword.specs.Words.{most_neg, word_below}
use Rattle.tproc.specs.Machine.{workspace_of, priority_of}
use Rattle.tplan.specs.declared.plan.End.{End}
use Rattle.tplan.specs.declared.plan.Segment.{Segment}
use Rattle.tplan.specs.declared.plan.Process.{Process}
use Rattle.tplan.specs.declared.plan.NodePlan.{NodePlan}
use Rattle.tplan.specs.declared.plan.SourcePlan.{SourcePlan}
use Rattle.tplan.specs.declared.plan.SinkPlan.{SinkPlan}
use Rattle.tplan.specs.declared.plan.Plan.{Plan}
use Rattle.tprocesses.specs.Places.{Place, Root, Image, WordAt, Sending, Standing, Ports, Half, LinkHalf, Unfinished}
use Rattle.tprocesses.specs.Places.{Error, HaltOnError, Life, Successions, Messages, Kept, Population, HasRun}
use Rattle.tprocesses.specs.Places.{FlagChanged}
use Rattle.tprocesses.specs.Values.{Value, Word, Free, Saved, Stand, Absent, Rests, Nobody, Empty, IsWord, IsStand}
use Rattle.tprocesses.specs.Values.{IsHalf, IsLink, IsFlag, IsAmount, IsCount, ArePorts, AreMessages, AreKept}
use Rattle.tprocesses.specs.Standing.{fresh}

-- the byte at an address after a segment was loaded
abbrev pub after_segment : ℕ → ℕ → Segment → ℕ
after_segment address before s =
    if nat_le s.address address && nat_lt address (s.address + length s.bytes)
    then slice_index s.bytes (address - s.address) else before

-- the byte at an address with all segments loaded, later over earlier; where there is none, 0
abbrev pub loaded_byte : NodePlan → ℕ → ℕ
loaded_byte n address = fold (after_segment address) 0 n.image.segments

-- the word at an address is one of these words below the workspace of a process of the image
abbrev pub is_below : NodePlan → List ℕ → ℕ → Bool
is_below n words address =
    list_any (λ q. list_any (λ k. word_below (workspace_of q.wdesc) k == address) words) n.image.processes

-- a cell of a word: two of the three saved words of each process are not known
abbrev pub opened_cell : NodePlan → (address k : ℕ) → Option ℕ
opened_cell n address k = if is_below n (1 ∷ 2 ∷ []) address then None else Some (loaded_byte n (address + k))

-- the word at an address
abbrev pub opened_word : NodePlan → ℕ → Word
opened_word n address =
    record {
      cells = map (opened_cell n address) (0 ∷ 1 ∷ 2 ∷ 3 ∷ []);
      used = if is_below n (1 ∷ 2 ∷ 3 ∷ []) address then Saved else Free;
    }

-- a process of the image
abbrev pub opened_stand : Option Process → Stand
opened_stand (Some q) = Rests (fresh (priority_of q.wdesc) (workspace_of q.wdesc) q.iptr)
opened_stand None = Absent

-- where a process of a node stands: those of its image are there
abbrev pub stand_of : Root → List ℕ → NodePlan → Stand
stand_of (Image k) [] n = opened_stand (slice_get n.image.processes k)
stand_of _ _ n = Absent

-- a process of this priority is in the image
abbrev pub has_priority : ℕ → NodePlan → Bool
has_priority p n = list_any (λ q. priority_of q.wdesc == p) n.image.processes

-- how many processes of the image have a workspace
abbrev pub lives : ℕ → NodePlan → ℕ
lives w n = count_by (λ q. workspace_of q.wdesc == w) n.image.processes

-- something of a node, if the plan has the node
abbrev pub of_node : {A : Type 0} → Plan → ℕ → A → (NodePlan → A) → A
of_node p n otherwise f = elim (slice_get p.nodes n) [ Some plan ↦ f plan | None ↦ otherwise ]

-- the source, or the sink, at an end: they are numbered after the nodes, and have only their link 0
abbrev pub source_at : Plan → End → Option SourcePlan
source_at p e =
    if (e.link == 0) && nat_le (length p.nodes) e.node then slice_get p.sources (e.node - length p.nodes) else None

abbrev pub sink_at : Plan → End → Option SinkPlan
sink_at p e =
    if (e.link == 0) && nat_le (length p.nodes + length p.sources) e.node
    then slice_get p.sinks (e.node - (length p.nodes + length p.sources)) else None

-- the messages of a source
abbrev pub messages_of : Option SourcePlan → List (List ℕ)
messages_of (Some s) = s.messages
messages_of None = []

-- the room of a sink
abbrev pub capacity_of : Option SinkPlan → ℕ
capacity_of (Some s) = s.capacity
capacity_of None = 0

-- what stands at each place before the first step
abbrev pub opening_state : Plan → Place → Value
opening_state p (WordAt n k) =
    IsWord (of_node p n (record { cells = []; used = Free }) (λ plan. opened_word plan (most_neg + 4 * k)))
opening_state p (Sending n k) = IsAmount (pos 0)
opening_state p (Standing x) = IsStand (of_node p x.node Absent (stand_of x.root x.path))
opening_state p (Ports x) = ArePorts []
opening_state p (Half n c side) = IsHalf Nobody
opening_state p (LinkHalf e side) = IsLink Empty
opening_state p (Unfinished e) = IsFlag false
opening_state p (Error n) = IsFlag false
opening_state p (HaltOnError n) = IsFlag false
opening_state p (Life n w) = IsAmount (pos (of_node p n 0 (lives w)))
opening_state p (Successions n w) = IsCount 0
opening_state p (Messages e) = AreMessages (messages_of (source_at p e))
opening_state p (Kept e) = AreKept (capacity_of (sink_at p e)) []
opening_state p (Population n) = IsAmount (pos (of_node p n 0 (λ plan. length plan.image.processes)))
opening_state p (HasRun n q) = IsFlag (of_node p n false (has_priority q))
opening_state p (FlagChanged n) = IsFlag false
