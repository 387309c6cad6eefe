-- Workers that come from one opening, and their lists by their numbers.
-- Source: own choice.
use Rattle.std.specs.Prelude.{ℕ, ◌≡◌, ◌≢◌, ◌+◌, ◌*◌, ◌-◌, ◌<◌, ◌≤◌, ◌⊎◌, ◌==◌, min, All, List, [], ◌∷◌, length, map}
use Rattle.std.specs.Prelude.{take, drop, Option, Some, None, slice_get, if◌then◌else◌}
use Rattle.tword.specs.Limits.{most_nodes, most_workers}
use Rattle.tplan.specs.declared.plan.End.{End}
use Rattle.tplan.specs.Wires.{far_end}
use Rattle.tnet.specs.Net.{NetState}
use Rattle.tplan.specs.declared.event.Event.{Event}
use Rattle.tplan.specs.declared.event.Note.{Note}
use Rattle.tfree.specs.declared.stamp.OwnEvent.{OwnEvent}
use Rattle.tfree.specs.Lists.{WorkerLog, lists_of}
use Rattle.tfree.specs.Gathered.{IsGathered}
use Rattle.tnet.specs.Sharing.{share}
use Rattle.tfree.specs.Shares.{first_nodes}
use Rattle.tfree.specs.Views.{Share, View}
use Rattle.tfree.specs.Kept.{nodes_after, IsMine}
use Rattle.tfree.specs.Slots.{slot_at}

-- the first node of worker k, for this number of nodes and workers; its nodes end where those of the next one begin
abbrev pub first_of : (nodes workers k : ℕ) → ℕ
first_of nodes workers k = min nodes (k * share nodes workers)

-- how many nodes a worker has
abbrev pub owned_of : (nodes workers k : ℕ) → ℕ
owned_of nodes workers k = first_of nodes workers (k + 1) - first_of nodes workers k

-- the share of the worker with number k
pub record IsShareOf (opened : NetState) (count k : ℕ) (s : Share) : Type 0 where
  pub number : s.number ≡ k
  pub all : s.count ≡ count
  pub net : s.opened ≡ opened
  pub first : s.first ≡ first_of (length opened.nodes) count k
  pub last : s.first + s.owned ≡ first_of (length opened.nodes) count (k + 1)

-- the shares of all workers of an opening: the two ends of each wire have ends of one ring
pub record AreShares (opened : NetState) (o : List Share) : Type 0 where
  pub each : (k : ℕ) (s : Share) → slice_get o k ≡ Some s → IsShareOf opened (length o) k s
  pub some : 0 < length o
  pub few : length o ≤ most_workers
  pub few_nodes : length opened.nodes ≤ most_nodes
  pub rings : (e f : End) (k m : ℕ) (s t : Share) → far_end opened.wires e ≡ Some f → slice_get o k ≡ Some s
      → IsMine s e.node → slice_get o m ≡ Some t → IsMine t f.node
      → slot_at s.ins (e.node - s.first) e.link ≡ slot_at t.outs (f.node - t.first) f.link

-- no two numbers of a list are equal
abbrev pub AreApart : List ℕ → Type 0
AreApart [] = Unit {0}
AreApart (x ∷ xs) = All (λ y. y ≢ x) xs × AreApart xs

-- workers of one opening: each has the share of its number, and no two have one number
pub record AreOf (opened : NetState) (o : List Share) (shares : List Share) : Type 0 where
  pub opening : AreShares opened o
  pub each : All (λ s. slice_get o s.number ≡ Some s) shares
  pub apart : AreApart (map (λ (s : Share). s.number) shares)

-- what workers have of their opening: only what never changes counts
abbrev pub share_of : View → Share
share_of v = v.share

-- these are workers of one opening for `count` workers, all of them or some
abbrev pub AreOfOpening : ℕ → List View → Type 0
AreOfOpening count ws = (opened : NetState) × (o : List Share) × (length o ≡ count) × AreOf opened o (map share_of ws)

-- workers of one opening, or no workers at all. Only their shares count, so whatever keeps these keeps this
abbrev pub ComeFromOneOpen : List View → Type 0
ComeFromOneOpen ws = (map share_of ws ≡ []) ⊎ ((count : ℕ) × AreOfOpening count ws)

-- a worker has done nothing: it has its nodes as they were
pub record HasDoneNothing (v : View) : Type 0 where
  pub nodes : v.nodes ≡ take v.share.owned (drop v.share.first v.share.opened.nodes)
  pub events : v.events ≡ []
  pub told : v.told ≡ []

-- a net was opened for this number of workers: they are all the workers of one opening of it, and have done nothing
pub record IsOpened (opened : NetState) (workers : ℕ) (ws : List View) : Type 0 where
  pub all : length ws ≡ workers
  pub one : AreOf opened (map share_of ws) (map share_of ws)
  pub fresh : All HasDoneNothing ws

-- the worker of a number
abbrev pub worker_of : ℕ → List View → Option View
worker_of n [] = None
worker_of n (w ∷ ws) = if w.share.number == n then Some w else worker_of n ws

-- the events of a worker, if it is there
abbrev pub events_of : Option View → List OwnEvent
events_of None = []
events_of (Some v) = v.events

-- the log of worker k, by its events
abbrev pub log_at : NetState → ℕ → List OwnEvent → WorkerLog
log_at opened k events =
    record { number = k; opened = opened.nodes; left = nodes_after opened.nodes events; events = events }

-- the logs of the first `count` workers, by their numbers
abbrev pub logs_by : NetState → ℕ → (ℕ → List OwnEvent) → List WorkerLog
logs_by opened count events = map (λ k. log_at opened k (events k)) (first_nodes count)

-- what a gathering of workers gives: the merge of all their lists is a run of the packet machine from the opened net to
-- the net given back, with its notes
abbrev pub Gathers : List View → List Event → List Note → NetState → Type 0
Gathers ws events notes net =
    (opened : NetState) × (o : List Share) × AreOf opened o (map share_of ws)
    × IsGathered opened (lists_of (logs_by opened (length o) (λ k. events_of (worker_of k ws)))) events notes net
