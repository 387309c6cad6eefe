-- What a node may answer to each kind of event: what it emits, what it tells, and at which links the message that the
-- next byte completes stays.
use Rattle.std.proofs.Common.{◌≡◌, ◌≢◌, ℕ, refl, ap, ◌∙◌, List, set, Bool, true, false, Result, Ok, Err, Option}
use Rattle.std.proofs.Common.{Some, None, ◌⊎◌, inl, inr}
use Rattle.std.specs.Prelude.{⊤, slice_index_or, ◌+◌, ◌&&◌, ◌==◌, not, if◌then◌else◌, is_none, IsSome, IfSome}
use Rattle.std.proofs.lemmas.List.{get_or-set_other}
use Rattle.std.proofs.lemmas.Option.{same_Some}
use Rattle.tword.specs.declared.breaks.Break.{Break}
use Rattle.tproc.specs.declared.offer.Offer.{Offer}
use Rattle.tproc.specs.declared.ran.Ran.{Ran}
use Rattle.tproc.specs.declared.ran.Ran.TheVariants as ran
use Rattle.tproc.specs.declared.waiter.LinkEnd.{LinkEnd}
use Rattle.tproc.specs.Machine.{Machine}
use Rattle.tproc.specs.Steps.{step}
use Rattle.tproc.specs.Links.{notice}
use Rattle.tproc.specs.LinkChannels.{link_end, quiet_end}
use Rattle.tproc.proofs.Noticing.{notice-links}
use Rattle.tproc.proofs.Resting.{halting_halts}
use Rattle.tlink.specs.declared.counts.Arrival.{Arrival}
use Rattle.tlink.specs.declared.counts.Counts.{Counts}
use Rattle.tlink.specs.declared.event.NodeEvent.{NodeEvent}
use Rattle.tlink.specs.declared.event.NodeEvent.TheVariants.{Run, Send, Data, Take, Ack}
use Rattle.tlink.specs.declared.event.Emitted.{Emitted}
use Rattle.tlink.specs.declared.event.StepFault.{StepFault}
use Rattle.tlink.specs.declared.event.Mark.{Mark}
use Rattle.tlink.specs.declared.event.Mark.TheVariants.{Nothing, Halted, Completed}
use Rattle.tlink.specs.declared.event.StepFault.TheVariants.{NotEnabled, Frozen}
use Rattle.tlink.specs.Node.{NodeState, no_counts, counts_at, with_counts, with_machine, output_at, input_at}
use Rattle.tlink.specs.Node.{due_at, is_wired, frozen}
use Rattle.tlink.specs.Roles.{Role, Processor, Source, Sink, receives, has_room, is_full, role_woken, woken}
use Rattle.tlink.specs.Roles.{role_filled, filled, due}
use Rattle.tlink.proofs.Held.{woken-links, filled-links}
use Rattle.tlink.specs.Events.{Answer, happens, unless_frozen, after_run, after_take, after_ack}
use Rattle.tlink.specs.Events.{take_marked, stored, noticed_by, silently, ended, node_left_by, node_answered}
use Rattle.tplan.specs.declared.event.Act.{Act}
use Rattle.tplan.specs.declared.event.Act.TheVariants as act
use Rattle.tplan.specs.declared.plan.End.{End}
use Rattle.tnet.specs.declared.inbox.Inbox.{Inbox}
use Rattle.tnet.specs.declared.station.Done.{Done}
use Rattle.tplan.specs.Wires.{end_at}
use Rattle.tnet.specs.Stations.{box_at, with_carried, asked, emptied, input_of, input_bytes, message_note, mark_note}
use Rattle.tnet.specs.Stations.{answer_note, note_of, answer_done, done_of}
use Rattle.tnet.specs.Answers.{KeepsInput}
use Rattle.tnet.proofs.Places.{part_kept}

-- what the next byte at a link completes stays
abbrev pub SameDue : NodeState → NodeState → Type 0
SameDue a b = (k : ℕ) → due_at b k ≡ due_at a k

-- an event that brings a packet: nothing is emitted, told or frozen, and what the next bytes complete stays
abbrev pub Brings : NodeState → Answer → Type 0
Brings n (Ok (n', e)) = (e.packet ≡ None) × (e.mark ≡ Nothing) × SameDue n n'
Brings n (Err NotEnabled) = ⊤
Brings n (Err (Frozen b)) = ⊥

-- an event that takes a byte: it may complete the message of its link, and what the next bytes at the others complete
-- stays
abbrev pub Takes : ℕ → NodeState → Answer → Type 0
Takes l n (Ok (n', e)) = ((e.mark ≡ Nothing) ⊎ ((e.mark ≡ Completed l) × IsSome (input_at n l)))
    × ((k : ℕ) → k ≢ l → due_at n' k ≡ due_at n k)
Takes l n (Err f) = ⊤

-- a run: nothing is emitted, and after one that halts there is none
abbrev pub Runs : Answer → Type 0
Runs (Ok (n', e)) = (e.packet ≡ None) × ((e.mark ≡ Nothing) ⊎ ((e.mark ≡ Halted) × (happens Run n' ≡ Err NotEnabled)))
Runs (Err f) = ⊤

-- the inputs after a link was set
link_inputs : (m m' : Machine) (l : ℕ) (e : LinkEnd) → m'.control.links ≡ set m.control.links l e
    → e.input ≡ (link_end m.control l).input → (k : ℕ) → (link_end m'.control k).input ≡ (link_end m.control k).input
link_inputs m m' l e h same k =
    ap (λ (ls : List LinkEnd). (slice_index_or ls k quiet_end).input) h
    ∙ part_kept (λ (x : LinkEnd). x.input) m.control.links l k e quiet_end same

other_inputs : (m m' : Machine) (l : ℕ) (e : LinkEnd) → m'.control.links ≡ set m.control.links l e → (k : ℕ) → k ≢ l
    → (link_end m'.control k).input ≡ (link_end m.control k).input
other_inputs m m' l e h k d = ap (λ (ls : List LinkEnd). (slice_index_or ls k quiet_end).input) h
    ∙ ap (λ (x : LinkEnd). x.input) (get_or-set_other m.control.links l k e quiet_end d)

-- what is due, by what is pending and was got
due_by : (role : Role) (c c' : Counts) (o o' : Option Offer) → c'.got ≡ c.got → o' ≡ o → due role c' o' ≡ due role c o
due_by Processor c c' o o' got same = same
due_by (Source done rest) c c' o o' got same = same
due_by (Sink kept) c c' o None got same = rw (← same) refl
due_by (Sink kept) c c' o (Some inp) got same = rw (← same, got) refl

due_woken : (role : Role) (c : Counts) (o : Option Offer) → due (role_woken role) c o ≡ due role c o
due_woken Processor c o = refl
due_woken (Source done rest) c o = refl
due_woken (Sink kept) c o = refl

due_filled : (role : Role) (k : ℕ) (c : Counts) (o : Option Offer) → due (role_filled k role) c o ≡ due role c o
due_filled Processor k c o = refl
due_filled (Source done rest) k c o = refl
due_filled (Sink kept) k c None = refl
due_filled (Sink kept) k c (Some inp) = refl

-- what was got at the links after the counts of one were set
got_kept : (n : NodeState) (l k : ℕ) (c : Counts) → c.got ≡ (counts_at n l).got
    → (slice_index_or (set n.counts l c) k no_counts).got ≡ (counts_at n k).got
got_kept n l k c same = part_kept (λ (x : Counts). x.got) n.counts l k c no_counts same

got_else : (n : NodeState) (l k : ℕ) (c : Counts) → k ≢ l
    → (slice_index_or (set n.counts l c) k no_counts).got ≡ (counts_at n k).got
got_else n l k c d = ap (λ (x : Counts). x.got) (get_or-set_other n.counts l k c no_counts d)

noticed-due : (l : ℕ) (o : Option Offer) (n : NodeState) (c : Counts) → c.got ≡ (counts_at n l).got
    → SameDue n (noticed_by l o (with_counts l c n))
noticed-due l None n c same = λ k.
    due_by n.role (counts_at n k) _ (input_at n k) _ (got_kept n l k c same)
    (link_inputs n.machine (notice l n.machine) l _ (notice-links l n.machine) refl k)
noticed-due l (Some o) n c same = λ k.
    due_by n.role (counts_at n k) _ (input_at n k) (input_at n k) (got_kept n l k c same) refl

unless_brings : (n : NodeState) (b : Option Break) (a : Answer) → Brings n a → Brings n (unless_frozen b a)
unless_brings n None a h = h
unless_brings n (Some b) a h = tt

data_by : (l : ℕ) (o : Option Offer) (c : Counts) (n : NodeState) (t : Bool) → c.got ≡ (counts_at n l).got
    → Brings n (if t then silently Nothing (noticed_by l o (with_counts l c n)) else Err NotEnabled)
data_by l o c n true same = (refl, refl, noticed-due l o n c same)
data_by l o c n false same = tt

-- Data
pub data_brings : (l byte : ℕ) (last : Bool) (n : NodeState) → Brings n (happens (Data l byte last) n)
unfolding happens
data_brings l byte last n =
    unless_brings n n.broken _
    (data_by l (input_at n l) _ n (receives n.role && is_wired n l && is_none (counts_at n l).arrived) refl)

ack_by : (l : ℕ) (c : Counts) (o : Offer) (n : NodeState) (a b : Bool) → c.got ≡ (counts_at n l).got
    → Brings n (if a then Err NotEnabled else if b then silently Nothing (ended l c n) else silently Nothing
    (with_counts l (record c { acked = c.acked + 1 }) n))
ack_by l c o n true b same = tt
ack_by l c o n false true same = (
  refl,
  refl,
  (λ k. due_woken n.role _ _
      ∙ due_by n.role (counts_at n k) _ (input_at n k) _
      (got_kept n l k (record c { sent = 0; acked = 0 }) same)
      (link_inputs n.machine (woken n.role l n.machine) l _ (woken-links n.role l n.machine) refl k)),
)
ack_by l c o n false false same = (
  refl,
  refl,
  (λ k. due_by n.role (counts_at n k) _ (input_at n k) (input_at n k)
      (got_kept n l k (record c { acked = c.acked + 1 }) same) refl),
)

ack_of : (l : ℕ) (o : Option Offer) (c : Counts) (n : NodeState) → c.got ≡ (counts_at n l).got
    → Brings n (after_ack l o c n)
ack_of l None c n same = tt
ack_of l (Some o) c n same = ack_by l c o n (not (c.sent == c.acked + 1)) (c.acked + 1 == o.length) same

-- Ack
pub ack_brings : (l : ℕ) (n : NodeState) → Brings n (happens (Ack l) n)
unfolding happens
ack_brings l n = unless_brings n n.broken _ (ack_of l (output_at n l) (counts_at n l) n refl)

unless_takes : (l : ℕ) (n : NodeState) (b : Option Break) (a : Answer) → Takes l n a → Takes l n (unless_frozen b a)
unless_takes l n None a h = h
unless_takes l n (Some b) a h = tt

take_by : (l : ℕ) (n : NodeState) (marked full : Bool) (byte : ℕ) (o : Offer) (c : Counts) → input_at n l ≡ Some o
    → Takes l n (take_marked l marked full byte o c n)
take_by l n true true byte o c h = (
  inr (refl, rw h refl),
  (λ k d. due_filled n.role (c.got + 1) _ _
      ∙ due_by n.role (counts_at n k) _ (input_at n k) _ (got_else n l k (record c { got = 0; arrived = None }) d)
      (other_inputs (stored (o.buffer + c.got) byte n).machine
      (filled n.role l (c.got + 1) (stored (o.buffer + c.got) byte n).machine) l _
      (filled-links n.role l (c.got + 1) (stored (o.buffer + c.got) byte n).machine) k d)),
)
take_by l n false false byte o c h = (
  inl refl,
  (λ k d. due_by n.role (counts_at n k) _ (input_at n k) (input_at n k)
      (got_else n l k (record c { got = c.got + 1; arrived = None }) d) refl),
)
take_by l n true false byte o c h = tt
take_by l n false true byte o c h = tt

take_room : (l : ℕ) (n : NodeState) (room : Bool) (a : Arrival) (o : Offer) (c : Counts) → input_at n l ≡ Some o
    → Takes l n (if room then take_marked l a.last (is_full n.role a o c) a.byte o c n else Err NotEnabled)
take_room l n true a o c h = take_by l n a.last (is_full n.role a o c) a.byte o c h
take_room l n false a o c h = tt

take_of : (l : ℕ) (a : Option Arrival) (o : Option Offer) (c : Counts) (n : NodeState) → input_at n l ≡ o
    → Takes l n (after_take l a o c n)
take_of l None o c n h = tt
take_of l (Some a) None c n h = tt
take_of l (Some a) (Some o) c n h = take_room l n (has_room n.role o c) a o c h

-- Take
pub take_takes : (l : ℕ) (n : NodeState) → Takes l n (happens (Take l) n)
unfolding happens
take_takes l n = unless_takes l n n.broken _ (take_of l (counts_at n l).arrived (input_at n l) (counts_at n l) n refl)

-- a processor that has halted has no step
halted-step : (m : Machine) → m.control.halted ≡ true → step m ≡ Ok (m, ran.Halted)
unfolding step
halted-step m h = rw h refl

not_enabled : (b : Option Break) (a : Answer) → a ≡ Err NotEnabled → unless_frozen b a ≡ Err NotEnabled
not_enabled None a h = h
not_enabled (Some b) a h = refl

stopped : (m : Machine) (n : NodeState) → m.control.halted ≡ true → happens Run (with_machine m n) ≡ Err NotEnabled
unfolding happens
stopped m n h = not_enabled n.broken (after_run (with_machine m n) (step m))
    (ap (after_run (with_machine m n)) (halted-step m h))

unless_runs : (b : Option Break) (a : Answer) → Runs a → Runs (unless_frozen b a)
unless_runs None a h = h
unless_runs (Some b) a h = tt

run_of : (n : NodeState) (r : Result (Machine × Ran) Break) → step n.machine ≡ r → Runs (after_run n r)
run_of n (Ok (m, ran.Idle)) h = tt
run_of n (Ok (m, ran.Halted)) h = tt
run_of n (Ok (m, ran.Halting)) h = (refl, inr (refl, stopped m n (halting_halts n.machine m h)))
run_of n (Ok (m, ran.Instruction)) h = (refl, inl refl)
run_of n (Ok (m, ran.Dispatch)) h = (refl, inl refl)
run_of n (Ok (m, ran.LinkOut l)) h = (refl, inl refl)
run_of n (Ok (m, ran.LinkIn l)) h = (refl, inl refl)
run_of n (Err b) h = tt

-- Run
pub run_runs : (n : NodeState) → Runs (happens Run n)
unfolding happens
run_runs n = unless_runs n.broken _ (run_of n (step n.machine) refl)

-- a frozen node does nothing
pub frozen-stops : (e : NodeEvent) (b : Break) (n : NodeState) → happens e (frozen b n) ≡ Err NotEnabled
unfolding happens
frozen-stops e b n = refl

-- what was not enabled leaves the node
pub not_done : (n : ℕ) (far : ℕ → Option End) (e : NodeEvent) (node : NodeState) → done_of n far e node ≡ None
    → node_left_by node (happens e node) ≡ node
not_done n far e node h = by (happens e node) refl
  where
    by : (a : Answer) → happens e node ≡ a → node_left_by node (happens e node) ≡ node
    by (Ok (node', x)) is = let q = rw is at h in cc
    by (Err NotEnabled) is = rw is refl
    by (Err (Frozen b)) is = let q = rw is at h in cc

-- an event that takes a packet freezes no node: where one freezes, what lies at the links stands
pub frozen_takes_none : (a : Act) (boxes : List Inbox) (e : NodeEvent) (node : NodeState) (b : Break)
    → asked a boxes ≡ Some e → happens e node ≡ Err (Frozen b) → emptied a boxes ≡ boxes
frozen_takes_none act.Run boxes e node b is h = refl
frozen_takes_none (act.Send l) boxes e node b is h = refl
frozen_takes_none (act.Take l) boxes e node b is h = refl
frozen_takes_none (act.Data l) boxes e node b is h = by (box_at boxes l).carried is
  where
    by : (o : Option Arrival) → with_carried l o ≡ Some e → emptied (act.Data l) boxes ≡ boxes
    by None q = cc
    by (Some x) q = absurd (rw h at (rw (same_Some _ _ q) at (data_brings l x.byte x.last node)))
frozen_takes_none (act.Ack l) boxes e node b is h = by (box_at boxes l).acknowledged is
  where
    by : (t : Bool) → (if t then Some (Ack l) else None) ≡ Some e → emptied (act.Ack l) boxes ≡ boxes
    by false q = cc
    by true q = absurd (rw h at (rw (same_Some _ _ q) at (ack_brings l node)))

-- the far ends are looked up one by one
pub answer_by_far : (n : ℕ) (f g : ℕ → Option End) (input : Option Offer) (r : Result Emitted StepFault)
    (node : NodeState) → ((l : ℕ) → f l ≡ g l)
    → answer_note n f input r node ≡ answer_note n g input r node
answer_by_far n f g input (Ok x) node h = by x.mark
  where
    by : (m : Mark) → mark_note n f input m node ≡ mark_note n g input m node
    by Nothing = refl
    by Halted = refl
    by (Completed l) = ap (λ (o : Option End). message_note o (end_at n l) (input_bytes input node)) (h l)
answer_by_far n f g input (Err NotEnabled) node h = refl
answer_by_far n f g input (Err (Frozen b)) node h = refl

pub note_by_far : (n : ℕ) (f g : ℕ → Option End) (e : NodeEvent) (node : NodeState) → ((l : ℕ) → f l ≡ g l)
    → note_of n f e node ≡ note_of n g e node
note_by_far n f g e node h =
    answer_by_far n f g (input_of e node) (node_answered (happens e node)) (node_left_by node (happens e node)) h

-- a run emits nothing
pub run_emits_none : (n : ℕ) (far : ℕ → Option End) (node : NodeState)
    → IfSome (done_of n far Run node) (λ (d : Done). d.packet ≡ None)
run_emits_none n far node = by (happens Run node) (run_runs node)
  where
    by : (a : Answer) → Runs a
        → IfSome (answer_done (node_answered a) (note_of n far Run node)) (λ (d : Done). d.packet ≡ None)
    by (Ok (m, x)) h = h.0
    by (Err NotEnabled) h = tt
    by (Err (Frozen b)) h = refl

brought_stand : (node : NodeState) (l : ℕ) (a : Answer) → Brings node a
    → due_at (node_left_by node a) l ≡ due_at node l
brought_stand node l (Ok (n', x)) h = h.2 l
brought_stand node l (Err NotEnabled) h = refl
brought_stand node l (Err (Frozen b)) h = refl

-- what the next byte at a link completes stands
pub due_stands : (a : Act) (boxes : List Inbox) (e : NodeEvent) (node : NodeState) (l : ℕ) → asked a boxes ≡ Some e
    → KeepsInput a l → due_at (node_left_by node (happens e node)) l ≡ due_at node l
due_stands act.Run boxes e node l is k = absurd k
due_stands (act.Send m) boxes e node l is k = absurd k
due_stands (act.Take m) boxes e node l is k =
    let q : Take m ≡ e = same_Some _ _ is in
    rw (← q) (by (happens (Take m) node) (take_takes m node))
  where
    by : (a : Answer) → Takes m node a → due_at (node_left_by node a) l ≡ due_at node l
    by (Ok (n', x)) h = h.1 l k
    by (Err NotEnabled) h = refl
    by (Err (Frozen b)) h = refl
due_stands (act.Data m) boxes e node l is k = by (box_at boxes m).carried is
  where
    by : (o : Option Arrival) → with_carried m o ≡ Some e
        → due_at (node_left_by node (happens e node)) l ≡ due_at node l
    by None q = cc
    by (Some x) q = let f : Data m x.byte x.last ≡ e = same_Some _ _ q in
        rw (← f) (brought_stand node l (happens (Data m x.byte x.last) node) (data_brings m x.byte x.last node))
due_stands (act.Ack m) boxes e node l is k = by (box_at boxes m).acknowledged is
  where
    by : (t : Bool) → (if t then Some (Ack m) else None) ≡ Some e
        → due_at (node_left_by node (happens e node)) l ≡ due_at node l
    by false q = cc
    by true q = let f : Ack m ≡ e = same_Some _ _ q in
        rw (← f) (brought_stand node l (happens (Ack m) node) (ack_brings m node))
