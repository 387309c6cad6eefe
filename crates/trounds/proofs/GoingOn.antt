-- Rounds go on where they stopped.
use Rattle.std.proofs.Common.{◌≡◌, ℕ, zero, suc, ◌+◌, ◌-◌, refl, sym, ap, ◌∙◌, List, [], ◌∷◌, ◌++◌, Bool}
use Rattle.std.proofs.Common.{true, false, Option, Some, None, append_assoc, add-zero, zero-add, arith}
use Rattle.std.specs.Prelude.{length, not, ◌&&◌, ◌||◌, nat_le, nat_lt, if◌then◌else◌}
use Rattle.std.proofs.lemmas.Bool.Decides.{nat_tests}
use Rattle.std.proofs.lemmas.List.{append-nil}
use Rattle.tplan.specs.declared.event.Act.{Act}
use Rattle.tplan.specs.declared.event.Act.TheVariants.{Run, Send, Take}
use Rattle.tplan.specs.declared.event.Event.{Event}
use Rattle.tplan.specs.declared.event.Hold.{Hold}
use Rattle.tplan.specs.declared.event.PacketKind.{PacketKind}
use Rattle.tplan.specs.declared.event.PacketKind.TheVariants as kind
use Rattle.tplan.specs.declared.event.Note.{Note}
use Rattle.tplan.specs.declared.plan.End.{End}
use Rattle.trounds.specs.declared.report.Ending.TheVariants as ending
use Rattle.tnet.specs.Net.{NetState}
use Rattle.tplan.specs.Wires.{end_at, same_end}
use Rattle.tnet.specs.Packets.{after_event}
use Rattle.tnet.specs.Notes.{event_note}
use Rattle.tnet.specs.Quiet.{is_quiet}
use Rattle.trounds.specs.Rounds.{Progress, Rounds, tried_as, try_act, taking, try_packet, each_link, run_some, lay}
use Rattle.trounds.specs.Rounds.{node_round, nodes_round, round, rounds, rounds_from, covers, is_held, same_kind}
use Rattle.trounds.specs.Reports.{report, reported, IsAfterRounds}
use Rattle.trounds.specs.GoingOn.{hold_after, holds_after, joined, IsHalfway, RoundsGoOn}

-- a round is at or after a number, or before one, where both are counted anew
from_later : (a k r : ℕ) → nat_le a (k + r) ≡ nat_le (a - k) r
from_later a k r = grind (arith, nat_tests)

until_later : (b k r : ℕ) → nat_lt (k + r) b ≡ nat_lt r (b - k)
until_later b k r = grind (arith, nat_tests)

covers_later : (h : Hold) (k r : ℕ) (e : End) (j : PacketKind) → covers h (k + r) e j ≡ covers (hold_after k h) r e j
covers_later h k r e j =
    let f : nat_le h.from (k + r) ≡ nat_le (h.from - k) r = from_later h.from k r in
    let u : nat_lt (k + r) h.until ≡ nat_lt r (h.until - k) = until_later h.until k r in
    ap (λ (b : Bool). same_end h.end e && same_kind h.kind j && b && nat_lt (k + r) h.until) f
    ∙ ap (λ (b : Bool). same_end h.end e && same_kind h.kind j && nat_le (h.from - k) r && b) u

held_later : (holds : List Hold) (k r : ℕ) (e : End) (j : PacketKind)
    → is_held holds (k + r) e j ≡ is_held (holds_after k holds) r e j
held_later [] k r e j = refl
held_later (h ∷ hs) k r e j =
    ap (λ (b : Bool). b || is_held hs (k + r) e j) (covers_later h k r e j)
    ∙ ap (λ (b : Bool). covers (hold_after k h) r e j || b) (held_later hs k r e j)

-- one more round, unless the net is quiet
abbrev next : List Hold → (slice m r : ℕ) → Progress → Bool → Rounds
next holds slice m r p b =
    elim b [
      | true ↦ record { ending = ending.Quiet; count = r; progress = p }
      | false ↦ rounds_from holds slice m
          (suc r) (round holds slice r p)
    ]

-- with k rounds, and these events and notes, before
module _ (k : ℕ) (es : List Event) (ns : List Note) where
  abbrev behind : Progress → Progress
  behind p = record { net = p.net; events = es ++ p.events; notes = ns ++ p.notes }

  tried : (e : Event) (p : Progress) (o : Option NetState) → tried_as e (behind p) o ≡ behind (tried_as e p o)
  tried e p None = refl
  tried e p (Some net) =
      rw (append_assoc es p.events (e ∷ []), append_assoc ns p.notes (event_note p.net e)) refl

  acts : (n : ℕ) (act : Act) (q p : Progress) → q ≡ behind p → try_act n act q ≡ behind (try_act n act p)
  acts n act q p h =
      ap (try_act n act) h
      ∙ tried (record { node = n; act = act }) p (after_event p.net (record { node = n; act = act }))

  either : (b c : Bool) (q q' p p' : Progress) → b ≡ c → q ≡ behind p → q' ≡ behind p'
      → (if b then q else q') ≡ behind (if c then p else p')
  either true true q q' p p' e h i = h
  either true false q q' p p' e h i = cc
  either false true q q' p p' e h i = cc
  either false false q q' p p' e h i = i

  packets : (before : NetState) (holds : List Hold) (r n : ℕ) (j : PacketKind) (l : ℕ) (q p : Progress) → q ≡ behind p
      → try_packet before holds (k + r) n j l q ≡ behind (try_packet before (holds_after k holds) r n j l p)
  packets before holds r n j l q p h =
      either _ _ _ q _ p
      (ap (λ (b : Bool). lay before (end_at n l) j && not b) (held_later holds k r (end_at n l) j))
      (acts n (taking j l) q p h) h

  on_links : (f g : ℕ → Progress → Progress) (q p : Progress)
      → ((l : ℕ) (q p : Progress) → q ≡ behind p → f l q ≡ behind (g l p)) → q ≡ behind p
      → each_link f q ≡ behind (each_link g p)
  on_links f g q p h d = h 3 _ _ (h 2 _ _ (h 1 _ _ (h 0 q p d)))

  runs_some : (m n : ℕ) (q p : Progress) → q ≡ behind p → run_some m n q ≡ behind (run_some m n p)
  runs_some zero n q p h = h
  runs_some (suc m) n q p h = runs_some m n _ _ (acts n Run q p h)

  in_node : (before : NetState) (holds : List Hold) (slice r n : ℕ) (q p : Progress) → q ≡ behind p
      → node_round before holds slice (k + r) n q ≡ behind (node_round before (holds_after k holds) slice r n p)
  in_node before holds slice r n q p h =
      on_links (λ l q. try_act n (Send l) q) (λ l q. try_act n (Send l) q) _ _ (λ l q p i. acts n (Send l) q p i)
      (runs_some slice n _ _
      (on_links (λ l q. try_act n (Take l) q) (λ l q. try_act n (Take l) q) _ _ (λ l q p i. acts n (Take l) q p i)
      (on_links
      (λ l q. try_packet before holds (k + r) n kind.Data l (try_packet before holds (k + r) n kind.Ack l q))
      (λ l q. try_packet before (holds_after k holds) r n kind.Data l
      (try_packet before (holds_after k holds) r n kind.Ack l q)) q p
      (λ l q p i. packets before holds r n kind.Data l _ _ (packets before holds r n kind.Ack l q p i)) h)))

  in_nodes : (before : NetState) (holds : List Hold) (slice r n m : ℕ) (q p : Progress) → q ≡ behind p
      → nodes_round before holds slice (k + r) n m q ≡ behind (nodes_round before (holds_after k holds) slice r n m p)
  in_nodes before holds slice r n zero q p h = h
  in_nodes before holds slice r n (suc m) q p h =
      in_nodes before holds slice r (suc n) m _ _ (in_node before holds slice r n q p h)

  one_round : (holds : List Hold) (slice r : ℕ) (p : Progress)
      → round holds slice (k + r) (behind p) ≡ behind (round (holds_after k holds) slice r p)
  one_round holds slice r p = in_nodes p.net holds slice r 0 (length p.net.nodes) (behind p) p refl

  abbrev later : Rounds → Rounds
  later o = record { ending = o.ending; count = k + o.count; progress = behind o.progress }

  either_way : (holds : List Hold) (slice m r : ℕ) (p : Progress) (b : Bool)
      → rounds_from holds slice m (suc (k + r)) (round holds slice (k + r) (behind p))
      ≡ later (rounds_from (holds_after k holds) slice m (suc r) (round (holds_after k holds) slice r p))
      → next holds slice m (k + r) (behind p) b ≡ later (next (holds_after k holds) slice m r p b)
  either_way holds slice m r p true h = refl
  either_way holds slice m r p false h = h

  -- the rounds from there on are those of holds that are counted anew
  from_there : (holds : List Hold) (slice m r : ℕ) (q p : Progress) → q ≡ behind p
      → rounds_from holds slice m (k + r) q ≡ later (rounds_from (holds_after k holds) slice m r p)
  from_there holds slice zero r q p h = ap (λ (x : Progress). rounds_from holds slice 0 (k + r) x) h
  from_there holds slice (suc m) r q p h =
      let e : suc (k + r) ≡ k + suc r = omega arith in
      ap (λ (x : Progress). rounds_from holds slice (suc m) (k + r) x) h
      ∙ either_way holds slice m r p (is_quiet p.net)
      (ap (λ (i : ℕ). rounds_from holds slice m i (round holds slice (k + r) (behind p))) e
      ∙ from_there holds slice m (suc r) _ _ (one_round holds slice r p))

-- a quiet net stays as it is
quiet_stays : (holds : List Hold) (slice m r : ℕ) (p : Progress) → is_quiet p.net ≡ true
    → rounds_from holds slice m r p ≡ record { ending = ending.Quiet; count = r; progress = p }
quiet_stays holds slice zero r p h = rw h refl
quiet_stays holds slice (suc m) r p h = ap (next holds slice m r p) h

-- some rounds and then more, with the round numbers going on
in_one_go : (holds : List Hold) (slice some more r : ℕ) (p : Progress)
    → rounds_from holds slice (some + more) r p
    ≡ rounds_from holds slice more (rounds_from holds slice some r p).count (rounds_from holds slice some r p).progress
in_one_go holds slice zero more r p = ap (λ (n : ℕ). rounds_from holds slice n r p) (zero-add more)
in_one_go holds slice (suc some) more r p =
    let e : suc some + more ≡ suc (some + more) = omega arith in
    ap (λ (n : ℕ). rounds_from holds slice n r p) e
    ∙ by (is_quiet p.net) refl (in_one_go holds slice some more (suc r) (round holds slice r p))
  where
    by : (b : Bool) → is_quiet p.net ≡ b
        → rounds_from holds slice (some + more) (suc r) (round holds slice r p)
        ≡ rounds_from holds slice more (rounds_from holds slice some (suc r) (round holds slice r p)).count
        (rounds_from holds slice some (suc r) (round holds slice r p)).progress
        → next holds slice (some + more) r p b
        ≡ rounds_from holds slice more (next holds slice some r p b).count (next holds slice some r p b).progress
    by true h k = sym (quiet_stays holds slice more r p h)
    by false h k = k

-- the outcome of some rounds, and of more from its net
go_on : (holds : List Hold) (slice more : ℕ) (o : Rounds)
    → rounds_from holds slice more o.count o.progress
    ≡ later o.count o.progress.events o.progress.notes (rounds (holds_after o.count holds) slice more o.progress.net)
go_on holds slice more o =
    let p : Progress = record { net = o.progress.net; events = []; notes = [] } in
    let e : o.progress ≡ behind o.count o.progress.events o.progress.notes p =
    rw (append-nil o.progress.events, append-nil o.progress.notes) refl in
    ap (λ (i : ℕ). rounds_from holds slice more i o.progress) (sym (add-zero o.count))
    ∙ from_there o.count o.progress.events o.progress.notes holds slice more 0 o.progress p e

-- the law
pub rounds_go_on : RoundsGoOn
rounds_go_on holds slice some more net =
    ap reported
    (in_one_go holds slice some more 0 (record { net = net; events = []; notes = [] })
    ∙ go_on holds slice more (rounds holds slice some net))

-- a net after some whole rounds is halfway to the whole report
pub halfway : (holds : List Hold) (slice most : ℕ) (net net' : NetState) → IsAfterRounds holds slice most net net'
    → IsHalfway holds slice most net net'
halfway holds slice most net net' (some, few, left) =
    let e : some + (most - some) ≡ most = omega arith in
    let o : Rounds = rounds holds slice some net in
    record {
      some = some;
      few = few;
      left = left;
      whole = ap (λ (n : ℕ). report holds slice n net) (sym e)
          ∙ (rounds_go_on holds slice some (most - some) net
          ∙ ap
          (λ (n : NetState). joined (reported o) (report (holds_after o.count holds) slice (most - some) n))
          (sym left));
    }
