-- What is not refused is not refused when rounds go on.
use Rattle.std.proofs.Common.{◌≡◌, ℕ, ◌-◌, ◌≤◌, ◌<◌, refl, sym, ap, ◌∙◌, List, [], ◌∷◌, Bool, All}
use Rattle.std.proofs.Common.{true, false, Option, Some, None, get_or, arith}
use Rattle.std.specs.Prelude.{length, not, nat_le, nat_lt, position, is_some, if◌then◌else◌}
use Rattle.std.proofs.lemmas.Bool.{ltb-false, not-false, and_parts}
use Rattle.std.proofs.lemmas.Bool.Decides.{nat_tests}
use Rattle.std.proofs.lemmas.List.{length-map}
use Rattle.std.proofs.lemmas.List.Quantifiers.{position-Some}
use Rattle.std.proofs.lemmas.List.Elements.{All-nil, All-cons, All-head, All-tail}
use Rattle.tplan.specs.declared.event.Event.{Event}
use Rattle.tplan.specs.declared.event.Hold.{Hold}
use Rattle.tplan.specs.declared.event.PacketKind.TheVariants as kind
use Rattle.trounds.specs.declared.report.NetFault.TheVariants.{BadWorkers, BadHold}
use Rattle.tnet.specs.Net.{NetState}
use Rattle.tplan.specs.Wires.{far_end}
use Rattle.tnet.specs.Packets.{after_event, after_events, then_after}
use Rattle.tnet.proofs.DoneEvents.{done}
use Rattle.tnet.proofs.OpenedPlans.{no_position, mapped-none}
use Rattle.tword.specs.Limits.{most_holds}
use Rattle.trounds.specs.Rounds.{rounds, is_good_hold, bad_hold}
use Rattle.tnet.specs.Sharing.{is_bad_count}
use Rattle.trounds.specs.GoingOn.{hold_after, holds_after, GoingOnIsNotRefused}
use Rattle.trounds.proofs.RoundsRun.{rounds_are_run}

-- no place passes a test that none passes
position_none : {X : Type 0} (test : X → Bool) (xs : List X) → All (λ x. test x ≡ false) xs → position test xs ≡ None
position_none test [] h = refl
position_none test (x ∷ xs) h = by (position test (x ∷ xs)) refl
  where
    by : (o : Option ℕ) → position test (x ∷ xs) ≡ o → o ≡ None
    by None e = refl
    by (Some i) e =
        let s = position-Some test (x ∷ xs) i x e in
        let f : test (get_or (x ∷ xs) i x) ≡ false = h i x s.0 in
        let z : true ≡ false = sym s.1 ∙ f in
        cc

-- what is not refused has tests that all pass
cond_none : {A : Type 0} (b : Bool) (x : A) → (if b then Some x else None) ≡ None → b ≡ false
cond_none false x h = refl
cond_none true x h = cc

when_none : {A : Type 0} (b : Bool) (x : A) (o : Option A) → (if b then Some x else o) ≡ None → (b ≡ false) × (o ≡ None)
when_none false x o h = (refl, h)
when_none true x o h = cc

-- which of the bad holds is told
abbrev chosen : ℕ → Option ℕ → Option ℕ
chosen n None = if nat_lt most_holds n then Some most_holds else None
chosen n (Some k) =
    if nat_lt k most_holds then Some k else (if nat_lt most_holds n then Some most_holds else None)

-- no hold is bad
record AreGood (net : NetState) (holds : List Hold) : Type 0 where
  good : All (λ h. not (is_good_hold net h) ≡ false) holds
  few : nat_lt most_holds (length holds) ≡ false

are_good : (net : NetState) (holds : List Hold) → bad_hold net holds ≡ None → AreGood net holds
are_good net holds h = by (position (λ h. not (is_good_hold net h)) holds) refl h
  where
    by : (o : Option ℕ) → position (λ h. not (is_good_hold net h)) holds ≡ o → chosen (length holds) o ≡ None
        → AreGood net holds
    by None e h =
        record { good = no_position (λ h. not (is_good_hold net h)) holds e; few = cond_none _ most_holds h }
    by (Some i) e h =
        let none = when_none (nat_lt i most_holds) i _ h in
        let few : nat_lt most_holds (length holds) ≡ false = cond_none _ most_holds none.1 in
        let none_such : Hold = record {
          «end» = record { node = 0; link = 0 };
          kind = kind.Data;
          from = 0;
          until = 0;
        } in
        let within : i < length holds =
        (position-Some (λ h. not (is_good_hold net h)) holds i none_such e).0 in
        let above : most_holds ≤ i = ltb-false i most_holds none.0 in
        let below : length holds ≤ most_holds = ltb-false most_holds (length holds) few in
        absurd (omega arith)

not_bad : (net : NetState) (holds : List Hold) → AreGood net holds → bad_hold net holds ≡ None
not_bad net holds g = by (position (λ h. not (is_good_hold net h)) holds)
    (position_none (λ h. not (is_good_hold net h)) holds g.good)
  where
    by : (o : Option ℕ) → o ≡ None → chosen (length holds) o ≡ None
    by None e = rw g.few refl
    by (Some i) e = cc

still_before : (a b k : ℕ) → nat_le a b ≡ true → nat_le (a - k) (b - k) ≡ true
still_before a b k h = grind (arith, nat_tests)

stays_good : (k : ℕ) (net net' : NetState) (h : Hold) → net'.wires ≡ net.wires → not (is_good_hold net h) ≡ false
    → not (is_good_hold net' (hold_after k h)) ≡ false
stays_good k net net' h w e =
    let g = and_parts _ _ (not-false (is_good_hold net h) e) in
    let wired : is_some (far_end net.wires h.end) ≡ true = g.0 in
    let u : nat_le (h.from - k) (h.until - k) ≡ true = still_before h.from h.until k g.1 in
    rw (w, wired, u) refl

stay_good : (k : ℕ) (net net' : NetState) (holds : List Hold) → net'.wires ≡ net.wires
    → All (λ h. not (is_good_hold net h) ≡ false) holds
    → All (λ h. not (is_good_hold net' h) ≡ false) (holds_after k holds)
stay_good k net net' [] w g = All-nil (λ h. not (is_good_hold net' h) ≡ false)
stay_good k net net' (h ∷ hs) w g =
    All-cons (λ h. not (is_good_hold net' h) ≡ false) (hold_after k h) (holds_after k hs)
    (stays_good k net net' h w (All-head (λ h. not (is_good_hold net h) ≡ false) h hs g))
    (stay_good k net net' hs w (All-tail (λ h. not (is_good_hold net h) ≡ false) h hs g))

-- events leave the wires as they are
kept_wires : (es : List Event) (net net' : NetState) → after_events es net ≡ Some net' → net'.wires ≡ net.wires
kept_wires [] net net' h = let e : net ≡ net' = cc in ap (λ (n : NetState). n.wires) (sym e)
kept_wires (e ∷ es) net net' h = by (after_event net e) refl (λ n. kept_wires es n net') h
  where
    by : (o : Option NetState) → after_event net e ≡ o
        → ((n : NetState) → after_events es n ≡ Some net' → net'.wires ≡ n.wires)
        → then_after (after_events es) o ≡ Some net' → net'.wires ≡ net.wires
    by None is rest h = cc
    by (Some n) is rest h = rest n h ∙ (done net n e.node e.act is).wires

-- holds that are not refused are not refused when the rounds go on
pub not_refused : GoingOnIsNotRefused
not_refused holds slice some workers net h =
    let bad = when_none (is_bad_count workers) BadWorkers _ h in
    let g = are_good net holds (mapped-none BadHold (bad_hold net holds) bad.1) in
    let o = rounds holds slice some net in
    let w = kept_wires o.progress.events net o.progress.net (rounds_are_run holds slice some net).0 in
    let same : length (holds_after o.count holds) ≡ length holds = length-map holds (hold_after o.count) in
    let good : bad_hold o.progress.net (holds_after o.count holds) ≡ None =
    not_bad o.progress.net (holds_after o.count holds)
    (record { good = stay_good o.count net o.progress.net holds w g.good; few = rw same g.few }) in
    rw (bad.0, good) refl
