-- What a clock has counted is chained to its step: the clock has it from a step that comes between them.
use Rattle.std.proofs.Common.{ℕ, suc, ◌+◌, ◌≡◌, ◌≤◌, sym, ap, subst, Bool, true, false, true≢false}
use Rattle.std.proofs.Common.{List, [], ◌∷◌, ◌++◌, ◌∙◌, inl, inr, reverse, arith}
use Rattle.std.specs.Prelude.{nat_le}
use Rattle.std.specs.List.{count_by}
use Rattle.std.proofs.lemmas.Bool.{and_parts, leb-true}
use Rattle.std.proofs.lemmas.List.{append-nil, append_assoc, reverse-append}
use Rattle.tagents.specs.Agents.{Agents}
use Rattle.tagents.specs.Races.{ComesBefore, with_leads}
use Rattle.tagents.specs.Clocks.{Entry, OneKnows, NoneKnows, AreClocked, labels}
use Rattle.tagents.specs.Tables.{Accesses, Table, AreChecked}
use Rattle.tagents.specs.Chains.{IsChained}
use Rattle.tagents.specs.Crowds.{HaveEnded}
use Rattle.tagents.specs.PlaceTurns.{IsAfterLast}
use Rattle.tagents.specs.Times.{IsTimed, AreTimed, RunsHaveTimes, ClocksTellChains, is_known_end, ClocksTellEnds}
use Rattle.tagents.specs.Times.{HasCountedLast, ClocksTellPlaceTurns, FewerLeadsTellChains}
use Rattle.tagents.proofs.Fronted.{test}
use Rattle.tagents.proofs.Traced.{direct, longer, through}
use Rattle.tagents.proofs.Parts.{one_if, count_front, turned}
use Rattle.tagents.proofs.Crowded.{skipped}

module _ {State Agent Label : Type 0} (m : Agents State Agent Label) (e : Entry Agent Label)
    (before : List (Entry Agent Label)) where
  abbrev a : Agent
  a = m.agent_of e.label

  -- the step is chained to what one of these comes before, if that one knows of it
  abbrev Covers : List Label → List (Entry Agent Label) → Type 0
  Covers between [] = Unit {0}
  Covers between (z ∷ zs) =
      (e.place ≤ z.past a → (f : Label) → ComesBefore m z.label f → IsChained m e.label between f) × Covers between zs

  covers_more : (g : Label) (between : List Label) (seen : List (Entry Agent Label)) → Covers between seen
      → Covers (between ++ g ∷ []) seen
  covers_more g between [] c = tt
  covers_more g between (z ∷ zs) c =
      (λ h f b. longer m e.label f g between (c.0 h f b), covers_more g between zs c.1)

  none_before : (zs : List (Entry Agent Label)) (f : Label) (n : ℕ) → m.same a (m.agent_of f) ≡ false
      → NoneKnows m zs a e.place → e.place ≤ n → OneKnows m zs f a n → ⊥
  none_before [] f n other none h one = absurd one
  none_before (z ∷ zs) f n other none h (inl k) =
      elim none.0 as (λ _. ⊥) [
        | inl few ↦ omega (arith, few, k.1)
        | inr private ↦ true≢false (sym (private f k.0) ∙ other)
      ]
  none_before (z ∷ zs) f n other none h (inr k) = none_before zs f n other none.1 h k

  from_one : (between : List Label) (seen : List (Entry Agent Label)) (f : Label) (n : ℕ)
      → m.same a (m.agent_of f) ≡ false → Covers between seen → NoneKnows m before a e.place → e.place ≤ n
      → OneKnows m (seen ++ e ∷ before) f a n → IsChained m e.label between f
  from_one between [] f n other c none h (inl k) = direct m e.label f between k.0
  from_one between [] f n other c none h (inr k) = absurd (none_before before f n other none h k)
  from_one between (z ∷ zs) f n other c none h (inl k) = c.0 (omega (arith, k.1)) f k.0
  from_one between (z ∷ zs) f n other c none h (inr k) = from_one between zs f n other c.1 none h k

  -- so it is chained to a step that knows of it
  chained : (between : List Label) (seen : List (Entry Agent Label)) (f : Entry Agent Label) → Covers between seen
      → IsTimed m before e → IsTimed m (seen ++ e ∷ before) f → e.place ≤ f.past a
      → IsChained m e.label between f.label
  chained between seen f c is k h =
      elim (test (m.same a (m.agent_of f.label))) as (λ _. IsChained m e.label between f.label) [
        | inl q ↦ direct m e.label f.label between (inl q)
        | inr n ↦ elim (k.knows a n) as (λ _. IsChained m e.label between f.label) [
          | inl none ↦ absurd (omega (arith, none, is.counted))
          | inr one ↦ from_one between seen f.label (f.past a) n c is.fresh h one
        ]
      ]

  chained_later : (between : List Label) (seen later after : List (Entry Agent Label)) (f : Entry Agent Label)
      → Covers between seen → IsTimed m before e → AreTimed m (seen ++ e ∷ before) (later ++ f ∷ after)
      → e.place ≤ f.past a → IsChained m e.label (between ++ labels later) f.label
  chained_later between seen [] after f c is k h =
      subst (λ (x : List Label). IsChained m e.label x f.label) (sym (append-nil between))
      (chained between seen f c is k.0 h)
  chained_later between seen (g ∷ gs) after f c is k h =
      subst (λ (x : List Label). IsChained m e.label x f.label) (append_assoc between (g.label ∷ []) (labels gs))
      (chained_later (between ++ g.label ∷ []) (g ∷ seen) gs after f (
        (λ l x b. through m e.label x g.label between (chained between seen g c is k.0 l) b),
        covers_more g.label between seen c,
      ) is k.1 h)

module _ {State Agent Label : Type 0} (m : Agents State Agent Label) (ends : Label → Bool) where
  pub ended : (before earlier later : List (Entry Agent Label)) (f : Entry Agent Label)
      → AreTimed m before (earlier ++ f ∷ later)
      → HaveEnded m ends (labels earlier) f.label (count_by (is_known_end m ends f) earlier)
  ended before [] later f k = tt
  ended before (e ∷ es) later f k =
      let rest : HaveEnded m ends (labels es) f.label (count_by (is_known_end m ends f) es) =
      ended (e ∷ before) es later f k.1 in
      let first : count_by (is_known_end m ends f) (e ∷ es)
      ≡ one_if (is_known_end m ends f e) + count_by (is_known_end m ends f) es =
      count_front (is_known_end m ends f) e es in
      elim (test (is_known_end m ends f e))
      as (λ _. HaveEnded m ends (labels (e ∷ es)) f.label (count_by (is_known_end m ends f) (e ∷ es))) [
        | inl b ↦ (let parts : (ends e.label ≡ true) × (nat_le e.place (f.past (m.agent_of e.label)) ≡ true) =
            and_parts (ends e.label) (nat_le e.place (f.past (m.agent_of e.label))) b in
            let one : one_if (is_known_end m ends f e) ≡ 1 = ap one_if b in
            let count : suc (count_by (is_known_end m ends f) es) ≡ count_by (is_known_end m ends f) (e ∷ es) =
            omega (arith, first, one) in
            subst (λ (n : ℕ). HaveEnded m ends (labels (e ∷ es)) f.label n) count
            (inl (
              parts.0,
              chained_later m e before [] [] es later f tt k.0 k.1
                  (leb-true e.place (f.past (m.agent_of e.label)) parts.1),
              rest,
            )))
        | inr b ↦ (let none : one_if (is_known_end m ends f e) ≡ 0 = ap one_if b in
            let count : count_by (is_known_end m ends f) es ≡ count_by (is_known_end m ends f) (e ∷ es) =
            omega (arith, first, none) in
            subst (λ (n : ℕ). HaveEnded m ends (labels (e ∷ es)) f.label n) count
            (skipped m ends e.label f.label (labels es) (count_by (is_known_end m ends f) es) rest))
      ]

module _ {State Agent Label : Type 0} (m : Agents State Agent Label) where
  pub clocked : (before later : List (Entry Agent Label)) → AreClocked m before later → AreTimed m before later
  clocked before [] k = tt
  clocked before (f ∷ fs) k =
      (record { counted = k.0.counted; fresh = k.0.fresh; knows = k.0.knows }, clocked (f ∷ before) fs k.1)

  checked : {Place Mode : Type 0} (accesses : Accesses Place Mode Label) (before later : List (Entry Agent Label))
      (table : Table m accesses) → AreChecked m accesses before table later → AreTimed m before later
  checked accesses before [] table k = tt
  checked accesses before (f ∷ fs) table k = (
    record { counted = k.1.counted; fresh = k.1.fresh; knows = k.1.knows },
    checked accesses (f ∷ before) fs k.0 k.2,
  )

pub runs_have_times : (State Agent Label Place Mode : Type 0) → RunsHaveTimes State Agent Label Place Mode
runs_have_times State Agent Label Place Mode m accesses entries =
    record {
      clocked = λ k. clocked m [] entries k;
      checked = λ k. checked m accesses [] entries (λ p j a. 0) k;
    }

pub clocks_tell_chains : (State Agent Label : Type 0) → ClocksTellChains State Agent Label
clocks_tell_chains State Agent Label m earlier between later e f k h = from_here [] earlier k
  where
    from_here : (before earlier : List (Entry Agent Label))
        → AreTimed m before (earlier ++ e ∷ (between ++ f ∷ later)) → IsChained m e.label (labels between) f.label
    from_here before [] t = chained_later m e before [] [] between later f tt t.0 t.1 h
    from_here before (z ∷ zs) t = from_here (z ∷ before) zs t.1

pub clocks_tell_ends : (State Agent Label : Type 0) → ClocksTellEnds State Agent Label
clocks_tell_ends State Agent Label m ends earlier later f k = ended m ends [] earlier later f k

module _ {State Agent Label : Type 0} (m : Agents State Agent Label) (begins ends : Label → Bool) where
  after_last : (earlier between : List (Entry Agent Label)) (f : Entry Agent Label)
      → AreTimed m [] (reverse earlier ++ (between ++ f ∷ [])) → HasCountedLast m begins ends earlier f
      → IsAfterLast m begins ends (labels earlier) (labels between) f.label
  after_last [] between f k last = tt
  after_last (e ∷ es) between f k (inl busy) =
      inl (
        busy.0,
        clocks_tell_chains State Agent Label m (reverse es) between [] e f
            (subst (AreTimed m []) (sym (turned e es (between ++ f ∷ []))) k) busy.1,
      )
  after_last (e ∷ es) between f k (inr idle) =
      inr (
        idle.0,
        after_last es (e ∷ between) f (subst (AreTimed m []) (sym (turned e es (between ++ f ∷ []))) k) idle.1,
      )

pub clocks_tell_place_turns : (State Agent Label : Type 0) → ClocksTellPlaceTurns State Agent Label
clocks_tell_place_turns State Agent Label m begins ends earlier f k last =
    after_last m begins ends earlier [] f (subst (AreTimed m []) (reverse-append (f ∷ []) earlier) k) last

module _ {State Agent Label : Type 0} (m : Agents State Agent Label) (leads : Label → Label → Bool)
    (fewer : (e f : Label) → leads e f ≡ true → m.leads e f ≡ true) where
  before_too : (e f : Label) → ComesBefore (with_leads m leads) e f → ComesBefore m e f
  before_too e f (inl same) = inl same
  before_too e f (inr led) = inr (fewer e f led)

  chained_too : (e f : Label) (between : List Label) → IsChained (with_leads m leads) e between f
      → IsChained m e between f
  chained_too e f [] b = before_too e f b
  chained_too e f (z ∷ zs) (inl c) = inl (before_too e z c.0, chained_too z f zs c.1)
  chained_too e f (z ∷ zs) (inr c) = inr (chained_too e f zs c)

pub fewer_leads_tell_chains : (State Agent Label : Type 0) → FewerLeadsTellChains State Agent Label
fewer_leads_tell_chains State Agent Label m leads e between f fewer c = chained_too m leads fewer e f between c
