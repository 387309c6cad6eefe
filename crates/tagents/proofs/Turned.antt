-- A place that is taken by turns has room for one: as many have ended there as have begun, each chained to the next.
use Rattle.std.proofs.Common.{ℕ, suc, ◌+◌, ◌≡◌, ◌<◌, ◌≤◌, sym, ap, ◌∙◌, subst, Bool, true, false}
use Rattle.std.proofs.Common.{List, [], ◌∷◌, ◌++◌, inl, inr, reverse, true≢false, arith}
use Rattle.std.specs.Prelude.{◌||◌, if◌then◌else◌}
use Rattle.std.specs.List.{count_by}
use Rattle.std.proofs.lemmas.Bool.{or_parts, or_left, or_cases}
use Rattle.std.proofs.lemmas.List.{append-nil, reverse-append}
use Rattle.tagents.specs.Agents.{Agents}
use Rattle.tagents.specs.Chains.{IsChained}
use Rattle.tagents.specs.Crowds.{HaveEnded, HaveRoom}
use Rattle.tagents.specs.PlaceTurns.{is_free, IsAfterLast, HasPlaceTurn, TakeTurns, TurnsMakeRoom}
use Rattle.tagents.proofs.Fronted.{test}
use Rattle.tagents.proofs.Parts.{one_if, count_front, count_both, no_place, turned}
use Rattle.tagents.proofs.Crowded.{room_more}
use Rattle.tagents.proofs.Handed.{handed_on}

count_turned : {X : Type 0} (p : X → Bool) (x : X) (xs : List X)
    → count_by p (reverse (x ∷ xs)) ≡ count_by p (reverse xs) + one_if (p x)
count_turned p x xs =
    let parts : count_by p (reverse xs ++ x ∷ []) ≡ count_by p (reverse xs) + count_by p (x ∷ []) =
    count_both p (reverse xs) (x ∷ []) in
    let one : count_by p (x ∷ []) ≡ one_if (p x) + 0 = count_front p x [] in
    let same : count_by p (reverse (x ∷ xs)) ≡ count_by p (reverse xs ++ x ∷ []) =
    ap (count_by p) (reverse-append (x ∷ []) xs) in
    omega (arith, parts, one, same)

-- one of two, and not the first
or_right_only : (b c : Bool) → (b || c) ≡ true → b ≡ false → c ≡ true
or_right_only b c h n =
    elim (or_cases b c h) as (λ _. c ≡ true) [
      | inl first ↦ absurd (true≢false (sym first ∙ n))
      | inr second ↦ second
    ]

at_least : (b : Bool) (n : ℕ) → n ≤ (if b then suc n else n)
at_least true n = omega arith
at_least false n = omega arith

module _ {State Agent Label : Type 0} (m : Agents State Agent Label) (begins ends : Label → Bool) (before : Bool) where
  abbrev limit : ℕ
  limit = if before then 1 else 0

  -- what is known at a step to which the last one that took or freed the place is chained
  record IsKnown (earlier between : List Label) (f : Label) : Type 0 where
    pub ended : ℕ
    pub chained : HaveEnded m ends (reverse earlier ++ between) f ended
    pub free : is_free begins ends before earlier ≡ true → count_by begins (reverse earlier) < limit + ended
    pub few : count_by begins (reverse earlier) ≤ limit + ended

  known_first : (between : List Label) (f : Label) → IsKnown [] between f
  known_first between f =
      record {
        ended = 0;
        chained = tt;
        free = λ h. (let one : limit ≡ 1 = ap one_if h in omega (arith, one));
        few = omega arith;
      }

  -- at the step that took or freed it
  known_busy : (e f : Label) (es between : List Label) → HasPlaceTurn m begins ends before es e
      → (begins e || ends e) ≡ true → IsKnown es [] e → IsChained m e between f → IsKnown (e ∷ es) between f
  known_busy e f es between turn busy k c =
      record {
        ended = if ends e then suc k.ended else k.ended;
        chained = subst (λ (x : List Label). HaveEnded m ends x f (if ends e then suc k.ended else k.ended))
            (ap (λ (x : List Label). x ++ e ∷ between) (append-nil (reverse es)) ∙ turned e es between)
            (handed_on m ends (reverse es ++ []) between e f k.ended k.chained c);
        free = free;
        few = few;
      }
    where
      count : count_by begins (reverse (e ∷ es)) ≡ count_by begins (reverse es) + one_if (begins e)
      count = count_turned begins e es

      free : is_free begins ends before (e ∷ es) ≡ true
          → count_by begins (reverse (e ∷ es)) < limit + (if ends e then suc k.ended else k.ended)
      free h =
          elim (test (begins e))
          as (λ _. count_by begins (reverse (e ∷ es)) < limit + (if ends e then suc k.ended else k.ended)) [
            | inl b ↦ absurd (true≢false (sym h ∙ ap (λ (x : Bool). if x then false else rest) b))
            | inr b ↦ (let ended : ends e ≡ true = or_right_only (begins e) (ends e) busy b in
                let more : (if ends e then suc k.ended else k.ended) ≡ suc k.ended =
                ap (λ (x : Bool). if x then suc k.ended else k.ended) ended in
                let none : one_if (begins e) ≡ 0 = ap one_if b in
                omega (arith, count, more, none, k.few))
          ]
        where
          rest : Bool
          rest = if ends e then true else is_free begins ends before es

      few : count_by begins (reverse (e ∷ es)) ≤ limit + (if ends e then suc k.ended else k.ended)
      few =
          elim (test (begins e))
          as (λ _. count_by begins (reverse (e ∷ es)) ≤ limit + (if ends e then suc k.ended else k.ended)) [
            | inl b ↦ (let was : count_by begins (reverse es) < limit + k.ended = k.free (turn.takes b) in
                let one : one_if (begins e) ≡ 1 = ap one_if b in
                omega (arith, count, was, one, at_least (ends e) k.ended))
            | inr b ↦ (let none : one_if (begins e) ≡ 0 = ap one_if b in
                omega (arith, count, none, k.few, at_least (ends e) k.ended))
          ]

  -- at a step that did neither
  known_idle : (e f : Label) (es between : List Label) → begins e ≡ false → ends e ≡ false
      → IsKnown es (e ∷ between) f → IsKnown (e ∷ es) between f
  known_idle e f es between b d k =
      let count : count_by begins (reverse (e ∷ es)) ≡ count_by begins (reverse es) + one_if (begins e) =
      count_turned begins e es in
      let none : one_if (begins e) ≡ 0 = ap one_if b in
      record {
        ended = k.ended;
        chained = subst (λ (x : List Label). HaveEnded m ends x f k.ended) (turned e es between) k.chained;
        free = λ h. (let was : is_free begins ends before es ≡ true = rw (b, d) at h in
            let few : count_by begins (reverse es) < limit + k.ended = k.free was in
            omega (arith, count, none, few));
        few = omega (arith, count, none, k.few);
      }

  known : (earlier between : List Label) (f : Label) → TakeTurns m begins ends before earlier
      → IsAfterLast m begins ends earlier between f → IsKnown earlier between f
  known [] between f turns after = known_first between f
  known (e ∷ es) between f turns (inl busy) =
      known_busy e f es between turns.0 busy.0 (known es [] e turns.1 (turns.0.after busy.0)) busy.1
  known (e ∷ es) between f turns (inr idle) =
      let parts : (begins e ≡ false) × (ends e ≡ false) = or_parts (begins e) (ends e) idle.0 in
      known_idle e f es between parts.0 parts.1 (known es (e ∷ between) f turns.1 idle.1)

  pub room : (steps : List Label) → TakeTurns m begins ends before steps
      → HaveRoom m begins ends limit (reverse steps)
  room [] turns = λ earlier later f q is. absurd (no_place f earlier later q)
  room (f ∷ earlier) turns =
      subst (HaveRoom m begins ends limit) (sym (reverse-append (f ∷ []) earlier))
      (room_more m begins ends limit (reverse earlier) f (room earlier turns.1)
      (λ is. (let k : IsKnown earlier [] f =
      known earlier [] f turns.1 (turns.0.after (or_left (begins f) (ends f) is)) in
      record {
        ended = k.ended;
        chained = subst (λ (x : List Label). HaveEnded m ends x f k.ended) (append-nil (reverse earlier)) k.chained;
        few = k.free (turns.0.takes is);
      })))

pub turns_make_room : (State Agent Label : Type 0) → TurnsMakeRoom State Agent Label
turns_make_room State Agent Label m begins ends before steps turns = room m begins ends before steps turns
