-- No run is crowded: where a step is moved to the front of a run, there is still room at all others.
use Rattle.std.proofs.Common.{ℕ, zero, suc, ◌+◌, ◌≡◌, ◌<◌, ◌≤◌, refl, sym, ap, ◌∙◌, subst, Bool, true}
use Rattle.std.proofs.Common.{List, [], ◌∷◌, ◌++◌, inl, inr, arith}
use Rattle.std.specs.List.{count_by}
use Rattle.std.proofs.lemmas.List.{append_assoc, append-nil}
use Rattle.tagents.specs.Agents.{Agents, IsRun, IsOver}
use Rattle.tagents.specs.Races.{IsRaceFree, TakesNothing}
use Rattle.tagents.specs.Certificates.{IsReached, IsLawful}
use Rattle.tagents.specs.Chains.{IsChained}
use Rattle.tagents.specs.Crowds.{HaveEnded, HasRoom, HaveRoom, NoRunIsCrowded, RoomIsShownByEach}
use Rattle.tagents.proofs.Lists.{NoneBefore, race_free, takes_nothing}
use Rattle.tagents.proofs.Fronted.{Fronted, fronted, reached_step, test}
use Rattle.tagents.proofs.Parts.{one_if, count_front, count_both, count_within, IsInFirst, IsInSecond, part_of}
use Rattle.tagents.proofs.Parts.{no_place}

-- of more steps no fewer have ended
pub skipped : {State Agent Label : Type 0} (m : Agents State Agent Label) (ends : Label → Bool) (e g : Label)
    (es : List Label) (n : ℕ) → HaveEnded m ends es g n → HaveEnded m ends (e ∷ es) g n
skipped m ends e g es zero h = tt
skipped m ends e g es (suc n) h = inr h

module _ {State Agent Label : Type 0} (m : Agents State Agent Label) (f : Label) where
  -- a chain goes round a step that nothing has to come before
  around : (e g : Label) (es later : List Label) → NoneBefore m f (e ∷ es) → IsChained m e (es ++ f ∷ later) g
      → IsChained m e (es ++ later) g
  around e g [] later none (inl c) = absurd (none.0 c.0)
  around e g [] later none (inr c) = c
  around e g (z ∷ zs) later none (inl c) = inl (c.0, around z g zs later none.1 c.1)
  around e g (z ∷ zs) later none (inr c) = inr (around e g zs later (none.0, none.1.1) c)

  -- and no chain leads to it
  not_chained : (e : Label) (es : List Label) → NoneBefore m f (e ∷ es) → IsChained m e es f → ⊥
  not_chained e [] none c = none.0 c
  not_chained e (z ∷ zs) none (inl c) = not_chained z zs none.1 c.1
  not_chained e (z ∷ zs) none (inr c) = not_chained e zs (none.0, none.1.1) c

  module _ (ends : Label → Bool) where
    -- so nothing is known to have ended there
    none_ended : (es : List Label) (n : ℕ) → NoneBefore m f es → HaveEnded m ends es f n → n ≡ 0
    none_ended [] zero none h = refl
    none_ended [] (suc n) none h = absurd h
    none_ended (e ∷ es) zero none h = refl
    none_ended (e ∷ es) (suc n) none (inl h) = absurd (not_chained e es none h.1)
    none_ended (e ∷ es) (suc n) none (inr h) = none_ended es (suc n) none.1 h

    -- where the step is left out, it alone may be missing
    record HaveEndedStill (es : List Label) (g : Label) (n : ℕ) : Type 0 where
      pub ended : ℕ
      pub chained : HaveEnded m ends es g ended
      pub enough : n ≤ one_if (ends f) + ended

    without : (es later : List Label) (g : Label) (n : ℕ) → NoneBefore m f es
        → HaveEnded m ends (es ++ f ∷ later) g n → HaveEndedStill (es ++ later) g n
    without es later g zero none h =
        record { ended = 0; chained = tt; enough = omega arith }
    without [] later g (suc n) none (inl h) =
        record { ended = n; chained = h.2; enough = rw h.0 (omega arith) }
    without [] later g (suc n) none (inr h) = record { ended = suc n; chained = h; enough = omega arith }
    without (e ∷ es) later g (suc n) none (inl h) =
        let still : HaveEndedStill (es ++ later) g n = without es later g n none.1 h.2 in
        record {
          ended = suc still.ended;
          chained = inl (h.0, around e g es later none h.1, still.chained);
          enough = omega (arith, still.enough);
        }
    without (e ∷ es) later g (suc n) none (inr h) =
        let still : HaveEndedStill (es ++ later) g (suc n) = without es later g (suc n) none.1 h in
        record {
          ended = still.ended;
          chained = skipped m ends e g (es ++ later) still.ended still.chained;
          enough = still.enough;
        }

module _ {State Agent Label : Type 0} (m : Agents State Agent Label) (begins ends : Label → Bool) where
  -- the same after steps in which so much has begun; what has ended in them is added to the limit
  record HasRoomAfter (begun limit : ℕ) (earlier : List Label) (f : Label) : Type 0 where
    pub ended : ℕ
    pub chained : HaveEnded m ends earlier f ended
    pub few : begun + count_by begins earlier < limit + ended

  abbrev HaveRoomAfter : (begun limit : ℕ) → List Label → Type 0
  HaveRoomAfter begun limit steps =
      (earlier later : List Label) (f : Label) → steps ≡ earlier ++ f ∷ later → begins f ≡ true
      → HasRoomAfter begun limit earlier f

  -- at a step that nothing has to come before there is room for all before it too
  before_it : (begun limit : ℕ) (f : Label) (pre : List Label) → NoneBefore m f pre → HasRoomAfter begun limit pre f
      → begun + count_by begins pre < limit
  before_it begun limit f pre none room =
      let no : room.ended ≡ 0 = none_ended m f ends pre room.ended none room.chained in
      omega (arith, room.few, no)

  -- it is done first: there is room at the steps that were before it
  room_before : (begun limit : ℕ) (f g : Label) (pre post before : List Label) → NoneBefore m f pre
      → HaveRoomAfter begun limit (pre ++ f ∷ post) → IsInFirst pre before g → begins g ≡ true
      → HasRoomAfter (begun + one_if (begins f)) (limit + one_if (ends f)) before g
  room_before begun limit f g pre post before none room at is =
      elim (test (begins f))
      as (λ _. HasRoomAfter (begun + one_if (begins f)) (limit + one_if (ends f)) before g) [
        | inl b ↦ (let all : begun + count_by begins pre < limit =
            before_it begun limit f pre none (room pre post f refl b) in
            let parts : count_by begins pre ≡ count_by begins before + (one_if (begins g) + count_by begins at.after) =
            ap (count_by begins) at.are ∙ count_within begins before g at.after in
            let one : one_if (begins f) ≡ 1 = ap one_if b in
            let other : one_if (begins g) ≡ 1 = ap one_if is in
            record {
              ended = 0;
              chained = tt;
              few = omega (arith, all, parts, one, other);
            })
        | inr b ↦ (let split : pre ++ f ∷ post ≡ before ++ g ∷ (at.after ++ f ∷ post) =
            ap (λ (x : List Label). x ++ f ∷ post) at.are ∙ append_assoc before (g ∷ at.after) (f ∷ post) in
            let has : HasRoomAfter begun limit before g = room before (at.after ++ f ∷ post) g split is in
            let none : one_if (begins f) ≡ 0 = ap one_if b in
            record { ended = has.ended; chained = has.chained; few = omega (arith, has.few, none) })
      ]

  -- and at those that were after it
  room_after : (begun limit : ℕ) (f g : Label) (pre post before after : List Label) → NoneBefore m f pre
      → HaveRoomAfter begun limit (pre ++ f ∷ post) → IsInSecond pre post before after g → begins g ≡ true
      → HasRoomAfter (begun + one_if (begins f)) (limit + one_if (ends f)) before g
  room_after begun limit f g pre post before after none room at is =
      let split : pre ++ f ∷ post ≡ (pre ++ f ∷ at.between) ++ g ∷ after =
      ap (λ (x : List Label). pre ++ f ∷ x) at.are ∙ sym (append_assoc pre (f ∷ at.between) (g ∷ after)) in
      let has : HasRoomAfter begun limit (pre ++ f ∷ at.between) g = room (pre ++ f ∷ at.between) after g split is in
      let still : HaveEndedStill m f ends (pre ++ at.between) g has.ended =
      without m f ends pre at.between g has.ended none has.chained in
      let parts : count_by begins (pre ++ f ∷ at.between)
      ≡ count_by begins pre + (one_if (begins f) + count_by begins at.between) =
      count_within begins pre f at.between in
      let others : count_by begins before ≡ count_by begins pre + count_by begins at.between =
      ap (count_by begins) at.before_it ∙ count_both begins pre at.between in
      record {
        ended = still.ended;
        chained = subst (λ (x : List Label). HaveEnded m ends x g still.ended) (sym at.before_it) still.chained;
        few = omega (arith, has.few, still.enough, parts, others);
      }

  -- at all others, then
  moved : (begun limit : ℕ) (f : Label) (pre post : List Label) → NoneBefore m f pre
      → HaveRoomAfter begun limit (pre ++ f ∷ post)
      → HaveRoomAfter (begun + one_if (begins f)) (limit + one_if (ends f)) (pre ++ post)
  moved begun limit f pre post none room before after g q is =
      elim (part_of pre post before after g q)
      as (λ _. HasRoomAfter (begun + one_if (begins f)) (limit + one_if (ends f)) before g) [
        | inl first ↦ room_before begun limit f g pre post before none room first is
        | inr second ↦ room_after begun limit f g pre post before after none room second is
      ]

  -- what has begun with it stays within the limit
  stays : (begun limit : ℕ) (f : Label) (pre post : List Label) → NoneBefore m f pre
      → HaveRoomAfter begun limit (pre ++ f ∷ post) → begun ≤ limit
      → begun + one_if (begins f) ≤ limit + one_if (ends f)
  stays begun limit f pre post none room few =
      elim (test (begins f)) as (λ _. begun + one_if (begins f) ≤ limit + one_if (ends f)) [
        | inl b ↦ (let all : begun + count_by begins pre < limit =
            before_it begun limit f pre none (room pre post f refl b) in
            let one : one_if (begins f) ≡ 1 = ap one_if b in
            omega (arith, all, one))
        | inr b ↦ (let no : one_if (begins f) ≡ 0 = ap one_if b in omega (arith, few, no))
      ]

  module _ (start : State) (laws : IsLawful m start) where
    -- step by step of another run
    bounded : (others : List Label) (s end s' : State) (steps : List Label) (begun limit : ℕ) → IsReached m start s
        → IsRun m s steps end → IsOver m end → IsRaceFree m steps → TakesNothing m steps
        → HaveRoomAfter begun limit steps → begun ≤ limit → IsRun m s others s'
        → begun + count_by begins others ≤ limit + count_by ends others
    bounded [] s end s' steps begun limit r run over free takes room few other = omega (arith, few)
    bounded (f ∷ fs) s end s' steps begun limit r run over free takes room few other =
        let fr : Fronted m start laws other.0 f steps end =
        fronted m start laws steps s other.0 end f r run over free takes other.1 in
        let there : HaveRoomAfter begun limit (fr.pre ++ f ∷ fr.post) =
        subst (HaveRoomAfter begun limit) fr.are room in
        let more : (begun + one_if (begins f)) + count_by begins fs ≤ (limit + one_if (ends f)) + count_by ends fs =
        bounded fs other.0 end s' (fr.pre ++ fr.post) (begun + one_if (begins f)) (limit + one_if (ends f))
        (reached_step m start s other.0 f r other.1) fr.run over
        (race_free m f fr.pre fr.post fr.none (subst (IsRaceFree m) fr.are free))
        (takes_nothing m f fr.pre fr.post (subst (TakesNothing m) fr.are takes))
        (moved begun limit f fr.pre fr.post fr.none there) (stays begun limit f fr.pre fr.post fr.none there few)
        other.2 in
        let first : count_by begins (f ∷ fs) ≡ one_if (begins f) + count_by begins fs = count_front begins f fs in
        let second : count_by ends (f ∷ fs) ≡ one_if (ends f) + count_by ends fs = count_front ends f fs in
        omega (arith, more, first, second)

pub no_run_is_crowded : (State Agent Label : Type 0) → NoRunIsCrowded State Agent Label
no_run_is_crowded State Agent Label m begins ends limit start end s steps others c room other =
    let all : HaveRoomAfter m begins ends 0 limit steps =
    λ earlier later f q is. (let has : HasRoom m begins ends limit earlier f = room earlier later f q is in
    record { ended = has.ended; chained = has.chained; few = omega (arith, has.few) }) in
    let few : 0 + count_by begins others ≤ limit + count_by ends others =
    bounded m begins ends start c.lawful others start end s steps 0 limit (record { steps = []; run = refl }) c.run
    c.over c.race_free c.takes_nothing all (omega arith) other in
    omega (arith, few)

module _ {State Agent Label : Type 0} (m : Agents State Agent Label) (begins ends : Label → Bool) (limit : ℕ) where
  -- the step is the last one
  room_at_last : (steps earlier later between : List Label) (f g : Label) → earlier ≡ steps ++ between
      → f ∷ [] ≡ between ++ g ∷ later → begins g ≡ true
      → (begins f ≡ true → HasRoom m begins ends limit steps f) → HasRoom m begins ends limit earlier g
  room_at_last steps earlier later [] f g q r is has =
      let same : f ≡ g = cc in
      let room : HasRoom m begins ends limit steps g =
      subst (HasRoom m begins ends limit steps) same (has (ap begins same ∙ is)) in
      subst (λ (x : List Label). HasRoom m begins ends limit x g) (sym (q ∙ append-nil steps)) room
  room_at_last steps earlier later (z ∷ zs) f g q r is has =
      let none : [] ≡ zs ++ g ∷ later = cc in
      absurd (no_place g zs later none)

  pub room_more : (steps : List Label) (f : Label) → HaveRoom m begins ends limit steps
      → (begins f ≡ true → HasRoom m begins ends limit steps f) → HaveRoom m begins ends limit (steps ++ f ∷ [])
  room_more steps f room has earlier later g q is =
      elim (part_of steps (f ∷ []) earlier later g q) as (λ _. HasRoom m begins ends limit earlier g) [
        | inl first ↦ room earlier first.after g first.are is
        | inr second ↦ room_at_last steps earlier later second.between f g second.before_it second.are is has
      ]

pub room_is_shown_by_each : (State Agent Label : Type 0) → RoomIsShownByEach State Agent Label
room_is_shown_by_each State Agent Label m begins ends limit =
    record {
      none = λ earlier later f q is. absurd (no_place f earlier later q);
      more = λ steps f room has. room_more m begins ends limit steps f room has;
    }
