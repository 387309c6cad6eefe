-- Rows whose values their rules accept: each use of an argument keeps them so.
use Rattle.std.proofs.Common.{◌≡◌, ◌∙◌, ◌<◌, ◌⊎◌, ℕ, Bool, cond, true, false, zero, suc, refl, sym, ap, subst, arith}
use Rattle.std.proofs.Common.{List, [], ◌∷◌, ◌++◌, length, Some, None, inl, inr}
use Rattle.std.specs.List.{find}
use Rattle.std.specs.Str.{bytes_eq}
use Rattle.std.proofs.lemmas.Bool.{lt-ltb}
use Rattle.std.proofs.lemmas.Slice.Eq.{bytes_eq-Decides}
use Rattle.clap.specs.Facts.{unwrap_or_range}
use Rattle.clap.specs.Kinds.{Kinds, or_else, range_kinds, value_kinds, values_kinds}
use Rattle.clap.specs.Walk.{Row, Rule, Text, action_of, arg_by_id, at_row, more_values, most_values, reading_by, used}
use Rattle.clap.specs.Walk.{used_as, values_or_missing, with_values, without}
use Rattle.clap.specs.Faults.{action_fault, repeat_fault, use_fault, values_fault}
use Rattle.clap.specs.declared.builder.action.ArgAction.TheVariants.{Set, Append, Help, Version, SetTrue}
use Rattle.clap.specs.declared.builder.value_parser.ValueParser.{ValueParser}
use Rattle.clap.specs.declared.error.kind.ErrorKind.TheVariants as kind
use Rattle.clap.specs.declared.parser.matches.ValueSource.{ValueSource}
use Rattle.clap.specs.declared.parser.matches.ValueSource.TheVariants.{CommandLine}

-- ---- faults

-- where neither of two steps fails
pub neither : (a b : Kinds) → or_else a b ≡ [] → (a ≡ []) × (b ≡ [])
neither [] b e = (refl, e)
neither (k ∷ ks) b e = cc

-- a use that wants a value has one
given : (least most n : ℕ) → 0 < least → range_kinds least most n ≡ [] → 0 < n
given least most zero lt e =
    let bad : kind.InvalidValue ∷ [] ≡ [] = rw (lt-ltb 0 least lt) at e in
    cc
given least most (suc n) lt e = omega arith

-- values of two uses
kinds_joined : (b : Bool) (p : ValueParser) (xs ys : List Text) → values_kinds b p xs ≡ [] → values_kinds b p ys ≡ []
    → values_kinds b p (xs ++ ys) ≡ []
kinds_joined b p [] ys e f = f
kinds_joined b p (x ∷ xs) ys e f =
    let h = neither (value_kinds b p x) (values_kinds b p xs) e in
    ap (λ k. or_else k (values_kinds b p (xs ++ ys))) h.0 ∙ kinds_joined b p xs ys h.1 f

longer : (xs ys : List Text) → 0 < length xs → 0 < length (xs ++ ys)
longer [] ys lt = absurd (omega arith)
longer (x ∷ xs) ys lt = omega arith

-- ---- facts of rules and of rows

abbrev pub Each : {X : Type 0} → (X → Type 0) → List X → Type 0
Each P [] = Unit {0}
Each P (x ∷ xs) = P x × Each P xs

each_joined : {X : Type 0} (P : X → Type 0) (xs ys : List X) → Each P xs → Each P ys → Each P (xs ++ ys)
each_joined P [] ys h k = k
each_joined P (x ∷ xs) ys h k = (h.0, each_joined P xs ys h.1 k)

pub each_found : {X : Type 0} (P : X → Type 0) (test : X → Bool) (xs : List X) (x : X) → Each P xs
    → find test xs ≡ Some x → P x × (test x ≡ true)
each_found P test [] x h e = cc
each_found P test (y ∷ ys) x h e = go (test y) refl (each_found P test ys x h.1) e
  where
    go : (b : Bool) → test y ≡ b → (find test ys ≡ Some x → P x × (test x ≡ true))
        → cond b (Some y) (find test ys) ≡ Some x → P x × (test x ≡ true)
    go true is later f =
        let same : y ≡ x = cc in
        (subst P same h.0, subst (λ z. test z ≡ true) same is)
    go false is later f = later f

-- a rule that takes at least one value, once or several times, or asks for help or the version, or takes none and has
-- one that stands for that; no rule before it has its id
pub record IsFit (c : List Rule) (a : Rule) : Type 0 where
  pub first : arg_by_id c a.id ≡ Some a
  pub action :
      ((action_of a ≡ Set) × (0 < (unwrap_or_range a.range).start_inclusive))
      ⊎ (((action_of a ≡ Append) × (0 < (unwrap_or_range a.range).start_inclusive))
      ⊎ ((action_of a ≡ Help) ⊎ ((action_of a ≡ Version) ⊎ ((action_of a ≡ SetTrue) × (0 < length a.missing)))))

-- the row has values that its rule accepts
pub record Holds (a : Rule) (r : Row) : Type 0 where
  pub some : 0 < length r.values
  pub passes : values_fault a r.values ≡ []
  pub reading : r.reading ≡ reading_by a

abbrev pub Passes : List Rule → Row → Type 0
Passes c r = (a : Rule) → arg_by_id c r.id ≡ Some a → Holds a r

abbrev pub Rows : List Rule → List Row → Type 0
Rows c = Each (Passes c)

pub same_some : {X : Type 0} (x y : X) → Some x ≡ Some y → x ≡ y
same_some x y e = cc

at_row_passes : (c : List Rule) (id : Text) (change : Row → List Row) (missing rows : List Row) → Rows c rows
    → ((r : Row) → bytes_eq r.id id ≡ true → Passes c r → Rows c (change r)) → Rows c missing
    → Rows c (at_row id change missing rows)
at_row_passes c id change missing [] h k m = m
at_row_passes c id change missing (r ∷ rs) h k m =
    go (bytes_eq r.id id) refl (at_row_passes c id change missing rs h.1 k m)
  where
    go : (b : Bool) → bytes_eq r.id id ≡ b → Rows c (at_row id change missing rs)
        → Rows c (cond b (change r ++ rs) (r ∷ at_row id change missing rs))
    go true is later = each_joined (Passes c) (change r) rs (k r is h.0) h.1
    go false is later = (h.0, later)

without_passes : (c : List Rule) (id : Text) (rows : List Row) → Rows c rows → Rows c (without id rows)
without_passes c id rows h = at_row_passes c id (λ _. []) [] rows h (λ r e p. tt) tt

-- values that a rule accepts
pub with_values_passes : (c : List Rule) (a : Rule) (s : ValueSource) (values : List Text) (rows : List Row)
    → arg_by_id c a.id ≡ Some a → 0 < length values
    → values_fault a values ≡ [] → Rows c rows → Rows c (with_values a.id (reading_by a) s values rows)
with_values_passes c a s values rows first lt passes h = at_row_passes c a.id (more_values s values) _ rows h
    (λ r is p. (
      λ b found.
          let old = p b found in
          let id_is : r.id ≡ a.id = (bytes_eq-Decides r.id a.id).0 is in
          let same : b ≡ a = same_some b a (sym found ∙ (ap (arg_by_id c) id_is ∙ first)) in
          record {
            some = longer r.values values old.some;
            passes = kinds_joined _ _ r.values values old.passes
                (subst (λ (x : Rule). values_fault x values ≡ []) (sym same) passes);
            reading = old.reading;
          },
      tt,
    )) (
      (λ b found.
          let same : a ≡ b = same_some a b (sym first ∙ found) in
          subst (λ (x : Rule). Holds x
          (record { id = a.id; values = values; count = None; source = Some s; reading = reading_by a })) same
          (record { some = lt; passes = passes; reading = refl })),
      tt,
    )

-- ---- one use of an argument

used_set : (c : List Rule) (again : Bool) (a : Rule) (values : List Text) (rows : List Row) → arg_by_id c a.id ≡ Some a
    → 0 < length values
    → action_fault Set again a (values_or_missing a values) rows ≡ [] → Rows c rows
    → Rows c (used_as Set a.id (reading_by a) (values_or_missing a values) rows)
used_set c again a [] rows first lt e h = absurd (omega arith)
used_set c again a (v ∷ vs) rows first lt e h =
    with_values_passes c a CommandLine (v ∷ vs) (without a.id rows) first lt
    (neither (repeat_fault again a.id rows) _ e).1 (without_passes c a.id rows h)

used_append : (c : List Rule) (again : Bool) (a : Rule) (values : List Text) (rows : List Row) → arg_by_id c a.id
    ≡ Some a
    → 0 < length values
    → action_fault Append again a (values_or_missing a values) rows ≡ [] → Rows c rows
    → Rows c (used_as Append a.id (reading_by a) (values_or_missing a values) rows)
used_append c again a [] rows first lt e h = absurd (omega arith)
used_append c again a (v ∷ vs) rows first lt e h = with_values_passes c a CommandLine (v ∷ vs) rows first lt e h

-- the values of a use, or those that stand for none
some_value : (a : Rule) (values : List Text) → 0 < length a.missing → 0 < length (values_or_missing a values)
some_value a [] lt = lt
some_value a (v ∷ vs) lt = omega arith

used_flag : (c : List Rule) (again : Bool) (a : Rule) (values : List Text) (rows : List Row) → arg_by_id c a.id ≡ Some a
    → 0 < length a.missing
    → action_fault SetTrue again a (values_or_missing a values) rows ≡ [] → Rows c rows
    → Rows c (used_as SetTrue a.id (reading_by a) (values_or_missing a values) rows)
used_flag c again a values rows first lt e h =
    with_values_passes c a CommandLine (values_or_missing a values) (without a.id rows) first (some_value a values lt)
    (neither (repeat_fault again a.id rows) _ e).1 (without_passes c a.id rows h)

pub used_passes : (c : List Rule) (again : Bool) (a : Rule) (values : List Text) (rows : List Row) → IsFit c a
    → use_fault again a values rows ≡ [] → Rows c rows → Rows c (used a values rows)
used_passes c again a values rows fit e h =
    let parts = neither (range_kinds (unwrap_or_range a.range).start_inclusive (most_values a) (length values)) _ e in
    elim fit.action [
      | inl p ↦
          let own : action_fault Set again a (values_or_missing a values) rows ≡ [] =
          subst (λ x. action_fault x again a (values_or_missing a values) rows ≡ []) p.0 parts.1 in
          subst (λ x. Rows c (used_as x a.id (reading_by a) (values_or_missing a values) rows)) (sym p.0)
          (used_set c again a values rows fit.first (given _ _ (length values) p.1 parts.0) own h)
      | inr (inl p) ↦
          let own : action_fault Append again a (values_or_missing a values) rows ≡ [] =
          subst (λ x. action_fault x again a (values_or_missing a values) rows ≡ []) p.0 parts.1 in
          subst (λ x. Rows c (used_as x a.id (reading_by a) (values_or_missing a values) rows)) (sym p.0)
          (used_append c again a values rows fit.first (given _ _ (length values) p.1 parts.0) own h)
      | inr (inr (inl p)) ↦ subst (λ x. Rows c (used_as x a.id (reading_by a) (values_or_missing a values) rows))
          (sym p) h
      | inr (inr (inr (inl p))) ↦
          subst (λ x. Rows c (used_as x a.id (reading_by a) (values_or_missing a values) rows)) (sym p) h
      | inr (inr (inr (inr p))) ↦
          let own : action_fault SetTrue again a (values_or_missing a values) rows ≡ [] =
          subst (λ x. action_fault x again a (values_or_missing a values) rows ≡ []) p.0 parts.1 in
          subst (λ x. Rows c (used_as x a.id (reading_by a) (values_or_missing a values) rows)) (sym p.0)
          (used_flag c again a values rows fit.first p.1 own h)
    ]
