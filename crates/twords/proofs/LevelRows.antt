-- The rows that the words of one level leave, with the defaults: which arguments have one, with which values.
use Rattle.std.proofs.Common.{◌≡◌, ◌∙◌, ◌<◌, ◌&&◌, ◌||◌, Bool, cond, true, false, not, suc, refl, sym, ap, subst, arith}
use Rattle.std.proofs.Common.{List, [], ◌∷◌, ◌++◌, length, Option, Some, None, is_some, true≢false}
use Rattle.std.specs.List.{find, fold, list_any}
use Rattle.std.specs.Str.{bytes_eq}
use Rattle.std.proofs.lemmas.Bool.{ne_eqb}
use Rattle.std.proofs.lemmas.Slice.Eq.{bytes_eq-Decides}
use Rattle.clap.specs.Kinds.{Kinds, check_kinds, request_kinds}
use Rattle.clap.specs.Walk.{Held, Names, Row, Rule, Text, action_of, arg_by_id, default_rows, has_row, is_empty}
use Rattle.clap.specs.Walk.{more_values, nothing_held, reading_by, rows_after, settled, walk}
use Rattle.clap.specs.Walk.{walk_from, with_default, with_values}
use Rattle.clap.specs.Simple.{Shape}
use Rattle.clap.specs.Takes.{is_given}
use Rattle.clap.specs.Faults.{default_fault, check_fault, defaults_fault, level_fault, given_default_fault}
use Rattle.clap.specs.Faults.{settle_fault, values_fault, walk_fault}
use Rattle.clap.specs.declared.builder.value_parser.Reading.{Reading}
use Rattle.clap.specs.declared.parser.matches.ValueSource.{ValueSource}
use Rattle.clap.specs.declared.parser.matches.ValueSource.TheVariants.{DefaultValue}
use Rattle.twords.proofs.AcceptedRows.{neither, Each, each_found, IsFit, Holds, Passes, Rows, same_some}
use Rattle.twords.proofs.AcceptedRows.{with_values_passes}
use Rattle.twords.proofs.WordWalks.{settled_passes, walk_passes}

-- ---- the end of the words

-- the rule has a row, which passes
pub record Found (a : Rule) (rows : List Row) : Type 0 where
  pub row : Row
  pub at : find (λ r. bytes_eq r.id a.id) rows ≡ Some row
  pub holds : Holds a row

or_right : (a b : Bool) → b ≡ true → (a || b) ≡ true
or_right true b e = refl
or_right false b e = e

found_at : (c : List Rule) (a : Rule) (rows : List Row) → arg_by_id c a.id ≡ Some a → Rows c rows → (r : Row)
    → find (λ x. bytes_eq x.id a.id) rows ≡ Some r → Found a rows
found_at c a rows first h r is =
    let own = each_found (Passes c) (λ x. bytes_eq x.id a.id) rows r h is in
    let id_is : r.id ≡ a.id = (bytes_eq-Decides r.id a.id).0 own.1 in
    record { row = r; at = is; holds = own.0 a (ap (arg_by_id c) id_is ∙ first) }

no_row : (id : Text) (rows : List Row) → has_row id rows ≡ true → find (λ r. bytes_eq r.id id) rows ≡ None → ⊥
no_row id [] e is = true≢false (sym e)
no_row id (r ∷ rs) e is = go (bytes_eq r.id id) e is (no_row id rs)
  where
    go : (b : Bool) → (b || has_row id rs) ≡ true → cond b (Some r) (find (λ x. bytes_eq x.id id) rs) ≡ None
        → (has_row id rs ≡ true → find (λ x. bytes_eq x.id id) rs ≡ None → ⊥) → ⊥
    go true f g later = true≢false (ap (λ o. is_some o) g)
    go false f g later = later f g

row_found : (c : List Rule) (a : Rule) (rows : List Row) → arg_by_id c a.id ≡ Some a → Rows c rows
    → has_row a.id rows ≡ true → Found a rows
row_found c a rows first h e = go (find (λ r. bytes_eq r.id a.id) rows) refl
  where
    go : (o : Option Row) → find (λ r. bytes_eq r.id a.id) rows ≡ o → Found a rows
    go None is = absurd (no_row a.id rows e is)
    go (Some r) is = found_at c a rows first h r is

-- rows are only added
row_kept : (id other : Text) (how : Reading) (s : ValueSource) (values : List Text) (rows : List Row)
    → has_row id rows ≡ true → has_row id (with_values other how s values rows) ≡ true
row_kept id other how s values [] e = absurd (true≢false (sym e))
row_kept id other how s values (r ∷ rs) e = go (bytes_eq r.id other) (row_kept id other how s values rs)
  where
    later : (b : Bool) → (b || has_row id rs) ≡ true
        → (has_row id rs ≡ true → has_row id (with_values other how s values rs) ≡ true)
        → (b || has_row id (with_values other how s values rs)) ≡ true
    later true f k = refl
    later false f k = k f

    go : (b : Bool) → (has_row id rs ≡ true → has_row id (with_values other how s values rs) ≡ true)
        → has_row id (cond b (more_values s values r ++ rs) (r ∷ with_values other how s values rs)) ≡ true
    go true k = e
    go false k = later (bytes_eq r.id id) e k

row_made : (id : Text) (how : Reading) (s : ValueSource) (values : List Text) (rows : List Row)
    → has_row id (with_values id how s values rows) ≡ true
row_made id how s values [] = ap (λ b. b || false) ((bytes_eq-Decides id id).1 refl)
row_made id how s values (r ∷ rs) = go (bytes_eq r.id id) refl (row_made id how s values rs)
  where
    go : (b : Bool) → bytes_eq r.id id ≡ b → has_row id (with_values id how s values rs) ≡ true
        → has_row id (cond b (more_values s values r ++ rs) (r ∷ with_values id how s values rs)) ≡ true
    go true is k = ap (λ b. b || has_row id rs) is
    go false is k = or_right (bytes_eq r.id id) _ k

default_kept : (id : Text) (rows : List Row) (a : Rule) → has_row id rows ≡ true
    → has_row id (with_default rows a) ≡ true
default_kept id rows a e = go (has_row a.id rows) a.defaults
  where
    go : (b : Bool) (values : List Text)
        → has_row id (cond b rows (default_rows a.id (reading_by a) values rows)) ≡ true
    go false (v ∷ vs) = row_kept id a.id (reading_by a) DefaultValue (v ∷ vs) rows e
    go _ _ = e

default_made : (rows : List Row) (a : Rule) → 0 < length a.defaults → has_row a.id (with_default rows a) ≡ true
default_made rows a lt = go (has_row a.id rows) refl a.defaults lt
  where
    go : (b : Bool) → has_row a.id rows ≡ b → (values : List Text) → 0 < length values
        → has_row a.id (cond b rows (default_rows a.id (reading_by a) values rows)) ≡ true
    go true is values some = is
    go false is [] some = absurd (omega arith)
    go false is (v ∷ vs) some = row_made a.id (reading_by a) DefaultValue (v ∷ vs) rows

defaults_kept : (id : Text) (rules : List Rule) (rows : List Row) → has_row id rows ≡ true
    → has_row id (fold with_default rows rules) ≡ true
defaults_kept id [] rows e = e
defaults_kept id (a ∷ rest) rows e = defaults_kept id rest (with_default rows a) (default_kept id rows a e)

defaults_made : (a : Rule) (rules : List Rule) (rows : List Row) → arg_by_id rules a.id ≡ Some a → 0 < length a.defaults
    → has_row a.id (fold with_default rows rules) ≡ true
defaults_made a [] rows e lt = cc
defaults_made a (x ∷ rest) rows e lt = go (bytes_eq x.id a.id) (defaults_made a rest (with_default rows x)) e
  where
    go : (b : Bool)
        → (arg_by_id rest a.id ≡ Some a → 0 < length a.defaults
        → has_row a.id (fold with_default (with_default rows x) rest) ≡ true)
        → cond b (Some x) (arg_by_id rest a.id) ≡ Some a
        → has_row a.id (fold with_default (with_default rows x) rest) ≡ true
    go true later f =
        let same : a ≡ x = sym (same_some x a f) in
        defaults_kept a.id rest (with_default rows x)
        (subst (λ (y : Rule). has_row a.id (with_default rows y) ≡ true) same (default_made rows a lt))
    go false later f = later f lt

default_passes : (c : List Rule) (rows : List Row) (a : Rule) → arg_by_id c a.id ≡ Some a → default_fault rows a ≡ []
    → Rows c rows → Rows c (with_default rows a)
default_passes c rows a first e h = go (has_row a.id rows) a.defaults refl e
  where
    go : (b : Bool) (values : List Text) → a.defaults ≡ values
        → cond (b || is_empty values) [] (given_default_fault a values) ≡ []
        → Rows c (cond b rows (default_rows a.id (reading_by a) values rows))
    go false (v ∷ vs) is f =
        let some : is_empty (v ∷ vs) ≡ false = ne_eqb (suc (length vs)) 0 (λ n. omega arith) in
        let own : given_default_fault a (v ∷ vs) ≡ [] = rw some at f in
        with_values_passes c a DefaultValue (v ∷ vs) rows first (omega arith)
        (neither (request_kinds (action_of a)) (values_fault a (v ∷ vs)) own).1 h
    go _ _ is f = h

defaults_pass : (c rules : List Rule) (rows : List Row) → Each (IsFit c) rules → defaults_fault rows rules ≡ []
    → Rows c rows → Rows c (fold with_default rows rules)
unfolding defaults_fault
defaults_pass c [] rows fits e h = h
defaults_pass c (a ∷ rest) rows fits e h =
    let parts = neither (default_fault rows a) _ e in
    defaults_pass c rest (with_default rows a) fits.1 parts.1 (default_passes c rows a fits.0.first parts.0 h)

-- ---- a whole level

-- none of the last checks fails
checks : (help command argument : Bool) → check_kinds help command argument ≡ [] → (command ≡ false)
    × (argument ≡ false)
checks false false false e = (refl, refl)
checks _ _ _ e = cc

none_any : {X : Type 0} (test : X → Bool) (xs : List X) → list_any test xs ≡ false → Each (λ x. test x ≡ false) xs
none_any test [] e = tt
none_any test (x ∷ xs) e = go (test x) refl e (none_any test xs)
  where
    go : (b : Bool) → test x ≡ b → (b || list_any test xs) ≡ false
        → (list_any test xs ≡ false → Each (λ y. test y ≡ false) xs)
        → (test x ≡ false) × Each (λ y. test y ≡ false) xs
    go true is f later = absurd (true≢false f)
    go false is f later = (is, later f)

-- what the words give at one level of a parse that no step refuses
pub level_passes : (s : Shape) (names : Names) (words : List Text) (has : Bool) (below : Kinds)
    → Each (IsFit s.rules) s.rules
    → level_fault s names nothing_held words has below ≡ []
    → Rows s.rules (rows_after s.rules names words) × (below ≡ [])
    × (check_fault s (rows_after s.rules names words) has ≡ [])
level_passes s names words has below fits e =
    let end : Held = (walk s.rules names nothing_held words).held in
    let walking = neither (walk_fault s names (walk_from nothing_held) words) _ e in
    let entering = neither below _ walking.1 in
    let settling = neither (settle_fault s.rules s.args_override_self end) _ entering.1 in
    let filling = neither (defaults_fault (settled s.rules end).rows s.rules) _ settling.1 in
    let walked_rows : Rows s.rules end.rows = walk_passes s names fits words (walk_from nothing_held) walking.0 tt in
    let settled_rows : Rows s.rules (settled s.rules end).rows =
    settled_passes s.rules s.args_override_self fits end settling.0 walked_rows in
    (defaults_pass s.rules s.rules (settled s.rules end).rows fits filling.0 settled_rows, entering.0, filling.1)

-- an argument with a default has a row
pub default_found : (c : List Rule) (names : Names) (words : List Text) (a : Rule) → arg_by_id c a.id ≡ Some a
    → 0 < length a.defaults
    → Rows c (rows_after c names words) → Found a (rows_after c names words)
default_found c names words a first lt h =
    row_found c a (rows_after c names words) first h
    (defaults_made a c (settled c (walk c names nothing_held words).held).rows first lt)

-- and so has one that is required
pub required_found : (s : Shape) (rows : List Row) (a : Rule) → arg_by_id s.rules a.id ≡ Some a → a.required ≡ true
    → check_fault s rows false ≡ []
    → Rows s.rules rows → Found a rows
required_found s rows a first wanted e h = go (find (λ r. bytes_eq r.id a.id) rows) refl
  where
    absent : list_any (λ x. x.required && not (is_given x.id rows)) s.rules ≡ false
    absent = not_negated s.subcommand_negates_reqs _ (checks _ _ _ e).1
      where
        not_negated : (b rest : Bool) → (not (b && false) && rest) ≡ false → rest ≡ false
        not_negated true rest f = f
        not_negated false rest f = f

    here : (a.required && not (is_given a.id rows)) ≡ false
    here = (each_found (λ x. (x.required && not (is_given x.id rows)) ≡ false) _ s.rules a (none_any _ s.rules absent)
        first).0

    go : (o : Option Row) → find (λ r. bytes_eq r.id a.id) rows ≡ o → Found a rows
    go None is =
        let bad : true ≡ false = rw (wanted, is) at here in
        absurd (true≢false bad)
    go (Some r) is = found_at s.rules a rows first h r is

-- no subcommand is wanted, or there is one
pub subcommand_wanted : (s : Shape) (rows : List Row) (has : Bool) → check_fault s rows has ≡ []
    → s.subcommand_required ≡ true → has ≡ true
subcommand_wanted s rows true e wanted = refl
subcommand_wanted s rows false e wanted = absurd (true≢false (sym wanted ∙ (checks _ _ _ e).0))
