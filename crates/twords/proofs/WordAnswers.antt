-- What the arguments of each command hold where the words are taken.
use Rattle.std.proofs.Common.{◌≡◌, ◌∙◌, ◌<◌, ℕ, Bool, cond, true, false, refl, sym, ap, ap₂, subst, arith, List, []}
use Rattle.std.proofs.Common.{◌∷◌, length, Option, Some, None, is_some, inl, inr, true≢false}
use Rattle.std.specs.Prelude.{option_map, option_and_then, slice_get, unwrap_or, IsSomeAnd}
use Rattle.std.proofs.Common.{suc, rules, ◌++◌, map, pos, ℤ, negsuc}
use Rattle.std.proofs.lemmas.Bool.{ne_eqb}
use Rattle.std.specs.List.{find}
use Rattle.std.specs.Option.{option_map_or}
use Rattle.clap.specs.Facts.{parser_of_value, unwrap_or_range}
use Rattle.clap.specs.Kinds.{value_kinds}
use Rattle.clap.specs.Values.{read_as, reading_of, refused_kind}
use Rattle.clap.specs.ValueTests.{accepts}
use Rattle.clap.specs.Walk.{Row, Rule, Text, action_of, answers_to, arg_by_id, is_empty, nothing_held, row_text}
use Rattle.clap.specs.Walk.{rows_after, walk}
use Rattle.clap.specs.Simple.{Shape, argument_words, built, built_leaf, entered, filled, filled_from, help_rule}
use Rattle.clap.specs.Simple.{index_after, inherited, label_of, parser_for, with_action, with_default_value}
use Rattle.clap.specs.Simple.{with_missing_value}
use Rattle.clap.specs.Simple.{marked_built, names_of, rows_at, subcommand_of, with_index, with_leaf_noted}
use Rattle.clap.specs.Faults.{check_fault, entered_fault, level_fault, values_fault}
use Rattle.clap.specs.declared.builder.action.ArgAction.TheVariants.{Set, Append, Help, SetTrue, Version}
use Rattle.clap.specs.declared.builder.value_parser.ValueParser.{ValueParser}
use Rattle.clap.specs.declared.builder.value_parser.ValueParser.TheVariants as vp
use Rattle.clap.specs.declared.builder.value_parser.Reading.TheVariants.{AsWritten}
use Rattle.clap.specs.Words.{HasMatchesOf, app_of, fault_of, found_of, is_simple, is_simple_and_free, rows_of}
use Rattle.clap.specs.Words.{subcommand_name_of, subcommand_rows_of}
use Rattle.clap.specs.declared.builder.command.Command.{Command as Parser}
use Rattle.clap.specs.declared.parser.matches.ArgMatches.{ArgMatches}
use Rattle.clap.specs.declared.parser.matches.ArgMatches.TheViews.{out-ArgMatches, out-SubCommand}
use Rattle.std.specs.Box.{box_value}
use Rattle.clap.proofs.ValueTestLemmas.{accepts-Accepts}
use Rattle.twords.specs.Arguments.{HasAll, HasBetween, HasNumber, HasParsed, HasText, HasWanted, between}
use Rattle.twords.specs.Table.{commands, name_of, rules_of}
use Rattle.twords.specs.CommandLines.{IsWhole, program, named, shape_of}
use Rattle.twords.specs.declared.table.Which.{Which}
use Rattle.twords.proofs.AcceptedRows.{Each, IsFit, Holds, Rows, each_found, neither}
use Rattle.twords.proofs.LevelRows.{Found, default_found, level_passes, required_found, subcommand_wanted}

-- ---- what a row gives

-- the first value
value_of : (a : Rule) (r : Row) → Holds a r → (t : Text) × (slice_get r.values 0 ≡ Some t)
    × (accepts a.ignore_case (parser_of_value a.parser) t ≡ true)
value_of a r h = go r.values h.some h.passes
  where
    accepted : (b : Bool) (t : Text) → cond b [] (refused_kind (parser_of_value a.parser) ∷ []) ≡ [] → b ≡ true
    accepted true t e = refl
    accepted false t e = cc

    go : (vs : List Text) → 0 < length vs → values_fault a vs ≡ [] → (t : Text) × (slice_get vs 0 ≡ Some t)
        × (accepts a.ignore_case (parser_of_value a.parser) t ≡ true)
    go [] lt e = absurd (omega arith)
    go (v ∷ vs) lt e = (v, refl, accepted _ v (neither (value_kinds a.ignore_case (parser_of_value a.parser) v) _ e).0)

pub text_found : (a : Rule) (rows : List Row) → Found a rows → HasText a.id rows
text_found a rows f =
    let v = value_of a f.row f.holds in
    ap (λ o. is_some (option_and_then (λ (r : Row). slice_get r.values 0) o)) f.at ∙ ap (λ o. is_some o) v.1

pub number_found : (least most : ℕ) (a : Rule) (rows : List Row) → a.parser ≡ Some (between least most) → Found a rows
    → HasNumber least most a.id rows
number_found least most a rows is f =
    let v = value_of a f.row f.holds in
    let signed : parser_of_value a.parser ≡ between least most = ap parser_of_value is in
    record {
      text = v.0;
      read = ap (option_and_then row_text) f.at ∙ (ap (option_map (read_as f.row.reading)) v.1
          ∙ ap (λ how. Some (read_as how v.0)) (f.holds.reading ∙ ap reading_of signed));
      within = accepts-Accepts a.ignore_case (between least most) v.0
          (subst (λ (p : ValueParser). accepts a.ignore_case p v.0 ≡ true) signed v.2);
    }

pub between_found : (least most : ℤ) (a : Rule) (rows : List Row) → a.parser ≡ Some (vp.Signed least most)
    → reading_of (vp.Signed least most) ≡ AsWritten → Found a rows → HasBetween least most a.id rows
between_found least most a rows is how f =
    let v = value_of a f.row f.holds in
    let signed : parser_of_value a.parser ≡ vp.Signed least most = ap parser_of_value is in
    record {
      text = v.0;
      read = ap (option_and_then row_text) f.at ∙ (ap (option_map (read_as f.row.reading)) v.1
          ∙ ap (λ how. Some (read_as how v.0)) (f.holds.reading ∙ (ap reading_of signed ∙ how)));
      within = accepts-Accepts a.ignore_case (vp.Signed least most) v.0
          (subst (λ (p : ValueParser). accepts a.ignore_case p v.0 ≡ true) signed v.2);
    }

-- ---- the rules of the commands

-- a command as it is built
abbrev built_of : Shape → Shape
built_of s = built_leaf (inherited (with_leaf_noted (marked_built program.top)) s)

abbrev RulesFit : Shape → Type 0
RulesFit s = Each (IsFit s.rules) s.rules

-- a rule that takes one value
one_value : (c : List Rule) (a : Rule) → arg_by_id c a.id ≡ Some a → action_of a ≡ Set
    → (unwrap_or_range a.range).start_inclusive ≡ 1 → IsFit c a
one_value c a first set least = record { first = first; action = inl (set, omega arith) }

-- and one that takes one value each time
more_values : (c : List Rule) (a : Rule) → arg_by_id c a.id ≡ Some a → action_of a ≡ Append
    → (unwrap_or_range a.range).start_inclusive ≡ 1 → IsFit c a
more_values c a first append least = record { first = first; action = inr (inl (append, omega arith)) }

asks_help : (c : List Rule) (a : Rule) → arg_by_id c a.id ≡ Some a → action_of a ≡ Help → IsFit c a
asks_help c a first help = record { first = first; action = inr (inr (inl help)) }

asks_version : (c : List Rule) (a : Rule) → arg_by_id c a.id ≡ Some a → action_of a ≡ Version → IsFit c a
asks_version c a first version = record { first = first; action = inr (inr (inr (inl version))) }

-- a rule that takes no value, for which one stands
no_value : (c : List Rule) (a : Rule) → arg_by_id c a.id ≡ Some a → action_of a ≡ SetTrue → length a.missing ≡ 1
    → IsFit c a
no_value c a first flag missing =
    record { first = first; action = inr (inr (inr (inr (flag, omega (arith, missing))))) }

-- a command has such rules, and is found by its name
abbrev IsListed : Which → Type 0
IsListed which = RulesFit (built_of (shape_of which)) × (named (name_of which) ≡ Some which)

all_listed : Each IsListed commands
all_listed = search (rules, one_value, more_values, no_value, asks_help)

top_fits : RulesFit (built program).top
top_fits = (asks_help _ _ refl refl, (asks_version _ _ refl refl, tt))

-- ---- the commands

-- what the words ask for is whole
abbrev pub IsAnswered : Option (Text × List Row) → Type 0
IsAnswered None = ⊥
IsAnswered (Some (name, rows)) = IsWhole name rows

-- the words after the command's name are taken
abbrev IsTaken : Shape → List Text → Type 0
IsTaken s words = level_fault s [] nothing_held words false [] ≡ []

-- a rule of the table as it is built, with the number that the next file gets
abbrev as_built : ℕ → Rule → Rule
as_built i a = with_index i (filled a)

-- what an argument gives that has a row
parsed : (i : ℕ) (a : Rule) (rows : List Row) → Found (as_built i a) rows → HasParsed a.parser a.id rows
parsed i a rows f = go a.parser refl
  where
    left_out : ValueParser
    left_out = parser_for (action_of (with_missing_value (with_default_value (with_action a))))

    go : (p : Option ValueParser) → a.parser ≡ p → HasParsed p a.id rows
    go (Some (vp.Signed (pos least) (pos most))) is =
        number_found least most (as_built i a) rows (ap (λ (o : Option ValueParser). Some (unwrap_or o left_out)) is) f
    go (Some (vp.Signed (negsuc below) most)) is =
        between_found (negsuc below) most (as_built i a) rows
        (ap (λ (o : Option ValueParser). Some (unwrap_or o left_out)) is) refl f
    go _ is = text_found (as_built i a) rows f

-- a default stays, as the rule is built
some_default : (i : ℕ) (a : Rule) (d : Text) (ds : List Text) → a.defaults ≡ d ∷ ds
    → 0 < length (as_built i a).defaults
some_default i a d ds has =
    let full : is_empty a.defaults ≡ false = rw has (ne_eqb (suc (length ds)) 0 (λ n. omega arith)) in
    let same : (as_built i a).defaults ≡ d ∷ ds = rw full has in
    omega (arith, ap length same)

-- words that are taken give an argument that cannot be absent
wanted : (s : Shape) (words : List Text) (i : ℕ) (a : Rule) → RulesFit s → IsTaken s words
    → IsFit s.rules (as_built i a) → HasWanted a.required a.defaults a (rows_after s.rules [] words)
wanted s words i a fits e fit = go a.required refl a.defaults refl
  where
    go : (b : Bool) → a.required ≡ b → (defaults : List Text) → a.defaults ≡ defaults
        → HasWanted b defaults a (rows_after s.rules [] words)
    go true is defaults has =
        let level = level_passes s [] words false [] fits e in
        parsed i a _ (required_found s (rows_after s.rules [] words) (as_built i a) fit.first is level.2 level.0)
    go false is [] has = tt
    go false is (d ∷ ds) has =
        let level = level_passes s [] words false [] fits e in
        parsed i a _ (default_found s.rules [] words (as_built i a) fit.first (some_default i a d ds has) level.0)

-- and so all of them
all_wanted : (s : Shape) (words : List Text) (i : ℕ) (rules rest : List Rule) → RulesFit s → IsTaken s words
    → Each (IsFit s.rules) (filled_from i (rules ++ rest)) → HasAll rules (rows_after s.rules [] words)
all_wanted s words i [] rest fits e each = tt
all_wanted s words i (a ∷ rules) rest fits e each =
    (wanted s words i a fits e each.0, all_wanted s words (index_after i a) rules rest fits e each.1)

-- a command whose words are taken is whole
is_whole : (which : Which) (words : List Text) → IsListed which → IsTaken (built_of (shape_of which)) words
    → IsWhole (name_of which) (rows_after (built_of (shape_of which)).rules [] words)
is_whole which words listed e =
    let s : Shape = built_of (shape_of which) in
    subst (λ (o : Option Which). IsSomeAnd o (λ w. HasAll (rules_of w) (rows_after s.rules [] words))) (sym listed.1)
    (all_wanted s words 1 (rules_of which) (help_rule ∷ []) listed.0 e listed.0)

all_whole : (list : List Which) → Each IsListed list
    → Each (λ s. (words : List Text) → IsTaken s words → IsAnswered (Some (rows_at s words)))
    (map (λ which. built_of (shape_of which)) list)
all_whole [] listed = tt
all_whole (which ∷ rest) listed = (λ words e. is_whole which words listed.0 e, all_whole rest listed.1)

-- words that are not refused ask for one of the commands, with all that it needs
pub whole : (words : List Text) → fault_of program words ≡ [] → IsAnswered (subcommand_of program words)
whole words e =
    go (walk (built program).top.rules (names_of (built program)) nothing_held
    (argument_words (built program) words)).stopped
    (level_passes (built program).top (names_of (built program)) (argument_words (built program) words) _ _ top_fits e)
  where
    top_rows : List Row
    top_rows = rows_after (built program).top.rules (names_of (built program)) (argument_words (built program) words)

    inside : (p : Text × List Text) (o : Option Shape)
        → find (λ s. answers_to p.0 (label_of s)) (built program).subs ≡ o
        → option_map_or (λ s. level_fault s [] nothing_held p.1 false []) o [] ≡ []
        → is_some (option_map (λ s. rows_at s p.1) o) ≡ true
        → IsAnswered (option_map (λ s. rows_at s p.1) o)
    inside p None is f some = absurd (true≢false (sym some))
    inside p (Some s) is f some =
        (each_found (λ x. (words : List Text) → IsTaken x words → IsAnswered (Some (rows_at x words)))
        (λ x. answers_to p.0 (label_of x)) (built program).subs s (all_whole commands all_listed) is).0 p.1 f

    go : (stop : Option (Text × List Text))
        → Rows (built program).top.rules
        (rows_after (built program).top.rules (names_of (built program)) (argument_words (built program) words))
        × (entered_fault (built program) stop ≡ [])
        × (check_fault (built program).top
        (rows_after (built program).top.rules (names_of (built program)) (argument_words (built program) words))
        (is_some (entered (built program) stop)) ≡ [])
        → IsAnswered (entered (built program) stop)
    go None level = absurd (true≢false (sym (subcommand_wanted (built program).top top_rows false level.2 refl)))
    go (Some p) level =
        inside p (find (λ s. answers_to p.0 (label_of s)) (built program).subs) refl level.1
        (subcommand_wanted (built program).top top_rows _ level.2 refl)

abbrev both_of : {X : Type 0} → (X → Text) → (X → List Row) → X → Text × List Row
both_of f g x = (f x, g x)

-- the name and the rows of what was found
pair : {X : Type 0} (f : X → Text) (g : X → List Row) (x : Option X) (name : Text) (rows : List Row)
    → Some name ≡ option_map f x
    → Some rows ≡ option_map (λ (p : Text × List Row). p.1) (option_map (both_of f g) x)
    → option_map (both_of f g) x ≡ Some (name, rows)
pair f g None name rows e h = cc
pair f g (Some b) name rows e h =
    let n : f b ≡ name = cc in
    let r : g b ≡ rows = cc in
    ap₂ (λ (s : Text) (t : List Row). Some (s, t)) n r

-- a parse that succeeds
pub met : (p : Parser) (words : List Text) (m : ArgMatches) (name : Text) (rows : List Row) → app_of p ≡ program
    → (is_simple_and_free (app_of p) ≡ true → fault_of (app_of p) words ≡ []) → HasMatchesOf (app_of p) words m
    → Some name ≡ subcommand_name_of m → Some rows ≡ option_map (λ (s : Text × List Row). s.1) (subcommand_rows_of m)
    → (fault_of program words ≡ []) × (subcommand_of program words ≡ Some (name, rows)) × IsWhole name rows
met p words m name rows app faults matches is_name is_rows =
    let taken : fault_of program words ≡ [] =
    ap (λ a. fault_of a words) (sym app) ∙ faults (ap is_simple_and_free app) in
    let sub : subcommand_of program words ≡ Some (name, rows) =
    ap (λ a. subcommand_of a words) (sym app) ∙ (sym (matches (ap is_simple app)).1
    ∙ pair (λ b. (out-SubCommand (box_value b)).name.now)
    (λ b. rows_of (found_of (out-SubCommand (box_value b)).matches)) (out-ArgMatches m).subcommand name rows is_name
    is_rows) in
    (taken, sub, subst IsAnswered sub (whole words taken))
