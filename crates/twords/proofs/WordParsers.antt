-- A parser to which arguments and commands are added.
use Rattle.std.proofs.Common.{◌≡◌, ◌∙◌, ◌+◌, ◌<◌, ℕ, Bool, false, Option, ap, ap₂, List, [], ◌∷◌, ◌++◌, map, refl}
use Rattle.std.proofs.Common.{subst}
use Rattle.std.proofs.Common.{sym, drop, get_or, length, suc, arith}
use Rattle.std.proofs.Math.Seq.{drop-cons}
use Rattle.std.specs.List.{find, fold}
use Rattle.std.specs.Str.{bytes_eq}
use Rattle.std.proofs.lemmas.List.{append-nil, append_assoc}
use Rattle.std.specs.Prelude.{◌||◌}
use Rattle.clap.specs.Words.{AddsArg, AddsSubcommand, App, Rule, Shape, app_of, rule_of, with_rule, with_subcommand}
use Rattle.clap.specs.Words.{Text}
use Rattle.clap.specs.declared.builder.arg.Arg.{Arg}
use Rattle.clap.specs.declared.builder.command.Command.{Command as Parser}
use Rattle.twords.specs.Table.{name_of}
use Rattle.twords.specs.CommandLines.{HasShape, IsLocal, rule_of_row, shape_of}
use Rattle.twords.specs.declared.table.Argument.{Argument}
use Rattle.twords.specs.declared.table.Which.{Which}

-- one more argument, the last
pub adds : (s : Shape) (old : Parser) (a : Arg) (rule : Rule) (new : Parser) → AddsArg old a new → rule_of a ≡ rule
    → IsLocal a → HasShape s old
    → HasShape (record s { rules = s.rules ++ rule ∷ [] }) new
adds s old a rule new added is local shape = (
  added.shape local ∙ ap₂ with_rule shape.0 is,
  added.globals ∙ ap₂ (λ b d. b || d) shape.1 local,
)

-- a parser that lacks the rules of these rows, which are the last, to have a shape
abbrev pub Lacks : Shape → List Argument → Parser → Type 0
Lacks s rest c = (old : List Rule) × HasShape (record s { rules = old }) c × (old ++ map rule_of_row rest ≡ s.rules)

-- it gets the first of them
pub lacks_less : (s : Shape) (row : Argument) (rest : List Argument) (old : Parser) (a : Arg) (new : Parser)
    → AddsArg old a new → rule_of a ≡ rule_of_row row → IsLocal a → Lacks s (row ∷ rest) old → Lacks s rest new
lacks_less s row rest old a new added is local lacks = (
  lacks.0 ++ rule_of_row row ∷ [],
  adds (record s { rules = lacks.0 }) old a (rule_of_row row) new added is local lacks.1,
  append_assoc lacks.0 (rule_of_row row ∷ []) (map rule_of_row rest) ∙ lacks.2,
)

-- where none is left, it has the shape
pub lacks_none : (s : Shape) (c : Parser) → Lacks s [] c → HasShape s c
lacks_none s c lacks =
    let all : lacks.0 ≡ s.rules = sym (append-nil lacks.0) ∙ lacks.2 in
    subst (λ (rules : List Rule). HasShape (record s { rules = rules }) c) all lacks.1

-- one more command, the last
pub adds_command : (a : App) (old : Parser) (s : Shape) (sub new : Parser) → AddsSubcommand old sub new → HasShape s sub
    → app_of old ≡ a
    → app_of new ≡ with_subcommand a s
adds_command a old s sub new added shape is = added.shape shape.1
    ∙ ap₂ with_subcommand is (ap (λ (b : App). b.top) shape.0)

-- ---- one turn of a loop

-- what is left at a place, and behind it
drop_next : {X : Type 0} (l : List X) (i : ℕ) (d : X) → i < length l → drop i l ≡ get_or l i d ∷ drop (i + 1) l
drop_next l i d lt =
    let next : suc i ≡ i + 1 = omega arith in
    drop-cons l i d lt ∙ ap (λ (n : ℕ). get_or l i d ∷ drop n l) next

-- one more argument of the rows
pub lacks_next : (s : Shape) (rows : List Argument) (i : ℕ) (d : Argument) (old : Parser) (a : Arg) (new : Parser)
    → i < length rows → AddsArg old a new → rule_of a ≡ rule_of_row (get_or rows i d) → IsLocal a
    → Lacks s (drop i rows) old → Lacks s (drop (i + 1) rows) new
lacks_next s rows i d old a new lt added is local lacks =
    lacks_less s (get_or rows i d) (drop (i + 1) rows) old a new added is local
    (subst (λ (rest : List Argument). Lacks s rest old) (drop_next rows i d lt) lacks)

-- one more command of the table
pub adds_next : (list : List Which) (i : ℕ) (d : Which) (old sub new : Parser) (all : App) → i < length list
    → AddsSubcommand old sub new → HasShape (shape_of (get_or list i d)) sub
    → fold (λ app which. with_subcommand app (shape_of which)) (app_of old) (drop i list) ≡ all
    → fold (λ app which. with_subcommand app (shape_of which)) (app_of new) (drop (i + 1) list) ≡ all
adds_next list i d old sub new all lt added has e =
    let more : app_of new ≡ with_subcommand (app_of old) (shape_of (get_or list i d)) =
    adds_command (app_of old) old (shape_of (get_or list i d)) sub new added has refl in
    ap (λ (app : App). fold (λ app which. with_subcommand app (shape_of which)) app (drop (i + 1) list)) more
    ∙ (sym (ap (λ (rest : List Which). fold (λ app which. with_subcommand app (shape_of which)) (app_of old) rest)
    (drop_next list i d lt)) ∙ e)

-- one more command that has another name
pub skips_next : (list : List Which) (i : ℕ) (d : Which) (name told : Text) (same : Bool) (found : Option Which)
    → i < length list → told ≡ name_of (get_or list i d) → same ≡ bytes_eq told name → same ≡ false
    → find (λ which. bytes_eq (name_of which) name) (drop i list) ≡ found
    → find (λ which. bytes_eq (name_of which) name) (drop (i + 1) list) ≡ found
skips_next list i d name told same found lt is compared differs e =
    let test : bytes_eq (name_of (get_or list i d)) name ≡ false =
    ap (λ (t : Text). bytes_eq t name) (sym is) ∙ (sym compared ∙ differs) in
    let skipped : find (λ which. bytes_eq (name_of which) name) (get_or list i d ∷ drop (i + 1) list)
    ≡ find (λ which. bytes_eq (name_of which) name) (drop (i + 1) list) = rw test refl in
    sym skipped
    ∙ (sym (ap (λ (rest : List Which). find (λ which. bytes_eq (name_of which) name) rest) (drop_next list i d lt)) ∙ e)
