-- The arguments of a command line: the rules by which `clap` reads them, and the texts and numbers that they have.
-- Source: own choice; `Rattle.clap.specs` says how `clap` reads words.
use Rattle.std.specs.Prelude.{ℕ, ◌≡◌, pos, Bool, true, false, List, [], ◌∷◌, Option, Some, is_some, codes, bytes_eq}
use Rattle.std.specs.Prelude.{ℤ, negsuc, neg_ℤ, ◌≤ℤ◌}
use Rattle.std.specs.Option.{option_map_or}
use Rattle.std.specs.Prelude.{unwrap_or}
use Rattle.std.specs.Str.Parse.{digits_value, signed_digits_value, without_leading_plus}
use Rattle.clap.specs.Words.{Text, Rule, Row, IsSignedIn, new_rule, all_of, first_of, one_of, without_minus}
use Rattle.clap.specs.declared.builder.action.ArgAction.TheVariants.{Append, SetTrue}
use Rattle.clap.specs.declared.builder.value_parser.ValueParser.{ValueParser}
use Rattle.clap.specs.declared.builder.value_parser.ValueParser.TheVariants.{Signed}

-- ---- their rules

-- a file that has to be named
abbrev pub file_rule : Text → Rule
file_rule id = record (new_rule id) { value_names = 1; required = true }

-- an option with a value
abbrev pub option_rule : Text → Rule
option_rule id = record (new_rule id) { long = Some id; value_names = 1 }

-- an option with a text, and what it is where it is not given
abbrev pub text_rule : Text → Text → Rule
text_rule id default = record (option_rule id) { defaults = default ∷ [] }

-- an option with a text that may be given several times
abbrev pub texts_rule : Text → Rule
texts_rule id = record (option_rule id) { action = Some Append }

-- an option with nothing behind it
abbrev pub flag_rule : Text → Rule
flag_rule id = record (option_rule id) { action = Some SetTrue }

-- an option with a text that has to be given
abbrev pub wanted_rule : Text → Rule
wanted_rule id = record (option_rule id) { required = true }

-- an option whose value is a number of a range, and has to be given
abbrev pub wanted_number_rule : Text → ValueParser → Rule
wanted_number_rule id parser = record (wanted_rule id) { parser = Some parser }

-- an option whose value is a number of a range, and what it is where it is not given
abbrev pub number_rule : Text → ValueParser → Text → Rule
number_rule id parser default = record (option_rule id) { parser = Some parser; defaults = default ∷ [] }

-- the numbers of a range
abbrev pub between : ℕ → ℕ → ValueParser
between least most = Signed (pos least) (pos most)

-- the numbers that are at most this far from zero
abbrev pub around : ℕ → ValueParser
around most = Signed (neg_ℤ (pos most)) (pos most)

-- ---- what they have

-- the text of an argument
abbrev pub text_at : Text → List Row → Text
text_at id rows = option_map_or (λ t. t) (first_of id rows) []

-- the texts of an argument in their order, none where it is not given
abbrev pub texts_at : Text → List Row → List Text
texts_at id rows = unwrap_or (all_of id rows) []

-- an option with nothing behind it was given
abbrev pub flag_at : Text → List Row → Bool
flag_at id rows = option_map_or (λ t. bytes_eq t (codes "true")) (first_of id rows) false

-- the number of an argument
abbrev pub number_at : Text → List Row → ℕ
number_at id rows = option_map_or (λ t. digits_value 10 (without_leading_plus t)) (one_of id rows) 0

-- the number of an argument, which may be negative
abbrev pub signed_at : Text → List Row → ℤ
signed_at id rows = option_map_or (λ t. signed_digits_value 10 t) (one_of id rows) (pos 0)

-- a number is at most this far from zero
abbrev pub IsWithin : ℕ → ℤ → Type 0
IsWithin most n = (neg_ℤ (pos most) ≤ℤ n) × (n ≤ℤ pos most)

-- the argument has a text
abbrev pub HasText : Text → List Row → Type 0
HasText id rows = is_some (first_of id rows) ≡ true

-- the argument has a number of a range
pub record HasNumber (least most : ℕ) (id : Text) (rows : List Row) : Type 0 where
  pub text : Text
  pub read : one_of id rows ≡ Some (without_minus text)
  pub within : IsSignedIn (pos least) (pos most) text

-- the argument has a number between two
pub record HasBetween (least most : ℤ) (id : Text) (rows : List Row) : Type 0 where
  pub text : Text
  pub read : one_of id rows ≡ Some text
  pub within : IsSignedIn least most text

-- the argument has a number that is at most this far from zero
abbrev pub HasSigned : ℕ → Text → List Row → Type 0
HasSigned most id rows = HasBetween (neg_ℤ (pos most)) (pos most) id rows

-- a number of a range is there, if the argument has one; else a text
abbrev pub HasParsed : Option ValueParser → Text → List Row → Type 0
HasParsed (Some (Signed (pos least) (pos most))) id rows = HasNumber least most id rows
HasParsed (Some (Signed (negsuc below) most)) id rows = HasBetween (negsuc below) most id rows
HasParsed parser id rows = HasText id rows

-- an argument has its number or text, unless it may be left out and has no default
abbrev pub HasWanted : Bool → List Text → Rule → List Row → Type 0
HasWanted false [] a rows = Unit {0}
HasWanted required defaults a rows = HasParsed a.parser a.id rows

-- all arguments that cannot be absent are there
abbrev pub HasAll : List Rule → List Row → Type 0
HasAll [] rows = Unit {0}
HasAll (a ∷ rest) rows = HasWanted a.required a.defaults a rows × HasAll rest rows
