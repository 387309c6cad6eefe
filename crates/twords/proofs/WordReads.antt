-- What the getters read of arguments that have a text or a number.
use Rattle.std.proofs.Common.{◌≡◌, ◌∙◌, ◌<◌, ◌≤◌, ◌^◌, ℕ, pos, Bool, true, false, refl, sym, ap, subst, arith, List, []}
use Rattle.std.proofs.Common.{Option, Some, None, Result, Ok, Err, ℤ, is_some, true≢false, Bor}
use Rattle.std.specs.Prelude.{option_map}
use Rattle.std.specs.Option.{option_map_or}
use Rattle.std.specs.Str.Parse.{ParsesSigned, ParsesUnsigned, digits_value, signed_digits_value, without_leading_plus}
use Rattle.std.specs.Prelude.{◌≤ℤ◌, FitsSigned}
use Rattle.std.specs.Int.{w64}
use Rattle.std.proofs.lemmas.Int.{ints}
use Rattle.clap.specs.Lexer.{without_minus}
use Rattle.clap.specs.Matches.{ReadsOne, first_value, found_of, one_text}
use Rattle.clap.specs.Values.{IsSignedIn}
use Rattle.clap.specs.ValueTests.{accepts}
use Rattle.clap.specs.Walk.{Row, Text, first_of, rows_of}
use Rattle.clap.specs.declared.builder.value_parser.ValueParser.TheVariants.{Unsigned}
use Rattle.clap.specs.declared.parser.matches.ArgMatches.{ArgMatches}
use Rattle.clap.proofs.CallerReads.{signed_reads}
use Rattle.clap.proofs.ValueTestLemmas.{accepts-Accepts, Accepts-accepts}
use Rattle.clap.proofs.WalkLemmas.{first_value-rows, one_text-rows}
use Rattle.twords.specs.Arguments.{HasBetween, HasNumber, HasText, number_at, signed_at, text_at}

-- the text of an argument that has one
pub text_read : (m : ArgMatches) (id : Text) (r : Option (Bor Text))
    → option_map (λ s. s.now) r ≡ first_value (found_of m) id → HasText id (rows_of (found_of m))
    → (s : Bor Text) × (r ≡ Some s) × (s.now ≡ text_at id (rows_of (found_of m)))
text_read m id None e h =
    let none : first_of id (rows_of (found_of m)) ≡ None = sym (first_value-rows (found_of m) id) ∙ sym e in
    let bad : false ≡ true = rw none at h in
    absurd (true≢false (sym bad))
text_read m id (Some s) e h = (s, refl, ap (λ o. option_map_or (λ t. t) o []) (e ∙ first_value-rows (found_of m) id))

-- a number of a range, as a getter of a type of `bits` bits reads it
pub number_read : (E : Type 0) (G : List ℕ → Result ℕ E → Type 0) (bits most : ℕ) (m : ArgMatches) (id : Text)
    (r : Option ℕ)
    → ((t : Text) → one_text (found_of m) id ≡ Some t → ReadsOne G t r)
    → ((u : List ℕ) (x : Result ℕ E) → G u x → ParsesUnsigned bits 10 u x) → most < 2 ^ bits
    → HasNumber 0 most id (rows_of (found_of m)) → (n : ℕ) × (r ≡ Some n)
    × (n ≡ number_at id (rows_of (found_of m))) × (n ≤ most)
number_read E G bits most m id r gives only fits h =
    let read : ReadsOne G (without_minus h.text) r =
    gives (without_minus h.text) (one_text-rows (found_of m) id ∙ h.read) in
    let got = signed_reads E G bits 0 most h.text r read only fits h.within in
    let is : ReadsOne G (without_minus h.text) (Some got.0) = subst (ReadsOne G (without_minus h.text)) got.1 read in (
      got.0,
      got.1,
      (only (without_minus h.text) (Ok got.0) is).1
          ∙ sym (ap (λ o. option_map_or (λ t. digits_value 10 (without_leading_plus t)) o 0) h.read),
      got.3,
    )

-- the number of a text in a range
in_range : (least most : ℕ) (text : Text) → most < 2 ^ 32 → IsSignedIn (pos least) (pos most) text
    → (least ≤ digits_value 10 (without_leading_plus (without_minus text)))
    × (digits_value 10 (without_leading_plus (without_minus text)) ≤ most)
in_range least most text fits within = go (accepts false (Unsigned 0 4294967295) (without_minus text)) refl
  where
    v : ℕ
    v = digits_value 10 (without_leading_plus (without_minus text))

    read : (r : Option ℕ) → ReadsOne {E = ℕ} (ParsesUnsigned 32 10) (without_minus text) r → (n : ℕ) × (r ≡ Some n)
        × (least ≤ n) × (n ≤ most)
    read r is = signed_reads ℕ (ParsesUnsigned 32 10) 32 least most text r is (λ u x g. g) fits within

    go : (b : Bool) → accepts false (Unsigned 0 4294967295) (without_minus text) ≡ b
        → (least ≤ digits_value 10 (without_leading_plus (without_minus text)))
        × (digits_value 10 (without_leading_plus (without_minus text)) ≤ most)
    go true is =
        let number = accepts-Accepts false (Unsigned 0 4294967295) (without_minus text) is in
        let got =
        read (Some (digits_value 10 (without_leading_plus (without_minus text)))) ((number.0, omega arith), refl) in
        let same : digits_value 10 (without_leading_plus (without_minus text)) ≡ got.0 = cc in
        (omega arith, omega arith)
    go false is =
        let got =
        read None (
          0,
          λ p. true≢false
              (sym (Accepts-accepts false (Unsigned 0 4294967295) (without_minus text)
              (p.0, omega arith, omega arith, omega arith)) ∙ is),
        ) in
        absurd (true≢false (ap (λ o. is_some o) (sym got.1)))

-- the number of an argument lies in its range
pub number_in : (least most : ℕ) (id : Text) (rows : List Row) → most < 2 ^ 32 → HasNumber least most id rows
    → (least ≤ number_at id rows) × (number_at id rows ≤ most)
number_in least most id rows fits h =
    let is : number_at id rows ≡ digits_value 10 (without_leading_plus (without_minus h.text)) =
    ap (λ o. option_map_or (λ t. digits_value 10 (without_leading_plus t)) o 0) h.read in
    let r = in_range least most h.text fits h.within in
    (omega arith, omega arith)

-- a number of a narrower range
pub wider : (least most : ℕ) (id : Text) (rows : List Row) → most ≤ 4294967295 → HasNumber least most id rows
    → HasNumber 0 4294967295 id rows
wider least most id rows fits h =
    let low = h.within.2 in
    let high = h.within.3 in
    record { text = h.text; read = h.read; within = (h.within.0, h.within.1, omega (arith, ints), omega (arith, ints)) }

-- the text of an argument, where it has one
pub text_maybe : (m : ArgMatches) (id : Text) (r : Option (Bor Text))
    → option_map (λ s. s.now) r ≡ first_value (found_of m) id
    → option_map (λ s. s.now) r ≡ first_of id (rows_of (found_of m))
text_maybe m id r e = e ∙ first_value-rows (found_of m) id

-- a number between two, as the getter of `i64` reads it
pub signed_read : (E : Type 0) (G : List ℕ → Result ℤ E → Type 0) (least most : ℤ) (m : ArgMatches) (id : Text)
    (r : Option ℤ)
    → ((t : Text) → one_text (found_of m) id ≡ Some t → ReadsOne G t r)
    → ((u : List ℕ) (x : Result ℤ E) → G u x → ParsesSigned w64 10 u x)
    → HasBetween least most id (rows_of (found_of m)) → (n : ℤ) × (r ≡ Some n)
    × (n ≡ signed_at id (rows_of (found_of m))) × ((least ≤ℤ n) × (n ≤ℤ most)) × FitsSigned w64 n
signed_read E G least most m id r gives only h =
    go r (gives h.text (one_text-rows (found_of m) id ∙ h.read))
  where
    value : ℤ
    value = signed_digits_value 10 h.text

    told : value ≡ signed_at id (rows_of (found_of m))
    told = sym (ap (λ o. option_map_or (λ t. signed_digits_value 10 t) o (pos 0)) h.read)

    go : (o : Option ℤ) → ReadsOne G h.text o → (n : ℤ) × (o ≡ Some n)
        × (n ≡ signed_at id (rows_of (found_of m))) × ((least ≤ℤ n) × (n ≤ℤ most)) × FitsSigned w64 n
    go (Some n) read =
        let same : n ≡ value = (only h.text (Ok n) read).1 in (
          n,
          refl,
          same ∙ told,
          (subst (λ (k : ℤ). least ≤ℤ k) (sym same) h.within.2, subst (λ (k : ℤ). k ≤ℤ most) (sym same) h.within.3),
          subst (FitsSigned w64) (sym same) h.within.1,
        )
    go None read = absurd (only h.text (Err read.0) read.1 (h.within.0, h.within.1))
