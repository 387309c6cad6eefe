-- What a message stands for, by what the library decodes.
use Rattle.std.proofs.Common.{◌≡◌, ◌⊎◌, inl, inr, ℕ, ◌+◌, ◌*◌, ◌%◌, refl, sym, ap, ◌∙◌, List, [], ◌∷◌, length, Option}
use Rattle.std.proofs.Common.{Some, None, Result, Ok, Err, arith}
use Rattle.std.proofs.lemmas.Bool.{cases_eq}
use Rattle.hex.specs.Hex.{decode_of, decode_pairs, digit_or_error, hex_digit_value, ◌>>=◌}
use Rattle.hex.specs.declared.error.FromHexError.{FromHexError}
use Rattle.hex.specs.declared.error.FromHexError.TheVariants.{OutOfMemory}
use Rattle.hex.proofs.HexLemmas.{decode_of-even, decode_of-odd}
use Rattle.tplan.specs.declared.wiring.WiringFault.TheVariants.{BadMessage}
use Rattle.twiring.specs.Messages.{byte_of, before, bytes_of, of_a_message, message_of}
use Rattle.twiring.specs.WiringParts.{message}

-- what was decoded
abbrev decoded : Result (List ℕ) FromHexError → Option (List ℕ)
decoded (Ok bytes) = Some bytes
decoded (Err e) = None

-- one more pair
one_pair : (i a b : ℕ) (h l : Option ℕ) (r : Result (List ℕ) FromHexError)
    → before (byte_of h l) (decoded r)
    ≡ decoded
    ((digit_or_error a i h >>= (λ high. digit_or_error b (i + 1) l >>= (λ low. Ok (high * 16 + low))))
    >>= (λ byte. r >>= (λ bytes. Ok (byte ∷ bytes))))
one_pair i a b (Some h) (Some l) (Ok bytes) = refl
one_pair i a b _ _ _ = refl

-- pairs of digits
pairs : (i : ℕ) (s : List ℕ) → bytes_of s ≡ decoded (decode_pairs i s)
unfolding decode_pairs
pairs i [] = refl
pairs i (a ∷ []) = refl
pairs i (a ∷ b ∷ rest) =
    ap (before (byte_of (hex_digit_value a) (hex_digit_value b))) (pairs (i + 2) rest)
    ∙ one_pair i a b (hex_digit_value a) (hex_digit_value b) (decode_pairs (i + 2) rest)

-- nothing behind a byte
before-none : (b : Option ℕ) → before b None ≡ None
before-none (Some b) = refl
before-none None = refl

-- an odd number of digits
odd-none : (s : List ℕ) → length s % 2 ≡ 1 → bytes_of s ≡ None
odd-none [] h = absurd (omega arith)
odd-none (a ∷ []) h = refl
odd-none (a ∷ b ∷ rest) h =
    ap (before (byte_of (hex_digit_value a) (hex_digit_value b))) (odd-none rest (omega arith)) ∙ before-none _

bytes_of-decoded : (s : List ℕ) → bytes_of s ≡ decoded (decode_of s)
bytes_of-decoded s =
    elim (cases_eq (length s % 2) 1) [
      | inl odd ↦ odd-none s odd ∙ sym (ap decoded (decode_of-odd s odd))
      | inr even ↦ pairs 0 s ∙ sym (ap decoded (decode_of-even s (omega arith)))
    ]

-- a text that is decoded, and one that is not
pub message-decoded : (s bytes : List ℕ) → decode_of s ≡ Ok bytes
    → message (of_a_message (Some bytes)) ≡ message (message_of s)
message-decoded s bytes h = sym (ap (λ b. message (of_a_message b)) (bytes_of-decoded s ∙ ap decoded h))

pub message-refused : (s : List ℕ) (e : FromHexError) → (e ≡ OutOfMemory) ⊎ (decode_of s ≡ Err e)
    → (e ≡ OutOfMemory → ⊥)
    → Err BadMessage ≡ message (message_of s)
message-refused s e (inl memory) other = absurd (other memory)
message-refused s e (inr h) other =
    sym (ap (λ b. message (of_a_message b)) (bytes_of-decoded s ∙ ap decoded h))
