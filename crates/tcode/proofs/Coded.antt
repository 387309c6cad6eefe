-- Chains of one byte and of two, by code, operand and length.
use Rattle.std.proofs.Common.{◌≡◌, ℕ, ◌+◌, ◌/◌, ◌%◌, ◌^◌, ◌<◌, refl, ap, sym, zero, suc, ◌∙◌, true, pos, negsuc, arith}
use Rattle.std.proofs.Common.{ℤ, length}
use Rattle.std.proofs.Common.{◌-ℤ◌, ◌*ℤ◌}
use Rattle.std.proofs.Common.{Option, Some, None, Result, Ok}
use Rattle.std.specs.Prelude.{if◌then◌else◌, ◌==◌}
use Rattle.tword.specs.declared.breaks.Break.{Break}
use Rattle.tword.specs.declared.breaks.Break.TheVariants.{LongPrefix}
use Rattle.tword.specs.Words.{plus, reduced}
use Rattle.tword.specs.Stores.{Store, byte_at}
use Rattle.tword.specs.Touches.{Reads, span_break, byte_span}
use Rattle.tword.specs.Claims.{Claims}
use Rattle.tword.specs.Actions.{Action, run, run_from, value_of, breaks}
use Rattle.tword.specs.declared.kind.Kind.{Kind}
use Rattle.tcode.specs.declared.instruction.Function.{Function}
use Rattle.tcode.specs.declared.instruction.Instruction.{Instruction}
use Rattle.tcode.specs.Table.{function_at, function_entry}
use Rattle.tcode.specs.Chains.{Last, is_listed, pfix}
use Rattle.tcode.specs.Decoding.{complete, decode, IsFetched}
use Rattle.tcode.specs.Codes.{Decodes}
use Rattle.tcode.specs.declared.code_table.CodeEntry.{CodeEntry}
use Rattle.tcode.specs.Known.{IsFetchedWhole, TellsItsBytes, TellsItsChain, prefix_word}
use Rattle.tcode.proofs.ChainWords.{reduced-word}
use Rattle.tcode.proofs.RoundTrip.{function_at-entry}
use Rattle.tcode.proofs.StoreSteps.{fetched-ends, prefix-goes}

-- the value of a chain that has ended
last_value : (kind : Kind) (store : Store) (claims : Claims) (rest : ℤ → Action Instruction) (n : ℕ) (f : Function)
    (d : ℕ) → d < 2 ^ 32 → is_listed kind f (pos d) ≡ true
    → value_of (run_from (complete kind rest n (Last f (pos d))) store claims store)
    ≡ Ok (record { function = f; operand = d; length = n })
last_value kind store claims rest n f d small listed =
    rw (listed, reduced-word d small) refl

-- a chain that ends with its first byte
pub one_byte : (kind : Kind) (store : Store) (claims : Claims) (a b d behind : ℕ) (f : Option Function)
    → IsFetched store claims a b → function_at (b / 16) ≡ f → d ≡ b % 16 → behind ≡ plus a 1
    → Decodes kind a f d behind (value_of (run (decode kind a) store claims))
unfolding decode
one_byte kind store claims a b d behind None fetched is e ends = tt
one_byte kind store claims a b d behind (Some f) fetched is e ends = λ listed. record {
  size = 1;
  is = ap value_of
      (fetched-ends kind store claims store 0 a 0 (omega arith) b d (omega arith) fetched (omega (arith, e)) f is)
      ∙ last_value kind store claims (λ _. breaks LongPrefix) 1 f d (omega (arith, e)) listed;
  ends = ends;
}

-- a chain that ends with its second byte, behind a prefix
pub two_bytes : (kind : Kind) (store : Store) (claims : Claims) (a b p w at b' d behind : ℕ) (f : Option Function)
    → IsFetched store claims a b → function_at (b / 16) ≡ None → p ≡ b % 16 → w < 2 ^ 32
    → w ≡ reduced (if b / 16 == pfix then pos 16 *ℤ pos p else pos 16 *ℤ (negsuc 0 -ℤ pos p))
    → at ≡ plus a 1 → IsFetched store claims at b' → function_at (b' / 16) ≡ f → d ≡ (w + b' % 16) % 2 ^ 32
    → behind ≡ plus a 2
    → Decodes kind a f d behind (value_of (run (decode kind a) store claims))
two_bytes kind store claims a b p w at b' d behind None fetched is e l s next fetched' is' sum ends = tt
two_bytes kind store claims a b p w at b' d behind (Some f) fetched is e l s next fetched' is' sum ends =
    λ listed. record {
      size = 2;
      is = ap value_of
          (prefix-goes kind store claims a b p w at fetched is e l s next
          ∙ fetched-ends kind store claims store 1 at w (omega arith) b' d (omega arith) fetched' (omega (arith, sum)) f
          is')
          ∙ last_value kind store claims (λ _. breaks LongPrefix) 2 f d (omega (arith, sum)) listed;
      ends = ends;
    }

-- an instruction that was decoded otherwise
pub decoded_so : (kind : Kind) (decoded : Result Instruction Break) (i : Instruction) (a code behind : ℕ)
    → decoded ≡ Ok i → code ≡ (function_entry i.function).code → behind ≡ plus a i.length
    → Decodes kind a (function_at code) i.operand behind decoded
decoded_so kind decoded i a code behind e is ends =
    rw (is, function_at-entry i.function) (λ _. record { size = i.length; is = e; ends = ends })

-- a byte that may be read, and is there, is fetched
pub fetched_so : (s store : Store) (claims : Claims) (a b : ℕ) → s ≡ store
    → span_break (length s) claims Reads (byte_span a) ≡ None → byte_at s a ≡ Some b → IsFetched store claims a b
fetched_so s store claims a b same free is = rw (← same, free, is) refl

reduced_below : (z : ℤ) → reduced z < 2 ^ 32
reduced_below (pos n) = omega arith
reduced_below (negsuc n) = omega arith

-- an entry tells what is decoded where its bytes are fetched
pub known_so : (kind : Kind) (store : Store) (claims : Claims) (e : CodeEntry) → TellsItsBytes e
    → IsFetchedWhole store claims e
    → Decodes kind e.address (function_at e.code) e.operand e.behind
    (value_of (run (decode kind e.address) store claims))
known_so kind store claims e tells fetched = by e.length refl
  where
    Goal : Type 0
    Goal =
        Decodes kind e.address (function_at e.code) e.operand e.behind
        (value_of (run (decode kind e.address) store claims))

    by : (n : ℕ) → e.length ≡ n → Goal
    by zero is = rw (tells.none is) tt
    by (suc zero) is =
        one_byte kind store claims e.address e.first e.operand e.behind (function_at e.code)
        (fetched.first (omega (arith, is)))
        (ap function_at (sym (tells.one is).0)) (tells.one is).1 (tells.behind ∙ ap (plus e.address) is)
    by (suc (suc zero)) is =
        let two : TellsItsChain e = tells.two is in
        two_bytes kind store claims e.address e.first (e.first % 16) (prefix_word e.first) (plus e.address 1) e.second
        e.operand e.behind (function_at e.code) (fetched.first (omega (arith, is))) two.prefix refl (reduced_below _)
        refl refl
        (fetched.second (omega (arith, is))) (ap function_at (sym two.code)) two.operand
        (tells.behind ∙ ap (plus e.address) is)
    by (suc (suc (suc n))) is = absurd (omega (arith, is, tells.length))
