-- The lines of a disassembly, one after another.
use Rattle.std.proofs.Common.{◌≡◌, ℕ, zero, suc, ℤ, pos, ◌+◌, ◌-◌, ◌<◌, ◌≤◌, refl, sym, ap, ◌∙◌, List, [], ◌∷◌, ◌++◌}
use Rattle.std.proofs.Common.{length, drop, Bool, true, false, Some, None, Result, Ok, Err, arith}
use Rattle.std.specs.Prelude.{if◌then◌else◌, slice_get}
use Rattle.std.proofs.lemmas.List.{length-drop}
use Rattle.tword.specs.declared.kind.Kind.{Kind}
use Rattle.tword.specs.Words.{plus}
use Rattle.tcode.specs.declared.instruction.Instruction.{Instruction}
use Rattle.tcode.specs.declared.instruction.Function.{Function}
use Rattle.tcode.specs.declared.instruction.DecodeFault.{DecodeFault}
use Rattle.tcode.specs.declared.instruction.DecodeFault.TheVariants as fault
use Rattle.tcode.specs.Chains.{Chained, More, Last, chained, instruction, is_listed}
use Rattle.tcode.specs.Decoding.{complete_in, fetch_in, decode_bytes}
use Rattle.tfiles.specs.Disassembly.{at_address, head_text, head_size, dis_lines}

-- the bytes of an instruction, behind those that were had before it, are there
abbrev pub EndsWithin : ℕ → List ℕ → Instruction → Type 0
EndsWithin had bytes i = (had < i.length) × (i.length ≤ had + length bytes)

listed_within : (b : Bool) (f : Function) (value : ℤ) (had byte : ℕ) (bytes : List ℕ) (i : Instruction)
    → (if b then Ok (instruction f value (suc had)) else Err fault.NoSuchOperation) ≡ Ok i
    → EndsWithin had (byte ∷ bytes) i
listed_within true f value had byte bytes i h = let e : suc had ≡ i.length = cc in (omega arith, omega arith)
listed_within false f value had byte bytes i h = cc

chained_within : (kind : Kind) (rest : ℤ → Result Instruction DecodeFault) (p : Chained) (had byte : ℕ) (bytes : List ℕ)
    (i : Instruction)
    → ((value : ℤ) → rest value ≡ Ok i → EndsWithin (suc had) bytes i) → complete_in kind rest (suc had) p ≡ Ok i
    → EndsWithin had (byte ∷ bytes) i
chained_within kind rest (More value) had byte bytes i later h = let k : EndsWithin (suc had) bytes i = later value h in
    (omega (arith, k.0), omega (arith, k.1))
chained_within kind rest (Last f value) had byte bytes i later h =
    listed_within (is_listed kind f value) f value had byte bytes i h

fetched_within : (kind : Kind) (left had : ℕ) (bytes : List ℕ) (value : ℤ) (i : Instruction)
    → fetch_in kind left had bytes value ≡ Ok i
    → EndsWithin had bytes i
fetched_within kind zero had bytes value i h = cc
fetched_within kind (suc left) had [] value i h = cc
fetched_within kind (suc left) had (byte ∷ bytes) value i h =
    chained_within kind (fetch_in kind left (suc had) bytes) (chained value byte) had byte bytes i
    (λ v k. fetched_within kind left (suc had) bytes v i k) h

-- a line has a byte or more, and no more than there are
pub head_within : (kind : Kind) (byte : ℕ) (bytes : List ℕ) (head : Result Instruction DecodeFault)
    → head ≡ decode_bytes kind (byte ∷ bytes) → (0 < head_size head) × (head_size head ≤ length (byte ∷ bytes))
head_within kind byte bytes (Ok i) e = let k : EndsWithin 0 (byte ∷ bytes) i =
    fetched_within kind 16 0 (byte ∷ bytes) (pos 0) i (sym e) in (k.0, omega (arith, k.1))
head_within kind byte bytes (Err fault) e = (omega arith, omega arith)

-- there are no more lines than bytes
enough : (kind : Kind) (n m address : ℕ) (bytes : List ℕ) → length bytes ≤ n → length bytes ≤ m
    → dis_lines kind n address bytes ≡ dis_lines kind m address bytes
unfolding dis_lines
enough kind zero zero address [] k l = refl
enough kind zero (suc m) address [] k l = refl
enough kind (suc n) zero address [] k l = refl
enough kind (suc n) (suc m) address [] k l = refl
enough kind zero m address (byte ∷ bytes) k l = absurd (omega arith)
enough kind (suc n) zero address (byte ∷ bytes) k l = absurd (omega arith)
enough kind (suc n) (suc m) address (byte ∷ bytes) k l =
    let size : ℕ = head_size (decode_bytes kind (byte ∷ bytes)) in
    let some = head_within kind byte bytes (decode_bytes kind (byte ∷ bytes)) refl in
    let left : length (drop size (byte ∷ bytes)) ≡ length (byte ∷ bytes) - size = length-drop size (byte ∷ bytes) in
    ap (λ (ls : List ℕ). at_address address (head_text (decode_bytes kind (byte ∷ bytes)) byte) ++ ls)
    (enough kind n m (plus address size) (drop size (byte ∷ bytes)) (omega (arith, some.0)) (omega (arith, some.0)))

-- the lines of bytes, from an address on
abbrev pub lines_at : Kind → ℕ → List ℕ → List ℕ
lines_at kind address bytes = dis_lines kind (length bytes) address bytes

pub lines_at-next : (kind : Kind) (address byte : ℕ) (bytes : List ℕ) (head : Result Instruction DecodeFault)
    → head ≡ decode_bytes kind (byte ∷ bytes)
    → lines_at kind address (byte ∷ bytes) ≡ at_address address (head_text head byte)
    ++ lines_at kind (plus address (head_size head)) (drop (head_size head) (byte ∷ bytes))
unfolding dis_lines
lines_at-next kind address byte bytes head e =
    let some = head_within kind byte bytes head e in
    let left : length (drop (head_size head) (byte ∷ bytes)) ≡ length (byte ∷ bytes) - head_size head =
    length-drop (head_size head) (byte ∷ bytes) in
    ap (λ (h : Result Instruction DecodeFault). at_address address (head_text h byte)
    ++ dis_lines kind (length bytes) (plus address (head_size h)) (drop (head_size h) (byte ∷ bytes))) (sym e)
    ∙ ap (λ (ls : List ℕ). at_address address (head_text head byte) ++ ls)
    (enough kind (length bytes) (length (drop (head_size head) (byte ∷ bytes))) (plus address (head_size head))
    (drop (head_size head) (byte ∷ bytes)) (omega (arith, some.0)) (omega arith))

pub lines_at-end : (kind : Kind) (address : ℕ) → lines_at kind address [] ≡ []
unfolding dis_lines
lines_at-end kind address = refl

-- the same, where the first byte is known
pub first_within : (kind : Kind) (bytes : List ℕ) (byte : ℕ) (head : Result Instruction DecodeFault) → Some byte
    ≡ slice_get bytes 0
    → head ≡ decode_bytes kind bytes → (0 < head_size head) × (head_size head ≤ length bytes)
first_within kind [] byte head f e = cc
first_within kind (b ∷ bytes) byte head f e = head_within kind b bytes head e

pub first_line : (kind : Kind) (address : ℕ) (bytes : List ℕ) (byte : ℕ) (head : Result Instruction DecodeFault)
    → Some byte ≡ slice_get bytes 0 → head ≡ decode_bytes kind bytes
    → lines_at kind address bytes ≡ at_address address (head_text head byte)
    ++ lines_at kind (plus address (head_size head)) (drop (head_size head) bytes)
first_line kind address [] byte head f e = cc
first_line kind address (b ∷ bytes) byte head f e =
    let same : b ≡ byte = cc in
    lines_at-next kind address b bytes head e
    ∙ ap (λ (x : ℕ). at_address address (head_text head x)
    ++ lines_at kind (plus address (head_size head)) (drop (head_size head) (b ∷ bytes))) same

pub no_line : (kind : Kind) (address : ℕ) (bytes : List ℕ) → None ≡ slice_get bytes 0 → lines_at kind address bytes ≡ []
no_line kind address [] f = lines_at-end kind address
no_line kind address (b ∷ bytes) f = cc
