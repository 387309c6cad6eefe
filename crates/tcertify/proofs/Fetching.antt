-- Bytes that are fetched one by one, and the same bytes as they are decoded in a row.
use Rattle.std.proofs.Common.{◌≡◌, ℕ, zero, suc, ◌<◌, refl, ap, ◌∙◌, arith, Bool, true, false}
use Rattle.std.proofs.Common.{List, [], ◌∷◌, ◌++◌, length, ℤ, Option, Some, None, Result, Ok, Err}
use Rattle.std.specs.Prelude.{if◌then◌else◌}
use Rattle.std.specs.Int.{w32, from_le_bytes}
use Rattle.tword.specs.declared.breaks.Break.{Break}
use Rattle.tword.specs.declared.breaks.Break.TheVariants.{NoSuchOperation, LongPrefix}
use Rattle.tword.specs.declared.kind.Kind.{Kind}
use Rattle.tword.specs.Stores.{Store, shown}
use Rattle.tword.specs.Words.{plus}
use Rattle.tword.specs.Touches.{Reads, byte_span}
use Rattle.tword.specs.Actions.{Action, answer, breaks, touching_byte}
use Rattle.tcode.specs.declared.instruction.Instruction.{Instruction}
use Rattle.tcode.specs.declared.instruction.DecodeFault.TheVariants as fault
use Rattle.tcode.specs.Table.{function_at}
use Rattle.tcode.specs.Chains.{Chained, More, Last, chained, instruction, is_listed}
use Rattle.tcode.specs.Decoding.{complete, complete_in, fetch, fetch_in}
use Rattle.tprocesses.specs.Changes.{are_known}
use Rattle.tprocesses.specs.Parts.{Reason, SawTheScheduler, Part, gives, stopping, seeing, changing, telling}
use Rattle.tprocesses.specs.Parts.{require, ◌>>=◌, ◌>>◌}
use Rattle.tprocesses.specs.Touching.{Site, touch, part_of}
use Rattle.tprocesses.specs.Performing.{Performed, perform, noted}
use Rattle.tcertify.specs.Instructions.{chain_of, touch_byte}
use Rattle.tcertify.specs.declared.stored.Words.{Words}
use Rattle.tcertify.specs.Words.{Runs}
use Rattle.tcertify.proofs.Running.{in_a_row, runs_as, runs_on, runs_stop, runs_stopping, through}

module _ (kind : Kind) where
  -- the rest of a chain of which these bytes were fetched; address: that of the next byte
  abbrev pub fetch_after : List ℕ → (left had address : ℕ) → ℤ → Action Instruction
  fetch_after [] left had address v = fetch kind left had address v
  fetch_after (b ∷ bs) zero had address v = breaks LongPrefix
  fetch_after (b ∷ bs) (suc left) had address v =
      complete kind (fetch_after bs left (suc had) address) (suc had) (chained v b)

  -- what a chain that has ended does
  abbrev pub ended : Result (Option Instruction) Break → Option (Action Instruction)
  ended (Ok (Some i)) = Some (answer i)
  ended (Ok None) = None
  ended (Err b) = Some (breaks b)

  -- a function ends the chain
  last_ends : (t : Bool) (i : Instruction) (x : Action Instruction)
      → ended (chain_of (if t then Ok i else Err fault.NoSuchOperation)) ≡ Some x
      → (if t then answer i else breaks NoSuchOperation) ≡ x
  last_ends true i x e = cc
  last_ends false i x e = cc

  byte_ends : (c : Chained) (bs : List ℕ) (left had a : ℕ) (x : Action Instruction)
      → ((u : ℤ) → ended (chain_of (fetch_in kind left (suc had) bs u)) ≡ Some x
      → fetch_after bs left (suc had) a u ≡ x)
      → ended (chain_of (complete_in kind (fetch_in kind left (suc had) bs) (suc had) c)) ≡ Some x
      → complete kind (fetch_after bs left (suc had) a) (suc had) c ≡ x
  byte_ends (More u) bs left had a x next e = next u e
  byte_ends (Last f u) bs left had a x next e = last_ends (is_listed kind f u) (instruction f u (suc had)) x e

  -- where the bytes in a row end the chain, so do the bytes that were fetched
  pub ends : (bs : List ℕ) (left had a : ℕ) (v : ℤ) (x : Action Instruction)
      → ended (chain_of (fetch_in kind left had bs v)) ≡ Some x → fetch_after bs left had a v ≡ x
  ends [] zero had a v x e = cc
  ends [] (suc left) had a v x e = cc
  ends (b ∷ bs) zero had a v x e = cc
  ends (b ∷ bs) (suc left) had a v x e =
      byte_ends (chained v b) bs left had a x (λ u h. ends bs left (suc had) a u x h) e

  -- a function ends the chain, so that the bytes do not end within it
  last_is_whole : (t : Bool) (i : Instruction) (P : Type 0)
      → (if t then Ok i else Err fault.NoSuchOperation) ≡ Err fault.Ended → P
  last_is_whole true i P e = cc
  last_is_whole false i P e = cc

  byte_goes : (c : Chained) (bs : List ℕ) (left had a : ℕ)
      → ((u : ℤ) → fetch_in kind left (suc had) bs u ≡ Err fault.Ended → fetch_after bs left (suc had) a u
      ≡ touching_byte Reads a (λ n. fetch_after (bs ++ n ∷ []) left (suc had) (plus a 1) u))
      → complete_in kind (fetch_in kind left (suc had) bs) (suc had) c ≡ Err fault.Ended
      → complete kind (fetch_after bs left (suc had) a) (suc had) c
      ≡ touching_byte Reads a (λ n. complete kind (fetch_after (bs ++ n ∷ []) left (suc had) (plus a 1)) (suc had) c)
  byte_goes (More u) bs left had a next e = next u e
  byte_goes (Last f u) bs left had a next e =
      last_is_whole (is_listed kind f u) (instruction f u (suc had)) _ e

  -- where the bytes in a row end within the chain, one more is fetched
  pub goes : (bs : List ℕ) (left had a : ℕ) (v : ℤ) → fetch_in kind left had bs v ≡ Err fault.Ended
      → fetch_after bs left had a v
      ≡ touching_byte Reads a (λ n. fetch_after (bs ++ n ∷ []) left had (plus a 1) v)
  goes [] zero had a v e = cc
  goes [] (suc left) had a v e = refl
  goes (b ∷ bs) zero had a v e = cc
  goes (b ∷ bs) (suc left) had a v e =
      byte_goes (chained v b) bs left had a (λ u h. goes bs left (suc had) a u h) e

  -- there is room for one more then
  byte_short : (c : Chained) (bs : List ℕ) (left had : ℕ)
      → ((u : ℤ) → fetch_in kind left (suc had) bs u ≡ Err fault.Ended → length bs < left)
      → complete_in kind (fetch_in kind left (suc had) bs) (suc had) c ≡ Err fault.Ended → length bs < left
  byte_short (More u) bs left had next e = next u e
  byte_short (Last f u) bs left had next e =
      last_is_whole (is_listed kind f u) (instruction f u (suc had)) _ e

  pub short : (bs : List ℕ) (left had : ℕ) (v : ℤ) → fetch_in kind left had bs v ≡ Err fault.Ended → length bs < left
  short [] zero had v e = cc
  short [] (suc left) had v e = omega arith
  short (b ∷ bs) zero had v e = cc
  short (b ∷ bs) (suc left) had v e =
      let rest : length bs < left = byte_short (chained v b) bs left had (λ u h. short bs left (suc had) u h) e in
      omega arith

  -- a byte of zeros ends it
  byte_zero : (c : Chained) (bs : List ℕ) (left had a : ℕ)
      → ((u : ℤ) → fetch_in kind left (suc had) bs u ≡ Err fault.Ended
      → (i : Instruction) × (fetch_after (bs ++ 0 ∷ []) left (suc had) a u ≡ answer i))
      → complete_in kind (fetch_in kind left (suc had) bs) (suc had) c ≡ Err fault.Ended
      → (i : Instruction) × (complete kind (fetch_after (bs ++ 0 ∷ []) left (suc had) a) (suc had) c ≡ answer i)
  byte_zero (More u) bs left had a next e = next u e
  byte_zero (Last f u) bs left had a next e =
      last_is_whole (is_listed kind f u) (instruction f u (suc had)) _ e

  pub zero_ends : (bs : List ℕ) (left had a : ℕ) (v : ℤ) → fetch_in kind left had bs v ≡ Err fault.Ended
      → (i : Instruction) × (fetch_after (bs ++ 0 ∷ []) left had a v ≡ answer i)
  unfolding function_at
  zero_ends [] zero had a v e = cc
  zero_ends [] (suc left) had a v e = (_, refl)
  zero_ends (b ∷ bs) zero had a v e = cc
  zero_ends (b ∷ bs) (suc left) had a v e =
      byte_zero (chained v b) bs left had a (λ u h. zero_ends bs left (suc had) a u h) e

-- nothing is noted
noted_true : {A : Type 0} (p : Part (Performed A)) → noted true p ≡ p
noted_true (gives x) = refl
noted_true (stopping why) = refl
noted_true (seeing p next) = λ i. seeing p (λ v. noted_true (next v) i)
noted_true (changing p c next) = λ i. changing p c (noted_true next i)
noted_true (telling m next) = λ i. telling m (noted_true next i)

-- what is known of what was performed
abbrev pub checked : Performed Instruction → Part Instruction
checked p = require p.known SawTheScheduler >> gives p.value

module _ (s : Site) where
  -- an action that decodes, and the check of what it read
  abbrev pub after : Action Instruction → Part Instruction
  after action = perform s [] action >>= checked

  -- the number of one byte
  one_byte : (b : ℕ) → from_le_bytes w32 (shown (Some b ∷ [])) ≡ b
  one_byte b = omega arith

  module _ (w v : Words) (a : ℕ) (next : ℕ → Action Instruction) where
    -- what follows a byte
    abbrev byte_on : Store → Part (Performed Instruction)
    byte_on cells = noted (are_known cells) (perform s [] (next (from_le_bytes w32 (shown cells))))

    abbrev checked_on : Store → Part Instruction
    checked_on cells = byte_on cells >>= checked

    -- the byte comes first
    byte_first : after (touching_byte Reads a next) ≡ touch_byte s Reads a >>= checked_on
    byte_first =
        ap (λ (p : Part (Performed Instruction)). p >>= checked)
        (through (touch s Reads (byte_span a)) (part_of (byte_span a)) byte_on)
        ∙ in_a_row (touch_byte s Reads a) byte_on checked

    pub known_byte : (u : Words) (b : ℕ) (r : Result Instruction Reason)
        → Runs (touch_byte s Reads a) w (Ok (Some b ∷ [])) v → Runs (after (next b)) v r u
        → Runs (after (touching_byte Reads a next)) w r u
    known_byte u b r read rest =
        runs_as (after (touching_byte Reads a next)) (touch_byte s Reads a >>= checked_on) w u r byte_first
        (runs_on (touch_byte s Reads a) checked_on w v u (Some b ∷ []) r read
        (runs_as (checked_on (Some b ∷ [])) (after (next b)) v u r
        (ap (λ (p : Part (Performed Instruction)). p >>= checked)
        (noted_true (perform s [] (next (from_le_bytes w32 (shown (Some b ∷ [])))))
        ∙ ap (λ (n : ℕ). perform s [] (next n)) (one_byte b))) rest))

    pub unknown_byte : (i : Instruction) → Runs (touch_byte s Reads a) w (Ok (None ∷ [])) v → next 0 ≡ answer i
        → Runs (after (touching_byte Reads a next)) w (Err SawTheScheduler) v
    unknown_byte i read is =
        runs_as (after (touching_byte Reads a next)) (touch_byte s Reads a >>= checked_on) w v (Err SawTheScheduler)
        byte_first
        (runs_on (touch_byte s Reads a) checked_on w v v (None ∷ []) (Err SawTheScheduler) read
        (runs_as (checked_on (None ∷ [])) (stopping SawTheScheduler) v v (Err SawTheScheduler)
        (ap (λ (x : Action Instruction). noted false (perform s [] x) >>= checked) is)
        (runs_stopping SawTheScheduler v)))

    pub no_byte : (why : Reason) → Runs (touch_byte s Reads a) w (Err why) v
        → Runs (after (touching_byte Reads a next)) w (Err why) v
    no_byte why read =
        runs_as (after (touching_byte Reads a next)) (touch_byte s Reads a >>= checked_on) w v (Err why) byte_first
        (runs_stop (touch_byte s Reads a) checked_on w v why read)
