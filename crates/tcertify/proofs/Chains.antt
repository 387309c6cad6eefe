-- Bytes of code that are read until they end a chain.
use Rattle.std.proofs.Common.{◌≡◌, ℕ, ◌+◌, ◌<◌, refl, sym, subst, ap, ◌∙◌, List, [], ◌∷◌, ◌++◌}
use Rattle.std.proofs.Common.{length, take, set}
use Rattle.std.proofs.Common.{Option, Some, None, Result, Ok, Err, pos, add-one}
use lib.Seq.{take-suc-set}
use Rattle.tword.specs.declared.breaks.Break.{Break}
use Rattle.tword.specs.declared.kind.Kind.{Kind}
use Rattle.tword.specs.Actions.{Action, touching_byte}
use Rattle.tword.specs.Words.{plus}
use Rattle.tword.specs.Touches.{Reads}
use Rattle.tcode.specs.declared.instruction.Instruction.{Instruction}
use Rattle.tcode.specs.declared.instruction.DecodeFault.{DecodeFault}
use Rattle.tcode.specs.declared.instruction.DecodeFault.TheVariants as fault
use Rattle.tcode.specs.Decoding.{decode_bytes, fetch_in}
use Rattle.tprocesses.specs.Parts.{Part, Reason, SawTheScheduler}
use Rattle.tprocesses.specs.Touching.{Site}
use Rattle.tcertify.specs.declared.stored.Words.{Words}
use Rattle.tcertify.specs.Instructions.{chain_of, touch_byte}
use Rattle.tcertify.specs.Words.{Runs, site_of}
use Rattle.tcertify.proofs.Fetching.{after, ended, ends, fetch_after, goes, known_byte, no_byte}
use Rattle.tcertify.proofs.Fetching.{unknown_byte, zero_ends}

-- one more byte among those so far
pub with_byte : (bytes : List ℕ) (had b : ℕ) → had < length bytes
    → take (had + 1) (set bytes had b) ≡ take had bytes ++ b ∷ []
with_byte bytes had b h = ap (λ (n : ℕ). take n (set bytes had b)) (add-one had) ∙ take-suc-set bytes had b h

-- the bytes so far, within the chain, on which a part waits. o: its words at first, w: before a byte is read, v: behind
module _ (part : Part Instruction) (o w v : Words) (a : ℕ) (bs : List ℕ)
    (within : fetch_in w.kind 16 0 bs (pos 0) ≡ Err fault.Ended)
    (leads : (u : Words) (r : Result Instruction Reason)
    → Runs (after (site_of w) (fetch_after w.kind bs 16 0 a (pos 0))) w r u → Runs part o r u) where
  -- what follows the next byte
  abbrev next : ℕ → Action Instruction
  next n = fetch_after w.kind (bs ++ n ∷ []) 16 0 (plus a 1) (pos 0)

  one_more : (u : Words) (r : Result Instruction Reason)
      → Runs (after (site_of w) (touching_byte Reads a next)) w r u → Runs part o r u
  one_more u r h =
      leads u r
      (subst (λ (x : Action Instruction). Runs (after (site_of w) x) w r u)
      (sym (goes w.kind bs 16 0 a (pos 0) within)) h)

  pub not_read : (why : Reason) → Runs (touch_byte (site_of w) Reads a) w (Err why) v
      → Runs part o (Err why) v
  not_read why h = one_more v (Err why) (no_byte (site_of w) w v a next why h)

  pub not_known : Runs (touch_byte (site_of w) Reads a) w (Ok (None ∷ [])) v
      → Runs part o (Err SawTheScheduler) v
  not_known h =
      let z = zero_ends w.kind bs 16 0 (plus a 1) (pos 0) within in
      one_more v (Err SawTheScheduler) (unknown_byte (site_of w) w v a next z.0 h z.1)

  read_on : (b : ℕ) → Runs (touch_byte (site_of w) Reads a) w (Ok (Some b ∷ [])) v → (u : Words)
      (r : Result Instruction Reason) → Runs (after (site_of w) (next b)) v r u → Runs part o r u
  read_on b read u r rest = one_more u r (known_byte (site_of w) w v a next u b r read rest)

  module _ (same : site_of v ≡ site_of w) where
    pub ended_by : (b : ℕ) (x : Action Instruction) (r : Result Instruction Reason)
        → Runs (touch_byte (site_of w) Reads a) w (Ok (Some b ∷ [])) v
        → ended v.kind (chain_of (fetch_in v.kind 16 0 (bs ++ b ∷ []) (pos 0))) ≡ Some x
        → Runs (after (site_of w) x) v r v → Runs part o r v
    ended_by b x r read e done =
        let there : ended w.kind (chain_of (fetch_in w.kind 16 0 (bs ++ b ∷ []) (pos 0))) ≡ Some x =
        subst (λ (s : Site). ended s.kind (chain_of (fetch_in s.kind 16 0 (bs ++ b ∷ []) (pos 0))) ≡ Some x) same e in
        read_on b read v r
        (subst (λ (y : Action Instruction). Runs (after (site_of w) y) v r v)
        (sym (ends w.kind (bs ++ b ∷ []) 16 0 (plus a 1) (pos 0) x there)) done)

    -- what follows the next byte, at the words behind it
    pub read_behind : (b : ℕ) → Runs (touch_byte (site_of w) Reads a) w (Ok (Some b ∷ [])) v → (u : Words)
        (r : Result Instruction Reason)
        → Runs (after (site_of v) (fetch_after v.kind (bs ++ b ∷ []) 16 0 (plus a 1) (pos 0))) v r u → Runs part o r u
    read_behind b read u r h =
        read_on b read u r
        (subst (λ (s : Site). Runs (after s (fetch_after s.kind (bs ++ b ∷ []) 16 0 (plus a 1) (pos 0))) v r u) same h)

    -- the loop goes on
    pub go_on : (b next_address : ℕ) (so_far : List ℕ) → Runs (touch_byte (site_of w) Reads a) w (Ok (Some b ∷ [])) v
        → bs ++ b ∷ [] ≡ so_far → plus a 1 ≡ next_address → (u : Words) (r : Result Instruction Reason)
        → Runs (after (site_of v) (fetch_after v.kind so_far 16 0 next_address (pos 0))) v r u
        → Runs part o r u
    go_on b next_address so_far read e f u r h =
        read_on b read u r
        (subst (λ (xs : List ℕ). Runs (after (site_of w) (fetch_after w.kind xs 16 0 (plus a 1) (pos 0))) v r u) (sym e)
        (subst (λ (n : ℕ). Runs (after (site_of w) (fetch_after w.kind so_far 16 0 n (pos 0))) v r u) (sym f)
        (subst (λ (s : Site). Runs (after s (fetch_after s.kind so_far 16 0 next_address (pos 0))) v r u) same h)))

-- the bytes so far end within the instruction
pub whole : (r : Result Instruction DecodeFault) → Ok None ≡ chain_of r → r ≡ Err fault.Ended
whole (Ok i) e = cc
whole (Err fault.Ended) e = refl
whole (Err fault.NoSuchOperation) e = cc
whole (Err fault.LongPrefix) e = cc

-- what the bytes decode to with one more
pub told_by : (kind : Kind) (bytes : List ℕ) (had b : ℕ) (x : Result (Option Instruction) Break) → had < length bytes
    → x ≡ chain_of (decode_bytes kind (take (had + 1) (set bytes had b)))
    → chain_of (fetch_in kind 16 0 (take had bytes ++ b ∷ []) (pos 0)) ≡ x
told_by kind bytes had b x h e =
    ap (λ (xs : List ℕ). chain_of (fetch_in kind 16 0 xs (pos 0))) (sym (with_byte bytes had b h)) ∙ sym e

-- which instruction they decode to, if any
pub which : (o p : Option Instruction) (r : Result (Option Instruction) Break) → o ≡ p → Ok o ≡ r → Ok p ≡ r
which o p r e h = rw (← e) h
