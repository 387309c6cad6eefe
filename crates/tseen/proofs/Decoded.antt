-- An instruction that is decoded on places, of bytes that are known, is decoded from the store.
use Rattle.std.proofs.Common.{◌≡◌, ℕ, ℤ, zero, suc, pos, ◌%◌, refl, subst, length, Bool, true, false, cond, ◌&&◌, Ok}
use Rattle.std.proofs.Common.{None, []}
use Rattle.std.proofs.lemmas.Bool.{and_parts}
use Rattle.std.specs.Int.{w32, from_le_bytes}
use Rattle.tword.specs.declared.breaks.Break.TheVariants.{NoSuchOperation}
use Rattle.tword.specs.declared.kind.Kind.{Kind}
use Rattle.tword.specs.Words.{plus}
use Rattle.tword.specs.Stores.{Store, shown}
use Rattle.tword.specs.Claims.{Claims}
use Rattle.tword.specs.Touches.{byte_span, span_break}
use Rattle.tword.specs.Actions.{Action, answer, breaks, touching_byte, run}
use Rattle.tcode.specs.declared.instruction.Instruction.{Instruction}
use Rattle.tcode.specs.Chains.{Chained, More, Last, chained, is_listed, instruction, longest}
use Rattle.tcode.specs.Decoding.{complete, fetch, decode}
use Rattle.tprocesses.specs.Changes.{are_known}
use Rattle.tprocesses.specs.Touching.{Site, touch, part_of}
use Rattle.tprocesses.specs.Performing.{Performed, perform}
use Rattle.tseen.proofs.After.{State, After, after_bind}
use Rattle.tseen.proofs.Cells.{Tells}
use Rattle.tseen.proofs.Touched.{Permits}
use Rattle.tseen.proofs.Writing.{touch_then}
use Rattle.tseen.proofs.Performed.{span_passes, byte_value}

-- an action that does nothing but read bytes
abbrev pub ReadsBytes : {A : Type 0} → Action A → Type 0
ReadsBytes (answer x) = Unit {0}
ReadsBytes (breaks b) = Unit {0}
ReadsBytes (touching_byte mode a next) = (v : ℕ) → ReadsBytes (next v)
ReadsBytes _ = ⊥

complete-reads : (kind : Kind) (rest : ℤ → Action Instruction) (length : ℕ) (p : Chained)
    → ((w : ℤ) → ReadsBytes (rest w)) → ReadsBytes (complete kind rest length p)
complete-reads kind rest length (More w) h = h w
complete-reads kind rest length (Last f w) h = by (is_listed kind f w)
  where
    by : (b : Bool) → ReadsBytes (cond b (answer (instruction f w length)) (breaks NoSuchOperation))
    by true = tt
    by false = tt

fetch-reads : (kind : Kind) (left had address : ℕ) (value : ℤ) → ReadsBytes (fetch kind left had address value)
fetch-reads kind zero had address value = tt
fetch-reads kind (suc left) had address value =
    λ byte. complete-reads kind (fetch kind left (suc had) (plus address 1)) (suc had) (chained value byte)
    (λ w. fetch-reads kind left (suc had) (plus address 1) w)

decode-reads : (kind : Kind) (iptr : ℕ) → ReadsBytes (decode kind iptr)
unfolding decode
decode-reads kind iptr = fetch-reads kind longest 0 iptr (pos 0)

module _ (site : Site) (whole : site.size % 4 ≡ 0) (claims : Claims) (s : State) (store : Store)
    (tells : Tells s site.number site.size store) (permits : Permits s site.number claims) where
  -- what was read is known, and so the store gives it
  abbrev pub GivesIt : {A : Type 0} → Action A → Performed A → Type 0
  GivesIt x p = p.known ≡ true → run x store claims ≡ Ok (p.value, store)

  reads_then : {A : Type 0} (x : Action A) (Q : Performed A → State → Type 0) → ReadsBytes x
      → ((p : Performed A) → GivesIt x p → Q p s) → After (perform site [] x) s Q
  reads_then (answer x) Q r h = h (record { value = x; known = true }) (λ e. refl)
  reads_then (breaks b) Q r h = tt
  reads_then (touching_byte m a x) Q r h =
      after_bind (touch site m (byte_span a)) _ s Q (touch_then site whole m (byte_span a) s _ tells.words (λ words t.
      let here : Store = part_of (byte_span a) words in
      let v : ℕ = from_le_bytes w32 (shown here) in
      after_bind (perform site [] (x v)) _ s Q (reads_then (x v) _ (r v) (λ p g.
      h (record { value = p.value; known = are_known here && p.known }) (λ k.
      let both : (are_known here ≡ true) × (p.known ≡ true) = and_parts _ _ k in
      let pass : span_break (length store) claims m (byte_span a) ≡ None =
      rw tells.length (span_passes site whole claims s m (byte_span a) permits t.placed
      (λ i l. t.are.touched i l.from l.to)) in
      rw pass
      (subst (λ z. run (x z) store claims ≡ Ok (p.value, store))
      (byte_value site whole claims s store m a words tells t both.0) (g both.1)))))))
  reads_then _ Q r h = absurd r

  pub decode_then : (kind : Kind) (iptr : ℕ) (Q : Performed Instruction → State → Type 0)
      → ((p : Performed Instruction) → GivesIt (decode kind iptr) p → Q p s)
      → After (perform site [] (decode kind iptr)) s Q
  decode_then kind iptr Q h = reads_then (decode kind iptr) Q (decode-reads kind iptr) h
