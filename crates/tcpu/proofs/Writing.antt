-- Local effects write within the bytes that they may write.
use Rattle.std.proofs.Common.{◌≡◌, ℕ, ◌<◌, ◌≤◌, ◌^◌, refl, Bool, true, false, Option, Some, None, Ok}
use Rattle.std.proofs.Common.{length, arith, List, [], ◌∷◌, cond, sym, ◌≢◌}
use Rattle.std.specs.Prelude.{◌&&◌, ◌==◌}
use Rattle.std.specs.List.{find}
use Rattle.std.proofs.lemmas.Bool.{and_parts, eqb-true}
use Rattle.std.specs.Prelude.{IfSome}
use Rattle.tword.specs.declared.kind.Kind.{Kind}
use Rattle.tword.specs.declared.span.Span.{Span}
use Rattle.tword.specs.Words.{most_neg, plus, minus}
use Rattle.tword.specs.Stores.{Store}
use Rattle.tword.specs.Claims.{Claims}
use Rattle.tword.specs.Touches.{Writes, word_break, word_span}
use Rattle.tword.specs.Actions.{Action, run}
use Rattle.tword.specs.Outside.{StandsOutside}
use Rattle.tword.proofs.Outside.{WritesWithin, IsPart, run_from-outside, word_above}
use Rattle.tcode.specs.declared.instruction.Function.{Function}
use Rattle.tcode.specs.declared.instruction.Function.TheVariants as function
use Rattle.tcode.specs.declared.instruction.Operation.{Operation}
use Rattle.tcode.specs.declared.instruction.Operation.TheVariants as op
use Rattle.tcode.specs.Table.{all_operations, is_of, operation_at, operation_entry}
use Rattle.tcpu.specs.declared.registers.Registers.{Registers}
use Rattle.tcpu.specs.declared.registers.Next.{Next}
use Rattle.tcpu.specs.Outcomes.{Outcome}
use Rattle.tcpu.specs.Functions.{function_effect}
use Rattle.tcpu.specs.Operations.{operation_effect, looped, is_positive_word}
use Rattle.tcpu.specs.Effects.{local_or_left, selected_effect, effect_at}
use Rattle.tcpu.specs.Written.{nothing, written, written_by}

-- a span lies in itself
whole : (p : Span) → IsPart p p
whole p = (omega arith, omega arith)

module _ (n : ℕ) (c : Claims) where
  -- one of the four words below a workspace, the lowest of which lies above the least address
  below-part : (w k : ℕ) → 4 ≤ k → k ≤ 16 → most_neg ≤ minus w 16 → word_break n c Writes (minus w k) ≡ None
      → IsPart (word_span (minus w k)) (record { start = minus w 16; size = 16 })
  below-part w k one four low passes =
      let at = word_above n c Writes (minus w k) passes in
      (omega (arith, low, at), omega (arith, low, at))

  -- a function, but `opr`
  functions-within : (kind : Kind) (f : Function) (k iptr : ℕ) (r : Registers)
      → WritesWithin n c (written kind f k r) (function_effect f k (record r { iptr = iptr }))
  unfolding function_effect written
  functions-within kind function.Call k iptr r = λ fourth.
      let low = word_above n c Writes (minus r.wptr 16) fourth in (
        below-part r.wptr 16 (omega arith) (omega arith) low fourth,
        λ third. (
          below-part r.wptr 12 (omega arith) (omega arith) low third,
          λ second. (
            below-part r.wptr 8 (omega arith) (omega arith) low second,
            λ first.
                (below-part r.wptr 4 (omega arith) (omega arith) low first, tt),
          ),
        ),
      )
  functions-within kind function.Stl k iptr r = λ _. (whole _, tt)
  functions-within kind function.Stnl k iptr r = λ _. (whole _, tt)
  functions-within kind _ k iptr r = search

  looped-within : (left index : ℕ) (t : Bool) (r : Registers) → r.b < 2 ^ 32 → most_neg ≤ plus r.b 4
      → WritesWithin n c (record { start = r.b; size = 8 }) (looped left index t r)
  looped-within left index true r small above =
      λ _. ((omega (arith, small, above), omega (arith, small, above)), λ _. ((omega arith, omega arith), tt))
  looped-within left index false r small above = λ _. ((omega (arith, small, above), omega (arith, small, above)), tt)

  -- a local operation
  operations-within : (o : Operation) (iptr : ℕ) (r : Registers) → r.b < 2 ^ 32
      → IfSome (operation_effect o (record r { iptr = iptr })) (λ x. WritesWithin n c (written_by (Some o) r) x)
  unfolding operation_effect written_by
  operations-within op.Lend iptr r small =
      λ above count _ index. looped-within (minus count 1) index (is_positive_word (minus count 1))
      (record r { iptr = iptr }) small (word_above n c Writes (plus r.b 4) above)
  operations-within op.Sb iptr r small = (whole _, tt)
  operations-within op.Move iptr r small = (whole _, tt)
  operations-within _ iptr r small = search

  local-within : (x : Option (Action Outcome)) (o : Operation) (p : Span) (b : Registers)
      → IfSome x (λ x. WritesWithin n c p x) → WritesWithin n c p (local_or_left x o b)
  local-within (Some x) o p b h = h
  local-within None o p b h = tt

  selected-within : (o : Option Operation) (iptr : ℕ) (r : Registers) → r.b < 2 ^ 32
      → WritesWithin n c (written_by o r) (selected_effect o r (record r { iptr = iptr }))
  selected-within None iptr r small = tt
  selected-within (Some o) iptr r small =
      local-within (operation_effect o (record r { iptr = iptr })) o (written_by (Some o) r) r
      (operations-within o iptr r small)

  effect_at-within : (kind : Kind) (f : Function) (k iptr : ℕ) (r : Registers) → r.b < 2 ^ 32
      → WritesWithin n c (written kind f k r) (effect_at kind f k r (record r { iptr = iptr }))
  unfolding written
  effect_at-within kind function.Opr k iptr r small = selected-within (operation_at kind k) iptr r small
  effect_at-within kind f k iptr r small = functions-within kind f k iptr r

-- what an instruction did to the registers, with Iptr behind it, stands outside the bytes that it may write
pub outside_at : (kind : Kind) (f : Function) (k iptr : ℕ) (b r : Registers) (c : Claims) (s s' : Store) (next : Next)
    → b.b < 2 ^ 32
    → run (effect_at kind f k b (record b { iptr = iptr })) s c ≡ Ok ((r, next), s')
    → StandsOutside (written kind f k b) s s'
outside_at kind f k iptr b r c s s' next small e =
    run_from-outside (written kind f k b) (effect_at kind f k b (record b { iptr = iptr })) s s c (r, next) s' refl
    (effect_at-within (length s) c kind f k iptr b small) e

-- the operation that an operand selects has it as its code
found_by : (p : Operation → Bool) (os : List Operation) (o : Operation) → find p os ≡ Some o → p o ≡ true
found_by p [] o e = cc
found_by p (x ∷ os) o e = by (p x) refl e (found_by p os o)
  where
    by : (b : Bool) → p x ≡ b → cond b (Some x) (find p os) ≡ Some o → (find p os ≡ Some o → p o ≡ true) → p o ≡ true
    by true is h more = let same : x ≡ o = cc in rw (← same) is
    by false is h more = more h

code_of : (kind : Kind) (operand : ℕ) (o : Operation) → operation_at kind operand ≡ Some o
    → operand ≡ (operation_entry o).code
unfolding operation_at
code_of kind operand o e =
    sym (eqb-true (operation_entry o).code operand (and_parts (is_of o kind) _
    (found_by (λ x. is_of x kind && (operation_entry x).code == operand) all_operations o e)).1)

writes_but : (o : Option Operation) (r : Registers) → (o ≡ Some op.Lend → ⊥) → (o ≡ Some op.Sb → ⊥)
    → (o ≡ Some op.Move → ⊥) → written_by o r ≡ nothing
unfolding written_by
writes_but (Some op.Lend) r l b m = absurd (l refl)
writes_but (Some op.Sb) r l b m = absurd (b refl)
writes_but (Some op.Move) r l b m = absurd (m refl)
writes_but _ r l b m = refl

-- an operation writes nothing but by three operands
pub writes_nothing : (kind : Kind) (operand : ℕ) (r : Registers) → operand ≢ 0x21 → operand ≢ 0x3b → operand ≢ 0x4a
    → written_by (operation_at kind operand) r ≡ nothing
writes_nothing kind operand r l b m =
    writes_but (operation_at kind operand) r (λ e. l (code_of kind operand op.Lend e))
    (λ e. b (code_of kind operand op.Sb e)) (λ e. m (code_of kind operand op.Move e))
