-- What the commonest instructions that touch no memory leave.
use Rattle.std.proofs.Common.{◌≡◌, ℕ, refl, sym, ap, ◌∙◌, subst, Bool, true, false, Option, Some, None}
use Rattle.std.proofs.lemmas.Bool.{eqb-true}
use Rattle.std.specs.Prelude.{◌==◌, ◌&&◌, ◌+ℤ◌, bit_and, bit_or, bit_xor, int_lt, is_some, unwrap_or, if◌then◌else◌}
use Rattle.tword.specs.declared.kind.Kind.{Kind}
use Rattle.tword.specs.Words.{minus, overflows, plus, reduced, signed, word_from}
use Rattle.tcode.specs.declared.instruction.Function.{Function}
use Rattle.tcode.specs.declared.instruction.Function.TheVariants.{Adc, Cj, Eqc, Ldc, Ldlp, Ldnlp, Opr}
use Rattle.tcode.specs.declared.instruction.Operation.{Operation}
use Rattle.tcode.specs.declared.instruction.Operation.TheVariants.{And, Bsub, Diff, Gt, Or, Sum, Wsub, Xor}
use Rattle.tcode.specs.Table.{operation_at}
use Rattle.tcode.specs.declared.instruction.Instruction.{Instruction}
use Rattle.tcpu.specs.declared.registers.Registers.{Registers}
use Rattle.tcpu.specs.Effects.{effect, local_or_left, selected_effect}
use Rattle.tcpu.specs.Functions.{function_effect}
use Rattle.tcpu.specs.Outcomes.{all_to, checked, flag, goes, one_to, pop, push}
use Rattle.tcpu.specs.Operations.{operation_effect}
use Rattle.tprocesses.specs.Instructions.{context_after, is_about_flags, registers}
use Rattle.tprocesses.specs.Uses.{Uses, FromA, FromB, FromC, NeedsA, drops_one, has_needed, known_value, uses}
use Rattle.tprocesses.specs.Uses.{operation_uses, replaces_two, selected_uses}
use Rattle.tprocesses.specs.Values.{Context}
use Rattle.tcertify.specs.Common.{LeavesAlone, MakesOne, unseen}

-- a register that is kept is known where it was
pub kept_known : (o : Option ℕ) → known_value (is_some o) (unwrap_or o 0) ≡ o
kept_known None = refl
kept_known (Some v) = refl

-- a number that is not 0
pub no_zero : (n : ℕ) → (n ≡ 0 → ⊥) → (n == 0) ≡ false
no_zero n ne = by (n == 0) refl
  where
    by : (t : Bool) → (n == 0) ≡ t → (n == 0) ≡ false
    by true e = absurd (ne (eqb-true n 0 e))
    by false e = e

-- an operation of which the effect is told as a row
makes_by : (o : Operation) (f : ℕ → ℕ → ℕ)
    → ((r : Registers) → operation_effect o r ≡ Some (goes (all_to (f r.b r.a) r)))
    → operation_uses o ≡ replaces_two → is_about_flags (Some o) ≡ false → (b a v : ℕ) → v ≡ f b a → MakesOne o b a v
makes_by o f row used plain b a v e =
    record {
      effect = λ r is-b is-a. row r
          ∙ (λ j. Some (goes (all_to (((λ k. f (is-b k) (is-a k)) ∙ sym e) j) r)));
      uses = used;
      plain = plain;
    }

pub makes_bsub : (b a v : ℕ) → v ≡ plus a b → MakesOne Bsub b a v
unfolding operation_effect
makes_bsub = makes_by Bsub (λ b a. plus a b) (λ r. refl) refl refl

pub makes_wsub : (b a v : ℕ) → v ≡ word_from a b → MakesOne Wsub b a v
unfolding operation_effect
makes_wsub = makes_by Wsub (λ b a. word_from a b) (λ r. refl) refl refl

pub makes_sum : (b a v : ℕ) → v ≡ plus b a → MakesOne Sum b a v
unfolding operation_effect
makes_sum = makes_by Sum (λ b a. plus b a) (λ r. refl) refl refl

pub makes_diff : (b a v : ℕ) → v ≡ minus b a → MakesOne Diff b a v
unfolding operation_effect
makes_diff = makes_by Diff (λ b a. minus b a) (λ r. refl) refl refl

pub makes_gt : (b a v : ℕ) → v ≡ flag (int_lt (signed a) (signed b)) → MakesOne Gt b a v
unfolding operation_effect
makes_gt = makes_by Gt (λ b a. flag (int_lt (signed a) (signed b))) (λ r. refl) refl refl

pub makes_and : (b a v : ℕ) → v ≡ bit_and b a → MakesOne And b a v
unfolding operation_effect
makes_and = makes_by And (λ b a. bit_and b a) (λ r. refl) refl refl

pub makes_or : (b a v : ℕ) → v ≡ bit_or b a → MakesOne Or b a v
unfolding operation_effect
makes_or = makes_by Or (λ b a. bit_or b a) (λ r. refl) refl refl

pub makes_xor : (b a v : ℕ) → v ≡ bit_xor b a → MakesOne Xor b a v
unfolding operation_effect
makes_xor = makes_by Xor (λ b a. bit_xor b a) (λ r. refl) refl refl

module _ (kind : Kind) (c : Context) (i : Instruction) where
  -- the registers with Iptr behind the instruction
  abbrev behind : Registers
  behind = record (registers c unseen) { iptr = plus c.iptr i.length }

  -- the context where a value was pushed, and where one was put into the place of A
  abbrev pub pushed : ℕ → Context
  pushed v = record c { iptr = plus c.iptr i.length; a = Some v; b = c.a; c = c.b }

  abbrev pub replaced : ℕ → Context
  replaced v = record c { iptr = plus c.iptr i.length; a = Some v }

  -- the context where A was popped, and where a jump was made
  abbrev pub popped : Context
  popped = record c { iptr = plus c.iptr i.length; a = c.b; b = c.c }

  abbrev pub jumped : Context
  jumped = record c { iptr = plus (plus c.iptr i.length) i.operand }

  -- the instruction of another function
  abbrev of : Function → Instruction
  of f = record i { function = f }

  leaves : (f : Function) (after : Context) → i.function ≡ f → LeavesAlone kind c (of f) after
      → LeavesAlone kind c i after
  leaves f after e h = subst (λ (g : Function). LeavesAlone kind c (of g) after) (sym e) h

  pub loads_constant : i.function ≡ Ldc → LeavesAlone kind c i (pushed i.operand)
  unfolding effect function_effect
  loads_constant e =
      leaves Ldc (pushed i.operand) e
      (record {
        registers = push i.operand behind;
        enough = refl;
        plain = refl;
        effect = refl;
        workspace = refl;
        left = λ j. record (pushed i.operand) { b = kept_known c.a j; c = kept_known c.b j };
      })

  pub loads_address : (v : ℕ) → v ≡ word_from c.wptr i.operand → i.function ≡ Ldlp → LeavesAlone kind c i (pushed v)
  unfolding effect function_effect
  loads_address v is e =
      subst (λ (w : ℕ). LeavesAlone kind c i (pushed w)) (sym is)
      (leaves Ldlp (pushed (word_from c.wptr i.operand)) e
      (record {
        registers = push (word_from c.wptr i.operand) behind;
        enough = refl;
        plain = refl;
        effect = refl;
        workspace = refl;
        left = λ j. record (pushed (word_from c.wptr i.operand)) { b = kept_known c.a j; c = kept_known c.b j };
      }))

  -- A is known
  module _ (a : ℕ) (is : c.a ≡ Some a) where
    known : is_some c.a ≡ true
    known = ap (λ (o : Option ℕ). is_some o) is

    -- what A makes
    makes : (f : ℕ → ℕ) (v : ℕ) → v ≡ f a → f (unwrap_or c.a 0) ≡ v
    makes f v e = ap (λ (o : Option ℕ). f (unwrap_or o 0)) is ∙ sym e

    -- the context where A was replaced by what it makes
    left_by : (n v : ℕ) → n ≡ v
        → record c {
          iptr = plus c.iptr i.length;
          a = Some n;
          b = known_value (is_some c.b) (unwrap_or c.b 0);
          c = known_value (is_some c.c) (unwrap_or c.c 0);
        } ≡ replaced v
    left_by n v e = λ j. record c {
      iptr = plus c.iptr i.length;
      a = Some (e j);
      b = kept_known c.b j;
      c = kept_known c.c j;
    }

    pub loads_non_local_address : (v : ℕ) → v ≡ word_from a i.operand → i.function ≡ Ldnlp
        → LeavesAlone kind c i (replaced v)
    unfolding effect function_effect
    loads_non_local_address v e f =
        leaves Ldnlp (replaced v) f
        (record {
          registers = one_to (word_from (unwrap_or c.a 0) i.operand) behind;
          enough = known;
          plain = refl;
          effect = refl;
          workspace = refl;
          left = left_by _ v (makes (λ n. word_from n i.operand) v e);
        })

    pub adds_constant : (v : ℕ) → v ≡ reduced (signed a +ℤ signed i.operand)
        → overflows (signed a +ℤ signed i.operand) ≡ false → i.function ≡ Adc → LeavesAlone kind c i (replaced v)
    unfolding effect function_effect
    adds_constant v e fits f =
        leaves Adc (replaced v) f
        (record {
          registers = one_to (reduced (signed (unwrap_or c.a 0) +ℤ signed i.operand)) behind;
          enough = known;
          plain = refl;
          effect = λ j. checked
              ((ap (λ (o : Option ℕ). overflows (signed (unwrap_or o 0) +ℤ signed i.operand)) is ∙ fits) j)
              (one_to (reduced (signed (unwrap_or c.a 0) +ℤ signed i.operand)) behind);
          workspace = refl;
          left = left_by _ v (makes (λ n. reduced (signed n +ℤ signed i.operand)) v e);
        })

    pub tests_equal : (v : ℕ) → v ≡ flag (a == i.operand) → i.function ≡ Eqc → LeavesAlone kind c i (replaced v)
    unfolding effect function_effect
    tests_equal v e f =
        leaves Eqc (replaced v) f
        (record {
          registers = one_to (flag (unwrap_or c.a 0 == i.operand)) behind;
          enough = known;
          plain = refl;
          effect = refl;
          workspace = refl;
          left = left_by _ v (makes (λ n. flag (n == i.operand)) v e);
        })

    -- what a conditional jump uses
    abbrev used_by : Bool → Uses
    used_by t = if t then uses NeedsA FromA FromB FromC else drops_one NeedsA

    abbrev jump_at : Bool → Registers
    jump_at t = if t then record behind { iptr = plus behind.iptr i.operand } else pop behind

    zero : (t : Bool) → (a == 0) ≡ t → (unwrap_or c.a 0 == 0) ≡ t
    zero t e = ap (λ (o : Option ℕ). unwrap_or o 0 == 0) is ∙ e

    needs : (t : Bool) → has_needed (used_by t).needs c ≡ true
    needs true = known
    needs false = known

    jumps_so : (t : Bool) (after : Context) → (a == 0) ≡ t
        → context_after c (used_by t) true (jump_at t) ≡ after → (jump_at t).wptr ≡ c.wptr
        → i.function ≡ Cj → LeavesAlone kind c i after
    unfolding effect function_effect
    jumps_so t after e left same f =
        leaves Cj after f
        (record {
          registers = jump_at t;
          enough = needs (unwrap_or c.a 0 == 0);
          plain = refl;
          effect = λ j. goes (jump_at (zero t e j));
          workspace = same;
          left = (λ j. context_after c (used_by (zero t e j)) true (jump_at t)) ∙ left;
        })

    pub jumps : (a == 0) ≡ true → i.function ≡ Cj → LeavesAlone kind c i jumped
    jumps e f =
        jumps_so true jumped e
        (λ j. record jumped { a = kept_known c.a j; b = kept_known c.b j; c = kept_known c.c j }) refl f

    pub jumps_not : (a == 0) ≡ false → i.function ≡ Cj → LeavesAlone kind c i popped
    jumps_not e f =
        jumps_so false popped e
        (λ j. record popped { a = kept_known c.b j; b = kept_known c.c j; c = kept_known c.c j }) refl f

    -- an operation on B and A
    module _ (b v : ℕ) (o : Operation) (is-b : c.b ≡ Some b) (at : operation_at kind i.operand ≡ Some o)
        (m : MakesOne o b a v) where
      uses_two : selected_uses (operation_at kind i.operand) ≡ replaces_two
      uses_two = ap selected_uses at ∙ m.uses

      both_known : (is_some c.a && is_some c.b) ≡ true
      both_known = ap (λ (t : Bool). t && is_some c.b) known ∙ ap (λ (x : Option ℕ). is_some x) is-b

      effect_two : operation_effect o behind ≡ Some (goes (all_to v behind))
      effect_two =
          m.effect behind (ap (λ (x : Option ℕ). unwrap_or x 0) is-b) (ap (λ (x : Option ℕ). unwrap_or x 0) is)

      pub makes_one : i.function ≡ Opr
          → LeavesAlone kind c i (record c { iptr = plus c.iptr i.length; a = Some v; b = c.c })
      unfolding effect
      makes_one f =
          leaves Opr (record c { iptr = plus c.iptr i.length; a = Some v; b = c.c }) f
          (record {
            registers = all_to v behind;
            enough = subst (λ (u : Uses). has_needed u.needs c ≡ true) (sym uses_two) both_known;
            plain = subst (λ (x : Option Operation). is_about_flags x ≡ false) (sym at) m.plain;
            effect = (λ j. selected_effect (at j) (registers c unseen) behind)
                ∙ (λ j. local_or_left (effect_two j) o (registers c unseen));
            workspace = refl;
            left = (λ j. context_after c (uses_two j) true (all_to v behind))
                ∙ (λ j. record c {
                  iptr = plus c.iptr i.length;
                  a = Some v;
                  b = kept_known c.c j;
                  c = kept_known c.c j;
                });
          })
