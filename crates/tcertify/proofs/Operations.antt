-- Operations that are none of the scheduler.
use Rattle.std.proofs.Common.{◌≡◌, refl}
use Rattle.tword.specs.declared.breaks.Break.TheVariants.{NoSuchOperation}
use Rattle.tcode.specs.declared.instruction.Operation.{Operation}
use Rattle.tcode.specs.declared.instruction.Operation.TheVariants.{Rev, Lb, Bsub, Endp, Diff, Add, Gcall, In, Prod, Gt}
use Rattle.tcode.specs.declared.instruction.Operation.TheVariants.{Wsub, Out, Sub, Startp, Outbyte, Outword, Seterr}
use Rattle.tcode.specs.declared.instruction.Operation.TheVariants.{Csub0, Stopp, Ladd, Norm, Ldiv, Ldpi, Xdble, Ldpri}
use Rattle.tcode.specs.declared.instruction.Operation.TheVariants.{Rem, Ret, Lend, Testerr, Testpranal, Div, Disc}
use Rattle.tcode.specs.declared.instruction.Operation.TheVariants.{Diss, Lmul, Not, Xor, Bcnt, Lshr, Lshl, Lsum, Lsub}
use Rattle.tcode.specs.declared.instruction.Operation.TheVariants.{Runp, Xword, Sb, Gajw, Wcnt, Shr, Shl, Mint, Alt}
use Rattle.tcode.specs.declared.instruction.Operation.TheVariants.{Altwt, Altend, And, Enbc, Enbs, Move, Or, Csngl}
use Rattle.tcode.specs.declared.instruction.Operation.TheVariants.{Ccnt1, Ldiff, Sum, Mul, Stoperr, Cword, Clrhalterr}
use Rattle.tcode.specs.declared.instruction.Operation.TheVariants.{Sethalterr, Testhalterr, Dup}
use Rattle.tprocesses.specs.Places.{Name}
use Rattle.tprocesses.specs.Values.{Context}
use Rattle.tprocesses.specs.Parts.{Breaks, stopping}
use Rattle.tprocesses.specs.Touching.{Site}
use Rattle.tprocesses.specs.Scheduling.{schedules}

module _ (s : Site) (x : Name) (c : Context) where
  -- the operation is none of the scheduler
  abbrev IsNone : Operation → Type 0
  IsNone o = schedules o s x c ≡ stopping (Breaks NoSuchOperation)

  pub no_such : (o : Operation) → (o ≡ Endp → ⊥) → (o ≡ In → ⊥) → (o ≡ Out → ⊥) → (o ≡ Startp → ⊥) → (o ≡ Outbyte → ⊥)
      → (o ≡ Outword → ⊥) → (o ≡ Stopp → ⊥) → (o ≡ Ldpri → ⊥) → (o ≡ Disc → ⊥) → (o ≡ Diss → ⊥) → (o ≡ Runp → ⊥)
      → (o ≡ Alt → ⊥) → (o ≡ Altwt → ⊥) → (o ≡ Altend → ⊥) → (o ≡ Enbc → ⊥) → (o ≡ Enbs → ⊥) → (o ≡ Stoperr → ⊥)
      → IsNone o
  no_such Rev a b d e f g h i j k l m n o p q r = refl
  no_such Lb a b d e f g h i j k l m n o p q r = refl
  no_such Bsub a b d e f g h i j k l m n o p q r = refl
  no_such Endp a b d e f g h i j k l m n o p q r = absurd (a refl)
  no_such Diff a b d e f g h i j k l m n o p q r = refl
  no_such Add a b d e f g h i j k l m n o p q r = refl
  no_such Gcall a b d e f g h i j k l m n o p q r = refl
  no_such In a b d e f g h i j k l m n o p q r = absurd (b refl)
  no_such Prod a b d e f g h i j k l m n o p q r = refl
  no_such Gt a b d e f g h i j k l m n o p q r = refl
  no_such Wsub a b d e f g h i j k l m n o p q r = refl
  no_such Out a b d e f g h i j k l m n o p q r = absurd (d refl)
  no_such Sub a b d e f g h i j k l m n o p q r = refl
  no_such Startp a b d e f g h i j k l m n o p q r = absurd (e refl)
  no_such Outbyte a b d e f g h i j k l m n o p q r = absurd (f refl)
  no_such Outword a b d e f g h i j k l m n o p q r = absurd (g refl)
  no_such Seterr a b d e f g h i j k l m n o p q r = refl
  no_such Csub0 a b d e f g h i j k l m n o p q r = refl
  no_such Stopp a b d e f g h i j k l m n o p q r = absurd (h refl)
  no_such Ladd a b d e f g h i j k l m n o p q r = refl
  no_such Norm a b d e f g h i j k l m n o p q r = refl
  no_such Ldiv a b d e f g h i j k l m n o p q r = refl
  no_such Ldpi a b d e f g h i j k l m n o p q r = refl
  no_such Xdble a b d e f g h i j k l m n o p q r = refl
  no_such Ldpri a b d e f g h i j k l m n o p q r = absurd (i refl)
  no_such Rem a b d e f g h i j k l m n o p q r = refl
  no_such Ret a b d e f g h i j k l m n o p q r = refl
  no_such Lend a b d e f g h i j k l m n o p q r = refl
  no_such Testerr a b d e f g h i j k l m n o p q r = refl
  no_such Testpranal a b d e f g h i j k l m n o p q r = refl
  no_such Div a b d e f g h i j k l m n o p q r = refl
  no_such Disc a b d e f g h i j k l m n o p q r = absurd (j refl)
  no_such Diss a b d e f g h i j k l m n o p q r = absurd (k refl)
  no_such Lmul a b d e f g h i j k l m n o p q r = refl
  no_such Not a b d e f g h i j k l m n o p q r = refl
  no_such Xor a b d e f g h i j k l m n o p q r = refl
  no_such Bcnt a b d e f g h i j k l m n o p q r = refl
  no_such Lshr a b d e f g h i j k l m n o p q r = refl
  no_such Lshl a b d e f g h i j k l m n o p q r = refl
  no_such Lsum a b d e f g h i j k l m n o p q r = refl
  no_such Lsub a b d e f g h i j k l m n o p q r = refl
  no_such Runp a b d e f g h i j k l m n o p q r = absurd (l refl)
  no_such Xword a b d e f g h i j k l m n o p q r = refl
  no_such Sb a b d e f g h i j k l m n o p q r = refl
  no_such Gajw a b d e f g h i j k l m n o p q r = refl
  no_such Wcnt a b d e f g h i j k l m n o p q r = refl
  no_such Shr a b d e f g h i j k l m n o p q r = refl
  no_such Shl a b d e f g h i j k l m n o p q r = refl
  no_such Mint a b d e f g h i j k l m n o p q r = refl
  no_such Alt a b d e f g h i j k l m n o p q r = absurd (m refl)
  no_such Altwt a b d e f g h i j k l m n o p q r = absurd (n refl)
  no_such Altend a b d e f g h i j k l m n o p q r = absurd (o refl)
  no_such And a b d e f g h i j k l m n o p q r = refl
  no_such Enbc a b d e f g h i j k l m n o p q r = absurd (p refl)
  no_such Enbs a b d e f g h i j k l m n o p q r = absurd (q refl)
  no_such Move a b d e f g h i j k l m n o p q r = refl
  no_such Or a b d e f g h i j k l m n o p q r = refl
  no_such Csngl a b d e f g h i j k l m n o p q r = refl
  no_such Ccnt1 a b d e f g h i j k l m n o p q r = refl
  no_such Ldiff a b d e f g h i j k l m n o p q r = refl
  no_such Sum a b d e f g h i j k l m n o p q r = refl
  no_such Mul a b d e f g h i j k l m n o p q r = refl
  no_such Stoperr a b d e f g h i j k l m n o p q r = absurd (r refl)
  no_such Cword a b d e f g h i j k l m n o p q r = refl
  no_such Clrhalterr a b d e f g h i j k l m n o p q r = refl
  no_such Sethalterr a b d e f g h i j k l m n o p q r = refl
  no_such Testhalterr a b d e f g h i j k l m n o p q r = refl
  no_such Dup a b d e f g h i j k l m n o p q r = refl
