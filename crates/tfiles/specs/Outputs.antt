-- What of a text has gone out to a writer.
-- Source: own choice, a contract of this program.
use Rattle.std.specs.Prelude.{ℕ, ◌≡◌, ◌≤◌, ◌+◌, ◌-◌, ◌^◌, min, nat_lt, MatchBool, false, List, [], ◌++◌, length, take}
use Rattle.std.specs.Prelude.{drop, Option, Result, Ok, Err, MatchResult}
use Rattle.std.specs.Borrow.{MutBor}
use Rattle.std.specs.Io.KnownBytes.{Appends}
use Rattle.tfiles.specs.Failures.{Counts, HasRisen, HasStayed}
use Rattle.tfiles.specs.declared.writing.output.Output.{Output}
use Rattle.tfiles.specs.declared.writing.output.Progress.{Progress}
use Rattle.tfiles.specs.declared.writing.output.WriteFault.{WriteFault}

-- a number of bytes, as far as a word of 64 bits can hold it
abbrev pub counted : ℕ → ℕ
counted n = min n (2 ^ 64 - 1)

-- just the first bytes of a text went out, as many as were counted
pub record IsCut (old new : Option (List ℕ)) (text : List ℕ) (written : ℕ) : Type 0 where
  pub count : ℕ
  pub within : count ≤ length text
  pub out : Appends old new (take count text)
  pub told : written ≡ counted count

-- a text went out whole, or just its first bytes did, as many as the fault tells
abbrev pub IsOut : {T : Type 0} → Option (List ℕ) → Option (List ℕ) → List ℕ → Result T WriteFault → Type 0
IsOut old new text (Ok _) = Appends old new text
IsOut old new text (Err fault) = IsCut old new text fault.written

-- a writer took the first of some bytes, and failed unless it took all; just then it has counted one failure
pub record Takes {W : Type 0} (contents : W → Option (List ℕ)) (failures : W → Option ℕ) (old new : W) (bytes : List ℕ)
    (before after : Progress) : Type 0 where
  pub count : ℕ
  pub within : count ≤ length bytes
  pub out : Appends (contents old) (contents new) (take count bytes)
  pub told : after.written ≡ counted (before.written + count)
  pub failed : after.failed ≡ nat_lt count (length bytes)
  pub cause : Counts (failures old) (failures new) after.failed

-- a writer that has failed before is left as it is, any other takes bytes
abbrev pub HandsOn : {W : Type 0} (contents : W → Option (List ℕ)) (failures : W → Option ℕ) (old new : W)
    (bytes : List ℕ) (before after : Progress) → Type 0
HandsOn contents failures old new bytes before after =
    MatchBool before.failed ((new ≡ old) × (after ≡ before)) (Takes contents failures old new bytes before after)

-- what has become of a text that began while the writer held these bytes: its first bytes went out, and the others
-- wait, unless the writer has failed
pub record IsTold {W : Type 0} (contents : W → Option (List ℕ)) (start : Option (List ℕ)) (text : List ℕ)
    (o : Output W) : Type 0 where
  pub cut : IsCut start (contents o.writer.now) text o.progress.written
  pub rest : o.progress.failed ≡ false → o.waiting ≡ drop cut.count text

-- a text that began at this count of failures has failed just where its writer has counted one more
abbrev pub IsCaused : {W : Type 0} (failures : W → Option ℕ) (start : Option ℕ) (o : Output W) → Type 0
IsCaused failures start o = Counts start (failures o.writer.now) o.progress.failed

-- the text goes on with a piece
pub record Tells {W : Type 0} (contents : W → Option (List ℕ)) (failures : W → Option ℕ) (old new : Output W)
    (piece : List ℕ) : Type 0 where
  pub same : new.writer.ghost_name ≡ old.writer.ghost_name
  pub goes_on : (start : Option (List ℕ)) (text : List ℕ) → IsTold contents start text old
      → IsTold contents start (text ++ piece) new
  pub caused : (start : Option ℕ) → IsCaused failures start old → IsCaused failures start new

-- nothing of a text was told yet
pub record IsFresh {W : Type 0} (contents : W → Option (List ℕ)) (failures : W → Option ℕ) (writer : MutBor W)
    (o : Output W) : Type 0 where
  pub same : o.writer.ghost_name ≡ writer.ghost_name
  pub nothing : IsTold contents (contents writer.now) [] o
  pub caused : IsCaused failures (failures writer.now) o

-- the text ends: it is out whole, and the writer has counted no failure, or cut, and it has counted just one
pub record IsEnd {W : Type 0} (contents : W → Option (List ℕ)) (failures : W → Option ℕ) (old new : Output W)
    (result : Result (Unit {0}) WriteFault) : Type 0 where
  pub same : new.writer.ghost_name ≡ old.writer.ghost_name
  pub out : (start : Option (List ℕ)) (text : List ℕ) → IsTold contents start text old
      → IsOut start (contents new.writer.now) text result
  pub cause : (start : Option ℕ) → IsCaused failures start old
      → MatchResult result
      (λ _. HasStayed start (failures new.writer.now))
      (λ _. HasRisen start (failures new.writer.now))
