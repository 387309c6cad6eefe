-- What a processor does whose process offers a message on a link, or asks for one.
use Rattle.std.proofs.Common.{◌≡◌, ℕ, ◌+◌, refl, length, true, false, Ok, None}
use Rattle.std.specs.Prelude.{◌==◌}
use Rattle.std.proofs.lemmas.Bool.{eq-eqb, or_left}
use Rattle.tword.specs.Words.{word_below}
use Rattle.tword.specs.Stores.{Store, with_word}
use Rattle.tword.specs.Claims.{Claims, has_saved, saving}
use Rattle.tword.specs.Touches.{Writes, is_aligned, span_break, word_break, deschedule_break}
use Rattle.tword.specs.Actions.{run_from}
use Rattle.tcode.specs.declared.instruction.Operation.{Operation}
use Rattle.tcode.specs.declared.instruction.Operation.TheVariants.{In, Out, Outbyte, Outword}
use Rattle.tcpu.specs.declared.registers.Registers.{Registers}
use Rattle.tproc.specs.declared.channels.Side.TheVariants.{Input, Output}
use Rattle.tproc.specs.Channels.{Request, mode_of}
use Rattle.tproc.specs.LinkChannels.{is_link, is_right_end, link_of, link_end, is_free, offered, ran_link, message}
use Rattle.tproc.specs.Machine.{Control}
use Rattle.tproc.specs.Scheduler.{operation_step}

-- a request that a link can take
pub record MayTake (q : Request) (m : Control) (size : ℕ) (claims : Claims) : Type 0 where
  pub on_link : is_link q.channel ≡ true
  pub aligned : is_aligned q.channel ≡ true
  pub right : is_right_end q.side q.channel ≡ true
  pub some : (q.length == 0) ≡ false
  pub free : is_free q.side (link_end m (link_of q.side q.channel)) m ≡ true
  pub saves : deschedule_break size claims m.registers.wptr ≡ None
  pub touches : span_break size (saving m.registers.wptr claims) (mode_of q.side)
      (record { start = q.buffer; size = q.length }) ≡ None

-- it is taken, and its process waits
pub message_runs : (r : Registers) (q : Request) (m : Control) (old new : Store) (claims : Claims)
    → MayTake q m (length old) claims → run_from (message r q m) old claims new
    ≡ Ok (
      (offered q q.side m, ran_link q.side (link_of q.side q.channel)),
      with_word new (word_below m.registers.wptr 1) m.registers.iptr,
    )
message_runs r q m old new claims k =
    rw (k.on_link, k.aligned, k.right, k.some, k.free, k.saves, k.touches)
    (rw (or_left (m.registers.wptr == m.registers.wptr) (has_saved claims m.registers.wptr)
    (eq-eqb m.registers.wptr m.registers.wptr refl)) refl)

-- what an operation asks for
abbrev pub asked : Operation → Registers → (process : ℕ) → Request
asked In r process = record { process = process; side = Input; channel = r.b; buffer = r.c; length = r.a }
asked Outbyte r process = record { process = process; side = Output; channel = r.b; buffer = r.wptr; length = 1 }
asked Outword r process = record { process = process; side = Output; channel = r.b; buffer = r.wptr; length = 4 }
asked _ r process = record { process = process; side = Output; channel = r.b; buffer = r.c; length = r.a }

-- `in` and `out`
pub in_runs : (p : ℕ) (m : Control) (old new : Store) (claims : Claims)
    → MayTake (asked In m.registers (m.registers.wptr + p)) m (length old) claims
    → run_from (operation_step In p m) old claims new
    ≡ Ok (
      (
        offered (asked In m.registers (m.registers.wptr + p)) Input m,
        ran_link Input (link_of Input m.registers.b),
      ),
      with_word new (word_below m.registers.wptr 1) m.registers.iptr,
    )
unfolding operation_step
in_runs p m old new claims k = message_runs _ (asked In m.registers (m.registers.wptr + p)) m old new claims k

pub out_runs : (p : ℕ) (m : Control) (old new : Store) (claims : Claims)
    → MayTake (asked Out m.registers (m.registers.wptr + p)) m (length old) claims
    → run_from (operation_step Out p m) old claims new
    ≡ Ok (
      (
        offered (asked Out m.registers (m.registers.wptr + p)) Output m,
        ran_link Output (link_of Output m.registers.b),
      ),
      with_word new (word_below m.registers.wptr 1) m.registers.iptr,
    )
unfolding operation_step
out_runs p m old new claims k = message_runs _ (asked Out m.registers (m.registers.wptr + p)) m old new claims k

-- `outbyte` and `outword`, which lay the message down first
pub outbyte_runs : (p : ℕ) (m : Control) (old new : Store) (claims : Claims)
    → word_break (length old) claims Writes m.registers.wptr ≡ None
    → MayTake (asked Outbyte m.registers (m.registers.wptr + p)) m (length old) claims
    → run_from (operation_step Outbyte p m) old claims new
    ≡ Ok (
      (
        offered (asked Outbyte m.registers (m.registers.wptr + p)) Output m,
        ran_link Output (link_of Output m.registers.b),
      ),
      with_word (with_word new m.registers.wptr m.registers.a) (word_below m.registers.wptr 1) m.registers.iptr,
    )
unfolding operation_step
outbyte_runs p m old new claims h k =
    rw h (message_runs _ (asked Outbyte m.registers (m.registers.wptr + p)) m old
    (with_word new m.registers.wptr m.registers.a) claims k)

pub outword_runs : (p : ℕ) (m : Control) (old new : Store) (claims : Claims)
    → word_break (length old) claims Writes m.registers.wptr ≡ None
    → MayTake (asked Outword m.registers (m.registers.wptr + p)) m (length old) claims
    → run_from (operation_step Outword p m) old claims new
    ≡ Ok (
      (
        offered (asked Outword m.registers (m.registers.wptr + p)) Output m,
        ran_link Output (link_of Output m.registers.b),
      ),
      with_word (with_word new m.registers.wptr m.registers.a) (word_below m.registers.wptr 1) m.registers.iptr,
    )
unfolding operation_step
outword_runs p m old new claims h k =
    rw h (message_runs _ (asked Outword m.registers (m.registers.wptr + p)) m old
    (with_word new m.registers.wptr m.registers.a) claims k)
