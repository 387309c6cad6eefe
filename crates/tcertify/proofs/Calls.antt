-- The row of `call`: four writes, one after another.
use Rattle.std.proofs.Common.{◌≡◌, ℕ, ◌∙◌, Bool, true, List, [], ◌∷◌, Result, Ok, Err}
use Rattle.std.specs.Int.{w32, to_le_bytes}
use Rattle.tcode.specs.declared.instruction.Function.TheVariants.{Call}
use Rattle.tword.specs.Stores.{Store}
use Rattle.tword.specs.Words.{minus, plus}
use Rattle.tword.specs.Actions.{Action, writing_word}
use Rattle.tcpu.specs.declared.registers.Registers.{Registers}
use Rattle.tcpu.specs.declared.registers.Next.TheVariants.{Go}
use Rattle.tcpu.specs.Functions.{function_effect}
use Rattle.tcpu.specs.Outcomes.{Outcome, goes}
use Rattle.tprocesses.specs.Parts.{Reason, Part}
use Rattle.tprocesses.specs.Touching.{Site, write_word_at}
use Rattle.tprocesses.specs.Performing.{Performed, perform, bytes_if}
use Rattle.tcertify.specs.declared.stored.Words.{Words}
use Rattle.tcertify.specs.Words.{Runs, site_of}
use Rattle.tcertify.proofs.Running.{runs_given}
use Rattle.tcertify.proofs.Actions.{write_at, writes_not, writes_on}

-- the row of `call`
module _ (w : Words) (known_a known_b known_c : Bool) (n : ℕ) (r : Registers) where
  -- what is left of it behind each of its writes
  abbrev pub entered : Action Outcome
  entered = goes (record r { wptr = minus r.wptr 16; a = r.iptr; iptr = plus r.iptr n })

  abbrev pub after_third : Action Outcome
  after_third = writing_word (minus r.wptr 4) r.c entered

  abbrev pub after_second : Action Outcome
  after_second = writing_word (minus r.wptr 8) r.b after_third

  abbrev pub after_first : Action Outcome
  after_first = writing_word (minus r.wptr 12) r.a after_second

  -- what is known of the values that are still to be written
  abbrev of_third : List Bool
  of_third = known_c ∷ []

  abbrev of_second : List Bool
  of_second = known_b ∷ of_third

  abbrev of_first : List Bool
  of_first = known_a ∷ of_second

  -- a value that is written
  abbrev value : Bool → ℕ → Store
  value known v = bytes_if known (to_le_bytes w32 v)

  abbrev s : Site
  s = site_of w

  abbrev pub row : Part (Performed Outcome)
  row = perform s (true ∷ of_first) (function_effect Call n r)

  pub first_not : (v : Words) (why : Reason)
      → Runs (write_word_at s (minus r.wptr 16) (value true r.iptr)) w (Err why) v
      → Runs row w (Err why) v
  unfolding function_effect
  first_not v why h = writes_not s (true ∷ of_first) w v (minus r.wptr 16) r.iptr after_first why h

  module _ (v : Words) (same : site_of v ≡ s)
      (one : Runs (write_word_at s (minus r.wptr 16) (value true r.iptr)) w (Ok tt) v) where
    first : (u : Words) (x : Result (Performed Outcome) Reason) → Runs (perform s of_first after_first) v x u
        → Runs row w x u
    unfolding function_effect
    first u x h = writes_on s (true ∷ of_first) w v u (minus r.wptr 16) r.iptr after_first x one h

    pub second_not : (u : Words) (why : Reason)
        → Runs (write_word_at (site_of v) (minus r.wptr 12) (value known_a r.a)) v (Err why) u → Runs row w (Err why) u
    second_not u why h =
        first u (Err why) (writes_not s of_first v u (minus r.wptr 12) r.a after_second why
        (write_at w v u (minus r.wptr 12) (value known_a r.a) (Err why) same h))

    module _ (u : Words) (alike : site_of u ≡ site_of v)
        (two : Runs (write_word_at (site_of v) (minus r.wptr 12) (value known_a r.a)) v (Ok tt) u) where
      second : (t : Words) (x : Result (Performed Outcome) Reason) → Runs (perform s of_second after_second) u x t
          → Runs row w x t
      second t x h =
          first t x (writes_on s of_first v u t (minus r.wptr 12) r.a after_second x
          (write_at w v u (minus r.wptr 12) (value known_a r.a) (Ok tt) same two) h)

      pub third_not : (t : Words) (why : Reason)
          → Runs (write_word_at (site_of u) (minus r.wptr 8) (value known_b r.b)) u (Err why) t
          → Runs row w (Err why) t
      third_not t why h =
          second t (Err why) (writes_not s of_second u t (minus r.wptr 8) r.b after_third why
          (write_at w u t (minus r.wptr 8) (value known_b r.b) (Err why) (alike ∙ same) h))

      module _ (t : Words) (equal : site_of t ≡ site_of u)
          (three : Runs (write_word_at (site_of u) (minus r.wptr 8) (value known_b r.b)) u (Ok tt) t) where
        third : (z : Words) (x : Result (Performed Outcome) Reason) → Runs (perform s of_third after_third) t x z
            → Runs row w x z
        third z x h =
            second z x (writes_on s of_second u t z (minus r.wptr 8) r.b after_third x
            (write_at w u t (minus r.wptr 8) (value known_b r.b) (Ok tt) (alike ∙ same) three) h)

        pub last_not : (z : Words) (why : Reason)
            → Runs (write_word_at (site_of t) (minus r.wptr 4) (value known_c r.c)) t (Err why) z
            → Runs row w (Err why) z
        last_not z why h =
            third z (Err why) (writes_not s of_third t z (minus r.wptr 4) r.c entered why
            (write_at w t z (minus r.wptr 4) (value known_c r.c) (Err why) (equal ∙ alike ∙ same) h))

        pub calls : (z : Words)
            → Runs (write_word_at (site_of t) (minus r.wptr 4) (value known_c r.c)) t (Ok tt) z
            → Runs row w (Ok (record {
              value = (record r { wptr = minus r.wptr 16; a = r.iptr; iptr = plus r.iptr n }, Go);
              known = true;
            })) z
        calls z h =
            third z _ (writes_on s of_third t z z (minus r.wptr 4) r.c entered _
            (write_at w t z (minus r.wptr 4) (value known_c r.c) (Ok tt) (equal ∙ alike ∙ same) h) (runs_given _ z))
