-- The row of `lend`: two reads, and then one write or two.
use Rattle.std.proofs.Common.{◌≡◌, ℕ, subst, ◌∙◌, Bool, true, false, [], Ok, Err}
use Rattle.std.specs.Prelude.{◌&&◌}
use Rattle.std.specs.Int.{w32, from_le_bytes, to_le_bytes}
use Rattle.tcode.specs.declared.instruction.Operation.TheVariants.{Lend}
use Rattle.tword.specs.Stores.{Store, shown}
use Rattle.tword.specs.Words.{minus, plus}
use Rattle.tword.specs.Touches.{Writes}
use Rattle.tword.specs.Actions.{Action, touching_word, writing_word}
use Rattle.tcpu.specs.declared.registers.Registers.{Registers}
use Rattle.tcpu.specs.declared.registers.Next.TheVariants.{Go, Jumped}
use Rattle.tcpu.specs.Effects.{local_or_left}
use Rattle.tcpu.specs.Operations.{operation_effect, looped, is_positive_word}
use Rattle.tcpu.specs.Outcomes.{Outcome, goes, jumps, pop}
use Rattle.tprocesses.specs.Changes.{are_known}
use Rattle.tprocesses.specs.Parts.{Reason, Part, Doing}
use Rattle.tprocesses.specs.Touching.{Site, touch_word_at, write_word_at}
use Rattle.tprocesses.specs.Performing.{Performed, perform, bytes_if}
use Rattle.tcertify.specs.declared.stored.Words.{Words}
use Rattle.tcertify.specs.Words.{Runs, site_of}
use Rattle.tcertify.proofs.Running.{runs_given}
use Rattle.tcertify.proofs.Actions.{and_true, at_site, reads_last, reads_not, reads_stop_behind, writes_not, writes_on}

module _ (w : Words) (r before : Registers) where
  abbrev s : Site
  s = site_of w

  abbrev pub row : Part (Performed Outcome)
  row = perform s [] (local_or_left (operation_effect Lend r) Lend before)

  -- what is left of the row behind the read of the index, and behind that of the count
  abbrev behind_index : ℕ → ℕ → Action Outcome
  behind_index count index = looped (minus count 1) index (is_positive_word (minus count 1)) r

  abbrev behind_count : ℕ → Action Outcome
  behind_count count = touching_word Writes r.b (behind_index count)

  pub no_count : (v : Words) (why : Reason) → Runs (touch_word_at s Writes (plus r.b 4)) w (Err why) v
      → Runs row w (Err why) v
  unfolding operation_effect
  no_count v why h = reads_not s [] w v Writes (plus r.b 4) behind_count why h

  module _ (t : Words) (count : Store) (first : Runs (touch_word_at s Writes (plus r.b 4)) w (Ok count) t)
      (near : site_of t ≡ s) where
    -- the count, fallen by 1
    abbrev pub left : ℕ
    left = minus (from_le_bytes w32 (shown count)) 1

    -- the read of the index
    abbrev index_at : Site → Part Store
    index_at z = touch_word_at z Writes r.b

    pub no_index : (v : Words) (why : Reason) → Runs (index_at (site_of t)) t (Err why) v → Runs row w (Err why) v
    unfolding operation_effect
    no_index v why h =
        reads_stop_behind s [] w t v Writes (plus r.b 4) behind_count count why first
        (reads_not s [] t v Writes r.b (behind_index (from_le_bytes w32 (shown count))) why
        (at_site index_at s (site_of t) t v (Err why) near h))

    module _ (u : Words) (index : Store) (second : Runs (index_at (site_of t)) t (Ok index) u)
        (by : site_of u ≡ site_of t) where
      -- the index as a number
      abbrev pub at : ℕ
      at = from_le_bytes w32 (shown index)

      abbrev next : Action Outcome
      next = behind_index (from_le_bytes w32 (shown count)) at

      -- the index is read at the node where the count is
      seen : Runs (index_at s) t (Ok index) u
      seen = at_site index_at s (site_of t) t u (Ok index) near second

      -- the write of the count
      abbrev count_at : Site → Doing
      count_at z = write_word_at z (plus r.b 4) (bytes_if true (to_le_bytes w32 left))

      -- the rest stops, or answers
      stops_there : (v : Words) (why : Reason) → Runs (perform s [] next) u (Err why) v → Runs row w (Err why) v
      unfolding operation_effect
      stops_there v why h =
          reads_stop_behind s [] w t v Writes (plus r.b 4) behind_count count why first
          (reads_stop_behind s [] t u v Writes r.b (behind_index (from_le_bytes w32 (shown count))) index why seen h)

      answers_there : (v : Words) (x : Outcome) → Runs (perform s [] next) u (Ok (record { value = x; known = true })) v
          → Runs row w (Ok (record { value = x; known = are_known count && are_known index })) v
      unfolding operation_effect
      answers_there v x h =
          subst (λ (k : Bool). Runs row w (Ok (record { value = x; known = are_known count && k })) v)
          (and_true (are_known index))
          (reads_last s [] w t v Writes (plus r.b 4) behind_count count
          (record { value = x; known = are_known index && true }) first
          (reads_last s [] t u v Writes r.b (behind_index (from_le_bytes w32 (shown count))) index
          (record { value = x; known = true }) seen h))

      -- the count may not be written
      unset : (b : Bool) (v : Words) (why : Reason) → Runs (count_at s) u (Err why) v
          → Runs (perform s [] (looped left at b r)) u (Err why) v
      unset true v why h =
          writes_not s [] u v (plus r.b 4) left
          (writing_word r.b (plus at 1) (jumps (record (pop (pop r)) { iptr = minus r.iptr r.a }))) why h
      unset false v why h = writes_not s [] u v (plus r.b 4) left (goes (pop (pop r))) why h

      pub no_count_set : (v : Words) (why : Reason) → Runs (count_at (site_of u)) u (Err why) v
          → Runs row w (Err why) v
      no_count_set v why h =
          stops_there v why
          (unset (is_positive_word left) v why (at_site count_at s (site_of u) u v (Err why) (by ∙ near) h))

      module _ (v : Words) (same : site_of v ≡ site_of u) (set : Runs (count_at (site_of u)) u (Ok tt) v) where
        counted : Runs (count_at s) u (Ok tt) v
        counted = at_site count_at s (site_of u) u v (Ok tt) (by ∙ near) set

        -- the loop ends
        pub loop_ends : is_positive_word left ≡ false
            → Runs row w (Ok (record { value = (pop (pop r), Go); known = are_known count && are_known index })) v
        loop_ends e =
            answers_there v (pop (pop r), Go)
            (rw e (writes_on s [] u v v (plus r.b 4) left (goes (pop (pop r)))
            (Ok (record { value = (pop (pop r), Go); known = true })) counted (runs_given _ v)))

        -- the write of the index
        abbrev risen_at : Site → Doing
        risen_at z = write_word_at z r.b (bytes_if true (to_le_bytes w32 (plus at 1)))

        -- it goes round, where the index may be written
        pub no_index_set : is_positive_word left ≡ true → (z : Words) (why : Reason)
            → Runs (risen_at (site_of v)) v (Err why) z → Runs row w (Err why) z
        no_index_set e z why h =
            stops_there z why
            (rw e (writes_on s [] u v z (plus r.b 4) left
            (writing_word r.b (plus at 1) (jumps (record (pop (pop r)) { iptr = minus r.iptr r.a }))) (Err why) counted
            (writes_not s [] v z r.b (plus at 1) (jumps (record (pop (pop r)) { iptr = minus r.iptr r.a })) why
            (at_site risen_at s (site_of v) v z (Err why) (same ∙ by ∙ near) h))))

        pub goes_round : is_positive_word left ≡ true → (z : Words) → Runs (risen_at (site_of v)) v (Ok tt) z
            → Runs row w (Ok (record {
              value = (record (pop (pop r)) { iptr = minus r.iptr r.a }, Jumped);
              known = are_known count && are_known index;
            })) z
        goes_round e z h =
            answers_there z (record (pop (pop r)) { iptr = minus r.iptr r.a }, Jumped)
            (rw e (writes_on s [] u v z (plus r.b 4) left
            (writing_word r.b (plus at 1) (jumps (record (pop (pop r)) { iptr = minus r.iptr r.a })))
            (Ok (record { value = (record (pop (pop r)) { iptr = minus r.iptr r.a }, Jumped); known = true })) counted
            (writes_on s [] v z z r.b (plus at 1) (jumps (record (pop (pop r)) { iptr = minus r.iptr r.a }))
            (Ok (record { value = (record (pop (pop r)) { iptr = minus r.iptr r.a }, Jumped); known = true }))
            (at_site risen_at s (site_of v) v z (Ok tt) (same ∙ by ∙ near) h) (runs_given _ z))))
