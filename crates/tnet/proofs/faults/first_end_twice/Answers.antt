use Rattle.std.proofs.Common.{◌≡◌, ℕ, ◌+◌, ◌<◌, ◌≤◌, ◌⊎◌, inl, inr, false, sym, ◌∙◌, arith}
use Rattle.std.proofs.lemmas.Bool.{cases_lt}
use Rattle.std.proofs.lemmas.Option.{slice_get_within}
use Rattle.tplan.specs.Wires.{all_wires}
use Rattle.tnet.specs.Building.{has_end_twice}
use Rattle.tnet.proofs.FirstFaults.{twice_is, twice_none, twice_at}
use Rattle.tnet.proofs.faults.first_end_twice.Goals as goal

pub returns-then-is_end_twice : goal.returns-then-is_end_twice
returns-then-is_end_twice c =
    sym (twice_is (all_wires c.args.plan.now) c.loop-place.place
    (slice_get_within (all_wires c.args.plan.now) c.loop-place.place c.wire_at.result c.wire_at.ensures)
    c.loop-place.invariant
    (twice_at (all_wires c.args.plan.now) c.loop-place.place c.wire_at.result c.wire_at.ensures
    ∙ sym c.is_end_twice.ensures ∙ c.if-is_end_twice.true))

pub loop-place-preserved : goal.loop-place-preserved
loop-place-preserved c = λ k b. by k b (cases_lt k c.loop-place.place)
  where
    by : (k : ℕ) → k < c.loop-place.place + 1 → (k < c.loop-place.place) ⊎ (c.loop-place.place ≤ k)
        → has_end_twice (all_wires c.args.plan.now) k ≡ false
    by k b (inl before) = c.loop-place.invariant k before
    by k b (inr here) =
        let e : k ≡ c.loop-place.place = omega (arith, b, here) in
        rw e (twice_at (all_wires c.args.plan.now) c.loop-place.place c.wire_at.result c.wire_at.ensures
        ∙ sym c.is_end_twice.ensures ∙ c.if-is_end_twice.false)

pub returns : goal.returns
returns c =
    sym (twice_none (all_wires c.args.plan.now) (λ k b. c.loop-place.invariant k
    (omega (arith, b, c.loop-place-test.false, c.wire_count-place-end.ensures))))
