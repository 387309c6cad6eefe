use Rattle.std.proofs.Common.{◌≡◌, sym, true, arith, subst}
use Rattle.std.specs.Prelude.{nat_le}
use Rattle.std.proofs.lemmas.Bool.{le-leb}
use Rattle.std.proofs.lemmas.List.Sums.{position_or_len_is}
use Rattle.tproc.specs.declared.waiter.Reason.TheVariants.{Chooses}
use Rattle.tproc.specs.declared.waiter.Waiter.{Waiter}
use Rattle.twhere.proofs.listing.place_of.Goals as goal

pub returns-then-get-clause-place : goal.returns-then-get-clause-place
returns-then-get-clause-place c =
    let other : Waiter = c.index-sorted-place.result in
    let passes : nat_le c.args.process other.process ≡ true =
    le-leb c.args.process other.process (omega (arith, c.if-get.true, c.get.ensures, c.get-in-loop-place.ensures)) in
    sym
    (position_or_len_is (λ v. nat_le c.args.process v.process) c.args.sorted.now c.loop-place.place other
    (omega (arith, c.loop-place-test.true)) (λ k l. c.loop-place.invariant k other l)
    (λ _. subst (λ (w : Waiter). nat_le c.args.process w.process ≡ true) c.index-sorted-place.is passes))

pub returns-clause-place : goal.returns-clause-place
returns-clause-place c =
    let none : Waiter = record { process = 0; reason = Chooses } in
    sym
    (position_or_len_is (λ v. nat_le c.args.process v.process) c.args.sorted.now _ none
    (omega arith) (λ k l. c.loop-place.invariant k none (omega (arith, l, c.loop-place-test.false)))
    (λ l. absurd (omega (arith, l))))
