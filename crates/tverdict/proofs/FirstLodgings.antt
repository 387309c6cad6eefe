-- Berths before the first step.
use Rattle.std.proofs.Common.{◌≡◌, ◌<◌, ◌≤◌, ◌+◌, ◌-◌, ◌∙◌, ℕ, zero, suc, ap, refl, sym, arith, Bool, true, false, List}
use Rattle.std.proofs.Common.{[], All, None, Some, length, map, pos, subst}
use Rattle.std.specs.List.{count_by, range_with_len}
use Rattle.std.specs.Prelude.{nat_le, slice_get}
use Rattle.std.proofs.lemmas.Bool.{leb-true}
use Rattle.std.proofs.lemmas.Int.{ints}
use Rattle.std.proofs.lemmas.List.Elements.{All-cons, All-nil}
use Rattle.std.proofs.lemmas.Option.{slice_get_within}
use Rattle.tword.specs.Limits.{most_processes}
use Rattle.tplan.specs.declared.plan.Plan.{Plan}
use Rattle.tprocesses.specs.Certified.{opened_processes}
use Rattle.tprocesses.specs.Opening.{opening_state}
use Rattle.tprocesses.specs.Places.{Population}
use Rattle.tprocesses.specs.Values.{amount_in}
use Rattle.tprocesses.proofs.Tally.{count_front, one_if}
use Rattle.tcertify.specs.declared.node.Node.{Node}
use Rattle.tcertify.specs.Running.{State}
use Rattle.tfollow.specs.declared.berth.Berth.{Berth}
use Rattle.tfollow.specs.Numbering.{AgentNumbers}
use Rattle.tfollow.proofs.Lodged.{lodging_begins}
use Rattle.tverdict.specs.declared.lodging.Lodging.{Lodging}
use Rattle.tverdict.specs.declared.machine.Machine.{Machine}
use Rattle.tverdict.specs.Lodging.{AreFirstLodgings, AreHoused, IsFirst, IsHoused, first_berth, lodgers}
use Rattle.tverdict.specs.Machines.{machine_at}
use Rattle.tverdict.proofs.Distinct.{at_low}
use Rattle.tverdict.proofs.Housed.{all_lodge, homes_of, names_long, population_at}

-- how many of the first berths are free
abbrev free_from : (count a n : ℕ) → ℕ
free_from count a n = count_by (λ (b : Berth). b.is_free) (map (first_berth count) (range_with_len a n))

free_first : (count a n : ℕ) → free_from count a (suc n) ≡ one_if (nat_le count a) + free_from count (a + 1) n
free_first count a n =
    count_front (λ (b : Berth). b.is_free) (first_berth count a) (map (first_berth count) (range_with_len (a + 1) n))

one_at_most : (b : Bool) → one_if b ≤ 1
one_at_most true = omega arith
one_at_most false = omega arith

free_at_most : (count a n : ℕ) → free_from count a n ≤ n
free_at_most count a zero = omega arith
free_at_most count a (suc n) =
    omega (arith, free_first count a n, one_at_most (nat_le count a), free_at_most count (a + 1) n)

free_behind : (count a n : ℕ) → free_from count a n ≤ a + n - count
free_behind count a zero = omega arith
free_behind count a (suc n) = by (nat_le count a) refl (free_behind count (a + 1) n)
  where
    by : (b : Bool) → nat_le count a ≡ b → free_from count (a + 1) n ≤ a + 1 + n - count
        → free_from count a (suc n) ≤ a + suc n - count
    by true e rest = let low : count ≤ a = leb-true count a e in
        let most = free_at_most count a (suc n) in omega (arith, low, most)
    by false e rest = let none : one_if (nat_le count a) ≡ 0 = ap one_if e in
        omega (arith, free_first count a n, none, rest)

few_together : (opened count free most : ℕ) → opened ≡ count → free ≤ 0 + most - count → count ≤ most
    → opened + free ≤ most
few_together opened count free most same behind low = omega (arith, same, behind, low)

-- and no step has moved one
none_moved : (count a n : ℕ) → All (λ (b : Berth). b.last ≡ None) (map (first_berth count) (range_with_len a n))
none_moved count a zero = All-nil (λ (b : Berth). b.last ≡ None)
none_moved count a (suc n) =
    All-cons (λ (b : Berth). b.last ≡ None) (first_berth count a)
    (map (first_berth count) (range_with_len (a + 1) n)) refl (none_moved count (a + 1) n)

module _ (plan : Plan) (m : Machine) (group : AgentNumbers)
    (numbers : (k : ℕ) (node : Node) → slice_get m.nodes.items k ≡ Some node → node.words.number ≡ k)
    (opens : machine_at plan m ≡ opening_state plan) where
  opened : (n : ℕ) (node : Node) → slice_get m.nodes.items n ≡ Some node → opened_processes plan n ≡ node.population
  opened n node there =
      let same : pos (opened_processes plan n) ≡ pos node.population =
      ap (λ (s : State). amount_in (s (Population n))) (sym opens)
      ∙ ap amount_in (population_at m.nodes.items n node there (numbers n node there) plan m.sent.items m.sinks.items)
      in omega (arith, ints, same)

  first_housed : (n : ℕ) (node : Node) (l : Lodging) → slice_get m.nodes.items n ≡ Some node → IsFirst node l
      → l.is_crowded ≡ false → IsHoused plan [] m.nodes.items group n l
  first_housed n node l there is free =
      let homes = is.homes free in let numbered = numbers n node there in
      let all = all_lodge m.nodes.items n node there numbered l homes in
      let long = names_long m.nodes.items n node there numbered in
      record {
        homes = homes_of m.nodes.items n node there l homes;
        lodged =
            lodging_begins plan n group (lodgers m.nodes.items n l) l.homes.items l.berths.items
            (subst (λ (bs : List Berth).
            opened_processes plan n + count_by (λ (b : Berth). b.is_free) bs ≤ most_processes) (sym is.berths)
            (few_together (opened_processes plan n) node.population
            (free_from node.population 0 most_processes) most_processes (opened n node there)
            (free_behind node.population 0 most_processes) (is.few free)))
            (omega (arith, long, homes.known, ap length all))
            (subst (All (λ (b : Berth). b.last ≡ None)) (sym is.berths)
            (none_moved node.population 0 most_processes));
      }

  pub all_first : AreFirstLodgings m.nodes.items m.lodgings.items
      → AreHoused plan [] m.nodes.items group m.lodgings.items
  all_first first =
      record {
        many = first.many;
        housed = λ n l has free.
            let low : n < length m.nodes.items =
            omega (arith, slice_get_within m.lodgings.items n l has, first.many) in
            let (node, there) = at_low m.nodes.items n low in
            first_housed n node l there (first.each n node l there has) free;
      }
