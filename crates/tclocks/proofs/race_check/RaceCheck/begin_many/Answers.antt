use Rattle.std.proofs.Common.{◌≡◌, ◌<◌, ◌∙◌, ℕ, List, [], arith, length, slice_index_or, slice_set, ap, sym}
use Rattle.std.proofs.lemmas.List.{get_or_default}
use Rattle.tclocks.specs.Checks.{Check, begun_times}
use Rattle.tclocks.specs.Clocks.{raised_by}
use Rattle.tclocks.proofs.Beginning.{begun_times-raised}
use Rattle.tclocks.proofs.race_check.RaceCheck.begin_many.Goals as goal

pub returns-clause-begun : goal.returns-clause-begun
returns-clause-begun c =
    let agent = c.args.agent in
    let clocks : List (List ℕ) = c.self.inside.clocks.items in
    let old : Check = record { clocks = clocks; slots = c.self.inside.slots.items; places = c.self.inside.places } in
    let within : agent < length clocks =
    omega (arith, c.requires, ap (λ (check : Check). length check.clocks) c.self.view_is) in
    let before : c.index_mut.result.now ≡ slice_index_or clocks agent [] =
    c.index_mut.ensures.value ∙ get_or_default clocks agent c.index_mut.result.now [] within in
    ap (λ (clock : List ℕ). record old { clocks = slice_set clocks agent clock })
    (c.in_ok-number.ensures.raised ∙ ap (λ (clock : List ℕ). raised_by clock agent c.args.count) before)
    ∙ sym (begun_times-raised c.args.count agent old within c.self.invariant)
    ∙ ap (λ (check : Check). begun_times c.args.count agent check) c.self.view_is
