use Rattle.std.proofs.Common.{ap, ℕ, ◌/◌}
use Rattle.std.proofs.lemmas.List.Elements.{All-replicate}
use Rattle.tcertify.specs.Words.{IsFresh}
use Rattle.tcertify.proofs.Fresh.{count_is, places_fit, sized}
use Rattle.tcertify.proofs.stored.Words.new.Goals as goal

pub invariant_of-result : goal.invariant_of-result
invariant_of-result c =
    record {
      sized = sized c.in_ok-vec.field-0.items c.fresh-word.result c.args.kind c.args.size c.requires.memory
          (c.in_ok-vec.ensures.items_if_clones_equal (λ y e. e));
      numbered = places_fit c.in_ok-vec.field-0.items c.fresh-word.result c.args.size c.args.first_place
          c.requires.places (c.in_ok-vec.ensures.items_if_clones_equal (λ y e. e));
    }

pub returns-clause-words : goal.returns-clause-words
returns-clause-words c =
    rw (c.in_ok-vec.ensures.items_if_clones_equal (λ y e. e))
    (All-replicate IsFresh (c.args.size / 4) c.fresh-word.result c.fresh-word.ensures)

pub returns-clause-site : goal.returns-clause-site
returns-clause-site c =
    let n = count_is c.in_ok-vec.field-0.items c.fresh-word.result c.args.kind c.args.size c.requires.memory
    (c.in_ok-vec.ensures.items_if_clones_equal (λ y e. e)) in
    ap (λ (m : ℕ). record { number = c.args.number; size = m; kind = c.args.kind }) n
