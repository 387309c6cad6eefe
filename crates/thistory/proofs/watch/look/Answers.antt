use Rattle.std.proofs.Common.{ℕ, None, arith}
use Rattle.std.proofs.lemmas.List.FromFn.{fill_by_all}
use Rattle.tword.specs.Words.{plus}
use Rattle.thistory.specs.Deeds.{processor_in}
use Rattle.thistory.specs.Watch.{seen_byte}
use Rattle.thistory.proofs.watch.look.Goals as goal

pub returns : goal.returns
returns c =
    fill_by_all
    (λ (i : ℕ). seen_byte (processor_in c.args.net.now c.args.place.now.node) (plus c.args.place.now.address i))
    c.loop-index.cells c.args.place.now.length None c.loop-index.invariant.size
    (λ k l. c.loop-index.invariant.so_far k (omega (arith, l)))
