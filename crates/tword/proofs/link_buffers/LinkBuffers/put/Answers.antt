use Rattle.std.proofs.Common.{sym}
use Rattle.std.proofs.lemmas.List.{map-set}
use Rattle.tword.specs.Bounds.{bounds_of}
use Rattle.tword.proofs.link_buffers.LinkBuffers.put.Goals as goal

pub invariant_of-self : goal.invariant_of-self
invariant_of-self c = (
  c.bounds_of_all.ensures,
  rw (c.from-2.ensures, c.from-3.ensures, c.bounds_of.ensures, c.self.invariant.1)
      (sym (map-set bounds_of c.self.inside.claimed c.args.link c.args.claim)),
)
