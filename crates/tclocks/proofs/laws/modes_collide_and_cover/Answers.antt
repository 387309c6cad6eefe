use Rattle.tclocks.proofs.ModeLemmas.{both-ways, covers-all, covers-collide}
use Rattle.tclocks.proofs.laws.modes_collide_and_cover.Goals as goal

pub returns : goal.returns
returns c = record {
  both_ways = both-ways;
  covers = λ mode other. (λ h third. covers-collide mode other third h, covers-all mode other);
}
