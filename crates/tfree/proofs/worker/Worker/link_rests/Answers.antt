use Rattle.tfree.proofs.worker.Worker.link_rests.Goals as goal

pub returns-then-not-may_take : goal.returns-then-not-may_take
returns-then-not-may_take c = λ t. record {
  send = c.enabled.ensures c.if-enabled.false;
  take = c.enabled-else-enabled.ensures c.if-enabled-2.false;
  packets = λ p on. absurd (c.may_take.ensures c.if-not-may_take.true p on);
}
