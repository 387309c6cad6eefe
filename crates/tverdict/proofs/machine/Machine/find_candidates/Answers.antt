use Rattle.std.proofs.Common.{◌≡◌, ◌∙◌, ◌+◌, sym, subst, refl, length, arith}
use Rattle.std.proofs.lemmas.Bool.{false≢true}
use Rattle.tverdict.specs.declared.machine.Machine.{Machine}
use Rattle.tverdict.proofs.Looked.{IsSeeking, seeking_ends, seeking_finds, seeking_passes}
use Rattle.tverdict.proofs.machine.Machine.find_candidates.Goals as goal
use Rattle.tverdict.proofs.machine.Machine.find_candidates.Goals.{then-is_open+in_ok-push, else-is_open}

pub loop-number-preserved : goal.loop-number-preserved
loop-number-preserved c =
    let plan = c.args.plan.now in let old = c.args.self.now in let m = c.loop-number.self in
    let n = c.loop-number.number in let i = c.loop-number.invariant in
    elim c.if-is_open.branch as (λ _. IsSeeking plan old (n + 1) c.if-is_open.self) [
      | then-is_open+in_ok-push w ↦
          subst (λ (x : Machine). IsSeeking plan old (n + 1) x) (sym w.self-is)
          (seeking_finds plan old m n i (c.is_open.ensures.0 w.if-is_open.true)
          (record m { candidates = w.push.new.self }) refl w.in_ok-push.ensures.items)
      | else-is_open w ↦
          subst (λ (x : Machine). IsSeeking plan old (n + 1) x) (sym w.self-is)
          (seeking_passes plan old m n i (λ h. false≢true (sym w.if-is_open.false ∙ c.is_open.ensures.1 h)))
    ]

pub returns-clause-ok : goal.returns-clause-ok
returns-clause-ok c =
    let old = c.args.self.now in let n = c.loop-number.number in
    let all : n ≡ length old.agents.items =
    omega (
      arith,
      c.loop-number-test.false,
      c.loop-number.auto.number-end,
      c.in-Ok.ensures.1,
      c.len.ensures,
      old.agents.ok.0,
    ) in
    seeking_ends c.args.plan.now old c.loop-number.self n c.loop-number.invariant all
