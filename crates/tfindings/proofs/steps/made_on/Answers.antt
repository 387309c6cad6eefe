use Rattle.std.proofs.Common.{◌≡◌, ◌∙◌, sym, subst, true, Option, Some}
use Rattle.std.specs.Prelude.{IfSome}
use Rattle.tverdict.specs.declared.agent.Agent.{Agent}
use Rattle.tfindings.specs.Steps.{ArePartedBy, holder, is_by, steps_with}
use Rattle.tfindings.proofs.StepsMade.{counted_as, follows_again, goes_on_again, numbered_as, opens_again, parted_on}
use Rattle.tfindings.proofs.StepsMade.{stood_before}
use Rattle.tfindings.proofs.steps.made_on.Goals as goal

pub loop-init : goal.loop-init
loop-init c = opens_again c.args.plan.now c.args.number c.args.machine.now c.requires

pub turn-requires : goal.turn-requires
turn-requires c = follows_again c.args.plan.now c.loop.invariant.past c.loop.machine c.loop.invariant.run

pub returns-then-is_told : goal.returns-then-is_told
returns-then-is_told c =
    let plan = c.args.plan.now in let m = c.loop.machine in let m' = c.turn.new.self in
    let number = c.args.number in let again = c.loop.invariant in let t = c.in_ok-turn.turn in
    let agent = c.in-Some.agent in
    let by : is_by t number ≡ true = c.is_told.ensures.by c.if-is_told.true in
    let parted = parted_on plan number m m' c.holder-before.result c.holder-after.result c.loop.count c.loop.earlier
    c.earlier_steps-earlier.result again c.holder-before.ensures c.holder-after.ensures
    c.earlier_steps-earlier.ensures in
    let has : holder m' number ≡ Some agent = sym c.holder-after.ensures ∙ c.in-Some.ensures.after in
    record {
      past = again.past;
      before = m;
      run = again.run;
      turn = t;
      after = m';
      turned = c.in_ok-turn.ensures;
      by = by;
      counted =
          counted_as (is_by t number) c.loop.count (steps_with number again.past) c.in_ok-count.count c.args.which t by
          again.counted c.in_ok-count.ensures (c.is_told.ensures.counted c.if-is_told.true);
      agent = has;
      had = subst (λ (o : Option Agent). IfSome o (λ a. a ≡ agent)) c.holder-before.ensures c.in-Some.ensures.before;
      since = parted.since;
      earlier = parted.earlier;
      parted =
          subst (λ (o : Option Agent). ArePartedBy number o again.past parted.since parted.earlier) has parted.parted;
      number =
          numbered_as (is_by t number) number c.loop.count c.earlier_steps-earlier.result c.in_ok-count.count
          c.saturating_sub.result (holder m' number) again.past parted by again.counted c.in_ok-count.ensures
          c.saturating_sub.ensures;
      code =
          stood_before m.nodes.items c.holder-before.result agent c.address_of-address.result c.code_at-code.result
          c.in-Some.ensures.before c.address_of-address.ensures c.code_at-code.ensures;
    }

pub loop-preserved : goal.loop-preserved
loop-preserved c =
    let plan = c.args.plan.now in let m = c.loop.machine in let m' = c.turn.new.self in
    let number = c.args.number in let again = c.loop.invariant in let t = c.in_ok-turn.turn in
    goes_on_again plan number m m' t c.loop.count c.loop.earlier c.earlier_steps-earlier.result c.in_ok-count.count again
    (sym c.goes_on.ensures ∙ c.if-not-goes_on.false) c.in_ok-turn.ensures
    (parted_on plan number m m' c.holder-before.result c.holder-after.result c.loop.count c.loop.earlier
    c.earlier_steps-earlier.result again c.holder-before.ensures c.holder-after.ensures
    c.earlier_steps-earlier.ensures) c.in_ok-count.ensures
