use Rattle.std.proofs.Common.{◌≡◌, ◌<◌, ◌+◌, ℕ, ap, drop, get_or, length, arith}
use Rattle.tplan.specs.declared.plan.SourcePlan.{SourcePlan}
use Rattle.tfiles.proofs.Told.{tells_as, goes_on-as, goes_on-start, goes_on-next, goes_on-end}
use Rattle.tfindings.specs.Ends.{sent_from, sent_text}
use Rattle.tfindings.proofs.EndParts.{sent_next, sent_end}
use Rattle.tfindings.proofs.ends.put_sources.Goals as goal

pub loop-number-init : goal.loop-number-init
loop-number-init g c =
    let first : c.args.first ≡ c.args.first + 0 = omega arith in
    goes_on-as (goes_on-start _ (sent_from c.args.first c.args.sources.now c.args.sent.now))
    (ap (λ (n : ℕ). sent_from n c.args.sources.now c.args.sent.now) first)

pub loop-number-preserved : goal.loop-number-preserved
loop-number-preserved g c =
    let next : c.args.first + c.loop-number.number + 1 ≡ c.args.first + (c.loop-number.number + 1) = omega arith in
    let within : c.loop-number.number < length c.args.sent.now =
    omega (arith, c.requires.sent, c.loop-number-test.true) in
    goes_on-as (goes_on-next _ _ c.loop-number.invariant
    (sent_next (c.args.first + c.loop-number.number) c.loop-number.number c.args.sources.now c.args.sent.now
    c.index-sources-number.result 0 c.loop-number-test.true within)
    (tells_as c.put_source.ensures
    (ap (λ (p : SourcePlan). sent_text (c.args.first + c.loop-number.number) p
    (get_or c.args.sent.now c.loop-number.number 0)) c.index-sources-number.is)))
    (ap (λ (n : ℕ). sent_from n (drop (c.loop-number.number + 1) c.args.sources.now)
    (drop (c.loop-number.number + 1) c.args.sent.now)) next)

pub returns : goal.returns
returns g c =
    goes_on-end c.loop-number.invariant
    (sent_end _ c.loop-number.number c.args.sources.now c.args.sent.now c.loop-number-test.false)
