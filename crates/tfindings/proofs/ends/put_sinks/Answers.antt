use Rattle.std.proofs.Common.{◌≡◌, ◌+◌, ℕ, ap, drop, arith}
use Rattle.tfiles.proofs.Told.{tells_as, goes_on-as, goes_on-start, goes_on-next, goes_on-end}
use Rattle.tfindings.specs.Ends.{each_from, kept_sink}
use Rattle.tfindings.proofs.EndParts.{each_next, each_end}
use Rattle.tfindings.proofs.ends.put_sinks.Goals as goal

pub loop-number-init : goal.loop-number-init
loop-number-init g c =
    let first : c.args.first ≡ c.args.first + 0 = omega arith in
    goes_on-as (goes_on-start _ (each_from kept_sink c.args.first c.args.sinks.now))
    (ap (λ (n : ℕ). each_from kept_sink n c.args.sinks.now) first)

pub loop-number-preserved : goal.loop-number-preserved
loop-number-preserved g c =
    let next : c.args.first + c.loop-number.number + 1 ≡ c.args.first + (c.loop-number.number + 1) = omega arith in
    goes_on-as (goes_on-next _ _ c.loop-number.invariant
    (each_next kept_sink (c.args.first + c.loop-number.number) c.loop-number.number c.args.sinks.now
    c.index-sinks-number.result c.loop-number-test.true)
    (tells_as c.put_sink.ensures (ap (kept_sink (c.args.first + c.loop-number.number)) c.index-sinks-number.is)))
    (ap (λ (n : ℕ). each_from kept_sink n (drop (c.loop-number.number + 1) c.args.sinks.now)) next)

pub returns : goal.returns
returns g c =
    goes_on-end c.loop-number.invariant
    (each_end kept_sink _ c.loop-number.number c.args.sinks.now c.loop-number-test.false)
