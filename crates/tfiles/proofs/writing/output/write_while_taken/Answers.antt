use Rattle.std.proofs.Common.{◌≡◌, ◌+◌, ◌-◌, ◌≤◌, ◌++◌, ◌∙◌, List, length, take, drop, arith, sym, subst, ap}
use Rattle.std.proofs.Math.Seq.{take-add}
use Rattle.std.proofs.KnownBytes.{Appends-trans}
use Rattle.std.proofs.lemmas.List.{length-drop, take-take, length-take-le}
use Rattle.std.specs.Io.KnownBytes.{Appends}
use Rattle.tfiles.proofs.Failures.{stayed-then, took-stayed}
use Rattle.tfiles.proofs.writing.output.write_while_taken.Goals as goal

pub loop-taken-preserved : goal.loop-taken-preserved
loop-taken-preserved g c =
    let left : length (take (length c.args.bytes.now - c.loop-taken.taken) (drop c.loop-taken.taken c.args.bytes.now))
    ≡ length c.args.bytes.now - c.loop-taken.taken =
    length-take-le _ (drop c.loop-taken.taken c.args.bytes.now)
    (omega (arith, length-drop c.loop-taken.taken c.args.bytes.now)) in
    let few : c.in-Ok.more ≤ length c.args.bytes.now - c.loop-taken.taken =
    omega (arith, c.in-Ok.ensures.bound, left) in
    let bytes : take c.loop-taken.taken c.args.bytes.now
    ++ take c.in-Ok.more
    (take (length c.args.bytes.now - c.loop-taken.taken) (drop c.loop-taken.taken c.args.bytes.now))
    ≡ take (c.loop-taken.taken + c.in-Ok.more) c.args.bytes.now =
    ap (λ (xs : List _). take c.loop-taken.taken c.args.bytes.now ++ xs)
    (take-take c.in-Ok.more _ (drop c.loop-taken.taken c.args.bytes.now) few)
    ∙ sym (take-add c.loop-taken.taken c.in-Ok.more c.args.bytes.now) in
    record {
      within = omega (arith, few, c.loop-taken.invariant.within);
      out = subst (Appends (g.W.Write.contents c.args.writer.now) (g.W.Write.contents c.write_counted.new.self)) bytes
          (Appends-trans (g.W.Write.contents c.args.writer.now) (g.W.Write.contents c.loop-taken.writer)
          (g.W.Write.contents c.write_counted.new.self)
          (take c.loop-taken.taken c.args.bytes.now)
          (take c.in-Ok.more
          (take (length c.args.bytes.now - c.loop-taken.taken) (drop c.loop-taken.taken c.args.bytes.now)))
          c.loop-taken.invariant.out c.in-Ok.ensures.bytes);
      stayed = stayed-then _ _ _ c.loop-taken.invariant.stayed
          (took-stayed c.write_counted.result c.in-Ok.more _ _ _ c.in-Ok.is c.if-more-gt0.true
          c.write_counted.ensures.count);
    }
