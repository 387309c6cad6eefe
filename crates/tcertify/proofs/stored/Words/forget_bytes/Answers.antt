use Rattle.std.proofs.Common.{◌≡◌, ◌<◌, ℕ, ◌+◌, ◌*◌, sym, subst, length, replicate, arith}
use Rattle.std.proofs.lemmas.List.{length-replicate}
use Rattle.std.proofs.Common.{Option, None}
use Rattle.tword.specs.Stores.{Store}
use Rattle.tcertify.specs.Spans.{IsWritten}
use Rattle.tcertify.proofs.Splices.{replicate_behind}
use Rattle.tcertify.proofs.Written.{none_written, written_behind}
use Rattle.tcertify.proofs.stored.Words.forget_bytes.Goals as goal

pub loop-k-init : goal.loop-k-init
loop-k-init c = none_written c.args.self.now c.args.place

pub loop-k-preserved : goal.loop-k-preserved
loop-k-preserved c =
    let w = c.args.self.now in let u = c.loop-k.self in let v = c.set_byte.new.self in
    let p : ℕ = c.args.place in let k : ℕ = c.loop-k.k in
    let unknown : Option ℕ = None in
    let at : p + k ≡ p + length (replicate k unknown) = omega (arith, length-replicate k unknown) in
    let low : k < c.args.size = omega (arith, c.loop-k-test.true) in
    let inside : p + k < 4 * length w.items.items = c.requires k low in
    subst (λ (xs : Store). IsWritten w p xs v) (sym (replicate_behind k unknown))
    (written_behind w u v p (replicate k unknown) unknown (p + k) at inside c.loop-k.invariant c.set_byte.ensures)
