use Rattle.std.proofs.Common.{◌≡◌, ◌+◌, ◌-◌, ◌++◌, ap, List, ℕ, take, drop, arith}
use Rattle.tfiles.proofs.Told.{tells_none, tells_then, tells_as}
use Rattle.tnames.specs.Texts.{address_at_end, behind}
use Rattle.tnames.proofs.NamedTexts.{named_first, named-more, named-all}
use Rattle.tnames.proofs.text.put_named.Goals as goal

pub loop-place-init : goal.loop-place-init
loop-place-init g c = tells_none c.args.out.now

pub loop-place-preserved : goal.loop-place-preserved
loop-place-preserved g c =
    let place : ℕ = c.loop-place.place in
    let byte : List ℕ = take 1 (drop place c.args.text.now) in
    let name : List ℕ = behind c.args.names.now (address_at_end (take (place + 1) c.args.text.now)) in
    let one : take (place + 1 - place) (drop place c.args.text.now) ≡ byte =
    let e : place + 1 - place ≡ 1 = omega arith in ap (λ (n : ℕ). take n (drop place c.args.text.now)) e in
    tells_as {s = named_first c.args.names.now c.args.text.now place ++ (byte ++ name)}
    (tells_then c.loop-place.invariant
    (tells_then (tells_as {t = byte} c.put.ensures one)
    (tells_as {t = name} c.put_behind.ensures (ap (behind c.args.names.now) c.address_at_end.ensures))))
    (named-more c.args.names.now c.args.text.now place)

pub returns : goal.returns
returns g c =
    tells_as c.loop-place.invariant (named-all c.args.names.now c.args.text.now c.loop-place.place (omega arith))
