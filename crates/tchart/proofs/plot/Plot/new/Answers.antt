use Rattle.std.proofs.Common.{refl}
use Rattle.tchart.proofs.plot.Plot.new.Goals as goal

pub returns : goal.returns
returns c =
    let tracks = c.in_ok-vec.ensures.items_if_clones_equal (λ y h. h) in
    let lanes = c.in_ok-vec-2.ensures.items_if_clones_equal (λ y h. h) in
    let ways = c.in_ok-vec-3.ensures.items_if_clones_equal (λ y h. h) in
    rw (tracks, lanes, ways, c.new.ensures.items, c.from.ensures) refl
