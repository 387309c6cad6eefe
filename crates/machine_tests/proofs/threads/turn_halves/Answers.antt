use Rattle.std.proofs.Common.{sym, ap, ◌∙◌, List, ◌++◌, map}
use Rattle.std.proofs.lemmas.List.{map-append}
use Rattle.tfree.specs.Opened.{share_of}
use Rattle.machine_tests.proofs.threads.turn_halves.Goals as goal

pub returns : goal.returns
returns g c =
    map-append share_of c.turn_both.new.front c.turn_both.new.back
    ∙ rw (c.turn_both.ensures.front, c.turn_both.ensures.back)
    (sym (map-append share_of c.split_at_mut-front.result.0.now c.split_at_mut-front.result.1.now)
    ∙ ap (map share_of) (sym c.split_at_mut-front.ensures.value))
