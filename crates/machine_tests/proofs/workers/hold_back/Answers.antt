use Rattle.std.proofs.Common.{◌∙◌, List, [], ◌∷◌, suc, sym, ap, subst, take, drop}
use Rattle.std.specs.List.{insert}
use Rattle.tfree.specs.Opened.{ComeFromOneOpen}
use Rattle.tfree.specs.Views.{View}
use Rattle.machine_tests.proofs.Places.{around, back_again}
use Rattle.machine_tests.proofs.workers.hold_back.Goals as goal

pub returns-clause-others : goal.returns-clause-others
returns-clause-others c =
    let ws : List View = c.args.workers.now.items in
    let i = c.args.place in
    let w : View = c.remove.result in
    subst ComeFromOneOpen (sym c.remove.ensures.items)
    (c.some_come_from_one_open.ensures (take i ws) (w ∷ []) (drop (suc i) ws)
    (subst ComeFromOneOpen (sym (around ws i w c.requires.there c.remove.ensures.value)) c.requires.one))

pub returns-clause-whole : goal.returns-clause-whole
returns-clause-whole c =
    let i = c.args.place in
    let w : View = c.remove.result in
    ap (λ (l : List View). insert l i w) c.remove.ensures.items
    ∙ back_again c.args.workers.now.items i w c.requires.there c.remove.ensures.value
