use Rattle.std.proofs.Common.{◌≡◌, ◌∙◌, sym, ap}
use Rattle.tfiles.proofs.Told.{tells_as, tells_then, goes_on-start, goes_on-next, goes_on-as}
use Rattle.tnames.specs.Listings.{labelled_line, labelled_text}
use Rattle.tnames.proofs.LabelledTexts.{labelled-first, labelled-last}
use Rattle.tnames.proofs.listing.put_labelled.Goals as goal

pub loop-end-init : goal.loop-end-init
loop-end-init g c = goes_on-start c.args.out.now (labelled_text c.args.names.now c.args.text.now)

pub loop-end-preserved : goal.loop-end-preserved
loop-end-preserved g c =
    goes_on-as
    (goes_on-next _ _ c.loop-end.invariant
    (sym (labelled-first c.args.names.now c.loop-end.rest.now c.in-Some.end (sym c.end_of_line.ensures ∙ c.in-Some.is)))
    c.put_line.ensures)
    (ap (labelled_text c.args.names.now) (sym c.behind-rest.ensures))

pub returns : goal.returns
returns g c =
    tells_as (tells_then c.loop-end.invariant.tells
    (tells_as c.put.ensures
    (labelled-last c.args.names.now c.loop-end.rest.now (sym c.end_of_line.ensures ∙ c.in_default.is))))
    c.loop-end.invariant.is_whole
