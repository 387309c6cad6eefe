use Rattle.std.proofs.lemmas.Result.{err_from_is_err_and}
use Rattle.tcertify.specs.Contexts.{context_of}
use Rattle.tcertify.specs.Sides.{side_of}
use Rattle.tcertify.specs.Words.{reason_of}
use Rattle.tcertify.proofs.LinkOffers.{offers_so, offers_unlent, offers_unsaved}
use Rattle.tcertify.proofs.node.Node.offers.Goals as goal

pub returns-in_err-save : goal.returns-in_err-save
returns-in_err-save c =
    let p = err_from_is_err_and c.from_residual.result c.from_residual.ensures.1 in
    rw (p.1, p.2)
    (offers_unsaved c.args.self.now c.save.new.self c.args.process (context_of c.args.context.now) (side_of c.args.side)
    c.args.buffer.now (reason_of c.in_err-save.field-0.0) c.in_err-save.ensures)

pub returns-in_err-lends : goal.returns-in_err-lends
returns-in_err-lends c =
    let p = err_from_is_err_and c.from_residual-in_err-lends.result c.from_residual-in_err-lends.ensures.1 in
    rw (p.1, p.2)
    (offers_unlent c.args.self.now c.save.new.self c.args.process (context_of c.args.context.now) (side_of c.args.side)
    c.args.buffer.now c.requires c.in_ok-save.ensures c.lends.new.self c.in_err-lends.field-0.0 c.in_err-lends.ensures)

pub returns : goal.returns
returns c =
    offers_so c.args.self.now c.save.new.self c.args.process (context_of c.args.context.now) (side_of c.args.side)
    c.args.buffer.now c.requires c.in_ok-save.ensures c.lends.new.self _ (context_of c.forget.result) c.forget.ensures
    c.in_ok-lends.ensures c.stands.ensures
