use Rattle.std.proofs.Common.{sym, ap}
use Rattle.std.specs.Prelude.{option_copied}
use Rattle.tfiles.proofs.Told.{tells_as, tells_none}
use Rattle.thistory.specs.declared.deed.Deed.{Deed}
use Rattle.thistory.specs.Lines.{how_text}
use Rattle.thistory.proofs.lines.put_how.Goals as goal

pub returns-in-Dispatch : goal.returns-in-Dispatch
returns-in-Dispatch g c =
    tells_as c.put.ensures (ap (λ (d : Deed). how_text d (option_copied c.args.processor)) (sym c.in-Dispatch.is))

pub returns-in-Send : goal.returns-in-Send
returns-in-Send g c =
    tells_as (tells_none c.args.out.now)
    (ap (λ (d : Deed). how_text d (option_copied c.args.processor)) (sym c.in-Send.is))

pub returns-in-Data : goal.returns-in-Data
returns-in-Data g c =
    tells_as (tells_none c.args.out.now)
    (ap (λ (d : Deed). how_text d (option_copied c.args.processor)) (sym c.in-Data.is))

pub returns-in-Take : goal.returns-in-Take
returns-in-Take g c =
    tells_as (tells_none c.args.out.now)
    (ap (λ (d : Deed). how_text d (option_copied c.args.processor)) (sym c.in-Take.is))

pub returns-in-Ack : goal.returns-in-Ack
returns-in-Ack g c =
    tells_as (tells_none c.args.out.now)
    (ap (λ (d : Deed). how_text d (option_copied c.args.processor)) (sym c.in-Ack.is))
