use Rattle.std.proofs.Common.{sym, ap}
use Rattle.tfiles.proofs.Told.{tells_as, tells_none}
use Rattle.thistory.specs.Halts.{deed_text}
use Rattle.thistory.proofs.halts.put_deed.Goals as goal

pub returns-in-Dispatch : goal.returns-in-Dispatch
returns-in-Dispatch g c = tells_as (tells_none c.args.out.now) (ap deed_text (sym c.in-Dispatch.is))

pub returns-in-Send : goal.returns-in-Send
returns-in-Send g c = tells_as (tells_none c.args.out.now) (ap deed_text (sym c.in-Send.is))

pub returns-in-Data : goal.returns-in-Data
returns-in-Data g c = tells_as (tells_none c.args.out.now) (ap deed_text (sym c.in-Data.is))

pub returns-in-Take : goal.returns-in-Take
returns-in-Take g c = tells_as (tells_none c.args.out.now) (ap deed_text (sym c.in-Take.is))

pub returns-in-Ack : goal.returns-in-Ack
returns-in-Ack g c = tells_as (tells_none c.args.out.now) (ap deed_text (sym c.in-Ack.is))
