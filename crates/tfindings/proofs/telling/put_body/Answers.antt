use Rattle.std.proofs.Common.{ap, subst, sym}
use Rattle.tfindings.specs.Telling.{AreThere, body_text}
use Rattle.tfindings.proofs.Bodies.{nothing_told}
use Rattle.tfiles.proofs.Told.{tells_then, tells_as, tells_none}
use Rattle.tfindings.proofs.telling.put_body.Goals as goal

pub returns-in-Race : goal.returns-in-Race
returns-in-Race g c =
    tells_as (tells_then c.put_touch.ensures c.put_touch-in-Race.ensures)
    (ap (body_text c.args.machine.now) (sym c.in-Race.is))

pub returns-in-Stopped : goal.returns-in-Stopped
returns-in-Stopped g c =
    tells_as c.put_stopped.ensures (ap (body_text c.args.machine.now) (sym c.in-Stopped.is))

pub returns-in_default : goal.returns-in_default
returns-in_default g c =
    tells_as (tells_none c.args.out.now)
    (nothing_told c.args.machine.now c.args.finding.now c.in_default.not-Race c.in_default.not-Stopped)

pub put_touch-requires : goal.put_touch-requires
put_touch-requires g c = record {
  there = (subst (AreThere c.args.machine.now) c.in-Race.is c.requires.there).0;
  numbered = c.requires.numbered;
}

pub put_touch-requires-in-Race : goal.put_touch-requires-in-Race
put_touch-requires-in-Race g c = record {
  there = (subst (AreThere c.args.machine.now) c.in-Race.is c.requires.there).1;
  numbered = c.requires.numbered;
}

pub put_stopped-requires : goal.put_stopped-requires
put_stopped-requires g c = record {
  there = subst (AreThere c.args.machine.now) c.in-Stopped.is c.requires.there;
  numbered = c.requires.numbered;
}
