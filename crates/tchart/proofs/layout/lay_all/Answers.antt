use Rattle.std.proofs.Common.{◌<◌, sym, ◌∙◌, arith, length}
use Rattle.tplan.specs.declared.event.Event.{Event}
use Rattle.tplan.specs.declared.event.Act.TheVariants.{Run}
use Rattle.thistory.proofs.Histories.{after_end, after_next}
use Rattle.tchart.proofs.Layouts.{laid_end, laid_next}
use Rattle.tchart.proofs.layout.lay_all.Goals as goal

abbrev none : Event
none = record { node = 0; act = Run }

pub loop-number-preserved : goal.loop-number-preserved
loop-number-preserved c =
    let more : c.loop-number.number < length c.args.events.now = omega arith in
    record {
      plot = rw (c.in_ok-lay_one.ensures.left, c.in_ok-lay_one.ensures.plot)
          (sym (laid_next c.loop-number.number c.args.events.now none c.loop-number.net c.loop-number.plot more)
          ∙ c.loop-number.invariant.plot);
      left = rw c.in_ok-lay_one.ensures.left
          (sym (after_next c.loop-number.number c.args.events.now none c.loop-number.net more)
          ∙ c.loop-number.invariant.left);
    }

pub returns : goal.returns
returns c =
    let over = c.loop-number-test.false in
    record {
      plot = sym (laid_end c.loop-number.number c.args.events.now c.loop-number.net c.loop-number.plot over)
          ∙ c.loop-number.invariant.plot;
      left = sym (after_end c.loop-number.number c.args.events.now c.loop-number.net over)
          ∙ c.loop-number.invariant.left;
    }
