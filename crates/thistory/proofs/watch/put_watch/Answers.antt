use Rattle.std.proofs.Common.{◌≡◌, ◌<◌, ◌≤◌, refl, sym, ap, ◌∙◌, length, arith}
use Rattle.tfiles.proofs.Told.{goes_on-start, goes_on-next, goes_on-end, tells_as, tells_then}
use Rattle.tplan.specs.declared.event.Event.{Event}
use Rattle.tplan.specs.declared.event.Act.TheVariants.{Run}
use Rattle.thistory.specs.Watch.{opening_line, seen_bytes, watch_from}
use Rattle.thistory.proofs.Changes.{seen_length}
use Rattle.thistory.proofs.Histories.{after_end, after_next, watch_end, watch_next}
use Rattle.thistory.proofs.watch.put_watch.Goals as goal

abbrev none : Event
none = record { node = 0; act = Run }

pub loop-number-init : goal.loop-number-init
loop-number-init g c = record {
  text = goes_on-start _ (watch_from c.args.place.now 0 c.args.events.now c.args.net.now);
  left = refl;
  before = ap length c.look.ensures ∙ seen_length c.args.net.now c.args.place.now;
  after = c.requires.after;
}

pub loop-number-preserved : goal.loop-number-preserved
loop-number-preserved g c =
    let more : c.loop-number.number < length c.args.events.now = omega arith in
    record {
      text = goes_on-next _ _ c.loop-number.invariant.text
          (watch_next c.args.place.now c.loop-number.number c.args.events.now none c.loop-number.net more
          ∙ rw (← c.put_event.ensures.left) refl)
          c.put_event.ensures.text;
      left = rw c.put_event.ensures.left
          (sym (after_next c.loop-number.number c.args.events.now none c.loop-number.net more)
          ∙ c.loop-number.invariant.left);
      before = c.put_event.ensures.before;
      after = c.put_event.ensures.after;
    }

pub returns : goal.returns
returns g c =
    let over : length c.args.events.now ≤ c.loop-number.number = c.loop-number-test.false in
    record {
      text = tells_then (tells_as c.put_opening.ensures (ap opening_line c.look.ensures))
          (goes_on-end c.loop-number.invariant.text
          (watch_end c.args.place.now c.loop-number.number c.args.events.now c.loop-number.net over));
      left = sym (after_end c.loop-number.number c.args.events.now c.loop-number.net over)
          ∙ c.loop-number.invariant.left;
    }
