use Rattle.std.proofs.Common.{◌≡◌, ◌<◌, ◌+◌, refl, sym, ap, ◌∙◌, ℕ, arith, get_or, drop, length}
use Rattle.std.specs.Prelude.{◌==◌, if◌then◌else◌}
use Rattle.tfiles.proofs.Told.{goes_on-start, goes_on-next, goes_on-end, tells_as}
use Rattle.tnet.specs.Net.{NetState}
use Rattle.tplan.specs.declared.event.Event.{Event}
use Rattle.tplan.specs.declared.event.Act.TheVariants.{Run}
use Rattle.thistory.specs.Deeds.{net_behind}
use Rattle.thistory.specs.Steps.{event_text, net_after, own_count, steps_text}
use Rattle.thistory.proofs.Histories.{after_end, after_next, own_next, steps_end, steps_next}
use Rattle.thistory.proofs.steps.put_steps.Goals as goal

abbrev none : Event
none = record { node = 0; act = Run }

pub loop-number-init : goal.loop-number-init
loop-number-init g c = record {
  text = goes_on-start c.args.out.now (steps_text c.args.asked.now c.args.events.now c.args.net.now);
  count = c.own_count-behind.ensures;
  left = refl;
}

pub less_own-behind-requires : goal.less_own-behind-requires
less_own-behind-requires g c =
    let own = own_next c.args.asked.now.node c.loop-number.number c.args.events.now none (omega arith) in
    omega (arith, own, c.loop-number.invariant.count)

pub loop-number-preserved : goal.loop-number-preserved
loop-number-preserved g c =
    let more : c.loop-number.number < length c.args.events.now = omega arith in
    let own = own_next c.args.asked.now.node c.loop-number.number c.args.events.now none more in
    let count : c.less_own-behind.result
    ≡ own_count c.args.asked.now.node (drop (c.loop-number.number + 1) c.args.events.now) =
    omega (arith, own, c.loop-number.invariant.count, c.less_own-behind.ensures) in
    record {
      text = goes_on-next _ _ c.loop-number.invariant.text
          (steps_next c.args.asked.now c.loop-number.number c.args.events.now none c.loop-number.net more
          ∙ rw (← c.put_asked.ensures.left) refl)
          (tells_as c.put_asked.ensures.text
          (ap (λ (b : ℕ). event_text c.args.asked.now c.loop-number.number
          (get_or c.args.events.now c.loop-number.number none) b c.loop-number.net) count));
      count = count;
      left = rw c.put_asked.ensures.left
          (sym (after_next c.loop-number.number c.args.events.now none c.loop-number.net more)
          ∙ c.loop-number.invariant.left);
    }

pub returns : goal.returns
returns g c =
    let over = c.loop-number-test.false in
    record {
      text = goes_on-end c.loop-number.invariant.text
          (steps_end c.args.asked.now c.loop-number.number c.args.events.now c.loop-number.net over);
      left = sym (after_end c.loop-number.number c.args.events.now c.loop-number.net over)
          ∙ c.loop-number.invariant.left;
    }
