use Rattle.std.proofs.Common.{◌≡◌, ◌≤◌, ◌∙◌, ℕ, ap, refl, sym, subst, arith, length, List, Option, None, Some, Err, Bor}
use Rattle.std.specs.Option.{option_copied}
use Rattle.std.specs.Prelude.{slice_get}
use Rattle.std.specs.Slice.{IsItemAt}
use Rattle.std.proofs.lemmas.Option.{none-some, same_Some, slice_get_read, slice_get_within}
use Rattle.tverdict.specs.declared.agent.Agent.{Agent}
use Rattle.tverdict.specs.declared.agent.Agent.TheVariants as agent
use Rattle.tverdict.specs.declared.halt.Halt.{Halt}
use Rattle.tverdict.specs.declared.machine.Machine.{Machine}
use Rattle.tverdict.specs.Verdicts.{IsStepped}
use Rattle.tverdict.proofs.Called.{process_there}
use Rattle.tverdict.proofs.Still.{HasGoneOn, gone_none, gone_some}
use Rattle.tverdict.proofs.machine.Machine.go_further.Goals as goal
use Rattle.tverdict.proofs.machine.Machine.go_further.Goals.{In_ok-count_still}

-- what was lent and copied stands in the list
lent_at : {X : Type 0} (xs : List X) (k : ℕ) (r : Option (Bor X)) (x : X) → IsItemAt xs k r
    → option_copied r ≡ Some x → slice_get xs k ≡ Some x
lent_at xs k None x h e = absurd (none-some x e)
lent_at xs k (Some y) x h e =
    subst (λ (z : _). slice_get xs k ≡ Some z) (same_Some y.now x e)
    (slice_get_read xs (length xs) k y.now refl h.3.0 h.1)

-- what the code knows behind the steps
gone : (c : In_ok-count_still)
    → HasGoneOn c.steps_aside.new.self c.args.number c.in-Some-Process.node c.in-Some-Process.process
    c.do_steps-steps.result.still c.do_steps-steps.result.last c.of-counts.result.processes
    c.of-counts.result.channels c.count_still.new.self
gone c =
    let (plan, f) = c.requires in let m = c.steps_aside.new.self in let n = c.in-Some-Process.node in
    let k = c.in-Some-Process.process in let old = c.index_mut-at.result.now in
    let (mid, stills, ends) = c.do_steps-steps.ensures.steps in
    let counted = c.in_ok-count_still.ensures in
    let looked = c.steps_aside.ensures.looked in
    let there : slice_get c.args.self.now.agents.items c.args.number ≡ Some (agent.Process n k) =
    subst (λ (xs : List Agent). slice_get xs c.args.number ≡ Some (agent.Process n k)) c.deref.ensures.value
    (lent_at c.deref.result.now c.args.number c.get.result (agent.Process n k) c.get.ensures.lookup
    (sym c.copied.ensures ∙ c.in-Some-Process.is ∙ ap (λ (a : Agent). Some a) c.in-Some-Process.field-0-is)) in
    let named : slice_get m.agents.items c.args.number ≡ Some (agent.Process n k) =
    ap (λ (y : Machine). slice_get y.agents.items c.args.number) looked ∙ there in
    let (x, at, low) = process_there plan m c.args.number n k (c.steps_aside.ensures.follows plan f) named in
    record {
      last = ap (λ (y : Machine). y.last) looked ∙ c.if-not-was_last.ensures refl;
      named = named;
      old = old;
      there = slice_get_read m.nodes.items (length m.nodes.items) n old refl (slice_get_within m.nodes.items n x at)
          c.index_mut-at.ensures.value;
      many_processes = c.of-counts.ensures.processes;
      many_channels = c.of-counts.ensures.channels;
      mid = mid;
      new = c.do_steps-steps.new.node;
      stills = stills;
      ends = ends;
      set = ap (λ (y : Machine). y.nodes.items) counted.same;
      check = counted.check;
      done = counted.done;
      same = counted.same
          ∙ ap (λ (y : Machine). record m {
            nodes = y.nodes;
            idle = y.idle;
            check = c.count_still.new.self.check;
            done = c.count_still.new.self.done;
          }) (sym counted.same);
    }

pub returns-in_default-last : goal.returns-in_default-last
returns-in_default-last c = λ plan f.
    let m = c.steps_aside.new.self in let before = c.count_still.new.self in
    let it = gone (goal.at.returns-in_default-last c).In_ok-count_still in
    let follows = gone_none plan m before c.args.number c.in-Some-Process.node c.in-Some-Process.process
    c.do_steps-steps.result.still (c.steps_aside.ensures.follows plan f) c.of-counts.result.processes
    c.of-counts.result.channels c.do_steps-steps.result.last c.in_default-last.is it in
    let aside : m.done ≡ c.args.self.now.done = ap (λ (y : Machine). y.done) c.steps_aside.ensures.looked in
    let same : c.comes_next.new.self.done ≡ before.done =
    ap (λ (y : Machine). y.done) c.in_ok-comes_next.ensures.looked in (
      c.in_ok-comes_next.ensures.follows plan follows,
      omega (arith, it.done, aside, same),
    )

pub end_call-requires : goal.end_call-requires
end_call-requires c =
    let (plan, f) = c.requires in (
      plan,
      gone_some plan c.steps_aside.new.self c.count_still.new.self c.args.number c.in-Some-Process.node
          c.in-Some-Process.process c.do_steps-steps.result.still (c.steps_aside.ensures.follows plan f)
          c.of-counts.result.processes c.of-counts.result.channels c.do_steps-steps.result.last c.in-Some.outcome
          c.in-Some.is (gone (goal.at.end_call-requires c).In_ok-count_still),
    )

pub returns-in_ok-comes_next-in-Ok : goal.returns-in_ok-comes_next-in-Ok
returns-in_ok-comes_next-in-Ok c = λ plan f.
    let it = gone (goal.at.returns-in_ok-comes_next-in-Ok c).In_ok-count_still in
    let m = c.steps_aside.new.self in let before = c.count_still.new.self in
    let outcome = gone_some plan m before c.args.number c.in-Some-Process.node c.in-Some-Process.process
    c.do_steps-steps.result.still (c.steps_aside.ensures.follows plan f) c.of-counts.result.processes
    c.of-counts.result.channels c.do_steps-steps.result.last c.in-Some.outcome c.in-Some.is it in
    let (follows, one) = c.in-Ok.ensures.stepped plan outcome in
    let aside : m.done ≡ c.args.self.now.done = ap (λ (y : Machine). y.done) c.steps_aside.ensures.looked in
    let more : m.done ≤ before.done = omega (arith, it.done) in
    let same : c.comes_next-in-Ok.new.self.done ≡ c.end_call.new.self.done =
    ap (λ (y : Machine). y.done) c.in_ok-comes_next-in-Ok.ensures.looked in (
      c.in_ok-comes_next-in-Ok.ensures.follows plan follows,
      omega (arith, aside, more, one, same),
    )

pub returns-in-Err-Stops : goal.returns-in-Err-Stops
returns-in-Err-Stops c = λ plan f.
    let outcome = gone_some plan c.steps_aside.new.self c.count_still.new.self c.args.number c.in-Some-Process.node
    c.in-Some-Process.process c.do_steps-steps.result.still (c.steps_aside.ensures.follows plan f)
    c.of-counts.result.processes c.of-counts.result.channels c.do_steps-steps.result.last c.in-Some.outcome
    c.in-Some.is (gone (goal.at.returns-in-Err-Stops c).In_ok-count_still) in
    subst (λ (h : Halt). IsStepped plan c.count_still.new.self c.args.number (Err h) c.end_call.new.self)
    c.in-Err-Stops.field-0-is (c.in-Err-Stops.ensures.stepped plan outcome)

pub returns-in-Err-Race : goal.returns-in-Err-Race
returns-in-Err-Race c = λ plan f.
    let outcome = gone_some plan c.steps_aside.new.self c.count_still.new.self c.args.number c.in-Some-Process.node
    c.in-Some-Process.process c.do_steps-steps.result.still (c.steps_aside.ensures.follows plan f)
    c.of-counts.result.processes c.of-counts.result.channels c.do_steps-steps.result.last c.in-Some.outcome
    c.in-Some.is (gone (goal.at.returns-in-Err-Race c).In_ok-count_still) in
    subst (λ (h : Halt). IsStepped plan c.count_still.new.self c.args.number (Err h) c.end_call.new.self)
    c.in-Err-Race.field-0-is (c.in-Err-Race.ensures.stepped plan outcome)
