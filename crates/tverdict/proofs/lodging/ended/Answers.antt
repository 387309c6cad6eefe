use Rattle.std.proofs.Common.{◌≡◌, ◌∙◌, ℕ, Some, ap, sym}
use Rattle.std.specs.Prelude.{slice_get}
use Rattle.std.proofs.lemmas.Bool.{false≢true}
use Rattle.std.proofs.lemmas.Option.{same_Some}
use Rattle.tcertify.specs.declared.process.Process.{Process}
use Rattle.tverdict.specs.declared.agent.Agent.TheVariants as agent
use Rattle.tverdict.proofs.Berths.{read_of}
use Rattle.tverdict.proofs.lodging.ended.Goals as goal
use Rattle.tverdict.proofs.lodging.ended.Goals.{else-at-node-via-then-at-node+else-is_ended}
use Rattle.tverdict.proofs.lodging.ended.Goals.{else-at-node-via-else-at-node}

pub returns-then-is_ended-clause-some : goal.returns-then-is_ended-clause-some
returns-then-is_ended-clause-some c =
    record {
      named = c.in-Process.is ∙ ap (λ (n : ℕ). agent.Process n c.in-Process.process) c.if-at-node.true;
      known = c.in_ok-known.known.now;
      there =
          read_of c.args.node.now.processes.items.items c.deref.result.now c.in-Process.process c.in_ok-known.known.now
          c.deref.ensures.value c.in_ok-known.ensures.lookup.3.0 c.in_ok-known.ensures.lookup.1;
      ended = c.is_ended.ensures.0 c.if-is_ended.true;
    }

pub returns-clause-none : goal.returns-clause-none
returns-clause-none c = λ process h.
    let named : agent.Process c.in-Process.at c.in-Process.process
    ≡ agent.Process c.args.node.now.words.number process =
    sym c.in-Process.is ∙ h.named in
    let at : c.in-Process.at ≡ c.args.node.now.words.number = cc in
    let number : c.in-Process.process ≡ process = cc in
    let there : slice_get c.args.node.now.processes.items.items c.in-Process.process ≡ Some c.in_ok-known.known.now =
    read_of c.args.node.now.processes.items.items c.deref.result.now c.in-Process.process c.in_ok-known.known.now
    c.deref.ensures.value c.in_ok-known.ensures.lookup.3.0 c.in_ok-known.ensures.lookup.1 in
    let same : c.in_ok-known.known.now ≡ h.known =
    same_Some c.in_ok-known.known.now h.known
    (sym there ∙ ap (λ (k : ℕ). slice_get c.args.node.now.processes.items.items k) number ∙ h.there) in
    elim c.else-at-node.branch [
      | else-at-node-via-then-at-node+else-is_ended w ↦
          absurd (false≢true (sym w.if-is_ended.false
          ∙ w.is_ended.ensures.1 (ap (λ (p : Process). p.stand) same ∙ h.ended)))
      | else-at-node-via-else-at-node w ↦ absurd (w.if-at-node.false at)
    ]
