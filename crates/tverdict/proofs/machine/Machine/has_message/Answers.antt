use Rattle.std.proofs.Common.{◌≡◌, ◌∙◌, ◌≤◌, ◌-◌, ℕ, sym, ap, subst, length, List, arith}
use Rattle.std.specs.Prelude.{nat_lt, slice_index}
use Rattle.std.proofs.lemmas.Bool.{ltb-false}
use Rattle.std.proofs.lemmas.Option.{slice_get_past}
use Rattle.tcertify.specs.declared.node.Node.{Node}
use Rattle.tverdict.specs.Wires.{messages_at}
use Rattle.tverdict.proofs.Wired.{sends_there}
use Rattle.tverdict.proofs.machine.Machine.has_message.Goals as goal

pub returns-in-None : goal.returns-in-None
returns-in-None c = λ are.
    let m = c.args.self.now in let e = c.args.end in
    let past = subst (λ (xs : List Node). length xs ≤ e.node) c.deref.ensures.value
    (ltb-false e.node (length c.deref.result.now) (sym c.in-None.ensures.lookup.0)) in
    let many : c.len.result ≡ length m.nodes.items = omega (arith, c.len.ensures, m.nodes.ok.0) in
    c.has_message_left.ensures
    ∙ ap (λ (k : ℕ).
    nat_lt (slice_index m.sent.items (e.node - k)) (length (messages_at c.args.plan.now (e.node - k) e.link)))
    many
    ∙ sym (sends_there c.args.plan.now m are e (slice_get_past m.nodes.items e.node past) past)
