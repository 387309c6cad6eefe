use Rattle.std.proofs.Common.{◌≡◌, ◌<◌, ◌≤◌, ap, refl, subst, sym, length, List, Some, arith}
use Rattle.std.specs.Prelude.{slice_get}
use Rattle.std.proofs.lemmas.Bool.{false≢true, ltb-true, ltb-false}
use Rattle.std.proofs.lemmas.Option.{slice_get_read}
use Rattle.tverdict.specs.declared.agent.Agent.{Agent}
use Rattle.tverdict.proofs.Opens.{has_number, open_by}
use Rattle.tverdict.proofs.machine.Machine.is_open.Goals as goal

pub returns-in-Some : goal.returns-in-Some
returns-in-Some c =
    let m = c.args.self.now in let k = c.args.number in let xs = c.deref.result.now in let a = c.in-Some.agent.now in
    let at = slice_get_read xs (length xs) k a refl (ltb-true k (length xs) (sym c.in-Some.ensures.lookup.0))
    c.in-Some.ensures.lookup.1 in
    open_by c.args.plan.now m k a (subst (λ (ys : List Agent). slice_get ys k ≡ Some a) c.deref.ensures.value at)
    c.is_agent_open.result c.is_agent_open.ensures

pub returns-in-None : goal.returns-in-None
returns-in-None c = (
  λ t. absurd (false≢true t),
  λ h.
      let m = c.args.self.now in let k = c.args.number in let xs = c.deref.result.now in
      let past : length xs ≤ k = ltb-false k (length xs) (sym c.in-None.ensures.lookup.0) in
      let low : k < length m.agents.items = has_number c.args.plan.now m k h in
      absurd (omega (arith, past, low, ap length c.deref.ensures.value)),
)
