use Rattle.std.proofs.Common.{◌≡◌, ℕ, refl, sym, ap, ◌∙◌, pos, Ok, arith, rules}
use Rattle.std.proofs.lemmas.Result.{err_from_is_err_and}
use Rattle.std.specs.Int.{w32}
use mir.Val.{to_z, of_z}
use Rattle.tprocesses.specs.Parts.{done}
use Rattle.tprocesses.specs.Touching.{is_zero}
use Rattle.tprocesses.specs.Values.{IsAmount}
use Rattle.tcertify.specs.Nodes.{node_site, nothing}
use Rattle.tcertify.specs.Starts.{begins_life}
use Rattle.tcertify.proofs.NodeLives.{adds_there, begins, begins_not, seen_there}
use Rattle.tcertify.proofs.NodeRunning.{does_stop, number_stays, workspace_stays}
use Rattle.tcertify.proofs.node.Node.begins_life.Goals as goal

pub returns-in_err-number : goal.returns-in_err-number
returns-in_err-number c =
    let a = c.args.self.now in
    let p = err_from_is_err_and c.from_residual.result c.from_residual.ensures.1 in
    rw (p.1, p.2)
    (does_stop done (λ (u : Unit {0}). begins_life (node_site a) c.args.workspace) (λ (k : ℕ). tt)
    nothing a c.life_at.new.self c.in_err-number.field-0.0 c.in_err-number.ensures.done)

pub returns-then-not-is_zero : goal.returns-then-not-is_zero
returns-then-not-is_zero c =
    let a = c.args.self.now in let m = c.life_at.new.self in
    begins_not a m c.count_at.new.self c.args.workspace c.count_at.result c.in_ok-number.ensures.done
    (seen_there m c.count_at.new.self (Ok (IsAmount c.count_at.result)) m.words.number a.words.number _ c.args.workspace
    (sym (number_stays a m c.in_ok-number.ensures.done.grows)) c.in_ok-number.ensures.there.1 c.count_at.ensures)
    (let e : to_z w32 (of_z w32 c.count_at.result) ≡ c.count_at.result = search rules in
    ap is_zero (sym e) ∙ sym c.is_zero.ensures ∙ c.if-not-is_zero.true)

pub adds_life_at-requires : goal.adds_life_at-requires
adds_life_at-requires c = omega (arith, c.in_ok-number.ensures.there.0, c.count_at.ensures.grows.lives)

pub returns : goal.returns
returns c =
    let a = c.args.self.now in let m = c.life_at.new.self in let b = c.count_at.new.self in
    let grown = c.in_ok-number.ensures.done.grows in
    begins a m b c.args.workspace c.count_at.result c.in_ok-number.ensures.done
    (seen_there m b (Ok (IsAmount c.count_at.result)) m.words.number a.words.number _ c.args.workspace
    (sym (number_stays a m grown)) c.in_ok-number.ensures.there.1 c.count_at.ensures)
    c.adds_life_at.new.self c.adds_life_at.result (let e : to_z w32 (of_z w32 c.count_at.result) ≡ c.count_at.result
    = search rules in
    ap is_zero (sym e) ∙ sym c.is_zero.ensures ∙ c.if-not-is_zero.false)
    (adds_there b c.adds_life_at.new.self c.adds_life_at.result b.words.number a.words.number _ c.args.workspace (pos 1)
    (pos 1) (sym (number_stays a m grown ∙ number_stays m b c.count_at.ensures.grows))
    (workspace_stays m b c.in_ok-number.number c.count_at.ensures.grows c.in_ok-number.ensures.there.0
    ∙ c.in_ok-number.ensures.there.1) refl c.adds_life_at.ensures)
