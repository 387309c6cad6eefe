use Rattle.std.proofs.Common.{◌≡◌, ℕ, ap, ◌∙◌, Bool}
use Rattle.std.proofs.lemmas.Result.{err_from_is_err_and}
use Rattle.std.specs.Int.{w32, to_le_bytes}
use Rattle.std.specs.Prelude.{is_some, unwrap_or}
use Rattle.tprocesses.specs.Performing.{bytes_if}
use Rattle.tprocesses.specs.Scheduling.{laid_down}
use Rattle.tprocesses.specs.Values.{Context}
use Rattle.tcertify.specs.Contexts.{context_of}
use Rattle.tcertify.specs.Words.{reason_of}
use Rattle.tcertify.proofs.Scheduling.{laid_so, lays_not, sends, sends_nowhere}
use Rattle.tcertify.proofs.node.Node.sends_from_workspace.Goals as goal

pub returns-in_default : goal.returns-in_default
returns-in_default c =
    sends_nowhere c.args.self.now c.args.process (context_of c.args.context.now) c.args.size c.in_default.is

pub returns-in_err-store : goal.returns-in_err-store
returns-in_err-store c =
    let ctx : Context = context_of c.args.context.now in
    let p = err_from_is_err_and c.from_residual.result c.from_residual.ensures.1 in
    let value : c.unwrap_or-value.result ≡ unwrap_or ctx.a 0 =
    c.unwrap_or-value.ensures ∙ ap (λ (n : ℕ). unwrap_or ctx.a n) c.new.ensures in
    let laid : bytes_if c.is_some.result (to_le_bytes w32 c.unwrap_or-value.result) ≡ laid_down ctx.a =
    ap (λ (t : Bool). bytes_if t (to_le_bytes w32 c.unwrap_or-value.result)) c.is_some.ensures
    ∙ ap (λ (n : ℕ). bytes_if (is_some ctx.a) (to_le_bytes w32 n)) value ∙ laid_so ctx.a in
    rw (p.1, p.2)
    (lays_not c.args.self.now c.args.process ctx c.args.size c.in-Some.channel c.in-Some.is c.store.new.self
    (reason_of c.in_err-store.field-0.0) (rw laid at c.in_err-store.ensures))

pub returns : goal.returns
returns c =
    let ctx : Context = context_of c.args.context.now in
    let value : c.unwrap_or-value.result ≡ unwrap_or ctx.a 0 =
    c.unwrap_or-value.ensures ∙ ap (λ (n : ℕ). unwrap_or ctx.a n) c.new.ensures in
    let laid : bytes_if c.is_some.result (to_le_bytes w32 c.unwrap_or-value.result) ≡ laid_down ctx.a =
    ap (λ (t : Bool). bytes_if t (to_le_bytes w32 c.unwrap_or-value.result)) c.is_some.ensures
    ∙ ap (λ (n : ℕ). bytes_if (is_some ctx.a) (to_le_bytes w32 n)) value ∙ laid_so ctx.a in
    sends c.args.self.now c.args.process ctx c.args.size c.in-Some.channel c.in-Some.is c.store.new.self _ _
    c.requires (rw laid at c.in_ok-store.ensures) c.communicates.ensures
