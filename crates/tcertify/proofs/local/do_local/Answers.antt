use Rattle.std.specs.Prelude.{unwrap_or}
use Rattle.tcode.specs.declared.instruction.Function.TheVariants.{Ldnl, Ldl, Call, Stl, Stnl}
use Rattle.tcpu.specs.Effects.{effect}
use Rattle.tprocesses.specs.Uses.{known_writes, uses_of}
use Rattle.tcertify.specs.Contexts.{context_of}
use Rattle.tcertify.specs.Words.{site_of}
use Rattle.tcertify.proofs.Locals.{at_function, function_alone, runs_alone}
use Rattle.tcertify.proofs.local.do_local.Goals as goal

pub returns-in-Ldl-clause-done : goal.returns-in-Ldl-clause-done
returns-in-Ldl-clause-done c =
    let w = c.args.words.now in let r = c.args.registers.now in let i = c.args.instruction in
    let ctx = context_of c.args.context.now in
    at_function (site_of w) w.kind ctx i r w _ Ldl _ c.in-Ldl.is
    (rw c.advance.ensures at c.load_local.ensures.done)

pub returns-in-Ldnl-clause-done : goal.returns-in-Ldnl-clause-done
returns-in-Ldnl-clause-done c =
    let w = c.args.words.now in let r = c.args.registers.now in let i = c.args.instruction in
    let ctx = context_of c.args.context.now in
    at_function (site_of w) w.kind ctx i r w _ Ldnl _ c.in-Ldnl.is
    (rw c.advance-in-Ldnl.ensures at c.load_non_local.ensures.done)

pub returns-in-Stl-clause-done : goal.returns-in-Stl-clause-done
returns-in-Stl-clause-done c =
    let w = c.args.words.now in let r = c.args.registers.now in let i = c.args.instruction in
    let ctx = context_of c.args.context.now in
    at_function (site_of w) w.kind ctx i r w _ Stl _ c.in-Stl.is
    (rw (c.advance-in-Stl.ensures, c.is_some.ensures) at c.store_local.ensures.done)

pub returns-in-Stnl-clause-done : goal.returns-in-Stnl-clause-done
returns-in-Stnl-clause-done c =
    let w = c.args.words.now in let r = c.args.registers.now in let i = c.args.instruction in
    let ctx = context_of c.args.context.now in
    at_function (site_of w) w.kind ctx i r w _ Stnl _ c.in-Stnl.is
    (rw (c.advance-in-Stnl.ensures, c.is_some-in-Stnl.ensures) at c.store_non_local.ensures.done)

pub returns-in-Call-clause-done : goal.returns-in-Call-clause-done
returns-in-Call-clause-done c =
    let w = c.args.words.now in let r = c.args.registers.now in let i = c.args.instruction in
    let ctx = context_of c.args.context.now in
    at_function (site_of w) w.kind ctx i r w _ Call _ c.in-Call.is
    (rw (
      c.advance-in-Call.ensures,
      c.is_some-in-Call.ensures,
      c.is_some-in-Call-2.ensures,
      c.is_some-in-Call-3.ensures,
    ) at c.call.ensures.done)

pub returns-in-Opr-clause-done : goal.returns-in-Opr-clause-done
returns-in-Opr-clause-done c = c.operate_apart.ensures.done

pub returns-in_default-clause-done : goal.returns-in_default-clause-done
returns-in_default-clause-done c =
    let w = c.args.words.now in let r = c.args.registers.now in let i = c.args.instruction in
    let ctx = context_of c.args.context.now in
    runs_alone (site_of w) (known_writes ctx (uses_of w.kind i (unwrap_or ctx.a 0))) (effect w.kind i r) w _
    (function_alone (site_of w) w.kind ctx i r c.in_default.not-Ldnl c.in_default.not-Ldl c.in_default.not-Call
    c.in_default.not-Stl c.in_default.not-Stnl c.in_default.not-Opr)
    (λ t. rw c.requires at
    (c.do_alone.ensures.done (site_of w) (known_writes ctx (uses_of w.kind i (unwrap_or ctx.a 0))) t))

pub do_alone-requires : goal.do_alone-requires
do_alone-requires c =
    let w = c.args.words.now in let r = c.args.registers.now in let i = c.args.instruction in
    let ctx = context_of c.args.context.now in
    rw c.requires
    (function_alone (site_of w) w.kind ctx i r c.in_default.not-Ldnl c.in_default.not-Ldl c.in_default.not-Call
    c.in_default.not-Stl c.in_default.not-Stnl c.in_default.not-Opr)
