use Rattle.std.proofs.Common.{Err, Ok, Option, subst, sym}
use Rattle.std.proofs.lemmas.Result.{err_from_is_err_and}
use Rattle.tprocesses.specs.Standing.{takes_back}
use Rattle.tprocesses.specs.Values as value
use Rattle.tcertify.specs.declared.context.Lent.{Lent}
use Rattle.tcertify.specs.declared.fault.Fault.TheVariants.{Stops}
use Rattle.tcertify.specs.Contexts.{lent_of}
use Rattle.tcertify.specs.Nodes.{Does, node_site, nothing}
use Rattle.tcertify.proofs.NodeOutputs.{takes, takes_not, takes_nothing}
use Rattle.tcertify.proofs.node.Node.takes_back.Goals as goal

pub returns-in_default : goal.returns-in_default
returns-in_default c = takes_nothing c.args.self.now c.args.lent c.in_default.not-Some

pub returns-in_err-gives_back : goal.returns-in_err-gives_back
returns-in_err-gives_back c =
    let a = c.args.self.now in let b = c.gives_back.new.self in let o = c.in-Some.output in
    let l : value.Lent = record { link = o.link; buffer = o.buffer } in let e = c.in_err-gives_back.field-0.0 in
    let p = err_from_is_err_and c.from_residual.result c.from_residual.ensures.1 in
    rw (p.1, p.2)
    (subst (λ (x : Option Lent). Does (takes_back (node_site a) (lent_of x)) nothing a (Err e) b) (sym c.in-Some.is)
    (takes_not a b l e c.in_err-gives_back.ensures))

pub returns-in_err-frees_output : goal.returns-in_err-frees_output
returns-in_err-frees_output c =
    let a = c.args.self.now in let m = c.gives_back.new.self in let b = c.frees_output.new.self in
    let o = c.in-Some.output in let l : value.Lent = record { link = o.link; buffer = o.buffer } in
    let e = c.in_err-frees_output.field-0.0 in
    let p = err_from_is_err_and c.from_residual-in_err-frees_output.result
    c.from_residual-in_err-frees_output.ensures.1 in
    rw (p.1, p.2)
    (subst (λ (x : Option Lent). Does (takes_back (node_site a) (lent_of x)) nothing a (Err (Stops e)) b)
    (sym c.in-Some.is)
    (takes a m l b (Err (Stops e)) c.from.result c.from.ensures c.in_ok-gives_back.ensures
    c.in_err-frees_output.ensures))

pub returns : goal.returns
returns c =
    let a = c.args.self.now in let m = c.gives_back.new.self in let b = c.frees_output.new.self in
    let o = c.in-Some.output in let l : value.Lent = record { link = o.link; buffer = o.buffer } in
    subst (λ (x : Option Lent). Does (takes_back (node_site a) (lent_of x)) nothing a (Ok tt) b) (sym c.in-Some.is)
    (takes a m l b (Ok tt) c.from.result c.from.ensures c.in_ok-gives_back.ensures c.in_ok-frees_output.ensures)
