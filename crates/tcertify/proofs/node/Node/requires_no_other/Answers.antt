use Rattle.std.proofs.Common.{◌≡◌, ◌<◌, ℕ, refl, sym, ap, ◌∙◌, subst, length, arith, Some, List, Ok, Err}
use Rattle.std.specs.Prelude.{slice_get}
use Rattle.std.proofs.lemmas.Option.{slice_get_read}
use Rattle.std.proofs.lemmas.Result.{err_from_is_err_and}
use Rattle.tprocesses.specs.Choosing.{requires_no_other}
use Rattle.tprocesses.specs.Touching.{Site}
use Rattle.tcertify.specs.Choosing.{asks_other}
use Rattle.tcertify.specs.Nodes.{Does, RunsAt, node_site, nothing, ports_at}
use Rattle.tcertify.proofs.EachPort.{all_done, as_many, none_done, one_more, one_stops}
use Rattle.tcertify.proofs.NodePorts.{ports_are}
use Rattle.tcertify.proofs.node.Node.requires_no_other.Goals as goal

pub loop-index-init : goal.loop-index-init
loop-index-init c =
    let a = c.args.self.now in
    none_done (requires_no_other (node_site a) c.args.channel) a c.args.process

pub index-requires-in-loop-index : goal.index-requires-in-loop-index
index-requires-in-loop-index c =
    let e = ap length c.loop-index.invariant.same in omega (arith, c.requires, e)

pub index-port-requires : goal.index-port-requires
index-port-requires c =
    let a = c.args.self.now in let u = c.loop-index.self in let k = c.args.process in
    let p = c.index.result.now in let q = c.index-in-loop-index.result.now in
    let e = ap length c.loop-index.invariant.same in
    let at = slice_get_read a.processes.items.items (length a.processes.items.items) k p refl c.requires c.index.ensures
    in
    let in_u : k < length u.processes.items.items = omega (arith, c.requires, e) in
    let there = slice_get_read u.processes.items.items (length u.processes.items.items) k q refl in_u
    c.index-in-loop-index.ensures in
    let same = ap length (as_many a u k p q c.loop-index.invariant.same at there ∙ ports_are a k p at) in
    omega (arith, same, c.loop-index-test.true, c.len-count.ensures)

pub returns-in_err-asks_other : goal.returns-in_err-asks_other
returns-in_err-asks_other c =
    let a = c.args.self.now in let u = c.loop-index.self in let k = c.args.process in
    let p = c.index.result.now in let q = c.index-in-loop-index.result.now in let x = c.index-port.result.now in
    let i = c.loop-index.index in let inv = c.loop-index.invariant in
    let e = ap length inv.same in
    let at = slice_get_read a.processes.items.items (length a.processes.items.items) k p refl c.requires c.index.ensures
    in
    let in_u : k < length u.processes.items.items = omega (arith, c.requires, e) in
    let there = slice_get_read u.processes.items.items (length u.processes.items.items) k q refl in_u
    c.index-in-loop-index.ensures in
    let same = as_many a u k p q inv.same at there in
    let counted = ap length (same ∙ ports_are a k p at) in
    let inside : i < length q.ports.items = omega (arith, counted, c.loop-index-test.true, c.len-count.ensures) in
    let y = c.new.result in let port : slice_get (ports_at a k) i ≡ Some y =
    ap (λ (xs : List ℕ). slice_get xs i) (sym same)
    ∙ slice_get_read q.ports.items (length q.ports.items) i x refl inside c.index-port.ensures ∙ ap Some
    (sym c.new.ensures)
    in
    let r = err_from_is_err_and c.from_residual.result c.from_residual.ensures.1 in
    rw (r.1, r.2)
    (one_stops (requires_no_other (node_site a) c.args.channel) a k i u inv y port
    (asks_other (node_site a) c.args.channel y)
    (λ rest. refl) c.asks_other.new.self c.in_err-asks_other.field-0.0
    (subst (λ (s : Site). Does (asks_other s c.args.channel y) nothing u (Err c.in_err-asks_other.field-0.0)
    c.asks_other.new.self) inv.grown.site c.in_err-asks_other.ensures.done))

pub loop-index-preserved : goal.loop-index-preserved
loop-index-preserved c =
    let a = c.args.self.now in let u = c.loop-index.self in let k = c.args.process in
    let p = c.index.result.now in let q = c.index-in-loop-index.result.now in let x = c.index-port.result.now in
    let i = c.loop-index.index in let inv = c.loop-index.invariant in
    let e = ap length inv.same in
    let at = slice_get_read a.processes.items.items (length a.processes.items.items) k p refl c.requires c.index.ensures
    in
    let in_u : k < length u.processes.items.items = omega (arith, c.requires, e) in
    let there = slice_get_read u.processes.items.items (length u.processes.items.items) k q refl in_u
    c.index-in-loop-index.ensures in
    let same = as_many a u k p q inv.same at there in
    let counted = ap length (same ∙ ports_are a k p at) in
    let inside : i < length q.ports.items = omega (arith, counted, c.loop-index-test.true, c.len-count.ensures) in
    let y = c.new.result in let port : slice_get (ports_at a k) i ≡ Some y =
    ap (λ (xs : List ℕ). slice_get xs i) (sym same)
    ∙ slice_get_read q.ports.items (length q.ports.items) i x refl inside c.index-port.ensures ∙ ap Some
    (sym c.new.ensures)
    in
    one_more (requires_no_other (node_site a) c.args.channel) a k i u inv y port
    (asks_other (node_site a) c.args.channel y)
    (λ rest. refl) c.asks_other.new.self
    (subst (λ (s : Site). RunsAt (asks_other s c.args.channel y) u (Ok tt) c.asks_other.new.self) inv.grown.site
    c.in_ok-asks_other.ensures.done) c.in_ok-asks_other.ensures.processes

pub returns : goal.returns
returns c =
    let a = c.args.self.now in let k = c.args.process in let p = c.index.result.now in
    let at = slice_get_read a.processes.items.items (length a.processes.items.items) k p refl c.requires c.index.ensures
    in
    let counted = ap length (ports_are a k p at) in
    let all : c.loop-index.index ≡ length (ports_at a k) =
    omega (arith, counted, c.loop-index-test.false, c.len-count.ensures, c.loop-index.auto) in
    all_done (requires_no_other (node_site a) c.args.channel) a k c.loop-index.index c.loop-index.self
    c.loop-index.invariant
    all refl
