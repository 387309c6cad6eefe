use Rattle.std.proofs.Common.{◌≡◌, ◌<◌, ◌+◌, ℕ, sym, ap, ◌∙◌, subst, arith, length, List, [], ◌∷◌, ◌++◌, take, get_or}
use Rattle.std.proofs.Common.{Some}
use Rattle.std.proofs.Common.{refl, Ok, Err}
use Rattle.std.specs.Prelude.{slice_get}
use Rattle.std.proofs.Math.Seq.{take-length}
use Rattle.std.proofs.lemmas.List.{length-take-le, take_more}
use Rattle.std.proofs.lemmas.Option.{slice_get_read}
use Rattle.std.proofs.lemmas.Result.{err_from_is_err_and}
use Rattle.tproc.specs.Machine.{priority_of, workspace_of}
use Rattle.tplan.specs.declared.plan.NodePlan.{NodePlan}
use Rattle.tplan.specs.declared.plan.Plan.{Plan}
use Rattle.tplan.specs.declared.plan.Process.{Process}
use Rattle.tprocesses.specs.Opening.{opening_state}
use Rattle.tprocesses.specs.Places.{Name, Image}
use Rattle.tprocesses.specs.Standing.{comes, fresh}
use Rattle.tprocesses.specs.Touching.{Site}
use Rattle.tprocesses.specs.Values.{Rests}
use Rattle.tcertify.specs.declared.fault.Fault.{Fault}
use Rattle.tcertify.specs.declared.fault.Fault.TheVariants as fault
use Rattle.tcertify.specs.declared.node.Node.{Node}
use Rattle.tcertify.specs.NodeOpened.{HaveOwnWorkspaces, IsOpeningFault}
use Rattle.tcertify.specs.Nodes.{Does, NumbersNode, node_at, node_site, nothing}
use Rattle.tcertify.specs.Notes.{NumbersWords}
use Rattle.tcertify.specs.Running.{run_part}
use Rattle.tcertify.specs.Words.{reason_of}
use Rattle.tcertify.proofs.Growing.{lists_stay, numbers_before}
use Rattle.tcertify.proofs.NodeOpening.{all_came, has_come, none_came, one_more, opening_with}
use Rattle.tcertify.proofs.OwnWorkspaces.{comes_alone, comes_late, is_at, not_own, own_more, plan_at, stop_is}
use Rattle.tcertify.proofs.node.Node.open.Goals as goal

pub returns-in_err-node : goal.returns-in_err-node
returns-in_err-node c =
    let p = err_from_is_err_and c.from_residual.result c.from_residual.ensures.1 in
    rw (p.1, p.2, c.in_err-node.ensures.fault) tt

-- why the next process of an image does not come
late : (m b : Node) (n i : ℕ) (plan : NodePlan) (q : Process) (e : Fault)
    → m.words.number ≡ n → slice_get plan.image.processes i ≡ Some q → length (take i plan.image.processes) ≡ i
    → ((p : Plan) → slice_get p.nodes n ≡ Some plan
    → node_at m (opening_state p) ≡ opening_with p n plan (take i plan.image.processes))
    → Does (comes (node_site m) (record { node = m.words.number; root = Image i; path = [] })
    (fresh (priority_of q.wdesc) (workspace_of q.wdesc) q.iptr) Rests) nothing m (Err e) b → IsOpeningFault plan e
late m b n i plan q fault.OutOfMemory is there low opens done = tt
late m b n i plan q (fault.Stops why) is there low opens done =
    let ps = take i plan.image.processes in
    let p = plan_at n plan in let s = opening_state p in
    let context = fresh (priority_of q.wdesc) (workspace_of q.wdesc) q.iptr in
    let name : ℕ → Name = λ k. record { node = k; root = Image i; path = [] } in
    let ran : run_part (comes (node_site m) (name n) context Rests) (opening_with p n plan ps)
    ≡ (Err (reason_of why), node_at b s) =
    ap (λ (k : ℕ). run_part (comes (node_site m) (name k) context Rests) (opening_with p n plan ps)) (sym is)
    ∙ ap (run_part (comes (node_site m) (name m.words.number) context Rests)) (sym (opens p (is_at n plan)))
    ∙ done.runs s in
    let (same, counted) = comes_late p n plan ps q i low (node_site m) is (node_at b s) (reason_of why) ran in
    (stop_is why same, not_own plan.image.processes i q there counted)

pub returns-in_err-opens_process : goal.returns-in_err-opens_process
returns-in_err-opens_process c =
    let m = c.loop-index.node in let b = c.opens_process.new.self in let n = c.args.number in
    let plan = c.args.plan.now in let ps = plan.image.processes in let i = c.loop-index.index in
    let q = c.index-processes-index.result in let inv = c.loop-index.invariant in
    let p = err_from_is_err_and c.from_residual-in_err-opens_process.result
    c.from_residual-in_err-opens_process.ensures.1 in
    let low : i < length ps = omega (arith, c.loop-index-test.true, ap length c.as_slice-processes.ensures) in
    let at : length (take i ps) ≡ i = length-take-le i ps (omega (arith, low)) in
    let is : get_or ps i q ≡ q =
    ap (λ (xs : List Process). get_or xs i q) (sym c.as_slice-processes.ensures) ∙ sym c.index-processes-index.is in
    rw (p.1, p.2)
    (late m b n i plan q c.in_err-opens_process.field-0.0 (ap (λ (s : Site). s.number) inv.site)
    (slice_get_read ps (length ps) i q refl low (sym is)) at inv.opens c.in_err-opens_process.ensures)

pub loop-index-init : goal.loop-index-init
loop-index-init c =
    let h = c.in_ok-node.ensures.node in let node = c.in_ok-node.node in let n = c.args.number in
    let is : node.words.number ≡ n = ap (λ (s : Site). s.number) h.site in
    record {
      site = h.site;
      first = λ numbering numbers.
          subst (λ (k : ℕ). NumbersWords numbering k c.args.first_place) is
          (subst (λ (f : ℕ). NumbersWords numbering node.words.number f) h.first numbers.words);
      own = λ i j x y at there same. cc;
      opens = λ p there. none_came c.args.plan.now n c.args.first_place node h p there;
    }

pub loop-index-preserved : goal.loop-index-preserved
loop-index-preserved c =
    let m = c.loop-index.node in let b = c.opens_process.new.self in let n = c.args.number in
    let plan = c.args.plan.now in let ps = plan.image.processes in let i = c.loop-index.index in
    let q = c.index-processes-index.result in let r = c.in_ok-opens_process.ensures in
    let inv = c.loop-index.invariant in
    let number : m.words.number ≡ n = ap (λ (s : Site). s.number) inv.site in
    let context = fresh (priority_of q.wdesc) (workspace_of q.wdesc) q.iptr in
    let name : ℕ → Name = λ k. record { node = k; root = Image i; path = [] } in
    let low : i < length ps = omega (arith, c.loop-index-test.true, ap length c.as_slice-processes.ensures) in
    let at : length (take i ps) ≡ i = length-take-le i ps (omega (arith, low)) in
    let is : get_or ps i q ≡ q =
    ap (λ (xs : List Process). get_or xs i q) (sym c.as_slice-processes.ensures) ∙ sym c.index-processes-index.is in
    let more : take i ps ++ q ∷ [] ≡ take (i + 1) ps =
    ap (λ (x : Process). take i ps ++ x ∷ []) (sym is) ∙ sym (take_more ps i q low) in
    let came : (p : Plan) → slice_get p.nodes n ≡ Some plan
    → run_part (comes (node_site m) (name n) context Rests) (opening_with p n plan (take i ps))
    ≡ (Ok tt, node_at b (opening_state p)) =
    λ p there.
    ap (λ (k : ℕ). run_part (comes (node_site m) (name k) context Rests) (opening_with p n plan (take i ps)))
    (sym number)
    ∙ ap (run_part (comes (node_site m) (name m.words.number) context Rests)) (sym (inv.opens p there))
    ∙ r.runs (opening_state p) in
    let alone = comes_alone (plan_at n plan) n plan (take i ps) q i at (node_site m) number
    (node_at b (opening_state (plan_at n plan))) (came (plan_at n plan) (is_at n plan)) in
    record {
      site = r.grows.site ∙ inv.site;
      first = λ numbering numbers. inv.first numbering (r.grows.numbers numbering numbers);
      own = subst HaveOwnWorkspaces more (own_more (take i ps) q alone inv.own);
      opens = λ p there.
          let s = opening_state p in
          sym (has_come (node_site m) (name n) context Rests (opening_with p n plan (take i ps)) (node_at b s)
          (came p there))
          ∙ one_more p n plan (take i ps) q i at (node_at b s) (node_site m) number
          ∙ ap (opening_with p n plan) more;
    }

pub returns : goal.returns
returns c =
    let plan = c.args.plan.now in let ps = plan.image.processes in let n = c.args.number in
    let inv = c.loop-index.invariant in let same = c.begin_step.ensures.same in
    let m = c.loop-index.node in let b = c.begin_step.new.self in
    let all : c.loop-index.index ≡ length ps =
    omega (arith, c.loop-index-test.false, c.loop-index.auto.index-end, ap length c.as_slice-processes.ensures) in
    let whole : take c.loop-index.index ps ≡ ps = ap (λ (k : ℕ). take k ps) all ∙ take-length ps in
    record {
      site = ap node_site same ∙ inv.site;
      first = λ numbering numbers.
          inv.first numbering
          (numbers_before m (record m { words = record m.words { notes = b.words.notes }; leads = b.leads })
          (lists_stay m (record m { words = record m.words { notes = b.words.notes }; leads = b.leads }) refl refl refl
          refl refl refl) numbering (subst (NumbersNode numbering) same numbers));
      opens = λ p there. ap (λ (x : Node). node_at x (opening_state p)) same ∙ inv.opens p there
          ∙ ap (opening_with p n plan) whole ∙ all_came p n plan there;
      notes = c.begin_step.ensures.notes;
      none = c.begin_step.ensures.none;
      leads = c.begin_step.ensures.leads;
      own = subst HaveOwnWorkspaces whole inv.own;
    }
