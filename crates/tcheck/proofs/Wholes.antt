-- What is found of a wiring with the files of its images, all in all.
use Rattle.std.proofs.Common.{◌≡◌, ◌∙◌, ap, List, [], ◌++◌, append_assoc, map}
use Rattle.std.specs.Prelude.{zip}
use Rattle.tplan.specs.declared.event.Hold.{Hold}
use Rattle.tplan.specs.declared.plan.NodePlan.{NodePlan}
use Rattle.tplan.specs.declared.plan.Plan.{Plan}
use Rattle.tplan.specs.declared.plan.Wire.{Wire}
use Rattle.tplan.specs.declared.wiring.Wiring.{Wiring}
use Rattle.tcheck.specs.declared.flaws.Wrong.{Wrong}
use Rattle.tcheck.specs.Checks.{check_wrongs, checked_of, compared_wires, File, file_wrongs, plan_hold_wrongs, planned}
use Rattle.tcheck.specs.Checks.{plan_of}
use Rattle.tcheck.specs.Wrongs.{each_from, plan_wrongs}

-- the plan of a wiring with these nodes
abbrev pub with_nodes : Wiring → List NodePlan → Plan
with_nodes w ns =
    record { timeslice = w.timeslice; nodes = ns; wires = w.wires; sources = w.sources; sinks = w.sinks }

pub all_found : (w : Wiring) (files : List File) (ns : List NodePlan) (hs : List Hold) (a b c d e : List Wrong)
    → a ≡ [] → ns ≡ map planned (zip w.nodes files) → b ≡ a ++ each_from file_wrongs 0 files
    → c ≡ b ++ plan_wrongs (with_nodes w ns) → d ≡ c ++ plan_hold_wrongs (with_nodes w ns) hs → hs ≡ w.holds → e ≡ d
    → e ≡ check_wrongs w files
all_found w files ns hs a b c d e none nodes of_files of_plan of_holds holds last =
    let f : List Wrong = each_from file_wrongs 0 files in
    last ∙ of_holds
    ∙ ap (λ (l : List Wrong). l ++ plan_hold_wrongs (with_nodes w ns) hs)
    (of_plan
    ∙ ap (λ (l : List Wrong). l ++ plan_wrongs (with_nodes w ns)) (of_files ∙ ap (λ (l : List Wrong). l ++ f) none))
    ∙ append_assoc f (plan_wrongs (with_nodes w ns)) (plan_hold_wrongs (with_nodes w ns) hs)
    ∙ ap (λ (ms : List NodePlan). f ++ (plan_wrongs (with_nodes w ms) ++ plan_hold_wrongs (with_nodes w ms) hs)) nodes
    ∙ ap (λ (gs : List Hold). f ++ (plan_wrongs (plan_of w files) ++ plan_hold_wrongs (plan_of w files) gs)) holds

pub all_checked : (w : Wiring) (files : List File) (ns : List NodePlan) (ws : List Wire) (found : List Wrong)
    → ns ≡ map planned (zip w.nodes files) → ws ≡ compared_wires (with_nodes w ns) → found ≡ check_wrongs w files
    → record { nodes = w.nodes; plan = with_nodes w ns; wires = ws; wrongs = found } ≡ checked_of w files
all_checked w files ns ws found nodes wires wrongs =
    ap (λ (l : List Wrong). record { nodes = w.nodes; plan = with_nodes w ns; wires = ws; wrongs = l }) wrongs
    ∙ ap (λ (l : List Wire).
    record { nodes = w.nodes; plan = with_nodes w ns; wires = l; wrongs = check_wrongs w files })
    wires
    ∙ ap (λ (ms : List NodePlan). record {
      nodes = w.nodes;
      plan = with_nodes w ms;
      wires = compared_wires (with_nodes w ms);
      wrongs = check_wrongs w files;
    }) nodes
