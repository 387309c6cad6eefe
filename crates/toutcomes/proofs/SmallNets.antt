-- The net that events leave has no more nodes than that of its plan, which has few.
use Rattle.std.proofs.Common.{◌≡◌, ◌≤◌, ◌∙◌, refl, ap, sym, subst, ℕ, List, [], ◌∷◌, length, Option, Some, None, arith}
use Rattle.std.proofs.Common.{Result, Ok, Err}
use Rattle.tplan.specs.declared.plan.BuildFault.{BuildFault}
use Rattle.tplan.specs.declared.plan.Image.{Image}
use Rattle.tplan.specs.declared.event.Event.{Event}
use Rattle.tplan.specs.declared.wiring.Wiring.{Wiring}
use Rattle.tnet.specs.Net.{NetState}
use Rattle.tnet.specs.Packets.{after_event, after_events, then_after}
use Rattle.tnet.proofs.NamedEvents.{count_stays, nets_are_small}
use Rattle.topening.specs.declared.fault.Fault.{Fault}
use Rattle.topening.specs.Openings.{as_opened, images_of, opened_of, opened_with}
use Rattle.topening.specs.Plans.{net_of, plan_of}

-- events leave as many nodes as there were
count_left : (events : List Event) (net left : NetState) → after_events events net ≡ Some left
    → length left.nodes ≡ length net.nodes
count_left [] net left h = let same : net ≡ left = cc in ap (λ (n : NetState). length n.nodes) (sym same)
count_left (e ∷ events) net left h = by (after_event net e) refl h (λ next. count_left events next left)
  where
    by : (o : Option NetState) → after_event net e ≡ o → then_after (after_events events) o ≡ Some left
        → ((next : NetState) → after_events events next ≡ Some left → length left.nodes ≡ length next.nodes)
        → length left.nodes ≡ length net.nodes
    by None is h rest = cc
    by (Some next) is h rest = rest next h ∙ count_stays net next e is

-- so they are as few
pub few_after : (events : List Event) (net left : NetState) → after_events events net ≡ Some left
    → length net.nodes ≤ 64 → length left.nodes ≤ 64
few_after events net left all_done few = omega (arith, few, count_left events net left all_done)

-- the net that is opened has at most 64
pub few_opened : (w : Wiring) (files : List (List ℕ)) (net : NetState) → opened_of w files ≡ Ok net
    → length net.nodes ≤ 64
few_opened w files net h = by (images_of files) h
  where
    built_so : (images : List Image) (r : Result NetState BuildFault) → net_of w images ≡ r → as_opened r ≡ Ok net
        → length net.nodes ≤ 64
    built_so images (Err f) is e = cc
    built_so images (Ok n) is e =
        let same : n ≡ net = cc in
        subst (λ (x : NetState). length x.nodes ≤ 64) same (nets_are_small (plan_of w images) n is)

    by : (r : Result (List Image) Fault) → opened_with w r ≡ Ok net → length net.nodes ≤ 64
    by (Err f) e = cc
    by (Ok images) e = built_so images (net_of w images) refl e
