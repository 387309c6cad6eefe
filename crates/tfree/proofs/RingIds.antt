-- The two ends of a ring show its identity.
use Rattle.std.proofs.Common.{ℕ, sym, subst, List, Option, Some}
use Rattle.tplan.specs.declared.plan.End.{End}
use Rattle.tnet.specs.Net.{NetState}
use Rattle.tfree.specs.declared.ends.InEnd.{InEnd}
use Rattle.tfree.specs.declared.ends.OutEnd.{OutEnd}
use Rattle.tfree.specs.Views.{InView, OutView}
use Rattle.tfree.specs.Ends.{in_view, out_view, ins_view, outs_view}
use Rattle.tfree.specs.Rings.{AreJoined}
use Rattle.tfree.specs.Slots.{with_slot}
use Rattle.tfree.proofs.LinkSlots.{map-slot_set}

-- the ends that were set, by what is seen of them
pub joined_views : (opened : NetState) (node link : ℕ) (f e : End) (ins : List (List (Option InEnd)))
    (outs : List (List (Option OutEnd))) (x : InEnd) (y : OutEnd)
    → AreJoined opened node link (with_slot f.node f.link (Some (in_view x)) (ins_view ins))
    (with_slot e.node e.link (Some (out_view y)) (outs_view outs))
    → AreJoined opened node link (ins_view (with_slot f.node f.link (Some x) ins))
    (outs_view (with_slot e.node e.link (Some y) outs))
joined_views opened node link f e ins outs x y h =
    subst (λ (xs : List (List (Option InView))). AreJoined opened node link xs
    (outs_view (with_slot e.node e.link (Some y) outs))) (sym (map-slot_set in_view ins f.node f.link (Some x)))
    (subst (λ (ys : List (List (Option OutView))). AreJoined opened node link
    (with_slot f.node f.link (Some (in_view x)) (ins_view ins)) ys)
    (sym (map-slot_set out_view outs e.node e.link (Some y))) h)
