use Rattle.std.proofs.Common.{◌≡◌, ℕ, ◌+◌, sym, ap, ◌∙◌, subst, arith, [], ◌∷◌, length, map, drop}
use Rattle.std.specs.Prelude.{min, option_map}
use Rattle.std.proofs.lemmas.List.{length-append}
use Rattle.tnet.specs.NetParts.{net_of_parts}
use Rattle.tfree.specs.Ends.{in_view, out_view, ins_view, outs_view}
use Rattle.tnet.specs.Sharing.{share}
use Rattle.tfree.specs.Rings.{portion_of}
use Rattle.tfree.specs.Opened.{first_of, owned_of}
use Rattle.tfree.specs.Allotments.{IsAllotment, AreAllotments}
use Rattle.tfree.proofs.Portions.{first_more, owned_is, portion, rest}
use Rattle.tfree.proofs.SharingOut.{allotments_more}
use Rattle.tfree.proofs.allotments.allotments_with.Goals as goal

pub loop-allotment-preserved : goal.loop-allotment-preserved
loop-allotment-preserved c =
    let net = net_of_parts c.args.parts.now in
    let n = length c.args.parts.now.nodes.items in
    let w = c.args.workers in
    let k = c.loop-allotment._allotment in
    let inv = c.loop-allotment.invariant in
    let ins = c.loop-allotment.ins.items in
    let outs = c.loop-allotment.outs.items in
    let s = c.in_ok-make_allotment.field-0 in
    let size : c.share-size.result ≡ share n w = c.share-size.ensures
    ∙ ap (λ (m : ℕ). share m w) (omega (arith, c.len-left.ensures, c.args.parts.now.nodes.ok.0)) in
    let owned : c.min-owned.result ≡ owned_of n w k = c.min-owned.ensures
    ∙ ap (λ (m : ℕ). min m c.loop-allotment.left) size ∙ ap (min (share n w)) inv.left ∙ owned_is n w k in
    let more = first_more n w k in
    let all_ins = ins_view c.args.ins.items in
    let all_outs = outs_view c.args.outs.items in
    let is : IsAllotment net w all_ins all_outs k s =
    record {
      opened_is = ap net_of_parts c.in_ok-make_allotment.ensures.opened;
      wires = c.in_ok-make_allotment.ensures.wires;
      empty = c.in_ok-make_allotment.ensures.empty;
      room = omega (arith, c.in_ok-make_allotment.ensures.room, owned);
      ins_are = ap ins_view c.in_ok-make_allotment.ensures.ins
          ∙ portion (map (option_map in_view)) ins all_ins (first_of n w k) c.min-owned.result inv.ins
          ∙ ap (λ (m : ℕ). portion_of (first_of n w k) m all_ins) owned;
      outs_are = ap outs_view c.in_ok-make_allotment.ensures.outs
          ∙ portion (map (option_map out_view)) outs all_outs (first_of n w k) c.min-owned.result inv.outs
          ∙ ap (λ (m : ℕ). portion_of (first_of n w k) m all_outs) owned;
    } in
    let moved : first_of n w k + c.min-owned.result ≡ first_of n w (k + 1) = omega (arith, more, owned) in
    record {
      left = omega (arith, inv.left, owned, more);
      ins = ap ins_view c.in_ok-make_allotment.ensures.ins_left
          ∙ rest (map (option_map in_view)) ins all_ins (first_of n w k) c.min-owned.result inv.ins
          ∙ ap (λ (m : ℕ). drop m all_ins) moved;
      outs = ap outs_view c.in_ok-make_allotment.ensures.outs_left
          ∙ rest (map (option_map out_view)) outs all_outs (first_of n w k) c.min-owned.result inv.outs
          ∙ ap (λ (m : ℕ). drop m all_outs) moved;
      allotments =
          subst (AreAllotments net w all_ins all_outs 0) (sym c.in_ok-push.ensures.items)
          (allotments_more net w all_ins all_outs 0 k c.loop-allotment.allotments.items s inv.allotments
          (omega (arith, inv.all)) is);
      all = omega (
        arith,
        ap length c.in_ok-push.ensures.items,
        length-append c.loop-allotment.allotments.items (s ∷ []),
        inv.all,
      );
    }
