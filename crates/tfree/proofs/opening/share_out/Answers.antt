use Rattle.std.proofs.Common.{◌≡◌, ℕ, ◌+◌, ◌<◌, ◌++◌, sym, ap, ◌∙◌, subst, arith, List, [], ◌∷◌, length, take, drop}
use Rattle.std.specs.Prelude.{min}
use Rattle.tlink.specs.Node.{NodeState}
use Rattle.tnet.specs.NetParts.{net_of_parts}
use Rattle.tfree.specs.Ends.{ins_view, outs_view}
use Rattle.tnet.specs.Sharing.{share}
use Rattle.tfree.specs.Kept.{IsShare, Kept, share_with}
use Rattle.tfree.specs.Opened.{owned_of}
use Rattle.tfree.specs.Allotments.{AreSharedOut}
use Rattle.tfree.specs.declared.allotments.Allotment.{Allotment}
use Rattle.tfree.specs.Views.{View}
use Rattle.tfree.proofs.Portions.{first_more}
use Rattle.tfree.proofs.SharingOut.{owned_here, has_room, is_share, is_kept, one_more, all_shared}
use Rattle.tfree.proofs.opening.share_out.Goals as goal

count_is : (c : goal.After-workers-1) → c.len-count.result ≡ length c.args.allotments.items
count_is c = omega (arith, c.len-count.ensures, c.args.allotments.ok.0)

there : (c : goal.After-workers-1) → 0 < length c.loop-number.allotments.items
there c = omega (arith, c.loop-number.invariant.allotments, c.loop-number-test.true, count_is c)

owned_is : (c : goal.After-workers-1)
    → c.min-owned.result ≡ owned_of (length c.args.parts.nodes.items) (length c.args.allotments.items)
    c.loop-number.number
owned_is c =
    let n : c.len.result ≡ length c.args.parts.nodes.items = omega (arith, c.len.ensures, c.args.parts.nodes.ok.0) in
    let left : c.len-in-loop-number.result ≡ length c.loop-number.nodes.items =
    omega (arith, c.len-in-loop-number.ensures, c.loop-number.nodes.ok.0) in
    let size : c.share-size.result ≡ share (length c.args.parts.nodes.items) (length c.args.allotments.items) =
    c.share-size.ensures ∙ ap (λ (m : ℕ). share m c.len-count.result) n
    ∙ ap (share (length c.args.parts.nodes.items)) (count_is c) in
    c.min-owned.ensures ∙ ap (λ (m : ℕ). min m c.len-in-loop-number.result) size
    ∙ ap (min (share (length c.args.parts.nodes.items) (length c.args.allotments.items))) left
    ∙ owned_here (net_of_parts c.args.parts) (length c.args.allotments.items) c.loop-number.number
    c.loop-number.nodes.items c.loop-number.allotments.items c.loop-number.workers.items c.requires.sound
    c.args.parts.few c.requires.some.0 c.loop-number.invariant.shared
    c.remove-allotment.result (there c) c.remove-allotment.ensures.value

mine_is : (c : goal.After-workers-1)
    → c.move_front.new.to.items ≡ [] ++ take c.min-owned.result c.loop-number.nodes.items
mine_is c =
    c.move_front.ensures.to
    ∙ ap (λ (xs : List NodeState). xs ++ take c.min-owned.result c.loop-number.nodes.items)
    (has_room (net_of_parts c.args.parts) (length c.args.allotments.items) c.loop-number.number
    c.loop-number.nodes.items c.loop-number.allotments.items c.loop-number.workers.items c.requires.sound
    c.args.parts.few c.requires.some.0 c.loop-number.invariant.shared
    c.remove-allotment.result (there c) c.remove-allotment.ensures.value)

pub new-requires-clause-share : goal.new-requires-clause-share
new-requires-clause-share c =
    let s = c.remove-allotment.result in
    subst (λ (m : ℕ). IsShare
    (share_with c.loop-number.number m c.loop-number.first (length c.move_front.new.to.items)
    (net_of_parts s.opened.value) (ins_view s.ins.items) (outs_view s.outs.items))) (sym (count_is c))
    (is_share (net_of_parts c.args.parts) (length c.args.allotments.items) c.loop-number.number
    c.loop-number.nodes.items c.loop-number.allotments.items c.loop-number.workers.items c.requires.sound
    c.args.parts.few c.requires.some.0 c.loop-number.invariant.shared
    s (there c) c.remove-allotment.ensures.value c.loop-number.first c.min-owned.result c.loop-number.invariant.first
    (owned_is c) c.move_front.new.to.items (mine_is c))

pub new-requires-clause-kept : goal.new-requires-clause-kept
new-requires-clause-kept c =
    let s = c.remove-allotment.result in
    subst (λ (m : ℕ). Kept
    (share_with c.loop-number.number m c.loop-number.first (length c.move_front.new.to.items)
    (net_of_parts s.opened.value) (ins_view s.ins.items) (outs_view s.outs.items)) c.move_front.new.to.items 0
    (ins_view s.ins.items) (outs_view s.outs.items) [] []) (sym (count_is c))
    (is_kept (net_of_parts c.args.parts) (length c.args.allotments.items) c.loop-number.number c.loop-number.nodes.items
    c.loop-number.allotments.items c.loop-number.workers.items c.requires.sound c.args.parts.few c.requires.some.0
    c.loop-number.invariant.shared
    s (there c) c.remove-allotment.ensures.value c.loop-number.first c.min-owned.result c.loop-number.invariant.first
    (owned_is c) c.move_front.new.to.items (mine_is c))

pub loop-number-preserved : goal.loop-number-preserved
loop-number-preserved c =
    let net = net_of_parts c.args.parts in
    let ct = length c.args.allotments.items in
    let k = c.loop-number.number in
    let s = c.remove-allotment.result in
    let b = c.before.before in
    let count = count_is b in
    let w = c.new.result in
    let more = one_more net ct k c.loop-number.nodes.items c.loop-number.allotments.items c.loop-number.workers.items
    c.requires.sound c.args.parts.few c.requires.some.0 c.loop-number.invariant.shared
    s (there b) c.remove-allotment.ensures.value c.loop-number.first c.min-owned.result c.loop-number.invariant.first
    (owned_is b) c.move_front.new.to.items (mine_is b) w
    (ap (λ (v : View). v.share) c.new.ensures
    ∙ ap (λ (m : ℕ). share_with k m c.loop-number.first (length c.move_front.new.to.items)
    (net_of_parts s.opened.value) (ins_view s.ins.items) (outs_view s.outs.items)) count)
    (ap (λ (v : View). v.nodes) c.new.ensures) (ap (λ (v : View). v.events) c.new.ensures)
    (ap (λ (v : View). v.told) c.new.ensures) in
    record {
      shared =
          subst (λ (ws : List View). AreSharedOut net ct (k + 1) c.move_front.new.from.items
          c.remove-allotment.new.self.items ws) (sym c.push_reserved.ensures.items)
          (subst (λ (ss : List Allotment). AreSharedOut net ct (k + 1) c.move_front.new.from.items ss
          (c.loop-number.workers.items ++ w ∷ [])) (sym (c.remove-allotment.ensures.by_index.2))
          (subst (λ (ns : List NodeState). AreSharedOut net ct (k + 1) ns (drop 1 c.loop-number.allotments.items)
          (c.loop-number.workers.items ++ w ∷ [])) (sym c.move_front.ensures.from) more));
      first = omega (
        arith,
        c.loop-number.invariant.first,
        owned_is b,
        first_more (length c.args.parts.nodes.items) ct k,
      );
      allotments =
          omega (
            arith,
            c.loop-number.invariant.allotments,
            c.remove-allotment.ensures.len,
            c.remove-allotment.new.self.ok.0,
            c.loop-number.allotments.ok.0,
          );
      workers = omega (arith, c.loop-number.invariant.workers, c.push_reserved.ensures.len);
      capacity = omega (arith, c.loop-number.invariant.capacity, c.push_reserved.ensures.capacity);
    }

pub returns : goal.returns
returns c =
    let last : c.loop-number.number ≡ length c.args.allotments.items =
    omega (
      arith,
      c.loop-number-test.false,
      c.len-count.ensures,
      c.args.allotments.ok.0,
      c.loop-number.invariant.allotments,
    ) in
    all_shared (net_of_parts c.args.parts) (length c.args.allotments.items) c.loop-number.nodes.items
    c.loop-number.allotments.items c.loop-number.workers.items c.requires.sound c.args.parts.few c.requires.some.0
    c.requires.some.1
    (subst (λ (m : ℕ). AreSharedOut (net_of_parts c.args.parts) (length c.args.allotments.items) m
    c.loop-number.nodes.items c.loop-number.allotments.items c.loop-number.workers.items) last
    c.loop-number.invariant.shared)
