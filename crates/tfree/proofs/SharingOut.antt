-- One worker more gets its allotment and its nodes.
use Rattle.std.proofs.Common.{◌≡◌, ℕ, suc, ◌+◌, ◌-◌, ◌<◌, ◌≤◌, refl, sym, ap, ◌∙◌, subst, arith, List, [], ◌∷◌, ◌++◌}
use Rattle.std.proofs.Common.{length, length-drop, map, get_or, take, drop, Option}
use Rattle.std.specs.Prelude.{min}
use Rattle.std.proofs.lemmas.List.{length-map, map-append, drop-drop}
use Rattle.std.proofs.lemmas.List.Elements.{All-push}
use Rattle.tlink.specs.Node.{NodeState}
use Rattle.tnet.specs.Net.{NetState}
use Rattle.tnet.specs.NetParts.{net_of_parts}
use Rattle.tnet.specs.Sound.{IsSound}
use Rattle.tfree.specs.declared.allotments.Allotment.{Allotment}
use Rattle.tfree.specs.Ends.{ins_view, outs_view}
use Rattle.tfree.specs.Views.{InView, OutView, Share, View}
use Rattle.tfree.specs.Kept.{IsShare, Kept, share_with}
use Rattle.tnet.specs.Sharing.{share}
use Rattle.tfree.specs.Shares.{first_nodes}
use Rattle.tfree.specs.Rings.{portion_of}
use Rattle.tfree.specs.Opened.{first_of, owned_of, share_of, HasDoneNothing, IsOpened}
use Rattle.tfree.specs.Allotments.{share_at, IsAllotment, AreAllotments, AreSharedOut}
use Rattle.tfree.proofs.FreshWorkers.{part_length, fresh_share, fresh_kept}
use Rattle.tfree.proofs.NodeOwners.{first-length}
use Rattle.tfree.proofs.Portions.{owned_is}
use Rattle.tfree.proofs.SharedRings.{within, ends_at, one_opening}

-- the allotment in front, and those behind it
front_allotment : (opened : NetState) (count : ℕ) (ins : List (List (Option InView)))
    (outs : List (List (Option OutView))) (k : ℕ)
    (allotments : List Allotment) (s : Allotment) → AreAllotments opened count ins outs k allotments
    → 0 < length allotments → s ≡ get_or allotments 0 s
    → IsAllotment opened count ins outs k s × AreAllotments opened count ins outs (k + 1) (drop 1 allotments)
front_allotment opened count ins outs k [] s h b e = absurd (omega (arith, b))
front_allotment opened count ins outs k (x ∷ xs) s h b e =
    (rw e h.0, let n : suc k ≡ k + 1 = omega arith in subst (λ (j : ℕ). AreAllotments opened count ins outs j xs) n h.1)

-- one allotment more
pub allotments_more : (opened : NetState) (count : ℕ) (ins : List (List (Option InView)))
    (outs : List (List (Option OutView)))
    (k j : ℕ) (allotments : List Allotment) (s : Allotment) → AreAllotments opened count ins outs k allotments
    → j ≡ k + length allotments
    → IsAllotment opened count ins outs j s → AreAllotments opened count ins outs k (allotments ++ s ∷ [])
allotments_more opened count ins outs k j [] s h e is = let n : j ≡ k = omega (arith, e) in
    (subst (λ (m : ℕ). IsAllotment opened count ins outs m s) n is, tt)
allotments_more opened count ins outs k j (x ∷ xs) s h e is =
    (h.0, allotments_more opened count ins outs (suc k) j xs s h.1 (omega (arith, e)) is)

-- behind the last one
pub all_shared : (opened : NetState) (count : ℕ) (nodes : List NodeState) (allotments : List Allotment) (ws : List View)
    → IsSound opened → length opened.nodes ≤ 64 → 0 < count → count ≤ 64
    → AreSharedOut opened count count nodes allotments ws → IsOpened opened count ws
all_shared opened count nodes allotments ws sound few some many h =
    record {
      all = sym (length-map ws share_of) ∙ ap length h.shares
          ∙ length-map (first_nodes count) (share_at opened count h.ins h.outs) ∙ first-length count;
      one = rw h.shares (one_opening opened count h.ins h.outs sound few some h.rings many);
      fresh = h.fresh;
    }

module _ (opened : NetState) (count k : ℕ) (nodes : List NodeState) (allotments : List Allotment) (ws : List View)
    (sound : IsSound opened) (few : length opened.nodes ≤ 64) (some : 0 < count)
    (sh : AreSharedOut opened count k nodes allotments ws) (s : Allotment) (there : 0 < length allotments)
    (is : s ≡ get_or allotments 0 s) where
  abbrev n : ℕ
  n = length opened.nodes

  allotment : IsAllotment opened count sh.ins sh.outs k s
  allotment = (front_allotment opened count sh.ins sh.outs k allotments s sh.allotments_left there is).0

  pub nodes_length : length nodes ≡ n - first_of n count k
  nodes_length = ap length sh.nodes_left ∙ length-drop (first_of n count k) opened.nodes

  -- how many nodes it gets
  pub owned_here : min (share n count) (length nodes) ≡ owned_of n count k
  owned_here = ap (min (share n count)) nodes_length ∙ owned_is n count k

  pub has_room : s.nodes.items ≡ []
  has_room = allotment.empty

  module _ (first owned : ℕ) (first_is : first ≡ first_of n count k) (owned_is_it : owned ≡ owned_of n count k)
      (mine : List NodeState) (mine_is : mine ≡ [] ++ take owned nodes) where
    mine_part : mine ≡ portion_of (first_of n count k) (owned_of n count k) opened.nodes
    mine_part = mine_is ∙ ap (λ (m : ℕ). take m nodes) owned_is_it ∙ ap (take (owned_of n count k)) sh.nodes_left

    mine_length : length mine ≡ owned_of n count k
    mine_length = ap length mine_part
        ∙ part_length (first_of n count k) (owned_of n count k) opened.nodes
        (within opened count sh.ins sh.outs sound few some sh.rings k)

    abbrev given : Share
    given = share_with k count first (length mine) (net_of_parts s.opened.value) (ins_view s.ins.items)
        (outs_view s.outs.items)

    share_is : given ≡ share_at opened count sh.ins sh.outs k
    share_is = rw (first_is, mine_length, allotment.opened_is, allotment.ins_are, allotment.outs_are) refl

    pub is_share : IsShare given
    is_share =
        subst IsShare (sym share_is)
        (fresh_share k count (first_of n count k) (owned_of n count k) opened sh.ins sh.outs sound few
        (within opened count sh.ins sh.outs sound few some sh.rings k) sh.rings)

    pub is_kept : Kept given mine 0 (ins_view s.ins.items) (outs_view s.outs.items) [] []
    is_kept =
        subst (λ (t : Share). Kept t mine 0 (ins_view s.ins.items) (outs_view s.outs.items) [] []) (sym share_is)
        (rw (allotment.ins_are, allotment.outs_are)
        (fresh_kept k count (first_of n count k) (owned_of n count k) opened sh.ins sh.outs sound few
        (within opened count sh.ins sh.outs sound few some sh.rings k) sh.rings mine mine_part))

    -- the worker stands behind those before it
    pub one_more : (w : View) → w.share ≡ given → w.nodes ≡ mine → w.events ≡ [] → w.told ≡ []
        → AreSharedOut opened count (k + 1) (drop owned nodes) (drop 1 allotments) (ws ++ w ∷ [])
    one_more w a b c d =
        let here : w.share ≡ share_at opened count sh.ins sh.outs k = a ∙ share_is in
        record {
          ins = sh.ins;
          outs = sh.outs;
          rings = sh.rings;
          nodes_left = ap (λ (m : ℕ). drop m nodes) owned_is_it ∙ ap (drop (owned_of n count k)) sh.nodes_left
              ∙ drop-drop (owned_of n count k) (first_of n count k) opened.nodes
              ∙ ap (λ (m : ℕ). drop m opened.nodes) (ends_at opened count sh.ins sh.outs sound few some sh.rings k);
          allotments_left = (front_allotment opened count sh.ins sh.outs k allotments s sh.allotments_left there is).1;
          shares = map-append share_of ws (w ∷ []) ∙ rw (sh.shares, here) (more k);
          fresh = All-push HasDoneNothing ws w sh.fresh
              (record { nodes = rw (here, b) mine_part; events = c; told = d });
        }
      where
        more : (j : ℕ) → map (share_at opened count sh.ins sh.outs) (first_nodes j)
            ++ share_at opened count sh.ins sh.outs j ∷ []
            ≡ map (share_at opened count sh.ins sh.outs) (first_nodes (j + 1))
        more j =
            let e : suc j ≡ j + 1 = omega arith in
            subst (λ (m : ℕ). map (share_at opened count sh.ins sh.outs) (first_nodes j)
            ++ share_at opened count sh.ins sh.outs j ∷ []
            ≡ map (share_at opened count sh.ins sh.outs) (first_nodes m)) e
            (sym (map-append (share_at opened count sh.ins sh.outs) (first_nodes j) (j ∷ [])))
