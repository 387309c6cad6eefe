-- The shares of all workers of an opening.
use Rattle.std.proofs.Common.{◌≡◌, ◌≢◌, ℕ, zero, suc, ◌+◌, ◌-◌, ◌<◌, ◌≤◌, refl, sym, ap, ◌∙◌, arith, List, [], ◌∷◌}
use Rattle.std.proofs.Common.{◌++◌, length, map, Option, Some}
use Rattle.std.specs.Prelude.{All, min, slice_get, option_map}
use Rattle.std.proofs.lemmas.List.{length-map, map-append}
use Rattle.std.proofs.lemmas.List.Elements.{All-nil, All-head, All-tail, All-append, All-cons, All-map, All-weaker}
use Rattle.std.proofs.lemmas.Option.{same_Some, slice_get-map, slice_get_within}
use Rattle.tplan.specs.declared.plan.End.{End}
use Rattle.tplan.specs.Wires.{far_end}
use Rattle.tnet.specs.Net.{NetState}
use Rattle.tnet.specs.Sound.{IsSound}
use Rattle.tfree.specs.Views.{InView, OutView, Share}
use Rattle.tfree.specs.Slots.{slot_at}
use Rattle.tfree.specs.Kept.{IsMine}
use Rattle.tnet.specs.Sharing.{share}
use Rattle.tfree.specs.Shares.{first_nodes}
use Rattle.tfree.specs.Rings.{AreRings}
use Rattle.tfree.specs.Opened.{first_of, owned_of, IsShareOf, AreShares, AreApart, AreOf}
use Rattle.tfree.specs.Allotments.{share_at}
use Rattle.tfree.proofs.FreshWorkers.{in_id_at, out_id_at}
use Rattle.tfree.proofs.BroughtLogs.{number_here}
use Rattle.tfree.proofs.NodeOwners.{first-length, first-below}
use Rattle.tfree.proofs.Portions.{next_first}

module _ (opened : NetState) (count : ℕ) (ins : List (List (Option InView))) (outs : List (List (Option OutView)))
    (sound : IsSound opened) (few : length opened.nodes ≤ 64) (some : 0 < count) (r : AreRings opened ins outs) where
  abbrev n : ℕ
  n = length opened.nodes

  abbrev at : ℕ → Share
  at k = share_at opened count ins outs k

  abbrev shares : List Share
  shares = map at (first_nodes count)

  pub ends_at : (k : ℕ) → first_of n count k + owned_of n count k ≡ first_of n count (k + 1)
  ends_at k = let e : first_of n count (k + 1) ≡ first_of n count k + min (share n count) (n - first_of n count k) =
      next_first n count k in omega (arith, e)

  pub within : (k : ℕ) → first_of n count k + owned_of n count k ≤ n
  within k = omega (arith, ends_at k)

  shares_length : length shares ≡ count
  shares_length = length-map (first_nodes count) at ∙ first-length count

  is_share : (k : ℕ) (s : Share) → slice_get shares k ≡ Some s → s ≡ at k
  is_share k s h =
      let b : k < count = omega (arith, slice_get_within shares k s h, shares_length) in
      same_Some s (at k) (sym h ∙ slice_get-map at (first_nodes count) k ∙ ap (option_map at) (number_here count k b))

  is_of : (k : ℕ) (s : Share) → slice_get shares k ≡ Some s → IsShareOf opened (length shares) k s
  is_of k s h = rw (is_share k s h) (record {
    number = refl;
    all = sym shares_length;
    net = refl;
    first = ap (λ (c : ℕ). first_of n c k) (sym shares_length);
    last = ends_at k ∙ ap (λ (c : ℕ). first_of n c (k + 1)) (sym shares_length);
  })

  -- the ends of a ring that two workers share
  one_ring : (e f : End) (k m : ℕ) → far_end opened.wires e ≡ Some f → IsMine (at k) e.node → IsMine (at m) f.node
      → slot_at (at k).ins (e.node - (at k).first) e.link ≡ slot_at (at m).outs (f.node - (at m).first) f.link
  one_ring e f k m wire mine yours =
      let back : far_end opened.wires f ≡ Some e = sound.wires.back e f wire in
      let i : ℕ = e.node - first_of n count k in
      let j : ℕ = f.node - first_of n count m in
      let there : first_of n count k + i ≡ e.node = omega (arith, mine.0) in
      let here : first_of n count m + j ≡ f.node = omega (arith, yours.0) in
      in_id_at k count (first_of n count k) (owned_of n count k) opened ins outs sound few (within k) r i e.link
      (omega (arith, mine.0, mine.1))
      ∙ rw there (r.pairs f e back
      ∙ sym (out_id_at m count (first_of n count m) (owned_of n count m) opened ins outs sound few (within m) r j f.link
      (omega (arith, yours.0, yours.1)) ∙ rw here refl))

  pub are_shares : count ≤ 64 → AreShares opened shares
  are_shares many =
      record {
        each = is_of;
        some = omega (arith, some, shares_length);
        few = omega (arith, many, shares_length);
        few_nodes = few;
        rings = λ e f k m s t wire hs mine ht yours.
            let a : s ≡ at k = is_share k s hs in
            let b : t ≡ at m = is_share m t ht in
            rw (a, b) (one_ring e f k m wire (rw a at mine) (rw b at yours));
      }

  abbrev number_of : Share → ℕ
  number_of s = s.number

  apart_more : (xs : List ℕ) (x : ℕ) → All (λ y. y < x) xs → AreApart xs → AreApart (xs ++ x ∷ [])
  apart_more [] x b h = (All-nil (λ y. y ≢ x), tt)
  apart_more (z ∷ zs) x b h = (
    All-append (λ y. y ≢ z) zs (x ∷ []) h.0
        (All-cons (λ y. y ≢ z) x [] (λ e. let c : z < x = All-head (λ y. y < x) z zs b in omega (arith, e, c))
        (All-nil (λ y. y ≢ z))),
    apart_more zs x (All-tail (λ y. y < x) z zs b) h.1,
  )

  apart : (m : ℕ) → AreApart (map number_of (map at (first_nodes m)))
  apart zero = tt
  apart (suc m) =
      let e : map number_of (map at (first_nodes m ++ m ∷ [])) ≡ map number_of (map at (first_nodes m)) ++ m ∷ [] =
      ap (map number_of) (map-append at (first_nodes m) (m ∷ []))
      ∙ map-append number_of (map at (first_nodes m)) (at m ∷ []) in
      rw e (apart_more (map number_of (map at (first_nodes m))) m
      (All-map (λ y. y < m) number_of (map at (first_nodes m))
      (All-map (λ s. s.number < m) at (first_nodes m) (first-below m))) (apart m))

  -- so they are those of one opening
  pub one_opening : count ≤ 64 → AreOf opened shares shares
  one_opening many =
      record {
        opening = are_shares many;
        each = All-map (λ s. slice_get shares s.number ≡ Some s) at (first_nodes count)
            (All-weaker (λ k. k < count) (λ k. slice_get shares k ≡ Some (at k))
            (λ k b. slice_get-map at (first_nodes count) k ∙ ap (option_map at) (number_here count k b))
            (first_nodes count) (first-below count));
        apart = apart count;
      }
