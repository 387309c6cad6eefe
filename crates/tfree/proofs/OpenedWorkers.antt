-- Workers of one opening: all of them, or some, and what they keep.
use Rattle.std.proofs.Common.{◌≡◌, ◌≢◌, ◌∙◌, ℕ, zero, suc, ◌<◌, refl, sym, ap, subst, arith, List, [], ◌∷◌, ◌++◌}
use Rattle.std.proofs.Common.{length, map, get_or, inl, inr}
use Rattle.std.specs.Prelude.{All, Some, slice_get}
use Rattle.std.specs.Option.{IsSome}
use Rattle.std.proofs.lemmas.Bool.{cases_eq}
use Rattle.std.proofs.lemmas.List.{length-map, map-append}
use Rattle.std.proofs.lemmas.List.Elements.{All-cons, All-head, All-tail}
use Rattle.std.proofs.lemmas.Option.{slice_get-get_or}
use Rattle.tplan.specs.declared.event.Event.{Event}
use Rattle.tplan.specs.declared.event.Note.{Note}
use Rattle.tnet.specs.Net.{NetState}
use Rattle.tnet.specs.Notes as notes
use Rattle.tfree.specs.Gather.{AreAllWorkers, OpenedWorkersStay, OneOpeningStays, SomeComeFromOneOpen}
use Rattle.tfree.specs.Opened.{share_of, worker_of, AreApart, AreOf, AreOfOpening, Gathers, IsOpened}
use Rattle.tfree.specs.Views.{Share, View}
use Rattle.tfree.proofs.TakenParts.{counts, get_map, nets}
use Rattle.tfree.proofs.WorkerNumbers.{All-right}
use Rattle.tfree.proofs.WorkersByNumber.{worker_here, worker_later}

-- a worker that is in the list is found
found : (n : ℕ) (ws : List View) (i : ℕ) (w : View) → slice_get ws i ≡ Some w → w.share.number ≡ n
    → IsSome (worker_of n ws)
found n [] i w e is = cc
found n (x ∷ xs) zero w e is = let s : x ≡ w = cc in
    subst IsSome (sym (worker_here n x xs (ap (λ (v : View). v.share.number) s ∙ is))) refl
found n (x ∷ xs) (suc i) w e is = elim (cases_eq x.share.number n) [
  | inl s ↦ subst IsSome (sym (worker_here n x xs s)) refl
  | inr ne ↦ subst IsSome (sym (worker_later n x xs ne)) (found n xs i w e is)
]

module _ (net : NetState) (count : ℕ) (fresh ws : List View) (h : IsOpened net count fresh)
    (same : map share_of ws ≡ map share_of fresh) where
  abbrev shares : List Share
  shares = map share_of fresh

  one : AreOf net shares (map share_of ws)
  one = subst (λ (o : List Share). AreOf net shares o) (sym same) h.one

  abbrev opening : AreOfOpening (length shares) ws
  opening = (net, shares, refl, one)

  as_many : length shares ≡ length ws
  as_many = ap length (sym same) ∙ length-map ws share_of

  there : (j : ℕ) (d : View) → j < length shares → IsSome (worker_of j ws)
  there j d b =
      let w : View = get_or ws j d in
      let at : slice_get ws j ≡ Some w = slice_get-get_or ws j d (omega (arith, b, as_many)) in
      let here : slice_get shares j ≡ Some w.share =
      subst (λ (o : List Share). slice_get o j ≡ Some w.share) same (get_map share_of ws j w at) in
      found j ws j w at (h.one.opening.each j w.share here).number

  whole : AreAllWorkers net ws
  whole = record {
    come = inr (length shares, opening);
    complete = record {
      some = omega (arith, h.one.opening.some, as_many);
      there =
          λ i d b j c. there j d (omega (arith, c, counts (length shares) ws opening i d b));
    };
    from = nets (length shares) ws opening;
  }

pub workers_stay : OpenedWorkersStay
workers_stay net count fresh ws h same = whole net count fresh ws h same

pub opening_stays : OneOpeningStays
opening_stays vs ws (inl none) same = inl (same ∙ none)
opening_stays vs ws (inr (n, (net, o, count, one))) same =
    inr (n, (net, o, count, subst (λ (s : List Share). AreOf net o s) (sym same) one))

-- what holds of each of some, others and the rest holds of some and the rest
all_of_some : {X : Type 0} (P : X → Type 0) (us vs ws : List X) → All P (us ++ (vs ++ ws)) → All P (us ++ ws)
all_of_some P [] vs ws h = All-right P vs ws h
all_of_some P (u ∷ us) vs ws h =
    All-cons P u (us ++ ws) (All-head P u (us ++ (vs ++ ws)) h)
    (all_of_some P us vs ws (All-tail P u (us ++ (vs ++ ws)) h))

-- and no two of them are equal
apart_from : (vs ws : List ℕ) → AreApart (vs ++ ws) → AreApart ws
apart_from [] ws h = h
apart_from (v ∷ vs) ws h = apart_from vs ws h.1

apart_some : (us vs ws : List ℕ) → AreApart (us ++ (vs ++ ws)) → AreApart (us ++ ws)
apart_some [] vs ws h = apart_from vs ws h
apart_some (u ∷ us) vs ws h = (all_of_some (λ y. y ≢ u) us vs ws h.0, apart_some us vs ws h.1)

map_of_three : {X Y : Type 0} (f : X → Y) (us vs ws : List X)
    → map f (us ++ (vs ++ ws)) ≡ map f us ++ (map f vs ++ map f ws)
map_of_three {Y = Y} f us vs ws = map-append f us (vs ++ ws) ∙ ap (λ (l : List Y). map f us ++ l) (map-append f vs ws)

none_of_some : {X : Type 0} (us vs ws : List X) → us ++ (vs ++ ws) ≡ [] → us ++ ws ≡ []
none_of_some [] [] ws e = e
none_of_some [] (v ∷ vs) ws e = cc
none_of_some (u ∷ us) vs ws e = cc

some_shares : (net : NetState) (o us vs ws : List Share) → AreOf net o (us ++ (vs ++ ws)) → AreOf net o (us ++ ws)
some_shares net o us vs ws h =
    let number : Share → ℕ = λ s. s.number in
    record {
      opening = h.opening;
      each = all_of_some (λ s. slice_get o s.number ≡ Some s) us vs ws h.each;
      apart = subst AreApart (sym (map-append number us ws))
          (apart_some (map number us) (map number vs) (map number ws)
          (subst AreApart (map_of_three number us vs ws) h.apart));
    }

pub some_come : SomeComeFromOneOpen
some_come us vs ws (inl none) =
    inl (map-append share_of us ws
    ∙ none_of_some (map share_of us) (map share_of vs) (map share_of ws) (sym (map_of_three share_of us vs ws) ∙ none))
some_come us vs ws (inr (n, (net, o, count, one))) =
    inr (
      n,
      (
        net,
        o,
        count,
        subst (λ (s : List Share). AreOf net o s) (sym (map-append share_of us ws))
            (some_shares net o (map share_of us) (map share_of vs) (map share_of ws)
            (subst (λ (s : List Share). AreOf net o s) (map_of_three share_of us vs ws) one)),
      ),
    )

-- what was gathered of them has the notes of its run, from the net that each was opened with
pub notes_of_run : (ws : List View) (events : List Event) (told : List Note) (net : NetState)
    → Gathers ws events told net → All (λ (w : View). told ≡ notes.notes events w.share.opened) ws
notes_of_run ws events told net (opened, o, one, g) i d b =
    g.notes_told ∙ ap (λ (n : NetState). notes.notes events n) (sym (nets (length o) ws (opened, o, refl, one) i d b))
