-- The nodes of a net, taken out one after another and put back.
use Rattle.std.proofs.Common.{◌≡◌, ℕ, zero, suc, ◌+◌, ◌-◌, ◌<◌, ◌≤◌, refl, sym, ap, ◌∙◌, List, [], ◌∷◌, ◌++◌, length}
use Rattle.std.proofs.Common.{get_or, map, take, drop, reverse, Option, Some, None, ◌⊎◌, inl, inr, arith, All}
use Rattle.std.specs.Prelude.{slice_get, slice_index_or}
use Rattle.std.proofs.lemmas.List.{append-nil, take-take, drop_all, length-take, get_or-take, get_or-reverse, take_more}
use Rattle.std.proofs.lemmas.List.{take_all, length-append, map-append, append_assoc, get_or_past, get_or_at}
use Rattle.std.proofs.lemmas.Bool.{cases_lt}
use Rattle.std.proofs.lemmas.Option.{same_Some}
use Rattle.tlink.specs.Node.{NodeState}
use Rattle.tplan.specs.declared.plan.End.{End}
use Rattle.tplan.specs.declared.plan.Wire.{Wire}
use Rattle.tnet.specs.declared.inbox.Inbox.{Inbox}
use Rattle.trounds.specs.declared.round_node.RoundNode.{RoundNode}
use Rattle.tplan.specs.Wires.{end_at, far_end}
use Rattle.tnet.specs.Sound.{IsEnd}
use Rattle.tnet.specs.FarEnds.{IsRow, row_of}
use Rattle.tnet.proofs.Tables.{link_of_row, nowhere}
use Rattle.trounds.specs.Parts.{Station, net_of, ArePlaced}
use Rattle.trounds.specs.RoundNodes.{station_of, stations_of}

module _ {A : Type 0} where
  -- the last element is removed
  pub last_removed : (r ys zs : List A) (n k i : ℕ) → length r ≡ n → k < n → ys ≡ take (n - k) r → i ≡ n - k - 1
      → zs ≡ take i ys ++ drop (i + 1) ys → zs ≡ take (n - (k + 1)) r
  last_removed r ys zs n k i len below is at removed =
      let l : length ys ≡ n - k = rw is (omega (arith, length-take (n - k) r, len)) in
      let none : drop (i + 1) ys ≡ [] = drop_all (i + 1) ys (omega (arith, l, at)) in
      let m : i ≡ n - (k + 1) = omega (arith, at) in
      removed ∙ (ap (λ (xs : List A). take i ys ++ xs) none
      ∙ (append-nil (take i ys)
      ∙ (ap (take i) is ∙ (take-take i (n - k) r (omega (arith, at)) ∙ ap (λ j. take j r) m))))

  -- and it is the next one of the list that was reversed
  pub last_read : (xs ys : List A) (n k i : ℕ) (x : A) → length xs ≡ n → k < n → ys ≡ take (n - k) (reverse xs)
      → i ≡ n - k - 1 → x ≡ get_or ys i x → x ≡ get_or xs k x
  last_read xs ys n k i x len below is at read =
      let m : length xs - 1 - i ≡ k = omega (arith, at, len) in
      read
      ∙ (ap (λ (zs : List A). get_or zs i x) is
      ∙ (get_or-take (n - k) (reverse xs) i x (omega (arith, at))
      ∙ (get_or-reverse xs i x (omega (arith, at, len)) ∙ ap (λ j. get_or xs j x) m)))

-- a row of four is that of its node
pub row_is : (wires : List Wire) (n : ℕ) (row : List (Option End)) → length row ≡ 4 → IsRow wires n row
    → row ≡ row_of wires n
row_is wires n [] four h = absurd (omega (arith, four))
row_is wires n (a ∷ []) four h = absurd (omega (arith, four))
row_is wires n (a ∷ b ∷ []) four h = absurd (omega (arith, four))
row_is wires n (a ∷ b ∷ c ∷ []) four h = absurd (omega (arith, four))
row_is wires n (a ∷ b ∷ c ∷ d ∷ []) four h =
    let p : a ≡ far_end wires (end_at n 0) = h 0 in
    let q : b ≡ far_end wires (end_at n 1) = h 1 in
    let r : c ≡ far_end wires (end_at n 2) = h 2 in
    let s : d ≡ far_end wires (end_at n 3) = h 3 in
    rw (p, q, r, s) refl
row_is wires n (a ∷ b ∷ c ∷ d ∷ e ∷ row) four h = absurd (omega (arith, four))

-- the stations of nodes from a number on
abbrev pub laid : List Wire → List (List Inbox) → ℕ → List NodeState → List Station
laid wires boxes n [] = []
laid wires boxes n (x ∷ xs) = record { number = n; node = x; inboxes = get_or boxes n []; far = row_of wires n }
    ∷ laid wires boxes (suc n) xs

pub laid-nodes : (wires : List Wire) (boxes : List (List Inbox)) (n : ℕ) (xs : List NodeState)
    → map (λ (s : Station). s.node) (laid wires boxes n xs) ≡ xs
laid-nodes wires boxes n [] = refl
laid-nodes wires boxes n (x ∷ xs) = ap (λ (ys : List NodeState). x ∷ ys) (laid-nodes wires boxes (suc n) xs)

pub laid-length : (wires : List Wire) (boxes : List (List Inbox)) (n : ℕ) (xs : List NodeState)
    → length (laid wires boxes n xs) ≡ length xs
laid-length wires boxes n [] = refl
laid-length wires boxes n (x ∷ xs) = ap suc (laid-length wires boxes (suc n) xs)

-- inboxes from a place on
boxes-from : (wires : List Wire) (pre boxes : List (List Inbox)) (n : ℕ) (xs : List NodeState) → length pre ≡ n
    → length boxes ≡ length xs → map (λ (s : Station). s.inboxes) (laid wires (pre ++ boxes) n xs) ≡ boxes
boxes-from wires pre [] n [] h k = refl
boxes-from wires pre [] n (x ∷ xs) h k = absurd (omega (arith, k))
boxes-from wires pre (b ∷ boxes) n [] h k = absurd (omega (arith, k))
boxes-from wires pre (b ∷ boxes) n (x ∷ xs) h k =
    let here : get_or (pre ++ b ∷ boxes) n [] ≡ b = get_or_at pre b boxes [] n h in
    let rest : map (λ (s : Station). s.inboxes) (laid wires (pre ++ b ∷ boxes) (suc n) xs) ≡ boxes =
    ap (λ (g : List (List Inbox)). map (λ (s : Station). s.inboxes) (laid wires g (suc n) xs))
    (sym (append_assoc pre (b ∷ []) boxes))
    ∙ boxes-from wires (pre ++ b ∷ []) boxes (suc n) xs (omega (arith, length-append pre (b ∷ []), h))
    (omega (arith, k)) in
    rw (here, rest) refl

pub laid-boxes : (wires : List Wire) (boxes : List (List Inbox)) (xs : List NodeState) → length boxes ≡ length xs
    → map (λ (s : Station). s.inboxes) (laid wires boxes 0 xs) ≡ boxes
laid-boxes wires boxes xs h = boxes-from wires [] boxes 0 xs refl h

-- one of them
pub laid_at : (wires : List Wire) (boxes : List (List Inbox)) (n k : ℕ) (xs : List NodeState) (x : NodeState)
    (d : Station) → k < length xs → x ≡ get_or xs k x
    → get_or (laid wires boxes n xs) k d ≡ record {
      number = n + k;
      node = x;
      inboxes = get_or boxes (n + k) [];
      far =
          row_of wires (n + k);
    }
laid_at wires boxes n k [] x d lt is = absurd (omega arith)
laid_at wires boxes n zero (y ∷ xs) x d lt is = let z : n + 0 ≡ n = omega arith in rw (z, ← is) refl
laid_at wires boxes n (suc k) (y ∷ xs) x d lt is = let z : n + suc k ≡ suc n + k = omega arith in
    rw z (laid_at wires boxes (suc n) k xs x d (omega arith) is)

station_there : (wires : List Wire) (boxes : List (List Inbox)) (n k : ℕ) (xs : List NodeState) (s : Station)
    → slice_get (laid wires boxes n xs) k ≡ Some s → (s.number ≡ n + k) × (s.far ≡ row_of wires (n + k))
station_there wires boxes n k [] s h = cc
station_there wires boxes n zero (x ∷ xs) s h =
    let z : n + 0 ≡ n = omega arith in
    let e : ◌≡◌ {A = Station} (record { number = n; node = x; inboxes = get_or boxes n []; far = row_of wires n }) s =
    same_Some _ _ h in
    rw (z, ← e) (refl, refl)
station_there wires boxes n (suc k) (x ∷ xs) s h = let z : n + suc k ≡ suc n + k = omega arith in
    rw z (station_there wires boxes (suc n) k xs s h)

-- a row has the far end of each link, and none beyond
row_far : (nodes : ℕ) (wires : List Wire) (n l : ℕ) → All (λ w. IsEnd nodes w.a × IsEnd nodes w.b) wires
    → slice_index_or (row_of wires n) l None ≡ far_end wires (end_at n l)
row_far nodes wires n l ends = by (cases_lt l 4)
  where
    by : (l < 4) ⊎ (4 ≤ l) → slice_index_or (row_of wires n) l None ≡ far_end wires (end_at n l)
    by (inl h) = link_of_row wires n l h
    by (inr past) = get_or_past (row_of wires n) l None past
        ∙ sym (nowhere nodes wires (end_at n l) ends (λ is. absurd (omega (arith, is.1, past))))

-- they are placed
pub laid-placed : (nodes : ℕ) (wires : List Wire) (boxes : List (List Inbox)) (xs : List NodeState)
    → All (λ w. IsEnd nodes w.a × IsEnd nodes w.b) wires → ArePlaced wires (laid wires boxes 0 xs)
laid-placed nodes wires boxes xs ends = record {
  numbered = λ n s h. (let z : 0 + n ≡ n = omega arith in rw z at ((station_there wires boxes 0 n xs s h).0));
  far = λ n s h l.
      (let z : 0 + n ≡ n = omega arith in
      ap (λ (r : List (Option End)). slice_index_or r l None) ((station_there wires boxes 0 n xs s h).1
      ∙ ap (λ (k : ℕ). row_of wires k) z) ∙ row_far nodes wires n l ends);
}

-- one more station
pub station_more : (wires : List Wire) (boxes : List (List Inbox)) (k : ℕ) (xs : List NodeState) (x : NodeState)
    (s : Station) (ss ss' : List Station) → k < length xs → x ≡ get_or xs k x → ss ≡ take k (laid wires boxes 0 xs)
    → s ≡ record { number = k; node = x; inboxes = get_or boxes k []; far = row_of wires k } → ss' ≡ ss ++ s ∷ []
    → ss' ≡ take (k + 1) (laid wires boxes 0 xs)
station_more wires boxes k xs x s ss ss' lt is so_far station pushed =
    let z : 0 + k ≡ k = omega arith in
    pushed
    ∙ (ap (λ (ys : List Station). ys ++ s ∷ []) so_far
    ∙ (ap (λ (t : Station). take k (laid wires boxes 0 xs) ++ t ∷ []) (station
    ∙ sym (rw z at (laid_at wires boxes 0 k xs x s lt is)))
    ∙ sym (take_more (laid wires boxes 0 xs) k s (omega (arith, laid-length wires boxes 0 xs, lt)))))

-- one more node or inbox that is put back
pub back_more : {A B : Type 0} (f : A → B) (xs : List A) (k : ℕ) (x : A) (ys zs : List B) → k < length xs
    → x ≡ get_or xs k x → ys ≡ map f (take k xs) → zs ≡ ys ++ f x ∷ [] → zs ≡ map f (take (k + 1) xs)
back_more f xs k x ys zs lt is so_far pushed =
    pushed ∙ (ap (λ (ws : List _). ws ++ f x ∷ []) so_far
    ∙ (ap (λ y. map f (take k xs) ++ f y ∷ []) is
    ∙ (sym (map-append f (take k xs) (get_or xs k x ∷ [])) ∙ ap (map f) (sym (take_more xs k x lt)))))

-- stations of the same node
pub same_station : (n : ℕ) (x : NodeState) (b b' : List Inbox) (f f' : List (Option End)) → b ≡ b' → f ≡ f'
    → ◌≡◌ {A = Station} (record { number = n; node = x; inboxes = b; far = f })
    (record { number = n; node = x; inboxes = b'; far = f' })
same_station n x b b' f f' h k = rw (h, k) refl

-- all nodes are taken out: the stations of the net
pub all_laid : (nodes : ℕ) (wires : List Wire) (boxes : List (List Inbox)) (xs : List NodeState) (k : ℕ)
    (ss : List Station) → All (λ w. IsEnd nodes w.a × IsEnd nodes w.b) wires → length boxes ≡ length xs → length xs ≤ k
    → ss ≡ take k (laid wires boxes 0 xs)
    → (net_of wires ss ≡ record { nodes = xs; wires = wires; inboxes = boxes }) × ArePlaced wires ss
all_laid nodes wires boxes xs k ss ends even all is =
    let e : ss ≡ laid wires boxes 0 xs = is
    ∙ take_all k (laid wires boxes 0 xs) (omega (arith, laid-length wires boxes 0 xs, all)) in
    rw e (rw (laid-nodes wires boxes 0 xs, laid-boxes wires boxes xs even) refl, laid-placed nodes wires boxes xs ends)

-- all nodes are put back
pub all_back : (wires : List Wire) (cs : List RoundNode) (k : ℕ) (ns : List NodeState) (bs : List (List Inbox))
    → length cs ≤ k → ns ≡ map (λ (c : RoundNode). c.node) (take k cs)
    → bs ≡ map (λ (c : RoundNode). c.inboxes) (take k cs)
    → record { nodes = ns; wires = wires; inboxes = bs } ≡ net_of wires (stations_of cs)
all_back wires cs k ns bs all nodes boxes = rw (nodes, boxes, take_all k cs all) (same_net cs)
  where
    over : {B : Type 0} (f : Station → B) (xs : List RoundNode)
        → map (λ (c : RoundNode). f (station_of c)) xs ≡ map f (stations_of xs)
    over f [] = refl
    over f (x ∷ xs) = ap (λ (ys : List _). f (station_of x) ∷ ys) (over f xs)

    same_net : (xs : List RoundNode)
        → record {
          nodes = map (λ (c : RoundNode). c.node) xs;
          wires = wires;
          inboxes =
              map (λ (c : RoundNode). c.inboxes) xs;
        } ≡ net_of wires (stations_of xs)
    same_net xs = rw (over (λ (s : Station). s.node) xs, over (λ (s : Station). s.inboxes) xs) refl
