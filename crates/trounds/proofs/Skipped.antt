-- Loops over the nodes that may have something to do: each node that is passed over rests, and what holds so far holds
-- behind it too.
use Rattle.std.proofs.Common.{◌≡◌, ◌≢◌, ℕ, zero, suc, ◌+◌, ◌<◌, ◌≤◌, refl, sym, ap, ◌∙◌, subst, List, [], ◌∷◌, ◌++◌}
use Rattle.std.proofs.Common.{length, get_or, set, map, take, drop, true, false, Bool, ◌⊎◌, inl, inr, arith, length-set}
use Rattle.std.proofs.Common.{length-drop}
use Rattle.std.specs.Int.{bit_at}
use Rattle.std.specs.List.{flat_map, list_all}
use Rattle.std.proofs.lemmas.Bool.{cases_eq, cases_lt}
use Rattle.std.proofs.lemmas.List.{length-take, get_or-take, get_or-drop}
use Rattle.std.proofs.lemmas.List.{take_all, get_or_default, nil_from_length, length-map, drop-drop, append-nil}
use Rattle.std.proofs.lemmas.List.{get_or-set_same, get_or-set_other, set-get_or}
use Rattle.trounds.specs.declared.awake.Awake.{Awake}
use Rattle.trounds.specs.declared.round_node.RoundNode.{RoundNode}
use Rattle.trounds.specs.declared.rule.RoundRule.{RoundRule}
use Rattle.trounds.specs.Parts.{fresh, is_station_quiet}
use Rattle.trounds.specs.RoundNodes.{station_of, stations_of, part_so_far, parts_so_far, part_by, parts_by, IsReady}
use Rattle.trounds.specs.RoundNodes.{told_of}
use Rattle.trounds.specs.AwakeNodes.{IsLeft, RestOutside, RestOutsideBoth, SilentOutside}
use Rattle.trounds.specs.Rows.{in_rows}
use Rattle.trounds.proofs.PartLists.{same_at, one_more}
use Rattle.trounds.proofs.PartLoops.{quiet_more, flat_more, same_told_at}
use Rattle.trounds.proofs.PartRests.{rests_in_round}

-- a fact of each of the first round nodes
abbrev pub AllBefore : (RoundNode → Type 0) → ℕ → List RoundNode → Type 0
AllBefore P k vs = (i : ℕ) (d : RoundNode) → i < k → i < length vs → P (get_or vs i d)

-- those of the first round nodes that are not in a set rest
abbrev pub RestBefore : ℕ → Awake → List RoundNode → Type 0
RestBefore k awake vs = (i : ℕ) (d : RoundNode) → i < k → i < length vs → bit_at awake.nodes i ≡ 0
    → (get_or vs i d).rests ≡ true

-- no node from one up to another is in a set
abbrev pub NoneFrom : ℕ → ℕ → Awake → Type 0
NoneFrom k j awake = (n : ℕ) → k ≤ n → n < j → bit_at awake.nodes n ≡ 0

-- before the first node of a set, and from behind one of them up to the next one, there is none
pub none_first : (awake : Awake) (place : ℕ) → IsLeft awake awake place → NoneFrom 0 place awake
none_first awake place left n from below = left.passed n below

pub none_between : (awake left : Awake) (k j : ℕ) → IsLeft awake left k
    → ((n : ℕ) → k < n → n < j → bit_at left.nodes n ≡ 0) → NoneFrom (k + 1) j awake
none_between awake left k j at between n from below =
    sym (at.same n (omega arith)) ∙ between n (omega arith) below

-- what each step carries on, from one number up to another
over : (P : ℕ → Type 0) (k j : ℕ) → k ≤ j → ((n : ℕ) → k ≤ n → n < j → P n → P (n + 1)) → P k → P j
over P k zero le step h = let e : k ≡ 0 = omega arith in subst P e h
over P k (suc j) le step h =
    by (cases_eq k (suc j)) (λ lt. over P k j lt (λ n from below. step n from (omega arith)) h)
  where
    by : (k ≡ suc j) ⊎ (k ≢ suc j) → (k ≤ j → P j) → P (suc j)
    by (inl e) before = subst P e h
    by (inr ne) before =
        let e : j + 1 ≡ suc j = omega arith in
        subst P e (step j (omega arith) (omega arith) (before (omega arith)))

-- what a node that rests has sent, done and told
pub rests_unsent : (r : RoundNode) → r.rests ≡ true → r.outbox.items ≡ []
rests_unsent r h = nil_from_length r.outbox.items (omega (arith, r.outbox.ok, r.no_outbox h))

pub rests_undone : (r : RoundNode) → r.rests ≡ true → in_rows r.events.items ≡ []
rests_undone r h = ap in_rows (nil_from_length r.events.items (omega (arith, r.events.ok, r.no_events h)))

pub rests_untold : (r : RoundNode) → r.rests ≡ true → r.notes.items ≡ []
rests_untold r h = nil_from_length r.notes.items (omega (arith, r.notes.ok, r.no_notes h))

rests_fresh : (r : RoundNode) → r.rests ≡ true → part_so_far r ≡ fresh (station_of r)
rests_fresh r h = λ i. record {
  station = station_of r;
  outbox = rests_unsent r h i;
  events = rests_undone r h i;
  notes = rests_untold r h i;
}

rests_ready : (r : RoundNode) → r.rests ≡ true → IsReady r
rests_ready r h = record {
  room = λ b. let z : true ≡ false = sym h ∙ b in cc;
  bytes = λ b. let z : true ≡ false = sym h ∙ b in cc;
  is_fresh = rests_fresh r h;
}

rests_through : (rule : RoundRule) (r : RoundNode) → r.rests ≡ true → part_so_far r ≡ part_by rule (station_of r)
rests_through rule r h =
    rests_fresh r h
    ∙ sym (rests_in_round rule.holds.now rule.slice rule.round (station_of r) (r.no_event h))

-- some round node of a list
some_of : (vs : List RoundNode) (n : ℕ) → n < length vs → RoundNode
some_of [] n lt = absurd (omega arith)
some_of (v ∷ vs) n lt = v

-- behind the end of a list there is no more of it
past_end : {A : Type 0} (xs : List A) (n : ℕ) → length xs ≤ n → take (n + 1) xs ≡ take n xs
past_end xs n le = take_all (n + 1) xs (omega arith) ∙ sym (take_all n xs le)

next_left : {A : Type 0} (xs ys : List A) (n : ℕ) → drop n xs ≡ drop n ys → drop (n + 1) xs ≡ drop (n + 1) ys
next_left xs ys n e = sym (drop-drop 1 n xs) ∙ (ap (drop 1) e ∙ drop-drop 1 n ys)

-- a round node is written whose place is in a set
pub rest_kept : (awake : Awake) (vs : List RoundNode) (k : ℕ) (v : RoundNode) → bit_at awake.nodes k ≡ 1
    → RestOutside awake vs → RestOutside awake (set vs k v)
rest_kept awake vs k v here rest = record { rest = λ n d lt clear. by n d lt clear (cases_eq n k) }
  where
    by : (n : ℕ) (d : RoundNode) → n < length (set vs k v) → bit_at awake.nodes n ≡ 0 → (n ≡ k) ⊎ (n ≢ k)
        → (get_or (set vs k v) n d).rests ≡ true
    by n d lt clear (inl e) = absurd (omega (arith, sym clear ∙ (ap (bit_at awake.nodes) e ∙ here)))
    by n d lt clear (inr ne) =
        ap (λ (r : RoundNode). r.rests) (get_or-set_other vs k n v d ne)
        ∙ rest.rest n d (omega (arith, lt, length-set vs k v)) clear

-- a round node is written whose place is put into one of two sets
pub rest_put : (others awake awake' : Awake) (vs : List RoundNode) (k : ℕ) (v : RoundNode) → bit_at awake'.nodes k ≡ 1
    → ((n : ℕ) → n ≢ k → bit_at awake'.nodes n ≡ bit_at awake.nodes n) → RestOutsideBoth others awake vs
    → RestOutsideBoth others awake' (set vs k v)
rest_put others awake awake' vs k v here same rest =
    record { rest = λ n d lt clear none. by n d lt clear none (cases_eq n k) }
  where
    by : (n : ℕ) (d : RoundNode) → n < length (set vs k v) → bit_at others.nodes n ≡ 0 → bit_at awake'.nodes n ≡ 0
        → (n ≡ k) ⊎ (n ≢ k) → (get_or (set vs k v) n d).rests ≡ true
    by n d lt clear none (inl e) = absurd (omega (arith, sym none ∙ (ap (bit_at awake'.nodes) e ∙ here)))
    by n d lt clear none (inr ne) =
        ap (λ (r : RoundNode). r.rests) (get_or-set_other vs k n v d ne)
        ∙ rest.rest n d (omega (arith, lt, length-set vs k v)) clear (sym (same n ne) ∙ none)

-- outside more sets there are fewer nodes
pub rest_outside_more : (awake more : Awake) (vs : List RoundNode) → RestOutside awake vs
    → RestOutsideBoth awake more vs
rest_outside_more awake more vs rest = record { rest = λ n d lt clear none. rest.rest n d lt clear }

-- the nodes that rest among the first ones of a list, and among those behind them
pub rest_front : (awake : Awake) (share front : List RoundNode) (k : ℕ) → front ≡ take k share
    → RestOutside awake share → RestOutside awake front
rest_front awake share front k is rest = subst (RestOutside awake) (sym is) (record {
  rest = λ n d lt clear.
      let within : n < k = omega (arith, lt, length-take k share) in
      ap (λ (r : RoundNode). r.rests) (get_or-take k share n d within)
      ∙ rest.rest n d (omega (arith, lt, length-take k share)) clear;
})

pub rest_back : (awake behind : Awake) (k : ℕ) → ((n : ℕ) → bit_at behind.nodes n ≡ bit_at awake.nodes (k + n))
    → (share back : List RoundNode) → back ≡ drop k share → RestOutside awake share → RestOutside behind back
rest_back awake behind k same share back is rest = subst (RestOutside behind) (sym is) (record {
  rest = λ n d lt clear.
      ap (λ (r : RoundNode). r.rests) (get_or-drop k share n d)
      ∙ rest.rest (k + n) d (omega (arith, lt, length-drop k share)) (sym (same n) ∙ clear);
})

-- nodes that rested have told nothing
pub silent_outside : (awake : Awake) (vs ws : List RoundNode) → RestOutside awake vs → length ws ≡ length vs
    → map told_of ws ≡ map told_of vs → SilentOutside awake ws
silent_outside awake vs ws rest len told = record {
  silent = λ n d lt clear.
      same_told_at ws vs n (get_or ws n d) d lt (omega (arith, lt, len)) told (get_or_default ws n d (get_or ws n d) lt)
      ∙ told_none (get_or vs n d) (rest.rest n d (omega (arith, lt, len)) clear);
}
  where
    told_none : (r : RoundNode) → r.rests ≡ true → told_of r ≡ ([], [], [])
    told_none r h = λ i. (rests_unsent r h i, rests_undone r h i, rests_untold r h i)

-- a node that is not in a set was not in it before one was put in
pub not_before : (awake awake' : Awake) (k : ℕ) (rests : Bool) → (rests ≡ false → bit_at awake'.nodes k ≡ 1)
    → (rests ≡ true → bit_at awake'.nodes k ≡ bit_at awake.nodes k)
    → ((n : ℕ) → n ≢ k → bit_at awake'.nodes n ≡ bit_at awake.nodes n) → (n : ℕ) → bit_at awake'.nodes n ≡ 0
    → bit_at awake.nodes n ≡ 0
not_before awake awake' k rests put unless others n none = by (cases_eq n k)
  where
    here : (b : Bool) → rests ≡ b → bit_at awake'.nodes k ≡ 0 → bit_at awake.nodes k ≡ 0
    here true e z = sym (unless e) ∙ z
    here false e z = absurd (omega (arith, sym z ∙ put e))

    by : (n ≡ k) ⊎ (n ≢ k) → bit_at awake.nodes n ≡ 0
    by (inl e) = ap (bit_at awake.nodes) e ∙ here rests refl (sym (ap (bit_at awake'.nodes) e) ∙ none)
    by (inr ne) = sym (others n ne) ∙ none

-- one round node more of which a fact holds
pub all_more : (P : RoundNode → Type 0) (vs : List RoundNode) (k : ℕ) (v : RoundNode) → P v → AllBefore P k vs
    → AllBefore P (k + 1) (set vs k v)
all_more P vs k v here h i d lt within = by (cases_eq i k)
  where
    by : (i ≡ k) ⊎ (i ≢ k) → P (get_or (set vs k v) i d)
    by (inl e) =
        subst P (sym (ap (λ (j : ℕ). get_or (set vs k v) j d) e
        ∙ get_or-set_same vs k v d (omega (arith, within, length-set vs k v, e)))) here
    by (inr ne) =
        subst P (sym (get_or-set_other vs k i v d ne)) (h i d (omega arith) (omega (arith, within, length-set vs k v)))

-- one round node more of which it is known whether it rests
pub rest_more : (kept kept' : Awake) (vs : List RoundNode) (k : ℕ) (v : RoundNode)
    → (v.rests ≡ false → bit_at kept'.nodes k ≡ 1)
    → ((n : ℕ) → n ≢ k → bit_at kept'.nodes n ≡ bit_at kept.nodes n)
    → RestBefore k kept vs → RestBefore (k + 1) kept' (set vs k v)
rest_more kept kept' vs k v here others rest i d lt within clear = by (cases_eq i k)
  where
    here_by : (b : Bool) → v.rests ≡ b → bit_at kept'.nodes k ≡ 0 → v.rests ≡ true
    here_by true e z = e
    here_by false e z = absurd (omega (arith, sym z ∙ here e))

    by : (i ≡ k) ⊎ (i ≢ k) → (get_or (set vs k v) i d).rests ≡ true
    by (inl e) =
        let at : get_or (set vs k v) i d ≡ v =
        ap (λ (j : ℕ). get_or (set vs k v) j d) e
        ∙ get_or-set_same vs k v d (omega (arith, within, length-set vs k v, e)) in
        ap (λ (r : RoundNode). r.rests) at
        ∙ here_by v.rests refl (sym (ap (bit_at kept'.nodes) e) ∙ clear)
    by (inr ne) =
        ap (λ (r : RoundNode). r.rests) (get_or-set_other vs k i v d ne)
        ∙ rest i d (omega arith) (omega (arith, within, length-set vs k v)) (sym (others i ne) ∙ clear)

module _ (awake : Awake) (vs : List RoundNode) (rest : RestOutside awake vs) (k j : ℕ) (le : k ≤ j)
    (none : NoneFrom k j awake) where
  -- nodes that are passed over are quiet
  pub quiet_over : list_all is_station_quiet (take k (stations_of vs)) ≡ true
      → list_all is_station_quiet (take j (stations_of vs)) ≡ true
  quiet_over h =
      over (λ n. list_all is_station_quiet (take n (stations_of vs)) ≡ true) k j le
      (λ n from below so_far. by n (none n from below) so_far (cases_lt n (length vs))) h
    where
      by : (n : ℕ) → bit_at awake.nodes n ≡ 0 → list_all is_station_quiet (take n (stations_of vs)) ≡ true
          → (n < length vs) ⊎ (length vs ≤ n)
          → list_all is_station_quiet (take (n + 1) (stations_of vs)) ≡ true
      by n clear so_far (inl lt) =
          let d : RoundNode = some_of vs n lt in
          quiet_more vs n (get_or vs n d) lt (get_or_default vs n d (get_or vs n d) lt) so_far
          ((get_or vs n d).no_event (rest.rest n d lt clear))
      by n clear so_far (inr past) =
          ap (list_all is_station_quiet) (past_end (stations_of vs) n (omega (arith, past, length-map vs station_of)))
          ∙ so_far

  -- they are ready for a round
  pub ready_over : AllBefore IsReady k vs → AllBefore IsReady j vs
  ready_over h i d below within = by (cases_lt i k)
    where
      by : (i < k) ⊎ (k ≤ i) → IsReady (get_or vs i d)
      by (inl lt) = h i d lt within
      by (inr from) = rests_ready (get_or vs i d) (rest.rest i d within (none i from below))

-- nodes that are passed over add nothing to what all have sent, done or told
pub flat_over : {A : Type 0} (f : RoundNode → List A) (awake : Awake) (vs : List RoundNode)
    → ((n : ℕ) (d : RoundNode) → n < length vs → bit_at awake.nodes n ≡ 0 → f (get_or vs n d) ≡ []) → (k j : ℕ) → k ≤ j
    → NoneFrom k j awake → flat_map f (take j vs) ≡ flat_map f (take k vs)
flat_over f awake vs empty k j le none =
    over (λ n. flat_map f (take n vs) ≡ flat_map f (take k vs)) k j le
    (λ n from below so_far. by n (none n from below) (cases_lt n (length vs)) ∙ so_far) refl
  where
    by : (n : ℕ) → bit_at awake.nodes n ≡ 0 → (n < length vs) ⊎ (length vs ≤ n)
        → flat_map f (take (n + 1) vs) ≡ flat_map f (take n vs)
    by n clear (inl lt) =
        let d : RoundNode = some_of vs n lt in
        flat_more f vs n d lt
        ∙ (ap (λ (ys : List _). flat_map f (take n vs) ++ ys) (empty n d lt clear)
        ∙ append-nil (flat_map f (take n vs)))
    by n clear (inr past) = ap (flat_map f) (past_end vs n past)

-- what is left of a list behind more of it
pub left_over : {A : Type 0} (xs ys : List A) (k j : ℕ) → k ≤ j → drop k xs ≡ drop k ys → drop j xs ≡ drop j ys
left_over xs ys k j le h = over (λ n. drop n xs ≡ drop n ys) k j le (λ n from below e. next_left xs ys n e) h

-- nodes that are passed over rest on, if they were not put into the other set
pub rest_over : (nodes before awake : Awake) (vs ws : List RoundNode) → RestOutsideBoth nodes before vs
    → ((n : ℕ) → bit_at awake.nodes n ≡ 0 → bit_at before.nodes n ≡ 0) → (k j : ℕ) → k ≤ j
    → NoneFrom k j nodes → length ws ≡ length vs → drop k ws ≡ drop k vs → RestBefore k awake ws
    → RestBefore j awake ws
rest_over nodes before awake vs ws rest more k j le none len left h i d below within clear = by (cases_lt i k)
  where
    by : (i < k) ⊎ (k ≤ i) → (get_or ws i d).rests ≡ true
    by (inl lt) = h i d lt within clear
    by (inr from) =
        ap (λ (r : RoundNode). r.rests) (same_at ws vs i d (left_over ws vs k i from left))
        ∙ rest.rest i d (omega (arith, within, len)) (none i from below) (more i clear)

-- nodes that are passed over have their part of a round as it is
pub parts_over : (rule : RoundRule) (awake : Awake) (vs ws : List RoundNode) → RestOutside awake ws → (k j : ℕ) → k ≤ j
    → NoneFrom k j awake → length ws ≡ length vs → drop k ws ≡ drop k vs
    → take k (parts_so_far ws) ≡ parts_by rule (take k (stations_of vs))
    → take j (parts_so_far ws) ≡ parts_by rule (take j (stations_of vs))
parts_over rule awake vs ws rest k j le none len left h =
    over (λ n. take n (parts_so_far ws) ≡ parts_by rule (take n (stations_of vs))) k j le
    (λ n from below so_far.
    by n (none n from below) (left_over ws vs k n from left) so_far (cases_lt n (length ws))) h
  where
    by : (n : ℕ) → bit_at awake.nodes n ≡ 0 → drop n ws ≡ drop n vs
        → take n (parts_so_far ws) ≡ parts_by rule (take n (stations_of vs)) → (n < length ws) ⊎ (length ws ≤ n)
        → take (n + 1) (parts_so_far ws) ≡ parts_by rule (take (n + 1) (stations_of vs))
    by n clear at so_far (inl lt) =
        let d : RoundNode = some_of ws n lt in
        let v : RoundNode = get_or ws n d in
        subst (λ (us : List RoundNode). take (n + 1) (parts_so_far us) ≡ parts_by rule (take (n + 1) (stations_of vs)))
        (set-get_or ws n d)
        (one_more part_so_far station_of (part_by rule) ws vs n d v lt len so_far at
        (rests_through rule v (rest.rest n d lt clear)))
    by n clear at so_far (inr past) =
        past_end (parts_so_far ws) n (omega (arith, past, length-map ws part_so_far))
        ∙ (so_far
        ∙ ap (parts_by rule) (sym (past_end (stations_of vs) n (omega (arith, past, len, length-map vs station_of)))))
