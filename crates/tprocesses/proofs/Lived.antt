-- What the states before and after a step show of the processes that it begins and ends.
use Rattle.std.proofs.Common.{◌≡◌, ◌≢◌, ℕ, ◌+◌, refl, sym, ap, subst, ◌∙◌, Bool, true, false, true≢false, List, [], ◌∷◌}
use Rattle.std.proofs.Common.{◌++◌, arith, pos, Option, Some, None}
use Rattle.std.specs.Prelude.{◌==◌, ◌&&◌, ◌||◌, if◌then◌else◌}
use Rattle.std.specs.List.{list_any, count_by}
use Rattle.std.proofs.lemmas.Int.{ints}
use Rattle.std.proofs.lemmas.Bool.{eqb-true, eq-eqb}
use Rattle.tplan.specs.declared.plan.Plan.{Plan}
use Rattle.tagents.specs.Agents.{Does}
use Rattle.tagents.specs.Walks.{are_open}
use Rattle.tagents.proofs.Walking.{is_step}
use Rattle.tprocesses.specs.Places.{Place, Name, Standing, Population, same_name, same_place}
use Rattle.tprocesses.specs.Values.{Value, Stand, Rests, Runs, Chosen, Listens, Ended, IsStand, stand_in, amount_in}
use Rattle.tprocesses.specs.Values.{IsAmount}
use Rattle.tprocesses.specs.Changes.{Change, Put, apply}
use Rattle.tprocesses.specs.Parts.{Changed, made}
use Rattle.tprocesses.specs.Standing.{is_absent}
use Rattle.tprocesses.specs.Machine.{Agent, Process, process_machine, is_open}
use Rattle.tprocesses.specs.Opening.{opening_state}
use Rattle.tprocesses.specs.Certified.{ProcessStep, machine_of, adds_process, ends_at, ends_process, begins, ends}
use Rattle.tprocesses.specs.Certified.{opened_processes}
use Rattle.tprocesses.specs.Lives.{stood_or, first_stood, lodger, StepsTellLives}
use Rattle.tprocesses.proofs.Told.{same_name-true, same_name-self}
use Rattle.tprocesses.proofs.Tally.{one_if}
use Rattle.tprocesses.proofs.Living.{State, step_tame, step_makes, step_left, any_counted, none_counted, had_after}
use Rattle.tprocesses.proofs.Living.{HasHad, had_run, had_opening}
use Rattle.tprocesses.proofs.Stood.{Stood, stood_by, all_stood, added_by, all_added, IsPut, AllPut, is_ended, NoneEnded}
use Rattle.tprocesses.proofs.Stood.{AllOwn, Holds, IsSettled, Calm, Begun, Done}
use Rattle.tprocesses.proofs.StepsStood.{steps_are_settled}

-- the first one that was put
abbrev first_name : List Stood → Option Name
first_name [] = None
first_name (x ∷ xs) = Some x.name

first_told : (cs : List Changed) → AllPut cs → first_stood cs ≡ first_name (all_stood cs)
first_told [] h = refl
first_told (x ∷ cs) h = by x.place x.change h.0 (first_told cs h.1)
  where
    by : (q : Place) (c : Change) → IsPut q c → first_stood cs ≡ first_name (all_stood cs)
        → stood_or (first_stood cs) q ≡ first_name (stood_by q c ++ all_stood cs)
    by (Standing y) (Put (IsStand stand)) k rest = refl
    by (Standing y) c k rest = absurd k
    by _ c k rest = rest

-- where a process stands after some were put
abbrev standing : List Stood → Name → Value → Value
standing [] y v = v
standing (x ∷ xs) y v = standing xs y (if same_name x.name y then IsStand x.stand else v)

stands_told : (cs : List Changed) (y : Name) (v : Value) → AllPut cs
    → made cs (Standing y) v ≡ standing (all_stood cs) y v
stands_told [] y v h = refl
stands_told (x ∷ cs) y v h = by x.place x.change h.0 (λ u. stands_told cs y u h.1)
  where
    by : (q : Place) (c : Change) → IsPut q c
        → ((u : Value) → made cs (Standing y) u ≡ standing (all_stood cs) y u)
        → made cs (Standing y) (if same_place q (Standing y) then apply c v else v)
        ≡ standing (stood_by q c ++ all_stood cs) y v
    by (Standing z) (Put (IsStand stand)) k rest = rest (if same_name z y then IsStand stand else v)
    by (Standing z) c k rest = absurd k
    by _ c k rest = rest v

-- where nothing is added no process begins
none_begin : (n : ℕ) (cs : List Changed) → all_added cs ≡ [] → list_any (adds_process n) cs ≡ false
none_begin n [] h = refl
none_begin n (x ∷ cs) h = by x.place h (none_begin n cs)
  where
    by : (q : Place) → added_by q ++ all_added cs ≡ [] → (all_added cs ≡ [] → list_any (adds_process n) cs ≡ false)
        → (same_place q (Population n) || list_any (adds_process n) cs) ≡ false
    by (Population m) k rest = cc
    by _ k rest = rest k

-- which of those that were put end a process of a node
abbrev ends_there : ℕ → Stood → Bool
ends_there n x = is_ended x.stand && (x.name.node == n)

ends_told : (n : ℕ) (cs : List Changed) → list_any (ends_process n) cs ≡ list_any (ends_there n) (all_stood cs)
ends_told n [] = refl
ends_told n (x ∷ cs) = by x.place x.change (ends_told n cs)
  where
    by : (q : Place) (c : Change) → list_any (ends_process n) cs ≡ list_any (ends_there n) (all_stood cs)
        → (ends_at n q c || list_any (ends_process n) cs)
        ≡ list_any (ends_there n) (stood_by q c ++ all_stood cs)
    by (Standing y) (Put (IsStand Ended)) rest = ap (λ z. (y.node == n) || z) rest
    by (Standing y) (Put (IsStand stand)) rest = rest
    by _ c rest = rest

none_end : (n : ℕ) (xs : List Stood) → NoneEnded xs → list_any (ends_there n) xs ≡ false
none_end n [] h = refl
none_end n (x ∷ xs) h = rw h.0 (none_end n xs h.1)

-- one that has not ended has not where none was put that has
not_ended : (xs : List Stood) (y : Name) (v : Value) → NoneEnded xs → is_ended (stand_in v) ≡ false
    → is_ended (stand_in (standing xs y v)) ≡ false
not_ended [] y v h k = k
not_ended (x ∷ xs) y v h k = by (same_name x.name y) (λ u. not_ended xs y u h.1)
  where
    by : (t : Bool) → ((u : Value) → is_ended (stand_in u) ≡ false → is_ended (stand_in (standing xs y u)) ≡ false)
        → is_ended (stand_in (standing xs y (if t then IsStand x.stand else v))) ≡ false
    by true rest = rest (IsStand x.stand) h.0
    by false rest = rest v k

-- one that is not the agent stays where only that was put
own_only : (a : Agent) (xs : List Stood) (y : Name) (v : Value) → AllOwn a xs → a ≢ Process y → standing xs y v ≡ v
own_only a [] y v h k = refl
own_only a (x ∷ xs) y v h k = by (same_name x.name y) refl (λ u. own_only a xs y u h.1 k)
  where
    by : (t : Bool) → same_name x.name y ≡ t → ((u : Value) → standing xs y u ≡ u)
        → standing xs y (if t then IsStand x.stand else v) ≡ v
    by true e rest = absurd (k (h.0 ∙ ap Process (same_name-true x.name y e)))
    by false e rest = rest v

-- a process that has a step is there and has not ended
record IsThere (v : Value) : Type 0 where
  present : is_absent (stand_in v) ≡ false
  lives : is_ended (stand_in v) ≡ false

ready_is_there : (p : Plan) (x : Name) (v : Value) → (is_open p (Process x) (Standing x) v && true) ≡ true → IsThere v
ready_is_there p x (IsStand (Rests c)) h = record { present = refl; lives = refl }
ready_is_there p x (IsStand (Runs c)) h = record { present = refl; lives = refl }
ready_is_there p x (IsStand (Chosen c)) h = record { present = refl; lives = refl }
ready_is_there p x (IsStand (Listens channel c)) h = record { present = refl; lives = refl }
ready_is_there p x _ h = absurd (true≢false (sym h))

has_not_ended : (stand : Stand) → is_ended stand ≡ false → stand ≢ Ended
has_not_ended stand h k = true≢false (sym (ap is_ended k) ∙ h)

module _ (p : Plan) (n : ℕ) (s s' : State) (e : ProcessStep) (does : Does (machine_of p) s e s')
    (goes : (machine_of p).stops e ≡ false) where
  told : Holds (IsSettled e.agent) e.deed.changes
  told = step_left p s s' e (Holds (IsSettled e.agent)) does goes (steps_are_settled p e.agent)

  stands_after : (y : Name) → s' (Standing y) ≡ standing told.stood y (s (Standing y))
  stands_after y =
      sym (step_makes p s s' e does (Standing y)) ∙ stands_told e.deed.changes y (s (Standing y)) told.put
      ∙ ap (λ z. standing z y (s (Standing y))) told.is_stood

  lodger_is : lodger e ≡ first_name told.stood
  lodger_is = first_told e.deed.changes told.put ∙ ap first_name told.is_stood

  ends_are : ends n e ≡ list_any (ends_there n) told.stood
  ends_are = ends_told n e.deed.changes ∙ ap (list_any (ends_there n)) told.is_stood

  no_end : NoneEnded told.stood → ends n e ≡ false
  no_end live = ends_are ∙ none_end n told.stood live

  no_begin : told.added ≡ [] → begins n e ≡ false
  no_begin none = none_begin n e.deed.changes (told.is_added ∙ none)

  is_there : (x : Name) → e.agent ≡ Process x → IsThere (s (Standing x))
  is_there x own =
      ready_is_there p x (s (Standing x))
      (subst (λ a. are_open (process_machine p) a s ≡ true) own (is_step (process_machine p) s s' e does).opened)

  -- the process that begins is the first one
  begun : (y : Name) → begins n e ≡ true → is_absent (stand_in (s (Standing y))) ≡ true
      → is_absent (stand_in (s' (Standing y))) ≡ false → lodger e ≡ Some y
  begun y begin absent present = by told.known
    where
      by : IsSettled e.agent told.stood told.added → lodger e ≡ Some y
      by (Calm c) = absurd (true≢false (sym begin ∙ no_begin c.1))
      by (Done d) = absurd (true≢false (sym begin ∙ no_begin d.none))
      by (Begun b) = either (same_name b.one.name y) refl
        where
          after : s' (Standing y)
              ≡ standing b.others y (if same_name b.one.name y then IsStand b.one.stand else s (Standing y))
          after = stands_after y ∙ ap (λ z. standing z y (s (Standing y))) b.all

          either : (t : Bool) → same_name b.one.name y ≡ t → lodger e ≡ Some y
          either true same = lodger_is ∙ ap first_name b.all ∙ ap Some (same_name-true b.one.name y same)
          either false other =
              let stays : s' (Standing y) ≡ s (Standing y) =
              after ∙ ap (λ t. standing b.others y (if t then IsStand b.one.stand else s (Standing y))) other
              ∙ own_only e.agent b.others y (s (Standing y)) b.own
              (λ own. true≢false (sym absent ∙ (is_there y own).present)) in
              absurd (true≢false (sym absent ∙ sym (ap (λ v. is_absent (stand_in v)) stays) ∙ present))

  -- the process of the agent has ended
  ended_after : (x : Name) → told.stood ≡ record { name = x; stand = Ended } ∷ []
      → stand_in (s' (Standing x)) ≡ Ended
  ended_after x only =
      ap stand_in (stands_after x ∙ ap (λ z. standing z x (s (Standing x))) only
      ∙ ap (λ t. if t then IsStand Ended else s (Standing x)) (same_name-self x))

  ends_where : (x : Name) → told.stood ≡ record { name = x; stand = Ended } ∷ []
      → ends n e ≡ ((x.node == n) || false)
  ends_where x only = ends_are ∙ ap (list_any (ends_there n)) only

  -- the process of the agent has not ended where none was put that has
  own_ended : (x : Name) → e.agent ≡ Process x → NoneEnded told.stood → stand_in (s' (Standing x)) ≢ Ended
  own_ended x own live =
      has_not_ended (stand_in (s' (Standing x)))
      (ap (λ v. is_ended (stand_in v)) (stands_after x)
      ∙ not_ended told.stood x (s (Standing x)) live (is_there x own).lives)

  same_own : (x y : Name) → e.agent ≡ Process x → e.agent ≡ Process y → x ≡ y
  same_own x y h k = cc

  ending : (x : Name) → e.agent ≡ Process x → x.node ≡ n → stand_in (s' (Standing x)) ≡ Ended → ends n e ≡ true
  ending x own here stand = by told.known
    where
      by : IsSettled e.agent told.stood told.added → ends n e ≡ true
      by (Calm c) = absurd (own_ended x own c.0 stand)
      by (Begun b) = absurd (own_ended x own b.live stand)
      by (Done d) =
          let there : d.name.node ≡ n = ap (λ (z : Name). z.node) (same_own d.name x d.own own) ∙ here in
          ends_where d.name d.only ∙ ap (λ t. t || false) (eq-eqb d.name.node n there)

  no_ending : ((x : Name) → e.agent ≡ Process x → x.node ≡ n → stand_in (s' (Standing x)) ≢ Ended)
      → ends n e ≡ false
  no_ending not = by told.known
    where
      by : IsSettled e.agent told.stood told.added → ends n e ≡ false
      by (Calm c) = no_end c.0
      by (Begun b) = no_end b.live
      by (Done d) = either (d.name.node == n) refl
        where
          either : (t : Bool) → (d.name.node == n) ≡ t → ends n e ≡ false
          either true here = absurd (not d.name d.own (eqb-true d.name.node n here) (ended_after d.name d.only))
          either false away = ends_where d.name d.only ∙ ap (λ t. t || false) away

  ended : (x : Name) → e.agent ≡ Process x → ends n e ≡ true → lodger e ≡ Some x
  ended x own end = by told.known
    where
      by : IsSettled e.agent told.stood told.added → lodger e ≡ Some x
      by (Calm c) = absurd (true≢false (sym end ∙ no_end c.0))
      by (Begun b) = absurd (true≢false (sym end ∙ no_end b.live))
      by (Done d) = lodger_is ∙ ap first_name d.only ∙ ap Some (same_own d.name x d.own own)

  one : begins n e ≡ true → ends n e ≡ false
  one begin = by told.known
    where
      by : IsSettled e.agent told.stood told.added → ends n e ≡ false
      by (Calm c) = no_end c.0
      by (Begun b) = no_end b.live
      by (Done d) = absurd (true≢false (sym begin ∙ no_begin d.none))

  -- how many processes the node has had after it
  amount_after : (k : ℕ) → s (Population n) ≡ IsAmount (pos k)
      → amount_in (s' (Population n)) ≡ pos (k + count_by (adds_process n) e.deed.changes)
  amount_after k stands =
      ap amount_in (sym (step_makes p s s' e does (Population n)) ∙ ap (made e.deed.changes (Population n)) stands
      ∙ had_after n e.deed.changes k (step_tame p s s' e does))

  beginning : (k : ℕ) → s (Population n) ≡ IsAmount (pos k)
      → amount_in (s' (Population n)) ≢ amount_in (s (Population n)) → begins n e ≡ true
  beginning k stands other = by (begins n e) refl
    where
      by : (t : Bool) → begins n e ≡ t → t ≡ true
      by true h = refl
      by false h =
          let none = none_counted (adds_process n) e.deed.changes h in
          absurd (other (amount_after k stands ∙ ap pos (omega (arith, none)) ∙ sym (ap amount_in stands)))

  no_beginning : (k : ℕ) → s (Population n) ≡ IsAmount (pos k)
      → amount_in (s' (Population n)) ≡ amount_in (s (Population n)) → begins n e ≡ false
  no_beginning k stands same = by (begins n e) refl
    where
      by : (t : Bool) → begins n e ≡ t → t ≡ false
      by true h =
          let some = any_counted (adds_process n) e.deed.changes in
          let one : one_if (begins n e) ≡ 1 = ap one_if h in
          let still : pos (k + count_by (adds_process n) e.deed.changes) ≡ pos k =
          sym (amount_after k stands) ∙ same ∙ ap amount_in stands in
          absurd (omega (arith, ints, some, one, still))
      by false h = refl

pub steps_tell_lives : StepsTellLives
steps_tell_lives p n s s' e reached does goes =
    let had : HasHad s n (opened_processes p n + count_by (begins n) reached.steps) =
    had_run p n reached.steps (opening_state p) s (opened_processes p n) (had_opening p n) reached.run in
    record {
      beginning = beginning p n s s' e does goes had.count had.stands;
      no_beginning = no_beginning p n s s' e does goes had.count had.stands;
      begun = begun p n s s' e does goes;
      ending = ending p n s s' e does goes;
      no_ending = no_ending p n s s' e does goes;
      ended = ended p n s s' e does goes;
      one = one p n s s' e does goes;
    }
