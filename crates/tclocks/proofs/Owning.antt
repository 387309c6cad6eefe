-- How long nobody but the agent knows of an access.
use Rattle.std.proofs.Common.{◌≡◌, ◌≢◌, ℕ, ◌+◌, ◌-◌, ◌<◌, ◌≤◌, ◌⊎◌, inl, inr, true, ◌==◌, List, [], ◌∷◌, ap, refl, sym}
use Rattle.std.proofs.Common.{◌∙◌, subst, arith, length, slice_index, slice_index_or, slice_set, nat_le, Contains}
use Rattle.std.proofs.Common.{replicate}
use Rattle.std.proofs.lemmas.Bool.{eqb-true, leb-true}
use Rattle.std.proofs.lemmas.List.{get_or-set_other}
use Rattle.tagents.specs.Tables.{Access as PlaceAccess}
use Rattle.tclocks.specs.declared.mode.Mode.{Mode}
use Rattle.tclocks.specs.declared.step.Step.{Step}
use Rattle.tclocks.specs.declared.step.Access.{Access}
use Rattle.tclocks.specs.Modes.{covers}
use Rattle.tclocks.specs.Clocks.{joined, raised}
use Rattle.tclocks.specs.Places.{knows_of}
use Rattle.tclocks.specs.Checks.{Check, clock_of, clock_in, accesses_at, steps_of, next_step, IsAccessed}
use Rattle.tclocks.specs.Own.{NoneKnowFrom, IsOwnYet}
use Rattle.tclocks.specs.Followed.{AreAccessed, HasCover, IsStep}
use Rattle.tclocks.specs.Owning.{StaysUntilHanded, StepsStayUnknown, OwnAccessesStay, ToldAccessesAreOwn}
use Rattle.tclocks.specs.Owning.{OwnAccessesWereTold}
use Rattle.tclocks.proofs.ClockLemmas.{slice_index-joined}
use Rattle.tclocks.proofs.ModeLemmas.{covers-trans}
use Rattle.tclocks.proofs.Joining.{joined_all, with_clock, clock_of-same, clock_of-other, with_all_joined-clock}
use Rattle.tclocks.proofs.Joining.{joined_all-below, raised-other, same-or-not}
use Rattle.tclocks.proofs.Accessing.{either}
use Rattle.tclocks.proofs.Standing.{get_or-defaults, get_or-copies, each-set, counts-stay}
use Rattle.tclocks.proofs.Stepping.{stay}

-- a clock has not counted the agent's steps from this number on
abbrev IsBelow : ℕ → ℕ → List ℕ → Type 0
IsBelow agent number clock = slice_index clock agent < number

-- the clock of an agent behind its begin and its joins
abbrev clock_behind : Check → ℕ → List ℕ → List ℕ
clock_behind check other slots = joined_all check.slots slots (raised (clock_of check other) other)

-- a step begins before its accesses
begins : (check after : Check) (other : ℕ) (slots : List ℕ) (done : List (PlaceAccess ℕ Mode))
    → other < length check.clocks → IsStep other slots done check after
    → AreAccessed (next_step check other) done (with_clock other (clock_behind check other slots) check) after
begins check after other slots done there is =
    subst (λ (c : Check). AreAccessed (next_step check other) done c after)
    (with_all_joined-clock other slots (raised (clock_of check other) other) check there) is

none-begun : (check : Check) (agent number other : ℕ) (slots : List ℕ) → other < length check.clocks
    → NoneKnowFrom check agent number
    → NoneKnowFrom (with_clock other (clock_behind check other slots) check) agent number
none-begun check agent number other slots there none = record {
  clocks = λ i away. elim (same-or-not i other) as
      (λ _. IsBelow agent number (clock_of (with_clock other (clock_behind check other slots) check) i)) [
        | inr beside ↦ subst (IsBelow agent number)
            (sym (clock_of-other other i (clock_behind check other slots) check beside)) (none.clocks i away)
        | inl e ↦ subst (IsBelow agent number)
            (sym (ap (λ (j : ℕ). clock_of (with_clock other (clock_behind check other slots) check) j) e
            ∙ clock_of-same other (clock_behind check other slots) check there))
            (below (λ g. away (e ∙ sym g)))
      ];
  slots = none.slots;
}
  where
    below : agent ≢ other → slice_index (clock_behind check other slots) agent < number
    below away =
        let first : slice_index (clock_of check other) agent < number = none.clocks other (λ e. away (sym e)) in
        let same : slice_index (raised (clock_of check other) other) agent ≡ slice_index (clock_of check other) agent =
        raised-other (clock_of check other) other agent away in
        let most : slice_index (clock_behind check other slots) agent ≤ number - 1 =
        joined_all-below check.slots slots (raised (clock_of check other) other) agent (number - 1)
        (omega (arith, first, same))
        (λ slot. (let few : slice_index (clock_in check slot) agent < number = none.slots slot in
        omega (arith, few))) in
        omega (arith, most, first)

none-same : (c d : Check) (agent number : ℕ) → d.clocks ≡ c.clocks → d.slots ≡ c.slots → NoneKnowFrom c agent number
    → NoneKnowFrom d agent number
none-same c d agent number clocks slots none = record {
  clocks = λ i away. subst (λ (list : List (List ℕ)). IsBelow agent number (slice_index_or list i [])) (sym clocks)
      (none.clocks i away);
  slots = λ slot. subst (λ (list : List (List ℕ)). IsBelow agent number (slice_index_or list slot [])) (sym slots)
      (none.slots slot);
}

none-accessed : (step : Step) (access : PlaceAccess ℕ Mode) (c d : Check) (agent number : ℕ)
    → IsAccessed step access c d → NoneKnowFrom c agent number → NoneKnowFrom d agent number
none-accessed step access c d agent number is none =
    none-same c d agent number (ap (λ (e : Check). e.clocks) is.only) (ap (λ (e : Check). e.slots) is.only) none

pub none-later : (check : Check) (agent number later : ℕ) → number ≤ later → NoneKnowFrom check agent number
    → NoneKnowFrom check agent later
none-later check agent number later h none = record {
  clocks = λ i away. (let few : slice_index (clock_of check i) agent < number = none.clocks i away in
      omega (arith, few, h));
  slots = λ slot. (let few : slice_index (clock_in check slot) agent < number = none.slots slot in
      omega (arith, few, h));
}

-- a slot is written with a clock that does not know of them
none-written : (check : Check) (agent number slot : ℕ) (clock : List ℕ) → NoneKnowFrom check agent number
    → slice_index clock agent < number
    → NoneKnowFrom (record check { slots = slice_set check.slots slot clock }) agent number
none-written check agent number slot clock none below = record {
  clocks = none.clocks;
  slots = each-set (IsBelow agent number) check.slots slot clock [] below
      (let few : slice_index (clock_in check 0) agent < number = none.slots 0 in omega (arith, few)) none.slots;
}

pub steps_stay_unknown : StepsStayUnknown
steps_stay_unknown check agent number none = record {
  by_step = λ other slots done after there is.
      (let same : (after.clocks ≡ (with_clock other (clock_behind check other slots) check).clocks)
      × (after.slots ≡ check.slots) =
      stay (next_step check other) done (with_clock other (clock_behind check other slots) check) after
      (begins check after other slots done there is) in
      none-same (with_clock other (clock_behind check other slots) check) after agent number same.0 same.1
      (none-begun check agent number other slots there none));
  by_handed = λ other slot away. none-written check agent number slot (clock_of check other) none
      (none.clocks other away);
  by_added = λ other slot away. none-written check agent number slot
      (joined (clock_in check slot) (clock_of check other)) none
      (let first : slice_index (clock_in check slot) agent < number = none.slots slot in
      let second : slice_index (clock_of check other) agent < number = none.clocks other away in
      omega (arith, first, second, slice_index-joined (clock_in check slot) (clock_of check other) agent));
  by_cleared = λ slot. none-written check agent number slot [] none
      (let few : slice_index (clock_in check 0) agent < number = none.slots 0 in omega (arith, few));
  by_agent = record {
    clocks = λ i away. (let few : slice_index (clock_of check i) agent < number = none.clocks i away in
        omega (arith, few, counts-stay check i agent));
    slots = none.slots;
  };
  by_slot = record {
    clocks = none.clocks;
    slots = λ slot. subst (IsBelow agent number)
        (sym (get_or-defaults check.slots ([] ∷ []) slot [] (λ k. get_or-copies 1 k []))) (none.slots slot);
  };
  by_places = λ count. record { clocks = none.clocks; slots = none.slots };
}

-- an access that nobody else knows of is kept, of a step of at most this number
record Keeps (check : Check) (agent place : ℕ) (mode : Mode) (limit : ℕ) : Type 0 where
  own : IsOwnYet check agent place mode
  number : own.access.step.number ≤ limit

-- what is kept at a place stays, unless an access of the same agent replaces it
keeps-on : (step : Step) (access : PlaceAccess ℕ Mode) (c d : Check) (agent place : ℕ) (mode : Mode) (limit : ℕ)
    → (step.agent ≡ agent → step.number ≡ limit) → IsAccessed step access c d → Keeps c agent place mode limit
    → Keeps d agent place mode limit
keeps-on step access c d agent place mode limit top is keeps =
    elim (same-or-not place access.place) as (λ _. Keeps d agent place mode limit) [
      | inr away ↦ still (subst (λ (list : List Access). Contains list keeps.own.access) (sym (others away))
          keeps.own.there)
      | inl here ↦ elim (is.noted.kept keeps.own.access
          (subst (λ (q : ℕ). Contains (accesses_at c q) keeps.own.access) here keeps.own.there)) as
          (λ _. Keeps d agent place mode limit) [
            | inl stays ↦ still (subst (λ (q : ℕ). Contains (accesses_at d q) keeps.own.access) (sym here) stays)
            | inr gone ↦ elim (same-or-not step.agent agent) as (λ _. Keeps d agent place mode limit) [
              | inl own ↦ record {
                own = record {
                  access = record { mode = access.mode; step = step };
                  there = subst (λ (q : ℕ). Contains (accesses_at d q) (record { mode = access.mode; step = step }))
                      (sym here) is.noted.noted;
                  by = own;
                  over = covers-trans access.mode keeps.own.access.mode mode gone.covered keeps.own.over;
                  unknown = none-later d agent keeps.own.access.step.number step.number
                      (omega (arith, keeps.number, top own)) unknown;
                };
                number = omega (arith, top own);
              }
              | inr other ↦ absurd (not-known other gone.known)
            ]
          ]
    ]
  where
    unknown : NoneKnowFrom d agent keeps.own.access.step.number
    unknown = none-accessed step access c d agent keeps.own.access.step.number is keeps.own.unknown

    still : Contains (accesses_at d place) keeps.own.access → Keeps d agent place mode limit
    still there = record {
      own = record {
        access = keeps.own.access;
        there = there;
        by = keeps.own.by;
        over = keeps.own.over;
        unknown = unknown;
      };
      number = keeps.number;
    }

    others : place ≢ access.place → accesses_at d place ≡ accesses_at c place
    others away =
        ap (λ (e : Check). accesses_at e place) is.only
        ∙ get_or-set_other c.places access.place place (accesses_at d access.place) [] away

    not-known : step.agent ≢ agent → knows_of step.agent (clock_of c step.agent) keeps.own.access.step ≡ true → ⊥
    not-known other knows = elim (either (keeps.own.access.step.agent == step.agent)
        (nat_le keeps.own.access.step.number (slice_index (clock_of c step.agent) keeps.own.access.step.agent))
        knows) as (λ _. ⊥) [
          | inl same ↦ other (sym (eqb-true keeps.own.access.step.agent step.agent same) ∙ keeps.own.by)
          | inr counts ↦
              let count : keeps.own.access.step.number ≤ slice_index (clock_of c step.agent) agent =
              subst (λ (i : ℕ). keeps.own.access.step.number ≤ slice_index (clock_of c step.agent) i) keeps.own.by
              (leb-true keeps.own.access.step.number
              (slice_index (clock_of c step.agent) keeps.own.access.step.agent) counts) in
              let few : slice_index (clock_of c step.agent) agent < keeps.own.access.step.number =
              keeps.own.unknown.clocks step.agent other in
              omega (arith, count, few)
        ]

keeps-accessed : (step : Step) (done : List (PlaceAccess ℕ Mode)) (c d : Check) (agent place : ℕ) (mode : Mode)
    (limit : ℕ) → (step.agent ≡ agent → step.number ≡ limit) → AreAccessed step done c d
    → Keeps c agent place mode limit → Keeps d agent place mode limit
keeps-accessed step [] c d agent place mode limit top is keeps =
    subst (λ (e : Check). Keeps e agent place mode limit) (sym is) keeps
keeps-accessed step (access ∷ rest) c d agent place mode limit top (between, is, are) keeps =
    keeps-accessed step rest between d agent place mode limit top are
    (keeps-on step access c between agent place mode limit top is keeps)

pub own_accesses_stay : OwnAccessesStay
own_accesses_stay check agent place mode begun own =
    let stays : StaysUntilHanded (λ c. NoneKnowFrom c agent own.access.step.number) check agent =
    steps_stay_unknown check agent own.access.step.number own.unknown in record {
      by_step = λ other slots done after there is.
          (keeps-accessed (next_step check other) done (with_clock other (clock_behind check other slots) check) after
          agent place mode (steps_of check agent + 1)
          (λ same. ap (λ (i : ℕ). steps_of check i + 1) same) (begins check after other slots done there is) record {
            own = record {
              access = own.access;
              there = own.there;
              by = own.by;
              over = own.over;
              unknown = none-begun check agent own.access.step.number other slots there own.unknown;
            };
            number = (let few : own.access.step.number ≤ steps_of check agent =
                subst (λ (i : ℕ). own.access.step.number ≤ steps_of check i) own.by
                (begun place own.access own.there) in
                omega (arith, few));
          }).own;
      by_handed = λ other slot away. same_places own (stays.by_handed other slot away);
      by_added = λ other slot away. same_places own (stays.by_added other slot away);
      by_cleared = λ slot. same_places own (stays.by_cleared slot);
      by_agent = record {
        access = own.access;
        there = own.there;
        by = own.by;
        over = own.over;
        unknown = stays.by_agent;
      };
      by_slot = same_places own stays.by_slot;
      by_places = λ count. record {
        access = own.access;
        there = subst (λ (list : List Access). Contains list own.access)
            (sym (get_or-defaults check.places (replicate count []) place [] (λ k. get_or-copies count k [])))
            own.there;
        by = own.by;
        over = own.over;
        unknown = stays.by_places count;
      };
    }
  where
    same_places : {slots : List (List ℕ)} → (is : IsOwnYet check agent place mode)
        → NoneKnowFrom (record check { slots = slots }) agent is.access.step.number
        → IsOwnYet (record check { slots = slots }) agent place mode
    same_places is none = record {
      access = is.access;
      there = is.there;
      by = is.by;
      over = is.over;
      unknown = none;
    }

-- an access that is told is kept, or another one that covers it
told-kept : (step : Step) (done : List (PlaceAccess ℕ Mode)) (c d : Check) (place : ℕ) (mode : Mode)
    → NoneKnowFrom c step.agent step.number → AreAccessed step done c d → HasCover done place mode
    → Keeps d step.agent place mode step.number
told-kept step [] c d place mode none are has = absurd has
told-kept step (access ∷ rest) c d place mode none (between, is, are) (inl here) =
    keeps-accessed step rest between d step.agent place mode step.number (λ same. refl) are record {
      own = record {
        access = record { mode = access.mode; step = step };
        there = subst (λ (q : ℕ). Contains (accesses_at between q) (record { mode = access.mode; step = step })) here.0
            is.noted.noted;
        by = refl;
        over = here.1;
        unknown = none-accessed step access c between step.agent step.number is none;
      };
      number = omega arith;
    }
told-kept step (access ∷ rest) c d place mode none (between, is, are) (inr later) =
    told-kept step rest between d place mode (none-accessed step access c between step.agent step.number is none) are
    later

pub told_accesses_are_own : ToldAccessesAreOwn
told_accesses_are_own before after agent slots done place mode there none is has =
    (told-kept (next_step before agent) done (with_clock agent (clock_behind before agent slots) before) after place
    mode (none-begun before agent (steps_of before agent + 1) agent slots there none)
    (begins before after agent slots done there is) has).own

-- what is kept behind accesses was told with them, or kept before
was-told : (step : Step) (done : List (PlaceAccess ℕ Mode)) (c d : Check) (place : ℕ) (access : Access) (mode : Mode)
    → covers access.mode mode ≡ true → AreAccessed step done c d → Contains (accesses_at d place) access
    → HasCover done place mode ⊎ Contains (accesses_at c place) access
was-told step [] c d place access mode over same has =
    inr (subst (λ (e : Check). Contains (accesses_at e place) access) same has)
was-told step (first ∷ rest) c d place access mode over (between, is, are) has =
    elim (was-told step rest between d place access mode over are has) as
    (λ _. HasCover (first ∷ rest) place mode ⊎ Contains (accesses_at c place) access) [
      | inl later ↦ inl (inr later)
      | inr there ↦ elim (same-or-not place first.place) as
          (λ _. HasCover (first ∷ rest) place mode ⊎ Contains (accesses_at c place) access) [
            | inr away ↦ inr (subst (λ (list : List Access). Contains list access) (others away) there)
            | inl here ↦ elim (is.noted.only access
                (subst (λ (q : ℕ). Contains (accesses_at between q) access) here there)) as
                (λ _. HasCover (first ∷ rest) place mode ⊎ Contains (accesses_at c place) access) [
                  | inl e ↦ inl (inl (sym here, subst (λ (x : Access). covers x.mode mode ≡ true) e over))
                  | inr old ↦ inr (subst (λ (q : ℕ). Contains (accesses_at c q) access) (sym here) old)
                ]
          ]
    ]
  where
    others : place ≢ first.place → accesses_at between place ≡ accesses_at c place
    others away =
        ap (λ (e : Check). accesses_at e place) is.only
        ∙ get_or-set_other c.places first.place place (accesses_at between first.place) [] away

pub own_accesses_were_told : OwnAccessesWereTold
own_accesses_were_told before after agent slots done place mode there is own =
    elim (was-told (next_step before agent) done (with_clock agent (clock_behind before agent slots) before) after place
    own.access mode own.over (begins before after agent slots done there is) own.there) as
    (λ _. HasCover done place mode ⊎ IsOwnYet before agent place mode) [
      | inl told ↦ inl told
      | inr was ↦ inr record {
        access = own.access;
        there = was;
        by = own.by;
        over = own.over;
        unknown = record {
          clocks = λ i away. subst (IsBelow agent own.access.step.number)
              (ap (λ (list : List (List ℕ)). slice_index_or list i []) same.0
              ∙ clock_of-other agent i (clock_behind before agent slots) before away) (own.unknown.clocks i away);
          slots = λ slot. subst (λ (list : List (List ℕ)). IsBelow agent own.access.step.number
              (slice_index_or list slot [])) same.1 (own.unknown.slots slot);
        };
      }
    ]
  where
    same : (after.clocks ≡ (with_clock agent (clock_behind before agent slots) before).clocks)
        × (after.slots ≡ before.slots)
    same = stay (next_step before agent) done (with_clock agent (clock_behind before agent slots) before) after
        (begins before after agent slots done there is)
