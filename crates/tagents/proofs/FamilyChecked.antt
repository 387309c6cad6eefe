-- The run of the family passes the check, so it is the only one.
use Rattle.std.proofs.Common.{ℕ, ◌≡◌, ◌≤◌, ◌<◌, refl, sym, subst, true, false, List, [], ◌∷◌, ◌⊎◌, inl, inr}
use Rattle.std.proofs.Common.{true≢false, arith}
use Rattle.tagents.specs.Agents.{IsRun}
use Rattle.tagents.specs.Clocks.{Entry, OneKnows}
use Rattle.tagents.specs.Tables.{Access, HasAccess, Permits, IsChecked}
use Rattle.tagents.specs.Walks.{Label, state_after, are_open, step_leads, agents_of}
use Rattle.tagents.specs.WalkAccesses.{Mode, Looks, Changes, modes_collide, accesses_of}
use Rattle.tagents.specs.Tidy.{HoldsOfEach}
use Rattle.tagents.specs.Family.{Member, Parent, First, Second, Successor, Spot, Standing, Count, Total, Content}
use Rattle.tagents.specs.Family.{Absent, Ready, Remaining, Amount, Change, Kind, Puts, Countdowns, Additions, Deed}
use Rattle.tagents.specs.Family.{Start, Finish, Conclude, same_member, family, at_start, at_end, saw, step}
use Rattle.tagents.specs.Family.{family_steps, FamilyHasOneRun}
use Rattle.tagents.proofs.Framed.{everywhere}
use Rattle.tagents.proofs.Walking.{over_where_shut}
use Rattle.tagents.proofs.Families.{tidy}
use Rattle.tagents.proofs.WalkAccessed.{checked_runs_are_certificates}

abbrev State : Type 0
State = Spot → Content

abbrev pub Step : Type 0
Step = Label Member Spot Content Deed

-- the states of the run
abbrev started : State
started = state_after family Start at_start

abbrev one_out : State
one_out = state_after family (Finish First 3) started

abbrev both_out : State
both_out = state_after family (Finish Second 4) one_out

concluded : (p : Spot) → state_after family (Conclude 7) both_out p ≡ at_end p
concluded (Standing Parent) = refl
concluded (Standing First) = refl
concluded (Standing Second) = refl
concluded (Standing Successor) = refl
concluded Count = refl
concluded Total = refl

run : IsRun (agents_of family) at_start family_steps at_end
run = (
  started,
  refl,
  (one_out, refl, (both_out, refl, (state_after family (Conclude 7) both_out, refl, everywhere concluded))),
)

all_shut : (a : Member) → are_open family a at_end ≡ false
all_shut Parent = refl
all_shut First = refl
all_shut Second = refl
all_shut Successor = refl

-- each member's step is its first, and knows of its own and of those that it comes after
abbrev counted : Step → (Member → ℕ) → Entry Member Step
counted e past = record { label = e; place = 1; past = past }

abbrev past_of : Member → Member → ℕ
past_of Parent Parent = 1
past_of First Parent = 1
past_of First First = 1
past_of Second Parent = 1
past_of Second Second = 1
past_of Successor a = 1
past_of _ _ = 0

abbrev pub start : Entry Member Step
start =
    counted
    (step Parent (saw (Standing Parent) Ready ∷ saw (Standing First) Absent ∷ saw (Standing Second) Absent ∷ []) Start)
    (past_of Parent)

abbrev pub first : Entry Member Step
first = counted (step First (saw (Standing First) Ready ∷ []) (Finish First 3)) (past_of First)

abbrev pub second : Entry Member Step
second = counted (step Second (saw (Standing Second) Ready ∷ []) (Finish Second 4)) (past_of Second)

abbrev pub conclusion : Entry Member Step
conclusion =
    counted (step Successor (saw Count (Remaining 0) ∷ saw Count (Remaining 0) ∷ saw Total (Amount 7) ∷ [])
    (Conclude 7)) (past_of Successor)

-- what the table has of the first child
abbrev made_by_first : Spot → Mode Kind → ℕ
made_by_first (Standing First) k = 1
made_by_first Total (Changes Additions) = 1
made_by_first Count (Changes Countdowns) = 1
made_by_first _ _ = 0

-- the tables after the parent, after each child, and at the end
abbrev Table : Type 0
Table = Spot → Mode Kind → Member → ℕ

abbrev after_parent : Table
after_parent p k Parent = 1
after_parent p k _ = 0

abbrev after_first : Table
after_first p k Parent = 1
after_first p k First = made_by_first p k
after_first p k _ = 0

abbrev after_second : Table
after_second p k Parent = 1
after_second p k First = made_by_first p k
after_second p k Second = 1
after_second p k Successor = 0

abbrev after_all : Table
after_all p k a = 1

zero_le : (n : ℕ) → 0 ≤ n
zero_le n = omega arith

same_le : 1 ≤ 1
same_le = omega arith

zero_one : 0 < 1
zero_one = omega arith

at_most_one : (p : Spot) (k : Mode Kind) → made_by_first p k ≤ 1
at_most_one (Standing Parent) k = zero_le 1
at_most_one (Standing First) k = same_le
at_most_one (Standing Second) k = zero_le 1
at_most_one (Standing Successor) k = zero_le 1
at_most_one Count Looks = zero_le 1
at_most_one Count (Changes Puts) = zero_le 1
at_most_one Count (Changes Countdowns) = same_le
at_most_one Count (Changes Additions) = zero_le 1
at_most_one Total Looks = zero_le 1
at_most_one Total (Changes Puts) = zero_le 1
at_most_one Total (Changes Countdowns) = zero_le 1
at_most_one Total (Changes Additions) = same_le

-- what holds at each access
of_access : (P : Spot → Mode Kind → Type 0) (xs : List (Access Spot (Mode Kind)))
    → HoldsOfEach (λ x. P x.place x.mode) xs → (p : Spot) (k : Mode Kind) → HasAccess xs p k → P p k
of_access P [] all p k h = absurd h
of_access P (x ∷ xs) all p k (inl here) =
    subst (λ (m : Mode Kind). P p m) here.1 (subst (λ (q : Spot). P q x.mode) here.0 all.0)
of_access P (x ∷ xs) all p k (inr there) = of_access P xs all.1 p k there

-- what the second child does collides with nothing of the first
abbrev Apart : Spot → Mode Kind → Type 0
Apart p k = (j : Mode Kind) → modes_collide family j k ≡ true → made_by_first p j ≤ 0

apart : HoldsOfEach (λ x. Apart x.place x.mode) ((accesses_of family).of second.label)
apart = (
  λ j c. zero_le 0,
  (λ j c. zero_le 0, (additions, (countdowns, tt))),
)
  where
    additions : Apart Total (Changes Additions)
    additions Looks c = zero_le 0
    additions (Changes Puts) c = zero_le 0
    additions (Changes Countdowns) c = zero_le 0
    additions (Changes Additions) c = absurd (true≢false (sym c))

    countdowns : Apart Count (Changes Countdowns)
    countdowns Looks c = zero_le 0
    countdowns (Changes Puts) c = zero_le 0
    countdowns (Changes Countdowns) c = absurd (true≢false (sym c))
    countdowns (Changes Additions) c = zero_le 0

permits_second : Permits (agents_of family) (accesses_of family) after_first second
permits_second p k j Parent h c = same_le
permits_second p k j First h c = of_access Apart ((accesses_of family).of second.label) apart p k h j c
permits_second p k j Second h c = zero_le 1
permits_second p k j Successor h c = zero_le 0

permits_first : Permits (agents_of family) (accesses_of family) after_parent first
permits_first p k j Parent h c = same_le
permits_first p k j First h c = zero_le 1
permits_first p k j Second h c = zero_le 0
permits_first p k j Successor h c = zero_le 0

permits_conclusion : Permits (agents_of family) (accesses_of family) after_second conclusion
permits_conclusion p k j Parent h c = same_le
permits_conclusion p k j First h c = at_most_one p j
permits_conclusion p k j Second h c = same_le
permits_conclusion p k j Successor h c = zero_le 1

-- the table has the accesses of the first child
noted_first : HoldsOfEach (λ x. 1 ≤ made_by_first x.place x.mode) ((accesses_of family).of first.label)
noted_first = (same_le, (same_le, (same_le, (same_le, tt))))

grows_first : (p : Spot) (k : Mode Kind) (a : Member) → after_parent p k a ≤ after_first p k a
grows_first p k Parent = same_le
grows_first p k First = zero_le (made_by_first p k)
grows_first p k Second = zero_le 0
grows_first p k Successor = zero_le 0

grows_second : (p : Spot) (k : Mode Kind) (a : Member) → after_first p k a ≤ after_second p k a
grows_second p k Parent = same_le
grows_second p k First = let same : made_by_first p k ≤ made_by_first p k = omega arith in same
grows_second p k Second = zero_le 1
grows_second p k Successor = zero_le 0

grows_last : (p : Spot) (k : Mode Kind) (a : Member) → after_second p k a ≤ after_all p k a
grows_last p k Parent = same_le
grows_last p k First = at_most_one p k
grows_last p k Second = same_le
grows_last p k Successor = zero_le 1

nothing_yet : (p : Spot) (k : Mode Kind) (a : Member) → 0 ≤ after_parent p k a
nothing_yet p k a = zero_le (after_parent p k a)

abbrev Passes : List (Entry Member Step) → Table → Entry Member Step → Table → Type 0
Passes = IsChecked (agents_of family) (accesses_of family)

-- of each other member it knows nothing, or what one of these tells it
abbrev Knows : List (Entry Member Step) → Entry Member Step → Member → Type 0
Knows earlier f a =
    same_member a f.label.agent ≡ false → (f.past a ≡ 0) ⊎ OneKnows (agents_of family) earlier f.label a (f.past a)

start_knows : (a : Member) → Knows [] start a
start_knows Parent h = absurd (true≢false h)
start_knows First h = inl refl
start_knows Second h = inl refl
start_knows Successor h = inl refl

first_knows : (a : Member) → Knows (start ∷ []) first a
first_knows Parent h = inr (inl (inr refl, same_le))
first_knows First h = absurd (true≢false h)
first_knows Second h = inl refl
first_knows Successor h = inl refl

second_knows : (a : Member) → Knows (first ∷ start ∷ []) second a
second_knows Parent h = inr (inr (inl (inr refl, same_le)))
second_knows First h = inl refl
second_knows Second h = absurd (true≢false h)
second_knows Successor h = inl refl

conclusion_knows : (a : Member) → Knows (second ∷ first ∷ start ∷ []) conclusion a
conclusion_knows Parent h = inr (inl (inr refl, same_le))
conclusion_knows First h = inr (inr (inl (inr refl, same_le)))
conclusion_knows Second h = inr (inl (inr refl, same_le))
conclusion_knows Successor h = absurd (true≢false h)

start_passes : Passes [] (λ p k a. 0) start after_parent
start_passes =
    record {
      counted = zero_one;
      fresh = tt;
      knows = start_knows;
      permits = λ p k j a h c. zero_le (past_of Parent a);
      noted = record { grows = nothing_yet; notes = λ p k h. same_le };
    }

first_passes : Passes (start ∷ []) after_parent first after_first
first_passes =
    record {
      counted = zero_one;
      fresh = (inl zero_one, tt);
      knows = first_knows;
      permits = permits_first;
      noted = record {
        grows = grows_first;
        notes = of_access (λ p k. 1 ≤ made_by_first p k) ((accesses_of family).of first.label) noted_first;
      };
    }

second_passes : Passes (first ∷ start ∷ []) after_first second after_second
second_passes =
    record {
      counted = zero_one;
      fresh = (inl zero_one, (inl zero_one, tt));
      knows = second_knows;
      permits = permits_second;
      noted = record { grows = grows_second; notes = λ p k h. same_le };
    }

conclusion_passes : Passes (second ∷ first ∷ start ∷ []) after_second conclusion after_all
conclusion_passes =
    record {
      counted = zero_one;
      fresh = (inl zero_one, (inl zero_one, (inl zero_one, tt)));
      knows = conclusion_knows;
      permits = permits_conclusion;
      noted = record { grows = grows_last; notes = λ p k h. same_le };
    }

pub family_has_one_run : FamilyHasOneRun
family_has_one_run =
    checked_runs_are_certificates Member Spot Content Change Kind Deed family at_start at_end
    (start ∷ first ∷ second ∷ conclusion ∷ []) (step_leads family) tidy run (over_where_shut family at_end all_shut)
    (refl, (refl, (refl, (refl, tt))))
    (λ e f h. h) (
      after_parent,
      start_passes,
      (after_first, first_passes, (after_second, second_passes, (after_all, conclusion_passes, tt))),
    )
