-- A machine of walkers of which one run is a certificate: a parent starts two children; each adds to a total and
-- counts itself out; once both are out, the successor goes on and doubles the total. The children look neither at the
-- total nor at the count, so their order does not matter.
-- Source: own choice.
use Rattle.std.specs.Prelude.{ℕ, zero, suc, ◌+◌, Bool, true, false, List, [], ◌∷◌}
use Rattle.tagents.specs.Certificates.{IsTheOnlyRun}
use Rattle.tagents.specs.Walks.{Walk, looking, doing, Sight, Alteration, Label, Walkers, agents_of}

pub data Member : Type 0 where
  Parent First Second Successor : Member

-- what each member does, how many children are not out, and the total
pub data Spot : Type 0 where
  Standing : Member → Spot
  Count Total : Spot

pub data Content : Type 0 where
  -- of a member
  Absent Ready Done : Content
  -- of the count and the total
  Remaining Amount : ℕ → Content
  -- what no change was meant for
  Spoilt : Content

-- a content is put, or one child less remains, or an amount is added
pub data Change : Type 0 where
  Put : Content → Change
  CountDown : Change
  Add : ℕ → Change

pub data Kind : Type 0 where
  Puts Countdowns Additions : Kind

-- the parent starts its children, a child finishes with an amount, the successor concludes with the total, and whoever
-- finds what was not meant gives up
pub data Deed : Type 0 where
  Start : Deed
  Finish : Member → ℕ → Deed
  Conclude : ℕ → Deed
  GiveUp : Deed

abbrev pub same_member : Member → Member → Bool
same_member Parent Parent = true
same_member First First = true
same_member Second Second = true
same_member Successor Successor = true
same_member _ _ = false

abbrev pub same_spot : Spot → Spot → Bool
same_spot (Standing m) (Standing n) = same_member m n
same_spot Count Count = true
same_spot Total Total = true
same_spot _ _ = false

-- the successor waits for the count, and each other one until it is ready
abbrev pub gate_of : Member → Spot
gate_of Successor = Count
gate_of m = Standing m

abbrev pub opens : Content → Bool
opens Ready = true
opens (Remaining zero) = true
opens Spoilt = true
opens _ = false

abbrev pub changed_content : Change → Content → Content
changed_content (Put v) _ = v
changed_content CountDown (Remaining (suc n)) = Remaining n
changed_content (Add n) (Amount m) = Amount (m + n)
changed_content _ _ = Spoilt

abbrev pub kind_of_change : Change → Kind
kind_of_change (Put v) = Puts
kind_of_change CountDown = Countdowns
kind_of_change (Add n) = Additions

abbrev pub kinds_commute : Kind → Kind → Bool
kinds_commute Countdowns Countdowns = true
kinds_commute Additions Additions = true
kinds_commute _ _ = false

-- to count down awakens the successor
abbrev pub awakens_with : Change → Content → Bool
awakens_with CountDown (Remaining zero) = true
awakens_with _ _ = false

abbrev pub at : Spot → Change → Alteration Spot Change
at p c = record { place = p; change = c }

abbrev pub changes_of : Deed → List (Alteration Spot Change)
changes_of Start =
    at (Standing First) (Put Ready) ∷ at (Standing Second) (Put Ready) ∷ at (Standing Parent) (Put Done) ∷ []
changes_of (Finish m n) = at (Standing m) (Put Done) ∷ at Total (Add n) ∷ at Count CountDown ∷ []
changes_of (Conclude n) = at Total (Put (Amount (n + n))) ∷ at Count (Put Done) ∷ []
changes_of GiveUp = []

abbrev pub is_given_up : Deed → Bool
is_given_up GiveUp = true
is_given_up _ = false

-- whoever is looked at has to be absent
abbrev pub if_absent : Walk Spot Content Deed → Content → Walk Spot Content Deed
if_absent next Absent = next
if_absent next _ = doing GiveUp

abbrev pub conclude : Content → Walk Spot Content Deed
conclude (Amount n) = doing (Conclude n)
conclude _ = doing GiveUp

abbrev pub if_none_remains : Content → Walk Spot Content Deed
if_none_remains (Remaining zero) = looking Total conclude
if_none_remains _ = doing GiveUp

abbrev pub walk_of : Member → Walk Spot Content Deed
walk_of Parent = looking (Standing First) (if_absent (looking (Standing Second) (if_absent (doing Start))))
walk_of First = doing (Finish First 3)
walk_of Second = doing (Finish Second 4)
walk_of Successor = looking Count if_none_remains

abbrev pub family : Walkers Member Spot Content Change Kind Deed
family =
    record {
      same = same_member;
      same_place = same_spot;
      gates = λ m. gate_of m ∷ [];
      is_open = λ m p v. opens v;
      walk = walk_of;
      changes = changes_of;
      apply = changed_content;
      kind_of = kind_of_change;
      commute = kinds_commute;
      awakens = awakens_with;
      stops = is_given_up;
    }

-- the parent is ready, and two children will have to count themselves out
abbrev pub at_start : Spot → Content
at_start (Standing Parent) = Ready
at_start (Standing _) = Absent
at_start Count = Remaining 2
at_start Total = Amount 0

-- parent and children are done, and the total of 3 and 4 was doubled
abbrev pub at_end : Spot → Content
at_end (Standing Successor) = Absent
at_end (Standing _) = Done
at_end Count = Done
at_end Total = Amount 14

abbrev pub saw : Spot → Content → Sight Spot Content
saw p v = record { place = p; value = v }

abbrev pub step : Member → List (Sight Spot Content) → Deed → Label Member Spot Content Deed
step m seen d = record { agent = m; seen = seen; deed = d }

-- one run, step by step
abbrev pub family_steps : List (Label Member Spot Content Deed)
family_steps =
    step Parent (saw (Standing Parent) Ready ∷ saw (Standing First) Absent ∷ saw (Standing Second) Absent ∷ []) Start
    ∷ step First (saw (Standing First) Ready ∷ []) (Finish First 3)
    ∷ step Second (saw (Standing Second) Ready ∷ []) (Finish Second 4)
    ∷ step Successor (saw Count (Remaining 0) ∷ saw Count (Remaining 0) ∷ saw Total (Amount 7) ∷ []) (Conclude 7)
    ∷ []

-- it tells of all runs
abbrev pub FamilyHasOneRun : Type 0
FamilyHasOneRun = IsTheOnlyRun (agents_of family) at_start family_steps at_end
