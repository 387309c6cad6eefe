-- A run is still followed where a clock is handed on, and where a slot is cleared.
use Rattle.std.proofs.Common.{◌≡◌, ℕ, inl, inr, refl, sym, ap, ◌∙◌, subst, arith, true, Bool, List, [], ◌∷◌, cond}
use Rattle.std.proofs.Common.{◌==◌, slice_set}
use Rattle.std.proofs.lemmas.Bool.{eqb-true}
use Rattle.std.proofs.lemmas.List.{length-set}
use Rattle.std.proofs.lemmas.Option.{same_Some}
use Rattle.tplan.specs.declared.plan.Plan.{Plan}
use Rattle.tagents.specs.Agents.{Agents}
use Rattle.tagents.specs.Clocks.{Entry, labels}
use Rattle.tagents.specs.Groups.{grouped}
use Rattle.tclocks.specs.Checks.{Check, clock_of, clock_in, with_cleared}
use Rattle.tclocks.specs.Clocks.{joined}
use Rattle.tclocks.specs.Followed.{EachOf}
use Rattle.tclocks.specs.Laws.{with_writers}
use Rattle.tclocks.specs.Numbers.{Numbers}
use Rattle.tclocks.specs.NumberTurns.{numbers_of, grouped_entry}
use Rattle.tclocks.proofs.Lists.{test}
use Rattle.tclocks.proofs.Passing.{begins}
use Rattle.tclocks.proofs.Standing.{handed, added, cleared}
use Rattle.tprocesses.specs.Places.{Place}
use Rattle.tprocesses.specs.Machine.{Agent}
use Rattle.tprocesses.specs.Certified.{ProcessStep, machine_of}
use Rattle.tcertify.specs.Running.{State}
use Rattle.tfollow.specs.Modes.{Manner, accesses_in, mode_at}
use Rattle.tfollow.specs.Numbering.{Places, AgentNumbers, HasNumber}
use Rattle.tfollow.specs.Leading.{leads_on}
use Rattle.tfollow.specs.Following.{ArePlaced, HasSeen, IsLast, IsFollowed, number_by}
use Rattle.tfollow.specs.Laws.{FollowingBegins, IsHandedOn, ClocksAreHandedOn, SlotsMayBeCleared}
use Rattle.tfollow.proofs.Numbered.{numbered}
use Rattle.tfollow.proofs.Counting.{none-counted}

-- the machine with numbers for agents, and the numbers of places
abbrev pub by_numbers : Plan → AgentNumbers → Agents State ℕ ProcessStep
by_numbers plan group = grouped (machine_of plan) (number_by group)

abbrev pub numbers_at : Places → Numbers ℕ Place Manner
numbers_at places = numbers_of places mode_at

pub following_begins : FollowingBegins
following_begins plan places group =
    record {
      run = refl;
      takes_nothing = tt;
      entries = [];
      labels = refl;
      writers = λ slot. [];
      seen = record {
        seen = record {
          table = λ p k a. 0;
          follows = begins (by_numbers plan group) (accesses_in plan) (numbers_at places)
              (numbered plan group places _);
        };
        turns = tt;
      };
      placed = tt;
      last = tt;
      clocks = refl;
      slots = refl;
      numbered = λ number a h. absurd cc;
      counted = none-counted group;
      lead = λ number a h. absurd cc;
      turns = λ number a h. absurd cc;
      others = λ a new. inl (omega arith);
    }

module _ (plan : Plan) (agents : List Agent) where
  -- what was written into a slot leads to the agent of that number
  abbrev AreLeads : (ℕ → List ProcessStep) → Type 0
  AreLeads writers = (number : ℕ) (a : Agent) → HasNumber agents a number
      → EachOf (λ step. leads_on plan step a ≡ true) (writers number)

  one-agent : (number : ℕ) (a b : Agent) → HasNumber agents a number → HasNumber agents b number → a ≡ b
  one-agent number a b h g = same_Some a b (sym h ∙ g)

  leads-written : (writers : ℕ → List ProcessStep) (slot : ℕ) (steps : List ProcessStep) → AreLeads writers
      → ((a : Agent) → HasNumber agents a slot → EachOf (λ step. leads_on plan step a ≡ true) steps)
      → AreLeads (with_writers slot steps writers)
  leads-written writers slot steps lead new number a h =
      elim (test (number == slot)) as
      (λ _. EachOf (λ step. leads_on plan step a ≡ true) (cond (number == slot) steps (writers number))) [
        | inl same ↦
            subst (λ (t : Bool). EachOf (λ step. leads_on plan step a ≡ true) (cond t steps (writers number)))
            (sym same)
            (new a (subst (λ (i : ℕ). HasNumber agents a i) (eqb-true number slot same) h))
        | inr other ↦
            subst (λ (t : Bool). EachOf (λ step. leads_on plan step a ≡ true) (cond t steps (writers number)))
            (sym other)
            (lead number a h)
      ]

-- the clock of the last step does not depend on slots
pub last-cleared : (plan : Plan) (places : Places) (group : AgentNumbers) (agents : List Agent) (check : Check)
    (slot : ℕ) (entries : List (Entry ℕ ProcessStep)) → IsLast plan places group agents entries check
    → IsLast plan places group agents entries (with_cleared slot check)
last-cleared plan places group agents check slot [] h = tt
last-cleared plan places group agents check slot (z ∷ zs) h = h

-- what the check has seen does not depend on a slot that is cleared
pub seen-cleared : (plan : Plan) (places : Places) (group : AgentNumbers) (agents : List Agent) (check : Check)
    (slot : ℕ) (entries : List (Entry ℕ ProcessStep)) (writers : ℕ → List ProcessStep)
    → HasSeen plan places group agents entries writers check
    → HasSeen plan places group agents entries (with_writers slot [] writers) (with_cleared slot check)
seen-cleared plan places group agents check slot entries writers seen =
    record {
      seen = record {
        table = seen.seen.table;
        follows = cleared (by_numbers plan group) (accesses_in plan) (numbers_at places) entries seen.seen.table
            writers check seen.seen.follows slot;
      };
      turns = seen.turns;
    }

pub slots_may_be_cleared : SlotsMayBeCleared
slots_may_be_cleared plan places group agents steps check state number f =
    record {
      run = f.run;
      takes_nothing = f.takes_nothing;
      entries = f.entries;
      labels = f.labels;
      writers = with_writers number [] f.writers;
      seen = seen-cleared plan places group agents check number f.entries f.writers f.seen;
      placed = f.placed;
      last = last-cleared plan places group agents check number f.entries f.last;
      clocks = f.clocks;
      slots = length-set check.slots number [] ∙ f.slots;
      numbered = f.numbered;
      counted = record { counts = f.counted.counts; kept = f.counted.kept };
      lead = leads-written plan agents f.writers number [] f.lead (λ a h. tt);
      turns = f.turns;
      others = f.others;
    }

module _ (plan : Plan) (places : Places) (group : AgentNumbers) (agents : List Agent) (step : ProcessStep)
    (earlier : List ProcessStep) (check : Check) where
  abbrev pub first : Entry ℕ ProcessStep
  first = grouped_entry (machine_of plan) (number_by group) (accesses_in plan) places mode_at step check

  -- the last step is the first entry
  pub record StartsWith (writers : ℕ → List ProcessStep) : Type 0 where
    pub rest : List (Entry ℕ ProcessStep)
    pub labels : labels rest ≡ earlier
    pub seen : HasSeen plan places group agents (first ∷ rest) writers check
    pub placed : ArePlaced group (first ∷ rest)

  pub starts_with : (state : State) (f : IsFollowed plan places group agents (step ∷ earlier) check state)
      → StartsWith f.writers
  starts_with state f = by f.entries f.labels f.seen f.placed f.last
    where
      by : (entries : List (Entry ℕ ProcessStep)) → labels entries ≡ step ∷ earlier
          → HasSeen plan places group agents entries f.writers check
          → ArePlaced group entries → IsLast plan places group agents entries check → StartsWith f.writers
      by [] h seen placed last = absurd cc
      by (z ∷ zs) h seen placed last =
          let label : z.label ≡ step = cc in
          let same : z ≡ first =
          last ∙ ap (λ (e : ProcessStep). grouped_entry (machine_of plan) (number_by group) (accesses_in plan)
          places mode_at e check) label in
          record {
            rest = zs;
            labels = cc;
            seen = subst (λ (y : Entry ℕ ProcessStep). HasSeen plan places group agents (y ∷ zs) f.writers check) same
                seen;
            placed = subst (λ (y : Entry ℕ ProcessStep). ArePlaced group (y ∷ zs)) same placed;
          }

module _ (plan : Plan) (places : Places) (group : AgentNumbers) (agents : List Agent) (step : ProcessStep)
    (earlier : List ProcessStep) (check : Check) (state : State) (number : ℕ) (a : Agent)
    (f : IsFollowed plan places group agents (step ∷ earlier) check state) (listed : HasNumber agents a number)
    (leads : leads_on plan step a ≡ true) where
  starts : StartsWith plan places group agents step earlier check f.writers
  starts = starts_with plan places group agents step earlier check state f

  new-lead : (b : Agent) → HasNumber agents b number → leads_on plan step b ≡ true
  new-lead b h = subst (λ (c : Agent). leads_on plan step c ≡ true) (one-agent plan agents number a b listed h) leads

  abbrev all : List (Entry ℕ ProcessStep)
  all = first plan places group agents step earlier check ∷ starts.rest

  -- a clock was written into the slot
  written : (steps : List ProcessStep) (clock : List ℕ)
      → ((b : Agent) → HasNumber agents b number → EachOf (λ e. leads_on plan e b ≡ true) steps)
      → HasSeen plan places group agents all (with_writers number steps f.writers)
      (record check { slots = slice_set check.slots number clock })
      → IsFollowed plan places group agents (step ∷ earlier)
      (record check { slots = slice_set check.slots number clock }) state
  written steps clock lead seen =
      record {
        run = f.run;
        takes_nothing = f.takes_nothing;
        entries = all;
        labels = ap (λ (list : List ProcessStep). step ∷ list) starts.labels;
        writers = with_writers number steps f.writers;
        seen = seen;
        placed = starts.placed;
        last = refl;
        clocks = f.clocks;
        slots = length-set check.slots number clock ∙ f.slots;
        numbered = f.numbered;
        counted = record { counts = f.counted.counts; kept = f.counted.kept };
        lead = leads-written plan agents f.writers number steps f.lead lead;
        turns = f.turns;
        others = f.others;
      }

  abbrev x : ℕ
  x = group step.agent

  is_handed_on : IsHandedOn plan places group agents step earlier check state number
  is_handed_on =
      record {
        handed = written (step ∷ []) (clock_of check x) (λ b h. (new-lead b h, tt)) record {
          seen = record {
            table = starts.seen.seen.table;
            follows = handed (by_numbers plan group) (accesses_in plan) (numbers_at places) starts.rest
                starts.seen.seen.table f.writers check step starts.seen.seen.follows number;
          };
          turns = starts.seen.turns;
        };
        added = written (step ∷ f.writers number) (joined (clock_in check number) (clock_of check x))
            (λ b h. (new-lead b h, f.lead number b h)) record {
              seen = record {
                table = starts.seen.seen.table;
                follows = added (by_numbers plan group) (accesses_in plan) (numbers_at places) starts.rest
                    starts.seen.seen.table f.writers check step starts.seen.seen.follows number;
              };
              turns = starts.seen.turns;
            };
      }

pub clocks_are_handed_on : ClocksAreHandedOn
clocks_are_handed_on plan places group agents step earlier check state number a f listed leads =
    is_handed_on plan places group agents step earlier check state number a f listed leads
