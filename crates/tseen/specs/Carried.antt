-- The messages that wires have carried: what a run of the net tells of them, and what a run of the process machine
-- hands over.
-- Source: own choice.
use Rattle.std.specs.Prelude.{ℕ, ◌≡◌, List, [], ◌∷◌, ◌++◌, IfSome, if◌then◌else◌}
use Rattle.std.specs.List.{filter_map}
use Rattle.tword.specs.Stores.{Store}
use Rattle.tplan.specs.declared.plan.End.{End}
use Rattle.tplan.specs.declared.plan.Plan.{Plan}
use Rattle.tplan.specs.declared.event.Note.{Note}
use Rattle.tplan.specs.declared.event.Note.TheVariants.{Msg}
use Rattle.tplan.specs.Wires.{same_end}
use Rattle.tagents.specs.Agents.{own}
use Rattle.tprocesses.specs.Machine.{Wire}
use Rattle.tprocesses.specs.Certified.{ProcessStep, machine_of}

-- the bytes of the messages that came in at an end, in their order
abbrev pub arrived_in : End → Note → List (List ℕ)
arrived_in e (Msg from to bytes) = if same_end to e then bytes ∷ [] else []
arrived_in e _ = []

abbrev pub arrived : End → List Note → List (List ℕ)
arrived e [] = []
arrived e (note ∷ rest) = arrived_in e note ++ arrived e rest

-- the messages that the steps of the wire to an end hand over, in their order. A step that makes a process go on that
-- waits for its alternative hands over none
abbrev pub handed : Plan → End → List ProcessStep → List Store
handed p e steps = filter_map (λ l. l.deed.message) (own (machine_of p) (Wire e) steps)

-- there are as many bytes, and each that is known is this one
abbrev pub KnowsBytes : Store → List ℕ → Type 0
KnowsBytes [] [] = Unit {0}
KnowsBytes (known ∷ rest) (byte ∷ bytes) = IfSome known (λ b. byte ≡ b) × KnowsBytes rest bytes
KnowsBytes _ _ = ⊥

-- there are as many messages, and each is known to be this one
abbrev pub AreKnownAs : List Store → List (List ℕ) → Type 0
AreKnownAs [] [] = Unit {0}
AreKnownAs (known ∷ rest) (bytes ∷ messages) = KnowsBytes known bytes × AreKnownAs rest messages
AreKnownAs _ _ = ⊥
