-- What a check in one pass keeps: for each place, each kind of access and each agent the last step of it.
-- Source: own choice, after Flanagan and Freund, FastTrack (2009).
use Rattle.std.specs.Prelude.{ℕ, ◌≡◌, ◌<◌, ◌≤◌, ◌⊎◌, Bool, true, false, List, [], ◌∷◌}
use Rattle.tagents.specs.Agents.{Agents}
use Rattle.tagents.specs.Races.{IsRaceFree}
use Rattle.tagents.specs.Clocks.{Entry, OneKnows, NoneKnows, labels}

-- an access to a place
pub record Access (Place Mode : Type 0) : Type 0 where
  pub place : Place
  pub mode : Mode

-- the accesses of each step, and which of two kinds collide
pub record Accesses (Place Mode Label : Type 0) : Type 0 where
  pub of : Label → List (Access Place Mode)
  pub collide : Mode → Mode → Bool

-- it is one of these
abbrev pub HasAccess : {Place Mode : Type 0} → List (Access Place Mode) → Place → Mode → Type 0
HasAccess [] p k = ⊥
HasAccess (x ∷ xs) p k = ((x.place ≡ p) × (x.mode ≡ k)) ⊎ HasAccess xs p k

module _ {State Agent Label Place Mode : Type 0} (m : Agents State Agent Label)
    (accesses : Accesses Place Mode Label) where
  -- two steps that clash have accesses to one place that collide
  pub record Collides (e f : Label) : Type 0 where
    pub place : Place
    pub one : Mode
    pub other : Mode
    pub mine : HasAccess (accesses.of e) place one
    pub theirs : HasAccess (accesses.of f) place other
    pub collide : accesses.collide one other ≡ true

  abbrev pub ClashesCollide : Type 0
  ClashesCollide = (e f : Label) → m.clash e f ≡ true → Collides e f

  -- the last step of each agent at each place
  abbrev pub Table : Type 0
  Table = Place → Mode → Agent → ℕ

  -- the step knows of the last one of each agent that its accesses collide with
  abbrev pub Permits : Table → Entry Agent Label → Type 0
  Permits table f =
      (p : Place) (k j : Mode) (a : Agent) → HasAccess (accesses.of f.label) p k → accesses.collide j k ≡ true
      → table p j a ≤ f.past a

  -- a table into which a step was put
  pub record IsNoted (table : Table) (f : Entry Agent Label) (after : Table) : Type 0 where
    pub grows : (p : Place) (k : Mode) (a : Agent) → table p k a ≤ after p k a
    pub notes : (p : Place) (k : Mode) → HasAccess (accesses.of f.label) p k
        → f.place ≤ after p k (m.agent_of f.label)

  -- one step of the check: its clock is one, the table permits it, and it is put into the table
  pub record IsChecked (earlier : List (Entry Agent Label)) (table : Table) (f : Entry Agent Label) (after : Table)
      : Type 0 where
    pub counted : 0 < f.place
    pub fresh : NoneKnows m earlier (m.agent_of f.label) f.place
    pub knows : (a : Agent) → m.same a (m.agent_of f.label) ≡ false
        → (f.past a ≡ 0) ⊎ OneKnows m earlier f.label a (f.past a)
    pub permits : Permits table f
    pub noted : IsNoted table f after

  abbrev pub AreChecked : (earlier : List (Entry Agent Label)) → Table → (later : List (Entry Agent Label)) → Type 0
  AreChecked earlier table [] = Unit {0}
  AreChecked earlier table (f ∷ fs) =
      (after : Table) × IsChecked earlier table f after × AreChecked (f ∷ earlier) after fs

-- a run that passes the check has no race
abbrev pub CheckedRunsHaveNoRace : (State Agent Label Place Mode : Type 0) → Type 0
CheckedRunsHaveNoRace State Agent Label Place Mode =
    (m : Agents State Agent Label) (accesses : Accesses Place Mode Label) (entries : List (Entry Agent Label))
    → ClashesCollide m accesses → AreChecked m accesses [] (λ p k a. 0) entries → IsRaceFree m (labels entries)
