-- A run that passes the check has no race: its clocks know of all clashes, since the table does.
use Rattle.std.proofs.Common.{◌≤◌, List, [], ◌∷◌, arith}
use Rattle.tagents.specs.Agents.{Agents}
use Rattle.tagents.specs.Clocks.{Entry, KnowsClashes, AreClocked}
use Rattle.tagents.specs.Tables.{Accesses, HasAccess, Collides, ClashesCollide, Table, Permits, IsChecked, AreChecked}
use Rattle.tagents.specs.Tables.{CheckedRunsHaveNoRace}
use Rattle.tagents.proofs.Clocked.{clocks_tell_races}

module _ {State Agent Label Place Mode : Type 0} (m : Agents State Agent Label) (accesses : Accesses Place Mode Label)
    (collide : ClashesCollide m accesses) where
  -- the table has each step that came before
  abbrev Holds : List (Entry Agent Label) → Table m accesses → Type 0
  Holds [] table = Unit {0}
  Holds (z ∷ zs) table =
      ((p : Place) (k : Mode) → HasAccess (accesses.of z.label) p k → z.place ≤ table p k (m.agent_of z.label))
      × Holds zs table

  holds_more : (zs : List (Entry Agent Label)) (table after : Table m accesses)
      → ((p : Place) (k : Mode) (a : Agent) → table p k a ≤ after p k a) → Holds zs table → Holds zs after
  holds_more [] table after grows h = tt
  holds_more (z ∷ zs) table after grows h = (
    λ p k has. (let l : z.place ≤ table p k (m.agent_of z.label) = h.0 p k has in
        let g : table p k (m.agent_of z.label) ≤ after p k (m.agent_of z.label) = grows p k (m.agent_of z.label) in
        omega arith),
    holds_more zs table after grows h.1,
  )

  -- so a step that it permits knows of all that it clashes with
  knows : (zs : List (Entry Agent Label)) (table : Table m accesses) (f : Entry Agent Label) → Holds zs table
      → Permits m accesses table f → KnowsClashes m zs f
  knows [] table f h permits = tt
  knows (z ∷ zs) table f h permits = (
    λ c. (let x : Collides m accesses z.label f.label = collide z.label f.label c in
        let l : z.place ≤ table x.place x.one (m.agent_of z.label) = h.0 x.place x.one x.mine in
        let g : table x.place x.one (m.agent_of z.label) ≤ f.past (m.agent_of z.label) =
        permits x.place x.other x.one (m.agent_of z.label) x.theirs x.collide in
        omega arith),
    knows zs table f h.1 permits,
  )

  clocked : (earlier later : List (Entry Agent Label)) (table : Table m accesses) → Holds earlier table
      → AreChecked m accesses earlier table later → AreClocked m earlier later
  clocked earlier [] table h k = tt
  clocked earlier (f ∷ fs) table h k =
      let c : IsChecked m accesses earlier table f k.0 = k.1 in (
        record {
          counted = c.counted;
          fresh = c.fresh;
          knows = c.knows;
          clashes = knows earlier table f h c.permits;
        },
        clocked (f ∷ earlier) fs k.0 (c.noted.notes, holds_more earlier table k.0 c.noted.grows h) k.2,
      )

pub checked_runs_have_no_race : (State Agent Label Place Mode : Type 0)
    → CheckedRunsHaveNoRace State Agent Label Place Mode
checked_runs_have_no_race State Agent Label Place Mode m accesses entries collide k =
    clocks_tell_races State Agent Label m entries (clocked m accesses collide [] entries (λ p k a. 0) tt k)
