-- A step as a call on one node.
-- Source: own choice.
use Rattle.std.specs.Prelude.{◌≡◌, [], Bool, Contains, Result, length, true}
use Rattle.tprocesses.specs.Parts.{Doing}
use Rattle.tcertify.specs.declared.fault.Fault.{Fault}
use Rattle.tcertify.specs.declared.node.Node.{Node}
use Rattle.tcertify.specs.declared.notes.Note.{Note}
use Rattle.tcertify.specs.Nodes.{Does, nothing}

-- a node as it was, with other notes and no leads; the next place that comes there may have another number
pub record IsAfresh (old new : Node) : Type 0 where
  pub same : new ≡ record old {
    words = record old.words { notes = new.words.notes };
    leads = new.leads;
    fresh_place = new.fresh_place;
  }
  pub leads : new.leads.items ≡ []

-- each note is one of earlier steps, and was there before. There is one only if the agent goes on, and there was no
-- lead
pub record Recalls (goes_on : Bool) (old new : Node) : Type 0 where
  pub earlier : new.words.notes.earlier ≡ length new.words.notes.items.items
  pub notes : (note : Note) → Contains new.words.notes.items.items note
      → (goes_on ≡ true) × (old.leads.items ≡ []) × Contains old.words.notes.items.items note

-- a call on a node begins afresh and does a part
pub record DoesAfresh (goes_on : Bool) (part : Doing) (old : Node) (result : Result (Unit {0}) Fault) (new : Node)
    : Type 0 where
  pub begun : Node
  pub afresh : IsAfresh old begun
  pub recalls : Recalls goes_on old begun
  pub does : Does part nothing begun result new
