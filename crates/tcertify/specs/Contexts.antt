-- The context of a process as the code keeps it, and what an instruction uses.
-- Source: own choice.
use Rattle.std.specs.Prelude.{false, List, Option, Some, None}
use Rattle.tprocesses.specs.Values as value
use Rattle.tprocesses.specs.Uses as uses
use Rattle.tcertify.specs.declared.context.Choice.{Choice}
use Rattle.tcertify.specs.declared.context.Context.{Context}
use Rattle.tcertify.specs.declared.context.Lent.{Lent}
use Rattle.tcertify.specs.declared.uses.Need.{Need}
use Rattle.tcertify.specs.declared.uses.Need.TheVariants as need
use Rattle.tcertify.specs.declared.uses.Origin.{Origin}
use Rattle.tcertify.specs.declared.uses.Origin.TheVariants as origin
use Rattle.tcertify.specs.declared.uses.Uses.{Uses}
use Rattle.tcertify.specs.Words.{number_of}

-- an output of a link that is not over, if there is one
abbrev pub lent_of : Option Lent → Option value.Lent
lent_of None = None
lent_of (Some l) = Some (record { link = l.link; buffer = l.buffer })

-- an alternative that is under way
abbrev pub choice_of : Choice → value.Choice
choice_of c = record { skips = c.skips }

-- an alternative, if there is one
abbrev pub choice_in : Option Choice → Option value.Choice
choice_in None = None
choice_in (Some c) = Some (choice_of c)

-- the context of a process
abbrev pub context_of : Context → value.Context
context_of c =
    record {
      priority = number_of c.priority;
      wptr = c.wptr;
      iptr = c.iptr;
      a = c.a;
      b = c.b;
      c = c.c;
      children = c.children;
      lent = lent_of c.lent;
      choice = choice_in c.choice;
    }

-- how many registers an instruction needs
abbrev pub need_of : Need → uses.Need
need_of need.Nothing = uses.NeedsNone
need_of need.A = uses.NeedsA
need_of need.AB = uses.NeedsAB
need_of need.ABC = uses.NeedsABC

-- where a value comes from
abbrev pub origin_of : Origin → uses.Origin
origin_of origin.Made = uses.Made
origin_of origin.FromA = uses.FromA
origin_of origin.FromB = uses.FromB
origin_of origin.FromC = uses.FromC
origin_of origin.FromMemory = uses.FromMemory

-- what an instruction uses that writes values of these origins
abbrev pub uses_with : Uses → List uses.Origin → uses.Uses
uses_with u written =
    record {
      needs = need_of u.needs;
      reads_known = u.reads_known;
      a = origin_of u.a;
      b = origin_of u.b;
      c = origin_of u.c;
      written = written;
    }

-- a row of what instructions use, told by its parts
abbrev pub row : Need → (a b c : Origin) → Uses
row needs a b c = record { needs = needs; reads_known = false; a = a; b = b; c = c }
