-- What stays of the machine where nodes grow, and sources and sinks go on.
use Rattle.std.proofs.Common.{◌≡◌, ◌<◌, ◌+◌, ℕ, refl, sym, ap, ◌∙◌, subst, List, Some, Result, arith, length}
use Rattle.std.specs.Prelude.{slice_get}
use Rattle.std.proofs.lemmas.List.Elements.{All-weaker}
use Rattle.tplan.specs.declared.plan.Plan.{Plan}
use Rattle.tclocks.specs.Checks.{Check, with_places}
use Rattle.tprocesses.specs.Machine as machine
use Rattle.tprocesses.specs.Parts.{Part, Reason}
use Rattle.tprocesses.specs.Places.{Place}
use Rattle.tprocesses.specs.Certified.{ProcessStep}
use Rattle.tcertify.specs.declared.node.Node.{Node}
use Rattle.tcertify.specs.declared.notes.Notes.{Notes}
use Rattle.tcertify.specs.declared.sink.Sink.{Sink}
use Rattle.tcertify.specs.Running.{State}
use Rattle.tfollow.specs.Following.{IsFollowed}
use Rattle.tfollow.specs.Numbering.{AgentNumbers}
use Rattle.tfollow.proofs.Growing.{places_may_come}
use Rattle.std.proofs.lemmas.List.{append-nil}
use Rattle.tverdict.specs.declared.machine.Machine.{Machine}
use Rattle.tverdict.specs.Agents.{IsThere}
use Rattle.tverdict.specs.Machines.{AreNodesOf, IsSound, agents, places}
use Rattle.tverdict.specs.Passing.{GoesOn, NodesGrow}
use Rattle.tverdict.specs.Stepping.{Fits}
use Rattle.tverdict.specs.Verdicts.{AreTellable}
use Rattle.tverdict.specs.Wired.{RunsAtTwo}
use Rattle.tverdict.proofs.Staying.{agents_stay, number_kept, places_stay, there_stays, was_there}

-- a check to which no places were added
no_places : (check : Check) → with_places 0 check ≡ check
no_places check = ap (λ (ps : List _). record check { places = ps }) (append-nil check.places)

-- nodes of a plan stay so
nodes_stay : (plan : Plan) (nodes others : List Node) → NodesGrow nodes others → AreNodesOf plan nodes
    → AreNodesOf plan others
nodes_stay plan nodes others g are =
    record {
      many = g.many ∙ are.many;
      numbers = λ k y at. let (x, by, grows) = was_there nodes others g k y at in
          number_kept x y grows ∙ are.numbers k x by;
      sites = λ k y p at planned. let (x, by, grows) = was_there nodes others g k y at in
          grows.site ∙ are.sites k x p by planned;
    }

-- the machine where nodes have grown, and sources and sinks have gone on
module _ (plan : Plan) (m m' : Machine) (g : NodesGrow m.nodes.items m'.nodes.items) (f : Fits plan m)
    (sent : length m'.sent.items ≡ length m.sent.items) (sinks : length m'.sinks.items ≡ length m.sinks.items)
    (kept : (k : ℕ) (s : Sink) → slice_get m'.sinks.items k ≡ Some s
    → s.place ≡ m.first_script + (length plan.nodes + length plan.sources + k)) where
  abbrev pub it : Machine
  it = record m { nodes = m'.nodes; sent = m'.sent; sinks = m'.sinks; idle = m'.idle }

  pub agents_same : agents it ≡ agents m
  agents_same = agents_stay m.nodes.items m'.nodes.items g m.agents.items f.there

  places_same : (p : Place) → places m p < length m.check.places → places it p ≡ places m p
  places_same p low =
      places_stay m.nodes.items m'.nodes.items g m.first_script f.nodes.numbers p (omega (arith, low, f.places, f.few))

  pub followed_on : (group : AgentNumbers) (steps : List ProcessStep) (s : State)
      → IsFollowed plan (places m) group (agents m) steps m.check s
      → IsFollowed plan (places it) group (agents it) steps m.check s
  followed_on group steps s h =
      subst (λ (list : List machine.Agent). IsFollowed plan (places it) group list steps m.check s) (sym agents_same)
      (subst (λ (c : Check). IsFollowed plan (places it) group (agents m) steps c s) (no_places m.check)
      (places_may_come plan (places m) (places it) group (agents m) steps m.check s 0 h places_same))

  pub fits_on : Fits plan it
  fits_on =
      record {
        nodes = nodes_stay plan m.nodes.items m'.nodes.items g f.nodes;
        sent = sent ∙ f.sent;
        sinks = sinks ∙ f.sinks;
        wires = f.wires;
        there = All-weaker (IsThere m.nodes.items) (IsThere m'.nodes.items)
            (there_stays m.nodes.items m'.nodes.items g) m.agents.items f.there;
        candidates = f.candidates;
        places = f.places;
        few = f.few;
        kept_places = kept;
      }

-- what fits together of a machine that is sound
pub fits_sound : (plan : Plan) (m : Machine) → IsSound plan m → Fits plan m
fits_sound plan m s =
    record {
      nodes = s.nodes;
      sent = s.sent;
      sinks = s.sinks;
      wires = s.wires;
      there = s.there;
      candidates = s.candidates;
      places = s.places;
      few = s.few;
      kept_places = s.kept_places;
    }

-- the machine where one of it has gone on
pub goes_fits : (plan : Plan) (n : ℕ) (m m' : Machine) → GoesOn n m m' → Fits plan m → Fits plan m'
goes_fits plan n m m' goes f =
    subst (Fits plan)
    (ap (λ (x : Machine). record m { nodes = m'.nodes; sent = m'.sent; sinks = m'.sinks; idle = x.idle })
    goes.same ∙ sym goes.same)
    (fits_on plan m m' goes.nodes f goes.sent goes.sinks
    (λ k s at. let (t, by, e) = goes.places k s.place (s, at, refl) in sym e ∙ f.kept_places k t by))

-- the machine where a part at two nodes is done
pub two_fits : {A : Type 0} {part : Part A} {answer : Result A Reason} (plan : Plan) (n o : ℕ) (m m' : Machine)
    (before after : Notes) → RunsAtTwo plan part n o m before answer m' after → Fits plan m → Fits plan m'
two_fits plan n o m m' before after ran f =
    subst (Fits plan)
    (ap (λ (x : Machine). record m { nodes = m'.nodes; sent = m'.sent; sinks = m'.sinks; idle = x.idle })
    ran.same ∙ sym ran.same)
    (fits_on plan m m' ran.nodes f ran.sent ran.sinks
    (λ k s at. let (t, by, e) = ran.places k s.place (s, at, refl) in sym e ∙ f.kept_places k t by))

-- its agents can be told of
pub tellable_fits : (plan : Plan) (m : Machine) → Fits plan m → AreTellable m
tellable_fits plan m f = record { there = f.there; numbers = f.nodes.numbers }
