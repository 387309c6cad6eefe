-- Whether a message is offered at an end behind the nodes.
use Rattle.std.proofs.Common.{◌≡◌, ◌<◌, ◌≤◌, ◌-◌, ◌+◌, ◌∙◌, ℕ, refl, sym, ap, subst, inl, Bool, true, false, [], ◌∷◌}
use Rattle.std.proofs.Common.{Option, Some, None, Ok, length}
use Rattle.std.specs.Prelude.{nat_lt, slice_get, if◌then◌else◌}
use Rattle.std.proofs.lemmas.List.Elements.{All-cons, All-nil}
use Rattle.tproc.specs.declared.channels.Side.TheVariants.{Output}
use Rattle.tplan.specs.declared.plan.End.{End}
use Rattle.tplan.specs.declared.plan.Plan.{Plan}
use Rattle.tagents.specs.WalkAccesses as walks
use Rattle.tprocesses.specs.Machine.{Nothing, Processor, Role, Sink, Source, offer_place, offers, role_at}
use Rattle.tprocesses.specs.Places.{LinkHalf}
use Rattle.tcertify.specs.declared.node.Node.{Node}
use Rattle.tcertify.specs.declared.notes.Mode.TheVariants as noted
use Rattle.tcertify.specs.declared.notes.Notes.{Notes}
use Rattle.tcertify.specs.Notes.{AreNoted, IsNoted, Keeps, Numbering, Tells, tells_of}
use Rattle.tcertify.specs.Walked.{look_at}
use Rattle.tcertify.proofs.NodeRunning.{grows_not, keeps_all}
use Rattle.tverdict.specs.declared.machine.Machine.{Machine}
use Rattle.tverdict.specs.Passing.{IsOfferPlace, NumbersMachine, RunsHalf, notes_or}
use Rattle.tverdict.specs.Wires.{has_message}
use Rattle.tverdict.proofs.Half.{past_sources, role_source}

-- the number of the place of a source, by its node
pub source_place : (plan : Plan) (m : Machine) (e : End) (number : ℕ) → length plan.nodes ≤ e.node
    → e.node - length plan.nodes < length plan.sources → number ≡ m.first_script + e.node
    → IsOfferPlace plan m e number
source_place plan m e number past low at = λ numbering nm.
    ap (λ (r : Role). numbering (offer_place r e)) (role_source plan e.node past low) ∙ nm.messages e ∙ sym at

-- all ends at which nobody offers anything have one place
pub nobody_place : (plan : Plan) (m : Machine) (e : End) → length plan.nodes ≤ e.node
    → length plan.sources ≤ e.node - length plan.nodes → slice_get m.nodes.items e.node ≡ None
    → IsOfferPlace plan m e m.first_script
nobody_place plan m e past high none = λ numbering nm.
    ap (λ (r : Role). numbering (offer_place r e)) (past_sources plan e.node past high)
    ∙ by numbering (nat_lt e.node (length plan.nodes + length plan.sources + length plan.sinks))
    ∙ nm.nowhere e Output none
  where
    by : (numbering : Numbering) (b : Bool)
        → numbering (offer_place (if b then Sink else Nothing) e) ≡ numbering (LinkHalf e Output)
    by numbering true = refl
    by numbering false = refl

-- a look at the place of an end
module _ (plan : Plan) (m : Machine) (e : End) (none : slice_get m.nodes.items e.node ≡ None) (place : ℕ)
    (is : IsOfferPlace plan m e place) (before after : Notes) (kept : Keeps before after)
    (tells : Tells after place noted.Looks) where
  is_look : (r : Role) → tells_of noted.Looks (offer_place r e) walks.Looks ≡ true
  is_look Processor = refl
  is_look Source = refl
  is_look Sink = refl
  is_look Nothing = refl

  keeps_by : (o : Option Node) → Keeps (notes_or before o) (notes_or after o)
  keeps_by None = kept
  keeps_by (Some node) = keeps_all node.words.notes

  noted_by : (numbering : Numbering) → NumbersMachine numbering m
      → AreNoted numbering after (look_at (offer_place (role_at plan e.node) e) ∷ [])
  noted_by numbering nm lost = let q = offer_place (role_at plan e.node) e in
      All-cons (IsNoted numbering after.items.items) (look_at q) []
      (tells.noted lost numbering (look_at q) (is numbering nm) (is_look (role_at plan e.node)))
      (All-nil (IsNoted numbering after.items.items))

  pub offers_half : RunsHalf plan (offers plan e) e.node m before (Ok (has_message plan m e)) m after
  offers_half = let q = offer_place (role_at plan e.node) e in
      record {
        runs = refl;
        goes = record {
          nodes = record { many = refl; grow = λ k a at. (a, at, grows_not a) };
          others = λ k other. refl;
          sent = refl;
          sinks = refl;
          places = λ k p has. has;
          same = refl;
        };
        keeps = λ k. keeps_by (slice_get m.nodes.items k);
        noted = λ numbering nm.
            subst (λ (o : Option Node). AreNoted numbering (notes_or after o) (look_at q ∷ [])) (sym none)
            (noted_by numbering nm);
        led = λ k b l at has. inl (b, at, has);
      }
