-- When an agent has a step, and to whose steps a step leads.
use Rattle.std.proofs.Common.{◌≡◌, ℕ, inl, inr, refl, sym, ap, ◌∙◌, subst, Bool, true, false, ◌&&◌, Option}
use Rattle.std.proofs.Common.{Some, None}
use Rattle.std.specs.Prelude.{is_some}
use Rattle.std.specs.List.{list_all}
use Rattle.tproc.specs.declared.channels.Side.{Side}
use Rattle.tproc.specs.declared.channels.Side.TheVariants.{Input, Output}
use Rattle.tplan.specs.declared.plan.End.{End}
use Rattle.tplan.specs.declared.plan.Plan.{Plan}
use Rattle.tagents.specs.Walks.{are_open}
use Rattle.tagents.specs.Tidy.{IsOneOf, IsGate}
use Rattle.tprocesses.specs.Places.{Place, Name, WordAt, Standing, Half, LinkHalf}
use Rattle.tprocesses.specs.Values.{Value, Nobody, Empty, IsStand, IsHalf, IsLink}
use Rattle.tprocesses.specs.Values.{stand_in, half_in, link_in}
use Rattle.tprocesses.specs.Machine.{Process, Channel, Wire, Successor, Role, Processor, role_at, offer_place}
use Rattle.tprocesses.specs.Machine.{take_place, sender_to, gates_between, is_ready, is_due_at, is_passable, is_open}
use Rattle.tprocesses.specs.Machine.{is_met_at, process_machine}
use Rattle.tcertify.specs.Running.{State}
use Rattle.tfollow.specs.Opening.{AgentsAreOpenBy, StepsLeadBy}

process-open : (plan : Plan) (x : Name) (q : Place) (v : Value) → is_open plan (Process x) q v ≡ is_ready (stand_in v)
process-open plan x q (IsStand s) = refl
process-open plan x q _ = refl

-- no channel may go on where nobody is
not-met : (q : Place) → is_met_at q Nobody ≡ false
not-met (Half n c Input) = refl
not-met _ = refl

channel-open : (plan : Plan) (n c : ℕ) (q : Place) (v : Value)
    → is_open plan (Channel n c) q v ≡ is_met_at q (half_in v)
channel-open plan n c q (IsHalf h) = refl
channel-open plan n c q _ = sym (not-met q)

-- no wire may go on where nothing is pending
not-due : (side : Side) → is_due_at side Empty ≡ false
not-due Input = refl
not-due Output = refl

link-passable : (e : End) (side : Side) (v : Value) → is_passable (LinkHalf e side) v ≡ is_due_at side (link_in v)
link-passable e side (IsLink l) = refl
link-passable e side _ = sym (not-due side)

and-false : (b : Bool) → (b && false) ≡ false
and-false true = refl
and-false false = refl

and-true : (b : Bool) → (b && true) ≡ b
and-true true = refl
and-true false = refl

module _ (plan : Plan) (s : State) where
  -- a wire has a step, by the end that sends
  abbrev opens_with : End → Option End → Bool
  opens_with e t = list_all (λ q. is_some t && is_passable q (s q)) (gates_between plan e t)

  wire-open : (e : End) (t : Option End) → sender_to plan e ≡ t
      → are_open (process_machine plan) (Wire e) s ≡ opens_with e t
  wire-open e t h = ap (opens_with e) h

pub agents_are_open_by : AgentsAreOpenBy
agents_are_open_by plan s =
    record {
      process = λ x. and-true _ ∙ process-open plan x (Standing x) (s (Standing x));
      channel = λ n c. (λ i. channel-open plan n c (Half n c Input) (s (Half n c Input)) i
          && (and-true (is_open plan (Channel n c) (Half n c Output) (s (Half n c Output)))
          ∙ channel-open plan n c (Half n c Output) (s (Half n c Output))) i);
      wire = λ e f h. wire-open plan s e (Some f) h
          ∙ ap (λ (t : Bool).
          is_passable (offer_place (role_at plan f.node) f) (s (offer_place (role_at plan f.node) f)) && t)
          (and-true (is_passable (take_place (role_at plan e.node) e) (s (take_place (role_at plan e.node) e))));
      no_wire = λ e h. wire-open plan s e None h;
      successor = λ n k word h. and-true _ ∙ ap (λ (v : Value). is_open plan (Successor n k) (WordAt n k) v) h;
    }

module _ (plan : Plan) where
  half-gate : (n c : ℕ) (side : Side) → IsGate (process_machine plan) (Channel n c) (Half n c side)
  half-gate n c Input = inl refl
  half-gate n c Output = inr (inl refl)

  -- an end at which a node receives is a gate of its wire, and one at which it sends
  input-gate : (e : End) → role_at plan e.node ≡ Processor → IsGate (process_machine plan) (Wire e) (LinkHalf e Input)
  input-gate e role = by (sender_to plan e)
    where
      by : (t : Option End) → IsOneOf (LinkHalf e Input) (gates_between plan e t)
      by (Some f) = inr (inl (ap (λ (r : Role). take_place r e) role))
      by None = inl refl

  output-gate : (e f : End) → sender_to plan e ≡ Some f → role_at plan f.node ≡ Processor
      → IsGate (process_machine plan) (Wire e) (LinkHalf f Output)
  output-gate e f from role =
      subst (λ (t : Option End). IsOneOf (LinkHalf f Output) (gates_between plan e t)) (sym from)
      (inl (ap (λ (r : Role). offer_place r f) role))

  wire-shut : (e end : End) (side : Side) (v : Value) → is_due_at side (link_in v) ≡ false
      → is_open plan (Wire e) (LinkHalf end side) v ≡ false
  wire-shut e end side v h =
      ap (λ (t : Bool). is_some (sender_to plan e) && t) (link-passable end side v ∙ h)
      ∙ and-false (is_some (sender_to plan e))

pub steps_lead_by : StepsLeadBy
steps_lead_by plan a s =
    record {
      process = λ x v has shut. inl (record {
        place = Standing x;
        value = v;
        gate = inl refl;
        seen = has;
        shut = process-open plan x (Standing x) v ∙ shut;
      });
      channel = λ n c side v has shut. inl (record {
        place = Half n c side;
        value = v;
        gate = half-gate plan n c side;
        seen = has;
        shut = channel-open plan n c (Half n c side) v ∙ shut;
      });
      input = λ e v role has shut. inl (record {
        place = LinkHalf e Input;
        value = v;
        gate = input-gate plan e role;
        seen = has;
        shut = wire-shut plan e e Input v shut;
      });
      output = λ e f v from role has shut. inl (record {
        place = LinkHalf f Output;
        value = v;
        gate = output-gate plan e f from role;
        seen = has;
        shut = wire-shut plan e f Output v shut;
      });
      count = λ n k p has. inr (record {
        node = n;
        word = k;
        priority = p;
        successor = refl;
        counted = has;
      });
    }
