-- The process that waits at an internal channel to which another comes.
use Rattle.std.proofs.Common.{◌⊎◌, inl, inr}
use Rattle.std.proofs.Common.{None}
use Rattle.tseen.specs.Choices.{enabler_at}
use Rattle.std.proofs.Common.{◌≡◌, ◌≢◌, ℕ, refl, sym, ap, subst, ◌∙◌, Bool, true, false, Option, Some, arith}
use Rattle.std.specs.Prelude.{is_some, IfSome}
use Rattle.std.proofs.lemmas.Bool.{eq-eqb}
use Rattle.tword.specs.Stores.{Store, word_at}
use Rattle.tproc.specs.declared.waiter.Reason.TheVariants as waiting
use Rattle.tproc.specs.declared.channels.Side.{Side}
use Rattle.tproc.specs.declared.channels.Side.TheVariants.{Input, Output}
use Rattle.tproc.specs.declared.waiter.Reason.{Reason}
use Rattle.tproc.specs.declared.waiter.Reason.TheVariants.{LinkOutput}
use Rattle.tproc.specs.Machine.{Control}
use Rattle.tproc.specs.Queues.{not_process}
use Rattle.tproc.specs.ProcessStatus.{reason_of}
use Rattle.tplan.specs.declared.plan.Plan.{Plan}
use Rattle.tnet.specs.Rendezvous.{Configuration}
use Rattle.tprocesses.specs.Places.{Name, Standing, Half, HasRun, same_name, same_place}
use Rattle.tprocesses.specs.Values.{Chosen, Listens, Chooses, TakenBy, Value, Context, Stand, Absent, Rests, Runs}
use Rattle.tprocesses.specs.Values.{Waits, Ended, Request, IsStand}
use Rattle.tprocesses.specs.Values.{IsHalf}
use Rattle.tprocesses.specs.Values.{IsFlag}
use Rattle.tprocesses.specs.Touching.{Site}
use Rattle.tprocesses.specs.Standing.{forget}
use Rattle.tprocesses.specs.Machine.{site_of}
use Rattle.tseen.specs.Known.{HasSaved}
use Rattle.tseen.specs.Seats.{Seat, Waiting}
use Rattle.tseen.specs.Halves.{IsTakenHalf, reason_at}
use Rattle.tseen.specs.Processes.{Fits, IsSeated, context_in}
use Rattle.tseen.specs.Shown.{ShowsNode}
use Rattle.tseen.specs.Steps.{IsCurrent}
use Rattle.tseen.proofs.After.{State}
use Rattle.tseen.proofs.Running.{RunsThere}
use Rattle.tseen.proofs.Stepped.{shown_node, there}
use Rattle.tseen.proofs.Others.{other_name, is_running}
use Rattle.tseen.proofs.AtOperation.{context_at}
use Rattle.tseen.proofs.Asked.{side_of, buffer_for}
use Rattle.tseen.proofs.Meeting.{AreThere}
use Rattle.tseen.proofs.Taken.{HasTaken, opposite, was_engaged, other_held, OtherTaken}
use Rattle.tseen.proofs.TakenWords.{at, own_half, tells_before}

-- a process waits there
abbrev is_waiting : Value → Bool
is_waiting (IsStand (Waits c)) = true
is_waiting _ = false

-- the sides of a channel are two
pub sides_apart : (n channel : ℕ) (side : Side)
    → same_place (Half n channel side) (Half n channel (opposite side)) ≡ false
sides_apart n channel Input = rw (eq-eqb n n refl, eq-eqb channel channel refl) refl
sides_apart n channel Output = rw (eq-eqb n n refl, eq-eqb channel channel refl) refl

no_choice : (a : Side) (channel : ℕ) (q : Request) → reason_at a channel q.buffer ≡ waiting.Chooses → ⊥
no_choice Input channel q e = cc
no_choice Output channel q e = cc

no_link : (a : Side) (channel l : ℕ) (q : Request) → reason_at a channel q.buffer ≡ LinkOutput l → ⊥
no_link Input channel l q e = cc
no_link Output channel l q e = cc

module _ (p : Plan) (c : Configuration) (s : State) (n : ℕ) (x : Name) (k : IsCurrent p c s n x) (v : State)
    (h : HasTaken p c s n x k v)
    (differs : (word_at k.node.machine.store k.node.machine.control.registers.b ≢ not_process)
    × (enabler_at s n k.node.machine.control.registers.b ≡ None)) where
  abbrev m : Control
  m = k.node.machine.control

  abbrev store : Store
  store = k.node.machine.store

  abbrev site : Site
  site = site_of n k.plan

  abbrev running : RunsThere s n k.plan k.node x
  running = there p c s n x k

  abbrev shown : ShowsNode s n k.plan (k.shows.named n) (k.shows.sent n) k.node
  shown = shown_node p c s n x k

  abbrev named : Seat → Name
  named = k.shows.named n

  abbrev side : Side
  side = side_of h.operation

  abbrev channel : ℕ
  channel = m.registers.b

  met : (q : Request) × (s (Half n channel (opposite side)) ≡ IsHalf (TakenBy q))
      × IsTakenHalf s n named k.node.machine channel (opposite side) q
  met = by (other_held p c s n x k v h (was_engaged p c s n x k v h differs.0))
    where
      nobody : {y : Name} → None ≡ Some y → ⊥
      nobody e = cc

      by : OtherTaken p c s n x k v h ⊎ ((y : Name) × (enabler_at s n channel ≡ Some y)) → OtherTaken p c s n x k v h
      by (inl t) = t
      by (inr (y, e)) = absurd (nobody (sym differs.1 ∙ e))

  -- what the two ask for
  pub asked : Request
  asked = met.0

  pub asked_half : s (Half n channel (opposite side)) ≡ IsHalf (TakenBy asked)
  unfolding asked
  asked_half = met.1

  pub half : IsTakenHalf s n named k.node.machine channel (opposite side) asked
  unfolding asked
  half = met.2

  abbrev pub own : Request
  own = record { process = x; buffer = buffer_for h.operation m.registers }

  pub partner : ℕ
  partner = half.process

  abbrev y : Name
  y = asked.process

  pub name_is : named (Waiting partner) ≡ y
  unfolding partner
  name_is = half.name

  pub waits : reason_of m partner ≡ Some (reason_at (opposite side) channel asked.buffer)
  unfolding partner
  waits = half.waits

  pub finds : word_at store channel ≡ partner
  unfolding partner
  finds = half.channel_word

  pub is_there : is_some (reason_of m partner) ≡ true
  is_there = subst (λ (z : Option Reason). is_some z ≡ true) (sym waits) refl

  -- how it stands
  pub record IsPartner : Type 0 where
    pub context : Context
    pub stood : s (Standing y) ≡ IsStand (Waits context)
    pub saved : HasSaved store partner context
    pub home : y.node ≡ n
    pub has_run : s (HasRun n context.priority) ≡ IsFlag true

  pub stands_there : IsPartner
  stands_there = with_seat (shown.processes.seated (Waiting partner) is_there)
    where
      one_reason : {a b : Reason} → Some a ≡ Some b → a ≡ b
      one_reason e = cc

      by_stand : IsSeated s n k.node (Waiting partner) (named (Waiting partner)) → (stand : Stand)
          → s (Standing (named (Waiting partner))) ≡ IsStand stand → Fits k.node (Waiting partner) stand
          → IfSome (context_in stand) (λ d. s (HasRun n d.priority) ≡ IsFlag true) → IsPartner
      by_stand q (Waits d) e f r =
          record {
            context = d;
            stood = ap (λ z. s (Standing z)) (sym name_is) ∙ e;
            saved = f.0;
            home = subst (λ (z : Name). z.node ≡ n) name_is q.home;
            has_run = r;
          }
      by_stand q (Rests d) e f r =
          absurd (no_link (opposite side) channel f.1.0 asked (one_reason (sym waits ∙ f.1.1)))
      by_stand q Absent e f r = absurd f
      by_stand q (Runs d) e f r = absurd f
      by_stand q Ended e f r = absurd f
      by_stand q (Chooses d) e f r =
          absurd (no_choice (opposite side) channel asked (one_reason (sym waits ∙ f.2)))
      by_stand q (Chosen d) e f r = absurd f
      by_stand q (Listens channel d) e f r = absurd f

      with_seat : IsSeated s n k.node (Waiting partner) (named (Waiting partner)) → IsPartner
      with_seat q = by_stand q q.stand q.stands q.fits q.has_run

  -- the two are two
  pub apart : same_name x y ≡ false
  apart =
      other_name p s x y (Runs running.context) (Waits stands_there.context) is_running running.stood
      stands_there.stood refl refl

  pub apart_back : same_name y x ≡ false
  apart_back =
      other_name p s y x (Waits stands_there.context) (Runs running.context) is_waiting stands_there.stood
      running.stood refl refl

  -- a descriptor that has its name is its own
  pub only_partner : (b : ℕ) → is_some (reason_of m b) ≡ true → named (Waiting b) ≡ y → b ≡ partner
  only_partner b g e = with_seat (shown.processes.seated (Waiting b) g)
    where
      one_stand : (a : Stand) → IsStand a ≡ IsStand (Waits stands_there.context) → a ≡ Waits stands_there.context
      one_stand a e = cc

      with_seat : IsSeated s n k.node (Waiting b) (named (Waiting b)) → b ≡ partner
      with_seat q =
          let f : Fits k.node (Waiting b) (Waits stands_there.context) =
          subst (Fits k.node (Waiting b)) (one_stand q.stand (sym q.stands ∙ ap (λ z. s (Standing z)) e
          ∙ stands_there.stood)) q.fits in
          omega (
            arith,
            f.0.priority,
            f.0.wptr,
            stands_there.saved.priority,
            stands_there.saved.wptr,
          )

  -- both are at the channel after the first step
  pub both_there : AreThere site running.whole p channel side own asked (forget (context_at p c s n x k h.size))
      stands_there.context v
  both_there =
      record {
        words = (tells_before p c s n x k v h).words;
        own_half = own_half p c s n x k v h;
        other_half = at p c s n x k v h (Half n channel (opposite side)) refl (sides_apart n channel side) refl
            ∙ asked_half;
        own_waits = h.taken.waits.is;
        other_waits = at p c s n x k v h (Standing y) refl refl apart ∙ stands_there.stood;
        apart = apart;
        apart_back = apart_back;
      }
