-- A step of a wire that only makes a process go on hands over no message.
use Rattle.std.proofs.Common.{◌≡◌, refl, sym, ap, subst, ◌∙◌, Bool, true, false, true≢false, Option, Some, None}
use Rattle.std.specs.List.{list_all}
use Rattle.std.specs.Prelude.{◌||◌, is_some}
use Rattle.std.proofs.lemmas.Bool.{and_parts}
use Rattle.tplan.specs.declared.plan.End.{End}
use Rattle.tplan.specs.declared.plan.Plan.{Plan}
use Rattle.tproc.specs.declared.channels.Side.TheVariants.{Input}
use Rattle.tagents.specs.Walks.{are_open, label_of, next_step, state_after}
use Rattle.tprocesses.specs.Places.{Name, LinkHalf}
use Rattle.tprocesses.specs.Values.{Value, Link, Stand, IsLink, Absent, Rests, Runs, Waits, Ended, Chooses, Chosen}
use Rattle.tprocesses.specs.Values.{Listens, link_in, stand_in, Fired}
use Rattle.tprocesses.specs.Parts.{Part, gives, stopping, seeing, changing, telling, Doing, HasNoStep, require, ◌>>=◌}
use Rattle.tprocesses.specs.Parts.{change, ◌>>◌}
use Rattle.tprocesses.specs.Choosing.{waiting, fires, with_choice}
use Rattle.tprocesses.specs.Machine.{Agent, Wire, Role, Processor, process_machine, role_at}
use Rattle.tprocesses.specs.Machine.{sender_to, gates_between, offer_place, take_place, is_open, is_offered, awaiting}
use Rattle.tprocesses.specs.Machine.{asks, crosses, passes, is_passable}
use Rattle.tseen.specs.AgentSteps.{AgentMakes}
use Rattle.tseen.proofs.After.{State, changed, deed_at, if_open}
use Rattle.tseen.proofs.Handed.{Tells, agent_told}
use Rattle.tprocesses.specs.Changes.{Put}
use Rattle.tprocesses.specs.Standing.{stands}

-- a part tells no message
abbrev pub IsSilent : {A : Type 0} → Part A → Type 0
IsSilent (gives x) = Unit {0}
IsSilent (stopping why) = Unit {0}
IsSilent (seeing p next) = (v : Value) → IsSilent (next v)
IsSilent (changing p c next) = IsSilent next
IsSilent (telling m next) = ⊥

-- nor do two of which neither does
silent_bind : {A B : Type 0} (part : Part A) (f : A → Part B) → IsSilent part → ((x : A) → IsSilent (f x))
    → IsSilent (part >>= f)
silent_bind (gives x) f h k = k x
silent_bind (stopping why) f h k = tt
silent_bind (seeing p next) f h k = λ v. silent_bind (next v) f (h v) k
silent_bind (changing p c next) f h k = silent_bind next f h k
silent_bind (telling m next) f h k = absurd h

-- so a step of which no part tells one hands over none
silent_told : (step : Doing) (s : State) → IsSilent step → Tells step s None (λ o. o ≡ None)
silent_told (gives x) s h = refl
silent_told (stopping why) s h = tt
silent_told (seeing p next) s h = silent_told (next (s p)) s (h (s p))
silent_told (changing p c next) s h = silent_told next (changed p c s) h
silent_told (telling m next) s h = absurd h

required_silent : (b : Bool) (rest : Doing) → IsSilent rest → IsSilent (require b HasNoStep >>= (λ _. rest))
required_silent true rest h = h
required_silent false rest h = tt

waiting_silent : (stand : Stand) → IsSilent (waiting stand)
waiting_silent (Chooses c) = tt
waiting_silent Absent = tt
waiting_silent (Rests c) = tt
waiting_silent (Runs c) = tt
waiting_silent (Waits c) = tt
waiting_silent Ended = tt
waiting_silent (Chosen c) = tt
waiting_silent (Listens channel c) = tt

pub fires_nothing : (e : End) (x : Name) → IsSilent (fires e x)
fires_nothing e x v =
    silent_bind (waiting (stand_in v)) (λ c. change (LinkHalf e Input) (Put (IsLink (Fired x))) >>
    stands x (Chosen (with_choice true c))) (waiting_silent (stand_in v)) (λ c. tt)

-- the gates of an agent that makes a step are open
pub makes_open : (p : Plan) (a : Agent) (s s' : State) → AgentMakes p a s s'
    → are_open (process_machine p) a s ≡ true
makes_open p a s s' m =
    by (are_open (process_machine p) a s)
    (subst (λ (b : Agent). next_step (process_machine p) b s ≡ Some (m.label, s')) m.agent m.step)
  where
    by : (t : Bool) → if_open t (label_of (process_machine p) a s, state_after (process_machine p) (deed_at p a s) s)
        ≡ Some (m.label, s') → t ≡ true
    by true e = refl
    by false e = cc

module _ (p : Plan) (s t : State) (e f : End) (joined : sender_to p e ≡ Some f) (role : role_at p e.node ≡ Processor)
    (h : Link) (half : s (LinkHalf e Input) ≡ IsLink h) (none : is_offered h ≡ false)
    (m : AgentMakes p (Wire e) s t) where
  -- the wire may go on there
  passable : (is_offered h || is_some (awaiting h)) ≡ true
  passable =
      let opened : list_all (λ q. is_open p (Wire e) q (s q)) (gates_between p e (Some f)) ≡ true =
      subst (λ (o : Option End). list_all (λ q. is_open p (Wire e) q (s q)) (gates_between p e o) ≡ true) joined
      (makes_open p (Wire e) s t m) in
      let taking = and_parts (is_open p (Wire e) (take_place (role_at p e.node) e)
      (s (take_place (role_at p e.node) e))) true (and_parts _ _ opened).1 in
      let there : is_open p (Wire e) (LinkHalf e Input) (s (LinkHalf e Input)) ≡ true =
      subst (λ (r : Role). is_open p (Wire e) (take_place r e) (s (take_place r e)) ≡ true) role taking.0 in
      (and_parts (is_some (sender_to p e)) _ (subst (λ (v : Value). is_open p (Wire e) (LinkHalf e Input) v ≡ true) half
      there)).1

  crosses_silent : (x : Name) → IsSilent (crosses p f e (Some x))
  crosses_silent x v =
      required_silent (is_passable (offer_place (role_at p f.node) f) v) (fires e x) (fires_nothing e x)

  -- where no process waits for a message at the input of a wire, its step hands over none
  pub fires_silent : m.label.deed.message ≡ None
  fires_silent = by (awaiting h) refl
    where
      by : (o : Option Name) → awaiting h ≡ o → m.label.deed.message ≡ None
      by None g = absurd (true≢false (sym passable ∙ ap (λ b. b || is_some (awaiting h)) none ∙ ap is_some g))
      by (Some x) g =
          agent_told p (Wire e) s t (λ o. o ≡ None) m
          (subst (λ (o : Option End). Tells (passes p o e) s None (λ o. o ≡ None)) (sym joined)
          (subst (λ (r : Role). Tells (asks r e >>= crosses p f e) s None (λ o. o ≡ None)) (sym role)
          (subst (λ (v : Value). Tells (crosses p f e (awaiting (link_in v))) s None (λ o. o ≡ None)) (sym half)
          (subst (λ (o : Option Name). Tells (crosses p f e o) s None (λ o. o ≡ None)) (sym g)
          (silent_told (crosses p f e (Some x)) s (crosses_silent x))))))
