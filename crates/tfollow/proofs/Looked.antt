-- A step that does not stop looks at all gates of its agent.
use Rattle.std.proofs.Common.{◌≡◌, inl, inr, refl, sym, ap, ◌∙◌, subst, List, [], ◌∷◌, ◌++◌, Option, Some, None, Result}
use Rattle.std.proofs.Common.{Ok, Err, slice_get}
use Rattle.tword.specs.Stores.{Store}
use Rattle.tplan.specs.declared.plan.End.{End}
use Rattle.tplan.specs.declared.plan.NodePlan.{NodePlan}
use Rattle.tplan.specs.declared.plan.Plan.{Plan}
use Rattle.tagents.specs.Tidy.{IsOneOf}
use Rattle.tprocesses.specs.Places.{Place, Name}
use Rattle.tprocesses.specs.Parts.{Reason, Part, gives, stopping, seeing, changing, telling, Doing, done, HasNoStep}
use Rattle.tprocesses.specs.Parts.{◌>>=◌}
use Rattle.tprocesses.specs.ChannelMessages.{channel_step}
use Rattle.tprocesses.specs.LinkMessages.{node_sends, node_receives}
use Rattle.tprocesses.specs.Scheduling.{successor_step}
use Rattle.tprocesses.specs.Machine.{Agent, Process, Channel, Wire, Successor, Role, Processor, Source, Sink, Nothing}
use Rattle.tprocesses.specs.Machine.{role_at, site_of, sender_to, offer_place, take_place, gates_between, gates, sends}
use Rattle.tprocesses.specs.Machine.{receives, asks, crosses, passes, step_of}
use Rattle.tcertify.specs.Running.{State, changed, run_part}
use Rattle.tcertify.specs.Walked.{looks}
use Rattle.tcertify.proofs.Running.{run_bind, run_on, run_next}

in-first : {X : Type 0} (x : X) (xs ys : List X) → IsOneOf x xs → IsOneOf x (xs ++ ys)
in-first x [] ys h = absurd h
in-first x (z ∷ zs) ys (inl h) = inl h
in-first x (z ∷ zs) ys (inr h) = inr (in-first x zs ys h)

in-second : {X : Type 0} (x : X) (xs ys : List X) → IsOneOf x ys → IsOneOf x (xs ++ ys)
in-second x [] ys h = h
in-second x (z ∷ zs) ys h = inr (in-second x zs ys h)

-- what is looked at after an answer
abbrev looks_next : {A B : Type 0} → (A → Part B) → Result A Reason × State → List Place
looks_next f (Ok x, s) = looks (f x) s
looks_next f (Err why, s) = []

looks-bind : {A B : Type 0} (p : Part A) (f : A → Part B) (s : State)
    → looks (p >>= f) s ≡ looks p s ++ looks_next f (run_part p s)
looks-bind (gives x) f s = refl
looks-bind (stopping why) f s = refl
looks-bind (seeing p next) f s = ap (λ (ps : List Place). p ∷ ps) (looks-bind (next (s p)) f s)
looks-bind (changing p c next) f s = looks-bind next f (changed p c s)
looks-bind (telling m next) f s = looks-bind next f s

-- a part that answers
record Answers {A : Type 0} (p : Part A) (s : State) : Type 0 where
  value : A
  after : State
  run : run_part p s ≡ (Ok value, after)

-- a part that stops does not answer
none-answers : {A : Type 0} (why : Reason) (s u : State) (x : A) → run_part (stopping why) s ≡ (Ok x, u) → ⊥
none-answers {A} why s u x h = no-error (ap (λ (r : Result A Reason × State). r.0) h)
  where
    no-error : Err why ≡ Ok x → ⊥
    no-error e = cc

-- the first of two parts answers where both do
first-answers : {A B : Type 0} (p : Part A) (f : A → Part B) (s u : State) (y : B) → run_part (p >>= f) s ≡ (Ok y, u)
    → Answers p s
first-answers {A} {B} p f s u y h = by (run_part p s) refl (sym (run_bind p f s) ∙ h)
  where
    by : (r : Result A Reason × State) → run_part p s ≡ r → run_next f r ≡ (Ok y, u) → Answers p s
    by (Ok x, t) e h = record { value = x; after = t; run = e }
    by (Err why, t) e h = absurd (none-answers why t u y h)

module _ (s u : State) (q : Place) where
  -- a look of the first part, or of the second
  by-first : {A B : Type 0} (p : Part A) (f : A → Part B) → IsOneOf q (looks p s) → IsOneOf q (looks (p >>= f) s)
  by-first p f h = subst (λ (ps : List Place). IsOneOf q ps) (sym (looks-bind p f s)) (in-first q (looks p s) _ h)

  by-second : {A B : Type 0} (p : Part A) (f : A → Part B) (a : Answers p s) → IsOneOf q (looks (f a.value) a.after)
      → IsOneOf q (looks (p >>= f) s)
  by-second p f a h =
      subst (λ (ps : List Place). IsOneOf q ps) (sym (looks-bind p f s))
      (in-second q (looks p s) (looks_next f (run_part p s))
      (subst (λ (ps : List Place). IsOneOf q ps) (sym (ap (looks_next f) a.run)) h))

module _ (plan : Plan) where
  -- the end that sends is looked at
  sender-looked : (r : Role) (f : End) (s u : State) (message : Store) → run_part (sends plan r f) s ≡ (Ok message, u)
      → IsOneOf (offer_place r f) (looks (sends plan r f) s)
  sender-looked Processor f s u message h = by (slice_get plan.nodes f.node) h
    where
      by : (t : Option NodePlan)
          → run_part (elim t [ Some node ↦ node_sends f (site_of f.node node) | None ↦ stopping HasNoStep ]) s
          ≡ (Ok message, u)
          → IsOneOf (offer_place Processor f)
          (looks (elim t [ Some node ↦ node_sends f (site_of f.node node) | None ↦ stopping HasNoStep ]) s)
      by (Some node) h = inl refl
      by None h = absurd (none-answers HasNoStep s u message h)
  sender-looked Source f s u message h = inl refl
  sender-looked Sink f s u message h = absurd (none-answers HasNoStep s u message h)
  sender-looked Nothing f s u message h = absurd (none-answers HasNoStep s u message h)

  -- and the end that receives
  receiver-looked : (r : Role) (e : End) (message : Store) (s u : State)
      → run_part (receives plan r e message) s ≡ (Ok tt, u)
      → IsOneOf (take_place r e) (looks (receives plan r e message) s)
  receiver-looked Processor e message s u h = by (slice_get plan.nodes e.node) h
    where
      by : (t : Option NodePlan)
          → run_part
          (elim t [ Some node ↦ node_receives message e (site_of e.node node) | None ↦ stopping HasNoStep ]) s
          ≡ (Ok tt, u)
          → IsOneOf (take_place Processor e)
          (looks (elim t [ Some node ↦ node_receives message e (site_of e.node node) | None ↦ stopping HasNoStep ]) s)
      by (Some node) h = inl refl
      by None h = absurd (none-answers HasNoStep s u tt h)
  receiver-looked Sink e message s u h = inl refl
  receiver-looked Source e message s u h = absurd (none-answers HasNoStep s u tt h)
  receiver-looked Nothing e message s u h = absurd (none-answers HasNoStep s u tt h)

  -- a message goes over: what follows the look at the sender
  abbrev rest : End → Store → Doing
  rest e message = receives plan (role_at plan e.node) e message >>= (λ x. telling message done)

  module _ (e f : End) (s u : State) (h : run_part (crosses plan f e None) s ≡ (Ok tt, u)) where
    sent : Answers (sends plan (role_at plan f.node) f) s
    sent = first-answers (sends plan (role_at plan f.node) f) (rest e) s u tt h

    received : run_part (rest e sent.value) sent.after ≡ (Ok tt, u)
    received = sym (run_on (sends plan (role_at plan f.node) f) (rest e) s sent.after sent.value sent.run) ∙ h

    taken : Answers (receives plan (role_at plan e.node) e sent.value) sent.after
    taken =
        first-answers (receives plan (role_at plan e.node) e sent.value) (λ x. telling sent.value done) sent.after u tt
        received

    sender-passed : IsOneOf (offer_place (role_at plan f.node) f) (looks (crosses plan f e None) s)
    sender-passed =
        by-first s u (offer_place (role_at plan f.node) f) (sends plan (role_at plan f.node) f) (rest e)
        (sender-looked (role_at plan f.node) f s sent.after sent.value sent.run)

    receiver-passed : IsOneOf (take_place (role_at plan e.node) e) (looks (crosses plan f e None) s)
    receiver-passed = let q = take_place (role_at plan e.node) e in
        by-second s u q (sends plan (role_at plan f.node) f) (rest e) sent
        (by-first sent.after u q (receives plan (role_at plan e.node) e sent.value) (λ x. telling sent.value done)
        (receiver-looked (role_at plan e.node) e sent.value sent.after taken.after taken.run))

  -- a wire looks at the end that sends, whether a message goes over or makes a process go on
  sender-crossed : (e f : End) (asked : Option Name) (s u : State) → run_part (crosses plan f e asked) s ≡ (Ok tt, u)
      → IsOneOf (offer_place (role_at plan f.node) f) (looks (crosses plan f e asked) s)
  sender-crossed e f None s u h = sender-passed e f s u h
  sender-crossed e f (Some x) s u h = inl refl

  -- and at the end that receives
  receiver-crossed : (e f : End) (r : Role) (s u : State) → role_at plan e.node ≡ r
      → run_part (asks r e >>= crosses plan f e) s ≡ (Ok tt, u)
      → IsOneOf (take_place (role_at plan e.node) e) (looks (asks r e >>= crosses plan f e) s)
  receiver-crossed e f Processor s u is h = inl (sym (ap (λ (r : Role). take_place r e) is))
  receiver-crossed e f Source s u is h = receiver-passed e f s u h
  receiver-crossed e f Sink s u is h = receiver-passed e f s u h
  receiver-crossed e f Nothing s u is h = receiver-passed e f s u h

  module _ (e f : End) (s u : State) (h : run_part (passes plan (Some f) e) s ≡ (Ok tt, u)) where
    asked : Answers (asks (role_at plan e.node) e) s
    asked = first-answers (asks (role_at plan e.node) e) (crosses plan f e) s u tt h

    crossed : run_part (crosses plan f e asked.value) asked.after ≡ (Ok tt, u)
    crossed =
        sym (run_on (asks (role_at plan e.node) e) (crosses plan f e) s asked.after asked.value asked.run) ∙ h

    joined-looked : (q : Place) → IsOneOf q (gates_between plan e (Some f))
        → IsOneOf q (looks (passes plan (Some f) e) s)
    joined-looked q (inl here) =
        by-second s u q (asks (role_at plan e.node) e) (crosses plan f e) asked
        (subst (λ (p : Place). IsOneOf p (looks (crosses plan f e asked.value) asked.after)) here
        (sender-crossed e f asked.value asked.after u crossed))
    joined-looked q (inr (inl here)) =
        subst (λ (p : Place). IsOneOf p (looks (passes plan (Some f) e) s)) here
        (receiver-crossed e f (role_at plan e.node) s u refl h)
    joined-looked q (inr (inr far)) = absurd far

  wire-looked : (e : End) (t : Option End) (s u : State) → run_part (passes plan t e) s ≡ (Ok tt, u) → (q : Place)
      → IsOneOf q (gates_between plan e t) → IsOneOf q (looks (passes plan t e) s)
  wire-looked e None s u h q one = absurd (none-answers HasNoStep s u tt h)
  wire-looked e (Some f) s u h q one = joined-looked e f s u h q one

  pub gates-looked : (a : Agent) (s u : State) → run_part (step_of plan a) s ≡ (Ok tt, u) → (q : Place)
      → IsOneOf q (gates plan a) → IsOneOf q (looks (step_of plan a) s)
  gates-looked (Process x) s u h q (inl here) = inl here
  gates-looked (Process x) s u h q (inr far) = absurd far
  gates-looked (Channel n c) s u h q one = by (slice_get plan.nodes n) h one
    where
      by : (t : Option NodePlan)
          → run_part (elim t [ Some node ↦ channel_step c (site_of n node) | None ↦ stopping HasNoStep ]) s ≡ (Ok tt, u)
          → IsOneOf q (gates plan (Channel n c))
          → IsOneOf q (looks (elim t [ Some node ↦ channel_step c (site_of n node) | None ↦ stopping HasNoStep ]) s)
      by (Some node) h (inl here) = inl here
      by (Some node) h (inr (inl here)) = inr (inl here)
      by (Some node) h (inr (inr far)) = absurd far
      by None h one = absurd (none-answers HasNoStep s u tt h)
  gates-looked (Wire e) s u h q one = wire-looked e (sender_to plan e) s u h q one
  gates-looked (Successor n k) s u h q one = by (slice_get plan.nodes n) h one
    where
      by : (t : Option NodePlan)
          → run_part (elim t [ Some node ↦ successor_step k (site_of n node) | None ↦ stopping HasNoStep ]) s
          ≡ (Ok tt, u)
          → IsOneOf q (gates plan (Successor n k))
          → IsOneOf q (looks (elim t [ Some node ↦ successor_step k (site_of n node) | None ↦ stopping HasNoStep ]) s)
      by (Some node) h (inl here) = inl here
      by (Some node) h (inr far) = absurd far
      by None h one = absurd (none-answers HasNoStep s u tt h)
