-- What holds after a part of a step that goes through: of its answer, and of the state that it leaves.
use Rattle.std.proofs.Common.{◌≡◌, refl, sym, ap, ◌∙◌, subst, Bool, true, false, true≢false, List, [], ◌∷◌, ◌++◌}
use Rattle.std.proofs.Common.{Option, Some, None}
use Rattle.std.specs.Prelude.{map, filter, is_some, if◌then◌else◌}
use Rattle.tword.specs.declared.breaks.Break.{Break}
use Rattle.tplan.specs.declared.plan.Plan.{Plan}
use Rattle.tagents.specs.Walks.{deed_of, value_after, are_open, label_of, next_step, state_after}
use Rattle.tprocesses.specs.Places.{Place, Name, same_place}
use Rattle.tprocesses.specs.Values.{Value}
use Rattle.tprocesses.specs.Changes.{Change, apply}
use Rattle.tprocesses.specs.Parts.{Reason, Part, gives, stopping, seeing, changing, telling, Doing, Changed, Deed}
use Rattle.tprocesses.specs.Parts.{made}
use Rattle.tprocesses.specs.Parts.{walk_from, ◌>>=◌, require, unless}
use Rattle.tprocesses.specs.Machine.{Agent, Process, process_machine, step_of}
use Rattle.tprocesses.specs.Certified.{ProcessStep}
use Rattle.tseen.specs.Steps.{Makes}
use Rattle.tseen.specs.AgentSteps.{AgentMakes}

-- what stands at each place
abbrev pub State : Type 0
State = Place → Value

-- a state after a change at a place
abbrev pub changed : Place → Change → State → State
changed p c s q = if same_place p q then apply c (s q) else s q

-- Q holds of the answer of a part and of the state that it leaves, if it does not stop
abbrev pub After : {A : Type 0} → Part A → State → (A → State → Type 0) → Type 0
After (gives x) s Q = Q x s
After (stopping why) s Q = Unit {0}
After (seeing p next) s Q = After (next (s p)) s Q
After (changing p c next) s Q = After next (changed p c s) Q
After (telling m next) s Q = After next s Q

-- one part, and then one that takes its answer
pub after_bind : {A B : Type 0} (part : Part A) (f : A → Part B) (s : State) (Q : B → State → Type 0)
    → After part s (λ x t. After (f x) t Q) → After (part >>= f) s Q
after_bind (gives x) f s Q h = h
after_bind (stopping why) f s Q h = tt
after_bind (seeing p next) f s Q h = after_bind (next (s p)) f s Q h
after_bind (changing p c next) f s Q h = after_bind next f (changed p c s) Q h
after_bind (telling m next) f s Q h = after_bind next f s Q h

-- what follows from what holds
pub after_weaken : {A : Type 0} (part : Part A) (s : State) (P Q : A → State → Type 0) → After part s P
    → ((x : A) (t : State) → P x t → Q x t) → After part s Q
after_weaken (gives x) s P Q h k = k x s h
after_weaken (stopping why) s P Q h k = tt
after_weaken (seeing p next) s P Q h k = after_weaken (next (s p)) s P Q h k
after_weaken (changing p c next) s P Q h k = after_weaken next (changed p c s) P Q h k
after_weaken (telling m next) s P Q h k = after_weaken next s P Q h k

-- what holds of everything
pub after_all : {A : Type 0} (part : Part A) (s : State) (Q : A → State → Type 0) → ((x : A) (t : State) → Q x t)
    → After part s Q
after_all (gives x) s Q k = k x s
after_all (stopping why) s Q k = tt
after_all (seeing p next) s Q k = after_all (next (s p)) s Q k
after_all (changing p c next) s Q k = after_all next (changed p c s) Q k
after_all (telling m next) s Q k = after_all next s Q k

-- two facts
pub after_both : {A : Type 0} (part : Part A) (s : State) (P Q : A → State → Type 0) → After part s P
    → After part s Q → After part s (λ x t. P x t × Q x t)
after_both (gives x) s P Q h k = (h, k)
after_both (stopping why) s P Q h k = tt
after_both (seeing p next) s P Q h k = after_both (next (s p)) s P Q h k
after_both (changing p c next) s P Q h k = after_both next (changed p c s) P Q h k
after_both (telling m next) s P Q h k = after_both next s P Q h k

-- a condition that has to hold does
pub after_require : (b : Bool) (why : Reason) (s : State) (Q : Unit {0} → State → Type 0) → (b ≡ true → Q tt s)
    → After (require b why) s Q
after_require true why s Q h = h refl
after_require false why s Q h = tt

-- and no check names a break
pub after_unless : (b : Option Break) (s : State) (Q : Unit {0} → State → Type 0) → (b ≡ None → Q tt s)
    → After (unless b) s Q
after_unless None s Q h = h refl
after_unless (Some b) s Q h = tt

-- one more change at a place
made-more : (cs : List Changed) (p q : Place) (c : Change) (v : Value)
    → made (cs ++ record { place = p; change = c } ∷ []) q v
    ≡ (if same_place p q then apply c (made cs q v) else made cs q v)
made-more [] p q c v = refl
made-more (x ∷ cs) p q c v = made-more cs p q c (if same_place x.place q then apply x.change v else v)

-- a state with changes made
abbrev pub so_far : List Changed → State → State
so_far cs s p = made cs p (s p)

pub so_far-more : (cs : List Changed) (p : Place) (c : Change) (s : State)
    → so_far (cs ++ record { place = p; change = c } ∷ []) s ≡ changed p c (so_far cs s)
so_far-more cs p c s = λ i q. made-more cs p q c (s q) i

-- changes that are picked by their place are those that are made there
picked : (plan : Plan) (cs : List Changed) (p : Place) (v : Value)
    → value_after (process_machine plan) (map (λ x. x.change) (filter (λ x. same_place x.place p) cs)) v ≡ made cs p v
picked plan [] p v = refl
picked plan (x ∷ cs) p v = by (same_place x.place p) (λ u. picked plan cs p u) v
  where
    by : (t : Bool) → ((u : Value)
        → value_after (process_machine plan) (map (λ y. y.change) (filter (λ y. same_place y.place p) cs)) u
        ≡ made cs p u) → (v : Value)
        → value_after (process_machine plan) (map (λ y. y.change)
        (if t then x ∷ filter (λ y. same_place y.place p) cs else filter (λ y. same_place y.place p) cs)) v
        ≡ made cs p (if t then apply x.change v else v)
    by true rest v = rest (apply x.change v)
    by false rest v = rest v

-- a walk that does not stop leaves what holds after its step
pub walked : (d : Deed) (step : Doing) (s : State) (Q : Unit {0} → State → Type 0) → After step (so_far d.changes s) Q
    → is_some (deed_of (walk_from d step) s).stops ≡ false → Q tt (so_far (deed_of (walk_from d step) s).changes s)
walked d (gives x) s Q h none = h
walked d (stopping why) s Q h none = absurd (true≢false none)
walked d (seeing p next) s Q h none = walked d (next (made d.changes p (s p))) s Q h none
walked d (changing p c next) s Q h none =
    walked (record d { changes = d.changes ++ record { place = p; change = c } ∷ [] }) next s Q
    (subst (λ (t : State). After next t Q) (sym (so_far-more d.changes p c s)) h) none
walked d (telling m next) s Q h none = walked (record d { message = Some m }) next s Q h none

-- what an agent does in its step
abbrev pub deed_at : Plan → Agent → State → Deed
deed_at p a s = deed_of (walk_from (record { changes = []; message = None; stops = None }) (step_of p a)) s

abbrev pub if_open : Bool → ProcessStep × State → Option (ProcessStep × State)
if_open t x = if t then Some x else None

-- the same holds for a step that an agent makes
pub after_agent_step : (p : Plan) (a : Agent) (s s' : State) (Q : Unit {0} → State → Type 0) → AgentMakes p a s s'
    → After (step_of p a) s Q → Q tt s'
after_agent_step p a s s' Q m h =
    by (are_open (process_machine p) a s)
    (subst (λ (b : Agent). next_step (process_machine p) b s ≡ Some (m.label, s')) m.agent m.step)
  where
    by : (t : Bool) → if_open t (label_of (process_machine p) a s, state_after (process_machine p) (deed_at p a s) s)
        ≡ Some (m.label, s') → Q tt s'
    by false e = cc
    by true e =
        let both : ◌≡◌ {A = ProcessStep × State}
        (label_of (process_machine p) a s, state_after (process_machine p) (deed_at p a s) s)
        (m.label, s') = cc in
        let stops : is_some (deed_at p a s).stops ≡ false =
        ap (λ (q : ProcessStep × State). is_some q.0.deed.stops) both ∙ m.goes_on in
        let same : so_far (deed_at p a s).changes s ≡ s' =
        (λ i q. sym (picked p (deed_at p a s).changes q (s q)) i) ∙ ap (λ (q : ProcessStep × State). q.1) both in
        subst (λ (t : State). Q tt t) same
        (walked (record { changes = []; message = None; stops = None }) (step_of p a) s Q h stops)

-- and of one that a process makes
pub after_step : (p : Plan) (x : Name) (s s' : State) (Q : Unit {0} → State → Type 0) → Makes p x s s'
    → After (step_of p (Process x)) s Q → Q tt s'
after_step p x s s' Q m = after_agent_step p (Process x) s s' Q m
