-- A step that can be done is one of a run that is over and has no race, and is moved to its front.
use Rattle.std.proofs.Common.{◌≡◌, ◌≢◌, refl, sym, ap, ◌∙◌, subst, List, [], ◌∷◌, ◌++◌, Bool, true, false}
use Rattle.std.proofs.Common.{◌⊎◌, inl, inr, true≢false}
use Rattle.std.proofs.lemmas.Option.{same_Some}
use Rattle.tagents.specs.Agents.{Agents, Does, IsRun, IsOver}
use Rattle.tagents.specs.Races.{ComesBefore, HasNoRace, IsRaceFree, TakesNothing}
use Rattle.tagents.specs.Certificates.{IsReached, StillDoes, Meet, IsLawful}
use Rattle.tagents.proofs.Lists.{NoneBefore, no_clash}

pub test : (b : Bool) → (b ≡ true) ⊎ (b ≡ false)
test true = inl refl
test false = inr refl

module _ {State Agent Label : Type 0} (m : Agents State Agent Label) (start : State) where
  -- a run, and then one more step
  run_more : (s mid s' : State) (steps : List Label) (e : Label) → IsRun m s steps mid → Does m mid e s'
      → IsRun m s (steps ++ e ∷ []) s'
  run_more s mid s' [] e run does = (s', subst (λ (x : State). Does m x e s') (sym run) does, refl)
  run_more s mid s' (x ∷ xs) e run does = (run.0, run.1, run_more run.0 mid s' xs e run.2 does)

  pub reached_step : (s s' : State) (e : Label) → IsReached m start s → Does m s e s' → IsReached m start s'
  reached_step s s' e r does = record { steps = r.steps ++ e ∷ []; run = run_more start s s' r.steps e r.run does }

module _ {State Agent Label : Type 0} (m : Agents State Agent Label) where
  -- an agent has one next step
  pub one_step : (s s1 s2 : State) (e f : Label) → m.agent_of e ≡ m.agent_of f → Does m s e s1 → Does m s f s2
      → (e ≡ f) × (s1 ≡ s2)
  one_step s s1 s2 e f q d1 d2 =
      let same : (e, s1) ≡ (f, s2) =
      same_Some _ _ (sym d1 ∙ ap (λ (a : Agent). m.next a s) q ∙ d2) in
      (ap (λ (x : Label × State). x.0) same, ap (λ (x : Label × State). x.1) same)

module _ {State Agent Label : Type 0} (m : Agents State Agent Label) (start : State) (laws : IsLawful m start) where
  -- the run with the step at its front: the steps before it do not have to come before it
  pub record Fronted (s' : State) (f : Label) (steps : List Label) (end : State) : Type 0 where
    pub pre : List Label
    pub post : List Label
    pub are : steps ≡ pre ++ f ∷ post
    pub run : IsRun m s' (pre ++ post) end
    pub none : NoneBefore m f pre

  -- it is the first step of the run
  first : (es : List Label) (s s1 s' end : State) (e f : Label) → Does m s e s1 → IsRun m s1 es end → Does m s f s'
      → m.agent_of e ≡ m.agent_of f → Fronted s' f (e ∷ es) end
  first es s s1 s' end e f does run does' q =
      let o : (e ≡ f) × (s1 ≡ s') = one_step m s s1 s' e f q does does' in
      record {
        pre = [];
        post = es;
        are = ap (λ (x : Label). x ∷ es) o.0;
        run = subst (λ (x : State). IsRun m x es end) o.1 run;
        none = tt;
      }

  -- it is not, and what its agent does then does not have to come after the first one
  not_before : (s s1 s2 s3 : State) (e f g : Label) → IsReached m start s → Does m s e s1 → Does m s f s2
      → m.agent_of e ≢ m.agent_of f → m.stops e ≡ false → m.agent_of g ≡ m.agent_of f → Does m s1 g s3
      → ComesBefore m e g → ⊥
  not_before s s1 s2 s3 e f g r does does' d stops q after (inl same) =
      d (laws.is_same (m.agent_of e) (m.agent_of g) same ∙ q)
  not_before s s1 s2 s3 e f g r does does' d stops q after (inr leads) =
      laws.waits s s1 s2 s3 e f g r d does does' stops q after leads

  -- the two do not clash, so they have the same result in both orders
  apart : (es : List Label) (s s1 s' end : State) (e f : Label) → IsReached m start s → Does m s e s1 → Does m s f s'
      → m.agent_of e ≢ m.agent_of f → m.stops e ≡ false → m.clash e f ≡ false → (k : StillDoes m s1 f)
      → Fronted k.after k.label es end → Fronted s' f (e ∷ es) end
  apart es s s1 s' end e f r does does' d stops c k later =
      let meet : Meet m s1 s' e f = laws.commutes s s1 s' e f r d does does' stops c in
      let o : (k.label ≡ f) × (k.after ≡ meet.both) =
      one_step m s1 k.after meet.both k.label f k.same k.does meet.first in
      record {
        pre = e ∷ later.pre;
        post = later.post;
        are = ap (λ (x : List Label). e ∷ x) (later.are ∙ ap (λ (x : Label). later.pre ++ x ∷ later.post) o.0);
        run = (meet.both, meet.second, subst (λ (x : State). IsRun m x (later.pre ++ later.post) end) o.1 later.run);
        none = (
          λ b. not_before s s1 s' meet.both e f f r does does' d stops refl meet.first b,
          subst (λ (x : Label). NoneBefore m x later.pre) o.0 later.none,
        );
      }

  -- they clash, and that is a race
  clashing : (es : List Label) (s s1 s' end : State) (e f : Label) → IsReached m start s → Does m s e s1
      → Does m s f s'
      → m.agent_of e ≢ m.agent_of f → m.stops e ≡ false → m.clash e f ≡ true → HasNoRace m e (e ∷ []) es
      → (k : StillDoes m s1 f) → Fronted k.after k.label es end → ⊥
  clashing es s s1 s' end e f r does does' d stops c free k later =
      let still : m.clash e k.label ≡ true =
      laws.clashes s s1 s' k.after e f k.label r d does does' stops c k.same k.does in
      let not_still : m.clash e k.label ≡ false =
      no_clash m k.label e (e ∷ []) later.pre later.post
      ((λ b. not_before s s1 s' k.after e f k.label r does does' d stops k.same k.does b), tt) later.none
      (subst (λ (x : List Label). HasNoRace m e (e ∷ []) x) later.are free) in
      true≢false (sym still ∙ not_still)

  -- it is moved to the front
  pub fronted : (steps : List Label) (s s' end : State) (f : Label) → IsReached m start s → IsRun m s steps end
      → IsOver m end → IsRaceFree m steps → TakesNothing m steps → Does m s f s' → Fronted s' f steps end
  fronted [] s s' end f r run over free takes does =
      absurd (over f s' (subst (λ (x : State). Does m x f s') run does))
  fronted (e ∷ es) s s' end f r run over free takes does =
      elim (test (m.same (m.agent_of e) (m.agent_of f))) as (λ _. Fronted s' f (e ∷ es) end) [
        | inl q ↦ first es s run.0 s' end e f run.1 run.2 does (laws.is_same (m.agent_of e) (m.agent_of f) q)
        | inr n ↦ (let d : m.agent_of e ≢ m.agent_of f = laws.not_same (m.agent_of e) (m.agent_of f) n in
            let k : StillDoes m run.0 f = laws.stays s run.0 s' e f r d run.1 does takes.0 in
            let later : Fronted k.after k.label es end =
            fronted es run.0 k.after end k.label (reached_step m start s run.0 e r run.1) run.2 over free.1 takes.1
            k.does in
            elim (test (m.clash e f)) as (λ _. Fronted s' f (e ∷ es) end) [
              | inl c ↦ absurd (clashing es s run.0 s' end e f r run.1 does d takes.0 c free.0 k later)
              | inr c ↦ apart es s run.0 s' end e f r run.1 does d takes.0 c k later
            ])
      ]
