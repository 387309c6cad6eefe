-- Parts of steps that leave a process alone that has ended.
use Rattle.std.proofs.Common.{◌≡◌, ◌≢◌, refl, sym, ap, ◌∙◌, subst, Bool, true, false, true≢false, List, [], ◌∷◌, ◌++◌}
use Rattle.std.proofs.Common.{Some, None}
use Rattle.std.specs.Prelude.{◌&&◌, if◌then◌else◌}
use Rattle.tagents.specs.Agents.{Does}
use Rattle.tagents.specs.Walks.{deed_of, label_of, are_open}
use Rattle.tagents.proofs.Walking.{is_step}
use Rattle.tplan.specs.declared.plan.Plan.{Plan}
use Rattle.tprocesses.specs.Places.{Place, Name, Standing, same_place, same_name}
use Rattle.tprocesses.specs.Values.{Value, Context, Stand, Chooses, Ended, IsStand, stand_in}
use Rattle.tprocesses.specs.Changes.{Change, apply}
use Rattle.tprocesses.specs.Parts.{Reason, Part, gives, stopping, seeing, changing, telling, Doing, Changed, Deed, made}
use Rattle.tprocesses.specs.Parts.{require, walk_from, ◌>>=◌}
use Rattle.tprocesses.specs.Standing.{is_absent}
use Rattle.tprocesses.specs.Choosing.{waiting}
use Rattle.tprocesses.specs.Machine.{Process, is_ready, is_open, process_machine, step_of}
use Rattle.tprocesses.specs.Certified.{ProcessStep, machine_of}
use Rattle.tprocesses.proofs.Told.{same_name-true}
use Rattle.tprocesses.proofs.Safe.{altered}
use Rattle.tprocesses.proofs.Quiet.{IsQuiet, Quiet}
use Rattle.tprocesses.proofs.Living.{step_makes}

-- the process that has ended
module _ (e : Name) where
  -- another process
  abbrev pub IsOther : Name → Type 0
  IsOther x = same_name x e ≡ false

  -- a place that is not where it stands
  abbrev pub IsElsewhere : Place → Type 0
  IsElsewhere (Standing x) = IsOther x
  IsElsewhere _ = Unit {0}

  abbrev pub AllElsewhere : List Changed → Type 0
  AllElsewhere [] = Unit {0}
  AllElsewhere (x ∷ xs) = IsElsewhere x.place × AllElsewhere xs

  -- a look at where it stands shows that it has ended
  abbrev pub ShowsEnd : Place → Value → Type 0
  ShowsEnd (Standing x) v = same_name x e ≡ true → stand_in v ≡ Ended
  ShowsEnd _ v = Unit {0}

  -- a part that makes all changes elsewhere, where looks show that it has ended
  abbrev pub Avoids : {A : Type 0} → Part A → Type 0
  Avoids (gives x) = Unit {0}
  Avoids (stopping why) = Unit {0}
  Avoids (seeing q next) = (v : Value) → ShowsEnd q v → Avoids (next v)
  Avoids (changing q c next) = IsElsewhere q × Avoids next
  Avoids (telling m next) = Avoids next

  -- one part and then another avoid it if both do
  pub andthen : {A B : Type 0} (part : Part A) (f : A → Part B) → Avoids part → ((x : A) → Avoids (f x))
      → Avoids (part >>= f)
  andthen (gives x) f h k = k x
  andthen (stopping why) f h k = tt
  andthen (seeing q next) f h k = λ v shown. andthen (next v) f (h v shown) k
  andthen (changing q c next) f h k = (h.0, andthen next f h.1 k)
  andthen (telling m next) f h k = andthen next f h k

  -- a change that leaves all processes where they stand is elsewhere
  quiet_elsewhere : (q : Place) (c : Change) → IsQuiet q c → IsElsewhere q
  quiet_elsewhere (Standing x) c h = absurd h
  quiet_elsewhere _ c h = tt

  -- a part that leaves all processes where they stand avoids it
  pub quiet_avoids : {A : Type 0} (part : Part A) → Quiet part → Avoids part
  quiet_avoids (gives x) h = tt
  quiet_avoids (stopping why) h = tt
  quiet_avoids (seeing q next) h = λ v shown. quiet_avoids (next v) (h v)
  quiet_avoids (changing q c next) h = (quiet_elsewhere q c h.0, quiet_avoids next h.1)
  quiet_avoids (telling m next) h = quiet_avoids next h

  -- and so it does before one that avoids it
  pub quietly : {A B : Type 0} (part : Part A) (f : A → Part B) → Quiet part → ((x : A) → Avoids (f x))
      → Avoids (part >>= f)
  quietly part f h k = andthen part f (quiet_avoids part h) k

  -- one of two avoids it if both do
  pub chooses : {A : Type 0} (b : Bool) (x y : Part A) → Avoids x → Avoids y → Avoids (if b then x else y)
  chooses true x y h k = h
  chooses false x y h k = k

  -- after a condition is required, the rest has to avoid it only where the condition holds
  pub required : {B : Type 0} (b : Bool) (why : Reason) (f : Unit {0} → Part B) → (b ≡ true → Avoids (f tt))
      → Avoids (require b why >>= f)
  required true why f h = h refl
  required false why f h = tt

  -- one that was seen otherwise than ended is another one
  pub other : (x : Name) (stand : Stand) → (same_name x e ≡ true → stand ≡ Ended) → stand ≢ Ended → IsOther x
  other x stand shown lives = by (same_name x e) refl
    where
      by : (t : Bool) → same_name x e ≡ t → t ≡ false
      by true same = absurd (lives (shown same))
      by false same = refl

  -- one that was seen absent is another one
  pub absent_other : (x : Name) (stand : Stand) → (same_name x e ≡ true → stand ≡ Ended) → is_absent stand ≡ true
      → IsOther x
  absent_other x stand shown absent = other x stand shown (λ h. true≢false (sym absent ∙ ap is_absent h))

  -- after a process was seen to wait for several channels, the rest has to avoid it only if the process is another one
  pub waited : {B : Type 0} (x : Name) (stand : Stand) (f : Context → Part B)
      → (same_name x e ≡ true → stand ≡ Ended) → ((c : Context) → IsOther x → Avoids (f c))
      → Avoids (waiting stand >>= f)
  waited x (Chooses c) f shown h = h c (other x (Chooses c) shown (λ k. cc))
  waited x _ f shown h = tt

  -- one change more
  elsewhere_more : (cs : List Changed) (q : Place) (c : Change) → AllElsewhere cs → IsElsewhere q
      → AllElsewhere (cs ++ altered q c ∷ [])
  elsewhere_more [] q c h k = (k, tt)
  elsewhere_more (x ∷ cs) q c h k = (h.0, elsewhere_more cs q c h.1 k)

  -- changes elsewhere leave it where it stands
  pub unmade : (cs : List Changed) (v : Value) → AllElsewhere cs → made cs (Standing e) v ≡ v
  unmade [] v h = refl
  unmade (x ∷ cs) v h = by x.place x.change h.0 (λ u. unmade cs u h.1)
    where
      by : (q : Place) (c : Change) → IsElsewhere q → ((u : Value) → made cs (Standing e) u ≡ u)
          → made cs (Standing e) (if same_place q (Standing e) then apply c v else v) ≡ v
      by (Standing y) c k rest = ap (λ t. made cs (Standing e) (if t then apply c v else v)) k ∙ rest v
      by _ c k rest = rest v

  -- what is seen after such changes shows that it has ended
  shows : (s : Place → Value) (cs : List Changed) (q : Place) → stand_in (s (Standing e)) ≡ Ended → AllElsewhere cs
      → ShowsEnd q (made cs q (s q))
  shows s cs (Standing x) ended h = λ same.
      ap (λ z. stand_in (made cs (Standing z) (s (Standing z)))) (same_name-true x e same)
      ∙ ap stand_in (unmade cs (s (Standing e)) h) ∙ ended
  shows s cs _ ended h = tt

  -- the changes of a step that avoids it are elsewhere
  deed_avoids : (d : Deed) (step : Doing) (s : Place → Value) → stand_in (s (Standing e)) ≡ Ended
      → AllElsewhere d.changes → Avoids step → AllElsewhere (deed_of (walk_from d step) s).changes
  deed_avoids d (gives x) s ended h avoids = h
  deed_avoids d (stopping why) s ended h avoids = h
  deed_avoids d (seeing q next) s ended h avoids =
      let v : Value = made d.changes q (s q) in
      deed_avoids d (next v) s ended h (avoids v (shows s d.changes q ended h))
  deed_avoids d (changing q c next) s ended h avoids =
      deed_avoids (record d { changes = d.changes ++ altered q c ∷ [] }) next s ended
      (elsewhere_more d.changes q c h avoids.0) avoids.1
  deed_avoids d (telling m next) s ended h avoids =
      deed_avoids (record d { message = Some m }) next s ended h avoids

  -- after such a step it stands where it stood
  pub stays_there : (p : Plan) (s s' : Place → Value) (step : ProcessStep) → Does (machine_of p) s step s'
      → stand_in (s (Standing e)) ≡ Ended → Avoids (step_of p step.agent) → s' (Standing e) ≡ s (Standing e)
  stays_there p s s' step does ended avoids =
      let label : label_of (process_machine p) step.agent s ≡ step =
      (is_step (process_machine p) s s' step does).label in
      let elsewhere : AllElsewhere step.deed.changes =
      subst (λ (z : ProcessStep). AllElsewhere z.deed.changes) label
      (deed_avoids (record { changes = []; message = None; stops = None }) (step_of p step.agent) s ended tt avoids) in
      sym (step_makes p s s' step does (Standing e)) ∙ unmade step.deed.changes (s (Standing e)) elsewhere

  -- the gate of a process that has ended is shut
  ended_shut : (p : Plan) (x : Name) (v : Value) → stand_in v ≡ Ended → is_open p (Process x) (Standing x) v ≡ false
  ended_shut p x (IsStand stand) h = ap is_ready h
  ended_shut p x _ h = refl

  -- a process that has a step is another one
  pub agent_other : (p : Plan) (s s' : Place → Value) (step : ProcessStep) (x : Name) → step.agent ≡ Process x
      → Does (machine_of p) s step s' → stand_in (s (Standing e)) ≡ Ended → IsOther x
  agent_other p s s' step x own does ended =
      other x (stand_in (s (Standing x)))
      (λ same. ap (λ z. stand_in (s (Standing z))) (same_name-true x e same) ∙ ended)
      (λ h. true≢false (sym (subst (λ a. are_open (process_machine p) a s ≡ true) own
      (is_step (process_machine p) s s' step does).opened)
      ∙ ap (λ t. t && true) (ended_shut p x (s (Standing x)) h)))
