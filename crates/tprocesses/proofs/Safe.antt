-- Parts of steps that spare the gates of other agents, put together.
use Rattle.std.proofs.Common.{◌≡◌, ◌≢◌, refl, sym, ◌∙◌, subst, Bool, true, false, List, [], ◌∷◌, ◌++◌, inl, inr}
use Rattle.std.proofs.Common.{◌⊎◌, true≢false, ℕ, ℤ, Option, Some, None}
use Rattle.std.specs.Prelude.{if◌then◌else◌}
use Rattle.tword.specs.declared.breaks.Break.{Break}
use Rattle.tword.specs.Stores.{Store}
use Rattle.tplan.specs.declared.plan.Plan.{Plan}
use Rattle.tagents.specs.Walks.{Sight}
use Rattle.tagents.specs.Tidy.{HoldsOfEach, IsGate, OneWasShut, Spares, IsCareful}
use Rattle.tprocesses.specs.Places.{Place, same_place}
use Rattle.tprocesses.specs.Values.{Value}
use Rattle.tprocesses.specs.Changes.{Change, Put, Engage, Decrement, Add, Raise, apply}
use Rattle.tprocesses.specs.Parts.{Reason, Changed, Deed, Part, gives, stopping, seeing, changing, telling, Doing}
use Rattle.tprocesses.specs.Parts.{done, see, change, require, unless, made, walk_from, ◌>>=◌}
use Rattle.tprocesses.specs.Machine.{Agent, is_open, process_machine}
use Rattle.tprocesses.proofs.Told.{same_place-true}
use Rattle.tprocesses.proofs.Changing.{engage_stays_open, decrement_stays_open, add_stays_open, raise_stays_open}

-- what was seen
abbrev pub Seen : Type 0
Seen = List (Sight Place Value)

-- a place and the value there
abbrev pub saw : Place → Value → Sight Place Value
saw q v = record { place = q; value = v }

abbrev pub altered : Place → Change → Changed
altered q c = record { place = q; change = c }

-- nothing is said
abbrev pub Anything : {A : Type 0} → A → Seen → Type 0
Anything x seen = Unit {0}

abbrev pub Always : Seen → Type 0
Always seen = Unit {0}

-- one gate of an agent was seen shut
abbrev pub IsOff : Plan → Agent → Seen → Type 0
IsOff p b seen = OneWasShut (process_machine p) b seen

module _ (p : Plan) (a : Agent) where
  -- changes spare the gates of others
  abbrev pub Sparing : Seen → List Changed → Type 0
  Sparing seen changes = HoldsOfEach (Spares (process_machine p) a seen) changes

  -- the same of each other agent whose gate a place is
  abbrev pub Shut : Place → Seen → Type 0
  Shut q seen = (b : Agent) → b ≢ a → IsGate (process_machine p) b q → IsOff p b seen

  -- what was shut is still known to be
  abbrev pub Later : Seen → Seen → Type 0
  Later seen seen' = (b : Agent) → IsOff p b seen → IsOff p b seen'

  -- each change of a part spares the gates of others, and something holds at its end
  abbrev pub Safe : {A : Type 0} → Seen → List Changed → Part A → (A → Seen → List Changed → Type 0) → Type 0
  Safe seen changes (gives x) Q = Q x seen changes
  Safe seen changes (stopping why) Q = Unit {0}
  Safe seen changes (seeing q next) Q = (v : Value) → Safe (saw q v ∷ seen) changes (next (made changes q v)) Q
  Safe seen changes (changing q c next) Q =
      Spares (process_machine p) a seen (altered q c) × Safe seen (changes ++ altered q c ∷ []) next Q
  Safe seen changes (telling m next) Q = Safe seen changes next Q

  -- what holds at the end of a part that began after these sights
  pub record Left {A : Type 0} (before : Seen) (F : A → Seen → Type 0) (x : A) (seen : Seen) (changes : List Changed)
      : Type 0 where
    pub sparing : Sparing seen changes
    pub later : Later before seen
    pub fact : F x seen

  -- a part of a step that may begin where something is known, and what is known at its end
  pub record Safely {A : Type 0} (K : Seen → Type 0) (part : Part A) (F : A → Seen → Type 0) : Type 0 where
    pub safe : (seen : Seen) (changes : List Changed) → K seen → Sparing seen changes
        → Safe seen changes part (Left seen F)

  bind : {A B : Type 0} (part : Part A) (f : A → Part B) (Q : A → Seen → List Changed → Type 0)
      (R : B → Seen → List Changed → Type 0) (seen : Seen) (changes : List Changed) → Safe seen changes part Q
      → ((x : A) (s : Seen) (c : List Changed) → Q x s c → Safe s c (f x) R)
      → Safe seen changes (part >>= f) R
  bind (gives x) f Q R seen changes h k = k x seen changes h
  bind (stopping why) f Q R seen changes h k = tt
  bind (seeing q next) f Q R seen changes h k = λ v.
      bind (next (made changes q v)) f Q R (saw q v ∷ seen) changes (h v) k
  bind (changing q c next) f Q R seen changes h k =
      (h.0, bind next f Q R seen (changes ++ altered q c ∷ []) h.1 k)
  bind (telling m next) f Q R seen changes h k = bind next f Q R seen changes h k

  weaken : {A : Type 0} (part : Part A) (Q R : A → Seen → List Changed → Type 0) (seen : Seen)
      (changes : List Changed) → Safe seen changes part Q
      → ((x : A) (s : Seen) (c : List Changed) → Q x s c → R x s c) → Safe seen changes part R
  weaken (gives x) Q R seen changes h k = k x seen changes h
  weaken (stopping why) Q R seen changes h k = tt
  weaken (seeing q next) Q R seen changes h k = λ v.
      weaken (next (made changes q v)) Q R (saw q v ∷ seen) changes (h v) k
  weaken (changing q c next) Q R seen changes h k =
      (h.0, weaken next Q R seen (changes ++ altered q c ∷ []) h.1 k)
  weaken (telling m next) Q R seen changes h k = weaken next Q R seen changes h k

  -- one part and then another that may use what is known after it
  pub andthen : {A B : Type 0} {K : Seen → Type 0} {F : A → Seen → Type 0} {G : B → Seen → Type 0} {part : Part A}
      {f : A → Part B} → Safely K part F → ((x : A) → Safely (F x) (f x) G) → Safely K (part >>= f) G
  andthen {F = F} {G} {part} {f} h k = record {
    safe = λ seen changes known spare.
        bind part f (Left seen F) (Left seen G) seen changes (h.safe seen changes known spare)
        (λ x s c left.
        weaken (f x) (Left s G) (Left seen G) s c ((k x).safe s c left.fact left.sparing)
        (λ y s' c' last. record {
          sparing = last.sparing;
          later = λ b shut. last.later b (left.later b shut);
          fact = last.fact;
        }));
  }

  -- nothing is done
  pub nothing : {A : Type 0} {K : Seen → Type 0} {F : A → Seen → Type 0} (x : A) → ((s : Seen) → K s → F x s)
      → Safely K (gives x) F
  nothing x h = record {
    safe = λ seen changes known spare. record { sparing = spare; later = λ b shut. shut; fact = h seen known };
  }

  pub stops : {A : Type 0} {K : Seen → Type 0} {F : A → Seen → Type 0} (why : Reason)
      → Safely K (stopping why) F
  stops why = record { safe = λ seen changes known spare. tt }

  -- a condition holds from here on, or the step stops
  pub requires : {K : Seen → Type 0} (b : Bool) (why : Reason)
      → Safely K (require b why) (λ x s. (b ≡ true) × K s)
  requires {K} true why = nothing tt (λ s k. (refl, k))
  requires {K} false why = stops why

  pub unless_broken : {K : Seen → Type 0} (b : Option Break) → Safely K (unless b) (λ x s. K s)
  unless_broken None = nothing tt (λ s k. k)
  unless_broken (Some b) = stops _

  -- one of two
  pub chooses : {A : Type 0} {K : Seen → Type 0} {F : A → Seen → Type 0} {x y : Part A} (b : Bool)
      → Safely K x F → Safely K y F → Safely K (if b then x else y) F
  chooses true h k = h
  chooses false h k = k

  -- what is known of shut places stays known
  abbrev pub Stays : (Seen → Type 0) → Type 0
  Stays K = (s s' : Seen) → Later s s' → K s → K s'

  -- what is known at the beginning is known at the end
  pub keeping : {A : Type 0} {K L : Seen → Type 0} {F : A → Seen → Type 0} {part : Part A} → Stays K
      → ((s : Seen) → K s → L s) → Safely L part F → Safely K part (λ x s. K s × F x s)
  keeping {K} {L} {F} {part} stay from h = record {
    safe = λ seen changes known spare.
        weaken part (Left seen F) (Left seen (λ x s. K s × F x s)) seen changes
        (h.safe seen changes (from seen known) spare)
        (λ x s c left. record {
          sparing = left.sparing;
          later = left.later;
          fact = (stay seen s left.later known, left.fact);
        });
  }

  -- less may be said at the end, and more be known at the beginning
  pub lighter : {A : Type 0} {K L : Seen → Type 0} {F G : A → Seen → Type 0} {part : Part A}
      → ((s : Seen) → K s → L s) → ((x : A) (s : Seen) → F x s → G x s) → Safely L part F → Safely K part G
  lighter {K} {L} {F} {G} {part} from to h = record {
    safe = λ seen changes known spare.
        weaken part (Left seen F) (Left seen G) seen changes (h.safe seen changes (from seen known) spare)
        (λ x s c left. record {
          sparing = left.sparing;
          later = left.later;
          fact = to x s left.fact;
        });
  }

  off_still : (x : Sight Place Value) (seen : Seen) (b : Agent) → IsOff p b seen → IsOff p b (x ∷ seen)
  off_still x seen b off = (off.0, off.1, inr off.2)

  spares_still : (x : Sight Place Value) (seen : Seen) (c : Changed) → Spares (process_machine p) a seen c
      → Spares (process_machine p) a (x ∷ seen) c
  spares_still x seen c (inl never) = inl never
  spares_still x seen c (inr shut) = inr (λ b other gate. off_still x seen b (shut b other gate))

  sparing_still : (x : Sight Place Value) (seen : Seen) (changes : List Changed) → Sparing seen changes
      → Sparing (x ∷ seen) changes
  sparing_still x seen [] h = tt
  sparing_still x seen (c ∷ cs) h = (spares_still x seen c h.0, sparing_still x seen cs h.1)

  spares_more : (seen : Seen) (changes : List Changed) (c : Changed) → Sparing seen changes
      → Spares (process_machine p) a seen c → Sparing seen (changes ++ c ∷ [])
  spares_more seen [] c h k = (k, tt)
  spares_more seen (x ∷ xs) c h k = (h.0, spares_more seen xs c h.1 k)

  -- the same of one change, where it holds for the rest
  step_open : (seen : Seen) (x : Changed) (b : Agent) (q : Place) → b ≢ a → IsGate (process_machine p) b q
      → Spares (process_machine p) a seen x → (after : Value → Value)
      → ((v : Value) → is_open p b q v ≡ true → (is_open p b q (after v) ≡ true) ⊎ IsOff p b seen)
      → (v : Value) → is_open p b q v ≡ true → (t : Bool) → same_place x.place q ≡ t
      → (is_open p b q (after (if t then apply x.change v else v)) ≡ true) ⊎ IsOff p b seen
  step_open seen x b q other gate spare after rest v h false e = rest v h
  step_open seen x b q other gate (inl never) after rest v h true e = rest (apply x.change v) (never b q v gate h)
  step_open seen x b q other gate (inr shut) after rest v h true e =
      let there : x.place ≡ q = same_place-true x.place q e in
      inr (shut b other (subst (λ (r : Place). IsGate (process_machine p) b r) (sym there) gate))

  -- what the changes so far make of a value that opens a gate opens it, or one gate of the agent was seen shut
  still_open : (seen : Seen) (changes : List Changed) (b : Agent) (q : Place) → b ≢ a
      → IsGate (process_machine p) b q → Sparing seen changes → (v : Value) → is_open p b q v ≡ true
      → (is_open p b q (made changes q v) ≡ true) ⊎ IsOff p b seen
  still_open seen [] b q other gate spare v h = inl h
  still_open seen (x ∷ xs) b q other gate spare v h =
      step_open seen x b q other gate spare.0 (λ v'. made xs q v') (still_open seen xs b q other gate spare.1) v h
      (same_place x.place q) refl

  -- a value opens a place to no other agent whose gate it is
  abbrev pub IsShutTo : Place → Value → Type 0
  IsShutTo q x = (b : Agent) → IsGate (process_machine p) b q → is_open p b q x ≡ false

  -- a value that is seen tells of each other agent whose gate it does not open
  abbrev pub Tells : Place → Value → Seen → Type 0
  Tells q x seen =
      (b : Agent) → b ≢ a → IsGate (process_machine p) b q → is_open p b q x ≡ false → IsOff p b seen

  -- a look
  pub sees_each : {K : Seen → Type 0} (q : Place) → Safely K (see q) (Tells q)
  sees_each q = record {
    safe = λ seen changes known spare v. record {
      sparing = sparing_still (saw q v) seen changes spare;
      later = λ b shut. off_still (saw q v) seen b shut;
      fact = λ b other gate shut. decide seen changes v b other gate spare shut;
    };
  }
    where
      decide : (seen : Seen) (changes : List Changed) (v : Value) (b : Agent) → b ≢ a
          → IsGate (process_machine p) b q → Sparing seen changes → is_open p b q (made changes q v) ≡ false
          → IsOff p b (saw q v ∷ seen)
      decide seen changes v b other gate spare shut = by (is_open p b q v) refl
        where
          by : (t : Bool) → is_open p b q v ≡ t → IsOff p b (saw q v ∷ seen)
          by false e = (q, gate, inl (refl, e))
          by true e = with_open (still_open seen changes b q other gate spare v e)
            where
              with_open : (is_open p b q (made changes q v) ≡ true) ⊎ IsOff p b seen → IsOff p b (saw q v ∷ seen)
              with_open (inl is) = absurd (true≢false (sym is ∙ shut))
              with_open (inr was) = off_still (saw q v) seen b was

  pub sees : {K : Seen → Type 0} (q : Place) → Safely K (see q) (λ x s. IsShutTo q x → Shut q s)
  sees q = lighter (λ s k. k) (λ x s tells shut b other gate. tells b other gate (shut b gate)) (sees_each q)

  changes_so : {K : Seen → Type 0} (q : Place) (c : Change)
      → ((s : Seen) → K s → Spares (process_machine p) a s (altered q c)) → Safely K (change q c) Anything
  changes_so q c h = record {
    safe = λ seen changes known spare. (
      h seen known,
      record {
        sparing = spares_more seen changes (altered q c) spare (h seen known);
        later = λ b shut. shut;
        fact = tt;
      },
    );
  }

  -- a value is put where the place was seen shut
  pub puts : {K : Seen → Type 0} (q : Place) (v : Value) → ((s : Seen) → K s → Shut q s)
      → Safely K (change q (Put v)) Anything
  puts q v h = changes_so q (Put v) (λ s k. inr (h s k))

  -- changes without a look
  pub engages : {K : Seen → Type 0} (q : Place) → Safely K (change q Engage) Anything
  engages q = changes_so q Engage (λ s k. inl (λ b r v gate. engage_stays_open p b r v))

  pub decrements : {K : Seen → Type 0} (q : Place) (r : ℕ)
      → Safely K (change q (Decrement r)) Anything
  decrements q r = changes_so q (Decrement r) (λ s k. inl (λ b t v gate. decrement_stays_open p r b t v))

  pub adds : {K : Seen → Type 0} (q : Place) (z : ℤ) → Safely K (change q (Add z)) Anything
  adds q z = changes_so q (Add z) (λ s k. inl (λ b t v gate. add_stays_open p z b t v))

  pub raises : {K : Seen → Type 0} (q : Place) → Safely K (change q Raise) Anything
  raises q = changes_so q Raise (λ s k. inl (λ b t v gate. raise_stays_open p b t v))

  -- a part that may begin anywhere, of which nothing more is said
  abbrev pub IsFine : {A : Type 0} → Part A → Type 0
  IsFine part = Safely Always part Anything

  -- nothing need be known, and nothing more is said
  pub plain : {A : Type 0} {K : Seen → Type 0} {F : A → Seen → Type 0} {part : Part A} → Safely Always part F
      → Safely K part Anything
  plain h = lighter (λ s k. tt) (λ x s f. tt) h

  -- a condition
  pub requires_fine : {K : Seen → Type 0} (b : Bool) (why : Reason) → Safely K (require b why) Anything
  requires_fine true why = nothing tt (λ s k. tt)
  requires_fine false why = stops why

  pub unless_fine : {K : Seen → Type 0} (b : Option Break) → Safely K (unless b) Anything
  unless_fine None = nothing tt (λ s k. tt)
  unless_fine (Some b) = stops _

  -- a look whose value is not told of
  pub sees_fine : {K : Seen → Type 0} (q : Place) → Safely K (see q) Anything
  sees_fine q = plain (sees q)

  -- a message is handed over
  pub tells : {K : Seen → Type 0} (m : Store) → Safely K (telling m done) Anything
  tells m = record {
    safe = λ seen changes known spare. record { sparing = spare; later = λ b shut. shut; fact = tt };
  }

  -- so the walk of a step is careful
  pub careful_walk : (part : Doing) (seen : Seen) (d : Deed)
      → Safe seen d.changes part (Left seen Anything)
      → IsCareful (process_machine p) a seen (walk_from d part)
  careful_walk part seen d h = from part seen d (Left seen Anything) (λ x s c left. left.sparing) h
    where
      from : (part : Doing) (seen : Seen) (d : Deed) (Q : Unit {0} → Seen → List Changed → Type 0)
          → ((x : Unit {0}) (s : Seen) (c : List Changed) → Q x s c → Sparing s c) → Safe seen d.changes part Q
          → IsCareful (process_machine p) a seen (walk_from d part)
      from (gives x) seen d Q to h = λ go. to x seen d.changes h
      from (stopping why) seen d Q to h = λ go. absurd (true≢false go)
      from (seeing q next) seen d Q to h = λ v. from (next (made d.changes q v)) (saw q v ∷ seen) d Q to (h v)
      from (changing q c next) seen d Q to h =
          from next seen (record d { changes = d.changes ++ altered q c ∷ [] }) Q to h.1
      from (telling m next) seen d Q to h = from next seen (record d { message = Some m }) Q to h
