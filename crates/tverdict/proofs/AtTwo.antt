-- Parts that are done at two nodes, sources or sinks, one after the other.
use Rattle.std.proofs.Common.{◌≡◌, ◌⊎◌, ℕ, inl, inr, refl, sym, ap, ◌∙◌, subst, List, [], ◌∷◌, ◌++◌, Some, Ok}
use Rattle.std.proofs.Common.{Err, All, Contains, Result, ◌+◌}
use Rattle.std.specs.Prelude.{slice_get}
use Rattle.std.proofs.lemmas.List.{append-nil}
use Rattle.std.proofs.lemmas.List.Elements.{All-append, All-nil, All-weaker, Contains-append_left}
use Rattle.std.proofs.lemmas.List.Elements.{Contains-append_right}
use Rattle.std.proofs.lemmas.Option.{same_Some}
use Rattle.tplan.specs.declared.plan.Plan.{Plan}
use Rattle.tagents.specs.Walks.{Sight}
use Rattle.tprocesses.specs.Parts.{Changed, Doing, Part, Reason, changing, gives, seeing, stopping, telling, ◌>>=◌}
use Rattle.tprocesses.specs.Places.{Place}
use Rattle.tprocesses.specs.Values.{Value}
use Rattle.tcertify.specs.declared.fault.Fault.{Fault}
use Rattle.tcertify.specs.declared.fault.Fault.TheVariants as fault
use Rattle.tcertify.specs.declared.lead.Lead.{Lead}
use Rattle.tcertify.specs.declared.lead.Lead.TheVariants as lead
use Rattle.tcertify.specs.declared.node.Node.{Node}
use Rattle.tcertify.specs.declared.notes.Notes.{Notes}
use Rattle.tcertify.specs.Nodes.{IsLed, nothing}
use Rattle.tcertify.specs.Words.{reason_of}
use Rattle.tcertify.specs.Notes.{IsNoted, Numbering}
use Rattle.tcertify.specs.Running.{State, changed, run_part}
use Rattle.tcertify.specs.Seeing.{sights}
use Rattle.tcertify.specs.Walked.{Accessed, accesses, change_at, changes, look_at}
use Rattle.tcertify.proofs.NodeRunning.{grows_not, keeps_all, keeps_on, led_still}
use Rattle.tcertify.proofs.Running.{run_on, run_stops}
use Rattle.tverdict.specs.declared.machine.Machine.{Machine}
use Rattle.tverdict.specs.Machines.{machine_at}
use Rattle.tverdict.specs.Passing.{DoesHalf, NumbersMachine, RunsHalf, notes_at}
use Rattle.tverdict.specs.Wired.{AreKeptAt, DoesAtTwo, IsNotedAt, RunsAtTwo}
use Rattle.tverdict.proofs.Staying.{grow_twice, none_stays}

-- what follows an answer: its accesses, what it sees, and its changes
abbrev after : {A B X : Type 0} → (Part B → State → List X) → (A → Part B) → Result A Reason × State → List X
after list f (Ok x, t) = list (f x) t
after list f (Err why, t) = []

accesses_bind : {A B : Type 0} (p : Part A) (f : A → Part B) (s : State)
    → accesses (p >>= f) s ≡ accesses p s ++ after accesses f (run_part p s)
accesses_bind (gives x) f s = refl
accesses_bind (stopping why) f s = refl
accesses_bind (seeing p next) f s = ap (λ r. look_at p ∷ r) (accesses_bind (next (s p)) f s)
accesses_bind (changing p c next) f s = ap (λ r. change_at p c ∷ r) (accesses_bind next f (changed p c s))
accesses_bind (telling m next) f s = accesses_bind next f s

sights_bind : {A B : Type 0} (p : Part A) (f : A → Part B) (s : State)
    → sights (p >>= f) s ≡ sights p s ++ after sights f (run_part p s)
sights_bind (gives x) f s = refl
sights_bind (stopping why) f s = refl
sights_bind (seeing p next) f s =
    ap (λ r. record { place = p; value = s p } ∷ r) (sights_bind (next (s p)) f s)
sights_bind (changing p c next) f s = sights_bind next f (changed p c s)
sights_bind (telling m next) f s = sights_bind next f s

changes_bind : {A B : Type 0} (p : Part A) (f : A → Part B) (s : State)
    → changes (p >>= f) s ≡ changes p s ++ after changes f (run_part p s)
changes_bind (gives x) f s = refl
changes_bind (stopping why) f s = refl
changes_bind (seeing p next) f s = changes_bind (next (s p)) f s
changes_bind (changing p c next) f s =
    ap (λ r. record { place = p; change = c } ∷ r) (changes_bind next f (changed p c s))
changes_bind (telling m next) f s = changes_bind next f s

-- a lead of what was seen and changed is one of more
led_more : (b : Node) (seen seen' : List (Sight Place Value)) (deeds deeds' : List Changed)
    → ((x : Sight Place Value) → Contains seen x → Contains seen' x)
    → ((x : Changed) → Contains deeds x → Contains deeds' x) → (l : Lead) → IsLed b seen deeds l
    → IsLed b seen' deeds' l
led_more b seen seen' deeds deeds' see do' (lead.Process k) (x, at, shut) =
    (x, at, record { value = shut.value; there = see _ shut.there; shut = shut.shut })
led_more b seen seen' deeds deeds' see do' (lead.Channel k) (c, at, (side, shut)) =
    (c, at, (side, record { value = shut.value; there = see _ shut.there; shut = shut.shut }))
led_more b seen seen' deeds deeds' see do' (lead.Link k side) shut =
    record { value = shut.value; there = see _ shut.there; shut = shut.shut }
led_more b seen seen' deeds deeds' see do' (lead.Count k) (p, has) = (p, do' _ has)

module _ (plan : Plan) (n o : ℕ) where
  -- a part at one of two nodes
  pub at_first : {A : Type 0} (part : Part A) (m m' : Machine) (c c' : Notes) (answer : Result A Reason)
      → RunsHalf plan part n m c answer m' c' → RunsAtTwo plan part n o m c answer m' c'
  at_first part m m' c c' answer half =
      record {
        runs = half.runs;
        nodes = half.goes.nodes;
        others = λ k one other. half.goes.others k one;
        sent = half.goes.sent;
        sinks = half.goes.sinks;
        places = half.goes.places;
        same = half.goes.same;
        keeps = half.keeps;
        noted = λ numbering nm kept.
            All-weaker (IsNoted numbering (notes_at m' c' n).items.items) (IsNotedAt numbering m' c' n o)
            (λ x h. inl h) (accesses part (machine_at plan m)) (half.noted numbering nm kept.one);
        led = half.led;
      }

  pub at_second : {A : Type 0} (part : Part A) (m m' : Machine) (c c' : Notes) (answer : Result A Reason)
      → RunsHalf plan part o m c answer m' c' → RunsAtTwo plan part n o m c answer m' c'
  at_second part m m' c c' answer half =
      record {
        runs = half.runs;
        nodes = half.goes.nodes;
        others = λ k one other. half.goes.others k other;
        sent = half.goes.sent;
        sinks = half.goes.sinks;
        places = half.goes.places;
        same = half.goes.same;
        keeps = half.keeps;
        noted = λ numbering nm kept.
            All-weaker (IsNoted numbering (notes_at m' c' o).items.items) (IsNotedAt numbering m' c' n o)
            (λ x h. inr h) (accesses part (machine_at plan m)) (half.noted numbering nm kept.other);
        led = half.led;
      }

  -- a part that looks at nothing and changes nothing
  pub same_still : {A : Type 0} (part : Part A) (m : Machine) (c : Notes) (answer : Result A Reason)
      → run_part part (machine_at plan m) ≡ (answer, machine_at plan m) → accesses part (machine_at plan m) ≡ []
      → RunsAtTwo plan part n o m c answer m c
  same_still part m c answer runs none =
      record {
        runs = runs;
        nodes = record { many = refl; grow = λ k a at. (a, at, grows_not a) };
        others = λ k one other. refl;
        sent = refl;
        sinks = refl;
        places = λ k p has. has;
        same = refl;
        keeps = λ k. keeps_all (notes_at m c k);
        noted = λ numbering nm kept.
            subst (All (IsNotedAt numbering m c n o)) (sym none) (All-nil (IsNotedAt numbering m c n o));
        led = λ k b l at has. inl (b, at, has);
      }

  -- the first of two parts stops
  module _ {A B : Type 0} (first : Part A) (next : A → Part B) (m m' : Machine) (c c' : Notes) (why : Reason)
      (ran : RunsAtTwo plan first n o m c (Err why) m' c') where
    none_then : {X : Type 0} (whole own : List X) (rest : Result A Reason × State → List X)
        → whole ≡ own ++ rest (run_part first (machine_at plan m)) → rest (Err why, machine_at plan m') ≡ []
        → whole ≡ own
    none_then whole own rest is none =
        is ∙ ap (λ r. own ++ rest r) ran.runs ∙ ap (λ xs. own ++ xs) none ∙ append-nil own

    accesses_first : accesses (first >>= next) (machine_at plan m) ≡ accesses first (machine_at plan m)
    accesses_first =
        none_then (accesses (first >>= next) (machine_at plan m)) (accesses first (machine_at plan m))
        (after accesses next) (accesses_bind first next (machine_at plan m)) refl

    sights_first : sights (first >>= next) (machine_at plan m) ≡ sights first (machine_at plan m)
    sights_first =
        none_then (sights (first >>= next) (machine_at plan m)) (sights first (machine_at plan m))
        (after sights next) (sights_bind first next (machine_at plan m)) refl

    changes_first : changes (first >>= next) (machine_at plan m) ≡ changes first (machine_at plan m)
    changes_first =
        none_then (changes (first >>= next) (machine_at plan m)) (changes first (machine_at plan m))
        (after changes next) (changes_bind first next (machine_at plan m)) refl

    two_stop : RunsAtTwo plan (first >>= next) n o m c (Err why) m' c'
    two_stop =
        record {
          runs = run_stops first next (machine_at plan m) (machine_at plan m') why ran.runs;
          nodes = ran.nodes;
          others = ran.others;
          sent = ran.sent;
          sinks = ran.sinks;
          places = ran.places;
          same = ran.same;
          keeps = ran.keeps;
          noted = λ numbering nm kept.
              subst (All (IsNotedAt numbering m' c' n o)) (sym accesses_first) (ran.noted numbering nm kept);
          led = λ k b l at has. elim (ran.led k b l at has) [
            | inl before ↦ inl before
            | inr led ↦ inr (led_more b (sights first (machine_at plan m)) _ (changes first (machine_at plan m)) _
                (λ x h. subst (λ (xs : List (Sight Place Value)). Contains xs x) (sym sights_first) h)
                (λ x h. subst (λ (xs : List Changed). Contains xs x) (sym changes_first) h) l led)
          ];
        }

  -- one part and then another
  module _ {A B : Type 0} (first : Part A) (next : A → Part B) (m m' m'' : Machine) (c c' c'' : Notes) (x : A)
      (answer : Result B Reason) (one : RunsAtTwo plan first n o m c (Ok x) m' c')
      (other : RunsAtTwo plan (next x) n o m' c' answer m'' c'') where
    abbrev s : State
    s = machine_at plan m

    abbrev s' : State
    s' = machine_at plan m'

    accesses_both : accesses (first >>= next) s ≡ accesses first s ++ accesses (next x) s'
    accesses_both =
        accesses_bind first next s ∙ ap (λ r. accesses first s ++ after accesses next r) one.runs

    sights_both : sights (first >>= next) s ≡ sights first s ++ sights (next x) s'
    sights_both = sights_bind first next s ∙ ap (λ r. sights first s ++ after sights next r) one.runs

    changes_both : changes (first >>= next) s ≡ changes first s ++ changes (next x) s'
    changes_both = changes_bind first next s ∙ ap (λ r. changes first s ++ after changes next r) one.runs

    numbers_back : (numbering : Numbering) → NumbersMachine numbering m'' → NumbersMachine numbering m'
    numbers_back numbering nm =
        record {
          nodes = λ k a at. let (b, by, grows) = other.nodes.grow k a at in
              grows.numbers numbering (nm.nodes k b by);
          messages = λ e. nm.messages e ∙ ap (λ (y : Machine). y.first_script + e.node) other.same;
          kept = λ e. nm.kept e ∙ ap (λ (y : Machine). y.first_script + e.node) other.same;
          nowhere = λ e side none.
              nm.nowhere e side (none_stays m'.nodes.items m''.nodes.items other.nodes e.node none)
              ∙ ap (λ (y : Machine). y.first_script) other.same;
        }

    -- what was noted before is noted still
    still_noted : (numbering : Numbering) → AreKeptAt m'' c'' n o → (a : Accessed) → IsNotedAt numbering m' c' n o a
        → IsNotedAt numbering m'' c'' n o a
    still_noted numbering kept a (inl h) = inl ((other.keeps n).notes kept.one numbering a h)
    still_noted numbering kept a (inr h) = inr ((other.keeps o).notes kept.other numbering a h)

    led_both : (k : ℕ) (b : Node) (l : Lead) → slice_get m''.nodes.items k ≡ Some b → Contains b.leads.items l
        → ((a : Node) × (slice_get m.nodes.items k ≡ Some a) × Contains a.leads.items l)
        ⊎ IsLed b (sights (first >>= next) s) (changes (first >>= next) s) l
    led_both k b l at has = elim (other.led k b l at has) [
      | inr led ↦ inr (led_more b (sights (next x) s') _ (changes (next x) s') _
          (λ y h. subst (λ (xs : List (Sight Place Value)). Contains xs y) (sym sights_both)
          (Contains-append_right (sights first s) (sights (next x) s') y h))
          (λ y h. subst (λ (xs : List Changed). Contains xs y) (sym changes_both)
          (Contains-append_right (changes first s) (changes (next x) s') y h)) l led)
      | inl (a, by, before) ↦ elim (one.led k a l by before) [
        | inl earlier ↦ inl earlier
        | inr led ↦
            let (z, here, grows) = other.nodes.grow k a by in
            let is : z ≡ b = same_Some z b (sym here ∙ at) in
            inr (subst (λ (y : Node). IsLed y (sights (first >>= next) s) (changes (first >>= next) s) l) is
            (led_more z (sights first s) _ (changes first s) _
            (λ y h. subst (λ (xs : List (Sight Place Value)). Contains xs y) (sym sights_both)
            (Contains-append_left (sights first s) (sights (next x) s') y h))
            (λ y h. subst (λ (xs : List Changed). Contains xs y) (sym changes_both)
            (Contains-append_left (changes first s) (changes (next x) s') y h)) l
            (led_still a z grows (sights first s) (changes first s) l led)))
      ]
    ]

    runs_both : (r : Result B Reason) → run_part (next x) s' ≡ (r, machine_at plan m'')
        → run_part (first >>= next) s ≡ (r, machine_at plan m'')
    runs_both r e = run_on first next s s' x one.runs ∙ e

    two_go : RunsAtTwo plan (first >>= next) n o m c answer m'' c''
    two_go =
        record {
          runs = runs_both answer other.runs;
          nodes = grow_twice m.nodes.items m'.nodes.items m''.nodes.items one.nodes other.nodes;
          others = λ k differs away. other.others k differs away ∙ one.others k differs away;
          sent = other.sent ∙ one.sent;
          sinks = other.sinks ∙ one.sinks;
          places = λ k p has. one.places k p (other.places k p has);
          same = other.same
              ∙ ap (λ (y : Machine). record y { nodes = m''.nodes; sent = m''.sent; sinks = m''.sinks }) one.same;
          keeps = λ k. keeps_on (notes_at m c k) (notes_at m' c' k) (notes_at m'' c'' k) (one.keeps k) (other.keeps k);
          noted = λ numbering nm kept.
              subst (All (IsNotedAt numbering m'' c'' n o)) (sym accesses_both)
              (All-append (IsNotedAt numbering m'' c'' n o) (accesses first s) (accesses (next x) s')
              (All-weaker (IsNotedAt numbering m' c' n o) (IsNotedAt numbering m'' c'' n o)
              (still_noted numbering kept) (accesses first s)
              (one.noted numbering (numbers_back numbering nm)
              (record { one = (other.keeps n).lost kept.one; other = (other.keeps o).lost kept.other })))
              (other.noted numbering nm kept));
          led = led_both;
        }

  -- the same holds by what calls answered
  pub does_first : (part : Doing) (m m' : Machine) (c c' : Notes) (result : Result (Unit {0}) Fault)
      → DoesHalf plan part nothing n m c result m' c' → DoesAtTwo plan part n o m c result m' c'
  does_first part m m' c c' (Ok x) half = at_first part m m' c c' (Ok tt) half
  does_first part m m' c c' (Err (fault.Stops why)) half = at_first part m m' c c' (Err (reason_of why)) half
  does_first part m m' c c' (Err fault.OutOfMemory) half = tt

  pub does_second : (part : Doing) (m m' : Machine) (c c' : Notes) (result : Result (Unit {0}) Fault)
      → DoesHalf plan part nothing o m c result m' c' → DoesAtTwo plan part n o m c result m' c'
  does_second part m m' c c' (Ok x) half = at_second part m m' c c' (Ok tt) half
  does_second part m m' c c' (Err (fault.Stops why)) half = at_second part m m' c c' (Err (reason_of why)) half
  does_second part m m' c c' (Err fault.OutOfMemory) half = tt

  pub fails_first : {X A : Type 0} (first : Part A) (next : A → Doing) (f : X → A) (m m' : Machine) (c c' : Notes)
      (e : Fault) → DoesHalf plan first f n m c (Err e) m' c' → DoesAtTwo plan (first >>= next) n o m c (Err e) m' c'
  fails_first first next f m m' c c' (fault.Stops why) half =
      two_stop first next m m' c c' (reason_of why) (at_first first m m' c c' (Err (reason_of why)) half)
  fails_first first next f m m' c c' fault.OutOfMemory half = tt

  pub fails_second : {X A : Type 0} (first : Part A) (next : A → Doing) (f : X → A) (m m' : Machine) (c c' : Notes)
      (e : Fault) → DoesHalf plan first f o m c (Err e) m' c' → DoesAtTwo plan (first >>= next) n o m c (Err e) m' c'
  fails_second first next f m m' c c' (fault.Stops why) half =
      two_stop first next m m' c c' (reason_of why) (at_second first m m' c c' (Err (reason_of why)) half)
  fails_second first next f m m' c c' fault.OutOfMemory half = tt

  pub fails_both : (first : Doing) (next : Unit {0} → Doing) (m m' : Machine) (c c' : Notes) (e : Fault)
      → DoesAtTwo plan first n o m c (Err e) m' c' → DoesAtTwo plan (first >>= next) n o m c (Err e) m' c'
  fails_both first next m m' c c' (fault.Stops why) does = two_stop first next m m' c c' (reason_of why) does
  fails_both first next m m' c c' fault.OutOfMemory does = tt

  pub does_both : {A : Type 0} (first : Part A) (next : A → Doing) (m m' m'' : Machine) (c c' c'' : Notes) (x : A)
      (result : Result (Unit {0}) Fault) → RunsAtTwo plan first n o m c (Ok x) m' c'
      → DoesAtTwo plan (next x) n o m' c' result m'' c'' → DoesAtTwo plan (first >>= next) n o m c result m'' c''
  does_both first next m m' m'' c c' c'' x (Ok y) one other =
      two_go first next m m' m'' c c' c'' x (Ok tt) one other
  does_both first next m m' m'' c c' c'' x (Err (fault.Stops why)) one other =
      two_go first next m m' m'' c c' c'' x (Err (reason_of why)) one other
  does_both first next m m' m'' c c' c'' x (Err fault.OutOfMemory) one other = tt
