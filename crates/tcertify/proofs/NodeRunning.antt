-- Calls on a node, one after another.
use Rattle.std.proofs.Common.{◌≡◌, ◌<◌, ℕ, refl, sym, ap, ◌∙◌, subst, List, [], ◌∷◌, ◌++◌, length, arith, Result, Ok}
use Rattle.std.proofs.Common.{Err}
use Rattle.std.proofs.Common.{Option, Bool, inl, inr}
use Rattle.std.specs.Prelude.{All, Contains, unwrap_or}
use Rattle.std.proofs.lemmas.List.Elements.{All-append, All-weaker, Contains-append_left, Contains-append_right}
use Rattle.std.proofs.lemmas.List.{append-nil, length-map}
use Rattle.std.proofs.lemmas.Option.{slice_get-get_or}
use Rattle.tagents.specs.Walks.{Sight}
use Rattle.tplan.specs.Wires.{end_at}
use Rattle.tprocesses.specs.Places.{Place, Name, Image, WordAt, Half, LinkHalf}
use Rattle.tprocesses.specs.Machine.{is_due_at, is_met_at}
use Rattle.tprocesses.specs.Changes.{Decrement}
use Rattle.tprocesses.specs.Values.{Value, half_in, link_in}
use Rattle.tprocesses.specs.Parts.{Reason, Part, Changed, done, gives, stopping, seeing, changing, telling, ◌>>=◌}
use Rattle.tprocesses.specs.Touching.{Site}
use Rattle.tcertify.specs.declared.channel.Channel.{Channel}
use Rattle.tcertify.specs.declared.fault.Fault.{Fault}
use Rattle.tcertify.specs.declared.fault.Fault.TheVariants as fault
use Rattle.tcertify.specs.declared.lead.Lead.{Lead}
use Rattle.tcertify.specs.declared.lead.Lead.TheVariants as lead
use Rattle.tcertify.specs.declared.life.Life.{Life}
use Rattle.tcertify.specs.declared.node.Node.{Node}
use Rattle.tcertify.specs.declared.notes.Notes.{Notes}
use Rattle.tcertify.specs.Nodes.{Does, Grows, IsLed, IsSeenShut, RunsAt, address_at, addresses, name_at, names, node_at}
use Rattle.tcertify.specs.Nodes.{workspace_at, workspaces}
use Rattle.tcertify.specs.Processes.{name_of}
use Rattle.tcertify.specs.Notes.{IsNoted, Keeps}
use Rattle.tcertify.specs.Running.{State, changed, run_part}
use Rattle.tcertify.specs.Seeing.{sights}
use Rattle.tcertify.specs.Sides.{side_of}
use Rattle.tcertify.specs.Walked.{Accessed, accesses, changes, look_at, change_at}
use Rattle.tcertify.specs.Words.{reason_of}
use Rattle.tcertify.proofs.Running.{run_on, run_stops}

-- one part and two more that take answers
pub bind_assoc : {A B C : Type 0} (p : Part A) (f : A → Part B) (g : B → Part C)
    → ((p >>= f) >>= g) ≡ (p >>= (λ x. f x >>= g))
bind_assoc (gives x) f g = refl
bind_assoc (stopping why) f g = refl
bind_assoc (seeing p next) f g = λ i. seeing p (λ v. bind_assoc (next v) f g i)
bind_assoc (changing p c next) f g = ap (changing p c) (bind_assoc next f g)
bind_assoc (telling m next) f g = ap (telling m) (bind_assoc next f g)

-- what follows an answer: its accesses, what it sees, and its changes
abbrev after : {A B X : Type 0} → (Part B → State → List X) → (A → Part B) → Result A Reason × State → List X
after list f (Ok x, t) = list (f x) t
after list f (Err why, t) = []

accesses_bind : {A B : Type 0} (p : Part A) (f : A → Part B) (s : State)
    → accesses (p >>= f) s ≡ accesses p s ++ after accesses f (run_part p s)
accesses_bind (gives x) f s = refl
accesses_bind (stopping why) f s = refl
accesses_bind (seeing p next) f s = ap (λ r. look_at p ∷ r) (accesses_bind (next (s p)) f s)
accesses_bind (changing p c next) f s = ap (λ r. change_at p c ∷ r) (accesses_bind next f (changed p c s))
accesses_bind (telling m next) f s = accesses_bind next f s

sights_bind : {A B : Type 0} (p : Part A) (f : A → Part B) (s : State)
    → sights (p >>= f) s ≡ sights p s ++ after sights f (run_part p s)
sights_bind (gives x) f s = refl
sights_bind (stopping why) f s = refl
sights_bind (seeing p next) f s =
    ap (λ r. record { place = p; value = s p } ∷ r) (sights_bind (next (s p)) f s)
sights_bind (changing p c next) f s = sights_bind next f (changed p c s)
sights_bind (telling m next) f s = sights_bind next f s

changes_bind : {A B : Type 0} (p : Part A) (f : A → Part B) (s : State)
    → changes (p >>= f) s ≡ changes p s ++ after changes f (run_part p s)
changes_bind (gives x) f s = refl
changes_bind (stopping why) f s = refl
changes_bind (seeing p next) f s = changes_bind (next (s p)) f s
changes_bind (changing p c next) f s =
    ap (λ r. record { place = p; change = c } ∷ r) (changes_bind next f (changed p c s))
changes_bind (telling m next) f s = changes_bind next f s

-- a node that has grown twice has grown
pub grows_on : (a b c : Node) → Grows a b → Grows b c → Grows a c
grows_on a b c g h =
    record {
      site = h.site ∙ g.site;
      numbers = λ numbering n. g.numbers numbering (h.numbers numbering n);
      processes = omega (arith, g.processes, h.processes);
      channels = omega (arith, g.channels, h.channels);
      lives = omega (arith, g.lives, h.lives);
      names = λ k x e. h.names k x (g.names k x e);
      addresses = λ k x e. h.addresses k x (g.addresses k x e);
      workspaces = λ k x e. h.workspaces k x (g.workspaces k x e);
    }

-- and one that stays as it is
pub grows_not : (a : Node) → Grows a a
grows_not a =
    record {
      site = refl;
      numbers = λ numbering n. n;
      processes = omega arith;
      channels = omega arith;
      lives = omega arith;
      names = λ k x e. e;
      addresses = λ k x e. e;
      workspaces = λ k x e. e;
    }

-- notes that are kept twice, and those that stay
pub keeps_on : (a b c : Notes) → Keeps a b → Keeps b c → Keeps a c
keeps_on a b c g h =
    record {
      lost = λ e. g.lost (h.lost e);
      notes = λ e numbering x n. h.notes e numbering x (g.notes (h.lost e) numbering x n);
      earlier = h.earlier ∙ g.earlier;
      stay = λ k note low at. h.stay k note (subst (λ (n : ℕ). k < n) (sym g.earlier) low) (g.stay k note low at);
    }

pub keeps_all : (a : Notes) → Keeps a a
keeps_all a = record { lost = λ e. e; notes = λ e numbering x n. n; earlier = refl; stay = λ k note low at. at }

-- the number of a node
pub number_stays : (a b : Node) → Grows a b → a.words.number ≡ b.words.number
number_stays a b g = ap (λ (s : Site). s.number) (sym g.site)

-- what was seen shut among what was seen at first, or later
shut_first : (seen more : List (Sight Place Value)) (p : Place) (is_open : Value → Bool) → IsSeenShut seen p is_open
    → IsSeenShut (seen ++ more) p is_open
shut_first seen more p is_open h =
    record { value = h.value; there = Contains-append_left seen more _ h.there; shut = h.shut }

shut_later : (before seen : List (Sight Place Value)) (p : Place) (is_open : Value → Bool)
    → IsSeenShut seen p is_open → IsSeenShut (before ++ seen) p is_open
shut_later before seen p is_open h =
    record { value = h.value; there = Contains-append_right before seen _ h.there; shut = h.shut }

-- a lead of what was seen and changed at first
led_first : (a b : Node) → Grows a b → (seen more : List (Sight Place Value)) (deeds rest : List Changed) (l : Lead)
    → IsLed a seen deeds l → IsLed b (seen ++ more) (deeds ++ rest) l
led_first a b g seen more deeds rest (lead.Process k) (x, at, h) = (x, g.names k x at, shut_first seen more _ _ h)
led_first a b g seen more deeds rest (lead.Channel k) (c, at, (side, h)) = (
  c,
  g.addresses k c at,
  (
    side,
    shut_first seen more _ _
        (subst (λ (n : ℕ). IsSeenShut seen (Half n c side) (λ v. is_met_at (Half n c side) (half_in v)))
        (number_stays a b g) h),
  ),
)
led_first a b g seen more deeds rest (lead.Link l side) h =
    shut_first seen more _ _
    (subst (λ (n : ℕ). IsSeenShut seen (LinkHalf (end_at n l) (side_of side))
    (λ v. is_due_at (side_of side) (link_in v)))
    (number_stays a b g) h)
led_first a b g seen more deeds rest (lead.Count k) (p, h) = (
  p,
  Contains-append_left deeds rest _
      (subst (λ (n : ℕ). Contains deeds (record { place = WordAt n k; change = Decrement p })) (number_stays a b g) h),
)

-- a lead of a node that has grown
pub led_still : (a b : Node) → Grows a b → (seen : List (Sight Place Value)) (deeds : List Changed) (l : Lead)
    → IsLed a seen deeds l → IsLed b seen deeds l
led_still a b g seen deeds l h =
    subst (λ (d : List Changed). IsLed b seen d l) (append-nil deeds)
    (subst (λ (s : List (Sight Place Value)). IsLed b s (deeds ++ []) l) (append-nil seen)
    (led_first a b g seen [] deeds [] l h))

-- or later
led_later : (b : Node) (before seen : List (Sight Place Value)) (first deeds : List Changed) (l : Lead)
    → IsLed b seen deeds l → IsLed b (before ++ seen) (first ++ deeds) l
led_later b before seen first deeds (lead.Process k) (x, at, h) = (x, at, shut_later before seen _ _ h)
led_later b before seen first deeds (lead.Channel k) (c, at, (side, h)) =
    (c, at, (side, shut_later before seen _ _ h))
led_later b before seen first deeds (lead.Link l side) h = shut_later before seen _ _ h
led_later b before seen first deeds (lead.Count k) (p, h) = (p, Contains-append_right first deeds _ h)

-- one call, and one that takes its answer
module _ {A B : Type 0} (p : Part A) (f : A → Part B) (a b c : Node) (x : A) (r : Result B Reason)
    (first : RunsAt p a (Ok x) b) (second : RunsAt (f x) b r c) where
  -- what the two see and change
  sights_both : (rest : State)
      → sights p (node_at a rest) ++ sights (f x) (node_at b rest) ≡ sights (p >>= f) (node_at a rest)
  sights_both rest =
      sym (sights_bind p f (node_at a rest)
      ∙ ap (λ (o : Result A Reason × State). sights p (node_at a rest) ++ after sights f o) (first.runs rest))

  changes_both : (rest : State)
      → changes p (node_at a rest) ++ changes (f x) (node_at b rest) ≡ changes (p >>= f) (node_at a rest)
  changes_both rest =
      sym (changes_bind p f (node_at a rest)
      ∙ ap (λ (o : Result A Reason × State). changes p (node_at a rest) ++ after changes f o) (first.runs rest))

  accesses_both : (rest : State)
      → accesses p (node_at a rest) ++ accesses (f x) (node_at b rest) ≡ accesses (p >>= f) (node_at a rest)
  accesses_both rest =
      sym (accesses_bind p f (node_at a rest)
      ∙ ap (λ (o : Result A Reason × State). accesses p (node_at a rest) ++ after accesses f o) (first.runs rest))

  -- a lead of both
  led_both : (l : Lead) (rest : State)
      → IsLed c (sights p (node_at a rest) ++ sights (f x) (node_at b rest))
      (changes p (node_at a rest) ++ changes (f x) (node_at b rest)) l
      → IsLed c (sights (p >>= f) (node_at a rest)) (changes (p >>= f) (node_at a rest)) l
  led_both l rest h =
      subst (λ (d : List Changed). IsLed c (sights (p >>= f) (node_at a rest)) d l) (changes_both rest)
      (subst (λ (seen : List (Sight Place Value)). IsLed c seen
      (changes p (node_at a rest) ++ changes (f x) (node_at b rest)) l) (sights_both rest) h)

  pub runs_at_on : RunsAt (p >>= f) a r c
  runs_at_on =
      record {
        runs = λ rest. run_on p f (node_at a rest) (node_at b rest) x (first.runs rest) ∙ second.runs rest;
        grows = grows_on a b c first.grows second.grows;
        keeps = keeps_on a.words.notes b.words.notes c.words.notes first.keeps second.keeps;
        noted = λ numbering n rest lost.
            subst (λ (xs : List Accessed). All (IsNoted numbering c.words.notes.items.items) xs) (accesses_both rest)
            (All-append (IsNoted numbering c.words.notes.items.items) (accesses p (node_at a rest))
            (accesses (f x) (node_at b rest))
            (All-weaker (IsNoted numbering b.words.notes.items.items) (IsNoted numbering c.words.notes.items.items)
            (λ y. second.keeps.notes lost numbering y) (accesses p (node_at a rest))
            (first.noted numbering (second.grows.numbers numbering n) rest (second.keeps.lost lost)))
            (second.noted numbering n rest lost));
        led = λ l there. elim (second.led l there) [
          | inl before ↦ elim (first.led l before) [
            | inl old ↦ inl old
            | inr so ↦ inr (λ rest. led_both l rest
                (led_first b c second.grows (sights p (node_at a rest)) (sights (f x) (node_at b rest))
                (changes p (node_at a rest)) (changes (f x) (node_at b rest)) l (so rest)))
          ]
          | inr so ↦ inr (λ rest. led_both l rest
              (led_later c (sights p (node_at a rest)) (sights (f x) (node_at b rest)) (changes p (node_at a rest))
              (changes (f x) (node_at b rest)) l (so rest)))
        ];
      }

-- a call that stops
module _ {A B : Type 0} (p : Part A) (f : A → Part B) (a b : Node) (why : Reason)
    (first : RunsAt p a (Err why) b) where
  same_sights : (rest : State) → sights p (node_at a rest) ++ [] ≡ sights (p >>= f) (node_at a rest)
  same_sights rest =
      sym (sights_bind p f (node_at a rest)
      ∙ ap (λ (o : Result A Reason × State). sights p (node_at a rest) ++ after sights f o) (first.runs rest))

  same_changes : (rest : State) → changes p (node_at a rest) ++ [] ≡ changes (p >>= f) (node_at a rest)
  same_changes rest =
      sym (changes_bind p f (node_at a rest)
      ∙ ap (λ (o : Result A Reason × State). changes p (node_at a rest) ++ after changes f o) (first.runs rest))

  same_accesses : (rest : State) → accesses p (node_at a rest) ++ [] ≡ accesses (p >>= f) (node_at a rest)
  same_accesses rest =
      sym (accesses_bind p f (node_at a rest)
      ∙ ap (λ (o : Result A Reason × State). accesses p (node_at a rest) ++ after accesses f o) (first.runs rest))

  led_same : (l : Lead) (rest : State) → IsLed b (sights p (node_at a rest)) (changes p (node_at a rest)) l
      → IsLed b (sights (p >>= f) (node_at a rest)) (changes (p >>= f) (node_at a rest)) l
  led_same l rest h =
      subst (λ (d : List Changed). IsLed b (sights (p >>= f) (node_at a rest)) d l) (same_changes rest)
      (subst (λ (seen : List (Sight Place Value)). IsLed b seen (changes p (node_at a rest) ++ []) l) (same_sights rest)
      (led_first b b (grows_not b) (sights p (node_at a rest)) [] (changes p (node_at a rest)) [] l h))

  pub runs_at_stop : RunsAt (p >>= f) a (Err why) b
  runs_at_stop =
      record {
        runs = λ rest. run_stops p f (node_at a rest) (node_at b rest) why (first.runs rest);
        grows = first.grows;
        keeps = first.keeps;
        noted = λ numbering n rest lost.
            subst (λ (xs : List Accessed). All (IsNoted numbering b.words.notes.items.items) xs) (same_accesses rest)
            (All-append (IsNoted numbering b.words.notes.items.items) (accesses p (node_at a rest)) [] (first.noted
            numbering n rest lost) (λ k d below. absurd (omega arith)));
        led = λ l there. elim (first.led l there) [
          | inl old ↦ inl old
          | inr so ↦ inr (λ rest. led_same l rest (so rest))
        ];
      }

-- an answer alone
pub runs_at_given : {A : Type 0} (x : A) (a : Node) → RunsAt (gives x) a (Ok x) a
runs_at_given x a =
    record {
      runs = λ rest. refl;
      grows = grows_not a;
      keeps = keeps_all a.words.notes;
      noted = λ numbering n rest lost. (λ k d below. absurd (omega arith));
      led = λ l there. inl there;
    }

-- and a stop alone
pub runs_at_stopped : {A : Type 0} (why : Reason) (a : Node) → RunsAt {A = A} (stopping why) a (Err why) a
runs_at_stopped why a =
    record {
      runs = λ rest. refl;
      grows = grows_not a;
      keeps = keeps_all a.words.notes;
      noted = λ numbering n rest lost. (λ k d below. absurd (omega arith));
      led = λ l there. inl there;
    }

-- the same for calls that may find memory out
pub does_on : {A B X : Type 0} (p : Part A) (f : A → Part B) (h : X → B) (a b c : Node) (x : A) (r : Result X Fault)
    → RunsAt p a (Ok x) b → Does (f x) h b r c → Does (p >>= f) h a r c
does_on p f h a b c x (Ok y) first second = runs_at_on p f a b c x (Ok (h y)) first second
does_on p f h a b c x (Err (fault.Stops why)) first second =
    runs_at_on p f a b c x (Err (reason_of why)) first second
does_on p f h a b c x (Err fault.OutOfMemory) first second = tt

pub does_stop : {A B X Y : Type 0} (p : Part A) (f : A → Part B) (h : X → A) (k : Y → B) (a b : Node) (e : Fault)
    → Does p h a (Err e) b → Does (p >>= f) k a (Err e) b
does_stop p f h k a b (fault.Stops why) first = runs_at_stop p f a b (reason_of why) first
does_stop p f h k a b fault.OutOfMemory first = tt

-- a call that does nothing but ask for memory, before others
pub does_after : {B X : Type 0} (f : Part B) (h : X → B) (a b c : Node) (r : Result X Fault)
    → RunsAt done a (Ok tt) b → Does f h b r c → Does f h a r c
does_after f h a b c r first second = does_on done (λ (u : Unit {0}). f) h a b c tt r first second

-- the name of a process stays, and the address of a channel
name_or_nobody : Option Name → Name
name_or_nobody o = unwrap_or o (record { node = 0; root = Image 0; path = [] })

pub name_stays : (a b : Node) (k : ℕ) → Grows a b → k < length a.processes.items.items → name_at b k ≡ name_at a k
unfolding name_or_nobody
name_stays a b k g h =
    let counted = length-map a.processes.items.items (name_of a.words.number) in
    let inside : k < length (names a) = omega (arith, counted) in
    let at = slice_get-get_or (names a) k (name_at a k) inside in
    ap name_or_nobody (g.names k _ at ∙ sym at)

pub address_stays : (a b : Node) (k : ℕ) → Grows a b → k < length a.channels.items.items
    → address_at b k ≡ address_at a k
address_stays a b k g h =
    let counted = length-map a.channels.items.items (λ (c : Channel). c.address) in
    let inside : k < length (addresses a) = omega (arith, counted) in
    let at = slice_get-get_or (addresses a) k 0 inside in
    ap (λ (o : Option ℕ). unwrap_or o 0) (g.addresses k _ at ∙ sym at)

pub workspace_stays : (a b : Node) (k : ℕ) → Grows a b → k < length a.lives.items.items
    → workspace_at b k ≡ workspace_at a k
workspace_stays a b k g h =
    let counted = length-map a.lives.items.items (λ (l : Life). l.workspace) in
    let inside : k < length (workspaces a) = omega (arith, counted) in
    let at = slice_get-get_or (workspaces a) k 0 inside in
    ap (λ (o : Option ℕ). unwrap_or o 0) (g.workspaces k _ at ∙ sym at)
