-- A processor of a plan after its processes were added, one after another.
use Rattle.std.proofs.Common.{◌≡◌, ◌≢◌, ℕ, zero, suc, ◌-◌, ◌<◌, ◌≤◌, ◌^◌, refl, sym, ap, ◌∙◌, subst, List, []}
use Rattle.std.proofs.Common.{◌∷◌, ◌++◌, length, get_or, Bool, true, false, Result, Ok, Err, Option, Some, None}
use Rattle.std.proofs.Common.{inl, inr, arith, All, AllPairs, Contains, cond, ◌&&◌, map, ◌==◌}
use Rattle.std.specs.List.{list_any}
use Rattle.std.proofs.lemmas.Bool.{eq-eqb, or_left, both_ways, not-true}
use Rattle.std.proofs.lemmas.List.Elements.{All-head, All-tail, All-push, All-contains}
use Rattle.std.proofs.lemmas.List.Elements.{Contains-append_left, Contains-append_right, Contains-push}
use Rattle.std.proofs.lemmas.List.Elements.{Contains-get_or}
use Rattle.std.proofs.lemmas.List.{append-nil, append_assoc}
use Rattle.std.proofs.lemmas.List.Folds.{list_any_at, list_any-append}
use Rattle.std.proofs.lemmas.List.Quantifiers.{all_pairs_push}
use Rattle.std.proofs.lemmas.Option.{slice_get_within, get_or_from_slice_get}
use Rattle.tword.specs.declared.breaks.Break.{Break}
use Rattle.tword.specs.Words.{word_below}
use Rattle.tword.specs.Stores.{Store, place, word_at, with_word}
use Rattle.tword.specs.Claims.{Claims, saving, has_saved, saved_words, overlap}
use Rattle.tword.specs.Touches.{word_span, Writes}
use Rattle.tword.specs.Actions.{with_saved_word, is_slot}
use Rattle.tword.proofs.Passing.{word_break-passes, deschedule-words}
use Rattle.tword.proofs.Hiding.{overlap-from}
use Rattle.tproc.specs.Machine.{Control, Machine, workspace_of, priority_of, claims_of, descheduled}
use Rattle.tproc.specs.ProcessStatus.{is_among, is_live, queue}
use Rattle.tproc.specs.Queues.{appended, last_of, iptr_word, link_word}
use Rattle.tproc.specs.SavedWords.{WordStands, SavedStand}
use Rattle.tproc.specs.Opening.{added}
use Rattle.tproc.specs.Placement.{IsWord, IsPlaced, IsWorkspace}
use Rattle.tproc.proofs.Opening.{IsReadyMachine, is_ready_added}
use Rattle.tproc.proofs.Occurs.{found-occurs, occurs-contains}
use Rattle.tproc.proofs.WordsApart.{LiesWord, lies_word, length-with_word, word_set, other_word}
use Rattle.tproc.proofs.SavedWords.{saved_words_stand}
use Rattle.tplan.specs.declared.plan.Process.{Process}
use Rattle.tnet.specs.Building.{added_from, added_rest}
use Rattle.tseen.proofs.Added.{linked, IsAdded, is_added}
use Rattle.tseen.proofs.Queued.{seats, seated, seat_of, HasProcess}
use Rattle.tseen.proofs.Built.{queued, queued_joined, IsBeside, lies_below, cell_stays}

-- these processes were added
pub record IsBuilt (start : Machine) (memory : ℕ) (ds : List Process) (m : Machine) : Type 0 where
  pub control : m.control ≡ queued ds start.control
  pub iptrs : All (λ q. word_at m.store (word_below (workspace_of q.wdesc) iptr_word) ≡ q.iptr) ds
  pub others : (i : ℕ) → i < memory → All (λ q. IsBeside i (workspace_of q.wdesc)) ds
      → get_or m.store i None ≡ get_or start.store i None
  pub distinct : AllPairs (λ q r. workspace_of q.wdesc ≢ workspace_of r.wdesc) ds
  pub ready : IsReadyMachine memory 0 m

-- who is in a queue is descheduled
pub in_queue : (m : Control) (v w : ℕ) → is_among w (queue m v) ≡ true → Contains (descheduled m) w
in_queue m zero w h =
    Contains-append_left (m.high ++ m.low) (map (λ x. workspace_of x.process) m.waiting) w
    (Contains-append_left m.high m.low w (occurs-contains w m.high (found-occurs w m.high h)))
in_queue m (suc v) w h =
    Contains-append_left (m.high ++ m.low) (map (λ x. workspace_of x.process) m.waiting) w
    (Contains-append_right m.high m.low w (occurs-contains w m.low (found-occurs w m.low h)))

-- the last of a queue is in it
pub last_contained : (q : List ℕ) (w : ℕ) → last_of q ≡ Some w → Contains q w
last_contained q w e =
    (length q - 1, slice_get_within q (length q - 1) w e, get_or_from_slice_get q (length q - 1) w w e)

pub last_descheduled : (m : Control) (v w : ℕ) → last_of (queue m v) ≡ Some w → Contains (descheduled m) w
last_descheduled m zero w e =
    Contains-append_left (m.high ++ m.low) (map (λ x. workspace_of x.process) m.waiting) w
    (Contains-append_left m.high m.low w (last_contained m.high w e))
last_descheduled m (suc v) w e =
    Contains-append_left (m.high ++ m.low) (map (λ x. workspace_of x.process) m.waiting) w
    (Contains-append_right m.high m.low w (last_contained m.low w e))

-- who is in a list is found there
pub among : (q : List ℕ) (w : ℕ) → Contains q w → is_among w q ≡ true
among q w c = list_any_at (λ v. v == w) q c.0 w c.1 (eq-eqb _ w c.2)

-- who is descheduled is live
alive : (m : Control) (w : ℕ) → Contains (descheduled m) w → is_live m w ≡ true
alive m w c =
    list_any-append (λ v. v == w) (descheduled m) _
    ∙ or_left (is_among w (descheduled m)) _ (among (descheduled m) w c)

-- a word of a claimed workspace is not one that is not claimed
not_claimed : (saved : List ℕ) (a w : ℕ) → Contains saved w
    → list_any (λ v. overlap (word_span a) (saved_words v)) saved ≡ false
    → overlap (word_span a) (saved_words w) ≡ false
not_claimed saved a w c h = by (overlap (word_span a) (saved_words w)) refl
  where
    by : (b : Bool) → overlap (word_span a) (saved_words w) ≡ b → overlap (word_span a) (saved_words w) ≡ false
    by false e = e
    by true e =
        let t : list_any (λ v. overlap (word_span a) (saved_words v)) saved ≡ true =
        list_any_at (λ v. overlap (word_span a) (saved_words v)) saved c.0 w c.1
        (subst (λ v. overlap (word_span a) (saved_words v) ≡ true) (sym c.2) e) in
        absurd (both_ways _ h t)

module _ (start : Machine) (memory : ℕ) (room : memory ≤ 2 ^ 31) (ds : List Process) (m : Machine)
    (b : IsBuilt start memory ds m) where
  -- each process of the image is in a queue
  in_its_queue : (v : ℕ) → v < 2 → (x : Process) → Contains ds x → priority_of x.wdesc ≡ v
      → is_among (workspace_of x.wdesc) (queue (queued ds start.control) v) ≡ true
  in_its_queue zero h x c e =
      All-contains (λ q. priority_of q.wdesc ≡ 0 → is_among (workspace_of q.wdesc) (seats 0 ds) ≡ true) ds x
      (seated 0 ds) c e
  in_its_queue (suc v) h x c e =
      let z : v ≡ 0 = omega (arith, h) in
      All-contains (λ q. priority_of q.wdesc ≡ 1 → is_among (workspace_of q.wdesc) (seats 1 ds) ≡ true) ds x
      (seated 1 ds) c (omega (arith, e, z))

  pub is_descheduled : (x : Process) → Contains ds x → Contains (descheduled m.control) (workspace_of x.wdesc)
  is_descheduled x c =
      in_queue m.control (priority_of x.wdesc) (workspace_of x.wdesc)
      (subst (λ (k : Control). is_among (workspace_of x.wdesc) (queue k (priority_of x.wdesc)) ≡ true) (sym b.control)
      (in_its_queue (priority_of x.wdesc) (omega arith) x c refl))

  -- its saved words lie in the memory
  pub lies : (w k : ℕ) → Contains (descheduled m.control) w → (1 ≤ k) × (k ≤ 3) → LiesWord memory (word_below w k)
  lies w k c h =
      lies_below memory w k room
      (subst (λ n. IsWorkspace n w) b.ready.size
      (All-contains (IsWorkspace (length m.store)) (descheduled m.control) w p.claimed.saved c))
      (All-contains IsWord (descheduled m.control) w p.workspaces c) h
    where
      p : IsPlaced m
      p = b.ready.placed room

  module _ (q : Process) (m' : Machine) (word : IsWord q.wdesc) (iptr_fits : IsWord q.iptr)
      (e : added q.wdesc q.iptr m ≡ Ok m') where
    abbrev w : ℕ
    w = workspace_of q.wdesc

    a : IsAdded q.wdesc q.iptr m m'
    a = is_added q.wdesc q.iptr m m' e

    abbrev c : Claims
    c = saving w (claims_of m.control)

    -- the words below its workspace pass
    below : (k : ℕ) → is_slot k ≡ true → LiesWord memory (word_below w k)
    below k s =
        subst (λ n. LiesWord n (word_below w k)) b.ready.size
        (lies_word (length m.store) (word_below w k) (claims_of m.control) Writes
        (deschedule-words (length m.store) (claims_of m.control) w k a.passes s))

    -- the link of the process before it is another word than its Iptr
    apart : (last : ℕ) → Contains (descheduled m.control) last → word_below last link_word ≢ word_below w iptr_word
    apart last h same =
        let k : LiesWord memory (word_below last 3) = lies last 3 h ((omega arith), (omega arith)) in
        let l : LiesWord memory (word_below last 2) = lies last 2 h ((omega arith), (omega arith)) in
        let free : overlap (word_span (word_below w 1)) (saved_words last) ≡ false =
        not_claimed (descheduled m.control) (word_below w 1) last h
        (word_break-passes (length m.store) (claims_of m.control) Writes (word_below w 1)
        (deschedule-words (length m.store) (claims_of m.control) w 1 a.passes refl)).unsaved in
        both_ways _ free
        (overlap-from (word_span (word_below w 1)) (saved_words last) (omega arith) (omega arith)
        (omega (arith, k.above, k.within, l.above, l.within, same, room))
        (omega (arith, k.above, k.within, l.above, l.within, same, room)))

    -- the store with its Iptr saved
    abbrev saved : Store
    saved = with_saved_word m.store c w iptr_word q.iptr

    has : has_saved c w ≡ true
    has = or_left (w == w) (has_saved (claims_of m.control) w) (eq-eqb w w refl)

    saved_is : saved ≡ with_word m.store (word_below w iptr_word) q.iptr
    saved_is = rw has refl

    -- the Iptr is there
    iptr_there : (o : Option ℕ) → last_of (queue m.control (priority_of q.wdesc)) ≡ o
        → word_at (linked c o w saved) (word_below w iptr_word) ≡ q.iptr
    iptr_there None h =
        rw saved_is (word_set m.store (word_below w iptr_word) q.iptr (rw b.ready.size (below 1 refl)) iptr_fits)
    iptr_there (Some last) h = by (is_slot link_word && has_saved c last)
      where
        full : length saved ≡ memory
        full = rw saved_is (length-with_word m.store (word_below w iptr_word) q.iptr 0
            (rw b.ready.size (below 1 refl)) ∙ b.ready.size)

        here : word_at saved (word_below w iptr_word) ≡ q.iptr
        here = rw saved_is (word_set m.store (word_below w iptr_word) q.iptr (rw b.ready.size (below 1 refl))
            iptr_fits)

        at : Contains (descheduled m.control) last
        at = last_descheduled m.control (priority_of q.wdesc) last h

        by : (t : Bool) → word_at (cond t (with_word saved (word_below last link_word) w) saved)
            (word_below w iptr_word) ≡ q.iptr
        by true =
            other_word saved (word_below last link_word) w (word_below w iptr_word)
            (rw full (lies last 2 at ((omega arith), (omega arith)))) (rw full (below 1 refl)) (apart last at) ∙ here
        by false = here

    -- any other cell stays
    cell : (o : Option ℕ) → last_of (queue m.control (priority_of q.wdesc)) ≡ o → (i : ℕ)
        → IsBeside i w
        → ((last : ℕ) → last_of (queue m.control (priority_of q.wdesc)) ≡ Some last → IsBeside i last)
        → get_or (linked c o w saved) i None ≡ get_or m.store i None
    cell o h i own others = by o h
      where
        first : (length saved ≡ length m.store) × (get_or saved i None ≡ get_or m.store i None)
        first = cell_stays m.store c w iptr_word q.iptr i (rw b.ready.size (below 1 refl)) (own 1 (inl refl))

        by : (o : Option ℕ) → last_of (queue m.control (priority_of q.wdesc)) ≡ o
            → get_or (linked c o w saved) i None ≡ get_or m.store i None
        by None h = first.1
        by (Some last) h =
            let at : Contains (descheduled m.control) last = last_descheduled m.control (priority_of q.wdesc) last h in
            (cell_stays saved c last link_word w i
            (rw (first.0, b.ready.size) (lies last 2 at ((omega arith), (omega arith)))) (others last h 2 (inr refl))).1
            ∙ first.1

    -- the process before it is of the image
    before : (v last : ℕ) → v < 2 → last_of (queue (queued ds start.control) v) ≡ Some last → HasProcess ds v last
    before zero last h k = seat_of 0 last ds (among (seats 0 ds) last (last_contained (seats 0 ds) last k))
    before (suc v) last h k =
        let z : v ≡ 0 = omega (arith, h) in
        rw z (seat_of 1 last ds (among (seats 1 ds) last (last_contained (seats 1 ds) last k)))

    -- a saved Iptr stands
    stands : SavedStand m m'
    stands = (saved_words_stand m (b.ready.placed room)).additions q.wdesc q.iptr m' word e

    pub built_more : IsBuilt start memory (ds ++ q ∷ []) m'
    built_more =
        record {
          control = a.control ∙ ap (appended w (priority_of q.wdesc)) b.control ∙ queued_joined ds q start.control;
          iptrs =
              All-push (λ q. word_at m'.store (word_below (workspace_of q.wdesc) iptr_word) ≡ q.iptr) ds q
              (λ k x h.
              All-contains (λ v. WordStands iptr_word v m m') (descheduled m.control)
              (workspace_of (get_or ds k x).wdesc) stands.iptrs
              (is_descheduled (get_or ds k x) (Contains-get_or ds k x h))
              ∙ b.iptrs k x h)
              (ap (λ (t : Store). word_at t (word_below w iptr_word)) a.store
              ∙ iptr_there (last_of (queue m.control (priority_of q.wdesc))) refl);
          others = λ i inside clear.
              ap (λ (t : Store). get_or t i None) a.store
              ∙ cell (last_of (queue m.control (priority_of q.wdesc))) refl i
              (All-contains (λ r. IsBeside i (workspace_of r.wdesc)) (ds ++ q ∷ []) q clear (Contains-push ds q))
              (λ last h. beside i last clear (before (priority_of q.wdesc) last (omega arith)
              (subst (λ (k : Control). last_of (queue k (priority_of q.wdesc)) ≡ Some last) b.control h)))
              ∙ b.others i inside (λ k x h.
              All-contains (λ r. IsBeside i (workspace_of r.wdesc)) (ds ++ q ∷ []) (get_or ds k x) clear
              (Contains-append_left ds (q ∷ []) (get_or ds k x) (Contains-get_or ds k x h)));
          distinct =
              all_pairs_push (λ q r. workspace_of q.wdesc ≢ workspace_of r.wdesc) ds q b.distinct
              (λ k x h f. both_ways (is_live m.control w) (not-true _ a.new)
              (alive m.control w (subst (Contains (descheduled m.control)) f
              (is_descheduled (get_or ds k x) (Contains-get_or ds k x h)))));
          ready = is_ready_added memory 0 q.wdesc q.iptr m m' room word b.ready e;
        }
      where
        beside : (i last : ℕ) → All (λ r. IsBeside i (workspace_of r.wdesc)) (ds ++ q ∷ [])
            → HasProcess ds (priority_of q.wdesc) last → IsBeside i last
        beside i last clear h =
            subst (λ v. IsBeside i v) h.workspace
            (All-contains (λ r. IsBeside i (workspace_of r.wdesc)) (ds ++ q ∷ []) h.process clear
            (Contains-append_left ds (q ∷ []) h.process h.there))

-- all processes
pub built_all : (start : Machine) (memory : ℕ) (room : memory ≤ 2 ^ 31) (place : ℕ) (ps ds : List Process)
    (m n : Machine) → All (λ p. IsWord p.wdesc × IsWord p.iptr) ps → IsBuilt start memory ds m
    → added_from place ps m ≡ Ok n → IsBuilt start memory (ds ++ ps) n
built_all start memory room place [] ds m n words b h =
    let e : m ≡ n = cc in
    rw (append-nil ds) (subst (IsBuilt start memory ds) e b)
built_all start memory room place (p ∷ ps) ds m n words b h =
    by (added p.wdesc p.iptr m) refl
    (λ k c g. built_all start memory room (suc place) ps (ds ++ p ∷ []) k n
    (All-tail (λ p. IsWord p.wdesc × IsWord p.iptr) p ps words) c g) h
  where
    by : (x : Result Machine Break) → added p.wdesc p.iptr m ≡ x
        → ((k : Machine) → IsBuilt start memory (ds ++ p ∷ []) k → added_from (suc place) ps k ≡ Ok n
        → IsBuilt start memory ((ds ++ p ∷ []) ++ ps) n)
        → added_rest (added_from (suc place) ps) place x ≡ Ok n → IsBuilt start memory (ds ++ p ∷ ps) n
    by (Ok k) e rest g =
        let w : IsWord p.wdesc × IsWord p.iptr = All-head (λ p. IsWord p.wdesc × IsWord p.iptr) p ps words in
        subst (λ (xs : List Process). IsBuilt start memory xs n) (append_assoc ds (p ∷ []) ps)
        (rest k (built_more start memory room ds m b p k w.0 w.1 e) g)
    by (Err b) e rest g = cc
