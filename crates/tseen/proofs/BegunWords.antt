-- A process has begun another one: the words after it.
use Rattle.tseen.proofs.Choices.{is_lasting, lasting_not_free, lasting_not_saved}
use Rattle.std.proofs.Common.{◌≡◌, ◌≢◌, ℕ, ◌+◌, ◌*◌, ◌<◌, ◌≤◌, ◌/◌, ◌%◌, ◌^◌, refl, sym, ap, subst, ◌∙◌, true, false}
use Rattle.std.proofs.Common.{true≢false, length, get_or, Contains, Option, None, arith, map, ◌⊎◌, inl, inr}
use Rattle.std.proofs.lemmas.Bool.{cases_eq, eqb-true}
use Rattle.std.proofs.lemmas.List.Elements.{All-contains}
use Rattle.tword.specs.Words.{most_neg, word_below}
use Rattle.tword.specs.Stores.{Store, place, word_at, hiding}
use Rattle.tword.specs.Claims.{is_input, saving, saved_words as saved_span}
use Rattle.tword.specs.Touches.{Writes, byte_span, word_break, word_place_break, deschedule_break}
use Rattle.tword.proofs.Hiding.{within_uncovered}
use Rattle.tcpu.specs.declared.registers.Registers.{Registers}
use Rattle.tproc.specs.Machine.{Control, Machine, claims_of, descheduled, workspace_of}
use Rattle.tproc.specs.Placement.{IsPlaced, IsWord as FitsWord}
use Rattle.tproc.proofs.WordsApart.{LiesWord}
use Rattle.tplan.specs.declared.plan.Plan.{Plan}
use Rattle.tnet.specs.Rendezvous.{Configuration}
use Rattle.tprocesses.specs.Places.{Place, Name, WordAt, Sending}
use Rattle.tprocesses.specs.Values.{Value, Free, Saved, Context, Rests, Runs, word_in, amount_in, unknown}
use Rattle.tprocesses.specs.Touching.{Site, word_number, kept}
use Rattle.tprocesses.specs.Standing.{fresh}
use Rattle.tprocesses.specs.Machine.{site_of}
use Rattle.tseen.specs.Known.{HasRegisters}
use Rattle.tseen.specs.Words.{AreMarked, AreSavedWords, use_at}
use Rattle.tseen.specs.Shown.{ShowsNode}
use Rattle.tseen.specs.Steps.{IsCurrent}
use Rattle.tseen.specs.Begun.{TellsRuns}
use Rattle.tseen.proofs.After.{State}
use Rattle.tseen.proofs.Spans.{word_placed}
use Rattle.tseen.proofs.Cells.{word_of, use_of, cell, Knows, Tells}
use Rattle.tseen.proofs.Touched.{Permits}
use Rattle.tseen.proofs.Written.{is_word_of}
use Rattle.tseen.proofs.Writing.{word_lies}
use Rattle.tseen.proofs.Stored.{GoesOn}
use Rattle.tseen.proofs.Performed.{word_passes}
use Rattle.tseen.proofs.Finished.{is_stand_of, StandsNow}
use Rattle.tseen.proofs.Running.{RunsThere}
use Rattle.tseen.proofs.Stepped.{shown_node, there, hidden_if, input_not_free}
use Rattle.tseen.proofs.Saving.{below, no_word, IsSaved}
use Rattle.tseen.proofs.SavedThen.{HasSaved, saved_not_free, nothing_known, free_before, first_free, one_is, two_is}
use Rattle.tseen.proofs.SavedThen.{three_is, other_is, unfree_stays, used_now, whole_word, receives_still, no_successor}
use Rattle.tseen.proofs.SavedThen.{saved_each, is_new}
use Rattle.tseen.proofs.Staying.{used_two, unknown_two, marks_from}
use Rattle.tseen.proofs.Adding.{among}
use Rattle.tseen.proofs.Coming.{is_coming, HasCome}
use Rattle.tseen.proofs.Joined.{begun, who}
use Rattle.tseen.proofs.Linking.{IsLinkCell, same_word_at, after, lies_saved, linked_size, linked_cell, linked_word}

-- a process has begun another one, on the places of the process machine and in the processor
pub record HasBegun (p : Plan) (c : Configuration) (s : State) (n : ℕ) (x : Name) (k : IsCurrent p c s n x) (s' : State)
    : Type 0 where
  -- what the instruction left before it
  pub t : State
  pub store' : Store
  pub on : GoesOn n k.plan.memory s t k.node.machine.store store'
  -- which priorities have run is told
  pub told : TellsRuns s n
  -- the new process
  pub child : Name
  pub home : child.node ≡ n
  pub priority : ℕ
  pub small : priority < 2
  pub workspace : ℕ
  pub aligned : workspace % 4 ≡ 0
  pub address : ℕ
  -- the states after it came, and after its words were saved
  pub u : State
  pub v : State
  pub come : HasCome (site_of n k.plan) child (fresh priority workspace address)
      (Rests (fresh priority workspace address)) t u
  pub saved : IsSaved (site_of n k.plan) (there p c s n x k).whole u v workspace kept
  -- the first one goes on
  pub context : Context
  pub goes : StandsNow (site_of n k.plan) x (Runs context) v s'
  pub registers : Registers
  pub knows : HasRegisters (there p c s n x k).level registers context
  pub same_choice : context.choice ≡ (there p c s n x k).context.choice
  pub same_wptr : registers.wptr ≡ k.node.machine.control.registers.wptr
  pub same_error : registers.error ≡ k.node.machine.control.registers.error
  pub same_halting : registers.halt_on_error ≡ k.node.machine.control.registers.halt_on_error
  pub count : ℕ
  -- the store with the first address of the new one
  pub first : Store
  pub size : length first ≡ length k.node.machine.store
  pub cells : (j : ℕ) → j / 4 ≢ below workspace 1 → get_or first j None ≡ get_or store' j None
  pub word : word_at first (word_below workspace 1) ≡ address

module _ (p : Plan) (c : Configuration) (s : State) (n : ℕ) (x : Name) (k : IsCurrent p c s n x) (s' : State)
    (b : HasBegun p c s n x k s') where
  abbrev m : Control
  m = k.node.machine.control

  abbrev store : Store
  store = k.node.machine.store

  abbrev size : ℕ
  size = k.plan.memory

  abbrev w : ℕ
  w = b.workspace

  abbrev site : Site
  site = site_of n k.plan

  abbrev running : RunsThere s n k.plan k.node x
  running = there p c s n x k

  abbrev shown : ShowsNode s n k.plan (k.shows.named n) (k.shows.sent n) k.node
  shown = shown_node p c s n x k

  abbrev t : State
  t = b.t

  abbrev u : State
  u = b.u

  abbrev placed : IsPlaced k.node.machine
  placed = k.steady.placed

  -- the machine after the step
  abbrev pub made : Machine
  made =
      record {
        control = begun b.priority w b.registers b.count m;
        store = after k.node.machine placed b.first b.size (saving w (claims_of m)) b.priority w;
      }

  pub size_after : length made.store ≡ size
  size_after =
      linked_size k.node.machine placed b.first b.size (saving w (claims_of m)) b.priority w
      ∙ b.size ∙ shown.size

  pub one_cell : (j : ℕ) → (get_or made.store j None ≡ get_or b.first j None) ⊎ IsLinkCell m j
  one_cell = linked_cell k.node.machine placed b.first b.size (saving w (claims_of m)) b.priority w

  -- words before
  before : (j : ℕ) → u (WordAt n j) ≡ t (WordAt n j)
  before j = b.come.others (WordAt n j) refl

  abbrev words : HasSaved n k.plan s s' w
  words =
      record {
        whole = running.whole;
        t = t;
        u = u;
        v = b.v;
        store = store;
        store' = b.store';
        on = b.on;
        saved = b.saved;
        before = before;
        after = λ j. b.goes.others (WordAt n j) refl;
      }

  own_free : use_of s n (below w 1) ≡ Free
  own_free = first_free words

  pub saved_words_of : (a : ℕ) → Contains (descheduled m) a → AreSavedWords s n a
  saved_words_of a h = All-contains (AreSavedWords s n) (descheduled m) a shown.marks.saved h

  -- the word of a link is saved
  link_saved : (j : ℕ) → IsLinkCell m j → use_of s n (j / 4) ≡ Saved
  link_saved j c =
      subst (λ i. use_of s n i ≡ Saved) (sym c.word) (used_two s n c.workspace (saved_words_of c.workspace c.there))

  -- the saved words may be written in the store
  pub passes : deschedule_break (length store) (claims_of m) w ≡ None
  unfolding deschedule_break
  passes =
      let one : word_break size (claims_of m) Writes (word_below w 1) ≡ None =
      word_passes site running.whole (claims_of m) u Writes (word_below w 1) permits b.saved.touched_one in
      let two : word_break size (claims_of m) Writes (word_below w 2) ≡ None =
      word_passes site running.whole (claims_of m) u Writes (word_below w 2) permits b.saved.touched_two in
      let three : word_break size (claims_of m) Writes (word_below w 3) ≡ None =
      word_passes site running.whole (claims_of m) u Writes (word_below w 3) permits b.saved.touched_three in
      rw (shown.size, three, two) one
    where
      permits : Permits u n (claims_of m)
      permits =
          record {
            reads = λ j e. running.permits.reads j (free_before words j e);
            writes = λ j e z. running.permits.writes j (free_before words j e)
                (sym (ap amount_in (b.come.others (Sending n j) refl ∙ b.on.keeps.others (Sending n j) refl)) ∙ z);
          }

  lies_own : LiesWord (length b.first) (word_below w 1)
  lies_own =
      subst (λ z. LiesWord z (word_below w 1)) (sym (b.size ∙ shown.size)) (record {
        above = b.saved.touched_one.above;
        within = omega (arith, b.saved.touched_one.at, b.saved.touched_one.within);
        aligned = eqb-true _ _ (word_placed site.size (word_below w 1) b.saved.touched_one.placed).0;
      })

  -- the first address is there
  pub iptr_there : word_at made.store (word_below w 1) ≡ b.address
  iptr_there =
      linked_word k.node.machine placed b.first b.size (saving w (claims_of m)) b.priority w (word_below w 1)
      lies_own (λ c. saved_not_free (link_saved (place (word_below w 1)) c) own_free) ∙ b.word

  -- cells that are neither of a free word nor of a saved one
  other_cell : (j : ℕ) → (use_of s n (j / 4) ≡ Free → ⊥) → (use_of s n (j / 4) ≡ Saved → ⊥)
      → get_or made.store j None ≡ get_or store j None
  other_cell j f g = by (one_cell j)
    where
      by : (get_or made.store j None ≡ get_or b.first j None) ⊎ IsLinkCell m j
          → get_or made.store j None ≡ get_or store j None
      by (inl e) =
          e ∙ b.cells j (λ h. f (subst (λ i. use_of s n i ≡ Free) (sym h) own_free)) ∙ b.on.only j f
      by (inr c) = absurd (g (link_saved j c))

  -- pending inputs stay hidden
  pub hidden_still : hiding (λ a. is_input (claims_of m) (byte_span a)) made.store ≡ made.store
  hidden_still =
      hidden_if m store made.store (λ j h. by j h (one_cell j)) (ap (λ (z : Machine). z.store) k.steady.hides)
    where
      not_linked : (j : ℕ) → is_input (claims_of m) (byte_span (most_neg + j)) ≡ true → IsLinkCell m j → ⊥
      not_linked j h c =
          let clear : is_input (claims_of m) (saved_span c.workspace) ≡ false =
          (placed.apart.saved c.workspace (among (descheduled m) c.workspace c.there)).0 in
          let link : LiesWord (length store) (word_below c.workspace 2) =
          lies 2 ((omega arith), (omega arith)) in
          let lowest : LiesWord (length store) (word_below c.workspace 3) =
          lies 3 ((omega arith), (omega arith)) in
          true≢false (sym h ∙ within_uncovered (claims_of m).inputs (saved_span c.workspace) (most_neg + j)
          (omega (
            arith,
            c.word,
            link.above,
            link.aligned,
            lowest.above,
            lowest.within,
            small,
            placed.claimed.size,
          ))
          (omega (
            arith,
            c.word,
            link.above,
            link.aligned,
            lowest.above,
            lowest.within,
            small,
            placed.claimed.size,
          )) clear)
        where
          small : c.workspace < 2 ^ 32
          small = All-contains FitsWord (descheduled m) c.workspace placed.workspaces c.there

          lies : (i : ℕ) → (1 ≤ i) × (i ≤ 3) → LiesWord (length store) (word_below c.workspace i)
          lies i b = lies_saved k.node.machine placed c.workspace i c.there b

      by : (j : ℕ) → is_input (claims_of m) (byte_span (most_neg + j)) ≡ true
          → (get_or made.store j None ≡ get_or b.first j None) ⊎ IsLinkCell m j
          → get_or made.store j None ≡ get_or store j None
      by j h (inl e) =
          e ∙ b.cells j (λ f. input_not_free s n m j running.permits h (ap (use_of s n) f ∙ own_free))
          ∙ b.on.only j (input_not_free s n m j running.permits h)
      by j h (inr c) = absurd (not_linked j h c)

  -- what is neither a word nor of the two processes stays
  pub at : (q : Place) → is_stand_of x q ≡ false → is_coming n b.child q ≡ false → is_word_of n q ≡ false → s' q ≡ s q
  at q a c o =
      b.goes.others q a ∙ b.saved.set.rest q (no_word n w q o) ∙ b.come.others q c ∙ b.on.keeps.others q o

  -- words
  pub unfree : (j : ℕ) → (use_of s n j ≡ Free → ⊥) → s' (WordAt n j) ≡ s (WordAt n j)
  unfree = unfree_stays words

  pub used : (j : ℕ) → (use_of s' n j ≡ Saved) ⊎ (use_of s' n j ≡ use_of s n j)
  used = used_now words

  -- the memory is told
  pub tells_now : Tells s' n size made.store
  tells_now =
      record {
        length = size_after;
        words = λ j h. whole_word words j (b.on.tells.words j h);
        cells = λ j h. known_cell j h;
      }
    where
      as_before : (j : ℕ) → j < size → (word_of s' n (j / 4)).cells ≡ (word_of t n (j / 4)).cells
          → j / 4 ≢ below w 1 → get_or made.store j None ≡ get_or b.first j None
          → Knows (cell s' n j) (get_or made.store j None)
      as_before j h e a c =
          subst (λ (y : Option ℕ). Knows (cell s' n j) y) (sym (c ∙ b.cells j a))
          (subst (λ (z : Store). Knows (get_or z (j % 4) None) (get_or b.store' j None)) (sym e) (b.on.tells.cells j h))

      link_unknown : (j : ℕ) → IsLinkCell m j → (word_of s' n (j / 4)).cells ≡ unknown
      link_unknown j c =
          ap (λ (z : Value). (word_in z).cells) (unfree (j / 4) (saved_not_free (link_saved j c)))
          ∙ ap (λ i. (word_of s n i).cells) c.word ∙ unknown_two s n c.workspace (saved_words_of c.workspace c.there)

      known_cell : (j : ℕ) → j < size → Knows (cell s' n j) (get_or made.store j None)
      known_cell j h = by (cases_eq (j / 4) (below w 1)) (cases_eq (j / 4) (below w 2)) (cases_eq (j / 4) (below w 3))
          (one_cell j)
        where
          by : (j / 4 ≡ below w 1) ⊎ (j / 4 ≡ below w 1 → ⊥) → (j / 4 ≡ below w 2) ⊎ (j / 4 ≡ below w 2 → ⊥)
              → (j / 4 ≡ below w 3) ⊎ (j / 4 ≡ below w 3 → ⊥)
              → (get_or made.store j None ≡ get_or b.first j None) ⊎ IsLinkCell m j
              → Knows (cell s' n j) (get_or made.store j None)
          by (inl e) c d f =
              nothing_known s' n j _
              (ap (λ z. (word_of s' n z).cells) e ∙ ap (λ (z : Value). (word_in z).cells) (one_is words))
          by (inr a) (inl e) d f =
              nothing_known s' n j _
              (ap (λ z. (word_of s' n z).cells) e ∙ ap (λ (z : Value). (word_in z).cells) (two_is words))
          by (inr a) (inr c) d (inr f) = nothing_known s' n j _ (link_unknown j f)
          by (inr a) (inr c) (inl e) (inl f) =
              as_before j h (ap (λ z. (word_of s' n z).cells) e ∙ ap (λ (z : Value). (word_in z).cells) (three_is words)
              ∙ ap (λ z. (word_of t n z).cells) (sym e)) a f
          by (inr a) (inr c) (inr d) (inl f) =
              as_before j h (ap (λ (z : Value). (word_in z).cells) (other_is words (j / 4) a c d)) a f

  -- a word in use as a channel or for an alternative stays
  pub lasting_stays : (a : ℕ) → word_place_break (length store) a ≡ None → is_lasting (use_at s n a) ≡ true
      → word_at made.store a ≡ word_at store a
  lasting_stays a h e =
      let l : (place a ≡ 4 * word_number a) × (most_neg ≤ a) × (4 * word_number a + 4 ≤ size) =
      word_lies site running.whole a (subst (λ z. word_place_break z a ≡ None) shown.size h) in
      same_word_at store made.store a (omega (arith, l.0, l.2, shown.size)) (size_after ∙ sym shown.size)
      (λ j low high.
      let word : j / 4 ≡ word_number a = omega (arith, l.0, low, high) in
      other_cell j (λ f. lasting_not_free e (sym (ap (use_of s n) word) ∙ f))
      (λ f. lasting_not_saved e (sym (ap (use_of s n) word) ∙ f)))

  -- the claims are marked
  pub marks_now : AreMarked s' n (k.shows.sent n) made.control
  marks_now =
      marks_from s s' n (k.shows.sent n) (k.shows.sent n) m made.control
      (λ a h. saved_each words (descheduled m) saved_words_of a
      (who w m.high m.low (map (λ y. workspace_of y.process) m.waiting) b.priority a h)) (λ l. refl)
      (receives_still words)
      (λ j. at (Sending n j) refl refl refl ∙ shown.marks.outputs j)
      (λ j. no_successor words j (shown.marks.no_successor j)) shown.marks

  -- nobody that is queued or waits has this workspace
  pub new_there : (a : ℕ) → Contains (descheduled m) a → a ≢ w
  new_there a h = is_new words a (saved_words_of a h)
