-- A process has taken its half of a link: what its processor does, and its memory then.
use Rattle.tseen.specs.Words.{is_set_aside}
use Rattle.std.proofs.Common.{◌≡◌, ◌≢◌, ℕ, ◌+◌, ◌-◌, ◌*◌, ◌<◌, ◌≤◌, ◌/◌, ◌%◌, ◌^◌, refl, sym, ap, subst, ◌∙◌}
use Rattle.std.proofs.Common.{Bool, true, false, true≢false, cond, length, get_or, replicate, Option, None}
use Rattle.std.proofs.Common.{arith, ◌⊎◌, inl, inr}
use Rattle.std.specs.Prelude.{IfSome}
use Rattle.std.proofs.lemmas.Bool.{cases_eq, cases_lt, eq-eqb}
use Rattle.std.proofs.lemmas.List.{length-replicate, get_or-replicate}
use Rattle.std.proofs.lemmas.Option.{IfSome_then}
use Rattle.tword.specs.declared.span.Span.{Span}
use Rattle.tword.specs.Words.{most_neg, word_below}
use Rattle.tword.specs.Stores.{Store, place, word_at, with_word, hiding}
use Rattle.tword.specs.Claims.{Claims, overlap, saved_words, saving, is_input}
use Rattle.tword.specs.Touches.{Mode, Reads, Writes, byte_span, claim_break, word_break, deschedule_break, span_break}
use Rattle.tword.proofs.Hiding.{length-hiding_from, get_or-hiding_from, overlap-parts}
use Rattle.tcpu.specs.declared.registers.Registers.{Registers}
use Rattle.tproc.specs.declared.channels.Side.{Side}
use Rattle.tproc.specs.declared.channels.Side.TheVariants.{Input, Output}
use Rattle.tproc.specs.Channels.{Request, mode_of}
use Rattle.tproc.specs.LinkChannels.{link_end, link_of, offer_of, offered}
use Rattle.tproc.specs.Placement.{IsBuffer}
use Rattle.tproc.specs.Machine.{Control, Machine, claims_of, buffer_of}
use Rattle.tproc.proofs.WordsApart.{LiesWord, length-with_word, word_set}
use Rattle.tplan.specs.declared.plan.Plan.{Plan}
use Rattle.tnet.specs.Rendezvous.{Configuration}
use Rattle.tprocesses.specs.Places.{Name, WordAt, Sending}
use Rattle.tprocesses.specs.Values.{Value, Use, Free, Saved, Receiving, Context, word_in, amount_in, unknown}
use Rattle.tprocesses.specs.Touching.{Site, word_number, word_count, kept}
use Rattle.tprocesses.specs.Machine.{site_of}
use Rattle.tseen.specs.Known.{HasRegisters}
use Rattle.tseen.specs.Words.{AreSavedWords}
use Rattle.tseen.specs.Shown.{ShowsNode}
use Rattle.tseen.specs.Steps.{IsCurrent}
use Rattle.tseen.proofs.After.{State}
use Rattle.tseen.proofs.Asking.{IsAsking, asking, claimed}
use Rattle.tseen.proofs.Cells.{word_of, use_of, cell, Knows, IsWhole, Tells}
use Rattle.tseen.proofs.Performed.{word_passes, span_passes, byte_word}
use Rattle.tseen.proofs.QueueLinks.{nothing_known, word_alike}
use Rattle.tseen.proofs.Receives.{input_receives}
use Rattle.tseen.proofs.Receiving.{none_where_hidden}
use Rattle.tseen.proofs.Running.{RunsThere}
use Rattle.tseen.proofs.Saving.{below, other_number, no_word, IsSaved}
use Rattle.tseen.proofs.Spans.{IsWordOf, word_of_number, claim_parts, placed_above}
use Rattle.tseen.proofs.Staying.{saved_words as words_are_saved}
use Rattle.tseen.proofs.Stepped.{shown_node, there}
use Rattle.tseen.proofs.Stored.{GoesOn, permits_on}
use Rattle.tseen.proofs.Taking.{IsAsked, IsLentBy, taken, still_whole}
use Rattle.tseen.proofs.Touched.{Permits}
use Rattle.tseen.proofs.Written.{AreSet}
use Rattle.tseen.proofs.Yielding.{other_cell_stays}
use Rattle.tseen.proofs.Writing.{span_read, span_set, IsWordTouched}

-- the words below a workspace follow one another
next_word : (y n : ℕ) → n ≤ 2 ^ 31 → most_neg ≤ y % 2 ^ 32 → y % 2 ^ 32 - most_neg + 4 ≤ n → most_neg ≤ (y + 4) % 2 ^ 32
    → (y + 4) % 2 ^ 32 ≡ y % 2 ^ 32 + 4
next_word y n size a b c = omega arith

three_words : (size w : ℕ) → size ≤ 2 ^ 31 → LiesWord size (word_below w 1) → LiesWord size (word_below w 2)
    → LiesWord size (word_below w 3) → (word_below w 2 ≡ word_below w 3 + 4) × (word_below w 1 ≡ word_below w 3 + 8)
three_words size w room a b c =
    let e : word_below w 2 ≡ word_below w 3 + 4 =
    omega (arith, next_word (w + (2 ^ 32 - 12)) size room c.above c.within (omega (arith, b.above))) in
    let f : word_below w 1 ≡ word_below w 2 + 4 =
    omega (arith, next_word (w + (2 ^ 32 - 8)) size room b.above b.within (omega (arith, a.above))) in
    (e, omega arith)

-- another word shares no byte with them
word_apart : (size w k : ℕ) → size ≤ 2 ^ 31 → LiesWord size (word_below w 1) → LiesWord size (word_below w 2)
    → LiesWord size (word_below w 3) → k ≢ below w 1 → k ≢ below w 2 → k ≢ below w 3
    → overlap (word_of_number k) (saved_words w) ≡ false
word_apart size w k room a b c one two three = by (overlap (word_of_number k) (saved_words w)) refl
  where
    by : (t : Bool) → overlap (word_of_number k) (saved_words w) ≡ t
        → overlap (word_of_number k) (saved_words w) ≡ false
    by false e = e
    by true e =
        let parts : (0 < 4) × (0 < 12) × (most_neg + 4 * k < word_below w 3 + 12)
        × (word_below w 3 < most_neg + 4 * k + 4) = overlap-parts (word_of_number k) (saved_words w) e in
        let all = three_words size w room a b c in
        absurd (where_is (cases_eq k (below w 3 + 1)) parts.2 parts.3 all.0 all.1)
      where
        where_is : (k ≡ below w 3 + 1) ⊎ (k ≡ below w 3 + 1 → ⊥) → most_neg + 4 * k < word_below w 3 + 12
            → word_below w 3 < most_neg + 4 * k + 4 → word_below w 2 ≡ word_below w 3 + 4
            → word_below w 1 ≡ word_below w 3 + 8 → ⊥
        where_is (inl e) low high f g = two (omega (arith, e, f, c.above, c.aligned))
        where_is (inr e) low high f g = last (cases_eq k (below w 3))
          where
            last : (k ≡ below w 3) ⊎ (k ≡ below w 3 → ⊥) → ⊥
            last (inl h) = three h
            last (inr h) = one (omega (arith, low, high, g, c.above, c.aligned, e, h))

module _ (p : Plan) (c : Configuration) (s : State) (n : ℕ) (x : Name) (k : IsCurrent p c s n x) (v : State)
    (store1 : Store) (on : GoesOn n k.plan.memory s v k.node.machine.store store1) (r : Registers)
    (same_wptr : r.wptr ≡ k.node.machine.control.registers.wptr) (small : r.iptr < 2 ^ 32) (d : Context)
    (knows : HasRegisters (there p c s n x k).level r d) (side : Side) (channel : ℕ) (buffer : Span) (s' : State)
    (a : IsAsked (site_of n k.plan) (there p c s n x k).whole x d side channel buffer v on.tells.words s') where
  abbrev m : Control
  m = k.node.machine.control

  abbrev store : Store
  store = k.node.machine.store

  abbrev claims : Claims
  claims = claims_of m

  abbrev site : Site
  site = site_of n k.plan

  abbrev running : RunsThere s n k.plan k.node x
  running = there p c s n x k

  abbrev whole : k.plan.memory % 4 ≡ 0
  whole = (there p c s n x k).whole

  abbrev pub w : ℕ
  w = r.wptr

  abbrev pub process : ℕ
  process = r.wptr + (there p c s n x k).level

  abbrev pub request : Request
  request =
      record {
        process = r.wptr + (there p c s n x k).level;
        side = side;
        channel = channel;
        buffer = buffer.start;
        length = buffer.size;
      }

  abbrev pub before : Control
  before = record m { registers = r }

  abbrev pub control' : Control
  control' = offered request side before

  abbrev pub store' : Store
  store' = with_word store1 (word_below r.wptr 1) r.iptr

  abbrev pub made : Machine
  made = record { control = control'; store = store' }

  pub ask : IsAsking request side before control'
  ask = asking request side before

  shown : ShowsNode s n k.plan (k.shows.named n) (k.shows.sent n) k.node
  shown = shown_node p c s n x k

  abbrev mid : State
  mid = taken site whole x d side channel buffer v on.tells.words

  pub saved : IsSaved site whole mid a.v2 r.wptr kept
  saved = subst (λ z. IsSaved site whole mid a.v2 z kept) knows.wptr a.saved

  -- words that were free
  free_before : (j : ℕ) → use_of v n j ≡ Free → use_of s n j ≡ Free
  free_before j e = sym (on.keeps.uses j) ∙ e

  pub free_one : use_of s n (below w 1) ≡ Free
  free_one = free_before (below w 1) saved.touched_one.touched.free

  pub free_two : use_of s n (below w 2) ≡ Free
  free_two = free_before (below w 2) saved.touched_two.touched.free

  pub free_three : use_of s n (below w 3) ≡ Free
  free_three = free_before (below w 3) saved.touched_three.touched.free

  lies_of : (i : ℕ) → IsWordTouched site whole mid Writes (word_below w i) → LiesWord k.plan.memory (word_below w i)
  lies_of i t =
      record {
        above = t.above;
        within = omega (arith, t.at, t.within);
        aligned = omega (arith, t.at, t.above);
      }

  pub lies_one : LiesWord k.plan.memory (word_below w 1)
  lies_one = lies_of 1 saved.touched_one

  -- a word is one of the three, or as it was before
  pub by_word : (P : ℕ → Type 0) → P (below w 1) → P (below w 2) → P (below w 3)
      → ((j : ℕ) → j ≢ below w 1 → j ≢ below w 2 → j ≢ below w 3 → a.v2 (WordAt n j) ≡ v (WordAt n j) → P j)
      → (j : ℕ) → P j
  by_word P one two three other j = by (cases_eq j (below w 1)) (cases_eq j (below w 2)) (cases_eq j (below w 3))
    where
      by : (j ≡ below w 1) ⊎ (j ≡ below w 1 → ⊥) → (j ≡ below w 2) ⊎ (j ≡ below w 2 → ⊥)
          → (j ≡ below w 3) ⊎ (j ≡ below w 3 → ⊥) → P j
      by (inl e) f g = subst P (sym e) one
      by (inr e) (inl f) g = subst P (sym f) two
      by (inr e) (inr f) (inl g) = subst P (sym g) three
      by (inr e) (inr f) (inr g) = other j e f g (saved.set.rest (WordAt n j) (other_number n w j e f g))

  saved_not_free : {u : Use} → u ≡ Saved → u ≡ Free → ⊥
  saved_not_free e f = differ (sym e ∙ f)
    where
      differ : Saved ≡ Free → ⊥
      differ e = cc

  used_one : use_of a.v2 n (below w 1) ≡ Saved
  used_one = ap (λ (z : Value). (word_in z).used) saved.set.one

  used_two : use_of a.v2 n (below w 2) ≡ Saved
  used_two = ap (λ (z : Value). (word_in z).used) saved.set.two

  used_three : use_of a.v2 n (below w 3) ≡ Saved
  used_three = ap (λ (z : Value). (word_in z).used) saved.set.three

  -- what is free with the saved words is none of them, and was free
  free_then : (j : ℕ) → use_of a.v2 n j ≡ Free
      → (use_of v n j ≡ Free) × (j ≢ below w 1) × (j ≢ below w 2) × (j ≢ below w 3)
  free_then =
      by_word (λ j. use_of a.v2 n j ≡ Free
      → (use_of v n j ≡ Free) × (j ≢ below w 1) × (j ≢ below w 2) × (j ≢ below w 3))
      (λ e. absurd (saved_not_free used_one e)) (λ e. absurd (saved_not_free used_two e))
      (λ e. absurd (saved_not_free used_three e))
      (λ j f g h same e. (ap (λ (z : Value). (word_in z).used) (sym same) ∙ e, f, g, h))

  -- claims permit what was done
  permits_v : Permits v n claims
  permits_v = permits_on s v n claims on.keeps running.permits

  permits_mid : Permits mid n claims
  permits_mid = record { reads = permits_v.reads; writes = permits_v.writes }

  apart_own : (j : ℕ) → (j ≢ below w 1) × (j ≢ below w 2) × (j ≢ below w 3)
      → overlap (word_of_number j) (saved_words w) ≡ false
  apart_own j h =
      word_apart k.plan.memory w j (subst (λ z. z ≤ 2 ^ 31) shown.size k.steady.placed.claimed.size) lies_one
      (lies_of 2 saved.touched_two) (lies_of 3 saved.touched_three) h.0 h.1 h.2

  more_saved : (mode : Mode) (j : ℕ) → overlap (word_of_number j) (saved_words w) ≡ false
      → claim_break claims mode (word_of_number j) ≡ None
      → claim_break (saving w claims) mode (word_of_number j) ≡ None
  more_saved Reads j h e = let both = claim_parts _ _ e in rw (both.0, h, both.1) refl
  more_saved Writes j h e = let both = claim_parts _ _ e in rw (both.0, h, both.1) refl

  permits_saved : Permits a.v2 n (saving w claims)
  permits_saved =
      record {
        reads = λ j e. (let f = free_then j e in
            more_saved Reads j (apart_own j (f.1, f.2, f.3)) (permits_v.reads j f.0));
        writes = λ j e z. (let f = free_then j e in
            more_saved Writes j (apart_own j (f.1, f.2, f.3)) (permits_v.writes j f.0
            (ap amount_in (sym (saved.set.rest (Sending n j) (no_word n w (Sending n j) refl))) ∙ z)));
      }

  -- so the processor does it
  pub saves : deschedule_break (length store) claims w ≡ None
  unfolding deschedule_break
  saves =
      let one : word_break k.plan.memory claims Writes (word_below w 1) ≡ None =
      word_passes site whole claims mid Writes (word_below w 1) permits_mid saved.touched_one in
      let two : word_break k.plan.memory claims Writes (word_below w 2) ≡ None =
      word_passes site whole claims mid Writes (word_below w 2) permits_mid saved.touched_two in
      let three : word_break k.plan.memory claims Writes (word_below w 3) ≡ None =
      word_passes site whole claims mid Writes (word_below w 3) permits_mid saved.touched_three in
      rw (shown.size, three, two) one

  pub touches : span_break (length store) (saving w claims) (mode_of side) buffer ≡ None
  touches =
      subst (λ z. span_break z (saving w claims) (mode_of side) buffer ≡ None) (sym shown.size)
      (span_passes site whole (saving w claims) a.v2 (mode_of side) buffer permits_saved a.touched.placed (λ j h.
      a.touched.are.touched j h.from h.to))

  -- the link that it takes
  abbrev pub l : ℕ
  l = link_of side channel

  abbrev first : ℕ
  first = word_number buffer.start

  abbrev count : ℕ
  count = word_count buffer

  pub lent_at : (sd : Side) → side ≡ sd
      → IsLentBy site whole x d side channel buffer v on.tells.words sd a.words a.v2 a.v3
  lent_at sd e =
      subst (λ z. IsLentBy site whole x d side channel buffer v on.tells.words z a.words a.v2 a.v3) e a.lent

  -- the words of its buffer were free
  pub free_in_span : (j : ℕ) → first ≤ j → j < first + count → use_of s n j ≡ Free
  free_in_span j b e = free_before j (free_then j (a.touched.are.touched j b e).free).0

  -- a word: as with the saved words, or in use for an input
  abbrev Lies : ℕ → Type 0
  Lies j = (side ≡ Input) × (first ≤ j) × (j < first + count) × (use_of s' n j ≡ Receiving)

  pub word_then : (j : ℕ) → (s' (WordAt n j) ≡ a.v2 (WordAt n j)) ⊎ Lies j
  word_then j = by side refl (cases_lt j first) (cases_lt j (first + count))
    where
      by : (sd : Side) → side ≡ sd → (j < first) ⊎ (first ≤ j) → (j < first + count) ⊎ (first + count ≤ j)
          → (s' (WordAt n j) ≡ a.v2 (WordAt n j)) ⊎ Lies j
      by Output e b f = inl (a.waits.others (WordAt n j) refl ∙ (lent_at Output e).others (WordAt n j) refl)
      by Input e (inl b) f = inl (a.waits.others (WordAt n j) refl ∙ (lent_at Input e).outside j (inl b))
      by Input e (inr b) (inr f) = inl (a.waits.others (WordAt n j) refl ∙ (lent_at Input e).outside j (inr f))
      by Input e (inr b) (inl f) =
          let laid = (lent_at Input e).inside j b f in
          inr (
            e,
            b,
            f,
            ap (λ (z : Value). (word_in z).used) (a.waits.others (WordAt n j) refl ∙ laid.is) ∙ laid.is_used,
          )

  -- those below the workspace
  own_word : (j : ℕ) → (use_of a.v2 n j ≡ Saved) → s' (WordAt n j) ≡ a.v2 (WordAt n j)
  own_word j e = by (word_then j)
    where
      by : (s' (WordAt n j) ≡ a.v2 (WordAt n j)) ⊎ Lies j → s' (WordAt n j) ≡ a.v2 (WordAt n j)
      by (inl f) = f
      by (inr f) = absurd (saved_not_free e (a.touched.are.touched j f.1 f.2).free)

  pub own_saved : AreSavedWords s' n w
  own_saved =
      words_are_saved s' n w
      (ap (λ (z : Value). (word_in z).used) (own_word (below w 1) used_one) ∙ used_one)
      (ap (λ (z : Value). (word_in z).used) (own_word (below w 2) used_two) ∙ used_two)
      (ap (λ (z : Value). is_set_aside (word_in z).used) (own_word (below w 3) used_three) ∙ ap is_set_aside used_three)
      (ap (λ (z : Value). (word_in z).cells) (own_word (below w 1) used_one ∙ saved.set.one))
      (ap (λ (z : Value). (word_in z).cells) (own_word (below w 2) used_two ∙ saved.set.two))

  -- a word that was not free stays
  pub unfree_stays : (j : ℕ) → (use_of s n j ≡ Free → ⊥) → s' (WordAt n j) ≡ s (WordAt n j)
  unfree_stays j h = by (word_then j)
    where
      kept_before : (j : ℕ) → (use_of s n j ≡ Free → ⊥) → a.v2 (WordAt n j) ≡ s (WordAt n j)
      kept_before =
          by_word (λ j. (use_of s n j ≡ Free → ⊥) → a.v2 (WordAt n j) ≡ s (WordAt n j)) (λ g. absurd (g free_one))
          (λ g. absurd (g free_two)) (λ g. absurd (g free_three)) (λ j e f g same i. same ∙ on.keeps.kept j i)

      by : (s' (WordAt n j) ≡ a.v2 (WordAt n j)) ⊎ Lies j → s' (WordAt n j) ≡ s (WordAt n j)
      by (inl e) = e ∙ kept_before j h
      by (inr e) = absurd (h (free_in_span j e.1 e.2))

  -- its use
  pub used_now : (j : ℕ) → (use_of s' n j ≡ Saved) ⊎ ((use_of s' n j ≡ Receiving) ⊎ (use_of s' n j ≡ use_of s n j))
  used_now j = by (word_then j)
    where
      used_then : (j : ℕ) → (use_of a.v2 n j ≡ Saved) ⊎ (use_of a.v2 n j ≡ use_of s n j)
      used_then =
          by_word (λ j. (use_of a.v2 n j ≡ Saved) ⊎ (use_of a.v2 n j ≡ use_of s n j)) (inl used_one) (inl used_two)
          (inl used_three)
          (λ j e f g same. inr (ap (λ (z : Value). (word_in z).used) same ∙ on.keeps.uses j))

      of : s' (WordAt n j) ≡ a.v2 (WordAt n j) → (use_of a.v2 n j ≡ Saved) ⊎ (use_of a.v2 n j ≡ use_of s n j)
          → (use_of s' n j ≡ Saved) ⊎ ((use_of s' n j ≡ Receiving) ⊎ (use_of s' n j ≡ use_of s n j))
      of e (inl f) = inl (ap (λ (z : Value). (word_in z).used) e ∙ f)
      of e (inr f) = inr (inr (ap (λ (z : Value). (word_in z).used) e ∙ f))

      by : (s' (WordAt n j) ≡ a.v2 (WordAt n j)) ⊎ Lies j
          → (use_of s' n j ≡ Saved) ⊎ ((use_of s' n j ≡ Receiving) ⊎ (use_of s' n j ≡ use_of s n j))
      by (inl e) = of e (used_then j)
      by (inr e) = inr (inl e.3)

  pub receiving_now : side ≡ Input → (j : ℕ) → first ≤ j → j < first + count → use_of s' n j ≡ Receiving
  receiving_now e j b f =
      let laid = (lent_at Input e).inside j b f in
      ap (λ (z : Value). (word_in z).used) (a.waits.others (WordAt n j) refl ∙ laid.is) ∙ laid.is_used

  -- the memory with the saved words
  size' : length store' ≡ k.plan.memory
  size' =
      length-with_word store1 (word_below w 1) r.iptr 0
      (subst (λ z. LiesWord z (word_below w 1)) (sym on.tells.length) lies_one)
      ∙ on.tells.length

  other_cell : (i : ℕ) → i / 4 ≢ below w 1 → get_or store' i None ≡ get_or store1 i None
  other_cell i h =
      other_cell_stays store1 (word_below w 1) r.iptr i
      (subst (λ z. LiesWord z (word_below w 1)) (sym on.tells.length) lies_one) h

  tells_saved : Tells a.v2 n k.plan.memory store'
  tells_saved =
      record {
        length = size';
        words = λ j h. still_whole site whole x d side channel buffer v on.tells.words a.v2 a.saved j h;
        cells = λ i h. cells i h (cases_eq (i / 4) (below w 1)) (cases_eq (i / 4) (below w 2))
            (cases_eq (i / 4) (below w 3));
      }
    where
      nothing : (i : ℕ) (y : Option ℕ) → (word_of a.v2 n (i / 4)).cells ≡ unknown → Knows (cell a.v2 n i) y
      nothing i y e =
          subst (λ (z : Store). Knows (get_or z (i % 4) None) y) (sym e)
          (subst (λ (o : Option ℕ). Knows o y) (sym (nothing_known (i % 4))) tt)

      as_before : (i : ℕ) → i < k.plan.memory → (word_of a.v2 n (i / 4)).cells ≡ (word_of v n (i / 4)).cells
          → i / 4 ≢ below w 1 → Knows (cell a.v2 n i) (get_or store' i None)
      as_before i h e f =
          subst (λ (y : Option ℕ). Knows (cell a.v2 n i) y) (sym (other_cell i f))
          (subst (λ (z : Store). Knows (get_or z (i % 4) None) (get_or store1 i None)) (sym e) (on.tells.cells i h))

      cells : (i : ℕ) → i < k.plan.memory → (i / 4 ≡ below w 1) ⊎ (i / 4 ≡ below w 1 → ⊥)
          → (i / 4 ≡ below w 2) ⊎ (i / 4 ≡ below w 2 → ⊥) → (i / 4 ≡ below w 3) ⊎ (i / 4 ≡ below w 3 → ⊥)
          → Knows (cell a.v2 n i) (get_or store' i None)
      cells i h (inl e) f g =
          nothing i _ (ap (λ z. (word_of a.v2 n z).cells) e ∙ ap (λ (z : Value). (word_in z).cells) saved.set.one)
      cells i h (inr e) (inl f) g =
          nothing i _ (ap (λ z. (word_of a.v2 n z).cells) f ∙ ap (λ (z : Value). (word_in z).cells) saved.set.two)
      cells i h (inr e) (inr f) (inl g) =
          as_before i h (ap (λ z. (word_of a.v2 n z).cells) g
          ∙ ap (λ (z : Value). (word_in z).cells) saved.set.three ∙ ap (λ z. (word_of v n z).cells) (sym g)) e
      cells i h (inr e) (inr f) (inr g) =
          as_before i h (ap (λ (z : Value). (word_in z).cells)
          (saved.set.rest (WordAt n (i / 4)) (other_number n w (i / 4) e f g))) e

  -- a byte of the buffer
  abbrev pub InBuffer : ℕ → Type 0
  InBuffer i = (place buffer.start ≤ i) × (i < place buffer.start + buffer.size)

  word_in_span : (i : ℕ) → InBuffer i → use_of s n (i / 4) ≡ Free
  word_in_span i h =
      let o : IsWordOf buffer (i / 4) = byte_word site whole claims buffer a.touched.placed i h.0 h.1 in
      free_in_span (i / 4) o.from o.to

  above : most_neg ≤ buffer.start
  above =
      placed_above k.plan.memory buffer a.touched.placed
      (more (cases_eq buffer.size 0))
    where
      more : (buffer.size ≡ 0) ⊎ (buffer.size ≡ 0 → ⊥) → 0 < buffer.size
      more (inl e) = absurd (true≢false (sym (eq-eqb buffer.size 0 e) ∙ a.some))
      more (inr e) = omega (arith, e)

  receiving_not_free : {u : Use} → u ≡ Receiving → u ≡ Free → ⊥
  receiving_not_free e f = differ (sym e ∙ f)
    where
      differ : Receiving ≡ Free → ⊥
      differ e = cc

  buffers : (j : ℕ) → IfSome (link_end m j).input (IsBuffer (length store))
  buffers j = IfSome_then (link_end m j).input (k.steady.placed.claimed.inputs j) (λ o h. h.1)

  -- the store of the node as it is seen: hidden where an input is pending
  abbrev pub store'' : Store
  store'' = hiding (λ b. is_input (claims_of control') (byte_span b)) store'

  pub size'' : length store'' ≡ k.plan.memory
  size'' = length-hiding_from (λ b. is_input (claims_of control') (byte_span b)) most_neg store' ∙ size'

  seen_as : (i : ℕ) → (side ≡ Input → InBuffer i → ⊥) → get_or store'' i None ≡ get_or store' i None
  seen_as i h =
      get_or-hiding_from (λ b. is_input (claims_of control') (byte_span b)) most_neg store' i
      ∙ by (is_input (claims_of control') (byte_span (most_neg + i))) refl
    where
      none : ((side ≡ Input) × (overlap (byte_span (most_neg + i)) (buffer_of (offer_of request)) ≡ true))
          ⊎ (is_input (claims_of before) (byte_span (most_neg + i)) ≡ true) → get_or store' i None ≡ None
      none (inl e) =
          let parts : (0 < 1) × (0 < buffer.size) × (most_neg + i < buffer.start + buffer.size)
          × (buffer.start < most_neg + i + 1) =
          overlap-parts (byte_span (most_neg + i)) (buffer_of (offer_of request)) e.1 in
          absurd (h e.0 (omega (arith, parts.3, above), omega (arith, parts.2, above)))
      none (inr e) =
          let used : use_of s n (i / 4) ≡ Receiving =
          input_receives s n (k.shows.sent n) m (length store) buffers shown.marks i e in
          other_cell i (λ f. receiving_not_free used (ap (use_of s n) f ∙ free_one))
          ∙ on.only i (receiving_not_free used)
          ∙ none_where_hidden m store (ap (λ (z : Machine). z.store) k.steady.hides) i e

      by : (t : Bool) → is_input (claims_of control') (byte_span (most_neg + i)) ≡ t
          → cond (is_input (claims_of control') (byte_span (most_neg + i))) None (get_or store' i None)
          ≡ get_or store' i None
      by false e = rw e refl
      by true e = rw e (sym (none (claimed request side before control' ask (byte_span (most_neg + i)) e)))

  -- a byte of a word that was not free stays
  pub unfree_cell : (i : ℕ) → (use_of s n (i / 4) ≡ Free → ⊥) → get_or store'' i None ≡ get_or store i None
  unfree_cell i h =
      seen_as i (λ e b. h (word_in_span i b))
      ∙ other_cell i (λ f. h (ap (use_of s n) f ∙ free_one)) ∙ on.only i h

  -- the memory
  pub tells_now : Tells s' n k.plan.memory store''
  tells_now =
      record {
        length = size'';
        words = λ j h. words j h (word_then j);
        cells = λ i h. cells i h side refl (cases_lt i (place buffer.start))
            (cases_lt i (place buffer.start + buffer.size));
      }
    where
      words : (j : ℕ) → 4 * j + 4 ≤ k.plan.memory → (s' (WordAt n j) ≡ a.v2 (WordAt n j)) ⊎ Lies j
          → IsWhole (s' (WordAt n j))
      words j h (inl e) = subst IsWhole (sym e) (tells_saved.words j h)
      words j h (inr e) =
          let laid = (lent_at Input e.0).inside j e.1 e.2 in
          record { word = laid.word; is = a.waits.others (WordAt n j) refl ∙ laid.is; four = laid.four }

      at_v3 : (i : ℕ) → cell s' n i ≡ cell a.v3 n i
      at_v3 i = ap (λ (z : Value). get_or (word_in z).cells (i % 4) None) (a.waits.others (WordAt n (i / 4)) refl)

      set : side ≡ Input → AreSet n (place buffer.start) (replicate buffer.size None) a.v2 a.v3
      set e =
          span_set a.v2 n k.plan.memory buffer a.words whole
          (span_read a.v2 n k.plan.memory (mode_of side) buffer a.words a.touched) (replicate buffer.size None)
          (length-replicate buffer.size None) a.v3 (lent_at Input e)

      same : (i : ℕ) → i < k.plan.memory → cell s' n i ≡ cell a.v2 n i → (side ≡ Input → InBuffer i → ⊥)
          → Knows (cell s' n i) (get_or store'' i None)
      same i h e f =
          subst (λ (y : Option ℕ). Knows y (get_or store'' i None)) (sym e)
          (subst (λ (y : Option ℕ). Knows (cell a.v2 n i) y) (sym (seen_as i f)) (tells_saved.cells i h))

      cells : (i : ℕ) → i < k.plan.memory → (sd : Side) → side ≡ sd
          → (i < place buffer.start) ⊎ (place buffer.start ≤ i)
          → (i < place buffer.start + buffer.size) ⊎ (place buffer.start + buffer.size ≤ i)
          → Knows (cell s' n i) (get_or store'' i None)
      cells i h Output e b f =
          same i h (at_v3 i ∙ ap (λ (z : Value). get_or (word_in z).cells (i % 4) None)
          ((lent_at Output e).others (WordAt n (i / 4)) refl)) (λ g. absurd (differ (sym e ∙ g)))
        where
          differ : Output ≡ Input → ⊥
          differ e = cc
      cells i h Input e (inl b) f =
          same i h (at_v3 i ∙ (set e).outside i (inl b)) (λ g o. omega (arith, b, o.0))
      cells i h Input e (inr b) (inr f) =
          same i h
          (at_v3 i ∙ (set e).outside i (inr (omega (arith, f, length-replicate {A = Option ℕ} buffer.size None))))
          (λ g o. omega (arith, f, o.1))
      cells i h Input e (inr b) (inl f) =
          let at : place buffer.start + (i - place buffer.start) ≡ i = omega arith in
          let none : cell s' n i ≡ None =
          at_v3 i ∙ ap (cell a.v3 n) (sym at)
          ∙ (set e).inside (i - place buffer.start)
          (omega (arith, b, f, length-replicate {A = Option ℕ} buffer.size None))
          ∙ get_or-replicate buffer.size (i - place buffer.start) None None (omega (arith, b, f)) in
          subst (λ (y : Option ℕ). Knows y (get_or store'' i None)) (sym none) tt

  -- its saved Iptr
  pub iptr_there : word_at store'' (word_below w 1) ≡ r.iptr
  iptr_there =
      word_alike store' store'' (word_below w 1) (size'' ∙ sym size')
      (subst (λ z. LiesWord z (word_below w 1)) (sym size') lies_one) (λ j b.
      seen_as (place (word_below w 1) + j) (λ e o.
      saved_not_free used_one (ap (use_of a.v2 n) (sym (word j b)) ∙ in_span (place (word_below w 1) + j) o)))
      ∙ word_set store1 (word_below w 1) r.iptr
      (subst (λ z. LiesWord z (word_below w 1)) (sym on.tells.length) lies_one) small
    where
      word : (j : ℕ) → j < 4 → (place (word_below w 1) + j) / 4 ≡ below w 1
      word j b = omega (arith, b, lies_one.above, lies_one.aligned)

      in_span : (i : ℕ) → InBuffer i → use_of a.v2 n (i / 4) ≡ Free
      in_span i h =
          let o : IsWordOf buffer (i / 4) = byte_word site whole claims buffer a.touched.placed i h.0 h.1 in
          (a.touched.are.touched (i / 4) o.from o.to).free
