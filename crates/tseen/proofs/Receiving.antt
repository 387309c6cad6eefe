-- A node receives: a message comes into the buffer of an input, and its process is ready.
use Rattle.tprocesses.specs.Values.{amount_in}
use Rattle.tseen.specs.Words.{is_set_aside}
use Rattle.tseen.proofs.Choices.{is_lasting, lasting_not_saved, stands_alike, quiet_alike, choices_stay}
use Rattle.tprocesses.specs.Values.{stand_in}
use Rattle.tprocesses.specs.Places.{Ports}
use Rattle.tseen.specs.Choices.{alternative_of, alternative_at, is_quiet, unfired, link_enabler, input_at, enabler_on}
use Rattle.tseen.specs.Choices.{descriptor_at, remembered_at}
use Rattle.std.proofs.Common.{◌≡◌, ◌≢◌, ℕ, zero, suc, ◌+◌, ◌-◌, ◌*◌, ◌<◌, ◌≤◌, ◌/◌, ◌%◌, refl, sym, ap, subst, ◌∙◌}
use Rattle.std.proofs.Common.{Bool, true, false, true≢false, List, [], ◌∷◌, ◌++◌, length, length-append, get_or, cond}
use Rattle.std.proofs.Common.{Contains, Option, Some, None, arith, ◌⊎◌, inl, inr}
use Rattle.std.specs.Prelude.{◌==◌, ◌&&◌, IfSome, slice_set}
use Rattle.std.specs.List.{list_any}
use Rattle.std.proofs.lemmas.Bool.{eq-eqb, ne_eqb, eqb-true, cases_eq, cases_lt}
use Rattle.std.proofs.lemmas.List.{get_or-set_same, get_or-set_other, get_or_append_left, get_or-append_right}
use Rattle.std.proofs.lemmas.List.{ext_get_or}
use Rattle.std.proofs.lemmas.List.Elements.{All-contains}
use Rattle.tword.specs.declared.breaks.Break.TheVariants.{LengthMismatch}
use Rattle.tword.specs.declared.span.Span.{Span}
use Rattle.tword.specs.Words.{most_neg, word_below}
use Rattle.tword.specs.Stores.{Store, HoldsBytes, place, word_at, with_cells, hiding}
use Rattle.tword.specs.Claims.{is_input, overlaps_claim}
use Rattle.tword.specs.Touches.{byte_span, place_break, word_place_break}
use Rattle.tword.proofs.Copying.{length-with_cells, with_cells-below, with_cells-in, with_cells-above}
use Rattle.tword.proofs.EachCell.{IsCell, all-with_cells}
use Rattle.tword.proofs.Hiding.{length-hiding_from, get_or-hiding_from}
use Rattle.tlink.specs.Roles.{Role, Processor, role_filled, filled}
use Rattle.tplan.specs.declared.plan.End.{End}
use Rattle.tplan.specs.declared.plan.NodePlan.{NodePlan}
use Rattle.tplan.specs.declared.plan.Plan.{Plan}
use Rattle.tproc.specs.declared.waiter.Reason.TheVariants as waiting
use Rattle.tproc.specs.declared.offer.Offer.{Offer}
use Rattle.tproc.specs.declared.channels.Side.{Side}
use Rattle.tproc.specs.declared.channels.Side.TheVariants.{Input, Output}
use Rattle.tproc.specs.declared.waiter.LinkEnd.{LinkEnd}
use Rattle.tproc.specs.declared.waiter.Reason.TheVariants.{LinkInput}
use Rattle.tproc.specs.Machine.{Control, Machine, claims_of, descheduled, workspace_of, priority_of, buffer_of}
use Rattle.tproc.specs.Hidden.{hidden}
use Rattle.tproc.specs.LinkChannels.{link_end, quiet_end}
use Rattle.tproc.specs.Links.{finish_input}
use Rattle.tproc.specs.Placement.{IsPlaced, IsBuffer, IsWorkspace, IsWord, WaitsFor}
use Rattle.tproc.specs.ProcessStatus.{reason_of}
use Rattle.tproc.specs.Queues.{iptr_word, last_of}
use Rattle.tproc.specs.SavedWords.{WordStands}
use Rattle.tproc.proofs.Handing.{Lies, buffer_lies}
use Rattle.tproc.proofs.LinkClaims.{input_claim, inputs_of}
use Rattle.tproc.proofs.Opening.{placed_alike}
use Rattle.tproc.proofs.SavedWords.{saved_words_stand}
use Rattle.tproc.proofs.WordsApart.{LiesWord}
use Rattle.tnet.specs.Rendezvous.{Node}
use Rattle.tplan.specs.Wires.{end_at, same_end}
use Rattle.treduction.proofs.LinkActions.{dropped, finish_input_is, linked, last_before, without_in}
use Rattle.tprocesses.specs.Places.{Place, Name, WordAt, Sending, Standing, Half, LinkHalf, Unfinished, same_name}
use Rattle.tprocesses.specs.Places.{same_side}
use Rattle.tprocesses.specs.Values.{Value, Use, Free, Saved, Receiving, Engaged, Context, Rests, Waits, Empty, Offered}
use Rattle.tprocesses.specs.Values.{Fired}
use Rattle.tprocesses.specs.Values.{IsStand, IsLink, link_in, word_in}
use Rattle.tprocesses.specs.Changes.{Put}
use Rattle.tprocesses.specs.Parts.{Breaks, WordInUse, require}
use Rattle.tprocesses.specs.Touching.{Site, word_number, word_count, same_use, word_for, words_for, replaced, put}
use Rattle.tprocesses.specs.LinkMessages.{node_receives, received_by}
use Rattle.tprocesses.specs.Machine.{site_of, awaits_successor, is_passable}
use Rattle.tseen.specs.Known.{KnowsCells}
use Rattle.tseen.specs.Seats.{Seat, Waiting}
use Rattle.tseen.specs.Outputs.{Pending}
use Rattle.tseen.specs.Words.{AreMarked, AreSavedWords, use_at}
use Rattle.tseen.specs.Halves.{ShowsLink, IsInput, reason_at, request_of}
use Rattle.tseen.specs.Shown.{ShowsNode}
use Rattle.tseen.specs.Steps.{IsSteady}
use Rattle.tseen.proofs.Adding.{last_descheduled}
use Rattle.tseen.proofs.After.{State, After, changed, after_bind, after_require}
use Rattle.tseen.proofs.Built.{lies_below}
use Rattle.tseen.proofs.Cells.{word_of, use_of, cell, Knows, IsWhole, Tells, four_of, tells_from, shows_from}
use Rattle.tseen.proofs.Cells.{knows-length, knows-at}
use Rattle.tseen.proofs.ChannelsKept.{channels_kept}
use Rattle.tseen.proofs.Finished.{is_stand_of, StandsNow}
use Rattle.tseen.proofs.Frames.{node_at}
use Rattle.tseen.proofs.NoticedOffers.{KeepsOffers}
use Rattle.tseen.proofs.SetLinks.{alike}
use Rattle.tseen.proofs.Others.{other_name}
use Rattle.tseen.proofs.QueueLinks.{IsLinked, linked_then, linked_tells, word_alike}
use Rattle.tseen.proofs.Receives.{input_receives}
use Rattle.tseen.proofs.Rejoined.{joins, reason_before, reason_now, no_reason, same_queue, still_there}
use Rattle.tseen.proofs.Sending.{wakes_then}
use Rattle.tseen.proofs.InputChannels.{descriptors_stay, remembered_stays, remembers_nobody}
use Rattle.tseen.proofs.Staying.{saved_words_stay, each_contained, input_renamed, used_one}
use Rattle.tseen.proofs.TakenBack.{within_from}
use Rattle.tseen.proofs.Waiting.{IsWaiting}
use Rattle.tseen.proofs.Woken.{may_change, IsWoken, control', node', waiting, named', processes_woken}
use Rattle.tseen.proofs.Writing.{AreRead, span_set, word_lies, replaced-length}
use Rattle.tseen.proofs.Written.{is_word_of, AreLaid, IsLaid, AreSet, put_words_then}

-- words in a row are used for this: their cells
pub words_for_then : (site : Site) (used : Use) (count first : ℕ) (s : State) (Q : Store → State → Type 0)
    → ((k : ℕ) → first ≤ k → k < first + count → IsWhole (s (WordAt site.number k)))
    → ((words : Store) → AreRead s site.number first count words → Q words s)
    → After (words_for site used first count) s Q
words_for_then site used zero first s Q whole h = h [] (record { size = refl; cells = λ j b. absurd (omega arith) })
words_for_then site used (suc count) first s Q whole h =
    after_bind (word_for site used first) _ s Q
    (after_bind (require (same_use (use_of s site.number first) used) WordInUse) _ s _
    (after_require (same_use (use_of s site.number first) used) WordInUse s _ (λ e.
    after_bind (words_for site used (suc first) count) _ s Q
    (words_for_then site used count (suc first) s _ (λ k a b. whole k (omega arith) (omega arith)) (λ rest r.
    h ((word_of s site.number first).cells ++ rest) (more rest r))))))
  where
    four : length (word_of s site.number first).cells ≡ 4
    four = four_of (s (WordAt site.number first)) (whole first (omega arith) (omega arith))

    more : (rest : Store) → AreRead s site.number (suc first) count rest
        → AreRead s site.number first (suc count) ((word_of s site.number first).cells ++ rest)
    more rest r =
        record {
          size = length-append (word_of s site.number first).cells rest ∙ omega (arith, four, r.size);
          cells = λ j b. at j b (cases_lt j 4);
        }
      where
        at : (j : ℕ) → j < 4 * suc count → (j < 4) ⊎ (4 ≤ j)
            → get_or ((word_of s site.number first).cells ++ rest) j None ≡ cell s site.number (4 * first + j)
        at j b (inl l) =
            let word : (4 * first + j) / 4 ≡ first = omega arith in
            let byte : (4 * first + j) % 4 ≡ j = omega arith in
            get_or_append_left (word_of s site.number first).cells rest None j (omega (arith, four))
            ∙ rw (word, byte) refl
        at j b (inr l) =
            get_or-append_right (word_of s site.number first).cells rest 4 j None four l ∙ r.cells (j - 4) (omega arith)
            ∙ ap (cell s site.number) (omega arith)

-- what inputs claim is hidden where nothing is there
pub hidden_by : (c : Control) (store : Store)
    → ((i : ℕ) → is_input (claims_of c) (byte_span (most_neg + i)) ≡ true → get_or store i None ≡ None)
    → hiding (λ a. is_input (claims_of c) (byte_span a)) store ≡ store
hidden_by c store none =
    ext_get_or None (hiding f store) store (length-hiding_from f most_neg store) (λ i h.
    get_or-hiding_from f most_neg store i ∙ by i (f (most_neg + i)) refl)
  where
    f : ℕ → Bool
    f a = is_input (claims_of c) (byte_span a)

    by : (i : ℕ) (b : Bool) → is_input (claims_of c) (byte_span (most_neg + i)) ≡ b
        → cond (is_input (claims_of c) (byte_span (most_neg + i))) None (get_or store i None) ≡ get_or store i None
    by i true e = rw e (sym (none i e))
    by i false e = rw e refl

-- and the other way round
pub none_where_hidden : (c : Control) (store : Store) → hiding (λ a. is_input (claims_of c) (byte_span a)) store ≡ store
    → (i : ℕ) → is_input (claims_of c) (byte_span (most_neg + i)) ≡ true → get_or store i None ≡ None
none_where_hidden c store hides i h =
    ap (λ (z : Store). get_or z i None) (sym hides)
    ∙ get_or-hiding_from (λ a. is_input (claims_of c) (byte_span a)) most_neg store i
    ∙ ap (λ b. cond b None (get_or store i None)) h

module _ (p : Plan) (s : State) (n : ℕ) (plan : NodePlan) (named : Seat → Name) (sent : ℕ → Option Pending)
    (node : Node) (shown : ShowsNode s n plan named sent node) (steady : IsSteady node) (l : ℕ) (inp : Offer)
    (asks : (link_end node.machine.control l).input ≡ Some inp) (message there : Store)
    (knows : KnowsCells message there) (bytes : HoldsBytes there) where
  abbrev m : Control
  m = node.machine.control

  abbrev store : Store
  store = node.machine.store

  abbrev placed : IsPlaced node.machine
  placed = steady.placed

  abbrev pub site : Site
  site = site_of n plan

  abbrev pub process : ℕ
  process = inp.wdesc

  abbrev pub x : Name
  x = named (Waiting inp.wdesc)

  abbrev pub e : End
  e = end_at n l

  abbrev span : Span
  span = buffer_of inp

  abbrev first : ℕ
  first = word_number inp.buffer

  abbrev count : ℕ
  count = word_count (buffer_of inp)

  whole : plan.memory % 4 ≡ 0
  whole = subst (λ z. z % 4 ≡ 0) shown.size steady.sized.size.2

  told : Tells s n plan.memory store
  told = tells_from s n plan.memory store shown.size whole shown.store

  pub asked_there : WaitsFor m inp.wdesc (LinkInput l) × IsBuffer (length store) inp
  asked_there =
      subst (λ (z : Option Offer). IfSome z (λ o. WaitsFor m o.wdesc (LinkInput l) × IsBuffer (length store) o)) asks
      (placed.claimed.inputs l)

  abbrev waits : WaitsFor m inp.wdesc (LinkInput l)
  waits = asked_there.0

  lies : Lies (length store) inp
  lies = buffer_lies (length store) inp asked_there.1

  span_placed : place_break plan.memory span ≡ None
  span_placed =
      subst (λ z. place_break z span ≡ None) shown.size (rw (asked_there.1.1, asked_there.1.2) refl)

  small : l < 4
  small = by (cases_lt l 4)
    where
      by : (l < 4) ⊎ (4 ≤ l) → l < 4
      by (inl b) = b
      by (inr b) =
          absurd (differ (sym asks ∙ ap (λ (z : LinkEnd). z.input)
          (past m.links l (subst (λ z. z ≤ l) (sym placed.claimed.links) b))))
        where
          differ : Some inp ≡ None → ⊥
          differ e = cc

          past : (ls : List LinkEnd) (j : ℕ) → length ls ≤ j → get_or ls j quiet_end ≡ quiet_end
          past [] j h = refl
          past (z ∷ zs) zero h = absurd (omega arith)
          past (z ∷ zs) (suc j) h = past zs j (omega arith)

  -- the words of the buffer
  many : count ≡ (place inp.buffer % 4 + inp.length + 3) / 4
  many = rw (ne_eqb inp.length 0 (λ z. omega (arith, z, lies.more))) refl

  receiving : (k : ℕ) → first ≤ k → k < first + count → use_of s n k ≡ Receiving
  receiving k a b =
      subst (λ j. use_of s n j ≡ Receiving) (omega arith) (shown.marks.inputs l inp asks (k - first) (omega arith))

  fits_words : (k : ℕ) → first ≤ k → k < first + count → 4 * k + 4 ≤ plan.memory
  fits_words k a b = omega (arith, a, b, many, lies.above, lies.within, shown.size, whole, lies.more)

  pub half_is : s (LinkHalf e Input) ≡ IsLink (Offered (request_of named inp))
  half_is = subst (λ (o : Option Offer). IsInput named o (s (LinkHalf e Input))) asks (shown.links l small).input

  abbrev ended : LinkEnd
  ended = record (link_end m l) { input = None }

  abbrev ls : List LinkEnd
  ls = slice_set m.links l ended

  abbrev store1 : Store
  store1 = with_cells store inp.buffer there

  abbrev pub store' : Store
  store' = linked (last_before process (without_in l m)) (claims_of m) (workspace_of process) store1

  abbrev pub now : State → Control
  now t = control' p s t n plan named sent node shown placed process (LinkInput l) waits ls store' node.copied

  abbrev pub received : State → Node
  received t = node' p s t n plan named sent node shown placed process (LinkInput l) waits ls store' node.copied

  abbrev stood_there : State → IsWaiting s n node process (named (Waiting process))
  stood_there t = waiting p s t n plan named sent node shown placed process (LinkInput l) waits ls store' node.copied

  -- the message was received
  pub record IsReceived (t : State) : Type 0 where
    pub long : inp.length ≡ length message
    pub words : Store
    pub read : AreRead s n (word_number inp.buffer) (word_count (buffer_of inp)) words
    pub laid : State
    pub put : AreLaid n (word_number inp.buffer) (word_count (buffer_of inp)) (replaced (buffer_of inp) words message)
        s laid
    pub context : Context
    pub stood : s (Standing x) ≡ IsStand (Waits context)
    pub rests : StandsNow site x (Rests (record context { lent = None }))
        (changed (LinkHalf e Input) (Put (IsLink Empty)) laid) t

  pub node_receives_then : (Q : Unit {0} → State → Type 0) → ((t : State) → IsReceived t → Q tt t)
      → After (node_receives message e site) s Q
  node_receives_then Q h =
      subst (λ (v : Value). After (received_by site e message (link_in v)) s Q) (sym half_is)
      (after_bind (require (inp.length == length message) (Breaks LengthMismatch)) _ s Q
      (after_require (inp.length == length message) (Breaks LengthMismatch) s _ (λ same.
      after_bind (words_for site Receiving first count) _ s Q
      (words_for_then site Receiving count first s _ (λ k a b. told.words k (fits_words k a b)) (λ words r.
      after_bind (put site Free span (replaced span words message)) _ s Q
      (put_words_then site Free count first (replaced span words message) s _
      (replaced-length s n plan.memory span words whole (record { placed = span_placed; are = r }) message
      (sym (eqb-true _ _ same))) (λ u laid.
      wakes_then site p x (stood_there s).stand None (changed (LinkHalf e Input) (Put (IsLink Empty)) u) Q
      (laid.others (Standing x) refl ∙ (stood_there s).stood) (λ c is t rests.
      h t (record {
        long = eqb-true _ _ same;
        words = words;
        read = r;
        laid = u;
        put = laid;
        context = c;
        stood = (stood_there s).stood ∙ ap IsStand is;
        rests = rests;
      })))))))))

  module _ (t : State) (k : IsReceived t) where
    known_long : length message ≡ length there
    known_long = knows-length message there knows

    there_long : length there ≡ inp.length
    there_long = sym known_long ∙ sym k.long

    -- what stays
    same_halves : (q : Place) → may_change n x q ≡ false → changed (LinkHalf e Input) (Put (IsLink Empty)) k.laid q
        ≡ k.laid q
    same_halves (LinkHalf d Input) h = rw h refl
    same_halves (LinkHalf d Output) h = rw h refl
    same_halves (WordAt a b) h = refl
    same_halves (Sending a b) h = refl
    same_halves (Standing a) h = refl
    same_halves (Half a b c) h = refl
    same_halves _ h = refl

    stays : (q : Place) → may_change n x q ≡ false → t q ≡ s q
    stays q h = k.rests.others q (stand q h) ∙ same_halves q h ∙ k.put.others q (word q h)
      where
        stand : (q : Place) → may_change n x q ≡ false → is_stand_of x q ≡ false
        stand (Standing y) h = h
        stand _ h = refl

        word : (q : Place) → may_change n x q ≡ false → is_word_of n q ≡ false
        word (WordAt a b) h = h
        word _ h = refl

    word_then : (j : ℕ) → t (WordAt n j) ≡ k.laid (WordAt n j)
    word_then j = k.rests.others (WordAt n j) refl

    -- the words of the buffer are for programs, the others stay
    in_span : (j : ℕ) → first ≤ j → j < first + count → use_of t n j ≡ Free
    in_span j a b =
        let laid : IsLaid (k.laid (WordAt n j)) (replaced span k.words message) (4 * (j - first)) =
        k.put.inside j a b in
        ap (λ (v : Value). (word_in v).used) (word_then j ∙ laid.is) ∙ laid.is_used

    out_of_span : (j : ℕ) → (j < first) ⊎ (first + count ≤ j) → t (WordAt n j) ≡ s (WordAt n j)
    out_of_span j h = word_then j ∙ k.put.outside j h

    word_stays : (j : ℕ) → (use_of s n j ≡ Receiving → ⊥) → t (WordAt n j) ≡ s (WordAt n j)
    word_stays j h = by (cases_lt j first) (cases_lt j (first + count))
      where
        by : (j < first) ⊎ (first ≤ j) → (j < first + count) ⊎ (first + count ≤ j) → t (WordAt n j) ≡ s (WordAt n j)
        by (inl a) b = out_of_span j (inl a)
        by (inr a) (inr b) = out_of_span j (inr b)
        by (inr a) (inl b) = absurd (h (receiving j a b))

    used_then : (j : ℕ) → (use_of t n j ≡ Free) ⊎ (t (WordAt n j) ≡ s (WordAt n j))
    used_then j = by (cases_lt j first) (cases_lt j (first + count))
      where
        by : (j < first) ⊎ (first ≤ j) → (j < first + count) ⊎ (first + count ≤ j)
            → (use_of t n j ≡ Free) ⊎ (t (WordAt n j) ≡ s (WordAt n j))
        by (inl a) b = inr (out_of_span j (inl a))
        by (inr a) (inr b) = inr (out_of_span j (inr b))
        by (inr a) (inl b) = inl (in_span j a b)

    -- the cells
    set_there : AreSet n (place inp.buffer) message s k.laid
    set_there =
        span_set s n plan.memory span k.words whole (record { placed = span_placed; are = k.read }) message
        (sym k.long) k.laid k.put

    cell_then : (i : ℕ) → cell t n i ≡ cell k.laid n i
    cell_then i = ap (λ (v : Value). get_or (word_in v).cells (i % 4) None) (word_then (i / 4))

    room : place inp.buffer + length there ≤ length store
    room = omega (arith, there_long, lies.within)

    size1 : length store1 ≡ length store
    size1 = length-with_cells store inp.buffer (length there) there lies.above room refl

    outside1 : (i : ℕ) → (i < place inp.buffer) ⊎ (place inp.buffer + length there ≤ i)
        → get_or store1 i None ≡ get_or store i None
    outside1 i (inl b) = with_cells-below store inp.buffer (length there) there lies.above room refl i b
    outside1 i (inr b) = with_cells-above store inp.buffer (length there) there lies.above room refl i b

    word_of_byte : (i : ℕ) → place inp.buffer ≤ i → i < place inp.buffer + length there
        → (first ≤ i / 4) × (i / 4 < first + count)
    word_of_byte i a b = (omega (arith, a), omega (arith, a, b, many, there_long, lies.more))

    -- a byte of a word that is not one of them
    byte_stays : (i : ℕ) → (use_of t n (i / 4) ≡ Free → ⊥) → get_or store1 i None ≡ get_or store i None
    byte_stays i h = by (cases_lt i (place inp.buffer)) (cases_lt i (place inp.buffer + length there))
      where
        by : (i < place inp.buffer) ⊎ (place inp.buffer ≤ i)
            → (i < place inp.buffer + length there) ⊎ (place inp.buffer + length there ≤ i)
            → get_or store1 i None ≡ get_or store i None
        by (inl a) b = outside1 i (inl a)
        by (inr a) (inr b) = outside1 i (inr b)
        by (inr a) (inl b) = let w = word_of_byte i a b in absurd (h (in_span (i / 4) w.0 w.1))

    other_byte : (i : ℕ) → (use_of s n (i / 4) ≡ Receiving → ⊥) → get_or store1 i None ≡ get_or store i None
    other_byte i h = by (cases_lt i (place inp.buffer)) (cases_lt i (place inp.buffer + length there))
      where
        by : (i < place inp.buffer) ⊎ (place inp.buffer ≤ i)
            → (i < place inp.buffer + length there) ⊎ (place inp.buffer + length there ≤ i)
            → get_or store1 i None ≡ get_or store i None
        by (inl a) b = outside1 i (inl a)
        by (inr a) (inr b) = outside1 i (inr b)
        by (inr a) (inl b) = let w = word_of_byte i a b in absurd (h (receiving (i / 4) w.0 w.1))

    tells1 : Tells t n plan.memory store1
    tells1 =
        record {
          length = size1 ∙ shown.size;
          words = λ j h. words j h (cases_lt j first) (cases_lt j (first + count));
          cells = λ i h. cells i h (cases_lt i (place inp.buffer)) (cases_lt i (place inp.buffer + length there));
        }
      where
        words : (j : ℕ) → 4 * j + 4 ≤ plan.memory → (j < first) ⊎ (first ≤ j)
            → (j < first + count) ⊎ (first + count ≤ j) → IsWhole (t (WordAt n j))
        words j h (inl a) b = subst IsWhole (sym (out_of_span j (inl a))) (told.words j h)
        words j h (inr a) (inr b) = subst IsWhole (sym (out_of_span j (inr b))) (told.words j h)
        words j h (inr a) (inl b) =
            let laid : IsLaid (k.laid (WordAt n j)) (replaced span k.words message) (4 * (j - first)) =
            k.put.inside j a b in
            record { word = laid.word; is = word_then j ∙ laid.is; four = laid.four }

        cells : (i : ℕ) → i < plan.memory → (i < place inp.buffer) ⊎ (place inp.buffer ≤ i)
            → (i < place inp.buffer + length there) ⊎ (place inp.buffer + length there ≤ i)
            → Knows (cell t n i) (get_or store1 i None)
        cells i h (inl a) b =
            rw (cell_then i, set_there.outside i (inl a), outside1 i (inl a)) (told.cells i h)
        cells i h (inr a) (inr b) =
            rw (cell_then i, set_there.outside i (inr (omega (arith, known_long, b))), outside1 i (inr b))
            (told.cells i h)
        cells i h (inr a) (inl b) =
            let e : place inp.buffer + (i - place inp.buffer) ≡ i = omega arith in
            let f : cell t n i ≡ get_or message (i - place inp.buffer) None =
            cell_then i ∙ ap (cell k.laid n) (sym e) ∙ set_there.inside (i - place inp.buffer)
            (omega (arith, known_long, a, b)) in
            rw (f, with_cells-in store inp.buffer (length there) there lies.above room refl i a b)
            (knows-at message there knows (i - place inp.buffer))

    -- the saved words
    saved_not_receiving : {u : Use} → u ≡ Saved → u ≡ Receiving → ⊥
    saved_not_receiving e f = differ (sym e ∙ f)
      where
        differ : Saved ≡ Receiving → ⊥
        differ e = cc

    aside_not_receiving : {u : Use} → is_set_aside u ≡ true → u ≡ Receiving → ⊥
    aside_not_receiving e f = true≢false (sym e ∙ ap is_set_aside f)

    saved_of : (v : ℕ) → Contains (descheduled m) v → AreSavedWords t n v
    saved_of v h =
        saved_words_stay s t n v (λ j e. word_stays j (aside_not_receiving e))
        (All-contains (AreSavedWords s n) (descheduled m) v shown.marks.saved h)

    lies_under : (v j : ℕ) → (1 ≤ j) × (j ≤ 3) → Contains (descheduled m) v → LiesWord (length store) (word_below v j)
    lies_under v j b h =
        lies_below (length store) v j placed.claimed.size
        (All-contains (IsWorkspace (length store)) (descheduled m) v placed.claimed.saved h)
        (All-contains IsWord (descheduled m) v placed.workspaces h) b

    last_in : (v : ℕ) → last_before process (without_in l m) ≡ Some v → Contains (descheduled m) v
    last_in v e =
        last_descheduled m (priority_of process) v
        (ap last_of (sym (same_queue m process (LinkInput l) waits placed.claimed.distinct ls (priority_of process)))
        ∙ e)

    linked_store : IsLinked t n store1 store'
    linked_store =
        linked_then t n store1 (claims_of m) (workspace_of process) (last_before process (without_in l m)) (λ v e. (
          saved_of v (last_in v e),
          subst (λ z. LiesWord z (word_below v 2)) (sym size1)
              (lies_under v 2 (omega arith, omega arith) (last_in v e)),
        ))

    size' : length store' ≡ length store
    size' = linked_store.size ∙ size1

    iptrs : (a : ℕ) → Contains (descheduled m) a
        → word_at store' (word_below a iptr_word) ≡ word_at store (word_below a iptr_word)
    iptrs a h =
        subst (λ (z : Machine). WordStands iptr_word a (record node.machine { store = store1 }) z)
        (finish_input_is l (record node.machine { store = store1 }) inp asks)
        (All-contains (λ v. WordStands iptr_word v (record node.machine { store = store1 })
        (finish_input l (record node.machine { store = store1 }))) (descheduled m) a
        ((saved_words_stand (record node.machine { store = store1 }) placed1).inputs l).iptrs h)
        ∙ word_alike store store1 (word_below a 1) size1 (lies_under a 1 (omega arith, omega arith) h) (λ j b.
        other_byte (place (word_below a 1) + j) (saved_not_receiving (ap (use_of s n) (omega (
          arith,
          b,
          (lies_under a 1 (omega arith, omega arith) h).above,
          (lies_under a 1 (omega arith, omega arith) h).aligned,
        ))
        ∙ used_one s n a (All-contains (AreSavedWords s n) (descheduled m) a shown.marks.saved h))))
      where
        placed1 : IsPlaced (record node.machine { store = store1 })
        placed1 =
            placed_alike node.machine store1 placed size1
            (all-with_cells IsCell (λ b h. h) store inp.buffer there placed.bytes bytes)

    -- the links
    link_now : (j : ℕ) → link_end (now t) j ≡ get_or ls j quiet_end
    link_now j =
        ap (λ (xs : List LinkEnd). get_or xs j quiet_end)
        (joins m process (LinkInput l) waits placed.claimed.distinct ls).links

    output_is : (j : ℕ) → (link_end (now t) j).output ≡ (link_end m j).output
    output_is j = ap (λ (z : LinkEnd). z.output) (link_now j) ∙ alike (λ (z : LinkEnd). z.output) m.links l j _ refl

    pub noticed_is : (j : ℕ) → (link_end (now t) j).noticed ≡ (link_end m j).noticed
    noticed_is j = ap (λ (z : LinkEnd). z.noticed) (link_now j) ∙ alike (λ (z : LinkEnd). z.noticed) m.links l j _ refl

    remembered_is : (j : ℕ) → (link_end (now t) j).remembered ≡ (link_end m j).remembered
    remembered_is j =
        ap (λ (z : LinkEnd). z.remembered) (link_now j) ∙ alike (λ (z : LinkEnd). z.remembered) m.links l j _ refl

    other_link : (j : ℕ) → (j ≡ l → ⊥) → link_end (now t) j ≡ link_end m j
    other_link j h = link_now j ∙ get_or-set_other m.links l j ended quiet_end h

    own_link : (link_end (now t) l).input ≡ None
    own_link =
        ap (λ (z : LinkEnd). z.input) (link_now l
        ∙ get_or-set_same m.links l ended quiet_end (subst (λ z. l < z) (sym placed.claimed.links) small))

    -- an input that is still there is another one, and was there
    still_input : (j : ℕ) (o : Offer) → (link_end (now t) j).input ≡ Some o
        → (j ≡ l → ⊥) × ((link_end m j).input ≡ Some o)
    still_input j o h = by (cases_eq j l)
      where
        by : (j ≡ l) ⊎ (j ≡ l → ⊥) → (j ≡ l → ⊥) × ((link_end m j).input ≡ Some o)
        by (inl f) = absurd (differ (sym h ∙ ap (λ i. (link_end (now t) i).input) f ∙ own_link))
          where
            differ : Some o ≡ None → ⊥
            differ e = cc
        by (inr f) = (f, ap (λ (z : LinkEnd). z.input) (sym (other_link j f)) ∙ h)

    waits_not : (y : Name) (d : Context) → s (Standing y) ≡ IsStand (Rests d) → same_name x y ≡ false
    waits_not y d e = other_name p s x y (Waits k.context) (Rests d) is_waiting k.stood e refl refl
      where
        is_waiting : Value → Bool
        is_waiting (IsStand (Waits c)) = true
        is_waiting _ = false

    same_context : (stood_there t).context ≡ k.context
    same_context = by (stood_there t).how
      where
        waits_is : {a b : Context} → IsStand (Waits a) ≡ IsStand (Waits b) → a ≡ b
        waits_is e = cc

        rests_is : {a b : Context} → IsStand (Rests a) ≡ IsStand (Waits b) → ⊥
        rests_is e = cc

        differ : Some (LinkInput l) ≡ Some waiting.Chooses → ⊥
        differ e = cc

        by : ((stood_there t).stand ≡ Rests (stood_there t).context)
            ⊎ (((stood_there t).stand ≡ Waits (stood_there t).context)
            ⊎ (reason_of m process ≡ Some waiting.Chooses)) → (stood_there t).context ≡ k.context
        by (inl e) = absurd (rests_is (sym (ap IsStand e) ∙ sym (stood_there t).stood ∙ k.stood))
        by (inr (inr e)) =
            absurd (differ (sym (reason_before m process (LinkInput l) waits placed.claimed.distinct ls) ∙ e))
        by (inr (inl e)) = waits_is (sym (ap IsStand e) ∙ sym (stood_there t).stood ∙ k.stood)

    pub woken_there : IsWoken p s t n plan named sent node shown placed process (LinkInput l) waits ls store'
        node.copied None
    woken_there =
        record {
          rests = k.rests.is ∙ ap (λ (c : Context). IsStand (Rests (record c { lent = None }))) (sym same_context);
          stays = stays;
          iptrs = iptrs;
          passes = λ b other h.
              (h.0, reason_now m process (LinkInput l) waits placed.claimed.distinct ls b other ∙ h.1, h.2);
          lent_sent = λ z e. absurd (nobody e);
          passed = λ j q e h. (let old = shown.processes.passed j q e h in (
            old.0,
            old.1,
            stays (Standing q.request.process) (waits_not q.request.process old.1 old.2) ∙ old.2,
            old.3,
          ));
        }
      where
        nobody : {X : Type 0} {x : X} → None ≡ Some x → ⊥
        nobody e = cc

    abbrev pub renamed_to : Seat → Name
    renamed_to =
        named' p s t n plan named sent node shown placed process (LinkInput l) waits ls store' node.copied

    own_half : t (LinkHalf e Input) ≡ IsLink Empty
    own_half = k.rests.others (LinkHalf e Input) refl ∙ rw (eq-eqb n n refl, eq-eqb l l refl) refl

    other_half : (j : ℕ) (side : Side) → (same_end e (end_at n j) && same_side Input side) ≡ false
        → t (LinkHalf (end_at n j) side) ≡ s (LinkHalf (end_at n j) side)
    other_half j side h =
        k.rests.others (LinkHalf (end_at n j) side) refl ∙ rw h (k.put.others (LinkHalf (end_at n j) side) refl)

    output_half : (j : ℕ) → t (LinkHalf (end_at n j) Output) ≡ s (LinkHalf (end_at n j) Output)
    output_half j = other_half j Output (both (same_end e (end_at n j)))
      where
        both : (b : Bool) → (b && false) ≡ false
        both true = refl
        both false = refl

    input_half : (j : ℕ) → (j ≡ l → ⊥) → t (LinkHalf (end_at n j) Input) ≡ s (LinkHalf (end_at n j) Input)
    input_half j h = other_half j Input (rw (eq-eqb n n refl, ne_eqb l j (λ f. h (sym f))) refl)

    -- the alternatives stay
    stand_stays : (y : Name) → same_name x y ≡ false → t (Standing y) ≡ s (Standing y)
    stand_stays y h = stays (Standing y) h

    alternative_now : alternative_at t n x ≡ None
    alternative_now = ap (λ (v : Value). alternative_of (stand_in v)) k.rests.is

    alternative_before : alternative_at s n x ≡ None
    alternative_before = ap (λ (v : Value). alternative_of (stand_in v)) k.stood

    alternatives : (y : Name) → alternative_at t n y ≡ alternative_at s n y
    alternatives = stands_alike p s t n x stand_stays (alternative_now ∙ sym alternative_before)

    -- nobody has enabled the input
    empty_now : input_at t n l ≡ Empty
    empty_now = ap link_in own_half

    offered_before : input_at s n l ≡ Offered (request_of named inp)
    offered_before = ap link_in half_is

    inputs_kept : (j : ℕ) → (j ≡ l) ⊎ (j ≡ l → ⊥)
        → (input_at t n j ≡ input_at s n j) ⊎ ((enabler_on t n j ≡ None) × (enabler_on s n j ≡ None))
    inputs_kept j (inr f) = inl (ap link_in (input_half j f))
    inputs_kept j (inl f) =
        subst (λ i. (input_at t n i ≡ input_at s n i) ⊎ ((enabler_on t n i ≡ None) × (enabler_on s n i ≡ None))) (sym f)
        (inr (ap link_enabler empty_now, ap link_enabler offered_before))

    -- who has enabled an input is not the process that goes on
    descriptors : (j : ℕ) → j < 4 → (y : Name) → unfired (input_at s n j) ≡ Some y
        → descriptor_at t n y ≡ descriptor_at s n y
    descriptors = descriptors_stay s t n m.links store shown.choices (λ y h. alternatives y)

    remembers : (j : ℕ) → j < 4 → (j ≡ l) ⊎ (j ≡ l → ⊥) → remembered_at t n j ≡ remembered_at s n j
    remembers j b (inr f) = remembered_stays s t n j (ap link_in (input_half j f)) (descriptors j b)
    remembers j b (inl f) =
        subst (λ i. remembered_at t n i ≡ remembered_at s n i) (sym f)
        (remembers_nobody t n l (ap unfired empty_now) ∙ sym (remembers_nobody s n l (ap unfired offered_before)))

    link_received : (j : ℕ) → j < 4 → ShowsLink t n renamed_to sent (received t) j
    link_received j b =
        record {
          input = input (cases_eq j l);
          output = output_half j ∙ old.output;
          unfinished = stays (Unfinished (end_at n j)) refl ∙ old.unfinished;
          offered = λ o f. old.offered o (sym (output_is j) ∙ f);
          fresh = λ f. old.fresh (sym (output_is j) ∙ f);
          unnoticed = λ o f. noticed_is j ∙ old.unnoticed o (still_input j o f).1;
          remembered = λ f. remembered_is j ∙ old.remembered (sym (noticed_is j) ∙ f)
              ∙ sym (remembers j b (cases_eq j l));
          forgotten = λ f. remembered_is j ∙ old.forgotten (sym (noticed_is j) ∙ f);
          fired = λ y f. noticed_is j ∙ old.fired y (fired y f (cases_eq j l));
          pending = λ q f g. (let o = old.pending q f g in (o.0, output_is j ∙ o.1));
        }
      where
        old : ShowsLink s n named sent node j
        old = shown.links j b

        input : (j ≡ l) ⊎ (j ≡ l → ⊥)
            → IsInput renamed_to (link_end (now t) j).input (t (LinkHalf (end_at n j) Input))
        input (inl f) =
            subst (λ i. IsInput renamed_to (link_end (now t) i).input (t (LinkHalf (end_at n i) Input))) (sym f)
            (subst (λ (o : Option Offer). IsInput renamed_to o (t (LinkHalf e Input))) (sym own_link)
            (Empty, own_half, refl))
        input (inr f) =
            subst (λ (z : LinkEnd). IsInput renamed_to z.input (t (LinkHalf (end_at n j) Input)))
            (sym (other_link j f))
            (input_renamed named renamed_to (link_end m j).input _ _ (λ o g. refl) (input_half j f) old.input)

        fired : (y : Name) → t (LinkHalf (end_at n j) Input) ≡ IsLink (Fired y) → (j ≡ l) ⊎ (j ≡ l → ⊥)
            → s (LinkHalf (end_at n j) Input) ≡ IsLink (Fired y)
        fired y g (inr f) = sym (input_half j f) ∙ g
        fired y g (inl f) =
            absurd (differ (sym own_half ∙ ap (λ i. t (LinkHalf (end_at n i) Input)) (sym f) ∙ g))
          where
            differ : IsLink Empty ≡ IsLink (Fired y) → ⊥
            differ e = cc

    -- the marks
    still_receiving : (j : ℕ) (o : Offer) → (link_end (now t) j).input ≡ Some o → (i : ℕ)
        → i < word_count (buffer_of o) → use_of t n (word_number o.buffer + i) ≡ Receiving
    still_receiving j o h i b = by (cases_lt w first) (cases_lt w (first + count))
      where
        w : ℕ
        w = word_number o.buffer + i

        was : (j ≡ l → ⊥) × ((link_end m j).input ≡ Some o)
        was = still_input j o h

        kept : t (WordAt n w) ≡ s (WordAt n w) → use_of t n w ≡ Receiving
        kept e = ap (λ (v : Value). (word_in v).used) e ∙ shown.marks.inputs j o was.1 i b

        by : (w < first) ⊎ (first ≤ w) → (w < first + count) ⊎ (first + count ≤ w) → use_of t n w ≡ Receiving
        by (inl a) c = kept (out_of_span w (inl a))
        by (inr a) (inr c) = kept (out_of_span w (inr c))
        by (inr a) (inl c) =
            absurd (was.0 (shown.marks.inputs_apart w j l o inp was.1 asks
            (within_from (word_number o.buffer) (word_count (buffer_of o)) w (omega arith) (omega arith))
            (within_from first count w a c)))

    marks_now : AreMarked t n sent (now t)
    marks_now =
        record {
          saved = each_contained (AreSavedWords t n) (descheduled (now t))
              (λ v h. saved_of v (still_there m process (LinkInput l) waits placed.claimed.distinct ls v h));
          inputs = still_receiving;
          inputs_apart = λ i a b o q f g.
              shown.marks.inputs_apart i a b o q (still_input a o f).1 (still_input b q g).1;
          outputs = λ j. stays (Sending n j) refl ∙ shown.marks.outputs j;
          no_successor = λ j. none_due j (used_then j);
        }
      where
        none_due : (j : ℕ) → (use_of t n j ≡ Free) ⊎ (t (WordAt n j) ≡ s (WordAt n j))
            → awaits_successor (use_of t n j) ≡ false
        none_due j (inl f) = ap awaits_successor f
        none_due j (inr f) = ap (λ (v : Value). awaits_successor (word_in v).used) f ∙ shown.marks.no_successor j

    -- the channels
    not_receiving : {u : Use} → u ≡ Engaged → u ≡ Receiving → ⊥
    not_receiving e f = differ (sym e ∙ f)
      where
        differ : Engaged ≡ Receiving → ⊥
        differ e = cc

    lasting_not_receiving : {u : Use} → is_lasting u ≡ true → u ≡ Receiving → ⊥
    lasting_not_receiving e f = true≢false (sym e ∙ ap is_lasting f)

    -- a word in use as a channel or for an alternative stays
    lasting_to : (j : ℕ) → is_lasting (use_of s n j) ≡ true → use_of t n j ≡ use_of s n j
    lasting_to j f = ap (λ (v : Value). (word_in v).used) (word_stays j (lasting_not_receiving f))

    engaged_to : (j : ℕ) → use_of s n j ≡ Engaged → use_of t n j ≡ Engaged
    engaged_to j f = ap (λ (v : Value). (word_in v).used) (word_stays j (not_receiving f)) ∙ f

    engaged_back : (j : ℕ) → use_of t n j ≡ Engaged → use_of s n j ≡ Engaged
    engaged_back j f = by (used_then j)
      where
        by : (use_of t n j ≡ Free) ⊎ (t (WordAt n j) ≡ s (WordAt n j)) → use_of s n j ≡ Engaged
        by (inl g) = absurd (differ (sym f ∙ g))
          where
            differ : Engaged ≡ Free → ⊥
            differ e = cc
        by (inr g) = ap (λ (v : Value). (word_in v).used) (sym g) ∙ f

    lasting_word : (c : ℕ) → word_place_break (length store) c ≡ None → is_lasting (use_at s n c) ≡ true
        → word_at store' c ≡ word_at store c
    lasting_word c h f =
        let at : (place c ≡ 4 * word_number c) × (most_neg ≤ c) × (4 * word_number c + 4 ≤ plan.memory) =
        word_lies site whole c (subst (λ z. word_place_break z c ≡ None) shown.size h) in
        word_alike store store' c size'
        (record {
          above = at.1;
          within = omega (arith, at.0, at.2, shown.size);
          aligned = omega (arith, at.0, at.1);
        }) (λ j b.
        let word : (place c + j) / 4 ≡ word_number c = omega (arith, at.0, b) in
        linked_store.only (place c + j) (λ g.
        lasting_not_saved (ap is_lasting (lasting_to (word_number c) f) ∙ f) (ap (use_of t n) (sym word) ∙ g))
        ∙ other_byte (place c + j) (lasting_not_receiving (ap is_lasting (ap (use_of s n) word) ∙ f)))

    no_channel : (side : Side) (channel : ℕ) (buffer : Span)
        → Some (LinkInput l) ≡ Some (reason_at side channel buffer) → ⊥
    no_channel Input channel buffer e = cc
    no_channel Output channel buffer e = cc

    -- what is hidden
    buffers : (j : ℕ) → IfSome (link_end (now t) j).input (IsBuffer (length store))
    buffers j = by (link_end (now t) j).input refl
      where
        by : (o : Option Offer) → (link_end (now t) j).input ≡ o → IfSome o (IsBuffer (length store))
        by None h = tt
        by (Some o) h =
            (subst (λ (z : Option Offer). IfSome z (λ o. WaitsFor m o.wdesc (LinkInput j) × IsBuffer (length store) o))
            (still_input j o h).1 (placed.claimed.inputs j)).1

    was_claimed : (a : ℕ) → is_input (claims_of (now t)) (byte_span a) ≡ true
        → is_input (claims_of m) (byte_span a) ≡ true
    was_claimed a h = by (is_input (claims_of m) (byte_span a)) refl
      where
        by : (b : Bool) → is_input (claims_of m) (byte_span a) ≡ b → is_input (claims_of m) (byte_span a) ≡ true
        by true f = f
        by false f =
            let none : is_input (claims_of (now t)) (byte_span a) ≡ false =
            ap (λ (xs : List LinkEnd). list_any (overlaps_claim (byte_span a)) (inputs_of xs))
            (joins m process (LinkInput l) waits placed.claimed.distinct ls).links
            ∙ dropped input_claim m.links l ended (inl refl) (byte_span a) f refl in
            absurd (true≢false (sym h ∙ none))

    hidden_still : hidden (received t).machine ≡ (received t).machine
    hidden_still =
        ap (λ (z : Store). record { control = now t; store = z })
        (hidden_by (now t) store' (λ i h.
        let used : use_of t n (i / 4) ≡ Receiving =
        input_receives t n sent (now t) (length store) buffers marks_now i h in
        linked_store.only i (λ f. saved_not_receiving f used)
        ∙ byte_stays i (λ f. differ (sym used ∙ f))
        ∙ none_where_hidden m store (ap (λ (z : Machine). z.store) steady.hides) i (was_claimed (most_neg + i) h)))
      where
        differ : Receiving ≡ Free → ⊥
        differ e = cc

    -- the machine after the message
    pub received_is : hidden (finish_input l (record node.machine { store = store1 })) ≡ (received t).machine
    received_is = ap hidden (finish_input_is l (record node.machine { store = store1 }) inp asks) ∙ hidden_still

    pub filled_is : (size : ℕ) → record node {
      role = role_filled size node.role;
      machine = hidden (filled node.role l size (record node.machine { store = store1 }));
    }
        ≡ received t
    filled_is size =
        ap (λ (r : Role). record node {
          role = role_filled size r;
          machine = hidden (filled r l size (record node.machine { store = store1 }));
        }) shown.role
        ∙ ap (λ (z : Machine). record node { role = Processor; machine = z }) received_is
        ∙ ap (λ (r : Role). record (received t) { role = r }) (sym shown.role)

    -- so the node is shown
    pub received_shown : ShowsNode t n plan renamed_to sent (received t)
    received_shown =
        record {
          role = shown.role;
          works = shown.works;
          runs_on = (joins m process (LinkInput l) waits placed.claimed.distinct ls).halted ∙ shown.runs_on;
          size = size' ∙ shown.size;
          kind = (joins m process (LinkInput l) waits placed.claimed.distinct ls).kind ∙ shown.kind;
          store = shows_from t n plan.memory store' (linked_tells t n plan.memory store1 store' linked_store tells1);
          marks = marks_now;
          channels = channels_kept s t n named renamed_to node.machine (received t).machine (record {
            waits = λ w channel side buffer f. (
              reason_now m process (LinkInput l) waits placed.claimed.distinct ls w (λ g. no_channel side channel buffer
                  (sym (reason_before m process (LinkInput l) waits placed.claimed.distinct ls)
                  ∙ ap (reason_of m) (sym g) ∙ f))
                  ∙ f,
              refl,
            );
            waited = λ w channel side buffer f. (
              sym (reason_now m process (LinkInput l) waits placed.claimed.distinct ls w (λ g. nobody
                  (sym (no_reason m process (LinkInput l) waits placed.claimed.distinct ls)
                  ∙ ap (reason_of (now t)) (sym g) ∙ f)))
                  ∙ f,
              refl,
            );
            engaged_to = engaged_to;
            engaged_back = engaged_back;
            halves = λ c side. stays (Half n c side) refl;
            size = size';
            words = λ c h e. lasting_word c h (ap is_lasting e);
          }) shown.channels;
          links = link_received;
          processes = processes_woken p s t n plan named sent node shown placed process (LinkInput l) waits ls store'
              node.copied None woken_there;
          choices = choices_stay s t n m.links (now t).links store store'
              (record { inputs = λ j. inputs_kept j (cases_eq j l); noticed = λ j y f. noticed_is j })
              (λ y h. alternatives y)
              (λ y h e. quiet_alike p s t n x stand_stays quiet_now y e) (λ y h. stays (Ports y) refl)
              (λ a side. stays (Half n a side) refl) (λ j e z. ap amount_in (stays (Sending n j) refl) ∙ z)
              (λ j e. word_stays j (lasting_not_receiving e)) size' lasting_word shown.choices;
        }
      where
        quiet_now : is_quiet (stand_in (t (Standing x))) ≡ true
        quiet_now =
            ap (λ (v : Value). is_quiet (stand_in v)) k.rests.is
            ∙ sym (ap (λ (v : Value). is_quiet (stand_in v)) k.stood) ∙ shown.choices.quiet x (stood_there t).home

        nobody : {X : Type 0} {x : X} → None ≡ Some x → ⊥
        nobody e = cc

    -- it keeps what it offers, and notices nothing
    pub received_keeps : KeepsOffers s t n node (received t)
    received_keeps =
        record {
          offers = λ j h. ap (is_passable (LinkHalf (end_at n j) Output)) (output_half j) ∙ h;
          notices = λ j h. sym (noticed_is j) ∙ h;
        }

    -- other nodes stay
    pub received_elsewhere : (q : Place) → node_at q ≢ n → t q ≡ s q
    received_elsewhere q h = stays q (other q h)
      where
        other : (q : Place) → node_at q ≢ n → may_change n x q ≡ false
        other (WordAt a b) h = ne_eqb n a (λ e. h (sym e))
        other (LinkHalf d side) h = ne_eqb n d.node (λ e. h (sym e))
        other (Standing y) h = rw (ne_eqb x.node y.node (λ e. h (sym e ∙ (stood_there t).home))) refl
        other _ h = refl
