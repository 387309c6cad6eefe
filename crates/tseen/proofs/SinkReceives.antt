-- A sink receives: a message is kept after the others.
use Rattle.std.proofs.Common.{◌≡◌, ℕ, zero, suc, ◌+◌, ◌-◌, ◌<◌, ◌≤◌, refl, sym, ap, subst, ◌∙◌, Bool, true, false, List}
use Rattle.std.proofs.Common.{[], ◌∷◌, ◌++◌, length, get_or, set, cond, Some, None, arith, length-take, length-drop}
use Rattle.std.specs.Prelude.{sum, option_map, nat_le}
use Rattle.std.proofs.lemmas.Bool.{eq-eqb, leb-true}
use Rattle.std.proofs.lemmas.List.{get_or-set_other, ext_get_or}
use Rattle.std.proofs.lemmas.List.Sums.{sum_by-cons, sum_by-append}
use Rattle.tword.specs.Words.{most_neg}
use Rattle.tword.specs.Stores.{Store, cells, place, with_cells, hiding}
use Rattle.tword.specs.Claims.{is_input, overlap, overlaps_claim}
use Rattle.tword.specs.Touches.{byte_span}
use Rattle.tword.proofs.Copying.{length-with_cells, with_cells-below, with_cells-in}
use Rattle.tword.proofs.Hiding.{length-hiding_from, get_or-hiding_from, overlap-parts}
use Rattle.tlink.specs.Roles.{Sink}
use Rattle.tplan.specs.declared.plan.End.{End}
use Rattle.tproc.specs.declared.offer.Offer.{Offer}
use Rattle.tproc.specs.declared.waiter.LinkEnd.{LinkEnd}
use Rattle.tproc.specs.Machine.{Control, claims_of, buffer_of}
use Rattle.tproc.specs.Hidden.{hidden}
use Rattle.tproc.specs.LinkChannels.{link_end, quiet_end}
use Rattle.tproc.specs.Scripts.{input_moved, offer_moved}
use Rattle.tproc.proofs.LinkClaims.{input_claim, apart_from_inputs}
use Rattle.tnet.specs.Rendezvous.{Node}
use Rattle.tprocesses.specs.Places.{Place, Kept}
use Rattle.tprocesses.specs.Values.{Value, AreKept}
use Rattle.tprocesses.specs.Changes.{Put}
use Rattle.tprocesses.specs.Parts.{FullSink, require}
use Rattle.tprocesses.specs.LinkMessages.{sink_receives, keeps}
use Rattle.tseen.specs.Known.{KnowsCells, KnowsMessages}
use Rattle.tseen.specs.Scripts.{ShowsSink, messages_from}
use Rattle.tseen.proofs.After.{State, After, changed, after_bind, after_require}
use Rattle.tseen.proofs.Cells.{knows-length, range-at, range-length}
use Rattle.tseen.proofs.NetScripts.{is_script_of}

-- cells that stand
cells_same : (a b : Store) (start n : ℕ) → length a ≡ length b
    → ((i : ℕ) → i < n → get_or a (place start + i) None ≡ get_or b (place start + i) None)
    → cells a start n ≡ cells b start n
cells_same a b start n same each =
    ext_get_or None (cells a start n) (cells b start n) (long a ∙ sym (ap (λ z. many z) (sym same)) ∙ sym (long b))
    (λ i h.
    let small : i < n = omega (arith, h, long a) in
    range-at a (place start) n i small ∙ each i small ∙ sym (range-at b (place start) n i small))
  where
    many : ℕ → ℕ
    many z = (z - place start) - ((z - place start) - n)

    long : (xs : Store) → length (cells xs start n) ≡ many (length xs)
    long xs =
        let e : place start + n - place start ≡ n = omega arith in
        rw (e, length-take, length-drop) (omega arith)

-- messages that stand
messages_same : (ns : List ℕ) (a b : Store) (start : ℕ) → length a ≡ length b → most_neg ≤ start
    → ((i : ℕ) → i < place start + sum ns → get_or a i None ≡ get_or b i None)
    → messages_from a start ns ≡ messages_from b start ns
messages_same [] a b start same above each = refl
messages_same (n ∷ ns) a b start same above each =
    let all : sum (n ∷ ns) ≡ n + sum ns = sum_by-cons (λ x. x) n ns in
    ap (λ (x : Store). x ∷ messages_from a (start + n) ns)
    (cells_same a b start n same (λ i h. each (place start + i) (omega (arith, all, h))))
    ∙ ap (λ (xs : List Store). cells b start n ∷ xs)
    (messages_same ns a b (start + n) same (omega (arith, above)) (λ i h. each i (omega (arith, all, h, above))))

-- one more message
messages_more : (ns : List ℕ) (a : Store) (start n : ℕ)
    → messages_from a start (ns ++ n ∷ []) ≡ messages_from a start ns ++ cells a (start + sum ns) n ∷ []
messages_more [] a start n = ap (λ z. cells a z n ∷ []) (omega arith)
messages_more (m ∷ ns) a start n =
    let all : sum (m ∷ ns) ≡ m + sum ns = sum_by-cons (λ x. x) m ns in
    ap (λ (xs : List Store). cells a start m ∷ xs) (messages_more ns a (start + m) n
    ∙ ap (λ z. messages_from a (start + m) ns ++ cells a z n ∷ []) (omega (arith, all)))

knows_more : (ms xs : List Store) (m x : Store) → KnowsMessages ms xs → KnowsCells m x
    → KnowsMessages (ms ++ m ∷ []) (xs ++ x ∷ [])
knows_more [] [] m x h k = (k, tt)
knows_more [] (y ∷ ys) m x h k = absurd h
knows_more (n ∷ ns) [] m x h k = absurd h
knows_more (n ∷ ns) (y ∷ ys) m x h k = (h.0, knows_more ns ys m x h.1 k)

set_first : (ls : List LinkEnd) (e : LinkEnd) (o : Offer) → (get_or ls 0 quiet_end).input ≡ Some o
    → get_or (set ls 0 e) 0 quiet_end ≡ e
set_first [] e o h = absurd (differ h)
  where
    differ : None ≡ Some o → ⊥
    differ e = cc
set_first (x ∷ ls) e o h = refl

module _ (s : State) (e : End) (node : Node) (k : ShowsSink s e node) (inp : Offer)
    (asks : (link_end node.machine.control 0).input ≡ Some inp) (message there : Store) (size : ℕ)
    (knows : KnowsCells message there) (long : length there ≡ size) where
  abbrev c : Control
  c = node.machine.control

  abbrev store : Store
  store = node.machine.store

  abbrev moved : LinkEnd
  moved = record (link_end c 0) { input = option_map (offer_moved size) (link_end c 0).input }

  abbrev c' : Control
  c' = input_moved 0 size c

  abbrev store1 : Store
  store1 = with_cells store inp.buffer there

  abbrev store' : Store
  store' = hiding (λ a. is_input (claims_of c') (byte_span a)) store1

  -- the sink with the message
  abbrev pub kept_more : Node
  kept_more =
      record node {
        role = Sink (k.kept ++ size ∷ []);
        machine = hidden (record node.machine { control = c'; store = store1 });
      }

  same_offer : inp ≡ record { wdesc = 0; buffer = most_neg + sum k.kept; length = k.room }
  same_offer = one (sym asks ∙ k.input)
    where
      one : {a b : Offer} → Some a ≡ Some b → a ≡ b
      one e = cc

  buffer_is : inp.buffer ≡ most_neg + sum k.kept
  buffer_is = ap (λ (o : Offer). o.buffer) same_offer

  message_long : length message ≡ size
  message_long = knows-length message there knows ∙ long

  module _ (fits : length message ≤ k.room) where
    room : place inp.buffer + size ≤ length store
    room = omega (arith, buffer_is, k.lies, fits, message_long)

    above : most_neg ≤ inp.buffer
    above = omega (arith, buffer_is)

    size1 : length store1 ≡ length store
    size1 = length-with_cells store inp.buffer size there above room long

    size' : length store' ≡ length store
    size' = length-hiding_from (λ a. is_input (claims_of c') (byte_span a)) most_neg store1 ∙ size1

    all_kept : sum (k.kept ++ size ∷ []) ≡ sum k.kept + size
    all_kept = sum_by-append (λ x. x) k.kept (size ∷ []) ∙ omega arith

    input_now : (link_end c' 0).input
        ≡ Some (record { wdesc = 0; buffer = most_neg + sum (k.kept ++ size ∷ []); length = k.room - length message })
    input_now =
        ap (λ (z : LinkEnd). z.input) (set_first c.links moved inp asks)
        ∙ ap (option_map (offer_moved size)) k.input
        ∙ ap (λ z. Some (record { wdesc = 0; buffer = z; length = k.room - size })) (omega (arith, all_kept))
        ∙ ap (λ z. Some (record {
          wdesc = 0;
          buffer = most_neg + sum (k.kept ++ size ∷ []);
          length = k.room - z;
        })) (sym message_long)

    alone_now : (l : ℕ) → (link_end c' (suc l)).input ≡ None
    alone_now l =
        ap (λ (z : LinkEnd). z.input) (get_or-set_other c.links 0 (suc l) moved quiet_end (λ f. omega (arith, f)))
        ∙ k.alone l

    -- nothing of what it has kept is hidden
    not_hidden : (i : ℕ) → i < sum k.kept + size → is_input (claims_of c') (byte_span (most_neg + i)) ≡ false
    not_hidden i b = apart_from_inputs (byte_span (most_neg + i)) c'.links each
      where
        behind : (o : Offer) → most_neg + i < o.buffer → overlap (byte_span (most_neg + i)) (buffer_of o) ≡ false
        behind o h = by (overlap (byte_span (most_neg + i)) (buffer_of o)) refl
          where
            by : (t : Bool) → overlap (byte_span (most_neg + i)) (buffer_of o) ≡ t
                → overlap (byte_span (most_neg + i)) (buffer_of o) ≡ false
            by false f = f
            by true f =
                let parts : (0 < 1) × (0 < o.length) × (most_neg + i < o.buffer + o.length)
                × (o.buffer < most_neg + i + 1) = overlap-parts (byte_span (most_neg + i)) (buffer_of o) f in
                absurd (omega (arith, parts.3, h))

        each : (l : ℕ) → overlaps_claim (byte_span (most_neg + i)) (input_claim (get_or c'.links l quiet_end)) ≡ false
        each zero =
            ap (λ o. overlaps_claim (byte_span (most_neg + i)) (option_map buffer_of o)) input_now
            ∙ behind (record {
              wdesc = 0;
              buffer = most_neg + sum (k.kept ++ size ∷ []);
              length = k.room - length message;
            }) (omega (arith, all_kept, b))
        each (suc l) = ap (λ o. overlaps_claim (byte_span (most_neg + i)) (option_map buffer_of o)) (alone_now l)

    seen : (i : ℕ) → i < sum k.kept + size → get_or store' i None ≡ get_or store1 i None
    seen i b =
        get_or-hiding_from (λ a. is_input (claims_of c') (byte_span a)) most_neg store1 i
        ∙ ap (λ t. cond t None (get_or store1 i None)) (not_hidden i b)

    before : (i : ℕ) → i < sum k.kept → get_or store' i None ≡ get_or store i None
    before i b =
        seen i (omega (arith, b))
        ∙ with_cells-below store inp.buffer size there above room long i (omega (arith, buffer_is, b))

    inside : cells store' (most_neg + sum k.kept) size ≡ there
    inside =
        ext_get_or None (cells store' (most_neg + sum k.kept) size) there (whole ∙ sym long) (λ i h.
        let small : i < size = omega (arith, h, whole) in
        let at : place (most_neg + sum k.kept) + i - place inp.buffer ≡ i = omega (arith, buffer_is) in
        range-at store' (place (most_neg + sum k.kept)) size i small
        ∙ seen (place (most_neg + sum k.kept) + i) (omega (arith, small))
        ∙ with_cells-in store inp.buffer size there above room long (place (most_neg + sum k.kept) + i)
        (omega (arith, buffer_is)) (omega (arith, buffer_is, small))
        ∙ ap (λ j. get_or there j None) at)
      where
        whole : length (cells store' (most_neg + sum k.kept) size) ≡ size
        whole =
            range-length store' (place (most_neg + sum k.kept)) size (omega (arith, size', room, buffer_is))

    known : KnowsMessages (k.messages ++ message ∷ []) (messages_from store' most_neg (k.kept ++ size ∷ []))
    known =
        subst (KnowsMessages (k.messages ++ message ∷ [])) (sym (messages_more k.kept store' most_neg size))
        (knows_more k.messages (messages_from store' most_neg k.kept) message
        (cells store' (most_neg + sum k.kept) size)
        (subst (KnowsMessages k.messages) (sym (messages_same k.kept store' store most_neg size' (omega arith)
        (λ i h. before i (omega (arith, h))))) k.knows) (subst (KnowsCells message) (sym inside) knows))

    abbrev after : State
    after = changed (Kept e) (Put (AreKept (k.room - length message) (k.messages ++ message ∷ []))) s

    kept_shown : ShowsSink after e kept_more
    kept_shown =
        record {
          works = k.works;
          kept = k.kept ++ size ∷ [];
          role = refl;
          room = k.room - length message;
          input = input_now;
          output = ap (λ (z : LinkEnd). z.output) (set_first c.links moved inp asks) ∙ k.output;
          silent = k.silent;
          alone = alone_now;
          lies = omega (arith, all_kept, size', k.lies, fits, message_long);
          messages = k.messages ++ message ∷ [];
          stands = rw (eq-eqb e.node e.node refl, eq-eqb e.link e.link refl) refl;
          knows = known;
        }

    others : (q : Place) → is_script_of e.node q ≡ false → after q ≡ s q
    others (Kept d) g = rw g refl
    others _ g = refl

  -- the message was kept
  pub record IsKept (t : State) : Type 0 where
    pub shows : ShowsSink t e kept_more
    pub others : (q : Place) → is_script_of e.node q ≡ false → t q ≡ s q

  pub sink_receives_then : (Q : Unit {0} → State → Type 0) → ((t : State) → IsKept t → Q tt t)
      → After (sink_receives message e) s Q
  sink_receives_then Q h =
      subst (λ (v : Value). After (keeps e message v) s Q) (sym k.stands)
      (after_bind (require (nat_le (length message) k.room) FullSink) _ s Q
      (after_require (nat_le (length message) k.room) FullSink s _ (λ b.
      let fits : length message ≤ k.room = leb-true _ _ b in
      h (after fits) (record { shows = kept_shown fits; others = others fits }))))
