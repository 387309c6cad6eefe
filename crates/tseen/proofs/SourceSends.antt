-- A source sends: its first message goes over, and is still pending.
use Rattle.std.proofs.Common.{◌≡◌, ℕ, ◌+◌, ◌-◌, ◌≤◌, refl, sym, ap, subst, ◌∙◌, true, false, List, [], ◌∷◌, length}
use Rattle.std.proofs.Common.{map, take, drop, Some, None, arith}
use Rattle.std.specs.Prelude.{slice_range, sum}
use Rattle.std.proofs.lemmas.Bool.{eq-eqb}
use Rattle.std.proofs.lemmas.List.Sums.{sum_by-cons}
use Rattle.std.proofs.lemmas.List.{get_or-set_same, take-map, drop-map}
use Rattle.tword.specs.Stores.{Store, cells, shown, as_cells, place}
use Rattle.tlink.specs.Roles.{Source, first_offer}
use Rattle.tplan.specs.declared.plan.End.{End}
use Rattle.tproc.specs.declared.offer.Offer.{Offer}
use Rattle.tproc.specs.LinkChannels.{link_end}
use Rattle.tnet.specs.Rendezvous.{Node, marked, was_copied}
use Rattle.tprocesses.specs.Places.{Place, Messages}
use Rattle.tprocesses.specs.Values.{Value, AreMessages}
use Rattle.tprocesses.specs.Changes.{Put}
use Rattle.tprocesses.specs.LinkMessages.{source_sends, first_message}
use Rattle.tseen.specs.Known.{KnowsCells}
use Rattle.tseen.specs.Scripts.{ShowsSource, messages_from, to_come}
use Rattle.tseen.proofs.After.{State, After, changed}
use Rattle.tseen.proofs.NetScripts.{is_script_of}

-- a part of a memory of which nothing is hidden
seen_part : (store : Store) (a b : ℕ) → as_cells (shown store) ≡ store
    → as_cells (shown (slice_range store a b)) ≡ slice_range store a b
seen_part store a b h =
    ap as_cells (sym (take-map _ (b - a) (drop a store)) ∙ ap (take (b - a)) (sym (drop-map _ a store)))
    ∙ sym (take-map Some (b - a) (drop a (shown store)))
    ∙ ap (take (b - a)) (sym (drop-map Some a (shown store)))
    ∙ ap (λ (xs : Store). take (b - a) (drop a xs)) h

-- bytes are known as they are
known_bytes : (bytes : List ℕ) → KnowsCells (as_cells bytes) (as_cells bytes)
known_bytes [] = tt
known_bytes (b ∷ bytes) = (refl, known_bytes bytes)

module _ (s : State) (e : End) (node : Node) (k : ShowsSource s e node) (out : Offer)
    (offers : (link_end node.machine.control 0).output ≡ Some out) (fresh : was_copied node 0 ≡ false)
    (four : length node.copied ≡ 4) where
  abbrev store : Store
  store = node.machine.store

  -- the message lies in its memory
  pub lies_there : place out.buffer + out.length ≤ length store
  lies_there = by k.rest k.output k.lies
    where
      one : {a b : Offer} → Some a ≡ Some b → a ≡ b
      one e = cc

      by : (rest : List ℕ) → (link_end node.machine.control 0).output ≡ first_offer k.address rest
          → place k.address + sum rest ≤ length store → place out.buffer + out.length ≤ length store
      by [] output lies = absurd (differ (sym offers ∙ output))
        where
          differ : Some out ≡ None → ⊥
          differ e = cc
      by (n ∷ ns) output lies =
          subst (λ (o : Offer). place o.buffer + o.length ≤ length store) (one (sym output ∙ offers))
          (omega (arith, lies, sum_by-cons (λ x. x) n ns))

  -- it has one
  pub has_first : (m : List ℕ) × (ms : List (List ℕ)) × (s (Messages e) ≡ AreMessages (m ∷ ms))
  has_first = by k.rest k.output k.messages
    where
      by : (rest : List ℕ) → (link_end node.machine.control 0).output ≡ first_offer k.address rest
          → s (Messages e) ≡ AreMessages (to_come (was_copied node 0) (messages_from store k.address rest))
          → (m : List ℕ) × (ms : List (List ℕ)) × (s (Messages e) ≡ AreMessages (m ∷ ms))
      by [] output messages = absurd (differ (sym offers ∙ output))
        where
          differ : Some out ≡ None → ⊥
          differ e = cc
      by (n ∷ ns) output messages = (
        shown (cells store k.address n),
        map shown (messages_from store (k.address + n) ns),
        messages ∙ ap (λ b. AreMessages (to_come b (messages_from store k.address (n ∷ ns)))) fresh,
      )

  -- the message was sent
  pub record IsTaken (message : Store) (t : State) : Type 0 where
    pub knows : KnowsCells message (cells store out.buffer out.length)
    pub shows : ShowsSource t e (marked 0 true node)
    pub others : (q : Place) → is_script_of e.node q ≡ false → t q ≡ s q

  pub source_sends_then : (Q : Store → State → Type 0)
      → ((message : Store) (t : State) → IsTaken message t → Q message t) → After (source_sends e) s Q
  source_sends_then Q h = by k.rest k.role k.output k.lies k.messages
    where
      by : (rest : List ℕ) → node.role ≡ Source k.over rest
          → (link_end node.machine.control 0).output ≡ first_offer k.address rest
          → place k.address + sum rest ≤ length store
          → s (Messages e) ≡ AreMessages (to_come (was_copied node 0) (messages_from store k.address rest))
          → After (source_sends e) s Q
      by [] role output lies messages = absurd (differ (sym offers ∙ output))
        where
          differ : Some out ≡ None → ⊥
          differ e = cc
      by (n ∷ ns) role output lies messages =
          subst (λ (v : Value). After (first_message e v) s Q)
          (sym (messages ∙ ap (λ b. AreMessages (to_come b (messages_from store k.address (n ∷ ns)))) fresh))
          (h (as_cells (shown first)) after (record {
            knows = knows;
            shows = record {
              works = k.works;
              over = k.over;
              rest = n ∷ ns;
              role = role;
              seen = k.seen;
              address = k.address;
              above = k.above;
              lies = lies;
              output = output;
              input = k.input;
              messages = rw (eq-eqb e.node e.node refl, eq-eqb e.link e.link refl)
                  (ap (λ b. AreMessages (to_come b (messages_from store k.address (n ∷ ns)))) (sym copied));
            };
            others = others;
          }))
        where
          first : Store
          first = cells store k.address n

          rest : List (List ℕ)
          rest = map shown (messages_from store (k.address + n) ns)

          after : State
          after = changed (Messages e) (Put (AreMessages rest)) s

          copied : was_copied (marked 0 true node) 0 ≡ true
          copied = get_or-set_same node.copied 0 true false (omega (arith, four))

          others : (q : Place) → is_script_of e.node q ≡ false → after q ≡ s q
          others (Messages d) g = rw g refl
          others _ g = refl

          same : record { wdesc = 0; buffer = k.address; length = n } ≡ out
          same = one (sym output ∙ offers)
            where
              one : {a b : Offer} → Some a ≡ Some b → a ≡ b
              one e = cc

          knows : KnowsCells (as_cells (shown first)) (cells store out.buffer out.length)
          knows =
              subst (KnowsCells (as_cells (shown first)))
              (seen_part store (place k.address) (place k.address + n) k.seen
              ∙ ap (λ (o : Offer). cells store o.buffer o.length) same)
              (known_bytes (shown first))
