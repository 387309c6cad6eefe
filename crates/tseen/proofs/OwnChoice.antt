-- The alternative of the current process of a node.
use Rattle.std.proofs.Common.{◌≡◌, ◌≢◌, ℕ, ◌+◌, ◌*◌, ◌≤◌, refl, sym, ap, subst, ◌∙◌, true, false}
use Rattle.std.proofs.Common.{true≢false, length, arith, Option, Some, None, pos}
use Rattle.std.proofs.lemmas.Bool.{eqb-true}
use Rattle.tword.specs.Words.{most_neg, word_below}
use Rattle.tword.specs.Stores.{Store, place}
use Rattle.tword.specs.Touches.{Writes, word_break, word_place_break, word_span, claim_break}
use Rattle.tproc.specs.Machine.{Control, claims_of}
use Rattle.tproc.proofs.WordsApart.{LiesWord}
use Rattle.tplan.specs.declared.plan.Plan.{Plan}
use Rattle.tnet.specs.Rendezvous.{Configuration}
use Rattle.tprocesses.specs.Places.{Name, Sending, Standing, same_name}
use Rattle.tprocesses.specs.Values.{Value, Use, Free, Saved, Receiving, Engaged}
use Rattle.tprocesses.specs.Values.{Choosing, Awaiting, Last, Spoilt, Choice}
use Rattle.tprocesses.specs.Values.{Context, stand_in, amount_in}
use Rattle.tprocesses.specs.Parts.{require, unless, WordInUse}
use Rattle.tprocesses.specs.Touching.{Site, word_number, word_for, same_use, unsent}
use Rattle.tprocesses.specs.Choosing.{choice_of, under_way, state_address}
use Rattle.tprocesses.specs.Machine.{site_of}
use Rattle.tseen.specs.Choices.{Alternative, alternative_of, alternative_at, HasChoice}
use Rattle.tseen.specs.Words.{is_set_aside}
use Rattle.tseen.specs.Shown.{ShowsNode}
use Rattle.tseen.specs.Steps.{IsCurrent}
use Rattle.tseen.proofs.After.{State, After, after_bind, after_require, after_unless}
use Rattle.tseen.proofs.Cells.{use_of}
use Rattle.tseen.proofs.Choices.{alternative_with}
use Rattle.tseen.proofs.ChoiceChanged.{one_workspace}
use Rattle.tseen.proofs.Ends.{unsent_then}
use Rattle.tseen.proofs.Finished.{place_itself}
use Rattle.tseen.proofs.Running.{RunsThere}
use Rattle.tseen.proofs.Saving.{below}
use Rattle.tseen.proofs.Spans.{word_placed, word_touchable}
use Rattle.tseen.proofs.Stepped.{shown_node, there}
use Rattle.tseen.proofs.Unclaimed.{unclaimed_writable}
use Rattle.tseen.proofs.Writing.{word_lies}

same_choosing : (u : Use) → same_use u Choosing ≡ true → u ≡ Choosing
same_choosing Choosing h = refl
same_choosing Free h = absurd (true≢false (sym h))
same_choosing Saved h = absurd (true≢false (sym h))
same_choosing Receiving h = absurd (true≢false (sym h))
same_choosing Engaged h = absurd (true≢false (sym h))
same_choosing Awaiting h = absurd (true≢false (sym h))
same_choosing (Last q) h = absurd (true≢false (sym h))
same_choosing Spoilt h = absurd (true≢false (sym h))

-- an alternative is under way
pub choice_then : (o : Option Choice) (u : State) (Q : Choice → State → Type 0)
    → ((choice : Choice) → o ≡ Some choice → Q choice u) → After (choice_of o) u Q
choice_then (Some choice) u Q h = h choice refl
choice_then None u Q h = tt

-- and its word is in use for it
pub under_way_then : (site : Site) (context : Context) (u : State) (Q : Choice → State → Type 0)
    → ((choice : Choice) → context.choice ≡ Some choice
    → use_of u site.number (word_number (state_address context)) ≡ Choosing
    → amount_in (u (Sending site.number (word_number (state_address context)))) ≡ pos 0 → Q choice u)
    → After (under_way site context) u Q
under_way_then site context u Q h =
    after_bind (choice_of context.choice) _ u Q (choice_then context.choice u _ (λ choice is.
    after_bind (unless (word_place_break site.size (state_address context))) _ u Q
    (after_unless (word_place_break site.size (state_address context)) u _ (λ placed.
    after_bind (word_for site Choosing j) _ u Q
    (after_bind (require (same_use (use_of u site.number j) Choosing) WordInUse) _ u _
    (after_require (same_use (use_of u site.number j) Choosing) WordInUse u _ (λ e.
    after_bind (unsent site j) _ u Q (unsent_then site j u _ (λ z. h choice is (same_choosing _ e) z)))))))))
  where
    j : ℕ
    j = word_number (state_address context)

module _ (p : Plan) (c : Configuration) (s : State) (n : ℕ) (x : Name) (k : IsCurrent p c s n x) (choice : Choice)
    (is : (there p c s n x k).context.choice ≡ Some choice) where
  abbrev m : Control
  m = k.node.machine.control

  abbrev store : Store
  store = k.node.machine.store

  abbrev running : RunsThere s n k.plan k.node x
  running = there p c s n x k

  abbrev shown : ShowsNode s n k.plan (k.shows.named n) (k.shows.sent n) k.node
  shown = shown_node p c s n x k

  abbrev site : Site
  site = site_of n k.plan

  abbrev w : ℕ
  w = m.registers.wptr

  abbrev pub address : ℕ
  address = word_below w 3

  -- it
  abbrev pub own : Alternative
  own = record { skips = choice.skips; wptr = w; priority = running.context.priority; runs = true; waits = false }

  pub own_is : alternative_at s n x ≡ Some own
  own_is =
      ap (λ (v : Value). alternative_of (stand_in v)) running.stood
      ∙ alternative_with true false running.context choice is
      ∙ ap (λ z. Some (record {
        skips = choice.skips;
        wptr = z;
        priority = running.context.priority;
        runs = true;
        waits = false;
      })) running.registers.wptr

  pub has : HasChoice s n m.links store x own
  has = shown.choices.choices x own running.home own_is

  pub lies : LiesWord (length store) address
  lies =
      let l : (place address ≡ 4 * word_number address) × (most_neg ≤ address)
      × (4 * word_number address + 4 ≤ k.plan.memory) =
      word_lies site running.whole address (subst (λ z. word_place_break z address ≡ None) shown.size has.placed) in
      record {
        above = l.1;
        within = omega (arith, l.0, l.1, l.2, shown.size);
        aligned = eqb-true _ _ (word_placed (length store) address has.placed).0;
      }

  differ : (y : Name) → same_name x y ≡ false → x ≡ y → ⊥
  differ y f e = true≢false (sym (place_itself p (Standing x)) ∙ ap (same_name x) e ∙ f)

  -- no other one has its workspace
  pub no_other : (y : Name) (b : Alternative) → same_name x y ≡ false → y.node ≡ n → alternative_at s n y ≡ Some b
      → b.wptr ≡ w → ⊥
  no_other y b f home e same =
      differ y f (shown.choices.apart x y own b running.home home own_is e (sym same))

  -- or its word
  pub other_word : (y : Name) (b : Alternative) → same_name x y ≡ false → y.node ≡ n → alternative_at s n y ≡ Some b
      → HasChoice s n m.links store y b → below b.wptr 3 ≢ below w 3
  other_word y b f home e it same =
      no_other y b f home e (one_workspace site running.whole b.wptr w it.small.1 has.small.1
      (subst (λ z. word_place_break z (word_below b.wptr 3) ≡ None) shown.size it.placed)
      (subst (λ z. word_place_break z address ≡ None) shown.size has.placed) same)

  -- the word of its state may be written
  pub passes : amount_in (s (Sending n (below w 3))) ≡ pos 0
      → word_break (length store) (claims_of m) Writes address ≡ None
  passes z =
      word_touchable (length store) (claims_of m) Writes address has.placed
      (subst (λ a. claim_break (claims_of m) Writes (word_span a) ≡ None)
      (omega (arith, lies.above, lies.aligned))
      (unclaimed_writable s n k.plan (k.shows.named n) (k.shows.sent n) k.node shown k.steady.placed (below w 3)
      (λ f. true≢false (sym f ∙ ap is_set_aside has.used)) (λ f. not_received (sym has.used ∙ f)) z))
    where
      not_received : Choosing ≡ Receiving → ⊥
      not_received e = cc
