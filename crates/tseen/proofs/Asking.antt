-- The control of a processor whose process waits at a link, and the links that it has then.
use Rattle.std.proofs.Common.{◌≡◌, ℕ, ◌<◌, refl, sym, ap, subst, ◌∙◌, List, [], ◌∷◌, ◌++◌, map}
use Rattle.std.proofs.Common.{Bool, true, false, true≢false, cond, length, get_or, append_assoc, Option, Some, None}
use Rattle.std.proofs.Common.{zero, suc, arith, ◌⊎◌, inl, inr}
use Rattle.std.specs.Prelude.{◌==◌, find, option_map, is_some, slice_set}
use Rattle.std.specs.List.{list_any}
use Rattle.std.proofs.lemmas.Bool.{eq-eqb, ne_eqb, cases_eq}
use Rattle.std.proofs.lemmas.List.{map-append, get_or-set_same, get_or-set_other, get_or-map, length-map, length-set}
use Rattle.std.proofs.lemmas.List.Folds.{Any-from_list_any}
use Rattle.tword.specs.declared.span.Span.{Span}
use Rattle.tword.specs.Claims.{overlap, overlaps_claim, is_input}
use Rattle.tproc.specs.declared.offer.Offer.{Offer}
use Rattle.tproc.specs.declared.channels.Side.{Side}
use Rattle.tproc.specs.declared.channels.Side.TheVariants.{Input, Output}
use Rattle.tproc.specs.declared.waiter.LinkEnd.{LinkEnd}
use Rattle.tproc.specs.declared.waiter.Reason.{Reason}
use Rattle.tproc.specs.declared.waiter.Reason.TheVariants.{LinkInput, LinkOutput}
use Rattle.tproc.specs.declared.waiter.Waiter.{Waiter}
use Rattle.tproc.specs.Channels.{Request}
use Rattle.tproc.specs.LinkChannels.{link_end, link_of, offer_of, offered, quiet_end}
use Rattle.tproc.specs.Machine.{Control, buffer_of, claims_of, descheduled, workspace_of}
use Rattle.tproc.specs.ProcessStatus.{is_queued, queue, reason_of}
use Rattle.tproc.specs.Queues.{at_rest}
use Rattle.tproc.proofs.LinkClaims.{input_claim, inputs_of, inputs_apart}

-- what a process waits for at a link, and the link with its offer
abbrev pub reason_on : Side → ℕ → Reason
reason_on Input l = LinkInput l
reason_on Output l = LinkOutput l

abbrev pub link_with : Side → Offer → LinkEnd → LinkEnd
link_with Input o e = record e { input = Some o; noticed = false; remembered = None }
link_with Output o e = record e { output = Some o }

-- the control of a processor whose process waits for a request
pub record IsAsking (q : Request) (side : Side) (m m' : Control) : Type 0 where
  pub registers : m'.registers ≡ (at_rest m).registers
  pub current : m'.current ≡ None
  pub interrupted : m'.interrupted ≡ m.interrupted
  pub high : m'.high ≡ m.high
  pub low : m'.low ≡ m.low
  pub waiting : m'.waiting
      ≡ m.waiting ++ record { process = q.process; reason = reason_on side (link_of side q.channel) } ∷ []
  pub links : m'.links ≡ slice_set m.links (link_of side q.channel)
      (link_with side (offer_of q) (link_end m (link_of side q.channel)))
  pub kind : m'.kind ≡ m.kind
  pub halted : m'.halted ≡ m.halted

pub asking : (q : Request) (side : Side) (m : Control) → IsAsking q side m (offered q side m)
asking q Input m =
    record {
      registers = refl;
      current = refl;
      interrupted = refl;
      high = refl;
      low = refl;
      waiting = refl;
      links = refl;
      kind = refl;
      halted = refl;
    }
asking q Output m =
    record {
      registers = refl;
      current = refl;
      interrupted = refl;
      high = refl;
      low = refl;
      waiting = refl;
      links = refl;
      kind = refl;
      halted = refl;
    }

-- who is found among some and one more
find_more : (ws : List Waiter) (x : Waiter) (b : ℕ) (r : Reason)
    → option_map (λ (z : Waiter). z.reason) (find (λ z. z.process == b) ws) ≡ Some r
    → option_map (λ (z : Waiter). z.reason) (find (λ z. z.process == b) (ws ++ x ∷ [])) ≡ Some r
find_more [] x b r h = absurd (differ h)
  where
    differ : None ≡ Some r → ⊥
    differ e = cc
find_more (w ∷ ws) x b r h = by (w.process == b) (find_more ws x b r) h
  where
    by : (t : Bool) → (option_map (λ (z : Waiter). z.reason) (find (λ z. z.process == b) ws) ≡ Some r
        → option_map (λ (z : Waiter). z.reason) (find (λ z. z.process == b) (ws ++ x ∷ [])) ≡ Some r)
        → option_map (λ (z : Waiter). z.reason) (cond t (Some w) (find (λ z. z.process == b) ws)) ≡ Some r
        → option_map (λ (z : Waiter). z.reason) (cond t (Some w) (find (λ z. z.process == b) (ws ++ x ∷ []))) ≡ Some r
    by true rest k = k
    by false rest k = rest k

find_less : (ws : List Waiter) (x : Waiter) (b : ℕ) → (b ≡ x.process → ⊥)
    → find (λ z. z.process == b) (ws ++ x ∷ []) ≡ find (λ z. z.process == b) ws
find_less [] x b h = rw (ne_eqb x.process b (λ e. h (sym e))) refl
find_less (w ∷ ws) x b h = ap (λ o. cond (w.process == b) (Some w) o) (find_less ws x b h)

find_last : (ws : List Waiter) (x : Waiter) → is_some (find (λ z. z.process == x.process) ws) ≡ false
    → find (λ z. z.process == x.process) (ws ++ x ∷ []) ≡ Some x
find_last [] x h = rw (eq-eqb x.process x.process refl) refl
find_last (w ∷ ws) x h = by (w.process == x.process) (find_last ws x) h
  where
    by : (t : Bool) → (is_some (find (λ z. z.process == x.process) ws) ≡ false
        → find (λ z. z.process == x.process) (ws ++ x ∷ []) ≡ Some x)
        → is_some (cond t (Some w) (find (λ z. z.process == x.process) ws)) ≡ false
        → cond t (Some w) (find (λ z. z.process == x.process) (ws ++ x ∷ [])) ≡ Some x
    by true rest k = absurd (true≢false k)
    by false rest k = rest k

module _ (q : Request) (side : Side) (m m' : Control) (k : IsAsking q side m m') where
  abbrev l : ℕ
  l = link_of side q.channel

  abbrev pub new_end : LinkEnd
  new_end = link_with side (offer_of q) (link_end m (link_of side q.channel))

  -- queues stand
  pub same_queued : (b : ℕ) → is_queued m' b ≡ is_queued m b
  same_queued b = ap (λ (xs : List ℕ). list_any (λ w. w == workspace_of b) xs) (queue_is _)
    where
      queue_is : (p : ℕ) → queue m' p ≡ queue m p
      queue_is zero = k.high
      queue_is (suc p) = k.low

  -- those that wait
  pub reason_more : (b : ℕ) (r : Reason) → reason_of m b ≡ Some r → reason_of m' b ≡ Some r
  reason_more b r h =
      ap (λ (ws : List Waiter). option_map (λ z. z.reason) (find (λ z. z.process == b) ws)) k.waiting
      ∙ find_more m.waiting _ b r h

  pub reason_back : (b : ℕ) → (b ≡ q.process → ⊥) → reason_of m' b ≡ reason_of m b
  reason_back b h =
      ap (λ (ws : List Waiter). option_map (λ z. z.reason) (find (λ z. z.process == b) ws)) k.waiting
      ∙ ap (λ (o : Option Waiter). option_map (λ z. z.reason) o) (find_less m.waiting _ b h)

  pub reason_new : is_some (reason_of m q.process) ≡ false → reason_of m' q.process ≡ Some (reason_on side l)
  reason_new h =
      ap (λ (ws : List Waiter). option_map (λ z. z.reason) (find (λ z. z.process == q.process) ws)) k.waiting
      ∙ ap (λ (o : Option Waiter). option_map (λ z. z.reason) o)
      (find_last m.waiting (record { process = q.process; reason = reason_on side l })
      (nobody (find (λ z. z.process == q.process) m.waiting) h))
    where
      nobody : (o : Option Waiter) → is_some (option_map (λ (z : Waiter). z.reason) o) ≡ false → is_some o ≡ false
      nobody None e = refl
      nobody (Some z) e = e

  -- one more waits
  pub descheduled_more : descheduled m' ≡ descheduled m ++ workspace_of q.process ∷ []
  descheduled_more =
      ap (λ (xs : List ℕ). xs ++ m'.low ++ map (λ w. workspace_of w.process) m'.waiting) k.high
      ∙ ap (λ (xs : List ℕ). m.high ++ xs ++ map (λ w. workspace_of w.process) m'.waiting) k.low
      ∙ ap (λ (ws : List Waiter). m.high ++ m.low ++ map (λ w. workspace_of w.process) ws) k.waiting
      ∙ ap (λ (xs : List ℕ). (m.high ++ m.low) ++ xs) (map-append (λ (w : Waiter). workspace_of w.process) m.waiting _)
      ∙ sym (append_assoc (m.high ++ m.low) (map (λ w. workspace_of w.process) m.waiting) _)

  -- the links
  pub own_link : l < length m.links → link_end m' l ≡ new_end
  own_link h =
      ap (λ (xs : List LinkEnd). get_or xs l quiet_end) k.links ∙ get_or-set_same m.links l new_end quiet_end h

  pub other_link : (j : ℕ) → (j ≡ l → ⊥) → link_end m' j ≡ link_end m j
  other_link j h =
      ap (λ (xs : List LinkEnd). get_or xs j quiet_end) k.links ∙ get_or-set_other m.links l j new_end quiet_end h

  -- what an input claims now: its buffer, or as before
  pub claimed : (span : Span) → is_input (claims_of m') span ≡ true
      → ((side ≡ Input) × (overlap span (buffer_of (offer_of q)) ≡ true)) ⊎ (is_input (claims_of m) span ≡ true)
  claimed span h = by (is_input (claims_of m) span) refl
    where
      among : list_any (overlaps_claim span) (inputs_of (slice_set m.links l new_end)) ≡ true
      among = ap (λ (xs : List LinkEnd). list_any (overlaps_claim span) (inputs_of xs)) (sym k.links) ∙ h

      at_new : (sd : Side) → side ≡ sd → is_input (claims_of m) span ≡ false
          → overlaps_claim span (input_claim (link_with sd (offer_of q) (link_end m l))) ≡ true
          → (side ≡ Input) × (overlap span (buffer_of (offer_of q)) ≡ true)
      at_new Input e f g = (e, g)
      at_new Output e f g = absurd (true≢false (sym g ∙ inputs_apart span m.links f l))

      at_index : (i : ℕ) → is_input (claims_of m) span ≡ false
          → overlaps_claim span (input_claim (get_or (slice_set m.links l new_end) i quiet_end)) ≡ true
          → i < length m.links → (i ≡ l) ⊎ (i ≡ l → ⊥)
          → (side ≡ Input) × (overlap span (buffer_of (offer_of q)) ≡ true)
      at_index i f g b (inl e) =
          at_new side refl f
          (ap (λ (z : LinkEnd). overlaps_claim span (input_claim z))
          (sym (ap (λ j. get_or (slice_set m.links l new_end) j quiet_end) e
          ∙ get_or-set_same m.links l new_end quiet_end (subst (λ j. j < length m.links) e b))) ∙ g)
      at_index i f g b (inr e) =
          absurd (true≢false (sym g
          ∙ ap (λ (z : LinkEnd). overlaps_claim span (input_claim z))
          (get_or-set_other m.links l i new_end quiet_end e) ∙ inputs_apart span m.links f i))

      by : (t : Bool) → is_input (claims_of m) span ≡ t
          → ((side ≡ Input) × (overlap span (buffer_of (offer_of q)) ≡ true)) ⊎ (is_input (claims_of m) span ≡ true)
      by true f = inr f
      by false f =
          let a = Any-from_list_any (overlaps_claim span) (inputs_of (slice_set m.links l new_end)) among in
          let inside : a.0 < length (slice_set m.links l new_end) =
          omega (arith, a.2, length-map (slice_set m.links l new_end) input_claim) in
          let is : a.1 ≡ input_claim (get_or (slice_set m.links l new_end) a.0 quiet_end) =
          sym a.3 ∙ get_or-map input_claim (slice_set m.links l new_end) a.0 quiet_end a.1 inside in
          inl (at_index a.0 f (subst (λ (z : Option Span). overlaps_claim span z ≡ true) is a.4)
          (omega (arith, inside, length-set m.links l new_end)) (cases_eq a.0 l))
