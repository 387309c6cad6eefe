-- A node of the rendezvous machine, of any role: a byte is hidden exactly where a pending input claims it.
use Rattle.std.proofs.Common.{◌≡◌, ◌≢◌, ℕ, zero, suc, ◌+◌, ◌<◌, ◌≤◌, refl, sym, ap, ◌∙◌, List, [], ◌∷◌, ◌++◌}
use Rattle.std.proofs.Common.{length, get_or, Bool, true, false, Result, Ok, Some, None, arith}
use Rattle.std.specs.Prelude.{sum, drop, slice_index_or}
use Rattle.std.specs.List.{list_any}
use Rattle.std.proofs.lemmas.List.Sums.{sum_by_push}
use Rattle.tword.specs.declared.breaks.Break.{Break}
use Rattle.tword.specs.Words.{most_neg}
use Rattle.tword.specs.Stores.{Store, place, cells, with_cells, bytes_at}
use Rattle.tword.specs.declared.span.Span.{Span}
use Rattle.tword.specs.Claims.{overlap, overlaps_claim, is_input}
use Rattle.tword.specs.Touches.{byte_span}
use Rattle.tword.proofs.Hiding.{covers, length-hiding_from, get_or-hiding_from, overlap-parts}
use Rattle.tword.proofs.Copying.{with_cells-below}
use Rattle.tword.proofs.Laying.{length-cells}
use Rattle.tword.proofs.Seen.{IsSeenOutside}
use Rattle.tproc.specs.declared.offer.Offer.{Offer}
use Rattle.tproc.specs.declared.ran.Ran.{Ran}
use Rattle.tproc.specs.declared.ran.Ran.TheVariants as ran
use Rattle.tproc.specs.Machine.{Control, Machine, claims_of}
use Rattle.tproc.specs.LinkChannels.{link_end}
use Rattle.tproc.specs.Hidden.{hidden}
use Rattle.tproc.specs.Placement.{LiesWithin}
use Rattle.tproc.specs.Scripts.{input_moved}
use Rattle.tproc.specs.Steps.{step, step_left_by}
use Rattle.tproc.specs.Links.{notice}
use Rattle.tproc.proofs.Given.{IsGiven, filled_size, filled_seen, given_veiled, given-bytes, moved-bytes}
use Rattle.tproc.proofs.Keeping.{keeps_store}
use Rattle.tproc.proofs.LinkClaims.{input_claim, set_same}
use Rattle.tproc.proofs.OffersStand.{StillOffers, step_offers, notice_offers, finish_output_offers, given_offers}
use Rattle.tproc.proofs.Scripted.{input_moved-outside}
use Rattle.tproc.proofs.Handing.{input_lies, output_lies}
use Rattle.tproc.proofs.Veiled.{IsVeiled, step_veiled, notice_veiled, finish_output_veiled}
use Rattle.tlink.specs.Roles.{Role, Processor, Source, Sink, first_offer, address_behind, receives}
use Rattle.tlink.specs.Roles.{role_woken, woken, role_filled, filled}
use Rattle.tlink.specs.Node.{one_link}
use Rattle.tlink.specs.Whole.{IsSink, IsHeld, HasWires}
use Rattle.tlink.proofs.Held.{script-step, source_offers, source_asks_none, sink_offers_none, sink_asks, held_buffers}
use Rattle.tlink.proofs.Held.{held_apart, held_woken, held_filled}
use Rattle.tnet.specs.Rendezvous.{Fits, IsStep}

-- a byte is hidden exactly where a pending input claims it, and what stands behind the links holds
pub record AreVeils (role : Role) (n : Machine) : Type 0 where
  pub held : IsHeld role n
  pub hides : (i : ℕ) → covers (claims_of n.control).inputs (most_neg + i) ≡ true → get_or n.store i None ≡ None
  pub seen : IsSeenOutside (claims_of n.control).inputs n.store

-- the same holds for a processor
as_processor : (n : Machine) → AreVeils Processor n → IsVeiled n
as_processor n v = record { claimed = v.held.0; apart = v.held.1; hides = v.hides; seen = v.seen }

of_processor : (n : Machine) → IsVeiled n → AreVeils Processor n
of_processor n v = record { held = (v.claimed, v.apart); hides = v.hides; seen = v.seen }

-- only the size of the store matters to what holds
held_size : (role : Role) (n : Machine) (t : Store) → length t ≡ length n.store → IsHeld role n
    → IsHeld role (record n { store = t })
held_size Processor n t e h = keeps_store n t e h.0 h.1
held_size (Source done rest) n t e h =
    record { start = h.start; control = h.control; within = rw e h.within; each = h.each }
held_size (Sink kept) n t e h = record { room = h.room; control = h.control; within = h.within ∙ sym e }

-- the same holds once it is hidden, where all other bytes are seen
pub hidden_veils : (role : Role) (n : Machine) → IsHeld role n → IsSeenOutside (claims_of n.control).inputs n.store
    → AreVeils role (hidden n)
hidden_veils role n h seen =
    record {
      held = held_size role n (hidden n).store size h;
      hides = λ i c. get_or-hiding_from test most_neg n.store i ∙ rw c refl;
      seen = λ i b u. rw (get_or-hiding_from test most_neg n.store i, u) (seen i (omega (arith, size)) u);
    }
  where
    test : ℕ → Bool
    test = λ a. is_input (claims_of n.control) (byte_span a)

    size : length (hidden n).store ≡ length n.store
    size = length-hiding_from test most_neg n.store

-- hidden again, it is as it was
again_veils : (role : Role) (n : Machine) → AreVeils role n → AreVeils role (hidden n)
again_veils role n v = hidden_veils role n v.held v.seen

-- a script's step changes nothing
idle_same : (m m' : Machine) (r r' : Ran) → step m ≡ Ok (m, r) → step m ≡ Ok (m', r') → m' ≡ m
idle_same m m' r r' h s = ap (step_left_by m) (sym s ∙ h)

pub not_idle : (m m' : Machine) (r : Ran) → step m ≡ Ok (m, ran.Idle) → step m ≡ Ok (m', r) → IsStep r → ⊥
not_idle m m' r h s is_step =
    let both : ◌≡◌ {A = Result (Machine × Ran) Break} (Ok (m, ran.Idle)) (Ok (m', r)) = sym h ∙ s in
    let e : ◌≡◌ {A = Machine × Ran} (m, ran.Idle) (m', r) = cc in
    is_step.0 (sym (ap (λ (x : Machine × Ran). x.1) e))

-- a step
pub step_veils : (role : Role) (n m : Machine) (r : Ran) → AreVeils role n → step n ≡ Ok (m, r)
    → AreVeils role (hidden m)
step_veils Processor n m r v h = of_processor (hidden m) (step_veiled n m r (as_processor n v) h)
step_veils (Source done rest) n m r v h =
    rw (idle_same n m _ r (script-step _ n v.held.control) h) (again_veils (Source done rest) n v)
step_veils (Sink kept) n m r v h =
    rw (idle_same n m _ r (script-step _ n v.held.control) h) (again_veils (Sink kept) n v)

-- a script is wired at link 0 alone
abbrev pub WiredAt : Role → ℕ → Type 0
WiredAt Processor l = Unit {0}
WiredAt _ l = l ≡ 0

pub wired_woken : (role : Role) (l : ℕ) → WiredAt role l → WiredAt (role_woken role) l
wired_woken Processor l h = h
wired_woken (Source done rest) l h = h
wired_woken (Sink kept) l h = h

pub wired_filled : (role : Role) (n l : ℕ) → WiredAt role l → WiredAt (role_filled n role) l
wired_filled Processor n l h = h
wired_filled (Source done rest) n l h = h
wired_filled (Sink kept) n l h = h

only_first : (l : ℕ) → slice_index_or one_link l false ≡ true → l ≡ 0
only_first zero h = refl
only_first (suc zero) h = cc
only_first (suc (suc zero)) h = cc
only_first (suc (suc (suc zero))) h = cc
only_first (suc (suc (suc (suc l)))) h = cc

pub wired_script : (role : Role) (wired : List Bool) (l : ℕ) → HasWires role wired
    → slice_index_or wired l false ≡ true → WiredAt role l
wired_script Processor wired l h k = tt
wired_script (Source done rest) wired l h k = only_first l (rw h at k)
wired_script (Sink kept) wired l h k = only_first l (rw h at k)

-- a sink asks at link 0
pub sink_at : (kept : List ℕ) (n : Machine) (l : ℕ) → IsSink kept n → l ≡ 0 → (link_end n.control l).input ≡ None → ⊥
sink_at kept n l h e none =
    let o : Offer = record { wdesc = 0; buffer = most_neg + sum kept; length = h.room } in
    let f : Some o ≡ None = rw (e, h.control) at none in cc

-- a notice: a source receives none, and a sink asks at its only wired link
pub notice_veils : (role : Role) (n : Machine) (l : ℕ) → AreVeils role n → receives role ≡ true → WiredAt role l
    → (link_end n.control l).input ≡ None → AreVeils role (hidden (notice l n))
notice_veils Processor n l v r w none = of_processor (hidden (notice l n)) (notice_veiled l n (as_processor n v))
notice_veils (Source done rest) n l v r w none = cc
notice_veils (Sink kept) n l v r w none = absurd (sink_at kept n l v.held w none)

-- the end of an output
pub woken_veils : (role : Role) (n : Machine) (l : ℕ) (o : Offer) → AreVeils role n
    → (link_end n.control l).output ≡ Some o → AreVeils (role_woken role) (hidden (woken role l n))
woken_veils Processor n l o v out = of_processor _ (finish_output_veiled l n (as_processor n v))
woken_veils (Source done rest) n l o v out =
    hidden_veils (role_woken (Source done rest)) (woken (Source done rest) l n)
    (held_woken (Source done rest) n l o v.held out)
    (rw (set_same input_claim n.control.links l
    (record (link_end n.control l)
    { output = first_offer (address_behind (link_end n.control l).output) (drop 1 rest) }) refl)
    v.seen)
woken_veils (Sink kept) n l o v out = let f : None ≡ Some o = sym (sink_offers_none kept n l v.held) ∙ out in cc

-- a message goes over
pub roles_given : (role role' : Role) (a b : Machine) (k l : ℕ) (out inp : Offer) → AreVeils role a → AreVeils role' b
    → (link_end a.control k).output ≡ Some out → (link_end b.control l).input ≡ Some inp → Fits role' out inp
    → IsGiven a b k l out inp
roles_given role role' a b k l out inp v v' offers asks fits =
    record {
      sender = held_buffers role a v.held;
      sender_apart = held_apart role a v.held;
      sender_seen = v.seen;
      receiver = held_buffers role' b v'.held;
      receiver_apart = held_apart role' b v'.held;
      receiver_seen = v'.seen;
      offers = offers;
      asks = asks;
      fits = at_most role' fits;
    }
  where
    at_most : (role : Role) → Fits role out inp → out.length ≤ inp.length
    at_most Processor h = omega (arith, h)
    at_most (Source done rest) h = omega (arith, h)
    at_most (Sink kept) h = h

-- a span before another one shares no byte with it
before_apart : (p q : Span) → p.start + p.size ≤ q.start → overlap p q ≡ false
before_apart p q h = by (overlap p q) refl
  where
    by : (t : Bool) → overlap p q ≡ t → overlap p q ≡ false
    by false e = e
    by true e = absurd (let parts = overlap-parts p q e in omega (arith, parts.3))

module _ (a b : Machine) (k l : ℕ) (out inp : Offer) (g : IsGiven a b k l out inp) where
  -- the receiver with the message
  abbrev holding : Machine
  holding = record b { store = with_cells b.store inp.buffer (cells a.store out.buffer out.length) }

  moved_held : (kept : List ℕ) → IsSink kept b
      → IsSink (kept ++ out.length ∷ []) (filled (Sink kept) l out.length holding)
  moved_held kept h =
      held_filled (Sink kept) holding l out.length inp
      (held_size (Sink kept) b holding.store (filled_size a b k l out inp g) h) g.asks g.fits

  -- a sink claims none of the bytes that it keeps
  kept_apart : (kept : List ℕ) → IsSink kept b
      → list_any (overlaps_claim (record { start = inp.buffer; size = out.length }))
      (claims_of (filled (Sink kept) l out.length holding).control).inputs ≡ false
  kept_apart kept h =
      let after : IsSink (kept ++ out.length ∷ []) (filled (Sink kept) l out.length holding) = moved_held kept h in
      ap (λ (c : Control). list_any (overlaps_claim (record { start = inp.buffer; size = out.length }))
      (claims_of c).inputs) after.control
      ∙ rw (before_apart (record { start = inp.buffer; size = out.length })
      (record { start = most_neg + sum (kept ++ out.length ∷ []); size = after.room }) behind_it) refl
    where
      behind_it : inp.buffer + out.length ≤ most_neg + sum (kept ++ out.length ∷ [])
      behind_it =
          let at : inp.buffer ≡ most_neg + sum kept =
          sym (ap (λ (o : Offer). o.buffer) (sink_asks kept b l inp h g.asks).1) in
          let total : sum (kept ++ out.length ∷ []) ≡ sum kept + out.length = sum_by_push (λ x. x) kept out.length in
          omega (arith, at, total)

  -- the receiver hides the inputs that are left
  pub given_veils : (role : Role) → AreVeils role b → Fits role out inp
      → AreVeils (role_filled out.length role) (hidden (filled role l out.length holding))
  given_veils Processor v fits = of_processor _ (given_veiled a b k l out inp g v.held.0 fits)
  given_veils (Source done rest) v fits =
      let f : None ≡ Some inp = sym (source_asks_none rest b l v.held) ∙ g.asks in cc
  given_veils (Sink kept) v fits =
      hidden_veils (Sink (kept ++ out.length ∷ [])) (filled (Sink kept) l out.length holding) (moved_held kept v.held)
      (filled_seen a b k l out inp g (claims_of (input_moved l out.length b.control)).inputs
      (input_moved-outside b.control l out.length inp g.asks (input_lies b l inp g.receiver g.asks).0))

  -- the message lies in its buffer
  pub given-message : (role : Role) → AreVeils role b → Fits role out inp
      → bytes_at (hidden (filled role l out.length holding)).store inp.buffer out.length
      ≡ bytes_at a.store out.buffer out.length
  given-message Processor v fits = given-bytes a b k l out inp g v.held.0 fits
  given-message (Source done rest) v fits =
      let f : None ≡ Some inp = sym (source_asks_none rest b l v.held) ∙ g.asks in cc
  given-message (Sink kept) v fits =
      moved-bytes a b k l out inp g (input_moved l out.length b.control) (kept_apart kept v.held)

  -- a sink's bytes before them are those that it had
  pub kept_before : (kept : List ℕ) → AreVeils (Sink kept) b → (i : ℕ) → i < sum kept
      → get_or (hidden (filled (Sink kept) l out.length holding)).store i None ≡ get_or b.store i None
  kept_before kept v i before =
      get_or-hiding_from (λ x. is_input (claims_of after.control) (byte_span x)) most_neg holding.store i
      ∙ rw unclaimed
      (with_cells-below b.store inp.buffer out.length (cells a.store out.buffer out.length) lies.0 room size i below)
    where
      after : Machine
      after = filled (Sink kept) l out.length holding

      held : IsSink (kept ++ out.length ∷ []) after
      held = moved_held kept v.held

      at : inp.buffer ≡ most_neg + sum kept
      at = sym (ap (λ (o : Offer). o.buffer) (sink_asks kept b l inp v.held g.asks).1)

      lies : LiesWithin (length b.store) inp
      lies = input_lies b l inp g.receiver g.asks

      room : place inp.buffer + out.length ≤ length b.store
      room = omega (arith, lies.1, g.fits)

      size : length (cells a.store out.buffer out.length) ≡ out.length
      size = length-cells a.store out.buffer out.length (output_lies a k out g.sender g.offers).1

      below : i < place inp.buffer
      below = omega (arith, at)

      unclaimed : is_input (claims_of after.control) (byte_span (most_neg + i)) ≡ false
      unclaimed =
          let total : sum (kept ++ out.length ∷ []) ≡ sum kept + out.length = sum_by_push (λ x. x) kept out.length in
          ap (λ (c : Control). is_input (claims_of c) (byte_span (most_neg + i))) held.control
          ∙ rw (before_apart (byte_span (most_neg + i))
          (record { start = most_neg + sum (kept ++ out.length ∷ []); size = held.room }) (omega (arith, total))) refl

  -- and an output of the receiver stands: a sink has none
  pub given_still : (role : Role) → AreVeils role b → Fits role out inp → (j : ℕ) (o : Offer)
      → (link_end b.control j).output ≡ Some o
      → StillOffers j o b (hidden (filled role l out.length holding))
  given_still Processor v fits j o offers = given_offers b j o (as_processor b v) offers a k l out inp g fits
  given_still (Source done rest) v fits j o offers =
      let f : None ≡ Some inp = sym (source_asks_none rest b l v.held) ∙ g.asks in cc
  given_still (Sink kept) v fits j o offers =
      let f : None ≡ Some o = sym (sink_offers_none kept b j v.held) ∙ offers in cc

-- an output stands after a step, which no script makes
pub step_still : (role : Role) (n m : Machine) (r : Ran) (l : ℕ) (o : Offer) → AreVeils role n
    → (link_end n.control l).output ≡ Some o → step n ≡ Ok (m, r) → IsStep r → StillOffers l o n (hidden m)
step_still Processor n m r l o v offers h s = step_offers n l o (as_processor n v) offers m r h
step_still (Source done rest) n m r l o v offers h s = absurd (not_idle n m r (script-step _ n v.held.control) h s)
step_still (Sink kept) n m r l o v offers h s = absurd (not_idle n m r (script-step _ n v.held.control) h s)

-- after a notice
pub notice_still : (role : Role) (n : Machine) (l k : ℕ) (o : Offer) → AreVeils role n
    → (link_end n.control l).output ≡ Some o → receives role ≡ true → StillOffers l o n (hidden (notice k n))
notice_still Processor n l k o v offers r = notice_offers n l o (as_processor n v) offers k
notice_still (Source done rest) n l k o v offers r = cc
notice_still (Sink kept) n l k o v offers r =
    let f : None ≡ Some o = sym (sink_offers_none kept n l v.held) ∙ offers in cc

-- after the end of another output, which a script does not have
pub woken_still : (role : Role) (n : Machine) (l k : ℕ) (o p : Offer) → AreVeils role n
    → (link_end n.control l).output ≡ Some o → (link_end n.control k).output ≡ Some p → l ≢ k
    → StillOffers l o n (hidden (woken role k n))
woken_still Processor n l k o p v offers over other = finish_output_offers n l o (as_processor n v) offers k other
woken_still (Source done rest) n l k o p v offers over other =
    absurd (other ((source_offers rest n l o v.held offers).0 ∙ sym (source_offers rest n k p v.held over).0))
woken_still (Sink kept) n l k o p v offers over other =
    let f : None ≡ Some o = sym (sink_offers_none kept n l v.held) ∙ offers in cc
