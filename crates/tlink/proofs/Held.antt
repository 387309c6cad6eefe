-- What stands behind the links: a processor, a source or a sink.
use Rattle.std.proofs.Common.{◌≡◌, ℕ, zero, suc, ◌+◌, ◌-◌, ◌<◌, ◌≤◌, refl, sym, ap, ◌∙◌, subst, List, [], ◌∷◌, ◌++◌}
use Rattle.std.proofs.Common.{length, set}
use Rattle.std.proofs.Common.{Bool, true, false, Option, Some, None, Ok, ◌⊎◌, inl, inr, arith}
use Rattle.std.specs.Prelude.{◌≢◌, IfSome, MatchOption, sum, drop, option_map, slice_index_or}
use Rattle.std.proofs.lemmas.Bool.{ltb-true, eqb-false}
use Rattle.std.proofs.lemmas.List.Sums.{sum_by-cons, sum_by_push}
use Rattle.std.proofs.lemmas.Option.{same_Some}
use Rattle.tword.specs.Words.{most_neg}
use Rattle.tword.specs.Stores.{with_cells, as_cells}
use Rattle.tword.specs.declared.span.Span.{Span}
use Rattle.tword.specs.Claims.{AreApart, claims_overlap}
use Rattle.tproc.specs.declared.offer.Offer.{Offer}
use Rattle.tproc.specs.declared.ran.Ran.{Ran}
use Rattle.tproc.specs.declared.ran.Ran.TheVariants as ran
use Rattle.tproc.specs.declared.waiter.LinkEnd.{LinkEnd}
use Rattle.tproc.specs.Machine.{Control, Machine, claims_of}
use Rattle.tproc.specs.LinkChannels.{link_end, quiet_end}
use Rattle.tproc.specs.Placement.{LiesWithin, HasBuffers}
use Rattle.tproc.specs.Scripts.{offer_moved, input_moved, output_set}
use Rattle.tproc.specs.Steps.{step, step_left_by}
use Rattle.tproc.proofs.Finishing.{finish_input-links, finish_output-links}
use Rattle.tproc.proofs.Handing.{buffers_of}
use Rattle.tproc.proofs.Keeping.{step_keeps, notice_keeps, finish_input_keeps, finish_output_keeps}
use Rattle.tproc.proofs.Scripted.{idle-step}
use Rattle.tproc.proofs.Storing.{stored_claimed, stored_size}
use Rattle.tlink.specs.declared.counts.Arrival.{Arrival}
use Rattle.tlink.specs.declared.counts.Counts.{Counts}
use Rattle.tlink.specs.Roles.{Role, Processor, Source, Sink, script_control, first_offer, offering, asking}
use Rattle.tlink.specs.Roles.{address_behind}
use Rattle.tlink.specs.Roles.{receives, has_room, is_full, role_woken, woken, role_filled, filled}
use Rattle.tproc.specs.Links.{notice}
use Rattle.tlink.specs.Node.{one_link}
use Rattle.tlink.specs.Whole.{HasGot, IsSource, IsSink, IsHeld, HasWires}

-- only link 0 of a script has anything
pub script-else : (e : LinkEnd) (l : ℕ) → link_end (script_control e) (suc l) ≡ quiet_end
script-else e zero = refl
script-else e (suc zero) = refl
script-else e (suc (suc zero)) = refl
script-else e (suc (suc (suc l))) = refl

-- what holds of link 0, and of one where nothing is pending, holds of each
pub script_each : (P : LinkEnd → Type 0) (e : LinkEnd) → P e → P quiet_end → (l : ℕ) → P (link_end (script_control e) l)
script_each P e here else zero = here
script_each P e here else (suc l) = rw (script-else e l) else

-- a script does nothing by itself
pub script-step : (e : LinkEnd) (m : Machine) → m.control ≡ script_control e → step m ≡ Ok (m, ran.Idle)
script-step e m h =
    idle-step m (ap (λ (c : Control). c.halted) h) (ap (λ (c : Control). c.current) h)
    (ap (λ (c : Control). c.high) h) (ap (λ (c : Control). c.interrupted) h) (ap (λ (c : Control). c.low) h)

-- the buffers of a source lie in its memory
source_lies : (start size : ℕ) (rest : List ℕ) → start + sum rest ≤ size
    → IfSome (first_offer (most_neg + start) rest) (LiesWithin size)
source_lies start size [] h = tt
source_lies start size (n ∷ ns) h =
    let e : sum (n ∷ ns) ≡ n + sum ns = sum_by-cons (λ x. x) n ns in (omega arith, omega (arith, h, e))

source_buffers : (rest : List ℕ) (m : Machine) → IsSource rest m → HasBuffers m
source_buffers rest m s =
    record {
      links = ap (λ (c : Control). length c.links) s.control;
      outputs = λ l. rw s.control
          (script_each (λ e. IfSome e.output (LiesWithin (length m.store))) (offering (most_neg + s.start) rest)
          (source_lies s.start (length m.store) rest s.within) tt l);
      inputs = λ l. rw s.control
          (script_each (λ e. IfSome e.input (LiesWithin (length m.store))) (offering (most_neg + s.start) rest) tt tt
          l);
    }

sink_buffers : (kept : List ℕ) (m : Machine) → IsSink kept m → HasBuffers m
sink_buffers kept m s =
    record {
      links = ap (λ (c : Control). length c.links) s.control;
      outputs = λ l. rw s.control
          (script_each (λ e. IfSome e.output (LiesWithin (length m.store))) (asking (most_neg + sum kept) s.room) tt tt
          l);
      inputs = λ l. rw s.control
          (script_each (λ e. IfSome e.input (LiesWithin (length m.store))) (asking (most_neg + sum kept) s.room)
          (omega arith, omega (arith, s.within)) tt l);
    }

-- what is pending at the links lies in the memory
pub held_buffers : (role : Role) (m : Machine) → IsHeld role m → HasBuffers m
held_buffers Processor m h = buffers_of m h.0
held_buffers (Source done rest) m h = source_buffers rest m h
held_buffers (Sink kept) m h = sink_buffers kept m h

-- no claim of a link but the first
no_claim : (claim : Option Span) (k : ℕ) → slice_index_or (claim ∷ None ∷ None ∷ None ∷ []) (suc k) None ≡ None
no_claim claim zero = refl
no_claim claim (suc zero) = refl
no_claim claim (suc (suc zero)) = refl
no_claim claim (suc (suc (suc k))) = refl

none_left : (claim : Option Span) → claims_overlap claim None ≡ false
none_left None = refl
none_left (Some span) = refl

-- claims of link 0 alone, of which there is one, are apart
claims_apart : (input output : Option Span) → (input ≡ None) ⊎ (output ≡ None)
    → AreApart (record {
      inputs = input ∷ None ∷ None ∷ None ∷ [];
      outputs = output ∷ None ∷ None ∷ None ∷ [];
      saved = [];
    })
claims_apart input output one =
    record {
      inputs = inputs;
      outputs = outputs;
      saved = λ w h. cc;
      workspaces = λ i j d b c. absurd (omega (arith, c));
    }
  where
    inputs : (k l : ℕ) → k ≢ l
        → claims_overlap (slice_index_or (input ∷ None ∷ None ∷ None ∷ []) k None)
        (slice_index_or (input ∷ None ∷ None ∷ None ∷ []) l None) ≡ false
    inputs zero zero h = absurd (h refl)
    inputs zero (suc l) h = rw (no_claim input l) (none_left input)
    inputs (suc k) l h = rw (no_claim input k) refl

    outputs : (k l : ℕ)
        → claims_overlap (slice_index_or (input ∷ None ∷ None ∷ None ∷ []) k None)
        (slice_index_or (output ∷ None ∷ None ∷ None ∷ []) l None) ≡ false
    outputs zero zero = by one
      where
        by : (input ≡ None) ⊎ (output ≡ None) → claims_overlap input output ≡ false
        by (inl e) = rw e refl
        by (inr e) = rw e (none_left input)
    outputs zero (suc l) = rw (no_claim output l) (none_left input)
    outputs (suc k) l = rw (no_claim input k) refl

-- no claims meet
pub held_apart : (role : Role) (m : Machine) → IsHeld role m → AreApart (claims_of m.control)
held_apart Processor m h = h.1
held_apart (Source done rest) m h = rw h.control (claims_apart None _ (inl refl))
held_apart (Sink kept) m h = rw h.control (claims_apart _ None (inr refl))

-- an output of a source is its first message, at link 0
pub source_offers : (rest : List ℕ) (m : Machine) (l : ℕ) (o : Offer) (s : IsSource rest m)
    → (link_end m.control l).output ≡ Some o
    → (l ≡ 0) × (first_offer (most_neg + s.start) rest ≡ Some o)
source_offers rest m l o s h = by l (rw s.control at h)
  where
    by : (l : ℕ) → (link_end (script_control (offering (most_neg + s.start) rest)) l).output ≡ Some o
        → (l ≡ 0) × (first_offer (most_neg + s.start) rest ≡ Some o)
    by zero h = (refl, h)
    by (suc l) h =
        let f : None ≡ Some o =
        sym (ap (λ (e : LinkEnd). e.output) (script-else (offering (most_neg + s.start) rest) l)) ∙ h in cc

-- a source asks for nothing
pub source_asks_none : (rest : List ℕ) (m : Machine) (l : ℕ) → IsSource rest m → (link_end m.control l).input ≡ None
source_asks_none rest m l s =
    rw s.control (script_each (λ e. e.input ≡ None) (offering (most_neg + s.start) rest) refl refl l)

-- a sink offers nothing
pub sink_offers_none : (kept : List ℕ) (m : Machine) (l : ℕ) → IsSink kept m → (link_end m.control l).output ≡ None
sink_offers_none kept m l s =
    rw s.control (script_each (λ e. e.output ≡ None) (asking (most_neg + sum kept) s.room) refl refl l)

-- an input of a sink is what it has room for, at link 0
pub sink_asks : (kept : List ℕ) (m : Machine) (l : ℕ) (o : Offer) (s : IsSink kept m)
    → (link_end m.control l).input ≡ Some o
    → (l ≡ 0) × (record { wdesc = 0; buffer = most_neg + sum kept; length = s.room } ≡ o)
sink_asks kept m l o s h = by l (rw s.control at h)
  where
    by : (l : ℕ) → (link_end (script_control (asking (most_neg + sum kept) s.room)) l).input ≡ Some o
        → (l ≡ 0) × (record { wdesc = 0; buffer = most_neg + sum kept; length = s.room } ≡ o)
    by zero h = (refl, same_Some _ _ h)
    by (suc l) h =
        let f : None ≡ Some o =
        sym (ap (λ (e : LinkEnd). e.input) (script-else (asking (most_neg + sum kept) s.room) l)) ∙ h in cc

-- what a source offers once its message is over; anything else that offered has nothing more to offer
abbrev pub next_output : Role → ℕ → Machine → Option Offer
next_output (Source done rest) l m = first_offer (address_behind (link_end m.control l).output) (drop 1 rest)
next_output _ l m = None

pub woken-links : (role : Role) (l : ℕ) (m : Machine) → (woken role l m).control.links
    ≡ set m.control.links l (record (link_end m.control l) { output = next_output role l m })
woken-links Processor l m = finish_output-links l m
woken-links (Source done rest) l m = refl
woken-links (Sink kept) l m = finish_output-links l m

-- what a sink asks for once a message is complete; anything else that asked asks for nothing more
abbrev pub next_input : Role → ℕ → ℕ → Machine → Option Offer
next_input (Sink kept) l n m = option_map (offer_moved n) (link_end m.control l).input
next_input _ l n m = None

pub filled-links : (role : Role) (l n : ℕ) (m : Machine) → (filled role l n m).control.links
    ≡ set m.control.links l (record (link_end m.control l) { input = next_input role l n m })
filled-links Processor l n m = finish_input-links l m
filled-links (Source done rest) l n m = finish_input-links l m
filled-links (Sink kept) l n m = refl

-- the next message of a source
source_next : (n : ℕ) (ns : List ℕ) (m : Machine) (s : IsSource (n ∷ ns) m)
    → IsSource ns
    (record m { control = output_set 0 (first_offer (address_behind (link_end m.control 0).output) ns) m.control })
source_next n ns m s =
    record {
      start = s.start + n;
      control = rw s.control
          (ap (λ a. script_control (offering a ns)) (let e : most_neg + s.start + n ≡ most_neg + (s.start + n) =
          omega arith in e));
      within = let e : sum (n ∷ ns) ≡ n + sum ns = sum_by-cons (λ x. x) n ns in omega (arith, s.within, e);
      each = λ i d b. s.each (suc i) d (omega (arith, b));
    }

-- an output is over
pub held_woken : (role : Role) (m : Machine) (l : ℕ) (o : Offer) → IsHeld role m
    → (link_end m.control l).output ≡ Some o → IsHeld (role_woken role) (woken role l m)
held_woken Processor m l o h out = finish_output_keeps l m h.0 h.1
held_woken (Source done rest) m l o h out = by rest l h (source_offers rest m l o h out)
  where
    by : (rest : List ℕ) (l : ℕ) (h : IsSource rest m)
        → (l ≡ 0) × (first_offer (most_neg + h.start) rest ≡ Some o)
        → IsSource (drop 1 rest)
        (record m {
          control = output_set l (first_offer (address_behind (link_end m.control l).output) (drop 1 rest)) m.control;
        })
    by [] l h p = let f : None ≡ Some o = p.1 in cc
    by (n ∷ ns) l h p = rw p.0 (source_next n ns m h)
held_woken (Sink kept) m l o h out = let f : None ≡ Some o = sym (sink_offers_none kept m l h) ∙ out in cc

-- the next message has a byte that is not sent
pub next_more : (role : Role) (m : Machine) (l : ℕ) → IsHeld role m
    → IfSome (next_output role l m) (λ o. 0 < o.length)
next_more Processor m l h = tt
next_more (Source done []) m l h = tt
next_more (Source done (n ∷ [])) m l h = tt
next_more (Source done (n ∷ k ∷ ns)) m l h = h.each 1 0 (omega arith)
next_more (Sink kept) m l h = tt

-- what follows a message that a sink has kept
sink_next : (kept : List ℕ) (n : ℕ) (m : Machine) (s : IsSink kept m) → n ≤ s.room
    → IsSink (kept ++ n ∷ []) (record m { control = input_moved 0 n m.control })
sink_next kept n m s fits =
    record {
      room = s.room - n;
      control = rw s.control
          (ap (λ a. script_control (asking a (s.room - n))) (let e : most_neg + sum kept + n ≡ most_neg
          + sum (kept ++ n ∷ []) = omega (arith, total) in e));
      within = omega (arith, total, s.within, fits);
    }
  where
    total : sum (kept ++ n ∷ []) ≡ sum kept + n
    total = sum_by_push (λ x. x) kept n

-- a message is complete that had room
pub held_filled : (role : Role) (m : Machine) (l n : ℕ) (o : Offer) → IsHeld role m
    → (link_end m.control l).input ≡ Some o → n ≤ o.length → IsHeld (role_filled n role) (filled role l n m)
held_filled Processor m l n o h inp fits = finish_input_keeps l m h.0 h.1
held_filled (Source done rest) m l n o h inp fits =
    let f : None ≡ Some o = sym (source_asks_none rest m l h) ∙ inp in cc
held_filled (Sink kept) m l n o h inp fits =
    let p : (l ≡ 0) × (record { wdesc = 0; buffer = most_neg + sum kept; length = h.room } ≡ o) =
    sink_asks kept m l o h inp in
    rw p.0 (sink_next kept n m h (rw (← p.1) at fits))

-- a byte is stored where an input asks for it
pub held_stored : (role : Role) (m : Machine) (l : ℕ) (o : Offer) (k b : ℕ) (h : IsHeld role m)
    → (link_end m.control l).input ≡ Some o → k < o.length
    → IsHeld role (record m { store = with_cells m.store (o.buffer + k) (as_cells (b ∷ [])) })
held_stored Processor m l o k b h inp more =
    (stored_claimed m (buffers_of m h.0) h.1 l o inp k b more h.0, h.1)
held_stored (Source done rest) m l o k b h inp more =
    let f : None ≡ Some o = sym (source_asks_none rest m l h) ∙ inp in cc
held_stored (Sink kept) m l o k b h inp more =
    record {
      room = h.room;
      control = h.control;
      within = h.within
          ∙ sym (stored_size m (sink_buffers kept m h) (held_apart (Sink kept) m h) l o inp k b more);
    }

-- a byte that is taken has room
pub room_more : (role : Role) (o : Offer) (c : Counts) → has_room role o c ≡ true → HasGot role c.got o.length
    → c.got < o.length
room_more Processor o c room got = got
room_more (Source done rest) o c room got = got
room_more (Sink kept) o c room got = ltb-true _ _ room

-- and where it is not the last one it was got
pub got_more : (role : Role) (a : Arrival) (o : Offer) (c : Counts) → is_full role a o c ≡ false → c.got < o.length
    → HasGot role (c.got + 1) o.length
got_more Processor a o c full more = let e : c.got + 1 ≡ o.length → ⊥ = eqb-false _ _ full in omega (arith, more, e)
got_more (Source done rest) a o c full more =
    let e : c.got + 1 ≡ o.length → ⊥ = eqb-false _ _ full in omega (arith, more, e)
got_more (Sink kept) a o c full more = omega (arith, more)

-- what was got fits as before, and there are as many wires
pub got_woken : (role : Role) (got size : ℕ) → HasGot role got size → HasGot (role_woken role) got size
got_woken Processor got size h = h
got_woken (Source done rest) got size h = h
got_woken (Sink kept) got size h = h

pub got_filled : (role : Role) (n got size : ℕ) → HasGot role got size → HasGot (role_filled n role) got size
got_filled Processor n got size h = h
got_filled (Source done rest) n got size h = h
got_filled (Sink kept) n got size h = h

pub wires_woken : (role : Role) (wired : List Bool) → HasWires role wired → HasWires (role_woken role) wired
wires_woken Processor wired h = h
wires_woken (Source done rest) wired h = h
wires_woken (Sink kept) wired h = h

pub wires_filled : (role : Role) (n : ℕ) (wired : List Bool) → HasWires role wired
    → HasWires (role_filled n role) wired
wires_filled Processor n wired h = h
wires_filled (Source done rest) n wired h = h
wires_filled (Sink kept) n wired h = h

-- nothing was got of the next input
pub next_got : (role : Role) (l n : ℕ) (m : Machine) (c : Counts) → c.got ≡ 0
    → MatchOption (next_input role l n m) (c.got ≡ 0) (λ o. HasGot (role_filled n role) c.got o.length)
next_got Processor l n m c e = e
next_got (Source done rest) l n m c e = e
next_got (Sink kept) l n m c e = by (link_end m.control l).input
  where
    by : (o : Option Offer)
        → MatchOption (option_map (offer_moved n) o) (c.got ≡ 0) (λ o. HasGot (Sink (kept ++ n ∷ [])) c.got o.length)
    by None = e
    by (Some o) = omega (arith, e)

-- nothing is counted of the next output, which has a byte
pub next_fits : (role : Role) (m : Machine) (l : ℕ) → IsHeld role m → (c : Counts) → c.sent ≡ 0 → c.acked ≡ 0
    → MatchOption (next_output role l m) ((c.sent ≡ 0) × (c.acked ≡ 0)) (λ o. c.acked < o.length)
next_fits role m l h c sent acked = by (next_output role l m) (next_more role m l h)
  where
    by : (o : Option Offer) → IfSome o (λ o. 0 < o.length)
        → MatchOption o ((c.sent ≡ 0) × (c.acked ≡ 0)) (λ o. c.acked < o.length)
    by None more = (sent, acked)
    by (Some o) more = rw acked more

-- a step that changes nothing
stood : (P : Machine → Type 0) (m m' : Machine) (r : Ran) → P m → step m ≡ Ok (m, ran.Idle) → step m ≡ Ok (m', r) → P
    m'
stood P m m' r h e s = subst P (ap (step_left_by m) (sym e ∙ s)) h

-- a step is that of a processor
pub held_step : (role : Role) (m m' : Machine) (r : Ran) → IsHeld role m → step m ≡ Ok (m', r) → IsHeld role m'
held_step Processor m m' r h s = step_keeps m m' r h.0 h.1 s
held_step (Source done rest) m m' r h s = stood (IsSource rest) m m' r h (script-step _ m h.control) s
held_step (Sink kept) m m' r h s = stood (IsSink kept) m m' r h (script-step _ m h.control) s

-- so is a byte that is noticed: a source receives none, and a sink asks at its only wired link
pub held_noticed : (role : Role) (m : Machine) (l : ℕ) (wired : List Bool) → IsHeld role m → HasWires role wired
    → receives role ≡ true → slice_index_or wired l false ≡ true → (link_end m.control l).input ≡ None
    → IsHeld role (notice l m)
held_noticed Processor m l wired h w receiving there none = notice_keeps l m h.0 h.1
held_noticed (Source done rest) m l wired h w receiving there none = cc
held_noticed (Sink kept) m l wired h w receiving there none = by l (rw w at there) none
  where
    by : (l : ℕ) → slice_index_or one_link l false ≡ true → (link_end m.control l).input ≡ None
        → IsHeld (Sink kept) (notice l m)
    by zero there none =
        let f : Some (record { wdesc = 0; buffer = most_neg + sum kept; length = h.room }) ≡ None =
        rw h.control at none in cc
    by (suc zero) there none = cc
    by (suc (suc zero)) there none = cc
    by (suc (suc (suc zero))) there none = cc
    by (suc (suc (suc (suc l)))) there none = cc
