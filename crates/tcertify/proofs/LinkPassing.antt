-- Messages that pass on links, part by part.
use Rattle.std.proofs.Common.{◌≡◌, ◌<◌, ℕ, sym, subst, refl, length, Bool, true, false, Some, None}
use Rattle.std.proofs.Common.{List, Result, Ok, Err}
use Rattle.std.specs.Prelude.{◌==◌}
use Rattle.tword.specs.declared.breaks.Break.TheVariants.{LengthMismatch}
use Rattle.tword.specs.declared.span.Span.{Span}
use Rattle.tword.specs.Stores.{Store}
use Rattle.tword.specs.Touches.{Reads}
use Rattle.tplan.specs.declared.plan.End.{End}
use Rattle.tproc.specs.declared.channels.Side.TheVariants.{Input, Output}
use Rattle.tplan.specs.Wires.{end_at}
use Rattle.tprocesses.specs.LinkMessages.{node_receives, node_sends, received_by, sent_by}
use Rattle.tprocesses.specs.Changes.{Put}
use Rattle.tprocesses.specs.Parts.{Reason, Breaks, HasNoStep, Part, Doing, gives, stopping, change, require, see}
use Rattle.tprocesses.specs.Parts.{◌>>=◌, ◌>>◌}
use Rattle.tprocesses.specs.Places as place
use Rattle.tprocesses.specs.Places.{Name}
use Rattle.tprocesses.specs.Standing.{wakes}
use Rattle.tprocesses.specs.Touching.{Site, part_of, put, replaced, touch, word_count, word_number, words_for}
use Rattle.tprocesses.specs.Values as value
use Rattle.tprocesses.specs.Values.{Free, IsFlag, IsLink, Link, Receiving, Value, link_in}
use Rattle.tcertify.specs.declared.channel.LinkHalf.{LinkHalf}
use Rattle.tcertify.specs.declared.channel.LinkHalf.TheVariants as half
use Rattle.tcertify.specs.declared.channel.Request.{Request}
use Rattle.tcertify.specs.declared.fault.Fault.{Fault}
use Rattle.tcertify.specs.declared.fault.Fault.TheVariants as fault
use Rattle.tcertify.specs.declared.node.Node.{Node}
use Rattle.tcertify.specs.declared.stop.Stop.TheVariants as stop
use Rattle.tcertify.specs.Channels.{link_of}
use Rattle.tcertify.specs.Messages.{lays_down}
use Rattle.tcertify.specs.Nodes.{Does, RunsAt, name_at, node_site, nothing}
use Rattle.tcertify.proofs.Following.{does_still, inside_still, runs_still, runs_then}
use Rattle.tcertify.proofs.NodeRunning.{does_on, runs_at_given, runs_at_on, runs_at_stop}
use Rattle.tcertify.proofs.NodeRunning.{runs_at_stopped}

-- a node sends
module _ (a b : Node) (l : ℕ) where
  -- the end of the link
  abbrev pub its_end : Site → End
  its_end s = end_at s.number l

  pub sends_nothing : (pending : Link)
      → RunsAt (see (place.LinkHalf (its_end (node_site a)) Output)) a (Ok (IsLink pending)) b
      → ((s : Site) → sent_by s (its_end (node_site a)) pending ≡ stopping HasNoStep)
      → RunsAt (node_sends (its_end (node_site a)) (node_site a)) a (Err HasNoStep) b
  sends_nothing pending first idle =
      runs_at_on (see (place.LinkHalf (its_end (node_site a)) Output))
      (λ (v : Value). sent_by (node_site a) (its_end (node_site a)) (link_in v)) a b b (IsLink pending) (Err HasNoStep)
      first
      (subst (λ (q : Part Store). RunsAt q b (Err HasNoStep) b) (sym (idle (node_site a)))
      (runs_at_stopped HasNoStep b))

  module _ (i : ℕ) (buffer : Span) (inside : i < length a.processes.items.items)
      (first : RunsAt (see (place.LinkHalf (its_end (node_site a)) Output)) a
      (Ok (IsLink (value.Offered (record { process = name_at a i; buffer = buffer })))) b) where
    abbrev gives_bytes : Store → Part Store
    gives_bytes words = gives (part_of buffer words)

    abbrev wakes_sender : Name → Store → Part Store
    wakes_sender x words = wakes x (Some (record { link = l; buffer = buffer })) >> gives_bytes words

    abbrev is_unfinished : Site → Name → Store → Part Store
    is_unfinished s x words = change (place.Unfinished (its_end s)) (Put (IsFlag true)) >> wakes_sender x words

    abbrev is_sent : Site → Name → Store → Part Store
    is_sent s x words =
        change (place.LinkHalf (its_end s) Output) (Put (IsLink value.Empty)) >> is_unfinished s x words

    abbrev reads_first : Site → Name → Part Store
    reads_first s x = touch s Reads buffer >>= is_sent s x

    sends_by : (c : Node) (r : Result Store Reason) → RunsAt (reads_first (node_site b) (name_at b i)) b r c
        → RunsAt (node_sends (its_end (node_site a)) (node_site a)) a r c
    sends_by c r h =
        runs_at_on (see (place.LinkHalf (its_end (node_site a)) Output))
        (λ (v : Value). sent_by (node_site a) (its_end (node_site a)) (link_in v)) a b c
        (IsLink (value.Offered (record { process = name_at a i; buffer = buffer }))) r first
        (runs_still a b i first.grows inside reads_first c r h)

    module _ (c : Node) where
      pub sends_unread : (why : Reason) → RunsAt (touch (node_site b) Reads buffer) b (Err why) c
          → RunsAt (node_sends (its_end (node_site a)) (node_site a)) a (Err why) c
      sends_unread why h =
          sends_by c (Err why)
          (runs_at_stop (touch (node_site b) Reads buffer) (is_sent (node_site b) (name_at b i)) b c why h)

      module _ (words : Store) (second : RunsAt (touch (node_site b) Reads buffer) b (Ok words) c) (d : Node)
          (third : RunsAt (change (place.LinkHalf (its_end (node_site c)) Output) (Put (IsLink value.Empty))) c (Ok tt)
          d)
          (g : Node)
          (fourth : RunsAt (change (place.Unfinished (its_end (node_site d))) (Put (IsFlag true))) d (Ok tt) g)
          (e : Node) where
        sends_on : (r : Result Store Reason) → RunsAt (wakes_sender (name_at g i) words) g r e
            → RunsAt (node_sends (its_end (node_site a)) (node_site a)) a r e
        sends_on r h =
            let in_b = inside_still a b i first.grows inside in
            let in_c = inside_still b c i second.grows in_b in
            let in_d = inside_still c d i third.grows in_c in
            sends_by e r
            (runs_then b c e i (touch (node_site b) Reads buffer) (λ s x ws. is_sent s x ws) words second in_b r
            (runs_then c d e i (change (place.LinkHalf (its_end (node_site c)) Output) (Put (IsLink value.Empty)))
            (λ s x _. is_unfinished s x words) tt third in_c r
            (runs_then d g e i (change (place.Unfinished (its_end (node_site d))) (Put (IsFlag true)))
            (λ s x _. wakes_sender x words) tt fourth in_d r h)))

        pub sends_unwoken : (why : Reason)
            → RunsAt (wakes (name_at g i) (Some (record { link = l; buffer = buffer }))) g (Err why) e
            → RunsAt (node_sends (its_end (node_site a)) (node_site a)) a (Err why) e
        sends_unwoken why h =
            sends_on (Err why)
            (runs_at_stop (wakes (name_at g i) (Some (record { link = l; buffer = buffer }))) (λ _. gives_bytes words) g
            e
            why h)

        pub sends_so : RunsAt (wakes (name_at g i) (Some (record { link = l; buffer = buffer }))) g (Ok tt) e
            → RunsAt (node_sends (its_end (node_site a)) (node_site a)) a (Ok (part_of buffer words)) e
        sends_so h =
            sends_on (Ok (part_of buffer words))
            (runs_at_on (wakes (name_at g i) (Some (record { link = l; buffer = buffer }))) (λ _. gives_bytes words) g e
            e
            tt (Ok (part_of buffer words)) h (runs_at_given (part_of buffer words) e))

-- a message is stored
module _ (a b : Node) (l i : ℕ) (buffer : Span) (message : Store) where
  abbrev empties : Site → Name → Doing
  empties s x = change (place.LinkHalf (end_at s.number l) Input) (Put (IsLink value.Empty)) >> wakes x None

  abbrev puts_message : Site → Name → Store → Doing
  puts_message s x words = put s Free buffer (replaced buffer words message) >> empties s x

  -- the message is put into this buffer
  abbrev pub laying : Doing
  laying =
      lays_down (node_site a) (end_at (node_site a).number l) message (record {
        process = name_at a i;
        buffer = buffer;
      })

  pub lays_not : (why : Reason)
      → RunsAt (words_for (node_site a) Receiving (word_number buffer.start) (word_count buffer)) a (Err why) b
      → RunsAt laying a (Err why) b
  lays_not why h =
      runs_at_stop (words_for (node_site a) Receiving (word_number buffer.start) (word_count buffer))
      (puts_message (node_site a) (name_at a i)) a b why h

  pub lays_so : (words : Store) (c d e : Node) (r : Result (Unit {0}) Reason) → i < length a.processes.items.items
      → RunsAt (words_for (node_site a) Receiving (word_number buffer.start) (word_count buffer)) a (Ok words) b
      → RunsAt (put (node_site b) Free buffer (replaced buffer words message)) b (Ok tt) c
      → RunsAt (change (place.LinkHalf (end_at (node_site c).number l) Input) (Put (IsLink value.Empty))) c (Ok tt) d
      → RunsAt (wakes (name_at d i) None) d r e → RunsAt laying a r e
  lays_so words c d e r inside first second third fourth =
      let in_b = inside_still a b i first.grows inside in
      let in_c = inside_still b c i second.grows in_b in
      runs_then a b e i (words_for (node_site a) Receiving (word_number buffer.start) (word_count buffer))
      (λ s x ws. puts_message s x ws) words first inside r
      (runs_then b c e i (put (node_site b) Free buffer (replaced buffer words message)) (λ s x _. empties s x) tt
      second
      in_b r
      (runs_then c d e i (change (place.LinkHalf (end_at (node_site c).number l) Input) (Put (IsLink value.Empty)))
      (λ s x _. wakes x None) tt third in_c r fourth))

-- a node receives
module _ (a b : Node) (l : ℕ) (message : Store) where
  pub receives_nothing : (pending : Link)
      → RunsAt (see (place.LinkHalf (end_at (node_site a).number l) Input)) a (Ok (IsLink pending)) b
      → ((s : Site) → received_by s (end_at (node_site a).number l) message pending ≡ stopping HasNoStep)
      → RunsAt (node_receives message (end_at (node_site a).number l) (node_site a)) a (Err HasNoStep) b
  receives_nothing pending first idle =
      runs_at_on (see (place.LinkHalf (end_at (node_site a).number l) Input))
      (λ (v : Value). received_by (node_site a) (end_at (node_site a).number l) message (link_in v)) a b b
      (IsLink pending) (Err HasNoStep) first
      (subst (λ (q : Doing). RunsAt q b (Err HasNoStep) b) (sym (idle (node_site a))) (runs_at_stopped HasNoStep b))

  module _ (i : ℕ) (buffer : Span) (inside : i < length a.processes.items.items)
      (first : RunsAt (see (place.LinkHalf (end_at (node_site a).number l) Input)) a
      (Ok (IsLink (value.Offered (record { process = name_at a i; buffer = buffer })))) b) where
    abbrev fits_if : Bool → Site → Name → Doing
    fits_if t s x =
        require t (Breaks LengthMismatch)
        >> lays_down s (end_at s.number l) message (record { process = x; buffer = buffer })

    receives_by : (t : Bool) (c : Node) (r : Result (Unit {0}) Fault) → (buffer.size == length message) ≡ t
        → Does (fits_if t (node_site b) (name_at b i)) nothing b r c
        → Does (node_receives message (end_at (node_site a).number l) (node_site a)) nothing a r c
    receives_by t c r e h =
        does_on (see (place.LinkHalf (end_at (node_site a).number l) Input))
        (λ (v : Value). received_by (node_site a) (end_at (node_site a).number l) message (link_in v)) nothing a b c
        (IsLink (value.Offered (record { process = name_at a i; buffer = buffer }))) r first
        (subst (λ (u : Bool). Does (fits_if u (node_site a) (name_at a i)) nothing b r c) (sym e)
        (does_still a b i first.grows inside (fits_if t) nothing c r h))

    pub receives_unfit : (buffer.size == length message) ≡ false
        → RunsAt (node_receives message (end_at (node_site a).number l) (node_site a)) a (Err (Breaks LengthMismatch)) b
    receives_unfit e =
        receives_by false b (Err (fault.Stops (stop.Breaks LengthMismatch))) e (runs_at_stopped (Breaks LengthMismatch)
        b)

    pub receives_so : (c : Node) (r : Result (Unit {0}) Fault) → (buffer.size == length message) ≡ true
        → Does (lays_down (node_site b) (end_at (node_site b).number l) message
        (record { process = name_at b i; buffer = buffer })) nothing b r c
        → Does (node_receives message (end_at (node_site a).number l) (node_site a)) nothing a r c
    receives_so c r e h = receives_by true c r e h

-- where none is offered, or asked for
pub unsent_link : (names : List Name) (h : LinkHalf) → ((r : Request) → h ≡ half.Offered r → ⊥) → (f : End) (s : Site)
    → sent_by s f (link_of names h) ≡ stopping HasNoStep
unsent_link names half.Empty n f s = refl
unsent_link names (half.Offered r) n f s = absurd (n r refl)
unsent_link names (half.Enabled k) n f s = refl
unsent_link names (half.Awaited k) n f s = refl
unsent_link names (half.Fired k) n f s = refl

pub unasked_link : (names : List Name) (message : Store) (h : LinkHalf) → ((r : Request) → h ≡ half.Offered r → ⊥)
    → (e : End) (s : Site) → received_by s e message (link_of names h) ≡ stopping HasNoStep
unasked_link names message half.Empty n e s = refl
unasked_link names message (half.Offered r) n e s = absurd (n r refl)
unasked_link names message (half.Enabled k) n e s = refl
unasked_link names message (half.Awaited k) n e s = refl
unasked_link names message (half.Fired k) n e s = refl
