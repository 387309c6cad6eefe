-- Messages leave alone a process that has ended: each process that they make ready has waited.
use Rattle.std.proofs.Common.{◌≡◌, ℕ, true, [], ◌∷◌, Option, Some, None}
use Rattle.std.specs.Prelude.{◌==◌, not, nat_le, length, slice_get}
use Rattle.tword.specs.declared.breaks.Break.TheVariants.{Unaligned, WrongEnd, ZeroLength, LinkBusy, LengthMismatch}
use Rattle.tword.specs.declared.breaks.Break.TheVariants.{ChannelMisuse}
use Rattle.tword.specs.declared.span.Span.{Span}
use Rattle.tword.specs.Stores.{Store}
use Rattle.tword.specs.Touches.{Reads, is_aligned, word_place_break}
use Rattle.tproc.specs.declared.channels.Side.{Side}
use Rattle.tproc.specs.declared.channels.Side.TheVariants.{Output}
use Rattle.tproc.specs.Channels.{mode_of}
use Rattle.tproc.specs.LinkChannels.{is_link, is_right_end, link_of}
use Rattle.tplan.specs.declared.plan.End.{End}
use Rattle.tplan.specs.declared.plan.NodePlan.{NodePlan}
use Rattle.tplan.specs.declared.plan.Plan.{Plan}
use Rattle.tplan.specs.Wires.{end_at}
use Rattle.tprocesses.specs.Places.{Name, same_name}
use Rattle.tprocesses.specs.Values.{Value, Free, Receiving, Engaged, Context, Lent, Stand, Waits, Ended, Request}
use Rattle.tprocesses.specs.Values.{Holder, TakenBy, AwaitedBy, Link, Offered, AreMessages, AreKept, stand_in}
use Rattle.tprocesses.specs.Values.{half_in, link_in, ports_in}
use Rattle.tprocesses.specs.Parts.{Part, stopping, require, unless, Breaks, FullSink, HasNoStep}
use Rattle.tprocesses.specs.Touching.{Site, word_number, word_count, word_for, words_for, unsent, touch, replaced, put}
use Rattle.tprocesses.specs.Touching.{write_word_at, save, forgotten, kept}
use Rattle.tprocesses.specs.Performing.{copied}
use Rattle.tprocesses.specs.Standing.{known, ready, wakes}
use Rattle.tprocesses.specs.ChannelMessages.{is_nobody, takes_half, meet, meet_if, channel_step}
use Rattle.tprocesses.specs.LinkMessages.{is_empty, finished, lends, takes_link, sent_by, node_sends, first_message}
use Rattle.tprocesses.specs.LinkMessages.{received_by, node_receives, keeps}
use Rattle.tprocesses.specs.Choosing.{requires_no_other, lets_go_on, fires}
use Rattle.tprocesses.specs.Scheduling.{communicates, sends_or_receives, sends_from_workspace, laid_down}
use Rattle.tprocesses.specs.Machine.{Role, Processor, Source, Sink, Nothing, role_at, site_of, at_site, sends, receives}
use Rattle.tprocesses.specs.Machine.{offer_place, is_passable, asks, crosses, passes}
use Rattle.tprocesses.proofs.Quiet.{requires, unlesses, unsents, touches, words_have, all_have, puts, writes_at, saves}
use Rattle.tprocesses.proofs.Quiet.{copies, knows, lend}
use Rattle.tprocesses.proofs.Plain.{finish}
use Rattle.tprocesses.proofs.PlainChoices.{no_other}
use Rattle.tprocesses.proofs.PlainLinks.{ask}
use Rattle.tprocesses.proofs.Avoiding.{IsOther, Avoids, andthen, quietly, chooses, other, waited}

-- a process that is another one takes its part in a message
module _ (e x : Name) (another : IsOther e x) where
  -- it takes its half of a channel
  take_half : (s : Site) (c : Context) (side : Side) (channel : ℕ) (buffer : Span)
      → Avoids e (takes_half s x c side channel buffer)
  take_half s c side channel buffer =
      quietly e (unless (word_place_break s.size channel)) _ (unlesses (word_place_break s.size channel))
      (λ y half seen. quietly e (require (is_nobody (half_in half)) (Breaks ChannelMisuse)) _
      (requires (is_nobody (half_in half)) (Breaks ChannelMisuse))
      (λ z. (
        tt,
        quietly e (unsent s (word_number channel)) _ (unsents s (word_number channel))
            (λ u. quietly e (save s c.wptr forgotten) _ (saves s c.wptr forgotten)
            (λ v. (
              tt,
              quietly e (touch s (mode_of side) buffer) _ (touches s (mode_of side) buffer)
                  (λ words. (another, tt)),
            ))),
      )))

  -- it takes its half of a link
  take_link : (s : Site) (c : Context) (side : Side) (channel : ℕ) (buffer : Span)
      → Avoids e (takes_link s x c side channel buffer)
  take_link s c side channel buffer =
      quietly e (require (is_aligned channel) (Breaks Unaligned)) _ (requires (is_aligned channel) (Breaks Unaligned))
      (λ y. quietly e (require (is_right_end side channel) (Breaks WrongEnd)) _
      (requires (is_right_end side channel) (Breaks WrongEnd))
      (λ z. quietly e (require (not (buffer.size == 0)) (Breaks ZeroLength)) _
      (requires (not (buffer.size == 0)) (Breaks ZeroLength))
      (λ u pending seen. quietly e (require (is_empty (link_in pending)) (Breaks LinkBusy)) _
      (requires (is_empty (link_in pending)) (Breaks LinkBusy))
      (λ v. quietly e (finished side (end_at s.number (link_of side channel))) _
      (finish side (end_at s.number (link_of side channel)))
      (λ l. (
        tt,
        quietly e (save s c.wptr kept) _ (saves s c.wptr kept)
            (λ w. quietly e (lends side s buffer) _ (lend side s buffer) (λ r. (another, tt))),
      ))))))

  -- it takes its part on any channel
  communicate : (s : Site) (c : Context) (side : Side) (channel : ℕ) (buffer : Span)
      → Avoids e (communicates s x c side channel buffer)
  communicate s c side channel buffer =
      chooses e (is_link channel) _ _ (take_link s c side channel buffer) (take_half s c side channel buffer)

  -- `in` and `out`
  pub send_or_receive : (side : Side) (s : Site) (c : Context) → Avoids e (sends_or_receives side s x c)
  send_or_receive side s c =
      quietly e (known c.a) _ (knows c.a)
      (λ size. quietly e (known c.b) _ (knows c.b)
      (λ channel. quietly e (known c.c) _ (knows c.c)
      (λ buffer. communicate s c side channel (record { start = buffer; size = size }))))

  -- `outbyte` and `outword`
  pub send_from : (size : ℕ) (s : Site) (c : Context) → Avoids e (sends_from_workspace size s x c)
  send_from size s c =
      quietly e (known c.b) _ (knows c.b)
      (λ channel. quietly e (write_word_at s c.wptr (laid_down c.a)) _ (writes_at s c.wptr (laid_down c.a))
      (λ y. communicate s c Output channel (record { start = c.wptr; size = size })))

module _ (e : Name) where
  -- a process that is made ready has waited, so it is another one
  readies : (stand : Stand) (x : Name) (lent : Option Lent) → (same_name x e ≡ true → stand ≡ Ended)
      → Avoids e (ready stand x lent)
  readies (Waits c) x lent shown = (other e x (Waits c) shown (λ k. cc), tt)
  readies _ x lent shown = tt

  -- the message of a process has passed
  wake : (x : Name) (lent : Option Lent) → Avoids e (wakes x lent)
  wake x lent stood shown = readies (stand_in stood) x lent shown

  -- the processes that meet at a channel have waited
  meets : (s : Site) (channel : ℕ) (input output : Request) → Avoids e (meet s channel input output)
  meets s channel input output =
      quietly e (require (input.buffer.size == output.buffer.size) (Breaks LengthMismatch)) _
      (requires (input.buffer.size == output.buffer.size) (Breaks LengthMismatch))
      (λ y. quietly e (word_for s Engaged (word_number channel)) _ (words_have s Engaged (word_number channel))
      (λ z. (
        tt,
        quietly e (copied s output.buffer input.buffer) _ (copies s output.buffer input.buffer)
            (λ u. andthen e (wakes input.process None) _ (wake input.process None)
            (λ v. andthen e (wakes output.process None) _ (wake output.process None) (λ w. (tt, (tt, tt))))),
      )))

  -- a process that a channel makes go on has waited for several ones
  let_go_on : (s : Site) (channel : ℕ) (x : Name) → Avoids e (lets_go_on s channel x)
  let_go_on s channel x stood shown =
      waited e x (stand_in stood) _ shown
      (λ c another ports seen. quietly e (requires_no_other s channel (ports_in ports)) _
      (no_other s channel (ports_in ports)) (λ y. (tt, (another, tt))))

  -- the step of a channel, by who has its halves
  meets_if : (s : Site) (channel : ℕ) (input output : Holder) → Avoids e (meet_if s channel input output)
  meets_if s channel (TakenBy input) (TakenBy output) = meets s channel input output
  meets_if s channel (AwaitedBy x) (TakenBy output) = let_go_on s channel x
  meets_if s channel _ _ = tt

  -- the step of a channel
  pub channel : (channel : ℕ) (s : Site) → Avoids e (channel_step channel s)
  channel word s input seen output seen' = meets_if s word (half_in input) (half_in output)

  -- the message of an output goes over
  sents : (s : Site) (f : End) (l : Link) → Avoids e (sent_by s f l)
  sents s f (Offered output) =
      quietly e (touch s Reads output.buffer) _ (touches s Reads output.buffer)
      (λ words. (
        tt,
        (
          tt,
          andthen e (wakes output.process (Some (record { link = f.link; buffer = output.buffer }))) _
              (wake output.process (Some (record { link = f.link; buffer = output.buffer }))) (λ y. tt),
        ),
      ))
  sents s f _ = tt

  -- a source sends
  first_messages : (f : End) (v : Value) → Avoids e (first_message f v)
  first_messages f (AreMessages (m ∷ rest)) = (tt, tt)
  first_messages f (AreMessages []) = tt
  first_messages f _ = tt

  -- a message comes into the buffer of an input
  receive : (s : Site) (f : End) (message : Store) (l : Link) → Avoids e (received_by s f message l)
  receive s f message (Offered input) =
      quietly e (require (input.buffer.size == length message) (Breaks LengthMismatch)) _
      (requires (input.buffer.size == length message) (Breaks LengthMismatch))
      (λ y. quietly e (words_for s Receiving (word_number input.buffer.start) (word_count input.buffer)) _
      (all_have s Receiving (word_number input.buffer.start) (word_count input.buffer))
      (λ words. quietly e (put s Free input.buffer (replaced input.buffer words message)) _
      (puts s Free input.buffer (replaced input.buffer words message))
      (λ z. (tt, wake input.process None))))
  receive s f message _ = tt

  -- a sink receives
  keep : (f : End) (message : Store) (v : Value) → Avoids e (keeps f message v)
  keep f message (AreKept room messages) =
      quietly e (require (nat_le (length message) room) FullSink) _ (requires (nat_le (length message) room) FullSink)
      (λ y. (tt, tt))
  keep f message _ = tt

  -- the step of a node avoids it if it does at each site
  pub there : {A : Type 0} (p : Plan) (n : ℕ) (step : Site → Part A) → ((s : Site) → Avoids e (step s))
      → Avoids e (at_site p n step)
  there p n step h = by (slice_get p.nodes n)
    where
      by : (t : Option NodePlan)
          → Avoids e (elim t [ Some plan ↦ step (site_of n plan) | None ↦ stopping HasNoStep ])
      by (Some plan) = h (site_of n plan)
      by None = tt

  -- a message goes over from an end
  send : (p : Plan) (r : Role) (f : End) → Avoids e (sends p r f)
  send p Processor f = there p f.node (node_sends f) (λ s half seen. sents s f (link_in half))
  send p Source f = λ messages seen. first_messages f messages
  send p Sink f = tt
  send p Nothing f = tt

  -- a message comes in at an end
  take_in : (p : Plan) (r : Role) (f : End) (message : Store) → Avoids e (receives p r f message)
  take_in p Processor f message =
      there p f.node (node_receives message f) (λ s half seen. receive s f message (link_in half))
  take_in p Sink f message = λ messages seen. keep f message messages
  take_in p Source f message = tt
  take_in p Nothing f message = tt

  -- a process that a wire makes go on has waited for several ones
  fire : (f : End) (x : Name) → Avoids e (fires f x)
  fire f x stood shown = waited e x (stand_in stood) _ shown (λ c another. (tt, (another, tt)))

  -- the step of a wire, by who waits for it and for others
  cross : (p : Plan) (f g : End) (asked : Option Name) → Avoids e (crosses p f g asked)
  cross p f g None =
      andthen e (sends p (role_at p f.node) f) _ (send p (role_at p f.node) f)
      (λ message. andthen e (receives p (role_at p g.node) g message) _ (take_in p (role_at p g.node) g message)
      (λ y. tt))
  cross p f g (Some x) = λ v seen.
      quietly e (require (is_passable (offer_place (role_at p f.node) f) v) HasNoStep) _
      (requires (is_passable (offer_place (role_at p f.node) f) v) HasNoStep) (λ y. fire g x)

  -- the step of a wire
  pub pass : (p : Plan) (f : Option End) (g : End) → Avoids e (passes p f g)
  pass p None g = tt
  pass p (Some f) g =
      quietly e (asks (role_at p g.node) g) _ (ask (role_at p g.node) g) (λ asked. cross p f g asked)
