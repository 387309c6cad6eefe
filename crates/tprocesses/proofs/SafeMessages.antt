-- Messages spare the gates of others.
use Rattle.std.proofs.Common.{◌≡◌, ℕ, refl, sym, true, false, [], ◌∷◌, ◌++◌, length, replicate, Some, None}
use Rattle.std.proofs.Common.{true≢false}
use Rattle.std.specs.Prelude.{◌==◌, ◌-◌, nat_le, not, pos}
use Rattle.tword.specs.declared.breaks.Break.TheVariants.{LengthMismatch, ChannelMisuse, Unaligned, WrongEnd}
use Rattle.tword.specs.declared.breaks.Break.TheVariants.{ZeroLength, LinkBusy}
use Rattle.tword.specs.declared.span.Span.{Span}
use Rattle.tword.specs.Stores.{Store, as_cells}
use Rattle.tword.specs.Touches.{Reads, Writes, is_aligned, word_place_break}
use Rattle.tproc.specs.declared.channels.Side.{Side}
use Rattle.tproc.specs.declared.channels.Side.TheVariants.{Input, Output}
use Rattle.tproc.specs.Channels.{mode_of}
use Rattle.tproc.specs.Queues.{not_process}
use Rattle.tproc.specs.LinkChannels.{link_of, is_right_end}
use Rattle.tplan.specs.declared.plan.End.{End}
use Rattle.tplan.specs.declared.plan.Plan.{Plan}
use Rattle.tplan.specs.Wires.{end_at}
use Rattle.tprocesses.specs.Places.{Place, Name, Half, LinkHalf, Unfinished, Messages, Kept}
use Rattle.tprocesses.specs.Values.{Free, Receiving, Engaged, Context, Waits, Request, Holder, Nobody, TakenBy}
use Rattle.tprocesses.specs.Values.{AwaitedBy, Link, Empty, Offered, Value, IsWord, IsHalf, IsLink, IsFlag}
use Rattle.tprocesses.specs.Values.{AreMessages, AreKept, half_in, link_in, flag_in}
use Rattle.tprocesses.specs.Changes.{Put, free_word}
use Rattle.tprocesses.specs.Parts.{change, Breaks, FullSink, HasNoStep}
use Rattle.tprocesses.specs.Touching.{Site, word_number, word_count, word_place, part_of, replaced, kept, forgotten}
use Rattle.tprocesses.specs.Standing.{forget}
use Rattle.tprocesses.specs.ChannelMessages.{is_nobody, takes_half, meet, meet_if, channel_step}
use Rattle.tprocesses.specs.LinkMessages.{is_empty, finished, lends, takes_link, sent_by, node_sends, first_message}
use Rattle.tprocesses.specs.LinkMessages.{source_sends, received_by, node_receives, keeps, sink_receives}
use Rattle.tprocesses.specs.Machine.{Agent, is_due_at, is_met_at}
use Rattle.tprocesses.proofs.Gates.{half_shut, link_shut, unfinished_is_free}
use Rattle.tprocesses.proofs.Safe.{Seen, Anything, Shut, Safely, andthen, nothing, stops, sees}
use Rattle.tprocesses.proofs.Safe.{sees_fine, lighter, requires, requires_fine, unless_fine, puts, engages}
use Rattle.tprocesses.proofs.SafeTouches.{unsent_safe, touch_safe, put_safe, save_safe, word_for_safe}
use Rattle.tprocesses.proofs.SafeTouches.{words_for_safe, count_outputs_safe, still}
use Rattle.tprocesses.proofs.SafeChoices.{lets_go_on_safe}
use Rattle.tprocesses.proofs.SafeParts.{IsOwn, touch_fine, copied_fine, stands_safe, wakes_fine}

module _ (p : Plan) (a : Agent) where
  nobody_met : (n c : ℕ) (side : Side) (h : Holder) → is_nobody h ≡ true → is_met_at (Half n c side) h ≡ false
  nobody_met n c Input Nobody h = refl
  nobody_met n c Output Nobody h = refl
  nobody_met n c side _ h = absurd (true≢false (sym h))

  pub takes_half_safe : {K : Seen → Type 0} (s : Site) (x : Name) (c : Context) (side : Side) (channel : ℕ)
      (buffer : Span) → IsOwn p a x → Safely p a K (takes_half s x c side channel buffer) Anything
  takes_half_safe s x c side channel buffer own = let q = Half s.number channel side in
      andthen p a (unless_fine p a (word_place_break s.size channel))
      (λ y. andthen p a (sees p a q)
      (λ half. andthen p a (requires p a (is_nobody (half_in half)) (Breaks ChannelMisuse))
      (λ z. andthen p a
      (puts p a q (IsHalf (TakenBy (record { process = x; buffer = buffer })))
      (λ t k. k.1 (half_shut p a s.number channel side half (nobody_met s.number channel side (half_in half) k.0))))
      (λ u. andthen p a (unsent_safe p a s (word_number channel))
      (λ v. andthen p a (save_safe p a s c.wptr forgotten)
      (λ w. andthen p a (engages p a (word_place s channel))
      (λ r. andthen p a (touch_fine p a s (mode_of side) buffer)
      (λ words. stands_safe p a x (Waits (forget c)) own))))))))

  -- a place is the agent's own
  abbrev pub IsMine : Place → Type 0
  IsMine q = (t : Seen) → Shut p a q t

  pub puts_mine : {K : Seen → Type 0} (q : Place) (v : Value) → IsMine q
      → Safely p a K (change q (Put v)) Anything
  puts_mine q v own = puts p a q v (λ t k. own t)

  meet_safe : {K : Seen → Type 0} (s : Site) (channel : ℕ) (input output : Request)
      → ((side : Side) → IsMine (Half s.number channel side)) → Safely p a K (meet s channel input output) Anything
  meet_safe s channel input output own =
      andthen p a (requires_fine p a (input.buffer.size == output.buffer.size) (Breaks LengthMismatch))
      (λ y. andthen p a (word_for_safe p a s Engaged (word_number channel) refl)
      (λ z. andthen p a (puts p a (word_place s channel) (IsWord (free_word not_process)) (λ t k. k))
      (λ u. andthen p a (copied_fine p a s output.buffer input.buffer)
      (λ v. andthen p a (wakes_fine p a input.process None)
      (λ w. andthen p a (wakes_fine p a output.process None)
      (λ r. andthen p a (puts_mine (Half s.number channel Input) (IsHalf Nobody) (own Input))
      (λ k. puts_mine (Half s.number channel Output) (IsHalf Nobody) (own Output))))))))

  meet_if_safe : {K : Seen → Type 0} (s : Site) (channel : ℕ) (input output : Holder)
      → ((side : Side) → IsMine (Half s.number channel side)) → Safely p a K (meet_if s channel input output) Anything
  meet_if_safe s channel (TakenBy input) (TakenBy output) own = meet_safe s channel input output own
  meet_if_safe s channel (AwaitedBy x) (TakenBy output) own = lets_go_on_safe p a s channel x (own Input)
  meet_if_safe s channel _ _ own = stops p a HasNoStep

  pub channel_step_safe : {K : Seen → Type 0} (channel : ℕ) (s : Site)
      → ((side : Side) → IsMine (Half s.number channel side)) → Safely p a K (channel_step channel s) Anything
  channel_step_safe channel s own =
      andthen p a (sees_fine p a (Half s.number channel Input))
      (λ input. andthen p a (sees_fine p a (Half s.number channel Output))
      (λ output. meet_if_safe s channel (half_in input) (half_in output) own))

  lends_safe : {K : Seen → Type 0} (side : Side) (s : Site) (buffer : Span)
      → Safely p a K (lends side s buffer) Anything
  lends_safe Output s buffer =
      andthen p a (touch_fine p a s Reads buffer) (λ words. count_outputs_safe p a s (pos 1) buffer)
  lends_safe Input s buffer =
      andthen p a (touch_safe p a s Writes buffer)
      (λ words. put_safe p a s Receiving buffer (replaced buffer words (replicate buffer.size None)))

  empty_shut : (side : Side) (l : Link) → is_empty l ≡ true → is_due_at side l ≡ false
  empty_shut Input Empty h = refl
  empty_shut Output Empty h = refl
  empty_shut side _ h = absurd (true≢false (sym h))

  finished_fine : {K : Seen → Type 0} (side : Side) (e : End) → Safely p a K (finished side e) Anything
  finished_fine Output e =
      andthen p a (sees_fine p a (Unfinished e))
      (λ unfinished. requires_fine p a (not (flag_in unfinished)) (Breaks LinkBusy))
  finished_fine Input e = nothing p a tt (λ t k. tt)

  pub takes_link_safe : {K : Seen → Type 0} (s : Site) (x : Name) (c : Context) (side : Side) (channel : ℕ)
      (buffer : Span) → IsOwn p a x → Safely p a K (takes_link s x c side channel buffer) Anything
  takes_link_safe s x c side channel buffer own =
      let e = end_at s.number (link_of side channel) in
      andthen p a (requires_fine p a (is_aligned channel) (Breaks Unaligned))
      (λ y. andthen p a (requires_fine p a (is_right_end side channel) (Breaks WrongEnd))
      (λ z. andthen p a (requires_fine p a (not (buffer.size == 0)) (Breaks ZeroLength))
      (λ u. andthen p a (sees p a (LinkHalf e side))
      (λ pending. andthen p a
      (lighter p a (λ t k. k) (λ v t k. k.1 (link_shut p a e side pending (empty_shut side (link_in pending) k.0)))
      (requires p a (is_empty (link_in pending)) (Breaks LinkBusy)))
      (λ v. andthen p a (still p a (LinkHalf e side) (finished_fine side e))
      (λ l. andthen p a
      (puts p a (LinkHalf e side) (IsLink (Offered (record { process = x; buffer = buffer }))) (λ t k. k))
      (λ w. andthen p a (save_safe p a s c.wptr kept)
      (λ r. andthen p a (lends_safe side s buffer)
      (λ k. stands_safe p a x (Waits (forget c)) own)))))))))

  sent_by_safe : {K : Seen → Type 0} (s : Site) (f : End) (l : Link) → IsMine (LinkHalf f Output)
      → Safely p a K (sent_by s f l) Anything
  sent_by_safe s f (Offered output) own =
      andthen p a (touch_fine p a s Reads output.buffer)
      (λ words. andthen p a (puts_mine (LinkHalf f Output) (IsLink Empty) own)
      (λ u. andthen p a (puts_mine (Unfinished f) (IsFlag true) (unfinished_is_free p a f))
      (λ y. andthen p a (wakes_fine p a output.process (Some (record { link = f.link; buffer = output.buffer })))
      (λ z. nothing p a (part_of output.buffer words) (λ t k. tt)))))
  sent_by_safe s f _ own = stops p a HasNoStep

  pub node_sends_safe : {K : Seen → Type 0} (f : End) (s : Site) → IsMine (LinkHalf f Output)
      → Safely p a K (node_sends f s) Anything
  node_sends_safe f s own =
      andthen p a (sees_fine p a (LinkHalf f Output)) (λ half. sent_by_safe s f (link_in half) own)

  first_message_safe : {K : Seen → Type 0} (f : End) (v : Value) → IsMine (Messages f)
      → Safely p a K (first_message f v) Anything
  first_message_safe f (AreMessages (m ∷ rest)) own =
      andthen p a (puts_mine (Messages f) (AreMessages rest) own) (λ y. nothing p a (as_cells m) (λ t k. tt))
  first_message_safe f (AreMessages []) own = stops p a HasNoStep
  first_message_safe f _ own = stops p a HasNoStep

  pub source_sends_safe : {K : Seen → Type 0} (f : End) → IsMine (Messages f)
      → Safely p a K (source_sends f) Anything
  source_sends_safe f own = andthen p a (sees_fine p a (Messages f)) (λ v. first_message_safe f v own)

  received_by_safe : {K : Seen → Type 0} (s : Site) (e : End) (message : Store) (l : Link) → IsMine (LinkHalf e Input)
      → Safely p a K (received_by s e message l) Anything
  received_by_safe s e message (Offered input) own =
      andthen p a (requires_fine p a (input.buffer.size == length message) (Breaks LengthMismatch))
      (λ y. andthen p a
      (words_for_safe p a s Receiving (word_number input.buffer.start) (word_count input.buffer) refl)
      (λ words. andthen p a (put_safe p a s Free input.buffer (replaced input.buffer words message))
      (λ z. andthen p a (puts_mine (LinkHalf e Input) (IsLink Empty) own)
      (λ u. wakes_fine p a input.process None))))
  received_by_safe s e message _ own = stops p a HasNoStep

  pub node_receives_safe : {K : Seen → Type 0} (message : Store) (e : End) (s : Site) → IsMine (LinkHalf e Input)
      → Safely p a K (node_receives message e s) Anything
  node_receives_safe message e s own =
      andthen p a (sees_fine p a (LinkHalf e Input)) (λ half. received_by_safe s e message (link_in half) own)

  keeps_safe : {K : Seen → Type 0} (e : End) (message : Store) (v : Value) → IsMine (Kept e)
      → Safely p a K (keeps e message v) Anything
  keeps_safe e message (AreKept room messages) own =
      andthen p a (requires_fine p a (nat_le (length message) room) FullSink)
      (λ y. puts_mine (Kept e) (AreKept (room - length message) (messages ++ message ∷ [])) own)
  keeps_safe e message _ own = stops p a HasNoStep

  pub sink_receives_safe : {K : Seen → Type 0} (message : Store) (e : End) → IsMine (Kept e)
      → Safely p a K (sink_receives message e) Anything
  sink_receives_safe message e own = andthen p a (sees_fine p a (Kept e)) (λ v. keeps_safe e message v own)
