-- Parts of steps that begin and end no process, and move none to another workspace.
use Rattle.std.proofs.Common.{ℕ, zero, suc, refl, [], ◌∷◌, Bool, true, false, Option, Some, None}
use Rattle.std.specs.Prelude.{negsuc, ◌==◌, not, nat_le, length, slice_get, if◌then◌else◌}
use Rattle.tword.specs.declared.breaks.Break.TheVariants.{Unaligned, WrongEnd, ZeroLength, LinkBusy, LengthMismatch}
use Rattle.tword.specs.declared.breaks.Break.TheVariants.{ChannelMisuse}
use Rattle.tword.specs.declared.span.Span.{Span}
use Rattle.tword.specs.Stores.{Store}
use Rattle.tword.specs.Touches.{Reads, is_aligned, word_place_break}
use Rattle.tproc.specs.declared.channels.Side.{Side}
use Rattle.tproc.specs.declared.channels.Side.TheVariants.{Input, Output}
use Rattle.tproc.specs.Channels.{mode_of}
use Rattle.tproc.specs.LinkChannels.{is_link, is_right_end, link_of}
use Rattle.tplan.specs.declared.plan.End.{End}
use Rattle.tplan.specs.declared.plan.NodePlan.{NodePlan}
use Rattle.tplan.specs.declared.plan.Plan.{Plan}
use Rattle.tplan.specs.Wires.{end_at}
use Rattle.tprocesses.specs.Places.{Name}
use Rattle.tprocesses.specs.Values.{Value, Free, Receiving, Engaged, Context, Lent, Stand, Absent, Rests, Runs, Waits}
use Rattle.tprocesses.specs.Values.{Chooses, Chosen, Listens, Ended, Request, Link, Offered, AreMessages}
use Rattle.tprocesses.specs.Values.{AreKept, stand_in}
use Rattle.tprocesses.specs.Values.{half_in, link_in, flag_in}
use Rattle.tprocesses.specs.Parts.{Part, stopping, require, unless, Breaks, Halts, FullSink, HasNoStep, ◌>>=◌}
use Rattle.tprocesses.specs.Touching.{Site, word_number, word_count, word_for, words_for, unsent, touch, replaced, put}
use Rattle.tprocesses.specs.Touching.{count_outputs, write_word_at, save, forgotten, kept}
use Rattle.tprocesses.specs.Performing.{copied}
use Rattle.tprocesses.specs.Standing.{known, ready, wakes, unsave, takes_back, resumes}
use Rattle.tprocesses.specs.ChannelMessages.{is_nobody, takes_half, meet}
use Rattle.tprocesses.specs.LinkMessages.{is_empty, finished, lends, takes_link, sent_by, node_sends, first_message}
use Rattle.tprocesses.specs.LinkMessages.{received_by, node_receives, keeps}
use Rattle.tprocesses.specs.Scheduling.{communicates, sends_or_receives, sends_from_workspace, laid_down}
use Rattle.tprocesses.specs.Instructions.{jumped, sets_error}
use Rattle.tprocesses.specs.Machine.{Role, Processor, Source, Sink, Nothing, site_of, at_site, sends, receives}
use Rattle.tprocesses.proofs.Quiet.{IsPlain, IsQuiet, quiet_is_plain, Makes, both, widen, Quiet, requires, unlesses}
use Rattle.tprocesses.proofs.Quiet.{touches, words_have, all_have, puts, counts, writes_at, saves, unsents, copies}
use Rattle.tprocesses.proofs.Quiet.{unsaves, knows, lend}

-- a part that makes plain changes alone
abbrev pub Plain : {A : Type 0} → Part A → Type 0
Plain part = Makes IsPlain part

andthen : {A B : Type 0} (part : Part A) (f : A → Part B) → Plain part → ((x : A) → Plain (f x)) → Plain (part >>= f)
andthen part f h k = both IsPlain part f h k

-- quiet parts are plain
pub plain : {A : Type 0} (part : Part A) → Quiet part → Plain part
plain part h = widen IsQuiet IsPlain part quiet_is_plain h

pub quietly : {A B : Type 0} (part : Part A) (f : A → Part B) → Quiet part → ((x : A) → Plain (f x))
    → Plain (part >>= f)
quietly part f h k = andthen part f (plain part h) k

pub chooses : {A : Type 0} (b : Bool) (x y : Part A) → Plain x → Plain y → Plain (if b then x else y)
chooses true x y h k = h
chooses false x y h k = k

readies : (stand : Stand) (x : Name) (lent : Option Lent) → Plain (ready stand x lent)
readies Absent x lent = tt
readies (Rests c) x lent = tt
readies (Runs c) x lent = tt
readies (Waits c) x lent = (tt, tt)
readies (Chooses c) x lent = tt
readies (Chosen c) x lent = tt
readies (Listens channel c) x lent = tt
readies Ended x lent = tt

wake : (x : Name) (lent : Option Lent) → Plain (wakes x lent)
wake x lent stood = readies (stand_in stood) x lent

take_back : (s : Site) (lent : Option Lent) → Plain (takes_back s lent)
take_back s None = tt
take_back s (Some l) =
    quietly (count_outputs s (negsuc 0) l.buffer) _ (counts s (negsuc 0) l.buffer)
    (λ y unfinished. quietly (require (flag_in unfinished) HasNoStep) _ (requires (flag_in unfinished) HasNoStep)
    (λ z. (tt, tt)))

pub resume : (s : Site) (x : Name) (c : Context) → Plain (resumes s x c)
resume s x c =
    quietly (unsave s c.wptr) _ (unsaves s c.wptr)
    (λ y. andthen (takes_back s c.lent) _ (take_back s c.lent) (λ z. (tt, tt)))

-- messages on channels
take_half : (s : Site) (x : Name) (c : Context) (side : Side) (channel : ℕ) (buffer : Span)
    → Plain (takes_half s x c side channel buffer)
take_half s x c side channel buffer =
    quietly (unless (word_place_break s.size channel)) _ (unlesses (word_place_break s.size channel))
    (λ y half. quietly (require (is_nobody (half_in half)) (Breaks ChannelMisuse)) _
    (requires (is_nobody (half_in half)) (Breaks ChannelMisuse))
    (λ z. (
      tt,
      quietly (unsent s (word_number channel)) _ (unsents s (word_number channel))
          (λ u. quietly (save s c.wptr forgotten) _ (saves s c.wptr forgotten)
          (λ v. (tt, quietly (touch s (mode_of side) buffer) _ (touches s (mode_of side) buffer) (λ words. (tt, tt))))),
    )))

pub meets : (s : Site) (channel : ℕ) (input output : Request) → Plain (meet s channel input output)
meets s channel input output =
    quietly (require (input.buffer.size == output.buffer.size) (Breaks LengthMismatch)) _
    (requires (input.buffer.size == output.buffer.size) (Breaks LengthMismatch))
    (λ y. quietly (word_for s Engaged (word_number channel)) _ (words_have s Engaged (word_number channel))
    (λ z. (
      tt,
      quietly (copied s output.buffer input.buffer) _ (copies s output.buffer input.buffer)
          (λ u. andthen (wakes input.process None) _ (wake input.process None)
          (λ v. andthen (wakes output.process None) _ (wake output.process None) (λ w. (tt, (tt, tt))))),
    )))

-- messages on links
pub finish : (side : Side) (e : End) → Quiet (finished side e)
finish Output e = λ unfinished. requires (not (flag_in unfinished)) (Breaks LinkBusy)
finish Input e = tt

take_link : (s : Site) (x : Name) (c : Context) (side : Side) (channel : ℕ) (buffer : Span)
    → Plain (takes_link s x c side channel buffer)
take_link s x c side channel buffer =
    quietly (require (is_aligned channel) (Breaks Unaligned)) _ (requires (is_aligned channel) (Breaks Unaligned))
    (λ y. quietly (require (is_right_end side channel) (Breaks WrongEnd)) _
    (requires (is_right_end side channel) (Breaks WrongEnd))
    (λ z. quietly (require (not (buffer.size == 0)) (Breaks ZeroLength)) _
    (requires (not (buffer.size == 0)) (Breaks ZeroLength))
    (λ u pending. quietly (require (is_empty (link_in pending)) (Breaks LinkBusy)) _
    (requires (is_empty (link_in pending)) (Breaks LinkBusy))
    (λ v. quietly (finished side (end_at s.number (link_of side channel))) _
    (finish side (end_at s.number (link_of side channel)))
    (λ l. (
      tt,
      quietly (save s c.wptr kept) _ (saves s c.wptr kept)
          (λ w. quietly (lends side s buffer) _ (lend side s buffer) (λ r. (tt, tt))),
    ))))))

sents : (s : Site) (f : End) (l : Link) → Plain (sent_by s f l)
sents s f (Offered output) =
    quietly (touch s Reads output.buffer) _ (touches s Reads output.buffer)
    (λ words. (
      tt,
      (
        tt,
        andthen (wakes output.process (Some (record { link = f.link; buffer = output.buffer }))) _
            (wake output.process (Some (record { link = f.link; buffer = output.buffer }))) (λ y. tt),
      ),
    ))
sents s f _ = tt

first_messages : (f : End) (v : Value) → Plain (first_message f v)
first_messages f (AreMessages (m ∷ rest)) = (tt, tt)
first_messages f (AreMessages []) = tt
first_messages f _ = tt

receive : (s : Site) (e : End) (message : Store) (l : Link) → Plain (received_by s e message l)
receive s e message (Offered input) =
    quietly (require (input.buffer.size == length message) (Breaks LengthMismatch)) _
    (requires (input.buffer.size == length message) (Breaks LengthMismatch))
    (λ y. quietly (words_for s Receiving (word_number input.buffer.start) (word_count input.buffer)) _
    (all_have s Receiving (word_number input.buffer.start) (word_count input.buffer))
    (λ words. quietly (put s Free input.buffer (replaced input.buffer words message)) _
    (puts s Free input.buffer (replaced input.buffer words message))
    (λ z. (tt, wake input.process None))))
receive s e message _ = tt

keep : (e : End) (message : Store) (v : Value) → Plain (keeps e message v)
keep e message (AreKept room messages) =
    quietly (require (nat_le (length message) room) FullSink) _ (requires (nat_le (length message) room) FullSink)
    (λ y. (tt, tt))
keep e message _ = tt

pub communicate : (s : Site) (x : Name) (c : Context) (side : Side) (channel : ℕ) (buffer : Span)
    → Plain (communicates s x c side channel buffer)
communicate s x c side channel buffer =
    chooses (is_link channel) _ _ (take_link s x c side channel buffer) (take_half s x c side channel buffer)

pub send_or_receive : (side : Side) (s : Site) (x : Name) (c : Context) → Plain (sends_or_receives side s x c)
send_or_receive side s x c =
    quietly (known c.a) _ (knows c.a)
    (λ size. quietly (known c.b) _ (knows c.b)
    (λ channel. quietly (known c.c) _ (knows c.c)
    (λ buffer. communicate s x c side channel (record { start = buffer; size = size }))))

pub send_from : (size : ℕ) (s : Site) (x : Name) (c : Context) → Plain (sends_from_workspace size s x c)
send_from size s x c =
    quietly (known c.b) _ (knows c.b)
    (λ channel. quietly (write_word_at s c.wptr (laid_down c.a)) _ (writes_at s c.wptr (laid_down c.a))
    (λ y. communicate s x c Output channel (record { start = c.wptr; size = size })))

pub jump : (priority : ℕ) (s : Site) (x : Name) (c : Context) → Plain (jumped priority s x c)
jump zero s x c = (tt, tt)
jump (suc q) s x c = quietly (save s c.wptr kept) _ (saves s c.wptr kept) (λ y. (tt, tt))

pub set_error : (s : Site) (x : Name) (c : Context) → Plain (sets_error s x c)
set_error s x c halting =
    quietly (require (not (flag_in halting)) Halts) _ (requires (not (flag_in halting)) Halts)
    (λ y. (tt, (refl, (tt, tt))))

pub there : {A : Type 0} (p : Plan) (n : ℕ) (step : Site → Part A) → ((s : Site) → Plain (step s))
    → Plain (at_site p n step)
there p n step h = by (slice_get p.nodes n)
  where
    by : (t : Option NodePlan)
        → Plain (elim t [ Some plan ↦ step (site_of n plan) | None ↦ stopping HasNoStep ])
    by (Some plan) = h (site_of n plan)
    by None = tt

pub send : (p : Plan) (r : Role) (f : End) → Plain (sends p r f)
send p Processor f = there p f.node (node_sends f) (λ s half. sents s f (link_in half))
send p Source f = λ messages. first_messages f messages
send p Sink f = tt
send p Nothing f = tt

pub take_in : (p : Plan) (r : Role) (e : End) (message : Store) → Plain (receives p r e message)
take_in p Processor e message =
    there p e.node (node_receives message e) (λ s half. receive s e message (link_in half))
take_in p Sink e message = λ messages. keep e message messages
take_in p Source e message = tt
take_in p Nothing e message = tt
