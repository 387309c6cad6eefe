-- Alternatives: a process enables channels and inputs of links, waits until one of them has a sender, and disables
-- them. The one that has a sender makes the process go on, where no other one has.
-- Source: the Compiler Writer's Guide (1988): the words of an alternative, enabling and disabling. That a process waits
-- beside its senders, and the checks: own choice.
use Rattle.std.specs.Prelude.{ℕ, ◌==◌, ◌||◌, Bool, true, false, not, List, [], ◌∷◌, filter, Option, Some, None}
use Rattle.std.specs.Prelude.{if◌then◌else◌}
use Rattle.std.specs.List.{list_any}
use Rattle.std.specs.Int.{w32, to_le_bytes}
use Rattle.tword.specs.declared.breaks.Break.TheVariants.{ChannelMisuse, LinkBusy, Unaligned, WrongEnd}
use Rattle.tword.specs.Stores.{as_cells}
use Rattle.tword.specs.Words.{plus, word_below}
use Rattle.tword.specs.Touches.{Reads, Writes, is_aligned, word_place_break}
use Rattle.tcpu.specs.Outcomes.{flag}
use Rattle.tproc.specs.declared.channels.Side.TheVariants.{Input, Output}
use Rattle.tproc.specs.Alternatives.{none_selected}
use Rattle.tproc.specs.LinkChannels.{is_link, is_right_end, link_of}
use Rattle.tproc.specs.Queues.{state_word, not_process}
use Rattle.tplan.specs.declared.plan.End.{End}
use Rattle.tplan.specs.Wires.{end_at}
use Rattle.tprocesses.specs.Places.{Place, Name, Standing, Ports, Half, LinkHalf, same_name}
use Rattle.tprocesses.specs.Values.{Use, Free, Engaged, Choosing, Awaiting, Choice}
use Rattle.tprocesses.specs.Values.{Context, Stand, Chooses, Chosen, Listens, Holder, Nobody, Link, Empty, Enabled}
use Rattle.tprocesses.specs.Values.{Awaited, Fired, IsLink, link_in}
use Rattle.tprocesses.specs.Values.{TakenBy, EnabledBy, AwaitedBy, IsWord, IsHalf, ArePorts, stand_in, half_in}
use Rattle.tprocesses.specs.Values.{ports_in}
use Rattle.tprocesses.specs.Changes.{Put, Engage, free_word, known_word, used_word}
use Rattle.tprocesses.specs.Parts.{Part, gives, stopping, Doing, done, see, change, require, unless, Breaks}
use Rattle.tprocesses.specs.Parts.{SeveralReady, WordInUse, HasNoStep, ◌>>=◌, ◌>>◌}
use Rattle.tprocesses.specs.Touching.{Site, word_number, word_place, word_for, unsent, touch_word_at, write_word_at}
use Rattle.tprocesses.specs.Touching.{save_upper}
use Rattle.tprocesses.specs.Standing.{stands, goes_on, known, forget, unsave_upper}

-- the word that has the state of an alternative
abbrev pub state_address : Context → ℕ
state_address c = word_below c.wptr state_word

-- the alternative that is under way, if there is one
abbrev pub choice_of : Option Choice → Part Choice
choice_of (Some choice) = gives choice
choice_of None = stopping WordInUse

-- the alternative that is under way, and whose word is still in use for it
abbrev pub under_way : Site → Context → Part Choice
under_way s c = do
  choice ← choice_of c.choice
  unless (word_place_break s.size (state_address c))
  _ ← word_for s Choosing (word_number (state_address c))
  unsent s (word_number (state_address c))
  gives choice

-- with an alternative that is under way. skips: it need not wait
abbrev pub with_choice : (skips : Bool) → Context → Context
with_choice skips c = record c { choice = Some (record { skips = skips }) }

-- a channel is one of these
abbrev pub has_port : (channel : ℕ) → List ℕ → Bool
has_port channel ports = list_any (λ d. d == channel) ports

abbrev pub with_port : (channel : ℕ) → List ℕ → List ℕ
with_port channel ports = if has_port channel ports then ports else channel ∷ ports

abbrev pub without_port : (channel : ℕ) → List ℕ → List ℕ
without_port channel ports = filter (λ d. not (d == channel)) ports

-- no channel is enabled
abbrev pub has_none : List ℕ → Bool
has_none [] = true
has_none (d ∷ rest) = false

-- the channels that a process has enabled change
abbrev pub changes_ports : Name → (List ℕ → List ℕ) → Doing
changes_ports x next = do
  ports ← see (Ports x)
  change (Ports x) (Put (ArePorts (next (ports_in ports))))

-- `alt`
abbrev pub begins_choice : Site → Name → Context → Doing
begins_choice s x c = do
  _ ← touch_word_at s Writes (state_address c)
  change (word_place s (state_address c)) (Put (IsWord (used_word Choosing)))
  goes_on x (with_choice false c)

-- the input of a channel is enabled, by who has it
abbrev pub enables_held : Site → Name → (channel : ℕ) → Holder → Doing
enables_held s x channel Nobody = do
  change (Half s.number channel Input) (Put (IsHalf (EnabledBy x)))
  unsent s (word_number channel)
  change (word_place s channel) Engage
enables_held s x channel (EnabledBy y) = do
  require (same_name y x) (Breaks ChannelMisuse)
  unsent s (word_number channel)
enables_held s x channel _ = stopping (Breaks ChannelMisuse)

-- a channel is enabled, without a look at its sender
abbrev pub enables : Site → Name → (channel : ℕ) → Doing
enables s x channel = do
  unless (word_place_break s.size channel)
  half ← see (Half s.number channel Input)
  enables_held s x channel (half_in half)
  changes_ports x (with_port channel)

-- the channel below the guard is dropped
abbrev pub drop_channel : Context → Context
drop_channel c = record c { b = c.c }

-- the place of the input of a link that a channel word names
abbrev pub input_of : Site → (channel : ℕ) → Place
input_of s channel = LinkHalf (end_at s.number (link_of Input channel)) Input

-- a channel word names the input of a link
abbrev pub is_input : (channel : ℕ) → Doing
is_input channel = do
  require (is_aligned channel) (Breaks Unaligned)
  require (is_right_end Input channel) (Breaks WrongEnd)

-- the input of a link is enabled, by what is pending there
abbrev pub enables_pending : Site → Name → (channel : ℕ) → Link → Doing
enables_pending s x channel Empty = change (input_of s channel) (Put (IsLink (Enabled x)))
enables_pending s x channel (Enabled y) = require (same_name y x) (Breaks LinkBusy)
enables_pending s x channel _ = stopping (Breaks LinkBusy)

-- the input of a link is enabled, without a look at the far end
abbrev pub enables_link : Site → Name → (channel : ℕ) → Doing
enables_link s x channel = do
  is_input channel
  pending ← see (input_of s channel)
  enables_pending s x channel (link_in pending)
  changes_ports x (with_port channel)

-- `enbc` with a guard that is true
abbrev pub enables_port : Site → Name → Context → Doing
enables_port s x c = do
  channel ← known c.b
  (if is_link channel then enables_link s x channel else enables s x channel)
  goes_on x (drop_channel c)

-- `enbc`
abbrev pub enables_channel : Site → Name → Context → Doing
enables_channel s x c = do
  _ ← under_way s c
  guard ← known c.a
  (if guard == 0 then goes_on x (drop_channel c) else enables_port s x c)

-- `enbs`
abbrev pub enables_skip : Site → Name → Context → Doing
enables_skip s x c = do
  choice ← under_way s c
  guard ← known c.a
  goes_on x (with_choice (choice.skips || not (guard == 0)) c)

-- a process has enabled the input of a channel
abbrev pub is_enabled_by : Name → Holder → Bool
is_enabled_by x (EnabledBy y) = same_name y x
is_enabled_by x _ = false

-- a process has enabled the input of a link
abbrev pub is_enabled_on : Name → Link → Bool
is_enabled_on x (Enabled y) = same_name y x
is_enabled_on x _ = false

-- a process waits for a channel that it has enabled
abbrev pub awaits_channel : Site → Name → (channel : ℕ) → Doing
awaits_channel s x channel = do
  half ← see (Half s.number channel Input)
  require (is_enabled_by x (half_in half)) (Breaks ChannelMisuse)
  change (Half s.number channel Input) (Put (IsHalf (AwaitedBy x)))

-- a process waits for the input of a link that it has enabled
abbrev pub awaits_link : Site → Name → (channel : ℕ) → Doing
awaits_link s x channel = do
  pending ← see (input_of s channel)
  require (is_enabled_on x (link_in pending)) (Breaks LinkBusy)
  change (input_of s channel) (Put (IsLink (Awaited x)))

-- a process waits for channels that it has enabled
abbrev pub awaits_ports : Site → Name → List ℕ → Doing
awaits_ports s x [] = done
awaits_ports s x (channel ∷ rest) = do
  (if is_link channel then awaits_link s x channel else awaits_channel s x channel)
  awaits_ports s x rest

-- the word of the state changes its use
abbrev pub changes_use : Site → Context → (old new : Use) → Doing
changes_use s c old new = do
  _ ← word_for s old (word_number (state_address c))
  change (word_place s (state_address c)) (Put (IsWord (used_word new)))

-- `altwt` where no guard need not wait
abbrev pub waits_for_ports : Site → Name → Context → Doing
waits_for_ports s x c = do
  ports ← see (Ports x)
  awaits_ports s x (ports_in ports)
  changes_use s c Choosing Awaiting
  save_upper s c.wptr
  stands x (Chooses (forget c))

-- `altwt`
abbrev pub awaits_choice : Site → Name → Context → Doing
awaits_choice s x c = do
  write_word_at s c.wptr (as_cells (to_le_bytes w32 none_selected))
  choice ← under_way s c
  (if choice.skips then goes_on x c else waits_for_ports s x c)

-- a process that has waited goes on
abbrev pub goes_on_chosen : Site → Name → Context → Doing
goes_on_chosen s x c = do
  changes_use s c Awaiting Choosing
  unsave_upper s c.wptr
  goes_on x c

-- a half of a channel has a process that waits for a message
abbrev pub is_taken : Holder → Bool
is_taken (TakenBy request) = true
is_taken _ = false

-- a process waits for the channel, and for others
abbrev pub is_awaited : Holder → Bool
is_awaited (AwaitedBy x) = true
is_awaited _ = false

-- whether a channel is ready that its process disables, by whether a message is sent. One for which the process has
-- waited did not make it go on, so it is not
abbrev pub readiness : Name → (sent : Bool) → Holder → Part Bool
readiness x sent (EnabledBy y) = do
  require (same_name y x) (Breaks ChannelMisuse)
  gives sent
readiness x sent (AwaitedBy y) = do
  require (same_name y x) (Breaks ChannelMisuse)
  require (not sent) SeveralReady
  gives false
readiness x sent _ = stopping (Breaks ChannelMisuse)

-- a channel word names no process any more, unless a sender waits
abbrev pub frees_word : Site → (channel : ℕ) → (ready : Bool) → Doing
frees_word s channel true = done
frees_word s channel false = change (word_place s channel) (Put (IsWord (free_word not_process)))

-- a channel is disabled: whether it is ready
abbrev pub disables : Site → Name → (channel : ℕ) → Part Bool
disables s x channel = do
  unless (word_place_break s.size channel)
  input ← see (Half s.number channel Input)
  output ← see (Half s.number channel Output)
  ready ← readiness x (is_taken (half_in output)) (half_in input)
  change (Half s.number channel Input) (Put (IsHalf Nobody))
  _ ← word_for s Engaged (word_number channel)
  unsent s (word_number channel)
  frees_word s channel ready
  changes_ports x (without_port channel)
  gives ready

-- a guard is the first that is ready
abbrev pub is_first : (ready : Bool) → (selected : Option ℕ) → Part Bool
is_first true selected = known selected >>= (λ v. gives (v == none_selected))
is_first false selected = gives false

-- the offset of the guard that is chosen is kept at the workspace
abbrev pub sets_offset : Site → Context → (chosen : Bool) → Doing
sets_offset s c true = known c.a >>= (λ v. change (word_place s c.wptr) (Put (IsWord (free_word v))))
sets_offset s c false = done

-- two registers are dropped, and whether the guard is chosen is left
abbrev pub answers : Bool → Context → Context
answers chosen c = record c { a = Some (flag chosen); b = c.c }

-- a guard that is ready is chosen where none was before it
abbrev pub selects : Site → Name → Context → (ready : Bool) → Doing
selects s x c ready = do
  cells ← touch_word_at s Writes c.wptr
  chosen ← is_first ready (known_word cells)
  sets_offset s c chosen
  goes_on x (answers chosen c)

-- a process gives up the input of a link
abbrev pub gives_up_link : Site → Name → (channel : ℕ) → Doing
gives_up_link s x channel = do
  change (input_of s channel) (Put (IsLink Empty))
  changes_ports x (without_port channel)

-- the guard of a link that did not make its process go on is not ready. The process has to listen
abbrev pub begins_to_listen : Site → Name → Context → (channel : ℕ) → Doing
begins_to_listen s x c channel = do
  _ ← touch_word_at s Writes c.wptr
  stands x (Listens channel (answers false c))

-- the input of a link is disabled, by what is pending there: it is ready if it made the process go on
abbrev pub disables_pending : Site → Name → Context → (channel : ℕ) → Link → Doing
disables_pending s x c channel (Fired y) = do
  require (same_name y x) (Breaks LinkBusy)
  gives_up_link s x channel
  selects s x c true
disables_pending s x c channel (Enabled y) = do
  require (same_name y x) (Breaks LinkBusy)
  begins_to_listen s x c channel
disables_pending s x c channel (Awaited y) = do
  require (same_name y x) (Breaks LinkBusy)
  begins_to_listen s x c channel
disables_pending s x c channel _ = stopping (Breaks LinkBusy)

-- the input of a link is disabled
abbrev pub disables_link : Site → Name → Context → (channel : ℕ) → Doing
disables_link s x c channel = do
  is_input channel
  pending ← see (input_of s channel)
  disables_pending s x c channel (link_in pending)

-- an internal channel is disabled
abbrev pub disables_internal : Site → Name → Context → (channel : ℕ) → Doing
disables_internal s x c channel = do
  ready ← disables s x channel
  selects s x c ready

-- `disc` with a guard that is true. A channel that is disabled before `altwt` would leave its alternative ready without
-- it, so the alternative must be one that need not wait
abbrev pub disables_port : Site → Name → Context → Choice → Doing
disables_port s x c choice = do
  require choice.skips WordInUse
  channel ← known c.c
  (if is_link channel then disables_link s x c channel else disables_internal s x c channel)

-- a process has enabled the input of a link, which did not make it go on
abbrev pub is_unfired_by : Name → Link → Bool
is_unfired_by x (Enabled y) = same_name y x
is_unfired_by x (Awaited y) = same_name y x
is_unfired_by x _ = false

-- a process that has listened goes on
abbrev pub goes_on_unfired : Site → Name → (channel : ℕ) → Context → Doing
goes_on_unfired s x channel c = do
  pending ← see (input_of s channel)
  require (is_unfired_by x (link_in pending)) HasNoStep
  gives_up_link s x channel
  goes_on x c

-- `disc`
abbrev pub disables_channel : Site → Name → Context → Doing
disables_channel s x c = do
  choice ← choice_of c.choice
  guard ← known c.b
  (if guard == 0 then selects s x c false else disables_port s x c choice)

-- `diss`
abbrev pub disables_skip : Site → Name → Context → Doing
disables_skip s x c = do
  _ ← choice_of c.choice
  guard ← known c.b
  selects s x c (not (guard == 0))

-- `altend`
abbrev pub ends_choice : Site → Name → Context → Doing
ends_choice s x c = do
  _ ← under_way s c
  ports ← see (Ports x)
  require (has_none (ports_in ports)) WordInUse
  cells ← touch_word_at s Reads c.wptr
  offset ← known (known_word cells)
  change (word_place s (state_address c)) (Put (IsWord (used_word Free)))
  goes_on x (record c { iptr = plus c.iptr offset; choice = None })

-- no message is sent on a channel, or the scheduler decides
abbrev pub requires_silence : Site → (channel : ℕ) → Doing
requires_silence s channel = do
  output ← see (Half s.number channel Output)
  require (not (is_taken (half_in output))) SeveralReady

-- none is sent on these channels but on one; links are not looked at
abbrev pub requires_no_other : Site → (channel : ℕ) → List ℕ → Doing
requires_no_other s channel [] = done
requires_no_other s channel (d ∷ rest) = do
  (if (d == channel) || is_link d then done else requires_silence s d)
  requires_no_other s channel rest

-- a process that waits for channels. Else another channel or a link has made it go on already
abbrev pub waiting : Stand → Part Context
waiting (Chooses c) = gives c
waiting _ = stopping SeveralReady

-- a channel makes the process go on that waits for it and for others
abbrev pub lets_go_on : Site → (channel : ℕ) → Name → Doing
lets_go_on s channel x = do
  stood ← see (Standing x)
  c ← waiting (stand_in stood)
  ports ← see (Ports x)
  requires_no_other s channel (ports_in ports)
  change (Half s.number channel Input) (Put (IsHalf (EnabledBy x)))
  stands x (Chosen (with_choice true c))

-- the input of a link makes the process go on that waits for it and for others
abbrev pub fires : End → Name → Doing
fires e x = do
  stood ← see (Standing x)
  c ← waiting (stand_in stood)
  change (LinkHalf e Input) (Put (IsLink (Fired x)))
  stands x (Chosen (with_choice true c))
