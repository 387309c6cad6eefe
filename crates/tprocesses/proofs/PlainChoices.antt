-- Alternatives and channels begin and end no process, and move none to another workspace.
use Rattle.std.proofs.Common.{ℕ, Bool, true, false, List, [], ◌∷◌, Option, Some, None}
use Rattle.std.specs.Prelude.{◌==◌, ◌||◌, not, if◌then◌else◌}
use Rattle.std.specs.Int.{w32, to_le_bytes}
use Rattle.tword.specs.declared.breaks.Break.TheVariants.{ChannelMisuse, LinkBusy, Unaligned, WrongEnd}
use Rattle.tword.specs.Stores.{as_cells}
use Rattle.tword.specs.Touches.{Reads, Writes, is_aligned, word_place_break}
use Rattle.tproc.specs.declared.channels.Side.TheVariants.{Input}
use Rattle.tproc.specs.Alternatives.{none_selected}
use Rattle.tproc.specs.LinkChannels.{is_link, is_right_end}
use Rattle.tprocesses.specs.Places.{Name, same_name}
use Rattle.tprocesses.specs.Values.{Use, Engaged, Choosing, Awaiting, Choice, Context}
use Rattle.tprocesses.specs.Values.{Stand, Chooses, Holder, Nobody, TakenBy, EnabledBy, AwaitedBy, Link, Empty}
use Rattle.tprocesses.specs.Values.{Enabled, Awaited, Fired, stand_in, half_in, link_in, ports_in}
use Rattle.tprocesses.specs.Changes.{known_word}
use Rattle.tprocesses.specs.Parts.{require, unless, Breaks, SeveralReady, WordInUse, done}
use Rattle.tprocesses.specs.Touching.{Site, word_number, word_for, unsent, touch_word_at, write_word_at, save_upper}
use Rattle.tprocesses.specs.Standing.{known, unsave_upper}
use Rattle.tprocesses.specs.Choosing.{state_address, choice_of, under_way, has_none}
use Rattle.tprocesses.specs.Choosing.{begins_choice, enables_held, enables, is_input, enables_pending, enables_link}
use Rattle.tprocesses.specs.Choosing.{enables_port, enables_channel, enables_skip, is_enabled_by, is_enabled_on}
use Rattle.tprocesses.specs.Choosing.{awaits_channel, awaits_link, awaits_ports, waits_for_ports}
use Rattle.tprocesses.specs.Choosing.{changes_use, awaits_choice, goes_on_chosen, is_taken}
use Rattle.tprocesses.specs.Choosing.{readiness, frees_word, disables}
use Rattle.tprocesses.specs.Choosing.{is_first, sets_offset, selects, begins_to_listen, disables_pending}
use Rattle.tprocesses.specs.Choosing.{disables_link, disables_internal, disables_port, disables_channel, disables_skip}
use Rattle.tprocesses.specs.Choosing.{ends_choice, requires_silence, requires_no_other, waiting, lets_go_on}
use Rattle.tprocesses.specs.ChannelMessages.{meet_if, channel_step}
use Rattle.tprocesses.proofs.Quiet.{IsQuiet, Quiet, both, requires, unlesses, unsents, touches_at, writes_at}
use Rattle.tprocesses.proofs.Quiet.{chooses, words_have, saves_upper, unsaves_upper, knows}
use Rattle.tprocesses.proofs.Plain.{Plain, quietly, chooses as plain_chooses, meets}

pub choice_is : (c : Option Choice) → Quiet (choice_of c)
choice_is (Some c) = tt
choice_is None = tt

pub is_under_way : (s : Site) (c : Context) → Quiet (under_way s c)
is_under_way s c =
    both IsQuiet (choice_of c.choice) _ (choice_is c.choice)
    (λ choice. both IsQuiet (unless (word_place_break s.size (state_address c))) _
    (unlesses (word_place_break s.size (state_address c)))
    (λ y. both IsQuiet (word_for s Choosing (word_number (state_address c))) _
    (words_have s Choosing (word_number (state_address c)))
    (λ cells. both IsQuiet (unsent s (word_number (state_address c))) _
    (unsents s (word_number (state_address c))) (λ z. tt))))

pub begin_choice : (s : Site) (x : Name) (c : Context) → Plain (begins_choice s x c)
begin_choice s x c =
    quietly (touch_word_at s Writes (state_address c)) _ (touches_at s Writes (state_address c))
    (λ cells. (tt, (tt, tt)))

-- enabling
enable_held : (s : Site) (x : Name) (channel : ℕ) (h : Holder) → Quiet (enables_held s x channel h)
enable_held s x channel Nobody = (
  tt,
  both IsQuiet (unsent s (word_number channel)) _ (unsents s (word_number channel)) (λ y. (tt, tt)),
)
enable_held s x channel (EnabledBy y) =
    both IsQuiet (require (same_name y x) (Breaks ChannelMisuse)) _ (requires (same_name y x) (Breaks ChannelMisuse))
    (λ z. unsents s (word_number channel))
enable_held s x channel _ = tt

pub enable : (s : Site) (x : Name) (channel : ℕ) → Quiet (enables s x channel)
enable s x channel =
    both IsQuiet (unless (word_place_break s.size channel)) _ (unlesses (word_place_break s.size channel))
    (λ y v. both IsQuiet (enables_held s x channel (half_in v)) _ (enable_held s x channel (half_in v))
    (λ z ports. (tt, tt)))

-- the input of a link is enabled
pub input_is : (channel : ℕ) → Quiet (is_input channel)
input_is channel =
    both IsQuiet (require (is_aligned channel) (Breaks Unaligned)) _ (requires (is_aligned channel) (Breaks Unaligned))
    (λ y. requires (is_right_end Input channel) (Breaks WrongEnd))

enable_pending : (s : Site) (x : Name) (channel : ℕ) (l : Link) → Quiet (enables_pending s x channel l)
enable_pending s x channel Empty = (tt, tt)
enable_pending s x channel (Enabled y) = requires (same_name y x) (Breaks LinkBusy)
enable_pending s x channel _ = tt

pub enable_link : (s : Site) (x : Name) (channel : ℕ) → Quiet (enables_link s x channel)
enable_link s x channel =
    both IsQuiet (is_input channel) _ (input_is channel)
    (λ y v. both IsQuiet (enables_pending s x channel (link_in v)) _ (enable_pending s x channel (link_in v))
    (λ z ports. (tt, tt)))

enable_port : (s : Site) (x : Name) (c : Context) → Plain (enables_port s x c)
enable_port s x c =
    quietly (known c.b) _ (knows c.b)
    (λ channel. quietly (if is_link channel then enables_link s x channel else enables s x channel) _
    (chooses (is_link channel) _ _ (enable_link s x channel) (enable s x channel)) (λ z. (tt, tt)))

pub enable_channel : (s : Site) (x : Name) (c : Context) → Plain (enables_channel s x c)
enable_channel s x c =
    quietly (under_way s c) _ (is_under_way s c)
    (λ choice. quietly (known c.a) _ (knows c.a)
    (λ guard. plain_chooses (guard == 0) _ (enables_port s x c) (tt, tt) (enable_port s x c)))

pub enable_skip : (s : Site) (x : Name) (c : Context) → Plain (enables_skip s x c)
enable_skip s x c =
    quietly (under_way s c) _ (is_under_way s c)
    (λ choice. quietly (known c.a) _ (knows c.a) (λ guard. (tt, tt)))

-- waiting
await_channel : (s : Site) (x : Name) (channel : ℕ) → Quiet (awaits_channel s x channel)
await_channel s x channel = λ v.
    both IsQuiet (require (is_enabled_by x (half_in v)) (Breaks ChannelMisuse)) _
    (requires (is_enabled_by x (half_in v)) (Breaks ChannelMisuse)) (λ y. (tt, tt))

await_link : (s : Site) (x : Name) (channel : ℕ) → Quiet (awaits_link s x channel)
await_link s x channel = λ v.
    both IsQuiet (require (is_enabled_on x (link_in v)) (Breaks LinkBusy)) _
    (requires (is_enabled_on x (link_in v)) (Breaks LinkBusy)) (λ y. (tt, tt))

pub await_ports : (s : Site) (x : Name) (ports : List ℕ) → Quiet (awaits_ports s x ports)
await_ports s x [] = tt
await_ports s x (channel ∷ rest) =
    both IsQuiet (if is_link channel then awaits_link s x channel else awaits_channel s x channel) _
    (chooses (is_link channel) _ _ (await_link s x channel) (await_channel s x channel)) (λ y. await_ports s x rest)

pub uses_change : (s : Site) (c : Context) (old new : Use) → Quiet (changes_use s c old new)
uses_change s c old new =
    both IsQuiet (word_for s old (word_number (state_address c))) _ (words_have s old (word_number (state_address c)))
    (λ cells. (tt, tt))

wait_for_ports : (s : Site) (x : Name) (c : Context) → Plain (waits_for_ports s x c)
wait_for_ports s x c v =
    quietly (awaits_ports s x (ports_in v)) _ (await_ports s x (ports_in v))
    (λ y. quietly (changes_use s c Choosing Awaiting) _ (uses_change s c Choosing Awaiting)
    (λ u. quietly (save_upper s c.wptr) _ (saves_upper s c.wptr) (λ z. (tt, tt))))

pub await_choice : (s : Site) (x : Name) (c : Context) → Plain (awaits_choice s x c)
await_choice s x c =
    quietly (write_word_at s c.wptr (as_cells (to_le_bytes w32 none_selected))) _
    (writes_at s c.wptr (as_cells (to_le_bytes w32 none_selected)))
    (λ y. quietly (under_way s c) _ (is_under_way s c)
    (λ choice. plain_chooses choice.skips _ (waits_for_ports s x c) (tt, tt) (wait_for_ports s x c)))

pub go_on_chosen : (s : Site) (x : Name) (c : Context) → Plain (goes_on_chosen s x c)
go_on_chosen s x c =
    quietly (changes_use s c Awaiting Choosing) _ (uses_change s c Awaiting Choosing)
    (λ y. quietly (unsave_upper s c.wptr) _ (unsaves_upper s c.wptr) (λ z. (tt, tt)))

-- disabling
ready_or_not : (x : Name) (sent : Bool) (h : Holder) → Quiet (readiness x sent h)
ready_or_not x sent (EnabledBy y) =
    both IsQuiet (require (same_name y x) (Breaks ChannelMisuse)) _ (requires (same_name y x) (Breaks ChannelMisuse))
    (λ z. tt)
ready_or_not x sent (AwaitedBy y) =
    both IsQuiet (require (same_name y x) (Breaks ChannelMisuse)) _ (requires (same_name y x) (Breaks ChannelMisuse))
    (λ z. both IsQuiet (require (not sent) SeveralReady) _ (requires (not sent) SeveralReady) (λ u. tt))
ready_or_not x sent _ = tt

free_word_if : (s : Site) (channel : ℕ) (ready : Bool) → Quiet (frees_word s channel ready)
free_word_if s channel true = tt
free_word_if s channel false = (tt, tt)

pub disable : (s : Site) (x : Name) (channel : ℕ) → Quiet (disables s x channel)
disable s x channel =
    both IsQuiet (unless (word_place_break s.size channel)) _ (unlesses (word_place_break s.size channel))
    (λ y v w. both IsQuiet (readiness x (is_taken (half_in w)) (half_in v)) _
    (ready_or_not x (is_taken (half_in w)) (half_in v))
    (λ ready. (
      tt,
      both IsQuiet (word_for s Engaged (word_number channel)) _ (words_have s Engaged (word_number channel))
          (λ cells. both IsQuiet (unsent s (word_number channel)) _ (unsents s (word_number channel))
          (λ u. both IsQuiet (frees_word s channel ready) _ (free_word_if s channel ready)
          (λ r ports. (tt, tt)))),
    )))

pub first : (ready : Bool) (selected : Option ℕ) → Quiet (is_first ready selected)
first true selected = both IsQuiet (known selected) _ (knows selected) (λ v. tt)
first false selected = tt

pub set_offset : (s : Site) (c : Context) (chosen : Bool) → Quiet (sets_offset s c chosen)
set_offset s c true = both IsQuiet (known c.a) _ (knows c.a) (λ v. (tt, tt))
set_offset s c false = tt

select : (s : Site) (x : Name) (c : Context) (ready : Bool) → Plain (selects s x c ready)
select s x c ready =
    quietly (touch_word_at s Writes c.wptr) _ (touches_at s Writes c.wptr)
    (λ cells. quietly (is_first ready (known_word cells)) _ (first ready (known_word cells))
    (λ chosen. quietly (sets_offset s c chosen) _ (set_offset s c chosen) (λ y. (tt, tt))))

-- the input of a link is disabled: its process goes on, or listens
begin_to_listen : (s : Site) (x : Name) (c : Context) (channel : ℕ) → Plain (begins_to_listen s x c channel)
begin_to_listen s x c channel =
    quietly (touch_word_at s Writes c.wptr) _ (touches_at s Writes c.wptr) (λ cells. (tt, tt))

disable_pending : (s : Site) (x : Name) (c : Context) (channel : ℕ) (l : Link)
    → Plain (disables_pending s x c channel l)
disable_pending s x c channel (Fired y) =
    quietly (require (same_name y x) (Breaks LinkBusy)) _ (requires (same_name y x) (Breaks LinkBusy))
    (λ z. (tt, (λ ports. (tt, select s x c true))))
disable_pending s x c channel (Enabled y) =
    quietly (require (same_name y x) (Breaks LinkBusy)) _ (requires (same_name y x) (Breaks LinkBusy))
    (λ z. begin_to_listen s x c channel)
disable_pending s x c channel (Awaited y) =
    quietly (require (same_name y x) (Breaks LinkBusy)) _ (requires (same_name y x) (Breaks LinkBusy))
    (λ z. begin_to_listen s x c channel)
disable_pending s x c channel _ = tt

disable_link : (s : Site) (x : Name) (c : Context) (channel : ℕ) → Plain (disables_link s x c channel)
disable_link s x c channel =
    quietly (is_input channel) _ (input_is channel) (λ y v. disable_pending s x c channel (link_in v))

disable_internal : (s : Site) (x : Name) (c : Context) (channel : ℕ) → Plain (disables_internal s x c channel)
disable_internal s x c channel = quietly (disables s x channel) _ (disable s x channel) (λ ready. select s x c ready)

disable_port : (s : Site) (x : Name) (c : Context) (choice : Choice) → Plain (disables_port s x c choice)
disable_port s x c choice =
    quietly (require choice.skips WordInUse) _ (requires choice.skips WordInUse)
    (λ z. quietly (known c.c) _ (knows c.c)
    (λ channel. plain_chooses (is_link channel) _ _ (disable_link s x c channel) (disable_internal s x c channel)))

pub disable_channel : (s : Site) (x : Name) (c : Context) → Plain (disables_channel s x c)
disable_channel s x c =
    quietly (choice_of c.choice) _ (choice_is c.choice)
    (λ choice. quietly (known c.b) _ (knows c.b)
    (λ guard. plain_chooses (guard == 0) (selects s x c false) (disables_port s x c choice) (select s x c false)
    (disable_port s x c choice)))

pub disable_skip : (s : Site) (x : Name) (c : Context) → Plain (disables_skip s x c)
disable_skip s x c =
    quietly (choice_of c.choice) _ (choice_is c.choice)
    (λ choice. quietly (known c.b) _ (knows c.b) (λ guard. select s x c (not (guard == 0))))

pub end_choice : (s : Site) (x : Name) (c : Context) → Plain (ends_choice s x c)
end_choice s x c =
    quietly (under_way s c) _ (is_under_way s c)
    (λ choice v. quietly (require (has_none (ports_in v)) WordInUse) _ (requires (has_none (ports_in v)) WordInUse)
    (λ y. quietly (touch_word_at s Reads c.wptr) _ (touches_at s Reads c.wptr)
    (λ cells. quietly (known (known_word cells)) _ (knows (known_word cells)) (λ offset. (tt, (tt, tt))))))

-- the step of a channel
silence : (s : Site) (channel : ℕ) → Quiet (requires_silence s channel)
silence s channel = λ output. requires (not (is_taken (half_in output))) SeveralReady

pub no_other : (s : Site) (channel : ℕ) (ports : List ℕ) → Quiet (requires_no_other s channel ports)
no_other s channel [] = tt
no_other s channel (d ∷ rest) =
    both IsQuiet (if (d == channel) || is_link d then done else requires_silence s d) _
    (chooses ((d == channel) || is_link d) done (requires_silence s d) tt (silence s d)) (λ y. no_other s channel rest)

pub waits : (stand : Stand) → Quiet (waiting stand)
waits (Chooses c) = tt
waits _ = tt

let_go_on : (s : Site) (channel : ℕ) (x : Name) → Plain (lets_go_on s channel x)
let_go_on s channel x v =
    quietly (waiting (stand_in v)) _ (waits (stand_in v))
    (λ c w. quietly (requires_no_other s channel (ports_in w)) _ (no_other s channel (ports_in w))
    (λ y. (tt, (tt, tt))))

meets_if : (s : Site) (channel : ℕ) (input output : Holder) → Plain (meet_if s channel input output)
meets_if s channel (TakenBy input) (TakenBy output) = meets s channel input output
meets_if s channel (AwaitedBy x) (TakenBy output) = let_go_on s channel x
meets_if s channel _ _ = tt

pub channels : (channel : ℕ) (s : Site) → Plain (channel_step channel s)
channels channel s input output = meets_if s channel (half_in input) (half_in output)
