-- All parts but one count nothing down: what holds of each other change holds of each of theirs.
use Rattle.std.proofs.Common.{ℕ, zero, suc, ℤ, Bool, true, false, [], ◌∷◌, ◌++◌, List, length, replicate, Option, Some}
use Rattle.std.proofs.Common.{None}
use Rattle.std.specs.Prelude.{◌==◌, ◌-◌, ◌%◌, ◌||◌, nat_le, not, pos, negsuc, is_none, take, drop}
use Rattle.std.specs.Int.{w32, from_le_bytes, to_le_bytes}
use Rattle.tword.specs.declared.breaks.Break.TheVariants.{LengthMismatch, ChannelMisuse, Unaligned, WrongEnd}
use Rattle.tword.specs.declared.breaks.Break.TheVariants.{ZeroLength, LinkBusy, AlreadyLive}
use Rattle.tword.specs.declared.span.Span.{Span}
use Rattle.tword.specs.Stores.{Store, as_cells, shown}
use Rattle.tword.specs.Words.{word_below, plus}
use Rattle.tword.specs.Touches.{Reads, Writes, is_aligned, word_place_break, byte_span}
use Rattle.tword.specs.Actions.{Action, answer, breaks, requiring, touching_word, touching_byte, touching}
use Rattle.tword.specs.Actions.{writing_word, writing_byte, copying, descheduling, reading_saved, setting_saved}
use Rattle.tcpu.proofs.Quiet.{IsQuiet}
use Rattle.tproc.specs.Machine.{workspace_of, priority_of}
use Rattle.tproc.specs.declared.channels.Side.{Side}
use Rattle.tproc.specs.declared.channels.Side.TheVariants.{Input, Output}
use Rattle.tproc.specs.Channels.{mode_of}
use Rattle.tproc.specs.Alternatives.{none_selected}
use Rattle.tproc.specs.Queues.{not_process}
use Rattle.tproc.specs.LinkChannels.{link_of, is_right_end, is_link}
use Rattle.tplan.specs.declared.plan.End.{End}
use Rattle.tplan.specs.Wires.{end_at}
use Rattle.tprocesses.specs.Places.{Place, Name, WordAt, Sending, Standing, Ports, Half, LinkHalf, Unfinished, Messages}
use Rattle.tprocesses.specs.Places.{Kept, Life, Population, HasRun, Error, HaltOnError, FlagChanged, Successions, After}
use Rattle.tprocesses.specs.Places.{child_of, same_name}
use Rattle.tprocesses.specs.Values.{Use, Free, Saved, Receiving, Engaged, Choosing, Awaiting, Last, Spoilt, Choice}
use Rattle.tprocesses.specs.Values.{Context, Lent, Stand, Absent, Rests, Runs, Waits, Chooses, Chosen, Listens, Ended}
use Rattle.tprocesses.specs.Values.{Request, Holder, Nobody, TakenBy, EnabledBy, AwaitedBy, Link, Empty, Offered}
use Rattle.tprocesses.specs.Values.{Enabled, Awaited, Fired, Value}
use Rattle.tprocesses.specs.Values.{IsWord, IsStand, IsHalf, IsLink, IsFlag, IsCount, ArePorts, AreMessages, AreKept}
use Rattle.tprocesses.specs.Values.{stand_in, half_in, link_in, flag_in, amount_in, word_in, count_in, ports_in}
use Rattle.tprocesses.specs.Changes.{Put, Engage, Add, Raise, are_known, free_word, used_word, known_word}
use Rattle.tprocesses.specs.Parts.{Part, Changed, change, Breaks, FullSink, Halts, HasNoStep}
use Rattle.tprocesses.specs.Parts.{WordInUse}
use Rattle.tprocesses.specs.Touching.{Site, word_number, word_count, word_place, is_zero, part_of, replaced, kept}
use Rattle.tprocesses.specs.Touching.{forgotten, put_words, put, write, count_words, count_outputs, write_word_at}
use Rattle.tprocesses.specs.Touching.{save_word, save_upper, save}
use Rattle.tprocesses.specs.Performing.{Performed, noted, copied, perform, is_next_known, after_next, bytes_if}
use Rattle.tprocesses.specs.Standing.{stands, goes_on, is_absent, comes, starts, ends, moves, ready, wakes, unsave_word}
use Rattle.tprocesses.specs.Standing.{unsave_upper, unsave, takes_back, resumes, forget, fresh, pop}
use Rattle.tprocesses.specs.Choosing.{state_address, with_choice, with_port, without_port, has_none, changes_ports}
use Rattle.tprocesses.specs.Choosing.{begins_choice, enables_held, enables, drop_channel, enables_port, enables_channel}
use Rattle.tprocesses.specs.Choosing.{enables_skip, is_enabled_by, awaits_ports, changes_use, waits_for_ports}
use Rattle.tprocesses.specs.Choosing.{input_of, is_input, enables_pending, enables_link, is_enabled_on}
use Rattle.tprocesses.specs.Choosing.{awaits_channel, awaits_link, awaits_choice, gives_up_link, begins_to_listen}
use Rattle.tprocesses.specs.Choosing.{disables_pending, disables_link, is_unfired_by, goes_on_unfired, fires}
use Rattle.tprocesses.specs.Choosing.{goes_on_chosen, is_taken, frees_word, disables, sets_offset, answers, selects}
use Rattle.tprocesses.specs.Choosing.{disables_port, disables_channel, disables_skip, ends_choice, lets_go_on}
use Rattle.tprocesses.specs.ChannelMessages.{is_nobody, takes_half, meet, meet_if, channel_step}
use Rattle.tprocesses.specs.LinkMessages.{is_empty, finished, lends, takes_link, sent_by, node_sends, first_message}
use Rattle.tprocesses.specs.LinkMessages.{source_sends, received_by, node_receives, keeps, sink_receives}
use Rattle.tprocesses.specs.Scheduling.{starts_child, runs_child, stops_itself, stops_by_error, with_child}
use Rattle.tprocesses.specs.Scheduling.{communicates, sends_or_receives, sends_from_workspace, goes_on_after, laid_down}
use Rattle.tprocesses.specs.Scheduling.{successor_workspace, successor_step}
use Rattle.tprocesses.specs.Instructions.{is_same_flag, sets_flag, jumped, sets_error}
use Rattle.tfollow.proofs.Each.{Any, Each, andwith, andthen, nothing, stops, sees, changes, requires, unless_each}
use Rattle.tfollow.proofs.Each.{chooses, unsent_each, touch_each, touch_word_at_each, word_for_each, words_for_each}
use Rattle.tfollow.proofs.Each.{known_each, choice_of_each, under_way_each, readiness_each, is_first_each}
use Rattle.tfollow.proofs.Each.{waiting_each, requires_no_other_each}

module _ (P : Changed → Type 0) (some_put : (q : Place) (v : Value) → P (record { place = q; change = Put v }))
    (some_engage : (q : Place) → P (record { place = q; change = Engage }))
    (some_add : (q : Place) (z : ℤ) → P (record { place = q; change = Add z }))
    (some_raise : (q : Place) → P (record { place = q; change = Raise })) where
  -- changes one at a time
  puts : (q : Place) (v : Value) → Each P Any (change q (Put v))
  puts q v = changes P q (Put v) (some_put q v)

  engages : (q : Place) → Each P Any (change q Engage)
  engages q = changes P q Engage (some_engage q)

  adds : (q : Place) (z : ℤ) → Each P Any (change q (Add z))
  adds q z = changes P q (Add z) (some_add q z)

  raises : (q : Place) → Each P Any (change q Raise)
  raises q = changes P q Raise (some_raise q)

  -- words
  put_words_even : (s : Site) (u : Use) (k count : ℕ) (words : Store) → Each P Any (put_words s u k count words)
  put_words_even s u k zero words = nothing P tt
  put_words_even s u k (suc count) words =
      andthen P (puts (WordAt s.number k) (IsWord (record { cells = take 4 words; used = u })))
      (λ x. put_words_even s u (suc k) count (drop 4 words))

  put_even : (s : Site) (u : Use) (span : Span) (words : Store) → Each P Any (put s u span words)
  put_even s u span words = put_words_even s u (word_number span.start) (word_count span) words

  write_even : (s : Site) (span : Span) (new : Store) → Each P Any (write s span new)
  write_even s span new =
      andthen P (touch_each P s Writes span) (λ words. put_even s Free span (replaced span words new))

  count_words_even : (s : Site) (z : ℤ) (k count : ℕ) → Each P Any (count_words s z k count)
  count_words_even s z k zero = nothing P tt
  count_words_even s z k (suc count) =
      andthen P (adds (Sending s.number k) z) (λ x. count_words_even s z (suc k) count)

  count_outputs_even : (s : Site) (z : ℤ) (span : Span) → Each P Any (count_outputs s z span)
  count_outputs_even s z span = count_words_even s z (word_number span.start) (word_count span)

  write_word_at_even : (s : Site) (address : ℕ) (new : Store) → Each P Any (write_word_at s address new)
  write_word_at_even s address new =
      andthen P (touch_word_at_each P s Writes address)
      (λ cells. puts (word_place s address) (IsWord (record { cells = new; used = Free })))

  save_word_even : (s : Site) (address : ℕ) (new : Store → Store) → Each P Any (save_word s address new)
  save_word_even s address new =
      andthen P (touch_word_at_each P s Writes address)
      (λ cells. puts (word_place s address) (IsWord (record { cells = new cells; used = Saved })))

  save_upper_even : (s : Site) (w : ℕ) → Each P Any (save_upper s w)
  save_upper_even s w =
      andthen P (save_word_even s (word_below w 2) forgotten) (λ x. save_word_even s (word_below w 1) forgotten)

  save_even : (s : Site) (w : ℕ) (lowest : Store → Store) → Each P Any (save s w lowest)
  save_even s w lowest = andthen P (save_word_even s (word_below w 3) lowest) (λ x. save_upper_even s w)

  copied_even : (s : Site) (from to : Span) → Each P Any (copied s from to)
  copied_even s from to =
      andthen P (touch_each P s Reads from) (λ words. write_even s to (part_of from words))

  -- an action, with what holds of its answer
  abbrev pub Answered : {A : Type 0} → (A → Type 0) → Performed A → Type 0
  Answered Q p = Q p.value

  noted_even : {A : Type 0} (Q : A → Type 0) (known : Bool) (rest : Part (Performed A)) → Each P (Answered Q) rest
      → Each P (Answered Q) (noted known rest)
  noted_even Q known rest h = andwith P h (λ x q. record { each = q })

  pub perform_even : {A : Type 0} (Q : A → Type 0) (s : Site) (known : List Bool) (x : Action A) → IsQuiet Q x
      → Each P (Answered Q) (perform s known x)
  perform_even Q s known (answer x) q = record { each = q }
  perform_even Q s known (breaks b) q = stops P _
  perform_even Q s known (requiring t b next) q =
      andthen P (requires P t _) (λ x. perform_even Q s known next q)
  perform_even Q s known (touching_word mode address next) q =
      andthen P (touch_word_at_each P s mode address)
      (λ cells. noted_even Q (are_known cells) (perform s known (next (from_le_bytes w32 (shown cells))))
      (perform_even Q s known (next (from_le_bytes w32 (shown cells))) (q (from_le_bytes w32 (shown cells)))))
  perform_even Q s known (touching_byte mode address next) q =
      andthen P (touch_each P s mode (byte_span address))
      (λ words. noted_even Q (are_known (part_of (byte_span address) words))
      (perform s known (next (from_le_bytes w32 (shown (part_of (byte_span address) words)))))
      (perform_even Q s known (next (from_le_bytes w32 (shown (part_of (byte_span address) words))))
      (q (from_le_bytes w32 (shown (part_of (byte_span address) words))))))
  perform_even Q s known (touching mode span next) q =
      andthen P (touch_each P s mode span) (λ x. perform_even Q s known next q)
  perform_even Q s known (writing_word address v next) q =
      andthen P (write_word_at_even s address (bytes_if (is_next_known known) (to_le_bytes w32 v)))
      (λ x. perform_even Q s (after_next known) next q)
  perform_even Q s known (writing_byte address v next) q =
      andthen P (write_even s (byte_span address) (bytes_if (is_next_known known) (v % 256 ∷ [])))
      (λ x. perform_even Q s (after_next known) next q)
  perform_even Q s known (copying from to count next) q =
      andthen P (copied_even s (record { start = from; size = count }) (record { start = to; size = count }))
      (λ x. perform_even Q s known next q)
  perform_even Q s known (descheduling w next) q = stops P _
  perform_even Q s known (reading_saved w k next) q = stops P _
  perform_even Q s known (setting_saved w k v next) q = stops P _

  -- processes
  stands_even : (x : Name) (stand : Stand) → Each P Any (stands x stand)
  stands_even x stand = puts (Standing x) (IsStand stand)

  pub goes_on_even : (x : Name) (c : Context) → Each P Any (goes_on x c)
  goes_on_even x c = stands_even x (Runs c)

  comes_even : (s : Site) (x : Name) (c : Context) (stand : Context → Stand) → Each P Any (comes s x c stand)
  comes_even s x c stand =
      andthen P (sees P (Life s.number c.wptr))
      (λ life. andthen P (requires P (is_zero (amount_in life)) (Breaks AlreadyLive))
      (λ y. andthen P (adds (Life s.number c.wptr) (pos 1))
      (λ z. andthen P (sees P (Standing x))
      (λ stood. andthen P (requires P (is_absent (stand_in stood)) HasNoStep)
      (λ u. andthen P (stands_even x (stand c))
      (λ w. andthen P (adds (Population s.number) (pos 1)) (λ r. raises (HasRun s.number c.priority))))))))

  starts_even : (s : Site) (x : Name) (c : Context) → Each P Any (starts s x c)
  starts_even s x c =
      andthen P (requires P (is_aligned c.wptr) (Breaks Unaligned))
      (λ y. andthen P (comes_even s x c Rests) (λ z. save_even s c.wptr kept))

  ends_even : (s : Site) (x : Name) (c : Context) → Each P Any (ends s x c)
  ends_even s x c =
      andthen P (requires P (is_none c.choice) WordInUse)
      (λ y. andthen P (adds (Life s.number c.wptr) (negsuc 0)) (λ z. stands_even x Ended))

  pub moves_even : (s : Site) (old new : ℕ) → Each P Any (moves s old new)
  moves_even s old new =
      chooses P (old == new) (nothing P tt)
      (andthen P (adds (Life s.number old) (negsuc 0)) (λ y. adds (Life s.number new) (pos 1)))

  ready_even : (stand : Stand) (x : Name) (lent : Option Lent) → Each P Any (ready stand x lent)
  ready_even (Waits c) x lent = stands_even x (Rests (record c { lent = lent }))
  ready_even Absent x lent = stops P _
  ready_even (Rests c) x lent = stops P _
  ready_even (Runs c) x lent = stops P _
  ready_even (Chooses c) x lent = stops P _
  ready_even (Chosen c) x lent = stops P _
  ready_even (Listens channel c) x lent = stops P _
  ready_even Ended x lent = stops P _

  wakes_even : (x : Name) (lent : Option Lent) → Each P Any (wakes x lent)
  wakes_even x lent = andthen P (sees P (Standing x)) (λ v. ready_even (stand_in v) x lent)

  unsave_word_even : (s : Site) (address : ℕ) → Each P Any (unsave_word s address)
  unsave_word_even s address =
      andthen P (word_for_each P s Saved (word_number address))
      (λ cells. puts (word_place s address) (IsWord (record { cells = cells; used = Free })))

  unsave_upper_even : (s : Site) (w : ℕ) → Each P Any (unsave_upper s w)
  unsave_upper_even s w =
      andthen P (unsave_word_even s (word_below w 2)) (λ x. unsave_word_even s (word_below w 1))

  unsave_even : (s : Site) (w : ℕ) → Each P Any (unsave s w)
  unsave_even s w = andthen P (unsave_word_even s (word_below w 3)) (λ x. unsave_upper_even s w)

  takes_back_even : (s : Site) (lent : Option Lent) → Each P Any (takes_back s lent)
  takes_back_even s None = nothing P tt
  takes_back_even s (Some l) =
      andthen P (count_outputs_even s (negsuc 0) l.buffer)
      (λ x. andthen P (sees P (Unfinished (end_at s.number l.link)))
      (λ unfinished. andthen P (requires P (flag_in unfinished) HasNoStep)
      (λ y. puts (Unfinished (end_at s.number l.link)) (IsFlag false))))

  pub resumes_even : (s : Site) (x : Name) (c : Context) → Each P Any (resumes s x c)
  resumes_even s x c =
      andthen P (unsave_even s c.wptr)
      (λ y. andthen P (takes_back_even s c.lent) (λ z. goes_on_even x (record c { lent = None })))

  -- alternatives
  changes_ports_even : (x : Name) (next : List ℕ → List ℕ) → Each P Any (changes_ports x next)
  changes_ports_even x next =
      andthen P (sees P (Ports x)) (λ ports. puts (Ports x) (ArePorts (next (ports_in ports))))

  pub begins_choice_even : (s : Site) (x : Name) (c : Context) → Each P Any (begins_choice s x c)
  begins_choice_even s x c =
      andthen P (touch_word_at_each P s Writes (state_address c))
      (λ cells. andthen P (puts (word_place s (state_address c)) (IsWord (used_word Choosing)))
      (λ y. goes_on_even x (with_choice false c)))

  enables_held_even : (s : Site) (x : Name) (channel : ℕ) (h : Holder) → Each P Any (enables_held s x channel h)
  enables_held_even s x channel Nobody =
      andthen P (puts (Half s.number channel Input) (IsHalf (EnabledBy x)))
      (λ y. andthen P (unsent_each P s (word_number channel)) (λ z. engages (word_place s channel)))
  enables_held_even s x channel (EnabledBy y) =
      andthen P (requires P (same_name y x) (Breaks ChannelMisuse)) (λ z. unsent_each P s (word_number channel))
  enables_held_even s x channel (TakenBy request) = stops P _
  enables_held_even s x channel (AwaitedBy y) = stops P _

  enables_even : (s : Site) (x : Name) (channel : ℕ) → Each P Any (enables s x channel)
  enables_even s x channel =
      andthen P (unless_each P (word_place_break s.size channel))
      (λ y. andthen P (sees P (Half s.number channel Input))
      (λ half. andthen P (enables_held_even s x channel (half_in half))
      (λ z. changes_ports_even x (with_port channel))))

  is_input_even : (channel : ℕ) → Each P Any (is_input channel)
  is_input_even channel =
      andthen P (requires P (is_aligned channel) (Breaks Unaligned))
      (λ y. requires P (is_right_end Input channel) (Breaks WrongEnd))

  enables_pending_even : (s : Site) (x : Name) (channel : ℕ) (l : Link)
      → Each P Any (enables_pending s x channel l)
  enables_pending_even s x channel Empty = puts (input_of s channel) (IsLink (Enabled x))
  enables_pending_even s x channel (Enabled y) = requires P (same_name y x) (Breaks LinkBusy)
  enables_pending_even s x channel (Offered request) = stops P _
  enables_pending_even s x channel (Awaited y) = stops P _
  enables_pending_even s x channel (Fired y) = stops P _

  enables_link_even : (s : Site) (x : Name) (channel : ℕ) → Each P Any (enables_link s x channel)
  enables_link_even s x channel =
      andthen P (is_input_even channel)
      (λ y. andthen P (sees P (input_of s channel))
      (λ pending. andthen P (enables_pending_even s x channel (link_in pending))
      (λ z. changes_ports_even x (with_port channel))))

  enables_port_even : (s : Site) (x : Name) (c : Context) → Each P Any (enables_port s x c)
  enables_port_even s x c =
      andthen P (known_each P c.b)
      (λ channel. andthen P
      (chooses P (is_link channel) (enables_link_even s x channel) (enables_even s x channel))
      (λ z. goes_on_even x (drop_channel c)))

  pub enables_channel_even : (s : Site) (x : Name) (c : Context) → Each P Any (enables_channel s x c)
  enables_channel_even s x c =
      andthen P (under_way_each P s c)
      (λ choice. andthen P (known_each P c.a)
      (λ guard. chooses P (guard == 0) (goes_on_even x (drop_channel c)) (enables_port_even s x c)))

  pub enables_skip_even : (s : Site) (x : Name) (c : Context) → Each P Any (enables_skip s x c)
  enables_skip_even s x c =
      andthen P (under_way_each P s c)
      (λ choice. andthen P (known_each P c.a)
      (λ guard. goes_on_even x (with_choice (choice.skips || not (guard == 0)) c)))

  awaits_channel_even : (s : Site) (x : Name) (channel : ℕ) → Each P Any (awaits_channel s x channel)
  awaits_channel_even s x channel =
      andthen P (sees P (Half s.number channel Input))
      (λ half. andthen P (requires P (is_enabled_by x (half_in half)) (Breaks ChannelMisuse))
      (λ y. puts (Half s.number channel Input) (IsHalf (AwaitedBy x))))

  awaits_link_even : (s : Site) (x : Name) (channel : ℕ) → Each P Any (awaits_link s x channel)
  awaits_link_even s x channel =
      andthen P (sees P (input_of s channel))
      (λ pending. andthen P (requires P (is_enabled_on x (link_in pending)) (Breaks LinkBusy))
      (λ y. puts (input_of s channel) (IsLink (Awaited x))))

  awaits_ports_even : (s : Site) (x : Name) (ports : List ℕ) → Each P Any (awaits_ports s x ports)
  awaits_ports_even s x [] = nothing P tt
  awaits_ports_even s x (channel ∷ rest) =
      andthen P (chooses P (is_link channel) (awaits_link_even s x channel) (awaits_channel_even s x channel))
      (λ y. awaits_ports_even s x rest)

  changes_use_even : (s : Site) (c : Context) (old new : Use) → Each P Any (changes_use s c old new)
  changes_use_even s c old new =
      andthen P (word_for_each P s old (word_number (state_address c)))
      (λ cells. puts (word_place s (state_address c)) (IsWord (used_word new)))

  waits_for_ports_even : (s : Site) (x : Name) (c : Context) → Each P Any (waits_for_ports s x c)
  waits_for_ports_even s x c =
      andthen P (sees P (Ports x))
      (λ ports. andthen P (awaits_ports_even s x (ports_in ports))
      (λ y. andthen P (changes_use_even s c Choosing Awaiting)
      (λ z. andthen P (save_upper_even s c.wptr) (λ u. stands_even x (Chooses (forget c))))))

  pub awaits_choice_even : (s : Site) (x : Name) (c : Context) → Each P Any (awaits_choice s x c)
  awaits_choice_even s x c =
      andthen P (write_word_at_even s c.wptr (as_cells (to_le_bytes w32 none_selected)))
      (λ y. andthen P (under_way_each P s c)
      (λ choice. chooses P choice.skips (goes_on_even x c) (waits_for_ports_even s x c)))

  pub goes_on_chosen_even : (s : Site) (x : Name) (c : Context) → Each P Any (goes_on_chosen s x c)
  goes_on_chosen_even s x c =
      andthen P (changes_use_even s c Awaiting Choosing)
      (λ y. andthen P (unsave_upper_even s c.wptr) (λ z. goes_on_even x c))

  frees_word_even : (s : Site) (channel : ℕ) (ready : Bool) → Each P Any (frees_word s channel ready)
  frees_word_even s channel true = nothing P tt
  frees_word_even s channel false = puts (word_place s channel) (IsWord (free_word not_process))

  disables_even : (s : Site) (x : Name) (channel : ℕ) → Each P Any (disables s x channel)
  disables_even s x channel =
      andthen P (unless_each P (word_place_break s.size channel))
      (λ y. andthen P (sees P (Half s.number channel Input))
      (λ input. andthen P (sees P (Half s.number channel Output))
      (λ output. andthen P (readiness_each P x (is_taken (half_in output)) (half_in input))
      (λ ready. andthen P (puts (Half s.number channel Input) (IsHalf Nobody))
      (λ z. andthen P (word_for_each P s Engaged (word_number channel))
      (λ cells. andthen P (unsent_each P s (word_number channel))
      (λ u. andthen P (frees_word_even s channel ready)
      (λ v. andthen P (changes_ports_even x (without_port channel)) (λ w. nothing P ready)))))))))

  sets_offset_even : (s : Site) (c : Context) (chosen : Bool) → Each P Any (sets_offset s c chosen)
  sets_offset_even s c true =
      andthen P (known_each P c.a) (λ v. puts (word_place s c.wptr) (IsWord (free_word v)))
  sets_offset_even s c false = nothing P tt

  selects_even : (s : Site) (x : Name) (c : Context) (ready : Bool) → Each P Any (selects s x c ready)
  selects_even s x c ready =
      andthen P (touch_word_at_each P s Writes c.wptr)
      (λ cells. andthen P (is_first_each P ready (known_word cells))
      (λ chosen. andthen P (sets_offset_even s c chosen) (λ y. goes_on_even x (answers chosen c))))

  gives_up_link_even : (s : Site) (x : Name) (channel : ℕ) → Each P Any (gives_up_link s x channel)
  gives_up_link_even s x channel =
      andthen P (puts (input_of s channel) (IsLink Empty)) (λ y. changes_ports_even x (without_port channel))

  begins_to_listen_even : (s : Site) (x : Name) (c : Context) (channel : ℕ)
      → Each P Any (begins_to_listen s x c channel)
  begins_to_listen_even s x c channel =
      andthen P (touch_word_at_each P s Writes c.wptr) (λ cells. stands_even x (Listens channel (answers false c)))

  disables_pending_even : (s : Site) (x : Name) (c : Context) (channel : ℕ) (l : Link)
      → Each P Any (disables_pending s x c channel l)
  disables_pending_even s x c channel (Fired y) =
      andthen P (requires P (same_name y x) (Breaks LinkBusy))
      (λ z. andthen P (gives_up_link_even s x channel) (λ u. selects_even s x c true))
  disables_pending_even s x c channel (Enabled y) =
      andthen P (requires P (same_name y x) (Breaks LinkBusy)) (λ z. begins_to_listen_even s x c channel)
  disables_pending_even s x c channel (Awaited y) =
      andthen P (requires P (same_name y x) (Breaks LinkBusy)) (λ z. begins_to_listen_even s x c channel)
  disables_pending_even s x c channel Empty = stops P _
  disables_pending_even s x c channel (Offered request) = stops P _

  disables_link_even : (s : Site) (x : Name) (c : Context) (channel : ℕ)
      → Each P Any (disables_link s x c channel)
  disables_link_even s x c channel =
      andthen P (is_input_even channel)
      (λ y. andthen P (sees P (input_of s channel))
      (λ pending. disables_pending_even s x c channel (link_in pending)))

  pub goes_on_unfired_even : (s : Site) (x : Name) (channel : ℕ) (c : Context)
      → Each P Any (goes_on_unfired s x channel c)
  goes_on_unfired_even s x channel c =
      andthen P (sees P (input_of s channel))
      (λ pending. andthen P (requires P (is_unfired_by x (link_in pending)) HasNoStep)
      (λ y. andthen P (gives_up_link_even s x channel) (λ z. goes_on_even x c)))

  disables_port_even : (s : Site) (x : Name) (c : Context) (choice : Choice) → Each P Any (disables_port s x c choice)
  disables_port_even s x c choice =
      andthen P (requires P choice.skips WordInUse)
      (λ y. andthen P (known_each P c.c)
      (λ channel. chooses P (is_link channel) (disables_link_even s x c channel)
      (andthen P (disables_even s x channel) (λ ready. selects_even s x c ready))))

  pub disables_channel_even : (s : Site) (x : Name) (c : Context) → Each P Any (disables_channel s x c)
  disables_channel_even s x c =
      andthen P (choice_of_each P c.choice)
      (λ choice. andthen P (known_each P c.b)
      (λ guard. chooses P (guard == 0) (selects_even s x c false) (disables_port_even s x c choice)))

  pub disables_skip_even : (s : Site) (x : Name) (c : Context) → Each P Any (disables_skip s x c)
  disables_skip_even s x c =
      andthen P (choice_of_each P c.choice)
      (λ choice. andthen P (known_each P c.b) (λ guard. selects_even s x c (not (guard == 0))))

  pub ends_choice_even : (s : Site) (x : Name) (c : Context) → Each P Any (ends_choice s x c)
  ends_choice_even s x c =
      andthen P (under_way_each P s c)
      (λ choice. andthen P (sees P (Ports x))
      (λ ports. andthen P (requires P (has_none (ports_in ports)) WordInUse)
      (λ y. andthen P (touch_word_at_each P s Reads c.wptr)
      (λ cells. andthen P (known_each P (known_word cells))
      (λ offset. andthen P (puts (word_place s (state_address c)) (IsWord (used_word Free)))
      (λ z. goes_on_even x (record c { iptr = plus c.iptr offset; choice = None })))))))

  lets_go_on_even : (s : Site) (channel : ℕ) (x : Name) → Each P Any (lets_go_on s channel x)
  lets_go_on_even s channel x =
      andthen P (sees P (Standing x))
      (λ stood. andthen P (waiting_each P (stand_in stood))
      (λ c. andthen P (sees P (Ports x))
      (λ ports. andthen P (requires_no_other_each P s channel (ports_in ports))
      (λ y. andthen P (puts (Half s.number channel Input) (IsHalf (EnabledBy x)))
      (λ z. stands_even x (Chosen (with_choice true c)))))))

  pub fires_even : (e : End) (x : Name) → Each P Any (fires e x)
  fires_even e x =
      andthen P (sees P (Standing x))
      (λ stood. andthen P (waiting_each P (stand_in stood))
      (λ c. andthen P (puts (LinkHalf e Input) (IsLink (Fired x)))
      (λ y. stands_even x (Chosen (with_choice true c)))))

  -- messages
  takes_half_even : (s : Site) (x : Name) (c : Context) (side : Side) (channel : ℕ) (buffer : Span)
      → Each P Any (takes_half s x c side channel buffer)
  takes_half_even s x c side channel buffer = let q = Half s.number channel side in
      andthen P (unless_each P (word_place_break s.size channel))
      (λ y. andthen P (sees P q)
      (λ half. andthen P (requires P (is_nobody (half_in half)) (Breaks ChannelMisuse))
      (λ z. andthen P (puts q (IsHalf (TakenBy (record { process = x; buffer = buffer }))))
      (λ u. andthen P (unsent_each P s (word_number channel))
      (λ v. andthen P (save_even s c.wptr forgotten)
      (λ w. andthen P (engages (word_place s channel))
      (λ r. andthen P (touch_each P s (mode_of side) buffer)
      (λ words. stands_even x (Waits (forget c))))))))))

  meet_even : (s : Site) (channel : ℕ) (input output : Request) → Each P Any (meet s channel input output)
  meet_even s channel input output =
      andthen P (requires P (input.buffer.size == output.buffer.size) (Breaks LengthMismatch))
      (λ y. andthen P (word_for_each P s Engaged (word_number channel))
      (λ z. andthen P (puts (word_place s channel) (IsWord (free_word not_process)))
      (λ u. andthen P (copied_even s output.buffer input.buffer)
      (λ v. andthen P (wakes_even input.process None)
      (λ w. andthen P (wakes_even output.process None)
      (λ r. andthen P (puts (Half s.number channel Input) (IsHalf Nobody))
      (λ k. puts (Half s.number channel Output) (IsHalf Nobody))))))))

  meet_if_even : (s : Site) (channel : ℕ) (input output : Holder) → Each P Any (meet_if s channel input output)
  meet_if_even s channel (TakenBy input) (TakenBy output) = meet_even s channel input output
  meet_if_even s channel (AwaitedBy x) (TakenBy output) = lets_go_on_even s channel x
  meet_if_even s channel _ _ = stops P HasNoStep

  pub channel_step_even : (channel : ℕ) (s : Site) → Each P Any (channel_step channel s)
  channel_step_even channel s =
      andthen P (sees P (Half s.number channel Input))
      (λ input. andthen P (sees P (Half s.number channel Output))
      (λ output. meet_if_even s channel (half_in input) (half_in output)))

  lends_even : (side : Side) (s : Site) (buffer : Span) → Each P Any (lends side s buffer)
  lends_even Output s buffer =
      andthen P (touch_each P s Reads buffer) (λ words. count_outputs_even s (pos 1) buffer)
  lends_even Input s buffer =
      andthen P (touch_each P s Writes buffer)
      (λ words. put_even s Receiving buffer (replaced buffer words (replicate buffer.size None)))

  finished_even : (side : Side) (e : End) → Each P Any (finished side e)
  finished_even Output e =
      andthen P (sees P (Unfinished e)) (λ unfinished. requires P (not (flag_in unfinished)) (Breaks LinkBusy))
  finished_even Input e = nothing P tt

  takes_link_even : (s : Site) (x : Name) (c : Context) (side : Side) (channel : ℕ) (buffer : Span)
      → Each P Any (takes_link s x c side channel buffer)
  takes_link_even s x c side channel buffer = let half = LinkHalf (end_at s.number (link_of side channel)) side in
      andthen P (requires P (is_aligned channel) (Breaks Unaligned))
      (λ y. andthen P (requires P (is_right_end side channel) (Breaks WrongEnd))
      (λ z. andthen P (requires P (not (buffer.size == 0)) (Breaks ZeroLength))
      (λ u. andthen P (sees P half)
      (λ pending. andthen P (requires P (is_empty (link_in pending)) (Breaks LinkBusy))
      (λ v. andthen P (finished_even side (end_at s.number (link_of side channel)))
      (λ i. andthen P (puts half (IsLink (Offered (record { process = x; buffer = buffer }))))
      (λ w. andthen P (save_even s c.wptr kept)
      (λ r. andthen P (lends_even side s buffer) (λ k. stands_even x (Waits (forget c)))))))))))

  sent_by_even : (s : Site) (f : End) (l : Link) → Each P Any (sent_by s f l)
  sent_by_even s f (Offered output) =
      andthen P (touch_each P s Reads output.buffer)
      (λ words. andthen P (puts (LinkHalf f Output) (IsLink Empty))
      (λ y. andthen P (puts (Unfinished f) (IsFlag true))
      (λ z. andthen P (wakes_even output.process (Some (record { link = f.link; buffer = output.buffer })))
      (λ u. nothing P (part_of output.buffer words)))))
  sent_by_even s f _ = stops P HasNoStep

  pub node_sends_even : (f : End) (s : Site) → Each P Any (node_sends f s)
  node_sends_even f s = andthen P (sees P (LinkHalf f Output)) (λ half. sent_by_even s f (link_in half))

  first_message_even : (f : End) (v : Value) → Each P Any (first_message f v)
  first_message_even f (AreMessages (m ∷ rest)) =
      andthen P (puts (Messages f) (AreMessages rest)) (λ y. nothing P (as_cells m))
  first_message_even f (AreMessages []) = stops P HasNoStep
  first_message_even f _ = stops P HasNoStep

  pub source_sends_even : (f : End) → Each P Any (source_sends f)
  source_sends_even f = andthen P (sees P (Messages f)) (λ v. first_message_even f v)

  received_by_even : (s : Site) (e : End) (message : Store) (l : Link) → Each P Any (received_by s e message l)
  received_by_even s e message (Offered input) =
      andthen P (requires P (input.buffer.size == length message) (Breaks LengthMismatch))
      (λ y. andthen P (words_for_each P s Receiving (word_number input.buffer.start) (word_count input.buffer))
      (λ words. andthen P (put_even s Free input.buffer (replaced input.buffer words message))
      (λ z. andthen P (puts (LinkHalf e Input) (IsLink Empty)) (λ u. wakes_even input.process None))))
  received_by_even s e message _ = stops P HasNoStep

  pub node_receives_even : (message : Store) (e : End) (s : Site) → Each P Any (node_receives message e s)
  node_receives_even message e s =
      andthen P (sees P (LinkHalf e Input)) (λ half. received_by_even s e message (link_in half))

  keeps_even : (e : End) (message : Store) (v : Value) → Each P Any (keeps e message v)
  keeps_even e message (AreKept room messages) =
      andthen P (requires P (nat_le (length message) room) FullSink)
      (λ y. puts (Kept e) (AreKept (room - length message) (messages ++ message ∷ [])))
  keeps_even e message _ = stops P HasNoStep

  pub sink_receives_even : (message : Store) (e : End) → Each P Any (sink_receives message e)
  sink_receives_even message e = andthen P (sees P (Kept e)) (λ v. keeps_even e message v)

  -- operations of the scheduler, except for `endp`
  pub starts_child_even : (s : Site) (x : Name) (c : Context) → Each P Any (starts_child s x c)
  starts_child_even s x c =
      andthen P (known_each P c.a)
      (λ workspace. andthen P (known_each P c.b)
      (λ offset. andthen P
      (starts_even s (child_of x c.children) (fresh c.priority workspace (plus c.iptr offset)))
      (λ y. goes_on_even x (pop (pop (with_child c))))))

  pub runs_child_even : (s : Site) (x : Name) (c : Context) → Each P Any (runs_child s x c)
  runs_child_even s x c =
      andthen P (known_each P c.a)
      (λ process. andthen P (touch_word_at_each P s Reads (word_below (workspace_of process) 1))
      (λ cells. andthen P (known_each P (known_word cells))
      (λ iptr. andthen P
      (starts_even s (child_of x c.children) (fresh (priority_of process) (workspace_of process) iptr))
      (λ y. goes_on_even x (pop (with_child c))))))

  pub stops_itself_even : (s : Site) (x : Name) (c : Context) → Each P Any (stops_itself s x c)
  stops_itself_even s x c =
      andthen P (write_word_at_even s (word_below c.wptr 1) (as_cells (to_le_bytes w32 c.iptr)))
      (λ y. ends_even s x c)

  pub stops_by_error_even : (s : Site) (x : Name) (c : Context) → Each P Any (stops_by_error s x c)
  stops_by_error_even s x c =
      andthen P (sees P (Error s.number))
      (λ error. chooses P (flag_in error) (stops_itself_even s x c) (goes_on_even x c))

  communicates_even : (s : Site) (x : Name) (c : Context) (side : Side) (channel : ℕ) (buffer : Span)
      → Each P Any (communicates s x c side channel buffer)
  communicates_even s x c side channel buffer =
      chooses P (is_link channel) (takes_link_even s x c side channel buffer)
      (takes_half_even s x c side channel buffer)

  pub sends_or_receives_even : (side : Side) (s : Site) (x : Name) (c : Context)
      → Each P Any (sends_or_receives side s x c)
  sends_or_receives_even side s x c =
      andthen P (known_each P c.a)
      (λ length. andthen P (known_each P c.b)
      (λ channel. andthen P (known_each P c.c)
      (λ buffer. communicates_even s x c side channel (record { start = buffer; size = length }))))

  pub sends_from_workspace_even : (length : ℕ) (s : Site) (x : Name) (c : Context)
      → Each P Any (sends_from_workspace length s x c)
  sends_from_workspace_even length s x c =
      andthen P (known_each P c.b)
      (λ channel. andthen P (write_word_at_even s c.wptr (laid_down c.a))
      (λ y. communicates_even s x c Output channel (record { start = c.wptr; size = length })))

  goes_on_after_even : (s : Site) (k : ℕ) (u : Use) → Each P Any (goes_on_after s k u)
  goes_on_after_even s k (Last priority) = let w = successor_workspace k in
      andthen P (touch_word_at_each P s Reads w)
      (λ cells. andthen P (known_each P (known_word cells))
      (λ iptr. andthen P (unsent_each P s k)
      (λ y. andthen P (puts (WordAt s.number k) (IsWord (free_word 0)))
      (λ z. andthen P (sees P (Successions s.number w))
      (λ earlier. andthen P (puts (Successions s.number w) (IsCount (suc (count_in earlier))))
      (λ u. comes_even s (record { node = s.number; root = After w (count_in earlier); path = [] })
      (fresh priority w iptr) Runs))))))
  goes_on_after_even s k Free = stops P WordInUse
  goes_on_after_even s k Saved = stops P WordInUse
  goes_on_after_even s k Receiving = stops P WordInUse
  goes_on_after_even s k Engaged = stops P WordInUse
  goes_on_after_even s k Choosing = stops P WordInUse
  goes_on_after_even s k Awaiting = stops P WordInUse
  goes_on_after_even s k Spoilt = stops P WordInUse

  pub successor_step_even : (k : ℕ) (s : Site) → Each P Any (successor_step k s)
  successor_step_even k s =
      andthen P (sees P (WordAt s.number k)) (λ count. goes_on_after_even s k (word_in count).used)

  -- what follows an instruction
  sets_flag_even : (s : Site) (q : Place) (old new : Bool) → Each P Any (sets_flag s q old new)
  sets_flag_even s q old new =
      chooses P (is_same_flag old new) (nothing P tt)
      (andthen P (puts q (IsFlag new)) (λ y. raises (FlagChanged s.number)))

  pub jumped_even : (priority : ℕ) (s : Site) (x : Name) (c : Context) → Each P Any (jumped priority s x c)
  jumped_even zero s x c = goes_on_even x c
  jumped_even (suc q) s x c =
      andthen P (save_even s c.wptr kept) (λ y. stands_even x (Rests (forget c)))

  pub sets_error_even : (s : Site) (x : Name) (c : Context) → Each P Any (sets_error s x c)
  sets_error_even s x c =
      andthen P (sees P (HaltOnError s.number))
      (λ halting. andthen P (requires P (not (flag_in halting)) Halts)
      (λ y. andthen P (raises (Error s.number))
      (λ z. andthen P (raises (FlagChanged s.number)) (λ u. goes_on_even x c))))
