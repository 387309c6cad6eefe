-- Alternatives spare the gates of others.
use Rattle.std.proofs.Common.{◌≡◌, ℕ, refl, sym, ap, Bool, true, false, List, [], ◌∷◌, true≢false, Option, Some, None}
use Rattle.std.specs.Prelude.{◌==◌, ◌||◌, not}
use Rattle.std.specs.Int.{w32, to_le_bytes}
use Rattle.std.proofs.lemmas.Bool.{not-true}
use Rattle.tword.specs.declared.breaks.Break.TheVariants.{ChannelMisuse, LinkBusy}
use Rattle.tword.specs.Stores.{as_cells}
use Rattle.tword.specs.Words.{plus}
use Rattle.tword.specs.Touches.{Reads, Writes, word_place_break}
use Rattle.tproc.specs.declared.channels.Side.TheVariants.{Input, Output}
use Rattle.tproc.specs.Alternatives.{none_selected}
use Rattle.tproc.specs.LinkChannels.{is_link, link_of}
use Rattle.tproc.specs.Queues.{not_process}
use Rattle.tplan.specs.declared.plan.Plan.{Plan}
use Rattle.tplan.specs.Wires.{end_at}
use Rattle.tprocesses.specs.Places.{Name, Place, Standing, Ports, Half, same_name}
use Rattle.tprocesses.specs.Values.{Use, Free, Engaged, Choosing, Awaiting, Choice}
use Rattle.tprocesses.specs.Values.{Context, Runs, Chooses, Chosen, Holder, Link, Enabled, Awaited, Fired}
use Rattle.tprocesses.specs.Values.{Nobody, EnabledBy, AwaitedBy, Value, IsWord, IsStand, IsHalf, stand_in}
use Rattle.tprocesses.specs.Values.{half_in, link_in, ports_in}
use Rattle.tprocesses.specs.Changes.{free_word, known_word, used_word}
use Rattle.tprocesses.specs.Parts.{Breaks, SeveralReady, WordInUse}
use Rattle.tprocesses.specs.Touching.{Site, word_number, word_place}
use Rattle.tprocesses.specs.Standing.{forget}
use Rattle.tprocesses.specs.Choosing.{state_address, choice_of, under_way, with_choice, with_port, without_port}
use Rattle.tprocesses.specs.Choosing.{has_none, begins_choice, enables_held, enables, drop_channel, input_of}
use Rattle.tprocesses.specs.Choosing.{enables_port, enables_channel, enables_skip, is_enabled_by, awaits_channel}
use Rattle.tprocesses.specs.Choosing.{awaits_ports}
use Rattle.tprocesses.specs.Choosing.{changes_use, waits_for_ports, awaits_choice, goes_on_chosen}
use Rattle.tprocesses.specs.Choosing.{is_taken, readiness, frees_word}
use Rattle.tprocesses.specs.Choosing.{disables, is_first, sets_offset, answers, selects, disables_internal}
use Rattle.tprocesses.specs.Choosing.{disables_pending, disables_link, disables_port}
use Rattle.tprocesses.specs.Choosing.{disables_channel, disables_skip, ends_choice, requires_silence}
use Rattle.tprocesses.specs.Choosing.{requires_no_other, lets_go_on}
use Rattle.tprocesses.specs.Machine.{Agent, is_met_at, is_due_at, awaits_successor}
use Rattle.tprocesses.proofs.Gates.{half_shut, silent_shut, link_shut}
use Rattle.tprocesses.proofs.Safe.{Seen, Anything, Shut, IsShutTo, Tells, Safely, Stays, andthen, nothing, stops}
use Rattle.tprocesses.proofs.Safe.{sees, sees_each, sees_fine, keeping, lighter, chooses, requires, requires_fine}
use Rattle.tprocesses.proofs.Safe.{unless_fine, puts, engages}
use Rattle.tprocesses.proofs.SafeTouches.{unsent_safe, still, touch_word_at_safe, write_word_at_safe}
use Rattle.tprocesses.proofs.SafeTouches.{save_upper_safe, word_for_safe}
use Rattle.tprocesses.proofs.SafeParts.{IsOwn, stands_safe, known_fine, unsave_upper_fine, changes_ports_safe}
use Rattle.tprocesses.proofs.SafeLinks.{is_input_fine, enables_link_safe, awaits_link_safe, gives_up_link_safe}
use Rattle.tprocesses.proofs.SafeLinks.{begins_to_listen_safe, waiting_safe}

module _ (p : Plan) (a : Agent) where
  choice_fine : {K : Seen → Type 0} (c : Option Choice) → Safely p a K (choice_of c) Anything
  choice_fine (Some c) = nothing p a c (λ t k. tt)
  choice_fine None = stops p a _

  -- the word of the state was seen shut
  under_way_safe : {K : Seen → Type 0} (s : Site) (c : Context)
      → Safely p a K (under_way s c) (λ x t. Shut p a (word_place s (state_address c)) t)
  under_way_safe s c = let k = word_number (state_address c) in
      andthen p a (choice_fine c.choice)
      (λ choice. andthen p a (unless_fine p a (word_place_break s.size (state_address c)))
      (λ y. andthen p a (word_for_safe p a s Choosing k refl)
      (λ cells. andthen p a (still p a (word_place s (state_address c)) (unsent_safe p a s k))
      (λ z. nothing p a choice (λ t known. known)))))

  pub begins_choice_safe : {K : Seen → Type 0} (s : Site) (x : Name) (c : Context) → IsOwn p a x
      → Safely p a K (begins_choice s x c) Anything
  begins_choice_safe s x c own =
      andthen p a (touch_word_at_safe p a s Writes (state_address c))
      (λ cells. andthen p a
      (puts p a (word_place s (state_address c)) (IsWord (used_word Choosing)) (λ t known. known))
      (λ y. stands_safe p a x (Runs (with_choice false c)) own))

  -- a channel is enabled where its input was seen free
  enables_held_safe : (s : Site) (x : Name) (channel : ℕ) (v : Value) (h : Holder) → half_in v ≡ h
      → Safely p a (λ t. IsShutTo p a (Half s.number channel Input) v → Shut p a (Half s.number channel Input) t)
      (enables_held s x channel h) Anything
  enables_held_safe s x channel v Nobody e = let half = Half s.number channel Input in
      andthen p a
      (puts p a half (IsHalf (EnabledBy x))
      (λ t known. known (half_shut p a s.number channel Input v (ap (is_met_at half) e))))
      (λ y. andthen p a (unsent_safe p a s (word_number channel)) (λ z. engages p a (word_place s channel)))
  enables_held_safe s x channel v (EnabledBy y) e =
      andthen p a (requires_fine p a (same_name y x) (Breaks ChannelMisuse))
      (λ z. unsent_safe p a s (word_number channel))
  enables_held_safe s x channel v _ e = stops p a _

  enables_safe : {K : Seen → Type 0} (s : Site) (x : Name) (channel : ℕ) → Safely p a K (enables s x channel) Anything
  enables_safe s x channel =
      andthen p a (unless_fine p a (word_place_break s.size channel))
      (λ y. andthen p a (sees p a (Half s.number channel Input))
      (λ v. andthen p a (enables_held_safe s x channel v (half_in v) refl)
      (λ z. changes_ports_safe p a x (with_port channel))))

  enables_port_safe : {K : Seen → Type 0} (s : Site) (x : Name) (c : Context) → IsOwn p a x
      → Safely p a K (enables_port s x c) Anything
  enables_port_safe s x c own =
      andthen p a (known_fine p a c.b)
      (λ channel. andthen p a
      (chooses p a (is_link channel) (enables_link_safe p a s x channel) (enables_safe s x channel))
      (λ z. stands_safe p a x (Runs (drop_channel c)) own))

  pub enables_channel_safe : {K : Seen → Type 0} (s : Site) (x : Name) (c : Context) → IsOwn p a x
      → Safely p a K (enables_channel s x c) Anything
  enables_channel_safe s x c own =
      andthen p a (under_way_safe s c)
      (λ choice. andthen p a (known_fine p a c.a)
      (λ guard. chooses p a (guard == 0) (stands_safe p a x (Runs (drop_channel c)) own)
      (enables_port_safe s x c own)))

  pub enables_skip_safe : {K : Seen → Type 0} (s : Site) (x : Name) (c : Context) → IsOwn p a x
      → Safely p a K (enables_skip s x c) Anything
  enables_skip_safe s x c own =
      andthen p a (under_way_safe s c)
      (λ choice. andthen p a (known_fine p a c.a)
      (λ guard. stands_safe p a x (Runs (with_choice (choice.skips || not (guard == 0)) c)) own))

  -- a channel has no step while its input is enabled
  enabled_unmet : (x : Name) (n channel : ℕ) (h : Holder) → is_enabled_by x h ≡ true
      → is_met_at (Half n channel Input) h ≡ false
  enabled_unmet x n channel (EnabledBy y) h = refl
  enabled_unmet x n channel _ h = absurd (true≢false (sym h))

  awaits_channel_safe : {K : Seen → Type 0} (s : Site) (x : Name) (channel : ℕ)
      → Safely p a K (awaits_channel s x channel) Anything
  awaits_channel_safe s x channel = let half = Half s.number channel Input in
      andthen p a (sees p a half)
      (λ v. andthen p a (requires p a (is_enabled_by x (half_in v)) (Breaks ChannelMisuse))
      (λ y. puts p a half (IsHalf (AwaitedBy x))
      (λ t known. known.1
      (half_shut p a s.number channel Input v (enabled_unmet x s.number channel (half_in v) known.0)))))

  awaits_ports_safe : {K : Seen → Type 0} (s : Site) (x : Name) (ports : List ℕ)
      → Safely p a K (awaits_ports s x ports) Anything
  awaits_ports_safe s x [] = nothing p a tt (λ t k. tt)
  awaits_ports_safe s x (channel ∷ rest) =
      andthen p a
      (chooses p a (is_link channel) (awaits_link_safe p a s x channel) (awaits_channel_safe s x channel))
      (λ z. awaits_ports_safe s x rest)

  changes_use_safe : {K : Seen → Type 0} (s : Site) (c : Context) (old new : Use) → awaits_successor old ≡ false
      → Safely p a K (changes_use s c old new) Anything
  changes_use_safe s c old new h =
      andthen p a (word_for_safe p a s old (word_number (state_address c)) h)
      (λ cells. puts p a (word_place s (state_address c)) (IsWord (used_word new)) (λ t known. known))

  waits_safe : {K : Seen → Type 0} (s : Site) (x : Name) (c : Context) → IsOwn p a x
      → Safely p a K (waits_for_ports s x c) Anything
  waits_safe s x c own =
      andthen p a (sees_fine p a (Ports x))
      (λ ports. andthen p a (awaits_ports_safe s x (ports_in ports))
      (λ y. andthen p a (changes_use_safe s c Choosing Awaiting refl)
      (λ u. andthen p a (save_upper_safe p a s c.wptr) (λ z. stands_safe p a x (Chooses (forget c)) own))))

  pub awaits_choice_safe : {K : Seen → Type 0} (s : Site) (x : Name) (c : Context) → IsOwn p a x
      → Safely p a K (awaits_choice s x c) Anything
  awaits_choice_safe s x c own =
      andthen p a (write_word_at_safe p a s c.wptr (as_cells (to_le_bytes w32 none_selected)))
      (λ y. andthen p a (under_way_safe s c)
      (λ choice. chooses p a choice.skips (stands_safe p a x (Runs c) own) (waits_safe s x c own)))

  pub goes_on_chosen_safe : {K : Seen → Type 0} (s : Site) (x : Name) (c : Context) → IsOwn p a x
      → Safely p a K (goes_on_chosen s x c) Anything
  goes_on_chosen_safe s x c own =
      andthen p a (changes_use_safe s c Awaiting Choosing refl)
      (λ y. andthen p a (unsave_upper_fine p a s c.wptr) (λ z. stands_safe p a x (Runs c) own))

  tells_still : (q : Place) (v : Value) → Stays p a (Tells p a q v)
  tells_still q v t t' later told b other gate shut = later b (told b other gate shut)

  -- what was seen of both halves
  abbrev Told : (n channel : ℕ) → (v w : Value) → Seen → Type 0
  Told n channel v w t = Tells p a (Half n channel Input) v t × Tells p a (Half n channel Output) w t

  -- a channel whose input is not awaited, or on which no message is sent, has no step
  readiness_safe : (x : Name) (n channel : ℕ) (v w : Value) (h : Holder) → half_in v ≡ h
      → Safely p a (Told n channel v w) (readiness x (is_taken (half_in w)) h)
      (λ ready t. Shut p a (Half n channel Input) t)
  readiness_safe x n channel v w (EnabledBy y) e =
      andthen p a (requires p a (same_name y x) (Breaks ChannelMisuse))
      (λ z. nothing p a (is_taken (half_in w))
      (λ t known b other gate. known.1.0 b other gate
      (half_shut p a n channel Input v (ap (is_met_at (Half n channel Input)) e) b gate)))
  readiness_safe x n channel v w (AwaitedBy y) e =
      andthen p a (requires p a (same_name y x) (Breaks ChannelMisuse))
      (λ z. andthen p a (requires p a (not (is_taken (half_in w))) SeveralReady)
      (λ u. nothing p a false
      (λ t known. silent_shut p a n channel w t (not-true (is_taken (half_in w)) known.0) known.1.1.1)))
  readiness_safe x n channel v w _ e = stops p a _

  frees_word_safe : (s : Site) (channel : ℕ) (ready : Bool)
      → Safely p a (λ t. Shut p a (word_place s channel) t) (frees_word s channel ready) Anything
  frees_word_safe s channel true = nothing p a tt (λ t k. tt)
  frees_word_safe s channel false =
      puts p a (word_place s channel) (IsWord (free_word not_process)) (λ t known. known)

  disables_safe : {K : Seen → Type 0} (s : Site) (x : Name) (channel : ℕ)
      → Safely p a K (disables s x channel) Anything
  disables_safe s x channel =
      let input = Half s.number channel Input in
      let k = word_number channel in
      andthen p a (unless_fine p a (word_place_break s.size channel))
      (λ y. andthen p a (sees_each p a input)
      (λ v. andthen p a
      (keeping p a (tells_still input v) (λ t known. known) (sees_each p a (Half s.number channel Output)))
      (λ w. andthen p a (readiness_safe x s.number channel v w (half_in v) refl)
      (λ ready. andthen p a (puts p a input (IsHalf Nobody) (λ t known. known))
      (λ z. andthen p a (word_for_safe p a s Engaged k refl)
      (λ cells. andthen p a (still p a (word_place s channel) (unsent_safe p a s k))
      (λ r. andthen p a (frees_word_safe s channel ready)
      (λ m. andthen p a (changes_ports_safe p a x (without_port channel))
      (λ l. nothing p a ready (λ t known. tt))))))))))

  is_first_fine : {K : Seen → Type 0} (ready : Bool) (selected : Option ℕ)
      → Safely p a K (is_first ready selected) Anything
  is_first_fine true selected =
      andthen p a (known_fine p a selected) (λ v. nothing p a (v == none_selected) (λ t k. tt))
  is_first_fine false selected = nothing p a false (λ t k. tt)

  sets_offset_safe : (s : Site) (c : Context) (chosen : Bool)
      → Safely p a (λ t. Shut p a (word_place s c.wptr) t) (sets_offset s c chosen) Anything
  sets_offset_safe s c true =
      andthen p a (still p a (word_place s c.wptr) (known_fine p a c.a))
      (λ v. puts p a (word_place s c.wptr) (IsWord (free_word v)) (λ t known. known))
  sets_offset_safe s c false = nothing p a tt (λ t k. tt)

  selects_safe : {K : Seen → Type 0} (s : Site) (x : Name) (c : Context) (ready : Bool) → IsOwn p a x
      → Safely p a K (selects s x c ready) Anything
  selects_safe s x c ready own =
      andthen p a (touch_word_at_safe p a s Writes c.wptr)
      (λ cells. andthen p a (still p a (word_place s c.wptr) (is_first_fine ready (known_word cells)))
      (λ chosen. andthen p a (sets_offset_safe s c chosen)
      (λ y. stands_safe p a x (Runs (answers chosen c)) own)))

  disables_internal_safe : {K : Seen → Type 0} (s : Site) (x : Name) (c : Context) (channel : ℕ) → IsOwn p a x
      → Safely p a K (disables_internal s x c channel) Anything
  disables_internal_safe s x c channel own =
      andthen p a (disables_safe s x channel) (λ ready. selects_safe s x c ready own)

  -- a link that made its process go on was seen shut
  disables_pending_safe : (s : Site) (x : Name) (c : Context) (channel : ℕ) (v : Value) (l : Link) → link_in v ≡ l
      → IsOwn p a x → Safely p a (λ t. IsShutTo p a (input_of s channel) v → Shut p a (input_of s channel) t)
      (disables_pending s x c channel l) Anything
  disables_pending_safe s x c channel v (Fired y) e own =
      andthen p a
      (lighter p a (λ t known. known (link_shut p a (end_at s.number (link_of Input channel)) Input v
      (ap (is_due_at Input) e))) (λ z t known. known)
      (still p a (input_of s channel) (requires_fine p a (same_name y x) (Breaks LinkBusy))))
      (λ z. andthen p a (gives_up_link_safe p a s x channel) (λ u. selects_safe s x c true own))
  disables_pending_safe s x c channel v (Enabled y) e own =
      andthen p a (requires_fine p a (same_name y x) (Breaks LinkBusy))
      (λ z. begins_to_listen_safe p a s x c channel own)
  disables_pending_safe s x c channel v (Awaited y) e own =
      andthen p a (requires_fine p a (same_name y x) (Breaks LinkBusy))
      (λ z. begins_to_listen_safe p a s x c channel own)
  disables_pending_safe s x c channel v _ e own = stops p a (Breaks LinkBusy)

  disables_link_safe : {K : Seen → Type 0} (s : Site) (x : Name) (c : Context) (channel : ℕ) → IsOwn p a x
      → Safely p a K (disables_link s x c channel) Anything
  disables_link_safe s x c channel own =
      andthen p a (is_input_fine p a channel)
      (λ y. andthen p a (sees p a (input_of s channel))
      (λ v. disables_pending_safe s x c channel v (link_in v) refl own))

  disables_port_safe : {K : Seen → Type 0} (s : Site) (x : Name) (c : Context) (choice : Choice) → IsOwn p a x
      → Safely p a K (disables_port s x c choice) Anything
  disables_port_safe s x c choice own =
      andthen p a (requires_fine p a choice.skips WordInUse)
      (λ z. andthen p a (known_fine p a c.c)
      (λ channel. chooses p a (is_link channel) (disables_link_safe s x c channel own)
      (disables_internal_safe s x c channel own)))

  pub disables_channel_safe : {K : Seen → Type 0} (s : Site) (x : Name) (c : Context) → IsOwn p a x
      → Safely p a K (disables_channel s x c) Anything
  disables_channel_safe s x c own =
      andthen p a (choice_fine c.choice)
      (λ choice. andthen p a (known_fine p a c.b)
      (λ guard. chooses p a (guard == 0) (selects_safe s x c false own) (disables_port_safe s x c choice own)))

  pub disables_skip_safe : {K : Seen → Type 0} (s : Site) (x : Name) (c : Context) → IsOwn p a x
      → Safely p a K (disables_skip s x c) Anything
  disables_skip_safe s x c own =
      andthen p a (choice_fine c.choice)
      (λ choice. andthen p a (known_fine p a c.b) (λ guard. selects_safe s x c (not (guard == 0)) own))

  pub ends_choice_safe : {K : Seen → Type 0} (s : Site) (x : Name) (c : Context) → IsOwn p a x
      → Safely p a K (ends_choice s x c) Anything
  ends_choice_safe s x c own = let word = word_place s (state_address c) in
      andthen p a (under_way_safe s c)
      (λ choice. andthen p a (still p a word (sees_fine p a (Ports x)))
      (λ ports. andthen p a (still p a word (requires_fine p a (has_none (ports_in ports)) WordInUse))
      (λ y. andthen p a (still p a word (touch_word_at_safe p a s Reads c.wptr))
      (λ cells. andthen p a (still p a word (known_fine p a (known_word cells)))
      (λ offset. andthen p a (puts p a word (IsWord (used_word Free)) (λ t known. known))
      (λ z. stands_safe p a x (Runs (record c { iptr = plus c.iptr offset; choice = None })) own))))))

  -- a channel makes a process go on that was seen to wait
  silence_fine : {K : Seen → Type 0} (s : Site) (channel : ℕ) → Safely p a K (requires_silence s channel) Anything
  silence_fine s channel =
      andthen p a (sees_fine p a (Half s.number channel Output))
      (λ output. requires_fine p a (not (is_taken (half_in output))) SeveralReady)

  no_other_fine : {K : Seen → Type 0} (s : Site) (channel : ℕ) (ports : List ℕ)
      → Safely p a K (requires_no_other s channel ports) Anything
  no_other_fine s channel [] = nothing p a tt (λ t k. tt)
  no_other_fine s channel (d ∷ rest) =
      andthen p a
      (chooses p a ((d == channel) || is_link d) (nothing p a tt (λ t k. tt)) (silence_fine s d))
      (λ y. no_other_fine s channel rest)

  pub lets_go_on_safe : {K : Seen → Type 0} (s : Site) (channel : ℕ) (x : Name)
      → ((t : Seen) → Shut p a (Half s.number channel Input) t) → Safely p a K (lets_go_on s channel x) Anything
  lets_go_on_safe s channel x own =
      andthen p a (sees p a (Standing x))
      (λ v. andthen p a (waiting_safe p a x v (stand_in v) refl)
      (λ c. andthen p a (still p a (Standing x) (sees_fine p a (Ports x)))
      (λ ports. andthen p a (still p a (Standing x) (no_other_fine s channel (ports_in ports)))
      (λ y. andthen p a
      (still p a (Standing x) (puts p a (Half s.number channel Input) (IsHalf (EnabledBy x)) (λ t known. own t)))
      (λ z. puts p a (Standing x) (IsStand (Chosen (with_choice true c))) (λ t known. known))))))
