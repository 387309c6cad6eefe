-- Alternatives of one process leave alone another one that has ended.
use Rattle.std.proofs.Common.{Bool, true, false}
use Rattle.std.specs.Prelude.{ℕ, ◌==◌, not, if◌then◌else◌}
use Rattle.std.specs.Int.{w32, to_le_bytes}
use Rattle.tword.specs.declared.breaks.Break.TheVariants.{LinkBusy}
use Rattle.tword.specs.Stores.{as_cells}
use Rattle.tword.specs.Touches.{Reads, Writes}
use Rattle.tproc.specs.Alternatives.{none_selected}
use Rattle.tproc.specs.declared.channels.Side.TheVariants.{Input}
use Rattle.tproc.specs.LinkChannels.{is_link, link_of}
use Rattle.tplan.specs.declared.plan.Plan.{Plan}
use Rattle.tplan.specs.Wires.{end_at}
use Rattle.tprocesses.specs.Places.{Name, same_name}
use Rattle.tprocesses.specs.Values.{Choosing, Awaiting, Choice, Context, Link, Enabled, Awaited, Fired, link_in}
use Rattle.tprocesses.specs.Values.{ports_in}
use Rattle.tprocesses.specs.Changes.{known_word}
use Rattle.tprocesses.specs.Parts.{require, Breaks, WordInUse, HasNoStep}
use Rattle.tprocesses.specs.Touching.{Site, touch_word_at, write_word_at, save_upper}
use Rattle.tprocesses.specs.Standing.{known, unsave_upper}
use Rattle.tprocesses.specs.Choosing.{state_address, choice_of, under_way, has_none, begins_choice, enables}
use Rattle.tprocesses.specs.Choosing.{is_input, enables_link, enables_port, enables_channel, enables_skip}
use Rattle.tprocesses.specs.Choosing.{awaits_ports, waits_for_ports}
use Rattle.tprocesses.specs.Choosing.{changes_use, awaits_choice, goes_on_chosen, disables, is_first, sets_offset}
use Rattle.tprocesses.specs.Choosing.{selects, begins_to_listen, disables_pending, disables_link, disables_internal}
use Rattle.tprocesses.specs.Choosing.{disables_port, disables_channel, disables_skip, ends_choice, is_unfired_by}
use Rattle.tprocesses.specs.Choosing.{goes_on_unfired}
use Rattle.tprocesses.specs.Machine.{sender_to, requires_no_sender, listens}
use Rattle.tprocesses.proofs.Quiet.{requires, touches_at, writes_at, saves_upper, unsaves_upper, knows}
use Rattle.tprocesses.proofs.Quiet.{chooses as quiet_chooses}
use Rattle.tprocesses.proofs.PlainChoices.{choice_is, is_under_way, enable, await_ports, uses_change, disable, first}
use Rattle.tprocesses.proofs.PlainChoices.{set_offset, input_is, enable_link}
use Rattle.tprocesses.proofs.PlainLinks.{no_sender}
use Rattle.tprocesses.proofs.Avoiding.{IsOther, Avoids, quietly, chooses}

-- a process that is another one makes its choice
module _ (e x : Name) (another : IsOther e x) where
  -- `alt`
  pub begin_choice : (s : Site) (c : Context) → Avoids e (begins_choice s x c)
  begin_choice s c =
      quietly e (touch_word_at s Writes (state_address c)) _ (touches_at s Writes (state_address c))
      (λ cells. (tt, (another, tt)))

  -- `enbc` with a guard that is true
  enable_port : (s : Site) (c : Context) → Avoids e (enables_port s x c)
  enable_port s c =
      quietly e (known c.b) _ (knows c.b)
      (λ channel. quietly e (if is_link channel then enables_link s x channel else enables s x channel) _
      (quiet_chooses (is_link channel) _ _ (enable_link s x channel) (enable s x channel)) (λ z. (another, tt)))

  -- `enbc`
  pub enable_channel : (s : Site) (c : Context) → Avoids e (enables_channel s x c)
  enable_channel s c =
      quietly e (under_way s c) _ (is_under_way s c)
      (λ choice. quietly e (known c.a) _ (knows c.a)
      (λ guard. chooses e (guard == 0) _ (enables_port s x c) (another, tt) (enable_port s c)))

  -- `enbs`
  pub enable_skip : (s : Site) (c : Context) → Avoids e (enables_skip s x c)
  enable_skip s c =
      quietly e (under_way s c) _ (is_under_way s c)
      (λ choice. quietly e (known c.a) _ (knows c.a) (λ guard. (another, tt)))

  -- `altwt` where no guard need not wait
  wait_for_ports : (s : Site) (c : Context) → Avoids e (waits_for_ports s x c)
  wait_for_ports s c v seen =
      quietly e (awaits_ports s x (ports_in v)) _ (await_ports s x (ports_in v))
      (λ y. quietly e (changes_use s c Choosing Awaiting) _ (uses_change s c Choosing Awaiting)
      (λ u. quietly e (save_upper s c.wptr) _ (saves_upper s c.wptr) (λ z. (another, tt))))

  -- `altwt`
  pub await_choice : (s : Site) (c : Context) → Avoids e (awaits_choice s x c)
  await_choice s c =
      quietly e (write_word_at s c.wptr (as_cells (to_le_bytes w32 none_selected))) _
      (writes_at s c.wptr (as_cells (to_le_bytes w32 none_selected)))
      (λ y. quietly e (under_way s c) _ (is_under_way s c)
      (λ choice. chooses e choice.skips _ (waits_for_ports s x c) (another, tt) (wait_for_ports s c)))

  -- it goes on after it has waited
  pub go_on_chosen : (s : Site) (c : Context) → Avoids e (goes_on_chosen s x c)
  go_on_chosen s c =
      quietly e (changes_use s c Awaiting Choosing) _ (uses_change s c Awaiting Choosing)
      (λ y. quietly e (unsave_upper s c.wptr) _ (unsaves_upper s c.wptr) (λ z. (another, tt)))

  -- a guard is chosen or not
  select : (s : Site) (c : Context) (ready : Bool) → Avoids e (selects s x c ready)
  select s c ready =
      quietly e (touch_word_at s Writes c.wptr) _ (touches_at s Writes c.wptr)
      (λ cells. quietly e (is_first ready (known_word cells)) _ (first ready (known_word cells))
      (λ chosen. quietly e (sets_offset s c chosen) _ (set_offset s c chosen) (λ y. (another, tt))))

  -- it begins to listen to a link
  begin_to_listen : (s : Site) (c : Context) (channel : ℕ) → Avoids e (begins_to_listen s x c channel)
  begin_to_listen s c channel =
      quietly e (touch_word_at s Writes c.wptr) _ (touches_at s Writes c.wptr) (λ cells. (another, tt))

  -- `disc` of a link, by what is pending there
  disable_pending : (s : Site) (c : Context) (channel : ℕ) (l : Link) → Avoids e (disables_pending s x c channel l)
  disable_pending s c channel (Fired y) =
      quietly e (require (same_name y x) (Breaks LinkBusy)) _ (requires (same_name y x) (Breaks LinkBusy))
      (λ z. (tt, (λ ports seen. (tt, select s c true))))
  disable_pending s c channel (Enabled y) =
      quietly e (require (same_name y x) (Breaks LinkBusy)) _ (requires (same_name y x) (Breaks LinkBusy))
      (λ z. begin_to_listen s c channel)
  disable_pending s c channel (Awaited y) =
      quietly e (require (same_name y x) (Breaks LinkBusy)) _ (requires (same_name y x) (Breaks LinkBusy))
      (λ z. begin_to_listen s c channel)
  disable_pending s c channel _ = tt

  -- `disc` of a link
  disable_link : (s : Site) (c : Context) (channel : ℕ) → Avoids e (disables_link s x c channel)
  disable_link s c channel =
      quietly e (is_input channel) _ (input_is channel) (λ y v seen. disable_pending s c channel (link_in v))

  -- `disc` of an internal channel
  disable_internal : (s : Site) (c : Context) (channel : ℕ) → Avoids e (disables_internal s x c channel)
  disable_internal s c channel =
      quietly e (disables s x channel) _ (disable s x channel) (λ ready. select s c ready)

  -- `disc` with a guard that is true
  disable_port : (s : Site) (c : Context) (choice : Choice) → Avoids e (disables_port s x c choice)
  disable_port s c choice =
      quietly e (require choice.skips WordInUse) _ (requires choice.skips WordInUse)
      (λ z. quietly e (known c.c) _ (knows c.c)
      (λ channel. chooses e (is_link channel) _ _ (disable_link s c channel) (disable_internal s c channel)))

  -- `disc`
  pub disable_channel : (s : Site) (c : Context) → Avoids e (disables_channel s x c)
  disable_channel s c =
      quietly e (choice_of c.choice) _ (choice_is c.choice)
      (λ choice. quietly e (known c.b) _ (knows c.b)
      (λ guard. chooses e (guard == 0) (selects s x c false) (disables_port s x c choice) (select s c false)
      (disable_port s c choice)))

  -- `diss`
  pub disable_skip : (s : Site) (c : Context) → Avoids e (disables_skip s x c)
  disable_skip s c =
      quietly e (choice_of c.choice) _ (choice_is c.choice)
      (λ choice. quietly e (known c.b) _ (knows c.b) (λ guard. select s c (not (guard == 0))))

  -- `altend`
  pub end_choice : (s : Site) (c : Context) → Avoids e (ends_choice s x c)
  end_choice s c =
      quietly e (under_way s c) _ (is_under_way s c)
      (λ choice v seen. quietly e (require (has_none (ports_in v)) WordInUse) _
      (requires (has_none (ports_in v)) WordInUse)
      (λ y. quietly e (touch_word_at s Reads c.wptr) _ (touches_at s Reads c.wptr)
      (λ cells. quietly e (known (known_word cells)) _ (knows (known_word cells)) (λ offset. (tt, (another, tt))))))

  -- it goes on after it has listened
  go_on_unfired : (s : Site) (channel : ℕ) (c : Context) → Avoids e (goes_on_unfired s x channel c)
  go_on_unfired s channel c = λ pending seen.
      quietly e (require (is_unfired_by x (link_in pending)) HasNoStep) _
      (requires (is_unfired_by x (link_in pending)) HasNoStep)
      (λ y. (tt, (λ ports seen'. (tt, (another, tt)))))

  -- it listens
  pub listen : (p : Plan) (s : Site) (channel : ℕ) (c : Context) → Avoids e (listens p x channel c s)
  listen p s channel c =
      quietly e (requires_no_sender p (sender_to p (end_at x.node (link_of Input channel)))) _
      (no_sender p (sender_to p (end_at x.node (link_of Input channel)))) (λ y. go_on_unfired s channel c)
