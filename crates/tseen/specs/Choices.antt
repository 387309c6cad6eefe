-- The alternatives of the processes of a node: what the words of their states say, and which
-- channels they have enabled.
-- Source: own choice.
use Rattle.std.specs.Prelude.{ℕ, ◌≡◌, ◌+◌, ◌*◌, ◌<◌, ◌⊎◌, ◌^◌, Bool, true, false, List, length, pos, Option, Some, None}
use Rattle.std.specs.Prelude.{is_none, is_some, option_map, option_and_then, slice_index_or, if◌then◌else◌}
use Rattle.tword.specs.Stores.{Store, word_at}
use Rattle.tword.specs.Touches.{word_place_break}
use Rattle.tword.specs.Words.{most_neg, word_below}
use Rattle.tproc.specs.declared.channels.Side.TheVariants.{Input, Output}
use Rattle.tproc.specs.Channels.{enabling, waiting_state, ready}
use Rattle.tproc.specs.Queues.{state_word}
use Rattle.tproc.specs.LinkChannels.{is_link, link_of, quiet_end}
use Rattle.tproc.specs.declared.waiter.LinkEnd.{LinkEnd}
use Rattle.tplan.specs.Wires.{end_at}
use Rattle.tprocesses.specs.Places.{Place, Name, Sending, Standing, Half, LinkHalf, Ports}
use Rattle.tprocesses.specs.Values.{Value, Use, Engaged, Choosing, Awaiting, Context}
use Rattle.tprocesses.specs.Values.{Stand, Rests, Runs, Waits, Chooses, Chosen}
use Rattle.tprocesses.specs.Values.{Holder, EnabledBy, AwaitedBy, Link, Enabled, Awaited, Fired, stand_in, half_in}
use Rattle.tprocesses.specs.Values.{link_in, amount_in, ports_in, unknown}
use Rattle.tprocesses.specs.Choosing.{has_port, is_taken}
use Rattle.tprocesses.specs.Touching.{word_number}
use Rattle.tseen.specs.Words.{use_at, cells_at}

-- an alternative that is under way: whether it need not wait, the workspace and the priority of its process, whether
-- that runs, and whether it waits for the alternative
pub record Alternative : Type 0 where
  pub skips : Bool
  pub wptr : ℕ
  pub priority : ℕ
  pub runs : Bool
  pub waits : Bool

abbrev pub alternative : (runs waits : Bool) → Context → Option Alternative
alternative runs waits k =
    option_map (λ choice. record {
      skips = choice.skips;
      wptr = k.wptr;
      priority = k.priority;
      runs = runs;
      waits = waits;
    }) k.choice

-- the one of a process that stands there
abbrev pub alternative_of : Stand → Option Alternative
alternative_of (Runs k) = alternative true false k
alternative_of (Chooses k) = alternative false true k
alternative_of (Chosen k) = alternative false false k
alternative_of _ = None

-- a process that rests, or waits for a message, has none, and one that waits for its alternative has one
abbrev pub is_quiet : Stand → Bool
is_quiet (Rests k) = is_none k.choice
is_quiet (Waits k) = is_none k.choice
is_quiet (Chooses k) = is_some k.choice
is_quiet (Chosen k) = is_some k.choice
is_quiet _ = true

-- what the word of its state is in use for
abbrev pub state_use : (runs : Bool) → Use
state_use true = Choosing
state_use false = Awaiting

-- what that word says, if no guard is ready
abbrev pub unready_word : (waits : Bool) → ℕ
unready_word true = waiting_state
unready_word false = enabling

-- who has enabled a channel, if somebody has
abbrev pub enabler : Holder → Option Name
enabler (EnabledBy x) = Some x
enabler (AwaitedBy x) = Some x
enabler _ = None

-- who has enabled the input of a link, if somebody has
abbrev pub link_enabler : Link → Option Name
link_enabler (Enabled x) = Some x
link_enabler (Awaited x) = Some x
link_enabler (Fired x) = Some x
link_enabler _ = None

-- who has enabled it and was not made to go on by it
abbrev pub unfired : Link → Option Name
unfired (Enabled x) = Some x
unfired (Awaited x) = Some x
unfired _ = None

-- the channel word of the input of a link
abbrev pub input_channel : (link : ℕ) → ℕ
input_channel l = most_neg + 16 + 4 * l

module _ (s : Place → Value) (n : ℕ) where
  -- the alternative of a process
  abbrev pub alternative_at : Name → Option Alternative
  alternative_at x = alternative_of (stand_in (s (Standing x)))

  -- a process has enabled a channel
  abbrev pub enables : Name → (channel : ℕ) → Bool
  enables x channel = has_port channel (ports_in (s (Ports x)))

  -- who has enabled a channel
  abbrev pub enabler_at : (channel : ℕ) → Option Name
  enabler_at channel = enabler (half_in (s (Half n channel Input)))

  -- what stands at the input of a link
  abbrev pub input_at : (link : ℕ) → Link
  input_at l = link_in (s (LinkHalf (end_at n l) Input))

  -- who has enabled the input of a link
  abbrev pub enabler_on : (link : ℕ) → Option Name
  enabler_on l = link_enabler (input_at l)

  -- the descriptor of a process that has an alternative
  abbrev pub descriptor_at : Name → Option ℕ
  descriptor_at x = option_map (λ a. a.wptr + a.priority) (alternative_at x)

  -- the process that a link remembers, if no byte is noticed there
  abbrev pub remembered_at : (link : ℕ) → Option ℕ
  remembered_at l = option_and_then descriptor_at (unfired (input_at l))

  -- a message is sent on a channel
  abbrev pub is_sent : (channel : ℕ) → Bool
  is_sent channel = is_taken (half_in (s (Half n channel Output)))

  -- who has enabled the channel or the input of the link that a channel word names
  abbrev pub HasEnabled : (channel : ℕ) → Name → Type 0
  HasEnabled channel x =
      ((is_link channel ≡ false) × (enabler_at channel ≡ Some x))
      ⊎ ((l : ℕ) × (l < 4) × (channel ≡ input_channel l) × (enabler_on l ≡ Some x))

  -- a message is sent on a channel, or a byte was noticed at the link
  abbrev pub is_due : (links : List LinkEnd) → (channel : ℕ) → Bool
  is_due links channel =
      if is_link channel then (slice_index_or links (link_of Input channel) quiet_end).noticed else is_sent channel

  -- an alternative need not wait
  abbrev pub IsReady : (links : List LinkEnd) → Name → (skips : Bool) → Type 0
  IsReady links x skips =
      (skips ≡ true) ⊎ ((channel : ℕ) × (enables x channel ≡ true) × (is_due links channel ≡ true))

  -- it would have to wait
  abbrev pub IsUnready : (links : List LinkEnd) → Name → (skips : Bool) → Type 0
  IsUnready links x skips =
      (skips ≡ false) × ((channel : ℕ) → enables x channel ≡ true → is_due links channel ≡ false)

  -- the alternative of a process
  pub record HasChoice (links : List LinkEnd) (store : Store) (x : Name) (a : Alternative) : Type 0 where
    pub small : (a.priority < 2) × (a.wptr < 2 ^ 32)
    -- the word of its state lies in the memory
    pub placed : word_place_break (length store) (word_below a.wptr state_word) ≡ None
    pub used : use_at s n (word_below a.wptr state_word) ≡ state_use a.runs
    pub unseen : cells_at s n (word_below a.wptr state_word) ≡ unknown
    -- no output that is pending has a byte of it
    pub unsent : amount_in (s (Sending n (word_number (word_below a.wptr state_word)))) ≡ pos 0
    -- it tells whether the alternative need not wait
    pub state : ((word_at store (word_below a.wptr state_word) ≡ ready) × IsReady links x a.skips)
        ⊎ ((word_at store (word_below a.wptr state_word) ≡ unready_word a.waits) × IsUnready links x a.skips)
    -- one for which its process waits is not ready
    pub unready : a.waits ≡ true → IsUnready links x a.skips

  -- a channel that a process has enabled
  pub record IsEnabled (store : Store) (channel : ℕ) (x : Name) : Type 0 where
    pub internal : is_link channel ≡ false
    pub home : x.node ≡ n
    pub port : enables x channel ≡ true
    pub placed : word_place_break (length store) channel ≡ None
    pub engaged : use_at s n channel ≡ Engaged
    -- its word is the descriptor of the process, if no message is sent
    pub names : is_sent channel ≡ false → (a : Alternative) → alternative_at x ≡ Some a
        → word_at store channel ≡ a.wptr + a.priority
    -- a process that waits for its alternative awaits each of its channels
    pub awaited : (a : Alternative) → alternative_at x ≡ Some a → a.waits ≡ true
        → half_in (s (Half n channel Input)) ≡ AwaitedBy x

  -- the input of a link that a process has enabled
  pub record IsEnabledLink (l : ℕ) (x : Name) : Type 0 where
    pub home : x.node ≡ n
    pub port : enables x (input_channel l) ≡ true
    -- a process that waits for its alternative awaits each of its links
    pub awaited : (a : Alternative) → alternative_at x ≡ Some a → a.waits ≡ true → input_at l ≡ Awaited x

  -- the alternatives of a node
  pub record ShowsChoices (links : List LinkEnd) (store : Store) : Type 0 where
    pub choices : (x : Name) (a : Alternative) → x.node ≡ n → alternative_at x ≡ Some a → HasChoice links store x a
    -- two have two workspaces
    pub apart : (x y : Name) (a b : Alternative) → x.node ≡ n → y.node ≡ n → alternative_at x ≡ Some a
        → alternative_at y ≡ Some b → a.wptr ≡ b.wptr → x ≡ y
    pub quiet : (x : Name) → x.node ≡ n → is_quiet (stand_in (s (Standing x))) ≡ true
    -- who has enabled a channel has an alternative, and the half of the channel or of the link
    pub owner : (x : Name) (channel : ℕ) → x.node ≡ n → enables x channel ≡ true
        → (a : Alternative) × (alternative_at x ≡ Some a) × HasEnabled channel x
    pub enabled : (channel : ℕ) (x : Name) → enabler_at channel ≡ Some x → IsEnabled store channel x
    pub linked : (l : ℕ) (x : Name) → l < 4 → enabler_on l ≡ Some x → IsEnabledLink l x
