-- Messages on internal channels, part by part.
use Rattle.std.proofs.Common.{◌≡◌, ◌<◌, ◌∙◌, ℕ, sym, ap, subst, refl, length, arith, Bool, true, false, Option, Some}
use Rattle.std.proofs.Common.{None}
use Rattle.std.proofs.Common.{List, Result, Ok, Err}
use Rattle.std.proofs.Common.{◌⊎◌, inl, inr}
use Rattle.std.proofs.Math.Dec.{eqb}
use Rattle.std.proofs.lemmas.Bool.Decides.{eqb_tells}
use Rattle.std.proofs.lemmas.Option.{slice_get-map}
use Rattle.std.specs.Prelude.{option_map, slice_get, unwrap_or, ◌==◌, ◌≢◌}
use Rattle.tword.specs.declared.breaks.Break.{Break}
use Rattle.tword.specs.declared.breaks.Break.TheVariants.{ChannelMisuse, LengthMismatch}
use Rattle.tword.specs.declared.span.Span.{Span}
use Rattle.tword.specs.Actions.{or_break}
use Rattle.tword.specs.Stores.{Store}
use Rattle.tword.specs.Touches.{word_place_break}
use Rattle.tproc.specs.declared.channels.Side.{Side}
use Rattle.tproc.specs.declared.channels.Side.TheVariants.{Input, Output}
use Rattle.tproc.specs.Channels.{mode_of}
use Rattle.tproc.specs.Queues.{not_process}
use Rattle.tprocesses.specs.ChannelMessages.{channel_step, is_nobody, meet, meet_if, takes_half}
use Rattle.tprocesses.specs.Changes.{Engage, Put, free_word}
use Rattle.tprocesses.specs.Parts.{Reason, Breaks, HasNoStep, Part, Doing, done, stopping, change, require, see, unless}
use Rattle.tprocesses.specs.Parts.{◌>>=◌, ◌>>◌}
use Rattle.tprocesses.specs.Performing.{copied}
use Rattle.tprocesses.specs.Places.{Name, Place, Half, WordAt}
use Rattle.tprocesses.specs.Standing.{forget, stands, wakes}
use Rattle.tprocesses.specs.Touching.{Site, forgotten, save, touch, unsent, word_for, word_number, word_place}
use Rattle.tprocesses.specs.Values as value
use Rattle.tprocesses.specs.Values.{AwaitedBy, Context, EnabledBy, Engaged, IsCount, IsHalf, IsWord, Nobody}
use Rattle.tprocesses.specs.Values.{TakenBy, Value, Waits, Word}
use Rattle.tprocesses.specs.Values.{half_in}
use Rattle.tcertify.specs.declared.channel.Channel.{Channel}
use Rattle.tcertify.specs.declared.channel.Holder.{Holder}
use Rattle.tcertify.specs.declared.channel.Holder.TheVariants as holder
use Rattle.tcertify.specs.declared.channel.Request.{Request}
use Rattle.tcertify.specs.declared.fault.Fault.{Fault}
use Rattle.tcertify.specs.declared.fault.Fault.TheVariants as fault
use Rattle.tcertify.specs.declared.node.Node.{Node}
use Rattle.tcertify.specs.declared.stop.Stop.TheVariants as stop
use Rattle.tcertify.specs.Channels.{holder_of}
use Rattle.tcertify.specs.Messages.{awaits, leave, marks, passes}
use Rattle.tcertify.specs.Nodes.{Does, Grows, RunsAt, address_at, name_at, names, node_site, nothing}
use Rattle.tcertify.proofs.Following.{does_still, does_then, inside_still, runs_then}
use Rattle.tcertify.proofs.NodeRunning.{address_stays, does_after, does_on, grows_on, name_stays, runs_at_on}
use Rattle.tcertify.proofs.NodeRunning.{runs_at_stop, runs_at_stopped}
use Rattle.tcertify.proofs.Scheduling.{unless_not, unless_so}

-- a node that has grown has as many words
pub as_many_words : (a b : Node) → Grows a b → length b.words.items.items ≡ length a.words.items.items
as_many_words a b g = let sizes = ap (λ (s : Site). s.size) g.site in omega (arith, sizes)

-- and its channels are there
pub channel_still : (a b : Node) (j : ℕ) → Grows a b → j < length a.channels.items.items
    → j < length b.channels.items.items
channel_still a b j g h = omega (arith, g.channels)

-- two numbers are alike, or not
unlike_by : (a b : ℕ) → (a ≡ b → ⊥) → ((eqb a b ≡ true) × (a ≡ b)) ⊎ ((eqb a b ≡ false) × (a ≢ b)) → (a == b) ≡ false
unlike_by a b n (inl h) = absurd (n h.1)
unlike_by a b n (inr h) = h.0

pub unlike : (a b : ℕ) → (a ≡ b → ⊥) → (a == b) ≡ false
unlike a b n = unlike_by a b n (eqb_tells a b)

alike_by : (a b : ℕ) → a ≡ b → ((eqb a b ≡ true) × (a ≡ b)) ⊎ ((eqb a b ≡ false) × (a ≢ b)) → (a == b) ≡ true
alike_by a b e (inl h) = h.0
alike_by a b e (inr h) = absurd (h.1 e)

pub alike : (a b : ℕ) → a ≡ b → (a == b) ≡ true
alike a b e = alike_by a b e (eqb_tells a b)

-- where nothing is done and memory is out, no part is done
pub unmade : {A X Y : Type 0} (part : Part A) (f : X → A) (g : Y → Unit {0}) (a b : Node) (e : Fault)
    → Does done g a (Err e) b → Does part f a (Err e) b
unmade part f g a b (fault.Stops why) h =
    absurd (let e = ap (λ r. r.0) (h.runs (λ (p : Place). IsCount 0)) in cc)
unmade part f g a b fault.OutOfMemory h = tt

-- a process waits with its buffer
module _ (a b : Node) (k : ℕ) (ctx : Context) (side : Side) (buffer : Span) where
  pub awaits_not : (why : Reason) → RunsAt (touch (node_site a) (mode_of side) buffer) a (Err why) b
      → RunsAt (awaits (node_site a) (name_at a k) ctx side buffer) a (Err why) b
  awaits_not why h =
      runs_at_stop (touch (node_site a) (mode_of side) buffer) (λ (_ : Store). stands (name_at a k) (Waits (forget
      ctx))) a
      b why h

  pub awaits_so : (c : Node) (cells : Store) (left : Context) → left ≡ forget ctx → k < length a.processes.items.items
      → RunsAt (touch (node_site a) (mode_of side) buffer) a (Ok cells) b
      → RunsAt (stands (name_at b k) (Waits left)) b (Ok tt) c
      → RunsAt (awaits (node_site a) (name_at a k) ctx side buffer) a (Ok tt) c
  awaits_so c cells left e inside first h =
      runs_then a b c k (touch (node_site a) (mode_of side) buffer)
      (λ s x (_ : Store). stands x (Waits (forget ctx))) cells first inside (Ok tt)
      (subst (λ (l : Context). RunsAt (stands (name_at b k) (Waits l)) b (Ok tt) c) e h)

-- the channel word is taken
module _ (a : Node) (k : ℕ) (ctx : Context) (side : Side) (channel : ℕ) (buffer : Span) where
  abbrev engages : Site → Name → Doing
  engages s x = change (word_place s channel) Engage >> awaits s x ctx side buffer

  abbrev saves : Site → Name → Doing
  saves s x = save s ctx.wptr forgotten >> engages s x

  module _ (b : Node) where
    pub marks_sent : (why : Reason) → RunsAt (unsent (node_site a) (word_number channel)) a (Err why) b
        → RunsAt (marks (node_site a) (name_at a k) ctx side channel buffer) a (Err why) b
    marks_sent why h =
        runs_at_stop (unsent (node_site a) (word_number channel)) (λ _. saves (node_site a) (name_at a k)) a b why h

    module _ (inside : k < length a.processes.items.items)
        (first : RunsAt (unsent (node_site a) (word_number channel)) a (Ok tt) b) (c : Node) where
      pub marks_unsaved : (why : Reason) → RunsAt (save (node_site b) ctx.wptr forgotten) b (Err why) c
          → RunsAt (marks (node_site a) (name_at a k) ctx side channel buffer) a (Err why) c
      marks_unsaved why h =
          runs_then a b c k (unsent (node_site a) (word_number channel)) (λ s x _. saves s x) tt first inside (Err why)
          (runs_at_stop (save (node_site b) ctx.wptr forgotten) (λ _. engages (node_site b) (name_at b k)) b c why h)

      pub marks_so : (d e : Node) (r : Result (Unit {0}) Reason)
          → RunsAt (save (node_site b) ctx.wptr forgotten) b (Ok tt) c
          → RunsAt (change (word_place (node_site c) channel) Engage) c (Ok tt) d
          → RunsAt (awaits (node_site d) (name_at d k) ctx side buffer) d r e
          → RunsAt (marks (node_site a) (name_at a k) ctx side channel buffer) a r e
      marks_so d e r second third fourth =
          let in_b = inside_still a b k first.grows inside in
          let in_c = inside_still b c k second.grows in_b in
          runs_then a b e k (unsent (node_site a) (word_number channel)) (λ s x _. saves s x) tt first inside r
          (runs_then b c e k (save (node_site b) ctx.wptr forgotten) (λ s x _. engages s x) tt second in_b r
          (runs_then c d e k (change (word_place (node_site c) channel) Engage) (λ s x _. awaits s x ctx side buffer) tt
          third in_c r fourth))

-- whoever has a half, by its number
pub asks_some : (names : List Name) (h : Holder) → (h ≡ holder.Nobody → ⊥) → is_nobody (holder_of names h) ≡ false
asks_some names holder.Nobody n = absurd (n refl)
asks_some names (holder.Taken r) n = refl
asks_some names (holder.Enabled k) n = refl
asks_some names (holder.Awaited k) n = refl

pub asks_none : (names : List Name) (h : Holder) → h ≡ holder.Nobody → is_nobody (holder_of names h) ≡ true
asks_none names h e = ap (λ (x : Holder). is_nobody (holder_of names x)) e

-- a process takes its half
module _ (a : Node) (k : ℕ) (ctx : Context) (side : Side) (channel : ℕ) (buffer : Span) where
  abbrev sets : Site → Name → Doing
  sets s x =
      change (Half s.number channel side) (Put (IsHalf (TakenBy (record { process = x; buffer = buffer }))))
      >> marks s x ctx side channel buffer

  abbrev sets_if : Bool → Site → Name → Doing
  sets_if t s x = require t (Breaks ChannelMisuse) >> sets s x

  abbrev asks : Site → Name → Doing
  asks s x = see (Half s.number channel side) >>= (λ (v : Value). sets_if (is_nobody (half_in v)) s x)

  pub takes_nowhere : (n : ℕ) (e : Break) → or_break (word_place_break (node_site a).size channel) n ≡ Err e
      → RunsAt (takes_half (node_site a) (name_at a k) ctx side channel buffer) a (Err (Breaks e)) a
  takes_nowhere n e h =
      runs_at_stop (unless (word_place_break (node_site a).size channel)) (λ _. asks (node_site a) (name_at a k)) a a
      (Breaks e) (unless_so a (word_place_break (node_site a).size channel) n e h)

  module _ (n m : ℕ) (there : or_break (word_place_break (node_site a).size channel) n ≡ Ok m)
      (inside : k < length a.processes.items.items) (b : Node) (first : RunsAt done a (Ok tt) b) (j : ℕ)
      (at : address_at b j ≡ channel) (o : value.Holder) (c : Node)
      (second : RunsAt (see (Half (node_site b).number (address_at b j) side)) b (Ok (IsHalf o)) c) where
    takes_by : (t : Bool) (d : Node) (r : Result (Unit {0}) Fault) → is_nobody o ≡ t
        → Does (sets_if t (node_site c) (name_at c k)) nothing c r d
        → Does (takes_half (node_site a) (name_at a k) ctx side channel buffer) nothing a r d
    takes_by t d r e h =
        does_on (unless (word_place_break (node_site a).size channel)) (λ _. asks (node_site a) (name_at a k)) nothing a
        a
        d tt r (unless_not a (word_place_break (node_site a).size channel) n m there)
        (does_after (asks (node_site a) (name_at a k)) nothing a b d r first
        (does_still a b k first.grows inside asks nothing d r
        (does_then b c d k (see (Half (node_site b).number channel side))
        (λ s x (v : Value). sets_if (is_nobody (half_in v)) s x) (IsHalf o)
        (subst (λ (p : ℕ). RunsAt (see (Half (node_site b).number p side)) b (Ok (IsHalf o)) c) at second)
        (inside_still a b k first.grows inside) nothing r
        (subst (λ (u : Bool). Does (sets_if u (node_site c) (name_at c k)) nothing c r d) (sym e) h))))

    pub takes_taken : is_nobody o ≡ false
        → RunsAt (takes_half (node_site a) (name_at a k) ctx side channel buffer) a (Err (Breaks ChannelMisuse)) c
    takes_taken e =
        takes_by false c (Err (fault.Stops (stop.Breaks ChannelMisuse))) e (runs_at_stopped (Breaks ChannelMisuse) c)

    pub takes_so : (d e : Node) (r : Result (Unit {0}) Fault) → is_nobody o ≡ true → j < length b.channels.items.items
        → RunsAt (change (Half (node_site c).number (address_at c j) side)
        (Put (IsHalf (TakenBy (record { process = name_at c k; buffer = buffer }))))) c (Ok tt) d
        → Does (marks (node_site d) (name_at d k) ctx side channel buffer) nothing d r e
        → Does (takes_half (node_site a) (name_at a k) ctx side channel buffer) nothing a r e
    takes_so d e r free is_there third fourth =
        let in_b = inside_still a b k first.grows inside in
        takes_by true e r free
        (does_then c d e k (change (Half (node_site c).number channel side)
        (Put (IsHalf (TakenBy (record { process = name_at c k; buffer = buffer })))))
        (λ s x _. marks s x ctx side channel buffer) tt
        (subst (λ (p : ℕ). RunsAt (change (Half (node_site c).number p side)
        (Put (IsHalf (TakenBy (record { process = name_at c k; buffer = buffer }))))) c (Ok tt) d)
        (address_stays b c j second.grows is_there ∙ at) third) (inside_still b c k second.grows in_b) nothing r fourth)

-- a half that is set behind other calls
half_behind : (a b c : Node) (j : ℕ) (side : Side) (v : Value) → Grows a b → j < length a.channels.items.items
    → RunsAt (change (Half (node_site b).number (address_at b j) side) (Put v)) b (Ok tt) c
    → RunsAt (change (Half (node_site a).number (address_at a j) side) (Put v)) b (Ok tt) c
half_behind a b c j side v g is_there h =
    subst (λ (s : Site). RunsAt (change (Half s.number (address_at a j) side) (Put v)) b (Ok tt) c) g.site
    (subst (λ (p : ℕ). RunsAt (change (Half (node_site b).number p side) (Put v)) b (Ok tt) c)
    (address_stays a b j g is_there) h)

-- two processes are ready, and the halves free
module _ (a b : Node) (j i o : ℕ) where
  abbrev frees : Site → ℕ → Doing
  frees s channel =
      change (Half s.number channel Input) (Put (IsHalf Nobody))
      >> change (Half s.number channel Output) (Put (IsHalf Nobody))

  pub leaves_not : (why : Reason) → RunsAt (wakes (name_at a i) None) a (Err why) b
      → RunsAt (leave (node_site a) (address_at a j) (name_at a i) (name_at a o)) a (Err why) b
  leaves_not why h =
      runs_at_stop (wakes (name_at a i) None)
      (λ _. wakes (name_at a o) None >> frees (node_site a) (address_at a j)) a b why h

  module _ (first : RunsAt (wakes (name_at a i) None) a (Ok tt) b) (in_o : o < length a.processes.items.items)
      (c : Node) where
    leaves_by : (d : Node) (r : Result (Unit {0}) Reason)
        → RunsAt (wakes (name_at a o) None >> frees (node_site a) (address_at a j)) b r d
        → RunsAt (leave (node_site a) (address_at a j) (name_at a i) (name_at a o)) a r d
    leaves_by d r h =
        runs_at_on (wakes (name_at a i) None) (λ _. wakes (name_at a o) None >> frees (node_site a) (address_at a j)) a
        b d
        tt r first h

    pub leaves_half : (why : Reason) → RunsAt (wakes (name_at b o) None) b (Err why) c
        → RunsAt (leave (node_site a) (address_at a j) (name_at a i) (name_at a o)) a (Err why) c
    leaves_half why h =
        leaves_by c (Err why)
        (runs_at_stop (wakes (name_at a o) None) (λ _. frees (node_site a) (address_at a j)) b c why
        (subst (λ (x : Name). RunsAt (wakes x None) b (Err why) c) (name_stays a b o first.grows in_o) h))

    pub leaves_so : (d e : Node) → j < length a.channels.items.items → RunsAt (wakes (name_at b o) None) b (Ok tt) c
        → RunsAt (change (Half (node_site c).number (address_at c j) Input) (Put (IsHalf Nobody))) c (Ok tt) d
        → RunsAt (change (Half (node_site d).number (address_at d j) Output) (Put (IsHalf Nobody))) d (Ok tt) e
        → RunsAt (leave (node_site a) (address_at a j) (name_at a i) (name_at a o)) a (Ok tt) e
    leaves_so d e is_there second third fourth =
        let g = grows_on a b c first.grows second.grows in
        leaves_by e (Ok tt)
        (runs_at_on (wakes (name_at a o) None) (λ _. frees (node_site a) (address_at a j)) b c e tt (Ok tt)
        (subst (λ (x : Name). RunsAt (wakes x None) b (Ok tt) c) (name_stays a b o first.grows in_o) second)
        (runs_at_on (change (Half (node_site a).number (address_at a j) Input) (Put (IsHalf Nobody)))
        (λ _. change (Half (node_site a).number (address_at a j) Output) (Put (IsHalf Nobody))) c d e tt (Ok tt)
        (half_behind a c d j Input (IsHalf Nobody) g is_there third)
        (half_behind a d e j Output (IsHalf Nobody) (grows_on a c d g third.grows) is_there fourth)))

-- the site, a channel and two processes stay
module _ (a b : Node) (g : Grows a b) (j i o : ℕ) (is_there : j < length a.channels.items.items)
    (in_i : i < length a.processes.items.items) (in_o : o < length a.processes.items.items) where
  pub all_still : (part : Site → ℕ → Name → Name → Doing) (c : Node) (r : Result (Unit {0}) Reason)
      → RunsAt (part (node_site b) (address_at b j) (name_at b i) (name_at b o)) b r c
      → RunsAt (part (node_site a) (address_at a j) (name_at a i) (name_at a o)) b r c
  all_still part c r h =
      subst (λ (s : Site). RunsAt (part s (address_at a j) (name_at a i) (name_at a o)) b r c) g.site
      (subst (λ (p : ℕ). RunsAt (part (node_site b) p (name_at a i) (name_at a o)) b r c) (address_stays a b j g
      is_there)
      (subst (λ (x : Name). RunsAt (part (node_site b) (address_at b j) x (name_at a o)) b r c) (name_stays a b i g
      in_i)
      (subst (λ (y : Name). RunsAt (part (node_site b) (address_at b j) (name_at b i) y) b r c) (name_stays a b o g
      in_o)
      h)))

-- a message passes
module _ (a b : Node) (j i o : ℕ) (to from : Span) where
  pub passes_not : (why : Reason) → RunsAt (copied (node_site a) from to) a (Err why) b
      → RunsAt (passes (node_site a) (address_at a j) (record { process = name_at a i; buffer = to })
      (record { process = name_at a o; buffer = from })) a (Err why) b
  passes_not why h =
      runs_at_stop (copied (node_site a) from to)
      (λ _. leave (node_site a) (address_at a j) (name_at a i) (name_at a o)) a b why h

  pub passes_so : (c : Node) (r : Result (Unit {0}) Reason) → j < length a.channels.items.items
      → i < length a.processes.items.items → o < length a.processes.items.items
      → RunsAt (copied (node_site a) from to) a (Ok tt) b
      → RunsAt (leave (node_site b) (address_at b j) (name_at b i) (name_at b o)) b r c
      → RunsAt (passes (node_site a) (address_at a j) (record { process = name_at a i; buffer = to })
      (record { process = name_at a o; buffer = from })) a r c
  passes_so c r is_there in_i in_o first h =
      runs_at_on (copied (node_site a) from to)
      (λ _. leave (node_site a) (address_at a j) (name_at a i) (name_at a o)) a b c tt r first
      (all_still a b first.grows j i o is_there in_i in_o leave c r h)

-- the two processes meet
module _ (a : Node) (j i o : ℕ) (to from : Span) where
  abbrev passing : Site → ℕ → Name → Name → Doing
  passing s channel x y = passes s channel (record { process = x; buffer = to }) (record { process = y; buffer = from })

  abbrev frees_word : Site → ℕ → Name → Name → Doing
  frees_word s channel x y =
      change (word_place s channel) (Put (IsWord (free_word not_process))) >> passing s channel x y

  abbrev expects : Site → ℕ → Name → Name → Doing
  expects s channel x y =
      word_for s Engaged (word_number channel) >>= (λ (_ : Store). frees_word s channel x y)

  abbrev meets_if : Bool → Doing
  meets_if t =
      require t (Breaks LengthMismatch) >> expects (node_site a) (address_at a j) (name_at a i) (name_at a o)

  -- the meeting
  abbrev pub meeting : Doing
  meeting =
      meet (node_site a) (address_at a j) (record { process = name_at a i; buffer = to })
      (record { process = name_at a o; buffer = from })

  pub meets_unequal : (to.size == from.size) ≡ false → RunsAt meeting a (Err (Breaks LengthMismatch)) a
  meets_unequal e =
      subst (λ (t : Bool). RunsAt (meets_if t) a (Err (Breaks LengthMismatch)) a) (sym e)
      (runs_at_stopped (Breaks LengthMismatch) a)

  module _ (e : (to.size == from.size) ≡ true) (b : Node) where
    module _ (w : ℕ) (at : w ≡ word_number (address_at a j)) where
      pub meets_unused : (why : Reason) → RunsAt (word_for (node_site a) Engaged w) a (Err why) b
          → RunsAt meeting a (Err why) b
      meets_unused why h =
          subst (λ (t : Bool). RunsAt (meets_if t) a (Err why) b) (sym e)
          (runs_at_stop (word_for (node_site a) Engaged (word_number (address_at a j)))
          (λ (_ : Store). frees_word (node_site a) (address_at a j) (name_at a i) (name_at a o)) a b why
          (subst (λ (n : ℕ). RunsAt (word_for (node_site a) Engaged n) a (Err why) b) at h))

      pub meets_so : (cells : Store) (word : Word) (c d : Node) (r : Result (Unit {0}) Reason)
          → word ≡ free_word not_process → j < length a.channels.items.items → i < length a.processes.items.items
          → o < length a.processes.items.items → RunsAt (word_for (node_site a) Engaged w) a (Ok cells) b
          → RunsAt (change (WordAt (node_site b).number w) (Put (IsWord word))) b (Ok tt) c
          → RunsAt (passing (node_site c) (address_at c j) (name_at c i) (name_at c o)) c r d → RunsAt meeting a r d
      meets_so cells word c d r freed is_there in_i in_o first second third =
          let put : RunsAt (change (word_place (node_site a) (address_at a j)) (Put (IsWord (free_word not_process)))) b
          (Ok tt) c =
          subst (λ (s : Site). RunsAt (change (word_place s (address_at a j)) (Put (IsWord (free_word not_process)))) b
          (Ok tt) c) first.grows.site
          (subst (λ (n : ℕ). RunsAt (change (WordAt (node_site b).number n) (Put (IsWord (free_word not_process)))) b
          (Ok tt)
          c) at
          (subst (λ (x : Word). RunsAt (change (WordAt (node_site b).number w) (Put (IsWord x))) b (Ok tt) c) freed
          second))
          in
          subst (λ (t : Bool). RunsAt (meets_if t) a r d) (sym e)
          (runs_at_on (word_for (node_site a) Engaged (word_number (address_at a j)))
          (λ (_ : Store). frees_word (node_site a) (address_at a j) (name_at a i) (name_at a o)) a b d cells r
          (subst (λ (n : ℕ). RunsAt (word_for (node_site a) Engaged n) a (Ok cells) b) at first)
          (runs_at_on (change (word_place (node_site a) (address_at a j)) (Put (IsWord (free_word not_process))))
          (λ _. passing (node_site a) (address_at a j) (name_at a i) (name_at a o)) b c d tt r put
          (all_still a c (grows_on a b c first.grows second.grows) j i o is_there in_i in_o passing d r third)))

-- the address of a channel by its number
pub address_is : (a : Node) (j : ℕ) (ch : Channel) → slice_get a.channels.items.items j ≡ Some ch
    → address_at a j ≡ ch.address
address_is a j ch e =
    ap (λ (o : Option ℕ). unwrap_or o 0)
    (slice_get-map (λ (x : Channel). x.address) a.channels.items.items j
    ∙ ap (λ (o : Option Channel). option_map (λ (x : Channel). x.address) o) e)

-- the step of a channel
module _ (a b : Node) (j : ℕ) (is_there : j < length a.channels.items.items) (x : Holder)
    (first : RunsAt (see (Half (node_site a).number (address_at a j) Input)) a (Ok (IsHalf (holder_of (names a) x))) b)
    (y : Holder) (c : Node)
    (second : RunsAt (see (Half (node_site b).number (address_at b j) Output)) b (Ok (IsHalf (holder_of (names b) y)))
    c)
  where
    abbrev asks_output : Site → ℕ → Doing
    asks_output s channel =
        see (Half s.number channel Output)
        >>= (λ (v : Value). meet_if s channel (holder_of (names a) x) (half_in v))

    -- the two meet, or a half is shut
    steps_by : (d : Node) (r : Result (Unit {0}) Fault)
        → Does (meet_if (node_site c) (address_at c j) (holder_of (names a) x) (holder_of (names b) y)) nothing c r d
        → Does (channel_step (address_at a j) (node_site a)) nothing a r d
    steps_by d r h =
        let in_b = channel_still a b j first.grows is_there in
        does_on (see (Half (node_site a).number (address_at a j) Input))
        (λ (u : Value). see (Half (node_site a).number (address_at a j) Output)
        >>= (λ (v : Value). meet_if (node_site a) (address_at a j) (half_in u) (half_in v))) nothing a b d
        (IsHalf (holder_of (names a) x)) r first
        (subst (λ (s : Site). Does (asks_output s (address_at a j)) nothing b r d) first.grows.site
        (subst (λ (p : ℕ). Does (asks_output (node_site b) p) nothing b r d) (address_stays a b j first.grows is_there)
        (does_on (see (Half (node_site b).number (address_at b j) Output))
        (λ (v : Value). meet_if (node_site b) (address_at b j) (holder_of (names a) x) (half_in v)) nothing b c d
        (IsHalf (holder_of (names b) y)) r second
        (subst (λ (s : Site). Does (meet_if s (address_at b j) (holder_of (names a) x) (holder_of (names b) y))
        nothing c r
        d) second.grows.site
        (subst (λ (p : ℕ). Does (meet_if (node_site c) p (holder_of (names a) x) (holder_of (names b) y)) nothing c r
        d)
        (address_stays b c j second.grows in_b) h)))))

    idle : (s : Site) (p : ℕ) (ns : List Name) (u : value.Holder) (h : Holder)
        → ((r : Request) → h ≡ holder.Taken r → ⊥)
        → meet_if s p u (holder_of ns h) ≡ stopping HasNoStep
    idle s p ns u (holder.Taken r) n = absurd (n r refl)
    idle s p ns (TakenBy q) holder.Nobody n = refl
    idle s p ns (TakenBy q) (holder.Enabled k) n = refl
    idle s p ns (TakenBy q) (holder.Awaited k) n = refl
    idle s p ns (AwaitedBy q) holder.Nobody n = refl
    idle s p ns (AwaitedBy q) (holder.Enabled k) n = refl
    idle s p ns (AwaitedBy q) (holder.Awaited k) n = refl
    idle s p ns Nobody holder.Nobody n = refl
    idle s p ns Nobody (holder.Enabled k) n = refl
    idle s p ns Nobody (holder.Awaited k) n = refl
    idle s p ns (EnabledBy q) holder.Nobody n = refl
    idle s p ns (EnabledBy q) (holder.Enabled k) n = refl
    idle s p ns (EnabledBy q) (holder.Awaited k) n = refl

    -- no message is sent
    pub no_output : ((r : Request) → y ≡ holder.Taken r → ⊥)
        → RunsAt (channel_step (address_at a j) (node_site a)) a (Err HasNoStep) c
    no_output n =
        steps_by c (Err (fault.Stops stop.HasNoStep))
        (subst (λ (q : Doing). RunsAt q c (Err HasNoStep) c)
        (sym (idle (node_site c) (address_at c j) (names b) (holder_of (names a) x) y n)) (runs_at_stopped HasNoStep c))

    -- one is sent
    module _ (o : Request) (f : y ≡ holder.Taken o) where
      shut : (h : Holder) → x ≡ h
          → RunsAt (meet_if (node_site c) (address_at c j) (holder_of (names a) h)
          (holder_of (names b) (holder.Taken o))) c (Err HasNoStep) c
          → RunsAt (channel_step (address_at a j) (node_site a)) a (Err HasNoStep) c
      shut h e so =
          steps_by c (Err (fault.Stops stop.HasNoStep))
          (subst (λ (g : Holder). RunsAt (meet_if (node_site c) (address_at c j) (holder_of (names a) g)
          (holder_of (names b) y)) c (Err HasNoStep) c) (sym e)
          (subst (λ (g : Holder). RunsAt (meet_if (node_site c) (address_at c j) (holder_of (names a) h)
          (holder_of (names b) g)) c (Err HasNoStep) c) (sym f) so))

      -- nobody waits for it
      pub no_input : (x ≡ holder.Nobody) ⊎ ((k : ℕ) × (x ≡ holder.Enabled k))
          → RunsAt (channel_step (address_at a j) (node_site a)) a (Err HasNoStep) c
      no_input (inl e) = shut holder.Nobody e (runs_at_stopped HasNoStep c)
      no_input (inr (k, e)) = shut (holder.Enabled k) e (runs_at_stopped HasNoStep c)

      -- both go on
      steps_with : (d : Node) (r : Result (Unit {0}) Fault) (i : Holder) → holder_of (names c) i ≡ holder_of (names a) x
          → o.process < length b.processes.items.items
          → Does (meet_if (node_site c) (address_at c j) (holder_of (names c) i) (holder_of (names c) (holder.Taken o)))
          nothing c r d
          → Does (channel_step (address_at a j) (node_site a)) nothing a r d
      steps_with d r i asks_i in_o h =
          let asks_o : holder_of (names c) (holder.Taken o) ≡ holder_of (names b) y =
          ap (λ (n : Name). TakenBy (record { process = n; buffer = o.buffer }))
          (name_stays b c o.process second.grows in_o) ∙ ap (holder_of (names b)) (sym f) in
          steps_by d r
          (subst (λ (u : value.Holder). Does (meet_if (node_site c) (address_at c j) u (holder_of (names b) y))
          nothing c r d) asks_i
          (subst (λ (v : value.Holder). Does (meet_if (node_site c) (address_at c j) (holder_of (names c) i) v)
          nothing c r d) asks_o h))

      pub steps_so : (d : Node) (r : Result (Unit {0}) Fault) (i : Request) → x ≡ holder.Taken i
          → i.process < length a.processes.items.items → o.process < length b.processes.items.items
          → Does (meet_if (node_site c) (address_at c j) (holder_of (names c) (holder.Taken i))
          (holder_of (names c) (holder.Taken o))) nothing c r d
          → Does (channel_step (address_at a j) (node_site a)) nothing a r d
      steps_so d r i e in_i in_o h =
          steps_with d r (holder.Taken i)
          (ap (λ (n : Name). TakenBy (record { process = n; buffer = i.buffer }))
          (name_stays a c i.process (grows_on a b c first.grows second.grows) in_i)
          ∙ ap (holder_of (names a)) (sym e)) in_o h

      pub steps_chosen : (d : Node) (r : Result (Unit {0}) Fault) (k : ℕ) → x ≡ holder.Awaited k
          → k < length a.processes.items.items → o.process < length b.processes.items.items
          → Does (meet_if (node_site c) (address_at c j) (holder_of (names c) (holder.Awaited k))
          (holder_of (names c) (holder.Taken o))) nothing c r d
          → Does (channel_step (address_at a j) (node_site a)) nothing a r d
      steps_chosen d r k e in_k in_o h =
          steps_with d r (holder.Awaited k)
          (ap AwaitedBy (name_stays a c k (grows_on a b c first.grows second.grows) in_k)
          ∙ ap (holder_of (names a)) (sym e)) in_o h
