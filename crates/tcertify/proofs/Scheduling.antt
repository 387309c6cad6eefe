-- Operations of the scheduler, part by part.
use Rattle.std.proofs.Common.{◌≡◌, ◌<◌, ◌∙◌, ℕ, refl, sym, subst, length, Bool, true, false, Option, Some, None}
use Rattle.std.proofs.Common.{Result, Ok, Err}
use Rattle.std.specs.Prelude.{if◌then◌else◌, is_some, unwrap_or}
use Rattle.std.specs.Int.{w32, from_le_bytes, to_le_bytes}
use Rattle.tword.specs.declared.breaks.Break.{Break}
use Rattle.tword.specs.declared.breaks.Break.TheVariants.{Unaligned}
use Rattle.tword.specs.Actions.{or_break}
use Rattle.tword.specs.Stores.{Store, as_cells, shown}
use Rattle.tword.specs.Touches.{Reads, is_aligned, word_place_break}
use Rattle.tword.specs.Words.{plus, word_below}
use Rattle.tprocesses.specs.Places.{Name, Error, child_of}
use Rattle.tprocesses.specs.Values.{Context, IsFlag, Rests, flag_in}
use Rattle.tprocesses.specs.Changes.{Decrement, are_known, known_word}
use Rattle.tprocesses.specs.Parts.{Reason, Breaks, SawTheScheduler, Part, Doing, change, unless, see, require}
use Rattle.tprocesses.specs.Parts.{◌>>=◌, ◌>>◌}
use Rattle.tprocesses.specs.Touching.{Site, kept, save, touch_word_at, unsent, word_number, word_place, write_word_at}
use Rattle.tprocesses.specs.Standing.{comes, ends, fresh, goes_on, known, pop, starts}
use Rattle.tprocesses.specs.Performing.{bytes_if}
use Rattle.tprocesses.specs.Scheduling.{communicates, ends_among_others, laid_down, runs_child, sends_from_workspace}
use Rattle.tprocesses.specs.Scheduling.{sends_or_receives, starts_child, stops_by_error, stops_itself, with_child}
use Rattle.tproc.specs.Machine.{priority_of, workspace_of}
use Rattle.tproc.specs.declared.channels.Side.{Side}
use Rattle.tproc.specs.declared.channels.Side.TheVariants.{Output}
use Rattle.tcertify.specs.declared.fault.Fault.{Fault}
use Rattle.tcertify.specs.declared.node.Node.{Node}
use Rattle.tcertify.specs.Nodes.{Does, RunsAt, name_at, node_site, nothing}
use Rattle.tcertify.specs.Scheduling.{counts_down, first_address}
use Rattle.tcertify.proofs.Following.{does_then, inside_still, runs_then}
use Rattle.tcertify.proofs.NodeRunning.{bind_assoc, does_stop, runs_at_given, runs_at_on, runs_at_stop, runs_at_stopped}

-- the address that a word has
module _ (a b : Node) (address : ℕ) where
  pub address_not : (why : Reason) → RunsAt (touch_word_at (node_site a) Reads address) a (Err why) b
      → RunsAt (first_address (node_site a) address) a (Err why) b
  address_not why h =
      runs_at_stop (touch_word_at (node_site a) Reads address) (λ (cells : Store). known (known_word cells)) a b why h

  module _ (cells : Store) (first : RunsAt (touch_word_at (node_site a) Reads address) a (Ok cells) b) where
    -- the word, whose bytes are known or not
    abbrev told_if : Bool → Part ℕ
    told_if t = known (if t then Some (from_le_bytes w32 (shown cells)) else None)

    told_by : (t : Bool) (r : Result ℕ Reason) → are_known cells ≡ t → RunsAt (told_if t) b r b
        → RunsAt (first_address (node_site a) address) a r b
    told_by t r e h =
        runs_at_on (touch_word_at (node_site a) Reads address) (λ (cells : Store). known (known_word cells)) a b b cells
        r first (subst (λ (k : Bool). RunsAt (told_if k) b r b) (sym e) h)

    pub address_hidden : are_known cells ≡ false
        → RunsAt (first_address (node_site a) address) a (Err SawTheScheduler) b
    address_hidden e = told_by false (Err SawTheScheduler) e (runs_at_stopped SawTheScheduler b)

    pub address_seen : are_known cells ≡ true
        → RunsAt (first_address (node_site a) address) a (Ok (from_le_bytes w32 (shown cells))) b
    address_seen e =
        told_by true (Ok (from_le_bytes w32 (shown cells))) e (runs_at_given (from_le_bytes w32 (shown cells)) b)

-- a check that names no break, and one that does
unbroken : (o : Option Break) (n m : ℕ) → or_break o n ≡ Ok m → o ≡ None
unbroken None n m e = refl
unbroken (Some b) n m e = cc

pub numbered : (o : Option Break) (n m : ℕ) → or_break o n ≡ Ok m → m ≡ n
numbered None n m e = cc
numbered (Some b) n m e = cc

broken : (o : Option Break) (n : ℕ) (b : Break) → or_break o n ≡ Err b → o ≡ Some b
broken None n b e = cc
broken (Some x) n b e = cc

pub unless_not : (a : Node) (o : Option Break) (n m : ℕ) → or_break o n ≡ Ok m → RunsAt (unless o) a (Ok tt) a
unless_not a o n m e =
    subst (λ (p : Option Break). RunsAt (unless p) a (Ok tt) a) (sym (unbroken o n m e)) (runs_at_given tt a)

pub unless_so : (a : Node) (o : Option Break) (n : ℕ) (b : Break) → or_break o n ≡ Err b
    → RunsAt (unless o) a (Err (Breaks b)) a
unless_so a o n b e =
    subst (λ (p : Option Break). RunsAt (unless p) a (Err (Breaks b)) a) (sym (broken o n b e))
    (runs_at_stopped (Breaks b) a)

-- a count that falls
module _ (a b : Node) (w p : ℕ) where
  abbrev behind_read : Site → Doing
  behind_read s =
      unless (word_place_break s.size (plus w 4))
      >> (unsent s (word_number (plus w 4)) >> change (word_place s (plus w 4)) (Decrement p))

  abbrev behind_check : Site → Doing
  behind_check s = unsent s (word_number (plus w 4)) >> change (word_place s (plus w 4)) (Decrement p)

  pub counts_not : (why : Reason) → RunsAt (touch_word_at (node_site a) Reads w) a (Err why) b
      → RunsAt (counts_down (node_site a) w p) a (Err why) b
  counts_not why h =
      runs_at_stop (touch_word_at (node_site a) Reads w) (λ (_ : Store). behind_read (node_site a)) a b why h

  module _ (cells : Store) (first : RunsAt (touch_word_at (node_site a) Reads w) a (Ok cells) b) where
    -- what follows the read
    counts_by : (c : Node) (r : Result (Unit {0}) Reason) → RunsAt (behind_read (node_site b)) b r c
        → RunsAt (counts_down (node_site a) w p) a r c
    counts_by c r h =
        runs_at_on (touch_word_at (node_site a) Reads w) (λ (_ : Store). behind_read (node_site a)) a b c cells r first
        (subst (λ (s : Site). RunsAt (behind_read s) b r c) first.grows.site h)

    pub counts_nowhere : (n : ℕ) (e : Break) → or_break (word_place_break (node_site b).size (plus w 4)) n ≡ Err e
        → RunsAt (counts_down (node_site a) w p) a (Err (Breaks e)) b
    counts_nowhere n e h =
        counts_by b (Err (Breaks e))
        (runs_at_stop (unless (word_place_break (node_site b).size (plus w 4))) (λ _. behind_check (node_site b)) b b
        (Breaks e) (unless_so b (word_place_break (node_site b).size (plus w 4)) n e h))

    module _ (n m : ℕ) (there : or_break (word_place_break (node_site b).size (plus w 4)) n ≡ Ok m) (c : Node) where
      counts_at : (d : Node) (r : Result (Unit {0}) Reason) → RunsAt (behind_check (node_site b)) b r d
          → RunsAt (counts_down (node_site a) w p) a r d
      counts_at d r h =
          counts_by d r
          (runs_at_on (unless (word_place_break (node_site b).size (plus w 4))) (λ _. behind_check (node_site b)) b b d
          tt r (unless_not b (word_place_break (node_site b).size (plus w 4)) n m there) h)

      pub counts_sent : (why : Reason) → RunsAt (unsent (node_site b) (word_number (plus w 4))) b (Err why) c
          → RunsAt (counts_down (node_site a) w p) a (Err why) c
      counts_sent why h =
          counts_at c (Err why)
          (runs_at_stop (unsent (node_site b) (word_number (plus w 4)))
          (λ _. change (word_place (node_site b) (plus w 4)) (Decrement p)) b c why h)

      pub counts : (d : Node) → RunsAt (unsent (node_site b) (word_number (plus w 4))) b (Ok tt) c
          → RunsAt (change (word_place (node_site c) (plus w 4)) (Decrement p)) c (Ok tt) d
          → RunsAt (counts_down (node_site a) w p) a (Ok tt) d
      counts d second third =
          counts_at d (Ok tt)
          (runs_at_on (unsent (node_site b) (word_number (plus w 4)))
          (λ _. change (word_place (node_site b) (plus w 4)) (Decrement p)) b c d tt (Ok tt) second
          (subst (λ (s : Site). RunsAt (change (word_place s (plus w 4)) (Decrement p)) c (Ok tt) d) second.grows.site
          third))

-- a process that starts
module _ (a b : Node) (x : Name) (ctx : Context) where
  abbrev behind_comes : Site → Doing
  behind_comes s = save s ctx.wptr kept

  abbrev asked : Bool → Doing
  asked t = require t (Breaks Unaligned) >> (comes (node_site a) x ctx Rests >> behind_comes (node_site a))

  pub starts_unaligned : is_aligned ctx.wptr ≡ false → RunsAt (starts (node_site a) x ctx) a (Err (Breaks Unaligned)) a
  starts_unaligned e =
      subst (λ (t : Bool). RunsAt (asked t) a (Err (Breaks Unaligned)) a) (sym e) (runs_at_stopped (Breaks Unaligned) a)

  module _ (e : is_aligned ctx.wptr ≡ true) where
    pub comes_not : (f : Fault) → Does (comes (node_site a) x ctx Rests) nothing a (Err f) b
        → Does (starts (node_site a) x ctx) nothing a (Err f) b
    comes_not f h =
        subst (λ (t : Bool). Does (asked t) nothing a (Err f) b) (sym e)
        (does_stop (comes (node_site a) x ctx Rests) (λ _. behind_comes (node_site a)) nothing nothing a b f h)

    module _ (first : RunsAt (comes (node_site a) x ctx Rests) a (Ok tt) b) (c : Node) where
      pub starts_by : (r : Result (Unit {0}) Reason) → RunsAt (save (node_site b) ctx.wptr kept) b r c
          → RunsAt (starts (node_site a) x ctx) a r c
      starts_by r h =
          subst (λ (t : Bool). RunsAt (asked t) a r c) (sym e)
          (runs_at_on (comes (node_site a) x ctx Rests) (λ _. behind_comes (node_site a)) a b c tt r first
          (subst (λ (s : Site). RunsAt (behind_comes s) b r c) first.grows.site h))

-- `stopp`: the address is stored, and the process ends
module _ (a b : Node) (k : ℕ) (ctx : Context) where
  pub stops_not : (why : Reason)
      → RunsAt (write_word_at (node_site a) (word_below ctx.wptr 1) (as_cells (to_le_bytes w32 ctx.iptr))) a (Err why) b
      → RunsAt (stops_itself (node_site a) (name_at a k) ctx) a (Err why) b
  stops_not why h =
      runs_at_stop (write_word_at (node_site a) (word_below ctx.wptr 1) (as_cells (to_le_bytes w32 ctx.iptr)))
      (λ _. ends (node_site a) (name_at a k) ctx) a b why h

  pub stops : (c : Node) (r : Result (Unit {0}) Fault) → k < length a.processes.items.items
      → RunsAt (write_word_at (node_site a) (word_below ctx.wptr 1) (as_cells (to_le_bytes w32 ctx.iptr))) a (Ok tt) b
      → Does (ends (node_site b) (name_at b k) ctx) nothing b r c
      → Does (stops_itself (node_site a) (name_at a k) ctx) nothing a r c
  stops c r inside first h =
      does_then a b c k (write_word_at (node_site a) (word_below ctx.wptr 1) (as_cells (to_le_bytes w32 ctx.iptr)))
      (λ s x _. ends s x ctx) tt first inside nothing r h

  -- `stoperr`: it looks at Error
  module _ (t : Bool) (first : RunsAt (see (Error (node_site a).number)) a (Ok (IsFlag t)) b) (c : Node)
      (inside : k < length a.processes.items.items) where
    abbrev by_error : Bool → Site → Name → Doing
    by_error f s x = if f then stops_itself s x ctx else goes_on x ctx

    stops_if : (r : Result (Unit {0}) Fault) (f : Bool) → t ≡ f
        → Does (by_error f (node_site b) (name_at b k)) nothing b r c
        → Does (stops_by_error (node_site a) (name_at a k) ctx) nothing a r c
    stops_if r f e h =
        does_then a b c k (see (Error (node_site a).number)) (λ s x v. by_error (flag_in v) s x) (IsFlag t) first inside
        nothing r (subst (λ (g : Bool). Does (by_error g (node_site b) (name_at b k)) nothing b r c) (sym e) h)

    pub stops_so : (r : Result (Unit {0}) Fault) → t ≡ true
        → Does (stops_itself (node_site b) (name_at b k) ctx) nothing b r c
        → Does (stops_by_error (node_site a) (name_at a k) ctx) nothing a r c
    stops_so r e h = stops_if r true e h

    pub stops_never : t ≡ false → RunsAt (goes_on (name_at b k) ctx) b (Ok tt) c
        → RunsAt (stops_by_error (node_site a) (name_at a k) ctx) a (Ok tt) c
    stops_never e h = stops_if (Ok tt) false e h

-- a register that has to be known
module _ {A : Type 0} (a : Node) (o : Option ℕ) (next : ℕ → Part A) where
  abbrev asking : Option ℕ → Part A
  asking p = known p >>= next

  pub unknown : o ≡ None → RunsAt (known o >>= next) a (Err SawTheScheduler) a
  unknown e =
      subst (λ (p : Option ℕ). RunsAt (asking p) a (Err SawTheScheduler) a) (sym e) (runs_at_stopped SawTheScheduler a)

  module _ (b : Node) (v : ℕ) (e : o ≡ Some v) where
    pub knows : (r : Result A Reason) → RunsAt (next v) a r b → RunsAt (known o >>= next) a r b
    knows r h = subst (λ (p : Option ℕ). RunsAt (asking p) a r b) (sym e) h

    pub knows_does : {X : Type 0} (f : X → A) (r : Result X Fault) → Does (next v) f a r b
        → Does (known o >>= next) f a r b
    knows_does f r h = subst (λ (p : Option ℕ). Does (asking p) f a r b) (sym e) h

-- `endp`: the count falls, and the process ends
module _ (a : Node) (k : ℕ) (ctx : Context) where
  -- the operation, as it is told in a row
  abbrev ending : Site → Name → ℕ → Doing
  ending s x w =
      touch_word_at s Reads w
      >>= (λ (_ : Store). unless (word_place_break s.size (plus w 4))
      >> (unsent s (word_number (plus w 4))
      >> (change (word_place s (plus w 4)) (Decrement ctx.priority) >> ends s x ctx)))

  pub ends_unknown : ctx.a ≡ None
      → RunsAt (ends_among_others (node_site a) (name_at a k) ctx) a (Err SawTheScheduler) a
  ends_unknown e = unknown a ctx.a (ending (node_site a) (name_at a k)) e

  module _ (w : ℕ) where
    abbrev at_last : Site → Name → Unit {0} → Doing
    at_last s x _ = ends s x ctx

    in_a_row : (s : Site) (x : Name)
        → (counts_down s w ctx.priority >>= (λ _. ends s x ctx)) ≡ ending s x w
    in_a_row s x =
        bind_assoc (touch_word_at s Reads w)
        (λ (_ : Store). unless (word_place_break s.size (plus w 4))
        >> (unsent s (word_number (plus w 4)) >> change (word_place s (plus w 4)) (Decrement ctx.priority)))
        (at_last s x)
        ∙ (λ i. touch_word_at s Reads w >>= (λ (_ : Store). (bind_assoc (unless (word_place_break s.size (plus w 4)))
        (λ _. unsent s (word_number (plus w 4)) >> change (word_place s (plus w 4)) (Decrement ctx.priority))
        (at_last s x)
        ∙ (λ j. unless (word_place_break s.size (plus w 4)) >>= (λ _. bind_assoc (unsent s (word_number (plus w 4)))
        (λ _. change (word_place s (plus w 4)) (Decrement ctx.priority)) (at_last s x) j))) i))

    module _ (e : ctx.a ≡ Some w) (b : Node) where
      pub ends_not : (why : Reason) → RunsAt (counts_down (node_site a) w ctx.priority) a (Err why) b
          → RunsAt (ends_among_others (node_site a) (name_at a k) ctx) a (Err why) b
      ends_not why h =
          knows a ctx.a (ending (node_site a) (name_at a k)) b w e (Err why)
          (subst (λ (q : Doing). RunsAt q a (Err why) b) (in_a_row (node_site a) (name_at a k))
          (runs_at_stop (counts_down (node_site a) w ctx.priority) (at_last (node_site a) (name_at a k)) a b why h))

      pub ends_last : (c : Node) (r : Result (Unit {0}) Fault) → k < length a.processes.items.items
          → RunsAt (counts_down (node_site a) w ctx.priority) a (Ok tt) b
          → Does (ends (node_site b) (name_at b k) ctx) nothing b r c
          → Does (ends_among_others (node_site a) (name_at a k) ctx) nothing a r c
      ends_last c r inside first h =
          knows_does a ctx.a (ending (node_site a) (name_at a k)) c w e nothing r
          (subst (λ (q : Doing). Does q nothing a r c) (in_a_row (node_site a) (name_at a k))
          (does_then a b c k (counts_down (node_site a) w ctx.priority) at_last tt first inside nothing r h))

-- `startp`: the child comes, and the process goes on
module _ (a : Node) (k : ℕ) (ctx : Context) where
  -- with these registers
  abbrev starting : Site → Name → (workspace offset : ℕ) → Doing
  starting s x w o =
      starts s (child_of x ctx.children) (fresh ctx.priority w (plus ctx.iptr o))
      >> goes_on x (pop (pop (with_child ctx)))

  pub starts_nowhere : ctx.a ≡ None → RunsAt (starts_child (node_site a) (name_at a k) ctx) a (Err SawTheScheduler) a
  starts_nowhere e =
      unknown a ctx.a (λ w. known ctx.b >>= starting (node_site a) (name_at a k) w) e

  module _ (w : ℕ) (at : ctx.a ≡ Some w) where
    pub starts_at_nothing : ctx.b ≡ None
        → RunsAt (starts_child (node_site a) (name_at a k) ctx) a (Err SawTheScheduler) a
    starts_at_nothing e =
        knows a ctx.a (λ w. known ctx.b >>= starting (node_site a) (name_at a k) w) a w at (Err SawTheScheduler)
        (unknown a ctx.b (starting (node_site a) (name_at a k) w) e)

    module _ (o : ℕ) (by : ctx.b ≡ Some o) (child : Context) (new : child ≡ fresh ctx.priority w (plus ctx.iptr o))
        (b : Node) where
      starts_with : (c : Node) (r : Result (Unit {0}) Fault)
          → Does (starts (node_site a) (child_of (name_at a k) ctx.children) child
          >> goes_on (name_at a k) (pop (pop (with_child ctx)))) nothing a r c
          → Does (starts_child (node_site a) (name_at a k) ctx) nothing a r c
      starts_with c r h =
          knows_does a ctx.a (λ w. known ctx.b >>= starting (node_site a) (name_at a k) w) c w at nothing r
          (knows_does a ctx.b (starting (node_site a) (name_at a k) w) c o by nothing r
          (subst (λ (f : Context). Does (starts (node_site a) (child_of (name_at a k) ctx.children) f
          >> goes_on (name_at a k) (pop (pop (with_child ctx)))) nothing a r c) new h))

      pub starts_not : (f : Fault)
          → Does (starts (node_site a) (child_of (name_at a k) ctx.children) child) nothing a (Err f) b
          → Does (starts_child (node_site a) (name_at a k) ctx) nothing a (Err f) b
      starts_not f h =
          starts_with b (Err f)
          (does_stop (starts (node_site a) (child_of (name_at a k) ctx.children) child)
          (λ _. goes_on (name_at a k) (pop (pop (with_child ctx)))) nothing nothing a b f h)

      pub starts_so : (c : Node) (left : Context) → left ≡ pop (pop (with_child ctx))
          → k < length a.processes.items.items
          → RunsAt (starts (node_site a) (child_of (name_at a k) ctx.children) child) a (Ok tt) b
          → RunsAt (goes_on (name_at b k) left) b (Ok tt) c
          → RunsAt (starts_child (node_site a) (name_at a k) ctx) a (Ok tt) c
      starts_so c left same inside first h =
          starts_with c (Ok tt)
          (runs_then a b c k (starts (node_site a) (child_of (name_at a k) ctx.children) child)
          (λ s x _. goes_on x (pop (pop (with_child ctx)))) tt first inside (Ok tt)
          (subst (λ (l : Context). RunsAt (goes_on (name_at b k) l) b (Ok tt) c) same h))

-- `runp`: the first address is read, the child comes, and the process goes on
module _ (a : Node) (k : ℕ) (ctx : Context) where
  abbrev running : Site → Name → (process iptr : ℕ) → Doing
  running s x p iptr =
      starts s (child_of x ctx.children) (fresh (priority_of p) (workspace_of p) iptr)
      >> goes_on x (pop (with_child ctx))

  abbrev reading : Site → Name → ℕ → Doing
  reading s x p =
      touch_word_at s Reads (word_below (workspace_of p) 1)
      >>= (λ (cells : Store). known (known_word cells) >>= running s x p)

  by_address : (s : Site) (x : Name) (p : ℕ)
      → (first_address s (word_below (workspace_of p) 1) >>= running s x p) ≡ reading s x p
  by_address s x p =
      bind_assoc (touch_word_at s Reads (word_below (workspace_of p) 1)) (λ (cells : Store). known (known_word cells))
      (running s x p)

  pub runs_nobody : ctx.a ≡ None → RunsAt (runs_child (node_site a) (name_at a k) ctx) a (Err SawTheScheduler) a
  runs_nobody e = unknown a ctx.a (reading (node_site a) (name_at a k)) e

  module _ (p : ℕ) (at : ctx.a ≡ Some p) (b : Node) where
    pub runs_nowhere : (why : Reason)
        → RunsAt (first_address (node_site a) (word_below (workspace_of p) 1)) a (Err why) b
        → RunsAt (runs_child (node_site a) (name_at a k) ctx) a (Err why) b
    runs_nowhere why h =
        knows a ctx.a (reading (node_site a) (name_at a k)) b p at (Err why)
        (subst (λ (q : Doing). RunsAt q a (Err why) b) (by_address (node_site a) (name_at a k) p)
        (runs_at_stop (first_address (node_site a) (word_below (workspace_of p) 1))
        (running (node_site a) (name_at a k) p) a b why h))

    module _ (iptr : ℕ) (first : RunsAt (first_address (node_site a) (word_below (workspace_of p) 1)) a (Ok iptr) b)
        (inside : k < length a.processes.items.items) (child : Context)
        (new : child ≡ fresh (priority_of p) (workspace_of p) iptr) (c : Node) where
      runs_by : (d : Node) (r : Result (Unit {0}) Fault)
          → Does (starts (node_site b) (child_of (name_at b k) ctx.children) child
          >> goes_on (name_at b k) (pop (with_child ctx))) nothing b r d
          → Does (runs_child (node_site a) (name_at a k) ctx) nothing a r d
      runs_by d r h =
          knows_does a ctx.a (reading (node_site a) (name_at a k)) d p at nothing r
          (subst (λ (q : Doing). Does q nothing a r d) (by_address (node_site a) (name_at a k) p)
          (does_then a b d k (first_address (node_site a) (word_below (workspace_of p) 1))
          (λ s x n. running s x p n) iptr first inside nothing r
          (subst (λ (f : Context). Does (starts (node_site b) (child_of (name_at b k) ctx.children) f
          >> goes_on (name_at b k) (pop (with_child ctx))) nothing b r d) new h)))

      pub runs_not : (f : Fault)
          → Does (starts (node_site b) (child_of (name_at b k) ctx.children) child) nothing b (Err f) c
          → Does (runs_child (node_site a) (name_at a k) ctx) nothing a (Err f) c
      runs_not f h =
          runs_by c (Err f)
          (does_stop (starts (node_site b) (child_of (name_at b k) ctx.children) child)
          (λ _. goes_on (name_at b k) (pop (with_child ctx))) nothing nothing b c f h)

      pub runs_so : (d : Node) (left : Context) → left ≡ pop (with_child ctx)
          → RunsAt (starts (node_site b) (child_of (name_at b k) ctx.children) child) b (Ok tt) c
          → RunsAt (goes_on (name_at c k) left) c (Ok tt) d
          → RunsAt (runs_child (node_site a) (name_at a k) ctx) a (Ok tt) d
      runs_so d left same second h =
          runs_by d (Ok tt)
          (runs_then b c d k (starts (node_site b) (child_of (name_at b k) ctx.children) child)
          (λ s x _. goes_on x (pop (with_child ctx))) tt second (inside_still a b k first.grows inside) (Ok tt)
          (subst (λ (l : Context). RunsAt (goes_on (name_at c k) l) c (Ok tt) d) same h))

-- `in` and `out`
module _ (a : Node) (k : ℕ) (ctx : Context) (side : Side) where
  abbrev with_buffer : Site → Name → ℕ → ℕ → ℕ → Doing
  with_buffer s x l channel start = communicates s x ctx side channel (record { start = start; size = l })

  abbrev with_channel : Site → Name → ℕ → ℕ → Doing
  with_channel s x l channel = known ctx.c >>= with_buffer s x l channel

  abbrev with_length : Site → Name → ℕ → Doing
  with_length s x l = known ctx.b >>= with_channel s x l

  pub no_length : ctx.a ≡ None
      → RunsAt (sends_or_receives side (node_site a) (name_at a k) ctx) a (Err SawTheScheduler) a
  no_length e = unknown a ctx.a (with_length (node_site a) (name_at a k)) e

  module _ (l : ℕ) (long : ctx.a ≡ Some l) where
    pub no_channel : ctx.b ≡ None
        → RunsAt (sends_or_receives side (node_site a) (name_at a k) ctx) a (Err SawTheScheduler) a
    no_channel e =
        knows a ctx.a (with_length (node_site a) (name_at a k)) a l long (Err SawTheScheduler)
        (unknown a ctx.b (with_channel (node_site a) (name_at a k) l) e)

    module _ (channel : ℕ) (on : ctx.b ≡ Some channel) where
      pub no_buffer : ctx.c ≡ None
          → RunsAt (sends_or_receives side (node_site a) (name_at a k) ctx) a (Err SawTheScheduler) a
      no_buffer e =
          knows a ctx.a (with_length (node_site a) (name_at a k)) a l long (Err SawTheScheduler)
          (knows a ctx.b (with_channel (node_site a) (name_at a k) l) a channel on (Err SawTheScheduler)
          (unknown a ctx.c (with_buffer (node_site a) (name_at a k) l channel) e))

      pub exchanges : (b : Node) (start : ℕ) (r : Result (Unit {0}) Fault) → ctx.c ≡ Some start
          → Does (communicates (node_site a) (name_at a k) ctx side channel (record { start = start; size = l }))
          nothing a r b
          → Does (sends_or_receives side (node_site a) (name_at a k) ctx) nothing a r b
      exchanges b start r e h =
          knows_does a ctx.a (with_length (node_site a) (name_at a k)) b l long nothing r
          (knows_does a ctx.b (with_channel (node_site a) (name_at a k) l) b channel on nothing r
          (knows_does a ctx.c (with_buffer (node_site a) (name_at a k) l channel) b start e nothing r h))

-- the bytes that are stored
pub laid_so : (o : Option ℕ) → bytes_if (is_some o) (to_le_bytes w32 (unwrap_or o 0)) ≡ laid_down o
laid_so (Some v) = refl
laid_so None = refl

-- `outbyte` and `outword`
module _ (a : Node) (k : ℕ) (ctx : Context) (size : ℕ) where
  abbrev laying : Site → Name → ℕ → Doing
  laying s x channel =
      write_word_at s ctx.wptr (laid_down ctx.a)
      >> communicates s x ctx Output channel (record { start = ctx.wptr; size = size })

  pub sends_nowhere : ctx.b ≡ None
      → RunsAt (sends_from_workspace size (node_site a) (name_at a k) ctx) a (Err SawTheScheduler) a
  sends_nowhere e = unknown a ctx.b (laying (node_site a) (name_at a k)) e

  module _ (channel : ℕ) (on : ctx.b ≡ Some channel) (b : Node) where
    pub lays_not : (why : Reason) → RunsAt (write_word_at (node_site a) ctx.wptr (laid_down ctx.a)) a (Err why) b
        → RunsAt (sends_from_workspace size (node_site a) (name_at a k) ctx) a (Err why) b
    lays_not why h =
        knows a ctx.b (laying (node_site a) (name_at a k)) b channel on (Err why)
        (runs_at_stop (write_word_at (node_site a) ctx.wptr (laid_down ctx.a))
        (λ _. communicates (node_site a) (name_at a k) ctx Output channel (record { start = ctx.wptr; size = size }))
        a b why h)

    pub sends : (c : Node) (r : Result (Unit {0}) Fault) → k < length a.processes.items.items
        → RunsAt (write_word_at (node_site a) ctx.wptr (laid_down ctx.a)) a (Ok tt) b
        → Does (communicates (node_site b) (name_at b k) ctx Output channel (record { start = ctx.wptr; size = size }))
        nothing b r c
        → Does (sends_from_workspace size (node_site a) (name_at a k) ctx) nothing a r c
    sends c r inside first h =
        knows_does a ctx.b (laying (node_site a) (name_at a k)) c channel on nothing r
        (does_then a b c k (write_word_at (node_site a) ctx.wptr (laid_down ctx.a))
        (λ s x _. communicates s x ctx Output channel (record { start = ctx.wptr; size = size })) tt first inside
        nothing r h)
