-- What `disc`, `diss` and `altwt` leave in word 0 of the workspace, and what they answer.
use Rattle.std.proofs.Common.{◌≡◌, ◌≢◌, ℕ, ◌<◌, ◌^◌, refl, ap, subst, cond, ◌∙◌, length, Bool, true, false, not, ◌&&◌}
use Rattle.std.proofs.Common.{Some, None, arith}
use Rattle.std.specs.Prelude.{◌==◌}
use Rattle.tword.specs.Words.{word_below}
use Rattle.tword.specs.Stores.{Store, word_at, with_word}
use Rattle.tword.specs.Claims.{Claims, saving}
use Rattle.tword.specs.Touches.{Writes, word_break, deschedule_break}
use Rattle.tword.specs.Actions.{answer, done, write_word, deschedule, set_saved_word, with_saved_word, is_slot, ◌>>=◌}
use Rattle.tword.specs.Actions.{◌>>◌}
use Rattle.tword.proofs.Passing.{deschedule-words}
use Rattle.tcpu.specs.declared.registers.Registers.{Registers}
use Rattle.tcpu.specs.Outcomes.{all_to, flag}
use Rattle.tproc.specs.declared.ran.Ran.{Ran}
use Rattle.tproc.specs.declared.ran.Ran.TheVariants.{Instruction}
use Rattle.tproc.specs.declared.waiter.Reason.TheVariants.{Sends, Chooses}
use Rattle.tproc.specs.Machine.{Control}
use Rattle.tproc.specs.declared.process_status.ProcessStatus.{ProcessStatus}
use Rattle.tproc.specs.declared.process_status.ProcessStatus.TheVariants.{Waits, Runs}
use Rattle.tproc.specs.ProcessStatus.{status}
use Rattle.tproc.specs.Queues.{iptr_word, state_word, not_process, waiting_for}
use Rattle.tproc.specs.declared.channels.Side.TheVariants.{Input}
use Rattle.tproc.specs.Channels.{goes_on, waiting_state, ready}
use Rattle.tproc.specs.LinkChannels.{is_link, link_of, link_end, with_link, check_end, check_free}
use Rattle.tproc.specs.Alternatives.{none_selected, awaits_choice, disable_found, disable_internal, disable_link}
use Rattle.tproc.specs.Alternatives.{disable, selects, disables_channel}
use Rattle.tproc.specs.Selection.{outputs_on, is_ready}
use Rattle.tproc.proofs.Ends.{Ends, ends_bind, ends_if}
use Rattle.tproc.proofs.WordsApart.{LiesWord, lies_word, length-with_word, other_word, word_set, saved_other}
use Rattle.tproc.proofs.WordsApart.{below_other}

-- what a disable leaves: word 0 of the workspace holds the offset where the guard is ready and none was selected, and
-- else what it held
pub record IsSelected (w : ℕ) (old : Store) (offset : ℕ) (is_ready : Bool) (r : Registers) (s : Store) : Type 0 where
  pub told : r.a ≡ flag (is_ready && (word_at old w == none_selected))
  pub held : word_at s w ≡ cond (is_ready && (word_at old w == none_selected)) offset (word_at old w)

-- the same, of the answer of a step
abbrev pub Selects : ℕ → Store → ℕ → Bool → Claims → Control × Ran → Store → Type 0
Selects w old offset b d y s = IsSelected w old offset b y.0.registers s

-- what the look at a channel leaves
record IsLookedAt (w : ℕ) (old : Store) (m : Control) (is_ready : Bool) (y : Control × Bool) (s : Store) : Type 0 where
  pub registers : y.0.registers ≡ m.registers
  pub found : y.1 ≡ is_ready
  pub size : length s ≡ length old
  pub stands : LiesWord (length old) w → word_at s w ≡ word_at old w

abbrev LooksAt : ℕ → Store → Control → Bool → Claims → Control × Bool → Store → Type 0
LooksAt w old m b d y s = IsLookedAt w old m b y s

-- nothing is written
looked : (w : ℕ) (old : Store) (m m' : Control) (b : Bool) → m'.registers ≡ m.registers
    → IsLookedAt w old m b (m', b) old
looked w old m m' b e = record { registers = e; found = refl; size = refl; stands = λ l. refl }

module _ (old : Store) where
  -- the selection, once the channel was looked at
  pub selects-ends : (w offset : ℕ) (b : Bool) (m : Control) (c : Claims) (s : Store) → m.registers.wptr ≡ w
      → offset < 2 ^ 32 → length s ≡ length old → (LiesWord (length old) w → word_at s w ≡ word_at old w)
      → Ends (Selects w old offset b) old c s (selects offset b m)
  selects-ends w offset b m c s e small size stands = λ p.
      by (lies_word (length old) w c Writes (rw e at p)) (b && (word_at old w == none_selected)) refl
    where
      by : LiesWord (length old) w → (t : Bool) → (b && (word_at old w == none_selected)) ≡ t
          → Ends (Selects w old offset b) old c s
          (cond (b && (word_at old m.registers.wptr == none_selected)) (write_word m.registers.wptr offset) done >>
          goes_on (all_to (flag (b && (word_at old m.registers.wptr == none_selected))) m.registers) m)
      by l true f = rw (e, f) (λ _. record { told = rw f refl; held = rw f (word_set s w offset (rw size l) small) })
      by l false f = rw (e, f) (record { told = rw f refl; held = rw f (stands l) })

  -- an internal channel, by what stands in its word
  module _ (w channel : ℕ) (m : Control) (apart : channel ≢ w) (c : Claims) where
    found-ends : (where_it_is : ProcessStatus)
        → Ends (LooksAt w old m (outputs_on channel where_it_is)) old c old (disable_found channel where_it_is m)
    found-ends (Waits (Sends other buffer length)) = λ e. rw e (looked w old m m true refl)
    found-ends Runs = λ e.
        (let l : LiesWord (length old) channel = lies_word (length old) channel c Writes e in
        record {
          registers = refl;
          found = refl;
          size = length-with_word old channel not_process w l;
          stands = λ k. other_word old channel not_process w l k apart;
        })
    found-ends _ = tt

    internal-ends : Ends
        (LooksAt w old m
        (not (word_at old channel == not_process) && outputs_on channel (status m (word_at old channel)))) old c old
        (disable_internal channel m)
    internal-ends = λ _. by (word_at old channel == not_process)
      where
        by : (t : Bool)
            → Ends (LooksAt w old m (not t && outputs_on channel (status m (word_at old channel)))) old c old
            (cond t (answer (m, false)) (disable_found channel (status m (word_at old channel)) m))
        by true = looked w old m m false refl
        by false = found-ends (status m (word_at old channel))

    -- any channel
    channel-ends : Ends (LooksAt w old m (is_ready channel (record { control = m; store = old }))) old c old
        (disable channel m)
    channel-ends = by (is_link channel)
      where
        by : (t : Bool)
            → Ends (LooksAt w old m
            (cond t (link_end m (link_of Input channel)).noticed
            (not (word_at old channel == not_process) && outputs_on channel (status m (word_at old channel))))) old c
            old
            (cond t (check_end Input channel >> check_free Input channel m >> disable_link (link_of Input channel)
            (link_end m (link_of Input channel)) m) (disable_internal channel m))
        by true =
            λ _ _ _. looked w old m
            (with_link (link_of Input channel) (record (link_end m (link_of Input channel)) { remembered = None }) m)
            (link_end m (link_of Input channel)).noticed refl
        by false = internal-ends

  -- `disc`: whether the channel is looked at
  pub disables-ends : (m : Control) (c : Claims) → m.registers.a < 2 ^ 32
      → cond (m.registers.b == 0) None (Some m.registers.c) ≢ Some m.registers.wptr
      → Ends (Selects m.registers.wptr old m.registers.a
      (not (m.registers.b == 0) && is_ready m.registers.c (record { control = m; store = old }))) old c old
      (disables_channel m)
  disables-ends m c small apart = by (m.registers.b == 0) apart
    where
      b : Bool
      b = is_ready m.registers.c (record { control = m; store = old })

      by : (t : Bool) → cond t None (Some m.registers.c) ≢ Some m.registers.wptr
          → Ends (Selects m.registers.wptr old m.registers.a (not t && b)) old c old
          (cond t (answer (m, false)) (disable m.registers.c m) >>= (λ y. selects m.registers.a y.1 y.0))
      by true h = selects-ends m.registers.wptr m.registers.a false m c old refl small refl (λ l. refl)
      by false h =
          ends_bind (LooksAt m.registers.wptr old m b) (Selects m.registers.wptr old m.registers.a b)
          (disable m.registers.c m) (λ y. selects m.registers.a y.1 y.0) old c old
          (channel-ends m.registers.wptr m.registers.c m (λ q. h (ap Some q)) c) (λ d y s k.
          subst (λ (t : Bool). Ends (Selects m.registers.wptr old m.registers.a t) old d s
          (selects m.registers.a y.1 y.0)) k.found
          (selects-ends m.registers.wptr m.registers.a y.1 y.0 d s (ap (λ (r : Registers). r.wptr) k.registers) small
          k.size k.stands))

  -- `altwt`: no guard is selected
  pub awaits-ends : (process : ℕ) (m : Control) (c : Claims) → m.registers.wptr < 2 ^ 32
      → Ends (λ d y s. word_at s m.registers.wptr ≡ none_selected) old c old (awaits_choice process m)
  awaits-ends process m c small = λ p q t.
      ends_if (λ d y s. word_at s m.registers.wptr ≡ none_selected)
      (word_at old (word_below m.registers.wptr state_word) == ready) (goes_on m.registers m)
      (deschedule m.registers.wptr >>
      (set_saved_word m.registers.wptr state_word waiting_state >>
      (set_saved_word m.registers.wptr iptr_word m.registers.iptr >> answer
      (waiting_for process Chooses m, Instruction))))
      old c (with_word old m.registers.wptr none_selected)
      (λ _. written (lies p)) (λ _ e. stands p e)
    where
      lies : word_break (length old) c Writes m.registers.wptr ≡ None → LiesWord (length old) m.registers.wptr
      lies p = lies_word (length old) m.registers.wptr c Writes p

      written : LiesWord (length old) m.registers.wptr
          → word_at (with_word old m.registers.wptr none_selected) m.registers.wptr ≡ none_selected
      written l = word_set old m.registers.wptr none_selected l (omega arith)

      below : (k : ℕ) → is_slot k ≡ true → deschedule_break (length old) c m.registers.wptr ≡ None
          → LiesWord (length old) (word_below m.registers.wptr k)
      below k s e =
          lies_word (length old) (word_below m.registers.wptr k) c Writes
          (deschedule-words (length old) c m.registers.wptr k e s)

      stands : word_break (length old) c Writes m.registers.wptr ≡ None
          → deschedule_break (length old) c m.registers.wptr ≡ None
          → word_at
          (with_saved_word
          (with_saved_word (with_word old m.registers.wptr none_selected) (saving m.registers.wptr c)
          m.registers.wptr state_word waiting_state) (saving m.registers.wptr c) m.registers.wptr iptr_word
          m.registers.iptr) m.registers.wptr ≡ none_selected
      stands p e =
          let t : Store = with_word old m.registers.wptr none_selected in
          let u : Store = with_saved_word t (saving m.registers.wptr c) m.registers.wptr state_word waiting_state in
          let size : length t ≡ length old =
          length-with_word old m.registers.wptr none_selected m.registers.wptr (lies p) in
          let first : (length u ≡ length t) × (word_at u m.registers.wptr ≡ word_at t m.registers.wptr) =
          saved_other t (saving m.registers.wptr c) m.registers.wptr state_word waiting_state
          (rw size (below state_word refl e)) (rw size (lies p)) (below_other m.registers.wptr small).1 in
          let second :
          (length (with_saved_word u (saving m.registers.wptr c) m.registers.wptr iptr_word m.registers.iptr)
          ≡ length u)
          × (word_at (with_saved_word u (saving m.registers.wptr c) m.registers.wptr iptr_word m.registers.iptr)
          m.registers.wptr ≡ word_at u m.registers.wptr) =
          saved_other u (saving m.registers.wptr c) m.registers.wptr iptr_word m.registers.iptr
          (rw (first.0, size) (below iptr_word refl e)) (rw (first.0, size) (lies p))
          (below_other m.registers.wptr small).0 in
          second.1 ∙ first.1 ∙ written (lies p)
