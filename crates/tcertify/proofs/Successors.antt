-- Successors that go on, part by part.
use Rattle.std.proofs.Common.{◌≡◌, ℕ, suc, sym, subst, refl, [], Result, Ok, Err}
use Rattle.tword.specs.Stores.{Store}
use Rattle.tword.specs.Touches.{Reads}
use Rattle.tprocesses.specs.Changes.{Put, free_word, known_word}
use Rattle.tprocesses.specs.Parts.{Reason, Part, Doing, WordInUse, stopping, change, see, ◌>>=◌, ◌>>◌}
use Rattle.tprocesses.specs.Places.{After, Successions, WordAt}
use Rattle.tprocesses.specs.Scheduling.{goes_on_after, successor_step, successor_workspace}
use Rattle.tprocesses.specs.Standing.{comes, fresh, known}
use Rattle.tprocesses.specs.Touching.{Site, touch_word_at, unsent}
use Rattle.tprocesses.specs.Values as value
use Rattle.tprocesses.specs.Values.{Context, IsCount, IsWord, Last, Use, Value, Word, count_in, word_in}
use Rattle.tcertify.specs.declared.fault.Fault.{Fault}
use Rattle.tcertify.specs.declared.node.Node.{Node}
use Rattle.tcertify.specs.Messages.{succeeds, takes_over}
use Rattle.tcertify.specs.Nodes.{Does, RunsAt, node_site, nothing}
use Rattle.tcertify.specs.Scheduling.{first_address}
use Rattle.tcertify.proofs.NodeRunning.{bind_assoc, does_on, does_stop, runs_at_on, runs_at_stop, runs_at_stopped}

-- a part of the site that follows another one
does_next : {A B X : Type 0} (a b c : Node) (part : Part A) (next : Site → A → Part B) (x : A)
    → RunsAt part a (Ok x) b → (f : X → B) (r : Result X Fault) → Does (next (node_site b) x) f b r c
    → Does (part >>= next (node_site a)) f a r c
does_next a b c part next x first f r h =
    does_on part (next (node_site a)) f a b c x r first
    (subst (λ (s : Site). Does (next s x) f b r c) first.grows.site h)

-- one more successor at a workspace
module _ (a : Node) (w priority iptr : ℕ) where
  abbrev joining : Site → ℕ → Context → Doing
  joining s n c = comes s (record { node = s.number; root = After w n; path = [] }) c value.Runs

  abbrev counting : Site → ℕ → Doing
  counting s n = change (Successions s.number w) (Put (IsCount (suc n))) >> joining s n (fresh priority w iptr)

  abbrev counting_in : Site → Value → Doing
  counting_in s v = counting s (count_in v)

  module _ (b : Node) where
    pub succeeds_unseen : (e : Fault)
        → Does (see (Successions (node_site a).number w)) (λ (n : ℕ). IsCount n) a (Err e) b
        → Does (succeeds (node_site a) w priority iptr) nothing a (Err e) b
    succeeds_unseen e h =
        does_stop (see (Successions (node_site a).number w)) (counting_in (node_site a)) (λ (n : ℕ). IsCount n) nothing
        a b
        e h

    module _ (n : ℕ) (first : RunsAt (see (Successions (node_site a).number w)) a (Ok (IsCount n)) b) (c : Node) where
      pub succeeds_uncounted : (e : Fault)
          → Does (change (Successions (node_site b).number w) (Put (IsCount (suc n)))) nothing b (Err e) c
          → Does (succeeds (node_site a) w priority iptr) nothing a (Err e) c
      succeeds_uncounted e h =
          does_next a b c (see (Successions (node_site a).number w)) counting_in (IsCount n) first nothing (Err e)
          (does_stop (change (Successions (node_site b).number w) (Put (IsCount (suc n))))
          (λ _. joining (node_site b) n (fresh priority w iptr)) nothing nothing b c e h)

      pub succeeds_so : (d : Node) (r : Result (Unit {0}) Fault) (begun : Context) → begun ≡ fresh priority w iptr
          → RunsAt (change (Successions (node_site b).number w) (Put (IsCount (suc n)))) b (Ok tt) c
          → Does (joining (node_site c) n begun) nothing c r d
          → Does (succeeds (node_site a) w priority iptr) nothing a r d
      succeeds_so d r begun e second third =
          does_next a b d (see (Successions (node_site a).number w)) counting_in (IsCount n) first nothing r
          (does_next b c d (change (Successions (node_site b).number w) (Put (IsCount (suc n))))
          (λ s _. joining s n (fresh priority w iptr)) tt second nothing r
          (subst (λ (f : Context). Does (joining (node_site c) n f) nothing c r d) e third))

-- the count is a word for programs again
module _ (a b : Node) (k w priority iptr : ℕ) where
  abbrev frees_count : Site → Doing
  frees_count s = change (WordAt s.number k) (Put (IsWord (free_word 0))) >> succeeds s w priority iptr

  pub takes_sent : (why : Reason) → RunsAt (unsent (node_site a) k) a (Err why) b
      → RunsAt (takes_over (node_site a) k w priority iptr) a (Err why) b
  takes_sent why h = runs_at_stop (unsent (node_site a) k) (λ _. frees_count (node_site a)) a b why h

  pub takes_count : (c d : Node) (r : Result (Unit {0}) Fault) → RunsAt (unsent (node_site a) k) a (Ok tt) b
      → RunsAt (change (WordAt (node_site b).number k) (Put (IsWord (free_word 0)))) b (Ok tt) c
      → Does (succeeds (node_site c) w priority iptr) nothing c r d
      → Does (takes_over (node_site a) k w priority iptr) nothing a r d
  takes_count c d r first second third =
      does_next a b d (unsent (node_site a) k) (λ s _. frees_count s) tt first nothing r
      (does_next b c d (change (WordAt (node_site b).number k) (Put (IsWord (free_word 0))))
      (λ s _. succeeds s w priority iptr) tt second nothing r third)

-- a process goes on after others
module _ (a b : Node) (k w priority : ℕ) (at : w ≡ successor_workspace k) where
  abbrev takes_from : Site → ℕ → Doing
  takes_from s iptr = takes_over s k w priority iptr

  abbrev after_at : ℕ → Doing
  after_at p =
      touch_word_at (node_site a) Reads p
      >>= (λ (cells : Store). known (known_word cells) >>= (λ (iptr : ℕ). takes_over (node_site a) k p priority iptr))

  in_a_row : (first_address (node_site a) w >>= takes_from (node_site a)) ≡ after_at w
  in_a_row =
      bind_assoc (touch_word_at (node_site a) Reads w) (λ (cells : Store). known (known_word cells))
      (takes_from (node_site a))

  follows : (c : Node) (r : Result (Unit {0}) Fault)
      → Does (first_address (node_site a) w >>= takes_from (node_site a)) nothing a r c
      → Does (goes_on_after (node_site a) k (Last priority)) nothing a r c
  follows c r h =
      subst (λ (p : ℕ). Does (after_at p) nothing a r c) at
      (subst (λ (q : Doing). Does q nothing a r c) in_a_row h)

  pub follows_not : (why : Reason) → RunsAt (first_address (node_site a) w) a (Err why) b
      → RunsAt (goes_on_after (node_site a) k (Last priority)) a (Err why) b
  follows_not why h =
      subst (λ (p : ℕ). RunsAt (after_at p) a (Err why) b) at
      (subst (λ (q : Doing). RunsAt q a (Err why) b) in_a_row
      (runs_at_stop (first_address (node_site a) w) (takes_from (node_site a)) a b why h))

  pub follows_so : (c : Node) (r : Result (Unit {0}) Fault) (iptr : ℕ)
      → RunsAt (first_address (node_site a) w) a (Ok iptr) b
      → Does (takes_over (node_site b) k w priority iptr) nothing b r c
      → Does (goes_on_after (node_site a) k (Last priority)) nothing a r c
  follows_so c r iptr first second =
      follows c r (does_next a b c (first_address (node_site a) w) takes_from iptr first nothing r second)

-- the step of a successor
module _ (a b : Node) (k : ℕ) (word : Word)
    (first : RunsAt (see (WordAt (node_site a).number k)) a (Ok (IsWord word)) b) where
  abbrev goes_by : Site → Value → Doing
  goes_by s v = goes_on_after s k (word_in v).used

  idle : (s : Site) (u : Use) → ((p : ℕ) → u ≡ Last p → ⊥) → goes_on_after s k u ≡ stopping WordInUse
  idle s value.Free h = refl
  idle s value.Saved h = refl
  idle s value.Receiving h = refl
  idle s value.Engaged h = refl
  idle s value.Choosing h = refl
  idle s value.Awaiting h = refl
  idle s (Last p) h = absurd (h p refl)
  idle s value.Spoilt h = refl

  pub not_ended : ((p : ℕ) → word.used ≡ Last p → ⊥)
      → RunsAt (successor_step k (node_site a)) a (Err WordInUse) b
  not_ended h =
      runs_at_on (see (WordAt (node_site a).number k)) (goes_by (node_site a)) a b b (IsWord word) (Err WordInUse) first
      (subst (λ (q : Doing). RunsAt q b (Err WordInUse) b) (sym (idle (node_site a) word.used h))
      (runs_at_stopped WordInUse b))

  pub all_ended : (c : Node) (r : Result (Unit {0}) Fault) (p : ℕ) → word.used ≡ Last p
      → Does (goes_on_after (node_site b) k (Last p)) nothing b r c
      → Does (successor_step k (node_site a)) nothing a r c
  all_ended c r p e h =
      does_next a b c (see (WordAt (node_site a).number k)) goes_by (IsWord word) first nothing r
      (subst (λ (u : Use). Does (goes_on_after (node_site b) k u) nothing b r c) (sym e) h)
