-- Words -1 and -2 of the processes that are queued or wait: what each move of a processor leaves of them, and that the
-- queue links lead through each queue.
-- Source: the Compiler Writer's Guide (1988): word -1 is the saved Iptr, word -2 the link of a queue. What a move
-- leaves of them: own choice, laws of the machine.
use Rattle.std.specs.Prelude.{ℕ, zero, suc, ◌-◌, ◌≡◌, ◌⊎◌, List, [], ◌∷◌, ◌++◌, length, map, take, All, Ok, IfSome}
use Rattle.std.specs.Prelude.{IsTrue, false, slice_index_or}
use Rattle.tword.specs.declared.kind.Kind.{Kind}
use Rattle.tword.specs.Words.{word_below}
use Rattle.tword.specs.Stores.{Store, word_at}
use Rattle.tword.specs.declared.span.Span.{Span}
use Rattle.tword.specs.Claims.{is_saved}
use Rattle.tword.specs.Touches.{is_inside}
use Rattle.tproc.specs.declared.ran.Ran.{Ran}
use Rattle.tproc.specs.Machine.{Machine, workspace_of, descheduled, claims_of}
use Rattle.tproc.specs.ProcessStatus.{queue}
use Rattle.tproc.specs.Queues.{iptr_word, link_word, last_of}
use Rattle.tproc.specs.Placement.{IsWord, IsPlaced}
use Rattle.tproc.specs.Links.{notice, finish_output, finish_input}
use Rattle.tproc.specs.Messages.{input_of, HasByte, with_byte}
use Rattle.tproc.specs.Opening.{empty_machine, loaded, added}
use Rattle.tproc.specs.Steps.{step}

-- word -k of a workspace is what it was
abbrev pub WordStands : (k workspace : ℕ) → Machine → Machine → Type 0
WordStands k w n n' = word_at n'.store (word_below w k) ≡ word_at n.store (word_below w k)

-- the queue links of these workspaces are what they were
abbrev pub LinksStand : List ℕ → Machine → Machine → Type 0
LinksStand ws n n' = All (λ w. WordStands link_word w n n') ws

-- a queue is as it was, or its first process has left it
abbrev pub IsRestOf : (before after : List ℕ) → Type 0
IsRestOf before after = (after ≡ before) ⊎ ((w : ℕ) × (before ≡ w ∷ after))

-- a process has joined a queue: the last one that was there is linked to it, and the links before that one are what
-- they were
pub record IsJoined (before after : List ℕ) (n n' : Machine) : Type 0 where
  pub new : ℕ
  pub order : after ≡ before ++ new ∷ []
  pub link : IfSome (last_of before) (λ w. word_at n'.store (word_below w link_word) ≡ new)
  pub others : LinksStand (take (length before - 1) before) n n'

-- a queue after a move: nobody has joined it and all its links are what they were, or one process has joined it
abbrev pub QueueGoesOn : (before after : List ℕ) → Machine → Machine → Type 0
QueueGoesOn before after n n' = (IsRestOf before after × LinksStand before n n') ⊎ IsJoined before after n n'

-- what a move leaves of the saved words: each saved Iptr, the link of each process that waits, and those of the queues
-- except for the last one of a queue that another process joins
pub record SavedStand (n n' : Machine) : Type 0 where
  pub iptrs : All (λ w. WordStands iptr_word w n n') (descheduled n.control)
  pub waiting : LinksStand (map (λ w. workspace_of w.process) n.control.waiting) n n'
  pub queues : (priority : ℕ) → QueueGoesOn (queue n.control priority) (queue n'.control priority) n n'

-- a fact about a processor before and after each of its moves: a step, a notice, the end of an output or an input, a
-- byte that comes in, a process that is added; and after bytes are loaded where no saved word is
pub record OfEachMove (P : Machine → Machine → Type 0) (n : Machine) : Type 0 where
  pub steps : (n' : Machine) (r : Ran) → step n ≡ Ok (n', r) → P n n'
  pub notices : (l : ℕ) → P n (notice l n)
  pub outputs : (l : ℕ) → P n (finish_output l n)
  pub inputs : (l : ℕ) → P n (finish_input l n)
  pub bytes : (l k byte : ℕ) → HasByte (input_of n l) k → P n (with_byte (input_of n l) k byte n)
  pub additions : (process iptr : ℕ) (n' : Machine) → IsWord process → added process iptr n ≡ Ok n' → P n n'
  pub loads : (start : ℕ) (bytes : List ℕ) → let span : Span = record { start = start; size = length bytes } in
      IsTrue (is_inside (length n.store) span) → is_saved (claims_of n.control) span ≡ false
      → P n (loaded start bytes n)

-- the first two saved words of a process that is queued or waits are unchanged until the scheduler sets them
abbrev pub SavedWordsStand : Type 0
SavedWordsStand = (n : Machine) → IsPlaced n → OfEachMove SavedStand n

-- the workspaces that are found one after another by their queue links, this many from one on
abbrev pub linked_from : Store → (count workspace : ℕ) → List ℕ
linked_from store zero w = []
linked_from store (suc k) w = w ∷ linked_from store k (word_at store (word_below w link_word))

-- whoever follows the links from the front of a queue finds the queue
abbrev pub IsThreaded : Store → List ℕ → Type 0
IsThreaded store q = linked_from store (length q) (slice_index_or q 0 0) ≡ q

-- whoever follows the links from the front of either queue finds the queue
abbrev pub AreThreaded : Machine → Type 0
AreThreaded n = (priority : ℕ) → IsThreaded n.store (queue n.control priority)

-- the queues of a processor without a process are found by their links
abbrev pub EmptyIsThreaded : Type 0
EmptyIsThreaded = (size timeslice : ℕ) (kind : Kind) → AreThreaded (empty_machine size timeslice kind)

-- each move leaves the queues so that they are found by their links
abbrev pub QueuesStayThreaded : Type 0
QueuesStayThreaded = (n : Machine) → IsPlaced n → AreThreaded n → OfEachMove (λ _ n'. AreThreaded n') n
