-- The links lead from the front of each queue through it, after each move too.
use Rattle.std.proofs.Common.{◌≡◌, ℕ, zero, suc, ◌-◌, refl, ap, subst, ◌∙◌, List, [], ◌∷◌, ◌++◌, length, take, Some}
use Rattle.std.proofs.Common.{inl, inr, arith}
use Rattle.std.specs.Prelude.{slice_get}
use Rattle.std.proofs.lemmas.List.Elements.{All-head, All-tail, All-take}
use Rattle.tword.specs.declared.kind.Kind.{Kind}
use Rattle.tword.specs.Words.{word_below}
use Rattle.tword.specs.Stores.{Store, word_at}
use Rattle.tproc.specs.Machine.{Machine}
use Rattle.tproc.specs.ProcessStatus.{queue}
use Rattle.tproc.specs.Queues.{link_word, last_of}
use Rattle.tproc.specs.Opening.{empty_machine}
use Rattle.tproc.specs.SavedWords.{WordStands, LinksStand, IsJoined, QueueGoesOn, SavedStand, OfEachMove, linked_from}
use Rattle.tproc.specs.SavedWords.{IsThreaded, AreThreaded, QueuesStayThreaded}
use Rattle.tproc.proofs.SavedWords.{saved_words_stand}

-- the link of a workspace is the next one, and so on to the last
abbrev Chain : Store → ℕ → List ℕ → Type 0
Chain s w [] = Unit {0}
Chain s w (v ∷ vs) = (word_at s (word_below w link_word) ≡ v) × Chain s v vs

-- the front of a list, and what is behind it
same_front : (v w : ℕ) (vs ws : List ℕ) → v ∷ vs ≡ w ∷ ws → (v ≡ w) × (vs ≡ ws)
same_front v w vs ws e = (cc, cc)

-- what is found is a chain, and the other way round
chain_from : (s : Store) (w : ℕ) (ws : List ℕ) → linked_from s (length ws) (word_at s (word_below w link_word)) ≡ ws
    → Chain s w ws
chain_from s w [] e = tt
chain_from s w (v ∷ vs) e =
    let h : (word_at s (word_below w link_word) ≡ v) × (_ ≡ vs) = same_front _ v _ vs e in
    (h.0, chain_from s v vs (subst (λ u. linked_from s (length vs) (word_at s (word_below u link_word)) ≡ vs) h.0 h.1))

chain_found : (s : Store) (w : ℕ) (ws : List ℕ) → Chain s w ws
    → linked_from s (length ws) (word_at s (word_below w link_word)) ≡ ws
chain_found s w [] h = refl
chain_found s w (v ∷ vs) h = rw h.0 (ap (λ xs. v ∷ xs) (chain_found s v vs h.1))

chain_of : (s : Store) (w : ℕ) (ws : List ℕ) → IsThreaded s (w ∷ ws) → Chain s w ws
chain_of s w ws h = chain_from s w ws (same_front w w _ ws h).1

threaded_by : (s : Store) (w : ℕ) (ws : List ℕ) → Chain s w ws → IsThreaded s (w ∷ ws)
threaded_by s w ws h = ap (λ xs. w ∷ xs) (chain_found s w ws h)

-- the last of a chain
last_from : ℕ → List ℕ → ℕ
last_from w [] = w
last_from w (v ∷ vs) = last_from v vs

last_found : (w : ℕ) (ws : List ℕ) → slice_get (w ∷ ws) (length ws) ≡ Some (last_from w ws)
unfolding last_from
last_found w [] = refl
last_found w (v ∷ vs) = last_found v vs

last_is : (w : ℕ) (ws : List ℕ) → last_of (w ∷ ws) ≡ Some (last_from w ws)
last_is w ws = let e : length (w ∷ ws) - 1 ≡ length ws = omega arith in rw e (last_found w ws)

module _ (n n' : Machine) where
  -- a chain whose links stand, except for that of the last
  chain_stands : (w : ℕ) (ws : List ℕ) → LinksStand (take (length ws) (w ∷ ws)) n n' → Chain n.store w ws
      → Chain n'.store w ws
  chain_stands w [] h c = tt
  chain_stands w (v ∷ vs) h c = (
    All-head (λ u. WordStands link_word u n n') w (take (length vs) (v ∷ vs)) h ∙ c.0,
    chain_stands v vs (All-tail (λ u. WordStands link_word u n n') w (take (length vs) (v ∷ vs)) h) c.1,
  )

  -- one more at its end
  chain_joined : (w : ℕ) (ws : List ℕ) (new : ℕ) → Chain n'.store w ws
      → word_at n'.store (word_below (last_from w ws) link_word) ≡ new → Chain n'.store w (ws ++ new ∷ [])
  unfolding last_from
  chain_joined w [] new c e = (e, tt)
  chain_joined w (v ∷ vs) new c e = (c.0, chain_joined v vs new c.1 e)

  -- all links of a queue stand, so those before its last do
  before_last : (w : ℕ) (ws : List ℕ) → LinksStand (w ∷ ws) n n' → LinksStand (take (length ws) (w ∷ ws)) n n'
  before_last w ws h = All-take (λ u. WordStands link_word u n n') (length ws) (w ∷ ws) h

  queue_stands : (q : List ℕ) → LinksStand q n n' → IsThreaded n.store q → IsThreaded n'.store q
  queue_stands [] h t = refl
  queue_stands (w ∷ ws) h t =
      threaded_by n'.store w ws (chain_stands w ws (before_last w ws h) (chain_of n.store w ws t))

  queue_rests : (w : ℕ) (ws : List ℕ) → IsThreaded n'.store (w ∷ ws) → IsThreaded n'.store ws
  queue_rests w [] t = refl
  queue_rests w (v ∷ vs) t = threaded_by n'.store v vs (chain_of n'.store w (v ∷ vs) t).1

  queue_joined : (q q' : List ℕ) → IsJoined q q' n n' → IsThreaded n.store q → IsThreaded n'.store q'
  queue_joined [] q' j t = rw j.order refl
  queue_joined (w ∷ ws) q' j t =
      let e : length (w ∷ ws) - 1 ≡ length ws = omega arith in
      let link : word_at n'.store (word_below (last_from w ws) link_word) ≡ j.new = rw (last_is w ws) at j.link in
      let chain : Chain n'.store w ws = chain_stands w ws (rw e at j.others) (chain_of n.store w ws t) in
      rw j.order (threaded_by n'.store w (ws ++ j.new ∷ []) (chain_joined w ws j.new chain link))

  queue_threaded : (q q' : List ℕ) → QueueGoesOn q q' n n' → IsThreaded n.store q → IsThreaded n'.store q'
  queue_threaded q q' (inl (inl e, h)) t = rw e (queue_stands q h t)
  queue_threaded q q' (inl (inr (w, e), h)) t = queue_rests w q' (subst (IsThreaded n'.store) e (queue_stands q h t))
  queue_threaded q q' (inr j) t = queue_joined q q' j t

  threaded : SavedStand n n' → AreThreaded n → AreThreaded n'
  threaded h t = λ p. queue_threaded (queue n.control p) (queue n'.control p) (h.queues p) (t p)

-- a processor without a process has no queue to be found
pub empty_threaded : (size timeslice : ℕ) (kind : Kind) → AreThreaded (empty_machine size timeslice kind)
empty_threaded size timeslice kind zero = refl
empty_threaded size timeslice kind (suc p) = refl

-- each move leaves the queues threaded
pub queues_stay_threaded : QueuesStayThreaded
queues_stay_threaded n p t =
    record {
      steps = λ n' r e. threaded n n' (h.steps n' r e) t;
      notices = λ l. threaded n _ (h.notices l) t;
      outputs = λ l. threaded n _ (h.outputs l) t;
      inputs = λ l. threaded n _ (h.inputs l) t;
      bytes = λ l k byte i. threaded n _ (h.bytes l k byte i) t;
      additions = λ process iptr n' w e. threaded n n' (h.additions process iptr n' w e) t;
      loads = λ start bytes i u. threaded n _ (h.loads start bytes i u) t;
    }
  where
    h : OfEachMove SavedStand n
    h = saved_words_stand n p
