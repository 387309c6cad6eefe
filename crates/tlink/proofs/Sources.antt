-- What a source does at each event.
use Rattle.std.proofs.Common.{◌≡◌, ◌∙◌, ℕ, zero, suc, ◌+◌, ◌-◌, ◌<◌, ◌≤◌, refl, sym, ap, subst, cond, List, [], ◌∷◌}
use Rattle.std.proofs.Common.{length, drop, take, ◌++◌, length-take, length-drop}
use Rattle.std.proofs.Common.{get_or, Bool, true, false, ◌&&◌, not, Some, None, Result, Ok, Err, ◌⊎◌, inl, inr}
use Rattle.std.proofs.Common.{arith}
use Rattle.std.specs.Prelude.{sum, slice_get, unwrap_or, option_map, nat_lt, ◌==◌}
use Rattle.std.proofs.lemmas.Bool.{cases_eq, ne_eqb, eq-eqb, lt-ltb, le-ltb}
use Rattle.std.proofs.lemmas.List.Sums.{sum_by-cons}
use Rattle.std.proofs.lemmas.Option.{same_Some, slice_get-map, slice_get-get_or, slice_get_within, slice_get_read}
use Rattle.std.proofs.lemmas.Option.{get_or_from_slice_get}
use Rattle.tword.specs.Words.{most_neg}
use Rattle.tword.specs.Stores.{as_cells, byte_at}
use Rattle.tlink.specs.declared.counts.Counts.{Counts}
use Rattle.tlink.specs.declared.event.Emitted.{Emitted}
use Rattle.tlink.specs.declared.event.Mark.TheVariants.{Nothing}
use Rattle.tlink.specs.declared.event.NodeEvent.{NodeEvent}
use Rattle.tlink.specs.declared.event.NodeEvent.TheVariants.{Send, Data, Ack}
use Rattle.tlink.specs.declared.event.Packet.TheVariants as packet
use Rattle.tlink.specs.declared.event.StepFault.{StepFault}
use Rattle.tlink.specs.declared.event.StepFault.TheVariants.{NotEnabled}
use Rattle.tlink.specs.Node.{NodeState}
use Rattle.tlink.specs.Events.{Answer, happens, silently, emitting, is_node_enabled, is_node_done}
use Rattle.tlink.specs.Events.{node_answered, node_left_by}
use Rattle.tlink.specs.Answers.{DoesNode}
use Rattle.tlink.specs.Scripts.{source_state, IsSourceWithin}
use Rattle.tlink.proofs.Alone.{sends_alone}

-- what a call does, where the node's answer is known
pub does : (e : NodeEvent) {n old : NodeState} (n' : NodeState) (known : Answer) (result : Result Emitted StepFault)
    → n ≡ old → happens e n ≡ known → result ≡ node_answered known → n' ≡ node_left_by n known
    → DoesNode (happens e old) old result n'
does e {n} n' known result same is told left =
    subst (λ (m : NodeState). DoesNode (happens e m) m result n') same
    (record { told = told ∙ ap node_answered (sym is); left = left ∙ ap (node_left_by n) (sym is) })

pub refuses : (e : NodeEvent) {n old : NodeState} → n ≡ old → happens e n ≡ Err NotEnabled
    → DoesNode (happens e old) old (Err NotEnabled) old
refuses e {old = old} same is = does e old (Err NotEnabled) (Err NotEnabled) same is refl (sym same)

-- the same for the test
pub tells : (e : NodeEvent) {n old : NodeState} {b : Bool} → n ≡ old → b ≡ is_node_done (happens e n)
    → b ≡ is_node_enabled e old
tells e same told = told ∙ ap (is_node_enabled e) same

pub rests : (e : NodeEvent) {n old : NodeState} → n ≡ old → happens e n ≡ Err NotEnabled → false ≡ is_node_enabled e old
rests e same is = tells e same (sym (ap is_node_done is))

-- the lengths of the messages that are not over, by the first of them
pub rest_none : (lengths : List ℕ) (done : ℕ) → slice_get lengths done ≡ None → drop done lengths ≡ []
rest_none [] zero h = refl
rest_none [] (suc d) h = refl
rest_none (x ∷ xs) zero h = cc
rest_none (x ∷ xs) (suc d) h = rest_none xs d h

pub rest_some : (lengths : List ℕ) (done n : ℕ) → slice_get lengths done ≡ Some n
    → drop done lengths ≡ n ∷ drop (suc done) lengths
rest_some [] done n h = cc
rest_some (x ∷ xs) zero n h = ap (λ y. y ∷ xs) (same_Some _ _ h)
rest_some (x ∷ xs) (suc d) n h = rest_some xs d n h

-- the lengths of the messages that are over, with one more
pub over_more : (lengths : List ℕ) (done n : ℕ) → slice_get lengths done ≡ Some n
    → take (suc done) lengths ≡ take done lengths ++ n ∷ []
over_more [] done n h = cc
over_more (x ∷ xs) zero n h = ap (λ y. y ∷ []) (same_Some _ _ h)
over_more (x ∷ xs) (suc d) n h = ap (λ (ys : List ℕ). x ∷ ys) (over_more xs d n h)

-- how many messages are over, and how many there are
pub over_count : (lengths : List ℕ) (done : ℕ) → done ≤ length lengths → done ≡ length (take done lengths)
over_count lengths done h = omega (arith, length-take done lengths)

pub all_count : (lengths : List ℕ) (done : ℕ) → length lengths ≡ length (take done lengths) + length (drop done lengths)
all_count lengths done = omega (arith, length-take done lengths, length-drop done lengths)

-- a byte of those that became cells
pub byte_read : (bytes : List ℕ) (start k : ℕ) → start + k < length bytes
    → unwrap_or (byte_at (as_cells bytes) (most_neg + start + k)) 0 ≡ get_or bytes (start + k) 0
byte_read bytes start k b =
    let high : nat_lt (most_neg + start + k) most_neg ≡ false = le-ltb _ _ (omega arith) in
    let at : most_neg + start + k - most_neg ≡ start + k = omega arith in
    let cell : slice_get (as_cells bytes) (start + k) ≡ Some (Some (get_or bytes (start + k) 0)) =
    slice_get-map Some bytes (start + k) ∙ ap (option_map Some) (slice_get-get_or bytes (start + k) 0 b) in
    rw (high, at, cell) refl

-- a byte that was read
pub byte_is : (bytes : List ℕ) (i x : ℕ) → i < length bytes → x ≡ get_or bytes i x → x ≡ get_or bytes i 0
byte_is bytes i x b e = sym (get_or_from_slice_get bytes i x 0 (slice_get_read bytes (length bytes) i x refl b e))

module _ (bytes lengths : List ℕ) (done start : ℕ) (c : Counts) where
  abbrev pub this : NodeState
  this = source_state bytes lengths done start c

  -- without a message that is not over there is nothing to send, and nothing to hear of
  pub send_over : slice_get lengths done ≡ None → happens (Send 0) this ≡ Err NotEnabled
  unfolding happens
  send_over h = rw (rest_none lengths done h) refl

  pub ack_over : slice_get lengths done ≡ None → happens (Ack 0) this ≡ Err NotEnabled
  unfolding happens
  ack_over h = rw (rest_none lengths done h) refl

  module _ (n : ℕ) (h : slice_get lengths done ≡ Some n) where
    -- the answer to Send, by its tests
    send_is : happens (Send 0) this
        ≡ cond ((c.acked == c.sent) && nat_lt c.sent n)
        (emitting 0 (packet.Data (unwrap_or (byte_at (as_cells bytes) (most_neg + start + c.sent)) 0) (c.sent + 1 ==
        n))
        Nothing (source_state bytes lengths done start (record c { sent = c.sent + 1 })))
        (Err NotEnabled)
    unfolding happens
    send_is = rw (rest_some lengths done n h) refl

    -- the byte before is not acknowledged
    pub send_early : (c.acked ≡ c.sent → ⊥) → happens (Send 0) this ≡ Err NotEnabled
    send_early other = send_is ∙ rw (ne_eqb c.acked c.sent other) refl

    -- all was sent
    pub send_past : c.acked ≡ c.sent → n ≤ c.sent → happens (Send 0) this ≡ Err NotEnabled
    send_past same past = send_is ∙ rw (eq-eqb c.acked c.sent same, le-ltb c.sent n past) refl

    -- the test of Send
    pub send_told : c.acked ≡ c.sent → nat_lt c.sent n ≡ is_node_done (happens (Send 0) this)
    send_told same = rw (send_is, eq-eqb c.acked c.sent same) (by (nat_lt c.sent n) _)
      where
        by : (b : Bool) (x : NodeState × Emitted) → b ≡ is_node_done (cond b (Ok x) (Err NotEnabled))
        by true x = refl
        by false x = refl

    -- the byte that is sent lies in the bytes
    pub first_within : start + sum (drop done lengths) ≤ length bytes → (k : ℕ) → k < n → start + k < length bytes
    first_within within k more =
        let e : sum (drop done lengths) ≡ n + sum (drop (suc done) lengths) =
        ap sum (rest_some lengths done n h) ∙ sum_by-cons (λ x. x) n (drop (suc done) lengths) in omega arith

    -- the next byte is sent
    pub send_next : start + sum (drop done lengths) ≤ length bytes → c.acked ≡ c.sent → c.sent < n
        → happens (Send 0) this
        ≡ emitting 0 (packet.Data (get_or bytes (start + c.sent) 0) (c.sent + 1 == n)) Nothing
        (source_state bytes lengths done start (record c { sent = c.sent + 1 }))
    send_next within same more =
        send_is
        ∙ rw (
          eq-eqb c.acked c.sent same,
          lt-ltb c.sent n more,
          byte_read bytes start c.sent (first_within within
              c.sent more),
        )
        refl

    -- the messages behind the first lie in the bytes
    pub next_within : IsSourceWithin bytes lengths done start → IsSourceWithin bytes lengths (done + 1) (start + n)
    next_within within =
        let e : sum (drop done lengths) ≡ n + sum (drop (suc done) lengths) =
        ap sum (rest_some lengths done n h) ∙ sum_by-cons (λ x. x) n (drop (suc done) lengths) in
        let there : done < length lengths = slice_get_within lengths done n h in
        let one : done + 1 ≡ suc done = omega arith in
        let s : start + n + sum (drop (done + 1) lengths) ≤ length bytes = rw one (omega (arith, within.within)) in
        record { all = within.all; few = omega (arith, there); within = s }

    -- the answer to Ack, by its tests
    ack_is : happens (Ack 0) this
        ≡ cond (not (c.sent == c.acked + 1)) (Err NotEnabled)
        (cond (c.acked + 1 == n)
        (silently Nothing (source_state bytes lengths (suc done) (start + n) (record c { sent = 0; acked = 0 })))
        (silently Nothing (source_state bytes lengths done start (record c { acked = c.acked + 1 }))))
    unfolding happens
    ack_is =
        let at : most_neg + start + n ≡ most_neg + (start + n) = omega arith in
        rw (rest_some lengths done n h, over_more lengths done n h, at) refl

    -- the test of Ack
    pub ack_told : c.acked < c.sent → (c.sent - c.acked == 1) ≡ is_node_done (happens (Ack 0) this)
    ack_told more = rw ack_is (by (cases_eq c.sent (c.acked + 1)))
      where
        one : (b : Bool) (x y : NodeState × Emitted) → true ≡ is_node_done (cond b (Ok x) (Ok y))
        one true x y = refl
        one false x y = refl

        by : (c.sent ≡ c.acked + 1) ⊎ (c.sent ≡ c.acked + 1 → ⊥)
            → (c.sent - c.acked == 1)
            ≡ is_node_done (cond (not (c.sent == c.acked + 1)) (Err NotEnabled)
            (cond (c.acked + 1 == n)
            (silently Nothing (source_state bytes lengths (suc done) (start + n) (record c { sent = 0; acked = 0 })))
            (silently Nothing (source_state bytes lengths done start (record c { acked = c.acked + 1 })))))
        by (inl e) =
            rw (eq-eqb c.sent (c.acked + 1) e, eq-eqb (c.sent - c.acked) 1 (omega arith)) (one (c.acked + 1 == n) _ _)
        by (inr e) = rw (ne_eqb c.sent (c.acked + 1) e, ne_eqb (c.sent - c.acked) 1 (λ f. e (omega arith))) refl

    -- no byte waits for its acknowledge
    pub ack_none : (c.sent ≡ c.acked + 1 → ⊥) → happens (Ack 0) this ≡ Err NotEnabled
    ack_none other = ack_is ∙ rw (ne_eqb c.sent (c.acked + 1) other) refl

    -- a byte before the last is acknowledged
    pub ack_byte : c.sent ≡ c.acked + 1 → (c.sent ≡ n → ⊥)
        → happens (Ack 0) this ≡ silently Nothing (source_state bytes lengths done start (record c { acked = c.sent }))
    ack_byte same other =
        ack_is
        ∙ rw (eq-eqb c.sent (c.acked + 1) same, ne_eqb (c.acked + 1) n (λ e. other (same ∙ e)))
        (ap (λ k. silently Nothing (source_state bytes lengths done start (record c { acked = k }))) (sym same))

    -- the last one is
    pub ack_last : c.sent ≡ c.acked + 1 → c.sent ≡ n → happens (Ack 0) this
        ≡ silently Nothing (source_state bytes lengths (done + 1) (start + n) (record c { sent = 0; acked = 0 }))
    ack_last same whole =
        ack_is
        ∙ rw (eq-eqb c.sent (c.acked + 1) same, eq-eqb (c.acked + 1) n (sym same ∙ whole))
        (ap (λ k. silently Nothing (source_state bytes lengths k (start + n) (record c { sent = 0; acked = 0 })))
        (let e : suc done ≡ done + 1 = omega arith in e))

  -- it does nothing else
  pub alone : (e : NodeEvent) → (e ≡ Send 0 → ⊥) → (e ≡ Ack 0 → ⊥) → happens e this ≡ Err NotEnabled
  alone = sends_alone this _ refl refl
