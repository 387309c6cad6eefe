-- What a sink does at each event.
use Rattle.std.proofs.Common.{◌≡◌, ◌∙◌, ℕ, zero, suc, ◌+◌, ◌-◌, ◌<◌, ◌≤◌, refl, sym, ap, List, [], ◌∷◌, ◌++◌, length}
use Rattle.std.proofs.Common.{take, drop, set, length-set, length-drop, Bool, true, false, not, Option, Some, None}
use Rattle.std.proofs.Common.{Err, ◌⊎◌, inl, inr, arith}
use Rattle.std.specs.Prelude.{sum, nat_lt, is_some, is_none}
use Rattle.std.proofs.lemmas.Bool.{cases_lt, lt-ltb, le-ltb}
use Rattle.std.proofs.lemmas.List.{take_all}
use Rattle.std.proofs.Math.Seq.{take-suc-set}
use Rattle.tword.specs.Words.{most_neg}
use Rattle.tword.specs.Stores.{Store, as_cells, with_cells, shown}
use Rattle.tproc.specs.declared.offer.Offer.{Offer}
use Rattle.tlink.specs.declared.counts.Arrival.{Arrival}
use Rattle.tlink.specs.declared.counts.Counts.{Counts}
use Rattle.tlink.specs.declared.event.Mark.TheVariants.{Nothing, Completed}
use Rattle.tlink.specs.declared.event.NodeEvent.{NodeEvent}
use Rattle.tlink.specs.declared.event.NodeEvent.TheVariants.{Data, Take}
use Rattle.tlink.specs.declared.event.Packet.TheVariants as packet
use Rattle.tlink.specs.declared.event.StepFault.TheVariants.{NotEnabled}
use Rattle.tlink.specs.Node.{NodeState}
use Rattle.tlink.specs.Events.{happens, silently, emitting, take_marked, is_node_done}
use Rattle.tlink.specs.Scripts.{sink_state, kept_part, cut}
use Rattle.tlink.proofs.Alone.{takes_alone}

-- a byte is set among those that became cells
cell_set : (bytes : List ℕ) (i b : ℕ) → i < length bytes
    → take i (as_cells bytes) ++ as_cells (b ∷ []) ++ drop (suc i) (as_cells bytes) ≡ as_cells (set bytes i b)
cell_set [] i b h = absurd (omega (arith, h))
cell_set (x ∷ xs) zero b h = refl
cell_set (x ∷ xs) (suc i) b h = ap (λ (s : Store). Some x ∷ s) (cell_set xs i b (omega (arith, h)))

-- cells of bytes show these
pub shown_cells : (bytes : List ℕ) → shown (as_cells bytes) ≡ bytes
shown_cells [] = refl
shown_cells (b ∷ bs) = ap (λ (xs : List ℕ). b ∷ xs) (shown_cells bs)

-- whether a byte waits
pub none_told : (x : Option Arrival) (b : Bool) → is_some x ≡ not b → b ≡ is_none x
none_told None true h = refl
none_told None false h = cc
none_told (Some a) true h = cc
none_told (Some a) false h = refl

pub none_is : (x : Option Arrival) → is_some x ≡ false → x ≡ None
none_is None h = refl
none_is (Some a) h = cc

pub some_is : (x : Option Arrival) → is_some x ≡ true → (a : Arrival) × (x ≡ Some a)
some_is None h = cc
some_is (Some a) h = (a, refl)

module _ (bytes lengths : List ℕ) (kept : ℕ) (c : Counts) where
  abbrev pub this : NodeState
  this = sink_state bytes lengths kept c

  -- a byte comes where none waits
  pub data_full : (byte : ℕ) (last : Bool) (a : Arrival) → c.arrived ≡ Some a
      → happens (Data 0 byte last) this ≡ Err NotEnabled
  unfolding happens
  data_full byte last a h = rw h refl

  pub data_comes : (byte : ℕ) (last : Bool) → c.arrived ≡ None → happens (Data 0 byte last) this
      ≡ silently Nothing
      (sink_state bytes lengths kept (record c { arrived = Some (record { byte = byte; last = last }) }))
  unfolding happens
  data_comes byte last h = rw h refl

  -- the tests of Data and Take
  pub data_told : (byte : ℕ) (last : Bool) → is_none c.arrived ≡ is_node_done (happens (Data 0 byte last) this)
  unfolding happens
  data_told byte last = by c.arrived refl
    where
      by : (x : Option Arrival) → c.arrived ≡ x → is_none x ≡ is_node_done (happens (Data 0 byte last) this)
      by None e = rw e refl
      by (Some a) e = rw e refl

  -- without a byte that waits there is nothing to take
  pub take_none : c.arrived ≡ None → happens (Take 0) this ≡ Err NotEnabled
  unfolding happens
  take_none h = rw h refl

  module _ (a : Arrival) (h : c.arrived ≡ Some a) where
    -- nor without room
    pub take_full : length bytes ≤ kept + c.got → happens (Take 0) this ≡ Err NotEnabled
    unfolding happens
    take_full past =
        let f : nat_lt c.got (length bytes - kept) ≡ false = le-ltb c.got (length bytes - kept) (omega arith) in
        rw (h, f) refl

    pub take_told : kept ≤ length bytes → nat_lt (kept + c.got) (length bytes) ≡ is_node_done (happens (Take 0) this)
    unfolding happens
    take_told within = by (cases_lt c.got (length bytes - kept))
      where
        done : (b : Bool) (o : Offer) (d : Counts) (n : NodeState) → true ≡ is_node_done (take_marked 0 b b a.byte o d
            n)
        done true o d n = refl
        done false o d n = refl

        by : (c.got < length bytes - kept) ⊎ (length bytes - kept ≤ c.got)
            → nat_lt (kept + c.got) (length bytes) ≡ is_node_done (happens (Take 0) this)
        by (inl b) =
            let f : nat_lt c.got (length bytes - kept) ≡ true = lt-ltb c.got (length bytes - kept) b in
            let g : nat_lt (kept + c.got) (length bytes) ≡ true = lt-ltb (kept + c.got) (length bytes) (omega arith) in
            rw (h, f, g) (done a.last _ _ _)
        by (inr b) =
            let f : nat_lt c.got (length bytes - kept) ≡ false = le-ltb c.got (length bytes - kept) b in
            let g : nat_lt (kept + c.got) (length bytes) ≡ false = le-ltb (kept + c.got) (length bytes) (omega arith)
            in
            rw (h, f, g) refl

    module _ (more : kept + c.got < length bytes) where
      room : nat_lt c.got (length bytes - kept) ≡ true
      room = lt-ltb c.got (length bytes - kept) (omega arith)

      -- the byte goes behind what was got
      put : with_cells (as_cells bytes) (most_neg + kept + c.got) (as_cells (a.byte ∷ []))
          ≡ as_cells (set bytes (kept + c.got) a.byte)
      put =
          let at : most_neg + kept + c.got - most_neg ≡ kept + c.got = omega arith in
          let one : kept + c.got + 1 ≡ suc (kept + c.got) = omega arith in
          rw (at, one) (cell_set bytes (kept + c.got) a.byte more)

      size : length (set bytes (kept + c.got) a.byte) ≡ length bytes
      size = length-set bytes (kept + c.got) a.byte

      -- a byte before the last is taken
      pub take_byte : a.last ≡ false → happens (Take 0) this
          ≡ emitting 0 packet.Ack Nothing
          (sink_state (set bytes (kept + c.got) a.byte) lengths kept (record c { got = c.got + 1; arrived = None }))
      unfolding happens
      take_byte e = rw (h, room, e, put, size) refl

      -- the last one is
      pub take_last : a.last ≡ true → happens (Take 0) this
          ≡ emitting 0 packet.Ack (Completed 0)
          (sink_state (set bytes (kept + c.got) a.byte) (lengths ++ (c.got + 1) ∷ []) (kept + c.got + 1)
          (record c { got = 0; arrived = None }))
      unfolding happens
      take_last e =
          let at : most_neg + kept + (c.got + 1) ≡ most_neg + (kept + c.got + 1) = omega arith in
          let rest : length bytes - kept - (c.got + 1) ≡ length bytes - (kept + c.got + 1) = omega arith in
          rw (h, room, e, put, size, at, rest) refl

  -- it does nothing else
  pub alone : (e : NodeEvent) → ((byte : ℕ) (last : Bool) → e ≡ Data 0 byte last → ⊥) → (e ≡ Take 0 → ⊥)
      → happens e this ≡ Err NotEnabled
  alone = takes_alone this _ refl refl refl

-- the lengths behind one more message
pub length_kept : (lengths : List ℕ) (messages n : ℕ) → messages < length lengths
    → take (messages + 1) (set lengths messages n) ≡ take messages lengths ++ n ∷ []
length_kept lengths messages n b =
    let one : messages + 1 ≡ suc messages = omega arith in rw one (take-suc-set lengths messages n b)

-- the part that a sink has of the next message
pub part_is : (bytes lengths : List ℕ) (kept : ℕ) (c : Counts) → sum lengths ≡ kept
    → take c.got (take (length bytes - kept) (drop kept bytes)) ≡ kept_part (sink_state bytes lengths kept c)
part_is bytes lengths kept c all =
    let whole : take (length bytes - kept) (drop kept bytes) ≡ drop kept bytes =
    take_all (length bytes - kept) (drop kept bytes) (omega (arith, length-drop kept bytes)) in
    rw (whole, all, shown_cells bytes) refl

pub part_all : (bytes lengths : List ℕ) (kept : ℕ) (c : Counts) → sum lengths ≡ kept
    → length (take (length bytes - kept) (drop kept bytes)) ≤ c.got
    → take (length bytes - kept) (drop kept bytes) ≡ kept_part (sink_state bytes lengths kept c)
part_all bytes lengths kept c all past =
    sym (take_all c.got (take (length bytes - kept) (drop kept bytes)) past) ∙ part_is bytes lengths kept c all

-- as many messages are cut as there are lengths
pub length-cut : (lengths bytes : List ℕ) → length (cut lengths bytes) ≡ length lengths
length-cut [] bytes = refl
length-cut (n ∷ ns) bytes = ap suc (length-cut ns (drop n bytes))
