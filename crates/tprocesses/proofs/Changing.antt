-- Changes of kinds that commute have the same result in both orders, and what a change awakens was shut.
use Rattle.std.proofs.Common.{◌≡◌, ℕ, refl, sym, ap, ◌∙◌, Bool, true, false, true≢false}
use lib.IntN.{+ℤ_comm, +ℤ_assoc}
use Rattle.std.specs.Prelude.{ℤ, ◌+ℤ◌, ◌&&◌, is_some}
use Rattle.std.proofs.lemmas.Bool.{eqb-true}
use Rattle.tword.specs.Stores.{Store}
use Rattle.tplan.specs.declared.plan.Plan.{Plan}
use Rattle.tprocesses.specs.Places.{Place, LinkHalf, Messages, Kept}
use Rattle.tprocesses.specs.Values.{Use, Free, Saved, Receiving, Engaged, Choosing}
use Rattle.tprocesses.specs.Values.{Awaiting, Last, Spoilt, Word, Value, IsWord}
use Rattle.tprocesses.specs.Values.{IsStand, IsHalf, IsLink, IsFlag, IsAmount, IsCount, ArePorts, AreMessages, AreKept}
use Rattle.tprocesses.specs.Changes.{Change, Engage, Decrement, Add, Raise, apply, kind_of, commute, awakens}
use Rattle.tprocesses.specs.Changes.{engaged, decremented, is_last}
use Rattle.tprocesses.specs.Machine.{Agent, Process, Channel, Wire, Successor, awaits_successor, sender_to}
use Rattle.tprocesses.specs.Machine.{is_passable, is_open}

and_false : (x : Bool) → (x && false) ≡ false
and_false true = refl
and_false false = refl

twice : (y x z : ℤ) → y +ℤ x +ℤ z ≡ y +ℤ z +ℤ x
twice y x z = +ℤ_assoc y x z ∙ ap (λ (k : ℤ). y +ℤ k) (+ℤ_comm x z) ∙ sym (+ℤ_assoc y z x)

add_twice : (z x : ℤ) (v : Value) → apply (Add z) (apply (Add x) v) ≡ apply (Add x) (apply (Add z) v)
add_twice z x (IsAmount y) = ap IsAmount (twice y x z)
add_twice z x (IsWord w) = refl
add_twice z x (IsStand s) = refl
add_twice z x (IsHalf h) = refl
add_twice z x (IsLink l) = refl
add_twice z x (IsFlag b) = refl
add_twice z x (IsCount n) = refl
add_twice z x (ArePorts channels) = refl
add_twice z x (AreMessages m) = refl
add_twice z x (AreKept r m) = refl

pub changes_commute : (c d : Change) (v : Value) → commute (kind_of c) (kind_of d) ≡ true
    → apply c (apply d v) ≡ apply d (apply c v)
changes_commute Engage Engage v h = refl
changes_commute (Decrement p) (Decrement q) v h =
    let e : p ≡ q = eqb-true p q h in
    ap (λ x. apply (Decrement x) (apply (Decrement q) v)) e
    ∙ ap (λ x. apply (Decrement q) (apply (Decrement x) v)) (sym e)
changes_commute (Add z) (Add x) v h = add_twice z x v
changes_commute Raise Raise v h = refl
changes_commute _ _ v h = absurd (true≢false (sym h))

-- only a word that awaits no successor is counted down to the last
pub counted_from : (priority : ℕ) (u : Use) (cells : Store) → is_last (decremented priority u cells).used ≡ true
    → awaits_successor u ≡ false
counted_from priority Free cells h = refl
counted_from priority Saved cells h = refl
counted_from priority Receiving cells h = refl
counted_from priority Engaged cells h = refl
counted_from priority Choosing cells h = refl
counted_from priority Awaiting cells h = refl
counted_from priority (Last p) cells h = absurd (true≢false (sym h))
counted_from priority Spoilt cells h = absurd (true≢false (sym h))

pub shut_wire : (x y : Bool) → y ≡ false → (x && y) ≡ false
shut_wire x y h = ap (λ t. x && t) h ∙ and_false x

word_stops_wires : (q : Place) (w : Word) → is_passable q (IsWord w) ≡ false
word_stops_wires (LinkHalf e s) w = refl
word_stops_wires (Messages e) w = refl
word_stops_wires (Kept e) w = refl
word_stops_wires _ w = refl

amount_stops_wires : (q : Place) (z : ℤ) → is_passable q (IsAmount z) ≡ false
amount_stops_wires (LinkHalf e s) z = refl
amount_stops_wires (Messages e) z = refl
amount_stops_wires (Kept e) z = refl
amount_stops_wires _ z = refl

flag_stops_wires : (q : Place) (t : Bool) → is_passable q (IsFlag t) ≡ false
flag_stops_wires (LinkHalf e s) t = refl
flag_stops_wires (Messages e) t = refl
flag_stops_wires (Kept e) t = refl
flag_stops_wires _ t = refl

-- a word that awaits no successor opens no gate
pub word_shut : (p : Plan) (b : Agent) (q : Place) (w : Word) → awaits_successor w.used ≡ false
    → is_open p b q (IsWord w) ≡ false
word_shut p (Process x) q w h = refl
word_shut p (Channel n c) q w h = refl
word_shut p (Wire e) q w h = shut_wire (is_some (sender_to p e)) _ (word_stops_wires q w)
word_shut p (Successor n k) q w h = h

pub what_awakes_was_shut : (p : Plan) (c : Change) (b : Agent) (q : Place) (v : Value)
    → awakens c (apply c v) ≡ true → is_open p b q v ≡ false
what_awakes_was_shut p (Decrement r) b q (IsWord w) h = word_shut p b q w (counted_from r w.used w.cells h)
what_awakes_was_shut p _ b q _ h = absurd (true≢false (sym h))

-- a change that is no `Put` shuts no gate: a spoilt word stays open to its successor
is_spoilt : (p : Plan) (b : Agent) (q : Place) (w : Word) (new : Use → Store → Word) → is_open p b q (IsWord w) ≡ true
    → ((u : Use) (cells : Store) → awaits_successor u ≡ true → awaits_successor (new u cells).used ≡ true)
    → is_open p b q (IsWord (new w.used w.cells)) ≡ true
is_spoilt p (Process x) q w new is keeps = is
is_spoilt p (Channel n c) q w new is keeps = is
is_spoilt p (Wire e) q w new is keeps =
    absurd (true≢false (sym is ∙ shut_wire (is_some (sender_to p e)) _ (word_stops_wires q w)))
is_spoilt p (Successor n k) q w new is keeps = keeps w.used w.cells is

engaged_stays : (u : Use) (cells : Store) → awaits_successor u ≡ true → awaits_successor (engaged u cells).used ≡ true
engaged_stays Free cells h = absurd (true≢false (sym h))
engaged_stays Saved cells h = refl
engaged_stays Receiving cells h = refl
engaged_stays Engaged cells h = h
engaged_stays Choosing cells h = refl
engaged_stays Awaiting cells h = refl
engaged_stays (Last p) cells h = refl
engaged_stays Spoilt cells h = refl

decremented_stays : (r : ℕ) (u : Use) (cells : Store) → awaits_successor u ≡ true
    → awaits_successor (decremented r u cells).used ≡ true
decremented_stays r Free cells h = absurd (true≢false (sym h))
decremented_stays r Saved cells h = refl
decremented_stays r Receiving cells h = refl
decremented_stays r Engaged cells h = refl
decremented_stays r Choosing cells h = refl
decremented_stays r Awaiting cells h = refl
decremented_stays r (Last p) cells h = refl
decremented_stays r Spoilt cells h = refl

pub engage_stays_open : (p : Plan) (b : Agent) (q : Place) (v : Value) → is_open p b q v ≡ true
    → is_open p b q (apply Engage v) ≡ true
engage_stays_open p b q (IsWord w) h = is_spoilt p b q w engaged h engaged_stays
engage_stays_open p b q _ h = h

pub decrement_stays_open : (p : Plan) (r : ℕ) (b : Agent) (q : Place) (v : Value) → is_open p b q v ≡ true
    → is_open p b q (apply (Decrement r) v) ≡ true
decrement_stays_open p r b q (IsWord w) h = is_spoilt p b q w (decremented r) h (decremented_stays r)
decrement_stays_open p r b q _ h = h

-- numbers and flags are no gates
amount_shut : (p : Plan) (b : Agent) (q : Place) (z : ℤ) → is_open p b q (IsAmount z) ≡ false
amount_shut p (Process x) q z = refl
amount_shut p (Channel n c) q z = refl
amount_shut p (Wire e) q z = shut_wire (is_some (sender_to p e)) _ (amount_stops_wires q z)
amount_shut p (Successor n k) q z = refl

flag_shut : (p : Plan) (b : Agent) (q : Place) (t : Bool) → is_open p b q (IsFlag t) ≡ false
flag_shut p (Process x) q t = refl
flag_shut p (Channel n c) q t = refl
flag_shut p (Wire e) q t = shut_wire (is_some (sender_to p e)) _ (flag_stops_wires q t)
flag_shut p (Successor n k) q t = refl

pub add_stays_open : (p : Plan) (z : ℤ) (b : Agent) (q : Place) (v : Value) → is_open p b q v ≡ true
    → is_open p b q (apply (Add z) v) ≡ true
add_stays_open p z b q (IsAmount x) h = absurd (true≢false (sym h ∙ amount_shut p b q x))
add_stays_open p z b q _ h = h

pub raise_stays_open : (p : Plan) (b : Agent) (q : Place) (v : Value) → is_open p b q v ≡ true
    → is_open p b q (apply Raise v) ≡ true
raise_stays_open p b q (IsFlag t) h = absurd (true≢false (sym h ∙ flag_shut p b q t))
raise_stays_open p b q _ h = h
