-- What is seen of a ring where its other end is at hand.
use Rattle.std.proofs.Common.{◌≡◌, ℕ, ◌+◌, ◌<◌, arith, length, nat_lt, Bool, true, refl, sym, ap, ◌∙◌, List, ◌∷◌}
use Rattle.std.proofs.Common.{◌++◌, get_or, Option, Some, None, false}
use Rattle.std.specs.Prelude.{option_map, MatchOption, IsTrue}
use Rattle.std.proofs.lemmas.Option.{same_Some}
use Rattle.std.proofs.lemmas.Bool.{lt-ltb}
use Rattle.tlink.specs.Node.{NodeState}
use Rattle.tlink.specs.Events.{is_node_enabled}
use Rattle.tfree.specs.declared.stamp.Sent.{Sent}
use Rattle.tfree.specs.Lists.{event_taking}
use Rattle.tfree.specs.Ends.{IsFront}
use Rattle.tfree.specs.Views.{InView, OutView}
use Rattle.tfree.specs.declared.steps.OwnLink.{OwnLink}
use Rattle.tfree.specs.Slots.{slot_at, map_slots}
use Rattle.tfree.specs.Steps.{AnswersRoom}
use Rattle.tfree.proofs.LinkSlots.{slot_found}
use Rattle.tfree.proofs.Slots.{same_place, same_rest, same_head}

module _ {A B : Type 0} (f : A → B) (ends : List (List (Option A))) (own : Option OwnLink) (p q : OwnLink)
    (row : List (Option A)) (slot : Option A) (o : B) (p_is : own ≡ Some p) (row_is : row ≡ get_or ends p.node row)
    (slot_is : slot ≡ get_or row p.link slot) (q_is : own ≡ Some q)
    (there : slot_at (map_slots f ends) q.node q.link ≡ Some o) where
  seen : option_map f slot ≡ Some o
  seen =
      slot_found f ends p.node p.link row slot row_is slot_is o
      (ap (λ (x : OwnLink). slot_at (map_slots f ends) x.node x.link) (sym (same_place own p q p_is q_is)) ∙ there)

  -- the end that stands at a link
  pub end_there : (end : A) → get_or row p.link slot ≡ Some end → o ≡ f end
  end_there end e = same_Some o (f end) (sym seen ∙ ap (option_map f) (slot_is ∙ e))

  -- none stands there
  pub none_there : get_or row p.link slot ≡ None → ⊥
  none_there e = let h : Some o ≡ None = sym seen ∙ ap (option_map f) (slot_is ∙ e) in cc

-- nothing was answered, so nothing is seen
pub none_seen : {A : Type 0} (r : Option A) (P : Type 0) (Q : A → Type 0) → MatchOption r P Q → r ≡ None → P
none_seen None P Q h e = h
none_seen (Some x) P Q h e = cc

-- the first packet that is seen is the first that was put and not taken
pub first_seen : (got seen put : List Sent) (front p : Sent) (rest : List Sent) → got ++ seen ≡ put → IsFront front seen
    → got ++ p ∷ rest ≡ put → front ≡ p
first_seen got seen put front p rest all first is =
    same_head front p first.0 rest (sym first.1 ∙ same_rest got seen (p ∷ rest) (all ∙ sym is))

-- so where its event is not enabled, none is due
pub none_enabled : (l : ℕ) (node : NodeState) (front p : Sent) → front ≡ p
    → is_node_enabled (event_taking l front.packet) node ≡ false
    → is_node_enabled (event_taking l p.packet) node ≡ false
none_enabled l node front p e h = ap (λ (s : Sent). is_node_enabled (event_taking l s.packet) node) (sym e) ∙ h

-- room with the other end at hand
pub room_there : (own : Option OwnLink) (o : OutView) (ins : List (List (Option InView))) (end : InView) (r : Bool)
    → r ≡ nat_lt (length o.put) (length end.got + 2)
    → ((q : OwnLink) (w : InView) → own ≡ Some q → slot_at ins q.node q.link ≡ Some w → w ≡ end)
    → AnswersRoom own (Some o) ins r
room_there own o ins end r e there =
    record {
      bare = λ e. cc;
      certain = λ b. less r e (omega (arith, b));
      exact = λ q x w is f at. e
          ∙ rw (there q w f at) (ap (λ (v : OutView). nat_lt (length v.put) (length end.got + 2)) (same_Some o x is));
    }
  where
    less : (r : Bool) → r ≡ nat_lt (length o.put) (length end.got + 2) → length o.put < length end.got + 2 → IsTrue r
    less true e b = refl
    less false e b = absurd (let h : nat_lt (length o.put) (length end.got + 2) ≡ true = lt-ltb _ _ b in cc)
