-- What the berths of a node do in a step, as the code has it.
use Rattle.std.proofs.Common.{◌≡◌, ◌≢◌, ◌<◌, ◌∙◌, ◌⊎◌, ℕ, zero, suc, inl, inr, ap, refl, subst, sym, arith, List}
use Rattle.std.proofs.Common.{[], ◌∷◌, ◌++◌, ◌+◌, Some, Contains, get_or, length}
use Rattle.std.specs.Prelude.{slice_get, slice_set}
use Rattle.std.proofs.lemmas.Bool.{cases_eq}
use Rattle.std.proofs.lemmas.List.{length_push, length-set}
use Rattle.std.proofs.lemmas.Option.{same_Some, slice_get_read, slice_get_within}
use Rattle.tclocks.proofs.Lists.{contains-first, contains-rest}
use Rattle.tcertify.specs.declared.node.Node.{Node}
use Rattle.tcertify.proofs.Keeping.{get_pushed}
use Rattle.tcertify.proofs.NodeOpening.{get_else}
use Rattle.tcertify.proofs.Places.{set_elsewhere, set_here}
use Rattle.tverdict.specs.declared.agent.Agent.{Agent}
use Rattle.tverdict.specs.declared.lodging.Lodging.{Lodging}
use Rattle.tverdict.specs.declared.machine.Machine.{Machine}
use Rattle.tverdict.specs.Lodging.{IsFirst, Lodges, LodgesAt}

-- what was read from a slice stands in the list that it is of
pub read_of : {X : Type 0} (xs ys : List X) (k : ℕ) (x : X) → ys ≡ xs → k < length ys → x ≡ get_or ys k x
    → slice_get xs k ≡ Some x
read_of xs ys k x same low e =
    subst (λ (zs : List _). slice_get zs k ≡ Some x) same (slice_get_read ys (length ys) k x refl low e)

-- one of one, and one of two
pub only_one : (n k : ℕ) → Contains (n ∷ []) k → n ≡ k
only_one n k (zero, low, e) = e
only_one n k (suc i, low, e) = absurd (omega (arith, low))

pub one_of_two : (n o k : ℕ) → Contains (n ∷ o ∷ []) k → (n ≡ k) ⊎ (o ≡ k)
one_of_two n o k (zero, low, e) = inl e
one_of_two n o k (suc zero, low, e) = inr e
one_of_two n o k (suc (suc i), low, e) = absurd (omega (arith, low))

-- the berths of a node follow a step
pub lodged_here : (number n : ℕ) (m now : Machine) (node : Node) (a : Agent) (old new : Lodging)
    → now ≡ record m { lodgings = now.lodgings } → now.lodgings.items ≡ slice_set m.lodgings.items n new
    → slice_get m.nodes.items n ≡ Some node → slice_get m.agents.items number ≡ Some a
    → slice_get m.lodgings.items n ≡ Some old → Lodges m.check number node a old new → LodgesAt number (n ∷ []) m now
lodged_here number n m now node a old new same set there named lodged lodges =
    record {
      same = same;
      many = ap length set ∙ length-set m.lodgings.items n new;
      others = λ k other. ap (λ (ls : List Lodging). slice_get ls k) set
          ∙ set_elsewhere m.lodgings.items n k new
          (λ e. other (subst (λ (j : ℕ). Contains (n ∷ []) j) e (contains-first n [])));
      here = λ k x b l among at is has.
          let e : n ≡ k = only_one n k among in
          let one : node ≡ x = same_Some node x (sym there ∙ ap (λ (j : ℕ). slice_get m.nodes.items j) e ∙ at) in
          let two : a ≡ b = same_Some a b (sym named ∙ is) in
          let three : old ≡ l =
          same_Some old l (sym lodged ∙ ap (λ (j : ℕ). slice_get m.lodgings.items j) e ∙ has) in (
            new,
            ap (λ (j : ℕ). slice_get now.lodgings.items j) (sym e)
                ∙ ap (λ (ls : List Lodging). slice_get ls n) set
                ∙ set_here m.lodgings.items n new old lodged,
            subst (λ (y : Node). Lodges m.check number y b l new) one
                (subst (λ (c : Agent). Lodges m.check number node c l new) two
                (subst (λ (z : Lodging). Lodges m.check number node a z new) three lodges)),
          );
    }

-- there is no such node
pub lodged_nowhere : (number n : ℕ) (m : Machine)
    → ((node : Node) (l : Lodging) → slice_get m.nodes.items n ≡ Some node → slice_get m.lodgings.items n ≡ Some l → ⊥)
    → LodgesAt number (n ∷ []) m m
lodged_nowhere number n m none =
    record {
      same = refl;
      many = refl;
      others = λ k other. refl;
      here = λ k x b l among at is has.
          let e : k ≡ n = sym (only_one n k among) in
          absurd (none x l (ap (λ (j : ℕ). slice_get m.nodes.items j) (sym e) ∙ at)
          (ap (λ (j : ℕ). slice_get m.lodgings.items j) (sym e) ∙ has));
    }

-- two nodes, one after the other
module _ (number n o : ℕ) (a b c : Machine) (first : LodgesAt number (n ∷ []) a b) where
  -- they are one
  pub lodged_once : o ≡ n → LodgesAt number (n ∷ o ∷ []) a b
  lodged_once same =
      record {
        same = first.same;
        many = first.many;
        others = λ k other. first.others k (λ has. other (subst (λ (j : ℕ). Contains (n ∷ o ∷ []) j)
            (only_one n k has) (contains-first n (o ∷ []))));
        here = λ k x y l among. first.here k x y l (elim (one_of_two n o k among) [
          | inl e ↦ subst (λ (j : ℕ). Contains (n ∷ []) j) e (contains-first n [])
          | inr e ↦ subst (λ (j : ℕ). Contains (n ∷ []) j) (sym same ∙ e) (contains-first n [])
        ]);
      }

  module _ (second : LodgesAt number (o ∷ []) b c) (differ : o ≢ n) where
    same_all : c ≡ record a { lodgings = c.lodgings }
    same_all =
        second.same ∙ ap (λ (m : Machine). record m { lodgings = c.lodgings }) first.same

    not_first : (k : ℕ) → n ≡ k → Contains (o ∷ []) k → ⊥
    not_first k e has = differ (only_one o k has ∙ sym e)

    not_second : (k : ℕ) → o ≡ k → Contains (n ∷ []) k → ⊥
    not_second k e has = differ (e ∙ sym (only_one n k has))

    pub lodged_twice : LodgesAt number (n ∷ o ∷ []) a c
    lodged_twice =
        record {
          same = same_all;
          many = second.many ∙ first.many;
          others = λ k other.
              second.others k (λ has. other (subst (λ (j : ℕ). Contains (n ∷ o ∷ []) j)
              (only_one o k has) (contains-rest n (o ∷ []) o (contains-first o []))))
              ∙ first.others k (λ has. other (subst (λ (j : ℕ). Contains (n ∷ o ∷ []) j)
              (only_one n k has) (contains-first n (o ∷ []))));
          here = λ k x y l among at is has. elim (one_of_two n o k among) [
            | inl e ↦
                let (m, new, lodges) = first.here k x y l
                (subst (λ (j : ℕ). Contains (n ∷ []) j) e (contains-first n [])) at is has in
                (m, second.others k (not_first k e) ∙ new, lodges)
            | inr e ↦
                let (m, new, lodges) = second.here k x y l
                (subst (λ (j : ℕ). Contains (o ∷ []) j) e (contains-first o []))
                (ap (λ (z : Machine). slice_get z.nodes.items k) first.same ∙ at)
                (ap (λ (z : Machine). slice_get z.agents.items number) first.same ∙ is)
                (first.others k (not_second k e) ∙ has) in (
                  m,
                  new,
                  subst (λ d. Lodges d number x y l m) (ap (λ (z : Machine). z.check) first.same) lodges,
                )
          ];
        }

-- the first of the nodes have their lodgings
pub record AreFirstBefore (nodes : List Node) (lodgings : List Lodging) (count : ℕ) : Type 0 where
  pub many : length lodgings ≡ count
  pub each : (n : ℕ) (node : Node) (l : Lodging) → slice_get nodes n ≡ Some node → slice_get lodgings n ≡ Some l
      → IsFirst node l

pub none_first : (nodes : List Node) (lodgings : List Lodging) → lodgings ≡ [] → AreFirstBefore nodes lodgings 0
none_first nodes lodgings none =
    record {
      many = ap length none;
      each = λ n node l at has.
          let low = slice_get_within lodgings n l has in absurd (omega (arith, low, ap length none));
    }

pub first_more : (nodes : List Node) (old new : List Lodging) (count : ℕ) (node : Node) (l : Lodging)
    → AreFirstBefore nodes old count → slice_get nodes count ≡ Some node → IsFirst node l → new ≡ old ++ l ∷ []
    → AreFirstBefore nodes new (count + 1)
first_more nodes old new count node l before there first more =
    record {
      many = ap length more ∙ length_push old l ∙ ap (λ (k : ℕ). k + 1) before.many;
      each = λ n x m at has. elim (cases_eq (length old) n) [
        | inl e ↦
            let one : node ≡ x =
            same_Some node x (sym there ∙ ap (λ (k : ℕ). slice_get nodes k) (sym before.many ∙ e) ∙ at) in
            let two : l ≡ m =
            same_Some l m (sym (get_pushed old l) ∙ ap (λ (k : ℕ). slice_get (old ++ l ∷ []) k) e
            ∙ ap (λ (ls : List Lodging). slice_get ls n) (sym more) ∙ has) in
            subst (λ (y : Node). IsFirst y m) one (subst (λ (k : Lodging). IsFirst node k) two first)
        | inr other ↦
            before.each n x m at
            (sym (get_else old l n other) ∙ ap (λ (ls : List Lodging). slice_get ls n) (sym more) ∙ has)
      ];
    }
