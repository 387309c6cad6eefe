-- Nothing is wrong with holds just where rounds do not refuse them.
use Rattle.std.proofs.Common.{◌≡◌, ℕ, ◌<◌, ◌≤◌, refl, sym, ◌∙◌, List, [], length, Bool, true, false, not, ◌&&◌}
use Rattle.std.proofs.Common.{Option, Some, None, All, is_some, arith}
use Rattle.std.specs.Prelude.{position, nat_le, nat_lt, if◌then◌else◌}
use Rattle.std.proofs.lemmas.Bool.{ltb-false}
use Rattle.std.proofs.lemmas.List.Quantifiers.{position-Some}
use Rattle.tword.specs.Limits.{most_holds}
use Rattle.tplan.specs.declared.event.Hold.{Hold}
use Rattle.tplan.specs.declared.event.PacketKind.TheVariants.{Data}
use Rattle.tnet.specs.Net.{NetState}
use Rattle.tplan.specs.Wires.{far_end}
use Rattle.tnet.proofs.FirstFaults.{no_position, position_none}
use Rattle.trounds.specs.Rounds.{bad_hold, is_good_hold}
use Rattle.tcheck.specs.HoldWrongs.{NoHoldIsRefused, one_hold_wrongs}
use Rattle.tcheck.proofs.Nothing.{all_each, both_nil, each_all, if_nil, nil_both, nil_if}

both_good : (a b : Bool) → not a ≡ false → not b ≡ false → not (a && b) ≡ false
both_good true true h g = refl
both_good true false h g = cc
both_good false b h g = cc

good_both : (a b : Bool) → not (a && b) ≡ false → (not a ≡ false) × (not b ≡ false)
good_both true true h = (refl, refl)
good_both true false h = cc
good_both false b h = cc

-- a hold that rounds do not refuse
abbrev IsFineHold : NetState → Hold → Type 0
IsFineHold net h = not (is_good_hold net h) ≡ false

hold_nil : (net : NetState) (k : ℕ) (h : Hold) → one_hold_wrongs net.wires k h ≡ []
    → not (is_good_hold net h) ≡ false
hold_nil net k h e =
    let both = both_nil _ _ e in
    both_good _ _ (if_nil _ _ _ both.0) (if_nil _ _ _ both.1)

nil_hold : (net : NetState) (k : ℕ) (h : Hold) → not (is_good_hold net h) ≡ false
    → one_hold_wrongs net.wires k h ≡ []
nil_hold net k h e =
    let both = good_both (is_some (far_end net.wires h.«end»)) (nat_le h.from h.until) e in
    nil_both _ _ (nil_if _ _ _ both.0) (nil_if _ _ _ both.1)

-- the first hold too many, and the first bad one
abbrev beyond : List Hold → Option ℕ
beyond holds = if nat_lt most_holds (length holds) then Some most_holds else None

abbrev first : List Hold → Option ℕ → Option ℕ
first holds None = beyond holds
first holds (Some k) = if nat_lt k most_holds then Some k else beyond holds

bad_is_first : (net : NetState) (holds : List Hold) (o : Option ℕ)
    → position (λ h. not (is_good_hold net h)) holds ≡ o → bad_hold net holds ≡ first holds o
bad_is_first net holds None e = rw e refl
bad_is_first net holds (Some k) e = rw e refl

if_none : (b : Bool) (k : ℕ) (o : Option ℕ) → (if b then Some k else o) ≡ None → (b ≡ false) × (o ≡ None)
if_none false k o h = (refl, h)
if_none true k o h = cc

none_if : (b : Bool) (k : ℕ) (o : Option ℕ) → b ≡ false → o ≡ None → (if b then Some k else o) ≡ None
none_if b k o p q = rw p q

-- there are few holds, and each is good
record AreFine (net : NetState) (holds : List Hold) : Type 0 where
  pub few : nat_lt most_holds (length holds) ≡ false
  pub good : All (λ h. not (is_good_hold net h) ≡ false) holds

not_bad : (net : NetState) (holds : List Hold) → bad_hold net holds ≡ None → AreFine net holds
not_bad net holds h = by (position (λ h. not (is_good_hold net h)) holds) refl
  where
    by : (o : Option ℕ) → position (λ h. not (is_good_hold net h)) holds ≡ o → AreFine net holds
    by None e =
        let none : beyond holds ≡ None = sym (bad_is_first net holds None e) ∙ h in
        record {
          few = (if_none _ _ _ none).0;
          good = no_position (λ h. not (is_good_hold net h)) holds e;
        }
    by (Some k) e =
        let d : Hold = record { «end» = record { node = 0; link = 0 }; kind = Data; from = 0; until = 0 } in
        let both = if_none (nat_lt k most_holds) k (beyond holds) (sym (bad_is_first net holds (Some k) e) ∙ h) in
        let late : most_holds ≤ k = ltb-false k most_holds both.0 in
        let few : length holds ≤ most_holds = ltb-false most_holds (length holds) (if_none _ _ _ both.1).0 in
        let within : k < length holds = (position-Some (λ h. not (is_good_hold net h)) holds k d e).0 in
        absurd (omega (arith, late, few, within))

are_fine : (net : NetState) (holds : List Hold) → AreFine net holds → bad_hold net holds ≡ None
are_fine net holds fine =
    bad_is_first net holds None (position_none (λ h. not (is_good_hold net h)) holds fine.good)
    ∙ none_if (nat_lt most_holds (length holds)) most_holds None fine.few refl

pub no_hold_is_refused : (holds : List Hold) → NoHoldIsRefused holds
no_hold_is_refused holds net = (
  λ h.
      let both = both_nil _ _ h in
      are_fine net holds (record {
        few = if_nil _ _ _ both.0;
        good = each_all (one_hold_wrongs net.wires) (λ h. not (is_good_hold net h) ≡ false)
            (hold_nil net) 0 holds both.1;
      }),
  λ h.
      let fine = not_bad net holds h in
      nil_both _ _ (nil_if _ _ _ fine.few)
      (all_each (one_hold_wrongs net.wires) (λ h. not (is_good_hold net h) ≡ false) (nil_hold net) 0 holds fine.good),
)
