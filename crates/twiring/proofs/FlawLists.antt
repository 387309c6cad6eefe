-- What keeps a text from being a wiring, piece by piece.
use Rattle.std.proofs.Common.{◌≡◌, ◌≢◌, inl, inr, ℕ, ◌+◌, ◌<◌, ◌≤◌, refl, sym, ap, ◌∙◌, List, [], ◌∷◌, ◌++◌}
use Rattle.std.proofs.Common.{length, get_or, drop, add-one, append_assoc, append-nil, drop-cons, Err, String, Global}
use Rattle.std.proofs.Common.{string_bytes, Bool}
use Rattle.std.proofs.Math.ListN.{drop_of_length-le}
use Rattle.std.specs.Prelude.{OnOk, Result, Ok}
use Rattle.std.specs.Map.{keys_of}
use Rattle.toml.specs.View.{view, items_view, members_view}
use Rattle.toml.specs.declared.value.Value.{Value}
use Rattle.tplan.specs.declared.wiring.WiringFault.TheVariants.{OutOfMemory}
use Rattle.twiring.specs.declared.flaws.Part.{Part}
use Rattle.twiring.specs.declared.flaws.Key.{Key}
use Rattle.twiring.specs.declared.flaws.Entry.{Entry}
use Rattle.twiring.specs.declared.flaws.TextFlaw.{TextFlaw}
use Rattle.twiring.specs.Flaws.{item_flaws, items_flaws, key_flaws, part_of, unknown_flaw, unknown_flaws}
use Rattle.twiring.specs.WiringParts.{Reading}
use Rattle.twiring.specs.Wirings.{IsWiringAnswer, Names}

-- what was found of the keys of a list that are none of these
abbrev pub unknown_of : Part → Names → List (String Global) → List TextFlaw
unknown_of p names [] = []
unknown_of p names (k ∷ ks) = unknown_flaw p names (string_bytes k) ++ unknown_of p names ks

pub unknown-keys : (p : Part) (names : Names) (es : List (String Global × Value))
    → unknown_flaws p names (members_view es) ≡ unknown_of p names (keys_of es)
unknown-keys p names [] = refl
unknown-keys p names (e ∷ es) =
    ap (λ (fs : List TextFlaw). unknown_flaw p names (string_bytes e.0) ++ fs) (unknown-keys p names es)

-- one more piece of a whole, of which some is left
pub found_more : (old now new here left rest all : List TextFlaw) → now ++ left ≡ old ++ all → left ≡ here ++ rest
    → new ≡ now ++ here → new ++ rest ≡ old ++ all
found_more old now new here left rest all so_far split one =
    ap (λ (l : List TextFlaw). l ++ rest) one ∙ append_assoc now here rest
    ∙ ap (λ (l : List TextFlaw). now ++ l) (sym split) ∙ so_far

-- nothing is left of a whole
pub found_all : (old now left all : List TextFlaw) → now ++ left ≡ old ++ all → left ≡ [] → now ≡ old ++ all
found_all old now left all so_far none =
    sym (append-nil now) ∙ ap (λ (l : List TextFlaw). now ++ l) (sym none) ∙ so_far

-- the values of an array from one of them on
pub items_next : (first : Bool) (e : Entry) (k : ℕ) (vs : List Value) (v : Value) → k < length vs → v ≡ get_or vs k v
    → items_flaws first e k (items_view (drop k vs))
    ≡ item_flaws first e (part_of e k) (view v) ++ items_flaws first e (k + 1) (items_view (drop (k + 1) vs))
items_next first e k vs v l is =
    rw (add-one k) (ap (λ (us : List Value). items_flaws first e k (items_view us)) (drop-cons vs k v l))
    ∙ ap (λ (u : Value). item_flaws first e (part_of e k) (view u)
    ++ items_flaws first e (k + 1) (items_view (drop (k + 1) vs))) (sym is)

pub items_end : (first : Bool) (e : Entry) (k : ℕ) (vs : List Value) → length vs ≤ k
    → items_flaws first e k (items_view (drop k vs)) ≡ []
items_end first e k vs l =
    ap (λ (us : List Value). items_flaws first e k (items_view us)) (drop_of_length-le vs l)

-- what is not lack of memory is what is told
pub told_flaws : {A : Type 0} (p : Part) (k : Key) (told answer : Reading A) → IsWiringAnswer told answer
    → answer ≢ Err OutOfMemory → key_flaws p k answer ≡ key_flaws p k told
told_flaws p k told answer (inl e) other = absurd (other e)
told_flaws p k told answer (inr e) other = ap (key_flaws p k) e

-- two facts of an answer give a third
pub on_both : {T E : Type 0} {P Q R : Type 0} (r : Result T E) → OnOk r P → OnOk r Q → (P → Q → R) → OnOk r R
on_both (Ok x) p q f = f p q
on_both (Err e) p q f = tt
