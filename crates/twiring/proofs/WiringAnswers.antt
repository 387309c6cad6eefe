-- What a reader may answer of a part, from what it may answer of the parts inside.
use Rattle.std.proofs.Common.{◌≡◌, ◌<◌, ◌≤◌, ◌⊎◌, inl, inr, refl, sym, ap, ap₂, ◌∙◌, Bool, true, false, not, ◌||◌, List}
use Rattle.std.proofs.Common.{[], ◌∷◌, ◌++◌, length, Some, Ok, Err, String, Global, string_bytes, arith, if◌then◌else◌}
use Rattle.std.proofs.lemmas.Option.{same_Some}
use Rattle.std.specs.List.{list_any}
use Rattle.std.specs.Map.{keys_of}
use Rattle.toml.specs.Data.{Data, array, Items, Members, as_array}
use Rattle.toml.specs.View.{view, items_view, members_view}
use Rattle.toml.specs.declared.value.Value.{Value}
use Rattle.tplan.specs.declared.wiring.WiringFault.{WiringFault}
use Rattle.tplan.specs.declared.wiring.WiringFault.TheVariants.{OutOfMemory, UnknownKey, WrongType}
use Rattle.twiring.specs.Wirings.{Names, is_one_of, has_unknown, IsWiringAnswer}
use Rattle.twiring.specs.WiringParts.{Reading, lower, both, made, known, one_more, more_in, end_in}

-- lack of memory is the lowest fault
lower-memory : (f : WiringFault) → lower OutOfMemory f ≡ OutOfMemory
lower-memory OutOfMemory = refl
lower-memory _ = refl

memory-lower : (f : WiringFault) → lower f OutOfMemory ≡ OutOfMemory
memory-lower OutOfMemory = refl
memory-lower _ = refl

both-memory : {A B : Type 0} (a : Reading A) → both {B = B} a (Err OutOfMemory) ≡ Err OutOfMemory
both-memory (Ok a) = refl
both-memory (Err f) = ap (λ (f : WiringFault). Err f) (memory-lower f)

memory-both : {A B : Type 0} (b : Reading B) → both {A = A} (Err OutOfMemory) b ≡ Err OutOfMemory
memory-both (Ok b) = refl
memory-both (Err f) = ap (λ (f : WiringFault). Err f) (lower-memory f)

-- what is told is an answer
pub answer-told : {A : Type 0} (told answer : Reading A) → answer ≡ told → IsWiringAnswer told answer
answer-told told answer e = inr e

pub answer-both : {A B : Type 0} (a x : Reading A) (b y : Reading B) (answer : Reading (A × B)) → IsWiringAnswer a x
    → IsWiringAnswer b y → answer ≡ both x y → IsWiringAnswer (both a b) answer
answer-both a x b y answer (inl h) k e = inl (e ∙ ap (λ x. both x y) h ∙ memory-both y)
answer-both a x b y answer (inr h) (inl k) e = inl (e ∙ ap (both x) k ∙ both-memory x)
answer-both a x b y answer (inr h) (inr k) e = inr (e ∙ ap₂ both h k)

pub answer-made : {A B : Type 0} (f : A → B) (a x : Reading A) → IsWiringAnswer a x
    → IsWiringAnswer (made f a) (made f x)
answer-made f a x (inl h) = inl (ap (made f) h)
answer-made f a x (inr h) = inr (ap (made f) h)

-- one more item
pub answer-one_more : {A : Type 0} (told found : Reading (List A)) (part next : Reading A) (answer : Reading (List A))
    → IsWiringAnswer told found → IsWiringAnswer part next
    → IsWiringAnswer (one_more found next) answer → IsWiringAnswer (one_more told part) answer
answer-one_more told found part next answer h k (inl e) = inl e
answer-one_more told found part next answer h k (inr e) =
    by (answer-made (λ p. p.0 ++ p.1 ∷ []) _ _ (answer-both told found part next (both found next) h k refl))
  where
    by : IsWiringAnswer (one_more told part) (one_more found next) → IsWiringAnswer (one_more told part) answer
    by (inl m) = inl (e ∙ m)
    by (inr m) = inr (e ∙ m)

-- the last item of some
pub more_in-last : {A : Type 0} (part : Data → Reading A) (found : Reading (List A)) (vs : List Value) (v : Value)
    → more_in part found (items_view (vs ++ v ∷ [])) ≡ one_more (more_in part found (items_view vs)) (part (view v))
more_in-last part found [] v = refl
more_in-last part found (x ∷ vs) v = more_in-last part (one_more found (part (view x))) vs v

-- nothing is left to say
abbrev pub done : Reading (Unit {0})
done = Ok tt

-- a table whose keys are known is read on
known-ok : {A : Type 0} (names : Names) (t : Members) (p : Reading A) → known names t done ≡ done → known names t p ≡ p
known-ok names t p = by (has_unknown names t)
  where
    by : (b : Bool) → (if b then Err UnknownKey else done) ≡ done → (if b then Err UnknownKey else p) ≡ p
    by true h = cc
    by false h = refl

-- a table with known keys is what its parts make
pub answer-known : {A B : Type 0} (f : A → B) (names : Names) (t : Members) (told x : Reading A) (answer : Reading B)
    → known names t done ≡ done → IsWiringAnswer told x → made f x ≡ answer
    → IsWiringAnswer (known names t (made f told)) answer
answer-known f names t told x answer k h e = by (answer-made f told x h)
  where
    by : IsWiringAnswer (made f told) (made f x) → IsWiringAnswer (known names t (made f told)) answer
    by (inl m) = inl (sym e ∙ m)
    by (inr m) = inr (sym e ∙ m ∙ sym (known-ok names t (made f told) k))

-- a key of these is unknown
abbrev pub is_unknown : Names → String Global → Bool
is_unknown names key = not (is_one_of (string_bytes key) names)

pub has_unknown-keys : (names : Names) (es : List (String Global × Value))
    → has_unknown names (members_view es) ≡ list_any (is_unknown names) (keys_of es)
has_unknown-keys names [] = refl
has_unknown-keys names (e ∷ es) = ap (λ b. is_unknown names e.0 || b) (has_unknown-keys names es)

-- a list that has not two values is no end
pub end_in-other : (d : Data) (vs : List Value) → as_array d ≡ Some (items_view vs) → (length vs < 2) ⊎ (3 ≤ length vs)
    → Err WrongType ≡ end_in d
end_in-other (array items) vs e h = by vs h ∙ ap (λ (i : Items). end_in (array i)) (sym (same_Some _ _ e))
  where
    by : (vs : List Value) → (length vs < 2) ⊎ (3 ≤ length vs) → Err WrongType ≡ end_in (array (items_view vs))
    by (v ∷ w ∷ []) h = absurd (omega arith)
    by _ h = refl
end_in-other _ vs e h = refl
