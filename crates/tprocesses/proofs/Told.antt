-- Whether two agents or two places are the same is told.
use Rattle.std.proofs.Common.{◌≡◌, ◌≢◌, ℕ, refl, sym, ap, ◌∙◌, Bool, true, false, List, [], ◌∷◌, true≢false}
use Rattle.std.specs.Prelude.{◌==◌, ◌&&◌}
use Rattle.std.proofs.lemmas.Bool.{and_parts, and_from, eqb-true, eq-eqb}
use Rattle.tproc.specs.declared.channels.Side.{Side}
use Rattle.tproc.specs.declared.channels.Side.TheVariants.{Input, Output}
use Rattle.tplan.specs.declared.plan.End.{End}
use Rattle.tplan.specs.Wires.{same_end}
use Rattle.tplan.proofs.Ends.{same_end-true, same_end-self}
use Rattle.tprocesses.specs.Places.{Root, Image, After, Name, Place, WordAt, Sending, Standing, Ports, Half}
use Rattle.tprocesses.specs.Places.{LinkHalf, Unfinished}
use Rattle.tprocesses.specs.Places.{Error, HaltOnError, Life, Successions, Messages, Kept, Population, HasRun}
use Rattle.tprocesses.specs.Places.{FlagChanged, same_path, same_root, same_name, same_side, same_place}
use Rattle.tprocesses.specs.Machine.{Agent, Process, Channel, Wire, Successor, same_agent}

-- two numbers that the test finds the same are equal
same_number : (m n : ℕ) → (m == n) ≡ true → m ≡ n
same_number m n h = eqb-true m n h

number_itself : (n : ℕ) → (n == n) ≡ true
number_itself n = eq-eqb n n refl

-- two numbers
same_pair : {X : Type 0} (f : ℕ → ℕ → X) (m n k l : ℕ) → ((m == k) && (n == l)) ≡ true → f m n ≡ f k l
same_pair f m n k l h =
    let both : ((m == k) ≡ true) × ((n == l) ≡ true) = and_parts _ _ h in
    ap (λ x. f x n) (same_number m k both.0) ∙ ap (f k) (same_number n l both.1)

pair_itself : (m n : ℕ) → ((m == m) && (n == n)) ≡ true
pair_itself m n = and_from _ _ (number_itself m) (number_itself n)

pub same_path-true : (p q : List ℕ) → same_path p q ≡ true → p ≡ q
same_path-true [] [] h = refl
same_path-true (x ∷ xs) (y ∷ ys) h =
    let both : ((x == y) ≡ true) × (same_path xs ys ≡ true) = and_parts _ _ h in
    ap (λ z. z ∷ xs) (same_number x y both.0) ∙ ap (λ zs. y ∷ zs) (same_path-true xs ys both.1)
same_path-true [] (y ∷ ys) h = absurd (true≢false (sym h))
same_path-true (x ∷ xs) [] h = absurd (true≢false (sym h))

same_path-self : (p : List ℕ) → same_path p p ≡ true
same_path-self [] = refl
same_path-self (x ∷ xs) = and_from _ _ (number_itself x) (same_path-self xs)

same_root-true : (x y : Root) → same_root x y ≡ true → x ≡ y
same_root-true (Image k) (Image l) h = ap Image (same_number k l h)
same_root-true (After w i) (After v j) h = same_pair After w i v j h
same_root-true (Image k) (After v j) h = absurd (true≢false (sym h))
same_root-true (After w i) (Image l) h = absurd (true≢false (sym h))

same_root-self : (x : Root) → same_root x x ≡ true
same_root-self (Image k) = number_itself k
same_root-self (After w i) = pair_itself w i

-- a name by its parts
name_of : ℕ → Root → List ℕ → Name
name_of n r p = record { node = n; root = r; path = p }

pub same_name-true : (x y : Name) → same_name x y ≡ true → x ≡ y
unfolding name_of
same_name-true x y h =
    let parts : (((x.node == y.node) && same_root x.root y.root) ≡ true) × (same_path x.path y.path ≡ true) =
    and_parts _ _ h in
    let both : ((x.node == y.node) ≡ true) × (same_root x.root y.root ≡ true) = and_parts _ _ parts.0 in
    ap (λ n. name_of n x.root x.path) (same_number x.node y.node both.0)
    ∙ ap (λ r. name_of y.node r x.path) (same_root-true x.root y.root both.1)
    ∙ ap (λ p. name_of y.node y.root p) (same_path-true x.path y.path parts.1)

pub same_name-self : (x : Name) → same_name x x ≡ true
same_name-self x =
    and_from _ _ (and_from _ _ (number_itself x.node) (same_root-self x.root)) (same_path-self x.path)

same_side-true : (s t : Side) → same_side s t ≡ true → s ≡ t
same_side-true Input Input h = refl
same_side-true Output Output h = refl
same_side-true Input Output h = absurd (true≢false (sym h))
same_side-true Output Input h = absurd (true≢false (sym h))

same_side-self : (s : Side) → same_side s s ≡ true
same_side-self Input = refl
same_side-self Output = refl

same_half : (n c : ℕ) (s : Side) (m d : ℕ) (t : Side) → ((n == m) && (c == d) && same_side s t) ≡ true
    → Half n c s ≡ Half m d t
same_half n c s m d t h =
    let parts : (((n == m) && (c == d)) ≡ true) × (same_side s t ≡ true) = and_parts _ _ h in
    same_pair (λ x y. Half x y s) n c m d parts.0 ∙ ap (Half m d) (same_side-true s t parts.1)

same_link : (e : End) (s : Side) (f : End) (t : Side) → (same_end e f && same_side s t) ≡ true
    → LinkHalf e s ≡ LinkHalf f t
same_link e s f t h =
    let parts : (same_end e f ≡ true) × (same_side s t ≡ true) = and_parts _ _ h in
    ap (λ x. LinkHalf x s) (same_end-true e f parts.0) ∙ ap (LinkHalf f) (same_side-true s t parts.1)

pub same_place-true : (p q : Place) → same_place p q ≡ true → p ≡ q
same_place-true (WordAt n k) (WordAt m l) h = same_pair WordAt n k m l h
same_place-true (Sending n k) (Sending m l) h = same_pair Sending n k m l h
same_place-true (Standing x) (Standing y) h = ap Standing (same_name-true x y h)
same_place-true (Ports x) (Ports y) h = ap Ports (same_name-true x y h)
same_place-true (Half n c s) (Half m d t) h = same_half n c s m d t h
same_place-true (LinkHalf e s) (LinkHalf f t) h = same_link e s f t h
same_place-true (Unfinished e) (Unfinished f) h = ap Unfinished (same_end-true e f h)
same_place-true (Error n) (Error m) h = ap Error (same_number n m h)
same_place-true (HaltOnError n) (HaltOnError m) h = ap HaltOnError (same_number n m h)
same_place-true (Life n w) (Life m v) h = same_pair Life n w m v h
same_place-true (Successions n w) (Successions m v) h = same_pair Successions n w m v h
same_place-true (Messages e) (Messages f) h = ap Messages (same_end-true e f h)
same_place-true (Kept e) (Kept f) h = ap Kept (same_end-true e f h)
same_place-true (Population n) (Population m) h = ap Population (same_number n m h)
same_place-true (HasRun n p) (HasRun m q) h = same_pair HasRun n p m q h
same_place-true (FlagChanged n) (FlagChanged m) h = ap FlagChanged (same_number n m h)
same_place-true _ _ h = absurd (true≢false (sym h))

pub same_place-self : (p : Place) → same_place p p ≡ true
same_place-self (WordAt n k) = pair_itself n k
same_place-self (Sending n k) = pair_itself n k
same_place-self (Standing x) = same_name-self x
same_place-self (Ports x) = same_name-self x
same_place-self (Half n c s) = and_from _ _ (pair_itself n c) (same_side-self s)
same_place-self (LinkHalf e s) = and_from _ _ (same_end-self e) (same_side-self s)
same_place-self (Unfinished e) = same_end-self e
same_place-self (Error n) = number_itself n
same_place-self (HaltOnError n) = number_itself n
same_place-self (Life n w) = pair_itself n w
same_place-self (Successions n w) = pair_itself n w
same_place-self (Messages e) = same_end-self e
same_place-self (Kept e) = same_end-self e
same_place-self (Population n) = number_itself n
same_place-self (HasRun n p) = pair_itself n p
same_place-self (FlagChanged n) = number_itself n

pub same_agent-true : (a b : Agent) → same_agent a b ≡ true → a ≡ b
same_agent-true (Process x) (Process y) h = ap Process (same_name-true x y h)
same_agent-true (Channel n c) (Channel m d) h = same_pair Channel n c m d h
same_agent-true (Wire e) (Wire f) h = ap Wire (same_end-true e f h)
same_agent-true (Successor n k) (Successor m l) h = same_pair Successor n k m l h
same_agent-true _ _ h = absurd (true≢false (sym h))

same_agent-self : (a : Agent) → same_agent a a ≡ true
same_agent-self (Process x) = same_name-self x
same_agent-self (Channel n c) = pair_itself n c
same_agent-self (Wire e) = same_end-self e
same_agent-self (Successor n k) = pair_itself n k

-- what is the same as itself differs from what the test tells apart
pub differ_by : {X : Type 0} (same : X → X → Bool) → ((x : X) → same x x ≡ true) → (x y : X) → same x y ≡ false → x ≢ y
differ_by same itself x y h e = true≢false (sym (itself x) ∙ ap (same x) e ∙ h)

pub same_place-false : (p q : Place) → same_place p q ≡ false → p ≢ q
same_place-false p q h = differ_by same_place same_place-self p q h

pub same_agent-false : (a b : Agent) → same_agent a b ≡ false → a ≢ b
same_agent-false a b h = differ_by same_agent same_agent-self a b h
