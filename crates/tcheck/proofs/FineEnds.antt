-- Wires of which none has an end of an earlier one.
use Rattle.std.proofs.Common.{◌≡◌, ℕ, suc, ◌<◌, refl, sym, ap, ◌∙◌, subst, List, [], ◌∷◌, length, get_or, take}
use Rattle.std.proofs.Common.{Bool, true, false, ◌||◌, Option, Some, None, arith, zero-add}
use Rattle.std.specs.Prelude.{if◌then◌else◌}
use Rattle.std.specs.List.{list_any, range_with_len}
use Rattle.std.proofs.lemmas.Bool.{or_parts}
use Rattle.std.proofs.lemmas.Option.{slice_get-get_or}
use Rattle.std.proofs.lemmas.List.FromFn.{length-range_with_len, get_or-range_with_len}
use Rattle.tplan.specs.declared.plan.End.{End}
use Rattle.tplan.specs.declared.plan.Wire.{Wire}
use Rattle.tplan.specs.Wires.{joins}
use Rattle.tnet.specs.Building.{first_end_twice, has_end_twice, share_an_end}
use Rattle.tnet.proofs.FirstFaults.{no_position, twice_at, twice_none}
use Rattle.tcheck.specs.Wrongs.{found_at, first_sharing, shared_wrongs, twice_wrongs}
use Rattle.tcheck.proofs.Nothing.{at_each, each_at}

-- whether an end is found
not_found : (a b : Bool) (e f : End) (j : ℕ) (o : Option (ℕ × End))
    → found_at j (if a then Some e else if b then Some f else None) o ≡ None → ((a || b) ≡ false) × (o ≡ None)
not_found true b e f j o h = cc
not_found false true e f j o h = cc
not_found false false e f j o h = (refl, h)

found_not : (a b : Bool) (e f : End) (j : ℕ) (o : Option (ℕ × End)) → (a || b) ≡ false → o ≡ None
    → found_at j (if a then Some e else if b then Some f else None) o ≡ None
found_not true b e f j o h g = cc
found_not false true e f j o h g = cc
found_not false false e f j o h g = g

-- none of some wires shares an end with one
pub none_shares : (w : Wire) (j : ℕ) (vs : List Wire) → first_sharing w j vs ≡ None
    → list_any (share_an_end w) vs ≡ false
none_shares w j [] h = refl
none_shares w j (v ∷ vs) h =
    let here = not_found (joins w.a v) (joins w.b v) w.a w.b j (first_sharing w (suc j) vs) h in
    rw (here.0, none_shares w (suc j) vs here.1) refl

shares_none : (w : Wire) (j : ℕ) (vs : List Wire) → list_any (share_an_end w) vs ≡ false → first_sharing w j vs ≡ None
shares_none w j [] h = refl
shares_none w j (v ∷ vs) h =
    let both : (share_an_end w v ≡ false) × (list_any (share_an_end w) vs ≡ false) = or_parts _ _ h in
    found_not (joins w.a v) (joins w.b v) w.a w.b j (first_sharing w (suc j) vs) both.0
    (shares_none w (suc j) vs both.1)

none_told : (wires sources k : ℕ) (o : Option (ℕ × End)) → shared_wrongs wires sources k o ≡ [] → o ≡ None
none_told wires sources k None h = refl
none_told wires sources k (Some (j, e)) h = cc

pub twice_nil : (wires sources : ℕ) (ws : List Wire) → twice_wrongs wires sources ws ≡ [] → first_end_twice ws ≡ None
twice_nil wires sources ws h =
    twice_none ws (λ k b.
    let d : Wire = record { a = record { node = 0; link = 0 }; b = record { node = 0; link = 0 } } in
    let w : Wire = get_or ws k d in
    let none : first_sharing w 0 (take k ws) ≡ None =
    none_told wires sources k (first_sharing w 0 (take k ws))
    (subst (λ (j : ℕ). shared_wrongs wires sources j (first_sharing w 0 (take j ws)) ≡ []) (zero-add k)
    (each_at (λ (j : ℕ) (v : Wire). shared_wrongs wires sources j (first_sharing v 0 (take j ws))) 0 ws h k d b)) in
    twice_at ws k w (slice_get-get_or ws k d b) ∙ none_shares w 0 (take k ws) none)

-- no wire has one
none_twice : (ws : List Wire) → first_end_twice ws ≡ None → (k : ℕ) → k < length ws → has_end_twice ws k ≡ false
none_twice ws h k b =
    let count : length (range_with_len 0 (length ws)) ≡ length ws = length-range_with_len 0 (length ws) in
    let is : get_or (range_with_len 0 (length ws)) k 0 ≡ k = get_or-range_with_len 0 (length ws) k 0 b ∙ zero-add k in
    ap (has_end_twice ws) (sym is)
    ∙ no_position (has_end_twice ws) (range_with_len 0 (length ws)) h k 0 (omega (arith, count, b))

pub nil_twice : (wires sources : ℕ) (ws : List Wire) → first_end_twice ws ≡ None → twice_wrongs wires sources ws ≡ []
nil_twice wires sources ws h =
    at_each (λ k w. shared_wrongs wires sources k (first_sharing w 0 (take k ws))) 0 ws (λ k d b.
    let none : first_sharing (get_or ws k d) 0 (take k ws) ≡ None =
    shares_none (get_or ws k d) 0 (take k ws)
    (sym (twice_at ws k (get_or ws k d) (slice_get-get_or ws k d b)) ∙ none_twice ws h k b) in
    rw (zero-add, none) refl)
