-- Lists of nodes, gone through from the first to the last.
use Rattle.std.proofs.Common.{◌≡◌, ℕ, suc, refl, sym, ap, ◌∙◌, ◌+◌, ◌≤◌, ◌||◌, Bool, List, [], ◌∷◌, ◌++◌, length}
use Rattle.std.proofs.Common.{drop, drop-cons, Some, None, add-one}
use Rattle.std.specs.Prelude.{slice_get}
use Rattle.std.specs.List.{list_any}
use Rattle.std.proofs.Math.Bool.{or_assoc}
use Rattle.std.proofs.Math.ListN.{drop_of_length-le}
use Rattle.std.proofs.lemmas.Option.{get_or_from_slice_get, slice_get_within}
use Rattle.tword.specs.declared.breaks.Break.{Break}
use Rattle.tnet.specs.Rendezvous.{Node}
use Rattle.tfiles.specs.Texts.{dump_from, node_dump}
use Rattle.tendings.specs.Tellings.{freeze_from, freeze_text}

-- what is at a place comes first of what is left
pub dropped : {A : Type 0} (k : ℕ) (xs : List A) (x : A) → slice_get xs k ≡ Some x → drop k xs ≡ x ∷ drop (suc k) xs
dropped k xs x e =
    drop-cons xs k x (slice_get_within xs k x e) ∙ ap (λ y. y ∷ drop (suc k) xs) (get_or_from_slice_get xs k x x e)

-- the dumps of nodes, from one of them on
pub dump_next : (k : ℕ) (nodes : List Node) (s : Node) → slice_get nodes k ≡ Some s
    → dump_from k (drop k nodes) ≡ node_dump k s ++ dump_from (k + 1) (drop (k + 1) nodes)
dump_next k nodes s here = rw (add-one k) (ap (λ l. dump_from k l) (dropped k nodes s here))

pub dump_over : (k : ℕ) (nodes : List Node) → length nodes ≤ k → dump_from k (drop k nodes) ≡ []
dump_over k nodes over = ap (λ l. dump_from k l) (drop_of_length-le nodes over)

-- the first node that is frozen, from one that works on
pub freeze_later : (k : ℕ) (nodes : List Node) (s : Node) → slice_get nodes k ≡ Some s → s.broken ≡ None
    → freeze_from 0 nodes ≡ freeze_from k (drop k nodes)
    → freeze_from 0 nodes ≡ freeze_from (k + 1) (drop (k + 1) nodes)
freeze_later k nodes s here works so_far =
    rw (add-one k) (so_far ∙ (ap (λ l. freeze_from k l) (dropped k nodes s here) ∙ rw works refl))

-- and where one is frozen
pub freeze_here : (k : ℕ) (nodes : List Node) (s : Node) (b : Break) → slice_get nodes k ≡ Some s → s.broken ≡ Some b
    → freeze_from 0 nodes ≡ freeze_from k (drop k nodes)
    → freeze_from 0 nodes ≡ Some (freeze_text k b s)
freeze_here k nodes s b here frozen so_far =
    so_far ∙ (ap (λ l. freeze_from k l) (dropped k nodes s here) ∙ rw frozen refl)

-- whether one of a list has something, from a place on
pub any_later : {A : Type 0} (test : A → Bool) (k : ℕ) (xs : List A) (x : A) (so_far : Bool) → slice_get xs k ≡ Some x
    → list_any test xs ≡ (so_far || list_any test (drop k xs))
    → list_any test xs ≡ ((so_far || test x) || list_any test (drop (k + 1) xs))
any_later test k xs x so_far here is =
    rw (add-one k)
    (is ∙ (ap (λ l. so_far || list_any test l) (dropped k xs x here)
    ∙ sym (or_assoc so_far (test x) (list_any test (drop (suc k) xs)))))
