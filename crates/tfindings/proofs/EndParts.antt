-- The parts of an end, one after another.
use Rattle.std.proofs.Common.{◌≡◌, ℕ, ◌+◌, ◌<◌, ◌≤◌, refl, sym, ap, ap₂, ◌∙◌, List, [], ◌∷◌, ◌++◌, length}
use Rattle.std.proofs.Common.{get_or, drop, drop-cons, add-one, Vec, Global, Option, flat_map}
use Rattle.std.specs.Prelude.{map}
use Rattle.std.proofs.lemmas.List.{length-map}
use Rattle.std.proofs.Math.ListN.{drop_of_length-le}
use Rattle.tplan.specs.declared.plan.SourcePlan.{SourcePlan}
use Rattle.tfindings.specs.Ends.{each_from, kept_line, sent_from, sent_text}

pub each_next : {P : Type 0} (text : ℕ → P → List ℕ) (n i : ℕ) (ps : List P) (d : P) → i < length ps
    → each_from text n (drop i ps) ≡ text n (get_or ps i d) ++ each_from text (n + 1) (drop (i + 1) ps)
each_next {P} text n i ps d l =
    ap (λ (qs : List P). each_from text n qs) (drop-cons ps i d l)
    ∙ ap₂ (λ (m k : ℕ). text n (get_or ps i d) ++ each_from text m (drop k ps)) (sym (add-one n)) (sym (add-one i))

pub each_end : {P : Type 0} (text : ℕ → P → List ℕ) (n i : ℕ) (ps : List P) → length ps ≤ i
    → each_from text n (drop i ps) ≡ []
each_end text n i ps l = rw (drop_of_length-le ps l) refl

pub sent_next : (n i : ℕ) (ps : List SourcePlan) (sent : List ℕ) (p : SourcePlan) (s : ℕ) → i < length ps
    → i < length sent → sent_from n (drop i ps) (drop i sent)
    ≡ sent_text n (get_or ps i p) (get_or sent i s) ++ sent_from (n + 1) (drop (i + 1) ps) (drop (i + 1) sent)
sent_next n i ps sent p s l m =
    ap₂ (λ (qs : List SourcePlan) (ss : List ℕ). sent_from n qs ss) (drop-cons ps i p l) (drop-cons sent i s m)
    ∙ ap₂ (λ (j k : ℕ). sent_text n (get_or ps i p) (get_or sent i s) ++ sent_from j (drop k ps) (drop k sent))
    (sym (add-one n)) (sym (add-one i))

pub sent_end : (n i : ℕ) (ps : List SourcePlan) (sent : List ℕ) → length ps ≤ i
    → sent_from n (drop i ps) (drop i sent) ≡ []
sent_end n i ps sent l = ap (λ (qs : List SourcePlan). sent_from n qs (drop i sent)) (drop_of_length-le ps l)

-- the messages of a sink, as the program keeps them
pub as_many : (messages more : List (Vec (Option ℕ) Global)) → messages ≡ more
    → length messages ≡ length (map (λ m. m.items) more)
as_many messages more e = ap length e ∙ sym (length-map more (λ m. m.items))

lines_of : (messages : List (Vec (Option ℕ) Global))
    → flat_map (λ m. kept_line m.items) messages ≡ flat_map kept_line (map (λ m. m.items) messages)
lines_of [] = refl
lines_of (m ∷ ms) = ap (λ (t : List ℕ). kept_line m.items ++ t) (lines_of ms)

pub kept_lines : (messages more : List (Vec (Option ℕ) Global)) → messages ≡ more
    → flat_map (λ m. kept_line m.items) messages ≡ flat_map kept_line (map (λ m. m.items) more)
kept_lines messages more e =
    lines_of messages ∙ ap (λ (ms : List (Vec (Option ℕ) Global)). flat_map kept_line (map (λ m. m.items) ms)) e
