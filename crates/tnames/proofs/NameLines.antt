-- A file of names that is read line by line.
use Rattle.std.proofs.Common.{◌≡◌, ◌≢◌, ◌∙◌, sym, ap, refl, ℕ, suc, ◌+◌, ◌<◌, ◌==◌, List, [], ◌∷◌, ◌++◌, length, take}
use Rattle.std.proofs.Common.{drop, get_or}
use Rattle.std.proofs.Common.{append_assoc, add-one, length-append, Option, Some, None, Result, Ok, Err, arith}
use Rattle.std.specs.Prelude.{position}
use Rattle.std.proofs.Math.Seq.{drop-cons}
use Rattle.std.proofs.lemmas.Bool.{eqb-true, eqb-false, ne_eqb}
use Rattle.std.proofs.lemmas.List.{take-append-drop, get_or-take, length-take-le}
use Rattle.std.proofs.lemmas.List.Elements.{All-head, All-tail}
use Rattle.std.proofs.lemmas.List.Quantifiers.{position-Some}
use Rattle.tnet.proofs.FirstFaults.{no_position}
use Rattle.tfiles.specs.Logs.{split}
use Rattle.tfiles.specs.LogLines.{Lacks}
use Rattle.tfiles.proofs.ReadLogs.{split-line}
use Rattle.tnames.specs.declared.names.Name.{Name}
use Rattle.tnames.specs.Lines.{name_of, onto_names, open_line, names_from}

-- where the first line ends
abbrev pub end_of_line : List ℕ → Option ℕ
end_of_line bytes = position (λ byte. byte == 10) bytes

-- the first line, its end and the rest
pub cut-is : (bytes : List ℕ) (end : ℕ) → end_of_line bytes ≡ Some end
    → bytes ≡ take end bytes ++ 10 ∷ drop (end + 1) bytes
cut-is bytes end h =
    let first = position-Some (λ byte. byte == 10) bytes end 0 h in
    sym (take-append-drop end bytes)
    ∙ ap (λ (xs : List ℕ). take end bytes ++ xs)
    (drop-cons bytes end 0 first.0
    ∙ ap (λ (b : ℕ). b ∷ drop (suc end) bytes) (eqb-true (get_or bytes end 0) 10 first.1)
    ∙ ap (λ (n : ℕ). 10 ∷ drop n bytes) (sym (add-one end)))

-- no line ends within the first one
pub cut-lacks : (bytes : List ℕ) (end : ℕ) → end_of_line bytes ≡ Some end → Lacks 10 (take end bytes)
cut-lacks bytes end h k d l =
    let first = position-Some (λ byte. byte == 10) bytes end d h in
    let short : length (take end bytes) ≡ end = length-take-le end bytes (omega (arith, first.0)) in
    let below : k < end = omega (arith, l, short) in
    λ e. eqb-false (get_or bytes k d) 10 (first.2 k below) (sym (get_or-take end bytes k d below) ∙ e)

pub uncut-lacks : (bytes : List ℕ) → end_of_line bytes ≡ None → Lacks 10 bytes
uncut-lacks bytes h k d l = λ e. eqb-false (get_or bytes k d) 10 (no_position (λ byte. byte == 10) bytes h k d l) e

-- some names before those of the rest
abbrev pub then_names : List Name → Result (List Name) ℕ → Result (List Name) ℕ
then_names ns (Ok ms) = Ok (ns ++ ms)
then_names ns (Err n) = Err n

-- what the bytes behind these names stand for
abbrev pub rest_of : List Name → List ℕ → Result (List Name) ℕ
rest_of ns rest = names_from (suc (length ns)) (split rest).0 (split rest).1

-- what a line and the rest stand for
rest-split : (ns : List Name) (rest : List ℕ) (end : ℕ) → end_of_line rest ≡ Some end
    → rest_of ns rest ≡ onto_names (name_of (take end rest)) (suc (length ns))
    (names_from (suc (suc (length ns))) (split (drop (end + 1) rest)).0 (split (drop (end + 1) rest)).1)
rest-split ns rest end h =
    let cut : split rest ≡ (take end rest ∷ (split (drop (end + 1) rest)).0, (split (drop (end + 1) rest)).1) =
    ap split (cut-is rest end h ∙ sym (append_assoc (take end rest) (10 ∷ []) (drop (end + 1) rest)))
    ∙ split-line (take end rest) (drop (end + 1) rest) (cut-lacks rest end h) in
    ap (λ (p : List (List ℕ) × List ℕ). names_from (suc (length ns)) p.0 p.1) cut

-- one more line is read
pub rest-line : (ns : List Name) (n : Name) (rest : List ℕ) (end : ℕ) → end_of_line rest ≡ Some end
    → name_of (take end rest) ≡ Some n
    → then_names ns (rest_of ns rest) ≡ then_names (ns ++ n ∷ []) (rest_of (ns ++ n ∷ []) (drop (end + 1) rest))
rest-line ns n rest end h is =
    ap (then_names ns) (rest-split ns rest end h)
    ∙ ap (λ (o : Option Name). then_names ns (onto_names o (suc (length ns))
    (names_from (suc (suc (length ns))) (split (drop (end + 1) rest)).0 (split (drop (end + 1) rest)).1))) is
    ∙ onto (names_from (suc (suc (length ns))) (split (drop (end + 1) rest)).0 (split (drop (end + 1) rest)).1)
    ∙ ap (λ (m : ℕ). then_names (ns ++ n ∷ [])
    (names_from (suc m) (split (drop (end + 1) rest)).0 (split (drop (end + 1) rest)).1)) longer
  where
    longer : suc (length ns) ≡ length (ns ++ n ∷ [])
    longer = omega (arith, length-append ns (n ∷ []))

    onto : (x : Result (List Name) ℕ)
        → then_names ns (onto_names (Some n) (suc (length ns)) x) ≡ then_names (ns ++ n ∷ []) x
    onto (Ok ms) = ap Ok (sym (append_assoc ns (n ∷ []) ms))
    onto (Err m) = refl

-- a line that stands for no name
pub rest-bad : (ns : List Name) (rest : List ℕ) (end : ℕ) → end_of_line rest ≡ Some end
    → name_of (take end rest) ≡ None → then_names ns (rest_of ns rest) ≡ Err (length ns + 1)
rest-bad ns rest end h is =
    ap (then_names ns) (rest-split ns rest end h)
    ∙ ap (λ (o : Option Name). then_names ns (onto_names o (suc (length ns))
    (names_from (suc (suc (length ns))) (split (drop (end + 1) rest)).0 (split (drop (end + 1) rest)).1))) is
    ∙ ap Err (sym (add-one (length ns)))

-- no line ends
pub split-none : (rest : List ℕ) → Lacks 10 rest → split rest ≡ ([], rest)
split-none [] f = refl
split-none (b ∷ rest) f =
    rw (ne_eqb b 10 (All-head (λ c. c ≢ 10) b rest f), split-none rest (All-tail (λ c. c ≢ 10) b rest f)) refl

rest-last : (ns : List Name) (rest : List ℕ) → end_of_line rest ≡ None
    → then_names ns (rest_of ns rest) ≡ then_names ns (open_line (suc (length ns)) rest)
rest-last ns rest h =
    ap (λ (p : List (List ℕ) × List ℕ). then_names ns (names_from (suc (length ns)) p.0 p.1))
    (split-none rest (uncut-lacks rest h))

-- the last line has no end
pub rest-open : (ns : List Name) (rest : List ℕ) → end_of_line rest ≡ None → rest ≢ []
    → then_names ns (rest_of ns rest) ≡ Err (length ns + 1)
rest-open ns rest h n = rest-last ns rest h ∙ open_end rest n
  where
    open_end : (r : List ℕ) → r ≢ [] → then_names ns (open_line (suc (length ns)) r) ≡ Err (length ns + 1)
    open_end [] n = absurd (n refl)
    open_end (b ∷ r) n = ap Err (sym (add-one (length ns)))
