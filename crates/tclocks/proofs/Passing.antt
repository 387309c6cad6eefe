-- The steps that a check has seen are checked as a run is.
use Rattle.std.proofs.Common.{◌≡◌, List, [], ◌∷◌, ◌++◌, reverse, ap, refl, sym, subst, append_assoc, append-nil, arith}
use Rattle.std.proofs.Common.{inl}
use Rattle.std.proofs.Common.{◌∙◌}
use Rattle.std.proofs.lemmas.List.{reverse-append}
use Rattle.tagents.specs.Agents.{Agents}
use Rattle.tagents.specs.Clocks.{Entry}
use Rattle.tagents.specs.Tables.{Accesses, Table, AreChecked}
use Rattle.tagents.proofs.Checked.{checked_runs_have_no_race}
use Rattle.tclocks.specs.Checks.{nothing_checked}
use Rattle.tclocks.specs.Numbers.{Numbers, AreNumbers}
use Rattle.tclocks.specs.Followed.{HavePassed, Follows}
use Rattle.tclocks.specs.Laws.{ArePassed}

module _ {State Agent Label Place Kind : Type 0} (m : Agents State Agent Label) (accesses : Accesses Place Kind Label)
    (numbers : Numbers Agent Place Kind) where
  all_passed : (entries : List (Entry Agent Label)) (table : Table m accesses) (later : List (Entry Agent Label))
      → HavePassed m accesses numbers entries table → AreChecked m accesses entries table later
      → AreChecked m accesses [] (λ p k a. 0) (reverse entries ++ later)
  all_passed [] table later h rest = subst (λ (t : Table m accesses). AreChecked m accesses [] t later) h rest
  all_passed (f ∷ earlier) table later (before, checked, passed) rest =
      let turned : reverse (f ∷ earlier) ≡ reverse earlier ++ f ∷ [] = reverse-append (f ∷ []) earlier in
      subst (λ (list : List (Entry Agent Label)). AreChecked m accesses [] (λ p k a. 0) list)
      (sym (ap (λ (list : List (Entry Agent Label)). list ++ later) turned
      ∙ append_assoc (reverse earlier) (f ∷ []) later))
      (all_passed earlier before (f ∷ later) passed (table, checked, rest))

  pub are_passed : (entries : List (Entry Agent Label)) (table : Table m accesses)
      → HavePassed m accesses numbers entries table → ArePassed m accesses entries
  are_passed entries table h =
      let checked : AreChecked m accesses [] (λ p k a. 0) (reverse entries) =
      subst (λ (list : List (Entry Agent Label)). AreChecked m accesses [] (λ p k a. 0) list)
      (append-nil (reverse entries)) (all_passed entries table [] h tt) in record {
        checked = checked;
        race_free = λ collide. checked_runs_have_no_race State Agent Label Place Kind m accesses (reverse entries)
            collide checked;
      }

  pub begins : AreNumbers m accesses numbers nothing_checked
      → Follows m accesses numbers [] (λ p k a. 0) (λ slot. []) nothing_checked
  begins numbered = record {
    numbered = numbered;
    passed = refl;
    agents = tt;
    places = tt;
    pasts = tt;
    clocks = λ i h. absurd (omega (arith, h));
    slots = λ slot. record { within = λ i. omega arith; known = λ a. inl refl };
    tables = λ p k a. omega arith;
    kept = λ place access has. absurd (omega (arith, has.1));
    covered = λ p k a. inl refl;
    ordered = λ place x y has. absurd (omega (arith, has.1));
  }
