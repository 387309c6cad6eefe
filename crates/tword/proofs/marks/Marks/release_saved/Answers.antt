use Rattle.std.proofs.Common.{◌≡◌, ℕ, List, length, get_or, reverse, eqb, not, ◌&&◌, ap, sym, ◌∙◌, arith}
use Rattle.std.specs.List.{list_any}
use Rattle.std.proofs.lemmas.Bool.{false≢true}
use Rattle.tword.specs.Claims.{Claims}
use Rattle.tword.proofs.ClaimTally.{enough_saved, tally_drop}
use Rattle.tword.proofs.SavedTable.{place_has}
use Rattle.tword.proofs.marks.Marks.release_saved.Goals as goal

pub lower-requires : goal.lower-requires
lower-requires c =
    record {
      some = rw c.saved_words.ensures
          (enough_saved _ _ _ c.remove-removed.new.self _ c.remove-removed.result c.self.invariant
          c.remove-removed.ensures.words);
    }

pub invariant_of-self : goal.invariant_of-self
invariant_of-self c =
    tally_drop _ _ _ _ _ _ c.remove-removed.result c.self.invariant c.remove-removed.ensures.count
    c.remove-removed.ensures.words (rw c.saved_words.ensures at c.lower.ensures)

pub returns-in-Some-clause-frees : goal.returns-in-Some-clause-frees
returns-in-Some-clause-frees c = λ v.
    let seen = ap (λ (x : Claims). x.saved) c.self.view_is in
    let removed : c.remove-removed.result ≡ c.args.workspace =
    c.remove-removed.ensures.is ∙ ap (λ (xs : List ℕ). get_or (reverse xs) c.in-Some.place 0) seen
    ∙ c.in-Some.ensures.found.1 in
    c.remove-removed.ensures.others v
    ∙ ap (λ u. not (eqb v u) && list_any (λ w. eqb w v) c.self.inside.saved) removed
    ∙ ap (λ (xs : List ℕ). not (eqb v c.args.workspace) && list_any (λ w. eqb w v) xs) seen

pub returns-in-Some-clause-counts : goal.returns-in-Some-clause-counts
returns-in-Some-clause-counts c = λ e.
    omega (arith, c.remove-removed.ensures.count, ap (λ (x : Claims). length x.saved) c.self.view_is)

-- what was found is there
pub returns-in-Some-clause-same : goal.returns-in-Some-clause-same
returns-in-Some-clause-same c = λ e.
    let there = place_has c.args.self.now.saved c.in-Some.place c.args.workspace c.in-Some.ensures.found in
    absurd (false≢true (sym e ∙ there))
