use Rattle.std.proofs.Common.{false, ◌∙◌, ℕ, ap, sym, subst, List, ◌++◌, replicate}
use Rattle.tclocks.specs.declared.kept.Kept.{Kept}
use Rattle.tclocks.specs.declared.kept.Kept.TheVariants.{OfOne}
use Rattle.tclocks.specs.Tables.{all_in, HavePages}
use Rattle.tclocks.proofs.Tabling.{added}
use Rattle.tclocks.proofs.kept_table.KeptTable.add.Goals as goal

pub invariant_of-self : goal.invariant_of-self
invariant_of-self c = subst (λ (pages : List (List Kept)). HavePages pages c.self.inside.count)
    (sym c.in_err-add_pages.ensures.err) c.self.invariant

pub returns-clause-ok : goal.returns-clause-ok
returns-clause-ok c =
    ap (λ (n : ℕ). all_in c.add_pages.new.pages.items n) c.in-Some.ensures.1
    ∙ added c.self.inside.pages.items c.add_pages.new.pages.items c.self.inside.count c.args.count
    c.saturating_sub-more.result c.self.invariant c.in_ok-add_pages.ensures.ok
    ∙ ap (λ (kept : List Kept). kept ++ replicate c.args.count (OfOne false 0 0 0)) c.self.view_is
