use Rattle.std.proofs.Common.{◌≡◌, ◌-◌, ◌/◌, ℕ, Ok, ap, ◌∙◌}
use Rattle.tword.specs.Words.{most_neg}
use Rattle.tprocesses.specs.Changes.{Decrement}
use Rattle.tprocesses.specs.Parts.{change}
use Rattle.tprocesses.specs.Touching.{word_number, word_place}
use Rattle.tcertify.specs.declared.lead.Lead.TheVariants.{Count}
use Rattle.tcertify.specs.Nodes.{node_site}
use Rattle.tcertify.specs.Words.{number_of}
use Rattle.tcertify.proofs.NodeChanging.{with_lead}
use Rattle.tcertify.proofs.NodeCounts.{counted_lead}
use Rattle.tcertify.proofs.node.Node.decrement.Goals as goal

pub returns : goal.returns
returns c =
    let a = c.args.self.now in let m = c.counts_down.new.self in let b = c.note_lead.new.self in
    let priority : ℕ = number_of c.args.priority in let number : ℕ = c.saturating_sub.result / 4 in
    let at : number ≡ word_number c.args.address =
    ap (λ (n : ℕ). n / 4) (c.saturating_sub.ensures ∙ ap (λ (n : ℕ). n - most_neg) c.get.ensures) in
    with_lead (change (word_place (node_site a) c.args.address) (Decrement priority)) a m b (Ok tt) (Count number)
    c.counts_down.ensures c.note_lead.ensures
    (λ rest. counted_lead a m b c.args.address number priority at c.counts_down.ensures.grows c.note_lead.ensures)
