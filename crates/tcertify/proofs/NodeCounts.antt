-- Counts that fall, and outputs of links that are over.
use Rattle.std.proofs.Common.{◌≡◌, ℕ, refl, sym, ap, ◌∙◌, subst, arith, [], ◌∷◌}
use Rattle.std.specs.Prelude.{Contains}
use Rattle.tprocesses.specs.Changes.{Decrement}
use Rattle.tprocesses.specs.Parts.{Changed}
use Rattle.tprocesses.specs.Places.{WordAt}
use Rattle.tprocesses.specs.Touching.{word_number, word_place}
use Rattle.tcertify.specs.declared.lead.Lead.TheVariants as lead
use Rattle.tcertify.specs.declared.node.Node.{Node}
use Rattle.tcertify.specs.Nodes.{Grows, HasLead, IsLed, node_site}
use Rattle.tcertify.proofs.NodeRunning.{number_stays}

-- a count that fell leads to a successor
pub counted_lead : (a m b : Node) (address k priority : ℕ) → k ≡ word_number address → Grows a m
    → HasLead m (lead.Count k) b
    → IsLed b [] (record { place = word_place (node_site a) address; change = Decrement priority } ∷ []) (lead.Count k)
counted_lead a m b address k priority at grown told =
    let number : a.words.number ≡ b.words.number =
    number_stays a m grown ∙ ap (λ (n : Node). n.words.number) (sym told.same) in (
      priority,
      subst (λ (n : ℕ). Contains {X = Changed}
          (record { place = word_place (node_site a) address; change = Decrement priority } ∷ [])
          (record { place = WordAt n k; change = Decrement priority })) number
          (subst (λ (j : ℕ). Contains {X = Changed}
          (record { place = word_place (node_site a) address; change = Decrement priority } ∷ [])
          (record { place = WordAt a.words.number j; change = Decrement priority })) (sym at) (0, omega arith, refl)),
    )
