use Rattle.std.proofs.Common.{◌≡◌, ℕ, refl, sym, ap, ◌∙◌, subst, [], ◌∷◌, Ok, pos}
use Rattle.tword.specs.Actions.{answer}
use Rattle.tword.specs.Words.{plus}
use Rattle.tcode.specs.declared.instruction.Instruction.{Instruction}
use Rattle.tcode.specs.Decoding.{decode, fetch_in}
use Rattle.tprocesses.specs.Parts.{Part}
use Rattle.tcertify.specs.declared.stored.Words.{Words}
use Rattle.tcertify.specs.Instructions.{decoded_behind}
use Rattle.tcertify.specs.Words.{Runs, site_of}
use Rattle.tcertify.proofs.Chains.{ended_by, whole}
use Rattle.tcertify.proofs.Fetching.{after, ended, fetch_after}
use Rattle.tcertify.proofs.Places.{told_if}
use Rattle.tcertify.proofs.Running.{runs_given}
use Rattle.tcertify.proofs.stored.Words.decodes_behind_noted.Goals as goal

-- what the bytes decide
abbrev part : Words → ℕ → ℕ → Part Instruction
part w iptr first = decoded_behind (site_of w) iptr first

pub returns-in-Ok : goal.returns-in-Ok
unfolding decode
returns-in-Ok c =
    let w : Words = c.args.self.now in let b : ℕ = c.args.first in
    let behind : c.plus.result ≡ plus c.args.iptr 1 = c.plus.ensures ∙ ap (plus c.args.iptr) c.new.ensures in
    told_if c.in-Ok.found
    (λ i e. ended_by (part w c.args.iptr b) w w w c.plus.result (b ∷ [])
    (whole (fetch_in w.kind 16 0 (b ∷ []) (pos 0)) (sym c.requires))
    (λ u r h. subst (λ (n : ℕ). Runs (after (site_of w) (fetch_after w.kind (b ∷ []) 16 0 n (pos 0))) w r u) behind h)
    refl c.in_ok-second.second (answer i) (Ok i) c.in_ok-second.ensures
    (ap (ended w.kind) (sym c.chain.ensures ∙ c.in-Ok.is ∙ ap Ok e)) (runs_given i w))
