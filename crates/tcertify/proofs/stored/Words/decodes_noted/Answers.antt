use Rattle.std.proofs.Common.{ℕ, refl, sym, ap, ◌∙◌, [], Some, Ok}
use Rattle.std.proofs.lemmas.Option.{IfSome_then}
use Rattle.tword.specs.Actions.{answer}
use Rattle.tcode.specs.declared.instruction.Instruction.{Instruction}
use Rattle.tcode.specs.Decoding.{decode}
use Rattle.tprocesses.specs.Parts.{Part}
use Rattle.tcertify.specs.declared.stored.Words.{Words}
use Rattle.tcertify.specs.Instructions.{decoded}
use Rattle.tcertify.specs.Words.{site_of}
use Rattle.tcertify.proofs.Chains.{ended_by, read_behind, which}
use Rattle.tcertify.proofs.Fetching.{ended}
use Rattle.tcertify.proofs.Running.{runs_given}
use Rattle.tcertify.proofs.stored.Words.decodes_noted.Goals as goal

-- what the bytes decide
abbrev part : Words → ℕ → Part Instruction
part w iptr = decoded (site_of w) iptr

pub returns-in-Ok-Some : goal.returns-in-Ok-Some
unfolding decode
returns-in-Ok-Some c =
    let w : Words = c.args.self.now in let i : Instruction = c.in-Ok-Some.instruction in
    ended_by (part w c.args.iptr) w w w c.args.iptr [] refl (λ u r h. h) refl c.in_ok-first.first (answer i) (Ok i)
    c.in_ok-first.ensures (ap (ended w.kind)
    (sym (which c.in-Ok-Some.field-0 (Some i) _ c.in-Ok-Some.field-0-is (sym c.in-Ok-Some.is ∙ c.single.ensures))))
    (runs_given i w)

pub returns-in-Ok-None : goal.returns-in-Ok-None
unfolding decode
returns-in-Ok-None c =
    let w : Words = c.args.self.now in
    IfSome_then c.decodes_behind_noted.result c.decodes_behind_noted.ensures
    (λ i h. read_behind (part w c.args.iptr) w w w c.args.iptr [] refl (λ u r k. k) refl c.in_ok-first.first
    c.in_ok-first.ensures _ _ h)
