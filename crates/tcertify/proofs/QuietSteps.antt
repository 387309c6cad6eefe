-- A step that touches nothing new, from its parts.
use Rattle.std.proofs.Common.{◌≡◌, ◌<◌, ℕ, refl, ap, ◌∙◌, length, Some, Ok, inl}
use Rattle.std.specs.Prelude.{slice_get}
use Rattle.std.proofs.lemmas.Option.{slice_get_within}
use Rattle.tcode.specs.declared.instruction.Instruction.{Instruction}
use Rattle.tprocesses.specs.Instructions.{executed}
use Rattle.tprocesses.specs.Parts.{see}
use Rattle.tprocesses.specs.Places.{Standing}
use Rattle.tprocesses.specs.Values as value
use Rattle.tprocesses.specs.Values.{IsStand}
use Rattle.tcertify.specs.declared.context.Context.{Context}
use Rattle.tcertify.specs.declared.node.Node.{Node}
use Rattle.tcertify.specs.declared.notes.Mode.TheVariants.{Puts}
use Rattle.tcertify.specs.declared.process.Process.{Process}
use Rattle.tcertify.specs.declared.standing.Stand.{Stand}
use Rattle.tcertify.specs.Contexts.{context_of}
use Rattle.tcertify.specs.Instructions.{decoded}
use Rattle.tcertify.specs.Nodes.{RunsAt, name_at, node_site}
use Rattle.tcertify.specs.Quiet.{IsStandNoted}
use Rattle.tcertify.specs.Standing.{stand_of}
use Rattle.tcertify.specs.Steps.{IsRunning, step_of_process}
use Rattle.tcertify.proofs.Completing.{runs, steps}
use Rattle.tcertify.proofs.Growing.{lists_stay}
use Rattle.tcertify.proofs.NodeChanging.{looks_at}
use Rattle.tcertify.proofs.NodeRunning.{keeps_all}
use Rattle.tcertify.proofs.NodeStands.{running_there, stand_number, stand_seen}

module _ (a b : Node) (k : ℕ) (p : Process) (c : Context) (i : Instruction)
    (there : slice_get a.processes.items.items k ≡ Some p) (running : IsRunning a k c) (noted : IsStandNoted a k) where
  seen : RunsAt (see (Standing (name_at a k))) a (Ok (IsStand (value.Runs (context_of c)))) a
  seen =
      let is = running_there a k p c there running in
      looks_at a a (Standing (name_at a k)) p.place Puts (lists_stay a a refl refl refl refl refl refl)
      (keeps_all a.words.notes) (noted p there) (λ numbering n. stand_number a k p there numbering n)
      (IsStand (value.Runs (context_of c))) refl (λ rest. refl)
      (λ rest. stand_seen a k p there rest ∙ ap (λ (s : Stand). IsStand (stand_of s)) is) (λ l old. inl old)

  pub quiet : RunsAt (decoded (node_site a) c.iptr) a (Ok i) a
      → RunsAt (executed (node_site a) (name_at a k) (context_of c) i) a (Ok tt) b
      → RunsAt (step_of_process (node_site a) (name_at a k)) a (Ok tt) b
  quiet decodes executes =
      let inside : k < length a.processes.items.items = slice_get_within a.processes.items.items k p there in
      steps a a k (value.Runs (context_of c)) seen inside (value.Runs (context_of c)) b (Ok tt) refl
      (runs a a k (context_of c) b (Ok tt) i inside decodes executes)
