use Rattle.std.proofs.Common.{◌+◌, refl, inl}
use Rattle.tprocesses.specs.Places.{HaltOnError}
use Rattle.tprocesses.specs.Values.{IsFlag}
use Rattle.tcertify.specs.declared.notes.Mode.TheVariants.{Looks}
use Rattle.tcertify.proofs.BoardChanges.{here}
use Rattle.tcertify.proofs.Growing.{lists_stay}
use Rattle.tcertify.proofs.NodeChanging.{looks_at}
use Rattle.tcertify.proofs.node.Node.sees_halt_on_error.Goals as goal

pub returns : goal.returns
returns c =
    let a = c.args.self.now in
    looks_at a _ (HaltOnError a.words.number) (a.fixed_place + 1) Looks (lists_stay a _ refl refl refl refl refl refl)
    c.add.ensures.keeps c.add.ensures.tells (λ numbering n. n.halt_on_error) (IsFlag a.halt_on_error) refl (λ rest.
    refl)
    (λ rest. here a.words.number (IsFlag a.halt_on_error) (rest (HaltOnError a.words.number))) (λ l there. inl there)
