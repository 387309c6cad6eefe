use Rattle.std.proofs.Common.{refl, inl}
use Rattle.tprocesses.specs.Places.{Error}
use Rattle.tprocesses.specs.Values.{IsFlag}
use Rattle.tcertify.specs.declared.notes.Mode.TheVariants.{Looks}
use Rattle.tcertify.proofs.BoardChanges.{here}
use Rattle.tcertify.proofs.Growing.{lists_stay}
use Rattle.tcertify.proofs.NodeChanging.{looks_at}
use Rattle.tcertify.proofs.node.Node.sees_error.Goals as goal

pub returns : goal.returns
returns c =
    let a = c.args.self.now in
    looks_at a _ (Error a.words.number) a.fixed_place Looks (lists_stay a _ refl refl refl refl refl refl)
    c.add.ensures.keeps c.add.ensures.tells (λ numbering n. n.error) (IsFlag a.error) refl (λ rest. refl)
    (λ rest. here a.words.number (IsFlag a.error) (rest (Error a.words.number))) (λ l there. inl there)
