use Rattle.std.proofs.Common.{◌+◌, refl}
use Rattle.tprocesses.specs.Changes.{Put}
use Rattle.tprocesses.specs.Values.{IsFlag}
use Rattle.tprocesses.specs.Places.{HaltOnError}
use Rattle.tcertify.specs.declared.notes.Mode.TheVariants.{Puts}
use Rattle.tcertify.specs.Nodes.{board_of}
use Rattle.tcertify.proofs.BoardChanges.{halt_put}
use Rattle.tcertify.proofs.Growing.{lists_stay}
use Rattle.tcertify.proofs.NodeChanging.{changes_at}
use Rattle.tcertify.proofs.node.Node.put_halt_on_error.Goals as goal

pub returns : goal.returns
returns c =
    let a = c.args.self.now in
    changes_at a _ (HaltOnError a.words.number) (a.fixed_place + 1) Puts (lists_stay a _ refl refl refl refl refl refl)
    c.add.ensures.keeps c.add.ensures.tells (λ numbering n. n.halt_on_error) (Put (IsFlag c.args.halt_on_error)) refl
    (λ rest. halt_put a.words.number a.words.items.items (board_of a) rest c.args.halt_on_error) refl
