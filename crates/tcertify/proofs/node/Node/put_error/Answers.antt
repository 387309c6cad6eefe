use Rattle.std.proofs.Common.{refl}
use Rattle.tprocesses.specs.Changes.{Put}
use Rattle.tprocesses.specs.Values.{IsFlag}
use Rattle.tprocesses.specs.Places.{Error}
use Rattle.tcertify.specs.declared.notes.Mode.TheVariants.{Puts}
use Rattle.tcertify.specs.Nodes.{board_of}
use Rattle.tcertify.proofs.BoardChanges.{error_put}
use Rattle.tcertify.proofs.Growing.{lists_stay}
use Rattle.tcertify.proofs.NodeChanging.{changes_at}
use Rattle.tcertify.proofs.node.Node.put_error.Goals as goal

pub returns : goal.returns
returns c =
    let a = c.args.self.now in
    changes_at a _ (Error a.words.number) a.fixed_place Puts (lists_stay a _ refl refl refl refl refl refl)
    c.add.ensures.keeps c.add.ensures.tells (λ numbering n. n.error) (Put (IsFlag c.args.error)) refl
    (λ rest. error_put a.words.number a.words.items.items (board_of a) rest c.args.error) refl
