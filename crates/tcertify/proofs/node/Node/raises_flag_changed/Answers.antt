use Rattle.std.proofs.Common.{◌+◌, refl}
use Rattle.tprocesses.specs.Changes.{Raise}
use Rattle.tprocesses.specs.Places.{FlagChanged}
use Rattle.tcertify.specs.declared.notes.Mode.TheVariants.{Raises}
use Rattle.tcertify.specs.Nodes.{board_of}
use Rattle.tcertify.proofs.BoardChanges.{flag_raised}
use Rattle.tcertify.proofs.Growing.{lists_stay}
use Rattle.tcertify.proofs.NodeChanging.{changes_at}
use Rattle.tcertify.proofs.node.Node.raises_flag_changed.Goals as goal

pub returns : goal.returns
returns c =
    let a = c.args.self.now in
    changes_at a _ (FlagChanged a.words.number) (a.fixed_place + 2) Raises (lists_stay a _ refl refl refl refl refl
    refl)
    c.add.ensures.keeps c.add.ensures.tells (λ numbering n. n.flag_changed) Raise refl
    (λ rest. flag_raised a.words.number a.words.items.items (board_of a) rest) refl
