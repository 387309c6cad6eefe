use Rattle.std.proofs.Common.{◌≡◌, drop}
use Rattle.std.specs.List.{find}
use Rattle.std.specs.Str.{bytes_eq}
use Rattle.twords.specs.Table.{name_of}
use Rattle.twords.specs.CommandLines.{named}
use Rattle.twords.proofs.words.named.Given as goal

-- the command is the first of those that are left
abbrev pub invariant-loop-which : goal.invariant-loop-which
invariant-loop-which l =
    find (λ which. bytes_eq (name_of which) l.name) (drop l.which-index l.which-items) ≡ named l.name
