use Rattle.std.proofs.Common.{◌≡◌, map, take}
use Rattle.tnames.specs.declared.nodes.NodeNames.{NodeNames}
use Rattle.twords.specs.declared.names_files.NamesFile.{NamesFile}
use Rattle.tcommands.proofs.files.load_names.Given as goal

-- those of the files so far
abbrev pub invariant-loop-file : goal.invariant-loop-file
invariant-loop-file l =
    map (λ (n : NodeNames). n.node) l.all.items ≡ map (λ (f : NamesFile). f.node) (take l.file-index l.asked)
