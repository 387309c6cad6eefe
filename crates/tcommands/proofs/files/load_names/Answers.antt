use Rattle.std.proofs.Common.{◌∙◌, ap, map, take_all}
use Rattle.tnames.specs.declared.nodes.NodeNames.{NodeNames}
use Rattle.twords.specs.declared.names_files.NamesFile.{NamesFile}
use Rattle.tcommands.proofs.files.load_names.Goals as goal

pub returns : goal.returns
returns c =
    ap (map (λ (n : NodeNames). n.node)) c.new.ensures
    ∙ c.loop-file.invariant
    ∙ ap (map (λ (f : NamesFile). f.node)) (take_all c.loop-file.file-index c.args.asked.now c.loop-file-test.false)
