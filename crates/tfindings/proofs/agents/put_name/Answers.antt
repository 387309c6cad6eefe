use Rattle.std.proofs.Common.{ℕ, List, ap, sym, ◌∙◌, ◌++◌, flat_map}
use Rattle.std.proofs.lemmas.List.{reverse-reverse}
use Rattle.tfiles.proofs.Told.{tells_as, tells_then}
use Rattle.tcertify.specs.Processes.{root_of}
use Rattle.tfindings.specs.Agents.{child_text, root_text}
use Rattle.tfindings.proofs.agents.put_name.Goals as goal

pub returns : goal.returns
returns g c = λ node.
    tells_as (tells_then c.put_root.ensures c.put_path.ensures)
    (ap (λ (path : List ℕ). root_text (root_of c.args.process.now.root) ++ flat_map child_text path)
    (c.as_slice.ensures.value ∙ sym (reverse-reverse c.args.process.now.path.items)))
