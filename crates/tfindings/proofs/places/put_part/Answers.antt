use Rattle.std.proofs.Common.{ap, sym, subst, ◌∙◌, ℕ}
use Rattle.std.specs.Prelude.{codes}
use Rattle.twhere.specs.Standing.{word_text}
use Rattle.tfindings.specs.declared.places.Part.{Part}
use Rattle.tfindings.specs.Agents.{at_node}
use Rattle.tfindings.specs.Places.{HasPart, place_of, place_text}
use Rattle.tfindings.proofs.PartNames.{address_shown, process_shown, workspace_shown}
use Rattle.tfiles.proofs.Told.{tells_then, tells_as}
use Rattle.tfindings.proofs.places.put_part.Goals as goal

pub returns-in-Word : goal.returns-in-Word
returns-in-Word g c =
    tells_as (tells_then c.put_node.ensures (tells_as c.put_word.ensures (ap word_text c.new.ensures)))
    ((ap (λ (p : Part). place_text (place_of c.args.node.now p)) (sym c.in-Word.is)))

pub returns-in-Process : goal.returns-in-Process
returns-in-Process g c =
    tells_as (tells_then c.put_node-in-Process.ensures (c.put_name.ensures c.args.node.now.words.number))
    (process_shown c.args.node.now c.in-Process.process c.index.result.now c.index.ensures
    (subst (HasPart c.args.node.now) c.in-Process.is c.requires)
    ∙ (ap (λ (p : Part). place_text (place_of c.args.node.now p)) (sym c.in-Process.is)))

pub returns-in-Input : goal.returns-in-Input
returns-in-Input g c =
    tells_as (tells_then c.put_node-in-Input.ensures c.put_word-in-Input.ensures)
    (ap (λ (w : ℕ). at_node c.args.node.now.words.number (codes "input of channel") (word_text w))
    (address_shown c.args.node.now c.in-Input.channel c.index-in-Input.result.now c.index-in-Input.ensures
    (subst (HasPart c.args.node.now) c.in-Input.is c.requires))
    ∙ (ap (λ (p : Part). place_text (place_of c.args.node.now p)) (sym c.in-Input.is)))

pub returns-in-Output : goal.returns-in-Output
returns-in-Output g c =
    tells_as (tells_then c.put_node-in-Output.ensures c.put_word-in-Output.ensures)
    (ap (λ (w : ℕ). at_node c.args.node.now.words.number (codes "output of channel") (word_text w))
    (address_shown c.args.node.now c.in-Output.channel c.index-in-Output.result.now c.index-in-Output.ensures
    (subst (HasPart c.args.node.now) c.in-Output.is c.requires))
    ∙ (ap (λ (p : Part). place_text (place_of c.args.node.now p)) (sym c.in-Output.is)))

pub returns-in-Count : goal.returns-in-Count
returns-in-Count g c =
    tells_as (tells_then c.put_node-in-Count.ensures c.put_word-in-Count.ensures)
    (ap (λ (w : ℕ). at_node c.args.node.now.words.number (codes "workspace") (word_text w))
    (workspace_shown c.args.node.now c.in-Count.life c.index-in-Count.result.now c.index-in-Count.ensures
    (subst (HasPart c.args.node.now) c.in-Count.is c.requires))
    ∙ (ap (λ (p : Part). place_text (place_of c.args.node.now p)) (sym c.in-Count.is)))

pub returns-in-Successors : goal.returns-in-Successors
returns-in-Successors g c =
    tells_as (tells_then c.put_node-in-Successors.ensures c.put_word-in-Successors.ensures)
    (ap (λ (w : ℕ). at_node c.args.node.now.words.number (codes "successors at") (word_text w))
    (workspace_shown c.args.node.now c.in-Successors.life c.index-in-Successors.result.now c.index-in-Successors.ensures
    (subst (HasPart c.args.node.now) c.in-Successors.is c.requires))
    ∙ (ap (λ (p : Part). place_text (place_of c.args.node.now p)) (sym c.in-Successors.is)))
