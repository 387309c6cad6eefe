use Rattle.std.proofs.Common.{ap, ◌∙◌, sym, List, ◌∷◌, ◌++◌, Option}
use Rattle.std.specs.Prelude.{option_map}
use Rattle.tfree.specs.declared.stamp.Sent.{Sent}
use Rattle.tfree.specs.declared.ends.InEnd.{InEnd}
use Rattle.tfree.specs.Ends.{in_view}
use Rattle.tfree.specs.Views.{got_of}
use Rattle.tfree.proofs.Looks.{first_seen, none_enabled}
use Rattle.tfree.proofs.steps.receive_at.Goals as goal

pub look-requires : goal.look-requires
look-requires c = c.requires (in_view c.in-Some.end) (ap (option_map in_view) c.in-Some.is)

pub returns-in-Some-look-clause-rests : goal.returns-in-Some-look-clause-rests
returns-in-Some-look-clause-rests c = λ refused q o p rest some f there is.
    let slot = ap (λ (s : Option InEnd). got_of (option_map in_view s)) c.in-Some.is in
    none_enabled c.args.taker.link c.args.node.now c.in-Some-look.front p
    (first_seen _ _ o.put c.in-Some-look.front p rest ((c.look.ensures.all q o f there).0) c.in-Some-look.ensures.front
    (ap (λ (l : List Sent). l ++ p ∷ rest) (sym slot) ∙ is))
    (c.receive.ensures.rests refused)
