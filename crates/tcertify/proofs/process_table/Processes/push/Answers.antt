use Rattle.std.proofs.Common.{ap, ◌∙◌, [], ◌∷◌, ◌++◌}
use Rattle.std.specs.HashMap.{get}
use Rattle.std.specs.Prelude.{nat_eq}
use Rattle.tcertify.specs.Fingerprints.{fingerprint}
use Rattle.tcertify.specs.Processes.{name_of}
use Rattle.tcertify.proofs.Indexing.{indexed_more}
use Rattle.tcertify.proofs.process_table.Processes.push.Goals as goal

pub invariant_of-self-2-clause-indexed : goal.invariant_of-self-2-clause-indexed
invariant_of-self-2-clause-indexed c =
    let a = c.args.self.now in let p = c.args.process in let print = fingerprint (name_of 0 p) in
    indexed_more a.items.items c.push_reserved-2.new.self.items p (get nat_eq a.latest) (get nat_eq c.insert.new.self)
    a.earlier.items c.push_reserved.new.self.items a.indexed
    (c.push_reserved-2.ensures.items ∙ ap (λ xs. xs ++ p ∷ []) c.reserve.ensures.items)
    (let before = c.in_ok-before.ensures.old in cc)
    (λ q. let set = c.in_ok-before.ensures.updates.0 q in let at = c.in-Ok.ensures.1 in cc)
