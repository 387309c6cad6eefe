use Rattle.std.proofs.Common.{◌∙◌, sym, ap, subst, refl, length, List, take}
use Rattle.std.specs.Prelude.{position}
use Rattle.std.proofs.lemmas.List.{take_all}
use Rattle.std.proofs.lemmas.List.Elements.{All-more, All-same}
use Rattle.std.proofs.lemmas.Option.{slice_get_read}
use Rattle.tnet.proofs.FirstFaults.{no_position}
use Rattle.tcertify.specs.declared.stored.StoredWord.{StoredWord}
use Rattle.tverdict.specs.Next.{AwaitNothing, awaits}
use Rattle.tverdict.proofs.Ended.{first_at}
use Rattle.tverdict.proofs.next.ready_successor.Goals as goal

pub returns-in-Some-clause-found : goal.returns-in-Some-clause-found
returns-in-Some-clause-found c =
    let nodes = c.args.nodes.now in let node = c.node-item.result in let i = c.loop-node.node-index in
    let first = first_at awaits node.words.items.items c.in-Some.word
    (sym (c.in-Some.ensures ∙ ap (λ (xs : List StoredWord). position awaits xs) c.as_slice.ensures.value)) in
    record {
      place = i;
      node = node;
      there = slice_get_read nodes (length nodes) i node refl c.loop-node-test.true c.node-item.is;
      number = c.in-Some.word;
      word = first.0;
      has = first.1;
      awaits = first.2;
      named = refl;
    }

pub loop-node-preserved : goal.loop-node-preserved
loop-node-preserved c =
    let nodes = c.args.nodes.now in let node = c.node-item.result in let i = c.loop-node.node-index in
    All-more AwaitNothing nodes i node c.loop-node-test.true c.loop-node.invariant
    (subst AwaitNothing c.node-item.is (no_position awaits node.words.items.items
    (sym (c.in_default.ensures ∙ ap (λ (xs : List StoredWord). position awaits xs) c.as_slice.ensures.value))))

pub returns-clause-none : goal.returns-clause-none
returns-clause-none c =
    let nodes = c.args.nodes.now in let i = c.loop-node.node-index in
    All-same AwaitNothing nodes (take i nodes) (sym (take_all i nodes c.loop-node-test.false)) c.loop-node.invariant
