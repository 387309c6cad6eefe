use Rattle.std.proofs.Common.{ap, ◌∙◌, arith, length}
use Rattle.std.proofs.lemmas.Option.{slice_get_within}
use Rattle.tprocesses.specs.Touching.{Site}
use Rattle.tcertify.specs.declared.notes.Notes.{Notes}
use Rattle.tcertify.proofs.Keeping.{length_set}
use Rattle.tcertify.proofs.OpenedWords.{opened_more}
use Rattle.tcertify.proofs.stored.Words.open.Goals as goal

pub loop-index-init : goal.loop-index-init
loop-index-init c =
    let e = c.in_ok-words.ensures in let size = ap (λ (s : Site). s.size) e.site in
    record {
      number = ap (λ (s : Site). s.number) e.site;
      kind = ap (λ (s : Site). s.kind) e.site;
      count = omega (arith, size);
      first = e.first;
      none = e.notes.0;
      kept = e.notes.1;
      opened = λ k w low there. absurd (omega (arith, low));
    }

pub loop-index-preserved : goal.loop-index-preserved
loop-index-preserved c =
    let inv = c.loop-index.invariant in let e = c.open_word.ensures in let ws = c.loop-index.words.items.items in
    record {
      number = e.number ∙ inv.number;
      kind = e.kind ∙ inv.kind;
      count = ap length e.items ∙ length_set ws c.loop-index.index e.word ∙ inv.count;
      first = e.first ∙ inv.first;
      none = ap (λ (n : Notes). n.items.items) e.notes ∙ inv.none;
      kept = ap (λ (n : Notes). n.is_lost) e.notes ∙ inv.kept;
      opened = λ k w low there. opened_more c.args.plan.now ws c.open_word.new.self.items.items c.loop-index.index
          e.word e.opened e.items inv.opened k w low there;
    }

pub returns-clause-words : goal.returns-clause-words
returns-clause-words c = λ k w there.
    let inside = slice_get_within c.loop-index.words.items.items k w there in
    let counted = c.loop-index.invariant.count in
    c.loop-index.invariant.opened k w (omega (arith, inside, counted, c.loop-index-test.false)) there
