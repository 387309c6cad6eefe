use Rattle.std.proofs.Common.{List, rules, bytes_eq, ℕ}
use Rattle.std.proofs.lemmas.Iterator.{YieldsList-from_slice}
use Rattle.std.proofs.lemmas.Iterator.Search.{any_from_yields_List}
use borrow.Author.Tests.{tests}
use Rattle.tcheck.proofs.lines.has_sentence.Goals as goal

pub returns : goal.returns
returns c =
    any_from_yields_List (λ (told : List ℕ). bytes_eq told c.args.sentence.now) _ _ _ c.any.ensures.ran
    (YieldsList-from_slice c.args.sentences.now c.iter.ensures.rest) (λ x b q k. search (rules, tests))
