use Rattle.std.proofs.Common.{ap, ◌∙◌}
use Rattle.tprocesses.specs.Touching.{part_of}
use Rattle.tcertify.specs.declared.word_use.WordUse.TheVariants.{Free}
use Rattle.tcertify.specs.Spans.{bytes_in, span_cells}
use Rattle.tcertify.proofs.SpanPuts.{puts_span, source_sized, source_written}
use Rattle.tcertify.proofs.stored.Words.copy_span.Goals as goal

pub returns-then-target-source-clause-change : goal.returns-then-target-source-clause-change
returns-then-target-source-clause-change c =
    let w = c.args.self.now in let b = c.give_use.new.self in let v = c.copy_down.new.self in
    let from = c.args.from.now in let to = c.args.to.now in
    let left = c.give_use.ensures.bytes ∙ ap bytes_in c.note_span.ensures.items in
    let written = rw (c.place_of-source.ensures, c.place_of-target.ensures) at c.copy_down.ensures in
    puts_span w c.note_span.new.self b v to Free (part_of from (span_cells w from)) c.note_span.ensures
    c.give_use.ensures
    (source_written w b v from to c.requires.source c.requires.sized left written)
    (source_sized w b v from to c.requires.source c.requires.sized left written) c.requires.target

pub returns-else-target-source-clause-change : goal.returns-else-target-source-clause-change
returns-else-target-source-clause-change c =
    let w = c.args.self.now in let b = c.give_use.new.self in let v = c.copy_up.new.self in
    let from = c.args.from.now in let to = c.args.to.now in
    let left = c.give_use.ensures.bytes ∙ ap bytes_in c.note_span.ensures.items in
    let written = rw (c.place_of-source.ensures, c.place_of-target.ensures) at c.copy_up.ensures in
    puts_span w c.note_span.new.self b v to Free (part_of from (span_cells w from)) c.note_span.ensures
    c.give_use.ensures
    (source_written w b v from to c.requires.source c.requires.sized left written)
    (source_sized w b v from to c.requires.source c.requires.sized left written) c.requires.target
