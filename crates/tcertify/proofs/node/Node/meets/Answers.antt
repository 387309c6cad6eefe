use Rattle.std.proofs.Common.{◌≡◌, ◌∙◌, ℕ, sym, ap, refl, length, true}
use Rattle.std.proofs.lemmas.Result.{err_from_is_err_and}
use Rattle.std.proofs.lemmas.Option.{slice_get_read}
use Rattle.std.specs.Int.{w32, to_le_bytes}
use Rattle.tword.specs.Stores.{Store}
use Rattle.tproc.specs.Queues.{not_process}
use Rattle.tprocesses.specs.Changes.{free_word}
use Rattle.tprocesses.specs.Performing.{bytes_if}
use Rattle.tprocesses.specs.Touching.{word_number}
use Rattle.tprocesses.specs.Values.{Free, Word}
use Rattle.tcertify.specs.Cells.{cells_of}
use Rattle.tcertify.specs.Nodes.{address_at}
use Rattle.tcertify.specs.Words.{reason_of}
use Rattle.tcertify.proofs.Messages.{address_is, alike, meets_so, meets_unequal, meets_unused, unlike}
use Rattle.tcertify.proofs.node.Node.meets.Goals as goal

pub returns-then-input-output : goal.returns-then-input-output
returns-then-input-output c =
    meets_unequal c.args.self.now c.args.channel c.args.input.now.process c.args.output.now.process
    c.args.input.now.buffer c.args.output.now.buffer (unlike _ _ c.if-input-output.true)

pub returns-in_err-expect_word : goal.returns-in_err-expect_word
returns-in_err-expect_word c =
    let a = c.args.self.now in let chs = a.channels.items.items in
    let there = slice_get_read chs (length chs) c.args.channel c.index.result.now refl c.requires.there c.index.ensures
    in
    let at : c.word_number-word.result ≡ word_number (address_at a c.args.channel) =
    c.word_number-word.ensures ∙ ap word_number (sym (address_is a c.args.channel c.index.result.now there)) in
    let p = err_from_is_err_and c.from_residual.result c.from_residual.ensures.1 in
    rw (p.1, p.2)
    (meets_unused a c.args.channel c.args.input.now.process c.args.output.now.process c.args.input.now.buffer
    c.args.output.now.buffer (alike _ _ c.if-input-output.false) c.expect_word.new.self c.word_number-word.result at
    (reason_of c.in_err-expect_word.field-0.0) c.in_err-expect_word.ensures.looks)

pub returns-in_err-passes : goal.returns-in_err-passes
returns-in_err-passes c =
    let a = c.args.self.now in let chs = a.channels.items.items in
    let there = slice_get_read chs (length chs) c.args.channel c.index.result.now refl c.requires.there c.index.ensures
    in
    let at : c.word_number-word.result ≡ word_number (address_at a c.args.channel) =
    c.word_number-word.ensures ∙ ap word_number (sym (address_is a c.args.channel c.index.result.now there)) in
    let word : Word = record { cells = cells_of c.known.result; used = Free } in
    let freed : word ≡ free_word not_process =
    ap (λ (l : Store). record { cells = l; used = Free })
    (c.known.ensures ∙ ap (λ (n : ℕ). bytes_if true (to_le_bytes w32 n)) c.new.ensures) in
    let p = err_from_is_err_and c.from_residual-in_err-passes.result c.from_residual-in_err-passes.ensures.1 in
    rw (p.1, p.2)
    (meets_so a c.args.channel c.args.input.now.process c.args.output.now.process c.args.input.now.buffer
    c.args.output.now.buffer (alike _ _ c.if-input-output.false) c.expect_word.new.self c.word_number-word.result at
    (cells_of c.in_ok-expect_word.field-0) word c.put.new.self _ _ freed c.requires.there c.requires.input
    c.requires.output c.in_ok-expect_word.ensures.looks c.put.ensures c.in_err-passes.ensures)

pub returns : goal.returns
returns c =
    let a = c.args.self.now in let chs = a.channels.items.items in
    let there = slice_get_read chs (length chs) c.args.channel c.index.result.now refl c.requires.there c.index.ensures
    in
    let at : c.word_number-word.result ≡ word_number (address_at a c.args.channel) =
    c.word_number-word.ensures ∙ ap word_number (sym (address_is a c.args.channel c.index.result.now there)) in
    let word : Word = record { cells = cells_of c.known.result; used = Free } in
    let freed : word ≡ free_word not_process =
    ap (λ (l : Store). record { cells = l; used = Free })
    (c.known.ensures ∙ ap (λ (n : ℕ). bytes_if true (to_le_bytes w32 n)) c.new.ensures) in
    meets_so a c.args.channel c.args.input.now.process c.args.output.now.process c.args.input.now.buffer
    c.args.output.now.buffer (alike _ _ c.if-input-output.false) c.expect_word.new.self c.word_number-word.result at
    (cells_of c.in_ok-expect_word.field-0) word c.put.new.self _ _ freed c.requires.there c.requires.input
    c.requires.output c.in_ok-expect_word.ensures.looks c.put.ensures c.in_ok-passes.ensures
