use Rattle.std.proofs.Common.{refl}
use Rattle.std.proofs.lemmas.Option.{IfSome_then}
use Rattle.tcertify.specs.Carried.{with_left}
use Rattle.tcertify.specs.Cells.{cells_of}
use Rattle.tcertify.specs.Contexts.{context_of}
use Rattle.tcertify.proofs.NotedWords.{alone_noted, loads_from_noted, loads_noted}
use Rattle.tcertify.proofs.Places.{none_so}
use Rattle.tcertify.proofs.stored.Words.executes_noted.Goals as goal

pub returns-in_ok-cells-in-Ldl-clause-done : goal.returns-in_ok-cells-in-Ldl-clause-done
returns-in_ok-cells-in-Ldl-clause-done c =
    rw (c.pushed.ensures, c.known_value-value.ensures, c.are_known.ensures, c.word.ensures)
    (loads_noted c.args.self.now (context_of c.args.context.now) c.args.instruction.now c.word_address.result
    (cells_of c.in_ok-cells-in-Ldl.cells) c.word_address.ensures c.in-Ldl.is c.in_ok-cells-in-Ldl.ensures)

pub returns-in_ok-cells-in-Ldnl-clause-done : goal.returns-in_ok-cells-in-Ldnl-clause-done
returns-in_ok-cells-in-Ldnl-clause-done c =
    rw (
      c.replaced.ensures,
      c.known_value-value-in-Ldnl.ensures,
      c.are_known-in-Ldnl.ensures,
      c.word-in-Ldnl.ensures,
    )
    (loads_from_noted c.args.self.now (context_of c.args.context.now) c.args.instruction.now
    c.in_ok-context-in-Ldnl.field-0 c.in_ok-context-in-Ldnl.was c.word_address-in-Ldnl.result
    (cells_of c.in_ok-cells-in-Ldnl.cells) c.word_address-in-Ldnl.ensures c.in-Ldnl.is c.in_ok-cells-in-Ldnl.ensures)

pub returns-in_default-clause-done : goal.returns-in_default-clause-done
returns-in_default-clause-done c =
    let ctx = context_of c.args.context.now in
    IfSome_then c.left_alone.result c.left_alone.ensures
    (λ left l. alone_noted c.args.self.now ctx c.args.instruction.now (with_left ctx left) l)

pub returns-in_default-clause-kept : goal.returns-in_default-clause-kept
returns-in_default-clause-kept c = none_so c.left_alone.result refl
