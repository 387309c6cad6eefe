use Rattle.std.proofs.Common.{ap, refl, arith}
use Rattle.tword.specs.Memories.{NodeMemory}
use Rattle.tcode.specs.Table.{function_at}
use Rattle.tcpu.specs.declared.registers.Registers.{Registers}
use Rattle.tcpu.specs.Rows.{CodeGone}
use Rattle.tcpu.proofs.Rows.{gone_at}
use Rattle.tcpu.proofs.execution.plain_chain.Goals as goal

pub returns-then-plain-clause-done : goal.returns-then-plain-clause-done
returns-then-plain-clause-done c = λ _.
    let memory : NodeMemory = c.args.memory.now in
    let start : Registers = c.args.registers.now in
    let kinds = ap (λ (m : NodeMemory). m.kind) c.memory.view_is in
    let bytes = ap (λ (m : NodeMemory). m.bytes) c.memory.view_is in
    let gone : CodeGone memory.kind (function_at c.args.chain.0) c.args.chain.1
    (record start { iptr = c.args.chain.2 }) memory.bytes c.args.marks.now c.plain.new.registers
    c.plain.new.memory = rw (← kinds, ← bytes) (c.if-plain.ensures.done refl) in
    gone_at memory.kind (function_at c.args.chain.0) c.args.chain.1 c.args.chain.2 _ start c.plain.new.registers
    memory.bytes c.plain.new.memory c.args.marks.now (omega arith) c.requires.decoded gone
