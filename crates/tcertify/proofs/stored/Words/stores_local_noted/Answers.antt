use Rattle.tcertify.specs.Contexts.{context_of}
use Rattle.tcertify.proofs.NotedWords.{stores_noted}
use Rattle.tcertify.proofs.stored.Words.stores_local_noted.Goals as goal

pub returns-clause-done : goal.returns-clause-done
returns-clause-done c =
    rw c.popped.ensures
    (stores_noted c.args.self.now (context_of c.args.context.now) c.args.instruction.now c.word_address-address.result
    c.unwrap_or-value.result c.is_some.result c.writes_noted.new.self c.word_address-address.ensures
    (rw c.new.ensures at c.unwrap_or-value.ensures) c.is_some.ensures c.requires
    (rw c.known_if.ensures at (c.writes_noted.ensures.done c.if-not-writes_noted.false)) c.writes_noted.ensures.site
    c.writes_noted.ensures.notes)
