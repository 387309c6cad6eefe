use Rattle.std.proofs.Common.{ap, ◌∙◌}
use Rattle.tword.specs.Words.{plus}
use Rattle.tword.specs.Stores.{Store, with_word}
use Rattle.tcode.proofs.Known.{marked_same, marked_then}
use Rattle.tcpu.proofs.Marked.{put_none, put_word}
use Rattle.tcpu.proofs.registers.Registers.go_round.Goals as goal

pub returns-then-signed-gt0-clause-marked : goal.returns-then-signed-gt0-clause-marked
returns-then-signed-gt0-clause-marked c = λ words claims count index unmarked_count unmarked_index.
    let s : Store = c.args.memory.now in
    let at = c.plus-count.ensures ∙ ap (plus c.args.self.now.b) c.new.ensures in
    let one = put_word words s s claims c.plus-count.result c.args.left (put_none words s) (rw at count)
    (rw at unmarked_count) in
    let two = put_word words s _ claims c.args.self.now.b c.plus-risen.result one index unmarked_index in
    marked_then words s _ c.set_word-then-signed-gt0.new.self two.stands
    (marked_same words _ c.set_word-then-signed-gt0.new.self
    (c.set_word-then-signed-gt0.ensures.set
    ∙ ap (λ (t : Store). with_word t c.args.self.now.b c.plus-risen.result) c.set_word.ensures.set))

pub returns-else-signed-gt0-clause-marked : goal.returns-else-signed-gt0-clause-marked
returns-else-signed-gt0-clause-marked c = λ words claims count index unmarked_count unmarked_index.
    let s : Store = c.args.memory.now in
    let at = c.plus-count.ensures ∙ ap (plus c.args.self.now.b) c.new.ensures in
    let one = put_word words s s claims c.plus-count.result c.args.left (put_none words s) (rw at count)
    (rw at unmarked_count) in
    marked_then words s _ c.set_word-else-signed-gt0.new.self one.stands
    (marked_same words _ c.set_word-else-signed-gt0.new.self c.set_word-else-signed-gt0.ensures.set)
