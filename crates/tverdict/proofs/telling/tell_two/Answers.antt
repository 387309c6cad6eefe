use Rattle.std.proofs.Common.{arith, map}
use Rattle.std.proofs.lemmas.Result.{MatchResult-weaker, on_ok_weaker}
use Rattle.tfollow.specs.Telling.{told_of}
use Rattle.tverdict.proofs.Told.{accessed_twice, clocks_accessed, halted_twice}
use Rattle.tverdict.proofs.telling.tell_two.Goals as goal

pub tell_notes-requires-2-clause-agent : goal.tell_notes-requires-2-clause-agent
tell_notes-requires-2-clause-agent c =
    omega (
      arith,
      c.requires.agent,
      clocks_accessed c.args.step (map told_of c.args.first.now) c.args.check.now
          c.tell_notes.new.check c.in_ok-tell_notes.ensures.ok,
    )

pub returns-clause-ok : goal.returns-clause-ok
returns-clause-ok c =
    on_ok_weaker c.tell_notes-2.result (λ are. accessed_twice c.args.step (map told_of c.args.first.now)
    (map told_of c.args.second.now) c.args.check.now c.tell_notes.new.check c.tell_notes-2.new.check
    c.in_ok-tell_notes.ensures.ok are) c.tell_notes-2.ensures.ok

pub returns-clause-err : goal.returns-clause-err
returns-clause-err c =
    MatchResult-weaker c.tell_notes-2.result c.tell_notes-2.ensures.err (λ x h. h) (λ halt halted.
    halted_twice c.args.step (map told_of c.args.first.now) c.args.check.now c.tell_notes.new.check
    c.tell_notes-2.new.check halt c.in_ok-tell_notes.ensures.ok halted)
