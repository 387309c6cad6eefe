use Rattle.std.proofs.Common.{ap}
use Rattle.tfiles.proofs.Told.{tells_as, tells_then}
use Rattle.std.proofs.Common.{ℕ, List, codes, length}
use Rattle.tcheck.specs.Sentences.{numbered}
use Rattle.tcheck.proofs.summaries.put_source.Goals as goal

pub returns : goal.returns
returns g c =
    tells_then c.put_numbered.ensures
    (tells_then (tells_as c.put_numbered-2.ensures
    (ap (λ (ms : List (List ℕ)). numbered (codes ": messages ") (length ms)) c.as_slice.ensures))
    (tells_then c.put_behind.ensures c.put.ensures))
