use Rattle.std.proofs.Common.{ap}
use Rattle.tfiles.proofs.Told.{tells_as, tells_then}
use Rattle.std.proofs.Common.{ℕ, List}
use Rattle.tcheck.specs.Sentences.{flaw_text}
use Rattle.tcheck.proofs.sentences.put_wrong.Goals as goal

pub returns : goal.returns
returns g c =
    tells_then
    (tells_then c.put_place.ensures
    (tells_then c.put.ensures
    (tells_as c.put_flaw.ensures (ap (λ (n : List ℕ). flaw_text n c.args.wrong.flaw) c.image_name.ensures))))
    c.put-2.ensures
