use Rattle.std.proofs.Common.{ℕ, List, ap, ◌∙◌, arith, length, map}
use Rattle.tfiles.proofs.Told.{goes_on-as, goes_on-start, goes_on-next, goes_on-end, tells_then}
use Rattle.tjson.specs.Json.{listed, listed_from}
use Rattle.tjson.specs.Runs.{bytes_value}
use Rattle.tjson.proofs.Commas.{listed_begin, listed_next}
use Rattle.tjson.proofs.scripts.put_messages.Goals as goal

pub loop-message-init : goal.loop-message-init
loop-message-init g c =
    goes_on-as (goes_on-start c.args.out.now (listed (map bytes_value c.args.kept)))
    (listed_begin (map bytes_value c.args.kept))

pub loop-message-smaller : goal.loop-message-smaller
loop-message-smaller g c = omega (arith, ap length c.in-Some.ensures)

pub loop-message-preserved : goal.loop-message-preserved
loop-message-preserved g c =
    goes_on-next _ _ c.loop-message.invariant
    (ap (λ (kept : List (List ℕ)). listed_from c.loop-message.is_first (map bytes_value kept)) c.in-Some.ensures
    ∙ listed_next c.loop-message.is_first (bytes_value c.in-Some.message.now) _)
    (tells_then c.put_comma.ensures c.put_bytes.ensures)

pub returns : goal.returns
returns g c =
    goes_on-end c.loop-message.invariant
    (ap (λ (kept : List (List ℕ)). listed_from c.loop-message.is_first (map bytes_value kept))
    c.in_default.ensures.0)
