use Rattle.std.proofs.Common.{Bool, [], ◌∷◌, ap, ◌∙◌}
use Rattle.std.specs.Prelude.{if◌then◌else◌}
use Rattle.tword.specs.Stores.{Store, as_cells, hiding_from}
use Rattle.tfiles.specs.Texts.{is_pending}
use Rattle.tfiles.proofs.Told.{tells_as, tells_none, tells_then}
use Rattle.tjson.specs.Json.{listed_from}
use Rattle.tjson.specs.Runs.{line_object}
use Rattle.tjson.proofs.Commas.{listed_one}
use Rattle.tjson.proofs.memory.put_next_line.Goals as goal

pub returns-then-are_zero-clause-told : goal.returns-then-are_zero-clause-told
returns-then-are_zero-clause-told g c =
    let cells : Store = hiding_from (is_pending c.args.pending.now) c.args.address (as_cells c.args.bytes.now) in
    tells_as (tells_none c.args.out.now)
    (ap (λ (zeros : Bool). listed_from c.args.is_first (if zeros then [] else line_object c.args.address cells ∷ []))
    c.if-are_zero.ensures)

pub returns-clause-told : goal.returns-clause-told
returns-clause-told g c =
    let cells : Store = hiding_from (is_pending c.args.pending.now) c.args.address (as_cells c.args.bytes.now) in
    tells_as (tells_then c.put_comma.ensures c.put_line.ensures)
    (listed_one c.args.is_first (line_object c.args.address cells)
    ∙ ap (λ (zeros : Bool). listed_from c.args.is_first (if zeros then [] else line_object c.args.address cells ∷ []))
    c.if-are_zero.ensures)
