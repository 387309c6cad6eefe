use Rattle.std.proofs.Common.{ℕ, ◌≡◌, ◌+◌, ◌*◌, ◌<◌, ◌∙◌, List, ◌++◌, Bool, true, ap, sym, subst, length, min}
use Rattle.std.specs.Prelude.{◌&&◌, slice_range}
use Rattle.std.specs.List.{list_all}
use Rattle.tword.specs.Stores.{Store, as_cells, hiding, hiding_from}
use Rattle.tword.specs.Words.{most_neg}
use Rattle.tfiles.specs.Outputs.{Tells}
use Rattle.tfiles.specs.Texts.{is_pending, is_zero}
use Rattle.tfiles.proofs.DumpLines.{is_behind, is_within}
use Rattle.tfiles.proofs.Told.{goes_on-as, goes_on-start, goes_on-next, goes_on-end}
use Rattle.tjson.specs.Json.{listed, listed_from}
use Rattle.tjson.specs.Runs.{line_values, memory_values}
use Rattle.tjson.proofs.Commas.{listed_begin}
use Rattle.tjson.proofs.Memories.{listed_line, value_of, values_begin, values_end, values_from, values_next}
use Rattle.tjson.proofs.memory.put_lines.Goals as goal

pub loop-line-init : goal.loop-line-init
loop-line-init g c =
    let store : Store = hiding (is_pending c.args.pending.now) (as_cells c.args.bytes.now) in
    goes_on-as (goes_on-start c.args.out.now (listed (memory_values store)))
    (listed_begin (memory_values store)
    ∙ ap (λ (values : List (List ℕ)). listed_from true values) (values_begin store))

pub loop-line-preserved : goal.loop-line-preserved
loop-line-preserved g c =
    let hides : ℕ → Bool = is_pending c.args.pending.now in
    let bytes : List ℕ = c.args.bytes.now in
    let line : ℕ = c.loop-line.line in
    let is_first : Bool = c.loop-line.is_first in
    let a : ℕ = most_neg + 16 * line in
    let cells_to : ℕ → Store = λ end. hiding_from hides a (as_cells (slice_range bytes (16 * line) end)) in
    let more : List (List ℕ) = values_from most_neg (line + 1) (hiding hides (as_cells bytes)) in
    let within : 16 * line < length bytes = is_within _ _ _ c.div_ceil-line-end.ensures c.loop-line-test.true in
    let told : Tells g.W.Write.contents g.W.CountedWrite.failures c.loop-line.out c.put_next_line-is_first.new.out
    (listed_from is_first (value_of hides most_neg line bytes)) =
    subst (λ (end : ℕ). Tells g.W.Write.contents g.W.CountedWrite.failures c.loop-line.out
    c.put_next_line-is_first.new.out (listed_from is_first (line_values a (cells_to end)))) c.min-end.ensures
    c.put_next_line-is_first.ensures.told in
    let first : (is_first && list_all is_zero (cells_to (min (length bytes) (16 * line + 16))))
    ≡ c.put_next_line-is_first.result =
    subst (λ (end : ℕ). (is_first && list_all is_zero (cells_to end)) ≡ c.put_next_line-is_first.result)
    c.min-end.ensures (sym c.put_next_line-is_first.ensures.first) in
    goes_on-next _ _ c.loop-line.invariant
    (ap (λ (values : List (List ℕ)). listed_from is_first values) (values_next hides most_neg line bytes within)
    ∙ listed_line is_first a (cells_to (min (length bytes) (16 * line + 16))) more
    ∙ ap (λ (b : Bool). listed_from is_first (value_of hides most_neg line bytes) ++ listed_from b more) first)
    told

pub returns : goal.returns
returns g c =
    goes_on-end c.loop-line.invariant
    (ap (λ (values : List (List ℕ)). listed_from c.loop-line.is_first values)
    (values_end (is_pending c.args.pending.now) most_neg c.loop-line.line c.args.bytes.now
    (is_behind _ _ _ c.div_ceil-line-end.ensures c.loop-line-test.false)))
