use Rattle.std.proofs.Common.{ap, sym, ◌∙◌, List, ℕ, codes, ◌++◌, flat_map}
use Rattle.std.specs.Int.{to_be_bytes, w32}
use Rattle.hex.specs.Hex.{encode_lower}
use Rattle.std.proofs.lemmas.List.Folds.{list_all-map}
use Rattle.tcertify.specs.Cells.{cells_of}
use Rattle.tfiles.specs.Logs.{line}
use Rattle.tfiles.proofs.LeftText.{flat_map-next, flat_map-end}
use Rattle.tfiles.proofs.Told.{tells_as, tells_none, tells_then, goes_on-start, goes_on-next, goes_on-end}
use Rattle.tfindings.specs.Cells.{is_zero, words_of}
use Rattle.tfindings.proofs.MemoryLines.{flat_of_words, left_out, line_shown, word_text}
use Rattle.tfindings.proofs.cells.put_line.Goals as goal

pub returns-then-are_zero : goal.returns-then-are_zero
returns-then-are_zero g c =
    tells_as (tells_none c.args.out.now)
    (left_out c.args.address (words_of c.args.words.now)
    (list_all-map is_zero (λ w. cells_of w.cells) c.args.words.now ∙ sym c.are_zero.ensures ∙ c.if-are_zero.true))

pub loop-word-init : goal.loop-word-init
loop-word-init g c = goes_on-start _ (flat_map word_text c.args.words.now)

pub loop-word-preserved : goal.loop-word-preserved
loop-word-preserved g c =
    goes_on-next _ _ c.loop-word.invariant
    (flat_map-next word_text c.args.words.now c.loop-word.word-index _ c.loop-word-test.true)
    c.put_word.ensures

pub returns : goal.returns
returns g c =
    tells_as (tells_then
    (tells_then (tells_as c.put_hex.ensures (ap encode_lower c.to_be_bytes.ensures))
    (tells_then c.put.ensures
    (goes_on-end c.loop-word.invariant
    (flat_map-end word_text c.args.words.now c.loop-word.word-index c.loop-word-test.false)))) c.put-2.ensures)
    (ap (λ (t : List ℕ). line (encode_lower (to_be_bytes w32 c.args.address) ++ (codes ":" ++ t)))
    (flat_of_words c.args.words.now)
    ∙ line_shown c.args.address (words_of c.args.words.now)
    (list_all-map is_zero (λ w. cells_of w.cells) c.args.words.now ∙ sym c.are_zero.ensures ∙ c.if-are_zero.false))
