use Rattle.std.proofs.Common.{◌≡◌, ◌∙◌, Bor, List, Option, ap, codes, map, sym, []}
use Rattle.std.specs.Prelude.{option_map, unwrap_or}
use Rattle.std.proofs.lemmas.Result.{IfOk-weaker}
use Rattle.clap.specs.Matches.{found_of}
use Rattle.clap.specs.Walk.{Row, Text, rows_of}
use Rattle.clap.proofs.WalkLemmas.{raw_values-rows}
use Rattle.twords.specs.Arguments.{texts_at}
use Rattle.twords.specs.NamesFiles.{names_file_of}
use Rattle.twords.proofs.names_files.names_files.Goals as goal

-- the words that were given, as the texts of the rows
abbrev texts_of : Option (Bor (List (Bor Text))) → List Text
texts_of given = unwrap_or (option_map (λ (s : Bor (List (Bor Text))). map (λ (w : Bor Text). w.now) s.now) given) []

pub returns-in-Some : goal.returns-in-Some
returns-in-Some c =
    let rows : List Row = rows_of (found_of c.args.given.now) in
    let same : texts_of c.get_strs.result ≡ texts_at (codes "names") rows =
    ap (λ o. unwrap_or o []) (c.get_strs.ensures ∙ raw_values-rows (found_of c.args.given.now) (codes "names")) in
    let words : map (λ (w : Bor Text). w.now) c.in-Some.words.now ≡ texts_at (codes "names") rows =
    sym (ap texts_of c.in-Some.is) ∙ same in
    IfOk-weaker c.files_of.result _ _ (λ all h. h ∙ ap (map names_file_of) words) c.files_of.ensures

pub returns-in-None : goal.returns-in-None
returns-in-None c =
    let rows : List Row = rows_of (found_of c.args.given.now) in
    let same : texts_of c.get_strs.result ≡ texts_at (codes "names") rows =
    ap (λ o. unwrap_or o []) (c.get_strs.ensures ∙ raw_values-rows (found_of c.args.given.now) (codes "names")) in
    let words : [] ≡ texts_at (codes "names") rows =
    sym (ap texts_of c.in-None.is) ∙ same in
    IfOk-weaker c.files_of-in-None.result _ _ (λ all h. h ∙ ap (map names_file_of) words) c.files_of-in-None.ensures
