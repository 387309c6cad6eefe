use Rattle.std.proofs.Common.{◌∙◌, ap, Bor, Some, sym}
use Rattle.std.specs.Prelude.{option_map}
use Rattle.clap.specs.Words.{Text}
use Rattle.twords.proofs.WordReads.{text_maybe}
use Rattle.twords.proofs.arguments.optional_file.Goals as goal

pub returns-in_ok-from_str-in-Some : goal.returns-in_ok-from_str-in-Some
returns-in_ok-from_str-in-Some c =
    let given = text_maybe c.args.given.now c.args.id.now c.get_str.result c.get_str.ensures in
    ap Some c.in_ok-from_str-in-Some.ensures ∙ (ap (option_map (λ (s : Bor Text). s.now)) (sym c.in-Some.is) ∙ given)

pub returns-in-None : goal.returns-in-None
returns-in-None c =
    let given = text_maybe c.args.given.now c.args.id.now c.get_str.result c.get_str.ensures in
    ap (option_map (λ (s : Bor Text). s.now)) (sym c.in-None.is) ∙ given
