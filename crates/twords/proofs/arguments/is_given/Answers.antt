use Rattle.std.proofs.Common.{◌∙◌, ap, Bor, Option, false, sym, codes, bytes_eq}
use Rattle.std.specs.Prelude.{option_map}
use Rattle.std.specs.Option.{option_map_or}
use Rattle.clap.specs.Words.{Text}
use Rattle.twords.proofs.WordReads.{text_maybe}
use Rattle.twords.proofs.arguments.is_given.Goals as goal

pub returns-in-Some : goal.returns-in-Some
returns-in-Some c =
    let given = text_maybe c.args.given.now c.args.id.now c.get_str.result c.get_str.ensures in
    c.eq.ensures
    ∙ ap (λ (value : Option Text). option_map_or (λ t. bytes_eq t (codes "true")) value false)
    (ap (option_map (λ (s : Bor Text). s.now)) (sym c.in-Some.is) ∙ given)

pub returns-in-None : goal.returns-in-None
returns-in-None c =
    let given = text_maybe c.args.given.now c.args.id.now c.get_str.result c.get_str.ensures in
    ap (λ (value : Option Text). option_map_or (λ t. bytes_eq t (codes "true")) value false)
    (ap (option_map (λ (s : Bor Text). s.now)) (sym c.in-None.is) ∙ given)
