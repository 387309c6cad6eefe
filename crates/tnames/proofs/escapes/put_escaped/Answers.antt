use Rattle.std.proofs.Common.{◌≡◌, ℕ, ◌<◌, ◌∙◌, List, [], ◌∷◌, ◌++◌, ap₂, arith, drop, flat_map, get_or, length, sym}
use Rattle.std.proofs.lemmas.Iterator.{YieldsList-from_chars}
use Rattle.std.proofs.lemmas.Iterator.Consumers.{YieldsList-turn, YieldsList-end}
use Rattle.std.proofs.lemmas.List.{length_push}
use Rattle.std.specs.Str.{chars}
use Rattle.tnames.specs.Escapes.{escaped_letter, escaped_text}
use Rattle.tfiles.proofs.LeftText.{flat_map-next, flat_map-end}
use Rattle.tfiles.proofs.Told.{goes_on-start, goes_on-next, goes_on-end}
use Rattle.tnames.proofs.escapes.put_escaped.Goals as goal

-- the text of characters, from one of them on
letters-next : (letters told : List ℕ) (c : ℕ)
    → (length told < length letters) × (c ≡ get_or letters (length told) c)
    → flat_map escaped_letter (drop (length told) letters)
    ≡ escaped_letter c ++ flat_map escaped_letter (drop (length (told ++ c ∷ [])) letters)
letters-next letters told c h =
    flat_map-next escaped_letter letters (length told) c h.0
    ∙ ap₂ (λ (x n : ℕ). escaped_letter x ++ flat_map escaped_letter (drop n letters)) (sym h.1)
    (sym (length_push told c))

pub loop-letter-init : goal.loop-letter-init
loop-letter-init g c = goes_on-start c.args.out.now (escaped_text c.args.text.now)

pub loop-letter-preserved : goal.loop-letter-preserved
loop-letter-preserved g c =
    let t = YieldsList-turn (YieldsList-from_chars c.args.text.now c.utf8.text cc) c.loop-letter.yielded _
    c.loop-letter.yielded_by _ _ c.in-Some.letter c.in-Some.is c.next.ensures.steps in
    goes_on-next _ _ c.loop-letter.invariant
    (letters-next (chars c.args.text.now) c.loop-letter.yielded c.in-Some.letter t) c.put_letter.ensures

pub returns : goal.returns
returns g c =
    let t = YieldsList-end (YieldsList-from_chars c.args.text.now c.utf8.text cc) c.loop-letter.yielded _
    c.loop-letter.yielded_by _ _ c.in-None.is c.next.ensures.steps in
    goes_on-end c.loop-letter.invariant
    (flat_map-end escaped_letter (chars c.args.text.now) (length c.loop-letter.yielded) (omega (arith, t.1)))
