use Rattle.std.proofs.Common.{◌≡◌, ℕ, List, [], Option, refl, sym}
use Rattle.twiring.specs.declared.flaws.Part.{Part}
use Rattle.twiring.specs.declared.flaws.TextFlaw.{TextFlaw}
use Rattle.twiring.specs.declared.flaws.TextFlaw.TheVariants as flaw
use Rattle.tfiles.proofs.Told.{tells_as, tells_none}
use Rattle.tcheck.specs.TextSentences.{advice_text}
use Rattle.tcheck.proofs.text_sentences.put_advice.Goals as goal

-- no other flaw has advice
no_advice : (f : TextFlaw) → ((p : Part) (k : List ℕ) (near : Option (List ℕ)) → f ≡ flaw.UnknownKey p k near → ⊥)
    → advice_text f ≡ []
no_advice (flaw.UnknownKey p k near) other = absurd (other p k near refl)
no_advice flaw.NoToml other = refl
no_advice (flaw.BadKey p k f) other = refl
no_advice (flaw.NoTable p) other = refl

pub returns-in_default : goal.returns-in_default
returns-in_default g c =
    tells_as (tells_none c.args.out.now) (sym (no_advice c.args.flaw.now c.in_default.not-UnknownKey))
