use Rattle.std.proofs.Common.{◌≡◌, ℕ, [], ap, sym, refl}
use Rattle.tfiles.proofs.Told.{tells_as, tells_none}
use Rattle.tplan.specs.declared.plan.End.{End}
use Rattle.tchart.specs.declared.marks.Begun.{Begun}
use Rattle.tchart.specs.declared.marks.Mark.{Mark}
use Rattle.tchart.specs.declared.marks.Mark.TheVariants as mark
use Rattle.tchart.specs.declared.shown.Message.{Message}
use Rattle.tchart.specs.Drawing.{label_text}
use Rattle.tchart.proofs.drawing.put_label.Goals as goal

pub returns-in-Message : goal.returns-in-Message
returns-in-Message g c = tells_as c.put_message_label.ensures (ap label_text (sym c.in-Message.is))

-- what is no arrow has no text above all shapes
no_label : (m : Mark)
    → ((to : End) (begun : Begun) (row k : ℕ) (message : Message) → m ≡ mark.Message to begun row k message → ⊥)
    → label_text m ≡ []
no_label (mark.Bar n b) other = refl
no_label (mark.Pause n lane q to last) other = refl
no_label (mark.Begin n row k l process) other = refl
no_label (mark.Message to begun row k message) other = absurd (other to begun row k message refl)
no_label (mark.Halt n row k) other = refl
no_label (mark.Freeze n row k broken) other = refl

pub returns-in_default : goal.returns-in_default
returns-in_default g c =
    tells_as (tells_none c.args.out.now) (sym (no_label c.args.mark.now c.in_default.not-Message))
