use Rattle.std.proofs.Common.{◌≡◌, ◌<◌, ℕ, refl, length, sym, subst, ap, false, true, arith, eq-eqb, Err, Ok}
use Rattle.std.specs.Prelude.{◌==◌}
use Rattle.std.proofs.lemmas.Bool.Decides.{nat_tests}
use Rattle.std.proofs.lemmas.Option.{slice_get_read}
use Rattle.tword.specs.declared.breaks.Break.TheVariants.{InTransit}
use Rattle.tprocesses.specs.Parts.{Breaks}
use Rattle.tprocesses.specs.Touching.{Site, unsent}
use Rattle.tcertify.proofs.Noting.{has_outputs, runs_noted}
use Rattle.tcertify.proofs.Places.{outputs_seen}
use Rattle.tcertify.proofs.Running.{runs_given, runs_stopping}
use Rattle.tcertify.proofs.stored.Words.unsent.Goals as goal

pub returns-then-index-ne0-clause-change : goal.returns-then-index-ne0-clause-change
returns-then-index-ne0-clause-change c =
    let w = c.args.self.now in let v = c.note.new.self in
    let words = v.items.items in let stored = c.index.result.now in
    let inside = subst (λ (n : ℕ). c.args.number < n) (sym (ap length c.note.ensures.items)) c.requires.word in
    let there = slice_get_read words (length words) c.args.number stored refl inside c.index.ensures in
    let some : (stored.sending == 0) ≡ false = grind (arith, nat_tests, c.if-index-ne0.true) in
    runs_noted (λ (s : Site). unsent s c.args.number) w v v c.args.number c.args.mode _ c.note.ensures
    (outputs_seen v c.args.number stored there
    (has_outputs v c.args.number c.args.mode c.note.ensures.tells c.requires.tells) (Err (Breaks InTransit)) false some
    (runs_stopping (Breaks InTransit) v))

pub returns-clause-change : goal.returns-clause-change
returns-clause-change c =
    let w = c.args.self.now in let v = c.note.new.self in
    let words = v.items.items in let stored = c.index.result.now in
    let inside = subst (λ (n : ℕ). c.args.number < n) (sym (ap length c.note.ensures.items)) c.requires.word in
    let there = slice_get_read words (length words) c.args.number stored refl inside c.index.ensures in
    runs_noted (λ (s : Site). unsent s c.args.number) w v v c.args.number c.args.mode _ c.note.ensures
    (outputs_seen v c.args.number stored there
    (has_outputs v c.args.number c.args.mode c.note.ensures.tells c.requires.tells) (Ok tt) true
    (eq-eqb stored.sending 0 c.if-index-ne0.false) (runs_given tt v))
