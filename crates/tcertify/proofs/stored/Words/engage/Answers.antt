use Rattle.std.proofs.Common.{◌≡◌, ◌<◌, ℕ, ◌-◌, ◌/◌, refl, sym, subst, ap, length, arith, ◌∙◌}
use Rattle.std.proofs.lemmas.Option.{slice_get_read}
use Rattle.tword.specs.Stores.{Store}
use Rattle.tword.specs.Words.{most_neg}
use Rattle.tprocesses.specs.Values.{Word, IsWord}
use Rattle.tprocesses.specs.Changes.{Engage}
use Rattle.tprocesses.specs.Touching.{word_number}
use Rattle.tcertify.specs.Words.{use_of}
use Rattle.tcertify.specs.declared.notes.Mode.TheVariants.{Engages}
use Rattle.tcertify.proofs.Noting.{has_change}
use Rattle.tcertify.proofs.Blind.{changes_word, touched_blind}
use Rattle.tcertify.proofs.stored.Words.engage.Goals as goal

pub returns-clause-change : goal.returns-clause-change
returns-clause-change c =
    let w = c.args.self.now in let v = c.note.new.self in
    let words = v.items.items in let stored = c.index-stored.result.now in
    let number : ℕ = c.saturating_sub.result / 4 in
    let at : number ≡ word_number c.args.address =
    ap (λ (n : ℕ). n / 4) (c.saturating_sub.ensures ∙ ap (λ (n : ℕ). n - most_neg) c.get.ensures) in
    let fits : number < length w.items.items = omega (arith, at, c.requires) in
    let inside : number < length words =
    subst (λ (n : ℕ). number < n) (sym (ap length c.note.ensures.items)) fits in
    let there = slice_get_read words (length words) number stored refl inside c.index-stored.ensures in
    let is = ap (λ (x : Store). record { cells = x; used = use_of c.taken-used.result }) c.unknown.ensures
    ∙ c.taken-used.ensures in
    touched_blind w v c.set.new.self c.args.address number Engages Engage c.note.ensures at
    (changes_word v c.set.new.self c.args.address number Engage stored c.unknown.result c.taken-used.result at there
    c.set.ensures (ap (λ (x : Word). IsWord x) (sym is)) (has_change v number Engages c.note.ensures.tells Engage refl))
