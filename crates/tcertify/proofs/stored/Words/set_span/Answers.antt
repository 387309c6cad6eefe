use Rattle.std.proofs.Common.{ℕ, ◌*◌, subst, sym, ◌∙◌, length}
use Rattle.tword.specs.Stores.{place}
use Rattle.tcertify.specs.Spans.{FitsIn}
use Rattle.tcertify.proofs.SpanPuts.{fits_in, puts_span}
use Rattle.tcertify.proofs.stored.Words.set_span.Goals as goal

pub returns-clause-change : goal.returns-clause-change
returns-clause-change c =
    puts_span c.args.self.now c.note_span.new.self c.give_use.new.self c.set_bytes.new.self c.args.span.now
    c.args.used c.args.bytes.now c.note_span.ensures c.give_use.ensures (rw c.place_of.ensures at c.set_bytes.ensures)
    c.requires.sized c.requires.words

pub set_bytes-requires : goal.set_bytes-requires
set_bytes-requires c =
    let span = c.args.span.now in
    let n = c.give_use.ensures.same.sized ∙ c.note_span.ensures.same.sized in
    rw c.place_of.ensures
    (subst (λ (m : ℕ). FitsIn (4 * m) (place span.start) (length c.args.bytes.now)) (sym n)
    (subst (λ (m : ℕ). FitsIn (4 * length c.args.self.now.items.items) (place span.start) m) (sym c.requires.sized)
    (fits_in (length c.args.self.now.items.items) span c.requires.words)))
