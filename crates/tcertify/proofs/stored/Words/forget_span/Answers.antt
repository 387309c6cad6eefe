use Rattle.std.proofs.Common.{ℕ, ◌*◌, subst, sym, ◌∙◌, length, Option, None, replicate}
use Rattle.tword.specs.Stores.{place}
use Rattle.tcertify.specs.Spans.{FitsIn}
use Rattle.std.proofs.lemmas.List.{length-replicate}
use Rattle.tcertify.proofs.SpanPuts.{fits_in, puts_span}
use Rattle.tcertify.proofs.stored.Words.forget_span.Goals as goal

pub returns-clause-change : goal.returns-clause-change
returns-clause-change c =
    let span = c.args.span.now in let unknown : Option ℕ = None in
    puts_span c.args.self.now c.note_span.new.self c.give_use.new.self c.forget_bytes.new.self span c.args.used
    (replicate span.size unknown) c.note_span.ensures c.give_use.ensures
    (rw c.place_of.ensures at c.forget_bytes.ensures) (length-replicate span.size unknown) c.requires

pub forget_bytes-requires : goal.forget_bytes-requires
forget_bytes-requires c =
    let span = c.args.span.now in
    let n = c.give_use.ensures.same.sized ∙ c.note_span.ensures.same.sized in
    rw c.place_of.ensures
    (subst (λ (m : ℕ). FitsIn (4 * m) (place span.start) span.size) (sym n)
    (fits_in (length c.args.self.now.items.items) span c.requires))
