use Rattle.std.proofs.Common.{◌≡◌, ◌<◌, ℕ, ◌+◌, sym, subst, ap, length, arith}
use Rattle.tprocesses.specs.Touching.{word_count, word_number}
use Rattle.tcertify.proofs.Marking.{none_noted, note_goes_on}
use Rattle.tcertify.proofs.stored.Words.note_span.Goals as goal

pub loop-k-init : goal.loop-k-init
loop-k-init c = none_noted c.args.self.now (word_number c.args.span.now.start) c.args.mode

pub note-requires : goal.note-requires
note-requires c =
    let k : ℕ = c.loop-k.k in let span = c.args.span.now in
    let low : k < word_count span = omega (arith, c.loop-k-test.true, c.word_count-k-end.ensures) in
    rw c.word_number-first.ensures
    (subst (λ (n : ℕ). word_number span.start + k < n) (sym (ap length c.loop-k.invariant.items)) (c.requires k low))

pub loop-k-preserved : goal.loop-k-preserved
loop-k-preserved c =
    note_goes_on c.args.self.now c.loop-k.self c.note.new.self (word_number c.args.span.now.start) c.loop-k.k
    c.args.mode c.loop-k.invariant (rw c.word_number-first.ensures at c.note.ensures)

pub returns : goal.returns
returns c =
    let k : ℕ = c.loop-k.k in let span = c.args.span.now in
    let all : k ≡ word_count span = omega (arith, c.loop-k-test.false, c.word_count-k-end.ensures, c.loop-k.auto) in
    let h = c.loop-k.invariant in
    record {
      items = h.items;
      same = h.same;
      keeps = h.keeps;
      tells = λ j low. h.tells j (subst (λ (n : ℕ). j < n) (sym all) low);
    }
