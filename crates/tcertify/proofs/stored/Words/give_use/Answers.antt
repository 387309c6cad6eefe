use Rattle.std.proofs.Common.{◌≡◌, ◌<◌, ◌≤◌, ◌⊎◌, ℕ, ◌+◌, refl, sym, subst, ap, set, length, length-set, arith, List}
use Rattle.std.specs.Prelude.{slice_get}
use Rattle.std.proofs.lemmas.Option.{slice_get_read}
use Rattle.tprocesses.specs.Touching.{word_count, word_number}
use Rattle.tcertify.specs.declared.stored.StoredWord.{StoredWord}
use Rattle.tcertify.proofs.Marking.{give_goes_on, none_given}
use Rattle.tcertify.proofs.stored.Words.give_use.Goals as goal

pub loop-k-init : goal.loop-k-init
loop-k-init c = none_given c.args.self.now (word_number c.args.span.now.start) c.args.used

pub loop-k-preserved : goal.loop-k-preserved
loop-k-preserved c =
    let k : ℕ = c.loop-k.k in let span = c.args.span.now in let u = c.loop-k.self in
    let words : List StoredWord = u.items.items in let x : StoredWord = c.index_mut-stored.result.now in
    let y : StoredWord = record x { used = c.args.used } in
    let low : k < word_count span = omega (arith, c.loop-k-test.true, c.word_count-k-end.ensures) in
    let here : word_number span.start + k < length words =
    subst (λ (n : ℕ). word_number span.start + k < n) (sym c.loop-k.invariant.same.sized) (c.requires k low) in
    let there = slice_get_read words (length words) (word_number span.start + k) x refl here
    (rw c.word_number-first.ensures at c.index_mut-stored.ensures.value) in
    give_goes_on u _ (word_number span.start) k x y there
    (ap (λ (n : ℕ). set words (n + k) y) c.word_number-first.ensures) c.args.self.now
    (record {
      sized = length-set words (c.word_number-first.result + k) y;
      number = refl;
      kind = refl;
      first = refl;
    })
    refl c.args.used c.loop-k.invariant refl refl refl

pub returns : goal.returns
returns c =
    let k : ℕ = c.loop-k.k in let span = c.args.span.now in
    let all : k ≡ word_count span = omega (arith, c.loop-k-test.false, c.word_count-k-end.ensures, c.loop-k.auto) in
    let h = c.loop-k.invariant in
    record {
      bytes = h.bytes;
      elsewhere = subst (λ (n : ℕ). (j : ℕ)
          → (j < word_number span.start) ⊎ (word_number span.start + n ≤ j)
          → slice_get c.loop-k.self.items.items j ≡ slice_get c.args.self.now.items.items j) all h.elsewhere;
      uses = λ j low. h.uses j (subst (λ (n : ℕ). j < n) (sym all) low);
      sending = h.sending;
      same = h.same;
      notes = h.notes;
    }
