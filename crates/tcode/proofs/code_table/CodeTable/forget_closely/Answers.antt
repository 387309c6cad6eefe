use Rattle.std.proofs.Common.{◌≡◌, ◌<◌, ◌≤◌, ◌+◌, ◌∙◌, ◌≢◌, ◌/◌, ◌⊎◌, inl, inr, ℕ, arith}
use Rattle.std.proofs.lemmas.Bool.{cases_lt}
use Rattle.tcode.specs.declared.code_table.CodeEntry.{CodeEntry}
use Rattle.tcode.specs.Known.{OfEachByte}
use Rattle.tcode.proofs.Tables.{apart_closely}
use Rattle.tcode.proofs.code_table.CodeTable.forget_closely.Goals as goal

either : (w last : ℕ) (e : CodeEntry) → w < last + 1 → (w < last → OfEachByte (λ a. a / 4 ≢ w) e)
    → OfEachByte (λ a. a / 4 ≢ last) e → OfEachByte (λ a. a / 4 ≢ w) e
either w last e to before now = by (cases_lt w last)
  where
    by : (w < last) ⊎ (last ≤ w) → OfEachByte (λ a. a / 4 ≢ w) e
    by (inl l) = before l
    by (inr l) = let same : w ≡ last = omega (arith, to, l) in rw same now

pub loop-word-preserved : goal.loop-word-preserved
loop-word-preserved c = record {
  low = c.forget_word.ensures.low ∙ c.loop-word.invariant.low;
  last = c.forget_word.ensures.last ∙ c.loop-word.invariant.last;
  forgotten = λ k e g some.
      let now = c.forget_word.ensures.forgets k e g some in
      let old = c.loop-word.invariant.forgotten k e now.0 some in (
        old.0,
        λ w from to.
            either w c.loop-word.word e to (old.1 w from) now.1,
      );
}

pub returns : goal.returns
returns c = λ k e g some.
    let old = c.args.self.now in
    let gone = c.loop-word.invariant.forgotten k e g some in
    let bounds = (old.placed k e gone.0).1 in (
      gone.0,
      record {
        first = λ l.
            apart_closely e.address old.low old.last c.args.start c.args.size (c.max-first.result / 4) c.loop-word.word
            (bounds.first l).0 (bounds.first l).1
            (omega (arith, c.max-first.ensures, c.from-start.ensures, c.get.ensures, c.from-2.ensures))
            (omega (
              arith,
              c.loop-word-test.false,
              c.min.ensures,
              c.from.ensures,
              c.from-3.ensures,
              c.from-start.ensures,
              c.get.ensures,
            )) (λ w from to. (gone.1 w from to).first l);
        second = λ l.
            apart_closely _ old.low old.last c.args.start c.args.size (c.max-first.result / 4) c.loop-word.word
            (bounds.second l).0 (bounds.second l).1
            (omega (arith, c.max-first.ensures, c.from-start.ensures, c.get.ensures, c.from-2.ensures))
            (omega (
              arith,
              c.loop-word-test.false,
              c.min.ensures,
              c.from.ensures,
              c.from-3.ensures,
              c.from-start.ensures,
              c.get.ensures,
            )) (λ w from to. (gone.1 w from to).second l);
      },
    )
