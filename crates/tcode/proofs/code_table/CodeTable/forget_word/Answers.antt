use Rattle.std.proofs.Common.{◌≡◌, ◌≤◌, ◌*◌, ◌∙◌, ap, arith, ap₂, sym}
use Rattle.std.specs.Prelude.{slice_index}
use Rattle.tcode.specs.Known.{word_place}
use Rattle.tcode.proofs.Tables.{avoids_five, avoids_word, each, unmarked, unmarked_so}
use Rattle.tcode.proofs.code_table.CodeTable.forget_word.Goals as goal

pub returns-then-not-is_marked-clause-forgets : goal.returns-then-not-is_marked-clause-forgets
returns-then-not-is_marked-clause-forgets c = λ k e g some.
    let at : c.new-address.result ≡ 4 * c.args.word = omega (arith, c.new-address.ensures) in (
      g,
      avoids_word c.args.self.now.words.items c.args.word e
          (ap₂ slice_index (sym c.as_slice.ensures.value) (ap word_place (sym at))
          ∙ unmarked_so _ c.if-not-is_marked.ensures)
          (c.args.self.now.coded k e g).1,
    )

pub invariant_of-self : goal.invariant_of-self
invariant_of-self c =
    let loop = c.loop-k in
    let at : c.new-address.result ≡ 4 * c.args.word = omega (arith, c.new-address.ensures) in
    record {
      coded = λ k e g.
          let old = loop.self.coded k e g in (
            old.0,
            unmarked c.args.word loop.self.last e (omega arith) c.requires
                (each (λ a. (loop.self.low ≤ a) × (a ≤ loop.self.last)) _ e (λ a h. h.1) (loop.self.placed k e g).1)
                (λ some j few. (loop.invariant.dropped k e g some).1 j (omega (arith, few)))
                loop.self.words.items c.word_place-place.result (c.word_place-place.ensures ∙ ap word_place at) old.1,
          );
      placed = loop.self.placed;
    }

pub returns-then-place-len-clause-forgets : goal.returns-then-place-len-clause-forgets
returns-then-place-len-clause-forgets c = λ k e g some.
    let loop = c.loop-k in
    let gone = loop.invariant.dropped k e g some in (
      gone.0,
      avoids_five c.args.word loop.self.last e (omega arith) c.requires
          (each (λ a. (loop.self.low ≤ a) × (a ≤ loop.self.last)) _ e (λ a h. h.1) (loop.self.placed k e g).1)
          (λ some j few. gone.1 j (omega (arith, few))),
    )
