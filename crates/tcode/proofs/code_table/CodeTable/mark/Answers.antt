use Rattle.std.proofs.Common.{◌≤◌, ℕ, List, arith}
use Rattle.tcode.specs.Known.{IsMarked}
use Rattle.tcode.proofs.Tables.{each, marked_on}
use Rattle.tcode.proofs.code_table.CodeTable.mark.Goals as goal

pub invariant_of-self : goal.invariant_of-self
invariant_of-self c =
    let words : List ℕ = c.args.self.now.words.items in
    record {
      coded = λ k e g.
          let old = c.args.self.now.coded k e g in
          (old.0, each (IsMarked words) _ e (marked_on words c.word_place-place.result) old.1);
      placed = λ k e g.
          let old = c.args.self.now.placed k e g in (
            old.0,
            each (λ a. (c.args.self.now.low ≤ a) × (a ≤ c.args.self.now.last)) _ e
                (λ a h. (omega (arith, h.0, c.min-self.ensures), omega (arith, h.1, c.max-self.ensures))) old.1,
          );
    }
