use Rattle.std.proofs.Common.{◌≡◌, ◌<◌, ◌≤◌, ◌%◌, ℕ, true, false, ◌∙◌, arith, ap, rules}
use Rattle.std.specs.Prelude.{◌==◌}
use Rattle.std.proofs.lemmas.Bool.{eq-eqb}
use Rattle.std.proofs.lemmas.Option.{slice_get_read}
use Rattle.tcode.specs.Known.{IsMarked, OfEachByte, TellsItsBytes, entry_count}
use Rattle.tcode.proofs.Tables.{dropped, nowhere, other, set_all, without_bytes}
use Rattle.tcode.proofs.code_table.CodeTable.drop_at.Goals.{else-place-len-via-then-place-len+else-eq}
use Rattle.tcode.proofs.code_table.CodeTable.drop_at.Goals.{else-place-len-via-else-place-len}
use Rattle.tcode.proofs.code_table.CodeTable.drop_at.Goals as goal

not_same : (a b : ℕ) → a ≡ b → false ≡ (a == b) → ⊥
not_same a b same differs = ff (differs ∙ eq-eqb a b same)
  where
    ff : false ≡ true → ⊥
    ff e = cc

pub invariant_of-self : goal.invariant_of-self
invariant_of-self c =
    let old = c.args.self.now in
    let place : ℕ = c.get.result % 256 in
    record {
      coded =
          set_all (λ k e. TellsItsBytes e × OfEachByte (IsMarked old.words.items) e) old.entries.items place
          c.none.result old.coded (c.none.ensures.tells, without_bytes _ _ c.none.ensures.none);
      placed =
          set_all
          (λ k e. (0 < e.length → e.address % entry_count ≡ k) × OfEachByte (λ a. (old.low ≤ a) × (a ≤ old.last)) e)
          old.entries.items place c.none.result old.placed
          (λ some. absurd (omega (arith, some, c.none.ensures.none)), without_bytes _ _ c.none.ensures.none);
    }

pub returns-then-eq-clause-dropped : goal.returns-then-eq-clause-dropped
returns-then-eq-clause-dropped c =
    let old = c.args.self.now in
    dropped old.low old.last old.entries.items old.placed (c.get.result % 256) c.args.address
    (ap (λ n. n % entry_count) c.get.ensures) c.none.result c.none.ensures.none

pub returns-else-place-len-clause-dropped : goal.returns-else-place-len-clause-dropped
returns-else-place-len-clause-dropped c =
    let old = c.args.self.now in
    let place : ℕ = c.get.result % 256 in
    let there : place ≡ c.args.address % entry_count = ap (λ n. n % entry_count) c.get.ensures in
    elim c.else-place-len.branch [
      | else-place-len-via-then-place-len+else-eq w ↦
          other old.low old.last old.entries.items old.placed place c.args.address there w.index.result.now
          (slice_get_read old.entries.items c.len.result place w.index.result.now (search rules) w.if-place-len.true
          w.index.ensures)
          (λ same. absurd (not_same w.index.result.now.address c.args.address same w.if-eq.ensures))
      | else-place-len-via-else-place-len w ↦
          nowhere old.low old.last old.entries.items old.placed place c.args.address there
          (search rules)
    ]
