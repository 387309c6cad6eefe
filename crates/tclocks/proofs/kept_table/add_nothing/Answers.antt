use Rattle.std.proofs.Common.{false, ◌≡◌, ℕ, ◌+◌, List, [], ◌∷◌, ◌++◌, replicate, ap, ◌∙◌, arith, append_assoc}
use Rattle.std.proofs.lemmas.List.{replicate-append-replicate}
use Rattle.tclocks.specs.declared.kept.Kept.{Kept}
use Rattle.tclocks.specs.declared.kept.Kept.TheVariants.{OfOne}
use Rattle.tclocks.proofs.kept_table.add_nothing.Goals as goal

one-more : (list : List Kept) (n : ℕ) (kept : Kept)
    → (list ++ replicate n kept) ++ kept ∷ [] ≡ list ++ replicate (n + 1) kept
one-more list n kept = append_assoc list (replicate n kept) (kept ∷ [])
    ∙ ap (λ (rest : List Kept). list ++ rest) (replicate-append-replicate n 1 kept)

pub loop-preserved : goal.loop-preserved
loop-preserved c = record {
  items = c.push_reserved.ensures.items
      ∙ ap (λ (list : List Kept). list ++ OfOne false 0 0 0 ∷ []) c.loop.invariant.items
      ∙ one-more c.reserve.new.self.items c.loop.counter (OfOne false 0 0 0);
  room = omega arith;
}
