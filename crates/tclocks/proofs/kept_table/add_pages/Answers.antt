use Rattle.std.proofs.Common.{◌≡◌, ℕ, ◌+◌, List, [], ◌∷◌, ◌++◌, replicate, ap, ◌∙◌, arith, append_assoc}
use Rattle.std.proofs.lemmas.List.{replicate-append-replicate}
use Rattle.tclocks.specs.declared.kept.Kept.{Kept}
use Rattle.tclocks.proofs.kept_table.add_pages.Goals as goal

one-more : (list : List (List Kept)) (n : ℕ) → (list ++ replicate n []) ++ [] ∷ [] ≡ list ++ replicate (n + 1) []
one-more list n = append_assoc list (replicate n []) ([] ∷ [])
    ∙ ap (λ (rest : List (List Kept)). list ++ rest) (replicate-append-replicate n 1 [])

pub loop-preserved : goal.loop-preserved
loop-preserved c = record {
  items = c.push_reserved.ensures.items
      ∙ ap (λ (page : List Kept). c.loop.pages.items ++ page ∷ []) c.new.ensures
      ∙ ap (λ (list : List (List Kept)). list ++ [] ∷ []) c.loop.invariant.items
      ∙ one-more c.reserve.new.self.items c.loop.counter;
  room = omega arith;
}
