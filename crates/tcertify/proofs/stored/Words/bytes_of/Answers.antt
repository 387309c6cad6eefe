use Rattle.std.proofs.Common.{◌≡◌, ℕ, ◌+◌, sym, ap, ◌∙◌, ◌++◌, ◌∷◌, [], arith}
use Rattle.std.specs.Prelude.{slice_range}
use Rattle.tword.specs.Stores.{Store, place}
use Rattle.tcertify.specs.Spans.{bytes_in}
use Rattle.tcertify.proofs.SpanPuts.{part_is}
use Rattle.tcertify.proofs.Splices.{range_behind, range_none}
use Rattle.tcertify.proofs.stored.Words.bytes_of.Goals as goal

pub loop-k-init : goal.loop-k-init
loop-k-init c =
    c.in_ok-bytes.ensures.items
    ∙ sym (range_none c.place_of-place.result (bytes_in c.args.self.now.items.items))

pub loop-k-preserved : goal.loop-k-preserved
loop-k-preserved c =
    c.in_ok-push.ensures.items
    ∙ ap (λ (l : Store). l ++ c.byte_at.result ∷ []) c.loop-k.invariant
    ∙ sym (range_behind c.place_of-place.result c.loop-k.k (bytes_in c.args.self.now.items.items) c.byte_at.result
    c.byte_at.ensures)

pub returns : goal.returns
returns c =
    let w = c.args.self.now in let span = c.args.span.now in let k : ℕ = c.loop-k.k in
    let all : k ≡ span.size = omega (arith, c.loop-k-test.false, c.loop-k.auto) in
    c.loop-k.invariant
    ∙ ap (λ (n : ℕ). slice_range (bytes_in w.items.items) n (n + k)) c.place_of-place.ensures
    ∙ ap (λ (n : ℕ). slice_range (bytes_in w.items.items) (place span.start)
    (place span.start + n)) all
    ∙ sym (part_is w.items.items span c.requires)
