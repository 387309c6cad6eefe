use Rattle.std.proofs.Common.{◌≡◌, ◌≤◌, ◌<◌, ◌∙◌, Some, ap, arith, length, refl, sym}
use Rattle.std.specs.Prelude.{slice_get}
use Rattle.std.proofs.lemmas.Bool.{false≢true, ltb-false}
use Rattle.std.proofs.lemmas.Option.{same_Some, slice_get_within}
use Rattle.tcertify.specs.declared.node.Node.{Node}
use Rattle.tcertify.specs.declared.process.Process.{Process}
use Rattle.tverdict.proofs.Berths.{read_of}
use Rattle.tverdict.proofs.coming.has_process_ended.Goals as goal

pub returns-in-Some-get : goal.returns-in-Some-get
returns-in-Some-get c =
    let ns = c.args.nodes.now in let n = c.args.node in let k = c.args.process in
    let at = c.in-Some.at.now in let known = c.in-Some-get.known.now in
    let there : slice_get ns n ≡ Some at =
    read_of ns ns n at refl c.in-Some.ensures.lookup.3.0 c.in-Some.ensures.lookup.1 in
    let has : slice_get at.processes.items.items k ≡ Some known =
    read_of at.processes.items.items c.deref.result.now k known c.deref.ensures.value
    c.in-Some-get.ensures.lookup.3.0 c.in-Some-get.ensures.lookup.1 in (
      λ t. record { node = at; there = there; known = known; has = has; ended = c.is_ended.ensures.0 t },
      λ h.
          let one : h.node ≡ at = same_Some h.node at (sym h.there ∙ there) in
          let same : h.known ≡ known =
          same_Some h.known known
          (sym h.has ∙ ap (λ (y : Node). slice_get y.processes.items.items k) one ∙ has) in
          c.is_ended.ensures.1 (ap (λ (p : Process). p.stand) (sym same) ∙ h.ended),
    )

pub returns-in-None : goal.returns-in-None
returns-in-None c =
    let ns = c.args.nodes.now in let n = c.args.node in let k = c.args.process in
    let at = c.in-Some.at.now in let xs = c.deref.result.now in
    let there : slice_get ns n ≡ Some at =
    read_of ns ns n at refl c.in-Some.ensures.lookup.3.0 c.in-Some.ensures.lookup.1 in
    let past : length xs ≤ k = ltb-false k (length xs) (sym c.in-None.ensures.lookup.0) in (
      λ t. absurd (false≢true t),
      λ h.
          let one : h.node ≡ at = same_Some h.node at (sym h.there ∙ there) in
          let low : k < length h.node.processes.items.items =
          slice_get_within h.node.processes.items.items k h.known h.has in
          let long : length xs ≡ length h.node.processes.items.items =
          ap length c.deref.ensures.value
          ∙ ap (λ (y : Node). length y.processes.items.items) (sym one) in
          absurd (omega (arith, past, low, long)),
    )
