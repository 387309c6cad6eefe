use Rattle.std.proofs.Common.{◌≡◌, ◌∙◌, ◌++◌, ◌∷◌, [], ◌+◌, ◌-◌, ℕ, List, Bor, Some, ap, arith, drop, length, map}
use Rattle.std.proofs.Common.{string_bytes, subst}
use Rattle.std.proofs.lemmas.List.{length-drop, length-map, map-append}
use Rattle.clap.specs.Words.{Text}
use Rattle.twords.specs.CommandLines.{with_events_joined, IsFirst}
use Rattle.twords.proofs.JoinedWords.{behind, one_more}
use Rattle.twords.proofs.joined_words.with_events_joined.Goals as goal

pub loop-preserved : goal.loop-preserved
loop-preserved c =
    let texts : List Text = map (λ (w : Bor Text). w.now) c.args.words.now in
    let first : IsFirst (drop c.loop.place texts) (Some c.in-Some.first) =
    subst (λ (words : List Text). IsFirst words (Some c.in-Some.first))
    (behind (λ (w : Bor Text). w.now) c.args.words.now c.loop.place)
    (rw c.in-Some.is at c.in_ok-first.ensures) in
    let long : length (drop c.loop.place texts) ≡ length c.args.words.now - c.loop.place =
    length-drop c.loop.place texts ∙ ap (λ (n : ℕ). n - c.loop.place)
    (length-map c.args.words.now (λ (w : Bor Text). w.now)) in
    let more = one_more texts (map string_bytes c.loop.joined.items) c.loop.place c.in-Some.first.taken
    (string_bytes c.in-Some.first.word) c.loop.invariant.0 first.0 in
    let pushed : map string_bytes c.push.new.self.items
    ≡ map string_bytes c.loop.joined.items ++ string_bytes c.in-Some.first.word ∷ [] =
    ap (map string_bytes) c.in_ok-push.ensures.items
    ∙ map-append string_bytes c.loop.joined.items (c.in-Some.first.word ∷ []) in (
      ap (λ (done : List Text). done ++ with_events_joined (drop (c.loop.place + c.in-Some.first.taken) texts)) pushed
          ∙ more,
      omega (arith, first.1, c.loop.invariant.1),
      omega (arith, first.2, long, c.loop.invariant.2),
    )
