-- Histories do not depend on what the buffers of pending inputs hold.
use Rattle.std.proofs.Common.{◌≡◌, ℕ, suc, refl, sym, ap, ap₂, ◌∙◌, List, [], ◌∷◌, ◌++◌, Option}
use Rattle.std.specs.Prelude.{◌==◌, if◌then◌else◌}
use Rattle.tword.specs.Words.{most_neg}
use Rattle.tproc.specs.Machine.{Machine}
use Rattle.tlink.specs.Roles.{offering, script_machine}
use Rattle.tplan.specs.declared.event.Event.{Event}
use Rattle.tnet.specs.Net.{NetState}
use Rattle.tnet.specs.Sound.{IsSound}
use Rattle.twhere.specs.Unseen.{hidden_net}
use Rattle.thistory.specs.declared.deed.Done.{Done}
use Rattle.thistory.specs.declared.steps.Asked.{Asked}
use Rattle.thistory.specs.declared.watch.Place.{Place}
use Rattle.thistory.specs.Deeds.{done_of, net_behind}
use Rattle.thistory.specs.Halts as halts
use Rattle.thistory.specs.Steps.{is_asked, net_after, own_count, step_text, steps_from}
use Rattle.thistory.specs.Steps as steps
use Rattle.thistory.specs.Watch as watch
use Rattle.thistory.specs.Unseen.{HaltsAreOfTheView, LeftIsOfTheView, StepsAreOfTheView, WatchIsOfTheView}
use Rattle.thistory.proofs.UnseenDeeds.{deed_alike, done_alike}
use Rattle.thistory.proofs.UnseenLines.{bytes_alike, changed_text-hidden, step_text-hidden}
use Rattle.thistory.proofs.UnseenNets.{answer_alike, sound_behind, stays_alike}

-- a machine for frames
blank : Machine
blank = script_machine (offering most_neg []) []

module _ (a b : NetState) (sound_a : IsSound a) (sound_b : IsSound b) (same : hidden_net a ≡ hidden_net b)
    (e : Event) where
  -- an event is told to be the same
  told : done_of a e ≡ done_of b e
  told =
      done_alike a b e (deed_alike a b sound_a sound_b same e) (answer_alike blank a b sound_a sound_b same e)

  -- and leaves nets that agree
  stays : hidden_net (net_behind a e) ≡ hidden_net (net_behind b e)
  stays = stays_alike blank a b sound_a sound_b same e

  -- its line
  step_alike : (k : ℕ) → step_text k (done_of a e) (net_behind a e) ≡ step_text k (done_of b e) (net_behind b e)
  step_alike k =
      sym (step_text-hidden k (done_of a e) (net_behind a e))
      ∙ ap₂ (λ (d : Done) (w : NetState). step_text k d w) told stays
      ∙ step_text-hidden k (done_of b e) (net_behind b e)

  event_alike : (q : Asked) (k behind : ℕ) → steps.event_text q k e behind a ≡ steps.event_text q k e behind b
  event_alike q k behind = ap (λ (t : List ℕ). if is_asked q k e behind then t else []) (step_alike k)

  changed_alike : (p : Place) (k : ℕ)
      → watch.changed_text k (done_of a e) (net_behind a e) (watch.seen_bytes a p) (watch.seen_bytes (net_behind a e) p)
      ≡ watch.changed_text k (done_of b e) (net_behind b e) (watch.seen_bytes b p) (watch.seen_bytes (net_behind b e) p)
  changed_alike p k =
      sym (changed_text-hidden k (done_of a e) (net_behind a e) (watch.seen_bytes a p)
      (watch.seen_bytes (net_behind a e) p))
      ∙ ap₂ (λ (d : Done) (w : NetState). watch.changed_text k d w (watch.seen_bytes a p)
      (watch.seen_bytes (net_behind a e) p)) told stays
      ∙ ap₂ (λ (before after : List (Option ℕ)). watch.changed_text k (done_of b e) (hidden_net (net_behind b e)) before
      after) (bytes_alike a b p same) (bytes_alike (net_behind a e) (net_behind b e) p stays)
      ∙ changed_text-hidden k (done_of b e) (net_behind b e) (watch.seen_bytes b p)
      (watch.seen_bytes (net_behind b e) p)

  watch_alike : (p : Place) (k : ℕ) → watch.event_text p k e a ≡ watch.event_text p k e b
  watch_alike p k = ap (λ (t : List ℕ). if e.node == p.node then t else []) (changed_alike p k)

-- events, one after another
steps_alike : (q : Asked) (k : ℕ) (es : List Event) (a b : NetState) → IsSound a → IsSound b
    → hidden_net a ≡ hidden_net b → steps_from q k es a ≡ steps_from q k es b
steps_alike q k [] a b sound_a sound_b same = refl
steps_alike q k (e ∷ es) a b sound_a sound_b same =
    ap₂ (λ (x y : List ℕ). x ++ y) (event_alike a b sound_a sound_b same e q k (own_count q.node es))
    (steps_alike q (suc k) es (net_behind a e) (net_behind b e) (sound_behind a e sound_a) (sound_behind b e sound_b)
    (stays a b sound_a sound_b same e))

pub steps_are_of_the_view : StepsAreOfTheView
steps_are_of_the_view q es a b sound_a sound_b same = steps_alike q 0 es a b sound_a sound_b same

changes_alike : (p : Place) (k : ℕ) (es : List Event) (a b : NetState) → IsSound a → IsSound b
    → hidden_net a ≡ hidden_net b → watch.watch_from p k es a ≡ watch.watch_from p k es b
changes_alike p k [] a b sound_a sound_b same = refl
changes_alike p k (e ∷ es) a b sound_a sound_b same =
    ap₂ (λ (x y : List ℕ). x ++ y) (watch_alike a b sound_a sound_b same e p k)
    (changes_alike p (suc k) es (net_behind a e) (net_behind b e) (sound_behind a e sound_a)
    (sound_behind b e sound_b) (stays a b sound_a sound_b same e))

pub watch_is_of_the_view : WatchIsOfTheView
watch_is_of_the_view p es a b sound_a sound_b same =
    ap₂ (λ (cells : List (Option ℕ)) (rest : List ℕ). watch.opening_line cells ++ rest) (bytes_alike a b p same)
    (changes_alike p 0 es a b sound_a sound_b same)

halts_alike : (named : ℕ → List ℕ → List ℕ) (k : ℕ) (es : List Event) (a b : NetState) → IsSound a → IsSound b
    → hidden_net a ≡ hidden_net b → halts.halts_from named k es a ≡ halts.halts_from named k es b
halts_alike named k [] a b sound_a sound_b same = refl
halts_alike named k (e ∷ es) a b sound_a sound_b same =
    ap₂ (λ (d : Done) (rest : List ℕ). halts.event_text named k d ++ rest) (told a b sound_a sound_b same e)
    (halts_alike named (suc k) es (net_behind a e) (net_behind b e) (sound_behind a e sound_a)
    (sound_behind b e sound_b) (stays a b sound_a sound_b same e))

pub halts_are_of_the_view : HaltsAreOfTheView
halts_are_of_the_view named es a b sound_a sound_b same = halts_alike named 0 es a b sound_a sound_b same

pub left_is_of_the_view : LeftIsOfTheView
left_is_of_the_view [] a b sound_a sound_b same = same
left_is_of_the_view (e ∷ es) a b sound_a sound_b same =
    left_is_of_the_view es (net_behind a e) (net_behind b e) (sound_behind a e sound_a) (sound_behind b e sound_b)
    (stays a b sound_a sound_b same e)
