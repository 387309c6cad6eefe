-- Where a net stands at its outcomes, one after another.
use Rattle.std.proofs.Common.{◌≡◌, ◌∙◌, ℕ, zero, suc, sym, ap, refl, subst, ◌+◌, ◌<◌, ◌≤◌, List, [], ◌∷◌, ◌++◌}
use Rattle.std.proofs.Common.{false, Option, Some, None, add-one, drop, get_or, length, length-take-le, take}
use Rattle.std.specs.Prelude.{IfSome}
use Rattle.std.specs.List.{AllZip}
use Rattle.std.proofs.lemmas.List.{take_more}
use Rattle.std.proofs.lemmas.Option.{same_Some, slice_get-get_or}
use Rattle.std.proofs.lemmas.Slice.Zip.{AllZip-long, all_zipped_more}
use Rattle.std.proofs.Math.ListN.{drop_of_length-le}
use Rattle.tplan.specs.declared.event.Event.{Event}
use Rattle.tnet.specs.Net.{NetState}
use Rattle.twhere.specs.Standing.{where_text}
use Rattle.tendings.specs.declared.telling.Telling.{Telling}
use Rattle.toutcomes.specs.Logged.{LogsOutcome}
use Rattle.toutcomes.specs.Standings.{AreStandings, IsStanding, IsStandingAt, StandsAfter, StandsWhere}
use Rattle.toutcomes.specs.Standings.{standing_in, standings_from}
use Rattle.toutcomes.specs.Explores.{heading_text}
use Rattle.toutcomes.proofs.OutcomeLists.{behind}

-- ---- what is printed of them

-- the standing of a telling, before those of the others
first : (n k : ℕ) (ss : List (Option (List ℕ))) (t : Telling) (ts : List Telling)
    → standings_from n (t ∷ ts) (drop k ss)
    ≡ (heading_text n t ++ standing_in ss k) ++ standings_from (suc n) ts (drop (suc k) ss)
first n zero [] t ts = refl
first n zero (s ∷ ss) t ts = refl
first n (suc k) [] t ts = refl
first n (suc k) (s ∷ ss) t ts = first n k ss t ts

pub standings_next : (k : ℕ) (ts : List Telling) (ss : List (Option (List ℕ))) (t : Telling) (text : List ℕ)
    → k < length ts → t ≡ get_or ts k t → text ≡ standing_in ss k
    → standings_from (k + 1) (drop k ts) (drop k ss)
    ≡ (heading_text (k + 1) t ++ text) ++ standings_from (k + 1 + 1) (drop (k + 1) ts) (drop (k + 1) ss)
standings_next k ts ss t text below here is =
    rw (is, add-one (k + 1), add-one k)
    (ap (λ l. standings_from (suc k) l (drop k ss)) (behind k ts t below here)
    ∙ first (suc k) k ss t (drop (suc k) ts))

pub standings_over : (k : ℕ) (ts : List Telling) (ss : List (Option (List ℕ))) → length ts ≤ k
    → standings_from (k + 1) (drop k ts) (drop k ss) ≡ []
standings_over k ts ss over = ap (λ l. standings_from (k + 1) l (drop k ss)) (drop_of_length-le ts over)

-- ---- what is found of them

-- a log leads to the outcome of a number, and where it leads is found
pub stands_at : (net : NetState) (outcomes : List Telling) (number : ℕ) (events : List Event)
    → LogsOutcome net outcomes number events → (standing : Option (List ℕ))
    → IfSome standing (StandsAfter net events) → IsStandingAt net outcomes number standing
stands_at net outcomes number events l None h t here = tt
stands_at net outcomes number events l (Some text) h t here =
    let same : t ≡ l.outcome = same_Some t l.outcome (sym here ∙ l.here) in
    let left : h.left ≡ l.log.left = same_Some h.left l.log.left (sym h.done ∙ l.log.done) in
    subst (λ u. StandsWhere net u text) (sym same)
    (record { events = events; log = l.log; is = h.is ∙ ap where_text left })

module _ (net : NetState) where
  -- where it stands at one more
  pub stands_next : (ts : List Telling) (ss : List (Option (List ℕ))) (k : ℕ) (s : Option (List ℕ)) → k < length ts
      → AllZip (IsStanding net) (take k ts) ss → IsStandingAt net ts k s
      → AllZip (IsStanding net) (take (k + 1) ts) (ss ++ s ∷ [])
  stands_next ts ss k s below h at =
      let none : Telling = record { heading = []; dump = []; is_freeze = false } in
      subst (λ l. AllZip (IsStanding net) l (ss ++ s ∷ [])) (sym (take_more ts k none below))
      (all_zipped_more (IsStanding net) (take k ts) ss (get_or ts k none) s h
      (at (get_or ts k none) (slice_get-get_or ts k none below)))

  -- where it stands at as many outcomes as were asked for
  pub are_standings : (ts : List Telling) (ss : List (Option (List ℕ))) (k : ℕ) → k ≤ length ts
      → AllZip (IsStanding net) (take k ts) ss → AreStandings net ts ss
  are_standings ts ss k few h =
      subst (λ n. AllZip (IsStanding net) (take n ts) ss)
      (sym (AllZip-long (IsStanding net) (take k ts) ss h ∙ length-take-le k ts few)) h
