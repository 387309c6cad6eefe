-- All workers of an opening are gathered: none is missing, and what holds of the net of each holds of the net that was
-- opened.
use Rattle.std.proofs.Common.{◌≡◌, ℕ, ◌<◌, refl, sym, subst, arith, List, [], ◌∷◌, map, Bool, true, false, IsTrue}
use Rattle.std.specs.Prelude.{All, None, Option, ◌↔◌}
use Rattle.std.specs.Option.{IsSome}
use Rattle.std.proofs.lemmas.List.Elements.{All-head}
use Rattle.tnet.specs.Net.{NetState}
use Rattle.tnet.specs.Packets.{IsQuiet}
use Rattle.tnet.specs.Quiet.{is_quiet, QuietAgrees}
use Rattle.tnet.specs.Sound.{IsSound}
use Rattle.tfree.specs.Gather.{AreAllWorkers, IsMissing, OpenedWorkersStay}
use Rattle.tfree.specs.Opened.{share_of, worker_of, IsOpened}
use Rattle.tfree.specs.Views.{View}

-- one that is there is not missing
is_there : {X : Type 0} (o : Option X) → o ≡ None → IsSome o → ⊥
is_there {X} o e h = let none : IsSome {T = X} None = subst IsSome e h in let wrong : false ≡ true = none in cc

none_is_missing : (net : NetState) (ws : List View) (k : ℕ) → AreAllWorkers net ws → IsMissing ws k → ⊥
none_is_missing net [] k all m = absurd (omega (arith, all.complete.some))
none_is_missing net (w ∷ ws) k all m =
    let there : (j : ℕ) → j < w.share.count → IsSome (worker_of j (w ∷ ws)) =
    All-head (λ (v : View). (j : ℕ) → j < v.share.count → IsSome (worker_of j (w ∷ ws))) w ws all.complete.there in
    is_there (worker_of k (w ∷ ws)) m.not_there (there k (All-head (λ (v : View). k < v.share.count) w ws m.of_opening))

of_the_net : (net : NetState) (ws : List View) (P : NetState → Type 0) → AreAllWorkers net ws
    → All (λ (w : View). P w.share.opened) ws → P net
of_the_net net [] P all h = absurd (omega (arith, all.complete.some))
of_the_net net (w ∷ ws) P all h =
    subst P (All-head (λ (v : View). v.share.opened ≡ net) w ws all.from)
    (All-head (λ (v : View). P v.share.opened) w ws h)

module _ (stay : OpenedWorkersStay) (net : NetState) (count : ℕ) (fresh turned : List View)
    (opened : IsOpened net count fresh) (same : map share_of turned ≡ map share_of fresh) where
  abbrev all : AreAllWorkers net turned
  all = stay net count fresh turned opened same

  pub not_missing : (k : ℕ) → IsMissing turned k → ⊥
  not_missing k m = none_is_missing net turned k all m

  pub of_opened : (P : NetState → Type 0) → All (λ (w : View). P w.share.opened) turned → P net
  of_opened P h = of_the_net net turned P all h

-- whether a net is quiet
pub quiet_as : QuietAgrees → (net : NetState) → IsSound net → (b : Bool) → IsTrue b ↔ IsQuiet net → b ≡ is_quiet net
quiet_as agrees net sound true h = sym ((agrees net sound).1 (h.0 refl))
quiet_as agrees net sound false h = loud (is_quiet net) (λ e. h.1 ((agrees net sound).0 e))
  where
    loud : (c : Bool) → (c ≡ true → IsTrue false) → false ≡ c
    loud true f = let wrong : false ≡ true = f refl in cc
    loud false f = refl
