-- A channel makes the process go on that waits for it and for others: what its step tells.
use Rattle.std.proofs.Common.{◌≡◌, ℕ, refl, sym, subst, ◌∙◌, Bool, true, false, List, [], ◌∷◌}
use Rattle.std.specs.Prelude.{◌==◌, ◌||◌, not, if◌then◌else◌}
use Rattle.tproc.specs.LinkChannels.{is_link}
use Rattle.tproc.specs.declared.channels.Side.TheVariants.{Input, Output}
use Rattle.tplan.specs.declared.plan.Plan.{Plan}
use Rattle.tprocesses.specs.Places.{Place, Name, Standing, Ports, Half}
use Rattle.tprocesses.specs.Values.{Value, Context, Chooses, Chosen, Request, TakenBy, EnabledBy, AwaitedBy, IsStand}
use Rattle.tprocesses.specs.Values.{IsHalf, stand_in, half_in, ports_in}
use Rattle.tprocesses.specs.Changes.{Put}
use Rattle.tprocesses.specs.Parts.{Doing, see, SeveralReady, done, change, ◌>>=◌, ◌>>◌}
use Rattle.tprocesses.specs.Touching.{Site}
use Rattle.tprocesses.specs.Standing.{stands}
use Rattle.tprocesses.specs.Choosing.{with_choice, is_taken, requires_silence, requires_no_other, waiting, lets_go_on}
use Rattle.tprocesses.specs.ChannelMessages.{meet_if, channel_step}
use Rattle.tseen.proofs.After.{State, After, changed, after_bind, after_require}
use Rattle.tseen.proofs.Finished.{is_stand_of, stands_then, place_itself}
use Rattle.tseen.proofs.HalfTaken.{is_half_of}

module _ (site : Site) (p : Plan) (channel : ℕ) (y : Name) (d : Context) (v : State) where
  abbrev n : ℕ
  n = site.number

  -- the process was made to go on
  pub record HasBeenLet (t : State) : Type 0 where
    pub stands : t (Standing y) ≡ IsStand (Chosen (with_choice true d))
    pub input : t (Half n channel Input) ≡ IsHalf (EnabledBy y)
    pub rest : (q : Place) → is_stand_of y q ≡ false → is_half_of n channel Input q ≡ false → t q ≡ v q

  -- a look at other channels changes nothing
  no_other_then : (ports : List ℕ) (Q : Unit {0} → State → Type 0) → Q tt v
      → After (requires_no_other site channel ports) v Q
  no_other_then [] Q q = q
  no_other_then (e ∷ rest) Q q =
      after_bind (if (e == channel) || is_link e then done else requires_silence site e) _ v Q
      (by ((e == channel) || is_link e) (no_other_then rest Q q))
    where
      by : (b : Bool) → After (requires_no_other site channel rest) v Q
          → After (if b then done else requires_silence site e) v
          (λ _ t. After (requires_no_other site channel rest) t Q)
      by true h = h
      by false h =
          after_require (not (is_taken (half_in (v (Half n e Output))))) SeveralReady v _ (λ silent. h)

  abbrev put : State
  put = changed (Half n channel Input) (Put (IsHalf (EnabledBy y))) v

  -- what comes after the look at where it stands
  abbrev after_waiting : Context → Doing
  after_waiting c = do
    ports ← see (Ports y)
    requires_no_other site channel (ports_in ports)
    change (Half n channel Input) (Put (IsHalf (EnabledBy y)))
    stands y (Chosen (with_choice true c))

  lets_then : v (Standing y) ≡ IsStand (Chooses d) → After (lets_go_on site channel y) v (λ _ t. HasBeenLet t)
  lets_then stood =
      subst (λ (z : Value). After (waiting (stand_in z) >>= after_waiting) v (λ _ t. HasBeenLet t)) (sym stood)
      (after_bind (requires_no_other site channel (ports_in (v (Ports y)))) _ v (λ _ t. HasBeenLet t)
      (no_other_then (ports_in (v (Ports y))) _
      (stands_then site p y (Chosen (with_choice true d)) put (λ _ t. HasBeenLet t) (λ t now. record {
        stands = now.is;
        input = now.others (Half n channel Input) refl ∙ rw (place_itself p (Half n channel Input)) refl;
        rest = λ q e f. now.others q e ∙ rw f refl;
      }))))

  pub let_go_then : (request : Request) → half_in (v (Half n channel Input)) ≡ AwaitedBy y
      → half_in (v (Half n channel Output)) ≡ TakenBy request → v (Standing y) ≡ IsStand (Chooses d)
      → After (channel_step channel site) v (λ _ t. HasBeenLet t)
  let_go_then request input output stood =
      subst (λ i. After (meet_if site channel i (half_in (v (Half n channel Output)))) v (λ _ t. HasBeenLet t))
      (sym input)
      (subst (λ i. After (meet_if site channel (AwaitedBy y) i) v (λ _ t. HasBeenLet t)) (sym output) (lets_then stood))
