-- A finer machine, each of whose steps is seen as a run of agents. If the agents are certified, each of its runs that
-- is over is seen to end in the certified end. What is seen is a relation, so no contract can name this.
use Rattle.std.proofs.Common.{◌≡◌, subst, List, [], ◌∷◌, ◌++◌, sym}
use Rattle.tagents.specs.Agents.{Agents, IsRun, IsOver}
use Rattle.tagents.specs.Certificates.{IsCertified, IsAlike}
use Rattle.tagents.proofs.Completed.{each_end_is_the_end}

module _ {State Agent Label Fine : Type 0} (m : Agents State Agent Label) (Moves : Fine → Fine → Type 0)
    (Shows : Fine → State → Type 0) where
  -- a run of the agents
  pub record IsSeen (s : State) (x : Fine) : Type 0 where
    pub labels : List Label
    pub state : State
    pub run : IsRun m s labels state
    pub shows : Shows x state

  -- each move is seen as a run, and what is at rest is seen so
  pub record IsSeenAs : Type 0 where
    pub moves : (x y : Fine) (s : State) → Shows x s → Moves x y → IsSeen s y
    pub rests : (x : Fine) (s : State) → Shows x s → ((y : Fine) → Moves x y → ⊥) → IsOver m s

  -- moves one after another
  abbrev pub LeadTo : Fine → List Fine → Fine → Type 0
  LeadTo x [] y = x ≡ y
  LeadTo x (z ∷ zs) y = Moves x z × LeadTo z zs y

  joined : (s mid end : State) (es fs : List Label) → IsRun m s es mid → IsRun m mid fs end → IsRun m s (es ++ fs) end
  joined s mid end [] fs run more = subst (λ (x : State). IsRun m x fs end) (sym run) more
  joined s mid end (e ∷ es) fs run more = (run.0, run.1, joined run.0 mid end es fs run.2 more)

  all_seen : (path : List Fine) (x y : Fine) (s : State) → IsSeenAs → Shows x s → LeadTo x path y → IsSeen s y
  all_seen [] x y s k shows path =
      record { labels = []; state = s; run = λ i. s; shows = subst (λ (z : Fine). Shows z s) path shows }
  all_seen (z ∷ zs) x y s k shows path =
      let one : IsSeen s z = k.moves x z s shows path.0 in
      let more : IsSeen one.state y = all_seen zs z y one.state k one.shows path.1 in
      record {
        labels = one.labels ++ more.labels;
        state = more.state;
        run = joined s one.state more.state one.labels more.labels one.run more.run;
        shows = more.shows;
      }

  -- so each run that is over is seen to end there
  pub each_end_is_seen : (start end : State) (steps : List Label) (x y : Fine) (path : List Fine) → IsSeenAs
      → IsCertified m start steps end → Shows x start → LeadTo x path y → ((z : Fine) → Moves y z → ⊥) → Shows y end
  each_end_is_seen start end steps x y path k c shows leads rests =
      let seen : IsSeen start y = all_seen path x y start k shows leads in
      let alike : IsAlike m seen.labels seen.state steps end =
      each_end_is_the_end State Agent Label m start end seen.state steps seen.labels c seen.run
      (k.rests y seen.state seen.shows rests) in
      subst (λ (z : State). Shows y z) alike.ends seen.shows
