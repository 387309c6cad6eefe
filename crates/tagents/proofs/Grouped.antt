-- Agents that share a number: where they have it in turn, what has no race by numbers has none.
use Rattle.std.proofs.Common.{ℕ, ◌≡◌, ◌≢◌, sym, ◌∙◌, ap, refl, subst, true, false, List, [], ◌∷◌}
use Rattle.std.proofs.Common.{◌++◌, inl, inr, reverse, append_assoc}
use Rattle.std.proofs.lemmas.Bool.{eqb-true}
use Rattle.tagents.specs.Agents.{Agents}
use Rattle.tagents.specs.Races.{ComesBefore}
use Rattle.tagents.specs.Chains.{IsChained, ChainsLead, AreChained}
use Rattle.tagents.specs.Groups.{grouped, NoneHas, AgreeOn, AreOfOthers, AreInTurn, IsHeld, IsFree}
use Rattle.tagents.specs.Groups.{AreAlike, GroupedRunsHaveNoRace, RunsGoOnInTurn, GroupedChainsAreChains}
use Rattle.tagents.specs.Groups.{NumbersOfStepsMatter, HasNumberTurn}
use Rattle.tagents.specs.Groups.HasNumberTurn.{First, Own, Next}
use Rattle.tagents.proofs.Fronted.{test}
use Rattle.tagents.proofs.Traced.{IsTraced, TracesLead, at_once, chained, traced, chains_lead, traces_lead}
use Rattle.tagents.proofs.Chained.{first_same, rest_same, joined, beginning, chains_of, no_race_by_chains}

module _ {State Agent Label : Type 0} (m : Agents State Agent Label) (group : Label → ℕ) where
  -- a step that comes before another one by numbers is chained to it
  linked : (e : Label) (between before : List Label) (f : Label)
      → TracesLead m (λ e. AreOfOthers m group e f) (between ++ e ∷ before) f
      → ComesBefore (grouped m group) e f → IsTraced m e between f
  linked e between before f turn (inl same) =
      elim (test (m.same (m.agent_of e) (m.agent_of f))) as (λ _. IsTraced m e between f) [
        | inl own ↦ at_once m e between f (inl own)
        | inr other ↦ turn e between before refl (eqb-true (group e) (group f) same, other)
      ]
  linked e between before f turn (inr led) = at_once m e between f (inr led)

  -- a chain by numbers is a chain, behind which more steps may come
  chain_of : (e : Label) (before : List Label) (f : Label) (all since between : List Label)
      → all ≡ since ++ between → TracesLead m (λ e. AreOfOthers m group e f) (all ++ e ∷ before) f
      → AreInTurn m group (between ++ e ∷ before) → IsTraced (grouped m group) e between f → IsTraced m e all f
  chain_of e before f all since [] same turn turns c = linked e all before f turn c
  chain_of e before f all since (g ∷ between) same turn turns (inl c) =
      chain_of e before f all (since ++ g ∷ []) between (same ∙ sym (append_assoc since (g ∷ []) between)) turn turns.1
      c
  chain_of e before f all since (g ∷ between) same turn turns (inr c) =
      subst (λ (l : List Label). IsTraced m e l f) (sym same)
      (joined m e between g since f (chain_of e before g between [] between refl
      (traces_lead m (λ e. AreOfOthers m group e g) (between ++ e ∷ before) g turns.0) turns.1 c.0)
      (linked g since (between ++ e ∷ before) f
      (subst (λ (l : List Label). TracesLead m (λ e. AreOfOthers m group e f) l f) whole turn) c.1))
    where
      whole : all ++ e ∷ before ≡ since ++ g ∷ (between ++ e ∷ before)
      whole = ap (λ (l : List Label). l ++ e ∷ before) same ∙ append_assoc since (g ∷ between) (e ∷ before)

  pub chain : (since before : List Label) (e f : Label)
      → AreInTurn m group (f ∷ (since ++ e ∷ before)) → IsChained (grouped m group) e (reverse since) f
      → IsChained m e (reverse since) f
  chain since before e f turns c =
      chained m e since f (chain_of e before f since [] since refl
      (traces_lead m (λ e. AreOfOthers m group e f) (since ++ e ∷ before) f turns.0) turns.1
      (traced (grouped m group) e since f c))

  pub lead : (P : Label → Type 0) (earlier : List Label) (f : Label) → AreInTurn m group (f ∷ earlier)
      → ChainsLead (grouped m group) P earlier f → ChainsLead m P earlier f
  lead P earlier f turns c e since before same holds =
      chain since before e f (subst (λ (l : List Label). AreInTurn m group (f ∷ l)) same turns)
      (c e since before same holds)

  clashes : (steps : List Label) → AreInTurn m group steps
      → AreChained (grouped m group) (λ e f. m.clash e f ≡ true) steps → AreChained m (λ e f. m.clash e f ≡ true) steps
  clashes [] turns c = tt
  clashes (f ∷ earlier) turns c = (
    lead (λ e. m.clash e f ≡ true) earlier f turns c.0,
    clashes earlier turns.1 c.1,
  )

  -- none of these steps has the number
  none_has : (n : ℕ) (between : List Label) (e : Label) (before : List Label)
      → NoneHas group n (between ++ e ∷ before) → group e ≢ n
  none_has n [] e before none = none.0
  none_has n (g ∷ between) e before none = none_has n between e before none.1

  -- a step before which another one comes since which none has its number
  behind : (P : Label → Type 0) (f last : Label) (since before earlier : List Label)
      → earlier ≡ since ++ last ∷ before → ((e : Label) → P e → group e ≡ group f) → NoneHas group (group f) since
      → ComesBefore m last f → TracesLead m P before last → TracesLead m P earlier f
  behind P f last [] before earlier at number none leads knows e [] rest same holds =
      subst (λ (x : Label). ComesBefore m x f) (first_same last e before rest (sym at ∙ same)) leads
  behind P f last [] before earlier at number none leads knows e (g ∷ between) rest same holds =
      inr (
        knows' g (first_same last g before (between ++ e ∷ rest) (sym at ∙ same)),
        subst (λ (x : Label). ComesBefore m x f)
            (first_same last g before (between ++ e ∷ rest) (sym at ∙ same)) leads,
      )
    where
      knows' : (x : Label) → last ≡ x → IsTraced m e between x
      knows' x is = subst (λ (y : Label). IsTraced m e between y) is
          (knows e between rest (rest_same last g before (between ++ e ∷ rest) (sym at ∙ same)) holds)
  behind P f last (h ∷ since) before earlier at number none leads knows e [] rest same holds =
      absurd (none.0 (ap group (first_same h e (since ++ last ∷ before) rest (sym at ∙ same)) ∙ number e holds))
  behind P f last (h ∷ since) before earlier at number none leads knows e (g ∷ between) rest same holds =
      inl (behind P f last since before (since ++ last ∷ before) refl number none.1 leads knows e between rest
      (rest_same h g (since ++ last ∷ before) (between ++ e ∷ rest) (sym at ∙ same)) holds)

  next : (steps : List Label) (f last : Label) → ComesBefore m last f → IsFree m group (group f) last steps
      → ChainsLead m (λ e. AreOfOthers m group e f) steps f
  next steps f last leads is =
      chains_lead m (λ e. AreOfOthers m group e f) steps f
      (behind (λ e. AreOfOthers m group e f) f last is.since is.before steps is.at (λ e h. h.0) is.none leads
      (traces_lead m (λ e. AreOfOthers m group e f) is.before last
      (λ e between rest same h. is.known e between rest same h.0)))

  own : (steps : List Label) (f : Label) → AreInTurn m group steps
      → m.same (m.agent_of f) (m.agent_of f) ≡ true → IsHeld m group (group f) (m.agent_of f) steps
      → ChainsLead m (λ e. AreOfOthers m group e f) steps f
  own steps f turns itself is =
      chains_lead m (λ e. AreOfOthers m group e f) steps f
      (behind (λ e. AreOfOthers m group e f) f is.last is.since is.before steps is.at (λ e h. h.0) is.none
      (inl (subst (λ (a : Agent). m.same a (m.agent_of f) ≡ true) (sym is.agent) itself))
      (traces_lead m (λ e. AreOfOthers m group e f) is.before is.last
      (λ e between rest same h. (beginning m (AreOfOthers m group) is.since (is.last ∷ is.before)
      (subst (AreInTurn m group) is.at turns)).0 e between rest same
      (h.0 ∙ sym is.number, subst (λ (a : Agent). m.same (m.agent_of e) a ≡ false) (sym is.agent) h.1))))

  first : (earlier : List Label) (f : Label) → NoneHas group (group f) earlier
      → ChainsLead m (λ e. AreOfOthers m group e f) earlier f
  first earlier f none e between before same h =
      absurd (none_has (group f) between e before (subst (NoneHas group (group f)) same none) h.0)

  pub in_turn : (steps : List Label) (f : Label) → AreInTurn m group steps
      → m.same (m.agent_of f) (m.agent_of f) ≡ true → HasNumberTurn m group steps f
      → ChainsLead m (λ e. AreOfOthers m group e f) steps f
  in_turn steps f turns itself (First none) = first steps f none
  in_turn steps f turns itself (Own is) = own steps f turns itself is
  in_turn steps f turns itself (Next last leads is) = next steps f last leads is

pub grouped_runs_have_no_race : (State Agent Label : Type 0) → GroupedRunsHaveNoRace State Agent Label
grouped_runs_have_no_race State Agent Label m group steps turns h =
    no_race_by_chains m steps (clashes m group (reverse steps) turns (chains_of (grouped m group) steps h))

pub runs_go_on_in_turn : (State Agent Label : Type 0) → RunsGoOnInTurn State Agent Label
runs_go_on_in_turn State Agent Label m group steps f turns = record {
  chained = λ c. (c, turns);
  turn = λ itself has. (in_turn m group steps f turns itself has, turns);
  held = record { since = []; last = f; before = steps; at = refl; none = tt; number = refl; agent = refl };
  others_held = λ n a other is. record {
    since = f ∷ is.since;
    last = is.last;
    before = is.before;
    at = ap (λ (l : List Label). f ∷ l) is.at;
    none = (other, is.none);
    number = is.number;
    agent = is.agent;
  };
  others_free = λ n last other is. record {
    since = f ∷ is.since;
    before = is.before;
    at = ap (λ (l : List Label). f ∷ l) is.at;
    none = (other, is.none);
    known = is.known;
  };
}

pub grouped_chains_are_chains : (State Agent Label : Type 0) → GroupedChainsAreChains State Agent Label
grouped_chains_are_chains State Agent Label m group since before e f turns c = chain m group since before e f turns c

-- numbers that agree on some steps
module _ {State Agent Label : Type 0} (m : Agents State Agent Label) (group more : Label → ℕ) where
  agree_before : (since : List Label) (e : Label) (before : List Label) → AgreeOn group more (since ++ e ∷ before)
      → (more e ≡ group e) × AgreeOn group more before
  agree_before [] e before agree = agree
  agree_before (g ∷ since) e before agree = agree_before since e before agree.1

  agree_since : (since before : List Label) → AgreeOn group more (since ++ before) → AgreeOn group more since
  agree_since [] before agree = tt
  agree_since (g ∷ since) before agree = (agree.0, agree_since since before agree.1)

  none_alike : (n : ℕ) (steps : List Label) → AgreeOn group more steps → NoneHas group n steps → NoneHas more n steps
  none_alike n [] agree none = tt
  none_alike n (e ∷ es) agree none = (λ h. none.0 (sym agree.0 ∙ h), none_alike n es agree.1 none.1)

  turns_alike : (steps : List Label) → AgreeOn group more steps → AreInTurn m group steps → AreInTurn m more steps
  turns_alike [] agree turns = tt
  turns_alike (f ∷ earlier) agree turns = (
    λ e between before same h. turns.0 e between before same
        (sym (agree_before between e before (subst (AgreeOn group more) same agree.1)).0 ∙ h.0 ∙ agree.0, h.1),
    turns_alike earlier agree.1 turns.1,
  )

  pub alike : (steps : List Label) → AgreeOn group more steps → AreAlike m group more steps
  alike steps agree = record {
    none = λ n none. none_alike n steps agree none;
    turns = turns_alike steps agree;
    held = λ n a is. (let all : AgreeOn group more (is.since ++ is.last ∷ is.before) =
        subst (AgreeOn group more) is.at agree in record {
          since = is.since;
          last = is.last;
          before = is.before;
          at = is.at;
          none = none_alike n is.since (agree_since is.since (is.last ∷ is.before) all) is.none;
          number = (agree_before is.since is.last is.before all).0 ∙ is.number;
          agent = is.agent;
        });
    free = λ n last is. (let all : AgreeOn group more (is.since ++ last ∷ is.before) =
        subst (AgreeOn group more) is.at agree in record {
          since = is.since;
          before = is.before;
          at = is.at;
          none = none_alike n is.since (agree_since is.since (last ∷ is.before) all) is.none;
          known = λ e between rest same h. is.known e between rest same
              (sym (agree_before between e rest (subst (AgreeOn group more) same
              (agree_before is.since last is.before all).1)).0 ∙ h);
        });
  }

pub numbers_of_steps_matter : (State Agent Label : Type 0) → NumbersOfStepsMatter State Agent Label
numbers_of_steps_matter State Agent Label m group more steps agree = alike m group more steps agree
