-- Wherever a run of a plan with a certificate leads, no agent has a step that stops.
use Rattle.std.proofs.Common.{◌≡◌, refl, sym, ap, subst, ◌∙◌, List, [], ◌∷◌, ◌++◌, Bool, true, false, cond}
use Rattle.std.proofs.Common.{append_assoc}
use Rattle.std.specs.Prelude.{filter}
use Rattle.std.proofs.lemmas.List.Elements.{filter-append}
use Rattle.tagents.specs.Agents.{Agents, Does, IsRun, own}
use Rattle.tagents.specs.Races.{TakesNothing}
use Rattle.tagents.specs.Certificates.{IsCompleted}
use Rattle.tprocesses.specs.Certified.{machine_of}
use Rattle.tprocesses.specs.Opening.{opening_state}
use Rattle.tprocesses.proofs.Tidy.{certificates_tell_of_all_runs, process_machine_is_tidy}
use Rattle.tseen.specs.AgentSteps.{CertifiedRunsNeverStop}

module _ {S A L : Type 0} (m : Agents S A L) where
  -- a run, and one step more
  pub run_more : (es : List L) (e : L) (s mid s' : S) → IsRun m s es mid → Does m mid e s' → IsRun m s (es ++ e ∷ []) s'
  run_more [] e s mid s' run does = (s', subst (λ (z : S). Does m z e s') (sym run) does, λ i. s')
  run_more (f ∷ es) e s mid s' run does = (run.0, run.1, run_more es e run.0 mid s' run.2 does)

  -- of steps that do not stop, none of some does, nor one among them
  some_of : (test : L → Bool) (es : List L) → TakesNothing m es → TakesNothing m (filter test es)
  some_of test [] h = tt
  some_of test (e ∷ es) h = by (test e) (some_of test es h.1)
    where
      by : (b : Bool) → TakesNothing m (filter test es)
          → TakesNothing m (cond b (e ∷ filter test es) (filter test es))
      by true rest = (h.0, rest)
      by false rest = rest

  one_of : (es fs : List L) (e : L) → TakesNothing m (es ++ e ∷ fs) → m.stops e ≡ false
  one_of [] fs e h = h.0
  one_of (f ∷ es) fs e h = one_of es fs e h.1

  -- the last step of an agent
  own_last : (es : List L) (e : L) → m.same (m.agent_of e) (m.agent_of e) ≡ true
      → own m (m.agent_of e) (es ++ e ∷ []) ≡ own m (m.agent_of e) es ++ e ∷ []
  own_last es e same = filter-append (λ f. m.same (m.agent_of f) (m.agent_of e)) es (e ∷ []) ∙ rw same refl

  -- so the last step of a run does not stop, if the run is completed to one of which no step does
  last_goes_on : (es steps : List L) (e : L) (s end : S) → m.same (m.agent_of e) (m.agent_of e) ≡ true
      → TakesNothing m steps → IsCompleted m (es ++ e ∷ []) s steps end → m.stops e ≡ false
  last_goes_on es steps e s end same takes completed =
      one_of (own m (m.agent_of e) es) (own m (m.agent_of e) completed.rest) e
      (subst (TakesNothing m) (sym (sym (append_assoc (own m (m.agent_of e) es) (e ∷ [])
      (own m (m.agent_of e) completed.rest))
      ∙ ap (λ (xs : List L). xs ++ own m (m.agent_of e) completed.rest) (sym (own_last es e same))
      ∙ completed.as_each (m.agent_of e)))
      (some_of (λ f. m.same (m.agent_of f) (m.agent_of e)) steps takes))

pub certified_runs_never_stop : CertifiedRunsNeverStop
certified_runs_never_stop p steps others end s k run a label s' is does =
    last_goes_on (machine_of p) others steps label s' end same k.takes_nothing
    ((certificates_tell_of_all_runs p steps end k).completed s' (others ++ label ∷ [])
    (run_more (machine_of p) others label (opening_state p) s s' run does))
  where
    same : (machine_of p).same label.agent label.agent ≡ true
    same = by ((machine_of p).same label.agent label.agent) refl
      where
        by : (b : Bool) → (machine_of p).same label.agent label.agent ≡ b
            → (machine_of p).same label.agent label.agent ≡ true
        by true e = e
        by false e = absurd ((process_machine_is_tidy p).told.not_same label.agent label.agent e refl)
