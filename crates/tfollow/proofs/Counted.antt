-- What a run tells of leads is known to lead.
use Rattle.std.proofs.Common.{◌≡◌, inl, inr, sym, subst, true, List, map}
use Rattle.std.specs.Prelude.{filter}
use Rattle.std.proofs.lemmas.Bool.{or_left, or_right}
use Rattle.tplan.specs.declared.plan.Plan.{Plan}
use Rattle.tagents.specs.Walks.{label_of}
use Rattle.tprocesses.specs.Places.{WordAt, same_place}
use Rattle.tprocesses.specs.Changes.{Decrement}
use Rattle.tprocesses.specs.Parts.{Changed}
use Rattle.tprocesses.specs.Machine.{Agent, Successor, step_of, process_machine}
use Rattle.tcertify.specs.Running.{State}
use Rattle.tcertify.specs.Walked.{changes}
use Rattle.tcertify.proofs.Walking.{walked}
use Rattle.tfollow.specs.Leading.{is_count_down, has_counted_down, CountsDown}
use Rattle.tfollow.specs.Laws.{RunsTellLeads}
use Rattle.tfollow.proofs.Listed.{one-of}
use Rattle.tfollow.proofs.Shut.{seen_shut}
use Rattle.tfollow.proofs.Alone.{count_alone}

module _ (plan : Plan) (a b : Agent) (s : State) (h : CountsDown plan a s b) where
  counted : has_counted_down plan (label_of (process_machine plan) a s) (Successor h.node h.word) ≡ true
  counted =
      subst
      (λ (cs : List Changed). is_count_down (map (λ x. x.change)
      (filter (λ x. same_place x.place (WordAt h.node h.word)) cs)) ≡ true)
      (sym (walked plan (step_of plan a) s).changes)
      (count_alone plan a s h.node h.word h.priority
      (one-of (record { place = WordAt h.node h.word; change = Decrement h.priority }) (changes (step_of plan a) s)
      h.counted))

  counted_down : has_counted_down plan (label_of (process_machine plan) a s) b ≡ true
  counted_down =
      subst (λ (c : Agent). has_counted_down plan (label_of (process_machine plan) a s) c ≡ true) (sym h.successor)
      counted

pub runs_tell_leads : RunsTellLeads
runs_tell_leads plan a b s u opened run other (inl seen) =
    or_left _ _ (seen_shut plan a b s u opened run other seen)
runs_tell_leads plan a b s u opened run other (inr counted) = or_right _ _ (counted_down plan a b s counted)
