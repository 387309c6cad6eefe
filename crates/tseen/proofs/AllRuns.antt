-- A certificate tells of all runs of the net.
use Rattle.std.proofs.Math.Nat.{suc-mul, mul-le-mul_right}
use Rattle.std.proofs.Common.{length, ◌≤◌, ◌-◌, suc, arith, inl, inr, ◌≡◌, ℕ, ◌+◌, ◌*◌, refl, sym, ap, subst, ◌∙◌}
use Rattle.std.proofs.Common.{List, [], ◌∷◌, false, Some, None}
use Rattle.std.proofs.Common.{◌++◌, append_assoc, append-nil}
use Rattle.std.specs.Prelude.{slice_range}
use Rattle.tword.specs.Stores.{Store}
use Rattle.tplan.specs.declared.plan.End.{End}
use Rattle.tnet.specs.Rendezvous.{note_of}
use Rattle.tagents.specs.Agents.{own}
use Rattle.tagents.specs.Certificates.{IsCompleted, IsAlike}
use Rattle.tprocesses.specs.Machine.{Wire}
use Rattle.tseen.specs.Carried.{arrived, handed, AreKnownAs}
use Rattle.tseen.proofs.Carrying.{arrived_more, known_more, messages_of, messages_more}
use Rattle.tplan.specs.declared.event.Note.{Note}
use Rattle.tplan.specs.declared.plan.Plan.{Plan}
use Rattle.tnet.specs.Building.{node_count, fault_of, opening_configuration, ArePlanWords}
use Rattle.tnet.specs.Rendezvous.{Node, Configuration, Step, node_of, IsRun}
use Rattle.tnet.specs.Corollaries.{IsReached}
use Rattle.treduction.specs.Ends.{IsOver as IsAtEnd}
use Rattle.treduction.specs.Firsts.{IsScript}
use Rattle.treduction.proofs.Reaching.{reached_step}
use Rattle.tprocesses.specs.Places.{WordAt}
use Rattle.tprocesses.specs.Values.{Value, word_in}
use Rattle.tprocesses.specs.Opening.{opening_state}
use Rattle.tprocesses.specs.Certified.{ProcessStep, IsCertificate, machine_of}
use Rattle.tprocesses.proofs.Tidy.{certificates_tell_of_all_runs}
use Rattle.tseen.specs.Known.{KnowsCells}
use Rattle.tseen.specs.Words.{ShowsWord}
use Rattle.tseen.specs.Shown.{Shows}
use Rattle.tseen.specs.Whole.{IsSeen, HasKnownBytes, HasKnownMessages, HasCarried, most_steps, IsTold}
use Rattle.tseen.specs.Whole.{CertificatesTellOfTheNet}
use Rattle.tseen.proofs.After.{State}
use Rattle.tseen.proofs.Copies.{some_is}
use Rattle.tseen.proofs.OpeningShown.{opening_is_shown}
use Rattle.tseen.proofs.SteadyRuns.{runs_stay_steady}
use Rattle.tseen.proofs.RestLinks.{rests_are_seen}
use Rattle.tseen.proofs.NodesCounted.{as_many, Kind, processor, source, sink, kind_at}
use Rattle.tseen.proofs.ScriptsRest.{script_runs_on}
use Rattle.tseen.proofs.Weights.{weight_of, few_of}
use Rattle.tseen.proofs.AllSteps.{IsNextSeen, step_seen}
use Rattle.tseen.proofs.Reached.{Progress, never}

-- what is shown of memories, and of sinks
known_bytes : (p : Plan) (c : Configuration) (s : State) → Shows p c s → HasKnownBytes p c s
known_bytes p c s shows n plan planned =
    let there = shows.processors n plan planned in (
      there.0,
      there.1,
      there.2.size,
      λ k h.
          let w : ShowsWord there.0.machine.store k (s (WordAt n k)) = there.2.store k h in
          subst (λ (v : Value). KnowsCells (word_in v).cells (slice_range there.0.machine.store (4 * k) (4 * k + 4)))
          (sym w.is) w.cells,
    )

known_messages : (p : Plan) (c : Configuration) (s : State) → Shows p c s → HasKnownMessages p c s
known_messages p c s shows k plan planned =
    let there = shows.sinks k plan planned in (
      there.0,
      there.1,
      record {
        lengths = there.2.kept;
        role = there.2.role;
        room = there.2.room;
        messages = there.2.messages;
        stands = there.2.stands;
        knows = there.2.knows;
      },
    )

-- no node that is shown is frozen or has halted
works_on : (p : Plan) (c : Configuration) (s : State) → Shows p c s → IsReached p c → (n : ℕ) (node : Node)
    → node_of c n ≡ Some node → (node.broken ≡ None) × (node.machine.control.halted ≡ false)
works_on p c s shows reached n node here = by (kind_at p c n node reached here)
  where
    by : Kind p n → (node.broken ≡ None) × (node.machine.control.halted ≡ false)
    by (processor plan planned) =
        let there = shows.processors n plan planned in
        let same : there.0 ≡ node = some_is (sym there.1 ∙ here) in (
          subst (λ (z : Node). z.broken ≡ None) same there.2.works,
          subst (λ (z : Node). z.machine.control.halted ≡ false) same there.2.runs_on,
        )
    by (source j plan planned at) =
        let there = shows.sources j plan planned in
        let same : there.0 ≡ node = some_is (sym there.1 ∙ ap (node_of c) (sym at) ∙ here) in (
          subst (λ (z : Node). z.broken ≡ None) same there.2.works,
          script_runs_on p c n node reached here
              (subst IsScript (sym (ap (λ (z : Node). z.role) (sym same) ∙ there.2.role)) tt),
        )
    by (sink j plan planned at) =
        let there = shows.sinks j plan planned in
        let same : there.0 ≡ node = some_is (sym there.1 ∙ ap (node_of c) (sym at) ∙ here) in (
          subst (λ (z : Node). z.broken ≡ None) same there.2.works,
          script_runs_on p c n node reached here
              (subst IsScript (sym (ap (λ (z : Node). z.role) (sym same) ∙ there.2.role)) tt),
        )

module _ (p : Plan) (steps : List ProcessStep) (end : State) (none : fault_of p ≡ None) (words : ArePlanWords p)
    (k : IsCertificate p steps end) where
  -- what is left of the steps that a run may have, where it has come so far in the process machine
  abbrev most : ℕ
  most = 9 * node_count p

  spent : (c : Configuration) → IsSeen p c → ℕ
  spent c seen = length seen.reached.steps * suc most + (most - weight_of c)

  few : (c : Configuration) → IsReached p c → weight_of c ≤ most
  few c reached = subst (λ z. weight_of c ≤ 9 * z) (as_many p c reached) (few_of c)

  spends : (c c' : Configuration) (seen : IsSeen p c) (notes : List Note) → IsReached p c → IsReached p c'
      → (after : IsNextSeen p c seen notes c') → suc (spent c seen) ≤ spent c' after.next
  unfolding spent
  spends c c' seen notes reached reached' after = by after.progress
    where
      by : Progress p seen.state after.next.state seen.reached after.next.reached c c'
          → suc (length seen.reached.steps * suc most + (most - weight_of c))
          ≤ length after.next.reached.steps * suc most + (most - weight_of c')
      by (inl more) =
          omega (
            arith,
            few c reached,
            few c' reached',
            suc-mul (length seen.reached.steps) (suc most),
            mul-le-mul_right (suc most) more,
          )
      by (inr (same, lighter)) =
          omega (
            arith,
            few c reached,
            few c' reached',
            lighter,
            mul-le-mul_right (suc most) same,
          )

  -- each run
  record IsRunSeen (c : Configuration) (seen : IsSeen p c) (taken : List Step) (notes : List Note) (c' : Configuration)
      : Type 0 where
    last : IsSeen p c'
    spending : length taken + spent c seen ≤ spent c' last
    more : End → List Store
    hands : (e : End) → handed p e last.reached.steps ≡ handed p e seen.reached.steps ++ more e
    known : (e : End) → AreKnownAs (more e) (arrived e notes)

  run_seen : (c c' : Configuration) (taken : List Step) (notes : List Note) → IsReached p c → (seen : IsSeen p c)
      → IsRun c taken notes c' → IsRunSeen c seen taken notes c'
  run_seen c c' [] notes reached seen run =
      subst (λ (z : Configuration). IsRunSeen c seen [] notes z) run.1 (record {
        last = seen;
        spending = omega arith;
        more = λ e. [];
        hands = λ e. sym (append-nil (handed p e seen.reached.steps));
        known = λ e. subst (λ z. AreKnownAs [] (arrived e z)) (sym run.0) tt;
      })
  run_seen c c' (l ∷ ls) notes reached seen run =
      let after : IsNextSeen p c seen (note_of c l) run.0 =
      step_seen p steps end k c reached seen run.0 l run.2 in
      let there : IsReached p run.0 = reached_step p c run.0 l reached run.2 in
      let rest : IsRunSeen run.0 after.next ls run.1 c' = run_seen run.0 c' ls run.1 there after.next run.4 in
      record {
        last = rest.last;
        spending = omega (arith, rest.spending, spends c run.0 seen (note_of c l) reached there after);
        more = λ e. after.more e ++ rest.more e;
        hands = λ e.
            rest.hands e ∙ ap (λ z. z ++ rest.more e) (after.hands e)
            ∙ append_assoc (handed p e seen.reached.steps) (after.more e) (rest.more e);
        known = λ e.
            subst (λ z. AreKnownAs (after.more e ++ rest.more e) (arrived e z)) (sym run.3)
            (subst (AreKnownAs (after.more e ++ rest.more e)) (sym (arrived_more e (note_of c l) run.1))
            (known_more (after.more e) (rest.more e) (arrived e (note_of c l)) (arrived e run.1) (after.known e)
            (rest.known e)));
      }

  opening_reached : IsReached p (opening_configuration p)
  opening_reached = record { built = none; words = words; steps = []; notes = []; run = (refl, refl) }

  abbrev opening_seen : IsSeen p (opening_configuration p)
  opening_seen =
      record {
        state = opening_state p;
        reached = record { steps = []; run = refl };
        shows = opening_is_shown p none words;
      }

  module _ (c : Configuration) (taken : List Step) (notes : List Note)
      (run : IsRun (opening_configuration p) taken notes c) where
    reached : IsReached p c
    reached = record { built = none; words = words; steps = taken; notes = notes; run = run }

    whole : IsRunSeen (opening_configuration p) opening_seen taken notes c
    whole = run_seen (opening_configuration p) c taken notes opening_reached opening_seen run

    abbrev seen : IsSeen p c
    seen = whole.last

    -- the run of the process machine is completed to the certified end
    completed : IsCompleted (machine_of p) seen.reached.steps seen.state steps end
    completed =
        (certificates_tell_of_all_runs p steps end k).completed seen.state seen.reached.steps seen.reached.run

    -- so it is no longer than the certificate
    short : length seen.reached.steps ≤ length steps
    short = omega (arith, completed.as_long)

    bounded : length taken ≤ most_steps p steps
    unfolding spent
    bounded =
        omega (
          arith,
          whole.spending,
          suc-mul (length steps) (suc most),
          mul-le-mul_right (suc most) short,
        )

    -- what wires have carried
    known_so_far : (e : End) → AreKnownAs (handed p e seen.reached.steps) (arrived e notes)
    known_so_far e = subst (λ z. AreKnownAs z (arrived e notes)) (sym (whole.hands e)) (whole.known e)

    carried : (e : End) → HasCarried p steps e notes
    carried e =
        record {
          first = handed p e seen.reached.steps;
          others = handed p e completed.rest;
          all = sym (messages_more (own (machine_of p) (Wire e) seen.reached.steps)
              (own (machine_of p) (Wire e) completed.rest))
              ∙ ap messages_of (completed.as_each (Wire e));
          known = known_so_far e;
        }

    -- a run that is over has come to the certified end
    alike : IsAtEnd c → IsAlike (machine_of p) seen.reached.steps seen.state steps end
    alike over =
        (certificates_tell_of_all_runs p steps end k).alike seen.state seen.reached.steps seen.reached.run
        (rests_are_seen p c seen.state none seen.shows (runs_stay_steady p c taken notes none words run) over
        (never p steps end k seen.state seen.reached))

    at_end : IsAtEnd c → Shows p c end
    at_end over = subst (Shows p c) (alike over).ends seen.shows

    carried_all : IsAtEnd c → (e : End) → AreKnownAs (handed p e steps) (arrived e notes)
    carried_all over e =
        subst (λ z. AreKnownAs z (arrived e notes))
        (ap messages_of ((alike over).as_each (Wire e))) (known_so_far e)

    pub told : IsTold p steps end c taken notes
    told =
        record {
          seen = seen;
          bounded = bounded;
          working = λ n node here. (works_on p c seen.state seen.shows reached n node here).0;
          running = λ n node here. (works_on p c seen.state seen.shows reached n node here).1;
          carried = carried;
          ends = at_end;
          memories = λ over. known_bytes p c end (at_end over);
          messages = λ over. known_messages p c end (at_end over);
          carried_all = carried_all;
        }

pub certificates_tell_of_the_net : CertificatesTellOfTheNet
certificates_tell_of_the_net p steps end none words k c taken notes run =
    told p steps end none words k c taken notes run
