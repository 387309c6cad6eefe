-- That an interrupted process goes on changes nothing that is shown.
use Rattle.std.proofs.Common.{◌≡◌, ℕ, refl, sym, ap, subst, ◌∙◌, true, false, true≢false, []}
use Rattle.std.proofs.Common.{Ok, Option, Some, None, ◌⊎◌, inl, inr}
use Rattle.std.specs.Prelude.{IfSome}
use Rattle.tword.specs.Stores.{Store}
use Rattle.tproc.specs.declared.ran.Ran.TheVariants as ran
use Rattle.tproc.specs.declared.waiter.Suspended.{Suspended}
use Rattle.tproc.specs.Machine.{Control, Machine}
use Rattle.tproc.specs.ProcessStatus.{live}
use Rattle.tproc.specs.Queues.{resumed}
use Rattle.tproc.specs.Steps.{step}
use Rattle.tplan.specs.declared.plan.Plan.{Plan}
use Rattle.tnet.specs.Rendezvous.{Node, Configuration}
use Rattle.tprocesses.specs.Places.{Name}
use Rattle.tprocesses.specs.Values.{Chosen, Listens, Chooses, Stand, Absent, Rests, Runs, Waits, Ended}
use Rattle.tseen.specs.Known.{HasRegisters}
use Rattle.tseen.specs.Seats.{Seat, Current, Interrupted, Queued, Waiting, is_taken}
use Rattle.tseen.specs.Processes.{Fits, IsSeated, IsGone, HasFlags, ShowsProcesses}
use Rattle.tseen.specs.Shown.{ShowsNode}
use Rattle.tseen.specs.Steps.{LeadsTo}
use Rattle.tseen.specs.Interrupting.{IsResuming, ResumptionsAreSeen}
use Rattle.tseen.proofs.After.{State}
use Rattle.tseen.proofs.Nets.{leads_by}
use Rattle.tseen.proofs.Staying.{channels_stay, link_stays}
use Rattle.tseen.proofs.NoticedOffers.{outputs_stay}

-- names where the interrupted process runs
abbrev resumed_named : (Seat → Name) → Seat → Name
resumed_named named Current = named Interrupted
resumed_named named q = named q

-- the step of the processor, and who lives after it
resumes : (m : Control) (store : Store) (t : Suspended) → m.halted ≡ false → m.current ≡ None → m.high ≡ []
    → m.interrupted ≡ Some t
    → step (record { control = m; store = store }) ≡ Ok (record { control = resumed t m; store = store }, ran.Dispatch)
unfolding step
resumes m store t a b e i = rw (a, b, e, i) refl

still_live : (m : Control) (t : Suspended) → m.current ≡ None → m.interrupted ≡ Some t → live (resumed t m) ≡ live m
still_live m t b i = sym (rw (b, i) refl)

module _ (p : Plan) (c : Configuration) (s : State) (n : ℕ) (k : IsResuming p c s n) where
  abbrev m : Control
  m = k.node.machine.control

  abbrev store : Store
  store = k.node.machine.store

  abbrev now : Machine
  now = record { control = resumed k.suspended m; store = store }

  abbrev node' : Node
  node' = record k.node { machine = now }

  abbrev named : Seat → Name
  named = k.shows.named n

  abbrev named' : Seat → Name
  named' = resumed_named named

  shown : ShowsNode s n k.plan named (k.shows.sent n) k.node
  shown =
      let old = k.shows.processors n k.plan k.planned in
      subst (λ (z : Node). ShowsNode s n k.plan named (k.shows.sent n) z) (some_is (sym old.1 ∙ k.here)) old.2
    where
      some_is : {a b : Node} → Some a ≡ Some b → a ≡ b
      some_is e = cc

  stepped : step k.node.machine ≡ Ok (now, ran.Dispatch)
  stepped = resumes m store k.suspended shown.runs_on k.idle k.no_high k.interrupted

  -- the one that goes on
  current_seated : IsSeated s n node' Current (named Interrupted)
  current_seated =
      let old : IsSeated s n k.node Interrupted (named Interrupted) =
      shown.processes.seated Interrupted (rw k.interrupted refl) in
      record {
        home = old.home;
        stand = old.stand;
        stands = old.stands;
        fits = by old.stand old.fits;
        has_run = old.has_run;
      }
    where
      by : (stand : Stand) → Fits k.node Interrupted stand → Fits node' Current stand
      by (Runs d) f =
          subst (λ (o : Option Suspended). IfSome o (λ t. HasRegisters 1 t.registers d)) k.interrupted f
      by Absent f = absurd f
      by (Rests d) f = absurd f
      by (Waits d) f = absurd f
      by Ended f = absurd f
      by (Chooses d) f = absurd f
      by (Chosen d) f = absurd f
      by (Listens channel d) f = absurd f

  seated : (q : Seat) → is_taken now.control q ≡ true → IsSeated s n node' q (named' q)
  seated Current h = current_seated
  seated Interrupted h = absurd (true≢false (sym h))
  seated (Queued b) h =
      let old : IsSeated s n k.node (Queued b) (named (Queued b)) = shown.processes.seated (Queued b) h in
      record {
        home = old.home;
        stand = old.stand;
        stands = old.stands;
        fits = old.fits;
        has_run = old.has_run;
      }
  seated (Waiting b) h =
      let old : IsSeated s n k.node (Waiting b) (named (Waiting b)) = shown.processes.seated (Waiting b) h in
      record {
        home = old.home;
        stand = old.stand;
        stands = old.stands;
        fits = old.fits;
        has_run = old.has_run;
      }

  placed : (y : Name) → y.node ≡ n → IsGone s n y ⊎ ((q : Seat) × (is_taken now.control q ≡ true) × (named' q ≡ y))
  placed y h = by (shown.processes.there y h)
    where
      by : IsGone s n y ⊎ ((q : Seat) × (is_taken m q ≡ true) × (named q ≡ y))
          → IsGone s n y ⊎ ((q : Seat) × (is_taken now.control q ≡ true) × (named' q ≡ y))
      by (inl e) = inl e
      by (inr (Current, taken, e)) =
          let f : false ≡ true = rw k.idle at taken in absurd (true≢false (sym f))
      by (inr (Interrupted, taken, e)) = inr (Current, refl, e)
      by (inr (Queued b, taken, e)) = inr (Queued b, taken, e)
      by (inr (Waiting b, taken, e)) = inr (Waiting b, taken, e)

  same_live : live now.control ≡ live m
  same_live = still_live m k.suspended k.idle k.interrupted

  flags_now : HasFlags s n k.suspended.registers
  flags_now =
      subst (λ (o : Option Suspended). IfSome o (λ t. HasFlags s n t.registers)) k.interrupted
      (shown.processes.kept_flags k.kept)

  processes_now : ShowsProcesses s n named' (k.shows.sent n) node'
  processes_now =
      record {
        seated = seated;
        there = placed;
        lent = shown.processes.lent;
        passed = shown.processes.passed;
        lives = λ w. shown.processes.lives w ∙ rw same_live refl;
        population = (
          shown.processes.population.0,
          shown.processes.population.1,
          rw same_live shown.processes.population.2,
        );
        interrupting = tt;
        flags = λ h. flags_now;
        kept_flags = λ h. tt;
      }

  node_now : ShowsNode s n k.plan named' (k.shows.sent n) node'
  node_now =
      record {
        role = shown.role;
        works = shown.works;
        runs_on = shown.runs_on;
        size = shown.size;
        kind = shown.kind;
        store = shown.store;
        marks = record {
          saved = shown.marks.saved;
          inputs = shown.marks.inputs;
          inputs_apart = shown.marks.inputs_apart;
          outputs = shown.marks.outputs;
          no_successor = shown.marks.no_successor;
        };
        channels = channels_stay s s n named named' k.node.machine now (λ w. refl) (λ j e. e) (λ j e. e)
            (λ a side. refl) (λ q. refl) refl (λ a h e. refl) shown.channels;
        links = λ l h. link_stays s s n named named' (k.shows.sent n) k.node node' l (λ w. refl) (λ side. refl)
            refl (λ y e. refl) refl refl (shown.links l h);
        processes = processes_now;
        choices = shown.choices;
      }

  leads_on : LeadsTo p c n s
  leads_on =
      leads_by p c s s k.shows n k.plan k.planned k.node k.here shown.works now ran.Dispatch ((λ e. cc), (λ e. cc))
      stepped (ap (λ (z : Store). record { control = now.control; store = z })
      (ap (λ (z : Machine). z.store) k.steady.hides)) named' (k.shows.sent n) node_now (λ q h. refl)
      (outputs_stay s s n k.node node' (λ l. refl) (λ l. refl))

-- an interrupted process that goes on is seen
pub resumptions_are_seen : ResumptionsAreSeen
resumptions_are_seen p c s n k = leads_on p c s n k
