-- Each step of the rendezvous machine is seen, where a plan has a certificate.
use Rattle.std.proofs.Common.{None, arith, suc, ◌<◌, ◌≡◌, ℕ, ◌+◌, refl, sym, ap, subst, ◌∙◌, List, length, true}
use Rattle.std.proofs.Common.{false, true≢false}
use Rattle.std.proofs.Common.{Result, Ok, Err, Some, ◌⊎◌, inl, inr}
use Rattle.std.proofs.Common.{[], ◌∷◌, ◌++◌, Bool, Option, cond, append-nil}
use Rattle.std.specs.Prelude.{slice_get}
use Rattle.tword.specs.Stores.{Store, bytes_at}
use Rattle.tplan.specs.declared.event.Note.{Note}
use Rattle.tplan.specs.declared.event.Note.TheVariants.{Msg}
use Rattle.tseen.specs.Carried.{arrived, handed, AreKnownAs}
use Rattle.tseen.proofs.Carrying.{given, knows_shown, hands_one, copy_told}
use Rattle.tseen.proofs.Handed.{IsKnown, handed_known}
use Rattle.tword.specs.declared.breaks.Break.{Break}
use Rattle.tword.specs.declared.breaks.Break.TheVariants.{LengthMismatch}
use Rattle.tproc.specs.declared.ran.Ran.{Ran}
use Rattle.tproc.specs.declared.ran.Ran.TheVariants as ran
use Rattle.tproc.specs.Machine.{Machine}
use Rattle.tproc.specs.Hidden.{hidden}
use Rattle.tproc.specs.Resting.{is_idle, has_step}
use Rattle.tproc.specs.Steps.{step}
use Rattle.tproc.specs.Links.{notice}
use Rattle.tproc.proofs.Resting.{step_is_there}
use Rattle.tlink.specs.Roles.{Processor, Source, Sink, role_woken, woken}
use Rattle.tplan.specs.declared.plan.End.{End}
use Rattle.tplan.specs.declared.plan.SourcePlan.{SourcePlan}
use Rattle.tplan.specs.declared.plan.SinkPlan.{SinkPlan}
use Rattle.tplan.specs.declared.plan.Plan.{Plan}
use Rattle.tplan.specs.Wires.{all_wires}
use Rattle.tnet.specs.Rendezvous.{Node, Configuration, Step, Local, Notice, Copy, Wake, Freeze_at, node_of}
use Rattle.tnet.specs.Rendezvous.{put_node, marked}
use Rattle.tnet.specs.Rendezvous.{IsLocal, IsNotice, IsWake, IsCopy, IsFreeze, IsMismatch, IsStep, Lawful}
use Rattle.tnet.specs.Corollaries.{IsReached}
use Rattle.tplan.specs.Wires.{end_at, far_end, same_end}
use Rattle.tnet.specs.Rendezvous.{note_of, local_note, halts}
use Rattle.tplan.proofs.Ends.{end_same}
use Rattle.treduction.specs.Firsts.{IsScript}
use Rattle.tprocesses.specs.Machine.{Wire}
use Rattle.tprocesses.specs.Certified.{ProcessStep, IsCertificate}
use Rattle.tseen.specs.Shown.{Shows, ShowsNode}
use Rattle.tseen.specs.Steps.{IsSteadyNode, AreSteady, IsNoticeSeen, stand_at}
use Rattle.tseen.specs.Linked.{IsStopped}
use Rattle.tseen.specs.Whole.{IsSeen}
use Rattle.tseen.proofs.After.{State}
use Rattle.tseen.proofs.Copies.{some_is, copies_are_seen}
use Rattle.tseen.proofs.Mismatches.{mismatches_stop}
use Rattle.tseen.proofs.Notices.{noticing, notices_are_seen}
use Rattle.tseen.proofs.Wakes.{link_small, wakes_are_seen}
use Rattle.tseen.proofs.SourceWakes.{source_wakes_are_seen}
use Rattle.tseen.proofs.SteadyRuns.{runs_stay_steady}
use Rattle.tseen.proofs.NodesCounted.{Kind, processor, source, sink, kind_at}
use Rattle.tseen.proofs.ScriptsRest.{script_rests, source_link, sink_silent}
use Rattle.tseen.proofs.WireEnds.{AreJoined, wire_joins}
use Rattle.tseen.proofs.Weights.{weight, weight_of, put_lighter, notice_lighter, processor_lighter, source_lighter}
use Rattle.tseen.proofs.DueWires.{wire_due}
use Rattle.tseen.proofs.OwnInstructions.{Leads}
use Rattle.tseen.proofs.OwnSteps.{own_step}
use Rattle.tseen.proofs.Reached.{GoesOn, Progress, none_more, never, on}
use Rattle.tplan.specs.declared.plan.NodePlan.{NodePlan}
use Rattle.tprocesses.specs.Values.{Stand, Chooses}

ok_is : {A : Type 0} {a b : A} → ◌≡◌ {A = Result A Break} (Ok a) (Ok b) → a ≡ b
ok_is e = cc

not_both : {A : Type 0} (x : A) (b : Break) → ◌≡◌ {A = Result A Break} (Ok x) (Err b) → ⊥
not_both x b e = cc

-- a node's own step leads to one configuration
one_local : (c c1 c2 : Configuration) (n : ℕ) → IsLocal c n c1 → IsLocal c n c2 → c1 ≡ c2
one_local c c1 c2 n k l =
    let same : k.node ≡ l.node = some_is (sym k.here ∙ l.here) in
    let one : ◌≡◌ {A = Machine × Ran} (k.machine, k.ran) (l.machine, l.ran) =
    ok_is (sym k.steps ∙ ap (λ (z : Node). step z.machine) same ∙ l.steps) in
    k.after ∙ ap (λ (z : Node). put_node n (record z { machine = hidden k.machine }) c) same
    ∙ ap (λ (z : Machine × Ran). put_node n (record l.node { machine = hidden z.0 }) c) one ∙ sym l.after

-- what was done is a step
made_step : (m : Machine) (r : Ran) → IsStep r → has_step (Ok (m, r)) ≡ true
made_step m ran.Idle h = absurd (h.0 refl)
made_step m ran.Halted h = absurd (h.1 refl)
made_step m r h = refl

-- a processor that is idle has none, nor a break
idle_rests : (m : Machine) → m.control.halted ≡ false → is_idle m.control ≡ true → has_step (step m) ≡ false
idle_rests m works idle = step_is_there m ∙ rw (works, idle) refl

-- a configuration is seen after one step, which tells this; more: what the wire to an end has handed over
pub record IsNextSeen (p : Plan) (c : Configuration) (seen : IsSeen p c) (notes : List Note) (c' : Configuration)
    : Type 0
  where
    pub next : IsSeen p c'
    pub progress : Progress p seen.state next.state seen.reached next.reached c c'
    pub more : End → List Store
    pub hands : (e : End) → handed p e next.reached.steps ≡ handed p e seen.reached.steps ++ more e
    pub known : (e : End) → AreKnownAs (more e) (arrived e notes)

-- what a node's own step tells is of no message
local_silent : (e : End) (n : ℕ) (o : Option Node) → AreKnownAs [] (arrived e (local_note n o))
local_silent e n None = tt
local_silent e n (Some node) = by (step node.machine)
  where
    by : (r : Result (Machine × Ran) Break) → AreKnownAs [] (arrived e (halts n r))
    by (Ok (m, ran.Halting)) = tt
    by (Ok (m, other)) = tt
    by (Err b) = tt

module _ (p : Plan) (steps : List ProcessStep) (end : State) (k : IsCertificate p steps end)
    (c : Configuration)
    (reached : IsReached p c) (seen : IsSeen p c) where
  abbrev s : State
  s = seen.state

  abbrev shows : Shows p c s
  shows = seen.shows

  steady : AreSteady c
  steady = runs_stay_steady p c reached.steps reached.notes reached.built reached.words reached.run

  -- a source, and a sink, is a script
  source_role : (n : ℕ) (node : Node) (j : ℕ) (plan : SourcePlan) → node_of c n ≡ Some node
      → slice_get p.sources j ≡ Some plan → n ≡ length p.nodes + j
      → (over rest : List ℕ) × (node.role ≡ Source over rest)
  source_role n node j plan here planned at =
      let there = shows.sources j plan planned in
      let same : there.0 ≡ node = some_is (sym there.1 ∙ ap (node_of c) (sym at) ∙ here) in
      (there.2.over, there.2.rest, ap (λ (z : Node). z.role) (sym same) ∙ there.2.role)

  sink_role : (n : ℕ) (node : Node) (j : ℕ) (plan : SinkPlan) → node_of c n ≡ Some node
      → slice_get p.sinks j ≡ Some plan → n ≡ length p.nodes + length p.sources + j
      → (kept : List ℕ) × (node.role ≡ Sink kept)
  sink_role n node j plan here planned at =
      let there = shows.sinks j plan planned in
      let same : there.0 ≡ node = some_is (sym there.1 ∙ ap (node_of c) (sym at) ∙ here) in
      (there.2.kept, ap (λ (z : Node). z.role) (sym same) ∙ there.2.role)

  -- each node: its own step leads on, or it has none
  node_goes : (n : ℕ) (node : Node) → node_of c n ≡ Some node
      → Leads p c n s seen.reached ⊎ (has_step (step node.machine) ≡ false)
  node_goes n node here = by (kind_at p c n node reached here)
    where
      rests : IsScript node.role → Leads p c n s seen.reached ⊎ (has_step (step node.machine) ≡ false)
      rests h = inr (ap has_step (script_rests p c n node reached here h))

      by : Kind p n → Leads p c n s seen.reached ⊎ (has_step (step node.machine) ≡ false)
      by (processor plan planned) =
          of (own_step p steps end k c s shows steady seen.reached n plan planned)
        where
          there : (node' : Node) × (node_of c n ≡ Some node') × ShowsNode s n plan (shows.named n) (shows.sent n) node'
          there = shows.processors n plan planned

          of : (is_idle there.0.machine.control ≡ true) ⊎ Leads p c n s seen.reached
              → Leads p c n s seen.reached ⊎ (has_step (step node.machine) ≡ false)
          of (inr l) = inl l
          of (inl h) =
              inr (subst (λ (z : Node). has_step (step z.machine) ≡ false) (some_is (sym there.1 ∙ here))
              (idle_rests there.0.machine there.2.runs_on h))
      by (source j plan planned at) =
          rests (let r = source_role n node j plan here planned at in subst IsScript (sym r.2) tt)
      by (sink j plan planned at) =
          rests (let r = sink_role n node j plan here planned at in subst IsScript (sym r.1) tt)

  -- its own step
  local_seen : (c' : Configuration) (n : ℕ) → IsLocal c n c' → IsNextSeen p c seen (note_of c (Local n)) c'
  local_seen c' n l = by (node_goes n l.node l.here)
    where
      by : Leads p c n s seen.reached ⊎ (has_step (step l.node.machine) ≡ false)
          → IsNextSeen p c seen (note_of c (Local n)) c'
      by (inl m) =
          let same : m.leads.configuration ≡ c' = one_local c m.leads.configuration c' n m.leads.local l in
          record {
            next = record {
              state = m.state;
              reached = m.reached;
              shows = subst (λ z. Shows p z m.state) same m.leads.shows;
            };
            progress = subst (λ z. Progress p s m.state seen.reached m.reached c z) same m.progress;
            more = λ e. [];
            hands = λ e. m.quiet e ∙ sym (append-nil (handed p e seen.reached.steps));
            known = λ e. local_silent e n (node_of c n);
          }
      by (inr h) =
          absurd (true≢false (sym (made_step l.machine l.ran l.is_step) ∙ sym (ap has_step l.steps) ∙ h))

  -- what changes nothing that is shown
  still : (c' : Configuration) → Shows p c' s → weight_of c' < weight_of c → IsNextSeen p c seen [] c'
  still c' now lighter =
      record {
        next = record { state = s; reached = seen.reached; shows = now };
        progress = inr (omega arith, lighter);
        more = λ e. [];
        hands = λ e. sym (append-nil (handed p e seen.reached.steps));
        known = λ e. tt;
      }

  -- a notice
  notice_seen : (c' : Configuration) (e : End) → IsNotice c e c' → IsNextSeen p c seen [] c'
  notice_seen c' e l =
      by (stand_at s e) (notices_are_seen p c c' s e reached.built shows steady l)
    where
      wired : far_end (all_wires p) e ≡ Some l.far
      wired = ap (λ ws. far_end ws e) (sym shows.wires) ∙ l.wired

      small : e.link < 4
      small = by (wire_joins p reached.built e l.far wired)
        where
          by : AreJoined p e l.far → e.link < 4
          by (inl (a, b)) = a.1
          by (inr (a, b)) = omega (arith, a.2)

      there : (plan : NodePlan) × (slice_get p.nodes e.node ≡ Some plan)
      there = noticing p reached.built c c' s e shows l

      shown : ShowsNode s e.node there.0 (shows.named e.node) (shows.sent e.node) l.node
      shown =
          let old = shows.processors e.node there.0 there.1 in
          subst (ShowsNode s e.node there.0 (shows.named e.node) (shows.sent e.node)) (some_is (sym old.1 ∙ l.here))
          old.2

      lighter : weight_of c' < weight_of c
      lighter =
          put_lighter c c' e.node l.node (record l.node { machine = hidden (notice e.link l.node.machine) }) l.here
          l.after (notice_lighter l.node e.link small
          ((steady e.node l.node l.here).steady shown.role).placed.claimed.links l.not_noticed)

      by : (o : Option Stand) → IsNoticeSeen o p c' e s → IsNextSeen p c seen [] c'
      by (Some (Chooses d)) (due, after) =
          let first : GoesOn p (Wire e) s seen.reached = on p steps end k s seen.reached (Wire e) due in
          record {
            next = record {
              state = first.state;
              reached = first.reached;
              shows = (after first.state first.makes).1;
            };
            progress = inl (omega (arith, first.longer));
            more = λ d. [];
            hands = λ d. none_more p (Wire e) s seen.reached first d (after first.state first.makes).0 _ refl
                ∙ sym (append-nil (handed p d seen.reached.steps));
            known = λ d. tt;
          }
      by _ now = still c' now lighter

  -- a message that goes over
  copy_seen : (c' : Configuration) (f e : End) → IsCopy c f e c' → IsNextSeen p c seen (note_of c (Copy f e)) c'
  copy_seen c' f e l =
      record {
        next = record {
          state = first.state;
          reached = first.reached;
          shows = copies_are_seen p c c' s first.state f e reached.built shows steady l first.makes;
        };
        progress = inl (omega (arith, first.longer));
        more = λ d. cond (same_end e d) (given first.makes.label.deed.message) [];
        hands = λ d. ap (handed p d) first.last ∙ hands_one p d (Wire e) s first.state first.makes seen.reached.steps;
        known = λ d.
            subst (λ z. AreKnownAs (cond (same_end e d) (given first.makes.label.deed.message) []) (arrived d z))
            (sym (copy_told c c' f e l))
            (passes d (same_end e d) refl first.makes.label.deed.message
            (handed_known p c c' s first.state f e reached.built shows steady l first.makes));
      }
    where
      first : GoesOn p (Wire e) s seen.reached
      first = on p steps end k s seen.reached (Wire e) (wire_due p c c' s f e reached.built shows steady l)

      bytes : List ℕ
      bytes = bytes_at l.sender.machine.store l.out.buffer l.out.length

      passes : (d : End) (b : Bool) → same_end e d ≡ b → (o : Option Store)
          → IsKnown p c c' s first.state f e reached.built shows steady l first.makes o
          → AreKnownAs (cond (same_end e d) (given o) [])
          (arrived d (Msg f e (bytes_at l.sender.machine.store l.out.buffer l.out.length) ∷ []))
      passes d true h (Some message) known = rw h (knows_shown message _ known, tt)
      passes d true h None known = absurd known
      passes d false h o known = rw h tt

  -- a message that is over
  wake_seen : (c' : Configuration) (f : End) → IsWake c f c' → IsNextSeen p c seen [] c'
  wake_seen c' f l = by (kind_at p c f.node l.node reached l.copied.node)
    where
      old : IsSteadyNode l.node
      old = steady f.node l.node l.copied.node

      lighter : suc (weight (marked f.link false (record l.node {
        role = role_woken l.node.role;
        machine = hidden (woken l.node.role f.link l.node.machine);
      }))) ≡ weight l.node → weight_of c' < weight_of c
      lighter h =
          put_lighter c c' f.node l.node (marked f.link false (record l.node {
            role = role_woken l.node.role;
            machine = hidden (woken l.node.role f.link l.node.machine);
          })) l.copied.node l.after h

      by : Kind p f.node → IsNextSeen p c seen [] c'
      by (processor plan planned) =
          let there = shows.processors f.node plan planned in
          let same : there.0 ≡ l.node = some_is (sym there.1 ∙ l.copied.node) in
          let role : l.node.role ≡ Processor = ap (λ (z : Node). z.role) (sym same) ∙ there.2.role in
          still c' (wakes_are_seen p c c' s f plan planned shows steady l)
          (lighter (processor_lighter l.node f.link l.out role l.copied.output
          (link_small l.node.machine.control f.link l.out (old.steady role).placed.claimed.links l.copied.output)
          old.copied l.copied.copied (role_woken l.node.role)))
      by (source j plan planned at) =
          let r = source_role f.node l.node j plan l.copied.node planned at in
          let zero : f.link ≡ 0 =
          source_link p c f.node l.node reached l.copied.node r.0 r.1 f.link l.out r.2 l.copied.output in
          still c' (source_wakes_are_seen p c c' s j plan planned shows steady
          (subst (λ z. IsWake c z c') (end_same f (end_at (length p.nodes + j) 0) at zero) l))
          (lighter (source_lighter l.node f.link r.0 r.1 r.2 (omega (arith, zero)) old.copied l.copied.copied
          (role_woken l.node.role)))
      by (sink j plan planned at) =
          let r = sink_role f.node l.node j plan l.copied.node planned at in
          absurd (sink_silent p c f.node l.node reached l.copied.node r.0 f.link l.out r.1 l.copied.output)

  -- no node freezes
  freeze_never : (c' : Configuration) (n : ℕ) (b : Break) → IsFreeze c n b c' → ⊥
  freeze_never c' n b l = by l.reason
    where
      own : step l.node.machine ≡ Err b → Leads p c n s seen.reached ⊎ (has_step (step l.node.machine) ≡ false) → ⊥
      own e (inl m) =
          not_both (m.leads.local.machine, m.leads.local.ran) b
          (sym m.leads.local.steps
          ∙ ap (λ (z : Node). step z.machine) (some_is (sym m.leads.local.here ∙ l.here)) ∙ e)
      own e (inr h) = true≢false (sym (ap has_step e) ∙ h)

      by : (step l.node.machine ≡ Err b) ⊎ ((b ≡ LengthMismatch) × IsMismatch c n) → ⊥
      by (inl e) = own e (node_goes n l.node l.here)
      by (inr (e, m)) =
          let stopped : IsStopped p (end_at n m.link) s = mismatches_stop p c s n reached.built shows steady m in
          true≢false (sym stopped.stops
          ∙ never p steps end k s seen.reached (Wire (end_at n m.link)) stopped.label stopped.after stopped.agent
          stopped.step)

  -- so each lawful step is seen
  pub step_seen : (c' : Configuration) (l : Step) → Lawful c l c' → IsNextSeen p c seen (note_of c l) c'
  step_seen c' (Local n) l = local_seen c' n l
  step_seen c' (Notice e) l = notice_seen c' e l
  step_seen c' (Copy f e) l = copy_seen c' f e l
  step_seen c' (Wake f) l = wake_seen c' f l
  step_seen c' (Freeze_at n b) l = absurd (freeze_never c' n b l)
