-- What is shown of a node stays shown where all places of the node stay.
use Rattle.tprocesses.specs.Values.{amount_in}
use Rattle.std.proofs.Common.{◌≡◌, ℕ, refl, sym, ap, subst, ◌∙◌, Option, ◌⊎◌, inl, inr, true}
use Rattle.std.proofs.lemmas.Option.{IfSome_then}
use Rattle.tcpu.specs.declared.registers.Registers.{Registers}
use Rattle.tplan.specs.declared.plan.NodePlan.{NodePlan}
use Rattle.tplan.specs.Wires.{end_at}
use Rattle.tnet.specs.Rendezvous.{Node}
use Rattle.tprocesses.specs.Places.{Place, Name, WordAt, Sending, Standing, Ports}
use Rattle.tprocesses.specs.Places.{Half, LinkHalf, Unfinished, Error, HaltOnError, Life}
use Rattle.tprocesses.specs.Places.{Successions, Messages, Kept, Population, HasRun, FlagChanged}
use Rattle.tprocesses.specs.Values.{Value, word_in, stand_in}
use Rattle.tproc.specs.declared.channels.Side.TheVariants.{Input}
use Rattle.tseen.specs.Choices.{alternative_of, alternative_at, is_quiet}
use Rattle.tseen.specs.Seats.{Seat, is_taken}
use Rattle.tseen.specs.Outputs.{Pending}
use Rattle.std.proofs.lemmas.List.Elements.{All-contains}
use Rattle.tproc.specs.Machine.{descheduled}
use Rattle.tprocesses.specs.Machine.{awaits_successor}
use Rattle.tseen.specs.Words.{ShowsWord, AreSavedWords}
use Rattle.tseen.specs.Processes.{IsSeated, IsGone, HasFlags, KeepsFlags, ShowsProcesses, context_in}
use Rattle.tseen.specs.Shown.{ShowsNode}
use Rattle.tseen.proofs.After.{State}
use Rattle.tseen.proofs.Cells.{use_of}
use Rattle.tseen.proofs.Staying.{saved_words_stay, marks_from, channels_stay, link_stays}
use Rattle.tseen.proofs.Choices.{choices_stay}
use Rattle.tseen.proofs.InputChannels.{descriptors_stay, inputs_stay}

-- the node of a place
abbrev pub node_at : Place → ℕ
node_at (WordAt n k) = n
node_at (Sending n k) = n
node_at (Standing x) = x.node
node_at (Ports x) = x.node
node_at (Half n c side) = n
node_at (LinkHalf e side) = e.node
node_at (Unfinished e) = e.node
node_at (Error n) = n
node_at (HaltOnError n) = n
node_at (Life n w) = n
node_at (Successions n w) = n
node_at (Messages e) = e.node
node_at (Kept e) = e.node
node_at (Population n) = n
node_at (HasRun n q) = n
node_at (FlagChanged n) = n

module _ (n : ℕ) (s s' : State) (same : (q : Place) → node_at q ≡ n → s' q ≡ s q) where
  -- a place of the node where something stands
  moved_to : {v : Value} (q : Place) → node_at q ≡ n → s q ≡ v → s' q ≡ v
  moved_to q h e = same q h ∙ e

  gone : (x : Name) → x.node ≡ n → IsGone s n x → IsGone s' n x
  gone x h (inl e) = inl (moved_to (Standing x) h e)
  gone x h (inr e) = inr (moved_to (Standing x) h e)

  seated : (node : Node) (q : Seat) (x : Name) → IsSeated s n node q x → IsSeated s' n node q x
  seated node q x k =
      record {
        home = k.home;
        stand = k.stand;
        stands = moved_to (Standing x) k.home k.stands;
        fits = k.fits;
        has_run = IfSome_then (context_in k.stand) k.has_run (λ c e. moved_to (HasRun n c.priority) refl e);
      }

  keeps : KeepsFlags s' n → KeepsFlags s n
  keeps h =
      rw (sym (same (FlagChanged n) refl), sym (same (HasRun n 0) refl), sym (same (HasRun n 1) refl)) h

  has_flags : (r : Registers) → HasFlags s n r → HasFlags s' n r
  has_flags r f =
      record { error = moved_to (Error n) refl f.error; halting = moved_to (HaltOnError n) refl f.halting }

  processes_stay : (named : Seat → Name) (sent : ℕ → Option Pending) (node : Node) → ShowsProcesses s n named sent node
      → ShowsProcesses s' n named sent node
  processes_stay named sent node k =
      record {
        seated = λ q h. seated node q (named q) (k.seated q h);
        there = λ x h. there x h (k.there x h);
        lent = λ x c t h e l. k.lent x c t h (sym (same (Standing x) h) ∙ e) l;
        passed = λ l p e h. (let f = k.passed l p e h in
            (f.0, f.1, moved_to (Standing p.request.process) f.0 f.2, f.3));
        lives = λ w. moved_to (Life n w) refl (k.lives w);
        population = (k.population.0, moved_to (Population n) refl k.population.1, k.population.2);
        interrupting = IfSome_then node.machine.control.interrupted k.interrupting
            (λ t e. moved_to (HasRun n 0) refl e);
        flags = λ h. has_flags node.machine.control.registers (k.flags (keeps h));
        kept_flags = λ h. IfSome_then node.machine.control.interrupted (k.kept_flags (keeps h))
            (λ t f. has_flags t.registers f);
      }
    where
      there : (x : Name) → x.node ≡ n
          → IsGone s n x ⊎ ((q : Seat) × (is_taken node.machine.control q ≡ true) × (named q ≡ x))
          → IsGone s' n x ⊎ ((q : Seat) × (is_taken node.machine.control q ≡ true) × (named q ≡ x))
      there x h (inl g) = inl (gone x h g)
      there x h (inr q) = inr q

  -- so what is shown of it
  pub node_stays : (plan : NodePlan) (named : Seat → Name) (sent : ℕ → Option Pending) (node : Node)
      → ShowsNode s n plan named sent node → ShowsNode s' n plan named sent node
  node_stays plan named sent node k =
      record {
        role = k.role;
        works = k.works;
        runs_on = k.runs_on;
        size = k.size;
        kind = k.kind;
        store = λ j h. subst (ShowsWord node.machine.store j) (sym (same (WordAt n j) refl)) (k.store j h);
        marks = marks_from s s' n sent sent node.machine.control node.machine.control
            (λ v h. saved_words_stay s s' n v (λ j e. same (WordAt n j) refl)
            (All-contains (AreSavedWords s n) (descheduled node.machine.control) v k.marks.saved h)) (λ l. refl)
            (λ j e. uses j ∙ e) (λ j. same (Sending n j) refl ∙ k.marks.outputs j)
            (λ j. ap awaits_successor (uses j) ∙ k.marks.no_successor j) k.marks;
        channels = channels_stay s s' n named named node.machine node.machine (λ w. refl) (λ j e. uses j ∙ e)
            (λ j e. sym (uses j) ∙ e) (λ c side. same (Half n c side) refl)
            (λ q. refl) refl (λ c h e. refl) k.channels;
        links = λ l h. link_stays s s' n named named sent node node l (λ w. refl)
            (λ side. same (LinkHalf (end_at n l) side) refl) (same (Unfinished (end_at n l)) refl)
            (descriptors_stay s s' n node.machine.control.links node.machine.store k.choices alternatives l h) refl refl
            (k.links l h);
        processes = processes_stay named sent node k.processes;
        choices = choices_stay s s' n node.machine.control.links node.machine.control.links node.machine.store
            node.machine.store (inputs_stay s s' n node.machine.control.links node.machine.control.links
            (λ l. same (LinkHalf (end_at n l) Input) refl) refl) alternatives
            (λ x h e. ap (λ (v : Value). is_quiet (stand_in v)) (same (Standing x) h) ∙ e)
            (λ x h. same (Ports x) h) (λ c side. same (Half n c side) refl)
            (λ j e z. ap amount_in (same (Sending n j) refl) ∙ z) (λ j e. same (WordAt n j) refl) refl (λ a e f. refl)
            k.choices;
      }
    where
      alternatives : (x : Name) → x.node ≡ n → alternative_at s' n x ≡ alternative_at s n x
      alternatives x h = ap (λ (v : Value). alternative_of (stand_in v)) (same (Standing x) h)

      uses : (j : ℕ) → use_of s' n j ≡ use_of s n j
      uses j = ap (λ (v : Value). (word_in v).used) (same (WordAt n j) refl)
