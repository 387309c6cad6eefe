-- A node whose current process goes on in an alternative is shown.
use Rattle.std.specs.Prelude.{IfSome, slice_index_or}
use Rattle.tproc.specs.Placement.{IsBuffer}
use Rattle.tproc.specs.LinkChannels.{link_end, quiet_end}
use Rattle.tproc.specs.declared.waiter.LinkEnd.{LinkEnd}
use Rattle.tseen.proofs.Receives.{input_receives}
use Rattle.tprocesses.specs.Values.{IsFlag}
use Rattle.std.proofs.Common.{cond}
use Rattle.std.specs.Prelude.{◌==◌}
use Rattle.std.proofs.Common.{◌≡◌, ◌≢◌, ℕ, ◌+◌, ◌/◌, ◌%◌, refl, sym, ap, subst, ◌∙◌, Bool, true, false}
use Rattle.std.proofs.Common.{true≢false, length, Contains, Ok, arith, ◌⊎◌, inl, inr, pos, None, get_or, List, ◌<◌}
use Rattle.std.proofs.lemmas.Bool.{eqb-true, ne_eqb}
use Rattle.std.proofs.lemmas.List.Elements.{All-contains}
use Rattle.std.proofs.lemmas.Option.{IfSome_then}
use Rattle.tword.specs.Words.{most_neg, word_below}
use Rattle.tword.specs.Stores.{Store, word_at, hiding}
use Rattle.tword.specs.Claims.{Claims, is_input}
use Rattle.tword.specs.Touches.{byte_span}
use Rattle.tcpu.specs.declared.registers.Registers.{Registers}
use Rattle.tproc.specs.declared.channels.Side.TheVariants.{Input, Output}
use Rattle.tproc.specs.declared.ran.Ran.TheVariants as ran
use Rattle.tproc.specs.Hidden.{hidden}
use Rattle.tproc.specs.Machine.{Control, Machine, claims_of, descheduled, workspace_of}
use Rattle.tproc.specs.ProcessStatus.{live}
use Rattle.tproc.specs.Queues.{iptr_word}
use Rattle.tproc.specs.SavedWords.{WordStands, SavedStand}
use Rattle.tproc.specs.Steps.{step}
use Rattle.tproc.proofs.SavedWords.{saved_words_stand}
use Rattle.tplan.specs.declared.plan.Plan.{Plan}
use Rattle.tplan.specs.Wires.{end_at}
use Rattle.tnet.specs.Rendezvous.{Node, Configuration}
use Rattle.tprocesses.specs.Places.{Place, Name, WordAt, Sending, Standing, Ports, Half, LinkHalf, Error, HaltOnError}
use Rattle.tprocesses.specs.Places.{Life, Population, HasRun, same_name}
use Rattle.tprocesses.specs.Values.{Value, Use, Free, Saved, Receiving, Engaged}
use Rattle.tprocesses.specs.Values.{Choosing, Awaiting, Last, Spoilt, Context}
use Rattle.tprocesses.specs.Values.{Stand, Rests, Runs, IsStand, IsAmount, word_in}
use Rattle.tprocesses.specs.Machine.{awaits_successor, is_passable}
use Rattle.tseen.specs.Known.{HasRegisters}
use Rattle.tseen.specs.Seats.{Seat, Current, Interrupted, Queued, Waiting, is_taken}
use Rattle.tseen.specs.Words.{AreSavedWords, is_set_aside}
use Rattle.tseen.specs.Halves.{ShowsChannels, ShowsLink}
use Rattle.tseen.specs.Choices.{ShowsChoices}
use Rattle.tseen.specs.Processes.{IsSeated, IsGone, ShowsProcesses}
use Rattle.tseen.specs.Shown.{ShowsNode}
use Rattle.tseen.specs.Steps.{IsCurrent, LeadsTo}
use Rattle.tseen.proofs.After.{State}
use Rattle.tseen.proofs.Cells.{use_of, Tells, shows_from}
use Rattle.tseen.proofs.Frames.{node_at}
use Rattle.tseen.proofs.Finished.{one_name}
use Rattle.tseen.proofs.Running.{RunsThere}
use Rattle.tseen.proofs.Staying.{saved_words_stay, marks_from}
use Rattle.tseen.proofs.Counted.{count_at, settled, live_long, lives_are, waits_descheduled, queued_descheduled}
use Rattle.tseen.proofs.Others.{interrupted_seated, other_name, queued_seated, waiting_seated, is_running}
use Rattle.tseen.proofs.Others.{queued_not_running, waiting_not_running}
use Rattle.tseen.proofs.Stepped.{apart, shown_node, there, leads_there, hidden_if}

-- a word that programs may use, as a channel or for an alternative
abbrev pub is_open : Use → Bool
is_open Free = true
is_open Engaged = true
is_open Choosing = true
is_open _ = false

pub aside_not_open : (u : Use) → is_set_aside u ≡ true → is_open u ≡ false
aside_not_open Saved e = refl
aside_not_open Awaiting e = refl
aside_not_open Free e = absurd (true≢false (sym e))
aside_not_open Engaged e = absurd (true≢false (sym e))
aside_not_open Choosing e = absurd (true≢false (sym e))
aside_not_open Receiving e = refl
aside_not_open (Last q) e = refl
aside_not_open Spoilt e = refl

open_awaits_nobody : (u : Use) → is_open u ≡ true → awaits_successor u ≡ false
open_awaits_nobody Free e = refl
open_awaits_nobody Engaged e = refl
open_awaits_nobody Choosing e = refl
open_awaits_nobody Saved e = refl
open_awaits_nobody Awaiting e = refl
open_awaits_nobody Receiving e = refl
open_awaits_nobody (Last q) e = absurd (true≢false (sym e))
open_awaits_nobody Spoilt e = absurd (true≢false (sym e))

-- a place that an operation of an alternative may change
abbrev pub is_choice_place : ℕ → Name → Place → Bool
is_choice_place n x (WordAt m j) = n == m
is_choice_place n x (Standing y) = same_name x y
is_choice_place n x (Ports y) = same_name x y
is_choice_place n x (Half m d Input) = n == m
is_choice_place n x (LinkHalf e Input) = n == e.node
is_choice_place n x _ = false

module _ (p : Plan) (c : Configuration) (s : State) (n : ℕ) (x : Name) (k : IsCurrent p c s n x) where
  abbrev m : Control
  m = k.node.machine.control

  abbrev store : Store
  store = k.node.machine.store

  abbrev running : RunsThere s n k.plan k.node x
  running = there p c s n x k

  abbrev shown : ShowsNode s n k.plan (k.shows.named n) (k.shows.sent n) k.node
  shown = shown_node p c s n x k

  abbrev named : Seat → Name
  named = k.shows.named n

  -- the machine where it goes on
  abbrev pub gone : Registers → ℕ → List LinkEnd → Store → Machine
  gone after count links last =
      record { control = record m { registers = after; count = count; links = links }; store = last }

  -- the process has gone on, and words have changed that programs may use, as channels or for alternatives
  pub record HasGone (s' : State) (after : Registers) (count : ℕ) (links : List LinkEnd) (last : Store) (d : Context)
      : Type 0 where
    pub tells : Tells s' n k.plan.memory last
    pub stands : s' (Standing x) ≡ IsStand (Runs d)
    pub knows : HasRegisters running.level after d
    pub same_wptr : after.wptr ≡ m.registers.wptr
    pub same_error : after.error ≡ m.registers.error
    pub same_halting : after.halt_on_error ≡ m.registers.halt_on_error
    pub others : (q : Place) → is_choice_place n x q ≡ false → s' q ≡ s q
    pub words : (j : ℕ) → (s' (WordAt n j) ≡ s (WordAt n j))
        ⊎ ((is_open (use_of s n j) ≡ true) × (is_open (use_of s' n j) ≡ true))
    pub only : (i : ℕ) → is_open (use_of s n (i / 4)) ≡ false → get_or last i None ≡ get_or store i None
    pub channels : ShowsChannels s' n named (gone after count links last)
    pub choices : ShowsChoices s' n links last
    -- no message of a link comes or goes, and no byte is noticed
    pub same_inputs : (l : ℕ) → (slice_index_or links l quiet_end).input ≡ (link_end m l).input
    pub same_claims : claims_of (gone after count links last).control ≡ claims_of m
    pub notices : (l : ℕ) → (slice_index_or links l quiet_end).noticed ≡ true → (link_end m l).noticed ≡ true
    pub linked : (l : ℕ) → l < 4
        → ShowsLink s' n named (k.shows.sent n) (record k.node { machine = gone after count links last }) l

  module _ (s' : State) (after : Registers) (count : ℕ) (links : List LinkEnd) (last : Store) (d : Context)
      (g : HasGone s' after count links last d)
      (stepped : step k.node.machine ≡ Ok (gone after count links last, ran.Instruction)) where
    abbrev m' : Machine
    m' = gone after count links last

    abbrev node' : Node
    node' = record k.node { machine = m' }

    -- a word that is not open stays
    stays : (j : ℕ) → is_open (use_of s n j) ≡ false → s' (WordAt n j) ≡ s (WordAt n j)
    stays j h = by (g.words j)
      where
        by : (s' (WordAt n j) ≡ s (WordAt n j))
            ⊎ ((is_open (use_of s n j) ≡ true) × (is_open (use_of s' n j) ≡ true))
            → s' (WordAt n j) ≡ s (WordAt n j)
        by (inl e) = e
        by (inr e) = absurd (true≢false (sym e.0 ∙ h))

    stand_words : SavedStand k.node.machine m'
    stand_words = (saved_words_stand k.node.machine k.steady.placed).steps m' ran.Instruction stepped

    iptrs : (w : ℕ) → Contains (descheduled m) w
        → word_at last (word_below w iptr_word) ≡ word_at store (word_below w iptr_word)
    iptrs w h =
        All-contains (λ w. WordStands iptr_word w k.node.machine m') (descheduled m) w stand_words.iptrs h

    stand_stays : (y : Name) → same_name x y ≡ false → s' (Standing y) ≡ s (Standing y)
    stand_stays y h = g.others (Standing y) h

    run_stays : (q : ℕ) → s' (HasRun n q) ≡ s (HasRun n q)
    run_stays q = g.others (HasRun n q) refl

    not_this : (y : Name) (stand : Stand) → s (Standing y) ≡ IsStand stand → is_running (IsStand stand) ≡ false
        → same_name x y ≡ false
    not_this y stand e h = other_name p s x y (Runs running.context) stand is_running running.stood e refl h

    seated : (q : Seat) → is_taken m q ≡ true → IsSeated s' n node' q (named q)
    seated Current h =
        subst (IsSeated s' n node' Current) (sym k.name) (record {
          home = running.home;
          stand = Runs d;
          stands = g.stands;
          fits = rw running.current g.knows;
          has_run = run_stays d.priority ∙ ap (λ q. s (HasRun n q)) g.knows.priority ∙ running.has_run;
        })
    seated Interrupted h =
        interrupted_seated n x s s' stand_stays run_stays k.node node' (named Interrupted) (apart p c s n x k h) refl
        (shown.processes.seated Interrupted h)
    seated (Queued b) h =
        let old : IsSeated s n k.node (Queued b) (named (Queued b)) = shown.processes.seated (Queued b) h in
        queued_seated n x s s' stand_stays run_stays k.node node' b (named (Queued b))
        (not_this (named (Queued b)) old.stand old.stands (queued_not_running k.node b old.stand old.fits))
        (iptrs (workspace_of b) (queued_descheduled m b h)) old
    seated (Waiting b) h =
        let old : IsSeated s n k.node (Waiting b) (named (Waiting b)) = shown.processes.seated (Waiting b) h in
        waiting_seated n x s s' stand_stays run_stays k.node node' b (named (Waiting b))
        (not_this (named (Waiting b)) old.stand old.stands (waiting_not_running k.node b old.stand old.fits))
        (λ f. f) (λ f. f) (iptrs (workspace_of b) (waits_descheduled m b h)) old

    abbrev HasPlace : Name → Type 0
    HasPlace y = IsGone s' n y ⊎ ((q : Seat) × (is_taken m q ≡ true) × (named q ≡ y))

    placed : (y : Name) → y.node ≡ n → HasPlace y
    placed y h = by (same_name x y) refl
      where
        of : same_name x y ≡ false → IsGone s n y ⊎ ((q : Seat) × (is_taken m q ≡ true) × (named q ≡ y))
            → HasPlace y
        of other (inl (inl e)) = inl (inl (stand_stays y other ∙ e))
        of other (inl (inr e)) = inl (inr (stand_stays y other ∙ e))
        of other (inr q) = inr q

        by : (b : Bool) → same_name x y ≡ b → HasPlace y
        by true e = inr (Current, rw running.current refl, k.name ∙ one_name p x y e)
        by false e = of e (shown.processes.there y h)

    -- how many live
    lives : (w : ℕ) → s' (Life n w) ≡ IsAmount (pos (count_at w (live m'.control)))
    lives w =
        g.others (Life n w) refl ∙ shown.processes.lives w
        ∙ ap (λ z. IsAmount (pos z)) (lives_are m running.level w running.current aligned running.small
        ∙ ap (λ z. count_at w (settled m) + cond (z == w) 1 0) (sym g.same_wptr)
        ∙ sym (lives_are m'.control running.level w running.current aligned' running.small))
      where
        aligned : m.registers.wptr % 4 ≡ 0
        aligned = eqb-true _ _ k.steady.placed.words.aligned

        aligned' : after.wptr % 4 ≡ 0
        aligned' = ap (λ z. z % 4) g.same_wptr ∙ aligned

    processes_now : ShowsProcesses s' n named (k.shows.sent n) node'
    processes_now =
        record {
          seated = seated;
          there = placed;
          lent = λ y a l h e f. shown.processes.lent y a l h (rests_before y a e (same_name x y) refl) f;
          passed = λ l q e h. (let f = shown.processes.passed l q e h in (
            f.0,
            f.1,
            stand_stays q.request.process (not_this q.request.process (Rests f.1) f.2 refl) ∙ f.2,
            f.3,
          ));
          lives = lives;
          population = (
            shown.processes.population.0,
            g.others (Population n) refl ∙ shown.processes.population.1,
            omega (
              arith,
              live_long m'.control running.level running.current,
              live_long m running.level running.current,
              shown.processes.population.2,
            ),
          );
          interrupting = IfSome_then m.interrupted shown.processes.interrupting (λ t e. run_stays 0 ∙ e);
          flags = λ h. record {
            error = g.others (Error n) refl ∙ running.flags.error ∙ ap IsFlag (sym g.same_error);
            halting = g.others (HaltOnError n) refl ∙ running.flags.halting ∙ ap IsFlag (sym g.same_halting);
          };
          kept_flags = λ h. IfSome_then m.interrupted (shown.processes.kept_flags k.kept) (λ t f. record {
            error = g.others (Error n) refl ∙ f.error;
            halting = g.others (HaltOnError n) refl ∙ f.halting;
          });
        }
      where
        not_rests : (a : Context) → IsStand (Runs d) ≡ IsStand (Rests a) → ⊥
        not_rests a e = cc

        rests_before : (y : Name) (a : Context) → s' (Standing y) ≡ IsStand (Rests a) → (b : Bool)
            → same_name x y ≡ b → s (Standing y) ≡ IsStand (Rests a)
        rests_before y a e false other = sym (stand_stays y other) ∙ e
        rests_before y a e true same =
            absurd (not_rests a (sym g.stands ∙ ap (λ z. s' (Standing z)) (one_name p x y same) ∙ e))

    none_due : (j : ℕ) → awaits_successor (use_of s' n j) ≡ false
    none_due j = by (g.words j)
      where
        by : (s' (WordAt n j) ≡ s (WordAt n j))
            ⊎ ((is_open (use_of s n j) ≡ true) × (is_open (use_of s' n j) ≡ true))
            → awaits_successor (use_of s' n j) ≡ false
        by (inl e) = ap (λ (v : Value). awaits_successor (word_in v).used) e ∙ shown.marks.no_successor j
        by (inr e) = open_awaits_nobody (use_of s' n j) e.1

    gone_shown : ShowsNode s' n k.plan named (k.shows.sent n) node'
    gone_shown =
        record {
          role = shown.role;
          works = shown.works;
          runs_on = shown.runs_on;
          size = g.tells.length;
          kind = shown.kind;
          store = shows_from s' n k.plan.memory last g.tells;
          marks = marks_from s s' n (k.shows.sent n) (k.shows.sent n) m m'.control
              (λ w h. saved_words_stay s s' n w (λ j e. stays j (aside_not_open (use_of s n j) e))
              (All-contains (AreSavedWords s n) (descheduled m) w shown.marks.saved h))
              g.same_inputs
              (λ j e. ap (λ (v : Value). (word_in v).used) (stays j (ap is_open e)) ∙ e)
              (λ j. g.others (Sending n j) refl ∙ shown.marks.outputs j) none_due shown.marks;
          channels = g.channels;
          links = g.linked;
          processes = processes_now;
          choices = g.choices;
        }

    -- pending inputs are hidden still
    hides : hidden m' ≡ m'
    hides =
        ap (λ (z : Store). record { control = m'.control; store = z })
        (ap (λ (z : Claims). hiding (λ a. is_input z (byte_span a)) last) g.same_claims
        ∙ hidden_if m store last (λ i h. g.only i (input_shut i h)) (ap (λ (z : Machine). z.store) k.steady.hides))
      where
        buffers : (j : ℕ) → IfSome (link_end m j).input (IsBuffer (length store))
        buffers j = IfSome_then (link_end m j).input (k.steady.placed.claimed.inputs j) (λ o h. h.1)

        input_shut : (i : ℕ) → is_input (claims_of m) (byte_span (most_neg + i)) ≡ true
            → is_open (use_of s n (i / 4)) ≡ false
        input_shut i h =
            ap is_open (input_receives s n (k.shows.sent n) m (length store) buffers shown.marks i h)

    elsewhere : (q : Place) → node_at q ≢ n → s' q ≡ s q
    elsewhere q h = g.others q (other q h)
      where
        other : (q : Place) → node_at q ≢ n → is_choice_place n x q ≡ false
        other (WordAt b i) h = ne_eqb n b (λ e. h (sym e))
        other (Standing y) h = rw (ne_eqb x.node y.node (λ f. h (sym f ∙ running.home))) refl
        other (Ports y) h = rw (ne_eqb x.node y.node (λ f. h (sym f ∙ running.home))) refl
        other (Half b e Input) h = ne_eqb n b (λ f. h (sym f))
        other (LinkHalf e Input) h = ne_eqb n e.node (λ f. h (sym f))
        other _ h = refl

    -- so the node's step leads there
    pub gone_leads : LeadsTo p c n s'
    gone_leads =
        leads_there p c s n x k m' s' named (k.shows.sent n) stepped hides gone_shown elsewhere (record {
          offers = λ l. offer_stays (LinkHalf (end_at n l) Output) (g.others (LinkHalf (end_at n l) Output) refl);
          notices = g.notices;
        })
      where
        offer_stays : (q : Place) → s' q ≡ s q → is_passable q (s q) ≡ true → is_passable q (s' q) ≡ true
        offer_stays q same h = ap (is_passable q) same ∙ h
