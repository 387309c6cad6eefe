-- A node whose current process has ended is shown, where its step changed free words alone.
use Rattle.tprocesses.specs.Values.{amount_in}
use Rattle.tprocesses.specs.Values.{stand_in}
use Rattle.tseen.proofs.Unclaimed.{aside_not_free}
use Rattle.tseen.proofs.Choices.{is_lasting, lasting_not_free, stands_alike}
use Rattle.tseen.proofs.Choices.{quiet_alike, alternative_none, choices_stay}
use Rattle.tprocesses.specs.Places.{Ports, Unfinished}
use Rattle.tseen.specs.Choices.{alternative_of, alternative_at, is_quiet}
use Rattle.std.proofs.Common.{◌≡◌, ◌≢◌, ℕ, ◌+◌, ◌*◌, ◌≤◌, ◌/◌, ◌%◌, refl, sym, ap, subst, ◌∙◌, Bool, true, false}
use Rattle.std.proofs.Common.{true≢false, length, Contains, Ok, arith, ◌⊎◌, inl, inr, pos, None, cond, get_or}
use Rattle.std.specs.Prelude.{◌==◌, ◌||◌, negsuc, if◌then◌else◌}
use Rattle.std.proofs.lemmas.Bool.{or_parts, eq-eqb, eqb-true}
use Rattle.std.proofs.lemmas.List.Elements.{All-contains}
use Rattle.std.proofs.lemmas.Option.{IfSome_then}
use Rattle.tword.specs.Words.{most_neg, word_below}
use Rattle.tword.specs.Stores.{Store, place, word_at, hiding}
use Rattle.tword.specs.Claims.{is_input}
use Rattle.tword.specs.Touches.{byte_span, word_place_break}
use Rattle.tproc.specs.declared.ran.Ran.TheVariants as ran
use Rattle.tproc.specs.Machine.{Control, Machine, claims_of, descheduled, workspace_of}
use Rattle.tproc.specs.ProcessStatus.{live}
use Rattle.tproc.specs.Queues.{at_rest, iptr_word}
use Rattle.tproc.specs.SavedWords.{WordStands, SavedStand}
use Rattle.tproc.specs.Steps.{step}
use Rattle.tproc.proofs.SavedWords.{saved_words_stand}
use Rattle.tplan.specs.declared.plan.Plan.{Plan}
use Rattle.tplan.specs.Wires.{end_at}
use Rattle.tnet.specs.Rendezvous.{Node, Configuration}
use Rattle.tprocesses.specs.Places.{Place, Name, WordAt, Sending, Standing, Half, LinkHalf, Error, HaltOnError, Life}
use Rattle.tprocesses.specs.Places.{Population, HasRun, same_name}
use Rattle.tprocesses.specs.Values.{Value, Free, Context, Stand, Rests, Runs, Ended, IsStand, IsAmount}
use Rattle.tprocesses.specs.Values.{word_in}
use Rattle.tprocesses.specs.Changes.{Add, apply}
use Rattle.tprocesses.specs.Touching.{Site, word_number}
use Rattle.tprocesses.specs.Machine.{site_of, awaits_successor}
use Rattle.tseen.specs.Seats.{Seat, Current, Interrupted, Queued, Waiting, is_taken}
use Rattle.tseen.specs.Words.{AreSavedWords, use_at}
use Rattle.tseen.specs.Processes.{IsSeated, IsGone, ShowsProcesses}
use Rattle.tseen.specs.Shown.{ShowsNode}
use Rattle.tseen.specs.Steps.{IsCurrent, LeadsTo}
use Rattle.tseen.proofs.After.{State, changed}
use Rattle.tseen.proofs.Cells.{use_of, Knows, IsWhole, Tells, shows_from}
use Rattle.tseen.proofs.Written.{is_word_of}
use Rattle.tseen.proofs.Writing.{word_lies}
use Rattle.tseen.proofs.Stored.{GoesOn}
use Rattle.tseen.proofs.Finished.{is_flag_of, is_life_of, is_stand_of, HasMoved, StandsNow, one_name, place_itself}
use Rattle.tseen.proofs.Completed.{is_own}
use Rattle.tseen.proofs.Frames.{node_at}
use Rattle.tseen.proofs.Running.{RunsThere}
use Rattle.tseen.proofs.Own.{word_stays}
use Rattle.tseen.proofs.Staying.{saved_words_stay, marks_from, channels_stay, link_stays}
use Rattle.tseen.proofs.Counted.{count_at, settled, live_long, live_idle, lives_are, waits_descheduled}
use Rattle.tseen.proofs.Counted.{queued_descheduled}
use Rattle.tseen.proofs.TakenBack.{one_less}
use Rattle.tseen.proofs.Others.{interrupted_seated, other_name, queued_seated, waiting_seated, is_running}
use Rattle.tseen.proofs.Others.{queued_not_running, waiting_not_running}
use Rattle.tseen.proofs.Stepped.{apart, shown_node, there, leads_there, elsewhere_if, still_hidden}
use Rattle.tseen.proofs.InputChannels.{descriptors_stay, inputs_stay}
use Rattle.tproc.specs.declared.channels.Side.TheVariants.{Input, Output}
use Rattle.tseen.proofs.NoticedOffers.{outputs_stay}

-- a process whose workspace does not change moves nothing
pub nothing_moved : (site : Site) (w v : ℕ) (s t : State) → w ≡ v → HasMoved site w v s t → t ≡ s
nothing_moved site w v s t same h = λ i q. at q i
  where
    life : (a b : ℕ) → (o : Bool) → (site.number == a) ≡ o → t (Life a b) ≡ s (Life a b)
    life a b false e = h.others (Life a b) e
    life a b true e =
        let here : site.number ≡ a = eqb-true _ _ e in
        let same_life : t (Life site.number b) ≡ s (Life site.number b) = rw (eq-eqb w v same) at (h.lives b) in
        subst (λ z. t (Life z b) ≡ s (Life z b)) here same_life

    at : (q : Place) → t q ≡ s q
    at (Life a b) = life a b (site.number == a) refl
    at q = h.others q refl

module _ (p : Plan) (c : Configuration) (s : State) (n : ℕ) (x : Name) (k : IsCurrent p c s n x) where
  abbrev m : Control
  m = k.node.machine.control

  abbrev store : Store
  store = k.node.machine.store

  abbrev site : Site
  site = site_of n k.plan

  abbrev running : RunsThere s n k.plan k.node x
  running = there p c s n x k

  abbrev shown : ShowsNode s n k.plan (k.shows.named n) (k.shows.sent n) k.node
  shown = shown_node p c s n x k

  abbrev named : Seat → Name
  named = k.shows.named n

  -- the process has ended, and else free words alone have changed, in the state and in the store. before: the state
  -- with all its words as they are then
  pub record HasLeft (s' : State) (last : Store) : Type 0 where
    pub before : State
    pub on : GoesOn n k.plan.memory s before store last
    pub plain : running.context.choice ≡ None
    pub ended : StandsNow site x Ended (changed (Life n m.registers.wptr) (Add (negsuc 0)) before) s'

  -- the saved first addresses are those that they were
  abbrev pub IptrsStay : Store → Type 0
  IptrsStay last =
      (w : ℕ) → Contains (descheduled m) w
      → word_at last (word_below w iptr_word) ≡ word_at store (word_below w iptr_word)

  -- so they are after each step of the processor
  pub iptrs_stay : (m' : Machine) → step k.node.machine ≡ Ok (m', ran.Instruction) → IptrsStay m'.store
  iptrs_stay m' stepped w h =
      let stands : SavedStand k.node.machine m' =
      (saved_words_stand k.node.machine k.steady.placed).steps m' ran.Instruction stepped in
      All-contains (λ w. WordStands iptr_word w k.node.machine m') (descheduled m) w stands.iptrs h

  -- no process runs
  abbrev pub rested : Store → Machine
  rested last = record { control = at_rest m; store = last }

  module _ (s' : State) (last : Store) (left : HasLeft s' last) where
    -- pending inputs are hidden still
    pub left_hides : hiding (λ a. is_input (claims_of m) (byte_span a)) last ≡ last
    left_hides =
        still_hidden n k.plan.memory s left.before m store last running.permits left.on
        (ap (λ (z : Machine). z.store) k.steady.hides)

    word_now : (j : ℕ) → s' (WordAt n j) ≡ left.before (WordAt n j)
    word_now j = left.ended.others (WordAt n j) refl

    used_now : (j : ℕ) → use_of s' n j ≡ use_of s n j
    used_now j = ap (λ (z : Value). (word_in z).used) (word_now j) ∙ left.on.keeps.uses j

    unfree_stays : (j : ℕ) → (use_of s n j ≡ Free → ⊥) → s' (WordAt n j) ≡ s (WordAt n j)
    unfree_stays j h = word_now j ∙ left.on.keeps.kept j h

    tells_now : Tells s' n k.plan.memory last
    tells_now =
        record {
          length = left.on.tells.length;
          words = λ j h. subst IsWhole (sym (word_now j)) (left.on.tells.words j h);
          cells = λ j h.
              subst (λ (z : Value). Knows (get_or (word_in z).cells (j % 4) None) (get_or last j None))
              (sym (word_now (j / 4))) (left.on.tells.cells j h);
        }

    -- what is neither a word nor of the process stays
    pub left_stays : (q : Place) → is_word_of n q ≡ false → is_life_of n q ≡ false → is_stand_of x q ≡ false
        → s' q ≡ s q
    left_stays q word life stand =
        left.ended.others q stand ∙ unlived q life ∙ left.on.keeps.others q word
      where
        unlived : (q : Place) → is_life_of n q ≡ false
            → changed (Life n m.registers.wptr) (Add (negsuc 0)) left.before q ≡ left.before q
        unlived (Life a b) h = rw h refl
        unlived _ h = refl

    stay : (q : Place) → is_own n x q ≡ false → is_word_of n q ≡ false → s' q ≡ s q
    stay q h w =
        let parts : ((is_flag_of n q || is_life_of n q) ≡ false) × (is_stand_of x q ≡ false) = or_parts _ _ h in
        left_stays q w (or_parts _ _ parts.0).1 parts.1

    -- the others that live are those that are queued, wait or were interrupted
    pub left_lives : (w : ℕ) → s' (Life n w) ≡ IsAmount (pos (count_at w (settled m)))
    left_lives w =
        left.ended.others (Life n w) refl ∙ one_gone ∙ one_less (count_at w (settled m)) (m.registers.wptr == w)
      where
        aligned : m.registers.wptr % 4 ≡ 0
        aligned = eqb-true _ _ k.steady.placed.words.aligned

        lived : left.before (Life n w)
            ≡ IsAmount (pos (count_at w (settled m) + cond (m.registers.wptr == w) 1 0))
        lived =
            left.on.keeps.others (Life n w) refl ∙ shown.processes.lives w
            ∙ ap (λ z. IsAmount (pos z)) (lives_are m running.level w running.current aligned
            running.small)

        one_gone : changed (Life n m.registers.wptr) (Add (negsuc 0)) left.before (Life n w)
            ≡ (if m.registers.wptr == w
            then apply (Add (negsuc 0)) (IsAmount (pos (count_at w (settled m) + cond (m.registers.wptr == w) 1 0)))
            else IsAmount (pos (count_at w (settled m) + cond (m.registers.wptr == w) 1 0)))
        one_gone =
            rw (eq-eqb n n refl) (ap (λ z. if m.registers.wptr == w then apply (Add (negsuc 0)) z else z) lived)

    -- so do the places of other nodes
    pub left_elsewhere : (q : Place) → node_at q ≢ n → s' q ≡ s q
    left_elsewhere = elsewhere_if n x s s' running.home stay

    module _ (iptrs : IptrsStay last) where
      abbrev node' : Node
      node' = record k.node { machine = rested last }

      lasting_word : (a : ℕ) → word_place_break (length store) a ≡ None → is_lasting (use_at s n a) ≡ true
          → word_at last a ≡ word_at store a
      lasting_word a h e =
          let l : (place a ≡ 4 * word_number a) × (most_neg ≤ a) × (4 * word_number a + 4 ≤ k.plan.memory) =
          word_lies site running.whole a (subst (λ z. word_place_break z a ≡ None) shown.size h) in
          word_stays s n k.plan.memory store last a left.on.only shown.size left.on.tells.length l.0 l.2
          (lasting_not_free e)

      not_this : (y : Name) (stand : Stand) → s (Standing y) ≡ IsStand stand → is_running (IsStand stand) ≡ false
          → same_name x y ≡ false
      not_this y stand e h = other_name p s x y (Runs running.context) stand is_running running.stood e refl h

      stand_stays : (y : Name) → same_name x y ≡ false → s' (Standing y) ≡ s (Standing y)
      stand_stays y other = stay (Standing y) other refl

      run_stays : (q : ℕ) → s' (HasRun n q) ≡ s (HasRun n q)
      run_stays q = stay (HasRun n q) refl refl

      seated : (q : Seat) → is_taken (at_rest m) q ≡ true → IsSeated s' n node' q (named q)
      seated Current h = absurd (true≢false (sym h))
      seated Interrupted h =
          interrupted_seated n x s s' stand_stays run_stays k.node node' (named Interrupted) (apart p c s n x k h) refl
          (shown.processes.seated Interrupted h)
      seated (Queued b) h =
          let old : IsSeated s n k.node (Queued b) (named (Queued b)) = shown.processes.seated (Queued b) h in
          queued_seated n x s s' stand_stays run_stays k.node node' b (named (Queued b))
          (not_this (named (Queued b)) old.stand old.stands (queued_not_running k.node b old.stand old.fits))
          (iptrs (workspace_of b) (queued_descheduled m b h)) old
      seated (Waiting b) h =
          let old : IsSeated s n k.node (Waiting b) (named (Waiting b)) = shown.processes.seated (Waiting b) h in
          waiting_seated n x s s' stand_stays run_stays k.node node' b (named (Waiting b))
          (not_this (named (Waiting b)) old.stand old.stands (waiting_not_running k.node b old.stand old.fits))
          (λ f. f) (λ f. f) (iptrs (workspace_of b) (waits_descheduled m b h)) old

      abbrev HasPlace : Name → Type 0
      HasPlace y = IsGone s' n y ⊎ ((q : Seat) × (is_taken (at_rest m) q ≡ true) × (named q ≡ y))

      placed : (y : Name) → y.node ≡ n → HasPlace y
      placed y h = by (same_name x y) refl
        where
          of : same_name x y ≡ false → IsGone s n y ⊎ ((q : Seat) × (is_taken m q ≡ true) × (named q ≡ y))
              → HasPlace y
          of other (inl (inl e)) = inl (inl (stand_stays y other ∙ e))
          of other (inl (inr e)) = inl (inr (stand_stays y other ∙ e))
          of other (inr (Current, taken, e)) =
              absurd (true≢false (sym (place_itself p (Standing x)) ∙ ap (same_name x) (sym k.name ∙ e) ∙ other))
          of other (inr (Interrupted, taken, e)) = inr (Interrupted, taken, e)
          of other (inr (Queued b, taken, e)) = inr (Queued b, taken, e)
          of other (inr (Waiting b, taken, e)) = inr (Waiting b, taken, e)

          by : (b : Bool) → same_name x y ≡ b → HasPlace y
          by true e = inl (inr (ap (λ z. s' (Standing z)) (sym (one_name p x y e)) ∙ left.ended.is))
          by false e = of e (shown.processes.there y h)

      fewer : length (live (at_rest m)) ≤ length (live m)
      fewer =
          omega (
            arith,
            ap length (live_idle (at_rest m) refl),
            live_long m running.level running.current,
          )

      processes_left : ShowsProcesses s' n named (k.shows.sent n) node'
      processes_left =
          record {
            seated = seated;
            there = placed;
            lent = λ y a l h e f. shown.processes.lent y a l h (rests_before y a e (same_name x y) refl) f;
            passed = λ l q e h. (let f = shown.processes.passed l q e h in (
              f.0,
              f.1,
              stand_stays q.request.process (not_this q.request.process (Rests f.1) f.2 refl) ∙ f.2,
              f.3,
            ));
            lives = λ w. left_lives w
                ∙ ap (λ z. IsAmount (pos (count_at w z))) (sym (live_idle (at_rest m) refl));
            population = (
              shown.processes.population.0,
              stay (Population n) refl refl ∙ shown.processes.population.1,
              omega (arith, fewer, shown.processes.population.2),
            );
            interrupting = IfSome_then m.interrupted shown.processes.interrupting (λ t e. run_stays 0 ∙ e);
            flags = λ h. record {
              error = left_stays (Error n) refl refl refl ∙ running.flags.error;
              halting = left_stays (HaltOnError n) refl refl refl ∙ running.flags.halting;
            };
            kept_flags = λ h. IfSome_then m.interrupted (shown.processes.kept_flags k.kept) (λ t f. record {
              error = left_stays (Error n) refl refl refl ∙ f.error;
              halting = left_stays (HaltOnError n) refl refl refl ∙ f.halting;
            });
          }
        where
          not_rests : (a : Context) → IsStand Ended ≡ IsStand (Rests a) → ⊥
          not_rests a e = cc

          rests_before : (y : Name) (a : Context) → s' (Standing y) ≡ IsStand (Rests a) → (b : Bool)
              → same_name x y ≡ b → s (Standing y) ≡ IsStand (Rests a)
          rests_before y a e false other = sym (stand_stays y other) ∙ e
          rests_before y a e true same =
              absurd (not_rests a (sym left.ended.is ∙ ap (λ z. s' (Standing z)) (one_name p x y same) ∙ e))

      -- so the node is shown
      pub left_shown : ShowsNode s' n k.plan named (k.shows.sent n) node'
      left_shown =
          record {
            role = shown.role;
            works = shown.works;
            runs_on = shown.runs_on;
            size = left.on.tells.length;
            kind = shown.kind;
            store = shows_from s' n k.plan.memory last tells_now;
            marks = marks_from s s' n (k.shows.sent n) (k.shows.sent n) m (at_rest m)
                (λ w h. saved_words_stay s s' n w (λ j e. unfree_stays j (aside_not_free e))
                (All-contains (AreSavedWords s n) (descheduled m) w shown.marks.saved h))
                (λ l. refl) (λ j e. used_now j ∙ e)
                (λ j. stay (Sending n j) refl refl ∙ shown.marks.outputs j)
                (λ j. ap awaits_successor (used_now j) ∙ shown.marks.no_successor j) shown.marks;
            channels = channels_stay s s' n named named k.node.machine (rested last) (λ b. refl)
                (λ j e. used_now j ∙ e) (λ j e. sym (used_now j) ∙ e)
                (λ a side. stay (Half n a side) refl refl) (λ q. refl) (left.on.tells.length ∙ sym shown.size)
                (λ a h e. lasting_word a h (ap is_lasting e)) shown.channels;
            links = λ l h. link_stays s s' n named named (k.shows.sent n) k.node node' l (λ b. refl)
                (λ side. stay (LinkHalf (end_at n l) side) refl refl) (stay (Unfinished (end_at n l)) refl refl)
                (descriptors_stay s s' n m.links store shown.choices alternatives l h) refl refl (shown.links l h);
            processes = processes_left;
            choices = choices_stay s s' n m.links m.links store last
                (inputs_stay s s' n m.links m.links (λ l. stay (LinkHalf (end_at n l) Input) refl refl) refl)
                alternatives
                (λ y h e. quiet_alike p s s' n x stand_stays quiet_now y e) (λ y h. stay (Ports y) refl refl)
                (λ a side. stay (Half n a side) refl refl) (λ j e z. ap amount_in (stay (Sending n j) refl refl) ∙ z)
                (λ j e. unfree_stays j (lasting_not_free e)) (left.on.tells.length ∙ sym shown.size)
                lasting_word shown.choices;
          }
        where
          alternative_now : alternative_at s' n x ≡ None
          alternative_now = ap (λ (v : Value). alternative_of (stand_in v)) left.ended.is

          alternative_before : alternative_at s n x ≡ None
          alternative_before =
              ap (λ (v : Value). alternative_of (stand_in v)) running.stood
              ∙ alternative_none true false running.context left.plain

          quiet_now : is_quiet (stand_in (s' (Standing x))) ≡ true
          quiet_now = ap (λ (v : Value). is_quiet (stand_in v)) left.ended.is

          alternatives : (y : Name) → y.node ≡ n → alternative_at s' n y ≡ alternative_at s n y
          alternatives y h = stands_alike p s s' n x stand_stays (alternative_now ∙ sym alternative_before) y

    -- where the node's step leaves no process running, it leads there
    pub left_leads : step k.node.machine ≡ Ok (rested last, ran.Instruction) → LeadsTo p c n s'
    left_leads stepped =
        leads_there p c s n x k (rested last) s' named (k.shows.sent n) stepped
        (ap (λ (z : Store). record { control = at_rest m; store = z }) left_hides)
        (left_shown (iptrs_stay (rested last) stepped)) left_elsewhere
        (outputs_stay s s' n k.node (record k.node { machine = rested last })
        (λ l. left_stays (LinkHalf (end_at n l) Output) refl refl refl) (λ l. refl))
