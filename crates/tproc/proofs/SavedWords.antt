-- The first two saved words of each process that is queued or waits are unchanged by each move, except for the link of
-- the last of a queue that another process joins.
use Rattle.std.proofs.Common.{◌≡◌, ℕ, zero, suc, ◌+◌, ◌-◌, ◌<◌, ◌≤◌, refl, sym, ap, subst, ◌∙◌, List, [], ◌∷◌, ◌++◌}
use Rattle.std.proofs.Common.{length, take, drop, Bool, true, false, All, Ok, Option, Some, None, inl, inr, arith}
use Rattle.std.specs.Prelude.{◌==◌, IfSome, option_map}
use Rattle.std.specs.List.{list_any}
use Rattle.std.proofs.lemmas.Bool.{or_from, or_left, or_right, or_parts, and_from, le-leb, eq-eqb}
use Rattle.std.proofs.lemmas.List.{length-map, take_more, take_all, take-append-drop}
use Rattle.std.proofs.lemmas.List.Elements.{All-contains}
use Rattle.std.proofs.lemmas.Option.{get_or_from_slice_get, slice_get_within}
use Rattle.tword.specs.Words.{most_neg, word_below}
use Rattle.tword.specs.Stores.{Store, word_at, as_cells}
use Rattle.tword.specs.Claims.{overlap, saved_words, is_saved}
use Rattle.tword.specs.Touches.{is_inside, byte_span}
use Rattle.tword.specs.Actions.{Action, run}
use Rattle.tword.proofs.Hiding.{overlap_back, inner_clear}
use Rattle.tproc.specs.declared.offer.Offer.{Offer}
use Rattle.tproc.specs.declared.ran.Ran.{Ran}
use Rattle.tproc.specs.Machine.{Control, Machine, descheduled, buffer_of, claims_of}
use Rattle.tproc.specs.declared.waiter.LinkEnd.{LinkEnd}
use Rattle.tproc.specs.declared.waiter.Reason.TheVariants.{Chooses}
use Rattle.tproc.specs.declared.process_status.ProcessStatus.{ProcessStatus}
use Rattle.tproc.specs.declared.process_status.ProcessStatus.TheVariants.{Waits, Queued, Runs, Interrupted}
use Rattle.tproc.specs.ProcessStatus.{status, is_among, queue}
use Rattle.tproc.specs.Queues.{iptr_word, link_word, last_of, add_process}
use Rattle.tproc.specs.LinkChannels.{link_end, with_link}
use Rattle.tproc.specs.Placement.{IsWord, IsWorkspace, IsPlaced}
use Rattle.tproc.specs.Links.{act_or_unchanged, finished, finish_output, finish_input, wakes, readies_queued}
use Rattle.tproc.specs.Links.{readies_running, notify_at, notify, notice}
use Rattle.tproc.specs.Messages.{input_of, HasByte, with_byte}
use Rattle.tproc.specs.Opening.{loaded, added}
use Rattle.tproc.specs.Steps.{step, control_step}
use Rattle.tproc.specs.SavedWords.{WordStands, LinksStand, IsJoined, QueueGoesOn, SavedStand, SavedWordsStand}
use Rattle.tproc.proofs.Leaving.{act-gives, act_or_unchanged-gives, added-gives}
use Rattle.tproc.proofs.LinkClaims.{noticing, apart_from_input}
use Rattle.tproc.proofs.Occurs.{occurs, hits, same_once, occurs-append, occurs-contains, found-occurs, occurs-found}
use Rattle.tproc.proofs.Occurs.{all_occurring, apart_from}
use Rattle.tproc.proofs.ClaimState.{workspaces_of, times}
use Rattle.tproc.proofs.ClaimMeaning.{Good, good_from}
use Rattle.tproc.proofs.Placed.{step_keeps_placed, notice_keeps_placed, finish_output_keeps_placed}
use Rattle.tproc.proofs.Placed.{finish_input_keeps_placed}
use Rattle.tproc.proofs.Opening.{added_keeps_placed}
use Rattle.tproc.proofs.Pending.{at_some}
use Rattle.tproc.proofs.Handing.{Lies, buffer_lies}
use Rattle.tproc.proofs.SavedSets.{Sets}
use Rattle.tproc.proofs.SavedRuns.{Leaves, LinkIs, IsFine, leaves_self, put_leaves, sets_run}
use Rattle.tproc.proofs.QueueLinks.{Turns, StepTurns, PartTurns, stays}
use Rattle.tproc.proofs.SavedRows.{control-turns, wakes-turns, readies_queued-turns, readies_running-turns}
use Rattle.tproc.proofs.SavedRows.{finished-turns, added-turns}

-- what a move leaves of the queues and of the store, by the link that it set
abbrev Told : Machine → Machine → Type 0
Told n n' = (link : Option (ℕ × ℕ)) × Turns n.control.high n.control.low n'.control.high n'.control.low link
    × Leaves (descheduled n.control) link n.store n'.store

-- nothing that is found has a property, so no test of it is true
any_false : (p : ℕ → Bool) (xs : List ℕ) → ((w : ℕ) → list_any (λ v. v == w) xs ≡ true → p w ≡ false)
    → list_any p xs ≡ false
any_false p [] h = refl
any_false p (x ∷ xs) h =
    or_from _ _ (h x (or_left (x == x) _ (eq-eqb x x refl))) (any_false p xs (λ w k. h w (or_right (x == w) _ k)))

-- the last of a list, and those before it
last_splits : (q : List ℕ) (w : ℕ) → last_of q ≡ Some w → (x : ℕ)
    → occurs x q ≡ occurs x (take (length q - 1) q) + hits w x
last_splits q w e x =
    let i : length q - 1 < length q = slice_get_within q (length q - 1) w e in
    let f : length q - 1 + 1 ≡ length q = omega (arith, i) in
    let g : take (length q - 1) q ++ w ∷ [] ≡ q =
    subst (λ v. take (length q - 1) q ++ v ∷ [] ≡ q) (get_or_from_slice_get q (length q - 1) w 0 e)
    (sym (take_more q (length q - 1) 0 i) ∙ (rw f (take_all (length q) q (omega arith)))) in
    omega (arith, ap (occurs x) g, occurs-append x (take (length q - 1) q) (w ∷ []))

some_same : (x y : ℕ × ℕ) → Some x ≡ Some y → x ≡ y
some_same x y e = cc

module _ (n : Machine) (p : IsPlaced n) where
  -- the claims of a placed processor, whatever its links are
  fine_of : (links : List LinkEnd)
      → IsFine (length n.store) (descheduled n.control) (claims_of (record n.control { links = links }))
  fine_of links = record {
    among = λ w h. h;
    lies = λ w h. All-contains (IsWorkspace (length n.store)) (descheduled n.control) w p.claimed.saved
        (occurs-contains w (descheduled n.control) (found-occurs w (descheduled n.control) h));
    apart = λ v w a b d. apart_from AreSeparate (λ x y. overlap_back (saved_words x) (saved_words y))
        (descheduled n.control) p.apart.workspaces v w (found-occurs v (descheduled n.control) a)
        (found-occurs w (descheduled n.control) b) d;
  }
    where
      AreSeparate : ℕ → ℕ → Type 0
      AreSeparate v w = overlap (saved_words v) (saved_words w) ≡ false

  -- so its actions leave what they do not set
  told_run : {A : Type 0} (links : List LinkEnd) (Q : Option (ℕ × ℕ) → A → Type 0) (x : Action A) (a : A) (t : Store)
      → Sets (descheduled n.control) Q None x
      → run x n.store (claims_of (record n.control { links = links })) ≡ Ok (a, t) → (link : Option (ℕ × ℕ)) × Q link a
      × Leaves (descheduled n.control) link n.store t
  told_run links Q x a t h e =
      sets_run (length n.store) p.claimed.size (descheduled n.control) Q x n.store n.store n.store
      (claims_of (record n.control { links = links })) None a t refl refl (fine_of links)
      (leaves_self (descheduled n.control) n.store) h e

  told_same : Told n n
  told_same = (None, stays n.control.high n.control.low, leaves_self (descheduled n.control) n.store)

  -- a step
  told_step : (n' : Machine) (r : Ran) → step n ≡ Ok (n', r) → Told n n'
  unfolding step
  told_step n' r e =
      act-gives (Told n) n (λ m. control_step m.halted m) n' r (λ m q t h.
      told_run n.control.links (StepTurns n.control) (control_step n.control.halted n.control) (m, q) t
      (control-turns (descheduled n.control) n.control.halted n.control) h) e

  -- an action of a link, or nothing; it may have been marked before
  told_act : (links : List LinkEnd) (action : Control → Action Control)
      → Sets (descheduled n.control) (PartTurns n.control) None (action (record n.control { links = links }))
      → Told n (act_or_unchanged action (record n { control = record n.control { links = links } }))
  told_act links action h =
      act_or_unchanged-gives (Told n) (record n { control = record n.control { links = links } }) action told_same
      (λ m t e.
      told_run links (PartTurns n.control) (action (record n.control { links = links })) m t h e)

  told_notify_at : (links : List LinkEnd) (at : ProcessStatus) (process : ℕ)
      → Told n (notify_at at process (record n { control = record n.control { links = links } }))
  told_notify_at links (Waits Chooses) process =
      told_act links (wakes process) (wakes-turns (descheduled n.control) process (record n.control { links = links }))
  told_notify_at links Queued process =
      told_act links (readies_queued process)
      (readies_queued-turns (descheduled n.control) process (record n.control { links = links }))
  told_notify_at links Runs process =
      told_act links (readies_running process)
      (readies_running-turns (descheduled n.control) process (record n.control { links = links }))
  told_notify_at links Interrupted process =
      told_act links (readies_running process)
      (readies_running-turns (descheduled n.control) process (record n.control { links = links }))
  told_notify_at links _ process = told_same

  told_notify : (links : List LinkEnd) (o : Option ℕ)
      → Told n (notify o (record n { control = record n.control { links = links } }))
  told_notify links None = told_same
  told_notify links (Some process) =
      told_notify_at links (status (record n.control { links = links }) process) process

  -- a notice
  told_notice : (l : ℕ) → Told n (notice l n)
  unfolding notice
  told_notice l = told_notify (noticing l n).control.links (link_end n.control l).remembered

  -- the end of a message
  told_output : (l : ℕ) → Told n (finish_output l n)
  unfolding finish_output
  told_output l =
      told_act n.control.links
      (λ m. finished (link_end m l).output (with_link l (record (link_end m l) { output = None }) m))
      (finished-turns (descheduled n.control) (link_end n.control l).output
      (with_link l (record (link_end n.control l) { output = None }) n.control))

  told_input : (l : ℕ) → Told n (finish_input l n)
  unfolding finish_input
  told_input l =
      told_act n.control.links
      (λ m. finished (link_end m l).input (with_link l (record (link_end m l) { input = None }) m))
      (finished-turns (descheduled n.control) (link_end n.control l).input
      (with_link l (record (link_end n.control l) { input = None }) n.control))

  -- a process that is added
  told_added : (process iptr : ℕ) (n' : Machine) → added process iptr n ≡ Ok n' → Told n n'
  told_added process iptr n' e =
      added-gives (Told n) n process iptr n' (λ m t h.
      told_run n.control.links (PartTurns n.control) (add_process process iptr n.control) m t
      (added-turns (descheduled n.control) process iptr n.control) h) e

  -- bytes that are put where no saved word is
  told_loaded : (start : ℕ) (bytes : List ℕ)
      → is_inside (length n.store) (record { start = start; size = length bytes }) ≡ true
      → is_saved (claims_of n.control) (record { start = start; size = length bytes }) ≡ false
      → Told n (loaded start bytes n)
  told_loaded start bytes inside unsaved = (
    None,
    stays n.control.high n.control.low,
    put_leaves (length n.store) p.claimed.size (descheduled n.control) (claims_of n.control) (fine_of n.control.links)
        None n.store n.store (record { start = start; size = length bytes }) (as_cells bytes) refl inside unsaved
        (length-map bytes Some)
        (leaves_self (descheduled n.control) n.store),
  )

  -- a byte of a pending input
  told_byte : (l k byte : ℕ) (o : Option Offer) → input_of n l ≡ o → HasByte o k → Told n (with_byte o k byte n)
  told_byte l k byte None e h = absurd h
  told_byte l k byte (Some o) e h =
      told_loaded (o.buffer + k) (byte ∷ [])
      (and_from _ _ (le-leb most_neg (o.buffer + k) (omega (arith, lies.above)))
      (le-leb (o.buffer + k - most_neg + 1) (length n.store) (omega (arith, lies.above, lies.within, h))))
      (any_false (λ w. overlap (byte_span (o.buffer + k)) (saved_words w)) (descheduled n.control) unsaved)
    where
      lies : Lies (length n.store) o
      lies = buffer_lies (length n.store) o (at_some (link_end n.control l).input _ o e (p.claimed.inputs l)).1

      unsaved : (w : ℕ) → is_among w (descheduled n.control) ≡ true
          → overlap (byte_span (o.buffer + k)) (saved_words w) ≡ false
      unsaved w d =
          let whole : overlap (saved_words w) (buffer_of o) ≡ false =
          apart_from_input (saved_words w) n.control.links l o e (p.apart.saved w d).0 in
          (or_parts _ _
          (inner_clear (Some (saved_words w) ∷ []) (buffer_of o) (byte_span (o.buffer + k)) (omega arith)
          (omega (arith, h)) (or_from _ _ (overlap_back (saved_words w) (buffer_of o) whole) refl))).0

-- what a move tells is what stands
module _ (n n' : Machine) (p : IsPlaced n) (words : All IsWord (descheduled n'.control)) where
  -- how often a workspace is queued or waits
  abbrev stood : ℕ → ℕ
  stood w = times n.control.high n.control.low n.control.waiting w

  once : (w : ℕ) → stood w ≤ 1
  once w = let g : Good (length n.store) n.control = good_from n p.claimed p.apart in omega (arith, g.once w)

  counted_all : (m : Control) (w : ℕ) → occurs w (descheduled m) ≡ times m.high m.low m.waiting w
  counted_all m w =
      omega (arith, occurs-append w (m.high ++ m.low) (workspaces_of m.waiting), occurs-append w m.high m.low)

  watched : (w : ℕ) → 0 < stood w → is_among w (descheduled n.control) ≡ true
  watched w b = occurs-found w (descheduled n.control) (omega (arith, counted_all n.control w))

  is_word : (w : ℕ) → 0 < times n'.control.high n'.control.low n'.control.waiting w → IsWord w
  is_word w b = All-contains IsWord (descheduled n'.control) w words
      (occurs-contains w (descheduled n'.control) (omega (arith, counted_all n'.control w)))

  module _ (link : Option (ℕ × ℕ)) (leaves : Leaves (descheduled n.control) link n.store n'.store) where
    iptrs : All (λ w. WordStands iptr_word w n n') (descheduled n.control)
    iptrs = all_occurring (λ w. WordStands iptr_word w n n') (descheduled n.control)
        (λ w b. leaves.iptrs w (occurs-found w (descheduled n.control) b))

    -- links that were not set
    other_links : (ws : List ℕ) → ((w : ℕ) → 0 < occurs w ws → 0 < stood w)
        → ((w : ℕ) → 0 < occurs w ws → (x : ℕ × ℕ) → link ≡ Some x → x.0 ≡ w → ⊥) → LinksStand ws n n'
    other_links ws among differs =
        all_occurring (λ w. WordStands link_word w n n') ws
        (λ w b. by w b link refl (leaves.links w (watched w (among w b))))
      where
        by : (w : ℕ) → 0 < occurs w ws → (o : Option (ℕ × ℕ)) → link ≡ o → LinkIs o w n.store n'.store
            → WordStands link_word w n n'
        by w b None e h = h
        by w b (Some x) e h = h.1 (differs w b x e)

    -- one that was
    set_link : (w v : ℕ) → is_among w (descheduled n.control) ≡ true → link ≡ Some (w, v) → IsWord v
        → word_at n'.store (word_below w link_word) ≡ v
    set_link w v d e small = let h : LinkIs (Some (w, v)) w n.store n'.store =
        subst (λ o. LinkIs o w n.store n'.store) e (leaves.links w d) in h.0 refl small

    -- a queue that a process joined
    module _ (q q' : List ℕ) (v : ℕ) (e : link ≡ option_map (λ last. (last, v)) (last_of q)) (among : (w : ℕ)
        → occurs w q ≤ stood w) where
      -- the link that was set is that of its last
      last_set : (x : ℕ × ℕ) → link ≡ Some x → last_of q ≡ Some x.0
      last_set x f = by (last_of q) (sym e ∙ f)
        where
          by : (o : Option ℕ) → option_map (λ last. (last, v)) o ≡ Some x → o ≡ Some x.0
          by None g = cc
          by (Some w) g = ap Some (ap (λ (y : ℕ × ℕ). y.0) (some_same (w, v) x g))

      last_in : (w : ℕ) → last_of q ≡ Some w → 0 < occurs w q
      last_in w f = omega (arith, last_splits q w f w, same_once w w refl)

      joined : q' ≡ q ++ v ∷ [] → IsWord v → IsJoined q q' n n'
      joined order small =
          record {
            new = v;
            order = order;
            link = linked (last_of q) refl;
            others =
                other_links (take (length q - 1) q) before differs;
          }
        where
          linked : (o : Option ℕ) → last_of q ≡ o → IfSome o (λ w. word_at n'.store (word_below w link_word) ≡ v)
          linked None f = tt
          linked (Some w) f =
              set_link w v (watched w (omega (arith, last_in w f, among w))) (e ∙ ap (option_map (λ last. (last, v))) f)
              small

          before : (w : ℕ) → 0 < occurs w (take (length q - 1) q) → 0 < stood w
          before w b =
              omega (
                arith,
                ap (occurs w) (take-append-drop (length q - 1) q),
                occurs-append w (take (length q - 1) q) (drop (length q - 1) q),
                among w,
              )

          differs : (w : ℕ) → 0 < occurs w (take (length q - 1) q) → (x : ℕ × ℕ) → link ≡ Some x → x.0 ≡ w → ⊥
          differs w b x f g = omega (arith, last_splits q x.0 (last_set x f) w, same_once x.0 w g, among w, once w)

      -- no other process has its link set
      apart : (w : ℕ) → occurs w q + 1 ≤ stood w → (x : ℕ × ℕ) → link ≡ Some x → x.0 ≡ w → ⊥
      apart w b x f g = omega (arith, subst (λ u. 0 < occurs u q) g (last_in x.0 (last_set x f)), once w)

  -- a link that was set is not this one, where none was
  not_set : (link : Option (ℕ × ℕ)) (x : ℕ × ℕ) → link ≡ None → link ≡ Some x → ⊥
  not_set link x e f = let g : ◌≡◌ {A = Option (ℕ × ℕ)} None (Some x) = sym e ∙ f in cc

  -- the new one is a word
  pushed : (v : ℕ) (q q' : List ℕ) → q' ≡ q ++ v ∷ [] → 0 < occurs v q'
  pushed v q q' e = omega (arith, ap (occurs v) e, occurs-append v q (v ∷ []), same_once v v refl)

  stand_of : Told n n' → SavedStand n n'
  stand_of (link, inl h, leaves) =
      record {
        iptrs = iptrs link leaves;
        waiting =
            other_links link leaves (workspaces_of n.control.waiting) (λ w b. omega arith)
            (λ w b x f g. not_set link x h.0 f);
        queues = queues;
      }
    where
      queues : (p : ℕ) → QueueGoesOn (queue n.control p) (queue n'.control p) n n'
      queues zero =
          inl (h.1, other_links link leaves n.control.high (λ w b. omega arith) (λ w b x f g. not_set link x h.0 f))
      queues (suc p) =
          inl (h.2, other_links link leaves n.control.low (λ w b. omega arith) (λ w b x f g. not_set link x h.0 f))
  stand_of (link, inr (zero, v, e, behind), leaves) =
      record {
        iptrs = iptrs link leaves;
        waiting =
            other_links link leaves (workspaces_of n.control.waiting) (λ w b. omega arith)
            (λ w b. apart link leaves n.control.high n'.control.high v e (λ w. omega arith) w (omega arith));
        queues = queues;
      }
    where
      queues : (p : ℕ) → QueueGoesOn (queue n.control p) (queue n'.control p) n n'
      queues zero =
          inr (joined link leaves n.control.high n'.control.high v e (λ w. omega arith) behind.0
          (is_word v (omega (arith, pushed v n.control.high n'.control.high behind.0))))
      queues (suc p) =
          inl (
            inl behind.1,
            other_links link leaves n.control.low (λ w b. omega arith)
                (λ w b. apart link leaves n.control.high n'.control.high v e (λ w. omega arith) w (omega arith)),
          )
  stand_of (link, inr (suc p, v, e, behind), leaves) =
      record {
        iptrs = iptrs link leaves;
        waiting =
            other_links link leaves (workspaces_of n.control.waiting) (λ w b. omega arith)
            (λ w b. apart link leaves n.control.low n'.control.low v e (λ w. omega arith) w (omega arith));
        queues = queues;
      }
    where
      queues : (p : ℕ) → QueueGoesOn (queue n.control p) (queue n'.control p) n n'
      queues zero =
          inl (
            inl behind.0,
            other_links link leaves n.control.high (λ w b. omega arith)
                (λ w b. apart link leaves n.control.low n'.control.low v e (λ w. omega arith) w (omega arith)),
          )
      queues (suc p) =
          inr (joined link leaves n.control.low n'.control.low v e (λ w. omega arith) behind.1
          (is_word v (omega (arith, pushed v n.control.low n'.control.low behind.1))))

-- so the saved words are unchanged by each move
pub saved_words_stand : SavedWordsStand
saved_words_stand n p =
    record {
      steps = λ n' r e. stand_of n n' p (step_keeps_placed n n' r p e).workspaces (told_step n p n' r e);
      notices = λ l. stand_of n (notice l n) p (notice_keeps_placed l n p).workspaces (told_notice n p l);
      outputs = λ l. stand_of n (finish_output l n) p (finish_output_keeps_placed l n p).workspaces (told_output n p l);
      inputs = λ l. stand_of n (finish_input l n) p (finish_input_keeps_placed l n p).workspaces (told_input n p l);
      bytes = λ l k byte h. of_byte l k byte (input_of n l) refl h;
      additions =
          λ process iptr n' w e. stand_of n n' p (added_keeps_placed process iptr n n' w p e).workspaces
          (told_added n p process iptr n' e);
      loads = λ start bytes inside unsaved. stand_of n (loaded start bytes n) p p.workspaces
          (told_loaded n p start bytes inside unsaved);
    }
  where
    of_byte : (l k byte : ℕ) (o : Option Offer) → input_of n l ≡ o → HasByte o k → SavedStand n (with_byte o k byte n)
    of_byte l k byte None e h = absurd h
    of_byte l k byte (Some o) e h =
        stand_of n (with_byte (Some o) k byte n) p p.workspaces (told_byte n p l k byte (Some o) e h)
