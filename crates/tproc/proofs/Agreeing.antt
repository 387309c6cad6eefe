-- Claims agree with a control after each change of its lists of processes.
use Rattle.std.proofs.Common.{◌≡◌, ◌≢◌, ◌∙◌, ℕ, zero, suc, ◌+◌, ◌<◌, ◌≤◌, ◌%◌, refl, sym, ap, not, ◌&&◌, ◌||◌, Bool}
use Rattle.std.proofs.Common.{true, false, List, [], ◌∷◌, ◌++◌, length, Some, None, Option, arith, AllPairs}
use Rattle.std.proofs.Common.{length-append}
use Rattle.std.specs.Prelude.{IsSome, IfSome, ◌==◌, option_to_list}
use Rattle.std.proofs.lemmas.Bool.{eqb-true, eqb-false, eq-eqb, ne_eqb}
use Rattle.std.proofs.lemmas.List.{length-map}
use Rattle.std.proofs.lemmas.List.Kept.{AllPairs-cons}
use Rattle.tword.specs.Claims.{Claims, has_saved, saving}
use Rattle.tproc.specs.Machine.{Control, workspace_of, descheduled}
use Rattle.tproc.specs.ProcessStatus.{is_among, reason_of}
use Rattle.tproc.specs.declared.waiter.LinkEnd.{LinkEnd}
use Rattle.tproc.specs.declared.waiter.Reason.{Reason}
use Rattle.tproc.specs.Queues.{appended, waiting_for, without_waiter}
use Rattle.tproc.specs.Agreement.{AgreesOn, AgreesWith, Agrees, Settles, Unsettles, StillSaved, descheduled_count}
use Rattle.tword.specs.Accesses.{Frees}
use Rattle.tproc.proofs.Occurs.{occurs, hits, occurs-append, occurring_once, found-occurs, occurs-found, found-alike}
use Rattle.tproc.proofs.Occurs.{all_occurring, pairs_from, same_once}
use Rattle.tproc.proofs.ClaimState.{times, workspaces_of, HasWaiter}
use Rattle.tproc.proofs.ClaimMeaning.{occurs-descheduled}
use Rattle.tproc.proofs.ClaimMoves.{appended-times, waiting-times}
use Rattle.tproc.proofs.Waiters.{found_waiter, without_length, without_times}

-- whatever their order, the same workspaces agree
reordered : (xs ys : List ℕ) (c : Claims) (links : List LinkEnd) → AgreesOn c xs links
    → ((v : ℕ) → occurs v ys ≡ occurs v xs) → length ys ≡ length xs → AgreesOn c ys links
reordered xs ys c links h e n =
    record {
      saved = λ v. h.saved v ∙ found-alike v xs ys (sym (e v));
      count = h.count ∙ sym n;
      distinct =
          pairs_from (λ v w. v ≢ w) ys (λ v. omega (arith, e v, occurring_once xs h.distinct v)) (λ v w a b k. k);
      inputs = h.inputs;
      outputs = h.outputs;
    }

-- one more workspace is queued or waits
record HasMore (w : ℕ) (m m' : Control) : Type 0 where
  times : (v : ℕ) → times m'.high m'.low m'.waiting v ≡ hits w v + times m.high m.low m.waiting v
  count : descheduled_count m' ≡ descheduled_count m + 1
  links : m'.links ≡ m.links

-- it stands among the others, or among those of the control
among_others : (w : ℕ) (m m' : Control) (others : List ℕ) → HasMore w m m' → (v : ℕ)
    → occurs v (others ++ descheduled m') ≡ occurs v (w ∷ (others ++ descheduled m))
among_others w m m' others h v =
    omega (
      arith,
      h.times v,
      occurs-append v others (descheduled m'),
      occurs-append v others (descheduled m),
      occurs-descheduled m' v,
      occurs-descheduled m v,
    )

as_many : (w : ℕ) (m m' : Control) (others : List ℕ) → HasMore w m m'
    → length (others ++ descheduled m') ≡ length (w ∷ (others ++ descheduled m))
as_many w m m' others h = simp (length-append, length-map) (omega (arith, h.count))

settled : (w : ℕ) (m m' : Control) → HasMore w m m' → Settles w m m'
settled w m m' h = λ others c a. record {
  on = rw h.links (reordered _ _ c m.links a.on (among_others w m m' others h) (as_many w m m' others h));
}

-- and back
unsettled : (w : ℕ) (m m' : Control) → HasMore w m' m → Unsettles w m m'
unsettled w m m' h = λ others c a. record {
  on = rw (sym h.links)
      (reordered _ _ c m.links a.on (λ v. sym (among_others w m' m others h v)) (sym (as_many w m' m others h)));
}

-- a workspace is queued that was saved
pub settles_appended : (w p : ℕ) (m : Control) → Settles w m (appended w p m)
settles_appended w p m =
    settled w m (appended w p m) (record { times = appended-times p w m; count = count p; links = links p })
  where
    count : (p : ℕ) → descheduled_count (appended w p m) ≡ descheduled_count m + 1
    count zero = simp length-append (omega arith)
    count (suc p) = simp length-append (omega arith)

    links : (p : ℕ) → (appended w p m).links ≡ m.links
    links zero = refl
    links (suc p) = refl

-- a process waits whose words were saved
pub settles_waiting : (process : ℕ) (r : Reason) (m : Control)
    → Settles (workspace_of process) m (waiting_for process r m)
settles_waiting process r m =
    settled (workspace_of process) m (waiting_for process r m) (record {
      times = waiting-times process (workspace_of process) r m refl;
      count = simp length-append (omega arith);
      links = refl;
    })

-- a workspace is saved that was not
pub agrees_but : (w : ℕ) (others : List ℕ) (c d : Claims) (m : Control) → AgreesWith others c m → has_saved c w ≡ false
    → d ≡ saving w c → AgreesWith (w ∷ others) d m
agrees_but w others c d m h f e =
    rw e (record {
      on =
          record {
            saved = λ v. ap (λ b. (w == v) || b) (h.on.saved v);
            count = omega (arith, h.on.count);
            distinct = AllPairs-cons (λ v u. v ≢ u) w (others ++ descheduled m) (all_occurring (λ v. w ≢ v)
                (others ++ descheduled m) other) h.on.distinct;
            inputs = h.on.inputs;
            outputs = h.on.outputs;
          };
    })
  where
    other : (v : ℕ) → 0 < occurs v (others ++ descheduled m) → w ≢ v
    other v b = λ k.
        let there : is_among w (others ++ descheduled m) ≡ true =
        occurs-found w (others ++ descheduled m) (rw (sym k) at b) in
        let saved : has_saved c w ≡ is_among w (others ++ descheduled m) = h.on.saved w in
        cc

-- and is among those that are
pub saved_itself : (w : ℕ) (c : Claims) → has_saved (saving w c) w ≡ true
saved_itself w c = rw (eq-eqb w w refl) refl

-- the workspace of a descriptor of the process that runs
pub own_workspace : (w p : ℕ) → w % 4 ≡ 0 → p < 2 → workspace_of (w + p) ≡ w
own_workspace w p e h = omega arith

-- each workspace of those that wait stands there once
pub once_waiting : (m : Control) → AllPairs (λ v w. v ≢ w) (descheduled m) → (w : ℕ)
    → occurs w (workspaces_of m.waiting) ≤ 1
once_waiting m d w =
    omega (arith, occurring_once (descheduled m) d w, occurs-append w (m.high ++ m.low) (workspaces_of m.waiting))

-- a process with a reason is among those that wait
pub a_waiter : (m : Control) (p : ℕ) → IsSome (reason_of m p) → (r : Reason) × HasWaiter m.waiting p r
a_waiter m p h = by (reason_of m p) refl h
  where
    by : (o : Option Reason) → reason_of m p ≡ o → IsSome o → (r : Reason) × HasWaiter m.waiting p r
    by (Some r) e k = (r, found_waiter m.waiting p r e)
    by None e k = cc

-- where a process waits no longer, there was one more
module _ (process : ℕ) (m m' : Control) (d : AllPairs (λ v w. v ≢ w) (descheduled m))
    (e : IsSome (reason_of m process)) (k : m' ≡ without_waiter process m) where
  waits : (r : Reason) × HasWaiter m.waiting process r
  waits = a_waiter m process e

  one_fewer : HasMore (workspace_of process) (without_waiter process m) m
  one_fewer =
      record {
        times = λ v. omega (arith, without_times m.waiting process waits.0 (once_waiting m d) waits.1 v);
        count = omega (arith, without_length m.waiting process waits.0 (once_waiting m d) waits.1);
        links = refl;
      }

  pub fewer_forgotten : descheduled_count m' + 1 ≡ descheduled_count m
  fewer_forgotten = rw k (omega (arith, one_fewer.count))

  -- its words are saved still
  pub unsettles_forgotten : Unsettles (workspace_of process) m m'
  unsettles_forgotten = rw k (unsettled (workspace_of process) m (without_waiter process m) one_fewer)

  -- and so are those of the others
  pub still_saved_forgotten : StillSaved m m'
  still_saved_forgotten = rw k (λ c h v i.
      h v (occurs-found v (descheduled m) (omega (
        arith,
        found-occurs v (descheduled (without_waiter process m)) i,
        one_fewer.times v,
        occurs-descheduled m v,
        occurs-descheduled (without_waiter process m) v,
      ))))

-- the first of a queue leaves it, or none is there
pub leaves_high : (o : Option ℕ) (m : Control) (hs : List ℕ) → m.high ≡ option_to_list o ++ hs
    → IfSome o (λ w. Unsettles w m (record m { high = hs }))
leaves_high None m hs e = tt
leaves_high (Some w) m hs e =
    unsettled w m (record m { high = hs })
    (record { times = λ v. rw e (omega arith); count = rw e (omega arith); links = refl })

pub leaves_low : (o : Option ℕ) (m : Control) (ls : List ℕ) → m.low ≡ option_to_list o ++ ls
    → IfSome o (λ w. Unsettles w m (record m { low = ls }))
leaves_low None m ls e = tt
leaves_low (Some w) m ls e =
    unsettled w m (record m { low = ls })
    (record { times = λ v. rw e (omega arith); count = rw e (omega arith); links = refl })

-- the words of a workspace that was saved besides are freed
pub agrees_freed : (w : ℕ) (c d : Claims) (m : Control) → AgreesWith (w ∷ []) c m → Frees w c d
    → length d.saved + 1 ≡ length c.saved → (d.inputs ≡ c.inputs) × (d.outputs ≡ c.outputs) → Agrees d m
agrees_freed w c d m h frees count same =
    record {
      on = record {
        saved = λ v. frees v ∙ rw (h.on.saved v) (only v (v == w) refl);
        count = omega (arith, count, h.on.count);
        distinct = λ i j x a b. h.on.distinct (suc i) (suc j) x (omega arith) (omega arith);
        inputs = same.0 ∙ h.on.inputs;
        outputs = same.1 ∙ h.on.outputs;
      };
    }
  where
    fresh : (b : Bool) → is_among w (descheduled m) ≡ b → b ≡ false
    fresh false e = refl
    fresh true e =
        absurd (omega (
          arith,
          occurring_once (w ∷ descheduled m) h.on.distinct w,
          found-occurs w (descheduled m) e,
          same_once w w refl,
        ))

    only : (v : ℕ) (b : Bool) → (v == w) ≡ b
        → (not b && ((w == v) || is_among v (descheduled m))) ≡ is_among v (descheduled m)
    only v true k = rw (eqb-true v w k, fresh (is_among w (descheduled m)) refl) refl
    only v false k = rw (ne_eqb w v (λ q. eqb-false v w k (sym q))) refl
