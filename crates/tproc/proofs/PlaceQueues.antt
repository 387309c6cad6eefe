-- A placement still holds where a process is queued, is taken from those that wait, or begins to run.
use Rattle.std.proofs.Common.{◌≡◌, ℕ, zero, suc, ◌+◌, ◌<◌, ◌≤◌, refl, ap, cond, ◌∙◌, List, [], ◌∷◌, ◌++◌, length}
use Rattle.std.proofs.Common.{length-append, get_or, set, length-set, Bool, true, false, not, Option, Some, None, ◌⊎◌}
use Rattle.std.proofs.Common.{inl, inr, arith}
use Rattle.std.specs.Prelude.{◌==◌, All, filter}
use Rattle.std.specs.List.{list_any}
use Rattle.std.proofs.lemmas.Bool.{eqb-true, eqb-false, not-true, or_cases}
use Rattle.std.proofs.lemmas.List.Elements.{All-filter, All-push, All-head, All-tail, filter_passes}
use Rattle.std.proofs.lemmas.List.Filters.{length-filter_both}
use Rattle.tword.specs.Actions.{answer}
use Rattle.tword.proofs.Giving.{Gives, gives_after, gives_weaken}
use Rattle.tcpu.specs.declared.registers.Registers.{Registers}
use Rattle.tproc.specs.declared.offer.Offer.{Offer}
use Rattle.tproc.specs.Machine.{Control, workspace_of, priority_of}
use Rattle.tproc.specs.declared.waiter.LinkEnd.{LinkEnd}
use Rattle.tproc.specs.declared.waiter.Suspended.{Suspended}
use Rattle.tproc.specs.declared.waiter.Waiter.{Waiter}
use Rattle.tword.specs.Limits.{most_processes}
use Rattle.tproc.specs.ProcessStatus.{queue}
use Rattle.tproc.specs.Queues.{appended, enqueue, release, without_waiter, link_from, last_of, resumed}
use Rattle.tproc.specs.LinkChannels.{link_end, with_link}
use Rattle.tproc.specs.Placement.{IsWord, AreWords, IsOfferOf}
use Rattle.tproc.proofs.PlaceMoves.{IsSeat, HasSeat, Offers, ones, population, IsBelow, IsSettled}
use Rattle.tproc.proofs.PlaceMoves.{links_stay}

-- there is room for one more process
abbrev pub HasProcessRoom : Control → Type 0
HasProcessRoom m = population m < most_processes

-- a process is queued
settled_appended : (w p : ℕ) (m : Control) → IsSettled m → HasProcessRoom m → IsSeat w → IsSettled (appended w p m)
settled_appended w zero m s room seat =
    let high : All IsSeat (m.high ++ w ∷ []) = All-push IsSeat m.high w s.listed.high seat in
    search (arith, length-append {A = ℕ})
settled_appended w (suc p) m s room seat =
    let low : All IsSeat (m.low ++ w ∷ []) = All-push IsSeat m.low w s.listed.low seat in
    search (arith, length-append {A = ℕ})

appended-current : (w p : ℕ) (m : Control) → (appended w p m).current ≡ m.current
appended-current w zero m = refl
appended-current w (suc p) m = refl

-- a part after which the same process runs
abbrev pub Stays : Control → Control → Type 0
Stays m m' = IsSettled m' × (m'.current ≡ m.current)

-- a process is queued where there is room
pub enqueue-settles : (process : ℕ) (m : Control) → IsSettled m → HasProcessRoom m → IsSeat (workspace_of process)
    → Gives (Stays m) (enqueue process m)
unfolding enqueue
enqueue-settles process m s room seat =
    gives_after (Stays m) (link_from (last_of (queue m (priority_of process))) (workspace_of process))
    (λ _. answer (appended (workspace_of process) (priority_of process) m))
    (λ _. (
      settled_appended (workspace_of process) (priority_of process) m s room seat,
      appended-current (workspace_of process) (priority_of process) m,
    ))

-- a process waits
abbrev pub IsWaiting : Control → ℕ → Type 0
IsWaiting m process = list_any (λ w. w.process == process) m.waiting ≡ true

-- so there are fewer without it
fewer : (process : ℕ) (ws : List Waiter) → list_any (λ w. w.process == process) ws ≡ true
    → length (filter (λ w. not (w.process == process)) ws) < length ws
fewer process ws h =
    let e : length (filter (λ (w : Waiter). w.process == process) ws) + length
    (filter (λ (w : Waiter). not (w.process == process)) ws) ≡ length ws =
    length-filter_both (λ w. w.process == process) (λ w. not (w.process == process)) (λ w. refl) ws in
    omega (arith, some process ws h)
  where
    some : (process : ℕ) (ws : List Waiter) → list_any (λ w. w.process == process) ws ≡ true
        → 0 < length (filter (λ w. w.process == process) ws)
    some process [] h = cc
    some process (w ∷ ws) h = by (w.process == process) refl (or_cases _ _ h) (some process ws)
      where
        by : (b : Bool) → (w.process == process) ≡ b → ((w.process == process) ≡ true)
            ⊎ (list_any (λ w. w.process == process) ws ≡ true)
            → (list_any (λ w. w.process == process) ws ≡ true → 0 < length (filter (λ w. w.process == process) ws))
            → 0 < length
            (cond b (w ∷ filter (λ (w : Waiter). w.process == process) ws)
            (filter (λ (w : Waiter). w.process == process) ws))
        by true e _ _ = omega arith
        by false e (inl f) _ = cc
        by false e (inr f) k = k f

seat_of : (process : ℕ) (ws : List Waiter) → All HasSeat ws → list_any (λ w. w.process == process) ws ≡ true
    → IsSeat (workspace_of process)
seat_of process [] a h = cc
seat_of process (w ∷ ws) a h = by (or_cases _ _ h) (seat_of process ws (All-tail HasSeat w ws a))
  where
    by : ((w.process == process) ≡ true) ⊎ (list_any (λ w. w.process == process) ws ≡ true)
        → (list_any (λ w. w.process == process) ws ≡ true → IsSeat (workspace_of process))
        → IsSeat (workspace_of process)
    by (inl e) k = rw (eqb-true w.process process e) at (All-head HasSeat w ws a)
    by (inr e) k = k e

filter-length : (process : ℕ) (ws : List Waiter) → length (filter (λ w. not (w.process == process)) ws) ≤ length ws
filter-length process ws =
    omega (
      arith,
      length-filter_both (λ (w : Waiter). w.process == process) (λ (w : Waiter). not (w.process == process))
          (λ w. refl) ws,
    )

-- those that wait without a process
abbrev others : ℕ → List Waiter → List Waiter
others process ws = filter (λ w. not (w.process == process)) ws

-- a process that waits is taken out
settled_without : (process : ℕ) (m : Control) → IsSettled m → IsSettled (without_waiter process m)
settled_without process m s =
    let offered : All (Offers m.links) (others process m.waiting) =
    All-filter (λ w. not (w.process == process)) (Offers m.links) m.waiting s.listed.offered in
    let waiting : All HasSeat (others process m.waiting) =
    All-filter (λ w. not (w.process == process)) HasSeat m.waiting s.listed.waiting in
    let fewer : length (others process m.waiting) ≤ length m.waiting = filter-length process m.waiting in
    search arith

-- and with it its offer at a link
settled_finished : (process l : ℕ) (e : LinkEnd) (m : Control) → IsSettled m
    → ((v : ℕ) → (v ≡ process → ⊥) → (e.output ≡ (link_end m l).output) ⊎ (IsOfferOf v (link_end m l).output → ⊥))
    → ((v : ℕ) → (v ≡ process → ⊥) → (e.input ≡ (link_end m l).input) ⊎ (IsOfferOf v (link_end m l).input → ⊥))
    → IsSettled (without_waiter process (with_link l e m))
settled_finished process l e m s h i =
    let size : length (set m.links l e) ≡ 4 = length-set m.links l e ∙ s.listed.links in
    let offered : All (Offers (set m.links l e)) (others process m.waiting) =
    λ k d b. each (get_or (others process m.waiting) k d)
    (filter_passes (λ w. not (w.process == process)) m.waiting k d b)
    (All-filter (λ w. not (w.process == process)) (Offers m.links) m.waiting s.listed.offered k d b) in
    let waiting : All HasSeat (others process m.waiting) =
    All-filter (λ w. not (w.process == process)) HasSeat m.waiting s.listed.waiting in
    let fewer : length (others process m.waiting) ≤ length m.waiting = filter-length process m.waiting in
    search arith
  where
    each : (w : Waiter) → not (w.process == process) ≡ true → Offers m.links w → Offers (set m.links l e) w
    each w other k =
        let v : w.process ≡ process → ⊥ = eqb-false w.process process (not-true (w.process == process) other) in
        links_stay m l e w.process (h w.process v) (i w.process v) w.reason k

-- a process that waits is queued
pub release-settles : (process : ℕ) (m : Control) → IsSettled m → IsWaiting m process
    → Gives (Stays m) (release process m)
unfolding release
release-settles process m s h =
    enqueue-settles process (without_waiter process m) (settled_without process m s)
    (omega (arith, s.few, fewer process m.waiting h)) (seat_of process m.waiting s.listed.waiting h)

-- the registers of a process that starts
abbrev pub fresh : ℕ → ℕ → Registers → Registers
fresh w iptr r = record r { a = 0; b = 0; c = 0; iptr = iptr; wptr = w }

high_runs : (k : Option Suspended) → IsBelow (Some 0) k
high_runs None = tt
high_runs (Some s) = λ e. cc

first_seat : (q : List ℕ) (w : ℕ) (ws : List ℕ) → q ≡ w ∷ ws → All IsSeat q → IsSeat w
first_seat q w ws e h = All-head IsSeat w ws (rw e at h)

other_seats : (q : List ℕ) (w : ℕ) (ws : List ℕ) → q ≡ w ∷ ws → All IsSeat q → All IsSeat ws
other_seats q w ws e h = All-tail IsSeat w ws (rw e at h)

-- the first of the high queue runs
pub settled_high : (m : Control) (w v : ℕ) (ws : List ℕ) → IsSettled m → m.current ≡ None → m.high ≡ w ∷ ws → IsWord v
    → IsSettled (record m { high = ws; registers = fresh w v m.registers; current = Some 0; count = 0 })
settled_high m w v ws s e q h =
    let l : length m.high ≡ length ws + 1 = rw q (omega arith) in
    let n : ones m.current ≡ 0 = ap ones e in
    let seat : IsSeat w = first_seat m.high w ws q s.listed.high in
    let seats : All IsSeat ws = other_seats m.high w ws q s.listed.high in
    search (arith, high_runs)

-- the first of the low queue runs
pub settled_low : (m : Control) (w v : ℕ) (ws : List ℕ) → IsSettled m → m.current ≡ None → m.interrupted ≡ None
    → m.low ≡ w ∷ ws → IsWord v
    → IsSettled (record m { low = ws; registers = fresh w v m.registers; current = Some 1; count = 0 })
settled_low m w v ws s e f q h =
    let l : length m.low ≡ length ws + 1 = rw q (omega arith) in
    let n : ones m.current ≡ 0 = ap ones e in
    let below : IsBelow (Some 1) m.interrupted = rw f tt in
    let seat : IsSeat w = first_seat m.low w ws q s.listed.low in
    let seats : All IsSeat ws = other_seats m.low w ws q s.listed.low in
    search arith

-- the first of the high queue interrupts a low process
pub settled_preempted : (m : Control) (w v : ℕ) (ws : List ℕ) → IsSettled m → m.current ≡ Some 1 → m.high ≡ w ∷ ws
    → IsWord v
    → IsSettled (record m {
      high = ws;
      interrupted = Some (record { registers = m.registers; count = m.count });
      registers = fresh w v m.registers;
      current = Some 0;
      count = 0;
    })
settled_preempted m w v ws s e q h =
    let l : length m.high ≡ length ws + 1 = rw q (omega arith) in
    let n : ones m.current ≡ 1 = ap ones e in
    let seat : IsSeat w = first_seat m.high w ws q s.listed.high in
    let seats : All IsSeat ws = other_seats m.high w ws q s.listed.high in
    search (arith, high_runs)

-- the interrupted process runs again
pub settled_resumed : (m : Control) (k : Suspended) → IsSettled m → m.current ≡ None → m.interrupted ≡ Some k
    → IsSettled (resumed k m)
settled_resumed m k s e q =
    let n : ones m.current ≡ 0 = ap ones e in
    let o : ones m.interrupted ≡ 1 = ap ones q in
    let count : k.count ≤ m.timeslice = rw q at s.running.kept_count in
    let words : AreWords k.registers = rw q at s.running.kept_words in
    search arith

-- the message of an offer is over: its process is queued
pub finished-settles : (o : Offer) (l : ℕ) (e : LinkEnd) (m : Control) → IsSettled m → IsWaiting m o.wdesc
    → ((v : ℕ) → (v ≡ o.wdesc → ⊥) → (e.output ≡ (link_end m l).output) ⊎ (IsOfferOf v (link_end m l).output → ⊥))
    → ((v : ℕ) → (v ≡ o.wdesc → ⊥) → (e.input ≡ (link_end m l).input) ⊎ (IsOfferOf v (link_end m l).input → ⊥))
    → Gives IsSettled (release o.wdesc (with_link l e m))
unfolding release
finished-settles o l e m s w h i =
    gives_weaken (Stays (without_waiter o.wdesc (with_link l e m))) IsSettled (release o.wdesc (with_link l e m))
    (enqueue-settles o.wdesc (without_waiter o.wdesc (with_link l e m)) (settled_finished o.wdesc l e m s h i)
    (omega (arith, s.few, fewer o.wdesc m.waiting w)) (seat_of o.wdesc m.waiting s.listed.waiting w)) (λ m' k. k.0)
