-- There is a place for one more, since no more than may live do.
use Rattle.std.proofs.Common.{◌≡◌, ℕ, ◌+◌, ◌≤◌, ◌<◌, true, refl, ◌++◌, length, map, arith}
use Rattle.std.proofs.Common.{length-append}
use Rattle.std.proofs.lemmas.List.{length-map}
use Rattle.tword.specs.Claims.{Claims}
use Rattle.tproc.specs.Machine.{Control, workspace_of}
use Rattle.tproc.specs.declared.waiter.Waiter.{Waiter}
use Rattle.tproc.specs.ProcessStatus.{has_room}
use Rattle.tproc.proofs.PlaceMoves.{population, ones, live-length}
use Rattle.tproc.proofs.PlaceRows.{room_left}
use Rattle.tproc.specs.Agreement.{Agrees, IsOwn, RunsAt, HasPlace}

pub place_admitted : (m : Control) → has_room m ≡ true → HasPlace m
place_admitted m h = omega (arith, room_left m h)

pub place_running : (m : Control) (p : ℕ) → RunsAt p m → HasPlace m
place_running m p h =
    let few : population m ≤ 512 = rw (live-length m) at h.plain.few in
    let one : ones m.current ≡ 1 = rw h.running refl in
    omega (arith, few, one)

-- and so there is room for the words of one more workspace
pub room_placed : (c : Claims) (m : Control) → Agrees c m → HasPlace m → length c.saved < 512
room_placed c m a p =
    omega (
      arith,
      p,
      a.on.count,
      length-append {A = ℕ} (m.high ++ m.low) (map (λ (w : Waiter). workspace_of w.process) m.waiting),
      length-append {A = ℕ} m.high m.low,
      length-map {A = Waiter} {B = ℕ},
    )

pub room_admitted : (c : Claims) (m : Control) → Agrees c m → has_room m ≡ true → length c.saved < 512
room_admitted c m a h = room_placed c m a (place_admitted m h)

pub room_running : (c : Claims) (m : Control) (p : ℕ) → Agrees c m → RunsAt p m → length c.saved < 512
room_running c m p a h = room_placed c m a (place_running m p h)

pub room_own : (c : Claims) (process : ℕ) (m : Control) → Agrees c m → IsOwn process m → length c.saved < 512
room_own c process m a own = room_placed c m a own.place
