-- Workers that have nothing left to do.
-- Source: own choice.
use Rattle.std.specs.Prelude.{ℕ, ◌≡◌, ◌+◌, ◌<◌, ◌≤◌, ◌⊎◌, All, Bool, true, List, ◌++◌, length, Ok, Err, Some, slice_get}
use Rattle.tlink.specs.declared.event.NodeEvent.TheVariants.{Run, Send, Take}
use Rattle.tlink.specs.declared.event.Packet.{Packet}
use Rattle.tplan.specs.declared.plan.End.{End}
use Rattle.tplan.specs.Wires.{far_end}
use Rattle.tfree.specs.declared.stamp.OwnEvent.{OwnEvent}
use Rattle.tfree.specs.declared.stamp.Sent.{Sent}
use Rattle.tfree.specs.Lists.{takes, event_taking}
use Rattle.tfree.specs.Views.{View}
use Rattle.tfree.specs.Kept.{own_end, put_to, IsMine}
use Rattle.tfree.specs.Turns.{IsEnabled, IsTurn, IsClockFull}
use Rattle.tfree.specs.Turning.{Ended, AreEachTurned, AreTurned}

-- the worker of a node: this one, where the node is its own, else one of the workers
abbrev pub IsWorkerOf : List View → View → ℕ → View → Type 0
IsWorkerOf ws w n u = (IsMine w.share n × (u ≡ w))
    ⊎ ((IsMine w.share n → ⊥) × IsMine u.share n × ((k : ℕ) × (slice_get ws k ≡ Some u)))

-- the ring that leads to an end of a worker is empty: as many packets were taken as the worker of the far end put in,
-- those at the opening included
pub record IsRingEmpty (ws : List View) (w : View) (e : End) : Type 0 where
  pub far : End
  pub from : View
  pub wired : far_end w.share.opened.wires e ≡ Some far
  pub whose : IsWorkerOf ws w far.node from
  pub empty : length (takes e w.events) ≡ length (put_to from.share.opened far from.events)

-- at a link of a worker's i-th node no event is enabled except those that take a packet, and where one of these is,
-- the ring is empty
pub record LinkRests (ws : List View) (w : View) (i l : ℕ) : Type 0 where
  pub send : IsEnabled w.share (w.share.first + i) (Send l) w.events → ⊥
  pub take : IsEnabled w.share (w.share.first + i) (Take l) w.events → ⊥
  pub packets : (p : Packet) → IsEnabled w.share (w.share.first + i) (event_taking l p) w.events
      → IsRingEmpty ws w (own_end w.share i l)

-- at a node no run is enabled, and its links rest
pub record NodeRests (ws : List View) (w : View) (i : ℕ) : Type 0 where
  pub run : IsEnabled w.share (w.share.first + i) Run w.events → ⊥
  pub links : (l : ℕ) → l < 4 → LinkRests ws w i l

-- a worker has nothing left to do: all its nodes rest
abbrev pub HasNothingLeft : List View → View → Type 0
HasNothingLeft ws w = (i : ℕ) → i < w.share.owned → NodeRests ws w i

-- a worker has nothing left to do, unless it stopped for a fault
abbrev pub IsIdle : List View → Ended → View → Type 0
IsIdle ws (Ok x) w = HasNothingLeft ws w
IsIdle ws (Err f) w = Unit {0}

-- workers are at rest: each has nothing left to do, or its clock is full
abbrev pub AreAtRest : List View → Type 0
AreAtRest ws = All (λ w. HasNothingLeft ws w ⊎ IsClockFull w) ws

-- workers made this number of turns; or fewer, where each that did not stop for a fault has nothing left to do
pub record AreStaged (turns slice : ℕ) (vs : List View) (endings : List Ended) (ws : List View) : Type 0 where
  pub made : ℕ
  pub within : made ≤ turns
  pub each : AreEachTurned made slice vs endings ws
  pub idle : made < turns → (k : ℕ) (e : Ended) (w : View) → slice_get endings k ≡ Some e → slice_get ws k ≡ Some w
      → IsIdle ws e w

-- how many turns workers made: as many as they were to make; or fewer, where they are at rest
pub record HaveMade (turns slice : ℕ) (vs ws : List View) : Type 0 where
  pub made : ℕ
  pub within : made ≤ turns
  pub turned : AreTurned made slice vs true ws
  pub rest : made < turns → AreAtRest ws

-- what a worker's list takes from the rings of other workers lies there: it begins what these put in
abbrev pub TakesWhatLies : List View → View → List OwnEvent → Type 0
TakesWhatLies ws w es = (i l : ℕ) (f : End) (u : View) → i < w.share.owned → l < 4
    → far_end w.share.opened.wires (own_end w.share i l) ≡ Some f → IsWorkerOf ws w f.node u
    → (IsMine w.share f.node → ⊥)
    → (rest : List Sent) × (takes (own_end w.share i l) es ++ rest ≡ put_to u.share.opened f u.events)

-- a later turn of a worker that has nothing left to do adds nothing to its list
abbrev pub TurnsAtRestAddNothing : Type 0
TurnsAtRestAddNothing =
    (ws : List View) (w : View) (slice : ℕ) (whole : Bool) (es : List OwnEvent) → HasNothingLeft ws w
    → IsTurn w.share slice w.events whole es → TakesWhatLies ws w es → es ≡ w.events
