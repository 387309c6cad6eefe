-- How steps access a place, and of which accesses the order matters.
-- Source: own choice; kinds of changes that commute after Weihl, Commutativity-based concurrency control (1988).
use Rattle.std.specs.Prelude.{◌≡◌, ◌↔◌, Bool, true, false, not, ◌==◌}
use Rattle.tclocks.specs.declared.mode.Mode.{Mode}
use Rattle.tclocks.specs.declared.mode.Mode.TheVariants.{Looks, Checks, Claims, Puts, Lends, Commutes}

-- accesses of these modes have the same result in both orders
abbrev pub commute : Mode → Mode → Bool
commute Looks Looks = true
commute Looks Claims = true
commute Looks Lends = true
commute Looks Checks = true
commute Claims Looks = true
commute Claims Claims = true
commute Claims Checks = true
commute Checks Looks = true
commute Checks Checks = true
commute Checks Claims = true
commute Checks (Commutes kind) = true
commute (Commutes kind) Checks = true
commute Lends Looks = true
commute Lends Lends = true
commute (Commutes kind) (Commutes other) = kind == other
commute mode other = false

-- the order of accesses of these modes matters
abbrev pub collide : Mode → Mode → Bool
collide mode other = not (commute mode other)

-- what collides with an access of the other mode collides with one of this mode
abbrev pub covers : Mode → Mode → Bool
covers Puts other = true
covers Claims Looks = true
covers Claims Claims = true
covers Claims Checks = true
covers Checks Checks = true
covers (Commutes kind) Checks = true
covers Lends Looks = true
covers Lends Lends = true
covers Looks Looks = true
covers (Commutes kind) (Commutes other) = kind == other
covers mode other = false

-- to collide goes both ways; and a mode covers another one exactly if all that collides with that collides with it
pub record AreModes : Type 0 where
  pub both_ways : (mode other : Mode) → collide mode other ≡ collide other mode
  pub covers : (mode other : Mode)
      → (covers mode other ≡ true) ↔ ((third : Mode) → collide other third ≡ true → collide mode third ≡ true)
