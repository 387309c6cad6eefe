-- What a change makes of a state in which a node has a board.
use Rattle.std.proofs.Common.{◌≡◌, ℕ, refl, sym, ap, ◌∙◌, Bool, true, false, List, eq-eqb}
use Rattle.std.specs.Prelude.{◌==◌, ◌&&◌, ℤ, pos, ◌+ℤ◌, if◌then◌else◌}
use Rattle.tproc.specs.declared.channels.Side.{Side}
use Rattle.tplan.specs.Wires.{end_at}
use Rattle.tprocesses.specs.Places.{Place, Name, Standing, Ports, Half, LinkHalf, Unfinished, Error, HaltOnError, Life}
use Rattle.tprocesses.specs.Places.{Successions, Population, HasRun, FlagChanged, same_place, same_name, same_side}
use Rattle.tprocesses.specs.Values.{Value, Stand, Holder, Link, IsStand, ArePorts, IsHalf, IsLink, IsFlag}
use Rattle.tprocesses.specs.Values.{IsAmount, IsCount}
use Rattle.tprocesses.specs.Changes.{Change, Put, Add, Raise, apply}
use Rattle.tcertify.proofs.Telling.{same_place-true}
use Rattle.tcertify.specs.declared.stored.StoredWord.{StoredWord}
use Rattle.tcertify.specs.Boards.{Board, board_at}
use Rattle.tcertify.specs.Running.{State, changed}
use Rattle.tcertify.specs.Words.{with_words}

-- a state that differs from another at one place
pub state_changed : (s t : State) (p : Place) (c : Change) → t p ≡ apply c (s p)
    → ((q : Place) → same_place p q ≡ false → t q ≡ s q) → t ≡ changed p c s
state_changed s t p c here others = λ i q. by q (same_place p q) refl i
  where
    by : (q : Place) (b : Bool) → same_place p q ≡ b → t q ≡ (if b then apply c (s q) else s q)
    by q true e =
        ap t (sym (same_place-true p q e)) ∙ here ∙ ap (λ (x : Place). apply c (s x)) (same_place-true p q e)
    by q false e = others q e

-- a choice by a test that holds, and by one that does not
chosen : (t : Bool) (u v : Value) → t ≡ true → (if t then u else v) ≡ u
chosen t u v e = ap (λ (b : Bool). if b then u else v) e

pub here : (n : ℕ) (u v : Value) → (if n == n then u else v) ≡ u
here n u v = chosen (n == n) u v (eq-eqb n n refl)

-- two values by a test, where the second is the same, and the first are if the test holds
alike : (t : Bool) (u v w : Value) → (t ≡ true → u ≡ v) → (if t then u else w) ≡ (if t then v else w)
alike true u v w e = e refl
alike false u v w e = refl

-- a test that does not hold, though the first half of it does
second_fails : (t u : Bool) → (t && u) ≡ false → t ≡ true → u ≡ false
second_fails true u e h = e
second_fails false u e h = cc

third_fails : (t u v : Bool) → ((t && u) && v) ≡ false → t ≡ true → (u && v) ≡ false
third_fails true u v e h = e
third_fails false u v e h = cc

module _ (n : ℕ) (words : List StoredWord) (x : Board) (rest : State) where
  -- a state with this board
  abbrev at : Board → State
  at b = with_words n words (board_at b rest)

  -- Error
  pub error_put : (v : Bool)
      → at (record x { error = v }) ≡ changed (Error x.node) (Put (IsFlag v)) (at x)
  error_put v = state_changed (at x) (at (record x { error = v })) (Error x.node) (Put (IsFlag v))
      (here x.node (IsFlag v) (rest (Error x.node))) others_stay
    where
      others_stay : (q : Place) → same_place (Error x.node) q ≡ false → at (record x { error = v }) q ≡ at x q
      others_stay (Error m) e = alike (x.node == m) (IsFlag v) (IsFlag x.error) (rest (Error m)) (λ h. cc)
      others_stay q e = refl

  pub error_raised : at (record x { error = true }) ≡ changed (Error x.node) Raise (at x)
  error_raised = state_changed (at x) (at (record x { error = true })) (Error x.node) Raise
      (here x.node (IsFlag true) (rest (Error x.node))
      ∙ ap (apply Raise) (sym (here x.node (IsFlag x.error) (rest (Error x.node))))) others_stay
    where
      others_stay : (q : Place) → same_place (Error x.node) q ≡ false → at (record x { error = true }) q ≡ at x q
      others_stay (Error m) e = alike (x.node == m) (IsFlag true) (IsFlag x.error) (rest (Error m)) (λ h. cc)
      others_stay q e = refl

  -- HaltOnError
  pub halt_put : (v : Bool)
      → at (record x { halt_on_error = v }) ≡ changed (HaltOnError x.node) (Put (IsFlag v)) (at x)
  halt_put v = state_changed (at x) (at (record x { halt_on_error = v })) (HaltOnError x.node) (Put (IsFlag v))
      (here x.node (IsFlag v) (rest (HaltOnError x.node))) others_stay
    where
      others_stay : (q : Place) → same_place (HaltOnError x.node) q ≡ false
          → at (record x { halt_on_error = v }) q ≡ at x q
      others_stay (HaltOnError m) e =
          alike (x.node == m) (IsFlag v) (IsFlag x.halt_on_error) (rest (HaltOnError m)) (λ h. cc)
      others_stay q e = refl

  -- a flag was changed
  pub flag_raised : at (record x { is_flag_changed = true }) ≡ changed (FlagChanged x.node) Raise (at x)
  flag_raised = state_changed (at x) (at (record x { is_flag_changed = true })) (FlagChanged x.node) Raise
      (here x.node (IsFlag true) (rest (FlagChanged x.node))
      ∙ ap (apply Raise) (sym (here x.node (IsFlag x.is_flag_changed) (rest (FlagChanged x.node))))) others_stay
    where
      others_stay : (q : Place) → same_place (FlagChanged x.node) q ≡ false
          → at (record x { is_flag_changed = true }) q ≡ at x q
      others_stay (FlagChanged m) e =
          alike (x.node == m) (IsFlag true) (IsFlag x.is_flag_changed) (rest (FlagChanged m)) (λ h. cc)
      others_stay q e = refl

  -- how many processes there were
  pub population_added : (k : ℕ) → pos k ≡ pos x.population +ℤ pos 1
      → at (record x { population = k }) ≡ changed (Population x.node) (Add (pos 1)) (at x)
  population_added k sum = state_changed (at x) (at (record x { population = k })) (Population x.node) (Add (pos 1))
      (here x.node (IsAmount (pos k)) (rest (Population x.node)) ∙ ap IsAmount sum
      ∙ ap (apply (Add (pos 1))) (sym (here x.node (IsAmount (pos x.population)) (rest (Population x.node)))))
      others_stay
    where
      others_stay : (q : Place) → same_place (Population x.node) q ≡ false
          → at (record x { population = k }) q ≡ at x q
      others_stay (Population m) e =
          alike (x.node == m) (IsAmount (pos k)) (IsAmount (pos x.population)) (rest (Population m)) (λ h. cc)
      others_stay q e = refl

  -- a process of a priority has run
  pub run_raised : (p : ℕ) (f : ℕ → Bool) → f p ≡ true → ((r : ℕ) → (p == r) ≡ false → f r ≡ x.has_run r)
      → at (record x { has_run = f }) ≡ changed (HasRun x.node p) Raise (at x)
  run_raised p f set others = state_changed (at x) (at (record x { has_run = f })) (HasRun x.node p) Raise
      (here x.node (IsFlag (f p)) (rest (HasRun x.node p)) ∙ ap IsFlag set
      ∙ ap (apply Raise) (sym (here x.node (IsFlag (x.has_run p)) (rest (HasRun x.node p))))) others_stay
    where
      others_stay : (q : Place) → same_place (HasRun x.node p) q ≡ false → at (record x { has_run = f }) q ≡ at x q
      others_stay (HasRun m r) e =
          alike (x.node == m) (IsFlag (f r)) (IsFlag (x.has_run r)) (rest (HasRun m r))
          (λ h. ap IsFlag (others r (second_fails (x.node == m) (p == r) e h)))
      others_stay q e = refl

  -- how many processes have a workspace
  pub life_added : (w : ℕ) (z : ℤ) (f : ℕ → ℤ) → f w ≡ x.life w +ℤ z
      → ((v : ℕ) → (w == v) ≡ false → f v ≡ x.life v)
      → at (record x { life = f }) ≡ changed (Life x.node w) (Add z) (at x)
  life_added w z f sum others = state_changed (at x) (at (record x { life = f })) (Life x.node w) (Add z)
      (here x.node (IsAmount (f w)) (rest (Life x.node w)) ∙ ap IsAmount sum
      ∙ ap (apply (Add z)) (sym (here x.node (IsAmount (x.life w)) (rest (Life x.node w))))) others_stay
    where
      others_stay : (q : Place) → same_place (Life x.node w) q ≡ false → at (record x { life = f }) q ≡ at x q
      others_stay (Life m v) e =
          alike (x.node == m) (IsAmount (f v)) (IsAmount (x.life v)) (rest (Life m v))
          (λ h. ap IsAmount (others v (second_fails (x.node == m) (w == v) e h)))
      others_stay q e = refl

  -- how many successors went on at a workspace
  pub successions_put : (w k : ℕ) (f : ℕ → ℕ) → f w ≡ k → ((v : ℕ) → (w == v) ≡ false → f v ≡ x.successions v)
      → at (record x { successions = f }) ≡ changed (Successions x.node w) (Put (IsCount k)) (at x)
  successions_put w k f set others =
      state_changed (at x) (at (record x { successions = f })) (Successions x.node w) (Put (IsCount k))
      (here x.node (IsCount (f w)) (rest (Successions x.node w)) ∙ ap IsCount set) others_stay
    where
      others_stay : (q : Place) → same_place (Successions x.node w) q ≡ false
          → at (record x { successions = f }) q ≡ at x q
      others_stay (Successions m v) e =
          alike (x.node == m) (IsCount (f v)) (IsCount (x.successions v)) (rest (Successions m v))
          (λ h. ap IsCount (others v (second_fails (x.node == m) (w == v) e h)))
      others_stay q e = refl

  -- where a process stands
  pub stand_put : (y : Name) (s : Stand) (f : Name → Stand) → y.node ≡ x.node → f y ≡ s
      → ((z : Name) → same_name y z ≡ false → f z ≡ x.stand z)
      → at (record x { stand = f }) ≡ changed (Standing y) (Put (IsStand s)) (at x)
  stand_put y s f own set others =
      state_changed (at x) (at (record x { stand = f })) (Standing y) (Put (IsStand s))
      (chosen (x.node == y.node) (IsStand (f y)) (rest (Standing y)) (eq-eqb x.node y.node (sym own))
      ∙ ap IsStand set) others_stay
    where
      others_stay : (q : Place) → same_place (Standing y) q ≡ false → at (record x { stand = f }) q ≡ at x q
      others_stay (Standing z) e =
          alike (x.node == z.node) (IsStand (f z)) (IsStand (x.stand z)) (rest (Standing z))
          (λ h. ap IsStand (others z e))
      others_stay q e = refl

  -- the channels that a process has enabled
  pub ports_put : (y : Name) (ports : List ℕ) (f : Name → List ℕ) → y.node ≡ x.node → f y ≡ ports
      → ((z : Name) → same_name y z ≡ false → f z ≡ x.ports z)
      → at (record x { ports = f }) ≡ changed (Ports y) (Put (ArePorts ports)) (at x)
  ports_put y ports f own set others =
      state_changed (at x) (at (record x { ports = f })) (Ports y) (Put (ArePorts ports))
      (chosen (x.node == y.node) (ArePorts (f y)) (rest (Ports y)) (eq-eqb x.node y.node (sym own))
      ∙ ap ArePorts set) others_stay
    where
      others_stay : (q : Place) → same_place (Ports y) q ≡ false → at (record x { ports = f }) q ≡ at x q
      others_stay (Ports z) e =
          alike (x.node == z.node) (ArePorts (f z)) (ArePorts (x.ports z)) (rest (Ports z))
          (λ h. ap ArePorts (others z e))
      others_stay q e = refl

  -- who has a half of a channel
  pub half_put : (a : ℕ) (side : Side) (r : Holder) (f : ℕ → Side → Holder) → f a side ≡ r
      → ((c : ℕ) (t : Side) → ((a == c) && same_side side t) ≡ false → f c t ≡ x.half c t)
      → at (record x { half = f }) ≡ changed (Half x.node a side) (Put (IsHalf r)) (at x)
  half_put a side r f set others =
      state_changed (at x) (at (record x { half = f })) (Half x.node a side) (Put (IsHalf r))
      (here x.node (IsHalf (f a side)) (rest (Half x.node a side)) ∙ ap IsHalf set) others_stay
    where
      others_stay : (q : Place) → same_place (Half x.node a side) q ≡ false → at (record x { half = f }) q ≡ at x q
      others_stay (Half m c t) e =
          alike (x.node == m) (IsHalf (f c t)) (IsHalf (x.half c t)) (rest (Half m c t))
          (λ h. ap IsHalf (others c t (third_fails (x.node == m) (a == c) (same_side side t) e h)))
      others_stay q e = refl

  -- what pends at a half of a link
  pub link_put : (k : ℕ) (side : Side) (l : Link) (f : ℕ → Side → Link) → f k side ≡ l
      → ((c : ℕ) (t : Side) → ((k == c) && same_side side t) ≡ false → f c t ≡ x.link c t)
      → at (record x { link = f }) ≡ changed (LinkHalf (end_at x.node k) side) (Put (IsLink l)) (at x)
  link_put k side l f set others =
      state_changed (at x) (at (record x { link = f })) (LinkHalf (end_at x.node k) side) (Put (IsLink l))
      (here x.node (IsLink (f k side)) (rest (LinkHalf (end_at x.node k) side)) ∙ ap IsLink set) others_stay
    where
      others_stay : (q : Place) → same_place (LinkHalf (end_at x.node k) side) q ≡ false
          → at (record x { link = f }) q ≡ at x q
      others_stay (LinkHalf e t) apart =
          alike (x.node == e.node) (IsLink (f e.link t)) (IsLink (x.link e.link t)) (rest (LinkHalf e t))
          (λ h. ap IsLink (others e.link t
          (third_fails (x.node == e.node) (k == e.link) (same_side side t) apart h)))
      others_stay q apart = refl

  -- whether an output of a link is unfinished
  pub unfinished_put : (k : ℕ) (v : Bool) (f : ℕ → Bool) → f k ≡ v → ((j : ℕ) → (k == j) ≡ false → f j ≡ x.unfinished j)
      → at (record x { unfinished = f }) ≡ changed (Unfinished (end_at x.node k)) (Put (IsFlag v)) (at x)
  unfinished_put k v f set others =
      state_changed (at x) (at (record x { unfinished = f })) (Unfinished (end_at x.node k)) (Put (IsFlag v))
      (here x.node (IsFlag (f k)) (rest (Unfinished (end_at x.node k))) ∙ ap IsFlag set) others_stay
    where
      others_stay : (q : Place) → same_place (Unfinished (end_at x.node k)) q ≡ false
          → at (record x { unfinished = f }) q ≡ at x q
      others_stay (Unfinished e) apart =
          alike (x.node == e.node) (IsFlag (f e.link)) (IsFlag (x.unfinished e.link)) (rest (Unfinished e))
          (λ h. ap IsFlag (others e.link (second_fails (x.node == e.node) (k == e.link) apart h)))
      others_stay q apart = refl
