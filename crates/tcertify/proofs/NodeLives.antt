-- The workspaces of a node.
use Rattle.std.proofs.Common.{◌≡◌, ℕ, refl, sym, ap, ◌∙◌, subst, Bool, true, false, List, [], ◌∷◌, ◌++◌, Option, Some}
use Rattle.std.proofs.Common.{None, Result, Ok, Err, negsuc, eq-eqb, arith}
use Rattle.std.specs.Prelude.{◌==◌, ℤ, pos, ◌+ℤ◌, find, map, slice_get, slice_set, unwrap_or, option_map, if◌then◌else◌}
use Rattle.std.proofs.lemmas.Bool.{eqb-true}
use Rattle.std.proofs.lemmas.Option.{slice_get-map}
use Rattle.std.specs.Int.{w32}
use mir.Val.{SFits, of_z}
use Rattle.tprocesses.specs.Places as place
use Rattle.tword.specs.declared.breaks.Break.TheVariants.{AlreadyLive}
use Rattle.tprocesses.specs.Changes.{Add, Put}
use Rattle.tprocesses.specs.Parts.{Breaks, Doing, Part, Reason, change, done, require, see, ◌>>◌}
use Rattle.tprocesses.specs.Standing.{moves}
use Rattle.tprocesses.specs.Touching.{is_zero}
use Rattle.tprocesses.specs.Values.{IsAmount, IsCount, Value, amount_in}
use Rattle.tcertify.specs.declared.fault.Fault.{Fault}
use Rattle.tcertify.specs.declared.life.Life.{Life}
use Rattle.tcertify.specs.declared.node.Node.{Node}
use Rattle.tcertify.specs.Boards.{board_at}
use Rattle.tcertify.specs.Finding.{AreApart, IsFound}
use Rattle.tcertify.specs.Lives.{count_or_none, lives_at, successors_at, successors_or_none, workspace_of}
use Rattle.tcertify.specs.Nodes.{Does, RunsAt, board_of, node_at, node_site, nothing, workspace_at}
use Rattle.tcertify.specs.Running.{State, changed}
use Rattle.tcertify.specs.Starts.{begins_life}
use Rattle.tcertify.specs.Words.{with_words}
use Rattle.tcertify.proofs.BoardChanges.{here, life_added, successions_put}
use Rattle.tcertify.proofs.Found.{find_apart, find_else, find_none, find_push, find_pushed}
use Rattle.tcertify.proofs.NodeRunning.{does_after, does_on, does_stop, runs_at_given, runs_at_on, runs_at_stopped}
use Rattle.tcertify.proofs.NodeWords.{board_from}
use Rattle.tcertify.proofs.Places.{set_here}

-- the workspace of a number
pub workspace_in : (ls : List Life) (k : ℕ) (l : Life) → slice_get ls k ≡ Some l
    → unwrap_or (slice_get (map (λ m. m.workspace) ls) k) 0 ≡ l.workspace
workspace_in ls k l there =
    ap (λ (o : Option ℕ). unwrap_or o 0) (slice_get-map workspace_of ls k ∙ ap (option_map workspace_of) there)

pub workspace_is : (a : Node) (k : ℕ) (l : Life) → slice_get a.lives.items.items k ≡ Some l
    → workspace_at a k ≡ l.workspace
workspace_is a k l there = workspace_in a.lives.items.items k l there

-- it is found by its address
pub life_found : (ls : List Life) (k : ℕ) (l : Life) → AreApart workspace_of ls → slice_get ls k ≡ Some l
    → find (λ m. m.workspace == l.workspace) ls ≡ Some l
life_found ls k l apart there =
    find_apart workspace_of (λ m. m.workspace == l.workspace) ls k l apart there (eq-eqb l.workspace l.workspace refl)
    (λ m h. eqb-true m.workspace l.workspace h)

-- what is seen of it
pub life_seen : (a : Node) (k : ℕ) (l : Life) → slice_get a.lives.items.items k ≡ Some l → (rest : State)
    → node_at a rest (place.Life a.words.number l.workspace) ≡ IsAmount l.count
life_seen a k l there rest =
    here a.words.number (IsAmount (lives_at a.lives.items.items l.workspace))
    (rest (place.Life a.words.number l.workspace))
    ∙ ap (λ (o : Option Life). IsAmount (count_or_none o))
    (life_found a.lives.items.items k l a.lives.apart there)

pub successors_seen : (a : Node) (k : ℕ) (l : Life) → slice_get a.lives.items.items k ≡ Some l → (rest : State)
    → node_at a rest (place.Successions a.words.number l.workspace) ≡ IsCount l.successors
successors_seen a k l there rest =
    here a.words.number (IsCount (successors_at a.lives.items.items l.workspace))
    (rest (place.Successions a.words.number l.workspace))
    ∙ ap (λ (o : Option Life). IsCount (successors_or_none o))
    (life_found a.lives.items.items k l a.lives.apart there)

-- a workspace has other counts
module _ (a : Node) (ms : List Life) (k : ℕ) (l m : Life) (there : slice_get a.lives.items.items k ≡ Some l)
    (set : ms ≡ slice_set a.lives.items.items k m) (own : m.workspace ≡ l.workspace)
    (apart : AreApart workspace_of ms) where
  pub life_now : slice_get ms k ≡ Some m
  life_now =
      ap (λ (ns : List Life). slice_get ns k) set ∙ set_here a.lives.items.items k m l there

  found_now : find (λ n. n.workspace == l.workspace) ms ≡ Some m
  found_now =
      ap (λ (w : ℕ). find (λ n. n.workspace == w) ms) (sym own) ∙ life_found ms k m apart life_now

  found_else : (w : ℕ) → (l.workspace == w) ≡ false
      → find (λ n. n.workspace == w) ms ≡ find (λ n. n.workspace == w) a.lives.items.items
  found_else w e =
      ap (λ (ns : List Life). find (λ n. n.workspace == w) ns) set
      ∙ find_else (λ n. n.workspace == w) a.lives.items.items k l m there e
      (ap (λ (v : ℕ). v == w) own ∙ e)

  -- where only one of the counts is another
  pub count_state : (z : ℤ) → m.count ≡ l.count +ℤ z → m.successors ≡ l.successors → (rest : State)
      → with_words a.words.number a.words.items.items (board_at (board_from a.words.number a.processes.items.items
      a.channels.items.items a.links ms a.error a.halt_on_error a.is_flag_changed a.has_run_high a.has_run_low
      a.population) rest)
      ≡ changed (place.Life a.words.number l.workspace) (Add z) (node_at a rest)
  count_state z sum stay rest =
      ap (λ (f : ℕ → ℕ). with_words a.words.number a.words.items.items (board_at (record (board_of a) {
        life = lives_at ms;
        successions = f;
      }) rest)) same
      ∙ life_added a.words.number a.words.items.items (board_of a) rest l.workspace z (lives_at ms)
      (ap count_or_none found_now ∙ sum
      ∙ ap (λ (o : Option Life). count_or_none o +ℤ z)
      (sym (life_found a.lives.items.items k l a.lives.apart there)))
      (λ w e. ap count_or_none (found_else w e))
    where
      at : (w : ℕ) → (b : Bool) → (l.workspace == w) ≡ b → successors_at ms w ≡ successors_at a.lives.items.items w
      at w true e =
          ap (successors_at ms) (sym (eqb-true l.workspace w e)) ∙ ap successors_or_none found_now ∙ stay
          ∙ ap successors_or_none (sym (life_found a.lives.items.items k l a.lives.apart there))
          ∙ ap (successors_at a.lives.items.items) (eqb-true l.workspace w e)
      at w false e = ap successors_or_none (found_else w e)

      same : successors_at ms ≡ successors_at a.lives.items.items
      same = λ i w. at w (l.workspace == w) refl i

  pub successors_state : (n : ℕ) → m.successors ≡ n → m.count ≡ l.count → (rest : State)
      → with_words a.words.number a.words.items.items (board_at (board_from a.words.number a.processes.items.items
      a.channels.items.items a.links ms a.error a.halt_on_error a.is_flag_changed a.has_run_high a.has_run_low
      a.population) rest)
      ≡ changed (place.Successions a.words.number l.workspace) (Put (IsCount n)) (node_at a rest)
  successors_state n is stay rest =
      ap (λ (f : ℕ → ℤ). with_words a.words.number a.words.items.items (board_at (record (board_of a) {
        successions = successors_at ms;
        life = f;
      }) rest)) same
      ∙ successions_put a.words.number a.words.items.items (board_of a) rest l.workspace n (successors_at ms)
      (ap successors_or_none found_now ∙ is) (λ w e. ap successors_or_none (found_else w e))
    where
      at : (w : ℕ) → (b : Bool) → (l.workspace == w) ≡ b → lives_at ms w ≡ lives_at a.lives.items.items w
      at w true e =
          ap (lives_at ms) (sym (eqb-true l.workspace w e)) ∙ ap count_or_none found_now ∙ stay
          ∙ ap count_or_none (sym (life_found a.lives.items.items k l a.lives.apart there))
          ∙ ap (lives_at a.lives.items.items) (eqb-true l.workspace w e)
      at w false e = ap count_or_none (found_else w e)

      same : lives_at ms ≡ lives_at a.lives.items.items
      same = λ i w. at w (l.workspace == w) refl i

-- a workspace that is added
module _ (a : Node) (l : Life) (none : IsFound workspace_of l.workspace a.lives.items.items None)
    (count : l.count ≡ pos 0) (successors : l.successors ≡ 0) where
  not_found : (w : ℕ) → (l.workspace == w) ≡ true
      → find (λ m. m.workspace == w) a.lives.items.items ≡ None
  not_found w e =
      find_none (λ m. m.workspace == w) a.lives.items.items
      (λ k m at. test_fails (m.workspace) w (λ h. none k m at (h ∙ sym (eqb-true l.workspace w e))))
    where
      test_fails : (v w : ℕ) → (v ≡ w → ⊥) → (v == w) ≡ false
      test_fails v w ne = by (v == w) refl
        where
          by : (b : Bool) → (v == w) ≡ b → (v == w) ≡ false
          by true e = absurd (ne (eqb-true v w e))
          by false e = e

  counts : (w : ℕ) (b : Bool) → (l.workspace == w) ≡ b
      → lives_at (a.lives.items.items ++ l ∷ []) w ≡ lives_at a.lives.items.items w
  counts w true e =
      ap count_or_none (find_pushed (λ m. m.workspace == w) a.lives.items.items l e (not_found w e)) ∙ count
      ∙ ap count_or_none (sym (not_found w e))
  counts w false e = ap count_or_none (find_push (λ m. m.workspace == w) a.lives.items.items l e)

  gone_on : (w : ℕ) (b : Bool) → (l.workspace == w) ≡ b
      → successors_at (a.lives.items.items ++ l ∷ []) w ≡ successors_at a.lives.items.items w
  gone_on w true e =
      ap successors_or_none (find_pushed (λ m. m.workspace == w) a.lives.items.items l e (not_found w e))
      ∙ successors ∙ ap successors_or_none (sym (not_found w e))
  gone_on w false e = ap successors_or_none (find_push (λ m. m.workspace == w) a.lives.items.items l e)

  same_counts : lives_at (a.lives.items.items ++ l ∷ []) ≡ lives_at a.lives.items.items
  same_counts = λ i w. counts w (l.workspace == w) refl i

  same_successors : successors_at (a.lives.items.items ++ l ∷ []) ≡ successors_at a.lives.items.items
  same_successors = λ i w. gone_on w (l.workspace == w) refl i

  -- no place has another value
  pub workspace_state : (ms : List Life) → ms ≡ a.lives.items.items ++ l ∷ [] → (rest : State)
      → with_words a.words.number a.words.items.items (board_at (board_from a.words.number a.processes.items.items
      a.channels.items.items a.links ms a.error a.halt_on_error a.is_flag_changed a.has_run_high a.has_run_low
      a.population) rest)
      ≡ node_at a rest
  workspace_state ms e rest =
      ap (λ (ns : List Life). with_words a.words.number a.words.items.items (board_at (board_from a.words.number
      a.processes.items.items a.channels.items.items a.links ns a.error a.halt_on_error a.is_flag_changed
      a.has_run_high a.has_run_low a.population) rest)) e
      ∙ ap (λ (f : ℕ → ℤ). with_words a.words.number a.words.items.items (board_at (record (board_of a) {
        life = f;
        successions = successors_at (a.lives.items.items ++ l ∷ []);
      }) rest)) same_counts
      ∙ ap (λ (f : ℕ → ℕ). with_words a.words.number a.words.items.items (board_at (record (board_of a) {
        successions = f;
      }) rest)) same_successors

-- workspaces that are the same
pub lives_same : (a : Node) (ms : List Life) → ms ≡ a.lives.items.items → (rest : State)
    → with_words a.words.number a.words.items.items (board_at (board_from a.words.number a.processes.items.items
    a.channels.items.items a.links ms a.error a.halt_on_error a.is_flag_changed a.has_run_high a.has_run_low
    a.population) rest)
    ≡ node_at a rest
lives_same a ms e rest =
    ap (λ (ns : List Life). with_words a.words.number a.words.items.items (board_at (board_from a.words.number
    a.processes.items.items a.channels.items.items a.links ns a.error a.halt_on_error a.is_flag_changed
    a.has_run_high a.has_run_low a.population) rest)) e

-- a part that changes a count, told by other words for the same
pub adds_there : (m b : Node) (r : Result (Unit {0}) Fault) (n v w u : ℕ) (y z : ℤ) → n ≡ v → w ≡ u → y ≡ z
    → Does (change (place.Life n w) (Add y)) nothing m r b → Does (change (place.Life v u) (Add z)) nothing m r b
adds_there m b r n v w u y z numbers places sums h =
    subst (λ (x : ℤ). Does (change (place.Life v u) (Add x)) nothing m r b) sums
    (subst (λ (x : ℕ). Does (change (place.Life v x) (Add y)) nothing m r b) places
    (subst (λ (x : ℕ). Does (change (place.Life x w) (Add y)) nothing m r b) numbers h))

-- a process comes to a workspace that no process has, or not
module _ (a m b : Node) (w : ℕ) (z : ℤ) (grown : RunsAt done a (Ok tt) m)
    (seen : RunsAt (see (place.Life a.words.number w)) m (Ok (IsAmount z)) b) where
  -- what follows the look
  abbrev begin_on : Bool → Doing
  begin_on t = require t (Breaks AlreadyLive) >> change (place.Life a.words.number w) (Add (pos 1))

  pub begins_not : is_zero z ≡ false → RunsAt (begins_life (node_site a) w) a (Err (Breaks AlreadyLive)) b
  begins_not lives =
      runs_at_on done (λ (u : Unit {0}). begins_life (node_site a) w) a m b tt (Err (Breaks AlreadyLive)) grown
      (runs_at_on (see (place.Life a.words.number w)) (λ (v : Value). begin_on (is_zero (amount_in v))) m b b
      (IsAmount z) (Err (Breaks AlreadyLive)) seen
      (subst (λ (t : Bool). RunsAt (begin_on t) b (Err (Breaks AlreadyLive)) b) (sym lives)
      (runs_at_stopped (Breaks AlreadyLive) b)))

  pub begins : (c : Node) (r : Result (Unit {0}) Fault) → is_zero z ≡ true
      → Does (change (place.Life a.words.number w) (Add (pos 1))) nothing b r c
      → Does (begins_life (node_site a) w) nothing a r c
  begins c r none h =
      does_after (begins_life (node_site a) w) nothing a m c r grown
      (does_on (see (place.Life a.words.number w)) (λ (v : Value). begin_on (is_zero (amount_in v))) nothing m b c
      (IsAmount z) r seen (subst (λ (t : Bool). Does (begin_on t) nothing b r c) (sym none) h))

-- a process has another workspace
module _ (a b : Node) (old new : ℕ) where
  moving : Bool → Doing
  moving same =
      if same then done
      else (change (place.Life a.words.number old) (Add (negsuc 0))
      >> change (place.Life a.words.number new) (Add (pos 1)))

  pub moves_not : old ≡ new → RunsAt (moves (node_site a) old new) a (Ok tt) a
  unfolding moving
  moves_not e =
      subst (λ (t : Bool). RunsAt (moving t) a (Ok tt) a) (sym (eq-eqb old new e)) (runs_at_given tt a)

  other : (old ≡ new → ⊥) → (old == new) ≡ false
  other ne = by (old == new) refl
    where
      by : (t : Bool) → (old == new) ≡ t → (old == new) ≡ false
      by true e = absurd (ne (eqb-true old new e))
      by false e = e

  pub moves_half : (e : Fault) → (old ≡ new → ⊥)
      → Does (change (place.Life a.words.number old) (Add (negsuc 0))) nothing a (Err e) b
      → Does (moves (node_site a) old new) nothing a (Err e) b
  unfolding moving
  moves_half e ne h =
      subst (λ (t : Bool). Does (moving t) nothing a (Err e) b) (sym (other ne))
      (does_stop (change (place.Life a.words.number old) (Add (negsuc 0)))
      (λ (u : Unit {0}). change (place.Life a.words.number new) (Add (pos 1))) nothing nothing a b e h)

  pub moves_so : (c : Node) (r : Result (Unit {0}) Fault) → (old ≡ new → ⊥)
      → RunsAt (change (place.Life a.words.number old) (Add (negsuc 0))) a (Ok tt) b
      → Does (change (place.Life a.words.number new) (Add (pos 1))) nothing b r c
      → Does (moves (node_site a) old new) nothing a r c
  unfolding moving
  moves_so c r ne first second =
      subst (λ (t : Bool). Does (moving t) nothing a r c) (sym (other ne))
      (does_on (change (place.Life a.words.number old) (Add (negsuc 0)))
      (λ (u : Unit {0}). change (place.Life a.words.number new) (Add (pos 1))) nothing a b c tt r first second)

-- whether a count is 0, as the code tells it
pub zero_is : (z : ℤ) → SFits w32 z → (of_z w32 z == 0) ≡ is_zero z
zero_is (pos n) low = refl
zero_is (negsuc n) low = by (of_z w32 (negsuc n) == 0) refl
  where
    by : (t : Bool) → (of_z w32 (negsuc n) == 0) ≡ t → (of_z w32 (negsuc n) == 0) ≡ false
    by true e = let h = eqb-true (of_z w32 (negsuc n)) 0 e in absurd (omega (arith, low, h))
    by false e = e

-- a look at a count, told by other words for the same
pub seen_there : (m b : Node) (r : Result Value Reason) (n v w u : ℕ) → n ≡ v → w ≡ u
    → RunsAt (see (place.Life n w)) m r b → RunsAt (see (place.Life v u)) m r b
seen_there m b r n v w u numbers places h =
    subst (λ (x : ℕ). RunsAt (see (place.Life v x)) m r b) places
    (subst (λ (x : ℕ). RunsAt (see (place.Life x w)) m r b) numbers h)

-- how many successors went on, told by other words for the same
pub successors_there : {A : Type 0} (part : ℕ → ℕ → Part A) (m b : Node) (r : Result A Reason) (n v w u : ℕ) → n ≡ v
    → w ≡ u
    → RunsAt (part n w) m r b → RunsAt (part v u) m r b
successors_there part m b r n v w u numbers places h =
    subst (λ (x : ℕ). RunsAt (part v x) m r b) places (subst (λ (x : ℕ). RunsAt (part x w) m r b) numbers h)
