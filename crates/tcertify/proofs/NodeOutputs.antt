-- Outputs of links that are over, and those whose processes have not gone on.
use Rattle.std.proofs.Common.{◌≡◌, ◌<◌, ℕ, refl, sym, ap, ◌∙◌, subst, length, Bool, true, false}
use Rattle.std.proofs.Common.{Option, Some, None, Result, Ok, Err, get_or, negsuc}
use Rattle.std.specs.Prelude.{◌==◌, not, slice_get, unwrap_or}
use Rattle.std.proofs.lemmas.Bool.{eq-eqb}
use Rattle.std.proofs.lemmas.Option.{slice_get-get_or}
use Rattle.tword.specs.declared.breaks.Break.TheVariants.{LinkBusy}
use Rattle.tproc.specs.declared.channels.Side.TheVariants.{Output}
use Rattle.tplan.specs.Wires.{end_at}
use Rattle.tprocesses.specs.Changes.{Put}
use Rattle.tprocesses.specs.LinkMessages.{finished}
use Rattle.tprocesses.specs.Parts.{Breaks, Doing, HasNoStep, change, require, see, ◌>>◌}
use Rattle.tprocesses.specs.Places.{Unfinished}
use Rattle.tprocesses.specs.Standing.{takes_back}
use Rattle.tprocesses.specs.Touching.{Site, count_outputs}
use Rattle.tprocesses.specs.Values.{IsFlag, Lent, Value, flag_in}
use Rattle.tcertify.specs.declared.channel.Links.{Links}
use Rattle.tcertify.specs.declared.context.Lent as declared
use Rattle.tcertify.specs.declared.fault.Fault.{Fault}
use Rattle.tcertify.specs.declared.node.Node.{Node}
use Rattle.tcertify.specs.Boards.{board_at}
use Rattle.tcertify.specs.Channels.{IsUnfinishedSet, link_among, unfinished_among}
use Rattle.tcertify.specs.Contexts.{lent_of}
use Rattle.tcertify.specs.Nodes.{Does, RunsAt, board_of, names, node_at, node_site, nothing}
use Rattle.tcertify.specs.Outputs.{frees_output}
use Rattle.tcertify.specs.Running.{State, changed}
use Rattle.tcertify.specs.Words.{with_words}
use Rattle.tcertify.proofs.BoardChanges.{here, unfinished_put}
use Rattle.tcertify.proofs.NodeRunning.{does_on, does_stop, number_stays, runs_at_given, runs_at_on, runs_at_stopped}
use Rattle.tcertify.proofs.NodeWords.{board_from}
use Rattle.tcertify.proofs.Places.{set_elsewhere, set_here}

-- what is seen of whether an output is unfinished
pub unfinished_seen : (a : Node) (k : ℕ) (u : Bool) → slice_get a.links.unfinished k ≡ Some u → (rest : State)
    → node_at a rest (Unfinished (end_at a.words.number k)) ≡ IsFlag u
unfinished_seen a k u there rest =
    here a.words.number (IsFlag (unfinished_among a.links k)) (rest (Unfinished (end_at a.words.number k)))
    ∙ ap (λ (o : Option Bool). IsFlag (unwrap_or o false)) there

-- numbers that the test finds apart
apart_numbers : (k j : ℕ) → (k == j) ≡ false → k ≡ j → ⊥
apart_numbers k j e same = cc (e, eq-eqb k j same)

-- an output is unfinished now, or over
module _ (a : Node) (new : Links) (k : ℕ) (u v : Bool) (there : slice_get a.links.unfinished k ≡ Some u)
    (set : IsUnfinishedSet a.links k v new) where
  set_now : unfinished_among new k ≡ v
  set_now =
      ap (λ (l : Links). unfinished_among l k) set
      ∙ ap (λ (o : Option Bool). unwrap_or o false) (set_here a.links.unfinished k v u there)

  set_else : (j : ℕ) → (k == j) ≡ false → unfinished_among new j ≡ unfinished_among a.links j
  set_else j e =
      ap (λ (l : Links). unfinished_among l j) set
      ∙ ap (λ (o : Option Bool). unwrap_or o false) (set_elsewhere a.links.unfinished k j v (apart_numbers k j e))

  pub unfinished_state : (rest : State)
      → with_words a.words.number a.words.items.items (board_at (board_from a.words.number a.processes.items.items
      a.channels.items.items new a.lives.items.items a.error a.halt_on_error a.is_flag_changed a.has_run_high
      a.has_run_low a.population) rest)
      ≡ changed (Unfinished (end_at a.words.number k)) (Put (IsFlag v)) (node_at a rest)
  unfinished_state rest =
      ap (λ (l : Links). with_words a.words.number a.words.items.items (board_at (record (board_of a) {
        link = link_among (names a) l;
        unfinished = unfinished_among new;
      }) rest)) set
      ∙ unfinished_put a.words.number a.words.items.items (board_of a) rest k v (unfinished_among new) set_now set_else

-- whether an output is unfinished, for a link that the node has
pub flag_is_there : (l : Links) (k : ℕ) → k < length l.unfinished
    → (u : Bool) × (slice_get l.unfinished k ≡ Some u)
flag_is_there l k inside = (get_or l.unfinished k false, slice_get-get_or l.unfinished k false inside)

module _ (a b : Node) (k : ℕ) (u : Bool)
    (seen : RunsAt (see (Unfinished (end_at a.words.number k))) a (Ok (IsFlag u)) b) where
  -- what follows the look
  abbrev free_on : Bool → Doing
  free_on unfinished =
      require unfinished HasNoStep >> change (Unfinished (end_at a.words.number k)) (Put (IsFlag false))

  pub frees_not : u ≡ false → RunsAt (frees_output (node_site a) k) a (Err HasNoStep) b
  frees_not never =
      runs_at_on (see (Unfinished (end_at a.words.number k))) (λ (v : Value). free_on (flag_in v)) a b b (IsFlag u)
      (Err HasNoStep) seen
      (subst (λ (t : Bool). RunsAt (free_on t) b (Err HasNoStep) b) (sym never) (runs_at_stopped HasNoStep b))

  pub frees : (c : Node) → u ≡ true
      → RunsAt (change (Unfinished (end_at b.words.number k)) (Put (IsFlag false))) b (Ok tt) c
      → RunsAt (frees_output (node_site a) k) a (Ok tt) c
  frees c copied set =
      runs_at_on (see (Unfinished (end_at a.words.number k))) (λ (v : Value). free_on (flag_in v)) a b c (IsFlag u)
      (Ok tt) seen
      (subst (λ (t : Bool). RunsAt (free_on t) b (Ok tt) c) (sym copied)
      (subst (λ (n : ℕ). RunsAt (change (Unfinished (end_at n k)) (Put (IsFlag false))) b (Ok tt) c)
      (sym (number_stays a b seen.grows)) set))

  -- the output of a link on which a message is offered
  abbrev finish_on : Bool → Doing
  finish_on unfinished = require (not unfinished) (Breaks LinkBusy)

  pub finishes_not : u ≡ true → RunsAt (finished Output (end_at a.words.number k)) a (Err (Breaks LinkBusy)) b
  finishes_not e =
      runs_at_on (see (Unfinished (end_at a.words.number k))) (λ (v : Value). finish_on (flag_in v)) a b b (IsFlag u)
      (Err (Breaks LinkBusy)) seen
      (subst (λ (t : Bool). RunsAt (finish_on t) b (Err (Breaks LinkBusy)) b) (sym e)
      (runs_at_stopped (Breaks LinkBusy) b))

  pub finishes : u ≡ false → RunsAt (finished Output (end_at a.words.number k)) a (Ok tt) b
  finishes e =
      runs_at_on (see (Unfinished (end_at a.words.number k))) (λ (v : Value). finish_on (flag_in v)) a b b (IsFlag u)
      (Ok tt) seen (subst (λ (t : Bool). RunsAt (finish_on t) b (Ok tt) b) (sym e) (runs_at_given tt b))

-- an output is over
module _ (a b : Node) (l : Lent) where
  pub takes_not : (e : Fault) → Does (count_outputs (node_site a) (negsuc 0) l.buffer) nothing a (Err e) b
      → Does (takes_back (node_site a) (Some l)) nothing a (Err e) b
  takes_not e h =
      does_stop (count_outputs (node_site a) (negsuc 0) l.buffer) (λ (u : Unit {0}). frees_output (node_site a) l.link)
      nothing nothing a b e h

  pub takes : (c : Node) (r : Result (Unit {0}) Fault) (k : ℕ) → k ≡ l.link
      → RunsAt (count_outputs (node_site a) (negsuc 0) l.buffer) a (Ok tt) b
      → Does (frees_output (node_site b) k) nothing b r c → Does (takes_back (node_site a) (Some l)) nothing a r c
  takes c r k is first second =
      does_on (count_outputs (node_site a) (negsuc 0) l.buffer) (λ (u : Unit {0}). frees_output (node_site a) l.link)
      nothing a b c tt r first
      (subst (λ (j : ℕ). Does (frees_output (node_site a) j) nothing b r c) is
      (subst (λ (s : Site). Does (frees_output s k) nothing b r c) first.grows.site second))

-- there is none
pub takes_nothing : (a : Node) (o : Option declared.Lent) → ((l : declared.Lent) → o ≡ Some l → ⊥)
    → RunsAt (takes_back (node_site a) (lent_of o)) a (Ok tt) a
takes_nothing a None none = runs_at_given tt a
takes_nothing a (Some l) none = absurd (none l refl)
