-- The channels and links of a node.
use Rattle.std.proofs.Common.{◌≡◌, ℕ, refl, sym, ap, ◌∙◌, Bool, true, false, List, [], ◌∷◌, ◌++◌, Option, Some, None}
use Rattle.std.proofs.Common.{eq-eqb}
use Rattle.std.specs.Prelude.{◌==◌, ◌&&◌, find, map, slice_get, slice_set, unwrap_or, option_map}
use Rattle.std.proofs.lemmas.Bool.{eqb-true}
use Rattle.std.proofs.lemmas.Option.{slice_get-map}
use Rattle.tproc.specs.declared.channels.Side as machine
use Rattle.tproc.specs.declared.channels.Side.TheVariants as machines
use Rattle.tplan.specs.Wires.{end_at}
use Rattle.tprocesses.specs.Changes.{Put}
use Rattle.tprocesses.specs.Places as place
use Rattle.tprocesses.specs.Places.{Name, same_side}
use Rattle.tprocesses.specs.Values.{IsHalf, IsLink}
use Rattle.tprocesses.specs.Values as value
use Rattle.tcertify.specs.declared.channel.Channel.{Channel}
use Rattle.tcertify.specs.declared.channel.LinkHalf.{LinkHalf}
use Rattle.tcertify.specs.declared.channel.Links.{Links}
use Rattle.tcertify.specs.declared.channel.Holder.{Holder}
use Rattle.tcertify.specs.declared.channel.Holder.TheVariants as holder
use Rattle.tcertify.specs.declared.node.Node.{Node}
use Rattle.tcertify.specs.declared.side.Side.{Side}
use Rattle.tcertify.specs.declared.side.Side.TheVariants.{Input, Output}
use Rattle.tcertify.specs.Boards.{board_at}
use Rattle.tcertify.specs.Channels.{IsLinkSet, address_of, half_among, half_of, halves_of, link_among, link_of}
use Rattle.tcertify.specs.Channels.{link_or_empty, unfinished_among}
use Rattle.tcertify.specs.Channels.{holder_of, held_half, with_holder}
use Rattle.tcertify.specs.Finding.{AreApart, IsFound}
use Rattle.tcertify.specs.Nodes.{address_at, board_of, names, node_at}
use Rattle.tcertify.specs.Running.{State, changed}
use Rattle.tcertify.specs.Sides.{side_of}
use Rattle.tcertify.specs.Words.{with_words}
use Rattle.tcertify.proofs.BoardChanges.{half_put, here, link_put}
use Rattle.tcertify.proofs.Found.{find_apart, find_else, find_none, find_push, find_pushed}
use Rattle.tcertify.proofs.NodeWords.{board_from}
use Rattle.tcertify.proofs.Places.{set_elsewhere, set_here}

-- the address of the channel of a number
pub address_in : (cs : List Channel) (k : ℕ) (c : Channel) → slice_get cs k ≡ Some c
    → unwrap_or (slice_get (map (λ d. d.address) cs) k) 0 ≡ c.address
address_in cs k c there =
    ap (λ (o : Option ℕ). unwrap_or o 0) (slice_get-map address_of cs k ∙ ap (option_map address_of) there)

pub address_is : (a : Node) (k : ℕ) (c : Channel) → slice_get a.channels.items.items k ≡ Some c
    → address_at a k ≡ c.address
address_is a k c there = address_in a.channels.items.items k c there

-- it is found by its address
pub channel_found : (cs : List Channel) (k : ℕ) (c : Channel) → AreApart address_of cs → slice_get cs k ≡ Some c
    → find (λ d. d.address == c.address) cs ≡ Some c
channel_found cs k c apart there =
    find_apart address_of (λ d. d.address == c.address) cs k c apart there (eq-eqb c.address c.address refl)
    (λ d h. eqb-true d.address c.address h)

-- a half of a channel by its side
half_at : (ns : List Name) (cs : List Channel) (address : ℕ) (side : Side)
    → half_among ns cs address (side_of side) ≡ held_half ns side (find (λ d. d.address == address) cs)
half_at ns cs address Input = refl
half_at ns cs address Output = refl

-- what is seen of it
pub half_seen : (a : Node) (k : ℕ) (c : Channel) (side : Side) → slice_get a.channels.items.items k ≡ Some c
    → (rest : State) → node_at a rest (place.Half a.words.number c.address (side_of side))
    ≡ IsHalf (holder_of (names a) (half_of side c).holder)
half_seen a k c side there rest =
    here a.words.number (IsHalf (half_among (names a) a.channels.items.items c.address (side_of side)))
    (rest (place.Half a.words.number c.address (side_of side)))
    ∙ ap IsHalf (half_at (names a) a.channels.items.items c.address side
    ∙ ap (held_half (names a) side) (channel_found a.channels.items.items k c a.channels.apart there))

-- sides that are others
sides_apart : (s t : Side) (r : Holder) (c : Channel) → same_side (side_of s) (side_of t) ≡ false
    → (half_of t (with_holder s r c)).holder ≡ (half_of t c).holder
sides_apart Input Input r c e = cc
sides_apart Input Output r c e = refl
sides_apart Output Input r c e = refl
sides_apart Output Output r c e = cc

set_side : (s : Side) (r : Holder) (c : Channel) → (half_of s (with_holder s r c)).holder ≡ r
set_side Input r c = refl
set_side Output r c = refl

pub same_address : (s : Side) (r : Holder) (c : Channel) → (with_holder s r c).address ≡ c.address
same_address Input r c = refl
same_address Output r c = refl

pub same_places : (s : Side) (r : Holder) (c : Channel)
    → ◌≡◌ {A = ℕ × ℕ × ℕ} (
      (with_holder s r c).address,
      (with_holder s r c).input.place,
      (with_holder s r
          c).output.place,
    )
    (c.address, c.input.place, c.output.place)
same_places Input r c = refl
same_places Output r c = refl

pub same_half_place : (s t : Side) (r : Holder) (c : Channel)
    → (half_of t (with_holder s r c)).place ≡ (half_of t c).place
same_half_place Input Input r c = refl
same_half_place Input Output r c = refl
same_half_place Output Input r c = refl
same_half_place Output Output r c = refl

-- each side of the definitions is one of the code's
by_sides : (P : machine.Side → Type 0) → ((t : Side) → P (side_of t)) → (t : machine.Side) → P t
by_sides P h machines.Input = h Input
by_sides P h machines.Output = h Output

-- somebody has a half, or nobody
module _ (a : Node) (ds : List Channel) (k : ℕ) (c : Channel) (side : Side) (r : Holder)
    (there : slice_get a.channels.items.items k ≡ Some c)
    (set : ds ≡ slice_set a.channels.items.items k (with_holder side r c)) (apart : AreApart address_of ds) where
  pub channel_now : slice_get ds k ≡ Some (with_holder side r c)
  channel_now =
      ap (λ (es : List Channel). slice_get es k) set
      ∙ set_here a.channels.items.items k (with_holder side r c) c there

  found_now : find (λ d. d.address == c.address) ds ≡ Some (with_holder side r c)
  found_now =
      ap (λ (w : ℕ). find (λ d. d.address == w) ds) (sym (same_address side r c))
      ∙ channel_found ds k (with_holder side r c) apart channel_now

  found_else : (w : ℕ) → (c.address == w) ≡ false
      → find (λ d. d.address == w) ds ≡ find (λ d. d.address == w) a.channels.items.items
  found_else w e =
      ap (λ (es : List Channel). find (λ d. d.address == w) es) set
      ∙ find_else (λ d. d.address == w) a.channels.items.items k c (with_holder side r c) there e
      (ap (λ (v : ℕ). v == w) (same_address side r c) ∙ e)

  half_now : half_among (names a) ds c.address (side_of side) ≡ holder_of (names a) r
  half_now =
      half_at (names a) ds c.address side ∙ ap (held_half (names a) side) found_now
      ∙ ap (holder_of (names a)) (set_side side r c)

  half_else : (w : ℕ) (t : Side) → ((c.address == w) && same_side (side_of side) (side_of t)) ≡ false
      → half_among (names a) ds w (side_of t) ≡ half_among (names a) a.channels.items.items w (side_of t)
  half_else w t e = by (c.address == w) refl
    where
      by : (b : Bool) → (c.address == w) ≡ b
          → half_among (names a) ds w (side_of t) ≡ half_among (names a) a.channels.items.items w (side_of t)
      by true h =
          let at = eqb-true c.address w h in
          half_at (names a) ds w t
          ∙ ap (λ (v : ℕ). held_half (names a) t (find (λ d. d.address == v) ds)) (sym at)
          ∙ ap (held_half (names a) t) found_now
          ∙ ap (holder_of (names a)) (sides_apart side t r c
          (sym (ap (λ (u : Bool). u && same_side (side_of side) (side_of t)) h) ∙ e))
          ∙ ap (held_half (names a) t) (sym (channel_found a.channels.items.items k c a.channels.apart there))
          ∙ ap (λ (v : ℕ). held_half (names a) t (find (λ d. d.address == v) a.channels.items.items)) at
          ∙ sym (half_at (names a) a.channels.items.items w t)
      by false h =
          half_at (names a) ds w t ∙ ap (held_half (names a) t) (found_else w h)
          ∙ sym (half_at (names a) a.channels.items.items w t)

  pub half_state : (rest : State)
      → with_words a.words.number a.words.items.items (board_at (board_from a.words.number a.processes.items.items ds
      a.links a.lives.items.items a.error a.halt_on_error a.is_flag_changed a.has_run_high a.has_run_low a.population)
      rest)
      ≡ changed (place.Half a.words.number c.address (side_of side)) (Put (IsHalf (holder_of (names a) r)))
      (node_at a rest)
  half_state rest =
      half_put a.words.number a.words.items.items (board_of a) rest c.address (side_of side) (holder_of (names a) r)
      (half_among (names a) ds) half_now
      (λ w t. by_sides (λ u. ((c.address == w) && same_side (side_of side) u) ≡ false
      → half_among (names a) ds w u ≡ half_among (names a) a.channels.items.items w u) (half_else w) t)

-- nobody has a half of a channel that is added
module _ (a : Node) (c : Channel) (none : IsFound address_of c.address a.channels.items.items None)
    (input : c.input.holder ≡ holder.Nobody) (output : c.output.holder ≡ holder.Nobody) where
  not_found : (w : ℕ) → (c.address == w) ≡ true → find (λ d. d.address == w) a.channels.items.items ≡ None
  not_found w e =
      find_none (λ d. d.address == w) a.channels.items.items
      (λ k d at. test_fails (d.address) w (λ h. none k d at (h ∙ sym (eqb-true c.address w e))))
    where
      test_fails : (v w : ℕ) → (v ≡ w → ⊥) → (v == w) ≡ false
      test_fails v w ne = by (v == w) refl
        where
          by : (b : Bool) → (v == w) ≡ b → (v == w) ≡ false
          by true e = absurd (ne (eqb-true v w e))
          by false e = e

  free_half : (t : Side) → (half_of t c).holder ≡ holder.Nobody
  free_half Input = input
  free_half Output = output

  halves : (w : ℕ) (t : Side) (b : Bool) → (c.address == w) ≡ b
      → half_among (names a) (a.channels.items.items ++ c ∷ []) w (side_of t)
      ≡ half_among (names a) a.channels.items.items w (side_of t)
  halves w t true e =
      half_at (names a) (a.channels.items.items ++ c ∷ []) w t
      ∙ ap (held_half (names a) t) (find_pushed (λ d. d.address == w) a.channels.items.items c e (not_found w e))
      ∙ ap (holder_of (names a)) (free_half t) ∙ ap (held_half (names a) t) (sym (not_found w e))
      ∙ sym (half_at (names a) a.channels.items.items w t)
  halves w t false e =
      half_at (names a) (a.channels.items.items ++ c ∷ []) w t
      ∙ ap (held_half (names a) t) (find_push (λ d. d.address == w) a.channels.items.items c e)
      ∙ sym (half_at (names a) a.channels.items.items w t)

  same_halves : half_among (names a) (a.channels.items.items ++ c ∷ []) ≡ half_among (names a) a.channels.items.items
  same_halves = λ i w t.
      by_sides (λ u. half_among (names a) (a.channels.items.items ++ c ∷ []) w u
      ≡ half_among (names a) a.channels.items.items w u) (λ s. halves w s (c.address == w) refl) t i

  pub channel_state : (ds : List Channel) → ds ≡ a.channels.items.items ++ c ∷ [] → (rest : State)
      → with_words a.words.number a.words.items.items (board_at (board_from a.words.number a.processes.items.items ds
      a.links a.lives.items.items a.error a.halt_on_error a.is_flag_changed a.has_run_high a.has_run_low a.population)
      rest)
      ≡ node_at a rest
  channel_state ds e rest =
      ap (λ (es : List Channel). with_words a.words.number a.words.items.items (board_at (board_from a.words.number
      a.processes.items.items es a.links a.lives.items.items a.error a.halt_on_error a.is_flag_changed a.has_run_high
      a.has_run_low a.population) rest)) e
      ∙ ap (λ (f : ℕ → machine.Side → value.Holder). with_words a.words.number a.words.items.items (board_at
      (record (board_of a) { half = f }) rest)) same_halves

-- channels that are the same
pub channels_same : (a : Node) (ds : List Channel) → ds ≡ a.channels.items.items → (rest : State)
    → with_words a.words.number a.words.items.items (board_at (board_from a.words.number a.processes.items.items ds
    a.links a.lives.items.items a.error a.halt_on_error a.is_flag_changed a.has_run_high a.has_run_low a.population)
    rest)
    ≡ node_at a rest
channels_same a ds e rest =
    ap (λ (es : List Channel). with_words a.words.number a.words.items.items (board_at (board_from a.words.number
    a.processes.items.items es a.links a.lives.items.items a.error a.halt_on_error a.is_flag_changed a.has_run_high
    a.has_run_low a.population) rest)) e

-- a half of a link by its side
link_at : (ns : List Name) (l : Links) (k : ℕ) (side : Side)
    → link_among ns l k (side_of side) ≡ link_or_empty ns (slice_get (halves_of side l) k)
link_at ns l k Input = refl
link_at ns l k Output = refl

pub link_seen : (a : Node) (k : ℕ) (side : Side) (h : LinkHalf) → slice_get (halves_of side a.links) k ≡ Some h
    → (rest : State) → node_at a rest (place.LinkHalf (end_at a.words.number k) (side_of side))
    ≡ IsLink (link_of (names a) h)
link_seen a k side h there rest =
    here a.words.number (IsLink (link_among (names a) a.links k (side_of side)))
    (rest (place.LinkHalf (end_at a.words.number k) (side_of side)))
    ∙ ap IsLink (link_at (names a) a.links k side ∙ ap (link_or_empty (names a)) there)

-- what pends at a half of a link
halves_set : (old new : Links) (k : ℕ) (side : Side) (g h : LinkHalf) → slice_get (halves_of side old) k ≡ Some g
    → IsLinkSet old k side h new → slice_get (halves_of side new) k ≡ Some h
halves_set old new k Input g h there set =
    ap (λ (l : Links). slice_get l.inputs k) set ∙ set_here old.inputs k h g there
halves_set old new k Output g h there set =
    ap (λ (l : Links). slice_get l.outputs k) set ∙ set_here old.outputs k h g there

number_else : (j k : ℕ) (s : Bool) → ((j == k) && s) ≡ false → s ≡ true → j ≡ k → ⊥
number_else j k s e holds same = cc (e, holds, eq-eqb j k same)

halves_else : (old new : Links) (k : ℕ) (side : Side) (h : LinkHalf) → IsLinkSet old k side h new → (j : ℕ) (t : Side)
    → ((k == j) && same_side (side_of side) (side_of t)) ≡ false
    → slice_get (halves_of t new) j ≡ slice_get (halves_of t old) j
halves_else old new k Input h set j Input e =
    ap (λ (l : Links). slice_get l.inputs j) set
    ∙ set_elsewhere old.inputs k j h (number_else k j true e refl)
halves_else old new k Input h set j Output e = ap (λ (l : Links). slice_get l.outputs j) set
halves_else old new k Output h set j Input e = ap (λ (l : Links). slice_get l.inputs j) set
halves_else old new k Output h set j Output e =
    ap (λ (l : Links). slice_get l.outputs j) set
    ∙ set_elsewhere old.outputs k j h (number_else k j true e refl)

-- which outputs are unfinished stays
unfinished_still : (old new : Links) (k : ℕ) (side : Side) (h : LinkHalf) → IsLinkSet old k side h new
    → unfinished_among new ≡ unfinished_among old
unfinished_still old new k Input h set = ap unfinished_among set
unfinished_still old new k Output h set = ap unfinished_among set

pub link_state : (a : Node) (new : Links) (k : ℕ) (side : Side) (g h : LinkHalf)
    → slice_get (halves_of side a.links) k ≡ Some g → IsLinkSet a.links k side h new → (rest : State)
    → with_words a.words.number a.words.items.items (board_at (board_from a.words.number a.processes.items.items
    a.channels.items.items new a.lives.items.items a.error a.halt_on_error a.is_flag_changed a.has_run_high
    a.has_run_low a.population) rest)
    ≡ changed (place.LinkHalf (end_at a.words.number k) (side_of side)) (Put (IsLink (link_of (names a) h)))
    (node_at a rest)
link_state a new k side g h there set rest =
    ap (λ (f : ℕ → Bool). with_words a.words.number a.words.items.items (board_at (record (board_of a) {
      link = link_among (names a) new;
      unfinished = f;
    }) rest)) (unfinished_still a.links new k side h set)
    ∙ link_put a.words.number a.words.items.items (board_of a) rest k (side_of side) (link_of (names a) h)
    (link_among (names a) new)
    (link_at (names a) new k side ∙ ap (link_or_empty (names a)) (halves_set a.links new k side g h there set))
    (λ j t. by_sides (λ u. ((k == j) && same_side (side_of side) u) ≡ false
    → link_among (names a) new j u ≡ link_among (names a) a.links j u)
    (λ s e. link_at (names a) new j s ∙ ap (link_or_empty (names a)) (halves_else a.links new k side h set j s e)
    ∙ sym (link_at (names a) a.links j s)) t)
