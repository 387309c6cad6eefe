-- Processes that come to a node.
use Rattle.std.proofs.Common.{◌≡◌, ◌<◌, ℕ, suc, refl, sym, ap, ◌∙◌, subst, Bool, true, false, List, [], ◌∷◌, ◌++◌}
use Rattle.std.proofs.Common.{Option, Some, None, Ok, length, arith, ◌⊎◌, inl, inr}
use Rattle.std.specs.Prelude.{All, Contains, ◌==◌, find, slice_get, unwrap_or, cond}
use Rattle.std.proofs.lemmas.List.{length-map, map-append}
use Rattle.std.proofs.lemmas.List.Elements.{All-cons}
use Rattle.std.proofs.lemmas.Option.{slice_get-get_or}
use Rattle.tproc.specs.declared.channels.Side as machine
use Rattle.tproc.specs.declared.channels.Side.TheVariants as machines
use Rattle.tprocesses.specs.Changes.{Put}
use Rattle.tprocesses.specs.Machine.{is_ready}
use Rattle.tprocesses.specs.Parts.{Doing, HasNoStep, require, ◌>>◌}
use Rattle.tprocesses.specs.Places.{Name, Image, Standing, same_name}
use Rattle.tprocesses.specs.Standing.{is_absent, stands}
use Rattle.tprocesses.specs.Values.{Absent, IsStand, Value, stand_in}
use Rattle.tprocesses.specs.Values as value
use Rattle.tcertify.specs.declared.channel.Channel.{Channel}
use Rattle.tcertify.specs.declared.channel.LinkHalf.{LinkHalf}
use Rattle.tcertify.specs.declared.channel.LinkHalf.TheVariants as half
use Rattle.tcertify.specs.declared.channel.Links.{Links}
use Rattle.tcertify.specs.declared.channel.Holder.{Holder}
use Rattle.tcertify.specs.declared.channel.Holder.TheVariants as holder
use Rattle.tcertify.specs.declared.channel.Request.{Request}
use Rattle.tcertify.specs.declared.lead.Lead.{Lead}
use Rattle.tcertify.specs.declared.lead.Lead.TheVariants as lead
use Rattle.tcertify.specs.declared.node.Node.{Node}
use Rattle.tcertify.specs.declared.notes.Mode.TheVariants.{Puts}
use Rattle.tcertify.specs.declared.process.Process.{Process}
use Rattle.tcertify.specs.declared.side.Side.{Side}
use Rattle.tcertify.specs.declared.side.Side.TheVariants.{Input, Output}
use Rattle.tcertify.specs.Boards.{board_at}
use Rattle.tcertify.specs.Channels.{AreKnown, half_among, half_of, halves_of, link_among, link_of, link_or_empty}
use Rattle.tcertify.specs.Channels.{IsKnownHalf, IsKnownHolder, held_half, holder_of, request_of}
use Rattle.tcertify.specs.Finding.{IsFound}
use Rattle.tcertify.specs.Nodes.{IsLed, NumbersNode, RunsAt, board_of, names, node_at}
use Rattle.tcertify.specs.Notes.{IsNoted, Keeps, Numbering, Tells}
use Rattle.tcertify.specs.Processes.{name_in, name_of, ports_among, ports_or_none, stand_among}
use Rattle.tcertify.specs.Processes.{stand_or_absent}
use Rattle.tcertify.specs.Running.{State, changed, run_part}
use Rattle.tcertify.specs.Seeing.{sights}
use Rattle.tcertify.specs.Standing.{stand_of}
use Rattle.tcertify.specs.Starts.{joins}
use Rattle.tcertify.specs.Walked.{Accessed, accesses, change_at, changes, look_at}
use Rattle.tcertify.specs.Words.{with_words}
use Rattle.tcertify.proofs.BoardChanges.{here, stand_put}
use Rattle.tcertify.proofs.Found.{find_none, find_push, find_pushed}
use Rattle.tcertify.proofs.Growing.{Stays, grows}
use Rattle.tcertify.proofs.Keeping.{get_before}
use Rattle.tcertify.proofs.NodeWords.{board_from}
use Rattle.tcertify.proofs.Telling.{same_name-true, same_name-self}

-- the names of those that were there before
name_or_nobody : Option Name → Name
name_or_nobody o = unwrap_or o (record { node = 0; root = Image 0; path = [] })

name_before : (ns : List Name) (x : Name) (k : ℕ) → k < length ns → name_in (ns ++ x ∷ []) k ≡ name_in ns k
unfolding name_or_nobody
name_before ns x k low =
    let at = slice_get-get_or ns k x low in
    ap name_or_nobody (get_before ns (x ∷ []) k _ at ∙ sym at)

-- holders of halves that were there
request_before : (ns : List Name) (x : Name) (r : Request) → r.process < length ns
    → request_of (ns ++ x ∷ []) r ≡ request_of ns r
request_before ns x r low =
    ap (λ (n : Name). record { process = n; buffer = r.buffer }) (name_before ns x r.process low)

holder_before : (ns : List Name) (x : Name) (h : Holder) → IsKnownHolder (length ns) h
    → holder_of (ns ++ x ∷ []) h ≡ holder_of ns h
holder_before ns x holder.Nobody low = refl
holder_before ns x (holder.Taken r) low = ap value.TakenBy (request_before ns x r (low r.process refl))
holder_before ns x (holder.Enabled k) low = ap value.EnabledBy (name_before ns x k (low k refl))
holder_before ns x (holder.Awaited k) low = ap value.AwaitedBy (name_before ns x k (low k refl))

link_before : (ns : List Name) (x : Name) (l : LinkHalf) → IsKnownHalf (length ns) l
    → link_of (ns ++ x ∷ []) l ≡ link_of ns l
link_before ns x half.Empty low = refl
link_before ns x (half.Offered r) low = ap value.Offered (request_before ns x r (low r.process refl))
link_before ns x (half.Enabled k) low = ap value.Enabled (name_before ns x k (low k refl))
link_before ns x (half.Awaited k) low = ap value.Awaited (name_before ns x k (low k refl))
link_before ns x (half.Fired k) low = ap value.Fired (name_before ns x k (low k refl))

-- one that is found is there
pub find_there : {X : Type 0} (test : X → Bool) (xs : List X) (x : X) → find test xs ≡ Some x
    → (k : ℕ) × (slice_get xs k ≡ Some x)
find_there test [] x e = cc
find_there test (y ∷ ys) x e = by (test y) refl (λ h. find_there test ys x h)
  where
    by : (b : Bool) → test y ≡ b → (find test ys ≡ Some x → (k : ℕ) × (slice_get ys k ≡ Some x))
        → (k : ℕ) × (slice_get (y ∷ ys) k ≡ Some x)
    by true h rest = (0, sym (ap (λ (c : Bool). cond c (Some y) (find test ys)) h) ∙ e)
    by false h rest =
        let (k, at) = rest (sym (ap (λ (c : Bool). cond c (Some y) (find test ys)) h) ∙ e) in (suc k, at)

module _ (ns : List Name) (x : Name) (cs : List Channel) (l : Links) (known : AreKnown (length ns) cs l) where
  held_before : (side : Side) (o : Option Channel)
      → ((c : Channel) → o ≡ Some c → (k : ℕ) × (slice_get cs k ≡ Some c))
      → held_half (ns ++ x ∷ []) side o ≡ held_half ns side o
  held_before side None there = refl
  held_before side (Some c) there =
      let (k, at) = there c refl in
      holder_before ns x (half_of side c).holder (known.at_channels k c side at)

  halves_before : half_among (ns ++ x ∷ []) cs ≡ half_among ns cs
  halves_before = λ i a side. at a side i
    where
      at : (a : ℕ) (side : machine.Side) → half_among (ns ++ x ∷ []) cs a side ≡ half_among ns cs a side
      at a machines.Input =
          held_before Input (find (λ c. c.address == a) cs) (λ c e. find_there (λ d. d.address == a) cs c e)
      at a machines.Output =
          held_before Output (find (λ c. c.address == a) cs) (λ c e. find_there (λ d. d.address == a) cs c e)

  pending_before : (side : Side) (k : ℕ) (o : Option LinkHalf) → slice_get (halves_of side l) k ≡ o
      → link_or_empty (ns ++ x ∷ []) o ≡ link_or_empty ns o
  pending_before side k None at = refl
  pending_before side k (Some h) at =
      link_before ns x h (known.at_links k side h at)

  links_before : link_among (ns ++ x ∷ []) l ≡ link_among ns l
  links_before = λ i k side. at k side i
    where
      at : (k : ℕ) (side : machine.Side) → link_among (ns ++ x ∷ []) l k side ≡ link_among ns l k side
      at k machines.Input = pending_before Input k (slice_get l.inputs k) refl
      at k machines.Output = pending_before Output k (slice_get l.outputs k) refl

-- a process that comes, with no channel enabled
module _ (a : Node) (p : Process) (none : IsFound (name_of 0) (name_of 0 p) a.processes.items.items None)
    (free : p.ports.items ≡ []) where
  other_name : (k : ℕ) (q : Process) → slice_get a.processes.items.items k ≡ Some q
      → same_name (name_of a.words.number q) (name_of a.words.number p) ≡ false
  other_name k q at = by (same_name (name_of a.words.number q) (name_of a.words.number p)) refl
    where
      by : (b : Bool) → same_name (name_of a.words.number q) (name_of a.words.number p) ≡ b
          → same_name (name_of a.words.number q) (name_of a.words.number p) ≡ false
      by true e =
          absurd (none k q at (ap (λ (y : Name). record y { node = 0 })
          (same_name-true (name_of a.words.number q) (name_of a.words.number p) e)))
      by false e = e

  not_there : find (λ q. same_name (name_of a.words.number q) (name_of a.words.number p)) a.processes.items.items ≡ None
  not_there =
      find_none (λ q. same_name (name_of a.words.number q) (name_of a.words.number p)) a.processes.items.items
      other_name

  -- it was absent
  pub absent_seen : (rest : State) → node_at a rest (Standing (name_of a.words.number p)) ≡ IsStand Absent
  absent_seen rest =
      here a.words.number (IsStand (stand_among a.words.number a.processes.items.items (name_of a.words.number p)))
      (rest (Standing (name_of a.words.number p)))
      ∙ ap (λ (o : Option Process). IsStand (stand_or_absent o)) not_there

  stand_now : stand_among a.words.number (a.processes.items.items ++ p ∷ []) (name_of a.words.number p)
      ≡ stand_of p.stand
  stand_now =
      ap stand_or_absent (find_pushed (λ q. same_name (name_of a.words.number q) (name_of a.words.number p))
      a.processes.items.items p (same_name-self (name_of a.words.number p)) not_there)

  stand_else : (z : Name) → same_name (name_of a.words.number p) z ≡ false
      → stand_among a.words.number (a.processes.items.items ++ p ∷ []) z
      ≡ stand_among a.words.number a.processes.items.items z
  stand_else z e =
      ap stand_or_absent (find_push (λ q. same_name (name_of a.words.number q) z) a.processes.items.items p e)

  -- no channel of it is enabled, as before
  ports_by : (z : Name) (b : Bool) → same_name (name_of a.words.number p) z ≡ b
      → ports_among a.words.number (a.processes.items.items ++ p ∷ []) z
      ≡ ports_among a.words.number a.processes.items.items z
  ports_by z true e =
      let none_found = ap (λ (y : Name). find (λ q. same_name (name_of a.words.number q) y) a.processes.items.items)
      (sym (same_name-true (name_of a.words.number p) z e)) ∙ not_there in
      ap ports_or_none (find_pushed (λ q. same_name (name_of a.words.number q) z) a.processes.items.items p e
      none_found)
      ∙ free ∙ sym (ap ports_or_none none_found)
  ports_by z false e =
      ap ports_or_none (find_push (λ q. same_name (name_of a.words.number q) z) a.processes.items.items p e)

  same_ports : ports_among a.words.number (a.processes.items.items ++ p ∷ [])
      ≡ ports_among a.words.number a.processes.items.items
  same_ports = λ i z. ports_by z (same_name (name_of a.words.number p) z) refl i

  -- the state then
  pub joined_state : (qs : List Process) → qs ≡ a.processes.items.items ++ p ∷ [] → (rest : State)
      → with_words a.words.number a.words.items.items (board_at (board_from a.words.number qs a.channels.items.items
      a.links a.lives.items.items a.error a.halt_on_error a.is_flag_changed a.has_run_high a.has_run_low a.population)
      rest)
      ≡ changed (Standing (name_of a.words.number p)) (Put (IsStand (stand_of p.stand))) (node_at a rest)
  joined_state qs e rest =
      let counted = length-map a.processes.items.items (name_of a.words.number) in
      let known : AreKnown (length (names a)) a.channels.items.items a.links =
      subst (λ (n : ℕ). AreKnown n a.channels.items.items a.links) (sym counted) a.known in
      ap (λ (rs : List Process). with_words a.words.number a.words.items.items (board_at (board_from a.words.number rs
      a.channels.items.items a.links a.lives.items.items a.error a.halt_on_error a.is_flag_changed a.has_run_high
      a.has_run_low a.population) rest)) e
      ∙ ap (λ (ns : List Name). with_words a.words.number a.words.items.items (board_at (record (board_of a) {
        stand = stand_among a.words.number (a.processes.items.items ++ p ∷ []);
        ports = ports_among a.words.number (a.processes.items.items ++ p ∷ []);
        half = half_among ns a.channels.items.items;
        link = link_among ns a.links;
      }) rest))
      (map-append (name_of a.words.number) a.processes.items.items (p ∷ []))
      ∙ ap (λ (f : ℕ → machine.Side → value.Holder). with_words a.words.number a.words.items.items (board_at
      (record (board_of a) {
        stand = stand_among a.words.number (a.processes.items.items ++ p ∷ []);
        ports = ports_among a.words.number (a.processes.items.items ++ p ∷ []);
        half = f;
        link = link_among (names a ++ name_of a.words.number p ∷ []) a.links;
      }) rest))
      (halves_before (names a) (name_of a.words.number p) a.channels.items.items a.links known)
      ∙ ap (λ (f : ℕ → machine.Side → value.Link). with_words a.words.number a.words.items.items (board_at (record
      (board_of a) {
        stand = stand_among a.words.number (a.processes.items.items ++ p ∷ []);
        ports = ports_among a.words.number (a.processes.items.items ++ p ∷ []);
        link = f;
      }) rest))
      (links_before (names a) (name_of a.words.number p) a.channels.items.items a.links known)
      ∙ ap (λ (f : Name → List ℕ). with_words a.words.number a.words.items.items (board_at (record (board_of a) {
        stand = stand_among a.words.number (a.processes.items.items ++ p ∷ []);
        ports = f;
      }) rest)) same_ports
      ∙ stand_put a.words.number a.words.items.items (board_of a) rest (name_of a.words.number p) (stand_of p.stand)
      (stand_among a.words.number (a.processes.items.items ++ p ∷ [])) refl stand_now stand_else

-- it comes: a look that finds it absent, and a change
module _ (a b : Node) (x : Name) (s : value.Stand) (j k : ℕ) (stays : Stays a b)
    (state : (rest : State) → node_at b rest ≡ changed (Standing x) (Put (IsStand s)) (node_at a rest))
    (seen : (rest : State) → node_at a rest (Standing x) ≡ IsStand Absent)
    (keeps : Keeps a.words.notes b.words.notes) (tells : Tells b.words.notes k Puts)
    (at : (numbering : Numbering) → NumbersNode numbering b → numbering (Standing x) ≡ k)
    (named : slice_get (names b) j ≡ Some x)
    (leads : (l : Lead) → Contains b.leads.items l → Contains a.leads.items l ⊎ (lead.Process j ≡ l)) where
  -- what follows the look
  abbrev join_on : Value → Doing
  join_on v = require (is_absent (stand_in v)) HasNoStep >> stands x s

  abbrev the_change : Accessed
  the_change = change_at (Standing x) (Put (IsStand s))

  two_accesses : (rest : State)
      → look_at (Standing x) ∷ the_change ∷ [] ≡ accesses (joins x s) (node_at a rest)
  two_accesses rest =
      sym (ap (λ (v : Value). look_at (Standing x) ∷ accesses (join_on v) (node_at a rest)) (seen rest))

  two_noted : (numbering : Numbering) → NumbersNode numbering b → b.words.notes.is_lost ≡ false
      → All (IsNoted numbering b.words.notes.items.items) (look_at (Standing x) ∷ the_change ∷ [])
  two_noted numbering n lost =
      All-cons (IsNoted numbering b.words.notes.items.items) (look_at (Standing x)) (the_change ∷ [])
      (tells.noted lost numbering (look_at (Standing x)) (at numbering n) refl)
      (All-cons (IsNoted numbering b.words.notes.items.items) the_change []
      (tells.noted lost numbering the_change (at numbering n) refl) (λ i d below. absurd (omega arith)))

  led_so : (rest : State)
      → IsLed b (sights (joins x s) (node_at a rest)) (changes (joins x s) (node_at a rest)) (lead.Process j)
  led_so rest = (
    x,
    named,
    record {
      value = node_at a rest (Standing x);
      there = (0, omega arith, refl);
      shut = ap (λ (v : Value). is_ready (stand_in v)) (seen rest);
    },
  )

  pub joins_at : RunsAt (joins x s) a (Ok tt) b
  joins_at =
      record {
        runs = λ rest. ap (λ (v : Value). run_part (join_on v) (node_at a rest)) (seen rest)
            ∙ ap (λ (t : State). (Ok tt, t)) (sym (state rest));
        grows = grows a b stays;
        keeps = keeps;
        noted = λ numbering n rest lost.
            subst (λ (xs : List Accessed). All (IsNoted numbering b.words.notes.items.items) xs) (two_accesses rest)
            (two_noted numbering n lost);
        led = λ l there. elim (leads l there) [
          | inl old ↦ inl old
          | inr e ↦ inr (λ rest. subst (λ (i : Lead). IsLed b (sights (joins x s) (node_at a rest))
              (changes (joins x s) (node_at a rest)) i) e (led_so rest))
        ];
      }
