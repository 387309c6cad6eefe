-- Where the processes of a node stand.
use Rattle.std.proofs.Common.{◌≡◌, ◌≤◌, ◌<◌, ℕ, refl, sym, ap, ◌∙◌, subst, true, false, List, [], ◌∷◌, Option, Some}
use Rattle.std.proofs.Common.{Result, Ok, Err, inl, inr, length, arith}
use Rattle.std.specs.Prelude.{map, slice_get, slice_set, unwrap_or, option_map}
use Rattle.std.proofs.lemmas.Option.{slice_get-map, slice_get_cases}
use Rattle.tprocesses.specs.Places.{Name, Image, Standing, same_name}
use Rattle.tprocesses.specs.Parts.{Reason, see}
use Rattle.tprocesses.specs.Values.{IsStand, Value, stand_in}
use Rattle.tprocesses.specs.Values as value
use Rattle.tprocesses.specs.Changes.{Put}
use Rattle.tprocesses.specs.Machine.{is_ready}
use Rattle.tcertify.specs.declared.channel.Channel.{Channel}
use Rattle.tcertify.specs.declared.channel.Links.{Links}
use Rattle.tcertify.specs.declared.lead.Lead.TheVariants as lead
use Rattle.tcertify.specs.declared.node.Node.{Node}
use Rattle.tcertify.specs.declared.process.Process.{Process}
use Rattle.tcertify.specs.declared.context.Context.{Context}
use Rattle.tcertify.specs.declared.standing.Stand.{Stand}
use Rattle.tcertify.specs.declared.standing.Stand.TheVariants as stand
use Rattle.tcertify.specs.Boards.{board_at}
use Rattle.tcertify.specs.Channels.{AreKnown, half_among, link_among}
use Rattle.tcertify.specs.Contexts.{context_of}
use Rattle.tcertify.specs.Finding.{AreApart}
use Rattle.tcertify.specs.Nodes.{HasLead, IsLed, NumbersNode, RunsAt, board_of, name_at, names, node_at}
use Rattle.tcertify.specs.Notes.{Numbering}
use Rattle.tcertify.specs.Processes.{name_of, ports_among, ports_or_none, stand_among, stand_or_absent}
use Rattle.tcertify.specs.Running.{State, changed}
use Rattle.tcertify.specs.Standing.{stand_of}
use Rattle.tcertify.specs.Steps.{IsRunning}
use Rattle.tcertify.specs.Words.{with_words}
use Rattle.tcertify.proofs.BoardChanges.{here, stand_put}
use Rattle.tcertify.proofs.Found.{find_apart, find_else, find_same, map_set}
use Rattle.tcertify.proofs.NodeWords.{board_from}
use Rattle.tcertify.proofs.Places.{set_here}
use Rattle.tcertify.proofs.Telling.{same_name-true, same_name-self}

-- the name of the process of a number
name_or_nobody : Option Name → Name
name_or_nobody o = unwrap_or o (record { node = 0; root = Image 0; path = [] })

pub name_is : (a : Node) (k : ℕ) (p : Process) → slice_get a.processes.items.items k ≡ Some p
    → name_at a k ≡ name_of a.words.number p
unfolding name_or_nobody
name_is a k p there =
    ap name_or_nobody (slice_get-map (name_of a.words.number) a.processes.items.items k
    ∙ ap (option_map (name_of a.words.number)) there)

-- a name is that of one process alone
same_key : (n : ℕ) (p q : Process) → same_name (name_of n q) (name_of n p) ≡ true → name_of 0 q ≡ name_of 0 p
same_key n p q h =
    ap (λ (x : Name). record x { node = 0 }) (same_name-true (name_of n q) (name_of n p) h)

-- where the process of a number stands
pub stand_found : (n : ℕ) (ps : List Process) (k : ℕ) (p : Process) → AreApart (name_of 0) ps
    → slice_get ps k ≡ Some p → stand_among n ps (name_of n p) ≡ stand_of p.stand
stand_found n ps k p apart there =
    ap stand_or_absent (find_apart (name_of 0) (λ q. same_name (name_of n q) (name_of n p)) ps k p apart there
    (same_name-self (name_of n p)) (λ q h. same_key n p q h))

-- a process stands elsewhere
module _ (a : Node) (qs : List Process) (k : ℕ) (p : Process) (s : Stand)
    (there : slice_get a.processes.items.items k ≡ Some p)
    (set : qs ≡ slice_set a.processes.items.items k (record p { stand = s })) (apart : AreApart (name_of 0) qs) where
  pub there_now : slice_get qs k ≡ Some (record p { stand = s })
  there_now =
      ap (λ (rs : List Process). slice_get rs k) set
      ∙ set_here a.processes.items.items k (record p { stand = s }) p there

  stand_now : stand_among a.words.number qs (name_of a.words.number p) ≡ stand_of s
  stand_now = stand_found a.words.number qs k (record p { stand = s }) apart there_now

  stand_else : (z : Name) → same_name (name_of a.words.number p) z ≡ false
      → stand_among a.words.number qs z ≡ stand_among a.words.number a.processes.items.items z
  stand_else z e =
      ap (λ (rs : List Process). stand_among a.words.number rs z) set
      ∙ ap stand_or_absent (find_else (λ q. same_name (name_of a.words.number q) z) a.processes.items.items k p
      (record p { stand = s }) there e e)

  same_names : map (name_of a.words.number) qs ≡ names a
  same_names =
      ap (λ (rs : List Process). map (name_of a.words.number) rs) set
      ∙ map_set (name_of a.words.number) a.processes.items.items k p (record p { stand = s }) there refl

  same_ports : ports_among a.words.number qs ≡ ports_among a.words.number a.processes.items.items
  same_ports = λ i z.
      (ap (λ (rs : List Process). ports_among a.words.number rs z) set
      ∙ find_same (λ q. same_name (name_of a.words.number q) z) ports_or_none a.processes.items.items k p
      (record p { stand = s }) there refl refl) i

  -- the state then
  pub stand_state : (rest : State)
      → with_words a.words.number a.words.items.items (board_at (board_from a.words.number qs a.channels.items.items
      a.links a.lives.items.items a.error a.halt_on_error a.is_flag_changed a.has_run_high a.has_run_low a.population)
      rest)
      ≡ changed (Standing (name_of a.words.number p)) (Put (IsStand (stand_of s))) (node_at a rest)
  stand_state rest =
      ap (λ (ns : List Name). with_words a.words.number a.words.items.items (board_at (record (board_of a) {
        stand = stand_among a.words.number qs;
        ports = ports_among a.words.number qs;
        half = half_among ns a.channels.items.items;
        link = link_among ns a.links;
      }) rest)) same_names
      ∙ ap (λ (f : Name → List ℕ). with_words a.words.number a.words.items.items (board_at (record (board_of a) {
        stand = stand_among a.words.number qs;
        ports = f;
      }) rest)) same_ports
      ∙ stand_put a.words.number a.words.items.items (board_of a) rest (name_of a.words.number p) (stand_of s)
      (stand_among a.words.number qs) refl stand_now stand_else

-- whoever waits is known still
pub known_still : (m n : ℕ) (cs : List Channel) (l : Links) → n ≡ m → AreKnown m cs l → AreKnown n cs l
known_still m n cs l e h = subst (λ (k : ℕ). AreKnown k cs l) (sym e) h

-- what is seen of where a process stands
pub stand_seen : (a : Node) (k : ℕ) (p : Process) → slice_get a.processes.items.items k ≡ Some p → (rest : State)
    → node_at a rest (Standing (name_at a k)) ≡ IsStand (stand_of p.stand)
stand_seen a k p there rest =
    ap (λ (x : Name). node_at a rest (Standing x)) (name_is a k p there)
    ∙ here a.words.number (IsStand (stand_among a.words.number a.processes.items.items (name_of a.words.number p)))
    (rest (Standing (name_of a.words.number p)))
    ∙ ap IsStand (stand_found a.words.number a.processes.items.items k p a.processes.apart there)

-- a process of which this is where it stands runs
pub running_there : (a : Node) (k : ℕ) (p : Process) (c : Context) → slice_get a.processes.items.items k ≡ Some p
    → IsRunning a k c → p.stand ≡ stand.Runs c
running_there a k p c there h =
    let e : Some p.stand ≡ Some (stand.Runs c) = ap (option_map (λ (q : Process). q.stand)) (sym there) ∙ h in cc

-- a process that does not run is never seen to run
module _ (a b : Node) (k : ℕ) (c : Context) (still : (d : Context) → IsRunning a k d → ⊥)
    (seen : RunsAt (see (Standing (name_at a k))) a (Ok (IsStand (value.Runs (context_of c)))) b) where
  stands_else : (p : Process) (s : Stand) → slice_get a.processes.items.items k ≡ Some p → p.stand ≡ s
      → value.Runs (context_of c) ≡ stand_of s → ⊥
  stands_else p stand.Absent there e is = cc
  stands_else p (stand.Rests d) there e is = cc
  stands_else p (stand.Runs d) there e is =
      still d (ap (option_map (λ (q : Process). q.stand)) there ∙ ap Some e)
  stands_else p (stand.Waits d) there e is = cc
  stands_else p (stand.Chooses d) there e is = cc
  stands_else p (stand.Chosen d) there e is = cc
  stands_else p (stand.Listens n d) there e is = cc
  stands_else p stand.Ended there e is = cc

  value_or : Result Value Reason → Value
  value_or (Ok v) = v
  value_or (Err why) = IsStand value.Absent

  never_found : (p : Process) → slice_get a.processes.items.items k ≡ Some p → ⊥
  unfolding value_or
  never_found p there =
      let rest : State = (λ q. IsStand value.Absent) in
      let run : node_at a rest (Standing (name_at a k)) ≡ IsStand (value.Runs (context_of c)) =
      ap (λ (r : Result Value Reason × State). value_or r.0) (seen.runs rest) in
      stands_else p p.stand there refl (ap stand_in (sym run ∙ stand_seen a k p there rest))

  pub never_runs : k < length a.processes.items.items → ⊥
  never_runs low =
      elim (slice_get_cases a.processes.items.items k).1 [
        | inl found ↦ never_found found.0 found.2
        | inr past ↦ omega (arith, past.0)
      ]

-- the number of its place
pub stand_number : (a : Node) (k : ℕ) (p : Process) → slice_get a.processes.items.items k ≡ Some p
    → (numbering : Numbering) → NumbersNode numbering a → numbering (Standing (name_at a k)) ≡ p.place
stand_number a k p there numbering n =
    ap (λ (x : Name). numbering (Standing x)) (name_is a k p there) ∙ n.stand k p there

-- a process that was seen not to be ready
pub stand_leads : (m b : Node) (k : ℕ) (p : Process) → HasLead m (lead.Process k) b
    → slice_get m.processes.items.items k ≡ Some p → is_ready (stand_of p.stand) ≡ false
    → IsLed b (record { place = Standing (name_at m k); value = IsStand (stand_of p.stand) } ∷ []) [] (lead.Process k)
stand_leads m b k p told there shut = (
  name_at m k,
  ap (λ (n : Node). slice_get (names n) k) told.same
      ∙ slice_get-map (name_of m.words.number) m.processes.items.items k
      ∙ ap (option_map (name_of m.words.number)) there ∙ ap Some (sym (name_is m k p there)),
  record {
    value = IsStand (stand_of p.stand);
    there = (0, omega arith, refl);
    shut = shut;
  },
)

-- the same holds where more may have come
pub known_more : (m n : ℕ) (cs : List Channel) (l : Links) → m ≤ n → AreKnown m cs l → AreKnown n cs l
known_more m n cs l up h =
    record {
      at_channels = λ i c side at k e. let low = h.at_channels i c side at k e in omega (arith, up, low);
      at_links = λ k side r at. let low = h.at_links k side r at in omega (arith, up, low);
    }
