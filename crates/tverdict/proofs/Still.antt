-- Steps of a process that goes on, which touch nothing new and lead to nobody.
use Rattle.std.proofs.Common.{◌≡◌, ◌<◌, ◌+◌, ◌∙◌, ℕ, zero, suc, inr, refl, sym, ap, subst, arith, List, []}
use Rattle.std.proofs.Common.{◌∷◌, Option, Some, None, Result, Ok, drop, false, get_or, length, map, true}
use Rattle.std.specs.Prelude.{option_map, slice_get, slice_set}
use Rattle.std.proofs.Math.Seq.{drop-length}
use Rattle.std.proofs.lemmas.Bool.{false≢true}
use Rattle.std.proofs.lemmas.List.{set-get_or, set-set}
use Rattle.std.proofs.lemmas.Option.{get_or_from_slice_get, same_Some, slice_get-map}
use Rattle.std.specs.Vec.{with_item}
use Rattle.tplan.specs.declared.plan.Plan.{Plan}
use Rattle.tclocks.specs.Checks.{Check, begun, begun_times, with_cleared, with_joined}
use Rattle.tclocks.specs.Clocks.{joined}
use Rattle.tclocks.specs.Followed.{IsStep}
use Rattle.tprocesses.specs.Machine.{is_ready}
use Rattle.tcertify.specs.declared.fault.Fault.{Fault}
use Rattle.tcertify.specs.declared.node.Node.{Node}
use Rattle.tcertify.specs.declared.notes.Note.{Note}
use Rattle.tcertify.specs.declared.process.Process.{Process}
use Rattle.tcertify.specs.declared.standing.Stand.{Stand}
use Rattle.tcertify.specs.declared.standing.Stand.TheVariants as stand
use Rattle.tcertify.specs.Nodes.{name_at, node_site}
use Rattle.tcertify.specs.Standing.{stand_of}
use Rattle.tcertify.specs.Steps.{step_of_process}
use Rattle.tcertify.proofs.Places.{set_here}
use Rattle.tfollow.specs.Sites.{is_listening}
use Rattle.tfollow.specs.Telling.{told_of}
use Rattle.tverdict.specs.declared.agent.Agent.{Agent}
use Rattle.tverdict.specs.declared.agent.Agent.TheVariants as agent
use Rattle.tverdict.specs.declared.lodging.Lodging.{Lodging}
use Rattle.tverdict.specs.declared.machine.LastStep.{LastStep}
use Rattle.tverdict.specs.declared.machine.Machine.{Machine}
use Rattle.tverdict.specs.Agents.{HasChannel, HasProcess, agent_of}
use Rattle.tverdict.specs.Calls.{DoesAfresh}
use Rattle.tverdict.specs.Listening.{ListensNowhere}
use Rattle.tverdict.specs.Lodging.{HasEnded, HasHomes, LodgesAt}
use Rattle.tverdict.specs.Machines.{AreFound, Follows, HasStep, IsLast}
use Rattle.tverdict.specs.Stepping.{Closes, HasTold, IsDone, IsOutcome, IsUntold}
use Rattle.tverdict.specs.Still.{AreStill, EndsWith, GoesOnAt, IsStill, goes_on, still_checked}
use Rattle.tverdict.proofs.Berths.{only_one}
use Rattle.tverdict.proofs.Called.{process_done}
use Rattle.tverdict.proofs.Opens.{process_open}
use Rattle.tverdict.proofs.Over.{follows_on, told_at}

-- a process that goes on has a step, does not listen, and has not ended
ready_so : (s : Stand) → goes_on s ≡ true → is_ready (stand_of s) ≡ true
ready_so (stand.Runs c) e = refl
ready_so (stand.Rests c) e = refl
ready_so _ e = absurd (false≢true e)

alone_so : (s : Stand) → goes_on s ≡ true → is_listening (stand_of s) ≡ false
alone_so (stand.Listens channel c) e = absurd (false≢true e)
alone_so _ e = refl

lives_so : (s : Stand) → goes_on s ≡ true → s ≡ stand.Ended → ⊥
lives_so s e ended = false≢true (sym (ap goes_on ended) ∙ e)

-- its step is that of an agent
module _ (plan : Plan) (m : Machine) (number n k : ℕ) (f : Follows plan m)
    (named : slice_get m.agents.items number ≡ Some (agent.Process n k)) (old : Node)
    (there : slice_get m.nodes.items n ≡ Some old) (before : GoesOnAt old k) where
  pub goes_steps : HasStep plan m number
  goes_steps =
      record {
        agent = agent_of m.nodes.items (agent.Process n k);
        numbered = slice_get-map (agent_of m.nodes.items) m.agents.items number
            ∙ ap (option_map (agent_of m.nodes.items)) named;
        opened = process_open plan m.nodes.items m.sent.items m.sinks.items n old there
            ((f.1).sound.nodes.numbers n old there) k before.known before.has
            ∙ ready_so before.known.stand before.goes;
      }

  goes_alone : ListensNowhere m.nodes.items n k
  goes_alone node known at has =
      let same : old ≡ node = same_Some old node (sym there ∙ at) in
      let kept : before.known ≡ known =
      same_Some before.known known
      (sym before.has ∙ ap (λ (x : Node). slice_get x.processes.items.items k) same ∙ has) in
      ap (λ (p : Process). is_listening (stand_of p.stand)) (sym kept) ∙ alone_so before.known.stand before.goes

  -- so it is done where a call has done it
  pub goes_done : IsLast m number n → (m' : Machine) (new : Node) (result : Result (Unit {0}) Fault)
      (processes channels : ℕ) → processes ≡ length old.processes.items.items
      → channels ≡ length old.channels.items.items → m'.nodes.items ≡ slice_set m.nodes.items n new
      → m' ≡ record m { nodes = m'.nodes; idle = m'.idle }
      → DoesAfresh true (step_of_process (node_site old) (name_at old k)) old result new
      → IsOutcome plan number n processes channels result m'
  goes_done last m' new result processes channels p q set same does =
      process_done plan m m' number n k f goes_steps old new
      (sym (get_or_from_slice_get m.nodes.items n old old there)) result processes channels p q set same true
      (λ on. last) goes_alone named does

-- one still step
module _ (plan : Plan) (m : Machine) (number n k : ℕ) (f : Follows plan m) (last : IsLast m number n)
    (named : slice_get m.agents.items number ≡ Some (agent.Process n k)) (old new : Node)
    (there : slice_get m.nodes.items n ≡ Some old) (still : IsStill k old new) where
  -- the machine behind the call, where the step is told, and where it is over
  abbrev called : Machine
  called = record m { nodes = with_item m.nodes n new }

  abbrev told : Machine
  told = record called { check = with_joined number number (begun number m.check) }

  abbrev over : Machine
  over = record told { check = with_cleared number told.check; done = m.done + 1 }

  done_it : IsDone plan number n (length old.processes.items.items) (length old.channels.items.items) called
  done_it =
      goes_done plan m number n k f named old there still.before last called new (Ok tt)
      (length old.processes.items.items) (length old.channels.items.items) refl refl refl refl still.does

  abbrev untold : IsUntold plan number n called
  untold = done_it.untold

  new_there : slice_get called.nodes.items n ≡ Some new
  new_there = set_here m.nodes.items n new old there

  it_is : untold.node ≡ new
  it_is = same_Some untold.node new (sym untold.there ∙ new_there)

  at_here : (j : ℕ) (x : Node) → j ≡ n → slice_get called.nodes.items j ≡ Some x → new ≡ x
  at_here j x same at =
      same_Some new x (sym new_there ∙ ap (λ (i : ℕ). slice_get called.nodes.items i) (sym same) ∙ at)

  nothing_new : drop untold.node.words.notes.earlier untold.node.words.notes.items.items ≡ []
  nothing_new =
      subst (λ (x : Node). drop x.words.notes.earlier x.words.notes.items.items ≡ []) (sym it_is)
      (ap (λ (i : ℕ). drop i new.words.notes.items.items) still.stays.earlier
      ∙ drop-length new.words.notes.items.items)

  told_it : HasTold plan number (n ∷ []) told
  told_it =
      told_at plan number n called untold told.check
      (subst (λ (ns : List Note). IsStep number (number ∷ []) (map told_of ns) m.check told.check)
      (sym nothing_new) refl)
      (subst (λ (x : Node). x.words.notes.is_lost ≡ false) (sym it_is) still.stays.kept)

  found_it : AreFound plan told.nodes.items told.agents.items
  found_it =
      record {
        processes = λ j i has.
            let low = λ (same : j ≡ n). process_low j i has same in done_it.found.processes j i has low low;
        channels = λ j i has.
            let low = λ (same : j ≡ n). channel_low j i has same in done_it.found.channels j i has low low;
        wires = done_it.found.wires;
      }
    where
      process_low : (j i : ℕ) → HasProcess called.nodes.items j i → j ≡ n → i < length old.processes.items.items
      process_low j i (x, at, low) same =
          subst (λ (l : ℕ). i < l)
          (ap (λ (y : Node). length y.processes.items.items) (sym (at_here j x same at)) ∙ still.stays.processes) low

      channel_low : (j i : ℕ) → HasChannel called.nodes.items j i → j ≡ n → i < length old.channels.items.items
      channel_low j i (x, at, low) same =
          subst (λ (l : ℕ). i < l)
          (ap (λ (y : Node). length y.channels.items.items) (sym (at_here j x same at)) ∙ still.stays.channels) low

  -- nobody comes or ends
  homes_it : (l : Lodging) → slice_get m.lodgings.items n ≡ Some l → l.is_crowded ≡ false → HasHomes new l
  homes_it l has free =
      let was : HasHomes old l = ((f.1).housed.housed n l has free).homes old there in
      record { had = still.stays.population ∙ was.had; known = still.stays.processes ∙ was.known }

  none_ended : (x : Node) (a : Agent) → new ≡ x → slice_get m.agents.items number ≡ Some a → (process : ℕ)
      → HasEnded x a process → ⊥
  none_ended x a it is process ended =
      let both : agent.Process n k ≡ agent.Process x.words.number process =
      same_Some (agent.Process n k) a (sym named ∙ is) ∙ ended.named in
      let one : k ≡ process = cc in
      let known : still.stays.goes.known ≡ ended.known =
      same_Some still.stays.goes.known ended.known
      (sym still.stays.goes.has ∙ ap (λ (y : Node). slice_get y.processes.items.items k) it
      ∙ ap (slice_get x.processes.items.items) one ∙ ended.there) in
      lives_so still.stays.goes.known.stand still.stays.goes.goes (ap (λ (p : Process). p.stand) known ∙ ended.ended)

  lodges_it : LodgesAt number (n ∷ []) told told
  lodges_it =
      record {
        same = refl;
        many = refl;
        others = λ j away. refl;
        here = λ j x a l among at is has.
            let one : n ≡ j = only_one n j among in
            let it : new ≡ x = at_here j x (sym one) at in (
              l,
              has,
              λ free. (
                free,
                inr (inr (
                  subst (λ (y : Node). HasHomes y l) it
                      (homes_it l (ap (λ (i : ℕ). slice_get m.lodgings.items i) one ∙ has) free),
                  none_ended x a it is,
                  refl,
                )),
              ),
            );
      }

  abbrev this : LastStep
  this = record { number = number; node = n }

  closes_it : Closes told number (Some this) over
  closes_it =
      record {
        check = refl;
        done = refl;
        same = ap (λ (o : Option LastStep). record over { last = o }) last;
      }

  pub still_over : Follows plan over
  still_over =
      follows_on plan number (n ∷ []) told told over lodges_it (Some this) closes_it
      (λ x is.
      let same : this ≡ x = same_Some this x is in
      (ap (λ (y : LastStep). y.number) same, ap (λ (y : LastStep). y.node ∷ []) same))
      told_it found_it

-- the same nodes, kept elsewhere
module _ (plan : Plan) (m m' : Machine) (nodes : m'.nodes.items ≡ m.nodes.items)
    (same : m' ≡ record m { nodes = m'.nodes; idle = m'.idle }) (f : Follows plan m) where
  abbrev kept_as : (xs : List Node) → m'.nodes.len ≡ length xs → Machine
  kept_as xs long = record m {
    nodes = record {
      ptr = m'.nodes.ptr;
      len = m'.nodes.len;
      cap = m'.nodes.cap;
      alloc = m'.nodes.alloc;
      items = xs;
      ok = (long, m'.nodes.ok.1);
      small = m'.nodes.small;
    };
    idle = m'.idle;
  }

  follows_kept : (long : m'.nodes.len ≡ length m.nodes.items) → Follows plan (kept_as m.nodes.items long)
  follows_kept long = (
    f.0,
    record {
      count = (f.1).count;
      sound = record {
        nodes = (f.1).sound.nodes;
        sent = (f.1).sound.sent;
        sinks = (f.1).sound.sinks;
        wires = (f.1).sound.wires;
        found = (f.1).sound.found;
        there = (f.1).sound.there;
        candidates = (f.1).sound.candidates;
        places = (f.1).sound.places;
        few = (f.1).sound.few;
        kept_places = (f.1).sound.kept_places;
      };
      group = (f.1).group;
      followed = (f.1).followed;
      housed = (f.1).housed;
      own = (f.1).own;
    },
  )

  pub follows_as : Follows plan m'
  follows_as =
      subst (Follows plan) (sym same)
      (subst (λ (xs : List Node). (long : m'.nodes.len ≡ length xs) → Follows plan (kept_as xs long)) (sym nodes)
      follows_kept m'.nodes.ok.0)

-- the machine behind so many still steps
abbrev pub behind : Machine → (number n count : ℕ) → Node → Machine
behind m number n count node = record m {
  nodes = with_item m.nodes n node;
  check = still_checked count number m.check;
  done = m.done + count;
}

-- still steps keep the numbers of processes and channels
pub still_processes : (count k : ℕ) (old new : Node) → AreStill count k old new
    → length new.processes.items.items ≡ length old.processes.items.items
still_processes zero k old new same = ap (λ (x : Node). length x.processes.items.items) same
still_processes (suc count) k old new (mid, first, last) = last.stays.processes ∙ still_processes count k old mid first

pub still_channels : (count k : ℕ) (old new : Node) → AreStill count k old new
    → length new.channels.items.items ≡ length old.channels.items.items
still_channels zero k old new same = ap (λ (x : Node). length x.channels.items.items) same
still_channels (suc count) k old new (mid, first, last) = last.stays.channels ∙ still_channels count k old mid first

-- so many still steps
module _ (plan : Plan) (m : Machine) (number n k : ℕ) (f : Follows plan m) (last : IsLast m number n)
    (named : slice_get m.agents.items number ≡ Some (agent.Process n k)) (old : Node)
    (there : slice_get m.nodes.items n ≡ Some old) where
  -- none
  none_over : (new : Node) → new ≡ old → Follows plan (behind m number n 0 new)
  none_over new is =
      follows_as plan m (behind m number n 0 new)
      (ap (slice_set m.nodes.items n) (is ∙ sym (get_or_from_slice_get m.nodes.items n old old there))
      ∙ set-get_or m.nodes.items n old)
      (ap (λ (d : ℕ). record m { nodes = with_item m.nodes n new; done = d }) plus_none) f
    where
      plus_none : m.done + 0 ≡ m.done
      plus_none = omega arith

  -- one more
  more_over : (count : ℕ) (mid new : Node) → Follows plan (behind m number n count mid) → IsStill k mid new
      → Follows plan (behind m number n (suc count) new)
  more_over count mid new before still =
      follows_as plan
      (over plan (behind m number n count mid) number n k before last named mid new
      (set_here m.nodes.items n mid old there) still)
      (behind m number n (suc count) new) (sym (set-set m.nodes.items n mid new))
      (ap (λ (d : ℕ). record m {
        nodes = with_item m.nodes n new;
        check = still_checked (suc count) number m.check;
        done = d;
      }) plus_one)
      (still_over plan (behind m number n count mid) number n k before last named mid new
      (set_here m.nodes.items n mid old there) still)
    where
      plus_one : m.done + suc count ≡ m.done + count + 1
      plus_one = omega arith

  pub all_over : (count : ℕ) (new : Node) → AreStill count k old new → Follows plan (behind m number n count new)
  all_over zero new is = none_over new is
  all_over (suc count) new (mid, first, still) = more_over count mid new (all_over count mid first) still

-- as the code has it: a process that made the last step has made so many still steps, and one more may have come
pub record HasGoneOn (m : Machine) (number n k count : ℕ) (result : Option (Result (Unit {0}) Fault))
    (processes channels : ℕ) (m' : Machine) : Type 0 where
  pub last : IsLast m number n
  pub named : slice_get m.agents.items number ≡ Some (agent.Process n k)
  pub old : Node
  pub there : slice_get m.nodes.items n ≡ Some old
  pub many_processes : processes ≡ length old.processes.items.items
  pub many_channels : channels ≡ length old.channels.items.items
  pub mid : Node
  pub new : Node
  pub stills : AreStill count k old mid
  pub ends : EndsWith k result mid new
  pub set : m'.nodes.items ≡ slice_set m.nodes.items n new
  pub check : m'.check ≡ still_checked count number m.check
  pub done : m'.done ≡ m.done + count
  pub same : m' ≡ record m { nodes = m'.nodes; idle = m'.idle; check = m'.check; done = m'.done }

module _ (plan : Plan) (m m' : Machine) (number n k count : ℕ) (f : Follows plan m) (processes channels : ℕ) where
  -- the machine between
  module _ (o : Option (Result (Unit {0}) Fault)) (gone : HasGoneOn m number n k count o processes channels m') where
    abbrev between : Machine
    between = behind m number n count gone.mid

    same_between : m' ≡ record between { nodes = m'.nodes; idle = m'.idle }
    same_between =
        gone.same
        ∙ ap (λ (c : Check). record m { nodes = m'.nodes; idle = m'.idle; check = c; done = m'.done }) gone.check
        ∙ ap (λ (d : ℕ). record m { nodes = m'.nodes; idle = m'.idle; check = between.check; done = d }) gone.done

    between_over : Follows plan between
    between_over = all_over plan m number n k f gone.last gone.named gone.old gone.there count gone.mid gone.stills

    gone_still : gone.new ≡ gone.mid → Follows plan m'
    gone_still is =
        follows_as plan between m' (gone.set ∙ ap (slice_set m.nodes.items n) is) same_between between_over

    gone_done : (result : Result (Unit {0}) Fault) → GoesOnAt gone.mid k
        → DoesAfresh true (step_of_process (node_site gone.mid) (name_at gone.mid k)) gone.mid result gone.new
        → IsOutcome plan number n processes channels result m'
    gone_done result goes does =
        goes_done plan between number n k between_over gone.named gone.mid
        (set_here m.nodes.items n gone.mid gone.old gone.there) goes gone.last m' gone.new result processes channels
        (gone.many_processes ∙ sym (still_processes count k gone.old gone.mid gone.stills))
        (gone.many_channels ∙ sym (still_channels count k gone.old gone.mid gone.stills))
        (gone.set ∙ sym (set-set m.nodes.items n gone.mid gone.new)) same_between does

  -- no other step has come
  pub gone_none : (o : Option (Result (Unit {0}) Fault)) → o ≡ None
      → HasGoneOn m number n k count o processes channels m' → Follows plan m'
  gone_none o is gone =
      let none : HasGoneOn m number n k count None processes channels m' =
      subst (λ (x : Option (Result (Unit {0}) Fault)). HasGoneOn m number n k count x processes channels m') is gone in
      gone_still None none none.ends

  -- or one has
  pub gone_some : (o : Option (Result (Unit {0}) Fault)) (result : Result (Unit {0}) Fault) → o ≡ Some result
      → HasGoneOn m number n k count o processes channels m' → IsOutcome plan number n processes channels result m'
  gone_some o result is gone =
      let some : HasGoneOn m number n k count (Some result) processes channels m' =
      subst (λ (x : Option (Result (Unit {0}) Fault)). HasGoneOn m number n k count x processes channels m') is gone in
      gone_done (Some result) some result some.ends.0 some.ends.1

-- behind a still step nothing is in the agent's slot, so the next one only begins
joined-nothing : (clock : List ℕ) → joined clock [] ≡ clock
joined-nothing [] = refl
joined-nothing (x ∷ xs) = refl

nothing_there : (slots : List (List ℕ)) (number : ℕ) → get_or (slice_set slots number []) number [] ≡ []
nothing_there [] number = refl
nothing_there (x ∷ xs) zero = refl
nothing_there (x ∷ xs) (suc number) = nothing_there xs number

-- a check in which nothing is in the slot of an agent
module _ (c : Check) (number : ℕ) where
  abbrev empty : Check
  empty = with_cleared number c

  pub begins_still : with_cleared number (with_joined number number (begun number empty)) ≡ begun number empty
  begins_still =
      let clocks = (begun number empty).clocks in
      ap (λ (x : List ℕ). record empty {
        clocks = slice_set clocks number (joined (get_or clocks number []) x);
        slots = slice_set empty.slots number [];
      }) (nothing_there c.slots number)
      ∙ ap (λ (x : List ℕ). record empty {
        clocks = slice_set clocks number x;
        slots = slice_set empty.slots number [];
      }) (joined-nothing (get_or clocks number []))
      ∙ ap (λ (x : List (List ℕ)). record empty { clocks = x; slots = slice_set empty.slots number [] })
      (set-get_or clocks number [])
      ∙ ap (λ (x : List (List ℕ)). record empty { clocks = clocks; slots = x }) (set-set c.slots number [] [])

-- behind the first of so many still steps the others only begin
pub still_begun : (count number : ℕ) (c : Check)
    → begun_times count number (still_checked 1 number c) ≡ still_checked (suc count) number c
still_begun zero number c = refl
still_begun (suc count) number c =
    ap (λ (x : Check). begun number x) (still_begun count number c)
    ∙ sym (begins_still (with_joined number number (begun number (still_checked count number c))) number)
