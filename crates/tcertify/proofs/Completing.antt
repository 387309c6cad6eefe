-- The end of an instruction, and a step of a process.
use Rattle.std.proofs.Common.{◌≡◌, ◌<◌, ℕ, ◌∙◌, sym, subst, length, Bool, [], Result, Ok, Err}
use Rattle.std.specs.Prelude.{not, ◌||◌, ◌==◌, is_none, unwrap_or}
use Rattle.tword.specs.Words.{plus}
use Rattle.tcode.specs.declared.instruction.Instruction.{Instruction}
use Rattle.tprocesses.specs.Places.{Name, Standing}
use Rattle.tprocesses.specs.Values.{Context, IsStand, Stand, stand_in}
use Rattle.tprocesses.specs.Parts.{Reason, Part, Doing, SawTheScheduler, WordInUse, gives, require, see, ◌>>=◌, ◌>>◌}
use Rattle.tprocesses.specs.Performing.{Performed, perform}
use Rattle.tprocesses.specs.Uses.{Uses, has_needed, uses_of}
use Rattle.tcpu.specs.Outcomes.{Outcome}
use Rattle.tcode.specs.Decoding.{decode}
use Rattle.tcertify.specs.Instructions.{decoded}
use Rattle.tprocesses.specs.Touching.{Site}
use Rattle.tprocesses.specs.Standing.{moves}
use Rattle.tprocesses.specs.Instructions as spec
use Rattle.tprocesses.specs.Machine.{process_step}
use Rattle.tcertify.specs.declared.fault.Fault.{Fault}
use Rattle.tcertify.specs.declared.node.Node.{Node}
use Rattle.tcertify.specs.Carried.{Followed}
use Rattle.tcertify.specs.Nodes.{Does, RunsAt, name_at, node_site, nothing}
use Rattle.tcertify.specs.Steps.{ended, instructed, performed, step_of_process}
use Rattle.tcertify.proofs.Following.{does_then}
use Rattle.tcertify.proofs.NodeRunning.{bind_assoc, does_on, does_stop, runs_at_stop}

-- the end of an instruction
module _ (a b : Node) (k : ℕ) (ctx : Context) (i : Instruction) (f : Followed) where
  abbrev at_end : Context → Site → Name → Unit {0} → Doing
  at_end scheduled s x _ = spec.followed f.0 s x scheduled f.1

  -- whether it may have its workspace
  abbrev pub keeps : Doing
  keeps = require (is_none ctx.choice || (ctx.wptr == f.1.wptr)) WordInUse

  abbrev behind_keeps : Site → Name → Doing
  behind_keeps s x =
      moves s ctx.wptr f.1.wptr >>= at_end (record ctx { iptr = plus ctx.iptr i.length }) s x

  pub keeps_not : (why : Reason) → RunsAt keeps a (Err why) a
      → RunsAt (ended ctx i (node_site a) (name_at a k) f) a (Err why) a
  keeps_not why h = runs_at_stop keeps (λ _. behind_keeps (node_site a) (name_at a k)) a a why h

  pub moves_not : (e : Fault) → RunsAt keeps a (Ok tt) a → Does (moves (node_site a) ctx.wptr f.1.wptr) nothing a (Err
      e) b
      → Does (ended ctx i (node_site a) (name_at a k) f) nothing a (Err e) b
  moves_not e kept h =
      does_on keeps (λ _. behind_keeps (node_site a) (name_at a k)) nothing a a b tt (Err e) kept
      (does_stop (moves (node_site a) ctx.wptr f.1.wptr)
      (at_end (record ctx { iptr = plus ctx.iptr i.length }) (node_site a) (name_at a k)) nothing nothing a b e h)

  pub completed : (c : Node) (r : Result (Unit {0}) Fault) → k < length a.processes.items.items
      → RunsAt keeps a (Ok tt) a → RunsAt (moves (node_site a) ctx.wptr f.1.wptr) a (Ok tt) b
      → (scheduled : Context) → scheduled ≡ record ctx { iptr = plus ctx.iptr i.length }
      → Does (spec.followed f.0 (node_site b) (name_at b k) scheduled f.1) nothing b r c
      → Does (ended ctx i (node_site a) (name_at a k) f) nothing a r c
  completed c r inside kept first scheduled e h =
      does_on keeps (λ _. behind_keeps (node_site a) (name_at a k)) nothing a a c tt r kept
      (does_then a b c k (moves (node_site a) ctx.wptr f.1.wptr) (at_end (record ctx { iptr = plus ctx.iptr i.length }))
      tt first inside nothing r
      (subst (λ (l : Context). Does (at_end l (node_site b) (name_at b k) tt) nothing b r c) e h))

-- what follows may be told otherwise
bind_same : {A B : Type 0} (p : Part A) (f g : A → Part B) → ((x : A) → f x ≡ g x) → (p >>= f) ≡ (p >>= g)
bind_same p f g h = λ j. p >>= (λ x. h x j)

-- an instruction, from its start to its end, told in a row
module _ (ctx : Context) (i : Instruction) (s : Site) (x : Name) where
  abbrev used : Uses
  used = uses_of s.kind i (unwrap_or ctx.a 0)

  abbrev flagged : Bool
  flagged = spec.has_flags s.kind i

  abbrev left : Performed Outcome → Followed
  left p = (p.value.1, spec.context_after ctx used p.known p.value.0)

  abbrev enough : Performed Outcome → Doing
  enough p = require (p.known || not used.reads_known) SawTheScheduler

  abbrev flags_left : spec.Flags → Performed Outcome → Doing
  flags_left f p = spec.flags_after s flagged f p.value.0

  abbrev checked : spec.Flags → Performed Outcome → Part Followed
  checked f p = flags_left f p >> gives (left p)

  abbrev behind : spec.Flags → Performed Outcome → Part Followed
  behind f p = enough p >> checked f p

  abbrev acts : spec.Flags → Part (Performed Outcome)
  acts f = performed s ctx i (spec.registers ctx f)

  abbrev acting : spec.Flags → Part Followed
  acting f = acts f >>= behind f

  abbrev last : Followed → Doing
  last = ended ctx i s x

  abbrev finishing : spec.Flags → Performed Outcome → Doing
  finishing f p = enough p >> (flags_left f p >> last (left p))

  finishes_row : (f : spec.Flags) (p : Performed Outcome) → (behind f p >>= last) ≡ finishing f p
  finishes_row f p =
      bind_assoc (enough p) (λ _. checked f p) last
      ∙ bind_same (enough p) (λ _. checked f p >>= last) (λ _. flags_left f p >> last (left p))
      (λ _. bind_assoc (flags_left f p) (λ _. gives (left p)) last)

  acts_row : (f : spec.Flags) → (acting f >>= last) ≡ (acts f >>= finishing f)
  acts_row f =
      bind_assoc (acts f) (behind f) last
      ∙ bind_same (acts f) (λ p. behind f p >>= last) (finishing f) (finishes_row f)

  abbrev asks : Doing
  asks = require (has_needed used.needs ctx) SawTheScheduler

  abbrev sees : Part spec.Flags
  sees = spec.flags_before s flagged

  pub in_a_row : (instructed s ctx i >>= last) ≡ spec.executed s x ctx i
  in_a_row =
      bind_assoc asks (λ _. sees >>= acting) last
      ∙ bind_same asks (λ _. (sees >>= acting) >>= last) (λ _. sees >>= (λ f. acts f >>= finishing f))
      (λ _. bind_assoc sees acting last
      ∙ bind_same sees (λ f. acting f >>= last) (λ f. acts f >>= finishing f) acts_row)

-- so is one that is decoded first
module _ (ctx : Context) (s : Site) (x : Name) where
  abbrev decodes : Part (Performed Instruction)
  decodes = perform s [] (decode s.kind ctx.iptr)

  abbrev known_code : Performed Instruction → Doing
  known_code p = require p.known SawTheScheduler

  pub decoded_row : (decoded s ctx.iptr >>= (λ j. spec.executed s x ctx j)) ≡ spec.runs s x ctx
  decoded_row =
      bind_assoc decodes (λ p. known_code p >> gives p.value) (λ j. spec.executed s x ctx j)
      ∙ bind_same decodes (λ p. (known_code p >> gives p.value) >>= (λ j. spec.executed s x ctx j))
      (λ p. known_code p >> spec.executed s x ctx p.value)
      (λ p. bind_assoc (known_code p) (λ _. gives p.value) (λ j. spec.executed s x ctx j))

module _ (a b : Node) (k : ℕ) (ctx : Context) where
  -- an instruction stops, or is done up to what follows it
  pub instructs_not : (i : Instruction) (why : Reason) → RunsAt (instructed (node_site a) ctx i) a (Err why) b
      → RunsAt (spec.executed (node_site a) (name_at a k) ctx i) a (Err why) b
  instructs_not i why h =
      subst (λ (q : Doing). RunsAt q a (Err why) b) (in_a_row ctx i (node_site a) (name_at a k))
      (runs_at_stop (instructed (node_site a) ctx i) (ended ctx i (node_site a) (name_at a k)) a b why h)

  pub executes : (i : Instruction) (c : Node) (r : Result (Unit {0}) Fault) (f : Followed)
      → k < length a.processes.items.items → RunsAt (instructed (node_site a) ctx i) a (Ok f) b
      → Does (ended ctx i (node_site b) (name_at b k) f) nothing b r c
      → Does (spec.executed (node_site a) (name_at a k) ctx i) nothing a r c
  executes i c r f inside first h =
      subst (λ (q : Doing). Does q nothing a r c) (in_a_row ctx i (node_site a) (name_at a k))
      (does_then a b c k (instructed (node_site a) ctx i) (ended ctx i) f first inside nothing r h)

  -- it is not decoded, or it is
  pub decodes_not : (why : Reason) → RunsAt (decoded (node_site a) ctx.iptr) a (Err why) b
      → RunsAt (spec.runs (node_site a) (name_at a k) ctx) a (Err why) b
  decodes_not why h =
      subst (λ (q : Doing). RunsAt q a (Err why) b) (decoded_row ctx (node_site a) (name_at a k))
      (runs_at_stop (decoded (node_site a) ctx.iptr) (λ j. spec.executed (node_site a) (name_at a k) ctx j) a b why h)

  pub runs : (c : Node) (r : Result (Unit {0}) Fault) (i : Instruction) → k < length a.processes.items.items
      → RunsAt (decoded (node_site a) ctx.iptr) a (Ok i) b
      → Does (spec.executed (node_site b) (name_at b k) ctx i) nothing b r c
      → Does (spec.runs (node_site a) (name_at a k) ctx) nothing a r c
  runs c r i inside first h =
      subst (λ (q : Doing). Does q nothing a r c) (decoded_row ctx (node_site a) (name_at a k))
      (does_then a b c k (decoded (node_site a) ctx.iptr) (λ s x j. spec.executed s x ctx j) i first inside nothing r h)

-- the step of a process that stands there
module _ (a b : Node) (k : ℕ) (t : Stand) (seen : RunsAt (see (Standing (name_at a k))) a (Ok (IsStand t)) b)
    (inside : k < length a.processes.items.items) where
  pub steps : (u : Stand) (c : Node) (r : Result (Unit {0}) Fault) → t ≡ u
      → Does (process_step (name_at b k) u (node_site b)) nothing b r c
      → Does (step_of_process (node_site a) (name_at a k)) nothing a r c
  steps u c r e h =
      does_then a b c k (see (Standing (name_at a k))) (λ s x v. process_step x (stand_in v) s) (IsStand t) seen inside
      nothing r (subst (λ (w : Stand). Does (process_step (name_at b k) w (node_site b)) nothing b r c) (sym e) h)
