-- An instruction on a node, part by part, up to what follows it.
use Rattle.std.proofs.Common.{◌≡◌, sym, subst, Bool, true, false, Result, Ok, Err}
use Rattle.std.specs.Prelude.{not, ◌||◌, unwrap_or}
use Rattle.tcode.specs.declared.instruction.Instruction.{Instruction}
use Rattle.tcpu.specs.Outcomes.{Outcome}
use Rattle.tprocesses.specs.Instructions as spec
use Rattle.tprocesses.specs.Instructions.{context_after, flags_after, flags_before, has_flags, registers}
use Rattle.tprocesses.specs.Parts.{Reason, Part, gives, require, SawTheScheduler, ◌>>=◌, ◌>>◌}
use Rattle.tprocesses.specs.Performing.{Performed}
use Rattle.tprocesses.specs.Touching.{Site}
use Rattle.tprocesses.specs.Uses.{Uses, has_needed, uses_of}
use Rattle.tprocesses.specs.Values.{Context}
use Rattle.tcertify.specs.declared.node.Node.{Node}
use Rattle.tcertify.specs.Carried.{Followed}
use Rattle.tcertify.specs.Nodes.{RunsAt, node_site}
use Rattle.tcertify.specs.Steps.{instructed, performed}
use Rattle.tcertify.proofs.Following.{runs_next}
use Rattle.tcertify.proofs.NodeRunning.{runs_at_given, runs_at_on, runs_at_stop, runs_at_stopped}

module _ (a : Node) (ctx : Context) (i : Instruction) where
  -- what the instruction uses, and whether it looks at the flags
  abbrev pub used : Uses
  used = uses_of a.words.kind i (unwrap_or ctx.a 0)

  abbrev pub looks : Bool
  looks = has_flags a.words.kind i

  -- what is left behind what was performed
  abbrev pub left : Performed Outcome → Followed
  left p = (p.value.1, context_after ctx used p.known p.value.0)

  abbrev checked : Site → spec.Flags → Performed Outcome → Part Followed
  checked s f p = flags_after s looks f p.value.0 >> gives (left p)

  abbrev tested : Bool → Site → spec.Flags → Performed Outcome → Part Followed
  tested t s f p = require t SawTheScheduler >> checked s f p

  abbrev behind : Site → spec.Flags → Performed Outcome → Part Followed
  behind s f p = tested (p.known || not used.reads_known) s f p

  abbrev acting : Site → spec.Flags → Part Followed
  acting s f = performed s ctx i (registers ctx f) >>= behind s f

  abbrev asked : Bool → Part Followed
  asked t = require t SawTheScheduler >> (flags_before (node_site a) looks >>= acting (node_site a))

  -- it needs more than is known
  pub needs_more : has_needed used.needs ctx ≡ false
      → RunsAt (instructed (node_site a) ctx i) a (Err SawTheScheduler) a
  needs_more e =
      subst (λ (t : Bool). RunsAt (asked t) a (Err SawTheScheduler) a) (sym e) (runs_at_stopped SawTheScheduler a)

  module _ (enough : has_needed used.needs ctx ≡ true) (b : Node) (f : spec.Flags)
      (seen : RunsAt (flags_before (node_site a) looks) a (Ok f) b) (c : Node) where
    acts_on : (d : Node) (r : Result Followed Reason) → RunsAt (acting (node_site b) f) b r d
        → RunsAt (instructed (node_site a) ctx i) a r d
    acts_on d r h =
        subst (λ (t : Bool). RunsAt (asked t) a r d) (sym enough)
        (runs_next a b d (flags_before (node_site a) looks) acting f seen r h)

    -- it stops
    pub acts_not : (why : Reason) → RunsAt (performed (node_site b) ctx i (registers ctx f)) b (Err why) c
        → RunsAt (instructed (node_site a) ctx i) a (Err why) c
    acts_not why h =
        acts_on c (Err why)
        (runs_at_stop (performed (node_site b) ctx i (registers ctx f)) (behind (node_site b) f) b c why h)

    module _ (p : Performed Outcome) (acts : RunsAt (performed (node_site b) ctx i (registers ctx f)) b (Ok p) c) where
      tests_on : (t : Bool) (d : Node) (r : Result Followed Reason) → (p.known || not used.reads_known) ≡ t
          → RunsAt (tested t (node_site c) f p) c r d → RunsAt (instructed (node_site a) ctx i) a r d
      tests_on t d r e h =
          acts_on d r
          (runs_next b c d (performed (node_site b) ctx i (registers ctx f)) (λ s q. behind s f q) p acts r
          (subst (λ (k : Bool). RunsAt (tested k (node_site c) f p) c r d) (sym e) h))

      -- what it read has to be known, and is not
      pub reads_more : (p.known || not used.reads_known) ≡ false
          → RunsAt (instructed (node_site a) ctx i) a (Err SawTheScheduler) c
      reads_more e = tests_on false c (Err SawTheScheduler) e (runs_at_stopped SawTheScheduler c)

      -- it is done
      pub instructs : (d : Node) → (p.known || not used.reads_known) ≡ true
          → RunsAt (flags_after (node_site c) looks f p.value.0) c (Ok tt) d
          → RunsAt (instructed (node_site a) ctx i) a (Ok (left p)) d
      instructs d e h =
          tests_on true d (Ok (left p)) e
          (runs_at_on (flags_after (node_site c) looks f p.value.0) (λ _. gives (left p)) c d d tt (Ok (left p)) h
          (runs_at_given (left p) d))
