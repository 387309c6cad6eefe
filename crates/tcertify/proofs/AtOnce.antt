-- One of the commonest instructions on a node, from its parts.
use Rattle.std.proofs.Common.{◌≡◌, ◌<◌, ℕ, refl, sym, ap, ◌∙◌, subst, length, Bool, true, false, Ok}
use Rattle.std.specs.Prelude.{not, ◌||◌, ◌==◌, is_none}
use Rattle.tcode.specs.declared.instruction.Instruction.{Instruction}
use Rattle.tcpu.specs.declared.registers.Registers.{Registers}
use Rattle.tcpu.specs.declared.registers.Next.{Next}
use Rattle.tcpu.specs.declared.registers.Next.TheVariants.{Go}
use Rattle.tcpu.specs.Outcomes.{Outcome}
use Rattle.tprocesses.specs.Instructions as spec
use Rattle.tprocesses.specs.Parts.{WordInUse, require}
use Rattle.tprocesses.specs.Performing.{Performed}
use Rattle.tprocesses.specs.Standing.{goes_on, moves}
use Rattle.tprocesses.specs.Uses.{has_needed}
use Rattle.tprocesses.specs.Values.{Context}
use Rattle.tcertify.specs.declared.node.Node.{Node}
use Rattle.tcertify.specs.Common.{unseen, used}
use Rattle.tcertify.specs.Nodes.{Does, RunsAt, name_at, node_site, nothing}
use Rattle.tcertify.specs.Steps.{performed}
use Rattle.tcertify.proofs.Completing as completing
use Rattle.tcertify.proofs.Following.{inside_still}
use Rattle.tcertify.proofs.Instructing as instructing
use Rattle.tcertify.proofs.Messages.{alike}
use Rattle.tcertify.proofs.NodeLives.{moves_not}
use Rattle.tcertify.proofs.NodeRunning.{runs_at_given}
use Rattle.tword.specs.Words.{plus}

-- either or true
pub holds_or : (b : Bool) → (b || true) ≡ true
holds_or true = refl
holds_or false = refl

module _ (a : Node) (k : ℕ) (ctx : Context) (i : Instruction)
    (plain : spec.has_flags a.words.kind i ≡ false) where
  abbrev before : Registers
  before = spec.registers ctx unseen

  seen : RunsAt (spec.flags_before (node_site a) (spec.has_flags a.words.kind i)) a (Ok unseen) a
  seen =
      subst (λ (t : Bool). RunsAt (spec.flags_before (node_site a) t) a (Ok unseen) a) (sym plain)
      (runs_at_given unseen a)

  module _ (enough : has_needed (used a.words.kind ctx i).needs ctx ≡ true) (b : Node) where
    module _ (p : Performed Outcome) (acts : RunsAt (performed (node_site a) ctx i before) a (Ok p) b)
        (inside : k < length a.processes.items.items) (goes : p.value.1 ≡ Go) (same : p.value.0.wptr ≡ ctx.wptr)
        (met : (p.known || not (used a.words.kind ctx i).reads_known) ≡ true) where
      abbrev left : Next × Context
      left = (p.value.1, spec.context_after ctx (used a.words.kind ctx i) p.known p.value.0)

      there : (ctx.wptr == p.value.0.wptr) ≡ true
      there = alike ctx.wptr p.value.0.wptr (sym same)

      keeps : RunsAt (require (is_none ctx.choice || (ctx.wptr == p.value.0.wptr)) WordInUse) b (Ok tt) b
      keeps =
          subst (λ (t : Bool). RunsAt (require t WordInUse) b (Ok tt) b)
          (sym (ap (λ (t : Bool). is_none ctx.choice || t) there ∙ holds_or (is_none ctx.choice)))
          (runs_at_given tt b)

      stays : RunsAt (moves (node_site b) ctx.wptr p.value.0.wptr) b (Ok tt) b
      stays = moves_not b b ctx.wptr p.value.0.wptr (sym same)

      -- it is done, and the next one follows
      pub ends : (after : Context) (c : Node)
          → spec.context_after ctx (used a.words.kind ctx i) p.known p.value.0 ≡ after
          → RunsAt (goes_on (name_at b k) after) b (Ok tt) c
          → RunsAt (spec.executed (node_site a) (name_at a k) ctx i) a (Ok tt) c
      ends after c e h =
          completing.executes a b k ctx i c (Ok tt) left inside
          (instructing.instructs a ctx i enough a unseen seen b p acts b met
          (subst (λ (t : Bool). RunsAt (spec.flags_after (node_site b) t unseen p.value.0) b (Ok tt) b) (sym plain)
          (runs_at_given tt b)))
          (completing.completed b b k ctx i left c (Ok tt) (inside_still a b k acts.grows inside) keeps stays _ refl
          (subst (λ (n : Next). Does (spec.followed n (node_site b) (name_at b k)
          (record ctx { iptr = plus ctx.iptr i.length }) left.1) nothing b (Ok tt) c)
          (sym goes)
          (subst (λ (x : Context). RunsAt (goes_on (name_at b k) x) b (Ok tt) c) (sym e) h)))
