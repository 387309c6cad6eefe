-- The commonest instructions where all that they touch is noted.
use Rattle.std.proofs.Common.{◌≡◌, ◌<◌, ℕ, refl, sym, ap, ◌∙◌, subst, length, Bool, true, Option, Some, Ok, [], ◌∷◌}
use Rattle.std.specs.Int.{w32, from_le_bytes, to_le_bytes}
use Rattle.std.specs.Prelude.{is_some, unwrap_or}
use Rattle.tword.specs.Actions.{Action}
use Rattle.tword.specs.Stores.{Store, shown}
use Rattle.tword.specs.Touches.{Reads}
use Rattle.tword.specs.Words.{plus, word_from}
use Rattle.tcode.specs.declared.instruction.Function.{Function}
use Rattle.tcode.specs.declared.instruction.Function.TheVariants.{Ldl, Ldnl, Stl, Stnl}
use Rattle.tcode.specs.declared.instruction.Instruction.{Instruction}
use Rattle.tcpu.specs.declared.registers.Next.TheVariants.{Go}
use Rattle.tcpu.specs.declared.registers.Registers.{Registers}
use Rattle.tcpu.specs.Effects.{effect}
use Rattle.tcpu.specs.Functions.{function_effect}
use Rattle.tcpu.specs.Outcomes.{Outcome, goes, one_to, pop, push}
use Rattle.tprocesses.specs.Changes.{are_known}
use Rattle.tprocesses.specs.Instructions as spec
use Rattle.tprocesses.specs.Performing.{bytes_if, perform}
use Rattle.tprocesses.specs.Touching.{touch_word_at, write_word_at}
use Rattle.tprocesses.specs.Uses.{known_value, known_writes}
use Rattle.tprocesses.specs.Values.{Context}
use Rattle.tcertify.specs.declared.node.Node.{Node}
use Rattle.tcertify.specs.declared.stored.Words.{Words}
use Rattle.tcertify.specs.Common.{LeavesAlone, unseen, used}
use Rattle.tcertify.specs.Nodes.{AreBesides}
use Rattle.tcertify.specs.Quiet.{IsExecuted, LeavesNoted}
use Rattle.tcertify.specs.Words.{Runs, site_of}
use Rattle.tcertify.proofs.Actions.{reads_alone, writes_on}
use Rattle.tcertify.proofs.AtOnce.{ends, holds_or}
use Rattle.tcertify.proofs.Leaving.{kept_known}
use Rattle.tcertify.proofs.NodeWords.{on_words}
use Rattle.tcertify.proofs.Running.{runs_given}

module _ (w : Words) (ctx : Context) (i : Instruction) where
  -- the registers with Iptr behind the instruction
  abbrev behind : Registers
  behind = record (spec.registers ctx unseen) { iptr = plus ctx.iptr i.length }

  -- the instruction of another function
  abbrev of : Function → Instruction
  of f = record i { function = f }

  -- what a word holds, where it is known
  abbrev held : Store → Option ℕ
  held cells = known_value (are_known cells) (from_le_bytes w32 (shown cells))

  leaves : (f : Function) (after : Context) (v : Words) → i.function ≡ f → LeavesNoted ctx (of f) w after v
      → LeavesNoted ctx i w after v
  leaves f after v e h = subst (λ (g : Function). LeavesNoted ctx (of g) w after v) (sym e) h

  -- an instruction that touches no memory
  pub alone_noted : (after : Context) → LeavesAlone w.kind ctx i after → LeavesNoted ctx i w after w
  alone_noted after l =
      record {
        outcome = record { value = (l.registers, Go); known = true };
        enough = l.enough;
        plain = l.plain;
        performs = subst (λ (e : Action Outcome). Runs (perform (site_of w) (known_writes ctx (used w.kind ctx i)) e) w
            (Ok (record { value = (l.registers, Go); known = true })) w) (sym l.effect) (runs_given _ w);
        goes = refl;
        workspace = l.workspace;
        met = refl;
        left = l.left;
        site = refl;
        notes = refl;
      }

  -- `ldl`
  pub loads_noted : (address : ℕ) (cells : Store) → address ≡ word_from ctx.wptr i.operand → i.function ≡ Ldl
      → Runs (touch_word_at (site_of w) Reads address) w (Ok cells) w
      → LeavesNoted ctx i w (record ctx { iptr = plus ctx.iptr i.length; a = held cells; b = ctx.a; c = ctx.b }) w
  unfolding effect function_effect
  loads_noted address cells at e h =
      leaves Ldl _ w e
      (record {
        outcome = record { value = (push (from_le_bytes w32 (shown cells)) behind, Go); known = are_known cells };
        enough = refl;
        plain = refl;
        performs = reads_alone (site_of w) [] w w Reads (word_from ctx.wptr i.operand) (λ v. goes (push v behind)) cells
            _ (subst (λ (n : ℕ). Runs (touch_word_at (site_of w) Reads n) w (Ok cells) w) at h) refl;
        goes = refl;
        workspace = refl;
        met = holds_or (are_known cells);
        left = λ j. record ctx {
          iptr = plus ctx.iptr i.length;
          a = held cells;
          b = kept_known ctx.a j;
          c = kept_known ctx.b j;
        };
        site = refl;
        notes = refl;
      })

  -- `stl`
  pub stores_noted : (address value : ℕ) (known : Bool) (v : Words) → address ≡ word_from ctx.wptr i.operand
      → value ≡ unwrap_or ctx.a 0 → known ≡ is_some ctx.a → i.function ≡ Stl
      → Runs (write_word_at (site_of w) address (bytes_if known (to_le_bytes w32 value))) w (Ok tt) v
      → site_of v ≡ site_of w → v.notes ≡ w.notes
      → LeavesNoted ctx i w (record ctx { iptr = plus ctx.iptr i.length; a = ctx.b; b = ctx.c }) v
  unfolding effect function_effect
  stores_noted address value known v at is so e h site notes =
      leaves Stl _ v e
      (record {
        outcome = record { value = (pop behind, Go); known = true };
        enough = refl;
        plain = refl;
        performs = writes_on (site_of w) (is_some ctx.a ∷ []) w v v (word_from ctx.wptr i.operand) (unwrap_or ctx.a 0)
            (goes (pop behind)) (Ok (record { value = (pop behind, Go); known = true })) (rw (at, is, so) at h)
            (runs_given _ _);
        goes = refl;
        workspace = refl;
        met = refl;
        left = λ j. record ctx {
          iptr = plus ctx.iptr i.length;
          a = kept_known ctx.b j;
          b = kept_known ctx.c j;
          c = kept_known ctx.c j;
        };
        site = site;
        notes = notes;
      })

  -- A is known
  module _ (base : ℕ) (is : ctx.a ≡ Some base) where
    known_base : is_some ctx.a ≡ true
    known_base = ap (λ (o : Option ℕ). is_some o) is

    at_base : (address : ℕ) → address ≡ word_from base i.operand → address ≡ word_from (unwrap_or ctx.a 0) i.operand
    at_base address e = e ∙ sym (ap (λ (o : Option ℕ). word_from (unwrap_or o 0) i.operand) is)

    -- `ldnl`
    pub loads_from_noted : (address : ℕ) (cells : Store) → address ≡ word_from base i.operand → i.function ≡ Ldnl
        → Runs (touch_word_at (site_of w) Reads address) w (Ok cells) w
        → LeavesNoted ctx i w (record ctx { iptr = plus ctx.iptr i.length; a = held cells }) w
    unfolding effect function_effect
    loads_from_noted address cells at e h =
        leaves Ldnl _ w e
        (record {
          outcome = record { value = (one_to (from_le_bytes w32 (shown cells)) behind, Go); known = are_known cells };
          enough = known_base;
          plain = refl;
          performs = reads_alone (site_of w) [] w w Reads (word_from (unwrap_or ctx.a 0) i.operand)
              (λ v. goes (one_to v behind)) cells _
              (subst (λ (n : ℕ). Runs (touch_word_at (site_of w) Reads n) w (Ok cells) w) (at_base address at) h) refl;
          goes = refl;
          workspace = refl;
          met = holds_or (are_known cells);
          left = λ j. record ctx {
            iptr = plus ctx.iptr i.length;
            a = held cells;
            b = kept_known ctx.b j;
            c = kept_known ctx.c j;
          };
          site = refl;
          notes = refl;
        })

    -- `stnl`
    pub stores_at_noted : (address value : ℕ) (sure : Bool) (v : Words) → address ≡ word_from base i.operand
        → value ≡ unwrap_or ctx.b 0 → sure ≡ is_some ctx.b → i.function ≡ Stnl
        → Runs (write_word_at (site_of w) address (bytes_if sure (to_le_bytes w32 value))) w (Ok tt) v
        → site_of v ≡ site_of w → v.notes ≡ w.notes
        → LeavesNoted ctx i w (record ctx { iptr = plus ctx.iptr i.length; a = ctx.c; b = ctx.c }) v
    unfolding effect function_effect
    stores_at_noted address value sure v at are so e h site notes =
        leaves Stnl _ v e
        (record {
          outcome = record { value = (pop (pop behind), Go); known = true };
          enough = known_base;
          plain = refl;
          performs = writes_on (site_of w) (is_some ctx.b ∷ []) w v v (word_from (unwrap_or ctx.a 0) i.operand)
              (unwrap_or ctx.b 0) (goes (pop (pop behind)))
              (Ok (record { value = (pop (pop behind), Go); known = true })) (rw (at_base address at, are, so) at h)
              (runs_given _ _);
          goes = refl;
          workspace = refl;
          met = refl;
          left = λ j. record ctx {
            iptr = plus ctx.iptr i.length;
            a = kept_known ctx.c j;
            b = kept_known ctx.c j;
            c = kept_known ctx.c j;
          };
          site = site;
          notes = notes;
        })

-- so it is on the node
pub executed_noted : (a b : Node) (k : ℕ) (ctx after : Context) (i : Instruction) → k < length a.processes.items.items
    → AreBesides a b → LeavesNoted ctx i a.words after b.words → IsExecuted k ctx i a after b
executed_noted a b k ctx after i inside besides l =
    λ end last.
    ends a k ctx i l.plain l.enough b l.outcome
    (on_words a b _ (Ok l.outcome) besides l.site l.performs) inside l.goes l.workspace l.met after end l.left last

-- the workspace stays
pub workspace_noted : (ctx after : Context) (i : Instruction) (w v : Words) → LeavesNoted ctx i w after v
    → after.wptr ≡ ctx.wptr
workspace_noted ctx after i w v l = ap (λ (x : Context). x.wptr) (sym l.left) ∙ l.workspace
