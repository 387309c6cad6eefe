-- Processors are steady before the first step, and each own step of a node leaves its processor so.
use Rattle.std.proofs.Common.{◌≡◌, ℕ, suc, ◌<◌, ◌≤◌, ◌%◌, ◌^◌, refl, sym, ap, subst, ◌∙◌, [], ◌∷◌, length, All, Bool}
use Rattle.std.proofs.Common.{true, false, true≢false, cond, not, ◌||◌, Some, None}
use Rattle.std.specs.Prelude.{IfSome, nat_lt, ◌==◌}
use Rattle.std.proofs.lemmas.Bool.{or_parts, eqb-true, ltb-false}
use Rattle.std.proofs.lemmas.List.Elements.{All-cons, All-nil, All-head, All-tail}
use Rattle.tword.specs.Accesses.{IsMemorySize}
use Rattle.tword.specs.Limits.{smallest_memory, largest_memory}
use Rattle.tword.specs.Stores.{Store, HoldsBytes, hiding_from}
use Rattle.tword.specs.Claims.{is_input}
use Rattle.tword.specs.Touches.{byte_span}
use Rattle.tword.specs.Words.{most_neg}
use Rattle.tword.proofs.Hiding.{length-hiding_from}
use Rattle.tplan.specs.declared.plan.NodePlan.{NodePlan}
use Rattle.tproc.specs.declared.waiter.Reason.TheVariants.{LinkInput, LinkOutput}
use Rattle.tproc.specs.Machine.{Control, Machine, claims_of, descheduled}
use Rattle.tproc.specs.Hidden.{hidden}
use Rattle.tproc.specs.Kinds.{IsSized}
use Rattle.tproc.specs.LinkChannels.{link_end}
use Rattle.tproc.specs.Opening.{no_processes}
use Rattle.tproc.specs.Placement.{IsPlaced, IsClaimed, IsWorkspace, IsBuffer, WaitsFor}
use Rattle.tproc.proofs.KindsStay.{sizes_stay}
use Rattle.tproc.proofs.Opening.{hidden-quiet}
use Rattle.tproc.proofs.Placed.{step_keeps_placed}
use Rattle.tproc.proofs.Scripted.{hidden_again}
use Rattle.tnet.specs.Building.{is_bad_size}
use Rattle.tnet.specs.Rendezvous.{Node, Configuration, node_of}
use Rattle.tnet.proofs.OpenedPlans.{good_size}
use Rattle.tnet.proofs.Puts.{put-same}
use Rattle.tseen.specs.Steps.{IsSteady, OpeningIsSteady, OwnStepsKeepSteady}
use Rattle.tseen.proofs.Built.{queued}
use Rattle.tseen.proofs.OpeningShown.{built_there, size_there, start_there}
use Rattle.tseen.proofs.OpenedScripts.{processor_there}
use Rattle.tseen.proofs.Adding.{IsBuilt}
use Rattle.tnet.specs.Building.{loaded_machine, opened_machine}

-- hidden cells hold no byte, and the others what they held
pub hiding_holds : (f : ℕ → Bool) (a : ℕ) (s : Store) → HoldsBytes s → HoldsBytes (hiding_from f a s)
hiding_holds f a [] h = All-nil (λ cell. IfSome cell (λ b. b < 256))
hiding_holds f a (x ∷ s) h =
    All-cons (λ cell. IfSome cell (λ b. b < 256)) (cond (f a) None x) (hiding_from f (suc a) s)
    (by (f a) (All-head (λ cell. IfSome cell (λ b. b < 256)) x s h))
    (hiding_holds f (suc a) s (All-tail (λ cell. IfSome cell (λ b. b < 256)) x s h))
  where
    by : (t : Bool) → IfSome x (λ b. b < 256) → IfSome (cond t None x) (λ b. b < 256)
    by true k = tt
    by false k = k

-- what is claimed of a processor holds for one that is hidden
module _ (n : Machine) where
  as_long : length (hidden n).store ≡ length n.store
  as_long = length-hiding_from (λ a. is_input (claims_of n.control) (byte_span a)) most_neg n.store

  hidden_claimed : IsClaimed n → IsClaimed (hidden n)
  hidden_claimed c =
      record {
        size = subst (λ z. z ≤ 2 ^ 31) (sym as_long) c.size;
        distinct = c.distinct;
        saved = subst (λ z. All (IsWorkspace z) (descheduled n.control)) (sym as_long) c.saved;
        links = c.links;
        outputs = λ l. subst (λ z. IfSome (link_end n.control l).output (λ o. WaitsFor n.control o.wdesc (LinkOutput l)
            × IsBuffer z o)) (sym as_long) (c.outputs l);
        inputs = λ l. subst (λ z. IfSome (link_end n.control l).input (λ o. WaitsFor n.control o.wdesc (LinkInput l)
            × IsBuffer z o)) (sym as_long) (c.inputs l);
      }

  pub hidden_placed : IsPlaced n → IsPlaced (hidden n)
  hidden_placed k =
      record {
        claimed = hidden_claimed k.claimed;
        apart = k.apart;
        bytes = hiding_holds (λ a. is_input (claims_of n.control) (byte_span a)) most_neg n.store k.bytes;
        offered = k.offered;
        few = k.few;
        priority = k.priority;
        below = k.below;
        count = k.count;
        kept_count = k.kept_count;
        workspaces = k.workspaces;
        words = k.words;
        kept_words = k.kept_words;
      }

  pub hidden_sized : IsSized n → IsSized (hidden n)
  hidden_sized k = record { size = subst (λ z. IsMemorySize n.control.kind z) (sym as_long) k.size }

-- own steps
pub own_steps_keep_steady : OwnStepsKeepSteady
own_steps_keep_steady c c' n node l here steady = (
  after,
  ap (λ (w : Configuration). node_of w n) l.after ∙ put-same c n after l.node l.here,
  record {
    placed = hidden_placed l.machine placed;
    sized = hidden_sized l.machine sized;
    hides = hidden_again l.machine;
  },
)
  where
    after : Node
    after = record l.node { machine = hidden l.machine }

    same : node ≡ l.node
    same = some_is (sym here ∙ l.here)
      where
        some_is : {a b : Node} → Some a ≡ Some b → a ≡ b
        some_is e = cc

    first : IsSteady l.node
    first = subst IsSteady same steady

    placed : IsPlaced l.machine
    placed = step_keeps_placed l.node.machine l.machine l.ran first.placed l.steps

    sized : IsSized l.machine
    sized = (sizes_stay l.node.machine first.placed first.sized).steps l.machine l.ran l.steps

-- a size that is not bad
good_memory : (plan : NodePlan) → is_bad_size plan ≡ false → IsMemorySize plan.kind plan.memory
good_memory plan h =
    let outer : ((nat_lt plan.memory smallest_memory || nat_lt (largest_memory plan.kind) plan.memory) ≡ false)
    × (not (plan.memory % 4 == 0) ≡ false) = or_parts _ _ h in
    let inner : (nat_lt plan.memory smallest_memory ≡ false) × (nat_lt (largest_memory plan.kind) plan.memory ≡ false) =
    or_parts _ _ outer.0 in
    (ltb-false _ _ inner.0, ltb-false _ _ inner.1, eqb-true _ _ (is (plan.memory % 4 == 0) outer.1))
  where
    is : (b : Bool) → not b ≡ false → b ≡ true
    is true e = refl
    is false e = absurd (true≢false e)

-- the opening
pub opening_is_steady : OpeningIsSteady
opening_is_steady p none words n plan node at here =
    subst IsSteady (some_is (sym (processor_there p n plan at) ∙ here)) (record {
      placed = built.ready.placed (good_size plan size);
      sized = record {
        size = subst (λ z. IsMemorySize m.control.kind z) (sym built.ready.size)
            (subst (λ z. IsMemorySize z plan.memory) (sym (ap (λ (k : Control). k.kind) control))
            (good_memory plan size));
      };
      hides = hidden-quiet m (ap (λ (k : Control). k.links) control);
    })
  where
    some_is : {a b : Node} → Some a ≡ Some b → a ≡ b
    some_is e = cc

    m : Machine
    m = opened_machine p.timeslice plan

    size : is_bad_size plan ≡ false
    size = size_there p none words n plan at

    built : IsBuilt (loaded_machine p.timeslice plan) plan.memory plan.image.processes (opened_machine p.timeslice plan)
    built = built_there p none words n plan at

    control : (opened_machine p.timeslice plan).control
        ≡ queued plan.image.processes (no_processes p.timeslice plan.kind)
    control = built.control ∙ ap (queued plan.image.processes) (start_there p none words n plan at)
