-- Small plans of nodes, for rows that definitions compute.
-- Source: own choice.
use Rattle.std.specs.Prelude.{ℕ, ◌+◌, List, [], ◌∷◌}
use Rattle.tword.specs.declared.kind.Kind.TheVariants.{One}
use Rattle.tplan.specs.declared.plan.NodePlan.{NodePlan}

-- code at the first free address, with one low process above it
unfoldable pub node_plan : List ℕ → List ℕ → NodePlan
node_plan code message =
    record {
      memory = 0x110;
      kind = One;
      image = record {
        segments = record { address = 0x8000_0080; bytes = code } ∷ record { address = 0x8000_0104; bytes = message }
            ∷ [];
        processes = record { wdesc = 0x8000_0101; iptr = 0x8000_0080 } ∷ [];
      };
    }

-- `ldlp 1; mint; ldnlp 1; ldc N; out; stopp`, and with `in` from link 2
unfoldable pub sender : ℕ → NodePlan
unfolding node_plan
sender n = node_plan (0x11 ∷ 0x24 ∷ 0xf2 ∷ 0x51 ∷ (0x40 + n) ∷ 0xfb ∷ 0x21 ∷ 0xf5 ∷ []) (1 ∷ 2 ∷ 3 ∷ 4 ∷ [])

unfoldable pub receiver : NodePlan
unfolding node_plan
receiver = node_plan (0x11 ∷ 0x24 ∷ 0xf2 ∷ 0x56 ∷ 0x44 ∷ 0xf7 ∷ 0x21 ∷ 0xf5 ∷ []) []
