-- The table of far ends, row after row.
use Rattle.std.proofs.Common.{◌≡◌, ℕ, zero, suc, ◌<◌, ◌≤◌, refl, sym, ap, ◌∙◌, List, [], get_or, Option, Some, None}
use Rattle.std.proofs.Common.{◌⊎◌, inl, inr, arith, All}
use Rattle.std.proofs.lemmas.Bool.{cases_lt}
use Rattle.std.proofs.lemmas.List.{get_or_past}
use Rattle.tplan.specs.declared.plan.End.{End}
use Rattle.tplan.specs.declared.plan.Wire.{Wire}
use Rattle.tplan.specs.Wires.{end_at, far_end}
use Rattle.tnet.specs.Sound.{IsEnd}
use Rattle.tnet.proofs.OpenedWires.{wired_ends}
use Rattle.tnet.specs.FarEnds.{far_in, AgreesWith, row_of, AgreesBelow}

-- an end that is none has no wire
pub nowhere : (nodes : ℕ) (wires : List Wire) (e : End) → All (λ w. IsEnd nodes w.a × IsEnd nodes w.b) wires
    → (IsEnd nodes e → ⊥) → far_end wires e ≡ None
nowhere nodes wires e ends h = by (far_end wires e) refl
  where
    by : (o : Option End) → far_end wires e ≡ o → o ≡ None
    by None k = refl
    by (Some f) k = absurd (h (wired_ends nodes wires e f ends k).0)

-- a link of a row
pub link_of_row : (wires : List Wire) (n l : ℕ) → l < 4 → get_or (row_of wires n) l None ≡ far_end wires (end_at n l)
link_of_row wires n zero h = refl
link_of_row wires n (suc zero) h = refl
link_of_row wires n (suc (suc zero)) h = refl
link_of_row wires n (suc (suc (suc zero))) h = refl
link_of_row wires n (suc (suc (suc (suc l)))) h = absurd (omega arith)

-- with all rows the table is that of the wires
pub all_rows : (nodes : ℕ) (wires : List Wire) (table : List (List (Option End)))
    → All (λ w. IsEnd nodes w.a × IsEnd nodes w.b) wires → AgreesBelow wires table nodes → AgreesWith wires table
all_rows nodes wires table ends below e = by (cases_lt e.node nodes) (cases_lt e.link 4)
  where
    by : (e.node < nodes) ⊎ (nodes ≤ e.node) → (e.link < 4) ⊎ (4 ≤ e.link) → far_in table e ≡ far_end wires e
    by (inr far) _ =
        ap (λ (row : List (Option End)). get_or row e.link None)
        (get_or_past table e.node [] (omega (arith, far, below.rows)))
        ∙ sym (nowhere nodes wires e ends (λ is. absurd (omega (arith, is.0, far))))
    by (inl near) (inl h) = ap (λ (row : List (Option End)). get_or row e.link None) (below.each e.node near)
        ∙ link_of_row wires e.node e.link h
    by (inl near) (inr far) =
        ap (λ (row : List (Option End)). get_or row e.link None) (below.each e.node near)
        ∙ get_or_past (row_of wires e.node) e.link None far
        ∙ sym (nowhere nodes wires e ends (λ is. absurd (omega (arith, is.1, far))))
