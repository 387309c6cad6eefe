-- A share rounded up, in two forms.
use Rattle.std.proofs.Common.{◌≡◌, ℕ, zero, suc, ◌+◌, ◌-◌, ◌*◌, ◌<◌, ◌/◌, ◌%◌, refl, arith}
use Rattle.std.specs.Int.{div_ceil}
use Rattle.std.proofs.lemmas.Nat.{div-add-mod', div-mul-add}
use Rattle.std.proofs.lemmas.Nat.{mod_below}
use Rattle.tnet.specs.Sharing.{share}

pub rounded_up : (nodes workers : ℕ) → 0 < workers → div_ceil nodes workers ≡ share nodes workers
rounded_up nodes workers some = by (nodes % workers) refl
  where
    whole : nodes / workers * workers + nodes % workers ≡ nodes
    whole = div-add-mod' nodes workers

    by : (rest : ℕ) → nodes % workers ≡ rest → div_ceil nodes workers ≡ share nodes workers
    by zero e =
        let sum : nodes + (workers - 1) ≡ nodes / workers * workers + (workers - 1) = omega (arith, whole, e) in
        rw (e, sum, div-mul-add (nodes / workers) workers (workers - 1) (omega (arith, some))) (omega arith)
    by (suc rest) e =
        let below : nodes % workers < workers = mod_below nodes workers some in
        let sum : nodes + (workers - 1) ≡ (nodes / workers + 1) * workers + rest = omega (arith, whole, e, some) in
        rw (e, sum, div-mul-add (nodes / workers + 1) workers rest (omega (arith, below, e))) (omega arith)
