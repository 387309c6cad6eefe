-- Links of which one is set.
use Rattle.std.proofs.Common.{◌≡◌, ℕ, sym, ap, ◌∙◌, List, get_or, set}
use Rattle.std.proofs.Math.ListN.{get_or-map}
use Rattle.tproc.specs.declared.waiter.LinkEnd.{LinkEnd}
use Rattle.tproc.specs.LinkChannels.{quiet_end}
use Rattle.tproc.proofs.LinkClaims.{set_same}

-- what a function tells of the links where it tells the same of one that is set
pub alike : {X : Type 0} (f : LinkEnd → X) (ls : List LinkEnd) (l j : ℕ) (e : LinkEnd) → f e ≡ f (get_or ls l quiet_end)
    → f (get_or (set ls l e) j quiet_end) ≡ f (get_or ls j quiet_end)
alike f ls l j e h =
    sym (get_or-map f (set ls l e) j quiet_end) ∙ ap (λ xs. get_or xs j (f quiet_end)) (set_same f ls l e h)
    ∙ get_or-map f ls j quiet_end
