-- What a step keeps.
-- Source: own choice, a law of the machine.
use Rattle.std.specs.Prelude.{ℕ, ◌≡◌, ◌⊎◌, Ok, Some}
use Rattle.tword.specs.Stores.{bytes_at}
use Rattle.tword.specs.Claims.{AreApart}
use Rattle.tproc.specs.declared.offer.Offer.{Offer}
use Rattle.tproc.specs.declared.ran.Ran.{Ran}
use Rattle.tproc.specs.Machine.{Machine, claims_of}
use Rattle.tproc.specs.Placement.{IsPlaced}
use Rattle.tproc.specs.Links.{notice, finish_output, finish_input}
use Rattle.tproc.specs.Messages.{output_of, input_of}
use Rattle.tproc.specs.Steps.{step}

-- each step keeps each live process at one place
abbrev pub StepsKeepPlaced : Type 0
StepsKeepPlaced = (n n' : Machine) (r : Ran) → IsPlaced n → step n ≡ Ok (n', r) → IsPlaced n'

-- each step keeps the claims apart
abbrev pub ClaimsStayApart : Type 0
ClaimsStayApart = (n n' : Machine) (r : Ran) → IsPlaced n → step n ≡ Ok (n', r) → AreApart (claims_of n'.control)

-- the bytes of a buffer are what they were
abbrev pub Stands : Offer → Machine → Machine → Type 0
Stands o n n' = bytes_at n'.store o.buffer o.length ≡ bytes_at n.store o.buffer o.length

-- the buffer of a pending message is unchanged by a step, and by whatever a link does except for the bytes that come
-- in
abbrev pub ClaimedBytesStand : Type 0
ClaimedBytesStand = (n : Machine) (l : ℕ) (o : Offer) → IsPlaced n → (output_of n l ≡ Some o) ⊎ (input_of n l ≡ Some o)
    → ((n' : Machine) (r : Ran) → step n ≡ Ok (n', r) → Stands o n n')
    × ((k : ℕ) → Stands o n (notice k n) × Stands o n (finish_output k n) × Stands o n (finish_input k n))
