-- Names where one process waits at a seat, and what stays shown of links and channels with them.
use Rattle.std.proofs.Common.{◌≡◌, ℕ, refl, true}
use Rattle.std.specs.Prelude.{◌==◌}
use Rattle.tword.specs.declared.span.Span.{Span}
use Rattle.tproc.specs.declared.channels.Side.{Side}
use Rattle.tproc.specs.declared.channels.Side.TheVariants.{Input, Output}
use Rattle.tproc.specs.Channels.{Request, reason_for}
use Rattle.tplan.specs.declared.plan.Plan.{Plan}
use Rattle.tprocesses.specs.Places.{Name, Half, same_place}
use Rattle.tprocesses.proofs.Tidy.{process_machine_is_tidy}
use Rattle.tseen.specs.Seats.{Seat, Waiting}
use Rattle.tseen.specs.Halves.{reason_at}
use Rattle.tseen.proofs.Nets.{chosen}

-- names where a process waits
abbrev pub waiting_named : (process : ℕ) → Name → (Seat → Name) → Seat → Name
waiting_named process x named (Waiting q) = chosen (q == process) x (named (Waiting q))
waiting_named process x named q = named q

-- what a process waits for is told in two ways
pub same_reason : (q : Request) (side : Side)
    → reason_for q side ≡ reason_at side q.channel (record { start = q.buffer; size = q.length })
same_reason q Input = refl
same_reason q Output = refl

-- and tells the channel, the side and the buffer
pub one_reason : (a b : Side) (c d : ℕ) (e f : Span) → reason_at a c e ≡ reason_at b d f → (a ≡ b) × (c ≡ d) × (e ≡ f)
one_reason Input Input c d e f h =
    let a : e.start ≡ f.start = cc in
    let b : e.size ≡ f.size = cc in
    (refl, cc, λ i. record { start = a i; size = b i })
one_reason Output Output c d e f h =
    let a : e.start ≡ f.start = cc in
    let b : e.size ≡ f.size = cc in
    (refl, cc, λ i. record { start = a i; size = b i })
one_reason Input Output c d e f h = cc
one_reason Output Input c d e f h = cc

-- a half is told by its channel and its side
pub one_half : Plan → (n a b : ℕ) (s t : Side) → same_place (Half n a s) (Half n b t) ≡ true → (a ≡ b) × (s ≡ t)
one_half p n a b s t h =
    let e : Half n a s ≡ Half n b t = (process_machine_is_tidy p).told.is_same_place (Half n a s) (Half n b t) h in
    (cc, cc)
