-- The buffers of pending messages stand.
use Rattle.std.proofs.Common.{◌≡◌, [], ◌∷◌, List, length, Option, Some, ◌⊎◌, inl, inr, arith}
use Rattle.tword.specs.Stores.{Store, bytes_at}
use Rattle.tword.specs.declared.span.Span.{Span}
use Rattle.tword.proofs.Standing.{Stands as CellsStand}
use Rattle.tword.proofs.Buffers.{stands_bytes}
use Rattle.tproc.specs.Machine.{buffer_of}
use Rattle.tproc.specs.LinkChannels.{link_end}
use Rattle.tproc.specs.Messages.{output_of, input_of}
use Rattle.tproc.specs.Keeping.{ClaimedBytesStand}
use Rattle.tproc.proofs.Handing.{Lies, buffer_lies}
use Rattle.tproc.proofs.Pending.{at_some}
use Rattle.tproc.proofs.Untouched.{AreClaimed, input_claimed, output_claimed, step-stands, notice-stands}
use Rattle.tproc.proofs.Untouched.{finish_output-stands, finish_input-stands}

pub claimed_bytes_stand : ClaimedBytesStand
claimed_bytes_stand n l o p h = (
  (λ n' r e. same n'.store (step-stands n p.claimed p.apart spans (among h) n' r e)),
  λ k. (
    same _ (notice-stands n p.claimed p.apart spans (among h) k),
    same _ (finish_output-stands n p.claimed p.apart spans (among h) k),
    same _ (finish_input-stands n p.claimed p.apart spans (among h) k),
  ),
)
  where
    spans : List (Option Span)
    spans = Some (buffer_of o) ∷ []

    among : (output_of n l ≡ Some o) ⊎ (input_of n l ≡ Some o) → AreClaimed n.control spans
    among (inl e) = output_claimed n.control l o e
    among (inr e) = input_claimed n.control l o e

    lies : (output_of n l ≡ Some o) ⊎ (input_of n l ≡ Some o) → Lies (length n.store) o
    lies (inl e) = buffer_lies (length n.store) o (at_some (link_end n.control l).output _ o e (p.claimed.outputs l)).1
    lies (inr e) = buffer_lies (length n.store) o (at_some (link_end n.control l).input _ o e (p.claimed.inputs l)).1

    same : (t : Store) → CellsStand spans n.store t → bytes_at t o.buffer o.length ≡ bytes_at n.store o.buffer o.length
    same t s = (stands_bytes n.store t o.buffer o.length s (lies h).above (lies h).within).bytes o.length (omega arith)
