-- What a node of each role keeps as it acts: the bytes of its pending messages, and that no byte is hidden.
use Rattle.std.proofs.Common.{◌≡◌, ℕ, zero, suc, refl, sym, ap, ◌∙◌, subst, List, Bool, true, false, Ok, Some, None}
use Rattle.std.specs.Prelude.{slice_index_or, sum, ◌+◌}
use Rattle.tword.specs.Words.{most_neg}
use Rattle.tproc.specs.declared.offer.Offer.{Offer}
use Rattle.tproc.specs.declared.ran.Ran.{Ran}
use Rattle.tproc.specs.declared.ran.Ran.TheVariants as ran
use Rattle.tproc.specs.Machine.{Machine}
use Rattle.tproc.specs.LinkChannels.{link_end}
use Rattle.tproc.specs.Links.{notice}
use Rattle.tproc.specs.Steps.{step, step_left_by}
use Rattle.tproc.proofs.Pending.{KeepsIn, Keeps, step_keeps, notice_keeps, finish_input_keeps, finish_output_keeps}
use Rattle.tlink.specs.Roles.{Role, Processor, Source, Sink, receives, woken, filled}
use Rattle.tlink.specs.Node.{one_link}
use Rattle.tlink.specs.Whole.{IsHeld, HasWires}
use Rattle.tlink.proofs.Held.{script-step, source_asks_none, sink_offers_none}
use Rattle.tnet.proofs.SoundDirections.{offer_stands_same}

-- where the store stays
pub kept_store : (m : Machine) → KeepsIn m m.store
kept_store m =
    record {
      size = refl;
      outputs = λ l. offer_stands_same (link_end m.control l).output m.store;
      inputs = λ l. offer_stands_same (link_end m.control l).input m.store;
      visible = λ h. h;
    }

-- a script has no step of its own
stood : (m m' : Machine) (r : Ran) → step m ≡ Ok (m, ran.Idle) → step m ≡ Ok (m', r) → Keeps m m'
stood m m' r e s = subst (Keeps m) (ap (step_left_by m) (sym e ∙ s)) (kept_store m)

-- a step
pub kept_step : (role : Role) (m m' : Machine) (r : Ran) → IsHeld role m → step m ≡ Ok (m', r) → Keeps m m'
kept_step Processor m m' r h s = step_keeps m m' r h.0 h.1 s
kept_step (Source done rest) m m' r h s = stood m m' r (script-step _ m h.control) s
kept_step (Sink kept) m m' r h s = stood m m' r (script-step _ m h.control) s

-- a byte that comes where no input is pending: it is no script's
pub kept_noticed : (role : Role) (m : Machine) (l : ℕ) (wired : List Bool) → IsHeld role m → HasWires role wired
    → receives role ≡ true → slice_index_or wired l false ≡ true → (link_end m.control l).input ≡ None
    → Keeps m (notice l m)
kept_noticed Processor m l wired h w receiving there none = notice_keeps l m h.0 h.1
kept_noticed (Source done rest) m l wired h w receiving there none = cc
kept_noticed (Sink kept) m l wired h w receiving there none = by l (rw w at there) none
  where
    by : (l : ℕ) → slice_index_or one_link l false ≡ true → (link_end m.control l).input ≡ None → Keeps m (notice l m)
    by zero there none =
        let f : Some (record { wdesc = 0; buffer = most_neg + sum kept; length = h.room }) ≡ None =
        rw h.control at none in cc
    by (suc zero) there none = cc
    by (suc (suc zero)) there none = cc
    by (suc (suc (suc zero))) there none = cc
    by (suc (suc (suc (suc l)))) there none = cc

-- a message that is complete
pub kept_filled : (role : Role) (m : Machine) (l n : ℕ) (o : Offer) → IsHeld role m
    → (link_end m.control l).input ≡ Some o → Keeps m (filled role l n m)
kept_filled Processor m l n o h inp = finish_input_keeps l m h.0 h.1
kept_filled (Source done rest) m l n o h inp =
    let f : None ≡ Some o = sym (source_asks_none rest m l h) ∙ inp in cc
kept_filled (Sink kept) m l n o h inp = kept_store m

-- an output that is over
pub kept_woken : (role : Role) (m : Machine) (l : ℕ) (o : Offer) → IsHeld role m
    → (link_end m.control l).output ≡ Some o → Keeps m (woken role l m)
kept_woken Processor m l o h out = finish_output_keeps l m h.0 h.1
kept_woken (Source done rest) m l o h out = kept_store m
kept_woken (Sink kept) m l o h out = let f : None ≡ Some o = sym (sink_offers_none kept m l h) ∙ out in cc
