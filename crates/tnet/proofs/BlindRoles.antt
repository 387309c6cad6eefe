-- What a node of any role does does not depend on what the buffers of its pending inputs hold.
use Rattle.std.proofs.Common.{◌≡◌, ℕ, ◌+◌, refl, sym, ap, ◌∙◌, List, [], ◌∷◌, Bool, true, Ok, Some, None}
use Rattle.std.specs.Prelude.{slice_index_or, false}
use Rattle.tword.specs.Stores.{cells, with_cells, as_cells, bytes_at}
use Rattle.tproc.specs.declared.offer.Offer.{Offer}
use Rattle.tproc.specs.declared.ran.Ran.TheVariants as ran
use Rattle.tproc.specs.Machine.{Machine}
use Rattle.tproc.specs.LinkChannels.{link_end}
use Rattle.tproc.specs.Hidden.{hidden, hidden_step}
use Rattle.tproc.specs.Links.{notice}
use Rattle.tproc.specs.Steps.{step}
use Rattle.tproc.proofs.Blind.{step_is_blind, notice_is_blind, finish_output_is_blind}
use Rattle.tproc.proofs.Handing.{LastByte, last_byte-copies, last_byte-message, last_byte-moved_message}
use Rattle.tproc.proofs.Scripted.{last_byte-input_moved, hidden_again, output_set-hidden_again}
use Rattle.tlink.specs.Roles.{Role, Processor, Source, Sink, receives, woken, filled}
use Rattle.tlink.specs.Whole.{IsHeld, HasWires}
use Rattle.tlink.proofs.Held.{script-step, source_asks_none, sink_offers_none}
use Rattle.tnet.specs.Rendezvous.{Fits}
use Rattle.tnet.proofs.VeiledRoles.{wired_script, sink_at}

-- a machine that does nothing
idle-blind : (m : Machine) → step (hidden m) ≡ Ok (hidden m, ran.Idle) → step m ≡ Ok (m, ran.Idle)
    → hidden_step (step (hidden m)) ≡ hidden_step (step m)
idle-blind m h k = rw (h, k, hidden_again m) refl

-- a step
pub step-blind : (role : Role) (m : Machine) → IsHeld role m → hidden_step (step (hidden m)) ≡ hidden_step (step m)
step-blind Processor m h = step_is_blind m h.0 h.1
step-blind (Source done rest) m h = idle-blind m (script-step _ (hidden m) h.control) (script-step _ m h.control)
step-blind (Sink kept) m h = idle-blind m (script-step _ (hidden m) h.control) (script-step _ m h.control)

-- a notice, at a link with a wire and without an input
pub notice-blind : (role : Role) (m : Machine) (l : ℕ) (wired : List Bool) → IsHeld role m → HasWires role wired
    → receives role ≡ true → slice_index_or wired l false ≡ true → (link_end m.control l).input ≡ None
    → hidden (notice l (hidden m)) ≡ hidden (notice l m)
notice-blind Processor m l wired h w receiving there none = notice_is_blind l m h.0 h.1
notice-blind (Source done rest) m l wired h w receiving there none = cc
notice-blind (Sink kept) m l wired h w receiving there none =
    absurd (sink_at kept m l h (wired_script (Sink kept) wired l w there) none)

-- the end of an output
pub woken-blind : (role : Role) (m : Machine) (l : ℕ) (o : Offer) → IsHeld role m
    → (link_end m.control l).output ≡ Some o → hidden (woken role l (hidden m)) ≡ hidden (woken role l m)
woken-blind Processor m l o h out = finish_output_is_blind l m h.0 h.1
woken-blind (Source done rest) m l o h out = output_set-hidden_again m l _
woken-blind (Sink kept) m l o h out = let f : None ≡ Some o = sym (sink_offers_none kept m l h) ∙ out in cc

-- the last byte of a message that fits
module _ (a b : Machine) (k l : ℕ) (out inp : Offer) (got byte : ℕ) (h : LastByte a b k l out inp got byte) where
  -- the receiver with it, and with a copy of the whole message
  abbrev with_last : Machine
  with_last = record b { store = with_cells b.store (inp.buffer + got) (as_cells (byte ∷ [])) }

  abbrev with_message : Machine
  with_message = record b {
    store =
        with_cells (hidden b).store inp.buffer (cells (hidden a).store out.buffer out.length);
  }

  -- look alike
  pub filled-looks : (role : Role) → IsHeld role b → Fits role out inp
      → hidden (filled role l out.length with_message) ≡ hidden (filled role l out.length with_last)
  filled-looks Processor held fits = last_byte-copies a b k l out inp got byte h held.0 fits
  filled-looks (Source done rest) held fits =
      let f : None ≡ Some inp = sym (source_asks_none rest b l held) ∙ h.asks in cc
  filled-looks (Sink kept) held fits = last_byte-input_moved a b k l out inp got byte h

  -- and the message lies in the buffer
  pub filled-holds : (role : Role) → IsHeld role b → Fits role out inp
      → bytes_at (filled role l out.length with_last).store inp.buffer out.length
      ≡ bytes_at (hidden a).store out.buffer out.length
  filled-holds Processor held fits =
      ap (λ size. bytes_at (filled Processor l out.length with_last).store inp.buffer size) fits
      ∙ last_byte-message a b k l out inp got byte h held.0 fits
  filled-holds (Source done rest) held fits =
      let f : None ≡ Some inp = sym (source_asks_none rest b l held) ∙ h.asks in cc
  filled-holds (Sink kept) held fits = last_byte-moved_message a b k l out inp got byte h
