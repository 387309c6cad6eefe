-- A packet that lay at a link, and comes in or does not.
use Rattle.std.proofs.Common.{◌≡◌, ℕ, refl, sym, ap, ◌∙◌, Bool, true, false, ◌&&◌, List}
use Rattle.std.specs.Prelude.{not, if◌then◌else◌}
use Rattle.tplan.specs.declared.event.Hold.{Hold}
use Rattle.tplan.specs.declared.event.PacketKind.{PacketKind}
use Rattle.tplan.specs.declared.plan.End.{End}
use Rattle.tnet.specs.declared.inbox.Inbox.{Inbox}
use Rattle.tplan.specs.Wires.{end_at}
use Rattle.trounds.specs.Rounds.{is_held, taking}
use Rattle.trounds.specs.Parts.{Part, part_does, lies, part_packet}

module _ (lay : Inbox) (holds : List Hold) (r l : ℕ) (p : Part) (e : End) (at : e ≡ end_at p.station.number l) where
  -- one that is not held comes in
  pub comes_in : (k : PacketKind) (q : Part) (held : Bool) → held ≡ is_held holds r e k → lies lay k ≡ true
      → held ≡ false → q ≡ part_does (taking k l) p → q ≡ part_packet lay holds r k l p
  comes_in k q held is here free done =
      let h : is_held holds r (end_at p.station.number l) k ≡ false =
      ap (λ (x : End). is_held holds r x k) (sym at) ∙ (sym is ∙ free) in
      rw (here, h) done

  -- none lies there
  pub none_lies : (k : PacketKind) → lies lay k ≡ false → p ≡ part_packet lay holds r k l p
  none_lies k none = rw none refl

  -- one that is held stays out
  pub stays_out : (k : PacketKind) (held : Bool) → held ≡ is_held holds r e k → held ≡ true
      → p ≡ part_packet lay holds r k l p
  stays_out k held is h = by (lies lay k)
    where
      kept : is_held holds r (end_at p.station.number l) k ≡ true
      kept = ap (λ (x : End). is_held holds r x k) (sym at) ∙ (sym is ∙ h)

      by : (b : Bool)
          → p ≡ (if b && not (is_held holds r (end_at p.station.number l) k) then part_does (taking k l) p else p)
      by true = rw kept refl
      by false = refl
