use Rattle.std.proofs.Common.{◌≡◌, ◌∙◌, ap, refl, inl, inr, Some, None}
use Rattle.tprocesses.specs.Machine.{awaiting}
use Rattle.tcertify.specs.declared.channel.LinkHalf.{LinkHalf}
use Rattle.tcertify.specs.Channels.{link_of}
use Rattle.tcertify.specs.Nodes.{name_at, names}
use Rattle.tcertify.proofs.LinkChoices.{asks_so}
use Rattle.tcertify.proofs.node.Node.awaiting.Goals as goal

pub returns-in-Awaited-clause-asks : goal.returns-in-Awaited-clause-asks
returns-in-Awaited-clause-asks c =
    let a = c.args.self.now in
    asks_so a c.link_half.new.self c.args.link c.link_half.result (Some (name_at a c.in-Awaited.process))
    c.link_half.ensures.looks (ap (λ (h : LinkHalf). awaiting (link_of (names a) h)) c.in-Awaited.is)

pub returns-in-Empty : goal.returns-in-Empty
returns-in-Empty c =
    let a = c.args.self.now in let b = c.link_half.new.self in let l = c.args.link in
    let none = λ (h : LinkHalf) (none : awaiting (link_of (names a) h) ≡ None) (e : c.link_half.result ≡ h).
    asks_so a b l c.link_half.result None c.link_half.ensures.looks
    (ap (λ (g : LinkHalf). awaiting (link_of (names a) g)) e ∙ none) in
    record {
      asks = elim c.in-Empty.is [
        | inl e ↦ none _ refl e
        | inr rest ↦ elim rest [
          | inl e ↦ none _ refl e.1
          | inr more ↦ elim more [ inl e ↦ none _ refl e.1 | inr e ↦ none _ refl e.1 ]
        ]
      ];
      there = λ k e. cc;
    }
