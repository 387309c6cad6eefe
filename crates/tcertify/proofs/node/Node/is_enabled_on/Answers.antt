use Rattle.std.proofs.Common.{refl, sym, ap, ◌∙◌, subst, false, inl, inr, ◌≡◌}
use Rattle.tprocesses.specs.Choosing.{is_enabled_on}
use Rattle.tcertify.specs.declared.channel.LinkHalf.{LinkHalf}
use Rattle.tcertify.specs.Channels.{link_of, process_on}
use Rattle.tcertify.specs.Nodes.{name_at, names}
use Rattle.tcertify.proofs.LinkChoices.{named_by_number}
use Rattle.tcertify.proofs.node.Node.is_enabled_on.Goals as goal

pub returns-in-Enabled : goal.returns-in-Enabled
returns-in-Enabled c =
    let a = c.args.self.now in let k = c.args.process in let j = c.in-Enabled.other in
    named_by_number a j k (c.requires.known j (ap process_on c.in-Enabled.is)) c.requires.there
    ∙ ap (λ (h : LinkHalf). is_enabled_on (name_at a k) (link_of (names a) h)) (sym c.in-Enabled.is)

pub returns-in-Empty : goal.returns-in-Empty
returns-in-Empty c =
    let a = c.args.self.now in
    let stays = λ (h : LinkHalf). false ≡ is_enabled_on (name_at a c.args.process) (link_of (names a) h) in
    elim c.in-Empty.is [
      | inl e ↦ subst stays (sym e) refl
      | inr rest ↦ elim rest [
        | inl e ↦ subst stays (sym e.1) refl
        | inr more ↦ elim more [
          | inl e ↦ subst stays (sym e.1) refl
          | inr e ↦ subst stays (sym e.1) refl
        ]
      ]
    ]
