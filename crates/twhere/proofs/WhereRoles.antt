-- The lines of a source and a sink.
use Rattle.std.proofs.Common.{◌≡◌, ℕ, ap, ◌∙◌, length}
use Rattle.tword.specs.Stores.{shown}
use Rattle.tlink.specs.Roles.{Role, Processor, Source, Sink}
use Rattle.tlink.specs.Node.{NodeState}
use Rattle.tlink.specs.Scripts.{all_messages, done_messages, kept_lengths, kept_messages, left_messages, messages_of}
use Rattle.tlink.specs.Scripts.{over_messages}
use Rattle.tlink.proofs.Sinks.{length-cut}
use Rattle.tnet.specs.Net.{NetState}
use Rattle.tfiles.specs.Texts.{sink_line, source_line}
use Rattle.twhere.specs.declared.listing.Listed.{Listed}
use Rattle.twhere.specs.Standing.{role_where}

-- a source tells how many of its messages are over
pub source_told : (role : Role) (net : NetState) (k : ℕ) (x s : NodeState) (listed : Listed) → x.role ≡ role
    → role ≡ Source (over_messages role) (left_messages role) → s ≡ x
    → source_line k (done_messages s.role) (all_messages s.role) ≡ role_where role net k x listed
source_told Processor net k x s listed e h same = cc
source_told (Source done rest) net k x s listed e h same =
    ap (λ (r : Role). source_line k (done_messages r) (all_messages r)) (ap (λ (y : NodeState). y.role) same ∙ e)
source_told (Sink kept) net k x s listed e h same = cc

-- a sink tells how many messages it has kept
pub sink_told : (role : Role) (net : NetState) (k : ℕ) (x s : NodeState) (listed : Listed) → x.role ≡ role
    → role ≡ Sink (kept_lengths role) → s ≡ x
    → sink_line k (length (kept_messages s)) ≡ role_where role net k x listed
sink_told Processor net k x s listed e h same = cc
sink_told (Source done rest) net k x s listed e h same = cc
sink_told (Sink kept) net k x s listed e h same =
    ap (λ (n : ℕ). sink_line k n)
    (ap (λ (y : NodeState). length (messages_of y.role (shown y.machine.store))) same
    ∙ ap (λ (r : Role). length (messages_of r (shown x.machine.store))) e
    ∙ length-cut kept (shown x.machine.store))
