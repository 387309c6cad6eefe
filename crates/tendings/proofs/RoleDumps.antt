-- The dumps of nodes by what stands there.
use Rattle.std.proofs.Common.{◌≡◌, ℕ, refl, sym, ap, ◌∙◌, List, Option}
use Rattle.std.specs.Prelude.{is_some, Some, None}
use Rattle.tword.specs.declared.breaks.Break.{Break}
use Rattle.tword.specs.Stores.{shown}
use Rattle.tproc.specs.declared.offer.Offer.{Offer}
use Rattle.tproc.specs.Machine.{Machine}
use Rattle.tproc.specs.Hidden.{hidden}
use Rattle.tlink.specs.Roles.{Role, Processor, Source, Sink}
use Rattle.tlink.specs.Scripts.{all_messages, cut, done_messages, kept_lengths, left_messages, over_messages}
use Rattle.tnet.specs.Rendezvous.{Node}
use Rattle.tfiles.specs.Texts.{dump_of, node_dump, role_dump, sink_dump, source_line}
use Rattle.trendezvous.specs.Bodies.{length_of}

pub processor_dump : (n : ℕ) (s : Node) (m : Machine) (broken : Option Break) → s.role ≡ Processor
    → s.machine ≡ hidden m → broken ≡ s.broken
    → dump_of n broken m.control.halted (hidden m).store ≡ node_dump n s
processor_dump n s m broken role machine b =
    ap (λ (o : Option Break). dump_of n o m.control.halted (hidden m).store) b
    ∙ (ap (λ (x : Machine). dump_of n s.broken x.control.halted x.store) (sym machine)
    ∙ ap (λ (r : Role). role_dump r n s.broken s.machine) (sym role))

pub source_dump : (n : ℕ) (s : Node) → s.role ≡ Source (over_messages s.role) (left_messages s.role)
    → source_line n (done_messages s.role) (all_messages s.role) ≡ node_dump n s
source_dump n s h = go s.role h
  where
    go : (r : Role) → r ≡ Source (over_messages r) (left_messages r)
        → source_line n (done_messages r) (all_messages r) ≡ role_dump r n s.broken s.machine
    go Processor h = cc
    go (Source over rest) h = refl
    go (Sink kept) h = cc

pub sink_dumped : (n : ℕ) (s : Node) (kept : List (List ℕ)) → s.role ≡ Sink (kept_lengths s.role)
    → kept ≡ cut (kept_lengths s.role) (shown s.machine.store) → sink_dump n kept ≡ node_dump n s
sink_dumped n s kept h k = ap (sink_dump n) k ∙ go s.role h
  where
    go : (r : Role) → r ≡ Sink (kept_lengths r)
        → sink_dump n (cut (kept_lengths r) (shown s.machine.store)) ≡ role_dump r n s.broken s.machine
    go Processor h = cc
    go (Source over rest) h = cc
    go (Sink kept) h = refl

-- the length of a message is there where the message is
pub length_there : (o : Option Offer) → is_some (length_of o) ≡ is_some o
length_there None = refl
length_there (Some o) = refl
