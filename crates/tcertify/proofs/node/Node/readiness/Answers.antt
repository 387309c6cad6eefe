use Rattle.std.proofs.Common.{sym, ap, not, subst, false, Ok, Err}
use Rattle.tword.specs.declared.breaks.Break.TheVariants.{ChannelMisuse}
use Rattle.tprocesses.specs.Choosing.{readiness}
use Rattle.tprocesses.specs.Parts.{Breaks, SeveralReady, gives, require, ◌>>◌}
use Rattle.tprocesses.specs.Places.{same_name}
use Rattle.tcertify.specs.declared.channel.Holder.{Holder}
use Rattle.tcertify.specs.Channels.{holder_of, process_in}
use Rattle.tcertify.specs.Nodes.{RunsAt, name_at, names}
use Rattle.tcertify.proofs.Alternatives.{named_other, named_same}
use Rattle.tcertify.proofs.Choices.{refused, required}
use Rattle.tcertify.proofs.NodeRunning.{grows_not, runs_at_given, runs_at_on, runs_at_stop}
use Rattle.tcertify.proofs.node.Node.readiness.Goals as goal

pub returns-then-other-process : goal.returns-then-other-process
returns-then-other-process c =
    let a = c.args.self.now in let k = c.args.process in let j = c.in-Enabled.other in let t = c.args.sent in
    subst (λ (h : Holder). RunsAt (readiness (name_at a k) t (holder_of (names a) h)) a (Err (Breaks ChannelMisuse)) a)
    (sym c.in-Enabled.is)
    (runs_at_stop (require (same_name (name_at a j) (name_at a k)) (Breaks ChannelMisuse)) (λ _. gives t) a a
    (Breaks ChannelMisuse)
    (refused (same_name (name_at a j) (name_at a k)) (Breaks ChannelMisuse) a
    (named_other a a (grows_not a) j k c.requires.there (c.requires.known j (ap process_in c.in-Enabled.is))
    c.if-other-process.true)))

pub returns-then-other-process-2 : goal.returns-then-other-process-2
returns-then-other-process-2 c =
    let a = c.args.self.now in let k = c.args.process in let j = c.in-Awaited.other in let t = c.args.sent in
    subst (λ (h : Holder). RunsAt (readiness (name_at a k) t (holder_of (names a) h)) a (Err (Breaks ChannelMisuse)) a)
    (sym c.in-Awaited.is)
    (runs_at_stop (require (same_name (name_at a j) (name_at a k)) (Breaks ChannelMisuse))
    (λ _. require (not t) SeveralReady >> gives false) a a (Breaks ChannelMisuse)
    (refused (same_name (name_at a j) (name_at a k)) (Breaks ChannelMisuse) a
    (named_other a a (grows_not a) j k c.requires.there (c.requires.known j (ap process_in c.in-Awaited.is))
    c.if-other-process-2.true)))

pub returns-then-sent : goal.returns-then-sent
returns-then-sent c =
    let a = c.args.self.now in let k = c.args.process in let j = c.in-Awaited.other in let t = c.args.sent in
    subst (λ (h : Holder). RunsAt (readiness (name_at a k) t (holder_of (names a) h)) a (Err SeveralReady) a)
    (sym c.in-Awaited.is)
    (runs_at_on (require (same_name (name_at a j) (name_at a k)) (Breaks ChannelMisuse))
    (λ _. require (not t) SeveralReady >> gives false) a a a tt (Err SeveralReady)
    (required (same_name (name_at a j) (name_at a k)) (Breaks ChannelMisuse) a
    (named_same a a (grows_not a) j k c.requires.there c.if-other-process-2.false))
    (runs_at_stop (require (not t) SeveralReady) (λ _. gives false) a a SeveralReady
    (refused (not t) SeveralReady a (ap not c.if-sent.true))))

pub returns-else-other-process : goal.returns-else-other-process
returns-else-other-process c =
    let a = c.args.self.now in let k = c.args.process in let j = c.in-Enabled.other in let t = c.args.sent in
    subst (λ (h : Holder). RunsAt (readiness (name_at a k) t (holder_of (names a) h)) a (Ok t) a) (sym c.in-Enabled.is)
    (runs_at_on (require (same_name (name_at a j) (name_at a k)) (Breaks ChannelMisuse)) (λ _. gives t) a a a tt (Ok t)
    (required (same_name (name_at a j) (name_at a k)) (Breaks ChannelMisuse) a
    (named_same a a (grows_not a) j k c.requires.there c.if-other-process.false)) (runs_at_given t a))

pub returns-else-sent : goal.returns-else-sent
returns-else-sent c =
    let a = c.args.self.now in let k = c.args.process in let j = c.in-Awaited.other in let t = c.args.sent in
    subst (λ (h : Holder). RunsAt (readiness (name_at a k) t (holder_of (names a) h)) a (Ok false) a)
    (sym c.in-Awaited.is)
    (runs_at_on (require (same_name (name_at a j) (name_at a k)) (Breaks ChannelMisuse))
    (λ _. require (not t) SeveralReady >> gives false) a a a tt (Ok false)
    (required (same_name (name_at a j) (name_at a k)) (Breaks ChannelMisuse) a
    (named_same a a (grows_not a) j k c.requires.there c.if-other-process-2.false))
    (runs_at_on (require (not t) SeveralReady) (λ _. gives false) a a a tt (Ok false)
    (required (not t) SeveralReady a (ap not c.if-sent.false)) (runs_at_given false a)))
