use Rattle.std.proofs.Common.{ℕ, sym, ap, subst, Err, inl, inr}
use Rattle.tword.specs.declared.breaks.Break.TheVariants.{ChannelMisuse}
use Rattle.tprocesses.specs.Choosing.{enables_held}
use Rattle.tprocesses.specs.Parts.{Doing, Breaks, require}
use Rattle.tprocesses.specs.Places.{same_name}
use Rattle.tprocesses.specs.Touching.{Site, unsent, word_number}
use Rattle.tcertify.specs.declared.channel.Holder.{Holder}
use Rattle.tcertify.specs.Channels.{holder_of, process_in}
use Rattle.tcertify.specs.Nodes.{RunsAt, name_at, names, node_site, nothing}
use Rattle.tcertify.specs.Words.{told}
use Rattle.tcertify.proofs.Alternatives.{named_other, named_same}
use Rattle.tcertify.proofs.Choices.{refused, required}
use Rattle.tcertify.proofs.Following.{runs_next}
use Rattle.tcertify.proofs.NodeRunning.{grows_not, runs_at_stop, runs_at_stopped}
use Rattle.tcertify.proofs.node.Node.enables_held.Goals as goal

-- what follows the check
abbrev unsents : (channel : ℕ) → Site → Unit {0} → Doing
unsents channel s _ = unsent s (word_number channel)

pub returns-then-other-process : goal.returns-then-other-process
returns-then-other-process c =
    let a = c.args.self.now in let k = c.args.process in let j = c.in-Enabled.other in
    subst (λ (h : Holder). RunsAt (enables_held (node_site a) (name_at a k) c.args.channel (holder_of (names a) h)) a
    (Err (Breaks ChannelMisuse)) a) (sym c.in-Enabled.is)
    (runs_at_stop (require (same_name (name_at a j) (name_at a k)) (Breaks ChannelMisuse))
    (unsents c.args.channel (node_site a)) a a (Breaks ChannelMisuse)
    (refused (same_name (name_at a j) (name_at a k)) (Breaks ChannelMisuse) a
    (named_other a a (grows_not a) j k c.requires.there (c.requires.known j (ap process_in c.in-Enabled.is))
    c.if-other-process.true)))

pub returns-in-Nobody : goal.returns-in-Nobody
returns-in-Nobody c =
    let a = c.args.self.now in let k = c.args.process in
    subst (λ (h : Holder). RunsAt (enables_held (node_site a) (name_at a k) c.args.channel (holder_of (names a) h)) a
    (told nothing c.enables_free.result)
    c.enables_free.new.self) (sym c.in-Nobody.is) c.enables_free.ensures

pub returns-else-other-process : goal.returns-else-other-process
returns-else-other-process c =
    let a = c.args.self.now in let k = c.args.process in let j = c.in-Enabled.other in
    subst (λ (h : Holder). RunsAt (enables_held (node_site a) (name_at a k) c.args.channel (holder_of (names a) h)) a
    (told nothing c.unsent.result) c.unsent.new.self) (sym c.in-Enabled.is)
    (runs_next a a c.unsent.new.self (require (same_name (name_at a j) (name_at a k)) (Breaks ChannelMisuse))
    (unsents c.args.channel) (tt)
    (required (same_name (name_at a j) (name_at a k)) (Breaks ChannelMisuse) a
    (named_same a a (grows_not a) j k c.requires.there c.if-other-process.false)) (told nothing c.unsent.result)
    (subst (λ (n : ℕ). RunsAt (unsent (node_site a) n) a (told nothing c.unsent.result) c.unsent.new.self)
    c.requires.word c.unsent.ensures.done))

pub returns-in-Taken : goal.returns-in-Taken
returns-in-Taken c =
    let a = c.args.self.now in let k = c.args.process in
    elim c.in-Taken.is [
      | inl e ↦ subst (λ (h : Holder). RunsAt (enables_held (node_site a) (name_at a k) c.args.channel
          (holder_of (names a) h)) a (Err (Breaks ChannelMisuse)) a) (sym e.1)
          (runs_at_stopped (Breaks ChannelMisuse) a)
      | inr e ↦ subst (λ (h : Holder). RunsAt (enables_held (node_site a) (name_at a k) c.args.channel
          (holder_of (names a) h)) a (Err (Breaks ChannelMisuse)) a) (sym e.1)
          (runs_at_stopped (Breaks ChannelMisuse) a)
    ]
