use Rattle.std.proofs.Common.{ℕ, sym, ap, ◌∙◌, Ok, Err}
use Rattle.tword.specs.declared.breaks.Break.TheVariants.{LinkBusy}
use Rattle.tprocesses.specs.Changes.{Put}
use Rattle.tprocesses.specs.Choosing as spec
use Rattle.tprocesses.specs.Parts.{Breaks, Doing, change, require, see, ◌>>◌}
use Rattle.tprocesses.specs.Places.{Name}
use Rattle.tprocesses.specs.Touching.{Site}
use Rattle.tprocesses.specs.Values.{Awaited, IsLink, Value, link_in}
use Rattle.tcertify.specs.Channels.{link_of}
use Rattle.tcertify.specs.Nodes.{name_at, names, node_site}
use Rattle.tcertify.proofs.Choices.{refused, required}
use Rattle.tcertify.proofs.Following.{runs_then}
use Rattle.tcertify.proofs.LinkChoices.{link_still}
use Rattle.tcertify.proofs.NodeRunning.{runs_at_on, runs_at_stop}
use Rattle.tcertify.proofs.node.Node.awaits_link.Goals as goal

-- what follows the look, by whether the process has enabled the input
abbrev puts_input : (channel : ℕ) → Site → Name → Doing
puts_input channel s x = change (spec.input_of s channel) (Put (IsLink (Awaited x)))

abbrev checks_input : (channel : ℕ) → Site → Name → Value → Doing
checks_input channel s x v = require (spec.is_enabled_on x (link_in v)) (Breaks LinkBusy) >> puts_input channel s x

pub returns-then-not-is_enabled_on-clause-done : goal.returns-then-not-is_enabled_on-clause-done
returns-then-not-is_enabled_on-clause-done c =
    let a = c.args.self.now in let k = c.args.process in let ch : ℕ = c.args.channel in
    let b = c.sees_input-half.new.self in let x = c.sees_input-half.result in let h = link_of (names a) x in
    let same = link_still a b x c.sees_input-half.ensures.looks.grows c.sees_input-half.ensures.known in
    runs_then a b b k (see (spec.input_of (node_site a) ch)) (checks_input ch) (IsLink h)
    c.sees_input-half.ensures.looks c.requires.there (Err (Breaks LinkBusy))
    (runs_at_stop (require (spec.is_enabled_on (name_at b k) h) (Breaks LinkBusy))
    (λ _. puts_input ch (node_site b) (name_at b k)) b b (Breaks LinkBusy)
    (refused (spec.is_enabled_on (name_at b k) h) (Breaks LinkBusy) b
    (ap (spec.is_enabled_on (name_at b k)) (sym same) ∙ sym c.is_enabled_on.ensures ∙ c.if-not-is_enabled_on.true)))

pub returns-clause-done : goal.returns-clause-done
returns-clause-done c =
    let a = c.args.self.now in let k = c.args.process in let ch : ℕ = c.args.channel in
    let b = c.sees_input-half.new.self in let x = c.sees_input-half.result in let h = link_of (names a) x in
    let same = link_still a b x c.sees_input-half.ensures.looks.grows c.sees_input-half.ensures.known in
    runs_then a b c.sets_input.new.self k (see (spec.input_of (node_site a) ch)) (checks_input ch) (IsLink h)
    c.sees_input-half.ensures.looks c.requires.there (Ok tt)
    (runs_at_on (require (spec.is_enabled_on (name_at b k) h) (Breaks LinkBusy))
    (λ _. puts_input ch (node_site b) (name_at b k)) b b c.sets_input.new.self tt (Ok tt)
    (required (spec.is_enabled_on (name_at b k) h) (Breaks LinkBusy) b
    (ap (spec.is_enabled_on (name_at b k)) (sym same) ∙ sym c.is_enabled_on.ensures ∙ c.if-not-is_enabled_on.false))
    c.sets_input.ensures.sets)
