-- The verdict of a command that leaves a net, and the exit statuses of verdicts.
-- Source: own choice.
use Rattle.std.specs.Prelude.{ℕ, is_some, Bool, if◌then◌else◌}
use Rattle.std.specs.List.{list_any}
use Rattle.tnet.specs.Net.{NetState}
use Rattle.topening.specs.declared.verdict.Verdict.{Verdict}
use Rattle.topening.specs.declared.verdict.Verdict.TheVariants as verdict

-- a node of a net is frozen: a break has stopped it
abbrev pub has_frozen : NetState → Bool
has_frozen net = list_any (λ n. is_some n.broken) net.nodes

-- the verdict of a command that leaves a net, by whether a node of it is frozen
abbrev pub net_verdict : NetState → Verdict
net_verdict net = if has_frozen net then verdict.Marked else verdict.Clear

-- the exit status of a verdict
abbrev pub verdict_status : Verdict → ℕ
verdict_status verdict.Clear = 0
verdict_status verdict.Marked = 1
verdict_status verdict.Cut = 5
verdict_status verdict.Wrong = 2
