use Rattle.std.proofs.Common.{◌≡◌, ◌∙◌, ap, arith, length, vec_len}
use Rattle.std.specs.List.{range_with_len}
use Rattle.tverdict.specs.Opening.{first_check}
use Rattle.tverdict.proofs.opening.checked_agents.Goals as goal

pub returns-clause-check : goal.returns-clause-check
returns-clause-check c =
    let agents = c.in_ok-agents.agents in
    let count : vec_len agents ≡ length agents.items = omega (arith, agents.ok.0) in
    c.in_ok-check.ensures ∙ ap (first_check c.args.places) (c.len-2.ensures ∙ count)

pub returns-clause-candidates : goal.returns-clause-candidates
returns-clause-candidates c =
    let agents = c.in_ok-agents.agents in
    let count : vec_len agents ≡ length agents.items = omega (arith, agents.ok.0) in
    c.in_ok-candidates.ensures ∙ ap (range_with_len 0) (c.len.ensures ∙ count)
