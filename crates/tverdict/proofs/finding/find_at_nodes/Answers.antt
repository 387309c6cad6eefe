use Rattle.std.proofs.Common.{◌≡◌, ℕ, ap, arith, ◌∙◌, ◌++◌, length, map, refl, vec_len}
use Rattle.std.specs.List.{range_with_len}
use Rattle.std.proofs.lemmas.Option.{slice_get_read}
use Rattle.tverdict.specs.declared.agent.Agent.TheVariants.{Channel, Process}
use Rattle.tverdict.proofs.FoundAgents.{node_found}
use Rattle.tverdict.proofs.finding.find_at_nodes.Goals as goal

pub loop-number-preserved : goal.loop-number-preserved
loop-number-preserved c =
    let nodes = c.args.nodes.now in let k = c.loop-number.number in let node = c.index-nodes-number.result in
    let before = c.loop-number.agents.items in let ps = c.find_processes.new.agents.items in
    let processes : vec_len node.processes.items ≡ length node.processes.items.items =
    omega (arith, node.processes.items.ok.0) in
    let channels : vec_len node.channels.items ≡ length node.channels.items.items =
    omega (arith, node.channels.items.ok.0) in
    node_found c.args.agents.now.items before ps c.find_channels.new.agents.items nodes k node
    (slice_get_read nodes (length nodes) k node refl c.loop-number-test.true c.index-nodes-number.is)
    c.loop-number.invariant
    (c.in_ok-find_processes.ensures ∙ ap (λ (n : ℕ). before ++ map (Process n) (range_with_len 0 c.len.result))
    c.in-Ok.ensures.1
    ∙ ap (λ (n : ℕ). before ++ map (Process k) (range_with_len 0 n)) (c.len.ensures ∙ processes))
    (c.in_ok-find_channels.ensures
    ∙ ap (λ (n : ℕ). ps ++ map (Channel n) (range_with_len 0 c.len-in-loop-number.result)) c.in-Ok.ensures.1
    ∙ ap (λ (n : ℕ). ps ++ map (Channel k) (range_with_len 0 n)) (c.len-in-loop-number.ensures ∙ channels))
