use Rattle.std.proofs.Common.{◌≡◌, ℕ, ◌-◌, List, ◌++◌, ap, ◌∙◌, sym, length, replicate}
use Rattle.std.proofs.lemmas.List.{take_at}
use Rattle.tclocks.specs.Clocks.{joined}
use Rattle.tclocks.proofs.ClockLemmas.{joined-widened}
use Rattle.tclocks.proofs.clock.Clock.join_counts.Goals as goal

both : (c : goal.After-self-1) → joined c.as_mut_slice.result.now c.as_slice.result.now
    ≡ joined c.args.self.now c.args.other.now
both c =
    let other : c.as_slice.result.now ≡ c.args.other.now = c.as_slice.ensures.value ∙ c.other.view_is in
    let agents : c.len.result ≡ length c.args.other.now =
    c.len.ensures ∙ sym c.as_slice.ensures.len ∙ ap (λ (list : List ℕ). length list) other in
    let own : c.as_mut_slice.result.now
    ≡ c.args.self.now ++ replicate (length c.args.other.now - length c.args.self.now) 0 =
    c.as_mut_slice.ensures.value ∙ c.in_ok-widen.ensures.ok
    ∙ ap (λ (n : ℕ). c.self.inside.counts.items ++ replicate (n - length c.self.inside.counts.items) 0) agents
    ∙ ap (λ (list : List ℕ). list ++ replicate (length c.args.other.now - length list) 0) c.self.view_is in
    ap (λ (list : List ℕ). joined c.as_mut_slice.result.now list) other
    ∙ ap (λ (list : List ℕ). joined list c.args.other.now) own
    ∙ joined-widened c.args.self.now c.args.other.now

pub returns-clause-ok : goal.returns-clause-ok
returns-clause-ok c =
    take_at c.raise_each.new.counts _ _ (c.raise_each.auto.counts ∙ c.as_mut_slice.ensures.len)
    ∙ c.raise_each.ensures ∙ both c
