use Rattle.std.proofs.Common.{◌≡◌, ◌-◌, ◌∙◌, ℕ, suc, ap, arith}
use Rattle.tclocks.specs.Checks.{Check, begun_times, with_cleared, with_joined}
use Rattle.tverdict.specs.Still.{still_checked}
use Rattle.tverdict.proofs.Still.{still_begun}
use Rattle.tverdict.proofs.going.tell_still.Goals as goal

pub returns : goal.returns
returns c =
    let number = c.args.number in let check = c.args.check.now in
    let first : c.clear.new.self ≡ still_checked 1 number check =
    c.clear.ensures
    ∙ ap (λ (x : Check). with_cleared number x)
    (c.in_ok-join.ensures.ok ∙ ap (λ (x : Check). with_joined number number x) c.in-Some.ensures.begun) in
    let all : suc (c.args.count - 1) ≡ c.args.count = omega arith in
    c.in-Some-begin_many.ensures.begun
    ∙ ap (λ (x : Check). begun_times (c.args.count - 1) number x) first
    ∙ still_begun (c.args.count - 1) number check
    ∙ ap (λ (j : ℕ). still_checked j number check) all
