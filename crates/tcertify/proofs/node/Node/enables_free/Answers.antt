use Rattle.std.proofs.Common.{arith, ◌<◌, ℕ, subst, length, Ok, Err}
use Rattle.std.proofs.lemmas.Result.{err_from_is_err_and}
use Rattle.tproc.specs.declared.channels.Side.TheVariants.{Input}
use Rattle.tprocesses.specs.Changes.{Engage, Put}
use Rattle.tprocesses.specs.Parts.{Doing, change, ◌>>=◌}
use Rattle.tprocesses.specs.Places.{Name, Half}
use Rattle.tprocesses.specs.Touching.{Site, unsent, word_number, word_place}
use Rattle.tprocesses.specs.Values.{EnabledBy, IsHalf}
use Rattle.tcertify.specs.Nodes.{RunsAt, name_at, node_site}
use Rattle.tcertify.specs.Words.{reason_of}
use Rattle.tcertify.proofs.Messages.{as_many_words}
use Rattle.tcertify.proofs.Following.{inside_still, runs_then}
use Rattle.tcertify.proofs.NodeRunning.{runs_at_stop}
use Rattle.tcertify.proofs.node.Node.enables_free.Goals as goal

-- what follows each part
abbrev engages : (channel : ℕ) → Site → Name → Unit {0} → Doing
engages channel s x _ = change (word_place s channel) Engage

abbrev asks : (channel : ℕ) → Site → Name → Unit {0} → Doing
asks channel s x _ = unsent s (word_number channel) >>= engages channel s x

pub engage-requires : goal.engage-requires
engage-requires c =
    let a = c.args.self.now in let b = c.set_half.new.self in
    let first = as_many_words a b c.set_half.ensures.sets.grows in
    omega (arith, c.requires.word, c.requires.inside, first, c.in_ok-unsent.ensures.sized)

pub returns-in_err-unsent : goal.returns-in_err-unsent
returns-in_err-unsent c =
    let a = c.args.self.now in let k = c.args.process in
    let ch : ℕ = c.args.channel in
    let b = c.set_half.new.self in
    let d = c.unsent.new.self in
    let in_a : k < length a.processes.items.items = c.requires.there in
    let in_b = inside_still a b k (subst (λ (p : ℕ). RunsAt (change (Half (node_site a).number p Input)
    (Put (IsHalf (EnabledBy (name_at a k))))) a (Ok tt) c.set_half.new.self) c.requires.at
    c.set_half.ensures.sets).grows in_a in
    let p = err_from_is_err_and c.from_residual.result c.from_residual.ensures.1 in
    rw (p.1, p.2)
    (runs_then a b d k (change (Half (node_site a).number ch Input) (Put (IsHalf (EnabledBy (name_at a k))))) (asks ch)
    (tt) (subst (λ (p : ℕ). RunsAt (change (Half (node_site a).number p Input)
    (Put (IsHalf (EnabledBy (name_at a k))))) a (Ok tt) c.set_half.new.self) c.requires.at c.set_half.ensures.sets)
    in_a (Err (reason_of c.in_err-unsent.field-0.0))
    (runs_at_stop (unsent (node_site b) (word_number ch)) ((engages ch) (node_site b) (name_at b k)) b d
    (reason_of c.in_err-unsent.field-0.0) (subst (λ (n : ℕ). RunsAt (unsent (node_site b) n) b
    (Err (reason_of c.in_err-unsent.field-0.0)) c.unsent.new.self) c.requires.word c.in_err-unsent.ensures.done)))

pub returns : goal.returns
returns c =
    let a = c.args.self.now in let k = c.args.process in
    let ch : ℕ = c.args.channel in
    let b = c.set_half.new.self in
    let d = c.unsent.new.self in
    let in_a : k < length a.processes.items.items = c.requires.there in
    let in_b = inside_still a b k (subst (λ (p : ℕ). RunsAt (change (Half (node_site a).number p Input)
    (Put (IsHalf (EnabledBy (name_at a k))))) a (Ok tt) c.set_half.new.self) c.requires.at
    c.set_half.ensures.sets).grows in_a in
    let in_d = inside_still b d k (subst (λ (n : ℕ). RunsAt (unsent (node_site b) n) b (Ok tt) c.unsent.new.self)
    c.requires.word c.in_ok-unsent.ensures.done).grows in_b in
    let e = c.engage.new.self in
    (runs_then a b e k (change (Half (node_site a).number ch Input) (Put (IsHalf (EnabledBy (name_at a k))))) (asks ch)
    (tt) (subst (λ (p : ℕ). RunsAt (change (Half (node_site a).number p Input)
    (Put (IsHalf (EnabledBy (name_at a k))))) a (Ok tt) c.set_half.new.self) c.requires.at c.set_half.ensures.sets)
    in_a (Ok tt)
    (runs_then b d e k (unsent (node_site b) (word_number ch)) (engages ch) (tt)
    (subst (λ (n : ℕ). RunsAt (unsent (node_site b) n) b (Ok tt) c.unsent.new.self) c.requires.word
    c.in_ok-unsent.ensures.done) in_b (Ok tt)
    c.engage.ensures))
