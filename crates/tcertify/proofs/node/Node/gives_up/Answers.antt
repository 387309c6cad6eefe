use Rattle.std.proofs.Common.{◌<◌, ℕ, subst, length, Bool, Ok, Err}
use Rattle.std.proofs.lemmas.Result.{err_from_is_err_and}
use Rattle.tword.specs.Stores.{Store}
use Rattle.tproc.specs.declared.channels.Side.TheVariants.{Input}
use Rattle.tprocesses.specs.Changes.{Put}
use Rattle.tprocesses.specs.Choosing as spec
use Rattle.tprocesses.specs.Parts.{Part, change, gives, ◌>>=◌}
use Rattle.tprocesses.specs.Places.{Name, Half}
use Rattle.tprocesses.specs.Touching.{Site, unsent, word_for, word_number}
use Rattle.tprocesses.specs.Values.{Engaged, IsHalf, Nobody}
use Rattle.tcertify.specs.Cells.{cells_of}
use Rattle.tcertify.specs.Nodes.{RunsAt, name_at, node_site}
use Rattle.tcertify.specs.Words.{reason_of}
use Rattle.tcertify.proofs.Following.{inside_still, runs_then}
use Rattle.tcertify.proofs.NodeRunning.{runs_at_given, runs_at_stop}
use Rattle.tcertify.proofs.node.Node.gives_up.Goals as goal

-- what follows each part
abbrev gives_back : Bool → Site → Name → Unit {0} → Part Bool
gives_back ready s x _ = gives ready

abbrev drops : (channel : ℕ) → Bool → Site → Name → Unit {0} → Part Bool
drops channel ready s x _ = spec.changes_ports x (spec.without_port channel) >>= gives_back ready s x

abbrev frees : (channel : ℕ) → Bool → Site → Name → Unit {0} → Part Bool
frees channel ready s x _ = spec.frees_word s channel ready >>= drops channel ready s x

abbrev sent : (channel : ℕ) → Bool → Site → Name → Store → Part Bool
sent channel ready s x _ = unsent s (word_number channel) >>= frees channel ready s x

abbrev used : (channel : ℕ) → Bool → Site → Name → Unit {0} → Part Bool
used channel ready s x _ = word_for s Engaged (word_number channel) >>= sent channel ready s x

pub returns-in_err-expect_word : goal.returns-in_err-expect_word
returns-in_err-expect_word c =
    let a = c.args.self.now in let k = c.args.process in
    let ch : ℕ = c.args.channel in let t = c.args.ready in
    let b = c.set_half.new.self in
    let d = c.expect_word.new.self in
    let in_a : k < length a.processes.items.items = c.requires.there in
    let in_b = inside_still a b k (subst (λ (p : ℕ). RunsAt (change (Half (node_site a).number p Input)
    (Put (IsHalf Nobody))) a (Ok tt) c.set_half.new.self) c.requires.at c.set_half.ensures.sets).grows in_a in
    let p = err_from_is_err_and c.from_residual.result c.from_residual.ensures.1 in
    rw (p.1, p.2)
    (runs_then a b d k (change (Half (node_site a).number ch Input) (Put (IsHalf Nobody))) (used ch t) (tt)
    (subst (λ (p : ℕ). RunsAt (change (Half (node_site a).number p Input) (Put (IsHalf Nobody))) a (Ok tt)
    c.set_half.new.self) c.requires.at c.set_half.ensures.sets) in_a (Err (reason_of c.in_err-expect_word.field-0.0))
    (runs_at_stop (word_for (node_site b) Engaged (word_number ch)) ((sent ch t) (node_site b) (name_at b k)) b d
    (reason_of c.in_err-expect_word.field-0.0) (subst (λ (n : ℕ). RunsAt (word_for (node_site b) Engaged n) b
    (Err (reason_of c.in_err-expect_word.field-0.0)) c.expect_word.new.self) c.requires.word
    c.in_err-expect_word.ensures.looks)))

pub returns-in_err-unsent : goal.returns-in_err-unsent
returns-in_err-unsent c =
    let a = c.args.self.now in let k = c.args.process in
    let ch : ℕ = c.args.channel in let t = c.args.ready in
    let b = c.set_half.new.self in
    let d = c.expect_word.new.self in
    let e = c.unsent.new.self in
    let in_a : k < length a.processes.items.items = c.requires.there in
    let in_b = inside_still a b k (subst (λ (p : ℕ). RunsAt (change (Half (node_site a).number p Input)
    (Put (IsHalf Nobody))) a (Ok tt) c.set_half.new.self) c.requires.at c.set_half.ensures.sets).grows in_a in
    let in_d = inside_still b d k (subst (λ (n : ℕ). RunsAt (word_for (node_site b) Engaged n) b
    (Ok (cells_of c.in_ok-expect_word.field-0)) c.expect_word.new.self) c.requires.word
    c.in_ok-expect_word.ensures.looks).grows in_b in
    let p = err_from_is_err_and c.from_residual-in_err-unsent.result c.from_residual-in_err-unsent.ensures.1 in
    rw (p.1, p.2)
    (runs_then a b e k (change (Half (node_site a).number ch Input) (Put (IsHalf Nobody))) (used ch t) (tt)
    (subst (λ (p : ℕ). RunsAt (change (Half (node_site a).number p Input) (Put (IsHalf Nobody))) a (Ok tt)
    c.set_half.new.self) c.requires.at c.set_half.ensures.sets) in_a (Err (reason_of c.in_err-unsent.field-0.0))
    (runs_then b d e k (word_for (node_site b) Engaged (word_number ch)) (sent ch t)
    (cells_of c.in_ok-expect_word.field-0) (subst (λ (n : ℕ). RunsAt (word_for (node_site b) Engaged n) b
    (Ok (cells_of c.in_ok-expect_word.field-0)) c.expect_word.new.self) c.requires.word
    c.in_ok-expect_word.ensures.looks) in_b (Err (reason_of c.in_err-unsent.field-0.0))
    (runs_at_stop (unsent (node_site d) (word_number ch)) ((frees ch t) (node_site d) (name_at d k)) d e
    (reason_of c.in_err-unsent.field-0.0) (subst (λ (n : ℕ). RunsAt (unsent (node_site d) n) d
    (Err (reason_of c.in_err-unsent.field-0.0)) c.unsent.new.self) c.requires.word c.in_err-unsent.ensures.done))))

pub returns : goal.returns
returns c =
    let a = c.args.self.now in let k = c.args.process in
    let ch : ℕ = c.args.channel in let t = c.args.ready in
    let b = c.set_half.new.self in
    let d = c.expect_word.new.self in
    let e = c.unsent.new.self in
    let f = c.frees_word.new.self in
    let g = c.drops_port.new.self in
    let in_a : k < length a.processes.items.items = c.requires.there in
    let in_b = inside_still a b k (subst (λ (p : ℕ). RunsAt (change (Half (node_site a).number p Input)
    (Put (IsHalf Nobody))) a (Ok tt) c.set_half.new.self) c.requires.at c.set_half.ensures.sets).grows in_a in
    let in_d = inside_still b d k (subst (λ (n : ℕ). RunsAt (word_for (node_site b) Engaged n) b
    (Ok (cells_of c.in_ok-expect_word.field-0)) c.expect_word.new.self) c.requires.word
    c.in_ok-expect_word.ensures.looks).grows in_b in
    let in_e = inside_still d e k (subst (λ (n : ℕ). RunsAt (unsent (node_site d) n) d (Ok tt) c.unsent.new.self)
    c.requires.word c.in_ok-unsent.ensures.done).grows in_d in
    let in_f = inside_still e f k (c.frees_word.ensures).grows in_e in
    let in_g = inside_still f g k (c.drops_port.ensures).grows in_f in
    (runs_then a b g k (change (Half (node_site a).number ch Input) (Put (IsHalf Nobody))) (used ch t) (tt)
    (subst (λ (p : ℕ). RunsAt (change (Half (node_site a).number p Input) (Put (IsHalf Nobody))) a (Ok tt)
    c.set_half.new.self) c.requires.at c.set_half.ensures.sets) in_a (Ok t)
    (runs_then b d g k (word_for (node_site b) Engaged (word_number ch)) (sent ch t)
    (cells_of c.in_ok-expect_word.field-0) (subst (λ (n : ℕ). RunsAt (word_for (node_site b) Engaged n) b
    (Ok (cells_of c.in_ok-expect_word.field-0)) c.expect_word.new.self) c.requires.word
    c.in_ok-expect_word.ensures.looks) in_b (Ok t)
    (runs_then d e g k (unsent (node_site d) (word_number ch)) (frees ch t) (tt)
    (subst (λ (n : ℕ). RunsAt (unsent (node_site d) n) d (Ok tt) c.unsent.new.self) c.requires.word
    c.in_ok-unsent.ensures.done) in_d (Ok t)
    (runs_then e f g k (spec.frees_word (node_site e) ch t) (drops ch t) (tt) (c.frees_word.ensures) in_e (Ok t)
    (runs_then f g g k (spec.changes_ports (name_at f k) (spec.without_port ch)) (gives_back t) (tt)
    (c.drops_port.ensures) in_f (Ok t)
    (runs_at_given t g))))))
