use Rattle.std.proofs.Common.{refl, Some, None}
use Rattle.tverdict.specs.declared.machine.Machine.{Machine}
use Rattle.tverdict.proofs.Looked.{follows_still, found_follows, found_next, looked_twice, nobody_has}
use Rattle.tverdict.proofs.Looked.{taken_has, taken_sound}
use Rattle.tverdict.proofs.machine.Machine.next_agent.Goals as goal

pub returns-in-Some-clause-follows : goal.returns-in-Some-clause-follows
returns-in-Some-clause-follows c =
    follows_still c.args.plan.now c.args.self.now c.take_candidate.new.self c.take_candidate.ensures.looked c.requires
    c.take_candidate.ensures.sound

pub returns-in-Some-pop-clause-follows : goal.returns-in-Some-pop-clause-follows
returns-in-Some-pop-clause-follows c =
    let plan = c.args.plan.now in let old = c.args.self.now in let first = c.take_candidate.new.self in
    let mid = c.find_candidates.new.self in let new : Machine = record mid { candidates = c.pop.new.self } in
    let looked = looked_twice old first mid c.in_default.ensures.looked c.in_ok-find_candidates.ensures.looked in
    follows_still plan old new (looked_twice old mid new looked refl) c.requires
    (taken_sound plan mid new refl c.in_ok-find_candidates.ensures.sound (Some c.in-Some-pop.number)
    c.in-Some-pop.ensures.items)

pub returns-in-Some-pop-clause-next : goal.returns-in-Some-pop-clause-next
returns-in-Some-pop-clause-next c =
    let mid = c.find_candidates.new.self in let new : Machine = record mid { candidates = c.pop.new.self } in
    taken_has c.args.plan.now mid new c.in-Some-pop.number refl c.in_ok-find_candidates.ensures.ok
    c.in-Some-pop.ensures.items

pub returns-clause-follows : goal.returns-clause-follows
returns-clause-follows c =
    let plan = c.args.plan.now in let old = c.args.self.now in let first = c.take_candidate.new.self in
    let mid = c.find_candidates.new.self in let last : Machine = record mid { candidates = c.pop.new.self } in
    let looked = looked_twice old first mid c.in_default.ensures.looked c.in_ok-find_candidates.ensures.looked in
    let follows = follows_still plan old last (looked_twice old mid last looked refl) c.requires
    (taken_sound plan mid last refl c.in_ok-find_candidates.ensures.sound None c.in_default-pop.ensures.items) in
    found_follows plan last c.find_successor.new.self follows
    (nobody_has plan mid last refl c.in_ok-find_candidates.ensures.ok c.in_default-pop.ensures.cases.0)
    c.find_successor.result c.find_successor.ensures.found

pub returns-clause-next : goal.returns-clause-next
returns-clause-next c =
    let plan = c.args.plan.now in let old = c.args.self.now in let first = c.take_candidate.new.self in
    let mid = c.find_candidates.new.self in let last : Machine = record mid { candidates = c.pop.new.self } in
    let looked = looked_twice old first mid c.in_default.ensures.looked c.in_ok-find_candidates.ensures.looked in
    let follows = follows_still plan old last (looked_twice old mid last looked refl) c.requires
    (taken_sound plan mid last refl c.in_ok-find_candidates.ensures.sound None c.in_default-pop.ensures.items) in
    found_next plan last c.find_successor.new.self follows
    (nobody_has plan mid last refl c.in_ok-find_candidates.ensures.ok c.in_default-pop.ensures.cases.0)
    c.find_successor.result c.find_successor.ensures.found
