use Rattle.std.proofs.Common.{[], ◌∷◌, Some}
use Rattle.std.proofs.lemmas.Result.{err_from_is_err_and}
use Rattle.tclocks.proofs.Lists.{contains-first}
use Rattle.tverdict.proofs.Keeping.{more_twice}
use Rattle.tverdict.proofs.Over.{agent_there, clock_there, finished, kept_closed, lodged_more, places_more}
use Rattle.tverdict.proofs.Over.{slot_still, untold_more}
use Rattle.tverdict.proofs.machine.Machine.finish.Goals as goal

pub tell-requires : goal.tell-requires
tell-requires c =
    let (plan, done) = c.requires in let (count, adds) = c.in_ok-add_places.ensures in
    (plan, untold_more c.args.self.now c.add_places.new.self count adds plan c.args.number c.args.node done.untold)

pub returns-in_err-tell-clause-stepped : goal.returns-in_err-tell-clause-stepped
returns-in_err-tell-clause-stepped c =
    let p = err_from_is_err_and c.from_residual-in_err-tell.result c.from_residual-in_err-tell.ensures.1 in
    rw (p.1, p.2) (λ plan done.
    let (count, adds) = c.in_ok-add_places.ensures in
    c.in_err-tell.ensures.err plan
    (untold_more c.args.self.now c.add_places.new.self count adds plan c.args.number c.args.node done.untold))

pub lead_on-requires : goal.lead_on-requires
lead_on-requires c =
    let (plan, done) = c.requires in let (count, adds) = c.in_ok-add_places.ensures in
    let n = c.args.node in
    let u = untold_more c.args.self.now c.add_places.new.self count adds plan c.args.number n done.untold in
    let here = contains-first n [] in
    let told = c.in_ok-tell.ensures.ok plan u in
    (plan, n ∷ [], here, told)

pub find_new-requires : goal.find_new-requires
find_new-requires c =
    let (plan, done) = c.requires in let (count, adds) = c.in_ok-add_places.ensures in
    let n = c.args.node in
    let u = untold_more c.args.self.now c.add_places.new.self count adds plan c.args.number n done.untold in
    let here = contains-first n [] in
    let told = c.in_ok-tell.ensures.ok plan u in
    (plan, n ∷ [], here, c.in_ok-lead_on.ensures.told plan (n ∷ []) here told)

pub lodge-requires-clause-agent : goal.lodge-requires-clause-agent
lodge-requires-clause-agent c =
    let (plan, done) = c.requires in let (count, adds) = c.in_ok-add_places.ensures in
    let n = c.args.node in
    let u = untold_more c.args.self.now c.add_places.new.self count adds plan c.args.number n done.untold in
    let here = contains-first n [] in
    let told = c.in_ok-tell.ensures.ok plan u in
    agent_there plan c.args.number (n ∷ []) c.find_new.new.self (c.in_ok-find_new.ensures.keeps.told plan (n ∷ []) here
    (c.in_ok-lead_on.ensures.told plan (n ∷ []) here told))

pub lodge-requires-clause-clock : goal.lodge-requires-clause-clock
lodge-requires-clause-clock c =
    let (plan, done) = c.requires in let (count, adds) = c.in_ok-add_places.ensures in
    let n = c.args.node in
    let u = untold_more c.args.self.now c.add_places.new.self count adds plan c.args.number n done.untold in
    let here = contains-first n [] in
    let told = c.in_ok-tell.ensures.ok plan u in
    clock_there plan c.args.number (n ∷ []) c.find_new.new.self (c.in_ok-find_new.ensures.keeps.told plan (n ∷ []) here
    (c.in_ok-lead_on.ensures.told plan (n ∷ []) here told))

pub close-requires : goal.close-requires
close-requires c =
    let (plan, done) = c.requires in let (count, adds) = c.in_ok-add_places.ensures in
    let n = c.args.node in
    let u = untold_more c.args.self.now c.add_places.new.self count adds plan c.args.number n done.untold in
    let here = contains-first n [] in
    let told = c.in_ok-tell.ensures.ok plan u in
    slot_still plan c.args.number (n ∷ []) c.find_new.new.self c.lodge.new.self
    (c.in_ok-find_new.ensures.keeps.told plan (n ∷ []) here
    (c.in_ok-lead_on.ensures.told plan (n ∷ []) here told)) c.in_ok-lodge.ensures

pub returns-clause-stepped : goal.returns-clause-stepped
returns-clause-stepped c = λ plan done.
    let m = c.args.self.now in let number = c.args.number in let n = c.args.node in
    let (count, adds) = c.in_ok-add_places.ensures in let placed = c.add_places.new.self in
    finished plan number n c.args.before.processes c.args.before.channels m placed c.tell.new.self
    c.lead_on.new.self c.find_new.new.self c.lodge.new.self c.close.new.self done
    (places_more m placed count adds) c.in_ok-tell.ensures.more
    (c.in_ok-tell.ensures.ok plan (untold_more m placed count adds plan number n done.untold))
    c.in_ok-lead_on.ensures c.in_ok-find_new.ensures.keeps c.in_ok-find_new.ensures.processes
    c.in_ok-find_new.ensures.channels c.in_ok-lodge.ensures c.in_ok-close.ensures

pub returns-clause-kept : goal.returns-clause-kept
returns-clause-kept c =
    let m = c.args.self.now in let (count, adds) = c.in_ok-add_places.ensures in let placed = c.add_places.new.self in
    let led = c.lead_on.new.self in let found = c.find_new.new.self in let lodged = c.lodge.new.self in
    kept_closed c.args.number (Some (record { number = c.args.number; node = c.args.node })) m lodged c.close.new.self
    (more_twice m found lodged
    (more_twice m led found
    (more_twice m c.tell.new.self led
    (more_twice m placed c.tell.new.self (places_more m placed count adds) c.in_ok-tell.ensures.more)
    c.in_ok-lead_on.ensures.more) c.in_ok-find_new.ensures.keeps.more)
    (lodged_more c.args.number (c.args.node ∷ []) found lodged c.in_ok-lodge.ensures)) c.in_ok-close.ensures
