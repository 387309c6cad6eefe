use Rattle.std.proofs.Common.{ℕ, List, [], ◌∷◌, Contains, None}
use Rattle.std.proofs.lemmas.Result.{err_from_is_err_and}
use Rattle.tclocks.proofs.Lists.{contains-first, contains-rest}
use Rattle.tverdict.proofs.Keeping.{more_twice}
use Rattle.tverdict.proofs.Over.{agent_there, clock_there, finished_at, kept_closed, lodged_more, places_more}
use Rattle.tverdict.proofs.Over.{slot_still, untold_at_more}
use Rattle.tverdict.proofs.machine.Machine.finish_at.Goals as goal

pub tell_at-requires : goal.tell_at-requires
tell_at-requires c =
    let (plan, done) = c.requires in let n = c.args.one in let o = c.args.other in let number = c.args.number in
    let (count, adds) = c.in_ok-add_places.ensures in let (count', adds') = c.in_ok-add_places-2.ensures in
    let m = c.args.self.now in let a = c.add_places.new.self in let b = c.add_places-2.new.self in
    let others = c.args.others.now in let list : List ℕ = n ∷ o ∷ [] in
    let u = untold_at_more a b count' adds' plan number n o others
    (untold_at_more m a count adds plan number n o others done.untold) in
    (plan, u)

pub returns-in_err-tell_at-clause-stepped : goal.returns-in_err-tell_at-clause-stepped
returns-in_err-tell_at-clause-stepped c =
    let p = err_from_is_err_and c.from_residual-in_err-tell_at.result c.from_residual-in_err-tell_at.ensures.1 in
    rw (p.1, p.2) (λ plan done.
    let n = c.args.one in let o = c.args.other in let number = c.args.number in
    let (count, adds) = c.in_ok-add_places.ensures in let (count', adds') = c.in_ok-add_places-2.ensures in
    let m = c.args.self.now in let a = c.add_places.new.self in let b = c.add_places-2.new.self in
    c.in_err-tell_at.ensures.err plan (untold_at_more a b count' adds' plan number n o c.args.others.now
    (untold_at_more m a count adds plan number n o c.args.others.now done.untold)))

pub lead_on-requires : goal.lead_on-requires
lead_on-requires c =
    let (plan, done) = c.requires in let n = c.args.one in let o = c.args.other in let number = c.args.number in
    let (count, adds) = c.in_ok-add_places.ensures in let (count', adds') = c.in_ok-add_places-2.ensures in
    let m = c.args.self.now in let a = c.add_places.new.self in let b = c.add_places-2.new.self in
    let others = c.args.others.now in let list : List ℕ = n ∷ o ∷ [] in
    let u = untold_at_more a b count' adds' plan number n o others
    (untold_at_more m a count adds plan number n o others done.untold) in
    let here : Contains list n = contains-first n (o ∷ []) in
    let there : Contains list o = contains-rest n (o ∷ []) o (contains-first o []) in
    let t = c.in_ok-tell_at.ensures.ok plan u in
    (plan, list, here, t)

pub lead_on-requires-2 : goal.lead_on-requires-2
lead_on-requires-2 c =
    let (plan, done) = c.requires in let n = c.args.one in let o = c.args.other in let number = c.args.number in
    let (count, adds) = c.in_ok-add_places.ensures in let (count', adds') = c.in_ok-add_places-2.ensures in
    let m = c.args.self.now in let a = c.add_places.new.self in let b = c.add_places-2.new.self in
    let others = c.args.others.now in let list : List ℕ = n ∷ o ∷ [] in
    let u = untold_at_more a b count' adds' plan number n o others
    (untold_at_more m a count adds plan number n o others done.untold) in
    let here : Contains list n = contains-first n (o ∷ []) in
    let there : Contains list o = contains-rest n (o ∷ []) o (contains-first o []) in
    let t = c.in_ok-tell_at.ensures.ok plan u in
    (plan, list, there, c.in_ok-lead_on.ensures.told plan list here t)

pub find_new-requires : goal.find_new-requires
find_new-requires c =
    let (plan, done) = c.requires in let n = c.args.one in let o = c.args.other in let number = c.args.number in
    let (count, adds) = c.in_ok-add_places.ensures in let (count', adds') = c.in_ok-add_places-2.ensures in
    let m = c.args.self.now in let a = c.add_places.new.self in let b = c.add_places-2.new.self in
    let others = c.args.others.now in let list : List ℕ = n ∷ o ∷ [] in
    let u = untold_at_more a b count' adds' plan number n o others
    (untold_at_more m a count adds plan number n o others done.untold) in
    let here : Contains list n = contains-first n (o ∷ []) in
    let there : Contains list o = contains-rest n (o ∷ []) o (contains-first o []) in
    let t = c.in_ok-tell_at.ensures.ok plan u in (
      plan,
      list,
      here,
      c.in_ok-lead_on-2.ensures.told plan list there
          (c.in_ok-lead_on.ensures.told plan list here t),
    )

pub find_new-requires-2 : goal.find_new-requires-2
find_new-requires-2 c =
    let (plan, done) = c.requires in let n = c.args.one in let o = c.args.other in let number = c.args.number in
    let (count, adds) = c.in_ok-add_places.ensures in let (count', adds') = c.in_ok-add_places-2.ensures in
    let m = c.args.self.now in let a = c.add_places.new.self in let b = c.add_places-2.new.self in
    let others = c.args.others.now in let list : List ℕ = n ∷ o ∷ [] in
    let u = untold_at_more a b count' adds' plan number n o others
    (untold_at_more m a count adds plan number n o others done.untold) in
    let here : Contains list n = contains-first n (o ∷ []) in
    let there : Contains list o = contains-rest n (o ∷ []) o (contains-first o []) in
    let t = c.in_ok-tell_at.ensures.ok plan u in (
      plan,
      list,
      there,
      c.in_ok-find_new.ensures.keeps.told plan list here
          (c.in_ok-lead_on-2.ensures.told plan list there
          (c.in_ok-lead_on.ensures.told plan list here t)),
    )

pub lodge_both-requires-clause-agent : goal.lodge_both-requires-clause-agent
lodge_both-requires-clause-agent c =
    let (plan, done) = c.requires in let n = c.args.one in let o = c.args.other in let number = c.args.number in
    let (count, adds) = c.in_ok-add_places.ensures in let (count', adds') = c.in_ok-add_places-2.ensures in
    let m = c.args.self.now in let a = c.add_places.new.self in let b = c.add_places-2.new.self in
    let others = c.args.others.now in let list : List ℕ = n ∷ o ∷ [] in
    let u = untold_at_more a b count' adds' plan number n o others
    (untold_at_more m a count adds plan number n o others done.untold) in
    let here : Contains list n = contains-first n (o ∷ []) in
    let there : Contains list o = contains-rest n (o ∷ []) o (contains-first o []) in
    let t = c.in_ok-tell_at.ensures.ok plan u in
    agent_there plan number list c.find_new-2.new.self (c.in_ok-find_new-2.ensures.keeps.told plan list there
    (c.in_ok-find_new.ensures.keeps.told plan list here
    (c.in_ok-lead_on-2.ensures.told plan list there
    (c.in_ok-lead_on.ensures.told plan list here t))))

pub lodge_both-requires-clause-clock : goal.lodge_both-requires-clause-clock
lodge_both-requires-clause-clock c =
    let (plan, done) = c.requires in let n = c.args.one in let o = c.args.other in let number = c.args.number in
    let (count, adds) = c.in_ok-add_places.ensures in let (count', adds') = c.in_ok-add_places-2.ensures in
    let m = c.args.self.now in let a = c.add_places.new.self in let b = c.add_places-2.new.self in
    let others = c.args.others.now in let list : List ℕ = n ∷ o ∷ [] in
    let u = untold_at_more a b count' adds' plan number n o others
    (untold_at_more m a count adds plan number n o others done.untold) in
    let here : Contains list n = contains-first n (o ∷ []) in
    let there : Contains list o = contains-rest n (o ∷ []) o (contains-first o []) in
    let t = c.in_ok-tell_at.ensures.ok plan u in
    clock_there plan number list c.find_new-2.new.self (c.in_ok-find_new-2.ensures.keeps.told plan list there
    (c.in_ok-find_new.ensures.keeps.told plan list here
    (c.in_ok-lead_on-2.ensures.told plan list there
    (c.in_ok-lead_on.ensures.told plan list here t))))

pub close-requires : goal.close-requires
close-requires c =
    let (plan, done) = c.requires in let n = c.args.one in let o = c.args.other in let number = c.args.number in
    let (count, adds) = c.in_ok-add_places.ensures in let (count', adds') = c.in_ok-add_places-2.ensures in
    let m = c.args.self.now in let a = c.add_places.new.self in let b = c.add_places-2.new.self in
    let others = c.args.others.now in let list : List ℕ = n ∷ o ∷ [] in
    let u = untold_at_more a b count' adds' plan number n o others
    (untold_at_more m a count adds plan number n o others done.untold) in
    let here : Contains list n = contains-first n (o ∷ []) in
    let there : Contains list o = contains-rest n (o ∷ []) o (contains-first o []) in
    let t = c.in_ok-tell_at.ensures.ok plan u in
    slot_still plan number list c.find_new-2.new.self c.lodge_both.new.self
    (c.in_ok-find_new-2.ensures.keeps.told plan list there
    (c.in_ok-find_new.ensures.keeps.told plan list here
    (c.in_ok-lead_on-2.ensures.told plan list there
    (c.in_ok-lead_on.ensures.told plan list here t))))
    c.in_ok-lodge_both.ensures

pub returns-clause-stepped : goal.returns-clause-stepped
returns-clause-stepped c = λ plan done.
    let n = c.args.one in let o = c.args.other in let number = c.args.number in
    let (count, adds) = c.in_ok-add_places.ensures in let (count', adds') = c.in_ok-add_places-2.ensures in
    let m = c.args.self.now in let a = c.add_places.new.self in let b = c.add_places-2.new.self in
    let others = c.args.others.now in
    let u = untold_at_more a b count' adds' plan number n o others
    (untold_at_more m a count adds plan number n o others done.untold) in
    finished_at plan number n c.args.before.0.processes c.args.before.0.channels o c.args.before.1.processes
    c.args.before.1.channels others m b c.tell_at.new.self c.lead_on.new.self c.lead_on-2.new.self c.find_new.new.self
    c.find_new-2.new.self c.lodge_both.new.self c.close.new.self done
    (more_twice m a b (places_more m a count adds) (places_more a b count' adds')) c.in_ok-tell_at.ensures.more
    (c.in_ok-tell_at.ensures.ok plan u) c.in_ok-lead_on.ensures c.in_ok-lead_on-2.ensures
    c.in_ok-find_new.ensures.keeps c.in_ok-find_new.ensures.processes c.in_ok-find_new.ensures.channels
    c.in_ok-find_new-2.ensures.keeps c.in_ok-find_new-2.ensures.processes c.in_ok-find_new-2.ensures.channels
    c.in_ok-lodge_both.ensures c.in_ok-close.ensures

pub returns-clause-kept : goal.returns-clause-kept
returns-clause-kept c =
    let m = c.args.self.now in let a = c.add_places.new.self in let b = c.add_places-2.new.self in
    let (count, adds) = c.in_ok-add_places.ensures in let (count', adds') = c.in_ok-add_places-2.ensures in
    let told = c.tell_at.new.self in let led = c.lead_on.new.self in let over = c.lead_on-2.new.self in
    let one = c.find_new.new.self in let two = c.find_new-2.new.self in
    let lodged = c.lodge_both.new.self in
    kept_closed c.args.number None m lodged c.close.new.self
    (more_twice m two lodged
    (more_twice m one two (more_twice m over one (more_twice m led over (more_twice m told led (more_twice m b told
    (more_twice m a b (places_more m a count adds) (places_more a b count' adds')) c.in_ok-tell_at.ensures.more)
    c.in_ok-lead_on.ensures.more) c.in_ok-lead_on-2.ensures.more) c.in_ok-find_new.ensures.keeps.more)
    c.in_ok-find_new-2.ensures.keeps.more)
    (lodged_more c.args.number (c.args.one ∷ c.args.other ∷ []) two lodged c.in_ok-lodge_both.ensures))
    c.in_ok-close.ensures
