use Rattle.std.proofs.Common.{◌≡◌, ◌∙◌, is_some, rules, tests}
use Rattle.std.specs.List.{list_any}
use Rattle.std.proofs.lemmas.Iterator.{YieldsList-from_slice}
use Rattle.std.proofs.lemmas.Iterator.Search.{any_from_yields_List}
use Rattle.tproc.specs.declared.waiter.Entry.{Entry}
use Rattle.tproc.specs.Entries.{waiter_of}
use Rattle.tendings.proofs.EntryTests.{some_kept}
use Rattle.tendings.proofs.telling.has_waiting.Goals as goal

pub returns : goal.returns
returns c =
    let any : c.any.result ≡ list_any (λ (e : Entry). is_some (waiter_of e)) c.args.entries.now =
    any_from_yields_List _ _ _ _ c.any.ensures.ran (YieldsList-from_slice c.args.entries.now cc)
    (λ x b q k. search (rules, tests)) in
    any ∙ some_kept waiter_of c.args.entries.now
