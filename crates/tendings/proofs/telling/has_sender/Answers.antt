use Rattle.std.proofs.Common.{◌≡◌, ◌∙◌, false, rules, tests}
use Rattle.std.specs.List.{list_any}
use Rattle.std.specs.Option.{option_map_or}
use Rattle.std.proofs.lemmas.Iterator.{YieldsList-from_slice}
use Rattle.std.proofs.lemmas.Iterator.Search.{any_from_yields_List}
use Rattle.tproc.specs.declared.waiter.Entry.{Entry}
use Rattle.tproc.specs.declared.waiter.Waiter.{Waiter}
use Rattle.tproc.specs.Entries.{waiter_of}
use Rattle.tendings.specs.Tellings.{is_sending}
use Rattle.tendings.proofs.EntryTests.{any_kept}
use Rattle.tendings.proofs.telling.has_sender.Goals as goal

pub returns : goal.returns
returns c =
    let any : c.any.result
    ≡ list_any (λ (e : Entry). option_map_or (λ (w : Waiter). is_sending w.reason) (waiter_of e) false)
    c.args.entries.now =
    any_from_yields_List _ _ _ _ c.any.ensures.ran (YieldsList-from_slice c.args.entries.now cc)
    (λ x b q k. search (rules, tests)) in
    any ∙ any_kept waiter_of (λ (w : Waiter). is_sending w.reason) c.args.entries.now
