use Rattle.std.proofs.Common.{◌≡◌, ◌∙◌, ◌+◌, ◌||◌, Bool, List, ap, sym, drop, length}
use Rattle.std.specs.Prelude.{nat_lt}
use Rattle.std.specs.List.{list_any}
use Rattle.tproc.specs.Entries.{waiting_in}
use Rattle.tproc.specs.declared.waiter.Entry.{Entry}
use Rattle.tproc.specs.declared.waiter.Waiter.{Waiter}
use Rattle.tnet.specs.Rendezvous.{Node}
use Rattle.tendings.specs.Tellings.{offers, offers_at_link, offers_within, waiting, waits}
use Rattle.tendings.proofs.NodeLists.{any_later}
use Rattle.tendings.proofs.telling.rest_of.Goals as goal

pub loop-number-preserved : goal.loop-number-preserved
loop-number-preserved c =
    let nodes : List Node = c.args.state.now.nodes in
    let s : Node = c.site-site.result.now in
    let there : waiting_in c.as_slice-entries.result.now ≡ waiting s =
    ap (λ (es : List Entry). waiting_in es) c.as_slice-entries.ensures.value ∙ c.in_ok-entries.ensures in
    let offer : c.has_offer.result ≡ offers s =
    c.has_offer.ensures ∙ ap (λ (ws : List Waiter). offers_at_link s || offers_within ws) there in
    let wait : c.has_waiting.result ≡ waits s =
    c.has_waiting.ensures ∙ ap (λ (ws : List Waiter). nat_lt 0 (length ws)) there in (
      any_later offers c.loop-number.number nodes s c.loop-number.offers c.site-site.ensures c.loop-number.invariant.0
          ∙ ap (λ (b : Bool). b || list_any offers (drop (c.loop-number.number + 1) nodes))
          (sym (c.either-offers.ensures ∙ ap (λ (b : Bool). c.loop-number.offers || b) offer)),
      any_later waits c.loop-number.number nodes s c.loop-number.waits c.site-site.ensures c.loop-number.invariant.1
          ∙ ap (λ (b : Bool). b || list_any waits (drop (c.loop-number.number + 1) nodes))
          (sym (c.either-waits.ensures ∙ ap (λ (b : Bool). c.loop-number.waits || b) wait)),
    )
