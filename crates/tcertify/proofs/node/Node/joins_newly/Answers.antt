use Rattle.std.proofs.Common.{◌≡◌, refl, sym, ap, ◌∙◌, subst, length, length-append, arith, rules, List, [], ◌∷◌, Some}
use Rattle.std.specs.Prelude.{slice_get, option_map}
use Rattle.std.proofs.lemmas.Option.{slice_get-map}
use Rattle.tcertify.specs.declared.lead.Lead.TheVariants as lead
use Rattle.tcertify.specs.declared.node.Node.{Node}
use Rattle.tcertify.specs.declared.notes.Mode.TheVariants.{Puts}
use Rattle.tcertify.specs.declared.process.Process.{Process}
use Rattle.tcertify.specs.Nodes.{names, node_at}
use Rattle.tcertify.specs.Processes.{name_of}
use Rattle.tcertify.specs.Standing.{stand_of}
use Rattle.tcertify.proofs.Growing.{channel_key, life_key, numbers_before, process_key, stays_on}
use Rattle.tcertify.proofs.Keeping.{IsKept, get_pushed, kept_all, kept_push}
use Rattle.tcertify.proofs.NodeChanging.{tells_still, told_stays}
use Rattle.tcertify.proofs.NodeJoining.{absent_seen, joined_state, joins_at}
use Rattle.tcertify.proofs.NodeRunning.{keeps_on}
use Rattle.tcertify.proofs.NodeStands.{known_more}
use Rattle.tcertify.proofs.node.Node.joins_newly.Goals as goal

pub invariant_of-self : goal.invariant_of-self
invariant_of-self c =
    let a = c.args.self.now in let ps = a.processes.items.items in
    record {
      placed = a.placed;
      known = known_more (length ps) (length c.push.new.self.items.items) a.channels.items.items a.links
          (omega (arith, ap length c.in_err-push.ensures.err)) a.known;
    }

pub invariant_of-self-2 : goal.invariant_of-self-2
invariant_of-self-2 c =
    let a = c.args.self.now in let ps = a.processes.items.items in (
      (a.words.sized, (a.words.numbered, tt)),
      (
        a.placed,
        (
          known_more (length ps) (length c.push.new.self.items.items) a.channels.items.items a.links
              (omega (arith, ap length c.in_ok-push.ensures.ok, length-append ps (c.args.process ∷ []))) a.known,
          tt,
        ),
      ),
    )

pub returns : goal.returns
returns c =
    let a = c.args.self.now in let b = c.note_lead.new.self in let p = c.args.process in let n = a.words.number in
    let ps = a.processes.items.items in let qs = c.push.new.self.items.items in
    let pushed = c.in_ok-push.ensures.ok in let told = c.note_lead.ensures in let j = c.in-Ok.number in
    let there : slice_get qs (length ps) ≡ Some p =
    ap (λ (rs : List Process). slice_get rs (length ps)) pushed ∙ get_pushed ps p in
    let at : j ≡ length ps = search rules in
    joins_at a b (name_of n p) (stand_of p.stand) j p.place
    (stays_on a _ b
    (record {
      site = refl;
      first = refl;
      fixed = refl;
      processes = subst (λ (rs : List Process). IsKept process_key ps rs) (sym pushed) (kept_push process_key ps p);
      channels = kept_all channel_key a.channels.items.items;
      lives = kept_all life_key a.lives.items.items;
    }) (told_stays _ b (lead.Process j) told))
    (λ rest. ap (λ (m : Node). node_at m rest) told.same ∙ joined_state a p c.requires.new c.requires.none qs pushed
    rest)
    (λ rest. absent_seen a p c.requires.new c.requires.none rest)
    (keeps_on a.words.notes _ b.words.notes c.add.ensures.keeps told.keeps)
    (tells_still _ b (lead.Process j) p.place Puts told c.add.ensures.tells)
    (λ numbering h. (numbers_before _ b (told_stays _ b (lead.Process j) told) numbering h).stand (length ps) p there)
    (ap (λ (m : Node). slice_get (names m) j) told.same ∙ slice_get-map (name_of n) qs j
    ∙ ap (option_map (name_of n)) (ap (slice_get qs) at ∙ there))
    (λ l old. told.leads l old)
