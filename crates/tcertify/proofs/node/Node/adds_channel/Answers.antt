use Rattle.std.proofs.Common.{◌≡◌, ℕ, refl, sym, ap, subst, ◌∙◌, length, arith, rules, List, [], ◌∷◌, ◌++◌}
use Rattle.std.proofs.Common.{length-append}
use Rattle.std.specs.Prelude.{slice_get}
use Rattle.tcertify.specs.declared.channel.Channel.{Channel}
use Rattle.tcertify.specs.Channels.{free_channel}
use Rattle.tcertify.proofs.Growing.{process_key, channel_key, life_key}
use Rattle.tcertify.proofs.Keeping.{IsKept, get_pushed, kept_all, kept_push}
use Rattle.tcertify.proofs.NodeChanging.{grows_alone}
use Rattle.tcertify.proofs.NodeChannels.{address_in, channel_state}
use Rattle.tcertify.proofs.node.Node.adds_channel.Goals as goal

pub returns-clause-done : goal.returns-clause-done
returns-clause-done c =
    let a = c.args.self.now in let cs = a.channels.items.items in let e = c.in_ok-push.ensures.ok in
    let d : Channel = free_channel c.args.address c.in-Some.input_place c.in-Some-next_place.output_place in
    grows_alone a _
    (record {
      site = refl;
      first = refl;
      fixed = refl;
      processes = kept_all process_key a.processes.items.items;
      channels = subst (λ (es : List Channel). IsKept channel_key cs es) (sym e) (kept_push channel_key cs d);
      lives = kept_all life_key a.lives.items.items;
    })
    (λ rest. channel_state a d c.requires refl refl c.push.new.self.items.items e rest) refl refl

pub returns-clause-there : goal.returns-clause-there
returns-clause-there c =
    let a = c.args.self.now in let cs = a.channels.items.items in let e = c.in_ok-push.ensures.ok in
    let d : Channel = free_channel c.args.address c.in-Some.input_place c.in-Some-next_place.output_place in
    let at : c.in-Ok.number ≡ length cs = search rules in (
      omega (arith, at, ap length e, length-append cs (d ∷ [])),
      address_in c.push.new.self.items.items c.in-Ok.number d
          (ap (λ (es : List Channel). slice_get es c.in-Ok.number) e
          ∙ ap (λ (n : ℕ). slice_get (cs ++ d ∷ []) n) at ∙ get_pushed cs d),
    )
