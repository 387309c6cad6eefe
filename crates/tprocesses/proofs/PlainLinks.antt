-- Wires, and processes that listen, begin and end no process, and move none to another workspace.
use Rattle.std.proofs.Common.{ℕ, Option, Some, None}
use Rattle.std.specs.Prelude.{not}
use Rattle.tproc.specs.declared.channels.Side.TheVariants.{Input}
use Rattle.tproc.specs.LinkChannels.{link_of}
use Rattle.tplan.specs.declared.plan.End.{End}
use Rattle.tplan.specs.declared.plan.Plan.{Plan}
use Rattle.tplan.specs.Wires.{end_at}
use Rattle.tprocesses.specs.Places.{Name}
use Rattle.tprocesses.specs.Values.{Context, stand_in, link_in}
use Rattle.tprocesses.specs.Parts.{require, SeveralReady, HasNoStep}
use Rattle.tprocesses.specs.Touching.{Site}
use Rattle.tprocesses.specs.Choosing.{is_unfired_by, goes_on_unfired, waiting, fires}
use Rattle.tprocesses.specs.Machine.{Role, Processor, Source, Sink, Nothing, role_at, sender_to, sends, receives, asks}
use Rattle.tprocesses.specs.Machine.{offer_place, is_passable, crosses, passes, requires_no_sender, listens}
use Rattle.tprocesses.proofs.Quiet.{IsPlain, Quiet, both, requires}
use Rattle.tprocesses.proofs.Plain.{Plain, quietly, send, take_in}
use Rattle.tprocesses.proofs.PlainChoices.{waits}

-- a wire that copies, or makes a process go on
pub ask : (r : Role) (e : End) → Quiet (asks r e)
ask Processor e = λ half. tt
ask Source e = tt
ask Sink e = tt
ask Nothing e = tt

fire : (e : End) (x : Name) → Plain (fires e x)
fire e x = λ stood. quietly (waiting (stand_in stood)) _ (waits (stand_in stood)) (λ c. (tt, (tt, tt)))

cross : (p : Plan) (f e : End) (asked : Option Name) → Plain (crosses p f e asked)
cross p f e None =
    both IsPlain (sends p (role_at p f.node) f) _ (send p (role_at p f.node) f)
    (λ message. both IsPlain (receives p (role_at p e.node) e message) _ (take_in p (role_at p e.node) e message)
    (λ y. tt))
cross p f e (Some x) =
    λ v. quietly (require (is_passable (offer_place (role_at p f.node) f) v) HasNoStep) _
    (requires (is_passable (offer_place (role_at p f.node) f) v) HasNoStep) (λ y. fire e x)

pub pass : (p : Plan) (f : Option End) (e : End) → Plain (passes p f e)
pass p None e = tt
pass p (Some f) e = quietly (asks (role_at p e.node) e) _ (ask (role_at p e.node) e) (λ asked. cross p f e asked)

-- a process that listens
pub no_sender : (p : Plan) (f : Option End) → Quiet (requires_no_sender p f)
no_sender p (Some f) = λ v. requires (not (is_passable (offer_place (role_at p f.node) f) v)) SeveralReady
no_sender p None = tt

go_on_unfired : (s : Site) (x : Name) (channel : ℕ) (c : Context) → Plain (goes_on_unfired s x channel c)
go_on_unfired s x channel c = λ pending.
    quietly (require (is_unfired_by x (link_in pending)) HasNoStep) _
    (requires (is_unfired_by x (link_in pending)) HasNoStep)
    (λ y. (tt, (λ ports. (tt, (tt, tt)))))

pub listen : (p : Plan) (x : Name) (channel : ℕ) (c : Context) (s : Site) → Plain (listens p x channel c s)
listen p x channel c s =
    quietly (requires_no_sender p (sender_to p (end_at x.node (link_of Input channel)))) _
    (no_sender p (sender_to p (end_at x.node (link_of Input channel)))) (λ y. go_on_unfired s x channel c)
