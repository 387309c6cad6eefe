-- Alternatives over links, part by part.
use Rattle.std.proofs.Common.{◌≡◌, ◌<◌, ℕ, refl, sym, ap, ◌∙◌, subst, length, Bool, true, false, List, Option, Ok}
use Rattle.std.specs.Prelude.{◌==◌}
use Rattle.std.proofs.lemmas.Bool.{eq-eqb, eqb-true}
use Rattle.tproc.specs.declared.channels.Side.TheVariants.{Input, Output}
use Rattle.tplan.specs.Wires.{end_at}
use Rattle.tprocesses.specs.Machine.{Processor, asks, awaiting, is_due_at, is_passable}
use Rattle.tprocesses.specs.Parts.{gives, see}
use Rattle.tprocesses.specs.Places as place
use Rattle.tprocesses.specs.Places.{Name, same_name}
use Rattle.tprocesses.specs.Values.{IsLink, Value, link_in}
use Rattle.tprocesses.specs.Values as value
use Rattle.tcertify.specs.declared.channel.LinkHalf.{LinkHalf}
use Rattle.tcertify.specs.declared.channel.LinkHalf.TheVariants as half
use Rattle.tcertify.specs.declared.channel.Request.{Request}
use Rattle.tcertify.specs.declared.node.Node.{Node}
use Rattle.tcertify.specs.Channels.{IsKnownHalf, link_of}
use Rattle.tcertify.specs.Choosing.{offers_at}
use Rattle.tcertify.specs.Nodes.{Grows, RunsAt, name_at, names}
use Rattle.tcertify.proofs.Alternatives.{named_other, named_same}
use Rattle.tcertify.proofs.NodeRunning.{grows_not, name_stays, runs_at_given, runs_at_on}

-- who has a half of a link, by the names behind a call
pub link_still : (b d : Node) (h : LinkHalf) → Grows b d → IsKnownHalf (length b.processes.items.items) h
    → link_of (names d) h ≡ link_of (names b) h
link_still b d half.Empty grows known = refl
link_still b d (half.Offered r) grows known =
    ap (λ (n : Name). value.Offered (record { process = n; buffer = r.buffer }))
    (name_stays b d r.process grows (known r.process refl))
link_still b d (half.Enabled k) grows known = ap value.Enabled (name_stays b d k grows (known k refl))
link_still b d (half.Awaited k) grows known = ap value.Awaited (name_stays b d k grows (known k refl))
link_still b d (half.Fired k) grows known = ap value.Fired (name_stays b d k grows (known k refl))

-- two processes of a node are the same where their numbers are
pub named_by_number : (a : Node) (j k : ℕ) → j < length a.processes.items.items → k < length a.processes.items.items
    → (j == k) ≡ same_name (name_at a j) (name_at a k)
named_by_number a j k in_j in_k = by (j == k) refl
  where
    by : (t : Bool) → (j == k) ≡ t → (j == k) ≡ same_name (name_at a j) (name_at a k)
    by true e = e ∙ sym (named_same a a (grows_not a) j k in_k (eqb-true j k e))
    by false e = e ∙ sym (named_other a a (grows_not a) j k in_k in_j (λ same. cc (e, eq-eqb j k same)))

-- who waits at an input that is looked at, for it and for others
pub asks_so : (a b : Node) (l : ℕ) (h : LinkHalf) (o : Option Name)
    → RunsAt (see (place.LinkHalf (end_at a.words.number l) Input)) a (Ok (IsLink (link_of (names a) h))) b
    → awaiting (link_of (names a) h) ≡ o → RunsAt (asks Processor (end_at a.words.number l)) a (Ok o) b
asks_so a b l h o seen e =
    runs_at_on (see (place.LinkHalf (end_at a.words.number l) Input)) (λ (v : Value). gives (awaiting (link_in v))) a b
    b (IsLink (link_of (names a) h)) (Ok o) seen
    (subst (λ (x : Option Name). RunsAt (gives x) b (Ok o) b) (sym e) (runs_at_given o b))

-- whether a message is offered at an output that is looked at
pub offers_so : (a b : Node) (l : ℕ) (h : LinkHalf) (t : Bool)
    → RunsAt (see (place.LinkHalf (end_at a.words.number l) Output)) a (Ok (IsLink (link_of (names a) h))) b
    → is_due_at Output (link_of (names a) h) ≡ t → RunsAt (offers_at (end_at a.words.number l)) a (Ok t) b
offers_so a b l h t seen e =
    runs_at_on (see (place.LinkHalf (end_at a.words.number l) Output))
    (λ (v : Value). gives (is_passable (place.LinkHalf (end_at a.words.number l) Output) v)) a b b
    (IsLink (link_of (names a) h)) (Ok t) seen
    (subst (λ (x : Bool). RunsAt (gives x) b (Ok t) b) (sym e) (runs_at_given t b))

-- none is where nothing is offered
pub not_offered : (names : List Name) (h : LinkHalf) → ((r : Request) → h ≡ half.Offered r → ⊥)
    → is_due_at Output (link_of names h) ≡ false
not_offered names half.Empty n = refl
not_offered names (half.Offered r) n = absurd (n r refl)
not_offered names (half.Enabled k) n = refl
not_offered names (half.Awaited k) n = refl
not_offered names (half.Fired k) n = refl
