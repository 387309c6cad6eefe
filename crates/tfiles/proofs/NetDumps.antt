-- The dumps of the nodes of a net, one after another.
use Rattle.std.proofs.Common.{◌≡◌, ℕ, suc, refl, sym, ap, ap₂, ◌∙◌, ◌+◌, ◌<◌, ◌≤◌, List, [], ◌∷◌, ◌++◌, length}
use Rattle.std.proofs.Common.{drop, get_or, arith, add-one, Bool, Option, Some}
use Rattle.std.specs.Prelude.{map, zip}
use Rattle.std.proofs.Math.Seq.{drop-cons}
use Rattle.std.proofs.lemmas.Option.{same_Some}
use Rattle.std.proofs.lemmas.List.{drop_all}
use Rattle.tword.specs.declared.breaks.Break.{Break}
use Rattle.tword.specs.declared.span.Span.{Span}
use Rattle.tword.specs.Stores.{Store, hiding, shown}
use Rattle.tproc.specs.Machine.{Machine, claims_of}
use Rattle.tproc.specs.Hidden.{hidden}
use Rattle.tlink.specs.Roles.{Role, Processor, Source, Sink}
use Rattle.tlink.specs.Node.{NodeState}
use Rattle.tlink.specs.Whole.{IsHeld}
use Rattle.tlink.specs.Scripts.{done_messages, all_messages, messages_of, kept_messages}
use Rattle.tlink.specs.Scripts.{source_of, sink_of}
use Rattle.tnet.specs.declared.inbox.Inbox.{Inbox}
use Rattle.tnet.specs.Net.{NetState}
use Rattle.tnet.specs.Sound.{IsSound}
use Rattle.tnet.specs.View.{view, view_node}
use Rattle.tfiles.specs.Texts.{dump_of, role_dump, source_line, sink_dump, dump_from, dump_text, is_pending}
use Rattle.tfiles.proofs.KeptMessages.{kept_seen}

-- the dump of a node
abbrev pub dump_at : ℕ → NodeState → List ℕ
dump_at n x = role_dump x.role n x.broken (hidden x.machine)

-- the dumps of nodes from a number on
abbrev pub dumps : ℕ → List NodeState → List ℕ
dumps n [] = []
dumps n (x ∷ xs) = dump_at n x ++ dumps (suc n) xs

dumps_view : (n : ℕ) (xs : List NodeState) (boxes : List (List Inbox)) → length boxes ≡ length xs
    → dumps n xs ≡ dump_from n (map view_node (zip xs boxes))
dumps_view n [] [] h = refl
dumps_view n [] (b ∷ bs) h = refl
dumps_view n (x ∷ xs) [] h = absurd (omega (arith, h))
dumps_view n (x ∷ xs) (b ∷ bs) h = ap (λ t. dump_at n x ++ t) (dumps_view (suc n) xs bs (omega (arith, h)))

-- all dumps are those of what is seen of the net
pub dumps_all : (net : NetState) → IsSound net → dumps 0 net.nodes ≡ dump_text (view net)
dumps_all net sound = dumps_view 0 net.nodes net.inboxes sound.boxes

-- the dump of a processor, from what is known of it
pub dump_known : (n : ℕ) (m : Machine) (broken : Option Break) (halted : Bool) (pending : List (Option Span))
    (store : Store) → halted ≡ m.control.halted → pending ≡ (claims_of m.control).inputs → store ≡ m.store
    → dump_of n broken halted (hiding (is_pending pending) store)
    ≡ dump_of n broken m.control.halted (hidden m).store
dump_known n m broken halted pending store h p s =
    ap (λ (h : Bool). dump_of n broken h (hiding (is_pending pending) store)) h
    ∙ ap₂ (λ (p : List (Option Span)) (s : Store). dump_of n broken m.control.halted (hiding (is_pending p) s)) p s

-- the dump of a source
pub source_dump : (role : Role) (n : ℕ) (broken : Option Break) (x s : NodeState) → x.role ≡ role
    → Some s ≡ source_of x role
    → source_line n (done_messages s.role) (all_messages s.role) ≡ role_dump role n broken (hidden x.machine)
source_dump Processor n broken x s e h = cc
source_dump (Source done rest) n broken x s e h =
    ap (λ (r : Role). source_line n (done_messages r) (all_messages r))
    (ap (λ (y : NodeState). y.role) (same_Some s x h) ∙ e)
source_dump (Sink kept) n broken x s e h = cc

-- the dump of a sink
pub kept_dump : (role : Role) (n : ℕ) (broken : Option Break) (x s : NodeState) → x.role ≡ role
    → IsHeld role x.machine → Some s ≡ sink_of x role
    → sink_dump n (kept_messages s) ≡ role_dump role n broken (hidden x.machine)
kept_dump Processor n broken x s e held h = cc
kept_dump (Source done rest) n broken x s e held h = cc
kept_dump (Sink kept) n broken x s e held h =
    ap (λ (y : NodeState). sink_dump n (messages_of y.role (shown y.machine.store))) (same_Some s x h)
    ∙ ap (λ (r : Role). sink_dump n (messages_of r (shown x.machine.store))) e
    ∙ ap (sink_dump n) (sym (kept_seen kept x.machine held))

-- the dumps of nodes, from one of them on
pub dumps_next : (k : ℕ) (nodes : List NodeState) (x : NodeState) → k < length nodes → x ≡ get_or nodes k x
    → dumps k (drop k nodes) ≡ dump_at k x ++ dumps (k + 1) (drop (k + 1) nodes)
dumps_next k nodes x below is =
    let rest : drop k nodes ≡ x ∷ drop (suc k) nodes = drop-cons nodes k x below
    ∙ ap (λ y. y ∷ drop (suc k) nodes) (sym is) in
    ap (λ l. dumps k l) rest ∙ ap (λ n. dump_at k x ++ dumps n (drop n nodes)) (sym (add-one k))

pub dumps_end : (k : ℕ) (nodes : List NodeState) → length nodes ≤ k → dumps k (drop k nodes) ≡ []
dumps_end k nodes over = ap (λ l. dumps k l) (drop_all k nodes over)
