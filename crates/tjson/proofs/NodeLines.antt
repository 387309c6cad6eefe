-- The lines of the nodes of a net, one after another.
use Rattle.std.proofs.Common.{◌≡◌, ℕ, suc, refl, sym, ap, ap₂, ◌∙◌, ◌+◌, ◌<◌, ◌≤◌, List, [], ◌∷◌, ◌++◌, length}
use Rattle.std.proofs.Common.{drop, get_or, arith, add-one, Bool, Option, Some}
use Rattle.std.specs.Prelude.{map, zip}
use Rattle.std.proofs.Math.Seq.{drop-cons}
use Rattle.std.proofs.lemmas.Option.{same_Some}
use Rattle.std.proofs.lemmas.List.{drop_all}
use Rattle.tword.specs.declared.breaks.Break.{Break}
use Rattle.tword.specs.declared.span.Span.{Span}
use Rattle.tword.specs.Stores.{Store, hiding, shown}
use Rattle.tproc.specs.Machine.{Machine, claims_of}
use Rattle.tproc.specs.Hidden.{hidden}
use Rattle.tlink.specs.Roles.{Role, Processor, Source, Sink}
use Rattle.tlink.specs.Node.{NodeState}
use Rattle.tlink.specs.Whole.{IsHeld}
use Rattle.tlink.specs.Scripts.{done_messages, all_messages, messages_of, kept_messages}
use Rattle.tlink.specs.Scripts.{processor_of, source_of, sink_of}
use Rattle.tnet.specs.declared.inbox.Inbox.{Inbox}
use Rattle.tnet.specs.Net.{NetState}
use Rattle.tnet.specs.Sound.{IsSound}
use Rattle.tnet.specs.View.{view, view_node}
use Rattle.tfiles.specs.Logs.{line}
use Rattle.tfiles.specs.Texts.{is_pending}
use Rattle.tfiles.proofs.KeptMessages.{kept_seen}
use Rattle.tjson.specs.Runs.{json_nodes, node_object, nodes_from, role_object, sink_object, source_object}

-- the line of a node
abbrev pub line_at : ℕ → NodeState → List ℕ
line_at n x = line (role_object x.role n x.broken (hidden x.machine))

-- the lines of nodes from a number on
abbrev pub lines : ℕ → List NodeState → List ℕ
lines n [] = []
lines n (x ∷ xs) = line_at n x ++ lines (suc n) xs

lines_view : (n : ℕ) (xs : List NodeState) (boxes : List (List Inbox)) → length boxes ≡ length xs
    → lines n xs ≡ nodes_from n (map view_node (zip xs boxes))
lines_view n [] [] h = refl
lines_view n [] (b ∷ bs) h = refl
lines_view n (x ∷ xs) [] h = absurd (omega (arith, h))
lines_view n (x ∷ xs) (b ∷ bs) h = ap (λ t. line_at n x ++ t) (lines_view (suc n) xs bs (omega (arith, h)))

-- all lines are those of what is seen of the net
pub lines_all : (net : NetState) → IsSound net → lines 0 net.nodes ≡ json_nodes (view net)
lines_all net sound = lines_view 0 net.nodes net.inboxes sound.boxes

-- a processor, from what is known of it
pub node_known : (n : ℕ) (m : Machine) (broken : Option Break) (halted : Bool) (pending : List (Option Span))
    (store : Store) → halted ≡ m.control.halted → pending ≡ (claims_of m.control).inputs → store ≡ m.store
    → node_object n broken halted (hiding (is_pending pending) store)
    ≡ node_object n broken m.control.halted (hidden m).store
node_known n m broken halted pending store h p s =
    ap (λ (h : Bool). node_object n broken h (hiding (is_pending pending) store)) h
    ∙ ap₂ (λ (p : List (Option Span)) (s : Store). node_object n broken m.control.halted (hiding (is_pending p) s)) p s

pub processor_line : (role : Role) (n : ℕ) (broken : Option Break) (m p : Machine) → Some p ≡ processor_of role m
    → node_object n broken p.control.halted (hidden p).store ≡ role_object role n broken (hidden m)
processor_line Processor n broken m p h =
    ap (λ (k : Machine). node_object n broken k.control.halted (hidden k).store) (same_Some p m h)
processor_line (Source done rest) n broken m p h = cc
processor_line (Sink kept) n broken m p h = cc

-- a source
pub source_line : (role : Role) (n : ℕ) (broken : Option Break) (x s : NodeState) → x.role ≡ role
    → Some s ≡ source_of x role
    → source_object n (done_messages s.role) (all_messages s.role) ≡ role_object role n broken (hidden x.machine)
source_line Processor n broken x s e h = cc
source_line (Source done rest) n broken x s e h =
    ap (λ (r : Role). source_object n (done_messages r) (all_messages r))
    (ap (λ (y : NodeState). y.role) (same_Some s x h) ∙ e)
source_line (Sink kept) n broken x s e h = cc

-- a sink
pub sink_line : (role : Role) (n : ℕ) (broken : Option Break) (x s : NodeState) → x.role ≡ role
    → IsHeld role x.machine → Some s ≡ sink_of x role
    → sink_object n (kept_messages s) ≡ role_object role n broken (hidden x.machine)
sink_line Processor n broken x s e held h = cc
sink_line (Source done rest) n broken x s e held h = cc
sink_line (Sink kept) n broken x s e held h =
    ap (λ (y : NodeState). sink_object n (messages_of y.role (shown y.machine.store))) (same_Some s x h)
    ∙ ap (λ (r : Role). sink_object n (messages_of r (shown x.machine.store))) e
    ∙ ap (sink_object n) (sym (kept_seen kept x.machine held))

-- the lines of nodes, from one of them on
pub lines_next : (k : ℕ) (nodes : List NodeState) (x : NodeState) → k < length nodes → x ≡ get_or nodes k x
    → lines k (drop k nodes) ≡ line_at k x ++ lines (k + 1) (drop (k + 1) nodes)
lines_next k nodes x below is =
    let rest : drop k nodes ≡ x ∷ drop (suc k) nodes = drop-cons nodes k x below
    ∙ ap (λ y. y ∷ drop (suc k) nodes) (sym is) in
    ap (λ l. lines k l) rest ∙ ap (λ n. line_at k x ++ lines n (drop n nodes)) (sym (add-one k))

pub lines_end : (k : ℕ) (nodes : List NodeState) → length nodes ≤ k → lines k (drop k nodes) ≡ []
lines_end k nodes over = ap (λ l. lines k l) (drop_all k nodes over)
