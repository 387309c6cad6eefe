-- A wiring by its parts is the wiring of the definition.
use Rattle.std.proofs.Common.{◌≡◌, ℕ, refl, sym, ap, ap₂, ◌∙◌, Bool, true, false, ◌||◌, List, [], ◌∷◌, map, Option}
use Rattle.std.proofs.Common.{is_none, codes}
use Rattle.std.specs.List.{list_any}
use mathlib.Core.Bool.{or_assoc, or-false}
use Rattle.toml.specs.Data.{Data, Members, get_member}
use Rattle.tplan.specs.declared.plan.End.{End}
use Rattle.tplan.specs.declared.plan.Wire.{Wire}
use Rattle.tplan.specs.declared.plan.SourcePlan.{SourcePlan}
use Rattle.tplan.specs.declared.plan.SinkPlan.{SinkPlan}
use Rattle.tplan.specs.declared.event.PacketKind.{PacketKind}
use Rattle.tplan.specs.declared.event.Hold.{Hold}
use Rattle.tplan.specs.declared.wiring.Wiring.{Wiring}
use Rattle.tplan.specs.declared.wiring.WiringNode.{WiringNode}
use Rattle.tword.specs.declared.kind.Kind.{Kind}
use Rattle.twiring.specs.Wirings.{Names, has_unknown, is_first_in, root_keys, needed_node_keys, node_keys, wire_keys}
use Rattle.twiring.specs.Wirings.{source_keys, sink_keys, has_bad_kind, node_kind_of}
use Rattle.twiring.specs.Wirings.{hold_keys, lacks_one, has_wrong_type, tables_at, items_of, is_integer, is_text}
use Rattle.twiring.specs.Wirings.{is_texts, is_end, is_kind, is_tables, is_wrong, is_bad, is_version, is_no_message}
use Rattle.twiring.specs.Wirings.{has_bad_message, fails, number_of, number_at, text_of, end_of, kind_of, message_at}
use Rattle.twiring.specs.Wirings.{default_timeslice, wiring_value, wiring_of}
use Rattle.twiring.specs.WiringParts.{Reading, both, made, known, required, number_in, text_in, end_in, kind_in}
use Rattle.twiring.specs.WiringParts.{message_in, version_in, node_in, wire_in, source_in, sink_in, hold_in}
use Rattle.twiring.specs.WiringParts.{array_in, array_at, head_in, ends_in, Arrays, arrays_in, wiring_in}
use Rattle.twiring.proofs.WiringTests.{Tests, passed, either, tested, judged, same_judged, both-judged, made-judged}
use Rattle.twiring.proofs.WiringTests.{known-judged, required-judged, timeslice-judged, never, is_good_number}
use Rattle.twiring.proofs.WiringTests.{node_kind_or_one-judged, number_in-judged, text_in-judged, end_in-judged}
use Rattle.twiring.proofs.WiringTests.{kind_in-judged, messages_in-judged, version_in-judged, array-judged}

-- a number, a text, an end, a kind, messages and a version that have to be there
number-judged : (key : List ℕ) (t : Members)
    → required number_in key t
    ≡ judged (tested false (is_none (get_member key t)) (is_wrong is_integer key t) (is_bad key t) false false)
    (number_at key t)
number-judged key t =
    required-judged number_in (fails is_integer) never (fails is_good_number) never (λ o. number_of o 0)
    (number_in-judged 0) (get_member key t)

text-judged : (key : List ℕ) (t : Members)
    → required text_in key t
    ≡ judged (tested false (is_none (get_member key t)) (is_wrong is_text key t) false false false)
    (text_of (get_member key t))
text-judged key t = required-judged text_in (fails is_text) never never never text_of text_in-judged (get_member key t)

end-judged : (key : List ℕ) (t : Members)
    → required end_in key t
    ≡ judged (tested false (is_none (get_member key t)) (is_wrong is_end key t) (is_bad key t) false false)
    (end_of (get_member key t))
end-judged key t =
    required-judged end_in (fails is_end) never (fails is_good_number) never end_of end_in-judged (get_member key t)

kind-judged : (key : List ℕ) (t : Members)
    → required kind_in key t
    ≡ judged (tested false (is_none (get_member key t)) (is_wrong is_kind key t) false false false)
    (kind_of (get_member key t))
kind-judged key t = required-judged kind_in (fails is_kind) never never never kind_of kind_in-judged (get_member key t)

messages-judged : (key : List ℕ) (t : Members)
    → required (array_in message_in) key t
    ≡ judged
    (tested false (is_none (get_member key t)) (is_wrong is_texts key t) false
    (list_any is_no_message (items_of (get_member key t))) false)
    (map message_at (items_of (get_member key t)))
messages-judged key t =
    required-judged (array_in message_in) (fails is_texts) never never (λ o. list_any is_no_message (items_of o))
    (λ o. map message_at (items_of o)) messages_in-judged (get_member key t)

version-judged : (key : List ℕ) (t : Members)
    → required version_in key t
    ≡ judged (record passed {
      missing = is_none (get_member key t);
      wrong = is_wrong is_integer key t;
      version = is_wrong is_version key t;
    }) tt
version-judged key t =
    required-judged version_in (fails is_integer) (fails is_version) never never (λ o. tt) version_in-judged
    (get_member key t)

-- a table by its parts, where the parts lack a key where the table lacks one that is needed
abbrev table_tests : (names needed : Names) → (wrong number message kind : Members → Bool) → Members → Tests
table_tests names needed wrong number message kind t =
    tested (has_unknown names t) (lacks_one needed t) (wrong t) (number t) (message t) (kind t)

table-judged : {A B : Type 0} (names needed : Names) (t : Members) (make : A → B) (parts : Reading A) (s : Tests)
    (wrong number message kind : Members → Bool) (x : A)
    → parts ≡ judged s x → s.unknown ≡ false → s.missing ≡ lacks_one needed t → s.wrong ≡ wrong t → s.version ≡ false
    → s.number ≡ number t → s.message ≡ message t → s.kind ≡ kind t
    → known names t (made make parts) ≡ judged (table_tests names needed wrong number message kind t) (make x)
table-judged names needed t make parts s wrong number message kind x h u m w v n g k =
    ap (λ p. known names t (made make p)) h ∙ ap (known names t) (made-judged make s x)
    ∙ known-judged names t s (make x)
    ∙ same_judged _ _ _ (ap (λ u. has_unknown names t || u) u ∙ or-false (has_unknown names t)) m w v n g k

-- two keys
two-missing : (a b : Bool) → (a || b) ≡ (a || (b || false))
two-missing a b = ap (λ b. a || b) (sym (or-false b))

-- no message, and no kind
abbrev none_in : Members → Bool
none_in t = false

-- nodes
abbrev node_wrong : Members → Bool
node_wrong t =
    is_wrong is_integer (codes "memory") t || is_wrong is_integer (codes "kind") t || is_wrong is_text (codes "image") t

abbrev node_bad : Members → Bool
node_bad t = is_bad (codes "memory") t || is_bad (codes "kind") t

abbrev pub node_from : ℕ × (Kind × List ℕ) → WiringNode
node_from p = record { memory = p.0; kind = p.1.0; image = p.1.1 }

abbrev node_value : Members → WiringNode
node_value t = node_from (
  number_at (codes "memory") t,
  (node_kind_of (get_member (codes "kind") t), text_of (get_member (codes "image") t)),
)

node_wrong-parts : (a b c : Bool) → (a || (b || c)) ≡ (a || b || c)
node_wrong-parts a b c = sym (or_assoc a b c)

node_bad-parts : (a b : Bool) → (a || (b || false)) ≡ (a || b)
node_bad-parts a b = ap (λ b. a || b) (or-false b)

node_in-judged : (first : Bool) (t : Members)
    → node_in first t
    ≡ judged (table_tests (node_keys first) needed_node_keys node_wrong node_bad none_in has_bad_kind t) (node_value t)
node_in-judged first t =
    table-judged (node_keys first) needed_node_keys t node_from _ _ node_wrong node_bad none_in has_bad_kind _
    (ap₂ both (number-judged (codes "memory") t)
    (ap₂ both (node_kind_or_one-judged (get_member (codes "kind") t)) (text-judged (codes "image") t)
    ∙ both-judged _ _ _ _)
    ∙ both-judged _ _ _ _)
    refl (two-missing _ _)
    (node_wrong-parts (is_wrong is_integer (codes "memory") t) (is_wrong is_integer (codes "kind") t)
    (is_wrong is_text (codes "image") t))
    refl (node_bad-parts (is_bad (codes "memory") t) (is_bad (codes "kind") t)) refl
    (or-false (has_bad_kind t))

-- wires
abbrev wire_wrong : Members → Bool
wire_wrong t = is_wrong is_end (codes "a") t || is_wrong is_end (codes "b") t

abbrev wire_bad : Members → Bool
wire_bad t = is_bad (codes "a") t || is_bad (codes "b") t

abbrev wire_from : End × End → Wire
wire_from p = record { a = p.0; b = p.1 }

abbrev wire_value : Members → Wire
wire_value t = wire_from (end_of (get_member (codes "a") t), end_of (get_member (codes "b") t))

wire_in-judged : (t : Members)
    → wire_in t ≡ judged (table_tests wire_keys wire_keys wire_wrong wire_bad none_in none_in t) (wire_value t)
wire_in-judged t =
    table-judged wire_keys wire_keys t wire_from _ _ wire_wrong wire_bad none_in none_in _
    (ap₂ both (end-judged (codes "a") t) (end-judged (codes "b") t) ∙ both-judged _ _ _ _)
    refl (two-missing _ _) refl refl refl refl refl

-- sources
abbrev source_wrong : Members → Bool
source_wrong t = is_wrong is_end (codes "end") t || is_wrong is_texts (codes "messages") t

abbrev source_bad : Members → Bool
source_bad t = is_bad (codes "end") t

abbrev pub source_from : End × List (List ℕ) → SourcePlan
source_from p = record { «end» = p.0; messages = p.1 }

abbrev source_value : Members → SourcePlan
source_value t =
    source_from (end_of (get_member (codes "end") t), map message_at (items_of (get_member (codes "messages") t)))

source_in-judged : (t : Members)
    → source_in t ≡ judged (table_tests source_keys source_keys source_wrong source_bad has_bad_message none_in t)
    (source_value t)
source_in-judged t =
    table-judged source_keys source_keys t source_from _ _ source_wrong source_bad has_bad_message none_in _
    (ap₂ both (end-judged (codes "end") t) (messages-judged (codes "messages") t) ∙ both-judged _ _ _ _)
    refl (two-missing _ _) refl refl (or-false (source_bad t)) refl refl

-- sinks
abbrev sink_wrong : Members → Bool
sink_wrong t = is_wrong is_end (codes "end") t || is_wrong is_integer (codes "capacity") t

abbrev sink_bad : Members → Bool
sink_bad t = is_bad (codes "end") t || is_bad (codes "capacity") t

abbrev sink_from : End × ℕ → SinkPlan
sink_from p = record { «end» = p.0; capacity = p.1 }

abbrev sink_value : Members → SinkPlan
sink_value t = sink_from (end_of (get_member (codes "end") t), number_at (codes "capacity") t)

sink_in-judged : (t : Members)
    → sink_in t ≡ judged (table_tests sink_keys sink_keys sink_wrong sink_bad none_in none_in t) (sink_value t)
sink_in-judged t =
    table-judged sink_keys sink_keys t sink_from _ _ sink_wrong sink_bad none_in none_in _
    (ap₂ both (end-judged (codes "end") t) (number-judged (codes "capacity") t) ∙ both-judged _ _ _ _)
    refl (two-missing _ _) refl refl refl refl refl

-- holds
abbrev hold_wrong : Members → Bool
hold_wrong t = is_wrong is_end (codes "end") t || is_wrong is_kind (codes "kind") t || is_wrong is_integer
    (codes "from") t || is_wrong is_integer (codes "until") t

abbrev hold_bad : Members → Bool
hold_bad t = is_bad (codes "end") t || is_bad (codes "from") t || is_bad (codes "until") t

abbrev pub hold_from : (End × PacketKind) × (ℕ × ℕ) → Hold
hold_from p = record { «end» = p.0.0; kind = p.0.1; from = p.1.0; until = p.1.1 }

abbrev hold_value : Members → Hold
hold_value t = hold_from (
  (end_of (get_member (codes "end") t), kind_of (get_member (codes "kind") t)),
  (number_at (codes "from") t, number_at (codes "until") t),
)

pairs-missing : (a b c d : Bool) → ((a || b) || (c || d)) ≡ (a || (b || (c || (d || false))))
pairs-missing a b c d = or_assoc a b (c || d) ∙ ap (λ d. a || (b || (c || d))) (sym (or-false d))

pairs-wrong : (a b c d : Bool) → ((a || b) || (c || d)) ≡ (a || b || c || d)
pairs-wrong a b c d = sym (or_assoc (a || b) c d)

pairs-bad : (a b c : Bool) → ((a || false) || (b || c)) ≡ (a || b || c)
pairs-bad a b c = ap (λ a. a || (b || c)) (or-false a) ∙ sym (or_assoc a b c)

hold_in-judged : (t : Members)
    → hold_in t ≡ judged (table_tests hold_keys hold_keys hold_wrong hold_bad none_in none_in t) (hold_value t)
hold_in-judged t =
    let missing : List ℕ → Bool = λ key. is_none (get_member key t) in
    table-judged hold_keys hold_keys t hold_from _ _ hold_wrong hold_bad none_in none_in _
    (ap₂ both (ap₂ both (end-judged (codes "end") t) (kind-judged (codes "kind") t) ∙ both-judged _ _ _ _)
    (ap₂ both (number-judged (codes "from") t) (number-judged (codes "until") t) ∙ both-judged _ _ _ _)
    ∙ both-judged _ _ _ _)
    refl
    (pairs-missing (missing (codes "end")) (missing (codes "kind")) (missing (codes "from")) (missing (codes "until")))
    (pairs-wrong (is_wrong is_end (codes "end") t) (is_wrong is_kind (codes "kind") t)
    (is_wrong is_integer (codes "from") t) (is_wrong is_integer (codes "until") t))
    refl (pairs-bad (is_bad (codes "end") t) (is_bad (codes "from") t) (is_bad (codes "until") t)) refl refl

-- version and timeslice
abbrev slice_of : Members → Option Data
slice_of t = get_member (codes "timeslice") t

abbrev head_tests : Members → Tests
head_tests t =
    record passed {
      missing = lacks_one (codes "version" ∷ []) t;
      wrong = is_wrong is_integer (codes "version") t || is_wrong is_integer (codes "timeslice") t;
      version = is_wrong is_version (codes "version") t;
      number = is_bad (codes "timeslice") t;
    }

head_in-judged : (t : Members) → head_in t ≡ judged (head_tests t) (number_of (slice_of t) default_timeslice)
head_in-judged t =
    ap (made (λ (p : Unit {0} × ℕ). p.1))
    (ap₂ both (version-judged (codes "version") t) (timeslice-judged default_timeslice (slice_of t))
    ∙ both-judged _ _ _ _)
    ∙ made-judged (λ (p : Unit {0} × ℕ). p.1) _ _
    ∙ same_judged _ (head_tests t) _ refl refl refl (or-false (is_wrong is_version (codes "version") t)) refl refl refl

-- the tests of an array
abbrev pub any_at : (Members → Bool) → List ℕ → Members → Bool
any_at test key t = list_any test (tables_at key t)

abbrev array_tests : (names needed : Names) → (wrong number message kind : Members → Bool) → List ℕ → Members → Tests
array_tests names needed wrong number message kind key t =
    tested (any_at (has_unknown names) key t) (any_at (lacks_one needed) key t)
    (is_wrong is_tables key t || any_at wrong key t) (any_at number key t) (any_at message key t) (any_at kind key t)

arrays-judged : {A : Type 0} (part : Members → Reading A) (names needed : Names)
    (wrong number message kind : Members → Bool) (value : Members → A)
    → ((t : Members) → part t ≡ judged (table_tests names needed wrong number message kind t) (value t))
    → (key : List ℕ) (t : Members)
    → array_at part key t
    ≡ judged (array_tests names needed wrong number message kind key t) (map value (tables_at key t))
arrays-judged part names needed wrong number message kind value parts key t =
    array-judged part (has_unknown names) (lacks_one needed) wrong number message kind value parts (get_member key t)

-- the tests of the nodes, wires, sources, sinks and holds
abbrev nodes_tests : Members → Tests
nodes_tests t =
    array_tests (node_keys (is_first_in t)) needed_node_keys node_wrong node_bad none_in has_bad_kind (codes "node") t

abbrev wires_tests : Members → Tests
wires_tests t = array_tests wire_keys wire_keys wire_wrong wire_bad none_in none_in (codes "wire") t

abbrev sources_tests : Members → Tests
sources_tests t =
    array_tests source_keys source_keys source_wrong source_bad has_bad_message none_in (codes "source") t

abbrev sinks_tests : Members → Tests
sinks_tests t = array_tests sink_keys sink_keys sink_wrong sink_bad none_in none_in (codes "sink") t

abbrev holds_tests : Members → Tests
holds_tests t = array_tests hold_keys hold_keys hold_wrong hold_bad none_in none_in (codes "hold") t

abbrev arrays_value : Members → Arrays
arrays_value t = (
  (map node_value (tables_at (codes "node") t), map wire_value (tables_at (codes "wire") t)),
  (
    (map source_value (tables_at (codes "source") t), map sink_value (tables_at (codes "sink") t)),
    map hold_value (tables_at (codes "hold") t),
  ),
)

ends_in-judged : (t : Members)
    → ends_in t ≡ judged (either (sources_tests t) (sinks_tests t)) (arrays_value t).1.0
ends_in-judged t =
    ap₂ both
    (arrays-judged source_in source_keys source_keys source_wrong source_bad has_bad_message none_in source_value
    source_in-judged (codes "source") t)
    (arrays-judged sink_in sink_keys sink_keys sink_wrong sink_bad none_in none_in sink_value sink_in-judged
    (codes "sink") t)
    ∙ both-judged _ _ _ _

arrays_in-judged : (t : Members) → arrays_in t
    ≡ judged
    (either (either (nodes_tests t) (wires_tests t))
    (either (either (sources_tests t) (sinks_tests t)) (holds_tests t))) (arrays_value t)
arrays_in-judged t =
    ap₂ both
    (ap₂ both
    (arrays-judged (node_in (is_first_in t)) (node_keys (is_first_in t)) needed_node_keys node_wrong node_bad none_in
    has_bad_kind node_value (node_in-judged (is_first_in t)) (codes "node") t)
    (arrays-judged wire_in wire_keys wire_keys wire_wrong wire_bad none_in none_in wire_value wire_in-judged
    (codes "wire") t)
    ∙ both-judged _ _ _ _)
    (ap₂ both (ends_in-judged t)
    (arrays-judged hold_in hold_keys hold_keys hold_wrong hold_bad none_in none_in hold_value hold_in-judged
    (codes "hold") t)
    ∙ both-judged _ _ _ _)
    ∙ both-judged _ _ _ _

-- the order of the tests
one_by_one : (r n w s k h : Bool) → (r || ((n || w) || ((s || k) || h))) ≡ (r || n || w || s || k || h)
one_by_one false false false false false h = refl
one_by_one _ _ _ _ _ h = refl

-- kinds first
kinds_first : (a x b y : Bool) → ((a || x) || (b || y)) ≡ ((a || b) || (x || y))
kinds_first false true true y = refl
kinds_first _ _ _ y = refl

wrong_by_kind : (r a x b y c z d p e q : Bool)
    → (r || (((a || x) || (b || y)) || (((c || z) || (d || p)) || (e || q))))
    ≡ ((r || a || b || c || d || e) || x || y || z || p || q)
wrong_by_kind r a x b y c z d p e q =
    ap (λ k. r || k)
    (ap₂ (λ k l. k || l) (kinds_first a x b y)
    (ap (λ k. k || (e || q)) (kinds_first c z d p) ∙ kinds_first (c || d) (z || p) e q)
    ∙ kinds_first (a || b) (x || y) ((c || d) || e) ((z || p) || q))
    ∙ sym (or_assoc r ((a || b) || ((c || d) || e)) ((x || y) || ((z || p) || q)))
    ∙ ap (λ k. k || ((x || y) || ((z || p) || q))) (one_by_one r a b c d e)
    ∙ one_by_one (r || a || b || c || d || e) x y z p q

-- only sources have messages, and only nodes kinds
none_of : (ts : List Members) → list_any none_in ts ≡ false
none_of [] = refl
none_of (t ∷ ts) = none_of ts

sources_alone : (n w s k h : Bool) → n ≡ false → w ≡ false → k ≡ false → h ≡ false
    → ((n || w) || ((s || k) || h)) ≡ s
sources_alone n w s k h a b c d =
    ap₂ (λ l m. l || m) (ap₂ (λ n w. n || w) a b) (ap₂ (λ l h. l || h) (ap (λ k. s || k) c ∙ or-false s) d ∙ or-false s)

nodes_alone : (n w s k h : Bool) → w ≡ false → s ≡ false → k ≡ false → h ≡ false
    → ((n || w) || ((s || k) || h)) ≡ n
nodes_alone n w s k h a b c d =
    ap₂ (λ l m. l || m) (ap (λ w. n || w) a ∙ or-false n) (ap₂ (λ l h. l || h) (ap₂ (λ s k. s || k) b c) d) ∙ or-false n

abbrev pub wiring_from : ℕ × Arrays → Wiring
wiring_from p =
    record {
      timeslice = p.0;
      nodes = p.1.0.0;
      wires = p.1.0.1;
      sources = p.1.1.0.0;
      sinks = p.1.1.0.1;
      holds = p.1.1.1;
    }

-- a test of the whole, and of the tables of each array
abbrev anywhere : Bool → (Members → Bool) → (Members → Bool) → (Members → Bool) → (Members → Bool) → (Members → Bool)
    → Members → Bool
anywhere root node wire source sink hold t =
    root || any_at node (codes "node") t || any_at wire (codes "wire") t || any_at source (codes "source") t
    || any_at sink (codes "sink") t
    || any_at hold (codes "hold") t

-- the tests of a wiring, as the definition has them
abbrev whole_tests : Members → Tests
whole_tests t =
    record {
      unknown = anywhere (has_unknown (root_keys t) t) (has_unknown (node_keys (is_first_in t)))
          (has_unknown wire_keys) (has_unknown source_keys) (has_unknown sink_keys) (has_unknown hold_keys) t;
      missing = anywhere (lacks_one (codes "version" ∷ []) t) (lacks_one needed_node_keys) (lacks_one wire_keys)
          (lacks_one source_keys) (lacks_one sink_keys) (lacks_one hold_keys) t;
      wrong = has_wrong_type t;
      version = is_wrong is_version (codes "version") t;
      number = anywhere (is_bad (codes "timeslice") t) node_bad wire_bad source_bad sink_bad hold_bad t;
      message = any_at has_bad_message (codes "source") t;
      kind = any_at has_bad_kind (codes "node") t;
    }

wiring_in-judged : (t : Members) → wiring_in t ≡ judged (whole_tests t) (wiring_value t)
wiring_in-judged t =
    let n : Tests = nodes_tests t in
    let w : Tests = wires_tests t in
    let s : Tests = sources_tests t in
    let k : Tests = sinks_tests t in
    let h : Tests = holds_tests t in
    let no_tables : List ℕ → Bool = λ key. is_wrong is_tables key t in
    ap (λ p. known (root_keys t) t (made wiring_from p))
    (ap₂ both (head_in-judged t) (arrays_in-judged t) ∙ both-judged _ _ _ _)
    ∙ ap (known (root_keys t) t) (made-judged wiring_from _ _)
    ∙ known-judged (root_keys t) t _ _
    ∙ same_judged _ (whole_tests t) _
    (one_by_one (has_unknown (root_keys t) t) n.unknown w.unknown s.unknown k.unknown h.unknown)
    (one_by_one (lacks_one (codes "version" ∷ []) t) n.missing w.missing s.missing k.missing h.missing)
    (wrong_by_kind (head_tests t).wrong (no_tables (codes "node")) (any_at node_wrong (codes "node") t)
    (no_tables (codes "wire")) (any_at wire_wrong (codes "wire") t)
    (no_tables (codes "source")) (any_at source_wrong (codes "source") t)
    (no_tables (codes "sink")) (any_at sink_wrong (codes "sink") t)
    (no_tables (codes "hold")) (any_at hold_wrong (codes "hold") t))
    (or-false (is_wrong is_version (codes "version") t))
    (one_by_one (is_bad (codes "timeslice") t) n.number w.number s.number k.number h.number)
    (sources_alone n.message w.message s.message k.message h.message (none_of (tables_at (codes "node") t))
    (none_of (tables_at (codes "wire") t)) (none_of (tables_at (codes "sink") t))
    (none_of (tables_at (codes "hold") t)))
    (nodes_alone n.kind w.kind s.kind k.kind h.kind (none_of (tables_at (codes "wire") t))
    (none_of (tables_at (codes "source") t)) (none_of (tables_at (codes "sink") t))
    (none_of (tables_at (codes "hold") t)))

-- each wiring by its parts
pub wiring_in-whole : (t : Members) → wiring_in t ≡ wiring_of t
unfolding judged wiring_of
wiring_in-whole t = wiring_in-judged t
