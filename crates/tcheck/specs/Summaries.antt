-- What is told of a net with which nothing is wrong: its parts, and what about them is unusual.
-- Source: own choice, a format of this program.
use Rattle.std.specs.Prelude.{ℕ, suc, ◌+◌, Bool, ◌&&◌, nat_le, nat_lt, List, [], ◌∷◌, ◌++◌, length, codes, decimal}
use Rattle.std.specs.Prelude.{is_some, if◌then◌else◌}
use Rattle.std.specs.List.{list_any}
use Rattle.tword.specs.declared.kind.Kind.{Kind}
use Rattle.tword.specs.declared.kind.Kind.TheVariants.{One, Two}
use Rattle.tplan.specs.declared.plan.Segment.{Segment}
use Rattle.tplan.specs.declared.plan.Process.{Process}
use Rattle.tplan.specs.declared.plan.NodePlan.{NodePlan}
use Rattle.tplan.specs.declared.plan.Plan.{Plan}
use Rattle.tplan.specs.declared.plan.SinkPlan.{SinkPlan}
use Rattle.tplan.specs.declared.plan.SourcePlan.{SourcePlan}
use Rattle.tplan.specs.declared.plan.Wire.{Wire}
use Rattle.tplan.specs.declared.wiring.WiringNode.{WiringNode}
use Rattle.tplan.specs.Wires.{end_at, far_end}
use Rattle.tfiles.specs.Logs.{line}
use Rattle.tfiles.specs.Texts.{end_text}
use Rattle.tnames.specs.Escapes.{escaped_text}
use Rattle.twhere.specs.Standing.{word_text}
use Rattle.tcheck.specs.declared.flaws.Place.TheVariants as place
use Rattle.tcheck.specs.Sentences.{end_behind, image_name, numbered}

-- the texts of the elements of a list, whose numbers begin here
abbrev pub texts_from : {A : Type 0} → (ℕ → A → List ℕ) → ℕ → List A → List ℕ
texts_from text k [] = []
texts_from text k (x ∷ xs) = text k x ++ texts_from text (suc k) xs

-- the number of a kind
abbrev pub kind_text : Kind → List ℕ
kind_text One = codes ": kind 1, memory "
kind_text Two = codes ": kind 2, memory "

-- a segment has the byte at an address
abbrev pub has_byte : ℕ → Segment → Bool
has_byte address s = nat_le s.address address && nat_lt address (s.address + length s.bytes)

-- a process that begins where no segment has a byte
abbrev pub process_line : (node number : ℕ) → Process → List ℕ
process_line node number p =
    numbered (codes "node ") node ++ (numbered (codes ": process ") number ++ (codes ", "
    ++ (word_text p.wdesc ++ (codes ", begins at " ++ (word_text p.iptr ++ line (codes ", which no segment holds"))))))

-- a process, where it begins where no segment has a byte
abbrev pub process_note : ℕ → List Segment → ℕ → Process → List ℕ
process_note node segments number p =
    if list_any (has_byte p.iptr) segments then [] else process_line node number p

-- a link that has no wire
abbrev pub link_line : (node link : ℕ) → List ℕ
link_line node link = numbered (codes "node ") node ++ (numbered (codes ": no wire is at link ") link ++ line [])

-- a link, where it has no wire
abbrev pub link_note : List Wire → (node link : ℕ) → List ℕ
link_note wires node link = if is_some (far_end wires (end_at node link)) then [] else link_line node link

-- the links of a node that have no wire
abbrev pub link_notes : List Wire → ℕ → List ℕ
link_notes wires node =
    link_note wires node 0 ++ (link_note wires node 1 ++ (link_note wires node 2 ++ link_note wires node 3))

-- a node by itself, whose image has this name
abbrev pub node_line : List ℕ → ℕ → NodePlan → List ℕ
node_line name number n =
    numbered (codes "node ") number ++ (kind_text n.kind ++ (decimal n.memory ++ (codes " bytes, image "
    ++ line (escaped_text name))))

-- a node: its kind, its memory and its image, the processes that begin nowhere, and the links that have no wire
abbrev pub node_text : List WiringNode → List Wire → ℕ → NodePlan → List ℕ
node_text nodes wires number n =
    node_line (image_name nodes (place.Node number)) number n
    ++ (texts_from (process_note number n.image.segments) 0 n.image.processes ++ link_notes wires number)

-- a wire
abbrev pub wire_text : ℕ → Wire → List ℕ
wire_text number w =
    numbered (codes "wire ") number ++ (codes ": " ++ (end_text w.a ++ line (end_behind (codes " and ") w.b)))

-- a source: how many messages it has, and where it sends them
abbrev pub source_text : ℕ → SourcePlan → List ℕ
source_text number s =
    numbered (codes "source ") number
    ++ (numbered (codes ": messages ") (length s.messages) ++ line (end_behind (codes ", to ") s.«end»))

-- a sink: for how many bytes it has room, and where they come from
abbrev pub sink_text : ℕ → SinkPlan → List ℕ
sink_text number s =
    numbered (codes "sink ") number
    ++ (numbered (codes ": bytes ") s.capacity ++ line (end_behind (codes ", from ") s.«end»))

-- a net, with the nodes that name its images, and all of its wires
abbrev pub net_text : List WiringNode → List Wire → Plan → List ℕ
net_text nodes wires p =
    line (codes "nothing is wrong")
    ++ (texts_from (node_text nodes wires) 0 p.nodes
    ++ (texts_from wire_text 0 p.wires
    ++ (texts_from source_text 0 p.sources ++ texts_from sink_text 0 p.sinks)))
