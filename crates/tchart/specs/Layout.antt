-- The layout of a run: its columns and its marks.
-- Source: own choice.
use Rattle.std.specs.Prelude.{ℕ, zero, suc, List, [], ◌∷◌, ◌++◌, Option, Some, None, slice_get}
use Rattle.tword.specs.Limits.{most_nodes}
use Rattle.tlink.specs.Node.{NodeState}
use Rattle.tlink.specs.Roles.{Role, Processor, Source, Sink}
use Rattle.tplan.specs.declared.event.Event.{Event}
use Rattle.tnet.specs.Net.{NetState, node_at}
use Rattle.thistory.specs.Deeds.{net_behind}
use Rattle.tchart.specs.declared.layout.Chart.{Chart}
use Rattle.tchart.specs.declared.layout.Column.{Column}
use Rattle.tchart.specs.declared.layout.Kind.{Kind}
use Rattle.tchart.specs.declared.layout.Kind.TheVariants as kind
use Rattle.tchart.specs.Plots.{PlotState, ended, laid, most_lanes, opening, over}
use Rattle.tchart.specs.Shown.{shown_of}

-- what a column is of
abbrev pub kind_of : Role → Kind
kind_of Processor = kind.Node
kind_of (Source over rest) = kind.Source
kind_of (Sink kept) = kind.Sink

-- the column of a node of this number
abbrev pub column_of : ℕ → NodeState → Column
column_of k n = record { kind = kind_of n.role; number = k }

-- the columns with one more, if the node is there
abbrev pub with_column : ℕ → Option NodeState → List Column → List Column
with_column k (Some n) columns = columns ++ column_of k n ∷ []
with_column k None columns = columns

-- the columns of the nodes below this number
abbrev pub columns_below : ℕ → List NodeState → List Column
columns_below zero nodes = []
columns_below (suc k) nodes = with_column k (slice_get nodes k) (columns_below k nodes)

-- an event is laid out, and the pauses of its node that are over behind it are drawn
abbrev pub laid_one : ℕ → Event → NetState → PlotState → PlotState
laid_one k e net p =
    over most_lanes e.node k (node_at (net_behind net e) e.node) (laid e.node k (shown_of net e) p)

-- the events from a number on are laid out
abbrev pub laid_from : ℕ → List Event → NetState → PlotState → PlotState
laid_from k [] net p = p
laid_from k (e ∷ es) net p = laid_from (suc k) es (net_behind net e) (laid_one k e net p)

-- what all events come to
abbrev pub plot_of : List Event → NetState → PlotState
plot_of events net = laid_from 0 events net opening

-- the picture of columns, of what the events come to
abbrev pub chart_of_plot : List Column → PlotState → Chart
chart_of_plot columns p =
    record {
      columns = columns;
      marks = (ended most_nodes p.rows p).marks;
      rows = p.rows;
      is_crowded = p.is_crowded;
    }

-- the picture of events that are done on a net
abbrev pub chart_of : List Event → NetState → Chart
chart_of events net = chart_of_plot (columns_below most_nodes net.nodes) (plot_of events net)
