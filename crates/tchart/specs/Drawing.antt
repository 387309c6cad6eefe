-- The text of a picture.
-- Source: own choice, in Scalable Vector Graphics 1.1 (W3C, 2011).
use Rattle.std.specs.Prelude.{ℕ, ◌+◌, ◌-◌, ◌*◌, ◌/◌, max, min, ◌==◌, nat_lt, Bool, List, [], ◌++◌, flat_map, fold}
use Rattle.std.specs.Prelude.{length, codes, decimal, if◌then◌else◌}
use Rattle.tword.specs.Limits.{most_nodes}
use Rattle.tfiles.specs.Logs.{line}
use Rattle.tfiles.specs.Texts.{break_name}
use Rattle.tchart.specs.declared.waits.Awaited.{Awaited}
use Rattle.tchart.specs.declared.waits.Awaited.TheVariants.{Output, Input, Alternative, Channel}
use Rattle.tchart.specs.declared.shown.Message.{Message}
use Rattle.tchart.specs.declared.layout.Chart.{Chart}
use Rattle.tchart.specs.declared.layout.Column.{Column}
use Rattle.tchart.specs.declared.layout.Kind.{Kind}
use Rattle.tchart.specs.declared.layout.Kind.TheVariants as kind
use Rattle.tchart.specs.declared.marks.Bar.{Bar}
use Rattle.tchart.specs.declared.marks.Mark.{Mark}
use Rattle.tchart.specs.declared.marks.Mark.TheVariants as mark
use Rattle.tchart.specs.declared.marks.Pause.{Pause}
use Rattle.tchart.specs.Marks.{layer_of}
use Rattle.tchart.specs.Parts.{circle_text, line_text, number_text, rectangle_text, text_head, text_text, x_of, y_of}
use Rattle.tchart.specs.Plots.{most_rows}
use Rattle.tchart.specs.Style.{style_text}
use Rattle.tchart.specs.Titles.{bytes_text, title_text}
use Rattle.tchart.specs.Waits.{awaited_of}

-- the class of a pause, which has its colour and its filling
abbrev pub class_of : Awaited → List ℕ
class_of Output = codes "output"
class_of Input = codes "input"
class_of Alternative = codes "alternative"
class_of Channel = codes "channel"

-- what is waited for
abbrev pub awaited_text : Awaited → List ℕ
awaited_text Output = codes "waits for output on a link"
awaited_text Input = codes "waits for input on a link"
awaited_text Alternative = codes "waits for an alternative"
awaited_text Channel = codes "waits on an internal channel"

-- ---- the shapes of marks

-- a box with the count, at the right of the column's line
abbrev pub bar_shape : ℕ → Bar → List ℕ
bar_shape n b =
    rectangle_text (codes "run") (x_of n - 4) (y_of b.row - 9) 64 18
    ++ text_text (codes "count") (x_of n + 28) (y_of b.row + 4) (decimal b.count)

-- a narrow box over all its rows, in a lane at the left of the column's line
abbrev pub pause_shape : (n lane : ℕ) → Pause → (to : ℕ) → List ℕ
pause_shape n lane q to =
    rectangle_text (class_of (awaited_of q.need)) (x_of n - (16 + 10 * lane)) (y_of q.from - 11) 8
    (24 * (to + 1 - q.from) - 2)

-- an arrow
abbrev pub message_shape : (from to begun row : ℕ) → List ℕ
message_shape from to begun row = line_text (codes "way") (x_of from) (y_of begun) (x_of to) (y_of row)

-- a small square, and a text beside it
abbrev pub stop_head : List ℕ → (n row : ℕ) → List ℕ
stop_head class n row =
    rectangle_text class (x_of n - 6) (y_of row - 6) 12 12
    ++ text_head (codes "beside") (x_of n + 12) (y_of row + 4)

abbrev pub halt_shape : (n row : ℕ) → List ℕ
halt_shape n row = stop_head (codes "halt") n row ++ (codes "halt" ++ codes "</text>")

abbrev pub freeze_shape : (n row : ℕ) → List ℕ → List ℕ
freeze_shape n row name = stop_head (codes "freeze") n row ++ (codes "freeze " ++ (name ++ codes "</text>"))

-- the shape of a mark
abbrev pub shape_text : Mark → List ℕ
shape_text (mark.Bar n b) = bar_shape n b
shape_text (mark.Pause n lane q to last) = pause_shape n lane q to
shape_text (mark.Begin n row k l process) = circle_text (codes "begin") (x_of n) (y_of row)
shape_text (mark.Message to begun row k m) = message_shape m.from.node to.node begun.row row
shape_text (mark.Halt n row k) = halt_shape n row
shape_text (mark.Freeze n row k broken) = freeze_shape n row (break_name broken)

-- a mark: its title, which a viewer shows, and its shape
abbrev pub mark_text : Mark → List ℕ
mark_text m = codes "<g><title>" ++ (title_text m ++ (codes "</title>" ++ (shape_text m ++ line (codes "</g>"))))

-- the marks of a layer
abbrev pub layer_text : (layer : ℕ) → Mark → List ℕ
layer_text layer m = if layer_of m == layer then mark_text m else []

-- the text of an arrow stands at the right of its beginning, where its column has nothing else, above all shapes
abbrev pub message_label : (from begun : ℕ) → List ℕ → List ℕ
message_label from begun text =
    text_head (codes "label") (x_of from + 10) (y_of begun - 4) ++ (text ++ line (codes "</text>"))

abbrev pub label_text : Mark → List ℕ
label_text (mark.Message to begun row k m) = message_label m.from.node begun.row (bytes_text m)
label_text _ = []

-- ---- how wide a picture is

-- how many digits a number has at most
abbrev pub digits_of : ℕ → ℕ
digits_of n = if nat_lt n 10 then 1 else if nat_lt n 100 then 2 else if nat_lt n 10000 then 4 else 10

-- how far the text of an arrow reaches, with eight pixels for a letter
abbrev pub label_reach : Message → ℕ
label_reach m = x_of m.from.node + 8 * (digits_of m.length + 2 * min (length m.bytes) 8 + 4) + 10

-- how far the text of a mark reaches; one of a freeze has 23 letters at most
abbrev pub reach : Mark → ℕ
reach (mark.Message to begun row k m) = label_reach m
reach (mark.Freeze n row k broken) = x_of n + 196
reach _ = 0

-- how far it reaches with one mark more
abbrev pub farther : ℕ → Mark → ℕ
farther far m = max far (reach m)

-- how far its key and its columns reach
abbrev pub columns_reach : Chart → ℕ
columns_reach c = max 268 (240 * min (length c.columns) most_nodes - 84)

abbrev pub width_of : Chart → ℕ
width_of c = fold farther (columns_reach c) c.marks + 12

-- ---- columns

-- what a column is of
abbrev pub kind_text : Kind → List ℕ
kind_text kind.Node = codes "node "
kind_text kind.Source = codes "source "
kind_text kind.Sink = codes "sink "

-- a column over this number of rows: its name, and a line
abbrev pub column_text : (rows : ℕ) → Column → List ℕ
column_text rows c =
    text_text (codes "name") (x_of c.number) 120 (kind_text c.kind ++ decimal c.number)
    ++ line (line_text (codes "column") (x_of c.number) 132 (x_of c.number) (y_of rows + 14))

-- ---- the picture

-- how many rows are drawn
abbrev pub drawn_rows : Chart → ℕ
drawn_rows c = min c.rows most_rows

-- how high a picture is
abbrev pub height_of : (rows : ℕ) → ℕ
height_of rows = y_of rows + 64

-- how many rows are drawn at full size
abbrev pub most_full_rows : ℕ
most_full_rows = 1300

-- how many pixels a length has in a picture of this number of rows
abbrev pub pixels : (rows length : ℕ) → ℕ
pixels rows length = if nat_lt most_full_rows rows then 2 * length / 3 else length

-- the first line of a picture of this number of rows
abbrev pub head_text : (rows width height : ℕ) → List ℕ
head_text rows width height =
    codes "<svg xmlns='http://www.w3.org/2000/svg'"
    ++ (number_text (codes "width") (pixels rows width)
    ++ (number_text (codes "height") (pixels rows height)
    ++ (codes " viewBox='0 0 " ++ (decimal width ++ (codes " " ++ (decimal height ++ line (codes "'>")))))))

-- the colour and the filling of a pause, and what is waited for
abbrev pub key_line : Awaited → ℕ → List ℕ
key_line a y =
    rectangle_text (class_of a) 12 (y - 10) 8 12
    ++ (text_head (codes "beside") 28 y ++ (awaited_text a ++ line (codes "</text>")))

-- the key of the colours of pauses, from a height on
abbrev pub key_text : ℕ → List ℕ
key_text y =
    key_line Output y ++ (key_line Input (y + 18) ++ (key_line Alternative (y + 36) ++ key_line Channel (y + 54)))

-- there are more rows than are drawn, at a height
abbrev pub rest_text : (rows y : ℕ) → List ℕ
rest_text rows y =
    if nat_lt most_rows rows
    then text_head (codes "beside") 12 y ++ (codes "only the first 2000 rows are drawn" ++ line (codes "</text>"))
    else []

-- there were more pauses at one time than lanes
abbrev pub crowd_text : Bool → (y : ℕ) → List ℕ
crowd_text is_crowded y =
    if is_crowded
    then text_head (codes "beside") 12 y ++ (codes "at most 6 waits of a node are drawn" ++ line (codes "</text>"))
    else []

-- what is not drawn, from a height on
abbrev pub lack_text : Chart → (y : ℕ) → List ℕ
lack_text c y = rest_text c.rows y ++ crowd_text c.is_crowded (y + 14)

-- the marks, layer by layer, and the texts of arrows
abbrev pub marks_text : List Mark → List ℕ
marks_text marks =
    flat_map (layer_text 0) marks
    ++ (flat_map (layer_text 1) marks ++ (flat_map (layer_text 2) marks ++ flat_map label_text marks))

-- the whole text: above the columns the key, and above and below them what is not drawn
abbrev pub chart_text : Chart → List ℕ
chart_text c =
    head_text (drawn_rows c) (width_of c) (height_of (drawn_rows c))
    ++ (style_text
    ++ (key_text 20
    ++ (lack_text c 90
    ++ (flat_map (column_text (drawn_rows c)) c.columns
    ++ (marks_text c.marks ++ (lack_text c (y_of (drawn_rows c) + 36) ++ line (codes "</svg>")))))))
