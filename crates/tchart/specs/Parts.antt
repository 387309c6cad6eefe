-- Parts of a picture: its measures, and the elements of SVG that it is made of.
-- Source: Scalable Vector Graphics 1.1 (W3C, 2011); the measures: own choice.
use Rattle.std.specs.Prelude.{ℕ, ◌+◌, ◌*◌, List, ◌++◌, codes, decimal}

-- where the middle of a column is, and that of a row
abbrev pub x_of : ℕ → ℕ
x_of column = 240 * column + 84

abbrev pub y_of : ℕ → ℕ
y_of row = 24 * row + 144

-- an element of this name begins, of a class
abbrev pub class_text : List ℕ → List ℕ → List ℕ
class_text name class = codes "<" ++ (name ++ (codes " class='" ++ (class ++ codes "'")))

-- an attribute that is a number
abbrev pub number_text : List ℕ → ℕ → List ℕ
number_text name number = codes " " ++ (name ++ (codes "='" ++ (decimal number ++ codes "'")))

-- a rectangle, by its left upper corner
abbrev pub rectangle_text : List ℕ → (x y width height : ℕ) → List ℕ
rectangle_text class x y width height =
    class_text (codes "rect") class
    ++ (number_text (codes "x") x
    ++ (number_text (codes "y") y
    ++ (number_text (codes "width") width ++ (number_text (codes "height") height ++ codes "/>"))))

-- a circle
abbrev pub circle_text : List ℕ → (x y : ℕ) → List ℕ
circle_text class x y =
    class_text (codes "circle") class
    ++ (number_text (codes "cx") x ++ (number_text (codes "cy") y ++ codes " r='4'/>"))

-- a line, or an arrow by its class
abbrev pub line_text : List ℕ → (x1 y1 x2 y2 : ℕ) → List ℕ
line_text class x1 y1 x2 y2 =
    class_text (codes "line") class
    ++ (number_text (codes "x1") x1
    ++ (number_text (codes "y1") y1
    ++ (number_text (codes "x2") x2 ++ (number_text (codes "y2") y2 ++ codes "/>"))))

-- a text begins, of a class that says what of it stands at the place
abbrev pub text_head : List ℕ → (x y : ℕ) → List ℕ
text_head class x y =
    class_text (codes "text") class
    ++ (number_text (codes "x") x ++ (number_text (codes "y") y ++ codes ">"))

-- a text of a class
abbrev pub text_text : List ℕ → (x y : ℕ) → List ℕ → List ℕ
text_text class x y text = text_head class x y ++ (text ++ codes "</text>")
