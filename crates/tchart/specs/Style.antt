-- What stands before the marks of a picture: its colours, light and dark, the head of an arrow, and the fillings of
-- pauses, which tell them apart without colours too.
-- Source: own choice, in Cascading Style Sheets and Scalable Vector Graphics 1.1 (W3C, 2011).
use Rattle.std.specs.Prelude.{ℕ, List, ◌++◌, codes}
use Rattle.tfiles.specs.Logs.{line}

-- the colours and places where a page is light
abbrev pub light_text : List ℕ
light_text =
    line (codes "text { font: 12px monospace; fill: #1a1a1a; }")
    ++ (line (codes ".name, .count { text-anchor: middle; }")
    ++ (line (codes ".name { font-weight: bold; }")
    ++ (line (codes ".label, .beside { stroke: #ffffff; stroke-width: 3px; paint-order: stroke; }")
    ++ (line (codes ".label { pointer-events: none; }")
    ++ (line (codes ".paper, .input { fill: #ffffff; }")
    ++ (line (codes ".column { stroke: #c4c4c4; }")
    ++ (line (codes ".run { fill: #e4e8ee; stroke: #8a94a3; }")
    ++ (line (codes ".way { stroke: #1a1a1a; marker-end: url(#head); }")
    ++ (line (codes ".head, .begin, .halt { fill: #1a1a1a; }")
    ++ (line (codes ".output { fill: #c05a00; stroke: #c05a00; }")
    ++ (line (codes ".input { stroke: #2470c4; }")
    ++ (line (codes ".alternative { fill: url(#slanted); stroke: #8a3fb0; }")
    ++ (line (codes ".channel { fill: url(#barred); stroke: #2e7d32; }")
    ++ (line (codes ".slant { fill: #8a3fb0; }")
    ++ (line (codes ".rung { fill: #2e7d32; }") ++ line (codes ".freeze { fill: #c81e1e; }"))))))))))))))))

-- the colours where it is dark
abbrev pub dark_text : List ℕ
dark_text =
    line (codes "text { fill: #e8e8e8; }")
    ++ (line (codes ".label, .beside { stroke: #14171c; }")
    ++ (line (codes ".paper, .input { fill: #14171c; }")
    ++ (line (codes ".column { stroke: #4a4f57; }")
    ++ (line (codes ".run { fill: #2c333d; stroke: #7c8796; }")
    ++ (line (codes ".way { stroke: #e8e8e8; }")
    ++ (line (codes ".head, .begin, .halt { fill: #e8e8e8; }")
    ++ (line (codes ".output { fill: #f29a4a; stroke: #f29a4a; }")
    ++ (line (codes ".input { stroke: #6aa9ef; }")
    ++ (line (codes ".alternative { stroke: #c08be0; }")
    ++ (line (codes ".channel { stroke: #7cc47f; }")
    ++ (line (codes ".slant { fill: #c08be0; }")
    ++ (line (codes ".rung { fill: #7cc47f; }") ++ line (codes ".freeze { fill: #ff6b6b; }")))))))))))))

-- the head of an arrow
abbrev pub head_text : List ℕ
head_text =
    line (codes "<defs><marker id='head' viewBox='0 0 8 8' refX='8' refY='4'")
    ++ (line (codes "markerWidth='8' markerHeight='8' orient='auto'>")
    ++ line (codes "<path class='head' d='M0 0 L8 4 L0 8 z'/></marker>"))

-- the fillings of two kinds of pauses: slanted stripes, and rungs as those of a ladder
abbrev pub fillings_text : List ℕ
fillings_text =
    line (codes "<pattern id='slanted' width='4' height='4' patternUnits='userSpaceOnUse'")
    ++ (line (codes "patternTransform='rotate(45)'>")
    ++ (line (codes "<rect class='slant' width='2' height='4'/></pattern>")
    ++ (line (codes "<pattern id='barred' width='8' height='6' patternUnits='userSpaceOnUse'>")
    ++ line (codes "<rect class='rung' width='8' height='2'/></pattern></defs>"))))

-- all of these, and the ground
abbrev pub style_text : List ℕ
style_text =
    line (codes "<style>")
    ++ (light_text
    ++ (line (codes "@media (prefers-color-scheme: dark) {")
    ++ (dark_text
    ++ (line (codes "}")
    ++ (line (codes "</style>")
    ++ (head_text ++ (fillings_text ++ line (codes "<rect class='paper' width='100%' height='100%'/>"))))))))
