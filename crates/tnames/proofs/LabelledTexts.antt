-- A listing that is written line by line.
use Rattle.std.proofs.Common.{◌≡◌, ◌∙◌, sym, ap, ℕ, ◌+◌, List, [], ◌∷◌, ◌++◌, append_assoc, append-nil, take, drop}
use Rattle.std.proofs.Common.{Option, Some, None}
use Rattle.std.proofs.Common.{flat_map}
use Rattle.tfiles.specs.Logs.{split}
use Rattle.tfiles.proofs.ReadLogs.{split-line}
use Rattle.tnames.specs.declared.names.Name.{Name}
use Rattle.tnames.specs.Listings.{labelled_line, labelled_lines, labelled_text}
use Rattle.tnames.proofs.NameLines.{cut-is, cut-lacks, end_of_line, split-none, uncut-lacks}

-- the first line, and the rest
pub labelled-first : (names : List Name) (rest : List ℕ) (end : ℕ) → end_of_line rest ≡ Some end
    → labelled_line names (take end rest) ++ labelled_text names (drop (end + 1) rest) ≡ labelled_text names rest
labelled-first names rest end h =
    let cut : split rest ≡ (take end rest ∷ (split (drop (end + 1) rest)).0, (split (drop (end + 1) rest)).1) =
    ap split (cut-is rest end h ∙ sym (append_assoc (take end rest) (10 ∷ []) (drop (end + 1) rest)))
    ∙ split-line (take end rest) (drop (end + 1) rest) (cut-lacks rest end h) in
    sym
    (ap (labelled_lines names) cut
    ∙ append_assoc (labelled_line names (take end rest))
    (flat_map (labelled_line names) (split (drop (end + 1) rest)).0) (split (drop (end + 1) rest)).1)

-- what stands behind the last end of a line
pub labelled-last : (names : List Name) (rest : List ℕ) → end_of_line rest ≡ None → rest ≡ labelled_text names rest
labelled-last names rest h = sym (ap (labelled_lines names) (split-none rest (uncut-lacks rest h)))
