use Rattle.std.proofs.Common.{◌≡◌, sym, ◌∙◌, true}
use Rattle.tprocesses.specs.Places.{same_path}
use Rattle.tcertify.proofs.Naming.{names_apart, names_same}
use Rattle.tcertify.proofs.process.Process.is_named_as.Goals as goal

pub returns-then-is_same_root-clause-yes : goal.returns-then-is_same_root-clause-yes
returns-then-is_same_root-clause-yes c = λ same.
    let p = c.args.self.now in let q = c.args.other.now in
    let paths : same_path p.path.items q.path.items ≡ true =
    rw (sym c.as_slice.ensures.value, sym c.as_slice-then-is_same_root.ensures.value)
    (sym c.is_same_path.ensures ∙ same) in
    names_same p q (sym c.is_same_root.ensures ∙ c.if-is_same_root.true) paths

pub returns-then-is_same_root-clause-no : goal.returns-then-is_same_root-clause-no
returns-then-is_same_root-clause-no c = λ same.
    let p = c.args.self.now in let q = c.args.other.now in
    c.is_same_path.ensures ∙ rw (c.as_slice.ensures.value, c.as_slice-then-is_same_root.ensures.value)
    (names_apart p q same)
