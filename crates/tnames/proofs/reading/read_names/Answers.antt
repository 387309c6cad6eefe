use Rattle.std.proofs.Common.{◌≡◌, ◌≢◌, ◌∙◌, ◌+◌, ◌++◌, ◌∷◌, sym, ap, ap₂, ℕ, List, [], length, take, Result, Err, Some}
use Rattle.std.proofs.lemmas.Bool.{eqb-false}
use Rattle.tnames.specs.declared.names.Name.{Name}
use Rattle.tnames.specs.Lines.{name_of}
use Rattle.tnames.proofs.NameLines.{then_names, rest_of, rest-line, rest-bad, rest-open}
use Rattle.tnames.proofs.reading.read_names.Goals as goal

pub loop-end-preserved : goal.loop-end-preserved
loop-end-preserved c =
    let items : List Name = c.loop-end.list.items in
    let name : Name = c.in_ok-new_name.field-0 in
    let is : name_of (take c.in-Some.end c.loop-end.rest.now) ≡ Some name =
    c.in-Some-name_in.ensures ∙ ap Some (sym c.in_ok-new_name.ensures) in
    let longer : items ++ name ∷ [] ≡ c.push.new.self.items = sym c.in_ok-push.ensures.items in
    c.loop-end.invariant
    ∙ rest-line items name c.loop-end.rest.now c.in-Some.end (sym c.end_of_line.ensures ∙ c.in-Some.is) is
    ∙ ap₂ (λ (ns : List Name) (r : List ℕ). then_names ns (rest_of ns r)) longer (sym c.behind-rest.ensures)

pub returns-in_default-name_in : goal.returns-in_default-name_in
returns-in_default-name_in c =
    let number : ◌≡◌ {A = Result (List Name) ℕ} (Err (length c.loop-end.list.items + 1)) (Err (c.len.result + 1)) =
    ap (λ (n : ℕ). Err (n + 1)) (sym (c.len.ensures ∙ c.loop-end.list.ok.0)) in
    c.loop-end.invariant
    ∙ rest-bad c.loop-end.list.items c.loop-end.rest.now c.in-Some.end (sym c.end_of_line.ensures ∙ c.in-Some.is)
    c.in_default-name_in.ensures
    ∙ number

pub returns-else-is_empty : goal.returns-else-is_empty
returns-else-is_empty c =
    let number : ◌≡◌ {A = Result (List Name) ℕ} (Err (length c.loop-end.list.items + 1))
    (Err (c.len-else-is_empty.result + 1)) =
    ap (λ (n : ℕ). Err (n + 1)) (sym (c.len-else-is_empty.ensures ∙ c.loop-end.list.ok.0)) in
    let some : c.loop-end.rest.now ≢ [] =
    λ e. eqb-false (length c.loop-end.rest.now) 0 (sym c.if-is_empty.ensures) (ap length e) in
    c.loop-end.invariant
    ∙ rest-open c.loop-end.list.items c.loop-end.rest.now (sym c.end_of_line.ensures ∙ c.in_default.is) some
    ∙ number
