use Rattle.std.proofs.Common.{◌≡◌, ◌<◌, List, ap, ◌∙◌, sym, subst, length}
use Rattle.std.specs.Prelude.{Some, slice_get}
use Rattle.std.proofs.lemmas.Option.{slice_get-get_or}
use Rattle.tfree.specs.Views.{View}
use Rattle.tfree.specs.Opened.{worker_of}
use Rattle.tfree.proofs.WorkersByNumber.{number_of, remove_other}
use Rattle.tfree.proofs.taking.take_one.Goals as goal

pub returns-clause-others : goal.returns-clause-others
returns-clause-others c = λ j other.
    let k = c.args.number in
    let i = c.in-Some.place in
    let ws = c.args.workers.now.items in
    let v = c.remove.result in
    let lt : i < length ws = subst (λ (l : List View). i < length l) c.as_slice.ensures.value c.in-Some.ensures.0 in
    let at_i : slice_get ws i ≡ Some v = slice_get-get_or ws i v lt
    ∙ ap (λ (x : View). Some x) (sym c.remove.ensures.value) in
    let found : worker_of k ws ≡ slice_get ws i =
    subst (λ (l : List View). worker_of k l ≡ slice_get l i) c.as_slice.ensures.value c.in-Some.ensures.1 in
    ap (worker_of j) c.remove.ensures.items
    ∙ remove_other ws i j v at_i (λ q. other (sym q ∙ number_of k ws v (found ∙ at_i)))
