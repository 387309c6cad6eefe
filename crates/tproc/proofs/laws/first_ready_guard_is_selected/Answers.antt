use Rattle.tproc.proofs.Selected.{first_ready_is_selected, selected_is_told}
use Rattle.tproc.proofs.laws.first_ready_guard_is_selected.Goals as goal

pub returns : goal.returns
returns c = record { selected = first_ready_is_selected; told = selected_is_told }
