use Rattle.tproc.proofs.Blind.{step_is_blind, notice_is_blind, finish_output_is_blind}
use Rattle.tproc.proofs.laws.pending_inputs_are_unseen.Goals as goal

pub returns : goal.returns
returns c = record { steps = step_is_blind; notices = notice_is_blind; ends = finish_output_is_blind }
