-- Lists of lemmas for the functions that save words of a process: one for each way in which they come to do so.
use Rattle.tproc.proofs.Agreeing.{agrees_but, own_workspace, saved_itself}
use Rattle.tproc.proofs.Places.{place_admitted, place_running, room_admitted, room_own, room_running}
use Rattle.tproc.proofs.Saved.{are_saved, itself_saved, saved_beside}

-- the current process, by its descriptor, is descheduled: there is room for its words, and claims agree with them
-- saved besides
pub ruleset own_process = (room_own, agrees_but)

-- the process of the priority that runs is descheduled, and queued
pub ruleset running_process = (place_running, room_running, agrees_but, saved_itself, own_workspace, are_saved)

-- a process from outside is admitted
pub ruleset admitted_process = (place_admitted, room_admitted, agrees_but)

-- an admitted process is started at its workspace, and queued
pub ruleset started_process = (itself_saved, are_saved, own_workspace)

-- the words of one more workspace are saved: its own are then, and those that were
pub ruleset saved_words = (saved_itself, saved_beside)
