use Rattle.std.proofs.Common.{◌≡◌, ◌+◌, ap}
use Rattle.tfiles.proofs.Told.{tells_then, tells_as}
use Rattle.twhere.specs.Standing.{word_text}
use Rattle.twhere.proofs.processes.put_process.Goals as goal

pub returns : goal.returns
returns g c =
    let process : c.new.result ≡ c.args.registers.now.wptr + c.args.priority = (cc) in
    tells_then
    (tells_then
    (tells_then c.put.ensures (tells_then (tells_as c.put_word.ensures (ap word_text process)) c.put_priority.ensures))
    c.put-2.ensures)
    (tells_then c.put_iptr.ensures (tells_then c.put_registers.ensures c.put_flags.ensures))
