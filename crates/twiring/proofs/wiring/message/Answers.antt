use Rattle.std.proofs.Common.{rules, ◌∙◌}
use Rattle.twiring.proofs.WiringMessages.{message-decoded, message-refused}
use Rattle.twiring.proofs.wiring.message.Goals as goal

pub returns-in-Ok : goal.returns-in-Ok
returns-in-Ok c =
    let told = c.sized.ensures ∙ message-decoded c.in-Some.text.now c.in-Ok.bytes.items c.in-Ok.ensures.ok in
    search (rules, told)

pub returns-in_default-error : goal.returns-in_default-error
returns-in_default-error c =
    let told = message-refused c.in-Some.text.now c.in-Err.error c.in-Err.ensures.err
    c.in_default-error.not-OutOfMemory in
    search (rules, told)
