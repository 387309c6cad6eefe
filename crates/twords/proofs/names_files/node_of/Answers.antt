use Rattle.twords.proofs.NodeNumbers.{node_unread}
use Rattle.twords.proofs.names_files.node_of.Goals as goal

pub returns-in-Err : goal.returns-in-Err
returns-in-Err c =
    node_unread _ c.args.text.now c.in-Err.field-0 (cc) c.in-Err.ensures.value.0
