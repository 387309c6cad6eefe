use Rattle.tnet.proofs.Starting.{still_loaded}
use Rattle.tcheck.proofs.nodes.load_bytes.Goals as goal

pub returns-clause-still : goal.returns-clause-still
returns-clause-still c =
    still_loaded c.args.memory c.args.start c.args.bytes.now _ _ c.type_inv.bytes c.requires.fit c.load.ensures
    c.requires.unstarted
