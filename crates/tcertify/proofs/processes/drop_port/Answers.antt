use Rattle.std.proofs.Common.{rules}
use Rattle.std.specs.Prelude.{◌==◌, not}
use Rattle.std.proofs.lemmas.Fn.{filter_same}
use Rattle.tcertify.proofs.processes.drop_port.Goals as goal

pub returns : goal.returns
returns c =
    filter_same _ (λ d. not (d == c.args.channel)) _ (λ x r f k. search rules) c.args.ports.now.items
    c.retain.new.self.items c.retain.ensures.filtered
