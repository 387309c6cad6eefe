use Rattle.std.proofs.Common.{refl}
use Rattle.tcertify.proofs.stored.Words.open_word.Goals as goal

pub returns : goal.returns
returns c =
    record {
      word = c.opened_word.result;
      opened = c.opened_word.ensures;
      items = refl;
      number = refl;
      kind = refl;
      first = refl;
      notes = refl;
    }
