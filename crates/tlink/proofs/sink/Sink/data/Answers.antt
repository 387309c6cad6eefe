use Rattle.std.proofs.Common.{sym, ◌∙◌, refl}
use Rattle.tlink.specs.declared.event.NodeEvent.TheVariants.{Data}
use Rattle.tlink.proofs.Sources as source
use Rattle.tlink.proofs.Sinks as sink
use Rattle.tlink.proofs.sink.Sink.data.Goals as goal

pub returns-then-is_full : goal.returns-then-is_full
returns-then-is_full c =
    source.refuses (Data 0 _ _) c.self.view_is
    (sink.data_full _ _ _ _ _ _ _ (sink.some_is _ (sym c.is_some-is_full.ensures ∙ c.if-is_full.true)).1)

pub returns : goal.returns
returns c =
    source.does (Data 0 _ _) _ _ _ c.self.view_is
    (sink.data_comes _ _ _ _ _ _ (sink.none_is _ (sym c.is_some-is_full.ensures ∙ c.if-is_full.false))) refl refl
