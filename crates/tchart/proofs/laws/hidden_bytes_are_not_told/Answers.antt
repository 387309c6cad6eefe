use Rattle.tchart.proofs.UnseenCharts.{chart_is_of_the_view}
use Rattle.tchart.proofs.laws.hidden_bytes_are_not_told.Goals as goal

pub returns : goal.returns
returns c = chart_is_of_the_view
