use Rattle.std.proofs.Common.{length}
use Rattle.fine_stream.proofs.TableLemmas.{empty_fans, rows_none, none_longer}
use Rattle.fine_stream.proofs.tables.empty_tables.Goals as goal

pub returns : goal.returns
returns c = record {
  all = λ a b. c.in_ok-all.ensures c.new.result.items a b (none_longer c.new.result.items 0 c.new.ensures.items);
  fans = empty_fans c.args.chart.now c.new.result.items c.new-3.result.items c.new-3.ensures.items;
  rows = rows_none c.args.chart.now c.new.result.items c.new-2.result.items c.new-2.ensures.items;
  short = none_longer c.new-2.result.items (length c.new.result.items) c.new-2.ensures.items;
}
