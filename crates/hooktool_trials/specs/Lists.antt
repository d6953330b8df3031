-- The lists that the options of a question give.
use Rattle.std.specs.Prelude.{List, codes}
use Rattle.clap.specs.Walk.{Row, all_of}
use Rattle.hooktool_trials.specs.Questions.{HasRows, HasSettings}
use Rattle.hooktool_trials.specs.declared.requests.Lists.{Lists}

pub record HasLists (rows : List Row) (lists : Lists) : Type 0 where
  pub table : HasRows (all_of (codes "row") rows) lists.rows.items
  pub counters : HasSettings (all_of (codes "counter") rows) 256 16777215 lists.counters.items
  pub cells : HasSettings (all_of (codes "cell") rows) 64 18446744073709551615 lists.cells.items
