use Rattle.std.proofs.Common.{◌≡◌, ◌++◌, take}
use Rattle.std.specs.List.{flat_map}
use Rattle.lsa.specs.Text.{summary_tos_text}
use Rattle.lsa.proofs.writing.put_summary_tos.Given as goal

abbrev pub invariant-loop-metric : goal.invariant-loop-metric
invariant-loop-metric l = l.out.items ≡ l.fn.out.items
    ++ flat_map summary_tos_text (take l.metric-index l.tos)
