use Rattle.std.proofs.Common.{rules, ◌≡◌, List, length, get_or, slice_index_or, ap, subst}
use Rattle.std.proofs.Common.{◌∙◌, arith}
use Rattle.std.specs.List.{sum_by}
use Rattle.std.proofs.lemmas.List.FromFn.{length-map-range_with_len, get_or-map-range_with_len}
use Rattle.maps.specs.Access.{adds_to}
use Rattle.maps.specs.Words.{SeatView, fresh}
use Rattle.commands.specs.RawRuns.{Ran, setting_of}
use Rattle.commands.proofs.raw.report_of.Goals as goal

pub run_each-requires-after_bounds : goal.run_each-requires-after_bounds
run_each-requires-after_bounds g c lifetimes within i x lt = c.in_ok-shared.ensures.own i x lt

pub close-totals-requires-clause-all : goal.close-totals-requires-clause-all
close-totals-requires-clause-all g c =
    omega (
      arith,
      c.in_ok-seats.ensures.len,
      c.in_ok-finished.ensures.len,
      ap length c.in_ok-shared.ensures.fresh,
      length-map-range_with_len (fresh c.in_ok-shared.shared.table) 0 c.args.seats,
      c.in_ok-shared.ensures.table,
    )

pub returns-clause-runs : goal.returns-clause-runs
returns-clause-runs g c =
    let table = c.in_ok-shared.shared.table in
    let many : length c.in_ok-shared.seats.items ≡ c.args.seats =
    ap length c.in_ok-shared.ensures.fresh
    ∙ length-map-range_with_len (fresh table) 0 c.args.seats in
    record {
      shared = c.in_ok-shared.shared;
      dealt = c.in_ok-shared.ensures.table;
      finished = c.in_ok-finished.finished.items;
      each = c.in_ok-finished.ensures.len ∙ many;
      ran = λ i d lt.
          let s : SeatView = fresh table i in
          let one = slice_index_or c.in_ok-finished.finished.items i d in
          let at : get_or c.in_ok-shared.seats.items i s ≡ s =
          ap (λ (l : List SeatView). get_or l i s) c.in_ok-shared.ensures.fresh
          ∙ get_or-map-range_with_len (fresh table) 0 c.args.seats i i s lt (omega arith) in
          subst (λ (x : SeatView). Ran (setting_of c.args.code.now c.args.hook) x one) at
          (c.in_ok-finished.ensures.ran i s d (omega (arith, lt, many)));
      sums = c.close-totals.result.sums;
      counters = search rules;
      exact = λ k lt. c.close-totals.ensures.sums k lt
          ∙ ap (sum_by (λ (s : SeatView). adds_to k s.accesses)) c.in_ok-seats.ensures.same;
      told = search rules;
      stuck = search rules;
    }
