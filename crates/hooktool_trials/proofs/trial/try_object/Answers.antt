use Rattle.std.proofs.Common.{◌≡◌, ◌∙◌, ◌++◌, ◌∷◌, [], List, ap, arith, get_or, lit<, refl, sym}
use Rattle.std.specs.List.{sum_by}
use Rattle.std.proofs.lemmas.List.FromFn.{get_or-map-range_with_len}
use Rattle.maps.specs.Access.{adds_to}
use Rattle.maps.specs.Words.{SeatView, fresh}
use Rattle.hooktool_trials.proofs.trial.try_object.Goals as goal

pub returns-clause-trial : goal.returns-clause-trial
returns-clause-trial c =
    let table = c.in_ok-shared.shared.table in
    let seat = c.remove-seat.result in
    let read = c.cells_of-cells.new.seat in
    let begun : seat ≡ fresh table 0 =
    c.remove-seat.ensures.value ∙ ap (λ (l : List SeatView). get_or l 0 seat)
    c.in_ok-shared.ensures.fresh ∙ get_or-map-range_with_len (fresh table) 0 1 0 0 seat
    (lit< tt) refl in
    let items : c.push.new.self.items ≡ read ∷ [] =
    c.in_ok-push.ensures.items ∙ ap (λ (l : List SeatView). l ++ read ∷ []) c.new-last.ensures.items
    in
    record {
      seat = seat;
      unused = begun ∙ ap (λ t. fresh t 0) (sym (ap (λ (s : SeatView). s.table) begun));
      seat_after = c.ask.new.seat;
      asked = c.in_ok-endings.ensures.asked;
      counters = λ k lt.
          let sums = c.close-totals.ensures.sums k lt
          ∙ ap (sum_by (λ (s : SeatView). adds_to k s.accesses)) items in
          omega (arith, sums, c.cells_of-cells.ensures.same.counters k);
      cells = λ j lt. c.cells_of-cells.ensures.cells j lt;
    }
