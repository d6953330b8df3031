use Rattle.std.specs.Prelude.{◌≡◌, List, take, vec_capacity, vec_len}
use Rattle.maps.specs.Words.{IsSeatOf, SeatView}
use Rattle.hooks.specs.declared.operation.LoaderOperation.{LoaderOperation}
use Rattle.hooks.specs.Answered.{AreAnswered}
use Rattle.hooks.specs.Shown.{published_operations}
use Rattle.hooks.proofs.value.Programs.vetoes.Given as goal

abbrev pub invariant-loop-at : goal.invariant-loop-at
invariant-loop-at l = record {
  table : IsSeatOf l.shared l.seat;
  room : vec_capacity l.answers ≡ vec_capacity l.fn.answers;
  many : vec_len l.answers ≡ l.at;
  answered : (known : List LoaderOperation) (first : SeatView)
      → AreAnswered known (published_operations l.self) first l.fn.seat l.moment l.rows
      (take (vec_len l.fn.answers) l.routes) l.fn.answers.items
      → AreAnswered known (published_operations l.self) first l.seat l.moment l.rows
      (take (vec_len l.answers) l.routes) l.answers.items;
}
