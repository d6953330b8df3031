use Rattle.std.specs.Prelude.{◌≡◌, ◌≤◌, ◌-◌, length, take, vec_capacity, vec_len}
use mathlib.Core.List.{IsPrefix}
use Rattle.maps.specs.Words.{IsSeatOf}
use Rattle.hooks.specs.Answered.{AreAnswered}
use Rattle.hooks.specs.Known.{asker_history, known_to}
use Rattle.hooks.proofs.asker.Asker.vetoes.Given as goal

abbrev pub invariant-loop-asked : goal.invariant-loop-asked
invariant-loop-asked l = record {
  table : IsSeatOf l.shared l.seat;
  history : asker_history l.self ≡ asker_history l.fn.self;
  known : IsPrefix (known_to l.fn.self) (known_to l.self);
  room : length l.routes ≤ vec_capacity l.answers;
  many : vec_len l.answers ≡ l.asked;
  most : l.asked ≤ length l.routes;
  answered : AreAnswered (known_to l.fn.self) (known_to l.self) l.fn.seat l.seat l.moment l.rows
      (take (vec_len l.answers) l.routes) l.answers.items;
}

abbrev pub decreases-loop-asked : goal.decreases-loop-asked
decreases-loop-asked l = length l.routes - l.asked
