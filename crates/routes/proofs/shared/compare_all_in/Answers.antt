use Rattle.std.proofs.Common.{ℕ, ◌<◌, ◌≤◌, true, false, length, refl, arith}
use mathlib.Core.Bool.{false≢true}
use Rattle.std.proofs.lemmas.List.{length-map}
use Rattle.std.proofs.lemmas.Bool.{eqb-true}
use Rattle.keyed_map.specs.Answers.{all_in}
use Rattle.words.specs.declared.route.Route.{Route}
use Rattle.routes.proofs.InTurn.{all_answered, none_lacks, one_lacks}
use Rattle.routes.proofs.LetIn.{tells_stale}
use Rattle.routes.proofs.InPages.{are_met, first_of_part, none_behind}
use Rattle.routes.proofs.shared.compare_all_in.Goals as goal

pub bounds-behind-0 : goal.bounds-behind-0
bounds-behind-0 c =
    let size = c.len.ensures in
    c.part_from-behind.ensures.some (omega (arith, c.if-met-len.false, size))

pub returns-then-met-len : goal.returns-then-met-len
returns-then-met-len c =
    let answered = c.args.answered.now in
    let candidates = c.args.candidates.now in
    let met = c.met_in_turn-met.result in
    let size = c.len.ensures in
    let whole : length candidates ≤ met = omega (arith, c.if-met-len.true, size) in
    let each = c.met_in_turn-met.ensures.each in
    record {
      lacks = tells_stale (all_in answered) candidates false (
        (λ t. absurd (false≢true t)),
        (λ lacks. absurd (none_lacks (all_in answered) candidates met whole
            (are_met answered candidates met each) lacks)),
      );
      only_candidates = λ on.
          let as_long = eqb-true c.len-then-met-len.result c.len-then-met-len-2.result on in
          let f : Route → Route × ℕ = λ x. (x, 0) in
          let few : length (all_in answered) ≤ length candidates =
          omega (
            arith,
            length-map answered f,
            as_long,
            c.len-then-met-len.ensures,
            c.len-then-met-len-2.ensures,
          ) in
          all_answered (all_in answered) candidates met few whole
          (are_met answered candidates met each);
    }

pub returns : goal.returns
returns c =
    let answered = c.args.answered.now in
    let candidates = c.args.candidates.now in
    let met = c.met_in_turn-met.result in
    let route = c.index-behind-0.result in
    let size = c.len.ensures in
    let inside : met < length candidates = omega (arith, c.if-met-len.false, size) in
    let here = first_of_part candidates met c.part_from-behind.result.now route
    c.part_from-behind.ensures inside c.index-behind-0.is in
    let behind = none_behind answered met route (c.is_among_from.ensures c.if-is_among_from.false)
    in
    record {
      lacks = λ contents root are.
          let lacks = one_lacks (all_in answered) candidates met route inside here are.ascending
          (are_met answered candidates met c.met_in_turn-met.ensures.each) behind in
          tells_stale (all_in answered) candidates true ((λ t. lacks), (λ any. refl)) contents root
          are;
      only_candidates = λ on. absurd (false≢true on);
    }
