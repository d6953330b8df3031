use Rattle.std.proofs.Common.{List, ap, arith, rules, subst, sym, take, vec_len}
use Rattle.std.proofs.lemmas.Grind.{common_steps}
use mathlib.Core.List.{IsPrefix}
use Rattle.hooks.specs.declared.history.HistoryPrefix.{HistoryPrefix}
use Rattle.hooks.specs.declared.operation.LoaderOperation.{LoaderOperation}
use Rattle.hooks.specs.Answered.{AreAnswered}
use Rattle.hooks.specs.Shown.{published_operations}
use Rattle.hooks.proofs.InTurn.{grown}
use Rattle.hooks.proofs.Kept.{sees_same}
use Rattle.hooks.proofs.vetoes.ask_some_by.Goals as goal

pub enter_as-requires : goal.enter_as-requires
enter_as-requires c x = sees_same _ _ x

pub returns-clause-answered : goal.returns-clause-answered
returns-clause-answered c known first so_far =
    let before = c.args.prefix.now.seen.log in
    let after = c.copy.result.seen.log in
    let now = published_operations c.get-programs.result.now in
    let same = ap (λ (f : HistoryPrefix). f.seen.log) c.copy.ensures in
    let begins : IsPrefix before after =
    first_of (search rules, grind (arith, common_steps)) in
    let old = take (vec_len c.args.answers.now) c.args.routes.now in
    let new = take (vec_len c.vetoes.new.answers) c.args.routes.now in
    let seen : AreAnswered known now first c.args.seat.now c.args.moment c.args.rows.now old
    c.args.answers.now.items =
    subst (λ (l : List LoaderOperation). AreAnswered known l first c.args.seat.now c.args.moment
    c.args.rows.now old c.args.answers.now.items) same
    (grown known before after begins first c.args.seat.now c.args.moment c.args.rows.now old
    c.args.answers.now.items so_far) in
    subst (λ (l : List LoaderOperation). AreAnswered known l first c.vetoes.new.seat c.args.moment
    c.args.rows.now new c.vetoes.new.answers.items) (sym same)
    (c.vetoes.ensures.answered known first seen)
