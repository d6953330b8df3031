use Rattle.std.proofs.Common.{◌≡◌, ◌-◌, ◌+◌, ℕ, arith, rules, subst}
use Rattle.candidates.proofs.Ordered.{AreShorter, at_most_32, is_longest, none_long}
use Rattle.candidates.proofs.Ordered.{shorter_unmatched}
use Rattle.candidates.proofs.search.longest_match.Goals as goal

pub loop-length-init : goal.loop-length-init
loop-length-init c = (
  at_most_32 c.args.routes.now c.args.address c.args.lengths.now (search rules)
      c.requires.lengths,
  omega arith,
)

pub loop-length-preserved : goal.loop-length-preserved
loop-length-preserved c =
    let n = c.loop-length.length in
    let P : ℕ → Type 0 = λ k. AreShorter c.args.routes.now c.args.address k in
    let back : n ≡ n - 1 + 1 = omega (arith, c.loop-length-test.true) in (
      shorter_unmatched c.args.routes.now c.args.address (n - 1) c.in-None.ensures
          (subst P back c.loop-length.invariant.0),
      omega (arith, c.loop-length.invariant.1),
    )

pub returns-in-Some : goal.returns-in-Some
returns-in-Some c =
    let n = c.loop-length.length in
    let P : ℕ → Type 0 = λ k. AreShorter c.args.routes.now c.args.address k in
    let back : n ≡ n - 1 + 1 = omega (arith, c.loop-length-test.true) in
    is_longest c.args.routes.now c.args.address (n - 1) c.in-Some.route c.in-Some.ensures
    (subst P back c.loop-length.invariant.0)

pub returns : goal.returns
returns c =
    let P : ℕ → Type 0 = λ k. AreShorter c.args.routes.now c.args.address k in
    let zero : c.loop-length.length ≡ 0 = omega (arith, c.loop-length-test.false) in
    none_long c.args.routes.now c.args.address (subst P zero c.loop-length.invariant.0)
