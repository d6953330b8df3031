use Rattle.std.proofs.Common.{rules, ◌≡◌, ◌++◌, string_bytes, subst}
use Rattle.console.specs.Answers.{hops_text, interfaces_below, numbers_text}
use Rattle.console.proofs.Numbers.{written_more, written_same}
use Rattle.console.proofs.answers.push_hops.Goals as goal
use Rattle.console.proofs.answers.push_hops.Goals.{then-contains+in_ok-push_number}
use Rattle.console.proofs.answers.push_hops.Goals.{else-contains}

pub loop-interface-preserved : goal.loop-interface-preserved
loop-interface-preserved c =
    elim c.if-contains.branch [
      | then-contains+in_ok-push_number w ↦ rw (w.text-is, w.is_first-is)
          (written_more c.loop-interface.interface c.args.hops _ _ _ c.loop-interface.is_first (cc)
          c.loop-interface.invariant.0 c.loop-interface.invariant.1 w.in_ok-push_number.ensures)
      | else-contains w ↦ rw (w.text-is, w.is_first-is)
          (written_same c.loop-interface.interface c.args.hops _ _ c.loop-interface.is_first (cc)
          c.loop-interface.invariant.0 c.loop-interface.invariant.1)
    ]

pub returns : goal.returns
unfolding hops_text
returns c =
    let last : c.loop-interface.interface ≡ 64 = search rules in
    subst (λ n. string_bytes c.loop-interface.text ≡ string_bytes c.args.text.now
    ++ numbers_text (interfaces_below n c.args.hops)) last c.loop-interface.invariant.0
