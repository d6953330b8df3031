use Rattle.std.proofs.Common.{◌∙◌, List, ap, sym}
use Rattle.std.specs.Global.{Vec}
use Rattle.elf.specs.declared.lists.LinkedSymbol.{LinkedSymbol}
use Rattle.hooktool.proofs.Unchanged.{one_more, same}
use Rattle.hooktool.proofs.relocated.unchanged.Goals as goal
use Rattle.hooktool.proofs.relocated.unchanged.Goals.{then-not-is_changed+in_ok-push}
use Rattle.hooktool.proofs.relocated.unchanged.Goals.{else-not-is_changed}

pub loop-function-preserved : goal.loop-function-preserved
loop-function-preserved c =
    let items : Vec LinkedSymbol → List LinkedSymbol = λ others. others.items in
    let relocations = c.args.relocations.now in
    let before = c.loop-function.others.items in
    let after = c.if-not-is_changed.others.items in
    elim c.if-not-is_changed.branch [
      | then-not-is_changed+in_ok-push w ↦
          one_more relocations before after _ (ap items w.others-is ∙ w.in_ok-push.ensures.items)
          (sym c.is_changed.ensures ∙ w.if-not-is_changed.true) c.loop-function.invariant
      | else-not-is_changed w ↦
          same relocations before after (ap items w.others-is) c.loop-function.invariant
    ]
