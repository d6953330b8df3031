use Rattle.std.proofs.Common.{◌∙◌, List, ap, sym}
use Rattle.std.specs.Global.{Vec}
use Rattle.elf.specs.declared.lists.LinkedSymbol.{LinkedSymbol}
use Rattle.elf.proofs.Added.{function_less, function_more}
use Rattle.elf.proofs.functions.push_functions.Goals as goal
use Rattle.elf.proofs.functions.push_functions.Goals.{then-is_function_of+in_ok-push}
use Rattle.elf.proofs.functions.push_functions.Goals.{else-is_function_of}

pub loop-k-preserved : goal.loop-k-preserved
loop-k-preserved c =
    let items : Vec LinkedSymbol → List LinkedSymbol = λ pushed. pushed.items in
    let table = c.args.table.now in
    let first = c.args.out.now.items in
    let is = c.symbol_at-symbol.ensures in
    elim c.if-is_function_of.branch [
      | then-is_function_of+in_ok-push w ↦
          ap items w.out-is
          ∙ function_more table c.args.index c.args.section c.loop-k.k first c.loop-k.out.items
          w.push.new.self.items c.symbol_at-symbol.result c.loop-k.invariant is
          (sym w.if-is_function_of.true ∙ c.is_function_of.ensures) w.in_ok-push.ensures.items
      | else-is_function_of w ↦
          ap items w.out-is
          ∙ function_less table c.args.index c.args.section c.loop-k.k first c.loop-k.out.items
          c.symbol_at-symbol.result c.loop-k.invariant is
          (sym w.if-is_function_of.false ∙ c.is_function_of.ensures)
    ]
