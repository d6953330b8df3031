use Rattle.std.proofs.Common.{◌∙◌, ◌++◌, ℕ, List, add-one, ap, sym}
use Rattle.elf.proofs.file.ObjectFile.functions.Goals as goal
use Rattle.elf.specs.Files.{contents_of}
use Rattle.elf.specs.Lists.{functions_among, functions_below, symbol_count}
use Rattle.elf.specs.declared.lists.LinkedSymbol.{LinkedSymbol}

pub loop-i-preserved : goal.loop-i-preserved
loop-i-preserved c =
    let bytes = c.self.inside.bytes.now in
    let below = functions_below c.args.self.now c.args.section c.loop-i.i in
    let section = c.args.section in
    c.in_ok-push_functions.ensures
    ∙ ap (λ (xs : List LinkedSymbol). xs ++ functions_among c.contents_of.result.now c.loop-i.i
    section c.symbol_count-count.result) c.loop-i.invariant
    ∙ ap (λ (table : List ℕ). below
    ++ functions_among table c.loop-i.i section c.symbol_count-count.result) c.contents_of.ensures
    ∙ ap (λ (count : ℕ). below
    ++ functions_among (contents_of bytes c.loop-i.i) c.loop-i.i section count)
    c.symbol_count-count.ensures
    ∙ ap (λ (all : List ℕ). below ++ functions_among (contents_of all c.loop-i.i) c.loop-i.i section
    (symbol_count all c.loop-i.i)) c.self.view_is
    ∙ ap (functions_below c.args.self.now section) (sym (add-one c.loop-i.i))
