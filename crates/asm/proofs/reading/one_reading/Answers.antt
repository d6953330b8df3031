use Rattle.std.proofs.Common.{◌∙◌, ap, sym}
use Rattle.asm.specs.Words.{Word}
use Rattle.asm.specs.declared.line.AssemblyLine.{AssemblyLine}
use Rattle.asm.proofs.Complete.{complete}
use Rattle.asm.proofs.Tokens.{some_same}
use Rattle.asm.proofs.reading.one_reading.Goals as goal

pub returns : goal.returns
returns c words line other name another s t =
    let same = some_same (line, name) (other, another)
    (sym (complete words line name s) ∙ complete words other another t) in
    (ap (λ (p : AssemblyLine × Word). p.0) same, ap (λ (p : AssemblyLine × Word). p.1) same)
