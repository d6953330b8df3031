use Rattle.std.proofs.Common.{inr, refl}
use Rattle.hooktool.proofs.Built.{told_more}
use Rattle.hooktool.proofs.Faulted.{explaining_fault}
use Rattle.hooktool.specs.declared.building.Purpose.TheVariants as purposes
use Rattle.hooktool.proofs.explaining.explain_bytes.Goals as goal

pub returns-then-is_elf-clause-explained : goal.returns-then-is_elf-clause-explained
returns-then-is_elf-clause-explained g c = told_more _ _ c.build_bytes.result
    (λ report built. inr (c.if-is_elf.ensures.0 refl, built)) c.build_bytes.ensures.built

pub returns-then-is_elf-clause-fault : goal.returns-then-is_elf-clause-fault
returns-then-is_elf-clause-fault g c =
    explaining_fault g.R.WholeFiles.known purposes.Explanation c.args.bytes.now
    c.build_bytes.result refl c.build_bytes.ensures.fault
