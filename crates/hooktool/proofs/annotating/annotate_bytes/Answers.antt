use Rattle.std.proofs.Common.{refl}
use Rattle.hooktool.proofs.Faulted.{elf_fault, elf_told}
use Rattle.hooktool.proofs.annotating.annotate_bytes.Goals as goal

pub returns-then-is_elf-clause-made : goal.returns-then-is_elf-clause-made
returns-then-is_elf-clause-made g c =
    elf_told _ c.args.hook c.args.fuel c.args.file.now c.elf_refusal.result
    (c.if-is_elf.ensures.0 refl) c.elf_refusal.ensures.refused

pub returns-then-is_elf-clause-fault : goal.returns-then-is_elf-clause-fault
returns-then-is_elf-clause-fault g c =
    elf_fault c.args.hook c.args.fuel c.args.file.now _ c.elf_refusal.result
    c.elf_refusal.ensures.fault
