use Rattle.elf.proofs.Added.{among_more}
use Rattle.elf.proofs.relocations.push_relocations.Goals as goal

pub loop-k-preserved : goal.loop-k-preserved
loop-k-preserved c =
    among_more c.args.table.now c.args.symbols c.loop-k.k c.args.out.now.items c.loop-k.out.items
    c.push.new.self.items c.relocation_at.result c.loop-k.invariant c.relocation_at.ensures
    c.in_ok-push.ensures.items
