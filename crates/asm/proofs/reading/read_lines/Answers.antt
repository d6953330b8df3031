use Rattle.std.proofs.Common.{subst, List, ℕ, lit<, sym}
use Rattle.std.proofs.lemmas.Iterator.Consumers.{YieldsList-end}
use Rattle.std.proofs.lemmas.Iterator.Splits.{YieldsList-from_str_split}
use Rattle.asm.specs.Words.{Word}
use Rattle.asm.specs.LineViews.{items, views}
use Rattle.asm.specs.Text.{Readings}
use Rattle.asm.proofs.Items.{adds_readings, views_more}
use Rattle.asm.proofs.reading.read_lines.Goals as goal

pub returns-clause-read : goal.returns-clause-read
returns-clause-read c =
    let whole = YieldsList-end (YieldsList-from_str_split 10 c.args.text.now (lit< tt) (cc) (cc)
    (cc)) c.loop-line.yielded _ c.loop-line.yielded_by _ _ c.in-None.is c.next.ensures.steps in
    subst (λ (ls : List (List ℕ)). Readings ls
    (items c.loop-line.lines.items c.loop-line.names.items)) whole.0 c.loop-line.invariant.1

pub loop-line-preserved : goal.loop-line-preserved
loop-line-preserved c =
    let more = adds_readings (views c.loop-line.yielded)
    (items c.loop-line.lines.items c.loop-line.names.items)
    (items c.read_line.new.lines.items c.read_line.new.names.items) c.in-Some.line.now
    c.loop-line.invariant.1 c.in_ok-read_line.ensures.added in (
      c.in_ok-read_line.ensures.same,
      subst
          (λ (ls : List Word). Readings ls
          (items c.read_line.new.lines.items c.read_line.new.names.items))
          (sym (views_more c.loop-line.yielded c.in-Some.line)) more,
    )
