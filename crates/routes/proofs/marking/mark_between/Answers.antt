use Rattle.std.proofs.Common.{List, length, ◌∙◌, subst, sym}
use Rattle.std.specs.List.{All}
use Rattle.routes.specs.declared.hop.Hop.{Hop}
use Rattle.routes.specs.Loops.{IsAmong}
use Rattle.routes.proofs.Marks.{between_at, turned_among}
use Rattle.routes.proofs.marking.mark_between.Goals as goal

pub reached-requires : goal.reached-requires
reached-requires c =
    let P : List Hop → Type 0 = λ xs. All (IsAmong (length c.args.marks.now)) xs in
    subst P (sym (c.deref.ensures.value ∙ c.in_ok-back.ensures))
    (turned_among _ c.args.hops.now c.requires.within)

pub returns : goal.returns
returns c = between_at c.args.hops.now c.deref.result.now c.args.place c.args.ahead.now
    c.in_ok-behind.behind.items c.deref-2.result.now c.args.marks.now c.mark_both.new.marks
    (c.deref.ensures.value ∙ c.in_ok-back.ensures) c.deref-2.ensures.value
    c.in_ok-behind.ensures.sound c.in_ok-behind.ensures.complete c.mark_both.ensures
