use Rattle.std.proofs.Common.{◌≡◌, ◌≤◌, length, Some, ap, subst, ◌∙◌}
use Rattle.packet.specs.Reading.{least_length}
use Rattle.packet.proofs.Sizes.{room_behind}
use Rattle.packet.proofs.judging.judge.Goals as goal

pub is_filled-requires : goal.is_filled-requires
is_filled-requires c =
    let e : c.least_length.result ≡ least_length (Some c.in-Some.kind) =
    c.least_length.ensures ∙ ap least_length c.in-Some.is in
    room_behind c.args.bytes.now c.behind.result.now (least_length (Some c.in-Some.kind))
    (subst (λ n. n ≤ length c.args.bytes.now) e c.if-size-least_length.false) c.behind.ensures
