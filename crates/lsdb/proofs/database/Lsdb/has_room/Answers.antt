use Rattle.std.proofs.Common.{◌≡◌, true, false, arith, not, ◌&&◌, ◌||◌, nat_lt, refl, ap, ◌∙◌}
use Rattle.std.specs.FinMap as finite
use Rattle.lsdb.specs.Limits.{has_room, is_own_external}
use Rattle.lsdb.proofs.Owned.{either_true, room_free, room_full, room_counted, room_own}
use Rattle.lsdb.proofs.database.Lsdb.has_room.Goals as goal

pub returns-then-contains : goal.returns-then-contains
returns-then-contains c =
    let router = c.self.inside.router in
    let copies = c.self.inside.copies.present in
    let key = c.args.key.now in
    let own = is_own_external router key in
    let all = room_counted router copies (finite.len copies) c.self.inside.externals refl
    c.self.invariant.counted key c.contains.result own c.contains.ensures refl in
    either_true c.contains.result (nat_lt (finite.len copies) 16384 &&
    (not own || nat_lt c.self.inside.externals 4096)) c.if-contains.true
    ∙ all ∙ ap (λ h. has_room h.router key h.present) c.self.view_is

pub returns-then-not-is_own_external : goal.returns-then-not-is_own_external
returns-then-not-is_own_external c =
    let router = c.self.inside.router in
    let copies = c.self.inside.copies.present in
    let key = c.args.key.now in
    let own = c.is_own_external.result in
    let all = room_counted router copies c.len.result c.self.inside.externals c.len.ensures
    c.self.invariant.counted key c.contains.result own c.contains.ensures
    c.is_own_external.ensures in
    let free : nat_lt c.len.result 16384 ≡ true = grind (arith, c.if-len-lt-MAX_LSAS.true) in
    room_free c.contains.result (nat_lt c.len.result 16384) (not own)
    (nat_lt c.self.inside.externals 4096) c.if-contains.false free
    (ap not c.if-not-is_own_external.true)
    ∙ all ∙ ap (λ h. has_room h.router key h.present) c.self.view_is

pub returns-else-not-is_own_external : goal.returns-else-not-is_own_external
returns-else-not-is_own_external c =
    let router = c.self.inside.router in
    let copies = c.self.inside.copies.present in
    let key = c.args.key.now in
    let own = c.is_own_external.result in
    let all = room_counted router copies c.len.result c.self.inside.externals c.len.ensures
    c.self.invariant.counted key c.contains.result own c.contains.ensures
    c.is_own_external.ensures in
    let free : nat_lt c.len.result 16384 ≡ true = grind (arith, c.if-len-lt-MAX_LSAS.true) in
    room_own c.contains.result (nat_lt c.len.result 16384) (not own)
    (nat_lt c.self.inside.externals 4096) c.if-contains.false free
    (ap not c.if-not-is_own_external.false)
    ∙ all ∙ ap (λ h. has_room h.router key h.present) c.self.view_is

pub returns-else-len-lt-MAX_LSAS : goal.returns-else-len-lt-MAX_LSAS
returns-else-len-lt-MAX_LSAS c =
    let router = c.self.inside.router in
    let copies = c.self.inside.copies.present in
    let key = c.args.key.now in
    let own = is_own_external router key in
    let all = room_counted router copies c.len.result c.self.inside.externals c.len.ensures
    c.self.invariant.counted key c.contains.result own c.contains.ensures refl in
    let full : nat_lt c.len.result 16384 ≡ false = grind (arith, c.if-len-lt-MAX_LSAS.false) in
    room_full c.contains.result (nat_lt c.len.result 16384) (not own)
    (nat_lt c.self.inside.externals 4096) c.if-contains.false full
    ∙ all ∙ ap (λ h. has_room h.router key h.present) c.self.view_is
