use Rattle.std.proofs.Common.{sym, ◌∙◌, inl, inr}
use Rattle.object.proofs.Headers.{told, has_hook, has_fields}
use Rattle.object.proofs.reading.header.Goals as goal
use Rattle.object.proofs.reading.header.Goals.{then-fields-eq0-via-then-fields-eq0}
use Rattle.object.proofs.reading.header.Goals.{then-fields-eq0-via-else-fields-eq0+then-fields-gt-MAX_SLOTS}

pub returns-then-fields-eq0-clause-why : goal.returns-then-fields-eq0-clause-why
returns-then-fields-eq0-clause-why c =
    let begins = has_hook c.args.bytes.now c.read-fields.result c.in-Some.hook c.if-bytes-lt16.false
    (c.has_magic.ensures.0 c.if-not-has_magic.false) c.read-fields.ensures.ranges
    c.read-fields.ensures.bytes c.if-fields-ne1.false c.in-Some.ensures.found in
    let slots = (told c.args.bytes.now c.read-fields.result c.read-fields.ensures.ranges
    c.read-fields.ensures.bytes).slots in
    elim c.then-fields-eq0.branch [
      | then-fields-eq0-via-then-fields-eq0 w ↦ inl (begins, inl (sym slots ∙ w.if-fields-eq0.true))
      | then-fields-eq0-via-else-fields-eq0+then-fields-gt-MAX_SLOTS w ↦ inl
          (begins, inr (let most = w.if-fields-gt-MAX_SLOTS.true in rw (← slots) most))
    ]

pub returns-clause-found : goal.returns-clause-found
returns-clause-found c =
    let begins = has_hook c.args.bytes.now c.read-fields.result c.in-Some.hook c.if-bytes-lt16.false
    (c.has_magic.ensures.0 c.if-not-has_magic.false) c.read-fields.ensures.ranges
    c.read-fields.ensures.bytes c.if-fields-ne1.false c.in-Some.ensures.found in (
      has_fields c.args.bytes.now c.read-fields.result begins c.read-fields.ensures.ranges
          c.read-fields.ensures.bytes c.if-fields-ne1.false c.if-fields-eq0.false
          c.if-fields-gt-MAX_SLOTS.false,
      c.in-Some.ensures.found,
    )
