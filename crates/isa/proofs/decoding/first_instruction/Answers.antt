use Rattle.std.proofs.Common.{◌≡◌, sym, ap, ◌∙◌, arith, inl, inr}
use Rattle.isa.specs.declared.shape.Shape.TheVariants as shapes
use Rattle.isa.specs.declared.instruction.Instruction.{Instruction}
use Rattle.isa.specs.Shapes.{shape_of, opcode_of}
use Rattle.isa.specs.Refusals.{Begins, BeginsWhole}
use Rattle.isa.proofs.Faults.{listed_at, has_registers, lacks_registers, begins_held, wide_first}
use Rattle.isa.proofs.Faults.{wide_begins}
use Rattle.isa.proofs.Fronts.{short_spells}
use Rattle.isa.proofs.Ranges.{AreSmall, ranged}
use Rattle.isa.proofs.Only.{front_fields, front_opcode, shape_unsigned, shape_opcode, front_held}
use Rattle.isa.proofs.Only.{front_shape, wide_long, wide_second}
use Rattle.isa.proofs.decoding.first_instruction.Goals as goal
use Rattle.isa.proofs.decoding.first_instruction.Goals.{in-Wide, in_default-matches}

pub returns-in-Some-short_instruction-clause-found :
    goal.returns-in-Some-short_instruction-clause-found
returns-in-Some-short_instruction-clause-found c =
    let held = c.in-Some-short_instruction.ensures.found in
    let b = c.read-fields.ensures.bytes in (
      held.0.ranges,
      short_spells c.read-fields.result c.in-Some-short_instruction.instruction
          c.args.bytes.now held.0 held.1 b,
    )

pub returns-in_default-clause-only : goal.returns-in_default-clause-only
returns-in_default-clause-only c i is e =
    let small : AreSmall c.read-fields.result = record {
      target = c.read-fields.ensures.target;
      source = c.read-fields.ensures.source;
      offset = c.read-fields.ensures.offset;
      immediate = c.read-fields.ensures.immediate;
    } in
    let held = front_held c.read-fields.result i c.args.bytes.now small is
    c.read-fields.ensures.bytes e in
    let shape = front_shape c.read-fields.result i c.shape_of.result held c.shape_of.ensures.only in
    absurd (c.in_default.not-Some (shape_of i) shape)

pub returns-then-fields-gt10-clause-only : goal.returns-then-fields-gt10-clause-only
returns-then-fields-gt10-clause-only c i is e =
    let small : AreSmall c.read-fields.result = record {
      target = c.read-fields.ensures.target;
      source = c.read-fields.ensures.source;
      offset = c.read-fields.ensures.offset;
      immediate = c.read-fields.ensures.immediate;
    } in
    let held = front_held c.read-fields.result i c.args.bytes.now small is
    c.read-fields.ensures.bytes e in
    let shape = front_shape c.read-fields.result i c.shape_of.result held c.shape_of.ensures.only in
    let r = ranged i is in
    let target = ap (λ f. f.target) held.fields_are in
    let source = ap (λ f. f.source) held.fields_are in
    elim c.then-fields-gt10.either [
      | inl a ↦ absurd (omega (arith, a, target, r.target))
      | inr b ↦
          absurd (omega (arith, b, source, r.source))
    ]

pub returns-in-Some-short_instruction-clause-only :
    goal.returns-in-Some-short_instruction-clause-only
returns-in-Some-short_instruction-clause-only c i is e =
    let small : AreSmall c.read-fields.result = record {
      target = c.read-fields.ensures.target;
      source = c.read-fields.ensures.source;
      offset = c.read-fields.ensures.offset;
      immediate = c.read-fields.ensures.immediate;
    } in
    let held = front_held c.read-fields.result i c.args.bytes.now small is
    c.read-fields.ensures.bytes e in
    let shape = front_shape c.read-fields.result i c.shape_of.result held c.shape_of.ensures.only in
    let same : shape_of i ≡ c.in-Some.shape = cc (shape, c.in-Some.is) in
    let found = c.in-Some-short_instruction.ensures.only i (record {
      shape_is = same;
      held = held;
    }) in cc found

pub returns-in-None-clause-only : goal.returns-in-None-clause-only
returns-in-None-clause-only c i is e =
    let small : AreSmall c.read-fields.result = record {
      target = c.read-fields.ensures.target;
      source = c.read-fields.ensures.source;
      offset = c.read-fields.ensures.offset;
      immediate = c.read-fields.ensures.immediate;
    } in
    let held = front_held c.read-fields.result i c.args.bytes.now small is
    c.read-fields.ensures.bytes e in
    let shape = front_shape c.read-fields.result i c.shape_of.result held c.shape_of.ensures.only in
    let same : shape_of i ≡ c.in-Some.shape = cc (shape, c.in-Some.is) in
    let found = c.in-None.ensures.only i (record { shape_is = same; held = held }) in cc found

pub returns-then-bytes-lt16-clause-only : goal.returns-then-bytes-lt16-clause-only
returns-then-bytes-lt16-clause-only c i is e =
    let small : AreSmall c.read-fields.result = record {
      target = c.read-fields.ensures.target;
      source = c.read-fields.ensures.source;
      offset = c.read-fields.ensures.offset;
      immediate = c.read-fields.ensures.immediate;
    } in
    let held = front_held c.read-fields.result i c.args.bytes.now small is
    c.read-fields.ensures.bytes e in
    let shape = front_shape c.read-fields.result i c.shape_of.result held c.shape_of.ensures.only in
    let same : shape_of i ≡ c.in-Some.shape = cc (shape, c.in-Some.is) in
    let is_wide : c.in-Some.shape ≡ shapes.Wide =
    elim c.match-matches.branch [
      | in-Wide w ↦ w.in-Wide.is
      | in_default-matches w ↦ absurd
          (cc (w.matches-is, c.if-not-matches.false))
    ] in
    let wide : shape_of i ≡ shapes.Wide = same ∙ is_wide in
    let long = wide_long i c.args.bytes.now wide e in
    absurd (omega (arith, long, c.if-bytes-lt16.true))

pub returns-in-Some-wide_instruction-clause-only : goal.returns-in-Some-wide_instruction-clause-only
returns-in-Some-wide_instruction-clause-only c i is e =
    let small : AreSmall c.read-fields.result = record {
      target = c.read-fields.ensures.target;
      source = c.read-fields.ensures.source;
      offset = c.read-fields.ensures.offset;
      immediate = c.read-fields.ensures.immediate;
    } in
    let held = front_held c.read-fields.result i c.args.bytes.now small is
    c.read-fields.ensures.bytes e in
    let shape = front_shape c.read-fields.result i c.shape_of.result held c.shape_of.ensures.only in
    let same : shape_of i ≡ c.in-Some.shape = cc (shape, c.in-Some.is) in
    let is_wide : c.in-Some.shape ≡ shapes.Wide =
    elim c.match-matches.branch [
      | in-Wide w ↦ w.in-Wide.is
      | in_default-matches w ↦ absurd
          (cc (w.matches-is, c.if-not-matches.false))
    ] in
    let wide : shape_of i ≡ shapes.Wide = same ∙ is_wide in
    let second = wide_second i c.args.bytes.now wide e ∙ sym c.read.ensures.bytes in
    let found = c.in-Some-wide_instruction.ensures.only i (record {
      shape_is = wide;
      held = held;
    }) second in cc found

pub returns-in-None-wide_instruction-clause-only : goal.returns-in-None-wide_instruction-clause-only
returns-in-None-wide_instruction-clause-only c i is e =
    let small : AreSmall c.read-fields.result = record {
      target = c.read-fields.ensures.target;
      source = c.read-fields.ensures.source;
      offset = c.read-fields.ensures.offset;
      immediate = c.read-fields.ensures.immediate;
    } in
    let held = front_held c.read-fields.result i c.args.bytes.now small is
    c.read-fields.ensures.bytes e in
    let shape = front_shape c.read-fields.result i c.shape_of.result held c.shape_of.ensures.only in
    let same : shape_of i ≡ c.in-Some.shape = cc (shape, c.in-Some.is) in
    let is_wide : c.in-Some.shape ≡ shapes.Wide =
    elim c.match-matches.branch [
      | in-Wide w ↦ w.in-Wide.is
      | in_default-matches w ↦ absurd
          (cc (w.matches-is, c.if-not-matches.false))
    ] in
    let wide : shape_of i ≡ shapes.Wide = same ∙ is_wide in
    let second = wide_second i c.args.bytes.now wide e ∙ sym c.read.ensures.bytes in
    let found = c.in-None-wide_instruction.ensures.only i (record {
      shape_is = wide;
      held = held;
    }) second in cc found

pub returns-in_default-clause-fault : goal.returns-in_default-clause-fault
returns-in_default-clause-fault c i e =
    c.in_default.not-Some (shape_of i)
    (c.shape_of.ensures.only (shape_of i) (shape_unsigned i)
    (shape_opcode i ∙ e ∙ front_opcode c.read-fields.result c.args.bytes.now
    c.read-fields.ensures.bytes))

pub returns-then-fields-gt10-clause-fault : goal.returns-then-fields-gt10-clause-fault
returns-then-fields-gt10-clause-fault c =
    let small : AreSmall c.read-fields.result = record {
      target = c.read-fields.ensures.target;
      source = c.read-fields.ensures.source;
      offset = c.read-fields.ensures.offset;
      immediate = c.read-fields.ensures.immediate;
    } in (
      listed_at c.read-fields.result c.args.bytes.now c.in-Some.shape c.read-fields.ensures.bytes
          c.in-Some.ensures.some,
      lacks_registers c.read-fields.result c.args.bytes.now small
          c.read-fields.ensures.bytes c.then-fields-gt10.either,
    )

pub returns-in-None-clause-fault : goal.returns-in-None-clause-fault
returns-in-None-clause-fault c =
    let small : AreSmall c.read-fields.result = record {
      target = c.read-fields.ensures.target;
      source = c.read-fields.ensures.source;
      offset = c.read-fields.ensures.offset;
      immediate = c.read-fields.ensures.immediate;
    } in
    let fields = c.read-fields.result in
    let bytes = c.args.bytes.now in
    let read = c.read-fields.ensures.bytes in
    let none : (i : Instruction) → Begins i bytes → ⊥ = λ i begins.
    let held = begins_held fields i bytes small read begins in
    let shape = front_shape fields i c.shape_of.result held c.shape_of.ensures.only in
    let same : shape_of i ≡ c.in-Some.shape = cc (shape, c.in-Some.is) in
    let found = c.in-None.ensures.only i (record { shape_is = same; held = held }) in cc found in (
      listed_at fields bytes c.in-Some.shape read c.in-Some.ensures.some,
      has_registers fields bytes small read c.if-fields-gt10.false c.if-fields-gt10-2.false,
      inl none,
    )

pub returns-then-not-begins_wide-clause-fault : goal.returns-then-not-begins_wide-clause-fault
returns-then-not-begins_wide-clause-fault c =
    let small : AreSmall c.read-fields.result = record {
      target = c.read-fields.ensures.target;
      source = c.read-fields.ensures.source;
      offset = c.read-fields.ensures.offset;
      immediate = c.read-fields.ensures.immediate;
    } in
    let fields = c.read-fields.result in
    let bytes = c.args.bytes.now in
    let read = c.read-fields.ensures.bytes in
    let is_wide : c.in-Some.shape ≡ shapes.Wide =
    elim c.match-matches.branch [
      | in-Wide w ↦ w.in-Wide.is
      | in_default-matches w ↦ absurd
          (cc (w.matches-is, c.if-not-matches.false))
    ] in
    let none : (i : Instruction) → Begins i bytes → ⊥ = λ i begins.
    let held = begins_held fields i bytes small read begins in
    let shape = front_shape fields i c.shape_of.result held c.shape_of.ensures.only in
    let same : shape_of i ≡ c.in-Some.shape = cc (shape, c.in-Some.is) in
    let right = c.begins_wide.ensures.1 (wide_first fields i held (same ∙ is_wide)) in
    cc (right, c.if-not-begins_wide.true) in (
      listed_at fields bytes c.in-Some.shape read c.in-Some.ensures.some,
      has_registers fields bytes small read c.if-fields-gt10.false c.if-fields-gt10-2.false,
      inl none,
    )

pub returns-then-not-begins_wide-clause-only : goal.returns-then-not-begins_wide-clause-only
returns-then-not-begins_wide-clause-only c i is e =
    let fault = returns-then-not-begins_wide-clause-fault c in
    elim fault.2 [
      | inl none ↦ absurd (none i (is, front_fields i c.args.bytes.now e))
      | inr second ↦ absurd (second.1 i (is, e))
    ]

pub returns-then-bytes-lt16-clause-fault : goal.returns-then-bytes-lt16-clause-fault
returns-then-bytes-lt16-clause-fault c =
    let small : AreSmall c.read-fields.result = record {
      target = c.read-fields.ensures.target;
      source = c.read-fields.ensures.source;
      offset = c.read-fields.ensures.offset;
      immediate = c.read-fields.ensures.immediate;
    } in
    let is_wide : c.in-Some.shape ≡ shapes.Wide =
    elim c.match-matches.branch [
      | in-Wide w ↦ w.in-Wide.is
      | in_default-matches w ↦ absurd
          (cc (w.matches-is, c.if-not-matches.false))
    ] in
    let opcode : c.read-fields.result.opcode ≡ 24 =
    sym c.in-Some.ensures.some.0 ∙ ap opcode_of is_wide in
    let right = c.begins_wide.ensures.0 c.if-not-begins_wide.false in (
      c.if-bytes-lt16.true,
      wide_begins c.read-fields.result c.args.bytes.now small
          c.read-fields.ensures.bytes opcode c.if-fields-gt10.false right.0 right.1,
    )

pub returns-in-None-wide_instruction-clause-fault :
    goal.returns-in-None-wide_instruction-clause-fault
returns-in-None-wide_instruction-clause-fault c =
    let small : AreSmall c.read-fields.result = record {
      target = c.read-fields.ensures.target;
      source = c.read-fields.ensures.source;
      offset = c.read-fields.ensures.offset;
      immediate = c.read-fields.ensures.immediate;
    } in
    let none : (i : Instruction) → BeginsWhole i c.args.bytes.now → ⊥ = λ i whole. let no =
    returns-in-None-wide_instruction-clause-only c i whole.0 whole.1 in cc no in (
      listed_at c.read-fields.result c.args.bytes.now c.in-Some.shape c.read-fields.ensures.bytes
          c.in-Some.ensures.some,
      has_registers c.read-fields.result c.args.bytes.now small
          c.read-fields.ensures.bytes c.if-fields-gt10.false c.if-fields-gt10-2.false,
      inr (c.if-bytes-lt16.false, none),
    )
