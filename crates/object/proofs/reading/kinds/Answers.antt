use Rattle.std.proofs.Common.{◌≡◌, ◌+◌, ◌-◌, ◌*◌, take, drop, Some, refl, sym, ap, ◌∙◌, arith}
use Rattle.std.proofs.lemmas.List.Elements.{All-get_or}
use Rattle.object.specs.declared.kind.StatedKind.TheVariants.{Unstated}
use Rattle.object.specs.Statements.{IsKind}
use Rattle.object.proofs.Parts.{kind_at, read_none, read_more, read_text, read_same}
use Rattle.object.proofs.reading.kinds.Goals as goal

pub loop-register-init : goal.loop-register-init
loop-register-init c = read_none _ _ refl

pub loop-register-preserved : goal.loop-register-preserved
loop-register-preserved c =
    let forty : 40 * c.loop-register.register + 40 - 40 * c.loop-register.register ≡ 40 =
    omega arith in
    read_more _ c.args.bytes.now (take
    (40 * c.loop-register.register + 40 - 40 * c.loop-register.register)
    (drop (40 * c.loop-register.register) c.args.bytes.now)) c.loop-register.register
    c.in-Some.one
    c.loop-register.invariant c.loop-register-test.true
    (ap (λ n. take n (drop (40 * c.loop-register.register) c.args.bytes.now)) forty)
    c.in-Some.ensures.found
    (λ k is e. let same = c.in-Some.ensures.only k is e in cc same)

pub returns-in_default-clause-only : goal.returns-in_default-clause-only
returns-in_default-clause-only c ks all ten e =
    let i = c.loop-register.register in
    let forty : 40 * i + 40 - 40 * i ≡ 40 = omega arith in
    let here = sym (kind_at ks i (omega (arith, ten))) ∙ ap (λ t. take 40 (drop (40 * i) t)) e
    ∙ ap (λ n. take n (drop (40 * i) c.args.bytes.now)) (sym forty) in
    absurd (c.in_default.not-Some _ (c.kind.ensures.only _
    (All-get_or IsKind ks i Unstated (omega (arith, ten)) all) here))

pub returns : goal.returns
returns c = record {
  found = read_text _ _ _ c.loop-register.invariant c.loop-register-test.false c.requires;
  only = λ ks all ten e. ap Some (read_same _ _ _ c.loop-register.invariant
      c.loop-register-test.false ks all ten e);
}
