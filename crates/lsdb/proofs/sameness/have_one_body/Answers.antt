use Rattle.std.proofs.Common.{◌≡◌, ◌≤◌, ◌∙◌, length, drop, ap, subst, sym}
use Rattle.lsa.specs.declared.header.Header.{Header}
use Rattle.lsdb.specs.Headers.{lsa_with_age}
use Rattle.lsdb.proofs.Bodies.{long, one_body, one_rest, one_type}
use Rattle.lsdb.proofs.sameness.have_one_body.Goals as goal

pub have_one_rest-requires-clause-first : goal.have_one_rest-requires-clause-first
have_one_rest-requires-clause-first c =
    subst (λ bs. 20 ≤ length bs) (sym c.as_slice.ensures.value)
    (long c.in_ok-old_text.old_text.items (lsa_with_age 0 c.args.old.now)
    c.in_ok-old_text.ensures.text)

pub have_one_rest-requires-clause-second : goal.have_one_rest-requires-clause-second
have_one_rest-requires-clause-second c =
    subst (λ bs. 20 ≤ length bs) (sym c.as_slice-2.ensures.value)
    (long c.in_ok-new_text.new_text.items (lsa_with_age 0 c.args.new.now)
    c.in_ok-new_text.ensures.text)

pub returns-then-header : goal.returns-then-header
returns-then-header c = (
  (λ t. absurd cc),
  (λ is.
      let types = one_type c.in_ok-old_text.old_text.items c.in_ok-new_text.new_text.items
      (lsa_with_age 0 c.args.old.now) (lsa_with_age 0 c.args.new.now)
      c.in_ok-old_text.ensures.text c.in_ok-new_text.ensures.text is in
      absurd (c.if-header.true (
      ap (λ (h : Header). h.ls_type) c.header.ensures ∙ types
      ∙ sym (ap (λ (h : Header). h.ls_type) c.header-2.ensures)))),
)

pub returns : goal.returns
returns c =
    let old = lsa_with_age 0 c.args.old.now in
    let new = lsa_with_age 0 c.args.new.now in
    let xs = c.in_ok-old_text.old_text.items in
    let ys = c.in_ok-new_text.new_text.items in
    let types : old.header.ls_type ≡ new.header.ls_type =
    sym (ap (λ (h : Header). h.ls_type) c.header.ensures) ∙ c.if-header.false
    ∙ ap (λ (h : Header). h.ls_type) c.header-2.ensures in (
      (λ t.
          let rest : drop 20 xs ≡ drop 20 ys =
          ap (drop 20) (sym c.as_slice.ensures.value) ∙ c.have_one_rest.ensures.0 t
          ∙ ap (drop 20) c.as_slice-2.ensures.value in
          one_body xs ys old new c.in_ok-old_text.ensures.text c.in_ok-new_text.ensures.text
          c.texts_are_determined.ensures.lsa types rest),
      (λ is. c.have_one_rest.ensures.1 (
          ap (drop 20) c.as_slice.ensures.value
          ∙ one_rest xs ys old new c.in_ok-old_text.ensures.text c.in_ok-new_text.ensures.text is
          ∙ sym (ap (drop 20) c.as_slice-2.ensures.value))),
    )
