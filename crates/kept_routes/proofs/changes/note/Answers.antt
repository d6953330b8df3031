use Rattle.std.proofs.Common.{◌≡◌, ◌∷◌, [], ◌++◌, List, sym, subst, ◌∙◌}
use Rattle.std.specs.List.{Contains}
use Rattle.std.proofs.lemmas.List.Elements.{Contains-append_left, Contains-push}
use Rattle.std.proofs.lemmas.Option.{same_Some}
use Rattle.words.specs.Prefixes.{Network}
use Rattle.kept_routes.proofs.changes.note.Goals as goal

pub returns-in-None-clause-noted : goal.returns-in-None-clause-noted
returns-in-None-clause-noted c prefix is = absurd (let no = sym c.in-None.is ∙ is in cc)

pub returns-then-is_among-clause-noted : goal.returns-then-is_among-clause-noted
returns-then-is_among-clause-noted c prefix is =
    let its : c.in-Some.prefix ≡ prefix =
    same_Some c.in-Some.prefix prefix (sym c.in-Some.is ∙ is) in
    let among = c.is_among.ensures.0 c.if-is_among.true in
    subst (λ (p : Network). Contains c.args.prefixes.now.items p) its
    (subst (λ (ps : List Network). Contains ps c.in-Some.prefix) c.as_slice.ensures.value among)

pub returns-in_ok-push-in-Some-clause-kept : goal.returns-in_ok-push-in-Some-clause-kept
returns-in_ok-push-in-Some-clause-kept c prefix among =
    subst (λ (ps : List Network). Contains ps prefix) (sym c.in_ok-push-in-Some.ensures.items)
    (Contains-append_left c.args.prefixes.now.items (c.in-Some.prefix ∷ []) prefix among)

pub returns-in_ok-push-in-Some-clause-noted : goal.returns-in_ok-push-in-Some-clause-noted
returns-in_ok-push-in-Some-clause-noted c prefix is =
    let its : c.in-Some.prefix ≡ prefix =
    same_Some c.in-Some.prefix prefix (sym c.in-Some.is ∙ is) in
    subst (λ (ps : List Network). Contains ps prefix) (sym c.in_ok-push-in-Some.ensures.items)
    (subst (λ (p : Network). Contains (c.args.prefixes.now.items ++ c.in-Some.prefix ∷ []) p) its
    (Contains-push c.args.prefixes.now.items c.in-Some.prefix))
