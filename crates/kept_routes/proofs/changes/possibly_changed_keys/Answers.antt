use Rattle.std.proofs.Common.{◌≡◌, true, sym, subst, ◌∙◌}
use Rattle.std.specs.FinMap as finite
use Rattle.std.specs.List.{Contains}
use Rattle.std.proofs.lemmas.List.Elements.{Contains-append_left, Contains-append_right}
use Rattle.lsdb.specs.Copies.{is_aged_out}
use Rattle.kept_routes.proofs.Aging.{among_aged, says_same}
use Rattle.kept_routes.proofs.changes.possibly_changed_keys.Goals as goal

pub returns-then-count : goal.returns-then-count
returns-then-count c key none =
    let old = c.args.db.now.committed in
    let new = c.args.db.now.present in
    let same : c.args.before ≡ c.args.moment = cc in
    says_same c.args.before c.args.moment c.requires (finite.get old key) (finite.get new key)
    (c.in_ok-keys.ensures.others key none)
    (λ copy here aged. subst (λ m. is_aged_out m copy ≡ true) (sym same) aged)

pub returns : goal.returns
returns c key none =
    let old = c.args.db.now.committed in
    let new = c.args.db.now.present in
    let all = c.in_ok-extend_from_slice.ensures.items in
    let aged_are = c.deref.ensures.value ∙ c.in_ok-aged.ensures in
    says_same c.args.before c.args.moment c.requires (finite.get old key) (finite.get new key)
    (c.in_ok-keys.ensures.others key (λ t. none
    (subst (λ ks. Contains ks key) (sym all) (Contains-append_left _ _ key t))))
    (λ copy here aged.
    let among = among_aged c.args.moment key copy aged (finite.entries new)
    (sym (finite.get-entries new key) ∙ here) in
    absurd (none (subst (λ ks. Contains ks key) (sym all)
    (Contains-append_right _ _ key (subst (λ ks. Contains ks key) (sym aged_are) among)))))
