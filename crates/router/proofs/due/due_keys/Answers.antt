use Rattle.std.proofs.Common.{[], ◌∷◌, ◌++◌, cond, ap, sym, ◌∙◌, append-nil}
use Rattle.std.specs.FinMap as finite
use Rattle.std.specs.List.{filter}
use Rattle.event_rules.specs.Originations.{is_due, router_key}
use Rattle.router.proofs.Filtered.{next_filtered}
use Rattle.router.proofs.due.due_keys.Goals as goal

pub loop-key-init : goal.loop-key-init
loop-key-init c =
    let test = is_due c.args.moment c.args.router.now.present in
    let own = c.router_key.result in
    let named = c.router_key.ensures ∙ ap router_key c.id.ensures in
    let come = c.into_iter-key-iterator.ensures.into_iter_gives ∙ c.keys-key-items.ensures
    ∙ ap (λ m. finite.keys m.present) c.announced.ensures.parts in
    let first = c.in_ok-put_due.ensures
    ∙ ap (λ xs. xs ++ cond (test own) (own ∷ []) []) c.new-due.ensures.items in
    next_filtered test own [] c.put_due.new.due.items c.into_iter-key-iterator.result first
    ∙ (λ i. filter test (named i ∷ come i))

pub loop-key-preserved : goal.loop-key-preserved
loop-key-preserved c =
    let test = is_due c.args.moment c.args.router.now.present in
    let before = c.loop-key.due.items in
    next_filtered test c.in-Some.key before c.put_due-in-loop-key.new.due.items c.next.new.self
    c.in_ok-put_due-2.ensures
    ∙ ap (λ ks. before ++ filter test ks) (sym c.in-Some.ensures.steps) ∙ c.loop-key.invariant

pub returns : goal.returns
returns c =
    let test = is_due c.args.moment c.args.router.now.present in
    let found = c.loop-key.due.items in
    sym (append-nil found) ∙ ap (λ ks. found ++ filter test ks) (sym c.in-None.ensures.steps.0)
    ∙ c.loop-key.invariant
