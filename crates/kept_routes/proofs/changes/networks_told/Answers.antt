use Rattle.std.proofs.Common.{◌∷◌, [], ◌++◌, inl, inr, take, sym, subst, ◌∙◌, ap, arith}
use Rattle.std.specs.List.{Contains}
use Rattle.std.proofs.lemmas.List.{take_all, take_more}
use Rattle.std.proofs.lemmas.List.Elements.{Contains-push_cases}
use Rattle.words.specs.declared.key.Key.{Key}
use Rattle.routes.proofs.Lists.{of_empty}
use Rattle.routes.specs.Contents.{contents_at}
use Rattle.kept_routes.specs.Changes.{AreAllAdvertised, TellsOf}
use Rattle.kept_routes.proofs.changes.networks_told.Goals as goal

pub loop-key-init : goal.loop-key-init
loop-key-init c key prefix among t = absurd (of_empty key among)

pub loop-key-preserved : goal.loop-key-preserved
loop-key-preserved c key prefix among t =
    let old = contents_at c.args.before c.args.db.now.committed in
    let new = contents_at c.args.moment c.args.db.now.present in
    let xs = c.args.keys.now in
    let i = c.loop-key.key-index in
    let x = c.key-item.result in
    let split = take_more xs i x c.loop-key-test.true
    ∙ ap (λ (y : Key). take i xs ++ y ∷ []) (sym c.key-item.is) in
    elim (Contains-push_cases (take i xs) x key (subst (λ ys. Contains ys key) split among)) [
      | inl before ↦ c.in_ok-note_network-2.ensures.kept prefix
          (c.in_ok-note_network.ensures.kept prefix (c.loop-key.invariant key prefix before t))
      | inr here ↦
          let its = subst (λ k. TellsOf old new k prefix) (sym here) t in
          elim its.says [
            | inl was ↦ c.in_ok-note_network-2.ensures.kept prefix
                (c.in_ok-note_network.ensures.noted its.lsa prefix
                (c.committed_body_at.ensures ∙ was)
                its.is_prefix)
            | inr is ↦ c.in_ok-note_network-2.ensures.noted its.lsa prefix (c.body_at.ensures ∙ is)
                its.is_prefix
          ]
    ]

pub returns : goal.returns
returns c =
    subst (λ ks. AreAllAdvertised (contents_at c.args.before c.args.db.now.committed)
    (contents_at c.args.moment c.args.db.now.present) ks c.loop-key.prefixes.items)
    (take_all c.loop-key.key-index c.args.keys.now (omega (arith, c.loop-key-test.false)))
    c.loop-key.invariant
