use Rattle.std.proofs.Common.{◌≡◌, ℕ, List, length, Some, slice_get, arith, refl, sym, ◌∙◌, ap}
use Rattle.std.proofs.Common.{subst}
use Rattle.std.proofs.lemmas.Option.{same_Some, slice_get_read}
use Rattle.candidates.proofs.Steps.{own_all, own_fits, own_more, own_none, own_skip}
use Rattle.candidates.proofs.links.add_own.Goals as goal
use Rattle.candidates.proofs.links.add_own.Goals.{then-bits-address+in_ok-push, else-bits-address}

pub loop-n-init : goal.loop-n-init
loop-n-init c = own_none c.args.root.now c.args.to c.args.cost c.args.address c.args.links.now.items

pub loop-n-preserved : goal.loop-n-preserved
loop-n-preserved c =
    let items = c.as_slice-addresses.result.now in
    let P : List ℕ → Type 0 = λ addresses. slice_get addresses c.loop-n.n
    ≡ Some c.index-addresses-n.result in
    let here : slice_get c.args.root.now.addresses c.loop-n.n ≡ Some c.index-addresses-n.result =
    subst P c.as_slice-addresses.ensures
    (slice_get_read items (length items) c.loop-n.n c.index-addresses-n.result refl
    (omega arith) c.index-addresses-n.is) in
    elim c.if-bits-address.branch [
      | then-bits-address+in_ok-push w ↦
          rw (w.links-is, w.in_ok-push.ensures.items)
          (own_more c.args.root.now c.args.to c.args.cost c.args.address c.loop-n.n
          c.args.links.now.items c.loop-n.links.items
          (here ∙ ap (λ (n : ℕ). Some n) (sym c.bits.ensures ∙ w.if-bits-address.true))
          c.loop-n.invariant)
      | else-bits-address w ↦
          rw w.links-is
          (own_skip c.args.root.now c.args.to c.args.cost c.args.address c.loop-n.n
          c.args.links.now.items c.loop-n.links.items
          (λ e. w.if-bits-address.false (c.bits.ensures
          ∙ same_Some c.index-addresses-n.result c.args.address (sym here ∙ e)))
          c.loop-n.invariant)
    ]

pub returns-clause-adds : goal.returns-clause-adds
returns-clause-adds c = own_all c.args.root.now c.args.to c.args.cost c.args.address c.loop-n.n
    c.args.links.now.items c.loop-n.links.items
    (omega (arith, c.loop-n-test.false, ap length c.as_slice-addresses.ensures))
    c.loop-n.invariant

pub returns-clause-fits : goal.returns-clause-fits
returns-clause-fits c = own_fits c.args.root.now c.args.to c.args.cost c.args.address (omega arith)
    c.args.links.now.items c.loop-n.links.items (returns-clause-adds c)
