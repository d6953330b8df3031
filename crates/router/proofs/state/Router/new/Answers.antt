use Rattle.std.proofs.Common.{◌≡◌, length, sym, ap, subst, ◌∙◌, arith}
use Rattle.std.proofs.lemmas.List.{length-map}
use Rattle.adjacency.specs.Views.{keys_of}
use Rattle.adjacency.proofs.Neighbors.{no_keys}
use Rattle.area.specs.Kept.{RouterArea}
use Rattle.area.specs.Links.{committed_link}
use Rattle.router.specs.Owned.{AreOwn}
use Rattle.router.proofs.Announced.{none_own}
use Rattle.router.proofs.state.Router.new.Goals as goal

pub invariant_of-result : goal.invariant_of-result
invariant_of-result c =
    let id = c.args.id in
    let count : length c.new.result.committed.links ≡ length c.args.links.items =
    ap (λ a. length a.committed.links) c.new.ensures
    ∙ length-map c.args.links.items committed_link in (
      ap (λ a. a.router) c.new.ensures,
      omega (arith, count, c.requires.few),
      subst (AreOwn id) (sym (ap (λ h. h.present) c.new-2.ensures)) (none_own id),
      subst (AreOwn id) (sym (ap (λ h. h.committed) c.new-2.ensures)) (none_own id),
    )

pub returns-clause-present : goal.returns-clause-present
returns-clause-present c =
    let waiting = ap (λ h. keys_of h.present) c.new-3.ensures ∙ no_keys (Unit {0}) in
    let answers = ap (λ h. h.present) c.new-6.ensures ∙ c.each.ensures ∙ c.from_vec.ensures
    ∙ c.new-5.ensures.items in
    λ i. record {
      id = c.args.id;
      area = (c.new.ensures i).present;
      announced = (c.new-2.ensures i).present;
      waiting = waiting i;
      originated = (c.new-4.ensures i).present;
      answers = answers i;
      moment = (c.new-7.ensures i).present;
    }

pub returns-clause-committed : goal.returns-clause-committed
returns-clause-committed c =
    let waiting = ap (λ h. keys_of h.committed) c.new-3.ensures ∙ no_keys (Unit {0}) in
    let answers = ap (λ h. h.committed) c.new-6.ensures ∙ c.each.ensures ∙ c.from_vec.ensures
    ∙ c.new-5.ensures.items in
    λ i. record {
      id = c.args.id;
      area = (c.new.ensures i).committed;
      announced = (c.new-2.ensures i).committed;
      waiting = waiting i;
      originated = (c.new-4.ensures i).committed;
      answers = answers i;
      moment = (c.new-7.ensures i).committed;
    }

pub returns-clause-drafted : goal.returns-clause-drafted
returns-clause-drafted c = ap (λ (a : RouterArea). a.drafted) c.new.ensures
