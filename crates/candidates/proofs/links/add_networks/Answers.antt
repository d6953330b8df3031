use Rattle.std.proofs.Common.{◌≡◌, ◌<◌, ◌≤◌, ℕ, true, false, length, Some, slice_get, arith, refl}
use Rattle.std.proofs.Common.{sym, ◌∙◌, ap, subst}
use Rattle.std.proofs.lemmas.Bool.{false≢true}
use Rattle.std.proofs.lemmas.Grind.{common_steps}
use Rattle.std.proofs.lemmas.Option.{slice_get_read}
use Rattle.std.specs.declared.cmp.Ordering.TheVariants.{Less}
use Rattle.candidates.specs.Entries.{attached_entry, entry_cmp}
use Rattle.candidates.specs.declared.entry.AdvertisedLink.{AdvertisedLink}
use Rattle.candidates.proofs.Steps.{walk_end, walk_more, walk_none, walk_stop}
use Rattle.candidates.proofs.links.add_networks.Goals as goal

pub loop-at-init : goal.loop-at-init
loop-at-init c =
    let P : AdvertisedLink → Type 0 = λ least. (k : ℕ) (other : AdvertisedLink)
    → slice_get c.args.entries.now k ≡ Some other → k < c.first_at_near-first.result
    → entry_cmp other least ≡ Less in
    record {
      low = omega arith;
      adds = walk_none c.args.root.now c.args.entries.now c.args.router c.args.lsa.now.links
          c.first_at_near-first.result c.args.links.now.items
          (subst P (c.of_list-least.ensures
          ∙ ap (λ (n : ℕ). attached_entry n 0 c.args.router) c.new.ensures)
          c.first_at_near-first.ensures.before);
      fits = λ all. all;
    }

pub loop-at-preserved : goal.loop-at-preserved
loop-at-preserved c =
    let entries = c.args.entries.now in
    let here : slice_get entries c.loop-at.at ≡ Some c.index-entries-at.result =
    slice_get_read entries (length entries) c.loop-at.at c.index-entries-at.result refl
    (omega arith) c.index-entries-at.is in
    let listed : c.is_listed.result ≡ true = grind (arith, common_steps) in
    let is = c.is_listed.ensures.0 listed in
    record {
      low = omega arith;
      adds = walk_more c.args.root.now entries c.args.router c.args.lsa.now.links c.loop-at.at
          c.index-entries-at.result c.args.links.now.items c.loop-at.links.items
          c.add_network.new.links.items here is.0 is.1
          c.loop-at.invariant.adds c.in_ok-add_network.ensures.adds;
      fits = λ all. c.in_ok-add_network.ensures.fits (c.loop-at.invariant.fits all);
    }

pub returns-clause-adds : goal.returns-clause-adds
returns-clause-adds c = walk_end c.args.root.now c.args.entries.now c.args.router
    c.args.lsa.now.links c.loop-at.at c.args.links.now.items c.loop-at.links.items
    (omega (arith, c.loop-at-test.false)) c.loop-at.invariant.adds

pub returns-then-not-is_listed-clause-adds : goal.returns-then-not-is_listed-clause-adds
returns-then-not-is_listed-clause-adds c =
    let entries = c.args.entries.now in
    let here : slice_get entries c.loop-at.at ≡ Some c.index-entries-at.result =
    slice_get_read entries (length entries) c.loop-at.at c.index-entries-at.result refl
    (omega arith) c.index-entries-at.is in
    let away : c.is_listed.result ≡ false = grind (arith, common_steps) in
    let P : AdvertisedLink → Type 0 = λ least. (k : ℕ) (other : AdvertisedLink)
    → slice_get entries k ≡ Some other
    → c.first_at_near-first.result ≤ k → entry_cmp other least ≡ Less → ⊥ in
    walk_stop c.args.root.now entries c.args.router c.args.lsa.now.links
    c.first_at_near-first.result c.loop-at.at c.index-entries-at.result c.args.links.now.items
    c.loop-at.links.items
    c.requires.sorted (subst P (c.of_list-least.ensures
    ∙ ap (λ (n : ℕ). attached_entry n 0 c.args.router) c.new.ensures)
    c.first_at_near-first.ensures.beyond) c.loop-at.invariant.low here
    (λ router kind. false≢true (sym away ∙ c.is_listed.ensures.1 (router, kind)))
    c.loop-at.invariant.adds
