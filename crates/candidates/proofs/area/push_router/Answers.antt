use Rattle.std.proofs.Common.{◌≡◌, [], rules, sym}
use Rattle.candidates.proofs.Made.{of_router}
use Rattle.candidates.proofs.area.push_router.Goals as goal

pub returns-clause-adds : goal.returns-clause-adds
returns-clause-adds g c =
    let own : c.args.key.now.link_state_id ≡ c.args.key.now.advertising_router = search rules in
    of_router _ _ [] _ c.in-Router.lsa c.in-Some.way c.leaving.result c.as_slice.result.now
    (search rules) own c.in-Router.is (sym c.in-Some.ensures) c.leaving.ensures.value
    c.as_slice.ensures
    c.args.offers.now.items c.push_stubs.new.offers.items c.in_ok-push_stubs.ensures.adds
