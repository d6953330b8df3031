use Rattle.std.proofs.Common.{◌≡◌, ◌≤◌, ◌+◌, true, map, ap, subst, ◌∙◌}
use Rattle.std.proofs.lemmas.Bool.{le-leb}
use Rattle.std.specs.Prelude.{nat_le}
use Rattle.lsdb.specs.Copies.{lsa_now}
use Rattle.adjacency.specs.Contents.{Updates}
use Rattle.adjacency.specs.Drafts.{drafting}
use Rattle.adjacency.specs.Retransmissions.{that_fit}
use Rattle.adjacency.proofs.Timers.{fits_one}
use Rattle.adjacency.proofs.neighbor.timers.draft_if_it_fits.Goals as goal

pub returns-then-fits : goal.returns-then-fits
returns-then-fits c = λ rest.
    let lsa = lsa_now c.args.moment c.args.copy.now in
    let filled : (c.from.result + c.from-2.result) ≡ (c.args.used + lsa.header.length) =
    (λ i. (c.from.ensures i) + (c.from-2.ensures ∙ ap (λ h. h.length) c.header-header.ensures)
    i) in
    let room : nat_le (c.args.used + lsa.header.length) 8192 ≡ true =
    le-leb (c.args.used + lsa.header.length) 8192 (subst (λ n. n ≤ 8192) filled c.if-fits.true)
    in
    ap (λ n. drafting c.args.delay (map Updates (that_fit n rest)) c.add_update.new.self) filled
    ∙ ap (drafting c.args.delay (map Updates (that_fit (c.args.used + lsa.header.length) rest)))
    c.in_ok-add_update.ensures
    ∙ fits_one c.args.delay c.args.used lsa rest c.args.draft.now room
