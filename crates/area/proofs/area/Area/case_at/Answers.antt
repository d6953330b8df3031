use Rattle.std.proofs.Common.{◌-◌, ◌<◌, List, length, get_or, map, ap, ◌∙◌, arith}
use Rattle.std.proofs.lemmas.List.{length-map}
use Rattle.std.specs.FinMap as finite
use Rattle.lsa.specs.Headers.{key_of}
use Rattle.lsdb.specs.Headers.{lsa_key}
use Rattle.received.specs.Cases.{case_of_readable}
use Rattle.received.specs.Links.{Link, any_exchange_or_loading, neighbor_at}
use Rattle.area.specs.Kept.{KeptLink}
use Rattle.area.specs.Links.{present}
use Rattle.area.proofs.Synchronizing.{shown_neighbor}
use Rattle.area.proofs.area.Area.case_at.Goals as goal

pub returns : goal.returns
returns c =
    let m = c.args.moment in
    let n = c.args.interface in
    let ls = c.links-links.result.now in
    let lsa = c.args.lsa.now in
    let d = c.self.inside.database.present in
    let neighbor = (get_or ls (n - 1) c.index-links-i.result).present.neighbor in
    let copy = c.get-copy.ensures ∙ ap (finite.get d)
    (c.key-key.ensures ∙ ap key_of c.header-header.ensures) in
    let within : n - 1 < length ls = omega (
      arith,
      c.requires.first,
      c.requires.last,
      length-map ls present,
      ap length c.links-links.ensures.present,
    ) in
    c.case_on.ensures
    ∙ ap (λ (l : KeptLink). case_of_readable m c.get-copy.result l.present.neighbor
    c.any_exchange_or_loading-synchronizing.result lsa) c.index-links-i.is
    ∙ ap (λ o. case_of_readable m o neighbor c.any_exchange_or_loading-synchronizing.result lsa)
    copy
    ∙ ap (λ b. case_of_readable m (finite.get d (lsa_key lsa)) neighbor b lsa)
    c.any_exchange_or_loading-synchronizing.ensures
    ∙ ap (λ o. case_of_readable m (finite.get d (lsa_key lsa)) o
    (any_exchange_or_loading (map present ls)) lsa)
    (shown_neighbor ls (n - 1) n c.index-links-i.result within (omega (arith, c.requires.first)))
    ∙ ap (λ v. case_of_readable m (finite.get v.present.database (lsa_key lsa))
    (neighbor_at n (map present ls)) (any_exchange_or_loading (map present ls)) lsa)
    c.self.view_is
    ∙ ap (λ (xs : List Link). case_of_readable m
    (finite.get c.args.self.now.present.database (lsa_key lsa)) (neighbor_at n xs)
    (any_exchange_or_loading xs) lsa) c.links-links.ensures.present
