-- Links that are lent as a slice, and what the Vec has afterwards: none of them has changed its
-- committed state, so there are as many as before.
use Rattle.std.proofs.Common.{◌≡◌, ℕ, List, ◌++◌, length, map, take, drop, Result, refl, sym, ap}
use Rattle.std.proofs.Common.{◌∙◌}
use Rattle.std.proofs.lemmas.List.{length-map, take_at}
use Rattle.keyed_map.proofs.Helds.{on_ok}
use Rattle.lsdb.specs.Kept.{RouterDatabase}
use Rattle.received.specs.Links.{Link}
use Rattle.received.specs.AreaStates.{Send}
use Rattle.area.specs.Doing.{AreaDoes, LinksDo}
use Rattle.area.specs.Drafted.{drafts_with}
use Rattle.area.specs.Kept.{KeptLink, RouterArea}
use Rattle.area.specs.Links.{area_of, committed_link, draft_of, present}
use Rattle.area.proofs.Marking.{area_is, on_links_alone}

pub lent_number : (items lent : List KeptLink) (links : List Link) → lent ≡ items
    → map present items ≡ links → length lent ≡ length links
lent_number items lent links value shown =
    ap length value ∙ sym (length-map items present) ∙ ap length shown

module _ (items lent made : List KeptLink) (count : ℕ) where
  pub given_back : length lent ≡ count → map committed_link made ≡ map committed_link lent
      → take count (made ++ drop (length made) items) ≡ made
  given_back long kept =
      take_at made (drop (length made) items) count
      (sym (length-map made committed_link) ∙ ap length kept ∙ length-map lent committed_link
      ∙ long)

  pub committed_back : lent ≡ items → length lent ≡ count
      → map committed_link made ≡ map committed_link lent
      → map committed_link (take count (made ++ drop (length made) items))
      ≡ map committed_link items
  committed_back value long kept =
      ap (map committed_link) (given_back long kept) ∙ kept ∙ ap (map committed_link) value

-- links and database from these parts
abbrev pub area_from : List KeptLink → RouterDatabase → RouterArea
area_from items d = record {
  router = d.router;
  present = area_of items d.present;
  committed = record { links = map committed_link items; database = d.committed };
  drafted = map draft_of items;
}

-- what lent links do, the area does
pub lent_do : {X E : Type 0} (after : List Link → List Link) (sends : List Link → List Send)
    (items lent made : List KeptLink) (count : ℕ) (d : RouterDatabase) (old : RouterArea)
    (r : Result X E) → lent ≡ items → length lent ≡ count → area_from items d ≡ old
    → LinksDo after sends lent made r → AreaDoes (on_links_alone after sends) old
    (area_from (take count (made ++ drop (length made) items)) d) r
lent_do after sends items lent made count d old r value long shown does =
    let back = given_back items lent made count long does.committed in
    record {
      area = on_ok r (λ is.
          area_is (ap (map present) back ∙ is) refl
          ∙ ap (λ (ls : List KeptLink). (on_links_alone after sends (area_of ls d.present)).area)
          value
          ∙ ap (λ (v : RouterArea). (on_links_alone after sends v.present).area) shown) does.links;
      drafts = on_ok r (λ is.
          ap (map draft_of) back ∙ is
          ∙ ap (λ (ls : List KeptLink). drafts_with (sends (map present ls)) (map present ls)
          (map draft_of ls)) value
          ∙ ap (λ (v : RouterArea). drafts_with (sends v.present.links) v.present.links v.drafted)
          shown) does.drafts;
      committed = area_is (committed_back items lent made count value long does.committed) refl
          ∙ ap (λ (v : RouterArea). v.committed) shown;
      router = ap (λ (v : RouterArea). v.router) shown;
    }
