-- Flooding the copies with the keys at MaxAge, in turn, is flooding for all entries of the
-- database.
use Rattle.std.proofs.Common.{◌≡◌, ℕ, Bool, true, false, cond, not, ◌&&◌, List, [], ◌∷◌, ◌++◌, map}
use Rattle.std.proofs.Common.{Option, None, Some, refl, sym, ap, ◌∙◌, append_assoc}
use Rattle.std.specs.List.{AllByRecursion, filter, fold}
use Rattle.std.specs.FinMap as finite
use Rattle.words.specs.declared.key.Key.{Key}
use Rattle.lsdb.specs.Headers.{Lsa}
use Rattle.lsdb.specs.Copies.{DatabaseCopy, max_age_keys, has_just_aged_out}
use Rattle.lsdb.specs.Copies.{is_aged_out, lsa_now}
use Rattle.adjacency.specs.Drafts.{Drafted}
use Rattle.received.specs.Flooding.{flood, flood_to}
use Rattle.received.specs.Links.{Area}
use Rattle.received.specs.AreaStates.{AreaState, Send, stepping_sends}
use Rattle.received.proofs.Marks.{IsStill, StillThere, all_there, still_all}
use Rattle.received.proofs.Marks.{still_marked}
use Rattle.event_rules.specs.Endings.{flood_aged, flood_if_aged}
use Rattle.area.specs.Drafted.{drafts_with}
use Rattle.area.specs.Links.{flood_new_max_age, flood_new_max_age_copy, with_no_sends}
use Rattle.area.proofs.Sends.{append_none}
use Rattle.router.specs.Aging.{flood_each_new_max_age, outcomes_in_turn}
use Rattle.router.specs.Making.{interfaces_of}
use Rattle.router.proofs.Areas.{keeps_neighbors}
use Rattle.router.proofs.Drafts.{drafted_append, drafted_same}

-- ---- one entry, and the key of one copy

nothing_followed : (o : AreaState) → o ≡ outcomes_in_turn o (with_no_sends o.area)
nothing_followed o = λ i. record { area = o.area; sends = sym (append_none o.sends) i }

module _ (before moment : ℕ) where
  by_age : (e : Key × DatabaseCopy) (o : AreaState) (b : Bool)
      → cond b (flood moment None (lsa_now moment e.1) o) o
      ≡ outcomes_in_turn o (cond b (flood moment None (lsa_now moment e.1) (with_no_sends o.area))
      (with_no_sends o.area))
  by_age e o true = refl
  by_age e o false = nothing_followed o

  aged_by_key : (e : Key × DatabaseCopy) (o : AreaState) → IsStill o.area.database e.0 e.1
      → flood_if_aged before moment o e
      ≡ outcomes_in_turn o (flood_new_max_age before moment e.0 o.area)
  aged_by_key e o still =
      by_age e o (has_just_aged_out before moment e.1)
      ∙ ap (λ (c : Option DatabaseCopy). outcomes_in_turn o
      (flood_new_max_age_copy before moment c (with_no_sends o.area))) (sym still.1)

  still_aged : (e : Key × DatabaseCopy) (es : List (Key × DatabaseCopy)) (o : AreaState) (b : Bool)
      → AllByRecursion (StillThere o.area.database) es
      → AllByRecursion (StillThere (cond b (flood moment None (lsa_now moment e.1) o)
      o).area.database) es
  still_aged e es o true h = still_marked moment
      (stepping_sends (flood_to moment None (lsa_now moment e.1)) o.area.links) o.area.database es h
  still_aged e es o false h = h

  abbrev keys_of : List (Key × DatabaseCopy) → List Key
  keys_of es = map (λ e. e.0) (filter (λ e. is_aged_out moment e.1) es)

  abbrev going_on : List Key → AreaState → AreaState
  going_on keys o = outcomes_in_turn o (flood_each_new_max_age before moment keys o.area)

  by_test : (e : Key × DatabaseCopy) (es : List (Key × DatabaseCopy)) (o : AreaState)
      → IsStill o.area.database e.0 e.1 → (b : Bool) → is_aged_out moment e.1 ≡ b
      → going_on (keys_of es) (flood_if_aged before moment o e)
      ≡ going_on (map (λ e. e.0) (cond b (e ∷ filter (λ e. is_aged_out moment e.1) es)
      (filter (λ e. is_aged_out moment e.1) es))) o
  by_test e es o still true is =
      let p : AreaState = flood_new_max_age before moment e.0 o.area in
      let q : AreaState = flood_each_new_max_age before moment (keys_of es) p.area in
      ap (going_on (keys_of es)) (aged_by_key e o still) ∙ (λ i. record {
        area = q.area;
        sends = append_assoc o.sends p.sends q.sends i;
      })
  by_test e es o still false is =
      ap (λ b. going_on (keys_of es) (cond (b && not (is_aged_out before e.1))
      (flood moment None (lsa_now moment e.1) o) o)) is

  ages_by_keys : (es : List (Key × DatabaseCopy)) (o : AreaState)
      → AllByRecursion (StillThere o.area.database) es
      → fold (flood_if_aged before moment) o es ≡ going_on (keys_of es) o
  ages_by_keys [] o h = nothing_followed o
  ages_by_keys (e ∷ es) o h =
      ages_by_keys es (flood_if_aged before moment o e)
      (still_aged e es o (has_just_aged_out before moment e.1) h.1)
      ∙ by_test e es o h.0 (is_aged_out moment e.1) refl

  pub ages_are : (a : Area) → flood_each_new_max_age before moment (max_age_keys moment a.database)
      a
      ≡ flood_aged before moment (with_no_sends a)
  ages_are a = sym (ages_by_keys (finite.entries a.database) (with_no_sends a)
      (still_all a.database (finite.entries a.database) (all_there a.database)))

-- ---- what is sent after something else is drafted after it

module _ (before moment : ℕ) (a : Area) (ds : List Drafted) where
  kept_by_test : (lsa : Lsa) (b : Bool)
      → interfaces_of (cond b (flood moment None lsa (with_no_sends a))
      (with_no_sends a)).area.links
      ≡ interfaces_of a.links
  kept_by_test lsa true = keeps_neighbors moment (flood_to moment None lsa) a
  kept_by_test lsa false = refl

  kept_by_copy : (c : Option DatabaseCopy)
      → interfaces_of (flood_new_max_age_copy before moment c (with_no_sends a)).area.links
      ≡ interfaces_of a.links
  kept_by_copy None = refl
  kept_by_copy (Some c) = kept_by_test (lsa_now moment c) (has_just_aged_out before moment c)

  pub drafted_after : (more : List Send) (key : Key)
      → drafts_with more (flood_new_max_age before moment key a).area.links
      (drafts_with (flood_new_max_age before moment key a).sends a.links ds)
      ≡ drafts_with ((flood_new_max_age before moment key a).sends ++ more) a.links ds
  drafted_after more key =
      let p : AreaState = flood_new_max_age before moment key a in
      drafted_same more p.area.links a.links (drafts_with p.sends a.links ds)
      (kept_by_copy (finite.get a.database key))
      ∙ drafted_append 1 p.sends more a.links ds
