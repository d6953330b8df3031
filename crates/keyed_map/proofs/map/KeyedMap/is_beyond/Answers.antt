use Rattle.std.proofs.Common.{ap, sym, ◌∙◌}
use Rattle.std.specs.BTreeMap.{is_at}
use Rattle.std.specs.FinMap as map
use Rattle.std.specs.Map.{lookup}
use Rattle.std.specs.Option.{is_some}
use Rattle.std.specs.Ordering.{is_lt}
use Rattle.keyed_map.specs.Held.{Held}
use Rattle.keyed_map.specs.Keys.{key_cmp}
use Rattle.keyed_map.specs.Slots.{slots_of}
use Rattle.keyed_map.proofs.Changes.{none_there, not_there}
use Rattle.keyed_map.proofs.Slots.{get-live, get-slots, held_in}
use Rattle.keyed_map.proofs.map.KeyedMap.is_beyond.Goals as goal
use mathlib.Core.Bool.{false≢true}

pub returns-in-Some : goal.returns-in-Some
returns-in-Some g c t =
    let entries = c.self.inside.slots.entries in
    let key = c.args.key.now in
    let beyond = ap is_lt (sym c.compare.ensures) ∙ sym c.is_lt.ensures ∙ t in
    ap (λ (h : Held _). map.contains_key h.present key) (sym c.self.view_is)
    ∙ ap is_some (get-live (slots_of entries) key ∙ ap held_in (get-slots entries key))
    ∙ not_there (lookup (is_at (key_cmp key)) entries) (is_lt (key_cmp c.in-Some.last.now key))
    (c.in-Some.ensures.greatest key) beyond

pub returns-in-None : goal.returns-in-None
returns-in-None g c t =
    let entries = c.self.inside.slots.entries in
    let key = c.args.key.now in
    ap (λ (h : Held _). map.contains_key h.present key) (sym c.self.view_is)
    ∙ ap is_some (get-live (slots_of entries) key ∙ ap held_in (get-slots entries key))
    ∙ none_there entries key (λ some. false≢true (c.in-None.ensures.variant.1 some))
