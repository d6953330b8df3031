use Rattle.std.proofs.Common.{◌∙◌, sym, Some}
use Rattle.std.proofs.lemmas.Map.Text.{hash_map_updates_str}
use Rattle.asm.specs.Labels.{place_in}
use Rattle.asm.proofs.Tables.{put_first}
use Rattle.asm.proofs.labels.note_place.Goals as goal

pub returns-in_ok-insert : goal.returns-in_ok-insert
returns-in_ok-insert c = λ word.
    hash_map_updates_str c.args.name.now c.args.places.now c.insert.new.self (Some c.args.place)
    c.in_ok-insert.ensures.updates word
    ∙ put_first (place_in c.args.places.now) c.args.name.now word c.args.place
    (sym c.contains_key.ensures ∙ c.if-not-contains_key.true)
