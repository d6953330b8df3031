use Rattle.clap.proofs.WalkLemmas.{raw_values-rows}
use Rattle.clap.specs.Matches.{found_of}
use Rattle.clap.specs.Walk.{Text, rows_of}
use Rattle.std.proofs.Common.{◌∙◌, List, Option, codes, subst}
use Rattle.hooktool_trials.proofs.Questioned.{no_cells, no_counters, no_rows}
use Rattle.hooktool_trials.proofs.requests.lists_in.Goals as goal
use Rattle.hooktool_trials.specs.Questions.{HasRows, HasSettings}

pub returns-in-Err : goal.returns-in-Err
returns-in-Err c =
    let found = found_of c.args.matches.now in
    no_rows (rows_of found) _ c.in-Err.lack
    (c.get_strs.ensures ∙ raw_values-rows found (codes "row")) c.in-Err.ensures

pub returns-in-Err-settings_in : goal.returns-in-Err-settings_in
returns-in-Err-settings_in c =
    let found = found_of c.args.matches.now in
    no_counters (rows_of found) _ c.in-Err-settings_in.lack
    (c.get_strs-in-Ok.ensures ∙ raw_values-rows found (codes "counter"))
    c.in-Err-settings_in.ensures

pub returns-in-Err-settings_in-2 : goal.returns-in-Err-settings_in-2
returns-in-Err-settings_in-2 c =
    let found = found_of c.args.matches.now in
    no_cells (rows_of found) _ c.in-Err-settings_in-2.lack
    (c.get_strs-in-Ok-settings_in.ensures ∙ raw_values-rows found (codes "cell"))
    c.in-Err-settings_in-2.ensures

pub returns-in-Ok-settings_in-2 : goal.returns-in-Ok-settings_in-2
returns-in-Ok-settings_in-2 c =
    let found = found_of c.args.matches.now in
    record {
      table = subst (λ (w : Option (List Text)). HasRows w c.in-Ok.rows.items)
          (c.get_strs.ensures ∙ raw_values-rows found (codes "row")) c.in-Ok.ensures;
      counters =
          subst (λ (w : Option (List Text)). HasSettings w 256 16777215
          c.in-Ok-settings_in.counters.items)
          (c.get_strs-in-Ok.ensures ∙ raw_values-rows found (codes "counter"))
          c.in-Ok-settings_in.ensures;
      cells =
          subst (λ (w : Option (List Text)). HasSettings w 64 18446744073709551615
          c.in-Ok-settings_in-2.cells.items)
          (c.get_strs-in-Ok-settings_in.ensures ∙ raw_values-rows found (codes "cell"))
          c.in-Ok-settings_in-2.ensures;
    }
