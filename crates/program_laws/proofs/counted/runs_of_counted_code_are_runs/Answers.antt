use Rattle.std.proofs.Common.{List, length, arith, subst, ap, ◌∙◌, ◌≤◌}
use Rattle.isa.specs.declared.code.Slot.{Slot}
use Rattle.machine.specs.State.{setting_of, start}
use Rattle.machine.specs.Runs.{Leads}
use Rattle.machine.specs.Steps.{Exits}
use Rattle.program_laws.proofs.Codes.{Whole, whole_code, long_as}
use Rattle.program_laws.proofs.Simulation.{from_start}
use Rattle.program_laws.proofs.counted.runs_of_counted_code_are_runs.Goals as goal

pub returns : goal.returns
returns c answer turns heads code counted is_code is_counted counts hook input n labels word ends =
    let whole : Whole code = whole_code code is_code.whole in
    let sound = subst Whole counts.counted_is (whole_code counted is_counted.whole) in
    let most : length counted ≤ 4096 = is_counted.most in
    let same_length = ap length counts.counted_is
    ∙ long_as answer counts.counter turns heads code whole in
    let leads = subst (λ (x : List Slot). Leads (setting_of x hook input) start labels ends.last)
    counts.counted_is ends.leads in
    let exits = subst (λ (x : List Slot). Exits (setting_of x hook input) ends.last word)
    counts.counted_is ends.exits in
    from_start answer counts.counter turns heads code whole hook input sound counts.least
    counts.most counts.unnamed (omega (arith, most, same_length)) labels ends.last word leads
    exits
