use Rattle.std.proofs.Common.{◌≡◌, true}
use Rattle.std.specs.Prelude.{◌⊎◌, string_bytes}
use Rattle.hooktool.specs.Builds.{AreBuiltFunctions}
use Rattle.hooktool.specs.Orders.{wanted_of}
use Rattle.hooktool.proofs.building.build_functions.Given as goal

abbrev pub invariant-loop-function : goal.invariant-loop-function
invariant-loop-function g l = (l.report.is_refused ≡ true)
    ⊎ AreBuiltFunctions l.file (wanted_of g.R.WholeFiles.known l.order) l.hook l.functions
    l.function-index (string_bytes l.report.text)
