use Rattle.std.proofs.Common.{◌≡◌, true}
use Rattle.std.specs.Prelude.{◌⊎◌, string_bytes}
use Rattle.hooktool.specs.Builds.{AreBuiltSections}
use Rattle.hooktool.specs.Orders.{wanted_of}
use Rattle.hooktool.proofs.building.build_sections.Given as goal

abbrev pub invariant-loop-index : goal.invariant-loop-index
invariant-loop-index g l = (l.report.is_refused ≡ true)
    ⊎ AreBuiltSections l.file (wanted_of g.R.WholeFiles.known l.order) l.index
    (string_bytes l.report.text)
