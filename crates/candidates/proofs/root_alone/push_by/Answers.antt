use Rattle.std.proofs.Common.{◌≡◌, Some, ap}
use Rattle.std.specs.Prelude.{Option, option_copied}
use Rattle.lsa.specs.declared.body.LsaBody.{LsaBody}
use Rattle.std.proofs.lemmas.Result.{on_ok_weaker}
use Rattle.candidates.specs.Sources.{IsInner}
use Rattle.candidates.proofs.Gathered.{adds_same}
use Rattle.candidates.proofs.RootAlone.{by_it, of_it}
use Rattle.candidates.proofs.root_alone.push_by.Goals as goal

pub returns-in-Some-clause-adds : goal.returns-in-Some-clause-adds
returns-in-Some-clause-adds g c =
    let Q = IsInner c.args.root.now (g.W.Ways.ways c.args.ways.now) c.args.routers.now in
    let key = c.args.key.now in
    let says : LsaBody = c.in-Some.body.now in
    let advertised : Option LsaBody = option_copied c.args.body in
    let is : advertised ≡ Some says = ap option_copied c.in-Some.is in
    on_ok_weaker c.push_inner.result (λ adds. adds_same _ _ _ _ (of_it Q key says advertised is)
    (by_it Q key says advertised is) adds) c.push_inner.ensures.adds
