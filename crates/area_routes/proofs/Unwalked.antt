-- Routes that are behind, and of which nothing else is kept, are any router's at any moment.
use Rattle.std.proofs.Common.{◌≡◌, true, false, sym, ◌∙◌}
use Rattle.std.specs.Prelude.{None, Option, IfSome}
use Rattle.words.specs.Numbers.{Moment, RouterNumber}
use Rattle.received.specs.Links.{Area}
use Rattle.area_routes.specs.Kept.{AreRoutesOf, KeptRoutes}

pub unwalked : (kept : KeptRoutes) → kept.behind ≡ true → kept.graph ≡ None
    → kept.candidates ≡ None → kept.inner ≡ None → kept.externals ≡ None
    → (id : RouterNumber) (area : Area) (moment : Moment) → AreRoutesOf id area moment kept
unwalked kept behind graph candidates inner externals id area moment = record {
  walk = record {
    walk = λ on. absurd (let no : true ≡ false = sym behind ∙ on in cc);
    root = λ on. absurd (let no : true ≡ false = sym behind ∙ on in cc);
  };
  candidates = rw candidates tt;
  inner = rw inner tt;
  externals = rw externals tt;
  graph = rw graph tt;
}
