use Rattle.std.proofs.Common.{◌∙◌, ap}
use Rattle.std.specs.Prelude.{slice_get}
use Rattle.std.specs.FinMap as finite
use Rattle.keyed_map.specs.Slots.{keys_from}
use Rattle.kept_routes.proofs.Named.{first_names, none_named}
use Rattle.kept_routes.proofs.externals.is_named.Goals as goal

pub returns-in-None : goal.returns-in-None
returns-in-None c =
    let db = c.args.db.now.present in
    let none = c.in-None.ensures
    ∙ ap (λ k. slice_get (keys_from k (finite.keys db)) 0) c.first_named.ensures in (
      (λ t. absurd cc),
      (λ named. absurd (none_named c.args.router db none named)),
    )

pub returns-in-Some : goal.returns-in-Some
returns-in-Some c =
    let db = c.args.db.now.present in
    let names = first_names c.args.router db c.in-Some.key (c.in-Some.ensures
    ∙ ap (λ k. slice_get (keys_from k (finite.keys db)) 0) c.first_named.ensures) in (
      (λ t. names.0 (c.names_it.ensures.0 t)),
      (λ named. c.names_it.ensures.1 (names.1 named)),
    )
