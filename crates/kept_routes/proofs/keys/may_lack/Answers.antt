use Rattle.std.proofs.Common.{◌≡◌, ◌-◌, ◌<◌, ◌≤◌, length, true, false, arith, sym, subst, ◌∙◌}
use Rattle.std.proofs.lemmas.Option.{get_or_from_slice_get, slice_get_within}
use Rattle.words.specs.declared.key.Key.{Key}
use Rattle.kept_routes.specs.Destinations.{LiesUnder}
use Rattle.kept_routes.proofs.keys.may_lack.Goals as goal

pub returns-in-None : goal.returns-in-None
returns-in-None c off last is lies =
    let at = c.args.count - 1 in
    let within : at < length c.args.keys.now = slice_get_within c.args.keys.now at last is in
    let short : length c.args.keys.now ≤ at = c.in-None.ensures.lookup.3 in
    absurd (omega (arith, within, short))

pub returns-in-Some : goal.returns-in-Some
returns-in-Some c off last is lies =
    let found : Key = c.in-Some.last.now in
    let same : found ≡ last = c.in-Some.ensures.lookup.1
    ∙ get_or_from_slice_get c.args.keys.now (c.args.count - 1) last found is in
    let t : c.lies_under.result ≡ true =
    c.lies_under.ensures.1 (subst (λ (k : Key). LiesUnder c.args.prefix k) (sym same) lies) in
    absurd (let no : true ≡ false = sym t ∙ off in cc)
