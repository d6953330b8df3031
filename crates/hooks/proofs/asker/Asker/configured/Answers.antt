use Rattle.std.proofs.Common.{◌≡◌, Bool, true, false, refl, ◌<◌, ◌^◌, [], inr, ap, ◌∙◌, arith}
use Rattle.std.proofs.Common.{rules}
use mathlib.Core.Bool.{not}
use Rattle.hooks.specs.Known.{known_to}
use Rattle.hooks.specs.Questions.{ExternalAnswer}
use Rattle.hooks.proofs.Vacant.{configured_metric, configured_tag, price_by_none, tag_by_none}
use Rattle.hooks.proofs.asker.Asker.configured.Goals as goal

free : (b : Bool) → not b ≡ false → b ≡ true
free true is = refl
free false is = absurd (cc (is))

pub new-tag-requires : goal.new-tag-requires
new-tag-requires c =
    let fits : c.args.external.now.tag < 2 ^ 32 =
    first_of (search rules, omega arith, grind arith) in
    ([], inr (c.from.ensures ∙ configured_tag c.args.external.now c.args.moment [] fits))

pub new-price-requires : goal.new-price-requires
new-price-requires c =
    let fits : c.args.external.now.metric < 2 ^ 32 =
    first_of (search rules, omega arith, grind arith) in
    ([], inr (c.from-2.ensures ∙ configured_metric c.args.external.now c.args.moment [] fits))

pub returns-clause-tagged : goal.returns-clause-tagged
returns-clause-tagged c =
    let fits : c.args.external.now.tag < 2 ^ 32 =
    first_of (search rules, omega arith, grind arith) in
    let word : c.new-tag.result.word ≡ c.args.external.now.tag =
    ap (λ (a : ExternalAnswer). a.word) c.new-tag.ensures ∙ c.from.ensures in
    tag_by_none (known_to c.args.self.now) (known_to c.vacancies.new.self) c.args.external.now
    c.args.moment c.vacancies.ensures.known
    c.new-tag.result.word (c.in_ok-vacancies.ensures.vacant.tag.0 (free _ c.if-not-vacancies.false))
    fits word

pub returns-clause-priced : goal.returns-clause-priced
returns-clause-priced c =
    let fits : c.args.external.now.metric < 2 ^ 32 =
    first_of (search rules, omega arith, grind arith) in
    let word : c.new-price.result.word ≡ c.args.external.now.metric =
    ap (λ (a : ExternalAnswer). a.word) c.new-price.ensures ∙ c.from-2.ensures in
    price_by_none (known_to c.args.self.now) (known_to c.vacancies.new.self) c.args.external.now
    c.args.moment c.vacancies.ensures.known
    c.new-price.result.word (c.in_ok-vacancies.ensures.vacant.price.0
    (free _ c.if-not-vacancies-2.false)) fits word
