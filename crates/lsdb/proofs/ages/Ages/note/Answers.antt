use Rattle.std.proofs.Common.{◌≡◌, true, ap, sym, subst, ◌∙◌}
use Rattle.std.specs.FinMap as finite
use Rattle.lsdb.proofs.Foresight.{aged_more, aged_there}
use Rattle.lsdb.proofs.ages.Ages.note.Goals as goal

pub returns-then-is_aged_out-clause-more : goal.returns-then-is_aged_out-clause-more
returns-then-is_aged_out-clause-more c = λ q o foreseen moment before is.
    let aged = c.args.self.now.aged.present in
    let key = c.args.key.now in
    subst (λ m. finite.contains_key m q ≡ true)
    (sym (ap (λ h. h.present) c.commit.ensures ∙ c.in_ok-insert.ensures.ok))
    (aged_more aged key q (foreseen moment before is))

pub returns-then-is_aged_out-clause-there : goal.returns-then-is_aged_out-clause-there
returns-then-is_aged_out-clause-there c = λ moment before is.
    let aged = c.args.self.now.aged.present in
    let key = c.args.key.now in
    subst (λ m. finite.contains_key m key ≡ true)
    (sym (ap (λ h. h.present) c.commit.ensures ∙ c.in_ok-insert.ensures.ok))
    (aged_there aged key)
