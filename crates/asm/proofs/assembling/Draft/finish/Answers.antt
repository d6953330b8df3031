use Rattle.std.proofs.Common.{◌≡◌, ◌∙◌, ap, map, sym, subst, List, length}
use Rattle.std.proofs.lemmas.Bool.{false≢true}
use Rattle.std.specs.Prelude.{option_map}
use Rattle.isa.specs.declared.code.Slot.{Slot}
use Rattle.isa.specs.Spelling.{Spells}
use Rattle.object.specs.Statements.{StatementParts}
use Rattle.object.specs.Objects.{AreStatements}
use Rattle.asm.specs.declared.statements.OpenStatement.{OpenStatement}
use Rattle.asm.specs.Assembling.{all_of}
use Rattle.asm.specs.Views.{parts_of, sketch}
use Rattle.asm.proofs.Whole.{all_stand, is_object}
use Rattle.asm.proofs.assembling.Draft.finish.Goals as goal

pub returns-in_default-statements : goal.returns-in_default-statements
returns-in_default-statements c =
    let unlawful = rw c.in_default-statements.is at c.in-Ok-statements_of.ensures in
    let same : map parts_of c.args.self.before.items ≡ map parts_of c.deref.result.now =
    ap (λ (os : List OpenStatement). map parts_of os) (sym c.deref.ensures.value) in
    absurd (unlawful 0 (length c.args.self.code)
    (subst (λ (ss : List StatementParts). AreStatements 0 (length c.args.self.code)
    (all_of ss (option_map parts_of c.args.self.open))) same
    (all_stand (sketch c.args.self) c.requires)))

pub returns : goal.returns
returns c =
    let statements = rw c.in-Some-statements.is at c.in-Ok-statements_of.ensures in
    absurd (false≢true (c.in-None.ensures.some.1
    (is_object (sketch c.args.self) _ c.requires c.in-Some.is c.in-Some-rank.is
    (subst (λ (k : List Slot). Spells c.in-Ok.bytes.items k) c.in-Some-finish.ensures.code
    c.in-Ok.ensures)
    (statements ∙ ap (λ (os : List OpenStatement). all_of (map parts_of os)
    (option_map parts_of c.args.self.open)) c.deref.ensures.value))))
