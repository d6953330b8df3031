use Rattle.std.proofs.Common.{refl, sym, ap, subst, ◌∙◌}
use Rattle.std.specs.Prelude.{Option}
use Rattle.lsdb.specs.Headers.{Lsa}
use Rattle.received.specs.Updates.{after_case, case_at, goes_on}
use Rattle.event_rules.specs.Packets.{after_parsed}
use Rattle.area.specs.Cases.{case_of}
use Rattle.area.specs.Links.{with_no_sends}
use Rattle.router.specs.Kept.{KeptRouter}
use Rattle.router.specs.Making.{Makes}
use Rattle.router.specs.Received.{goes_on_at}
use Rattle.router.proofs.Answered.{area_does, area_stays}
use Rattle.router.proofs.Leaves.{appends_case, keeps_case, newer_installs}
use Rattle.router.proofs.Making.{done, refused}
use Rattle.router.proofs.Texts.{as_read, newer_goes_on, newer_received, other_received}
use Rattle.router.proofs.Texts.{text_read, text_skipped}
use Rattle.router.proofs.state.Router.receive_lsa.Goals as goal

pub returns-in_default-clause-goes_on : goal.returns-in_default-clause-goes_on
returns-in_default-clause-goes_on c =
    ap (λ (o : Option Lsa). goes_on_at c.args.moment c.args.interface o c.args.self.now.present)
    (sym c.in_default.is ∙ c.in_ok-parsed.ensures)

pub returns-in_default-clause-does : goal.returns-in_default-clause-does
returns-in_default-clause-does c =
    let r = c.args.self.now in
    done _ (subst (λ (o : Option Lsa). Makes (after_parsed c.args.moment c.args.interface o) r r)
    (sym c.in_default.is ∙ c.in_ok-parsed.ensures) (text_skipped c.args.moment c.args.interface r))

pub returns-in_err-flood_and_install-clause-does : goal.returns-in_err-flood_and_install-clause-does
returns-in_err-flood_and_install-clause-does c =
    let away = c.from_residual-in_err-flood_and_install in
    refused away.result away.ensures.0
    (area_stays _ c.args.self.now c.self.inside.area c.flood_and_install.new.self c.self.view_is
    refl
    c.in_err-flood_and_install.ensures.committed)

pub returns-then-newer-clause-goes_on : goal.returns-then-newer-clause-goes_on
returns-then-newer-clause-goes_on c =
    let m = c.args.moment in
    let n = c.args.interface in
    let lsa = c.in-Some.lsa in
    newer_goes_on (case_of c.case_at-case.result)
    (sym c.is_to_be_installed-newer.ensures ∙ c.if-newer.true)
    ∙ ap goes_on (c.case_at-case.ensures
    ∙ ap (λ (r : KeptRouter). case_at m n lsa r.present.area) c.self.view_is)
    ∙ ap (λ (o : Option Lsa). goes_on_at m n o c.args.self.now.present)
    (sym c.in-Some.is ∙ c.in_ok-parsed.ensures)

pub returns-in_err-receive_self_originated-clause-does
    : goal.returns-in_err-receive_self_originated-clause-does
returns-in_err-receive_self_originated-clause-does c =
    let away = c.from_residual-in_err-receive_self_originated in
    refused away.result away.ensures.0
    ((c.in_err-receive_self_originated.ensures c.in-Some.lsa
    (sym c.header-header.ensures)).committed
    ∙ area_stays _ c.args.self.now c.self.inside.area c.flood_and_install.new.self c.self.view_is
    refl
    c.in_ok-flood_and_install.ensures.committed)

pub returns-then-newer-clause-does : goal.returns-then-newer-clause-does
returns-then-newer-clause-does c =
    let m = c.args.moment in
    let n = c.args.interface in
    let lsa = c.in-Some.lsa in
    let case = case_of c.case_at-case.result in
    let newer = sym c.is_to_be_installed-newer.ensures ∙ c.if-newer.true in
    done _
    (as_read m n lsa _ (sym c.in-Some.is ∙ c.in_ok-parsed.ensures)
    (text_read m n lsa case
    (c.case_at-case.ensures
    ∙ ap (λ (r : KeptRouter). case_at m n lsa r.present.area) c.self.view_is)
    (newer_received m n lsa case newer
    (area_does (after_case case m n lsa) (keeps_case m n lsa case) (appends_case m n lsa case) _
    c.args.self.now c.self.inside.area c.flood_and_install.new.self _ c.self.view_is refl
    c.in_ok-flood_and_install.ensures
    (newer_installs m n lsa case newer (with_no_sends c.self.inside.area.present))).makes
    (c.in_ok-receive_self_originated.ensures lsa (sym c.header-header.ensures)).makes)))

pub returns-in_err-carry_out_case-clause-does : goal.returns-in_err-carry_out_case-clause-does
returns-in_err-carry_out_case-clause-does c =
    let away = c.from_residual-in_err-carry_out_case in
    refused away.result away.ensures.0
    (area_stays _ c.args.self.now c.self.inside.area c.carry_out_case.new.self c.self.view_is refl
    c.in_err-carry_out_case.ensures.committed)

pub returns-clause-goes_on : goal.returns-clause-goes_on
returns-clause-goes_on c =
    let m = c.args.moment in
    let n = c.args.interface in
    let lsa = c.in-Some.lsa in
    c.goes_on.ensures
    ∙ ap goes_on (c.case_at-case.ensures
    ∙ ap (λ (r : KeptRouter). case_at m n lsa r.present.area) c.self.view_is)
    ∙ ap (λ (o : Option Lsa). goes_on_at m n o c.args.self.now.present)
    (sym c.in-Some.is ∙ c.in_ok-parsed.ensures)

pub returns-clause-does : goal.returns-clause-does
returns-clause-does c =
    let m = c.args.moment in
    let n = c.args.interface in
    let lsa = c.in-Some.lsa in
    let case = case_of c.case_at-case.result in
    done _
    (as_read m n lsa _ (sym c.in-Some.is ∙ c.in_ok-parsed.ensures)
    (text_read m n lsa case
    (c.case_at-case.ensures
    ∙ ap (λ (r : KeptRouter). case_at m n lsa r.present.area) c.self.view_is)
    (other_received m n lsa case (sym c.is_to_be_installed-newer.ensures ∙ c.if-newer.false)
    (area_does (after_case case m n lsa) (keeps_case m n lsa case) (appends_case m n lsa case) _
    c.args.self.now c.self.inside.area c.carry_out_case.new.self _ c.self.view_is refl
    c.in_ok-carry_out_case.ensures refl).makes)))
