use Rattle.std.proofs.Common.{◌≡◌, ◌∙◌, ap, ap₂, codes, true, []}
use Rattle.std.proofs.lemmas.Result.{IfOk-weaker}
use Rattle.clap.specs.Simple.{App, app_of, app_of_fields, new_shape, with_subcommand}
use Rattle.commands.proofs.commands.whole.Goals as goal

pub returns : goal.returns
returns c =
    let raw = c.in_ok-raw.ensures.app in
    let top : App = record {
      top = record (new_shape (codes "routerd"))
          { subcommand_required = true; arg_required_else_help = true };
      subs = [];
    } in
    let start : app_of c.arg_required_else_help.result ≡ top =
    ap app_of_fields c.arg_required_else_help.ensures
    ∙ ap (λ f. app_of_fields (record f {
      arg_required_else_help = true;
    })) c.subcommand_required.ensures
    ∙ ap (λ f. app_of_fields (record f {
      arg_required_else_help = true;
      subcommand_required = true;
    })) c.after_help.ensures
    ∙ ap (λ f. app_of_fields (record f {
      arg_required_else_help = true;
      subcommand_required = true;
    })) c.about.ensures
    ∙ ap (λ (a : App). record {
      top = record a.top { subcommand_required = true; arg_required_else_help = true };
      subs = a.subs;
    }) c.new.ensures.app in
    let one = c.in_ok-subcommand.ensures.shape c.in_ok-raw.ensures.local
    ∙ ap₂ with_subcommand start raw.6 in
    let two = c.in_ok-subcommand-2.ensures.shape c.in_ok-run.ensures.local
    ∙ ap₂ with_subcommand one c.in_ok-run.ensures.app in
    let three = c.in_ok-subcommand-3.ensures.shape c.in_ok-asm.ensures.local
    ∙ ap₂ with_subcommand two c.in_ok-asm.ensures.app in
    let four = c.in_ok-subcommand-4.ensures.shape c.in_ok-list.ensures.local
    ∙ ap₂ with_subcommand three c.in_ok-list.ensures.app in
    let five = c.in_ok-subcommand-5.ensures.shape c.in_ok-verify.ensures.local
    ∙ ap₂ with_subcommand four c.in_ok-verify.ensures.app in
    IfOk-weaker c.subcommand-6.result _ _ (λ command adds. (
      raw.0,
      raw.1,
      raw.2,
      raw.3,
      raw.4,
      raw.5,
      adds.shape c.in_ok-route.ensures.local ∙ ap₂ with_subcommand five c.in_ok-route.ensures.app,
    )) c.subcommand-6.ensures
