use Rattle.std.proofs.Common.{◌≡◌, ◌∙◌, ◌||◌, ap, ap₂, codes, false, Bool}
use Rattle.std.proofs.lemmas.Result.{IfOk-weaker}
use Rattle.clap.specs.Simple.{App, app_of, app_of_fields, new_app, with_rule}
use Rattle.clap.specs.declared.builder.command.Command.{Command}
use Rattle.clap.specs.declared.builder.command.Command.TheOpen.{Command-F}
use Rattle.clap.specs.declared.builder.command.Command.TheViews.{out-Command}
use Rattle.commands.proofs.commands.raw.Goals as goal

pub returns-clause-app : goal.returns-clause-app
returns-clause-app c =
    let hook = c.hook.ensures.rule in
    let start : app_of c.after_help.result ≡ new_app (codes "raw") =
    ap app_of_fields c.after_help.ensures ∙ ap app_of_fields c.about.ensures ∙ c.new.ensures.app in
    let one = c.in_ok-arg.ensures.shape c.hook.ensures.local ∙ ap₂ with_rule start hook.6 in
    let two = c.in_ok-arg-2.ensures.shape c.required.ensures.local
    ∙ ap₂ with_rule one c.required.ensures.rule in
    IfOk-weaker c.arg-3.result _ _ (λ command adds. (
      hook.0,
      hook.1,
      hook.2,
      hook.3,
      hook.4,
      hook.5,
      ap (λ (a : App). a.top) (adds.shape c.seats.ensures.local
          ∙ ap₂ with_rule two c.seats.ensures.rule),
    )) c.arg-3.ensures

pub returns-clause-local : goal.returns-clause-local
returns-clause-local c =
    let globals : Command-F Command → Bool = λ f. f.has_globals in
    let start : (out-Command c.after_help.result).has_globals ≡ false =
    ap globals c.after_help.ensures ∙ ap globals c.about.ensures ∙ c.new.ensures.local in
    let one = c.in_ok-arg.ensures.globals ∙ ap₂ ◌||◌ start c.hook.ensures.local in
    let two = c.in_ok-arg-2.ensures.globals ∙ ap₂ ◌||◌ one c.required.ensures.local in
    IfOk-weaker c.arg-3.result _ _ (λ command adds. adds.globals
    ∙ ap₂ ◌||◌ two c.seats.ensures.local) c.arg-3.ensures
