use Rattle.std.proofs.Common.{◌≡◌, ap, ◌∙◌, rules}
use Rattle.std.proofs.lemmas.Result.{IfOk-weaker}
use Rattle.clap.specs.Simple.{App, app_of, app_of_fields}
use Rattle.px_words.specs.Words.{names}
use Rattle.px_words.specs.Options.{empty_app, with_names}
use Rattle.px_words.proofs.options.command.Goals as goal

pub returns : goal.returns
unfolding names
returns c =
    let first : app_of c.disable_help_flag-command.result ≡ empty_app = search rules in
    IfOk-weaker c.with_options.result _ _ (λ command is. is ∙ ap (λ (a : App). with_names a names) first) c.with_options.ensures
