use Rattle.std.proofs.Common.{◌≡◌, map, take}
use Rattle.clap.specs.Simple.{app_of}
use Rattle.px_words.specs.Options.{with_names}
use Rattle.px_words.proofs.options.with_options.Given as goal

abbrev pub invariant-names : goal.invariant-names
invariant-names l = app_of l.command ≡ with_names (app_of l.initial.command) (map (λ name. name.now) (take l.name-index l.names))
