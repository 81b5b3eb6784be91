use Rattle.std.proofs.Common.{rules, false, ◌≡◌, ◌<◌, ◌+◌, ◌++◌, length, ℕ, List, [], ◌∷◌, Some, map, take, fold, sym, ap, ◌∙◌}
use Rattle.std.specs.Borrow.{Bor}
use Rattle.std.proofs.lemmas.List.{map-append, map_more}
use Rattle.std.proofs.lemmas.List.Sums.{fold-append}
use Rattle.clap.specs.Simple.{App, app_of, new_rule, with_rule}
use Rattle.clap.specs.Walk.{Rule, rule_of}
use Rattle.clap.specs.declared.builder.arg.Arg.{Arg}
use Rattle.clap.specs.declared.builder.action.ArgAction.TheVariants.{Set}
use Rattle.px_words.specs.Options.{option_rule, with_names}
use Rattle.px_words.proofs.options.with_options.Goals as goal

abbrev Text : Type 0
Text = Bor (List ℕ)

-- one name more is one rule more
one_more : (a : App) (known : List (List ℕ)) (name : List ℕ) → with_names a (known ++ name ∷ []) ≡ with_rule (with_names a known) (option_rule name)
one_more a known name = ap (fold with_rule a) (map-append option_rule known (name ∷ [])) ∙ fold-append with_rule a (map option_rule known) (option_rule name ∷ [])

pub names-preserved : goal.names-preserved
names-preserved c =
    let name = c.new.result.id in
    let made : c.action-option.result ≡ record c.new.result { long = Some name; action = Some Set } = search rules in
    let plain : rule_of c.new.result ≡ new_rule name.now = c.new.ensures.rule ∙ ap (λ (b : Text). new_rule b.now) (sym c.new.ensures.id) in
    let rule : rule_of c.action-option.result ≡ option_rule name.now = ap rule_of made ∙ ap (λ (r : Rule). record r { long = Some name.now; action = Some Set }) plain in
    let global : c.action-option.result.global ≡ false = ap (λ (a : Arg). a.global) made ∙ c.new.ensures.optional.1 in
    let less : c.names.name-index < length c.args.names.now = search rules in
    let before = map (λ (b : Text). b.now) (take c.names.name-index c.args.names.now) in
    let more = map_more (λ (b : Text). b.now) c.args.names.now c.names.name-index (record { ref_ptr = (0, 0); now = [] }) less in
    let app = app_of c.args.command in
    c.in_ok-command.ensures.shape global
    ∙ ap (with_rule (app_of c.names.command)) rule
    ∙ ap (λ (a : App). with_rule a (option_rule name.now)) c.names.invariant
    ∙ sym (one_more app before name.now)
    ∙ ap (λ (b : Text). with_names app (before ++ b.now ∷ [])) c.new.ensures.id
    ∙ ap (with_names app) (sym more)
