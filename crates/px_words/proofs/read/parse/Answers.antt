use Rattle.std.proofs.Common.{◌≡◌, ◌⊎◌, true, ap, sym, subst, ◌∙◌, map, string_bytes, [], List}
use Rattle.clap.specs.Kinds.{IsAmong}
use Rattle.clap.specs.Walk.{rows_of, Text}
use Rattle.clap.specs.Simple.{App, app_of, is_simple, matches_of}
use Rattle.clap.specs.Faults.{fault_of, is_simple_and_free}
use Rattle.clap.specs.Matches.{found_of}
use Rattle.clap.specs.Values.{kind_of}
use Rattle.clap.specs.declared.error.kind.ErrorKind.TheVariants.{OutOfMemory}
use Rattle.px_words.specs.Options.{app}
use Rattle.px_words.proofs.Parsing.{app_simple, app_free, refused, taken}
use Rattle.px_words.proofs.read.parse.Goals as goal

pub returns-in-Ok : goal.returns-in-Ok
returns-in-Ok c =
    let words : List Text = map string_bytes c.args.words.now in
    let is : app_of c.in_ok-command.field-0 ≡ app = c.in_ok-command.ensures in
    let good : fault_of app words ≡ [] = ap (λ (a : App). fault_of a words) (sym is) ∙ c.in-Ok.ensures.kinds (ap is_simple_and_free is ∙ app_free) in
    let rows : rows_of (found_of c.in-Ok.matches) ≡ matches_of app words = (c.in-Ok.ensures.matches (ap is_simple is ∙ app_simple)).0 ∙ ap (λ (a : App). matches_of a words) is in
    taken words c.requires c.in-Ok.matches good rows

pub returns-in_ok-check_memory-in-Err : goal.returns-in_ok-check_memory-in-Err
returns-in_ok-check_memory-in-Err c =
    let words : List Text = map string_bytes c.args.words.now in
    let kind = kind_of c.in-Err.error in
    let is : app_of c.in_ok-command.field-0 ≡ app = c.in_ok-command.ensures in
    let P : App → Type 0 = λ a. (kind ≡ OutOfMemory) ⊎ IsAmong kind (fault_of a words) in
    refused words c.requires kind (λ memory. c.in_ok-check_memory-in-Err.ensures.ok (c.kind.ensures ∙ memory)) (subst P is (c.in-Err.ensures.kinds (ap is_simple_and_free is ∙ app_free)))
