-- The table of names as the options of a command: each is used at most once and takes one text.
use Rattle.std.specs.Prelude.{◌≡◌, ℕ, true, List, map, fold, Option, Some, None, codes}
use Rattle.clap.specs.Walk.{Rule}
use Rattle.clap.specs.Simple.{App, Shape, new_app, new_rule, on_top, with_rule}
use Rattle.clap.specs.Matches.{first_value, found_of}
use Rattle.clap.specs.declared.builder.action.ArgAction.TheVariants.{Set}
use Rattle.clap.specs.declared.parser.matches.ArgMatches.{ArgMatches}
use Rattle.px_words.specs.Words.{Values, names, job_by, job_of}

abbrev pub option_rule : List ℕ → Rule
option_rule name = record (new_rule name) { long = Some name; action = Some Set }

-- a command with no names yet: its words are all there are, and it has no help
abbrev pub empty_app : App
empty_app = on_top (λ s. record s { no_binary_name = true; disable_help_flag = true }) (new_app (codes "px"))

-- the same with names
abbrev pub with_names : App → List (List ℕ) → App
with_names a known = fold with_rule a (map option_rule known)

abbrev pub app : App
app = with_names empty_app names

-- the values that a parse found
abbrev pub value_in : ArgMatches → Values
value_in matches name = first_value (found_of matches) name

-- what a parse says of words: the job is that of the values found, or there is none
abbrev pub Finds : List (List ℕ) → Option ArgMatches → Type 0
Finds words None = job_of words ≡ None
Finds words (Some matches) = job_of words ≡ job_by (value_in matches)
