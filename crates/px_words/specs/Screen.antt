-- Which words an item may have.
use Rattle.std.specs.Prelude.{ℕ, Bool, true, false, not, ◌||◌, List}
use Rattle.std.specs.List.{list_all}
use Rattle.px_words.specs.Words.{Opened, Neither, Whole, Name, opened, begins_with_dash, is_known}
use Rattle.px_words.specs.declared.screen.Word.{Word}
use Rattle.px_words.specs.declared.screen.Word.TheVariants.{Item, Named, Other}

-- a word as the code has it
abbrev pub opened_as : Word → Opened
opened_as (Item name value) = Whole (name.now, value.now)
opened_as (Named name) = Name name.now
opened_as Other = Neither

abbrev pub has_known_name : Opened → Bool
has_known_name Neither = false
has_known_name (Whole item) = is_known item.0
has_known_name (Name name) = is_known name

-- a word that begins with a dash is `--NAME` or `--NAME=VALUE`, with a name of the table
abbrev pub passes : List ℕ → Bool
passes word = not (begins_with_dash word) || has_known_name (opened word)

abbrev pub all_pass : List (List ℕ) → Bool
all_pass words = list_all passes words
