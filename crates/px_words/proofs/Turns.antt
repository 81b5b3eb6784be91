-- What one word does to the parse of the command.
use Rattle.std.proofs.Common.{◌≡◌, ℕ, Bool, true, false, not, List, [], ◌∷◌, ◌++◌, Option, Some, None, bytes_eq, refl, sym, ◌∙◌, ap}
use Rattle.std.specs.Prelude.{codes}
use Rattle.clap.specs.Walk.{Held, Text, Waiting, idle, option, positional, Walk, reacted, settled, subcommand_met, walked}
use Rattle.clap.specs.Simple.{Shape}
use Rattle.clap.specs.Faults.{react_fault, settle_fault, turn_fault}
use Rattle.px_words.specs.Words.{is_known}
use Rattle.px_words.proofs.Opening.{IsLong, IsPlain, bytes_same}
use Rattle.px_words.proofs.Rules.{filled_rule, rules, is_none, then_none, rule_by_id, rule_by_long, no_rule_at}

-- the command as it is built
abbrev pub shape : Shape
shape = record {
  name = codes "px";
  aliases = [];
  rules = rules;
  is_plain = true;
  is_leaf = true;
  no_binary_name = true;
  disable_help_flag = true;
  disable_help_subcommand = true;
  disable_version_flag = false;
  propagate_version = false;
  has_version = false;
  has_long_version = false;
  args_override_self = false;
  arg_required_else_help = false;
  subcommand_required = false;
  subcommand_negates_reqs = false;
  is_built = true;
}

-- where a parse stands between two words
abbrev pub stands : Held → Waiting → Walk
stands held waiting = record { held = held; waiting = waiting; position = 1; is_trailing = false; stopped = None }

abbrev pub walk_on : Walk → Text → Walk
walk_on w word = walked rules [] w word

no_subcommand : (waiting : Waiting) (word : Text) → subcommand_met [] waiting word ≡ None
no_subcommand idle word = refl
no_subcommand (option name) word = refl
no_subcommand positional word = refl

-- `--NAME`
module _ (held : Held) (waiting : Waiting) (word name : Text) (is : IsLong word name None) (known : is_known name ≡ true) where
  pub name_fault : turn_fault shape [] (stands held waiting) word ≡ settle_fault rules false held
  name_fault = rw (no_subcommand waiting word, is.dashes, is.long, rule_by_long name known) (then_none _)

  pub name_walks : walk_on (stands held waiting) word ≡ stands (record (settled rules held) { pending = Some (name, []) }) (option name)
  unfolding walked
  name_walks = rw (no_subcommand waiting word, is.dashes, is.long, rule_by_long name known) refl

-- `--NAME=VALUE`
module _ (held : Held) (waiting : Waiting) (word name value : Text) (is : IsLong word name (Some value)) (known : is_known name ≡ true) where
  pub item_fault : turn_fault shape [] (stands held waiting) word ≡ react_fault rules false (filled_rule name) (value ∷ []) held
  item_fault = rw (no_subcommand waiting word, is.dashes, is.long, rule_by_long name known) (then_none _)

  pub item_walks : walk_on (stands held waiting) word ≡ stands (reacted rules (filled_rule name) (value ∷ []) held) idle
  unfolding walked
  item_walks = rw (no_subcommand waiting word, is.dashes, is.long, rule_by_long name known) refl

-- a word that begins with no dash, where no name waits for a value
pub stray_fault : (held : Held) (word : Text) → IsPlain word → is_none (turn_fault shape [] (stands held idle) word) ≡ false
stray_fault held word is = rw (is.dashes, is.long, is.short, no_rule_at 1) refl

-- and where one does
module _ (held : Held) (word name : Text) (is : IsPlain word) (known : is_known name ≡ true) (waits : held.pending ≡ Some (name, [])) where
  pub value_fault : turn_fault shape [] (stands held (option name)) word ≡ []
  value_fault = rw (is.dashes, is.long, is.short) refl

  pub value_walks : walk_on (stands held (option name)) word ≡ stands (record held { pending = Some (name, word ∷ []) }) idle
  unfolding walked
  value_walks = rw (is.dashes, is.long, is.short, rule_by_id name known, waits, bytes_same name) refl
