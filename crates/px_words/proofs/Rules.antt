-- The options of a built command: how they are found, and what they find.
use Rattle.std.proofs.Common.{◌≡◌, ℕ, suc, ◌+◌, Bool, true, false, not, ◌&&◌, ◌||◌, cond, if◌then◌else◌, List, [], ◌∷◌, ◌++◌, map, Option, Some, None, IfSome, is_some, bytes_eq, refl, sym, ◌∙◌, ap, true≢false}
use Rattle.std.specs.Prelude.{◌==◌, find, fold, option_and_then, slice_get}
use Rattle.std.specs.List.{list_any}
use Rattle.std.proofs.Math.Bool.{or-false, or-true, and-true}
use Rattle.clap.specs.Kinds.{Kinds, or_else}
use Rattle.clap.specs.Walk.{Rule, Row, Text, arg_by_id, arg_by_long, arg_by_index, at_row, default_rows, first_of, has_row, more_values, reading_by, used, with_default, with_values, without}
use Rattle.clap.specs.Simple.{filled, filled_from, with_index}
use Rattle.clap.specs.Faults.{check_fault, default_fault, defaults_fault, use_fault}
use Rattle.clap.specs.declared.parser.matches.ValueSource.TheVariants.{CommandLine}
use Rattle.px_words.specs.Words.{Item, names, is_known, has_name, value_of}
use Rattle.px_words.specs.Options.{option_rule}
use Rattle.px_words.proofs.Opening.{bytes_same, bytes_equal, bytes_turn}

-- an option of a built command
abbrev pub filled_rule : List ℕ → Rule
filled_rule name = with_index 1 (filled (option_rule name))

abbrev pub rules : List Rule
rules = map filled_rule names

abbrev pub is_none : Kinds → Bool
is_none [] = true
is_none (k ∷ ks) = false

pub none_both : (a b : Kinds) → is_none (or_else a b) ≡ (is_none a && is_none b)
none_both [] b = refl
none_both (k ∷ ks) b = refl

pub then_none : (a : Kinds) → or_else a [] ≡ a
then_none [] = refl
then_none (k ∷ ks) = refl

-- the rule of a name

module _ (p : Rule → Bool) (name : List ℕ) (tests : (other : List ℕ) → p (filled_rule other) ≡ bytes_eq other name) where
  found_among : (known : List (List ℕ)) → find p (map filled_rule known) ≡ (if list_any (λ other. bytes_eq name other) known then Some (filled_rule name) else None)
  found_among [] = refl
  found_among (other ∷ known) = rw (tests other) (go (bytes_eq other name) refl (found_among known))
    where
      go : (b : Bool) → bytes_eq other name ≡ b → find p (map filled_rule known) ≡ (if list_any (λ other. bytes_eq name other) known then Some (filled_rule name) else None)
          → cond b (Some (filled_rule other)) (find p (map filled_rule known)) ≡ (if bytes_eq name other || list_any (λ other. bytes_eq name other) known then Some (filled_rule name) else None)
      go true is rest = rw (bytes_turn name other ∙ is, bytes_equal other name is) refl
      go false is rest = rw (bytes_turn name other ∙ is) rest

  found : is_known name ≡ true → find p rules ≡ Some (filled_rule name)
  found known = found_among names ∙ ap (λ (b : Bool). if b then Some (filled_rule name) else None) known

pub rule_by_id : (name : List ℕ) → is_known name ≡ true → arg_by_id rules name ≡ Some (filled_rule name)
rule_by_id name known = found (λ a. bytes_eq a.id name) name (λ other. refl) known

pub rule_by_long : (name : List ℕ) → is_known name ≡ true → arg_by_long rules name ≡ Some (filled_rule name)
rule_by_long name known = found _ name (λ other. or-false (bytes_eq other name)) known

none_at : (known : List (List ℕ)) (i : ℕ) → arg_by_index (map filled_rule known) i ≡ None
none_at [] i = refl
none_at (name ∷ known) i = none_at known i

pub no_rule_at : (i : ℕ) → arg_by_index rules i ≡ None
no_rule_at i = none_at names i

-- nothing is found that was not asked for

same_both : {A : Type 0} (b : Bool) (a : A) → (if b then a else a) ≡ a
same_both true a = refl
same_both false a = refl

no_defaults : (known : List (List ℕ)) (rows : List Row) → fold with_default rows (map filled_rule known) ≡ rows
no_defaults [] rows = refl
no_defaults (name ∷ known) rows = ap (λ (r : List Row). fold with_default r (map filled_rule known)) (same_both (has_row name rows) rows) ∙ no_defaults known rows

pub without_defaults : (rows : List Row) → fold with_default rows rules ≡ rows
without_defaults rows = no_defaults names rows

good_defaults : (known : List (List ℕ)) (rows : List Row) → defaults_fault rows (map filled_rule known) ≡ []
unfolding defaults_fault
good_defaults [] rows = refl
good_defaults (name ∷ known) rows = rw (or-true (has_row name rows)) (good_defaults known (with_default rows (filled_rule name)))

pub no_bad_default : (rows : List Row) → defaults_fault rows rules ≡ []
no_bad_default rows = good_defaults names rows

-- rows of items

abbrev pub item_row : Item → Row
item_row item = record { id = item.0; values = item.1 ∷ []; count = None; source = Some CommandLine; reading = reading_by (filled_rule item.0) }

abbrev pub item_rows : List Item → List Row
item_rows items = map item_row items

pub row_of_name : (name : List ℕ) (items : List Item) → has_row name (item_rows items) ≡ has_name name items
row_of_name name [] = refl
row_of_name name (item ∷ items) = ap (λ (b : Bool). bytes_eq item.0 name || b) (row_of_name name items)

neither : (a b : Bool) → (a || b) ≡ false → (a ≡ false) × (b ≡ false)
neither false false is = (refl, refl)
neither true b is = absurd (true≢false is)
neither false true is = absurd (true≢false is)

module _ (name value : List ℕ) where
  added : (items : List Item) → has_name name items ≡ false → with_values name (reading_by (filled_rule name)) CommandLine (value ∷ []) (item_rows items) ≡ item_rows (items ++ (name, value) ∷ [])
  added [] is = refl
  added (item ∷ items) is =
      let apart = neither (bytes_eq item.0 name) (has_name name items) is in
      rw (apart.0) (ap (λ (rs : List Row). item_row item ∷ rs) (added items apart.1))

  stays : (items : List Item) → has_name name items ≡ false → without name (item_rows items) ≡ item_rows items
  stays [] is = refl
  stays (item ∷ items) is =
      let apart = neither (bytes_eq item.0 name) (has_name name items) is in
      rw (apart.0) (ap (λ (rs : List Row). item_row item ∷ rs) (stays items apart.1))

  pub used_rows : (items : List Item) → has_name name items ≡ false → used (filled_rule name) (value ∷ []) (item_rows items) ≡ item_rows (items ++ (name, value) ∷ [])
  used_rows items is = ap (with_values name (reading_by (filled_rule name)) CommandLine (value ∷ [])) (stays items is) ∙ added items is

  used_again : (b has : Bool) → has ≡ b → is_none (or_else (if has && true then Rattle.clap.specs.declared.error.kind.ErrorKind.TheVariants.ArgumentConflict ∷ [] else []) []) ≡ not b
  used_again true has is = rw is refl
  used_again false has is = rw is refl

  pub use_passes : (items : List Item) → is_none (use_fault false (filled_rule name) (value ∷ []) (item_rows items)) ≡ not (has_name name items)
  use_passes items = used_again (has_name name items) (has_row name (item_rows items)) (row_of_name name items)

pub none_given : (name : List ℕ) (rows : List Row) → is_none (use_fault false (filled_rule name) [] rows) ≡ false
none_given name rows = refl

-- the value of a name
pub value_in_rows : (name : List ℕ) (items : List Item) → first_of name (item_rows items) ≡ value_of name items
value_in_rows name [] = refl
value_in_rows name (item ∷ items) = go (bytes_eq item.0 name) refl (value_in_rows name items)
  where
    go : (b : Bool) → bytes_eq item.0 name ≡ b → first_of name (item_rows items) ≡ value_of name items
        → option_and_then (λ (r : Row). slice_get r.values 0) (cond b (Some (item_row item)) (find (λ (r : Row). bytes_eq r.id name) (item_rows items))) ≡ value_of name (item ∷ items)
    go true is rest = rw (bytes_turn name item.0 ∙ is) refl
    go false is rest = rw (bytes_turn name item.0 ∙ is) rest
