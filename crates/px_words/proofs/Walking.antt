-- A parse of words that pass the screen: it takes them exactly where they are items with known names of which none comes twice, and then each name has the
-- value of its item.
use Rattle.std.proofs.Common.{◌≡◌, ℕ, Bool, true, false, not, ◌&&◌, ◌||◌, if◌then◌else◌, List, [], ◌∷◌, ◌++◌, Option, Some, None, IfSome, is_some, refl, sym, ◌∙◌, ap, subst, true≢false, append-nil}
use Rattle.std.specs.Prelude.{fold}
use Rattle.std.proofs.Math.Bool.{and_assoc}
use Rattle.clap.specs.Walk.{Held, Row, Text, Waiting, idle, option, Walk, reacted, settled, settled_rows, used}
use Rattle.clap.specs.Faults.{react_fault, settle_fault, turn_fault, use_fault, walk_fault}
use Rattle.clap.specs.Kinds.{or_else}
use Rattle.px_words.specs.Words.{Item, Opened, Neither, Whole, Name, opened, begins_with_dash, items_from, and_item, are_different, has_name, is_known}
use Rattle.px_words.specs.Screen.{all_pass, passes, has_known_name}
use Rattle.px_words.proofs.Opening.{IsLong, IsPlain, as_pair, long_word, plain_word}
use Rattle.px_words.proofs.Items.{gathered, gathered_item, none_gathered, one_behind}
use Rattle.px_words.proofs.Rules.{filled_rule, rules, is_none, none_both, item_rows, none_given, rule_by_id, use_passes, used_rows}
use Rattle.px_words.proofs.Turns.{shape, stands, walk_on, name_fault, name_walks, item_fault, item_walks, stray_fault, value_fault, value_walks}

abbrev pub rows_in : Held → List Row
rows_in held = settled_rows rules held.pending held.rows

abbrev pub end_of : Walk → List Text → Held
end_of w words = (fold walk_on w words).held

-- no word is refused, nor is the name that stands last
abbrev pub walk_passes : Walk → List Text → Bool
walk_passes w words = is_none (walk_fault shape [] w words) && is_none (settle_fault rules false (end_of w words))

-- a parse takes words exactly where there are such items, and has their rows
pub record Agrees (w : Walk) (words : List Text) (items : Option (List Item)) : Type 0 where
  pub taken : walk_passes w words ≡ is_some items
  pub rows : IfSome items (λ all. rows_in (end_of w words) ≡ item_rows all)

-- items were found, and no name waits for a value. Whether the last name came twice shows when the next word is read
pub record HasFound (held : Held) (found : List Item) : Type 0 where
  pub taken : is_none (settle_fault rules false held) ≡ are_different found
  pub rows : are_different found ≡ true → rows_in held ≡ item_rows found

-- items were found, and a name waits for its value
abbrev pub waits_for : ℕ → Text → List Item → Held
waits_for skip name found = record { rows = item_rows found; pending = Some (name, []); skip = skip }

-- one word more

passes_on : (w : Walk) (word : Text) (words : List Text) → walk_passes w (word ∷ words) ≡ (is_none (turn_fault shape [] w word) && walk_passes (walk_on w word) words)
unfolding walk_fault
passes_on w word words = rw (none_both (turn_fault shape [] w word) (walk_fault shape [] (walk_on w word) words)) (and_assoc (is_none (turn_fault shape [] w word)) (is_none (walk_fault shape [] (walk_on w word) words)) _)

module _ (w : Walk) (word : Text) (words : List Text) where
  -- the word is refused
  refuses : (items : Option (List Item)) → is_none (turn_fault shape [] w word) ≡ false → items ≡ None → Agrees w (word ∷ words) items
  refuses items is none = rw none (record { taken = passes_on w word words ∙ ap (λ (b : Bool). b && walk_passes (walk_on w word) words) is; rows = tt })

  -- or it is taken
  goes_on : (items : Option (List Item)) (next : Walk) → is_none (turn_fault shape [] w word) ≡ true → walk_on w word ≡ next → Agrees next words items → Agrees w (word ∷ words) items
  goes_on items next is walks rest =
      let P : Walk → Type 0 = λ v. Agrees v words items in
      let now : Agrees (walk_on w word) words items = subst P (sym walks) rest in
      record { taken = passes_on w word words ∙ ap (λ (b : Bool). b && walk_passes (walk_on w word) words) is ∙ now.taken; rows = now.rows }

-- at the end of the words

ends_found : (held : Held) (found : List Item) → HasFound held found → Agrees (stands held idle) [] (gathered found (Some []))
unfolding walk_fault
ends_found held found h = rw (append-nil found) (go (are_different found) refl)
  where
    go : (b : Bool) → are_different found ≡ b → Agrees (stands held idle) [] (if true && b then Some found else None)
    go true is = record { taken = h.taken ∙ is; rows = h.rows is }
    go false is = record { taken = h.taken ∙ is; rows = tt }

waiting_fault : (skip : ℕ) (name : Text) (found : List Item) → is_known name ≡ true → is_none (settle_fault rules false (waits_for skip name found)) ≡ false
waiting_fault skip name found known = rw (rule_by_id name known) refl

ends_waiting : (skip : ℕ) (name : Text) (found : List Item) → is_known name ≡ true → Agrees (stands (waits_for skip name found) (option name)) [] None
unfolding walk_fault
ends_waiting skip name found known = record { taken = waiting_fault skip name found known; rows = tt }

-- an item that has joined those found

different_behind : (found : List Item) (item : Item) → are_different found ≡ true → are_different (found ++ item ∷ []) ≡ not (has_name item.0 found)
different_behind found item is = one_behind found item ∙ ap (λ (b : Bool). b && not (has_name item.0 found)) is

new_name : (found : List Item) (item : Item) → are_different found ≡ true → are_different (found ++ item ∷ []) ≡ true → has_name item.0 found ≡ false
new_name found item is both = go (has_name item.0 found) (sym (different_behind found item is) ∙ both)
  where
    go : (b : Bool) → not b ≡ true → b ≡ false
    go true n = absurd (true≢false (sym n))
    go false n = refl

-- where its value is the word behind its name
found_behind : (skip : ℕ) (name word : Text) (found : List Item) → is_known name ≡ true → are_different found ≡ true
    → HasFound (record (waits_for skip name found) { pending = Some (name, word ∷ []) }) (found ++ (name, word) ∷ [])
found_behind skip name word found known is = record {
  taken = rw (rule_by_id name known) (use_passes name word found ∙ sym (different_behind found (name, word) is));
  rows = λ both. rw (rule_by_id name known) (used_rows name word found (new_name found (name, word) is both));
}

-- and where it stands in one word with its name
found_item : (held : Held) (name value : Text) (found : List Item) → HasFound held found → are_different found ≡ true → are_different (found ++ (name, value) ∷ []) ≡ true
    → HasFound (reacted rules (filled_rule name) (value ∷ []) held) (found ++ (name, value) ∷ [])
found_item held name value found h is both = record {
  taken = sym both;
  rows = λ _. ap (used (filled_rule name) (value ∷ [])) (h.rows is) ∙ used_rows name value found (new_name found (name, value) is both);
}

abbrev pub FoundAgrees : List Text → Type 0
FoundAgrees words = (held : Held) (found : List Item) → HasFound held found → Agrees (stands held idle) words (gathered found (items_from None words))

abbrev pub WaitingAgrees : List Text → Type 0
WaitingAgrees words = (skip : ℕ) (name : Text) (found : List Item) → is_known name ≡ true → are_different found ≡ true
    → Agrees (stands (waits_for skip name found) (option name)) words (gathered found (items_from (Some name) words))

-- a word where no name waits

module _ (held : Held) (found : List Item) (h : HasFound held found) (word : Text) (words : List Text) where
  abbrev Here : Opened → Type 0
  Here o = Agrees (stands held idle) (word ∷ words) (gathered found (elim o [ Neither ↦ None | Whole item ↦ and_item item (items_from None words) | Name name ↦ items_from (Some name) words ]))

  at_name : (name : Text) → as_pair (opened word) ≡ Some (name, None) → is_known name ≡ true → WaitingAgrees words → Here (Name name)
  at_name name is known rest = go (are_different found) refl
    where
      long : IsLong word name None
      long = long_word name None known word is

      fault : is_none (turn_fault shape [] (stands held idle) word) ≡ are_different found
      fault = ap is_none (name_fault held idle word name long known) ∙ h.taken

      go : (b : Bool) → are_different found ≡ b → Here (Name name)
      go true different =
          let walks : walk_on (stands held idle) word ≡ stands (waits_for held.skip name found) (option name) =
          name_walks held idle word name long known ∙ ap (λ (rows : List Row). stands (record { rows = rows; pending = Some (name, []); skip = held.skip }) (option name)) (h.rows different) in
          goes_on (stands held idle) word words _ _ (fault ∙ different) walks (rest held.skip name found known different)
      go false twice = refuses (stands held idle) word words _ (fault ∙ twice) (none_gathered found _ twice)

  at_item : (item : Item) → as_pair (opened word) ≡ Some (item.0, Some item.1) → is_known item.0 ≡ true → FoundAgrees words → Here (Whole item)
  at_item item is known rest = go (are_different found) (are_different (found ++ item ∷ [])) refl refl
    where
      long : IsLong word item.0 (Some item.1)
      long = long_word item.0 (Some item.1) known word is

      both : is_none (turn_fault shape [] (stands held idle) word) ≡ (are_different found && is_none (use_fault false (filled_rule item.0) (item.1 ∷ []) (rows_in held)))
      both = ap is_none (item_fault held idle word item.0 item.1 long known) ∙ none_both _ _ ∙ ap (λ (b : Bool). b && is_none (use_fault false (filled_rule item.0) (item.1 ∷ []) (rows_in held))) h.taken

      fault : are_different found ≡ true → is_none (turn_fault shape [] (stands held idle) word) ≡ are_different (found ++ item ∷ [])
      fault different =
          both ∙ ap (λ (b : Bool). b && is_none (use_fault false (filled_rule item.0) (item.1 ∷ []) (rows_in held))) different
          ∙ ap (λ (rows : List Row). is_none (use_fault false (filled_rule item.0) (item.1 ∷ []) rows)) (h.rows different)
          ∙ use_passes item.0 item.1 found ∙ sym (different_behind found item different)

      go : (b n : Bool) → are_different found ≡ b → are_different (found ++ item ∷ []) ≡ n → Here (Whole item)
      go true true different all =
          rw (gathered_item found item (items_from None words) known)
          (goes_on (stands held idle) word words _ _ (fault different ∙ all) (item_walks held idle word item.0 item.1 long known) (rest _ _ (found_item held item.0 item.1 found h different all)))
      go true false different twice =
          refuses (stands held idle) word words _ (fault different ∙ twice) (gathered_item found item (items_from None words) known ∙ none_gathered (found ++ item ∷ []) _ twice)
      go false n twice all =
          refuses (stands held idle) word words _ (both ∙ ap (λ (b : Bool). b && is_none (use_fault false (filled_rule item.0) (item.1 ∷ []) (rows_in held))) twice) (none_gathered found _ twice)

  at_opened : (o : Opened) → opened word ≡ o → has_known_name o ≡ true → WaitingAgrees words → FoundAgrees words → Here o
  at_opened Neither is known waiting rest = absurd (true≢false (sym known))
  at_opened (Name name) is known waiting rest = at_name name (ap as_pair is) known waiting
  at_opened (Whole item) is known waiting rest = at_item item (ap as_pair is) known rest

  at_word : (dash : Bool) → begins_with_dash word ≡ dash → passes word ≡ true → WaitingAgrees words → FoundAgrees words → Here (opened word)
  at_word false is pass waiting rest =
      let plain = plain_word word is in
      rw (plain.neither) (refuses (stands held idle) word words None (stray_fault held word plain) refl)
  at_word true is pass waiting rest =
      let known : has_known_name (opened word) ≡ true = sym (ap (λ (b : Bool). not b || has_known_name (opened word)) is) ∙ pass in
      at_opened (opened word) refl known waiting rest

-- a word where a name waits

module _ (skip : ℕ) (name : Text) (found : List Item) (known : is_known name ≡ true) (different : are_different found ≡ true) (word : Text) (words : List Text) where
  abbrev Waits : Bool → Type 0
  Waits dash = Agrees (stands (waits_for skip name found) (option name)) (word ∷ words) (gathered found (if dash then None else and_item (name, word) (items_from None words)))

  no_value : (o : Opened) → opened word ≡ o → has_known_name o ≡ true → is_none (turn_fault shape [] (stands (waits_for skip name found) (option name)) word) ≡ false
  no_value Neither is k = absurd (true≢false (sym k))
  no_value (Name other) is k =
      ap is_none (name_fault (waits_for skip name found) (option name) word other (long_word other None k word (ap as_pair is)) k) ∙ waiting_fault skip name found known
  no_value (Whole item) is k =
      ap is_none (item_fault (waits_for skip name found) (option name) word item.0 item.1 (long_word item.0 (Some item.1) k word (ap as_pair is)) k)
      ∙ none_both _ _ ∙ ap (λ (b : Bool). b && is_none (use_fault false (filled_rule item.0) (item.1 ∷ []) (rows_in (waits_for skip name found)))) (waiting_fault skip name found known)

  at_value : (dash : Bool) → begins_with_dash word ≡ dash → passes word ≡ true → FoundAgrees words → Waits dash
  at_value true is pass rest =
      let k : has_known_name (opened word) ≡ true = sym (ap (λ (b : Bool). not b || has_known_name (opened word)) is) ∙ pass in
      refuses (stands (waits_for skip name found) (option name)) word words None (no_value (opened word) refl k) refl
  at_value false is pass rest =
      let plain = plain_word word is in
      let held = waits_for skip name found in
      rw (gathered_item found (name, word) (items_from None words) known)
      (goes_on (stands held (option name)) word words _ _ (ap is_none (value_fault held word name plain known refl)) (value_walks held word name plain known refl) (rest _ _ (found_behind skip name word found known different)))

-- all words

both_true : (a b : Bool) → (a && b) ≡ true → (a ≡ true) × (b ≡ true)
both_true true true is = (refl, refl)
both_true true false is = absurd (true≢false (sym is))
both_true false b is = absurd (true≢false (sym is))

agree : (words : List Text) → all_pass words ≡ true → FoundAgrees words × WaitingAgrees words
agree [] pass = (λ held found h. ends_found held found h, λ skip name found known different. ends_waiting skip name found known)
agree (word ∷ words) pass =
    let p = both_true (passes word) (all_pass words) pass in
    let rest = agree words p.1 in (
      λ held found h. at_word held found h word words (begins_with_dash word) refl p.0 rest.1 rest.0,
      λ skip name found known different. at_value skip name found known different word words (begins_with_dash word) refl p.0 rest.0,
    )

abbrev pub nothing : Held
nothing = record { rows = []; pending = None; skip = 0 }

pub agrees : (words : List Text) → all_pass words ≡ true → Agrees (stands nothing idle) words (gathered [] (items_from None words))
agrees words pass = (agree words pass).0 nothing [] (record { taken = refl; rows = λ _. refl })
