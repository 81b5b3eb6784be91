-- Items that join items found before.
use Rattle.std.proofs.Common.{◌≡◌, ℕ, Bool, true, false, not, ◌&&◌, ◌||◌, if◌then◌else◌, List, [], ◌∷◌, ◌++◌, Option, Some, None, bytes_eq, refl, sym, ◌∙◌, ap, append_assoc}
use Rattle.std.proofs.Math.Bool.{and_assoc}
use Rattle.px_words.specs.Words.{Item, and_item, are_different, are_known, has_name, is_known}
use Rattle.px_words.proofs.Opening.{bytes_turn}

-- items behind those found before, where each is known and none comes twice
abbrev pub gathered : List Item → Option (List Item) → Option (List Item)
gathered found None = None
gathered found (Some items) = if are_known items && are_different (found ++ items) then Some (found ++ items) else None

has_behind : (name : List ℕ) (items : List Item) (item : Item) → has_name name (items ++ item ∷ []) ≡ (has_name name items || bytes_eq item.0 name)
has_behind name [] item = or_last (bytes_eq item.0 name)
  where
    or_last : (b : Bool) → (b || false) ≡ (false || b)
    or_last true = refl
    or_last false = refl
has_behind name (other ∷ items) item = go (bytes_eq other.0 name) (has_behind name items item)
  where
    go : (b : Bool) → has_name name (items ++ item ∷ []) ≡ (has_name name items || bytes_eq item.0 name) → (b || has_name name (items ++ item ∷ [])) ≡ (b || has_name name items || bytes_eq item.0 name)
    go true is = refl
    go false is = is

apart : (a b d e : Bool) → (not (a || b) && (d && not e)) ≡ ((not a && d) && not (b || e))
apart true b d e = refl
apart false true true true = refl
apart false true true false = refl
apart false true false e = refl
apart false false d e = refl

-- one item more behind
pub one_behind : (items : List Item) (item : Item) → are_different (items ++ item ∷ []) ≡ (are_different items && not (has_name item.0 items))
one_behind [] item = refl
one_behind (other ∷ items) item =
    rw (has_behind other.0 items item, one_behind items item, bytes_turn item.0 other.0) (apart (has_name other.0 items) (bytes_eq other.0 item.0) (are_different items) (has_name item.0 items))

and_false : (a b : Bool) → b ≡ false → (a && b) ≡ false
and_false true b is = is
and_false false b is = refl

has_more : (name : List ℕ) (items more : List Item) → has_name name items ≡ true → has_name name (items ++ more) ≡ true
has_more name [] more is = absurd (cc)
has_more name (other ∷ items) more is = go (bytes_eq other.0 name) is (has_more name items more)
  where
    go : (b : Bool) → (b || has_name name items) ≡ true → (has_name name items ≡ true → has_name name (items ++ more) ≡ true) → (b || has_name name (items ++ more)) ≡ true
    go true is rest = refl
    go false is rest = rest is

-- a name that came twice does so whatever comes behind
pub still_twice : (items more : List Item) → are_different items ≡ false → are_different (items ++ more) ≡ false
still_twice [] more is = absurd (cc)
still_twice (item ∷ items) more is = go (has_name item.0 items) refl is (still_twice items more)
  where
    go : (b : Bool) → has_name item.0 items ≡ b → (not b && are_different items) ≡ false → (are_different items ≡ false → are_different (items ++ more) ≡ false)
        → (not (has_name item.0 (items ++ more)) && are_different (items ++ more)) ≡ false
    go true has twice rest = rw (has_more item.0 items more has) refl
    go false has twice rest = and_false _ _ (rest twice)

pub none_gathered : (found : List Item) (items : Option (List Item)) → are_different found ≡ false → gathered found items ≡ None
none_gathered found None is = refl
none_gathered found (Some items) is = rw (still_twice found items is, and_false (are_known items) false refl) refl

-- an item that is read joins those before it
pub gathered_item : (found : List Item) (item : Item) (items : Option (List Item)) → is_known item.0 ≡ true → gathered found (and_item item items) ≡ gathered (found ++ item ∷ []) items
gathered_item found item None known = refl
gathered_item found item (Some items) known = rw (known, append_assoc found (item ∷ []) items) refl

pub gathered_none : (found : List Item) (item : Item) (items : Option (List Item)) → is_known item.0 ≡ false → gathered found (and_item item items) ≡ None
gathered_none found item None unknown = refl
gathered_none found item (Some items) unknown = rw unknown refl
