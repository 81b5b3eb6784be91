-- The children of an inner page.
use Rattle.std.specs.Prelude.{◌≡◌, ◌-◌, ◌/◌, ◌+◌, ℕ, Bool, List, [], ◌∷◌, length, min, not, nat_lt}
use Rattle.byteorder.specs.Endian.{big_number}
use Rattle.px_meaning.specs.Graph.{front_len}
use Rattle.px_pages.specs.Entry.{Entry}
use Rattle.px_pages.specs.Page.{count_of, header_len}
use Rattle.px_pages.specs.declared.inner.Child.{Child}

-- each tuple has the number of a page as its body
abbrev pub AreChildren : List Entry → Type 0
AreChildren [] = Unit {0}
AreChildren (e ∷ es) = (length e.body ≡ 8) × AreChildren es

-- as many as the header counts, or as there are bytes for
abbrev pub children_of : List ℕ → ℕ
children_of page = min (count_of page) ((length page - header_len) / (front_len + 8))

-- the child that a tuple stands for
abbrev pub child_of : Entry → Child
child_of e = record { key = e.key; page = big_number 8 e.body }

-- the key of a tuple is not above this one
abbrev pub is_up_to : ℕ → Entry → Bool
is_up_to key e = not (nat_lt key e.key)
