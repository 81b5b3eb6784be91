-- A page while a part of its tuples is kept apart at the end of its frame.
use Rattle.std.specs.Prelude.{◌≡◌, ◌≤◌, ◌+◌, ◌-◌, ◌==◌, ℕ, if◌then◌else◌, nat_lt, List, [], ◌∷◌, ◌++◌, length, take, drop}
use Rattle.px_pages.specs.Entry.{Entry, bytes_of, size_of}
use Rattle.px_pages.specs.Page.{IsMade, writer_of, used_of, zeros}
use Rattle.px_btree.specs.declared.apart.Apart.{Apart}

-- the page where the others are moved back behind the tuples in front
abbrev pub closed : Apart → List ℕ → List ℕ
closed a page = take a.at page ++ (drop a.back page ++ zeros (a.back - a.at))

-- it can be that of a page of so many bytes
pub record Within (len : ℕ) (a : Apart) : Type 0 where
  pub gap : a.at ≤ a.back
  pub back : a.back ≤ len

-- in a page of so many bytes, the first i of these tuples are in front, and the others are kept apart
pub record Parts (len i : ℕ) (es : List Entry) (a : Apart) : Type 0 where
  pub index : i ≤ length es
  pub at : a.at ≡ used_of (take i es)
  pub back : a.back + length (bytes_of (drop i es)) ≡ len

-- so does this page, and closed it is what a writer made of the tuples
pub record KeepsApart (len kind link i : ℕ) (es : List Entry) (a : Apart) (page : List ℕ) : Type 0 where
  pub made : IsMade (writer_of len es) kind link es (closed a page)
  pub parts : Parts len i es a
  pub page_len : length page ≡ len

-- the bytes of the tuples in front of the first whose key is not below this one
abbrev pub below_len : ℕ → List Entry → ℕ
below_len v [] = 0
below_len v (e ∷ es) = if nat_lt e.key v then size_of e + below_len v es else 0

-- the bytes of the first tuple, if it has this key
abbrev pub same_len : ℕ → List Entry → ℕ
same_len v [] = 0
same_len v (e ∷ es) = if v == e.key then size_of e else 0
