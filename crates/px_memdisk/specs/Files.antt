-- Files of pages in memory, by number.
use Rattle.std.specs.Prelude.{◌≡◌, ◌≤◌, ◌^◌, ℕ, List, [], Vec, map, length, replicate, slice_get, All}
use Rattle.std.specs.BTreeMap.{BTreeMap}
use Rattle.std.specs.Option.{option_map, unwrap_or}
use Rattle.std.specs.declared.alloc.Global.{Global}
use Rattle.std.specs.BTreeMap.{get}
use Rattle.std.specs.Ordering.{nat_cmp}

abbrev pub Pages : Type 0
Pages = Vec (Vec ℕ Global) Global

-- the pages as bytes
abbrev pub bytes_of : Pages → List (List ℕ)
bytes_of pages = map (λ page. page.items) pages.items

-- the pages of a file; one without an entry is empty
abbrev pub pages_in : BTreeMap ℕ Pages → ℕ → List (List ℕ)
pages_in files file = unwrap_or (option_map bytes_of (get nat_cmp files file)) []

-- each page has this length
abbrev pub AreLong : ℕ → List (List ℕ) → Type 0
AreLong len pages = All (λ page. length page ≡ len) pages

-- the page, or zeros past the end
abbrev pub page_or_zeros : ℕ → ℕ → List (List ℕ) → List ℕ
page_or_zeros page len pages = unwrap_or (slice_get pages page) (replicate len 0)

-- a page added would stand past the end of the longest file
abbrev pub IsFull : ℕ → List (List ℕ) → Type 0
IsFull page pages = (page ≡ length pages) × (2 ^ 40 ≤ length pages)
