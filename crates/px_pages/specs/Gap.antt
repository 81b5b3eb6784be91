-- Bytes of a page that give way to others.
use Rattle.std.specs.Prelude.{◌≡◌, ◌≤◌, ◌+◌, ◌-◌, ℕ, List, ◌++◌, length}
use Rattle.px_pages.specs.Entry.{Entry, bytes_of}
use Rattle.px_pages.specs.Page.{IsMade, writer_of, used_of}
use Rattle.px_pages.specs.declared.edit.Gap.{Gap}

-- a page of so many bytes has room for what comes in their place
pub record FitsIn (gap : Gap) (page_len : ℕ) : Type 0 where
  pub from : gap.from ≤ gap.to
  pub to : gap.to ≤ gap.end
  pub within : gap.end ≤ page_len
  pub room : gap.from + gap.len + (gap.end - gap.to) ≤ page_len

-- the tuples between two others gave way to these, if so many bytes and tuples are theirs
abbrev pub Fills : Gap → ℕ → List Entry → List ℕ → List ℕ → Type 0
Fills gap count ms old new =
    (len kind link : ℕ) (es xs os ys : List Entry) → IsMade (writer_of len es) kind link es old → es ≡ xs ++ (os ++ ys)
    → gap.from ≡ used_of xs → gap.to ≡ gap.from + length (bytes_of os) → gap.end ≡ used_of es → count ≡ length (xs ++ (ms ++ ys))
    → IsMade (writer_of len (xs ++ (ms ++ ys))) kind link (xs ++ (ms ++ ys)) new
