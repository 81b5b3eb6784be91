-- How entries are put among others in their place.
use Rattle.std.specs.Prelude.{◌≡◌, ◌≤◌, ◌<◌, ℕ, ◌+◌, ◌-◌, ◌*◌, true, false, List, ◌++◌, length, take, drop}
use Rattle.std.specs.List.{concat}
use Rattle.px_programs.specs.Entries.{entries_in}
use Rattle.px_programs.specs.InOrder.{is_after, in_order}

abbrev pub entry_at : ℕ → List ℕ → List ℕ
entry_at i bytes = take 12 (drop (12 * i) bytes)

-- of so many entries those before `low` do not come after this one, and those from `high` on do
pub record IsSpan (n : ℕ) (bytes entry : List ℕ) (low high : ℕ) : Type 0 where
  pub upto : (i : ℕ) → i < low → is_after (entry_at i bytes) entry ≡ false
  pub after : (i : ℕ) → high ≤ i → i < n → is_after (entry_at i bytes) entry ≡ true

-- the first entries of the bytes and the first of more in order, and behind them what stands behind the room for both
abbrev pub woven : ℕ → ℕ → List ℕ → List ℕ → List ℕ
woven held left bytes more = concat (in_order (entries_in held bytes ++ entries_in left more)) ++ drop (12 * (held + left)) bytes

-- of so many entries the first stay, and behind those and the gap stand this one, then the others, and then what stood behind the room for it
pub record IsPut (held gap stay : ℕ) (entry old new : List ℕ) : Type 0 where
  pub within : stay ≤ held
  pub front : take (12 * stay) new ≡ take (12 * stay) old
  pub back : drop (12 * (stay + gap)) new ≡ entry ++ (take (12 * (held - stay)) (drop (12 * stay) old) ++ drop (12 * (held + gap + 1)) old)
  pub len : length new ≡ length old
