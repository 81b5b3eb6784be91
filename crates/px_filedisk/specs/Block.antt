-- The bytes of files, and the block of a page in them.
use Rattle.std.specs.Prelude.{◌≡◌, ◌≤◌, ℕ, ◌+◌, ◌-◌, ◌*◌, List, ◌++◌, length, take, drop, replicate, Option, ◌⊎◌}
use Rattle.std.specs.Option.{option_map}
use Rattle.byteorder.specs.Endian.{big_bytes}

-- these bytes stand in a file at an offset
pub record StandsAt (at : ℕ) (bytes file : List ℕ) : Type 0 where
  pub within : at + length bytes ≤ length file
  pub same : bytes ≡ take (length bytes) (drop at file)

-- a file with these bytes at an offset, and zeros before them where it was shorter
abbrev pub put_at : ℕ → List ℕ → List ℕ → List ℕ
put_at at bytes file = take at file ++ replicate {A = ℕ} (at - length file) 0 ++ bytes ++ drop (at + length bytes) file

-- a file into which some of the first of these bytes may have been written
abbrev pub IsPartly : ℕ → List ℕ → Option (List ℕ) → Option (List ℕ) → Type 0
IsPartly at bytes old new = (new ≡ old) ⊎ ((n : ℕ) × (new ≡ option_map (put_at at (take n bytes)) old))

-- the stamp of a page
abbrev pub stamp : ℕ → ℕ → List ℕ
stamp number page = big_bytes 4 number ++ replicate {A = ℕ} 4 0 ++ big_bytes 8 page

-- where the block of a page of so many bytes begins
abbrev pub place : ℕ → ℕ → ℕ
place page page_len = page * (page_len + 16)

-- the page stands in its file, after its stamp
pub record HasPage (number page : ℕ) (bytes file : List ℕ) : Type 0 where
  pub stamped : StandsAt (place page (length bytes)) (stamp number page) file
  pub here : StandsAt (place page (length bytes) + 16) bytes file

-- a file with a page put into it
abbrev pub with_page : ℕ → ℕ → List ℕ → List ℕ → List ℕ
with_page number page bytes file = put_at (place page (length bytes) + 16) bytes (put_at (place page (length bytes)) (stamp number page) file)

-- a file into which a page may have been put in part: some of the stamp, or the stamp and some of the page
abbrev pub IsPartlyPut : ℕ → ℕ → List ℕ → Option (List ℕ) → Option (List ℕ) → Type 0
IsPartlyPut number page bytes old new =
    let at = place page (length bytes) in
    IsPartly at (stamp number page) old new ⊎ IsPartly (at + 16) bytes (option_map (put_at at (stamp number page)) old) new
