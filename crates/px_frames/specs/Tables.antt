-- A slot table: for each vertex held in memory the frame, the place and the length of its bytes.
use Rattle.std.specs.Prelude.{◌≤◌, ℕ, List, length}

-- a vertex, and where its bytes stand
pub record EntryView : Type 0 where
  pub vid : ℕ
  pub frame : ℕ
  pub at : ℕ
  pub len : ℕ

-- a table as the most entries that it takes, and its entries in order
pub record TableView : Type 0 where
  pub capacity : ℕ
  pub entries : List EntryView

-- the entry of these four numbers
abbrev pub entry_of : ℕ → ℕ → ℕ → ℕ → EntryView
entry_of vid frame at len = record { vid = vid; frame = frame; at = at; len = len }

-- the four numbers of an entry
abbrev pub parts : EntryView → ℕ × ℕ × ℕ × ℕ
parts entry = (entry.vid, entry.frame, entry.at, entry.len)

-- what holds of every table
pub record IsTable (table : TableView) : Type 0 where
  pub within : length table.entries ≤ table.capacity
