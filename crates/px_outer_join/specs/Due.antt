-- Which row comes next.
use Rattle.std.specs.Prelude.{ℕ, Bool, true, false, if◌then◌else◌, nat_lt, List, [], ◌∷◌, Option, Some, None}
use Rattle.px_meaning.specs.Merge.{Pairs}
use Rattle.px_store.specs.declared.join.Row.{Row}
use Rattle.px_stream.specs.declared.reader.Head.{Head}

abbrev pub row : ℕ → Bool → Bool → Row
row v vertex message = record { vid = v; has_vertex = vertex; has_message = message }

-- the row of the lesser of two vids
abbrev pub due_row : Option ℕ → Option ℕ → Option Row
due_row None None = None
due_row None (Some k) = Some (row k false true)
due_row (Some v) None = Some (row v true false)
due_row (Some v) (Some k) = if nat_lt v k then Some (row v true false) else if nat_lt k v then Some (row k false true) else Some (row v true true)

-- whether this vid is below the next message's
abbrev pub is_before : ℕ → Option ℕ → Bool
is_before v None = true
is_before v (Some k) = nat_lt v k

abbrev pub key_in : Option Head → Option ℕ
key_in None = None
key_in (Some h) = Some h.key

-- the vid of the first message
abbrev pub first_vid : Pairs → Option ℕ
first_vid [] = None
first_vid (e ∷ m) = Some e.0

-- its payload
abbrev pub first_payload : Pairs → List ℕ
first_payload [] = []
first_payload (e ∷ m) = e.1
