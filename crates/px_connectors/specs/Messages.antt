-- Pairs as tuples of a stream.
use Rattle.std.specs.Prelude.{ℕ, List, map}
use Rattle.px_meaning.specs.Merge.{Pairs}
use Rattle.px_pages.specs.Entry.{Entry, entry}

-- the pairs of these tuples, whatever their tags
abbrev pub pairs_of : List Entry → Pairs
pairs_of es = map (λ (e : Entry). (e.key, e.body)) es

-- a pair as a tuple with this tag
abbrev pub tagged : ℕ → ℕ × List ℕ → Entry
tagged tag p = entry p.0 tag p.1
