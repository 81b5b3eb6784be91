-- One leaf of a tree is changed.
use Rattle.std.specs.Prelude.{◌==◌, ◌<◌, ℕ, if◌then◌else◌, nat_lt, List, [], ◌∷◌}
use Rattle.px_pages.specs.Entry.{Entry}
use Rattle.px_pages.specs.Page.{IsMade, used_of}
use Rattle.px_pages.specs.Page.{writer_of}
use Rattle.px_btree.specs.Tree.{Piece}

-- the tuples with this one among them, in the place of one with the same key
abbrev pub placed : Entry → List Entry → List Entry
placed e [] = e ∷ []
placed e (d ∷ ds) = if nat_lt e.key d.key then e ∷ d ∷ ds else if e.key == d.key then e ∷ ds else d ∷ placed e ds

-- the tuples without that of a key
abbrev pub removed : ℕ → List Entry → List Entry
removed v [] = []
removed v (e ∷ es) = if v == e.key then removed v es else e ∷ removed v es

-- the page of a level with other tuples
abbrev pub with_tuples : (List Entry → List Entry) → Piece → Piece
with_tuples f x = record { low = x.low; page = x.page; es = f x.es }

-- the page of a level in which a vid lies has other tuples
abbrev pub changed : ℕ → (List Entry → List Entry) → List Piece → List Piece
changed v f [] = []
changed v f (x ∷ []) = with_tuples f x ∷ []
changed v f (x ∷ y ∷ ys) = if nat_lt v y.low then with_tuples f x ∷ y ∷ ys else x ∷ changed v f (y ∷ ys)

-- the lowest level changed so
abbrev pub changed_leaf : ℕ → (List Entry → List Entry) → List (List Piece) → List (List Piece)
changed_leaf v f [] = []
changed_leaf v f (xs ∷ []) = changed v f xs ∷ []
changed_leaf v f (xs ∷ ys ∷ rest) = xs ∷ changed_leaf v f (ys ∷ rest)

-- where a page was what a writer made of these tuples, it is now what a writer makes of them changed so
abbrev pub TurnedAt : (List Entry → List Entry) → List Entry → List ℕ → List ℕ → Type 0
TurnedAt f es old new = (len kind link : ℕ) → IsMade (writer_of len es) kind link es old → IsMade (writer_of len (f es)) kind link (f es) new

-- with this tuple among them, the tuples of a page that a writer made are too long for it
abbrev pub IsFullFor : Entry → List ℕ → Type 0
IsFullFor e page = (len kind link : ℕ) (es : List Entry) → IsMade (writer_of len es) kind link es page → len < used_of (placed e es)

-- the tuples without the one in the place of a key, if that has this key
abbrev pub gone : ℕ → List Entry → List Entry
gone v [] = []
gone v (e ∷ es) = if nat_lt e.key v then e ∷ gone v es else if v == e.key then es else e ∷ es
