-- What the words of the command line ask for.
use Rattle.std.specs.Prelude.{ℕ, Bool, true, false, not, ◌&&◌, ◌+◌, ◌-◌, ◌^◌, ◌<◌, ◌≤◌, if◌then◌else◌, nat_le, ◌==◌, List, [], ◌∷◌, fold, take, drop, length, position, bytes_eq, Option, Some, None, IfSome, option_map, codes}
use Rattle.std.specs.List.{list_all, list_any}
use Rattle.px_frames.specs.Banks.{IsFrameLen, is_frame_len}
use Rattle.px_meaning.specs.Line.{is_digit, with_digit}
use Rattle.px_words.specs.declared.job.Job.{Job}
use Rattle.px_words.specs.declared.job.Chosen.{Chosen}
use Rattle.px_words.specs.declared.job.Chosen.TheVariants as chosen
use Rattle.px_words.specs.declared.read.Kind.{Kind}
use Rattle.px_words.specs.declared.read.Kind.TheVariants.{Reach, Sssp, Components, PageRank, Chains, Reverse, Close, Prune}

-- a name and its value
abbrev pub Item : Type 0
Item = List ℕ × List ℕ

abbrev pub is_dash : ℕ → Bool
is_dash b = b == 45

abbrev pub begins_with_dash : List ℕ → Bool
begins_with_dash [] = false
begins_with_dash (b ∷ bs) = is_dash b

-- what a word is where a name may stand: a whole item `--NAME=VALUE`, a name whose value is the next word, or neither
pub data Opened : Type 0 where
  Neither : Opened
  Whole : Item → Opened
  Name : List ℕ → Opened

-- what stands behind `--`, cut at its first `=`
abbrev pub cut : List ℕ → Opened
cut text = elim (position (λ b. b == 61) text) [ Some i ↦ Whole (take i text, drop (i + 1) text) | None ↦ Name text ]

abbrev pub opened : List ℕ → Opened
opened [] = Neither
opened (a ∷ []) = Neither
opened (a ∷ b ∷ text) = if is_dash a && is_dash b then cut text else Neither

-- items with one more in front, where they are items
abbrev pub and_item : Item → Option (List Item) → Option (List Item)
and_item item None = None
and_item item (Some items) = Some (item ∷ items)

-- the items of words, read from left to right, where a name may be waiting for its value. A value that is a word of its own does not begin with a dash
abbrev pub items_from : Option (List ℕ) → List (List ℕ) → Option (List Item)
items_from None [] = Some []
items_from (Some name) [] = None
items_from None (word ∷ words) =
    elim (opened word) [
      | Neither ↦ None
      | Whole item ↦ and_item item (items_from None words)
      | Name name ↦ items_from (Some name) words
    ]
items_from (Some name) (word ∷ words) = if begins_with_dash word then None else and_item (name, word) (items_from None words)

-- the first value that items give a name
abbrev pub value_of : List ℕ → List Item → Option (List ℕ)
value_of name [] = None
value_of name (item ∷ items) = if bytes_eq name item.0 then Some item.1 else value_of name items

abbrev pub has_name : List ℕ → List Item → Bool
has_name name items = list_any (λ (item : Item). bytes_eq item.0 name) items

-- no name comes twice
abbrev pub are_different : List Item → Bool
are_different [] = true
are_different (item ∷ items) = not (has_name item.0 items) && are_different items

-- the names that an item may have
unfoldable pub names : List (List ℕ)
names =
    codes "program" ∷ codes "from" ∷ codes "rounds" ∷ codes "partitions" ∷ codes "frames" ∷ codes "frame-bytes" ∷ codes "max-supersteps" ∷ codes "seed"
    ∷ codes "generate" ∷ codes "stats" ∷ []

abbrev pub is_known : List ℕ → Bool
is_known name = list_any (λ known. bytes_eq name known) names

abbrev pub are_known : List Item → Bool
are_known items = list_all (λ (item : Item). is_known item.0) items

-- a number of 1 to 20 decimal digits, of at most the greatest value
abbrev pub number_of : ℕ → List ℕ → Option ℕ
number_of greatest text =
    if nat_le 1 (length text) && nat_le (length text) 20 && list_all is_digit text && nat_le (fold with_digit 0 text) greatest
    then Some (fold with_digit 0 text)
    else None

-- a value that passes a test
abbrev pub passing : (ℕ → Bool) → Option ℕ → Option ℕ
passing test None = None
passing test (Some n) = if test n then Some n else None

-- a number from the least to the greatest value. Where nothing is said, it is the default
abbrev pub number_in : ℕ → ℕ → ℕ → Option (List ℕ) → Option ℕ
number_in least greatest default None = Some default
number_in least greatest default (Some text) = passing (λ n. nat_le least n) (number_of greatest text)

-- such a number, which is the length of a frame
abbrev pub frame_len_in : ℕ → ℕ → ℕ → Option (List ℕ) → Option ℕ
frame_len_in least greatest default text = passing is_frame_len (number_in least greatest default text)

-- the programs, each by its name
abbrev pub kind_of : List ℕ → Option Kind
kind_of text =
    if bytes_eq text (codes "reach") then Some Reach
    else if bytes_eq text (codes "sssp") then Some Sssp
    else if bytes_eq text (codes "components") then Some Components
    else if bytes_eq text (codes "pagerank") then Some PageRank
    else if bytes_eq text (codes "chains") then Some Chains
    else if bytes_eq text (codes "reverse") then Some Reverse
    else if bytes_eq text (codes "close") then Some Close
    else if bytes_eq text (codes "prune") then Some Prune
    else None

-- the vid that a program starts from
abbrev pub vid_of : List ℕ → Option ℕ
vid_of text = number_of (2 ^ 64 - 1) text

-- a number of rounds
abbrev pub rounds_of : List ℕ → Option ℕ
rounds_of text = number_of (2 ^ 32 - 1) text

-- a program with the values of `from` and of `rounds`, where these names stand: reach and sssp need `from` and refuse `rounds`, pagerank needs `rounds` and refuses `from`, the others refuse both
abbrev pub chosen_by : Kind → Option (List ℕ) → Option (List ℕ) → Option Chosen
chosen_by Reach (Some from) None = option_map (λ vid. chosen.Reach vid) (vid_of from)
chosen_by Sssp (Some from) None = option_map (λ vid. chosen.Sssp vid) (vid_of from)
chosen_by Components None None = Some chosen.Components
chosen_by PageRank None (Some rounds) = option_map (λ count. chosen.PageRank count) (rounds_of rounds)
chosen_by Chains None None = Some chosen.Chains
chosen_by Reverse None None = Some chosen.Reverse
chosen_by Close None None = Some chosen.Close
chosen_by Prune None None = Some chosen.Prune
chosen_by _ _ _ = None

-- the number of vertices to generate, or none where nothing is said
abbrev pub generate_of : Option (List ℕ) → Option (Option ℕ)
generate_of None = Some None
generate_of (Some text) = option_map (λ n. Some n) (passing (λ n. nat_le 1 n) (number_of (2 ^ 32 - 1) text))

-- yes or no, and no where nothing is said
abbrev pub stats_of : Option (List ℕ) → Option Bool
stats_of None = Some false
stats_of (Some text) = if bytes_eq text (codes "yes") then Some true else if bytes_eq text (codes "no") then Some false else None

-- a value, if there is one, and what is made of it
abbrev pub given : {A B : Type 0} → Option A → (A → Option B) → Option B
given None make = None
given (Some a) make = make a

-- what gives each name its value, where it has one
abbrev pub Values : Type 0
Values = List ℕ → Option (List ℕ)

-- `program` is required
abbrev pub chosen_of : Values → Option Chosen
chosen_of value = given (value (codes "program")) (λ text. given (kind_of text) (λ kind. chosen_by kind (value (codes "from")) (value (codes "rounds"))))

-- the job of values
unfoldable pub job_by : Values → Option Job
job_by value =
    given (chosen_of value) (λ chosen.
    given (number_in 0 (2 ^ 32 - 1) 1000 (value (codes "max-supersteps"))) (λ most.
    given (number_in 1 16 4 (value (codes "partitions"))) (λ partitions.
    given (number_in 1 65536 64 (value (codes "frames"))) (λ frames.
    given (frame_len_in 256 1048576 262144 (value (codes "frame-bytes"))) (λ frame_bytes.
    given (number_in 0 (2 ^ 64 - 1) 0 (value (codes "seed"))) (λ seed.
    given (generate_of (value (codes "generate"))) (λ generate.
    given (stats_of (value (codes "stats"))) (λ stats.
    Some (record {
      chosen = chosen;
      most = most;
      partitions = partitions;
      frames = frames;
      frame_bytes = frame_bytes;
      seed = seed;
      generate = generate;
      stats = stats;
    })))))))))

-- the job of items, where each name is known, none comes twice, and the values are as the program needs them
abbrev pub job_of_items : List Item → Option Job
job_of_items items = if are_known items && are_different items then job_by (λ name. value_of name items) else None

-- the job that words ask for, or none where they are refused
unfoldable pub job_of : List (List ℕ) → Option Job
job_of words = elim (items_from None words) [ None ↦ None | Some items ↦ job_of_items items ]

abbrev pub IsBetween : ℕ → ℕ → ℕ → Type 0
IsBetween least greatest n = (least ≤ n) × (n ≤ greatest)

-- the numbers of a job are in their ranges
pub record IsInRange (job : Job) : Type 0 where
  pub most : job.most < 2 ^ 32
  pub partition : 1 ≤ job.partitions
  pub partitions : job.partitions ≤ 16
  pub frame : 1 ≤ job.frames
  pub frames : job.frames ≤ 65536
  pub frame_len : IsFrameLen job.frame_bytes
  pub seed : job.seed < 2 ^ 64
  pub generate : IfSome job.generate (λ n. (1 ≤ n) × (n < 2 ^ 32))
