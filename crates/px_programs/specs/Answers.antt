-- The kinds of answers of these programs, and what makes them valid.
use Rattle.std.specs.Prelude.{ℕ, Bool, true, false, ◌&&◌, if◌then◌else◌, IsTrue, List, [], ◌∷◌, Option, Some, None, codes, decimal, refl}
use Rattle.std.proofs.lemmas.Bool.{false≢true}
use Rattle.px_meaning.specs.Graph.{Vertex}
use Rattle.px_meaning.specs.Merge.{Pairs, MergeRule, AllValid}
use Rattle.px_meaning.specs.Program.{Out}
use Rattle.px_program.specs.Numbers.{num, number_in}
use Rattle.px_verdict.specs.Verdict.{verdict_rule}
use Rattle.px_programs.specs.Along.{sent_by}
use Rattle.px_programs.specs.Table.{IsValidOut}

-- nothing but the vertex
abbrev pub rests : Vertex → Out
rests x = record { vertex = x; sends = []; requests = []; contributions = [] }

-- one contribution, and sends
abbrev pub posts : Vertex → ℕ → Pairs → Out
posts x n sends = record { vertex = x; sends = sends; requests = []; contributions = n ∷ [] }

-- sends alone
abbrev pub spreads : Vertex → Pairs → Out
spreads x sends = record { vertex = x; sends = sends; requests = []; contributions = [] }

-- requests alone
abbrev pub asks : Vertex → Pairs → Out
asks x requests = record { vertex = x; sends = []; requests = requests; contributions = [] }

abbrev pub halted : Vertex → Vertex
halted x = record x { halt = true }

-- the vertex with this number as its value
abbrev pub valued : Bool → ℕ → Vertex → Vertex
valued halt n x = record { halt = halt; value = num n; edges = x.edges }

-- a number in decimal, or a dash for none
abbrev pub decimal_or_dash : Option ℕ → List ℕ
decimal_or_dash None = codes "-"
decimal_or_dash (Some n) = decimal n

-- of a value that is never set
abbrev pub dash_text : Vertex → List ℕ
dash_text x = codes "-"

abbrev pub number_text : Vertex → List ℕ
number_text x = decimal_or_dash (number_in x.value)

and_true : (a b : Bool) → IsTrue a → IsTrue b → IsTrue (a && b)
and_true true b p q = q
and_true false b p q = absurd (false≢true p)

-- what is sent by valid payloads
pub sent_by_valid : (rule : MergeRule) (payload : ℕ × ℕ → List ℕ) → ((e : ℕ × ℕ) → IsTrue (rule.valid (payload e))) → (es : List (ℕ × ℕ)) → AllValid rule (sent_by payload es)
sent_by_valid rule payload all [] = refl
sent_by_valid rule payload all (e ∷ es) = and_true _ _ (all e) (sent_by_valid rule payload all es)

pub rests_valid : (rule : MergeRule) (x : Vertex) → IsValidOut rule (rests x)
rests_valid rule x = record { sends = refl; requests = refl }

pub posts_valid : (rule : MergeRule) (x : Vertex) (n : ℕ) (sends : Pairs) → AllValid rule sends → IsValidOut rule (posts x n sends)
posts_valid rule x n sends all = record { sends = all; requests = refl }

pub spreads_valid : (rule : MergeRule) (x : Vertex) (sends : Pairs) → AllValid rule sends → IsValidOut rule (spreads x sends)
spreads_valid rule x sends all = record { sends = all; requests = refl }

pub asks_valid : (rule : MergeRule) (x : Vertex) (requests : Pairs) → AllValid verdict_rule requests → IsValidOut rule (asks x requests)
asks_valid rule x requests all = record { sends = refl; requests = all }

-- what holds of both sides of a choice holds of the choice
pub if_has : {A : Type 0} (P : A → Type 0) (b : Bool) (x y : A) → P x → P y → P (if b then x else y)
if_has P true x y p q = p
if_has P false x y p q = q
