-- The graph of a good text: a map of vertices that are awake and within room.
use Rattle.std.proofs.Common.{◌≡◌, ◌<◌, ◌≤◌, ℕ, suc, ◌+◌, Bool, true, false, List, [], ◌∷◌, ◌++◌, length, filter, fold, Option, Some, None, sym, ◌∙◌, ap, subst, refl, length-append}
use Rattle.std.specs.Prelude.{nat_lt, ◌==◌, not, if◌then◌else◌}
use Rattle.std.specs.List.{AllByRecursion, cons_option}
use Rattle.std.proofs.lemmas.Bool.{leb-true, le-ltb}
use Rattle.px_meaning.specs.Graph.{Vertex, Graph, IsMap, put, size_of, vids}
use Rattle.px_meaning.specs.GraphText.{Good, Offence, offence, least_twice, lines_of, vertex_given, vertices_given, map_of, graph_of}
use Rattle.px_meaning.specs.Line.{Edges, Spot, Start, Comment, InVid, Gap, InTarget, Colon, InWeight, Move, On, Off, Number, Reading, Nothing, Spelled, Refused, has_room, is_blank, is_digit, with_digit, digit_move, greatest_vid, greatest_weight, move, ending, later, reading_from, reading}
use Rattle.px_meaning.specs.Step.{is_wide, has_wide_vertex}
use Rattle.px_meaning.proofs.Maps.{IsMap-put}
use Rattle.px_meaning.proofs.TextMeanings.{meant, text_is_meant, sorted_as, sorted_is}

module _ (room : ℕ) (least : 22 ≤ room) where
  -- a vertex with the edges so far, and the one that is begun, is within room
  abbrev SpotFits : Spot → Type 0
  SpotFits Start = Unit {0}
  SpotFits Comment = Unit {0}
  SpotFits (InVid v) = Unit {0}
  SpotFits (Gap v edges) = size_of 0 (length edges) ≤ room
  SpotFits (InTarget v edges dst) = size_of 0 (length edges + 1) ≤ room
  SpotFits (Colon v edges dst) = size_of 0 (length edges + 1) ≤ room
  SpotFits (InWeight v edges dst weight) = size_of 0 (length edges + 1) ≤ room

  abbrev MoveFits : Move → Type 0
  MoveFits (On spot) = SpotFits spot
  MoveFits (Off kind) = Unit {0}

  abbrev ReadingFits : Reading → Type 0
  ReadingFits Nothing = Unit {0}
  ReadingFits (Spelled v edges) = size_of 0 (length edges) ≤ room
  ReadingFits (Refused at kind) = Unit {0}

  either : (b : Bool) (x y : Move) → (b ≡ true → MoveFits x) → MoveFits y → MoveFits (if b then x else y)
  either true x y f g = f refl
  either false x y f g = g

  digit_fits : (greatest n b : ℕ) (next : ℕ → Spot) → ((m : ℕ) → SpotFits (next m)) → MoveFits (digit_move greatest n b next)
  digit_fits greatest n b next fits = either (nat_lt greatest (with_digit n b)) (Off Number) (On (next (with_digit n b))) (λ is. tt) (fits (with_digit n b))

  longer : (edges : Edges) (e : ℕ × ℕ) → size_of 0 (length edges + 1) ≤ room → size_of 0 (length (edges ++ e ∷ [])) ≤ room
  longer edges e fits = subst (λ (n : ℕ). size_of 0 n ≤ room) (sym (length-append edges (e ∷ []))) fits

  move_fits : (spot : Spot) (b : ℕ) → SpotFits spot → MoveFits (move room spot b)
  move_fits Start b fits =
      either (is_blank b) _ _ (λ is. tt) (either (b == 35) _ _ (λ is. tt) (either (is_digit b) _ _ (λ is. digit_fits greatest_vid 0 b InVid (λ m. tt)) tt))
  move_fits Comment b fits = tt
  move_fits (InVid v) b fits =
      either (is_blank b) _ _ (λ is. least) (either (is_digit b) _ _ (λ is. digit_fits greatest_vid v b InVid (λ m. tt)) tt)
  move_fits (Gap v edges) b fits =
      either (is_blank b) _ _ (λ is. fits)
      (either (is_digit b) _ _ (λ is. either (has_room room edges) _ _ (λ has. digit_fits greatest_vid 0 b (InTarget v edges) (λ m. leb-true _ _ has)) tt) tt)
  move_fits (InTarget v edges dst) b fits =
      either (is_blank b) _ _ (λ is. longer edges (dst, 1) fits)
      (either (b == 58) _ _ (λ is. fits) (either (is_digit b) _ _ (λ is. digit_fits greatest_vid dst b (InTarget v edges) (λ m. fits)) tt))
  move_fits (Colon v edges dst) b fits = either (is_digit b) _ _ (λ is. digit_fits greatest_weight 0 b (InWeight v edges dst) (λ m. fits)) tt
  move_fits (InWeight v edges dst weight) b fits =
      either (is_blank b) _ _ (λ is. longer edges (dst, weight) fits)
      (either (is_digit b) _ _ (λ is. digit_fits greatest_weight weight b (InWeight v edges dst) (λ m. fits)) tt)

  ending_fits : (spot : Spot) → SpotFits spot → ReadingFits (ending spot)
  ending_fits Start fits = tt
  ending_fits Comment fits = tt
  ending_fits (InVid v) fits = least
  ending_fits (Gap v edges) fits = fits
  ending_fits (InTarget v edges dst) fits = longer edges (dst, 1) fits
  ending_fits (Colon v edges dst) fits = tt
  ending_fits (InWeight v edges dst weight) fits = longer edges (dst, weight) fits

  later_fits : (r : Reading) → ReadingFits r → ReadingFits (later r)
  later_fits Nothing fits = tt
  later_fits (Spelled v edges) fits = fits
  later_fits (Refused at kind) fits = tt

  -- what a line spells is within room
  reading_fits : (spot : Spot) (line : List ℕ) → SpotFits spot → ReadingFits (reading_from room spot line)
  reading_fits spot [] fits = ending_fits spot fits
  reading_fits spot (b ∷ bs) fits = go (move room spot b) (move_fits spot b fits) (λ next h. reading_fits next bs h) where
    go : (m : Move) → MoveFits m → ((next : Spot) → SpotFits next → ReadingFits (reading_from room next bs)) → ReadingFits (elim m as (λ _. Reading) [ On next ↦ later (reading_from room next bs) | Off kind ↦ Refused 0 kind ])
    go (On next) h more = later_fits (reading_from room next bs) (more next h)
    go (Off kind) h more = tt

  -- a vertex of a text is awake and within room
  pub record IsNew (x : Vertex) : Type 0 where
    pub awake : x.halt ≡ false
    pub fits : is_wide room x ≡ false

  abbrev AllNew : Graph → Type 0
  AllNew g = AllByRecursion (λ e. IsNew e.1) g

  given_new : (lines : List (List ℕ)) → AllNew (vertices_given room lines)
  given_new [] = tt
  given_new (line ∷ lines) = go (reading room line) (reading_fits Start line tt) (given_new lines) where
    go : (r : Reading) → ReadingFits r → AllNew (vertices_given room lines) → AllNew (cons_option (vertex_given r) (vertices_given room lines))
    go Nothing h rest = rest
    go (Spelled v edges) h rest = (record { awake = refl; fits = le-ltb room (size_of 0 (length edges)) h }, rest)
    go (Refused at kind) h rest = rest

  put_new : (k : ℕ) (x : Vertex) (g : Graph) → IsNew x → AllNew g → AllNew (put k x g)
  put_new k x [] new all = (new, tt)
  put_new k x (e ∷ es) new all = go (nat_lt k e.0) (k == e.0) (put_new k x es new all.1) where
    go : (a b : Bool) → AllNew (put k x es) → AllNew (if a then (k, x) ∷ e ∷ es else if b then (k, x) ∷ es else e ∷ put k x es)
    go true b rest = (new, all)
    go false true rest = (new, all.1)
    go false false rest = (all.0, rest)

  -- a map of such vertices
  pub record IsNewMap (g : Graph) : Type 0 where
    pub is_map : IsMap g
    pub all : AllNew g

  folded_new : (given g : Graph) → AllNew given → IsNewMap g → IsNewMap (fold (λ g e. put e.0 e.1 g) g given)
  folded_new [] g all new = new
  folded_new (e ∷ es) g all new =
      folded_new es (put e.0 e.1 g) all.1 (record { is_map = IsMap-put e.0 e.1 g new.is_map; all = put_new e.0 e.1 g all.0 new.all })

  sorted_new : (g h : Graph) (o : Option ℕ) → sorted_as g o ≡ Good h → IsNewMap g → IsNewMap h
  sorted_new g h None is new = subst IsNewMap (good_is g h is) new where
    good_is : (a b : Graph) → Good a ≡ Good b → a ≡ b
    good_is a b e = cc
  sorted_new g h (Some v) is new = cc

  meant_new : (o : Option Offence) (given h : Graph) → AllNew given → meant o given ≡ Good h → IsNewMap h
  meant_new (Some o) given h all is = cc
  meant_new None given h all is =
      sorted_new (map_of given) h (least_twice (vids given)) (sym (sorted_is (map_of given) (least_twice (vids given))) ∙ is)
      (folded_new given [] all (record { is_map = tt; all = tt }))

  -- the graph of a good text is one
  pub text_new : (text : List ℕ) (limit : ℕ) (g : Graph) → graph_of text room limit ≡ Good g → IsNewMap g
  text_new text limit g is =
      meant_new (offence room limit text) (vertices_given room (lines_of text)) g (given_new (lines_of text)) (sym (text_is_meant text room limit) ∙ is)

  -- none of them is wide
  pub none_wide : (g : Graph) → AllNew g → has_wide_vertex room g ≡ false
  none_wide [] all = refl
  none_wide (e ∷ es) all = rw (all.0.fits) (none_wide es all.1)

  -- all are awake
  pub all_awake : (g : Graph) → AllNew g → length (filter (λ e. not e.1.halt) g) ≡ length g
  all_awake [] all = refl
  all_awake (e ∷ es) all = rw (all.0.awake) (ap suc (all_awake es all.1))
