-- Words of a line that grow by one byte, and what they spell.
use Rattle.std.proofs.Common.{◌≡◌, ℕ, ◌+◌, ◌<◌, ◌≤◌, List, [], ◌∷◌, ◌++◌, length, true, sym, ◌∙◌, ap, refl, subst, arith, inr, append_assoc, append-nil, length-append}
use Rattle.std.specs.List.{list_all}
use Rattle.std.proofs.lemmas.Bool.{and_from}
use Rattle.std.proofs.lemmas.List.Folds.{list_all-append}
use Rattle.std.proofs.lemmas.List.Sums.{fold-append}
use Rattle.px_meaning.specs.Graph.{size_of}
use Rattle.px_meaning.specs.Line.{Edges, is_blank, is_digit, with_digit, greatest_vid, greatest_weight}
use Rattle.px_meaning.specs.GoodLine.{AreBlanks, IsNumber, IsEdge, Plain, Weighted, AreEdges, NoEdges, EdgeAfter, Fits}

pub blanks-append : (xs ys : List ℕ) → AreBlanks xs → AreBlanks ys → AreBlanks (xs ++ ys)
blanks-append xs ys hx hy = list_all-append is_blank xs ys ∙ and_from (list_all is_blank xs) (list_all is_blank ys) hx hy

pub one_blank : (b : ℕ) → is_blank b ≡ true → AreBlanks (b ∷ [])
one_blank b h = and_from (is_blank b) true h refl

pub more_blanks : (gap : List ℕ) (b : ℕ) → AreBlanks gap → is_blank b ≡ true → AreBlanks (gap ++ b ∷ [])
more_blanks gap b h e = blanks-append gap (b ∷ []) h (one_blank b e)

pub number_begins : (greatest b : ℕ) → is_digit b ≡ true → with_digit 0 b ≤ greatest → IsNumber greatest (b ∷ []) (with_digit 0 b)
number_begins greatest b e le = record { some = omega arith; all_digits = and_from (is_digit b) true e refl; value = refl; within = le }

pub number_grows : (greatest n b : ℕ) (word : List ℕ) → IsNumber greatest word n → is_digit b ≡ true → with_digit n b ≤ greatest → IsNumber greatest (word ++ b ∷ []) (with_digit n b)
number_grows greatest n b word h e le = record {
  some = let k = length-append word (b ∷ []) in omega (arith, h.some);
  all_digits = list_all-append is_digit word (b ∷ []) ∙ and_from (list_all is_digit word) (list_all is_digit (b ∷ [])) h.all_digits (and_from (is_digit b) true e refl);
  value = fold-append with_digit 0 word (b ∷ []) ∙ ap (λ k. with_digit k b) h.value;
  within = le;
}

pub regroup : (gap word rest more : List ℕ) → (gap ++ (word ++ rest)) ++ more ≡ gap ++ (word ++ (rest ++ more))
regroup gap word rest more = append_assoc gap (word ++ rest) more ∙ ap (λ l. gap ++ l) (append_assoc word rest more)

-- one edge more at the end
pub edges_grow : (middle gap word : List ℕ) (edge : ℕ × ℕ) (edges : Edges) → AreEdges middle edges → AreBlanks gap → 0 < length gap → IsEdge word edge → AreEdges (middle ++ (gap ++ word)) (edges ++ edge ∷ [])
edges_grow middle gap word edge edges NoEdges blanks some is =
    subst (λ l. AreEdges l (edge ∷ [])) (ap (λ l. gap ++ l) (append-nil word)) (EdgeAfter gap word [] edge [] blanks some is NoEdges)
edges_grow middle gap word edge edges (EdgeAfter g w rest e es hb hs he hes) blanks some is =
    subst (λ l. AreEdges l (e ∷ (es ++ edge ∷ []))) (sym (regroup g w rest (gap ++ word))) (EdgeAfter g w (rest ++ (gap ++ word)) e (es ++ edge ∷ []) hb hs he (edges_grow rest gap word edge es hes blanks some is))

-- a line that spells a vid and these edges, and nothing behind them
pub record Spells (room v : ℕ) (es : Edges) (line : List ℕ) : Type 0 where
  pub before : List ℕ
  pub word : List ℕ
  pub middle : List ℕ
  pub blanks : AreBlanks before
  pub vid : IsNumber greatest_vid word v
  pub edges : AreEdges middle es
  pub fits : Fits room es
  pub whole : line ≡ before ++ (word ++ middle)

-- the same with one or more blanks behind
pub record Gapped (room v : ℕ) (es : Edges) (line : List ℕ) : Type 0 where
  pub front : List ℕ
  pub gap : List ℕ
  pub spelled : Spells room v es front
  pub blanks : AreBlanks gap
  pub some : 0 < length gap
  pub whole : line ≡ front ++ gap

-- the same with an edge's target behind, and room for that edge
pub record Targeted (room v : ℕ) (es : Edges) (dst : ℕ) (line : List ℕ) : Type 0 where
  pub front : List ℕ
  pub word : List ℕ
  pub gapped : Gapped room v es front
  pub more : size_of 0 (length es + 1) ≤ room
  pub target : IsNumber greatest_vid word dst
  pub whole : line ≡ front ++ word

-- the same with `:` and a weight behind
pub record Weighed (room v : ℕ) (es : Edges) (dst weight : ℕ) (line : List ℕ) : Type 0 where
  pub front : List ℕ
  pub tail : List ℕ
  pub targeted : Targeted room v es dst front
  pub number : IsNumber greatest_weight tail weight
  pub whole : line ≡ front ++ 58 ∷ tail

closes : (room v : ℕ) (es : Edges) (e : ℕ × ℕ) (front word : List ℕ) → Gapped room v es front → size_of 0 (length es + 1) ≤ room → IsEdge word e → Spells room v (es ++ e ∷ []) (front ++ word)
closes room v es e front word g more is =
    let s = g.spelled in
    record {
      before = s.before;
      word = s.word;
      middle = s.middle ++ (g.gap ++ word);
      blanks = s.blanks;
      vid = s.vid;
      edges = edges_grow s.middle g.gap word e es s.edges g.blanks g.some is;
      fits = inr (subst (λ n. size_of 0 n ≤ room) (sym (length-append es (e ∷ []))) more);
      whole = ap (λ l. l ++ word) g.whole ∙ append_assoc g.front g.gap word ∙ ap (λ l. l ++ (g.gap ++ word)) s.whole ∙ regroup s.before s.word s.middle (g.gap ++ word);
    }

pub closes_target : (room v : ℕ) (es : Edges) (dst : ℕ) (line : List ℕ) → Targeted room v es dst line → Spells room v (es ++ (dst, 1) ∷ []) line
closes_target room v es dst line t =
    subst (λ l. Spells room v (es ++ (dst, 1) ∷ []) l) (sym t.whole) (closes room v es (dst, 1) t.front t.word t.gapped t.more (Plain t.word dst t.target))

pub closes_weight : (room v : ℕ) (es : Edges) (dst weight : ℕ) (line : List ℕ) → Weighed room v es dst weight line → Spells room v (es ++ (dst, weight) ∷ []) line
closes_weight room v es dst weight line w =
    let t = w.targeted in
    subst (λ l. Spells room v (es ++ (dst, weight) ∷ []) l) (sym (w.whole ∙ ap (λ l. l ++ 58 ∷ w.tail) t.whole ∙ append_assoc t.front t.word (58 ∷ w.tail)))
    (closes room v es (dst, weight) t.front (t.word ++ 58 ∷ w.tail) t.gapped t.more (Weighted t.word w.tail dst weight t.target w.number))
