-- A loaded job stands for the state before the first superstep.
use Rattle.std.proofs.Common.{◌≡◌, ◌<◌, ◌≤◌, ℕ, zero, suc, ◌+◌, ◌^◌, Bool, true, false, List, [], ◌∷◌, length, filter, take, sym, ◌∙◌, ap, subst, refl, arith, inl, inr}
use Rattle.std.specs.Prelude.{Some, slice_get, slice_index_or, replicate, ◌==◌, if◌then◌else◌}
use Rattle.std.proofs.lemmas.List.{length-map}
use Rattle.px_core.specs.Partition.{partition_of}
use Rattle.px_core.specs.Parts.{to_part}
use Rattle.px_core.specs.Shown.{Shown, Tells, Touches, Only}
use Rattle.px_core.proofs.Keeping.{same_by_touches, tells_same}
use Rattle.px_frames.specs.Banks.{IsFrameLen}
use Rattle.px_stream.specs.Stream.{Holds}
use Rattle.px_meaning.specs.Graph.{Graph, room_of}
use Rattle.px_meaning.specs.GraphText.{Good, graph_of}
use Rattle.px_meaning.specs.Meaning.{first_state}
use Rattle.px_meaning.specs.Program.{ProgramMeaning}
use Rattle.px_global_state.specs.declared.gs.Gs.{Gs}
use Rattle.px_load.specs.Loading.{HoldGraph}
use Rattle.px_load.specs.Stops.{IsLoadFile}
use Rattle.px_mutations.specs.declared.applying.Tally.{Tally}
use Rattle.px_superstep.specs.Counting.{AreCounted, no_tally}
use Rattle.px_superstep.specs.Files.{msg_file}
use Rattle.px_superstep.specs.Jobs.{AreNoMessages, AreLoaded}
use Rattle.px_superstep.specs.Steps.{StandsFor}
use Rattle.px_superstep.proofs.Slices.{some_is, below}
use Rattle.px_superstep.proofs.Texts.{text_new, none_wide, all_awake}

-- a file without pages holds nothing
pub holds_nothing : (t : Shown) (f : ℕ) → Tells t f [] → Holds t f 0 []
holds_nothing t f tells = record { told = []; tells = tells; end = omega arith; made = tt; tuples = refl; fit = tt }

-- what stands in the front of a slice stands there in the whole
pub in_front : {X : Type 0} (xs : List X) (n i : ℕ) (d x : X) → slice_get (take n xs) i ≡ Some x → slice_index_or xs i d ≡ x
in_front [] zero i d x at = cc
in_front [] (suc n) i d x at = cc
in_front (y ∷ ys) zero i d x at = cc
in_front (y ∷ ys) (suc n) zero d x at = some_is at
in_front (y ∷ ys) (suc n) (suc i) d x at = in_front ys n i d x at

pub few_in_front : {X : Type 0} (xs : List X) (n : ℕ) → length (take n xs) ≤ n
few_in_front [] zero = omega arith
few_in_front [] (suc n) = omega arith
few_in_front (y ∷ ys) zero = omega arith
few_in_front (y ∷ ys) (suc n) = (let rest = few_in_front ys n in omega (arith, rest))

pub fewer : {X : Type 0} (keep : X → Bool) (xs : List X) → length (filter keep xs) ≤ length xs
fewer keep [] = omega arith
fewer keep (x ∷ xs) = (let rest = fewer keep xs in elim (keep x) as (λ b. length (if b then x ∷ filter keep xs else filter keep xs) ≤ suc (length xs)) [
  | true ↦ omega (arith, rest)
  | false ↦ omega (arith, rest)
])

pub first_stands : {X : Type 0} (p : ProgramMeaning) (room : ℕ) (holding : X → Graph → Type 0) (stores : List X) (t : Shown) (msgs : List ℕ) (tallies : List Tally) (gs : Gs) (graph : Graph) (bytes : List ℕ)
    → 22 ≤ room → graph_of bytes room (2 ^ 48) ≡ Good graph → HoldGraph holding stores graph
    → gs ≡ record { superstep = 0; aggregate = p.unit; live = gs.count; count = gs.count; in_flight = 0 } → gs.count ≡ length graph → gs.count < 2 ^ 64
    → AreCounted tallies (length stores) (length stores) graph → AreNoMessages (length stores) t → ((i : ℕ) → i < 16 → slice_index_or msgs i 0 ≡ 0) → length stores ≤ 16
    → StandsFor p room false holding stores t (take (length stores) msgs) (take (length stores) tallies) gs (first_state p graph)
first_stands p room holding stores t msgs tallies gs graph bytes least good hold is counted small tallied none zeros most =
    let n = length stores in
    let new = text_new room least bytes (2 ^ 48) graph good in
    record {
      is_map = new.is_map;
      valid = refl;
      fit = none_wide room least graph new.all;
      numbers = record {
        superstep = ap (λ (g : Gs). g.superstep) is;
        aggregate = ap (λ (g : Gs). g.aggregate) is;
        live = ap (λ (g : Gs). g.live) is ∙ counted ∙ sym (all_awake room least graph new.all);
        count = counted;
        in_flight = ap (λ (g : Gs). g.in_flight) is;
      };
      hold = hold;
      messages = λ q k at.
          (let low = below (take n msgs) q k at in
          let few = few_in_front msgs n in
          let zero_is : k ≡ 0 = sym (in_front msgs n q 0 k at) ∙ zeros q (omega (arith, low, few, most)) in
          subst (λ (j : ℕ). Holds t (msg_file 0 q) j []) (sym zero_is) (holds_nothing t (msg_file 0 q) (none q (omega (arith, low, few)))));
      counted = λ q tally at.
          (let low = below (take n tallies) q tally at in
          let few = few_in_front tallies n in
          let of = tallied.each q (omega (arith, low, few)) in
          let tally_is = in_front tallies n q no_tally tally at in
          let part = fewer (λ (e : ℕ × _). partition_of e.0 n == q) graph in
          let short : length (to_part n q graph) < 2 ^ 64 = omega (arith, part, counted, small) in
          record {
            count = ap (λ (x : Tally). x.count) (sym tally_is) ∙ of.count short;
            live = ap (λ (x : Tally). x.live) (sym tally_is) ∙ of.live short ∙ sym (length-map _ _);
          });
      vids = λ on. cc;
    }

abbrev zeros : ℕ → List ℕ
zeros n = replicate n 0

pub zero_at : (n i : ℕ) → slice_index_or (zeros n) i 0 ≡ 0
zero_at zero i = refl
zero_at (suc n) zero = refl
zero_at (suc n) (suc i) = zero_at n i

not_loaded : (q f : ℕ) → q < 16 → f ≡ msg_file 0 q → IsLoadFile f → ⊥
not_loaded q f low is (inl runs) = omega (arith, low, is, runs)
not_loaded q f low is (inr parts) = omega (arith, low, is, parts.0, parts.1)

-- a load changes no file of messages
pub none_still : (parts : ℕ) (t t' : Shown) → parts ≤ 16 → Touches IsLoadFile t t' → AreNoMessages parts t → AreNoMessages parts t'
none_still parts t t' few touched none = λ q low.
    tells_same t t' (msg_file 0 q) [] (same_by_touches (Only (msg_file 0 q)) IsLoadFile t t' (λ f is mine. not_loaded q f (omega (arith, low, few)) is mine) touched) (none q low)

-- what a load leaves stands for the state before the first superstep
pub loaded_stands : {X : Type 0} (p : ProgramMeaning) (len : ℕ) (probing : Bool) (holding : X → Graph → Type 0) (stores : List X) (t t' : Shown) (msgs : List ℕ) (tallies : List Tally) (gs : Gs) (bytes : List ℕ)
    → probing ≡ false → IsFrameLen len → (l : AreLoaded (graph_of bytes (room_of len) (2 ^ 48)) holding stores tallies gs.count)
    → gs ≡ record { superstep = 0; aggregate = p.unit; live = gs.count; count = gs.count; in_flight = 0 } → gs.count < 2 ^ 64 → length stores ≤ 16
    → ((i : ℕ) → i < 16 → slice_index_or msgs i 0 ≡ 0) → Touches IsLoadFile t t' → AreNoMessages (length stores) t
    → StandsFor p (room_of len) probing holding stores t' (take (length stores) msgs) (take (length stores) tallies) gs (first_state p l.graph)
loaded_stands p len probing holding stores t t' msgs tallies gs bytes off frame l is small most zeros touched none =
    let least : 22 ≤ room_of len = (let low = frame.least in omega (arith, low)) in
    let still = none_still (length stores) t t' most touched none in
    subst (λ (b : Bool). StandsFor p (room_of len) b holding stores t' (take (length stores) msgs) (take (length stores) tallies) gs (first_state p l.graph)) (sym off)
    (first_stands p (room_of len) holding stores t' msgs tallies gs l.graph bytes least l.good l.hold is l.counted small l.tallied still zeros most)
