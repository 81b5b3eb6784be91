-- What is lent of the bank comes back.
use Rattle.std.proofs.Common.{◌≡◌, ◌≢◌, ℕ, ◌<◌, ◌≤◌, Bool, length, true, false, sym, ap, ◌∙◌, refl, arith, inl, inr}
use Rattle.std.proofs.lemmas.Bool.{cases_eq}
use Rattle.std.proofs.lemmas.List.{length-set}
use Rattle.px_frames.specs.Banks.{SlotView, BankView, size_of, with_home, with_table}
use Rattle.px_frames.proofs.BankLaws.{slot_at-with_home_same, slot_at-with_home_other, with_home-with_home_same, with_home_stays}
use Rattle.px_superstep.specs.Benches.{HasBench, HasSlot}
use Rattle.px_superstep.specs.Lending.{bench_out, bench_home, IsBenchOut, IsOut}

-- a slot is home in a bank in which another went out or came home, where it was
pub still_home : (b : BankView) (i j least : ℕ) (x : Bool) → j ≢ i → HasSlot b j least → HasSlot (with_home b i x) j least
still_home b i j least x ne h =
    let same = slot_at-with_home_other b i j x ne in
    record {
      in_range = rw length-set h.in_range;
      home = ap (λ (s : SlotView). s.home) same ∙ h.home;
      frames = rw (ap (λ (s : SlotView). s.size) same) h.frames;
    }

-- a slot went out
pub is_out : (b : BankView) (i : ℕ) → i < length b.slots → IsOut (with_home b i false) i
is_out b i lt = record { in_range = rw length-set lt; out = ap (λ (s : SlotView). s.home) (slot_at-with_home_same b i false lt) }

-- it is still out after another went out or came home
pub still_out : (b : BankView) (i j : ℕ) (x : Bool) → j ≢ i → IsOut b j → IsOut (with_home b i x) j
still_out b i j x ne h = record { in_range = rw length-set h.in_range; out = ap (λ (s : SlotView). s.home) (slot_at-with_home_other b i j x ne) ∙ h.out }

-- and where the table is
out_of_table : (b : BankView) (j : ℕ) (x : Bool) → IsOut b j → IsOut (with_table b x) j
out_of_table b j x h = record { in_range = h.in_range; out = h.out }

-- a slot that is home, goes out and comes home leaves the bank as it was
pub home_again : (b : BankView) (i least : ℕ) → HasSlot b i least → with_home (with_home b i false) i true ≡ b
home_again b i least h = with_home-with_home_same b i false true h.in_range ∙ with_home_stays b i true h.home

-- no slot's size changes
pub size_stays : (b : BankView) (i j : ℕ) (x : Bool) → i < length b.slots → size_of (with_home b i x) j ≡ size_of b j
size_stays b i j x lt = elim (cases_eq j i) [
  | inl same ↦ rw same (ap (λ (s : SlotView). s.size) (slot_at-with_home_same b i x lt))
  | inr other ↦ ap (λ (s : SlotView). s.size) (slot_at-with_home_other b i j x other)
]

module _ (b : BankView) (has : HasBench b) where
  abbrev b1 : BankView
  b1 = with_home b 0 false

  abbrev b2 : BankView
  b2 = with_home b1 1 false

  abbrev b3 : BankView
  b3 = with_home b2 2 false

  abbrev b4 : BankView
  b4 = with_home b3 5 false

  pub join_home : HasSlot b1 1 3
  join_home = still_home b 0 1 3 false (λ e. omega (arith, e)) has.join

  pub streams_home : HasSlot b2 2 3
  streams_home = still_home b1 1 2 3 false (λ e. omega (arith, e)) (still_home b 0 2 3 false (λ e. omega (arith, e)) has.streams)

  pub group_home : HasSlot b3 5 6
  group_home =
      still_home b2 2 5 6 false (λ e. omega (arith, e))
      (still_home b1 1 5 6 false (λ e. omega (arith, e)) (still_home b 0 5 6 false (λ e. omega (arith, e)) has.group))

  pub out_sizes : (j : ℕ) → size_of b4 j ≡ size_of b j
  out_sizes j =
      size_stays b3 5 j false group_home.in_range ∙ size_stays b2 2 j false streams_home.in_range
      ∙ size_stays b1 1 j false join_home.in_range ∙ size_stays b 0 j false has.work.in_range

  pub bench_is_out : IsBenchOut (bench_out b)
  bench_is_out = record {
    work = out_of_table b4 0 false (still_out b3 5 0 false (λ e. omega (arith, e)) (still_out b2 2 0 false (λ e. omega (arith, e)) (still_out b1 1 0 false (λ e. omega (arith, e)) (is_out b 0 has.work.in_range))));
    join = out_of_table b4 1 false (still_out b3 5 1 false (λ e. omega (arith, e)) (still_out b2 2 1 false (λ e. omega (arith, e)) (is_out b1 1 join_home.in_range)));
    streams = out_of_table b4 2 false (still_out b3 5 2 false (λ e. omega (arith, e)) (is_out b2 2 streams_home.in_range));
    group = out_of_table b4 5 false (is_out b3 5 group_home.in_range);
    table = refl;
  }

  pub bench_back : bench_home (bench_out b) ≡ b
  bench_back =
      ap (λ x. with_home (with_home (with_home (with_home x 5 true) 2 true) 1 true) 0 true) (ap (λ (h : Bool). record b4 { table_home = h }) (sym has.table))
      ∙ ap (λ x. with_home (with_home (with_home x 2 true) 1 true) 0 true) (home_again b3 5 6 group_home)
      ∙ ap (λ x. with_home (with_home x 1 true) 0 true) (home_again b2 2 3 streams_home)
      ∙ ap (λ x. with_home x 0 true) (home_again b1 1 3 join_home)
      ∙ home_again b 0 4 has.work
