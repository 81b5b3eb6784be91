-- The bank of a job, and how many bytes it has.
use Rattle.std.proofs.Common.{◌≡◌, ◌≤◌, ℕ, ◌+◌, ◌-◌, ◌*◌, ◌/◌, ◌^◌, true, List, [], ◌∷◌, sym, ◌∙◌, ap, refl, subst, arith, inl, inr}
use Rattle.std.specs.Prelude.{◌==◌, IsTrue, map, sum, slice_index_or, false}
use Rattle.std.specs.List.{list_any, AllByRecursion}
use Rattle.std.proofs.lemmas.Bool.{or_cases, eqb-true}
use Rattle.std.proofs.lemmas.Nat.{mul-le}
use Rattle.std.proofs.Math.Nat.{mul_assoc, add-mul}
use Rattle.px_frames.specs.Banks.{IsFrameLen, BankView, SlotView, slot_home, size_of}
use Rattle.px_superstep.specs.declared.plan.Shares.{Shares}
use Rattle.px_superstep.specs.Plans.{IsBank, bytes_of, entries_in, table_frames, tuple_frames, total}

-- a number that is whole sixteens
abbrev Whole : ℕ → Type 0
Whole n = n / 16 * 16 ≡ n

-- so is a power of two, where each of these is
whole_among : (n : ℕ) (ks : List ℕ) → AllByRecursion (λ k. Whole (2 ^ k)) ks → list_any (λ k. n == 2 ^ k) ks ≡ true → Whole n
whole_among n [] each h = grind arith
whole_among n (k ∷ ks) each h =
    elim (or_cases (n == 2 ^ k) (list_any (λ k. n == 2 ^ k) ks) h) [
      | inl here ↦ subst Whole (sym (eqb-true n (2 ^ k) here)) each.0
      | inr later ↦ whole_among n ks each.1 later
    ]

pub whole_frame : (n : ℕ) → IsFrameLen n → Whole n
whole_frame n len =
    whole_among n (8 ∷ 9 ∷ 10 ∷ 11 ∷ 12 ∷ 13 ∷ 14 ∷ 15 ∷ 16 ∷ 17 ∷ 18 ∷ 19 ∷ 20 ∷ [])
    (refl, (refl, (refl, (refl, (refl, (refl, (refl, (refl, (refl, (refl, (refl, (refl, (refl, tt))))))))))))) len.power

-- so the frames without those of the table, and the table's entries, have the bytes of all
pub all_bytes : (all table n : ℕ) → IsFrameLen n → table ≤ all → (all - table) * n + table * (n / 16) * 16 ≡ all * n
all_bytes all table n len few =
    let whole = whole_frame n len in
    let split : all ≡ (all - table) + table = omega (arith, few) in
    let entries : table * (n / 16) * 16 ≡ table * n = mul_assoc table (n / 16) 16 ∙ ap (λ m. table * m) whole in
    ap (λ m. (all - table) * n + m) entries ∙ sym (ap (λ m. m * n) split ∙ add-mul (all - table) table n)

-- the slot table of a group with its least number of frames has 32 entries
pub many_entries : (group n : ℕ) → IsFrameLen n → 8 ≤ group → 32 ≤ entries_in group n
many_entries group n len enough =
    let two : 2 ≤ group / 4 = omega (arith, enough) in
    let sixteen : 16 ≤ n / 16 = omega (arith, len.least) in
    mul-le 2 16 (group / 4) (n / 16) two sixteen

-- what stands past the last slot
abbrev none : SlotView
none = record { size = 0; home = false }

-- the slots of a job's bank, all home
abbrev pub slots_home : ℕ → ℕ → ℕ → ℕ → List SlotView
slots_home parts group cache lsm = map slot_home (4 ∷ 3 ∷ 3 ∷ parts ∷ parts ∷ group ∷ cache ∷ lsm ∷ [])

module _ (bank : BankView) (parts group cache lsm : ℕ) (is : bank.slots ≡ slots_home parts group cache lsm) where
  pub bank_is : IsFrameLen bank.frame_len → IsTrue bank.table_home → 6 ≤ group → 32 ≤ bank.table_entries
      → IsBank parts true true bank
  bank_is len home few entries =
      let at : (i : ℕ) → size_of bank i ≡ (slice_index_or (slots_home parts group cache lsm) i none).size =
      λ i. ap (λ (slots : List SlotView). (slice_index_or slots i none).size) is
      in
      record {
        frame_len = len;
        slots = rw (at 5, at 6, at 7) is;
        table_home = home;
        group = rw (at 5) few;
        entries = entries;
      }

  pub bytes_are : (s : Shares) (n : ℕ) → IsFrameLen n → s.work ≡ 4 → s.streams ≡ 6 → s.out ≡ 2 * parts → group ≡ tuple_frames s.group → cache ≡ s.cache → lsm ≡ s.lsm
      → bank.frame_len ≡ n → bank.table_entries ≡ entries_in s.group n → bytes_of bank ≡ total s * n
  bytes_are s n len work streams out g c l same entries =
      let few : table_frames s.group ≤ s.group = omega arith in
      let sum_is : sum (map (λ (slot : SlotView). slot.size) bank.slots) ≡ total s - table_frames s.group = rw is (omega (arith, work, streams, out, g, c, l, few)) in
      rw (sum_is, same, entries) (all_bytes (total s) (table_frames s.group) n len (omega (arith, few)))
