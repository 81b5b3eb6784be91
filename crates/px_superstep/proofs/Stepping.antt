-- The bank of a job lends what a superstep works with, and gets it back.
use Rattle.std.proofs.Common.{◌≡◌, ◌≢◌, ◌≤◌, ◌<◌, ℕ, Bool, true, false, List, length, sym, ◌∙◌, ap, subst, arith}
use Rattle.std.specs.Prelude.{slice_index_or}
use Rattle.px_core.specs.Shown.{Shown}
use Rattle.px_pages.specs.Page.{IsPageLen}
use Rattle.px_frames.specs.Banks.{BankView, SlotView, size_of, is_home, with_home}
use Rattle.px_store.specs.declared.shared.Desk.{Desk}
use Rattle.px_load.specs.Loading.{IsFree}
use Rattle.px_superstep.specs.Benches.{HasBench, HasSlot}
use Rattle.px_superstep.specs.Jobs.{IsFreeOver}
use Rattle.px_superstep.specs.Plans.{IsBank}
use Rattle.px_superstep.proofs.Lending.{still_home, home_again}

-- what stands past the last slot
abbrev none : SlotView
none = record { size = 0; home = false }

-- a desk that is free over one disk is so over all whose pages are as long
pub free_over : (counted : Bool) (len : ℕ) (d : Desk) (g : Shown) → g.page_len ≡ len → IsFree counted d g → IsFreeOver counted len d
free_over counted len d g is h = λ s same. (let equal : g.page_len ≡ s.page_len = is ∙ sym same in record {
  owner = h.owner;
  ready = record {
    len = h.ready.len ∙ equal;
    page = subst IsPageLen equal h.ready.page;
    pins = h.ready.pins;
    owner = h.ready.owner;
    few = h.ready.few;
    side = h.ready.side;
  };
})

module _ (b : BankView) (n : ℕ) (is : IsBank n true false b) where
  count : length b.slots ≡ 8
  count = ap length is.slots

  slot_is : (i : ℕ) → i < 8 → is_home b i ≡ true → (least : ℕ) → least ≤ size_of b i → HasSlot b i least
  slot_is i low home least enough = record { in_range = omega (arith, low, count); home = home; frames = enough }

  home_of : (i : ℕ) → (slots : List SlotView) → b.slots ≡ slots → is_home b i ≡ (slice_index_or slots i none).home
  home_of i slots e = ap (λ (l : List SlotView). (slice_index_or l i none).home) e

  sized : (i : ℕ) → (slots : List SlotView) → b.slots ≡ slots → size_of b i ≡ (slice_index_or slots i none).size
  sized i slots e = ap (λ (l : List SlotView). (slice_index_or l i none).size) e

  pub messages_slot : HasSlot b 3 n
  messages_slot = slot_is 3 (omega arith) (home_of 3 _ is.slots) n (let size = sized 3 _ is.slots in omega (arith, size))

  pub requests_slot : HasSlot b 4 n
  requests_slot = slot_is 4 (omega arith) (home_of 4 _ is.slots) n (let size = sized 4 _ is.slots in omega (arith, size))

  work_slot : HasSlot b 0 4
  work_slot = slot_is 0 (omega arith) (home_of 0 _ is.slots) 4 (let size = sized 0 _ is.slots in omega (arith, size))

  join_slot : HasSlot b 1 3
  join_slot = slot_is 1 (omega arith) (home_of 1 _ is.slots) 3 (let size = sized 1 _ is.slots in omega (arith, size))

  streams_slot : HasSlot b 2 3
  streams_slot = slot_is 2 (omega arith) (home_of 2 _ is.slots) 3 (let size = sized 2 _ is.slots in omega (arith, size))

  group_slot : HasSlot b 5 6
  group_slot = slot_is 5 (omega arith) (home_of 5 _ is.slots) 6 is.group

  abbrev b1 : BankView
  b1 = with_home b 3 false

  abbrev pub b2 : BankView
  b2 = with_home b1 4 false

  -- the slot of requests is still home when that of messages is out
  pub requests_still : HasSlot b1 4 n
  requests_still = still_home b 3 4 n false (λ e. omega (arith, e)) requests_slot

  both_still : (j least : ℕ) → j ≢ 3 → j ≢ 4 → HasSlot b j least → HasSlot b2 j least
  both_still j least a c h = still_home b1 4 j least false c (still_home b 3 j least false a h)

  -- and so is what is lent for one partition at a time when both are
  pub bench_still : HasBench b2
  bench_still = record {
    len = is.frame_len;
    work = both_still 0 4 (λ e. omega (arith, e)) (λ e. omega (arith, e)) work_slot;
    join = both_still 1 3 (λ e. omega (arith, e)) (λ e. omega (arith, e)) join_slot;
    streams = both_still 2 3 (λ e. omega (arith, e)) (λ e. omega (arith, e)) streams_slot;
    group = both_still 5 6 (λ e. omega (arith, e)) (λ e. omega (arith, e)) group_slot;
    table = is.table_home;
    entries = is.entries;
  }

  -- both come home
  pub both_back : with_home (with_home b2 4 true) 3 true ≡ b
  both_back = ap (λ (x : BankView). with_home x 3 true) (home_again b1 4 n requests_still) ∙ home_again b 3 n messages_slot
