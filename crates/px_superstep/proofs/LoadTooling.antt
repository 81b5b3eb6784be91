-- What a load works with comes home.
use Rattle.std.proofs.Common.{◌≡◌, ◌≢◌, ◌≤◌, ◌<◌, ℕ, ◌+◌, Bool, false, List, length, Option, Some, None, sym, ◌∙◌, ap, arith, subst}
use Rattle.px_frames.specs.Banks.{BankView, size_of, with_home}
use Rattle.px_frames.specs.Shares.{ShareView}
use Rattle.px_frames.specs.Tables.{TableView}
use Rattle.px_meaning.specs.Graph.{room_of}
use Rattle.px_load.specs.Frames.{AreLoadFrames, HasFrame, SameText}
use Rattle.px_superstep.specs.Benches.{HasSlot}
use Rattle.px_superstep.specs.Lending.{bench_out, IsBenchOut, IsShareOf, IsLent, IsEnough}
use Rattle.px_superstep.specs.Tooling.{IsShort}
use Rattle.px_superstep.specs.LoadTooling.{IsLoadOut, HasLen, AreLoadTools, IsRestOf, AreLentTools, IsUnloaded}
use Rattle.px_superstep.specs.declared.benches.Lent.{Lent}
use Rattle.px_superstep.specs.declared.load_tools.LoadTools.{LoadTools}
use Rattle.px_superstep.proofs.Lending.{still_home, still_out, is_out, size_stays}

-- the slot of messages is home beside what is lent
pub messages_home : (b : BankView) (n : ℕ) → HasSlot b 3 n → HasSlot (bench_out b) 3 n
messages_home b n h =
    let b1 : BankView = with_home b 0 false in
    let b2 : BankView = with_home b1 1 false in
    let b3 : BankView = with_home b2 2 false in
    let out : HasSlot (with_home b3 5 false) 3 n =
    still_home b3 5 3 n false (λ e. omega (arith, e)) (still_home b2 2 3 n false (λ e. omega (arith, e)) (still_home b1 1 3 n false (λ e. omega (arith, e)) (still_home b 0 3 n false (λ e. omega (arith, e)) h)))
    in
    record { in_range = out.in_range; home = out.home; frames = out.frames }

-- what is out stays out while the slot of messages goes or comes
pub bench_still_out : (b : BankView) (x : Bool) → IsBenchOut b → IsBenchOut (with_home b 3 x)
bench_still_out b x h = record {
  work = still_out b 3 0 x (λ e. omega (arith, e)) h.work;
  join = still_out b 3 1 x (λ e. omega (arith, e)) h.join;
  streams = still_out b 3 2 x (λ e. omega (arith, e)) h.streams;
  group = still_out b 3 5 x (λ e. omega (arith, e)) h.group;
  table = h.table;
}

pub load_is_out : (b : BankView) → 3 < length b.slots → IsBenchOut b → IsLoadOut (with_home b 3 false)
load_is_out b lt h = record { bench = bench_still_out b false h; messages = is_out b 3 lt }

module _ (b : BankView) (lt : 3 < length b.slots) (x : Bool) where
  share_stays : (j : ℕ) (share : ShareView) → IsShareOf b j share → IsShareOf (with_home b 3 x) j share
  share_stays j share of = record { size = of.size ∙ sym (size_stays b 3 j x lt); frame_len = of.frame_len; full = of.full }

  rest_stays : (j n : ℕ) (share rest : ShareView) → IsShareOf b j share → IsShort n share rest → IsRestOf (with_home b 3 x) j n rest
  rest_stays j n share rest of short = record {
    size = short.size ∙ of.size ∙ sym (size_stays b 3 j x lt);
    frame_len = short.frame_len ∙ of.frame_len;
    left = short.frames ∙ of.full ∙ sym short.size;
  }

  -- the tools have all frames of the slots
  pub tools_lent : (lent : Lent) (outs : ShareView) (t : LoadTools) → IsLent b lent → IsShareOf b 3 outs → AreLoadTools lent outs t → AreLentTools (with_home b 3 x) t
  tools_lent lent outs t of out are = record {
    runs = subst (λ (s : ShareView). IsShareOf (with_home b 3 x) 5 s) (sym are.runs) (share_stays 5 lent.group of.group);
    table = ap (λ (s : TableView). s.capacity) are.table ∙ of.table;
    outs = subst (λ (s : ShareView). IsShareOf (with_home b 3 x) 3 s) (sym are.outs_are) (share_stays 3 outs out);
    text = subst (λ (n : ℕ). HasLen n t.frames.text) of.streams.frame_len are.text;
    vertex = are.vertex ∙ of.work.frame_len;
    body = are.body ∙ of.work.frame_len;
    join = subst (λ (s : ShareView). IsShareOf (with_home b 3 x) 1 s) (sym are.join) (share_stays 1 lent.join of.join);
    work = rest_stays 0 2 lent.work t.work of.work are.work;
    streams = rest_stays 2 1 lent.streams t.streams of.streams are.streams;
  }

  back_to : (j n : ℕ) (share rest : ShareView) → IsRestOf b j n rest → IsShort n share rest → IsShareOf (with_home b 3 x) j share
  back_to j n share rest of short = record {
    size = sym short.size ∙ of.size ∙ sym (size_stays b 3 j x lt);
    frame_len = sym short.frame_len ∙ of.frame_len;
    full = sym short.frames ∙ of.left ∙ short.size;
  }

  -- and so has what they give back
  pub unloaded_lent : (lent : Lent) (outs : ShareView) (t : LoadTools) → AreLentTools b t → IsUnloaded t lent outs → IsLent (with_home b 3 x) lent
  unloaded_lent lent outs t of are = record {
    work = back_to 0 2 lent.work t.work of.work are.work;
    join = subst (λ (s : ShareView). IsShareOf (with_home b 3 x) 1 s) (sym are.join) (share_stays 1 t.join of.join);
    streams = back_to 2 1 lent.streams t.streams of.streams are.streams;
    group = subst (λ (s : ShareView). IsShareOf (with_home b 3 x) 5 s) (sym are.group) (share_stays 5 t.frames.runs of.runs);
    table = ap (λ (s : TableView). s.capacity) are.table ∙ of.table;
  }

text_frame : (n : ℕ) (text : Option (List ℕ)) → 0 < n → HasLen n text → HasFrame text
text_frame n None low h = absurd h
text_frame n (Some frame) low h = omega (arith, low, h)

-- they are frames for a load of so many partitions
pub load_frames : (b : BankView) (lent : Lent) (outs : ShareView) (t : LoadTools) → IsLent b lent → IsEnough lent → IsShareOf b 3 outs → AreLoadTools lent outs t
    → t.frames.vertex.room ≡ room_of lent.work.frame_len → 13 + t.frames.body.limit ≡ room_of lent.work.frame_len → AreLoadFrames t.frames (size_of b 3) b.frame_len
load_frames b lent outs t of enough out are room limit = record {
  runs = subst (λ (s : ShareView). 6 ≤ length s.frames) (sym are.runs) enough.group;
  table = subst (λ (s : TableView). 32 ≤ s.capacity) (sym are.table) enough.table;
  outs = subst (λ (s : ShareView). size_of b 3 ≤ length s.frames) (sym are.outs_are) (omega (arith, out.full, out.size));
  text = text_frame lent.streams.frame_len t.frames.text (let least = enough.frame_len.least in omega (arith, least, enough.streams_len)) are.text;
  runs_len = ap (λ (s : ShareView). s.frame_len) are.runs ∙ of.group.frame_len;
  outs_len = ap (λ (s : ShareView). s.frame_len) are.outs_are ∙ out.frame_len;
  vertex = room ∙ ap room_of of.work.frame_len;
  body = limit ∙ ap room_of of.work.frame_len;
}

same_len : (n : ℕ) (old new : Option (List ℕ)) → SameText old new → HasLen n old → HasLen n new
same_len n None new same h = absurd h
same_len n (Some old) None same h = same
same_len n (Some old) (Some new) same h = same ∙ h
