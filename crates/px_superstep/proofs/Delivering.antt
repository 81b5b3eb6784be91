-- What is delivered to one partition, beside what was delivered to others.
use Rattle.std.proofs.Common.{◌≡◌, ◌<◌, ◌≤◌, ◌+◌, ℕ, List, length, set, inl, inr, arith}
use Rattle.px_core.specs.Shown.{Shown, Touches}
use Rattle.px_pages.specs.Entry.{Entry}
use Rattle.px_stream.specs.Stream.{Holds}
use Rattle.px_superstep.specs.Files.{msg_file, vid_file, IsMsgFile, IsVidFile, IsDeliveryFile, IsSettlingFile, IsResultFile, IsStepFile}
use Rattle.px_superstep.specs.Phases.{Each}
use Rattle.px_superstep.proofs.Slices.{each_set}
use Rattle.px_superstep.proofs.Standing.{holds_kept}

pub msg_is : (parity q : ℕ) → parity < 2 → q < 16 → IsMsgFile (msg_file parity q)
msg_is parity q small few = record { low = omega arith; high = omega (arith, small, few) }

pub vid_is : (parity q : ℕ) → parity < 2 → q < 16 → IsVidFile (vid_file parity q)
vid_is parity q small few = record { low = omega arith; high = omega (arith, small, few) }

pub delivered_is : (parity q : ℕ) → parity < 2 → q < 16 → (f : ℕ) → IsResultFile (msg_file parity q) f → IsDeliveryFile f
delivered_is parity q small few f (inl spare) = (let a = spare.low in record { low = omega (arith, a) })
delivered_is parity q small few f (inr e) = record { low = omega (arith, e, small, few) }

pub settled_is : (parity q : ℕ) → parity < 2 → q < 16 → (f : ℕ) → IsResultFile (vid_file parity q) f → IsSettlingFile f
settled_is parity q small few f (inl spare) = inl spare
settled_is parity q small few f (inr e) = inr (record { low = omega (arith, e); high = omega (arith, e, small, few) })

pub delivery_is_step : (f : ℕ) → IsDeliveryFile f → IsStepFile f
delivery_is_step f d = (let a = d.low in record { high = omega (arith, a) })

pub settling_is_step : (f : ℕ) → IsSettlingFile f → IsStepFile f
settling_is_step f (inl spare) = (let a = spare.low in record { high = omega (arith, a) })
settling_is_step f (inr vid) = (let a = vid.high in record { high = omega (arith, a) })

-- the files of messages to other partitions are none of this one's
other_msg : (parity q i : ℕ) → (i ≡ q → ⊥) → IsResultFile (msg_file parity q) (msg_file parity i) → ⊥
other_msg parity q i other (inl spare) = (let a = spare.low in absurd (omega (arith, a)))
other_msg parity q i other (inr e) = other (omega (arith, e))

-- nor those of vids
pub other_vid : (parity q i : ℕ) → (i ≡ q → ⊥) → IsResultFile (vid_file parity q) (vid_file parity i) → ⊥
other_vid parity q i other (inl spare) = (let a = spare.low in absurd (omega (arith, a)))
other_vid parity q i other (inr e) = other (omega (arith, e))

-- nor those behind them
pub past_vids : (parity q f : ℕ) → parity < 2 → q < 16 → 128 ≤ f → IsResultFile (vid_file parity q) f → ⊥
past_vids parity q f small few low (inl spare) = (let a = spare.low in absurd (omega (arith, a, low)))
past_vids parity q f small few low (inr e) = absurd (omega (arith, e, low, small, few))

-- one more was delivered to
pub delivered_next : (parity q pages : ℕ) (msg_pages : List ℕ) (t t' : Shown) (tuples : ℕ → List Entry) → q < length msg_pages → Touches (IsResultFile (msg_file parity q)) t t' → Holds t' (msg_file parity q) pages (tuples q)
    → Each msg_pages (λ i n. i < q → Holds t (msg_file parity i) n (tuples i)) → Each (set msg_pages q pages) (λ i n. i < q + 1 → Holds t' (msg_file parity i) n (tuples i))
delivered_next parity q pages msg_pages t t' tuples low touched own all =
    each_set (λ i n. i < q → Holds t (msg_file parity i) n (tuples i)) (λ i n. i < q + 1 → Holds t' (msg_file parity i) n (tuples i)) msg_pages q pages low (λ _. own)
    (λ i n other at held lt. holds_kept (IsResultFile (msg_file parity q)) t t' (msg_file parity i) n (tuples i) touched (other_msg parity q i other) (held (omega (arith, lt, other))))
    all
