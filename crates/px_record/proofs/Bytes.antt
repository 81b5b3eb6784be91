-- Numbers and edges in bytes.
use Rattle.std.proofs.Common.{◌≡◌, ℕ, zero, suc, ◌+◌, ◌-◌, ◌*◌, ◌/◌, ◌%◌, ◌^◌, ◌<◌, ◌≤◌, List, [], ◌∷◌, ◌++◌, length, take, drop, slice_get, Some, refl, sym, ap, ◌∙◌, arith}
use Rattle.std.proofs.Math.Nat.{mul-add-div_right, mul-add-mod_self_right, div-one, one-le-pow, pow-suc, mod-eq_of_lt}
use Rattle.std.proofs.Math.Seq.{take-add, take-append-add}
use Rattle.std.proofs.lemmas.Nat.{div-mul-add}
use Rattle.std.proofs.lemmas.List.{append_assoc, append-nil, drop-take, drop_all, take_all, take_at, drop_at, drop-drop, take-take, take-append-le, length-append, length-drop, length-take-le, take-append-drop, get_or-drop}
use Rattle.std.specs.List.{copy_within}
use Rattle.std.specs.Int.{byte_at, bytes_high_first}
use borrow.Rule.Slice.PartMut.{put_mid}
use lib.Seq.{paste}
use Rattle.byteorder.specs.Endian.{big_from, big_number, big_bytes}
use Rattle.byteorder.specs.Numbers.{big_from-cons, big_from-lt, big_number-reads_back}
use Rattle.px_record.specs.Body.{edge_bytes, edges_bytes, edge_at, edges_in, AreBytes, AreEdges}

byte_at-pow : (k x : ℕ) → byte_at k x ≡ x / 256 ^ k % 256
byte_at-pow zero x = ap (λ (y : ℕ). y % 256) (sym (div-one x))
byte_at-pow (suc k) x = refl

pow_pos256 : (n : ℕ) → zero < 256 ^ n
pow_pos256 n = let h = one-le-pow n 256 (omega arith) in omega arith

shifted : (c p r : ℕ) → c * (p * 256) + r ≡ c * 256 * p + r
shifted c p r = omega arith

-- bytes above the lowest n are not among these
bytes_above : (n c r : ℕ) → bytes_high_first n (c * 256 ^ n + r) ≡ bytes_high_first n r
bytes_above zero c r = refl
bytes_above (suc n) c r =
    let shift : c * 256 ^ suc n + r ≡ c * 256 * 256 ^ n + r = ap (λ (p : ℕ). c * p + r) (pow-suc 256 n) ∙ shifted c (256 ^ n) r in
    let quotient = mul-add-div_right (pow_pos256 n) (c * 256) r in
    let byte : byte_at n (c * 256 * 256 ^ n + r) ≡ byte_at n r =
    byte_at-pow n (c * 256 * 256 ^ n + r) ∙ ap (λ (q : ℕ). q % 256) quotient ∙ mul-add-mod_self_right c 256 (r / 256 ^ n) ∙ sym (byte_at-pow n r) in
    ap (bytes_high_first (suc n)) shift
    ∙ ap (λ (b : ℕ). b ∷ bytes_high_first n (c * 256 * 256 ^ n + r)) byte
    ∙ ap (λ (l : List ℕ). byte_at n r ∷ l) (bytes_above n (c * 256) r)

pub bytes-tail : (x : ℕ) (xs : List ℕ) → AreBytes (x ∷ xs) → AreBytes xs
bytes-tail x xs all = λ i. all (suc i)

pub bytes-drop : (n : ℕ) (xs : List ℕ) → AreBytes xs → AreBytes (drop n xs)
bytes-drop n xs all = λ i. let at = get_or-drop n xs i 0 in let fits = all (n + i) in omega (arith, at, fits)

-- the bytes of the number in some bytes are those
pub big_bytes-number : (n : ℕ) (xs : List ℕ) → n ≤ length xs → AreBytes xs → big_bytes n (big_number n xs) ≡ take n xs
big_bytes-number zero xs long all = refl
big_bytes-number (suc n) [] long all = absurd (omega arith)
big_bytes-number (suc n) (a ∷ xs) long all =
    let low = big_from 0 n xs in
    let whole : big_from 0 (suc n) (a ∷ xs) ≡ a * 256 ^ n + low = ap (λ (r : ℕ). a * 256 ^ n + r) (big_from-cons 0 n a xs) in
    let first : a < 256 = all 0 in
    let small : low < 256 ^ n = big_from-lt 0 n xs (bytes-tail a xs all) in
    let byte : byte_at n (a * 256 ^ n + low) ≡ a = byte_at-pow n (a * 256 ^ n + low) ∙ ap (λ (q : ℕ). q % 256) (div-mul-add a (256 ^ n) low small) ∙ mod-eq_of_lt first in
    ap (bytes_high_first (suc n)) whole
    ∙ ap (λ (b : ℕ). b ∷ bytes_high_first n (a * 256 ^ n + low)) byte
    ∙ ap (λ (l : List ℕ). a ∷ l) (bytes_above n a low ∙ big_bytes-number n xs (omega arith) (bytes-tail a xs all))

pub length-edges_in : (n : ℕ) (xs : List ℕ) → length (edges_in n xs) ≡ n
length-edges_in zero xs = refl
length-edges_in (suc n) xs = ap suc (length-edges_in n (drop 12 xs))

pub length-edges_bytes : (es : List (ℕ × ℕ)) → length (edges_bytes es) ≡ 12 * length es
length-edges_bytes [] = refl
length-edges_bytes (e ∷ es) = omega (arith, length-edges_bytes es)

pub edges_bytes-push : (es : List (ℕ × ℕ)) (e : ℕ × ℕ) → edges_bytes (es ++ e ∷ []) ≡ edges_bytes es ++ edge_bytes e
edges_bytes-push [] e = append-nil (edge_bytes e)
edges_bytes-push (d ∷ es) e = ap (λ (l : List ℕ). edge_bytes d ++ l) (edges_bytes-push es e) ∙ sym (append_assoc (edge_bytes d) (edges_bytes es) (edge_bytes e))

pub AreEdges-push : (es : List (ℕ × ℕ)) (e : ℕ × ℕ) → AreEdges es → e.0 < 2 ^ 64 → e.1 < 2 ^ 32 → AreEdges (es ++ e ∷ [])
AreEdges-push [] e all target weight = (target, weight, tt)
AreEdges-push (d ∷ es) e all target weight = (all.0, all.1, AreEdges-push es e all.2 target weight)

pub AreEdges-in : (n : ℕ) (xs : List ℕ) → AreBytes xs → AreEdges (edges_in n xs)
AreEdges-in zero xs all = tt
AreEdges-in (suc n) xs all = (big_from-lt 0 8 xs all, big_from-lt 0 4 (drop 8 xs) (bytes-drop 8 xs all), AreEdges-in n (drop 12 xs) (bytes-drop 12 xs all))

edge_bytes-at : (xs : List ℕ) → 12 ≤ length xs → AreBytes xs → edge_bytes (edge_at xs) ≡ take 12 xs
edge_bytes-at xs long all =
    let target = big_bytes-number 8 xs (omega arith) all in
    let weight = big_bytes-number 4 (drop 8 xs) (omega (arith, length-drop 8 xs)) (bytes-drop 8 xs all) in
    ap (λ (l : List ℕ). l ++ big_bytes 4 (big_number 4 (drop 8 xs))) target
    ∙ ap (λ (l : List ℕ). take 8 xs ++ l) weight ∙ sym (take-add 8 4 xs)

-- the bytes of the edges in some bytes are those
pub edges_bytes-in : (n : ℕ) (xs : List ℕ) → 12 * n ≤ length xs → AreBytes xs → edges_bytes (edges_in n xs) ≡ take (12 * n) xs
edges_bytes-in zero xs long all = refl
edges_bytes-in (suc n) xs long all =
    let first = edge_bytes-at xs (omega arith) all in
    let rest = edges_bytes-in n (drop 12 xs) (omega (arith, length-drop 12 xs)) (bytes-drop 12 xs all) in
    let count : 12 + 12 * n ≡ 12 * suc n = omega arith in
    ap (λ (l : List ℕ). l ++ edges_bytes (edges_in n (drop 12 xs))) first ∙ ap (λ (l : List ℕ). take 12 xs ++ l) rest
    ∙ sym (take-add 12 (12 * n) xs) ∙ ap (λ (k : ℕ). take k xs) count

-- edges are read back as they were written
pub edges_in-bytes : (es : List (ℕ × ℕ)) (rest : List ℕ) → AreEdges es → edges_in (length es) (edges_bytes es ++ rest) ≡ es
edges_in-bytes [] rest all = refl
edges_in-bytes (e ∷ es) rest all =
    let target : big_number 8 (edges_bytes (e ∷ es) ++ rest) ≡ e.0 = big_number-reads_back 8 e.0 (big_bytes 4 e.1 ++ (edges_bytes es ++ rest)) all.0 in
    let weight : big_number 4 (drop 8 (edges_bytes (e ∷ es) ++ rest)) ≡ e.1 = big_number-reads_back 4 e.1 (edges_bytes es ++ rest) all.1 in
    let tail : List (ℕ × ℕ) = edges_in (length es) (edges_bytes es ++ rest) in
    ap (λ (t : ℕ). (t, big_number 4 (drop 8 (edges_bytes (e ∷ es) ++ rest))) ∷ tail) target
    ∙ ap (λ (w : ℕ). (e.0, w) ∷ tail) weight ∙ ap (λ (l : List (ℕ × ℕ)). e ∷ l) (edges_in-bytes es rest all.2)

-- each edge has twelve bytes
pub slice_get-edges_in : (n i : ℕ) (xs : List ℕ) → i < n → slice_get (edges_in n xs) i ≡ Some (edge_at (drop (12 * i) xs))
slice_get-edges_in zero i xs below = absurd (omega arith)
slice_get-edges_in (suc n) zero xs below = refl
slice_get-edges_in (suc n) (suc i) xs below =
    let count : 12 + 12 * i ≡ 12 * suc i = omega arith in
    slice_get-edges_in n i (drop 12 xs) (omega arith)
    ∙ ap (λ (l : List ℕ). Some (edge_at l)) (drop-drop (12 * i) 12 xs ∙ ap (λ (k : ℕ). drop k xs) count)

-- bytes were moved from `to` to behind `more`, which was then put at `from`
pub spliced : (bytes more moved part : List ℕ) (from to n k : ℕ) → from + length more ≤ length bytes → n ≤ length (drop to bytes)
    → moved ≡ paste bytes (from + length more) (drop to bytes) n → part ≡ more → k ≡ length more
    → take (from + length more + n) (put_mid from k moved part) ≡ take from bytes ++ more ++ take n (drop to bytes)
spliced bytes more moved part from to n k room long is_moved is_part is_k =
    let at = from + length more in
    let front = take at bytes in
    let tail = take n (drop to bytes) in
    let left = drop (at + n) bytes in
    let begin = take from bytes in
    let front_len : length front ≡ at = length-take-le at bytes room in
    let begin_len : length begin ≡ from = length-take-le from bytes (omega arith) in
    let tail_len : length tail ≡ n = length-take-le n (drop to bytes) long in
    let whole : moved ≡ front ++ (tail ++ left) = is_moved ∙ append_assoc front tail left in
    let before : take from moved ≡ begin = ap (take from) whole ∙ take-append-le from front (tail ++ left) (omega arith) ∙ take-take from at bytes (omega arith) in
    let to_at : from + k ≡ at = omega arith in
    let after : drop k (drop from moved) ≡ tail ++ left =
    drop-drop k from moved ∙ ap (λ (m : ℕ). drop m moved) to_at ∙ ap (drop at) whole ∙ drop_at front (tail ++ left) at front_len in
    let all : put_mid from k moved part ≡ (begin ++ more ++ tail) ++ left =
    ap (λ (l : List ℕ). l ++ (part ++ drop k (drop from moved))) before
    ∙ ap (λ (l : List ℕ). begin ++ (l ++ drop k (drop from moved))) is_part
    ∙ ap (λ (l : List ℕ). begin ++ (more ++ l)) after
    ∙ sym (append_assoc begin more (tail ++ left)) ∙ sym (append_assoc (begin ++ more) tail left) in
    let len : length (begin ++ more ++ tail) ≡ from + length more + n = omega (arith, length-append (begin ++ more) tail, length-append begin more) in
    ap (take (from + length more + n)) all ∙ take_at (begin ++ more ++ tail) left (from + length more + n) len

-- an edge was put at `at`
pub edge_put : (bytes edge part : List ℕ) (at k : ℕ) → length bytes - at ≤ k → part ≡ edge ++ drop 12 (take k (drop at bytes))
    → put_mid at k bytes part ≡ take at bytes ++ edge ++ drop (at + 12) bytes
edge_put bytes edge part at k long is =
    let rest_len = length-drop at bytes in
    let nothing : drop k (drop at bytes) ≡ [] = drop_all k (drop at bytes) (omega arith) in
    let rest : drop 12 (take k (drop at bytes)) ≡ drop (at + 12) bytes =
    ap (drop 12) (take_all k (drop at bytes) (omega arith)) ∙ drop-drop 12 at bytes in
    ap (λ (l : List ℕ). take at bytes ++ (part ++ l)) nothing ∙ ap (λ (l : List ℕ). take at bytes ++ l) (append-nil part ∙ is)
    ∙ ap (λ (l : List ℕ). take at bytes ++ (edge ++ l)) rest ∙ sym (append_assoc (take at bytes) edge (drop (at + 12) bytes))

header_put : (head bytes : List ℕ) (n m : ℕ) → length head ≡ 9 → n ≡ 9 + m → take n (head ++ drop 9 bytes) ≡ head ++ drop 9 (take n bytes)
header_put head bytes n m len is =
    let sum : n ≡ length head + m = omega arith in
    ap (λ (k : ℕ). take k (head ++ drop 9 bytes)) sum ∙ take-append-add head (drop 9 bytes) m
    ∙ ap (λ (l : List ℕ). head ++ l) (sym (drop-take 9 m bytes) ∙ ap (λ (k : ℕ). drop 9 (take k bytes)) (sym is))

-- `more` was put behind the first bytes of a value, and then a header
pub value_put : (bytes more moved out head : List ℕ) (kept value edges len : ℕ) → length head ≡ 9 → len ≡ 9 + value + 12 * edges
    → take (9 + kept + length more + (len - (9 + value))) moved ≡ take (9 + kept) bytes ++ more ++ take (len - (9 + value)) (drop (9 + value) bytes)
    → out ≡ head ++ drop 9 moved
    → take (9 + (kept + length more) + 12 * edges) out ≡ head ++ drop 9 (take (9 + kept) bytes ++ more ++ take (12 * edges) (drop (9 + value) bytes))
value_put bytes more moved out head kept value edges len nine is front out_is =
    let tail : len - (9 + value) ≡ 12 * edges = omega arith in
    let n = 9 + (kept + length more) + 12 * edges in
    let n_is : n ≡ 9 + kept + length more + (len - (9 + value)) = omega arith in
    let past : n ≡ 9 + (kept + length more + 12 * edges) = omega arith in
    ap (take n) out_is ∙ header_put head moved n (kept + length more + 12 * edges) nine past
    ∙ ap (λ (k : ℕ). head ++ drop 9 (take k moved)) n_is ∙ ap (λ (l : List ℕ). head ++ drop 9 l) front
    ∙ ap (λ (k : ℕ). head ++ drop 9 (take (9 + kept) bytes ++ more ++ take k (drop (9 + value) bytes))) tail

-- what stands where it is to go
pub unmoved : (bytes : List ℕ) (start end at : ℕ) → start ≡ at → bytes ≡ copy_within bytes start end at
unmoved bytes start end at is =
    let n = end - start in
    sym (take-append-drop (at + n) bytes) ∙ ap (λ (l : List ℕ). l ++ drop (at + n) bytes) (take-add at n bytes)
    ∙ ap (λ (s : ℕ). take at bytes ++ take n (drop s bytes) ++ drop (at + n) bytes) (sym is)
