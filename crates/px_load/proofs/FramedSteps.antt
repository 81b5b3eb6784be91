-- Bytes are gathered in a frame, and go on to a sink.
use Rattle.std.proofs.Common.{◌≡◌, ℕ, ◌+◌, ◌≤◌, List, [], ◌∷◌, ◌++◌, length, take, drop, sym, inl, inr, ◌∙◌, ap, subst, refl, arith, append_assoc, length-append}
use Rattle.std.proofs.lemmas.List.{take_at, drop-append-le, length-take, length-take-le, append-nil, drop_all, drop-drop, take_all, take-take, take-append-drop}
use Rattle.std.proofs.lemmas.Bool.{cases_lt}
use Rattle.std.specs.Prelude.{Result, Ok, Err, OnOk, IfErr}
use Rattle.px_meaning.specs.Graph.{Graph, IsMap}
use Rattle.px_load.specs.Dumping.{SomeOf, SomeMore}
use Rattle.px_load.specs.Framed.{IsPut, IsNamed, waiting}
use Rattle.px_load.specs.declared.stops.DumpStop.{DumpStop}

-- what waits once more bytes stand behind
pub waits_more : (frame frame' bytes : List ℕ) (from to n : ℕ) → from ≤ to → to ≤ length frame → n ≤ length bytes → frame' ≡ take to frame ++ take n bytes ++ drop (to + n) frame
    → waiting frame' from (to + n) ≡ waiting frame from to ++ take n bytes
waits_more frame frame' bytes from to n order within short is =
    let a = take to frame in
    let b = take n bytes in
    let la : length a ≡ to = length-take-le to frame within in
    let lb : length b ≡ n = length-take-le n bytes short in
    ap (λ (l : List ℕ). drop from (take (to + n) l)) is
    ∙ ap (drop from) (take_at (a ++ b) (drop (to + n) frame) (to + n) (omega (arith, length-append a b, la, lb)))
    ∙ drop-append-le from a b (omega (arith, order, la))

-- what waits goes on in part
pub put_on : (Began Holds Now : List ℕ → Type 0) (frame slice all : List ℕ) (from to n : ℕ) → slice ≡ waiting frame from to → ((h : List ℕ) → Holds h → Now (h ++ take n slice))
    → IsPut Began Holds frame from to all → IsPut Began Now frame (from + n) to all
put_on Began Holds Now frame slice all from to n is on p =
    let w = waiting frame from to in
    let rest : drop n w ≡ waiting frame (from + n) to = drop-drop n from (take to frame) in
    record {
      sent = p.sent ++ take n w;
      is = p.is ∙ ap (λ (l : List ℕ). p.sent ++ l) (sym (take-append-drop n w) ∙ ap (λ (l : List ℕ). take n w ++ l) rest) ∙ sym (append_assoc p.sent (take n w) (waiting frame (from + n) to));
      holds = λ h began. subst Now (append_assoc h p.sent (take n slice) ∙ ap (λ (l : List ℕ). h ++ (p.sent ++ take n l)) is) (on (h ++ p.sent) (p.holds h began));
    }

-- nothing waits
none_waits : (frame : List ℕ) (from to : ℕ) → to ≤ from → waiting frame from to ≡ []
none_waits frame from to le = drop_all from (take to frame) (omega (arith, le, length-take to frame))

pub put_out : (Began Holds : List ℕ → Type 0) (frame all : List ℕ) (from to : ℕ) → to ≤ from → IsPut Began Holds frame from to all → IsPut Began Holds frame 0 0 all
put_out Began Holds frame all from to le p = record {
  sent = p.sent;
  is = p.is ∙ ap (λ (l : List ℕ). p.sent ++ l) (none_waits frame from to le ∙ sym (none_waits frame 0 0 (omega arith)));
  holds = p.holds;
}

-- all went on
pub put_whole : (Began Holds : List ℕ → Type 0) (frame all : List ℕ) (from to : ℕ) → from ≡ 0 → to ≡ 0 → IsPut Began Holds frame from to all → (h : List ℕ) → Began h → Holds (h ++ all)
put_whole Began Holds frame all from to f t p h began =
    let is : all ≡ p.sent = p.is ∙ ap (λ (l : List ℕ). p.sent ++ l) (none_waits frame from to (omega (arith, f, t))) ∙ append-nil p.sent in
    subst (λ (l : List ℕ). Holds (h ++ l)) (sym is) (p.holds h began)

-- a part went on
pub put_part : (Began Holds : List ℕ → Type 0) (frame all : List ℕ) (from to : ℕ) → IsPut Began Holds frame from to all → (h : List ℕ) → Began h → SomeOf all (λ text. Holds (h ++ text))
put_part Began Holds frame all from to p h began = record {
  most = length p.sent;
  holds = subst (λ (l : List ℕ). Holds (h ++ l)) (sym (ap (take (length p.sent)) p.is ∙ take_at p.sent (waiting frame from to) (length p.sent) refl)) (p.holds h began);
}

-- nothing was put yet
pub put_first : (Began Holds : List ℕ → Type 0) (frame : List ℕ) → ((h : List ℕ) → Began h → Holds h) → IsPut Began Holds frame 0 0 []
put_first Began Holds frame keeps = record {
  sent = [];
  is = sym (none_waits frame 0 0 (omega arith));
  holds = λ h began. subst Holds (sym (append-nil h)) (keeps h began);
}

-- a part of what was put went on, which is the text or a part of it
pub put_some : (put : Result (Unit {0}) DumpStop) (Puts Began Holds : List ℕ → Type 0) (text : List ℕ) → OnOk put (Puts text) → IfErr put (λ e. SomeOf text Puts)
    → ((all : List ℕ) → Puts all → (h : List ℕ) → Began h → SomeOf all (λ t. Holds (h ++ t))) → (h : List ℕ) → Began h → SomeOf text (λ t. Holds (h ++ t))
put_some (Ok u) Puts Began Holds text ok err ends h began = ends text ok h began
put_some (Err e) Puts Began Holds text ok err ends h began =
    let part = ends (take err.most text) err.holds h began in
    elim (cases_lt part.most err.most) [
      | inl lt ↦ record { most = part.most; holds = subst (λ (l : List ℕ). Holds (h ++ l)) (take-take part.most err.most text (omega (arith, lt))) part.holds }
      | inr le ↦ record { most = err.most; holds = subst (λ (l : List ℕ). Holds (h ++ l)) (take_all part.most (take err.most text) (omega (arith, le, length-take err.most text))) part.holds }
    ]

-- what is held once something was put, of a sink that began with the names alone
module _ (out frame out' frame' : ℕ) (Puts : List ℕ → Type 0) where
  pub named_out : SomeMore (out ∷ frame ∷ []) (IsNamed out' frame' Puts) → out' ≡ out
  named_out m = sym m.holds.0

  pub named_frame : SomeMore (out ∷ frame ∷ []) (IsNamed out' frame' Puts) → frame' ≡ frame
  named_frame m = sym m.holds.1

  pub named_puts : SomeMore (out ∷ frame ∷ []) (IsNamed out' frame' Puts) → SomeMore [] Puts
  named_puts m = record { more = m.more; holds = m.holds.2 }

  pub named_part : (text : List ℕ) → SomeOf text (λ t. IsNamed out' frame' Puts ((out ∷ frame ∷ []) ++ t)) → SomeOf text Puts
  named_part text p = record { most = p.most; holds = p.holds.2 }

-- what was put is the text of a graph, or a part of it, and what went on is a part of that
pub printed_part : (put : Result (Unit {0}) DumpStop) (Give : Graph → Type 0) (text : Graph → List ℕ) (Puts Began Holds : List ℕ → Type 0) → OnOk put ((k : Graph) → IsMap k → Give k → Puts (text k))
    → IfErr put (λ e. (k : Graph) → IsMap k → Give k → SomeOf (text k) Puts) → ((all : List ℕ) → Puts all → (h : List ℕ) → Began h → SomeOf all (λ t. Holds (h ++ t)))
    → (k : Graph) (h : List ℕ) → IsMap k → Give k → Began h → SomeOf (text k) (λ t. Holds (h ++ t))
printed_part (Ok u) Give text Puts Began Holds ok err ends k h map give began = put_some (Ok u) Puts Began Holds (text k) (ok k map give) tt ends h began
printed_part (Err e) Give text Puts Began Holds ok err ends k h map give began = put_some (Err e) Puts Began Holds (text k) tt (err k map give) ends h began
