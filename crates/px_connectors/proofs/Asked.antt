-- What the files of requests hold in the end.
use Rattle.std.proofs.Common.{◌≡◌, ℕ, sym, subst}
use Rattle.px_core.specs.Shown.{Shown}
use Rattle.px_meaning.specs.Merge.{Pairs}
use Rattle.px_connectors.specs.Writers.{WritersView, parts_in, HoldParts}
use Rattle.px_connectors.specs.Asking.{RequestsView, receivers, AskedOf}

pub asked_of : (s : Shown) (before : WritersView) (r : RequestsView) (l : Pairs) → before.first ≡ 160 → receivers r ≡ parts_in before → HoldParts s 2 before.first (parts_in before) r.writers.pages l → AskedOf s r l
asked_of s before r l first parts h =
    let at : HoldParts s 2 160 (parts_in before) r.writers.pages l = subst (λ (f : ℕ). HoldParts s 2 f (parts_in before) r.writers.pages l) first h in
    let all : HoldParts s 2 160 (receivers r) r.writers.pages l = subst (λ (n : ℕ). HoldParts s 2 160 n r.writers.pages l) (sym parts) at in
    record { each = λ q lt. all.each q lt }
