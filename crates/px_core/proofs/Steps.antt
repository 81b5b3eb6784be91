-- What calls on a disk did, one after the other.
use Rattle.std.proofs.Common.{ℕ, refl, ◌∙◌, subst}
use Rattle.px_core.specs.Counts.{Rose}
use Rattle.px_core.specs.Shown.{Shown, Clean, Worked, StopsAt, Broke}
use Rattle.px_core.specs.declared.stop.Stop.{Stop}
use Rattle.px_core.proofs.Pages.{touches_refl, touches_then, touches_more}

pub clean_refl : (mine : ℕ → Type 0) (a : Shown) → Clean mine a a
clean_refl mine a = record { touches = touches_refl mine a; no_fault = refl }

pub clean_of : (mine : ℕ → Type 0) (r w : ℕ) (a b : Shown) → Worked mine r w a b → Clean mine a b
clean_of mine r w a b h = record { touches = h.touches; no_fault = h.no_fault }

pub clean_more : (mine more : ℕ → Type 0) (a b : Shown) → ((f : ℕ) → mine f → more f) → Clean mine a b → Clean more a b
clean_more mine more a b sub h = record { touches = touches_more mine more a b sub h.touches; no_fault = h.no_fault }

pub clean_then : (mine : ℕ → Type 0) (a b c : Shown) → Clean mine a b → Clean mine b c → Clean mine a c
clean_then mine a b c g h = record { touches = touches_then mine a b c g.touches h.touches; no_fault = h.no_fault ∙ g.no_fault }

pub broke_of : (stop : Stop) (mine : ℕ → Type 0) (r w : ℕ) (a b : Shown) (e : Stop) → StopsAt stop mine r w a b e → Broke stop mine a b e
broke_of stop mine r w a b e h = record { only = h.only; touches = h.touches; rose = h.rose }

pub broke_more : (stop : Stop) (mine more : ℕ → Type 0) (a b : Shown) (e : Stop) → ((f : ℕ) → mine f → more f) → Broke stop mine a b e → Broke stop more a b e
broke_more stop mine more a b e sub h = record { only = h.only; touches = touches_more mine more a b sub h.touches; rose = h.rose }

pub broke_after : (stop : Stop) (mine : ℕ → Type 0) (a b c : Shown) (e : Stop) → Clean mine a b → Broke stop mine b c e → Broke stop mine a c e
broke_after stop mine a b c e g h = record {
  only = h.only;
  touches = touches_then mine a b c g.touches h.touches;
  rose = subst (λ (n : ℕ). Rose n c.faults) g.no_fault h.rose;
}
