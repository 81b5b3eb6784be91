-- What calls of the cache say of the disk, as the calls of a tree say it.
use Rattle.std.proofs.Common.{◌≡◌, ℕ, true, false}
use Rattle.px_core.specs.Shown.{Shown, Clean, Broke}
use Rattle.px_core.specs.declared.stop.Stop.{Stop}
use Rattle.px_core.specs.declared.stop.Stop.TheVariants.{Graph}
use Rattle.px_cache.specs.View.{AnyFile, ReadsUpTo, Breaks}

pub clean_of : (n : ℕ) (a b : Shown) → ReadsUpTo n a b → Clean AnyFile a b
clean_of n a b r = record { touches = r.touches; no_fault = r.no_fault }

pub broke_of : (a b : Shown) (e : Stop) → Breaks a b e → Broke Graph AnyFile a b e
broke_of a b e r = record { only = r.only; touches = r.touches; rose = r.rose }

pub not_ok : false ≡ true → ⊥
not_ok h = cc h
