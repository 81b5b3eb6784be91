-- What calls of a cache, one after the other, do to the disk and to the notes.
use Rattle.std.proofs.Common.{◌≡◌, ◌+◌, ℕ, ◌∙◌, ap, subst, arith}
use Rattle.px_core.specs.Shown.{Shown, Touches, Worked}
use Rattle.px_core.proofs.Pages.{touches_then, touches_more}
use Rattle.px_cache.specs.View.{CacheView, ReadsUpTo, OnlyCleaned, SameCache, AnyFile, IsChanged, clean, bare}
use Rattle.px_cache.proofs.Lists.{clean_bare, same_bare_pins}
use Rattle.px_cache.proofs.Shows.{clean_still}
use Rattle.px_cache.proofs.Pins.{same_cache}

pub reads_then : (n m : ℕ) (a b c : Shown) → ReadsUpTo n a b → ReadsUpTo m b c → ReadsUpTo (n + m) a c
reads_then n m a b c x y = record {
  touches = touches_then AnyFile a b c x.touches y.touches;
  no_fault = y.no_fault ∙ x.no_fault;
  reads = omega (arith, x.reads, y.reads);
}

pub any_touches : (mine : ℕ → Type 0) (a b : Shown) → Touches mine a b → Touches AnyFile a b
any_touches mine a b t = touches_more mine AnyFile a b (λ f m. tt) t

pub write_reads : (mine : ℕ → Type 0) (a b : Shown) → Worked mine 0 1 a b → ReadsUpTo 0 a b
write_reads mine a b w = record { touches = any_touches mine a b w.touches; no_fault = w.no_fault; reads = omega (arith, w.reads) }

pub cleaned_then : (a b c : CacheView) → OnlyCleaned a b → OnlyCleaned b c → OnlyCleaned a c
cleaned_then a b c x y = record {
  len = y.len ∙ x.len;
  frames = y.frames ∙ x.frames;
  bare = y.bare ∙ x.bare;
  hand = y.hand ∙ x.hand;
  still = λ i h. x.still i (y.still i h);
}

pub cleaned_one : (c new : CacheView) (i : ℕ) → new ≡ record c { notes = clean c.notes i } → OnlyCleaned c new
cleaned_one c new i is = record {
  len = ap (λ (v : CacheView). v.len) is;
  frames = ap (λ (v : CacheView). v.frames) is;
  bare = ap (λ (v : CacheView). bare v.notes) is ∙ clean_bare c.notes i;
  hand = ap (λ (v : CacheView). v.hand) is;
  still = λ k h. clean_still c.notes i k (subst (λ (v : CacheView). IsChanged v.notes k) is h);
}

pub cleaned_same : (a b : CacheView) → OnlyCleaned a b → SameCache a b
cleaned_same a b x = same_cache a b x.len (same_bare_pins a.notes b.notes x.bare)
