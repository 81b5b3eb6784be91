-- Partitions do not disturb one another.
use Rattle.std.proofs.Common.{◌≡◌, ◌*◌, ℕ, Bool, true, false, length, sym, ◌∙◌, ap, refl, subst, arith}
use Rattle.std.specs.Prelude.{Option, Some, None}
use Rattle.px_core.specs.Shown.{Shown, Clean}
use Rattle.px_core.proofs.Pages.{touches_refl, touches_then}
use Rattle.px_pages.specs.Page.{IsPageLen}
use Rattle.px_cache.specs.View.{CacheView, OthersShown, SameCache, AnyFile}
use Rattle.px_frames.specs.Shares.{ShareView}
use Rattle.px_store.specs.declared.shared.Desk.{Desk}
use Rattle.px_store.specs.Desks.{IsOwn, OwnKept, OthersKept, IsFreeFor, IsNotOwner, IsReady, IsDone, SameDesk, HasSideFor}

-- a file of one partition is none of another
pub own_apart : (p q f : ℕ) → (p ≡ q → ⊥) → IsOwn q f → IsOwn p f → ⊥
own_apart p q f other a b = other (omega (arith, a.low, a.high, b.low, b.high))

-- a call of one partition's store keeps the others' files
pub kept_for : (p q : ℕ) (d d' : Desk) (s s' : Shown) → (p ≡ q → ⊥) → OthersKept p d s d' s' → OwnKept q d s d' s'
kept_for p q d d' s s' other kept f ps own sh = kept f ps (own_apart p q f other own) sh

pub not_owner : (p q : ℕ) (o : Option ℕ) → (p ≡ q → ⊥) → IsFreeFor p o → IsNotOwner q o
not_owner p q None other free = tt
not_owner p q (Some r) other free = λ e. other (sym free ∙ e)

pub none_free : (q : ℕ) (o : Option ℕ) → o ≡ None → IsFreeFor q o
none_free q None is = tt
none_free q (Some r) is = absurd (cc is)

-- a desk without an owner is free for each partition
pub ready_for : (k : Bool) (p q : ℕ) (d : Desk) (s : Shown) → d.owner ≡ None → IsReady k p d s → IsReady k q d s
ready_for k p q d s none ready = record { len = ready.len; page = ready.page; pins = ready.pins; owner = none_free q d.owner none; few = ready.few; side = ready.side }

pub own_first : (q : ℕ) → IsOwn q (8 * q)
own_first q = record { low = omega arith; high = omega arith }

side_kept : (k : Bool) (d d' : Desk) → d'.side ≡ d.side → HasSideFor k d → HasSideFor k d'
side_kept true d d' is h = tt
side_kept false d d' is h = record { some = omega (arith, h.some, ap (λ (v : ShareView). length v.frames) is); full = ap (λ (v : ShareView). length v.frames) is ∙ h.full ∙ sym (ap (λ (v : ShareView). v.size) is) }

-- calls of the cache on the first file of a partition
pub done_by : (k : Bool) (q : ℕ) (d : Desk) (c : CacheView) (s s' : Shown) → IsReady k q d s → SameCache d.cache c → Clean AnyFile s s'
    → OthersShown (8 * q) d.cache s c s' → IsDone k q d s (record d { cache = c }) s'
done_by k q d c s s' ready same clean others = record {
  clean = clean;
  others = λ f ps not sh. others f ps (λ e. not (subst (IsOwn q) (sym e) (own_first q))) sh;
  ready = record {
    len = same.len ∙ ready.len ∙ sym clean.touches.page_len;
    page = subst IsPageLen (sym clean.touches.page_len) ready.page;
    pins = same.none ready.pins;
    owner = ready.owner;
    few = omega (arith, same.size, ready.few);
    side = side_kept k d (record d { cache = c }) refl ready.side;
  };
}

pub clean_then : (a b c : Shown) → Clean AnyFile a b → Clean AnyFile b c → Clean AnyFile a c
clean_then a b c x y = record { touches = touches_then AnyFile a b c x.touches y.touches; no_fault = y.no_fault ∙ x.no_fault }

-- one call after another
pub done_then : (k : Bool) (q : ℕ) (a b c : Desk) (s t u : Shown) → IsDone k q a s b t → IsDone k q b t c u → IsDone k q a s c u
done_then k q a b c s t u x y = record {
  clean = clean_then s t u x.clean y.clean;
  others = λ f ps not sh. y.others f ps not (x.others f ps not sh);
  ready = y.ready;
}

pub done_refl : (k : Bool) (q : ℕ) (a : Desk) (s : Shown) → IsReady k q a s → IsDone k q a s a s
done_refl k q a s ready = record {
  clean = record { touches = touches_refl AnyFile s; no_fault = refl };
  others = λ f ps not sh. sh;
  ready = ready;
}

pub desk_refl : (a : Desk) → SameDesk a a
desk_refl a = record { len = refl; frames = refl; side = refl; side_len = refl; full = λ full. full }

pub desk_then : (a b c : Desk) → SameDesk a b → SameDesk b c → SameDesk a c
desk_then a b c x y = record {
  len = y.len ∙ x.len;
  frames = y.frames ∙ x.frames;
  side = y.side ∙ x.side;
  side_len = y.side_len ∙ x.side_len;
  full = λ full. y.full (x.full full);
}

-- calls of the cache keep the sizes of the desk
pub desk_by : (d : Desk) (c : CacheView) → SameCache d.cache c → SameDesk d (record d { cache = c })
desk_by d c same = record { len = same.len; frames = same.size; side = refl; side_len = refl; full = λ full. full }
