-- A tree with one empty leaf.
use Rattle.std.proofs.Common.{◌≡◌, ◌*◌, ℕ, zero, suc, List, [], ◌∷◌, ◌++◌, length, set, replicate, refl, sym, ◌∙◌, ap, subst, arith}
use Rattle.std.specs.Prelude.{None}
use Rattle.px_core.specs.Shown.{Shown}
use Rattle.px_pages.specs.Page.{IsPageLen, PageWriterView, IsMade, IsWritten, kind_of, link_of, tuples_of}
use Rattle.px_pages.specs.Entry.{Entry}
use Rattle.px_cache.specs.View.{CacheView, Shows, ShownAfterNew, Holds, written_frame}
use Rattle.px_cache.proofs.Shows.{write_shows}
use Rattle.px_store.specs.declared.shared.Desk.{Desk}
use Rattle.px_pages.specs.Page.{writer_of}
use Rattle.px_btree.specs.Tree.{Piece, IsHeld, HoldsPage}
use Rattle.px_btree.specs.Fresh.{WithPage}

-- the writer's page
pub made_empty : (w : PageWriterView) (page : List ℕ) (kind len : ℕ) → IsWritten w page → tuples_of page ≡ [] → kind_of page ≡ kind → link_of page ≡ 0 → length page ≡ len → IsMade (writer_of len []) kind 0 [] page
made_empty w page kind len made none is_kind link long =
    let one = subst (λ (k : ℕ). IsMade w k (link_of page) (tuples_of page) page) is_kind made in
    let two = subst (λ (l : ℕ). IsMade w kind l (tuples_of page) page) link one in
    let three = subst (λ (es : List Entry). IsMade w kind 0 es page) none two in
    let same : w ≡ writer_of len [] =
    ap (λ (n : ℕ). let v : PageWriterView = record { count = n; used = w.used; len = w.len } in v) three.count
    ∙ ap (λ (n : ℕ). let v : PageWriterView = record { count = 0; used = n; len = w.len } in v) three.used
    ∙ ap (λ (n : ℕ). let v : PageWriterView = record { count = 0; used = 32; len = n } in v) (sym three.page_len ∙ long) in
    subst (λ (v : PageWriterView). IsMade v kind 0 [] page) same three

pub set_last : (ps : List (List ℕ)) (z b : List ℕ) (n : ℕ) → n ≡ length ps → set (ps ++ z ∷ []) n b ≡ ps ++ b ∷ []
set_last [] z b zero is = refl
set_last [] z b (suc n) is = absurd (cc is)
set_last (p ∷ ps) z b zero is = absurd (cc is)
set_last (p ∷ ps) z b (suc n) is = ap (λ (l : List (List ℕ)). p ∷ l) (set_last ps z b n (omega (arith, is)))

pub page_added : (c c' : CacheView) (s s' : Shown) (f p i kind len : ℕ) (b : List ℕ) → ShownAfterNew f p c s c' s' → Holds c'.notes i f p → length c'.notes ≡ length c'.frames → IsMade (writer_of len []) kind 0 [] b
    → (ps : List (List ℕ)) → p ≡ length ps → Shows c s f ps → WithPage len kind f ps (written_frame c' i b) s'
page_added c c' s s' f p i kind len b new holds whole made ps end sh =
    let written = write_shows c' s' i f p b whole holds (ps ++ replicate c.len 0 ∷ []) (new.added ps end sh) in
    record {
      page = b;
      made = made;
      shows = subst (λ (qs : List (List ℕ)). Shows (written_frame c' i b) s' f qs) (set_last ps (replicate c.len 0) b p end) written;
    }

pub started : (q len : ℕ) (d : Desk) (c' : CacheView) (s' : Shown) → IsPageLen s'.page_len → len ≡ s'.page_len → WithPage len 3 (8 * q) [] c' s'
    → IsHeld (record { part = q; root = 0; depth = 1; pages = 1; leaves = 1; at = 0; togo = 0; here = None; mark = None }) (record d { cache = c' }) s' []
started q len d c' s' long same page =
    let x : Piece = record { low = 0; page = 0; es = [] } in
    let made = subst (λ (n : ℕ). IsMade (writer_of n []) 3 0 [] page.page) same page.made in
    let holds : HoldsPage s'.page_len 3 0 (page.page ∷ []) 0 [] = record { page = page.page; at = refl; made = made } in
    record {
      levels = (x ∷ []) ∷ [];
      tree = record {
        ps = page.page ∷ [];
        shows = page.shows;
        len = long;
        stack = (holds, tt, tt, tt, tt);
        depth = refl;
        pages = refl;
        leaves = refl;
        apart = (tt, tt);
        first = (refl, refl);
        root = ([], [], refl);
        items = tt;
        bushy = tt;
        mark = tt;
      };
      is = refl;
    }
