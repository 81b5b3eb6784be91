-- Tuples are taken, page by page.
use Rattle.std.proofs.Common.{◌≡◌, ℕ, ◌+◌, ◌<◌, ◌≤◌, List, [], ◌∷◌, ◌++◌, length, take, drop, sym, ◌∙◌, ap, subst, arith, append_assoc}
use Rattle.std.proofs.lemmas.List.{append-nil, length-append}
use Rattle.std.proofs.Math.Seq.{take-length}
use Rattle.px_core.specs.Shown.{Shown, Touches, HasRoom, written, Tells}
use Rattle.std.specs.Option.{option_map}
use Rattle.px_core.proofs.Pages.{written_end, drop_push}
use Rattle.px_core.proofs.Telling.{tells_written}
use Rattle.px_pages.specs.Entry.{Entry}
use Rattle.px_meaning.specs.Graph.{room_of}
use Rattle.px_pages.specs.Page.{PageWriterView, kind_of, link_of, tuples_of, page_of}
use Rattle.px_stream.specs.Views.{WriterView, IsPage}
use Rattle.px_core.specs.Counts.{bumped_by}
use Rattle.px_stream.specs.Stream.{Took, Has, AllFit, AreStreamPages, all_tuples}

pub all_tuples-push : (pages : List (List ℕ)) (page : List ℕ) → all_tuples (pages ++ page ∷ []) ≡ all_tuples pages ++ tuples_of page
all_tuples-push [] page = append-nil (tuples_of page)
all_tuples-push (p ∷ pages) page = ap (λ (l : List Entry). tuples_of p ++ l) (all_tuples-push pages page) ∙ sym (append_assoc (tuples_of p) (all_tuples pages) (tuples_of page))

pub AllFit-push : (n : ℕ) (es : List Entry) (e : Entry) → AllFit n es → 13 + length e.body ≤ room_of n → AllFit n (es ++ e ∷ [])
AllFit-push n [] e all this = (this, tt)
AllFit-push n (d ∷ es) e all this = (all.0, AllFit-push n es e all.1 this)

pub AreStreamPages-push : (n : ℕ) (pages : List (List ℕ)) (page : List ℕ) → AreStreamPages n pages → page ≡ page_of n 1 0 (tuples_of page) → AreStreamPages n (pages ++ page ∷ [])
AreStreamPages-push n [] page all this = (this, tt)
AreStreamPages-push n (p ∷ pages) page all this = (all.0, AreStreamPages-push n pages page all.1 this)

-- the page that a page writer made
pub stream_page : (w : PageWriterView) (page : List ℕ) → IsPage w page → page ≡ page_of (length page) 1 0 (tuples_of page)
stream_page w page is =
    let es = tuples_of page in
    is.made.bytes ∙ ap (λ (n : ℕ). page_of n (kind_of page) (link_of page) es) is.len ∙ ap (λ (k : ℕ). page_of (length page) k (link_of page) es) is.kind
    ∙ ap (λ (l : ℕ). page_of (length page) 1 l es) is.link

-- the page in the frame is written
pub took_flushed : (mine : ℕ → Type 0) (a b : Shown) (w v : WriterView) (page : PageWriterView) (frame : List ℕ) (l : List Entry)
    → b.files w.file ≡ option_map (written w.pages frame) (a.files w.file) → ((ps : List (List ℕ)) → Tells a w.file ps → HasRoom w.pages ps) → Touches mine a b
    → IsPage page frame → length frame ≡ a.page_len
    → w.here ≡ tuples_of frame → v.file ≡ w.file → v.first ≡ w.first → v.pages ≡ bumped_by 1 w.pages → v.here ≡ [] → Took a w l → Took b v l
took_flushed mine a b w v page frame l put limit t is len here file first pages empty k =
    let ps = k.told in
    let room : length ps < 1099511627776 = limit ps k.tells (sym k.end) in
    let this : frame ≡ page_of a.page_len 1 0 (tuples_of frame) = stream_page page frame is ∙ ap (λ (n : ℕ). page_of n 1 0 (tuples_of frame)) len in
    let more : drop v.first (ps ++ frame ∷ []) ≡ drop w.first ps ++ frame ∷ [] =
    ap (λ (n : ℕ). drop n (ps ++ frame ∷ [])) first ∙ drop_push w.first frame ps (omega (arith, k.within, k.end)) in
    let list : all_tuples (drop v.first (ps ++ frame ∷ [])) ≡ all_tuples (drop w.first ps) ++ tuples_of frame = ap all_tuples more ∙ all_tuples-push (drop w.first ps) frame in
    record {
      told = ps ++ frame ∷ [];
      tells = subst (λ (f : ℕ). Tells b f (ps ++ frame ∷ [])) (sym file) (subst (Tells b w.file) (written_end w.pages frame ps (sym k.end)) (tells_written mine a b w.file w.pages frame ps t put k.tells));
      end = omega (arith, room, pages, k.end, length-append ps (frame ∷ []));
      within = omega (arith, room, first, pages, k.end, k.within);
      made = subst (λ (n : ℕ). AreStreamPages n (drop v.first (ps ++ frame ∷ []))) (sym t.page_len)
          (subst (AreStreamPages a.page_len) (sym more) (AreStreamPages-push a.page_len (drop w.first ps) frame k.made this));
      tuples = k.tuples ∙ ap (λ (h : List Entry). all_tuples (drop w.first ps) ++ h) here ∙ sym list ∙ sym (append-nil (all_tuples (drop v.first (ps ++ frame ∷ []))))
          ∙ ap (λ (h : List Entry). all_tuples (drop v.first (ps ++ frame ∷ [])) ++ h) (sym empty);
      fit = subst (λ (n : ℕ). AllFit n l) (sym t.page_len) k.fit;
    }

-- a tuple is put into the page in the frame
pub took_put : (a : Shown) (w v : WriterView) (e : Entry) (l : List Entry) → v.file ≡ w.file → v.first ≡ w.first → v.pages ≡ w.pages → v.here ≡ w.here ++ e ∷ []
    → 13 + length e.body ≤ room_of a.page_len → Took a w l → Took a v (l ++ e ∷ [])
took_put a w v e l file first pages here room k = record {
  told = k.told;
  tells = subst (λ (f : ℕ). Tells a f k.told) (sym file) k.tells;
  end = k.end ∙ sym pages;
  within = omega (arith, k.within, first, pages);
  made = subst (λ (n : ℕ). AreStreamPages a.page_len (drop n k.told)) (sym first) k.made;
  tuples = ap (λ (t : List Entry). t ++ e ∷ []) k.tuples ∙ append_assoc (all_tuples (drop w.first k.told)) w.here (e ∷ [])
      ∙ ap (λ (h : List Entry). all_tuples (drop w.first k.told) ++ h) (sym here) ∙ ap (λ (n : ℕ). all_tuples (drop n k.told) ++ v.here) (sym first);
  fit = AllFit-push a.page_len l e k.fit room;
}

-- nothing is left to be written
pub took_all : (a : Shown) (w : WriterView) (l : List Entry) → w.here ≡ [] → Took a w l → Has a w.file w.first w.pages l
took_all a w l empty k =
    let all : take w.pages k.told ≡ k.told = ap (λ (n : ℕ). take n k.told) (sym k.end) ∙ take-length k.told in
    record {
      told = k.told;
      tells = k.tells;
      end = omega (arith, k.end);
      made = subst (λ (ps : List (List ℕ)). AreStreamPages a.page_len (drop w.first ps)) (sym all) k.made;
      tuples = k.tuples ∙ ap (λ (h : List Entry). all_tuples (drop w.first k.told) ++ h) empty ∙ append-nil (all_tuples (drop w.first k.told))
          ∙ ap (λ (ps : List (List ℕ)). all_tuples (drop w.first ps)) (sym all);
      fit = k.fit;
    }
