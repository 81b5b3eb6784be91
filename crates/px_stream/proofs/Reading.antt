-- Tuples are given, page by page.
use Rattle.std.proofs.Common.{◌≡◌, ℕ, zero, suc, ◌+◌, ◌<◌, ◌≤◌, List, [], ◌∷◌, ◌++◌, length, take, drop, sym, ◌∙◌, ap, subst, arith, refl}
use Rattle.std.proofs.lemmas.Bool.Decides.{nat_tests}
use Rattle.std.proofs.lemmas.List.{drop_all, length-drop, length-take}
use Rattle.std.specs.Prelude.{slice_get, Option, Some, None, IfSome, IfNone, OnSome, ⊤}
use Rattle.px_core.specs.Shown.{Shown, Touches, NoFile, Gives, Tells}
use Rattle.px_core.proofs.Pages.{drop_first, get_first}
use Rattle.px_core.proofs.Telling.{tells_kept}
use Rattle.px_pages.specs.Entry.{Entry, entry, entries_in}
use Rattle.px_meaning.specs.Graph.{room_of}
use Rattle.px_pages.specs.Page.{PageReaderView, tuples_of}
use Rattle.px_stream.specs.Views.{ReaderView, here_of}
use Rattle.px_stream.specs.Stream.{ToGive, Leads, Shows, AllFit, all_tuples, first_body, body_within, tuple}
use Rattle.px_stream.specs.declared.reader.Head.{Head}

abbrev view_of : ℕ → ℕ → ℕ → ℕ → List Entry → ReaderView
view_of file page pages page_len here = record { file = file; page = page; pages = pages; page_len = page_len; here = here }

-- the next page is read
pub turned : (a b : Shown) (r v : ReaderView) (frame : List ℕ) (l : List Entry) → ((ps : List (List ℕ)) → Tells a r.file ps → Gives r.page frame ps) → Touches NoFile a b
    → r.page < r.pages → r.here ≡ [] → v.file ≡ r.file → v.page ≡ r.page + 1 → v.pages ≡ r.pages → v.here ≡ tuples_of frame → ToGive a r l → ToGive b v l
turned a b r v frame l gives t more none file page pages here k =
    let all = k.told in
    let ps : List (List ℕ) = take r.pages all in
    let at : slice_get ps r.page ≡ Some frame = get_first r.pages r.page frame all more (gives all k.tells (omega (arith, k.end, more))) in
    let front : drop r.page ps ≡ frame ∷ drop (r.page + 1) ps = drop_first r.page frame ps at in
    record {
      told = all;
      tells = subst (λ (f : ℕ). Tells b f all) (sym file) (tells_kept NoFile a b r.file all t (λ h. h) k.tells);
      end = omega (arith, k.end, pages);
      tuples = k.tuples ∙ ap (λ (h : List Entry). h ++ all_tuples (drop r.page ps)) none ∙ ap all_tuples front
          ∙ ap (λ (n : ℕ). tuples_of frame ++ all_tuples (drop n ps)) (sym page) ∙ ap (λ (h : List Entry). h ++ all_tuples (drop v.page ps)) (sym here)
          ∙ ap (λ (n : ℕ). v.here ++ all_tuples (drop v.page (take n all))) (sym pages);
      fit = subst (λ (n : ℕ). AllFit n l) (sym t.page_len) k.fit;
    }

-- a tuple of the page in the frame is given
pub one_given : (a : Shown) (r v : ReaderView) (e : Entry) (l : List Entry) → r.here ≡ e ∷ v.here → v.file ≡ r.file → v.page ≡ r.page → v.pages ≡ r.pages → ToGive a r l
    → Leads e l (ToGive a v)
one_given a r v e l first file page pages k =
    let rest : List Entry = v.here ++ all_tuples (drop v.page (take v.pages k.told)) in
    let is : l ≡ e ∷ rest =
    k.tuples ∙ ap (λ (h : List Entry). h ++ all_tuples (drop r.page (take r.pages k.told))) first ∙ ap (λ (n : ℕ). e ∷ (v.here ++ all_tuples (drop n (take r.pages k.told)))) (sym page)
    ∙ ap (λ (n : ℕ). e ∷ (v.here ++ all_tuples (drop v.page (take n k.told)))) (sym pages) in
    let fit : AllFit a.page_len (e ∷ rest) = subst (AllFit a.page_len) is k.fit in
    record {
      rest = rest;
      is = is;
      after = record {
        told = k.told;
        tells = subst (λ (f : ℕ). Tells a f k.told) (sym file) k.tells;
        end = omega (arith, k.end, pages);
        tuples = refl;
        fit = fit.1;
      };
    }

-- and it had room in any page
pub one_fits : (a : Shown) (r : ReaderView) (e : Entry) (rest l : List Entry) → r.here ≡ e ∷ rest → ToGive a r l → 13 + length e.body ≤ room_of a.page_len
one_fits a r e rest l first k =
    let more : List Entry = all_tuples (drop r.page (take r.pages k.told)) in
    let fit : AllFit a.page_len (e ∷ (rest ++ more)) = subst (AllFit a.page_len) (k.tuples ∙ ap (λ (h : List Entry). h ++ more) first) k.fit in
    fit.0

-- whether none is found depends on the lengths alone
pub still_none : (n : ℕ) (b c : List ℕ) → length b ≡ length c → entries_in n b ≡ [] → entries_in n c ≡ []
still_none zero b c len none = refl
still_none (suc n) b c len none = grind (arith, nat_tests)

-- a reader whose frame has other bytes, and still no tuple left
here_none : (r : Option PageReaderView) (old new : List ℕ) → length new ≡ length old → here_of r old ≡ [] → here_of r new ≡ []
here_none None old new len none = refl
here_none (Some r) old new len none = still_none r.left (drop r.at old) (drop r.at new) (omega (arith, len, length-drop r.at old, length-drop r.at new)) none

pub view_none : (file page pages : ℕ) (r : Option PageReaderView) (old new : List ℕ) → length new ≡ length old → here_of r old ≡ []
    → view_of file page pages (length new) (here_of r new) ≡ view_of file page pages (length old) (here_of r old)
view_none file page pages r old new len none =
    let here : here_of r new ≡ here_of r old = here_none r old new len none ∙ sym none in
    ap (λ (n : ℕ). view_of file page pages n (here_of r new)) len ∙ ap (λ (h : List Entry). view_of file page pages (length old) h) here

-- none is left
pub none_left : (a : Shown) (r : ReaderView) (l : List Entry) → r.here ≡ [] → r.page ≡ r.pages → ToGive a r l → l ≡ []
none_left a r l none past k =
    k.tuples ∙ ap (λ (h : List Entry). h ++ all_tuples (drop r.page (take r.pages k.told))) none
    ∙ ap all_tuples (drop_all r.page (take r.pages k.told) (omega (arith, past, length-take r.pages k.told)))

-- the first tuple, with its body named by the list
pub first_is : (xs : List Entry) (key tag : ℕ) (body : List ℕ) (rest : List Entry) → xs ≡ entry key tag body ∷ rest → xs ≡ entry key tag (first_body xs) ∷ rest
first_is xs key tag body rest e = e ∙ ap (λ (b : List ℕ). entry key tag b ∷ rest) (sym (ap first_body e))

-- the head that is shown leads the list
pub shown_leads : (a : Shown) (r : ReaderView) (h : Head) (l : List Entry) → Shows h r → ToGive a r l → Leads (tuple h (first_body r.here)) l (λ x. ⊤)
shown_leads a r h l s k = record {
  rest = s.rest ++ all_tuples (drop r.page (take r.pages k.told));
  is = k.tuples ∙ ap (λ (x : List Entry). x ++ all_tuples (drop r.page (take r.pages k.told))) s.is;
  after = tt;
}

-- a body within the limit
pub body_fits : (limit : ℕ) (body : List ℕ) → length body ≤ limit → body_within limit body ≡ body
body_fits limit body short = grind (arith, nat_tests)

-- an answer of `next` or `peek`, from the reader that has settled
pub nothing_given : (a b : Shown) (r m : ReaderView) (o : Option Head) → IfNone o (m.here ≡ []) → (m.here ≡ [] → m.page ≡ m.pages)
    → ((l : List Entry) → ToGive a r l → ToGive b m l) → IfNone o ((l : List Entry) → ToGive a r l → l ≡ [])
nothing_given a b r m None empty settled same = λ l k. none_left b m l empty (settled empty) (same l k)
nothing_given a b r m (Some h) empty settled same = tt

pub head_given : (a b : Shown) (r m v : ReaderView) (o : Option Head) (bytes : List ℕ) (limit : ℕ) → IfSome o (λ h. m.here ≡ tuple h (first_body m.here) ∷ v.here)
    → OnSome o (bytes ≡ body_within limit (first_body m.here)) → room_of b.page_len ≤ 13 + limit → v.file ≡ m.file → v.page ≡ m.page → v.pages ≡ m.pages
    → ((l : List Entry) → ToGive a r l → ToGive b m l) → IfSome o (λ h. (l : List Entry) → ToGive a r l → Leads (tuple h bytes) l (ToGive b v))
head_given a b r m v None bytes limit first body room file page pages same = tt
head_given a b r m v (Some h) bytes limit first body room file page pages same = λ l k.
    let fits = one_fits b m (tuple h (first_body m.here)) v.here l first (same l k) in
    let short : length (first_body m.here) ≤ limit = omega (arith, fits, room) in
    subst (λ (x : List ℕ). Leads (tuple h x) l (ToGive b v)) (sym (body ∙ body_fits limit (first_body m.here) short)) (one_given b m v (tuple h (first_body m.here)) l first file page pages (same l k))

pub head_shown : (a b : Shown) (r m : ReaderView) (o : Option Head) → IfSome o (λ h. Shows h m) → ((l : List Entry) → ToGive a r l → ToGive b m l)
    → IfSome o (λ h. (l : List Entry) → ToGive a r l → Leads (tuple h (first_body m.here)) l (λ x. ⊤))
head_shown a b r m None shows same = tt
head_shown a b r m (Some h) shows same = λ l k. shown_leads b m h l shows (same l k)
