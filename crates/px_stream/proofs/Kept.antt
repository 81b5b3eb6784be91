-- What is known of a stream outlives the calls on others: each relation has one law.
use Rattle.std.proofs.Common.{◌≡◌, ℕ, ◌≤◌, List, length, take, drop, ◌<◌, refl, sym, ◌∙◌, ap, subst, arith}
use Rattle.std.proofs.lemmas.List.{length-take}
use Rattle.std.specs.Prelude.{Option, Some, None}
use Rattle.std.specs.Option.{option_map}
use Rattle.px_core.specs.Shown.{Shown, Only, Touches, written, Tells}
use Rattle.px_core.specs.Same.{Same, SameBelow}
use Rattle.px_core.proofs.Keeping.{tells_same}
use Rattle.px_core.proofs.Pages.{take_fewer, drop_written, length_written}
use Rattle.px_core.proofs.Telling.{tells_written}
use Rattle.px_pages.specs.Entry.{Entry}
use Rattle.px_stream.specs.Views.{WriterView, ReaderView}
use Rattle.px_stream.specs.Stream.{Took, Has, ToGive, AllFit, AreStreamPages, all_tuples}

pub took_same : (a b : Shown) (w : WriterView) (l : List Entry) → Same (Only w.file) a b → Took a w l → Took b w l
took_same a b w l s k = record {
  told = k.told;
  tells = tells_same a b w.file k.told s k.tells;
  end = k.end;
  within = k.within;
  made = subst (λ (n : ℕ). AreStreamPages n (drop w.first k.told)) (sym s.page_len) k.made;
  tuples = k.tuples;
  fit = subst (λ (n : ℕ). AllFit n l) (sym s.page_len) k.fit;
}

pub to_give_same : (a b : Shown) (r : ReaderView) (l : List Entry) → Same (Only r.file) a b → ToGive a r l → ToGive b r l
to_give_same a b r l s k = record {
  told = k.told;
  tells = tells_same a b r.file k.told s k.tells;
  end = k.end;
  tuples = k.tuples;
  fit = subst (λ (n : ℕ). AllFit n l) (sym s.page_len) k.fit;
}

pub has_same : (a b : Shown) (file first last : ℕ) (l : List Entry) → Same (Only file) a b → Has a file first last l → Has b file first last l
has_same a b file first last l s k = record {
  told = k.told;
  tells = tells_same a b file k.told s k.tells;
  end = k.end;
  made = subst (λ (n : ℕ). AreStreamPages n (drop first (take last k.told))) (sym s.page_len) k.made;
  tuples = k.tuples;
  fit = subst (λ (n : ℕ). AllFit n l) (sym s.page_len) k.fit;
}

-- the same pages, of a file that has other pages besides
has_in : (a b : Shown) (file first last : ℕ) (l : List Entry) (now : List (List ℕ)) → b.page_len ≡ a.page_len → Tells b file now → last ≤ length now
    → (k : Has a file first last l) → drop first (take last now) ≡ drop first (take last k.told) → Has b file first last l
has_in a b file first last l now len tells end k same = record {
  told = now;
  tells = tells;
  end = end;
  made = subst (λ (ps : List (List ℕ)). AreStreamPages b.page_len ps) (sym same) (subst (λ (n : ℕ). AreStreamPages n (drop first (take last k.told))) (sym len) k.made);
  tuples = k.tuples ∙ ap all_tuples (sym same);
  fit = subst (λ (n : ℕ). AllFit n l) (sym len) k.fit;
}

-- the pages that a file still tells, where those before a page are as before
pub record TellsBelow (b : Shown) (file pages : ℕ) (before : List (List ℕ)) : Type 0 where
  pub now : List (List ℕ)
  pub tells : Tells b file now
  pub same : take pages now ≡ take pages before

some_is : (x y : List (List ℕ)) → Some x ≡ Some y → x ≡ y
some_is x y h = cc

mapped_some : (pages : ℕ) (o : Option (List (List ℕ))) (before : List (List ℕ)) → option_map (take pages) o ≡ Some (take pages before)
    → (now : List (List ℕ)) × (o ≡ Some now) × (take pages now ≡ take pages before)
mapped_some pages None before h = absurd (cc h)
mapped_some pages (Some now) before h = (now, refl, some_is (take pages now) (take pages before) h)

pub tells_below : (a b : Shown) (file pages : ℕ) (before : List (List ℕ)) → SameBelow file pages a b → Tells a file before → TellsBelow b file pages before
tells_below a b file pages before s h =
    let m = mapped_some pages (b.files file) before (s.below ∙ ap (option_map (take pages)) h.is) in
    record { now = m.0; tells = record { on = s.tells ∙ h.on; is = m.1 }; same = m.2 }

-- the pages before this one are as before, and those of the list are among them
pub has_below : (a b : Shown) (file pages first last : ℕ) (l : List Entry) → SameBelow file pages a b → last ≤ pages → Has a file first last l → Has b file first last l
has_below a b file pages first last l s low k =
    let t = tells_below a b file pages k.told s k.tells in
    let same : take last t.now ≡ take last k.told =
    sym (take_fewer last pages t.now low) ∙ ap (take last) t.same ∙ take_fewer last pages k.told low in
    let end : last ≤ length t.now = omega (arith, k.end, length-take last t.now, length-take last k.told, ap length same) in
    has_in a b file first last l t.now s.page_len t.tells end k (ap (drop first) same)

-- a page was written before those of the list
pub has_written_before : (mine : ℕ → Type 0) (a b : Shown) (file first last page : ℕ) (bytes : List ℕ) (l : List Entry) → Touches mine a b
    → b.files file ≡ option_map (written page bytes) (a.files file) → page < first → page < last → Has a file first last l → Has b file first last l
has_written_before mine a b file first last page bytes l t is low up k =
    has_in a b file first last l (written page bytes k.told) t.page_len (tells_written mine a b file page bytes k.told t is k.tells)
    (omega (arith, k.end, length_written page bytes k.told)) k (drop_written first last page bytes k.told low up (omega (arith, k.end, up)))
