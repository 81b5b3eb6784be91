-- A page is added at the end of a file.
use Rattle.std.specs.Prelude.{ℕ, List, [], ◌∷◌, ◌++◌}
use Rattle.px_core.specs.Shown.{Shown}
use Rattle.px_pages.specs.Page.{IsMade}
use Rattle.px_cache.specs.View.{CacheView, Shows}
use Rattle.px_pages.specs.Page.{writer_of}

-- the file is shown with these pages and one of this kind without tuples and link behind them
pub record WithPage (len page_kind file : ℕ) (ps : List (List ℕ)) (c : CacheView) (s : Shown) : Type 0 where
  pub page : List ℕ
  pub made : IsMade (writer_of len []) page_kind 0 [] page
  pub shows : Shows c s file (ps ++ page ∷ [])
