use Rattle.std.proofs.Common.{◌≡◌, ◌∙◌, sym, subst, refl, ℕ, [], length, arith}
use Rattle.std.proofs.lemmas.Bool.{OnTrue_at, OnTrue_from}
use Rattle.px_pages.specs.Page.{IsPageLen}
use Rattle.px_store.specs.declared.shared.Desk.{Desk}
use Rattle.px_store.specs.Desks.{IsOwn}
use Rattle.px_store.proofs.Apart.{own_first, clean_then}
use Rattle.px_btree.specs.Tree.{TreeView, IsHeld}
use Rattle.px_btree.specs.Fresh.{WithPage}
use Rattle.px_btree.specs.Fill.{IsFilling}
use Rattle.px_btree.proofs.Starting.{started}
use Rattle.px_btree.proofs.Building.{started_filling}
use Rattle.px_btree.proofs.tree.ClosedTree.start.Goals as goal

pub returns-clause-holds : goal.returns-clause-holds
returns-clause-holds g c =
    let shown = g.D.Disk.shown in
    let s1 = shown c.clear_file.new.disk in
    let s2 = shown c.add_page.new.disk in
    let d' : Desk = record c.args.desk.now { cache = c.add_page.new.cache } in
    OnTrue_from s2.tells (IsHeld c.begin.new.self d' s2 []) (λ tells.
    let shows = OnTrue_at (sym c.in_ok-add_page.ensures.ok.touches.tells ∙ tells) c.in_ok-clear_file.ensures.empty in
    let added = c.in_ok-add_page.ensures.added [] refl shows in
    let added' = subst (λ (f : ℕ). WithPage s1.page_len 3 f [] c.add_page.new.cache s2) c.file-file.ensures.file added in
    let len : s2.page_len ≡ s1.page_len = c.in_ok-add_page.ensures.ok.touches.page_len in
    let long : IsPageLen s2.page_len = subst IsPageLen (sym (len ∙ c.in_ok-clear_file.ensures.ok.touches.page_len)) c.requires.page in
    subst (λ (t : TreeView). IsHeld t d' s2 []) (sym c.begin.ensures) (started c.args.self.now.part s1.page_len c.args.desk.now c.add_page.new.cache s2 long (sym len) added'))

pub returns-clause-fills : goal.returns-clause-fills
returns-clause-fills g c =
    let shown = g.D.Disk.shown in
    let s1 = shown c.clear_file.new.disk in
    let s2 = shown c.add_page.new.disk in
    let c' = c.add_page.new.cache in
    OnTrue_from s2.tells (IsFilling c.begin.new.self c' s2 []) (λ tells.
    let shows = OnTrue_at (sym c.in_ok-add_page.ensures.ok.touches.tells ∙ tells) c.in_ok-clear_file.ensures.empty in
    let added = c.in_ok-add_page.ensures.added [] refl shows in
    let added' = subst (λ (f : ℕ). WithPage s1.page_len 3 f [] c' s2) c.file-file.ensures.file added in
    let len : s2.page_len ≡ s1.page_len = c.in_ok-add_page.ensures.ok.touches.page_len in
    let long : IsPageLen s2.page_len = subst IsPageLen (sym (len ∙ c.in_ok-clear_file.ensures.ok.touches.page_len)) c.requires.page in
    subst (λ (t : TreeView). IsFilling t c' s2 []) (sym c.begin.ensures) (started_filling c.args.self.now.part s1.page_len c' s2 long (sym len) added'))

pub returns-clause-done : goal.returns-clause-done
returns-clause-done g c =
    let clear = c.in_ok-clear_file.ensures in
    let add = c.in_ok-add_page.ensures in
    let q = c.args.self.now.part in
    let out : (f : ℕ) → (IsOwn q f → ⊥) → f ≡ c.file-file.result → ⊥ = λ f un is. un (subst (λ (n : ℕ). IsOwn q n) (sym (is ∙ c.file-file.ensures.file)) (own_first q)) in
    let pages = add.ok.touches.page_len ∙ clear.ok.touches.page_len in
    let number : length c.add_page.new.cache.notes ≡ length c.args.desk.now.cache.notes = add.stays.size ∙ clear.notes in
    record {
      clean = clean_then _ _ _ clear.ok add.ok;
      others = λ f ps un sh. add.others f ps (out f un) (clear.others f ps (out f un) sh);
      ready = record {
        len = add.stays.len ∙ clear.len ∙ c.requires.len ∙ sym pages;
        page = subst IsPageLen (sym pages) c.requires.page;
        pins = add.stays.none clear.pins;
        owner = c.requires.owner;
        few = omega (arith, number, c.requires.few);
        side = tt;
      };
    }

pub returns-clause-desk : goal.returns-clause-desk
returns-clause-desk g c =
    let clear = c.clear_file.ensures in
    let add = c.add_page.ensures in
    record { len = add.stays.len ∙ clear.len; frames = add.stays.size ∙ clear.notes; side = refl; side_len = refl; full = λ full. full }
