use Rattle.std.proofs.Common.{◌≡◌, ◌∙◌, ◌*◌, ◌+◌, sym, ap, subst, ℕ, arith}
use Rattle.px_cache.specs.View.{Shows}
use Rattle.px_btree.specs.Tree.{TreeView, IsHeld}
use Rattle.px_btree.specs.Rise.{WithRoot}
use Rattle.px_btree.proofs.Growing.{too_deep, rooted}
use Rattle.px_btree.proofs.Stacking.{small}
use Rattle.px_btree.proofs.tree.ClosedTree.grow.Goals as goal

pub returns-then-self-ge-LEVELS-clause-holds : goal.returns-then-self-ge-LEVELS-clause-holds
returns-then-self-ge-LEVELS-clause-holds g c = λ l owes.
    let depth = ap (λ (u : TreeView). u.depth) c.self.view_is in
    absurd (too_deep c.args.self.now c.args.right c.args.desk.now (g.D.Disk.shown c.args.disk.now) l c.requires.ready.few (omega (arith, c.if-self-ge-LEVELS.true, c.file-file.ensures.most, depth)) owes)

pub returns-clause-holds : goal.returns-clause-holds
returns-clause-holds g c = λ l owes.
    let shown = g.D.Disk.shown in
    let t = c.args.self.now in
    let d = c.args.desk.now in
    let d' = record d { cache = c.add_root.new.cache } in
    let s = shown c.args.disk.now in
    let s' = shown c.add_root.new.disk in
    let file : c.file-file.result ≡ 8 * t.part = c.file-file.ensures.file in
    let pages : c.self.inside.pages ≡ t.pages = ap (λ (u : TreeView). u.pages) c.self.view_is in
    let root : c.self.inside.root ≡ t.root = ap (λ (u : TreeView). u.root) c.self.view_is in
    let few = small d.cache s (8 * t.part) t.pages owes.ps owes.shows c.requires.ready.few (sym owes.pages) in
    let added = c.in_ok-add_root.ensures.added owes.ps (pages ∙ sym owes.pages) (subst (λ (n : ℕ). Shows d.cache s n owes.ps) (sym file) owes.shows) in
    let added' = subst (λ (n : ℕ). WithRoot s.page_len n c.self.inside.root c.args.right owes.ps c.add_root.new.cache s') file added in
    let added'' = subst (λ (r : ℕ). WithRoot s.page_len (8 * t.part) r c.args.right owes.ps c.add_root.new.cache s') root added' in
    let more = c.saturating_add-self-inside.result in
    let now = rooted t c.args.right d d' s s' l more owes c.in_ok-add_root.ensures.ok.touches.page_len added'' (omega (arith, c.saturating_add-self-inside.ensures, few, pages)) in
    subst (λ (u : TreeView). IsHeld (record u { root = u.pages; depth = u.depth + 1; pages = more }) d' s' l) (sym c.self.view_is) now
