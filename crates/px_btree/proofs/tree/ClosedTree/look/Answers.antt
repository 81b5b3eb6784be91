use Rattle.std.proofs.Common.{◌≡◌, ◌*◌, ◌∙◌, sym, ap, subst, ℕ, true, length}
use Rattle.px_core.specs.Shown.{Shown}
use Rattle.px_cache.specs.View.{Holds}
use Rattle.px_store.proofs.Apart.{done_by, desk_by}
use Rattle.px_btree.specs.Scan.{Given}
use Rattle.px_btree.proofs.Scanning.{held_at, read_err, read_ok, read_look, look_on, others_after}
use Rattle.px_btree.proofs.Calls.{clean_of, not_ok}
use Rattle.px_btree.proofs.tree.ClosedTree.look.Goals as goal

pub returns-in_err-i-clause-reads : goal.returns-in_err-i-clause-reads
returns-in_err-i-clause-reads g c =
    let t = c.args.self.now in
    let notes = c.args.desk.now.cache.notes in
    read_err t c.args.desk.now (record c.args.desk.now { cache = c.load.new.self }) _ _ c.requires.togo c.in_err-i.ensures.err.reads
    (λ held. let at = held_at notes (8 * t.part) t.at held in
    not_ok ((c.in_err-i.ensures.idle at.0 (subst (λ (n : ℕ). Holds notes at.0 n c.place-at.result) (sym c.file-file.ensures.file) (subst (λ (n : ℕ). Holds notes at.0 (8 * t.part) n) (sym c.place-at.ensures) at.1))).ok))

pub returns-clause-looked : goal.returns-clause-looked
returns-clause-looked g c = λ a b scan.
    let shown = g.D.Disk.shown in
    let s = shown c.args.disk.now in
    let load = c.in_ok-i.ensures in
    let len : length c.frame.result.now ≡ s.page_len = c.frame.ensures.len ∙ load.stays.len ∙ c.requires.ready.len in
    let gave = subst (λ (n : ℕ). Given c.give.result n c.args.self.now.here c.give.new.self.here c.frame.result.now c.give.new.into.vid c.give.new.into.vertex) len c.give.ensures.given in
    look_on c.give.result c.args.self.now c.give.new.self c.args.desk.now c.load.new.self s (shown c.load.new.disk) a b c.file-file.result c.place-at.result c.in_ok-i.i c.frame.result.now c.give.new.into.vid c.give.new.into.vertex
    scan c.requires.togo c.file-file.ensures.file c.place-at.ensures load.shows load.brought.holds c.frame.ensures.bytes load.ok.touches.page_len gave c.give.ensures.on c.give.ensures.over

pub returns-clause-reads : goal.returns-clause-reads
returns-clause-reads g c =
    let shown = g.D.Disk.shown in
    let t = c.args.self.now in
    let notes = c.args.desk.now.cache.notes in
    let load = c.in_ok-i.ensures in
    let now : Holds c.load.new.self.notes c.in_ok-i.i (8 * t.part) t.at =
    subst (λ (n : ℕ). Holds c.load.new.self.notes c.in_ok-i.i n t.at) c.file-file.ensures.file (subst (λ (n : ℕ). Holds c.load.new.self.notes c.in_ok-i.i c.file-file.result n) c.place-at.ensures load.brought.holds) in
    read_ok t c.args.desk.now _ _ _ c.requires.togo
    (read_look c.give.result t c.give.new.self (record c.args.desk.now { cache = c.load.new.self }) 0 c.in_ok-i.i c.frame.result.now c.requires.togo now c.give.ensures.on c.give.ensures.over)
    load.ok.reads
    (λ held. let at = held_at notes (8 * t.part) t.at held in
    ap (λ (s : Shown). s.reads) (load.idle at.0 (subst (λ (n : ℕ). Holds notes at.0 n c.place-at.result) (sym c.file-file.ensures.file) (subst (λ (n : ℕ). Holds notes at.0 (8 * t.part) n) (sym c.place-at.ensures) at.1))).same)

pub returns-clause-done : goal.returns-clause-done
returns-clause-done g c =
    let shown = g.D.Disk.shown in
    let s = shown c.args.disk.now in
    let s' = shown c.load.new.disk in
    let load = c.in_ok-i.ensures in
    done_by true c.args.self.now.part c.args.desk.now c.load.new.self s s' c.requires.ready load.stays (clean_of 1 _ _ load.ok)
    (others_after _ _ _ _ _ _ _ c.file-file.ensures.file load.shows)

pub returns-clause-desk : goal.returns-clause-desk
returns-clause-desk g c = desk_by c.args.desk.now c.load.new.self c.load.ensures.stays
