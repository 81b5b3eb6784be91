use Rattle.std.proofs.Common.{arith, ◌≡◌, ◌≤◌, ◌+◌, ◌*◌, ◌∙◌, ℕ, sym, ap, subst, length, true}
use Rattle.std.proofs.lemmas.Bool.{OnTrue_at, OnTrue_from}
use Rattle.std.proofs.lemmas.Result.{err_from_is_err_and}
use Rattle.px_cache.specs.View.{AnyFile}
use Rattle.px_core.proofs.Steps.{clean_refl, clean_then}
use Rattle.px_meaning.specs.Graph.{Graph, room_of}
use Rattle.px_meaning.specs.GraphText.{graph_of}
use Rattle.px_meaning.specs.Merge.{Pairs}
use Rattle.px_runs.specs.Runs.{Ended}
use Rattle.px_load.specs.Held.{tuples}
use Rattle.px_load.specs.Loading.{FewLeaves}
use Rattle.px_load.specs.Reading.{vertices_of, AllBodies, HasRead}
use Rattle.px_load.specs.Stops.{IsLoadFile, IsLineRefusal, IsRefusal}
use Rattle.px_load.proofs.LoadingSteps.{bodies_permuted, sorted_meaning, sorted_count, sorted_length, good_same, pairs_refuse, pairs_refuse_line}
use Rattle.px_load.proofs.ReadingSteps.{refused_meaning, refused_line, good_lines}
use Rattle.px_load.proofs.Stopping.{stops_after, fault_refuses, fault_refuses_line}
use Rattle.px_load.proofs.loading.load_by.Goals as goal

pub returns-clause-loaded : goal.returns-clause-loaded
returns-clause-loaded g c = λ bytes left tells.
    let room : c.args.frames.now.vertex.room ≡ room_of (g.GD.Disk.shown c.args.graph.now).page_len = c.requires.frames.vertex ∙ ap room_of (sym c.requires.pages) in
    let read = subst (λ (n : ℕ). HasRead (g.R.Source.left c.read_text.new.source) (λ (l : Pairs). (g.SD.Disk.shown c.args.scratch.now).tells ≡ true → Ended (g.SD.Disk.shown c.read_text.new.disk) c.read_text.new.runs (tuples l)) n c.in_ok-count.count (graph_of bytes n c.args.limit)) room (c.in_ok-count.ensures.read bytes left) in
    let parted = c.in_ok-pages.ensures.parted read.pairs (read.gathered tells) in
    let same : room_of (g.GD.Disk.shown c.args.graph.now).page_len ≡ c.part_text.new.frames.vertex.room = sym (c.part_text.ensures.frames.vertex.room ∙ c.read_text.ensures.frames.vertex.room ∙ room) in
    let bodies = subst (λ (n : ℕ). AllBodies n parted.sorted) same (bodies_permuted _ read.pairs parted.sorted parted.all read.bodies) in
    let mine = read.meaning ∙ sorted_meaning read.pairs parted.sorted parted.ascends parted.all in
    record {
      graph = vertices_of parted.sorted;
      good = mine;
      hold = λ q st at told. c.in_ok-fill_all.ensures.holds parted.sorted bodies parted.ascends parted.hold told q st at;
      counted = read.count ∙ sym (sorted_count read.pairs parted.sorted parted.all);
    }

pub returns-clause-good_lines : goal.returns-clause-good_lines
returns-clause-good_lines g c = λ bytes left.
    let room : c.args.frames.now.vertex.room ≡ room_of (g.GD.Disk.shown c.args.graph.now).page_len = c.requires.frames.vertex ∙ ap room_of (sym c.requires.pages) in
    let read = subst (λ (n : ℕ). HasRead (g.R.Source.left c.read_text.new.source) (λ (l : Pairs). (g.SD.Disk.shown c.args.scratch.now).tells ≡ true → Ended (g.SD.Disk.shown c.read_text.new.disk) c.read_text.new.runs (tuples l)) n c.in_ok-count.count (graph_of bytes n c.args.limit)) room (c.in_ok-count.ensures.read bytes left) in
    good_lines _ read.pairs read.meaning

pub returns-clause-read : goal.returns-clause-read
returns-clause-read g c = λ bytes left. (c.in_ok-count.ensures.read bytes left).over

pub returns-clause-leaves : goal.returns-clause-leaves
returns-clause-leaves g c = OnTrue_from g.St.Store.counted _ (λ is. λ bytes gr left tells good.
    let room : c.args.frames.now.vertex.room ≡ room_of (g.GD.Disk.shown c.args.graph.now).page_len = c.requires.frames.vertex ∙ ap room_of (sym c.requires.pages) in
    let read = subst (λ (n : ℕ). HasRead (g.R.Source.left c.read_text.new.source) (λ (l : Pairs). (g.SD.Disk.shown c.args.scratch.now).tells ≡ true → Ended (g.SD.Disk.shown c.read_text.new.disk) c.read_text.new.runs (tuples l)) n c.in_ok-count.count (graph_of bytes n c.args.limit)) room (c.in_ok-count.ensures.read bytes left) in
    let parted = c.in_ok-pages.ensures.parted read.pairs (read.gathered tells) in
    let same : room_of (g.GD.Disk.shown c.args.graph.now).page_len ≡ c.part_text.new.frames.vertex.room = sym (c.part_text.ensures.frames.vertex.room ∙ c.read_text.ensures.frames.vertex.room ∙ room) in
    let bodies = subst (λ (n : ℕ). AllBodies n parted.sorted) same (bodies_permuted _ read.pairs parted.sorted parted.all read.bodies) in
    let mine = read.meaning ∙ sorted_meaning read.pairs parted.sorted parted.ascends parted.all in
    subst (λ (h : Graph). FewLeaves g.St.Store.leaves c.fill_all.new.stores h) (good_same _ gr (vertices_of parted.sorted) good mine) (OnTrue_at is c.in_ok-fill_all.ensures.leaves parted.sorted bodies parted.ascends parted.hold))

pub returns-clause-reads : goal.returns-clause-reads
returns-clause-reads g c = OnTrue_from g.St.Store.counted _ (λ is. λ bytes gr left tells good.
    let room : c.args.frames.now.vertex.room ≡ room_of (g.GD.Disk.shown c.args.graph.now).page_len = c.requires.frames.vertex ∙ ap room_of (sym c.requires.pages) in
    let read = subst (λ (n : ℕ). HasRead (g.R.Source.left c.read_text.new.source) (λ (l : Pairs). (g.SD.Disk.shown c.args.scratch.now).tells ≡ true → Ended (g.SD.Disk.shown c.read_text.new.disk) c.read_text.new.runs (tuples l)) n c.in_ok-count.count (graph_of bytes n c.args.limit)) room (c.in_ok-count.ensures.read bytes left) in
    let parted = c.in_ok-pages.ensures.parted read.pairs (read.gathered tells) in
    let same : room_of (g.GD.Disk.shown c.args.graph.now).page_len ≡ c.part_text.new.frames.vertex.room = sym (c.part_text.ensures.frames.vertex.room ∙ c.read_text.ensures.frames.vertex.room ∙ room) in
    let bodies = subst (λ (n : ℕ). AllBodies n parted.sorted) same (bodies_permuted _ read.pairs parted.sorted parted.all read.bodies) in
    let mine = read.meaning ∙ sorted_meaning read.pairs parted.sorted parted.ascends parted.all in
    let graph = g.GD.Disk.shown in
    subst (λ (h : Graph). (graph c.fill_all.new.graph).reads ≤ (graph c.args.graph.now).reads + 2 * length h) (good_same _ gr (vertices_of parted.sorted) good mine)
    (omega (arith, OnTrue_at is c.fill_all.ensures.reads parted.sorted bodies parted.ascends parted.hold, sorted_length parted.sorted)))

pub returns-in_err-fill_all-clause-reads : goal.returns-in_err-fill_all-clause-reads
returns-in_err-fill_all-clause-reads g c = OnTrue_from g.St.Store.counted _ (λ is. λ bytes gr left tells good.
    let room : c.args.frames.now.vertex.room ≡ room_of (g.GD.Disk.shown c.args.graph.now).page_len = c.requires.frames.vertex ∙ ap room_of (sym c.requires.pages) in
    let read = subst (λ (n : ℕ). HasRead (g.R.Source.left c.read_text.new.source) (λ (l : Pairs). (g.SD.Disk.shown c.args.scratch.now).tells ≡ true → Ended (g.SD.Disk.shown c.read_text.new.disk) c.read_text.new.runs (tuples l)) n c.in_ok-count.count (graph_of bytes n c.args.limit)) room (c.in_ok-count.ensures.read bytes left) in
    let parted = c.in_ok-pages.ensures.parted read.pairs (read.gathered tells) in
    let same : room_of (g.GD.Disk.shown c.args.graph.now).page_len ≡ c.part_text.new.frames.vertex.room = sym (c.part_text.ensures.frames.vertex.room ∙ c.read_text.ensures.frames.vertex.room ∙ room) in
    let bodies = subst (λ (n : ℕ). AllBodies n parted.sorted) same (bodies_permuted _ read.pairs parted.sorted parted.all read.bodies) in
    let mine = read.meaning ∙ sorted_meaning read.pairs parted.sorted parted.ascends parted.all in
    let graph = g.GD.Disk.shown in
    subst (λ (h : Graph). (graph c.fill_all.new.graph).reads ≤ (graph c.args.graph.now).reads + 2 * length h) (good_same _ gr (vertices_of parted.sorted) good mine)
    (omega (arith, OnTrue_at is c.fill_all.ensures.reads parted.sorted bodies parted.ascends parted.hold, sorted_length parted.sorted)))

pub returns-in_err-count-clause-refused : goal.returns-in_err-count-clause-refused
returns-in_err-count-clause-refused g c =
    let end = err_from_is_err_and c.from_residual.result c.from_residual.ensures.1 in
    let room : c.args.frames.now.vertex.room ≡ room_of (g.GD.Disk.shown c.args.graph.now).page_len = c.requires.frames.vertex ∙ ap room_of (sym c.requires.pages) in
    rw (end.1, end.2) (λ bytes left tells. subst (λ (n : ℕ). IsRefusal (graph_of bytes n c.args.limit) c.in_err-count.field-0.0) room (refused_meaning _ c.args.limit bytes c.in_err-count.field-0.0 (c.in_err-count.ensures.refused bytes left)))

pub returns-in_err-count-clause-refused_line : goal.returns-in_err-count-clause-refused_line
returns-in_err-count-clause-refused_line g c =
    let end = err_from_is_err_and c.from_residual.result c.from_residual.ensures.1 in
    let room : c.args.frames.now.vertex.room ≡ room_of (g.GD.Disk.shown c.args.graph.now).page_len = c.requires.frames.vertex ∙ ap room_of (sym c.requires.pages) in
    rw (end.1, end.2) (λ bytes left. subst (λ (n : ℕ). IsLineRefusal (graph_of bytes n c.args.limit) c.in_err-count.field-0.0) room (refused_line _ c.args.limit bytes c.in_err-count.field-0.0 (c.in_err-count.ensures.refused bytes left)))

pub returns-in_err-count-clause-read_whole : goal.returns-in_err-count-clause-read_whole
returns-in_err-count-clause-read_whole g c =
    let end = err_from_is_err_and c.from_residual.result c.from_residual.ensures.1 in
    rw (end.1, end.2) (λ after bytes left. absurd (c.in_err-count.ensures.early after bytes left))

pub returns-in_err-count-clause-err : goal.returns-in_err-count-clause-err
returns-in_err-count-clause-err g c =
    let end = err_from_is_err_and c.from_residual.result c.from_residual.ensures.1 in
    rw (end.1, end.2) (c.in_err-count.ensures.err (g.GD.Disk.shown c.args.graph.now))

pub returns-in_err-pages-clause-refused : goal.returns-in_err-pages-clause-refused
returns-in_err-pages-clause-refused g c =
    let end = err_from_is_err_and c.from_residual-in_err-pages.result c.from_residual-in_err-pages.ensures.1 in
    rw (end.1, end.2) (λ bytes left tells.
    let room : c.args.frames.now.vertex.room ≡ room_of (g.GD.Disk.shown c.args.graph.now).page_len = c.requires.frames.vertex ∙ ap room_of (sym c.requires.pages) in
    let read = subst (λ (n : ℕ). HasRead (g.R.Source.left c.read_text.new.source) (λ (l : Pairs). (g.SD.Disk.shown c.args.scratch.now).tells ≡ true → Ended (g.SD.Disk.shown c.read_text.new.disk) c.read_text.new.runs (tuples l)) n c.in_ok-count.count (graph_of bytes n c.args.limit)) room (c.in_ok-count.ensures.read bytes left) in
    pairs_refuse _ c.in_err-pages.field-0.0 read.pairs _ read.meaning (λ v twice. twice read.pairs (read.gathered tells)) c.in_err-pages.ensures.refused)

pub returns-in_err-pages-clause-refused_line : goal.returns-in_err-pages-clause-refused_line
returns-in_err-pages-clause-refused_line g c =
    let end = err_from_is_err_and c.from_residual-in_err-pages.result c.from_residual-in_err-pages.ensures.1 in
    rw (end.1, end.2) (λ bytes left.
    let room : c.args.frames.now.vertex.room ≡ room_of (g.GD.Disk.shown c.args.graph.now).page_len = c.requires.frames.vertex ∙ ap room_of (sym c.requires.pages) in
    let read = subst (λ (n : ℕ). HasRead (g.R.Source.left c.read_text.new.source) (λ (l : Pairs). (g.SD.Disk.shown c.args.scratch.now).tells ≡ true → Ended (g.SD.Disk.shown c.read_text.new.disk) c.read_text.new.runs (tuples l)) n c.in_ok-count.count (graph_of bytes n c.args.limit)) room (c.in_ok-count.ensures.read bytes left) in
    pairs_refuse_line _ c.in_err-pages.field-0.0 _ (good_lines _ read.pairs read.meaning) c.in_err-pages.ensures.refused)

pub returns-in_err-pages-clause-read_whole : goal.returns-in_err-pages-clause-read_whole
returns-in_err-pages-clause-read_whole g c =
    let end = err_from_is_err_and c.from_residual-in_err-pages.result c.from_residual-in_err-pages.ensures.1 in
    rw (end.1, end.2) (λ after bytes left. (c.in_ok-count.ensures.read bytes left).over)

pub returns-in_err-pages-clause-err : goal.returns-in_err-pages-clause-err
returns-in_err-pages-clause-err g c =
    let end = err_from_is_err_and c.from_residual-in_err-pages.result c.from_residual-in_err-pages.ensures.1 in
    rw (end.1, end.2) (stops_after _ _ _ _ _ _ _ _ _ _ c.in_ok-count.ensures.no_fault (clean_refl AnyFile _) c.in_ok-count.ensures.ok (c.in_err-pages.ensures.err _ _))

pub returns-in_err-fill_all-clause-read_whole : goal.returns-in_err-fill_all-clause-read_whole
returns-in_err-fill_all-clause-read_whole g c =
    let end = err_from_is_err_and c.from_residual-in_err-fill_all.result c.from_residual-in_err-fill_all.ensures.1 in
    rw (end.1, end.2) (λ after bytes left. (c.in_ok-count.ensures.read bytes left).over)

pub returns-in_err-fill_all-clause-err : goal.returns-in_err-fill_all-clause-err
returns-in_err-fill_all-clause-err g c =
    let end = err_from_is_err_and c.from_residual-in_err-fill_all.result c.from_residual-in_err-fill_all.ensures.1 in
    rw (end.1, end.2) (stops_after _ _ _ _ _ _ _ _ _ _ c.in_ok-count.ensures.no_fault (clean_refl AnyFile _) (clean_then IsLoadFile _ _ _ c.in_ok-count.ensures.ok c.in_ok-pages.ensures.ok) (c.in_err-fill_all.ensures.err _))

pub returns-in_err-fill_all-clause-refused : goal.returns-in_err-fill_all-clause-refused
returns-in_err-fill_all-clause-refused g c =
    let end = err_from_is_err_and c.from_residual-in_err-fill_all.result c.from_residual-in_err-fill_all.ensures.1 in
    rw (end.1, end.2) (λ bytes left tells.
    let room : c.args.frames.now.vertex.room ≡ room_of (g.GD.Disk.shown c.args.graph.now).page_len = c.requires.frames.vertex ∙ ap room_of (sym c.requires.pages) in
    let read = subst (λ (n : ℕ). HasRead (g.R.Source.left c.read_text.new.source) (λ (l : Pairs). (g.SD.Disk.shown c.args.scratch.now).tells ≡ true → Ended (g.SD.Disk.shown c.read_text.new.disk) c.read_text.new.runs (tuples l)) n c.in_ok-count.count (graph_of bytes n c.args.limit)) room (c.in_ok-count.ensures.read bytes left) in
    let parted = c.in_ok-pages.ensures.parted read.pairs (read.gathered tells) in
    let mine = read.meaning ∙ sorted_meaning read.pairs parted.sorted parted.ascends parted.all in
    fault_refuses _ c.in_err-fill_all.field-0.0 (vertices_of parted.sorted) mine c.in_err-fill_all.ensures.fault)

pub returns-in_err-fill_all-clause-refused_line : goal.returns-in_err-fill_all-clause-refused_line
returns-in_err-fill_all-clause-refused_line g c =
    let end = err_from_is_err_and c.from_residual-in_err-fill_all.result c.from_residual-in_err-fill_all.ensures.1 in
    rw (end.1, end.2) (λ bytes left.
    let room : c.args.frames.now.vertex.room ≡ room_of (g.GD.Disk.shown c.args.graph.now).page_len = c.requires.frames.vertex ∙ ap room_of (sym c.requires.pages) in
    let read = subst (λ (n : ℕ). HasRead (g.R.Source.left c.read_text.new.source) (λ (l : Pairs). (g.SD.Disk.shown c.args.scratch.now).tells ≡ true → Ended (g.SD.Disk.shown c.read_text.new.disk) c.read_text.new.runs (tuples l)) n c.in_ok-count.count (graph_of bytes n c.args.limit)) room (c.in_ok-count.ensures.read bytes left) in
    fault_refuses_line _ c.in_err-fill_all.field-0.0 (good_lines _ read.pairs read.meaning) c.in_err-fill_all.ensures.fault)
