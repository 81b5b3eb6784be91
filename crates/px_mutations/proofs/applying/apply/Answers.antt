use Rattle.std.proofs.Common.{◌≡◌, ◌≤◌, ◌+◌, ◌*◌, ◌++◌, [], ℕ, List, false, IsTrue, sym, ◌∙◌, ap, subst, inl, inr}
use Rattle.std.specs.Bool.{OnTrue}
use Rattle.std.proofs.lemmas.Bool.{or_left, or_right, or_from}
use Rattle.std.proofs.lemmas.Result.{err_from_is_err_and}
use Rattle.px_core.specs.Shown.{Only, Clean}
use Rattle.px_core.specs.declared.stop.Stop.TheVariants.{Scratch}
use Rattle.px_core.proofs.Keeping.{same_by_touches}
use Rattle.px_core.proofs.Steps.{clean_refl, clean_more, clean_then, broke_of, broke_more}
use Rattle.px_cache.specs.View.{AnyFile}
use Rattle.px_meaning.specs.Graph.{Graph, room_of}
use Rattle.px_meaning.specs.Merge.{MergeRule, Pairs, AllValid, grouped}
use Rattle.px_meaning.specs.Step.{put_all, settled, has_wide_vertex, has_wide_fold, has_many_vertices}
use Rattle.px_pages.specs.Entry.{Entry}
use Rattle.px_program.specs.Groups.{GroupMade, IsOwn, room_in}
use Rattle.px_stream.specs.Stream.{Took, ToGive}
use Rattle.px_stream.proofs.Kept.{took_same, to_give_same}
use Rattle.px_connectors.specs.Asking.{requests}
use Rattle.px_connectors.specs.Files.{OwnOr}
use Rattle.px_connectors.specs.Messages.{pairs_of}
use Rattle.px_store.specs.Joins.{vid_tuples}
use Rattle.px_mutations.specs.Applying.{settled_after, is_settling_beyond, Begun, IsSettled, OrRead, IsMerging, IsMerged}
use Rattle.px_mutations.proofs.Apart.{only_own, grouping_stops, grouping_more, phase_stops, scratch_stops}
use Rattle.px_mutations.proofs.Beginning.{pairs_requests, settled_grouped, touched_grouped, begins_merging, on_ok, on_ok_map, tally_stops}
use Rattle.px_mutations.proofs.applying.apply.Goals as goal

pub returns-in_err-take_pairs-clause-err : goal.returns-in_err-take_pairs-clause-err
returns-in_err-take_pairs-clause-err g c =
    let p = g.P.Program.meaning c.args.program.now in
    let s0 = g.SD.Disk.shown c.args.scratch.now in
    let d0 = g.GD.Disk.shown c.args.graph.now in
    let s1 = g.SD.Disk.shown c.take_pairs.new.disk in
    let made = g.G.Group.made c.args.group.now in
    let room = room_of s0.page_len in
    let room_is : room_in made ≡ room = ap room_of c.requires.group_len in
    let mine = IsSettled made c.args.vids.now.file in
    let more = OrRead c.args.updates.now.file c.args.requests.now.file mine in
    let rule = g.P.Verdict.Merge.rule c.verdict.result.now in
    let Starts = Begun p room c.args.tally.now (g.St.Store.holds c.args.store.now c.args.desk.now d0) (ToGive s0 c.args.updates.now) (ToGive s0 c.args.requests.now) (Took s0 c.args.vids.now) (g.G.Group.took s0 c.args.group.now p.verdict) in
    let end = err_from_is_err_and c.from_residual.result c.from_residual.ensures.1 in
    let stop : end.0 ≡ c.in_err-take_pairs.field-0.0 = cc in
    let Long : MergeRule → ℕ → Type 0 = λ k n. (ins : List Entry) (l : Pairs) → ToGive s0 c.args.requests.now ins → AllValid k (pairs_of ins) → g.G.Group.took s0 c.args.group.now k l → IsTrue (has_wide_fold k n (l ++ pairs_of ins)) in
    rw (end.1, stop) (grouping_stops more _ d0 d0 d0 s0 s0 s1 c.in_err-take_pairs.field-0.0 (clean_refl AnyFile d0) (clean_refl more s0) (Long rule (room_in made))
    (λ long l changes asked b. or_left _ _ (or_right (has_wide_vertex room (settled_after p l changes asked)) _ (subst (λ (k : Pairs). IsTrue (has_wide_fold p.verdict room k)) (pairs_requests asked)
    ((subst (Long p.verdict) room_is (subst (λ (k : MergeRule). Long k (room_in made)) c.verdict.ensures long)) (requests asked) [] b.requests_are (subst (AllValid p.verdict) (sym (pairs_requests asked)) b.is_ready.valid) b.group))))
    (clean_refl AnyFile d0) (grouping_more (OwnOr made c.args.requests.now.file) more _ s0 s1 c.in_err-take_pairs.field-0.0 (λ f own. elim own [ inl a ↦ inl (inl a) | inr a ↦ inr (inr a) ]) c.in_err-take_pairs.ensures.err))

pub returns-in_err-seal-clause-err : goal.returns-in_err-seal-clause-err
returns-in_err-seal-clause-err g c =
    let p = g.P.Program.meaning c.args.program.now in
    let s0 = g.SD.Disk.shown c.args.scratch.now in
    let d0 = g.GD.Disk.shown c.args.graph.now in
    let s1 = g.SD.Disk.shown c.take_pairs.new.disk in
    let made = g.G.Group.made c.args.group.now in
    let room = room_of s0.page_len in
    let room_is : room_in made ≡ room = ap room_of c.requires.group_len in
    let mine = IsSettled made c.args.vids.now.file in
    let more = OrRead c.args.updates.now.file c.args.requests.now.file mine in
    let rule = g.P.Verdict.Merge.rule c.verdict.result.now in
    let Starts = Begun p room c.args.tally.now (g.St.Store.holds c.args.store.now c.args.desk.now d0) (ToGive s0 c.args.updates.now) (ToGive s0 c.args.requests.now) (Took s0 c.args.vids.now) (g.G.Group.took s0 c.args.group.now p.verdict) in
    let group1 = c.take_pairs.new.group in
    let taken : Clean (IsOwn made) s0 s1 = c.in_ok-take_pairs.ensures.ok in
    let took : (l changes : Graph) (asked : Pairs) → Starts l changes asked → g.G.Group.took s1 group1 p.verdict asked = λ l changes asked b.
    subst (λ (k : Pairs). g.G.Group.took s1 group1 p.verdict k) (pairs_requests asked)
    ((subst (λ (k : MergeRule). (ins : List Entry) (l : Pairs) → ToGive s0 c.args.requests.now ins → AllValid k (pairs_of ins) → g.G.Group.took s0 c.args.group.now k l → g.G.Group.took s1 group1 k (l ++ pairs_of ins)) c.verdict.ensures c.in_ok-take_pairs.ensures.took)
    (requests asked) [] b.requests_are (subst (AllValid p.verdict) (sym (pairs_requests asked)) b.is_ready.valid) b.group) in
    let s2 = g.SD.Disk.shown c.seal.new.disk in
    let end = err_from_is_err_and c.from_residual-in_err-seal.result c.from_residual-in_err-seal.ensures.1 in
    let stop : end.0 ≡ c.in_err-seal.field-0.0 = cc in
    let Long : MergeRule → ℕ → Type 0 = λ k n. (l : Pairs) → g.G.Group.took s1 group1 k l → IsTrue (has_wide_fold k n l) in
    let room1 : room_in (g.G.Group.made group1) ≡ room = ap room_in c.take_pairs.ensures.stays ∙ room_is in
    rw (end.1, stop) (grouping_stops more _ d0 d0 d0 s0 s1 s2 c.in_err-seal.field-0.0 (clean_refl AnyFile d0) (clean_more (IsOwn made) more s0 s1 (λ f own. inl (inl own)) taken) (Long (g.P.Verdict.Merge.rule c.verdict-2.result.now) (room_in (g.G.Group.made group1)))
    (λ long l changes asked b. or_left _ _ (or_right (has_wide_vertex room (settled_after p l changes asked)) _
    ((subst (Long p.verdict) room1 (subst (λ (k : MergeRule). Long k (room_in (g.G.Group.made group1))) c.verdict-2.ensures long)) asked (took l changes asked b))))
    (clean_refl AnyFile d0) (grouping_more (IsOwn (g.G.Group.made group1)) more _ s1 s2 c.in_err-seal.field-0.0 (λ f own. inl (inl (subst (λ (k : GroupMade). IsOwn k f) c.take_pairs.ensures.stays own))) c.in_err-seal.ensures.err))

pub returns-in_err-counts-clause-err : goal.returns-in_err-counts-clause-err
returns-in_err-counts-clause-err g c =
    let p = g.P.Program.meaning c.args.program.now in
    let s0 = g.SD.Disk.shown c.args.scratch.now in
    let d0 = g.GD.Disk.shown c.args.graph.now in
    let s1 = g.SD.Disk.shown c.take_pairs.new.disk in
    let made = g.G.Group.made c.args.group.now in
    let room = room_of s0.page_len in
    let room_is : room_in made ≡ room = ap room_of c.requires.group_len in
    let mine = IsSettled made c.args.vids.now.file in
    let more = OrRead c.args.updates.now.file c.args.requests.now.file mine in
    let rule = g.P.Verdict.Merge.rule c.verdict.result.now in
    let Starts = Begun p room c.args.tally.now (g.St.Store.holds c.args.store.now c.args.desk.now d0) (ToGive s0 c.args.updates.now) (ToGive s0 c.args.requests.now) (Took s0 c.args.vids.now) (g.G.Group.took s0 c.args.group.now p.verdict) in
    let group1 = c.take_pairs.new.group in
    let taken : Clean (IsOwn made) s0 s1 = c.in_ok-take_pairs.ensures.ok in
    let took : (l changes : Graph) (asked : Pairs) → Starts l changes asked → g.G.Group.took s1 group1 p.verdict asked = λ l changes asked b.
    subst (λ (k : Pairs). g.G.Group.took s1 group1 p.verdict k) (pairs_requests asked)
    ((subst (λ (k : MergeRule). (ins : List Entry) (l : Pairs) → ToGive s0 c.args.requests.now ins → AllValid k (pairs_of ins) → g.G.Group.took s0 c.args.group.now k l → g.G.Group.took s1 group1 k (l ++ pairs_of ins)) c.verdict.ensures c.in_ok-take_pairs.ensures.took)
    (requests asked) [] b.requests_are (subst (AllValid p.verdict) (sym (pairs_requests asked)) b.is_ready.valid) b.group) in
    let s2 = g.SD.Disk.shown c.seal.new.disk in
    let group2 = c.seal.new.self in
    let own1 : (f : ℕ) → IsOwn (g.G.Group.made group1) f → IsOwn made f = λ f own. subst (λ (k : GroupMade). IsOwn k f) c.take_pairs.ensures.stays own in
    let sealed : Clean (IsOwn made) s0 s2 = clean_then (IsOwn made) s0 s1 s2 taken (clean_more (IsOwn (g.G.Group.made group1)) (IsOwn made) s1 s2 own1 c.in_ok-seal.ensures.ok) in
    let gives : (l changes : Graph) (asked : Pairs) → Starts l changes asked → g.G.Group.gives s2 group2 p.verdict asked (grouped p.verdict asked) = λ l changes asked b.
    (subst (λ (k : MergeRule). (l : Pairs) → g.G.Group.took s1 group1 k l → g.G.Group.gives s2 group2 k l (grouped k l)) c.verdict-2.ensures c.in_ok-seal.ensures.gives) asked (took l changes asked b) in
    let len2 : s2.page_len ≡ s0.page_len = sealed.touches.page_len in
    let Merges = λ (n : ℕ) (asked : Pairs) (l changes : Graph) (folds : Pairs). IsMerging p n (g.St.Store.holds c.args.store.now c.args.desk.now d0) (ToGive s2 c.args.updates.now) (g.G.Group.gives s2 group2 p.verdict asked) (Took s2 c.args.vids.now) l changes folds in
    let merging : (l changes : Graph) (asked : Pairs) → Starts l changes asked → Merges (room_of s2.page_len) asked l changes (grouped p.verdict asked) = λ l changes asked b.
    subst (λ (n : ℕ). Merges n asked l changes (grouped p.verdict asked)) (ap room_of (sym len2))
    (begins_merging p (g.met.P.Program.laws c.args.program.now).verdicts room c.args.tally.now _ (ToGive s0 c.args.updates.now) (ToGive s0 c.args.requests.now) (Took s0 c.args.vids.now) (ToGive s2 c.args.updates.now) (Took s2 c.args.vids.now) (g.G.Group.took s0 c.args.group.now p.verdict) (g.G.Group.gives s2 group2 p.verdict asked) l changes asked
    (λ es h. to_give_same s0 s2 c.args.updates.now es (same_by_touches (Only c.args.updates.now.file) (IsOwn made) s0 s2 (only_own made c.args.updates.now.file c.requires.apart.group_updates) sealed.touches) h)
    (λ es h. took_same s0 s2 c.args.vids.now es (same_by_touches (Only c.args.vids.now.file) (IsOwn made) s0 s2 (only_own made c.args.vids.now.file c.requires.apart.group_live) sealed.touches) h)
    (gives l changes asked b) b) in
    let s3 = g.SD.Disk.shown c.settle_all.new.scratch in
    let d3 = g.GD.Disk.shown c.settle_all.new.graph in
    let end = err_from_is_err_and c.from_residual-in_err-counts.result c.from_residual-in_err-counts.ensures.1 in
    let stop : end.0 ≡ c.in_err-counts.field-0.0 = cc in
    let Much : ℕ → Type 0 = λ n. (l changes : Graph) (asked folds : Pairs) → Merges n asked l changes folds → IsTrue (is_settling_beyond p n (settled p (put_all l changes) folds) asked) in
    rw (end.1, stop) (phase_stops _ more (Much (room_of s2.page_len)) _ d0 d0 d3 s0 s2 s3 c.in_err-counts.field-0.0
    (λ f own. elim own [
      | inl a ↦ inl (subst (λ (k : GroupMade). IsSettled k c.args.vids.now.file f) (c.seal.ensures.stays ∙ c.take_pairs.ensures.stays) a)
      | inr b ↦ elim b [ inl a ↦ inr (inl a) | inr a ↦ inr (inl a) ]
    ])
    (λ much l changes asked b. subst (λ (k : Graph). IsTrue (is_settling_beyond p room k asked)) (settled_grouped p (put_all l changes) asked)
    (subst (λ (n : ℕ). IsTrue (is_settling_beyond p n (settled p (put_all l changes) (grouped p.verdict asked)) asked)) (ap room_of len2) (much l changes asked (grouped p.verdict asked) (merging l changes asked b))))
    (clean_refl AnyFile d0) (clean_more (IsOwn made) more s0 s2 (λ f own. inl (inl own)) sealed) c.in_err-counts.ensures.err)

pub returns-in_err-finish-clause-err : goal.returns-in_err-finish-clause-err
returns-in_err-finish-clause-err g c =
    let p = g.P.Program.meaning c.args.program.now in
    let s0 = g.SD.Disk.shown c.args.scratch.now in
    let d0 = g.GD.Disk.shown c.args.graph.now in
    let s1 = g.SD.Disk.shown c.take_pairs.new.disk in
    let made = g.G.Group.made c.args.group.now in
    let room = room_of s0.page_len in
    let room_is : room_in made ≡ room = ap room_of c.requires.group_len in
    let mine = IsSettled made c.args.vids.now.file in
    let more = OrRead c.args.updates.now.file c.args.requests.now.file mine in
    let rule = g.P.Verdict.Merge.rule c.verdict.result.now in
    let Starts = Begun p room c.args.tally.now (g.St.Store.holds c.args.store.now c.args.desk.now d0) (ToGive s0 c.args.updates.now) (ToGive s0 c.args.requests.now) (Took s0 c.args.vids.now) (g.G.Group.took s0 c.args.group.now p.verdict) in
    let group1 = c.take_pairs.new.group in
    let taken : Clean (IsOwn made) s0 s1 = c.in_ok-take_pairs.ensures.ok in
    let took : (l changes : Graph) (asked : Pairs) → Starts l changes asked → g.G.Group.took s1 group1 p.verdict asked = λ l changes asked b.
    subst (λ (k : Pairs). g.G.Group.took s1 group1 p.verdict k) (pairs_requests asked)
    ((subst (λ (k : MergeRule). (ins : List Entry) (l : Pairs) → ToGive s0 c.args.requests.now ins → AllValid k (pairs_of ins) → g.G.Group.took s0 c.args.group.now k l → g.G.Group.took s1 group1 k (l ++ pairs_of ins)) c.verdict.ensures c.in_ok-take_pairs.ensures.took)
    (requests asked) [] b.requests_are (subst (AllValid p.verdict) (sym (pairs_requests asked)) b.is_ready.valid) b.group) in
    let s2 = g.SD.Disk.shown c.seal.new.disk in
    let group2 = c.seal.new.self in
    let own1 : (f : ℕ) → IsOwn (g.G.Group.made group1) f → IsOwn made f = λ f own. subst (λ (k : GroupMade). IsOwn k f) c.take_pairs.ensures.stays own in
    let sealed : Clean (IsOwn made) s0 s2 = clean_then (IsOwn made) s0 s1 s2 taken (clean_more (IsOwn (g.G.Group.made group1)) (IsOwn made) s1 s2 own1 c.in_ok-seal.ensures.ok) in
    let gives : (l changes : Graph) (asked : Pairs) → Starts l changes asked → g.G.Group.gives s2 group2 p.verdict asked (grouped p.verdict asked) = λ l changes asked b.
    (subst (λ (k : MergeRule). (l : Pairs) → g.G.Group.took s1 group1 k l → g.G.Group.gives s2 group2 k l (grouped k l)) c.verdict-2.ensures c.in_ok-seal.ensures.gives) asked (took l changes asked b) in
    let len2 : s2.page_len ≡ s0.page_len = sealed.touches.page_len in
    let Merges = λ (n : ℕ) (asked : Pairs) (l changes : Graph) (folds : Pairs). IsMerging p n (g.St.Store.holds c.args.store.now c.args.desk.now d0) (ToGive s2 c.args.updates.now) (g.G.Group.gives s2 group2 p.verdict asked) (Took s2 c.args.vids.now) l changes folds in
    let merging : (l changes : Graph) (asked : Pairs) → Starts l changes asked → Merges (room_of s2.page_len) asked l changes (grouped p.verdict asked) = λ l changes asked b.
    subst (λ (n : ℕ). Merges n asked l changes (grouped p.verdict asked)) (ap room_of (sym len2))
    (begins_merging p (g.met.P.Program.laws c.args.program.now).verdicts room c.args.tally.now _ (ToGive s0 c.args.updates.now) (ToGive s0 c.args.requests.now) (Took s0 c.args.vids.now) (ToGive s2 c.args.updates.now) (Took s2 c.args.vids.now) (g.G.Group.took s0 c.args.group.now p.verdict) (g.G.Group.gives s2 group2 p.verdict asked) l changes asked
    (λ es h. to_give_same s0 s2 c.args.updates.now es (same_by_touches (Only c.args.updates.now.file) (IsOwn made) s0 s2 (only_own made c.args.updates.now.file c.requires.apart.group_updates) sealed.touches) h)
    (λ es h. took_same s0 s2 c.args.vids.now es (same_by_touches (Only c.args.vids.now.file) (IsOwn made) s0 s2 (only_own made c.args.vids.now.file c.requires.apart.group_live) sealed.touches) h)
    (gives l changes asked b) b) in
    let s3 = g.SD.Disk.shown c.settle_all.new.scratch in
    let d3 = g.GD.Disk.shown c.settle_all.new.graph in
    let merged : (l changes : Graph) (asked : Pairs) → Starts l changes asked → IsMerged room (has_wide_fold p.verdict room asked ≡ false) (g.St.Store.holds c.settle_all.new.store c.settle_all.new.desk d3) (Took s3 c.settle_all.new.vids) l (settled_after p l changes asked) c.in_ok-counts.counts = λ l changes asked b.
    subst (λ (k : Graph). IsMerged room (has_wide_fold p.verdict room asked ≡ false) (g.St.Store.holds c.settle_all.new.store c.settle_all.new.desk d3) (Took s3 c.settle_all.new.vids) l k c.in_ok-counts.counts) (settled_grouped p (put_all l changes) asked)
    (subst (λ (n : ℕ). IsMerged n (has_wide_fold p.verdict n asked ≡ false) (g.St.Store.holds c.settle_all.new.store c.settle_all.new.desk d3) (Took s3 c.settle_all.new.vids) l (settled p (put_all l changes) (grouped p.verdict asked)) c.in_ok-counts.counts) (ap room_of len2)
    (c.in_ok-counts.ensures.merged l changes asked (grouped p.verdict asked) (merging l changes asked b))) in
    let own2 : (f : ℕ) → IsSettled (g.G.Group.made group2) c.args.vids.now.file f → mine f = λ f own. subst (λ (k : GroupMade). IsSettled k c.args.vids.now.file f) (c.seal.ensures.stays ∙ c.take_pairs.ensures.stays) own in
    let settled_clean : Clean mine s0 s3 = clean_then mine s0 s2 s3 (clean_more (IsOwn made) mine s0 s2 (λ f own. inl own) sealed) (clean_more (IsSettled (g.G.Group.made group2) c.args.vids.now.file) mine s2 s3 own2 c.in_ok-counts.ensures.ok) in
    let end = err_from_is_err_and c.from_residual-in_err-finish.result c.from_residual-in_err-finish.ensures.1 in
    let stop : end.0 ≡ c.in_err-finish.field-0.0 = cc in
    let s4 = g.SD.Disk.shown c.finish.new.disk in
    rw (end.1, stop) (scratch_stops more _ d0 d3 d3 s0 s3 s4 c.in_err-finish.field-0.0 c.in_ok-counts.ensures.done.clean (clean_more mine more s0 s3 (λ f own. inl own) settled_clean) (clean_refl AnyFile d3)
    (broke_more Scratch (Only c.settle_all.new.vids.file) more s3 s4 c.in_err-finish.field-0.0 (λ f is. inl (inr (is ∙ c.settle_all.ensures.vids_file))) (broke_of Scratch (Only c.settle_all.new.vids.file) 0 0 s3 s4 c.in_err-finish.field-0.0 c.in_err-finish.ensures.err)))

pub returns-in_err-counts-clause-leaves : goal.returns-in_err-counts-clause-leaves
returns-in_err-counts-clause-leaves g c = λ l changes asked b.
    let p = g.P.Program.meaning c.args.program.now in
    let s0 = g.SD.Disk.shown c.args.scratch.now in
    let d0 = g.GD.Disk.shown c.args.graph.now in
    let s1 = g.SD.Disk.shown c.take_pairs.new.disk in
    let made = g.G.Group.made c.args.group.now in
    let room = room_of s0.page_len in
    let room_is : room_in made ≡ room = ap room_of c.requires.group_len in
    let mine = IsSettled made c.args.vids.now.file in
    let more = OrRead c.args.updates.now.file c.args.requests.now.file mine in
    let rule = g.P.Verdict.Merge.rule c.verdict.result.now in
    let Starts = Begun p room c.args.tally.now (g.St.Store.holds c.args.store.now c.args.desk.now d0) (ToGive s0 c.args.updates.now) (ToGive s0 c.args.requests.now) (Took s0 c.args.vids.now) (g.G.Group.took s0 c.args.group.now p.verdict) in
    let group1 = c.take_pairs.new.group in
    let taken : Clean (IsOwn made) s0 s1 = c.in_ok-take_pairs.ensures.ok in
    let took : (l changes : Graph) (asked : Pairs) → Starts l changes asked → g.G.Group.took s1 group1 p.verdict asked = λ l changes asked b.
    subst (λ (k : Pairs). g.G.Group.took s1 group1 p.verdict k) (pairs_requests asked)
    ((subst (λ (k : MergeRule). (ins : List Entry) (l : Pairs) → ToGive s0 c.args.requests.now ins → AllValid k (pairs_of ins) → g.G.Group.took s0 c.args.group.now k l → g.G.Group.took s1 group1 k (l ++ pairs_of ins)) c.verdict.ensures c.in_ok-take_pairs.ensures.took)
    (requests asked) [] b.requests_are (subst (AllValid p.verdict) (sym (pairs_requests asked)) b.is_ready.valid) b.group) in
    let s2 = g.SD.Disk.shown c.seal.new.disk in
    let group2 = c.seal.new.self in
    let own1 : (f : ℕ) → IsOwn (g.G.Group.made group1) f → IsOwn made f = λ f own. subst (λ (k : GroupMade). IsOwn k f) c.take_pairs.ensures.stays own in
    let sealed : Clean (IsOwn made) s0 s2 = clean_then (IsOwn made) s0 s1 s2 taken (clean_more (IsOwn (g.G.Group.made group1)) (IsOwn made) s1 s2 own1 c.in_ok-seal.ensures.ok) in
    let gives : (l changes : Graph) (asked : Pairs) → Starts l changes asked → g.G.Group.gives s2 group2 p.verdict asked (grouped p.verdict asked) = λ l changes asked b.
    (subst (λ (k : MergeRule). (l : Pairs) → g.G.Group.took s1 group1 k l → g.G.Group.gives s2 group2 k l (grouped k l)) c.verdict-2.ensures c.in_ok-seal.ensures.gives) asked (took l changes asked b) in
    let len2 : s2.page_len ≡ s0.page_len = sealed.touches.page_len in
    let Merges = λ (n : ℕ) (asked : Pairs) (l changes : Graph) (folds : Pairs). IsMerging p n (g.St.Store.holds c.args.store.now c.args.desk.now d0) (ToGive s2 c.args.updates.now) (g.G.Group.gives s2 group2 p.verdict asked) (Took s2 c.args.vids.now) l changes folds in
    let merging : (l changes : Graph) (asked : Pairs) → Starts l changes asked → Merges (room_of s2.page_len) asked l changes (grouped p.verdict asked) = λ l changes asked b.
    subst (λ (n : ℕ). Merges n asked l changes (grouped p.verdict asked)) (ap room_of (sym len2))
    (begins_merging p (g.met.P.Program.laws c.args.program.now).verdicts room c.args.tally.now _ (ToGive s0 c.args.updates.now) (ToGive s0 c.args.requests.now) (Took s0 c.args.vids.now) (ToGive s2 c.args.updates.now) (Took s2 c.args.vids.now) (g.G.Group.took s0 c.args.group.now p.verdict) (g.G.Group.gives s2 group2 p.verdict asked) l changes asked
    (λ es h. to_give_same s0 s2 c.args.updates.now es (same_by_touches (Only c.args.updates.now.file) (IsOwn made) s0 s2 (only_own made c.args.updates.now.file c.requires.apart.group_updates) sealed.touches) h)
    (λ es h. took_same s0 s2 c.args.vids.now es (same_by_touches (Only c.args.vids.now.file) (IsOwn made) s0 s2 (only_own made c.args.vids.now.file c.requires.apart.group_live) sealed.touches) h)
    (gives l changes asked b) b) in
    let s3 = g.SD.Disk.shown c.settle_all.new.scratch in
    let d3 = g.GD.Disk.shown c.settle_all.new.graph in
    subst (λ (n : ℕ). OnTrue g.St.Store.counted (g.St.Store.leaves c.settle_all.new.store ≤ g.St.Store.leaves c.args.store.now + n)) (touched_grouped p changes asked) (c.settle_all.ensures.leaves l changes asked (grouped p.verdict asked) (merging l changes asked b))

pub returns-in_err-counts-clause-reads : goal.returns-in_err-counts-clause-reads
returns-in_err-counts-clause-reads g c = λ l changes asked b.
    let p = g.P.Program.meaning c.args.program.now in
    let s0 = g.SD.Disk.shown c.args.scratch.now in
    let d0 = g.GD.Disk.shown c.args.graph.now in
    let s1 = g.SD.Disk.shown c.take_pairs.new.disk in
    let made = g.G.Group.made c.args.group.now in
    let room = room_of s0.page_len in
    let room_is : room_in made ≡ room = ap room_of c.requires.group_len in
    let mine = IsSettled made c.args.vids.now.file in
    let more = OrRead c.args.updates.now.file c.args.requests.now.file mine in
    let rule = g.P.Verdict.Merge.rule c.verdict.result.now in
    let Starts = Begun p room c.args.tally.now (g.St.Store.holds c.args.store.now c.args.desk.now d0) (ToGive s0 c.args.updates.now) (ToGive s0 c.args.requests.now) (Took s0 c.args.vids.now) (g.G.Group.took s0 c.args.group.now p.verdict) in
    let group1 = c.take_pairs.new.group in
    let taken : Clean (IsOwn made) s0 s1 = c.in_ok-take_pairs.ensures.ok in
    let took : (l changes : Graph) (asked : Pairs) → Starts l changes asked → g.G.Group.took s1 group1 p.verdict asked = λ l changes asked b.
    subst (λ (k : Pairs). g.G.Group.took s1 group1 p.verdict k) (pairs_requests asked)
    ((subst (λ (k : MergeRule). (ins : List Entry) (l : Pairs) → ToGive s0 c.args.requests.now ins → AllValid k (pairs_of ins) → g.G.Group.took s0 c.args.group.now k l → g.G.Group.took s1 group1 k (l ++ pairs_of ins)) c.verdict.ensures c.in_ok-take_pairs.ensures.took)
    (requests asked) [] b.requests_are (subst (AllValid p.verdict) (sym (pairs_requests asked)) b.is_ready.valid) b.group) in
    let s2 = g.SD.Disk.shown c.seal.new.disk in
    let group2 = c.seal.new.self in
    let own1 : (f : ℕ) → IsOwn (g.G.Group.made group1) f → IsOwn made f = λ f own. subst (λ (k : GroupMade). IsOwn k f) c.take_pairs.ensures.stays own in
    let sealed : Clean (IsOwn made) s0 s2 = clean_then (IsOwn made) s0 s1 s2 taken (clean_more (IsOwn (g.G.Group.made group1)) (IsOwn made) s1 s2 own1 c.in_ok-seal.ensures.ok) in
    let gives : (l changes : Graph) (asked : Pairs) → Starts l changes asked → g.G.Group.gives s2 group2 p.verdict asked (grouped p.verdict asked) = λ l changes asked b.
    (subst (λ (k : MergeRule). (l : Pairs) → g.G.Group.took s1 group1 k l → g.G.Group.gives s2 group2 k l (grouped k l)) c.verdict-2.ensures c.in_ok-seal.ensures.gives) asked (took l changes asked b) in
    let len2 : s2.page_len ≡ s0.page_len = sealed.touches.page_len in
    let Merges = λ (n : ℕ) (asked : Pairs) (l changes : Graph) (folds : Pairs). IsMerging p n (g.St.Store.holds c.args.store.now c.args.desk.now d0) (ToGive s2 c.args.updates.now) (g.G.Group.gives s2 group2 p.verdict asked) (Took s2 c.args.vids.now) l changes folds in
    let merging : (l changes : Graph) (asked : Pairs) → Starts l changes asked → Merges (room_of s2.page_len) asked l changes (grouped p.verdict asked) = λ l changes asked b.
    subst (λ (n : ℕ). Merges n asked l changes (grouped p.verdict asked)) (ap room_of (sym len2))
    (begins_merging p (g.met.P.Program.laws c.args.program.now).verdicts room c.args.tally.now _ (ToGive s0 c.args.updates.now) (ToGive s0 c.args.requests.now) (Took s0 c.args.vids.now) (ToGive s2 c.args.updates.now) (Took s2 c.args.vids.now) (g.G.Group.took s0 c.args.group.now p.verdict) (g.G.Group.gives s2 group2 p.verdict asked) l changes asked
    (λ es h. to_give_same s0 s2 c.args.updates.now es (same_by_touches (Only c.args.updates.now.file) (IsOwn made) s0 s2 (only_own made c.args.updates.now.file c.requires.apart.group_updates) sealed.touches) h)
    (λ es h. took_same s0 s2 c.args.vids.now es (same_by_touches (Only c.args.vids.now.file) (IsOwn made) s0 s2 (only_own made c.args.vids.now.file c.requires.apart.group_live) sealed.touches) h)
    (gives l changes asked b) b) in
    let s3 = g.SD.Disk.shown c.settle_all.new.scratch in
    let d3 = g.GD.Disk.shown c.settle_all.new.graph in
    subst (λ (n : ℕ). OnTrue g.St.Store.counted (d3.reads ≤ d0.reads + 192 * n)) (touched_grouped p changes asked) (c.settle_all.ensures.reads l changes asked (grouped p.verdict asked) (merging l changes asked b))

pub returns-in_err-finish-clause-leaves : goal.returns-in_err-finish-clause-leaves
returns-in_err-finish-clause-leaves g c = λ l changes asked b.
    let p = g.P.Program.meaning c.args.program.now in
    let s0 = g.SD.Disk.shown c.args.scratch.now in
    let d0 = g.GD.Disk.shown c.args.graph.now in
    let s1 = g.SD.Disk.shown c.take_pairs.new.disk in
    let made = g.G.Group.made c.args.group.now in
    let room = room_of s0.page_len in
    let room_is : room_in made ≡ room = ap room_of c.requires.group_len in
    let mine = IsSettled made c.args.vids.now.file in
    let more = OrRead c.args.updates.now.file c.args.requests.now.file mine in
    let rule = g.P.Verdict.Merge.rule c.verdict.result.now in
    let Starts = Begun p room c.args.tally.now (g.St.Store.holds c.args.store.now c.args.desk.now d0) (ToGive s0 c.args.updates.now) (ToGive s0 c.args.requests.now) (Took s0 c.args.vids.now) (g.G.Group.took s0 c.args.group.now p.verdict) in
    let group1 = c.take_pairs.new.group in
    let taken : Clean (IsOwn made) s0 s1 = c.in_ok-take_pairs.ensures.ok in
    let took : (l changes : Graph) (asked : Pairs) → Starts l changes asked → g.G.Group.took s1 group1 p.verdict asked = λ l changes asked b.
    subst (λ (k : Pairs). g.G.Group.took s1 group1 p.verdict k) (pairs_requests asked)
    ((subst (λ (k : MergeRule). (ins : List Entry) (l : Pairs) → ToGive s0 c.args.requests.now ins → AllValid k (pairs_of ins) → g.G.Group.took s0 c.args.group.now k l → g.G.Group.took s1 group1 k (l ++ pairs_of ins)) c.verdict.ensures c.in_ok-take_pairs.ensures.took)
    (requests asked) [] b.requests_are (subst (AllValid p.verdict) (sym (pairs_requests asked)) b.is_ready.valid) b.group) in
    let s2 = g.SD.Disk.shown c.seal.new.disk in
    let group2 = c.seal.new.self in
    let own1 : (f : ℕ) → IsOwn (g.G.Group.made group1) f → IsOwn made f = λ f own. subst (λ (k : GroupMade). IsOwn k f) c.take_pairs.ensures.stays own in
    let sealed : Clean (IsOwn made) s0 s2 = clean_then (IsOwn made) s0 s1 s2 taken (clean_more (IsOwn (g.G.Group.made group1)) (IsOwn made) s1 s2 own1 c.in_ok-seal.ensures.ok) in
    let gives : (l changes : Graph) (asked : Pairs) → Starts l changes asked → g.G.Group.gives s2 group2 p.verdict asked (grouped p.verdict asked) = λ l changes asked b.
    (subst (λ (k : MergeRule). (l : Pairs) → g.G.Group.took s1 group1 k l → g.G.Group.gives s2 group2 k l (grouped k l)) c.verdict-2.ensures c.in_ok-seal.ensures.gives) asked (took l changes asked b) in
    let len2 : s2.page_len ≡ s0.page_len = sealed.touches.page_len in
    let Merges = λ (n : ℕ) (asked : Pairs) (l changes : Graph) (folds : Pairs). IsMerging p n (g.St.Store.holds c.args.store.now c.args.desk.now d0) (ToGive s2 c.args.updates.now) (g.G.Group.gives s2 group2 p.verdict asked) (Took s2 c.args.vids.now) l changes folds in
    let merging : (l changes : Graph) (asked : Pairs) → Starts l changes asked → Merges (room_of s2.page_len) asked l changes (grouped p.verdict asked) = λ l changes asked b.
    subst (λ (n : ℕ). Merges n asked l changes (grouped p.verdict asked)) (ap room_of (sym len2))
    (begins_merging p (g.met.P.Program.laws c.args.program.now).verdicts room c.args.tally.now _ (ToGive s0 c.args.updates.now) (ToGive s0 c.args.requests.now) (Took s0 c.args.vids.now) (ToGive s2 c.args.updates.now) (Took s2 c.args.vids.now) (g.G.Group.took s0 c.args.group.now p.verdict) (g.G.Group.gives s2 group2 p.verdict asked) l changes asked
    (λ es h. to_give_same s0 s2 c.args.updates.now es (same_by_touches (Only c.args.updates.now.file) (IsOwn made) s0 s2 (only_own made c.args.updates.now.file c.requires.apart.group_updates) sealed.touches) h)
    (λ es h. took_same s0 s2 c.args.vids.now es (same_by_touches (Only c.args.vids.now.file) (IsOwn made) s0 s2 (only_own made c.args.vids.now.file c.requires.apart.group_live) sealed.touches) h)
    (gives l changes asked b) b) in
    let s3 = g.SD.Disk.shown c.settle_all.new.scratch in
    let d3 = g.GD.Disk.shown c.settle_all.new.graph in
    subst (λ (n : ℕ). OnTrue g.St.Store.counted (g.St.Store.leaves c.settle_all.new.store ≤ g.St.Store.leaves c.args.store.now + n)) (touched_grouped p changes asked) (c.settle_all.ensures.leaves l changes asked (grouped p.verdict asked) (merging l changes asked b))

pub returns-in_err-finish-clause-reads : goal.returns-in_err-finish-clause-reads
returns-in_err-finish-clause-reads g c = λ l changes asked b.
    let p = g.P.Program.meaning c.args.program.now in
    let s0 = g.SD.Disk.shown c.args.scratch.now in
    let d0 = g.GD.Disk.shown c.args.graph.now in
    let s1 = g.SD.Disk.shown c.take_pairs.new.disk in
    let made = g.G.Group.made c.args.group.now in
    let room = room_of s0.page_len in
    let room_is : room_in made ≡ room = ap room_of c.requires.group_len in
    let mine = IsSettled made c.args.vids.now.file in
    let more = OrRead c.args.updates.now.file c.args.requests.now.file mine in
    let rule = g.P.Verdict.Merge.rule c.verdict.result.now in
    let Starts = Begun p room c.args.tally.now (g.St.Store.holds c.args.store.now c.args.desk.now d0) (ToGive s0 c.args.updates.now) (ToGive s0 c.args.requests.now) (Took s0 c.args.vids.now) (g.G.Group.took s0 c.args.group.now p.verdict) in
    let group1 = c.take_pairs.new.group in
    let taken : Clean (IsOwn made) s0 s1 = c.in_ok-take_pairs.ensures.ok in
    let took : (l changes : Graph) (asked : Pairs) → Starts l changes asked → g.G.Group.took s1 group1 p.verdict asked = λ l changes asked b.
    subst (λ (k : Pairs). g.G.Group.took s1 group1 p.verdict k) (pairs_requests asked)
    ((subst (λ (k : MergeRule). (ins : List Entry) (l : Pairs) → ToGive s0 c.args.requests.now ins → AllValid k (pairs_of ins) → g.G.Group.took s0 c.args.group.now k l → g.G.Group.took s1 group1 k (l ++ pairs_of ins)) c.verdict.ensures c.in_ok-take_pairs.ensures.took)
    (requests asked) [] b.requests_are (subst (AllValid p.verdict) (sym (pairs_requests asked)) b.is_ready.valid) b.group) in
    let s2 = g.SD.Disk.shown c.seal.new.disk in
    let group2 = c.seal.new.self in
    let own1 : (f : ℕ) → IsOwn (g.G.Group.made group1) f → IsOwn made f = λ f own. subst (λ (k : GroupMade). IsOwn k f) c.take_pairs.ensures.stays own in
    let sealed : Clean (IsOwn made) s0 s2 = clean_then (IsOwn made) s0 s1 s2 taken (clean_more (IsOwn (g.G.Group.made group1)) (IsOwn made) s1 s2 own1 c.in_ok-seal.ensures.ok) in
    let gives : (l changes : Graph) (asked : Pairs) → Starts l changes asked → g.G.Group.gives s2 group2 p.verdict asked (grouped p.verdict asked) = λ l changes asked b.
    (subst (λ (k : MergeRule). (l : Pairs) → g.G.Group.took s1 group1 k l → g.G.Group.gives s2 group2 k l (grouped k l)) c.verdict-2.ensures c.in_ok-seal.ensures.gives) asked (took l changes asked b) in
    let len2 : s2.page_len ≡ s0.page_len = sealed.touches.page_len in
    let Merges = λ (n : ℕ) (asked : Pairs) (l changes : Graph) (folds : Pairs). IsMerging p n (g.St.Store.holds c.args.store.now c.args.desk.now d0) (ToGive s2 c.args.updates.now) (g.G.Group.gives s2 group2 p.verdict asked) (Took s2 c.args.vids.now) l changes folds in
    let merging : (l changes : Graph) (asked : Pairs) → Starts l changes asked → Merges (room_of s2.page_len) asked l changes (grouped p.verdict asked) = λ l changes asked b.
    subst (λ (n : ℕ). Merges n asked l changes (grouped p.verdict asked)) (ap room_of (sym len2))
    (begins_merging p (g.met.P.Program.laws c.args.program.now).verdicts room c.args.tally.now _ (ToGive s0 c.args.updates.now) (ToGive s0 c.args.requests.now) (Took s0 c.args.vids.now) (ToGive s2 c.args.updates.now) (Took s2 c.args.vids.now) (g.G.Group.took s0 c.args.group.now p.verdict) (g.G.Group.gives s2 group2 p.verdict asked) l changes asked
    (λ es h. to_give_same s0 s2 c.args.updates.now es (same_by_touches (Only c.args.updates.now.file) (IsOwn made) s0 s2 (only_own made c.args.updates.now.file c.requires.apart.group_updates) sealed.touches) h)
    (λ es h. took_same s0 s2 c.args.vids.now es (same_by_touches (Only c.args.vids.now.file) (IsOwn made) s0 s2 (only_own made c.args.vids.now.file c.requires.apart.group_live) sealed.touches) h)
    (gives l changes asked b) b) in
    let s3 = g.SD.Disk.shown c.settle_all.new.scratch in
    let d3 = g.GD.Disk.shown c.settle_all.new.graph in
    subst (λ (n : ℕ). OnTrue g.St.Store.counted (d3.reads ≤ d0.reads + 192 * n)) (touched_grouped p changes asked) (c.settle_all.ensures.reads l changes asked (grouped p.verdict asked) (merging l changes asked b))

pub returns-clause-leaves : goal.returns-clause-leaves
returns-clause-leaves g c = λ l changes asked b.
    let p = g.P.Program.meaning c.args.program.now in
    let s0 = g.SD.Disk.shown c.args.scratch.now in
    let d0 = g.GD.Disk.shown c.args.graph.now in
    let s1 = g.SD.Disk.shown c.take_pairs.new.disk in
    let made = g.G.Group.made c.args.group.now in
    let room = room_of s0.page_len in
    let room_is : room_in made ≡ room = ap room_of c.requires.group_len in
    let mine = IsSettled made c.args.vids.now.file in
    let more = OrRead c.args.updates.now.file c.args.requests.now.file mine in
    let rule = g.P.Verdict.Merge.rule c.verdict.result.now in
    let Starts = Begun p room c.args.tally.now (g.St.Store.holds c.args.store.now c.args.desk.now d0) (ToGive s0 c.args.updates.now) (ToGive s0 c.args.requests.now) (Took s0 c.args.vids.now) (g.G.Group.took s0 c.args.group.now p.verdict) in
    let group1 = c.take_pairs.new.group in
    let taken : Clean (IsOwn made) s0 s1 = c.in_ok-take_pairs.ensures.ok in
    let took : (l changes : Graph) (asked : Pairs) → Starts l changes asked → g.G.Group.took s1 group1 p.verdict asked = λ l changes asked b.
    subst (λ (k : Pairs). g.G.Group.took s1 group1 p.verdict k) (pairs_requests asked)
    ((subst (λ (k : MergeRule). (ins : List Entry) (l : Pairs) → ToGive s0 c.args.requests.now ins → AllValid k (pairs_of ins) → g.G.Group.took s0 c.args.group.now k l → g.G.Group.took s1 group1 k (l ++ pairs_of ins)) c.verdict.ensures c.in_ok-take_pairs.ensures.took)
    (requests asked) [] b.requests_are (subst (AllValid p.verdict) (sym (pairs_requests asked)) b.is_ready.valid) b.group) in
    let s2 = g.SD.Disk.shown c.seal.new.disk in
    let group2 = c.seal.new.self in
    let own1 : (f : ℕ) → IsOwn (g.G.Group.made group1) f → IsOwn made f = λ f own. subst (λ (k : GroupMade). IsOwn k f) c.take_pairs.ensures.stays own in
    let sealed : Clean (IsOwn made) s0 s2 = clean_then (IsOwn made) s0 s1 s2 taken (clean_more (IsOwn (g.G.Group.made group1)) (IsOwn made) s1 s2 own1 c.in_ok-seal.ensures.ok) in
    let gives : (l changes : Graph) (asked : Pairs) → Starts l changes asked → g.G.Group.gives s2 group2 p.verdict asked (grouped p.verdict asked) = λ l changes asked b.
    (subst (λ (k : MergeRule). (l : Pairs) → g.G.Group.took s1 group1 k l → g.G.Group.gives s2 group2 k l (grouped k l)) c.verdict-2.ensures c.in_ok-seal.ensures.gives) asked (took l changes asked b) in
    let len2 : s2.page_len ≡ s0.page_len = sealed.touches.page_len in
    let Merges = λ (n : ℕ) (asked : Pairs) (l changes : Graph) (folds : Pairs). IsMerging p n (g.St.Store.holds c.args.store.now c.args.desk.now d0) (ToGive s2 c.args.updates.now) (g.G.Group.gives s2 group2 p.verdict asked) (Took s2 c.args.vids.now) l changes folds in
    let merging : (l changes : Graph) (asked : Pairs) → Starts l changes asked → Merges (room_of s2.page_len) asked l changes (grouped p.verdict asked) = λ l changes asked b.
    subst (λ (n : ℕ). Merges n asked l changes (grouped p.verdict asked)) (ap room_of (sym len2))
    (begins_merging p (g.met.P.Program.laws c.args.program.now).verdicts room c.args.tally.now _ (ToGive s0 c.args.updates.now) (ToGive s0 c.args.requests.now) (Took s0 c.args.vids.now) (ToGive s2 c.args.updates.now) (Took s2 c.args.vids.now) (g.G.Group.took s0 c.args.group.now p.verdict) (g.G.Group.gives s2 group2 p.verdict asked) l changes asked
    (λ es h. to_give_same s0 s2 c.args.updates.now es (same_by_touches (Only c.args.updates.now.file) (IsOwn made) s0 s2 (only_own made c.args.updates.now.file c.requires.apart.group_updates) sealed.touches) h)
    (λ es h. took_same s0 s2 c.args.vids.now es (same_by_touches (Only c.args.vids.now.file) (IsOwn made) s0 s2 (only_own made c.args.vids.now.file c.requires.apart.group_live) sealed.touches) h)
    (gives l changes asked b) b) in
    let s3 = g.SD.Disk.shown c.settle_all.new.scratch in
    let d3 = g.GD.Disk.shown c.settle_all.new.graph in
    subst (λ (n : ℕ). OnTrue g.St.Store.counted (g.St.Store.leaves c.settle_all.new.store ≤ g.St.Store.leaves c.args.store.now + n)) (touched_grouped p changes asked) (c.settle_all.ensures.leaves l changes asked (grouped p.verdict asked) (merging l changes asked b))

pub returns-clause-reads : goal.returns-clause-reads
returns-clause-reads g c = λ l changes asked b.
    let p = g.P.Program.meaning c.args.program.now in
    let s0 = g.SD.Disk.shown c.args.scratch.now in
    let d0 = g.GD.Disk.shown c.args.graph.now in
    let s1 = g.SD.Disk.shown c.take_pairs.new.disk in
    let made = g.G.Group.made c.args.group.now in
    let room = room_of s0.page_len in
    let room_is : room_in made ≡ room = ap room_of c.requires.group_len in
    let mine = IsSettled made c.args.vids.now.file in
    let more = OrRead c.args.updates.now.file c.args.requests.now.file mine in
    let rule = g.P.Verdict.Merge.rule c.verdict.result.now in
    let Starts = Begun p room c.args.tally.now (g.St.Store.holds c.args.store.now c.args.desk.now d0) (ToGive s0 c.args.updates.now) (ToGive s0 c.args.requests.now) (Took s0 c.args.vids.now) (g.G.Group.took s0 c.args.group.now p.verdict) in
    let group1 = c.take_pairs.new.group in
    let taken : Clean (IsOwn made) s0 s1 = c.in_ok-take_pairs.ensures.ok in
    let took : (l changes : Graph) (asked : Pairs) → Starts l changes asked → g.G.Group.took s1 group1 p.verdict asked = λ l changes asked b.
    subst (λ (k : Pairs). g.G.Group.took s1 group1 p.verdict k) (pairs_requests asked)
    ((subst (λ (k : MergeRule). (ins : List Entry) (l : Pairs) → ToGive s0 c.args.requests.now ins → AllValid k (pairs_of ins) → g.G.Group.took s0 c.args.group.now k l → g.G.Group.took s1 group1 k (l ++ pairs_of ins)) c.verdict.ensures c.in_ok-take_pairs.ensures.took)
    (requests asked) [] b.requests_are (subst (AllValid p.verdict) (sym (pairs_requests asked)) b.is_ready.valid) b.group) in
    let s2 = g.SD.Disk.shown c.seal.new.disk in
    let group2 = c.seal.new.self in
    let own1 : (f : ℕ) → IsOwn (g.G.Group.made group1) f → IsOwn made f = λ f own. subst (λ (k : GroupMade). IsOwn k f) c.take_pairs.ensures.stays own in
    let sealed : Clean (IsOwn made) s0 s2 = clean_then (IsOwn made) s0 s1 s2 taken (clean_more (IsOwn (g.G.Group.made group1)) (IsOwn made) s1 s2 own1 c.in_ok-seal.ensures.ok) in
    let gives : (l changes : Graph) (asked : Pairs) → Starts l changes asked → g.G.Group.gives s2 group2 p.verdict asked (grouped p.verdict asked) = λ l changes asked b.
    (subst (λ (k : MergeRule). (l : Pairs) → g.G.Group.took s1 group1 k l → g.G.Group.gives s2 group2 k l (grouped k l)) c.verdict-2.ensures c.in_ok-seal.ensures.gives) asked (took l changes asked b) in
    let len2 : s2.page_len ≡ s0.page_len = sealed.touches.page_len in
    let Merges = λ (n : ℕ) (asked : Pairs) (l changes : Graph) (folds : Pairs). IsMerging p n (g.St.Store.holds c.args.store.now c.args.desk.now d0) (ToGive s2 c.args.updates.now) (g.G.Group.gives s2 group2 p.verdict asked) (Took s2 c.args.vids.now) l changes folds in
    let merging : (l changes : Graph) (asked : Pairs) → Starts l changes asked → Merges (room_of s2.page_len) asked l changes (grouped p.verdict asked) = λ l changes asked b.
    subst (λ (n : ℕ). Merges n asked l changes (grouped p.verdict asked)) (ap room_of (sym len2))
    (begins_merging p (g.met.P.Program.laws c.args.program.now).verdicts room c.args.tally.now _ (ToGive s0 c.args.updates.now) (ToGive s0 c.args.requests.now) (Took s0 c.args.vids.now) (ToGive s2 c.args.updates.now) (Took s2 c.args.vids.now) (g.G.Group.took s0 c.args.group.now p.verdict) (g.G.Group.gives s2 group2 p.verdict asked) l changes asked
    (λ es h. to_give_same s0 s2 c.args.updates.now es (same_by_touches (Only c.args.updates.now.file) (IsOwn made) s0 s2 (only_own made c.args.updates.now.file c.requires.apart.group_updates) sealed.touches) h)
    (λ es h. took_same s0 s2 c.args.vids.now es (same_by_touches (Only c.args.vids.now.file) (IsOwn made) s0 s2 (only_own made c.args.vids.now.file c.requires.apart.group_live) sealed.touches) h)
    (gives l changes asked b) b) in
    let s3 = g.SD.Disk.shown c.settle_all.new.scratch in
    let d3 = g.GD.Disk.shown c.settle_all.new.graph in
    subst (λ (n : ℕ). OnTrue g.St.Store.counted (d3.reads ≤ d0.reads + 192 * n)) (touched_grouped p changes asked) (c.settle_all.ensures.reads l changes asked (grouped p.verdict asked) (merging l changes asked b))

pub returns-clause-holds : goal.returns-clause-holds
returns-clause-holds g c = λ l changes asked b.
    let p = g.P.Program.meaning c.args.program.now in
    let s0 = g.SD.Disk.shown c.args.scratch.now in
    let d0 = g.GD.Disk.shown c.args.graph.now in
    let s1 = g.SD.Disk.shown c.take_pairs.new.disk in
    let made = g.G.Group.made c.args.group.now in
    let room = room_of s0.page_len in
    let room_is : room_in made ≡ room = ap room_of c.requires.group_len in
    let mine = IsSettled made c.args.vids.now.file in
    let more = OrRead c.args.updates.now.file c.args.requests.now.file mine in
    let rule = g.P.Verdict.Merge.rule c.verdict.result.now in
    let Starts = Begun p room c.args.tally.now (g.St.Store.holds c.args.store.now c.args.desk.now d0) (ToGive s0 c.args.updates.now) (ToGive s0 c.args.requests.now) (Took s0 c.args.vids.now) (g.G.Group.took s0 c.args.group.now p.verdict) in
    let group1 = c.take_pairs.new.group in
    let taken : Clean (IsOwn made) s0 s1 = c.in_ok-take_pairs.ensures.ok in
    let took : (l changes : Graph) (asked : Pairs) → Starts l changes asked → g.G.Group.took s1 group1 p.verdict asked = λ l changes asked b.
    subst (λ (k : Pairs). g.G.Group.took s1 group1 p.verdict k) (pairs_requests asked)
    ((subst (λ (k : MergeRule). (ins : List Entry) (l : Pairs) → ToGive s0 c.args.requests.now ins → AllValid k (pairs_of ins) → g.G.Group.took s0 c.args.group.now k l → g.G.Group.took s1 group1 k (l ++ pairs_of ins)) c.verdict.ensures c.in_ok-take_pairs.ensures.took)
    (requests asked) [] b.requests_are (subst (AllValid p.verdict) (sym (pairs_requests asked)) b.is_ready.valid) b.group) in
    let s2 = g.SD.Disk.shown c.seal.new.disk in
    let group2 = c.seal.new.self in
    let own1 : (f : ℕ) → IsOwn (g.G.Group.made group1) f → IsOwn made f = λ f own. subst (λ (k : GroupMade). IsOwn k f) c.take_pairs.ensures.stays own in
    let sealed : Clean (IsOwn made) s0 s2 = clean_then (IsOwn made) s0 s1 s2 taken (clean_more (IsOwn (g.G.Group.made group1)) (IsOwn made) s1 s2 own1 c.in_ok-seal.ensures.ok) in
    let gives : (l changes : Graph) (asked : Pairs) → Starts l changes asked → g.G.Group.gives s2 group2 p.verdict asked (grouped p.verdict asked) = λ l changes asked b.
    (subst (λ (k : MergeRule). (l : Pairs) → g.G.Group.took s1 group1 k l → g.G.Group.gives s2 group2 k l (grouped k l)) c.verdict-2.ensures c.in_ok-seal.ensures.gives) asked (took l changes asked b) in
    let len2 : s2.page_len ≡ s0.page_len = sealed.touches.page_len in
    let Merges = λ (n : ℕ) (asked : Pairs) (l changes : Graph) (folds : Pairs). IsMerging p n (g.St.Store.holds c.args.store.now c.args.desk.now d0) (ToGive s2 c.args.updates.now) (g.G.Group.gives s2 group2 p.verdict asked) (Took s2 c.args.vids.now) l changes folds in
    let merging : (l changes : Graph) (asked : Pairs) → Starts l changes asked → Merges (room_of s2.page_len) asked l changes (grouped p.verdict asked) = λ l changes asked b.
    subst (λ (n : ℕ). Merges n asked l changes (grouped p.verdict asked)) (ap room_of (sym len2))
    (begins_merging p (g.met.P.Program.laws c.args.program.now).verdicts room c.args.tally.now _ (ToGive s0 c.args.updates.now) (ToGive s0 c.args.requests.now) (Took s0 c.args.vids.now) (ToGive s2 c.args.updates.now) (Took s2 c.args.vids.now) (g.G.Group.took s0 c.args.group.now p.verdict) (g.G.Group.gives s2 group2 p.verdict asked) l changes asked
    (λ es h. to_give_same s0 s2 c.args.updates.now es (same_by_touches (Only c.args.updates.now.file) (IsOwn made) s0 s2 (only_own made c.args.updates.now.file c.requires.apart.group_updates) sealed.touches) h)
    (λ es h. took_same s0 s2 c.args.vids.now es (same_by_touches (Only c.args.vids.now.file) (IsOwn made) s0 s2 (only_own made c.args.vids.now.file c.requires.apart.group_live) sealed.touches) h)
    (gives l changes asked b) b) in
    let s3 = g.SD.Disk.shown c.settle_all.new.scratch in
    let d3 = g.GD.Disk.shown c.settle_all.new.graph in
    let merged : (l changes : Graph) (asked : Pairs) → Starts l changes asked → IsMerged room (has_wide_fold p.verdict room asked ≡ false) (g.St.Store.holds c.settle_all.new.store c.settle_all.new.desk d3) (Took s3 c.settle_all.new.vids) l (settled_after p l changes asked) c.in_ok-counts.counts = λ l changes asked b.
    subst (λ (k : Graph). IsMerged room (has_wide_fold p.verdict room asked ≡ false) (g.St.Store.holds c.settle_all.new.store c.settle_all.new.desk d3) (Took s3 c.settle_all.new.vids) l k c.in_ok-counts.counts) (settled_grouped p (put_all l changes) asked)
    (subst (λ (n : ℕ). IsMerged n (has_wide_fold p.verdict n asked ≡ false) (g.St.Store.holds c.settle_all.new.store c.settle_all.new.desk d3) (Took s3 c.settle_all.new.vids) l (settled p (put_all l changes) (grouped p.verdict asked)) c.in_ok-counts.counts) (ap room_of len2)
    (c.in_ok-counts.ensures.merged l changes asked (grouped p.verdict asked) (merging l changes asked b))) in
    let own2 : (f : ℕ) → IsSettled (g.G.Group.made group2) c.args.vids.now.file f → mine f = λ f own. subst (λ (k : GroupMade). IsSettled k c.args.vids.now.file f) (c.seal.ensures.stays ∙ c.take_pairs.ensures.stays) own in
    let settled_clean : Clean mine s0 s3 = clean_then mine s0 s2 s3 (clean_more (IsOwn made) mine s0 s2 (λ f own. inl own) sealed) (clean_more (IsSettled (g.G.Group.made group2) c.args.vids.now.file) mine s2 s3 own2 c.in_ok-counts.ensures.ok) in
    on_ok c.tally_after.result _ (merged l changes asked b).held

pub returns-clause-tally : goal.returns-clause-tally
returns-clause-tally g c = λ l changes asked b.
    let p = g.P.Program.meaning c.args.program.now in
    let s0 = g.SD.Disk.shown c.args.scratch.now in
    let d0 = g.GD.Disk.shown c.args.graph.now in
    let s1 = g.SD.Disk.shown c.take_pairs.new.disk in
    let made = g.G.Group.made c.args.group.now in
    let room = room_of s0.page_len in
    let room_is : room_in made ≡ room = ap room_of c.requires.group_len in
    let mine = IsSettled made c.args.vids.now.file in
    let more = OrRead c.args.updates.now.file c.args.requests.now.file mine in
    let rule = g.P.Verdict.Merge.rule c.verdict.result.now in
    let Starts = Begun p room c.args.tally.now (g.St.Store.holds c.args.store.now c.args.desk.now d0) (ToGive s0 c.args.updates.now) (ToGive s0 c.args.requests.now) (Took s0 c.args.vids.now) (g.G.Group.took s0 c.args.group.now p.verdict) in
    let group1 = c.take_pairs.new.group in
    let taken : Clean (IsOwn made) s0 s1 = c.in_ok-take_pairs.ensures.ok in
    let took : (l changes : Graph) (asked : Pairs) → Starts l changes asked → g.G.Group.took s1 group1 p.verdict asked = λ l changes asked b.
    subst (λ (k : Pairs). g.G.Group.took s1 group1 p.verdict k) (pairs_requests asked)
    ((subst (λ (k : MergeRule). (ins : List Entry) (l : Pairs) → ToGive s0 c.args.requests.now ins → AllValid k (pairs_of ins) → g.G.Group.took s0 c.args.group.now k l → g.G.Group.took s1 group1 k (l ++ pairs_of ins)) c.verdict.ensures c.in_ok-take_pairs.ensures.took)
    (requests asked) [] b.requests_are (subst (AllValid p.verdict) (sym (pairs_requests asked)) b.is_ready.valid) b.group) in
    let s2 = g.SD.Disk.shown c.seal.new.disk in
    let group2 = c.seal.new.self in
    let own1 : (f : ℕ) → IsOwn (g.G.Group.made group1) f → IsOwn made f = λ f own. subst (λ (k : GroupMade). IsOwn k f) c.take_pairs.ensures.stays own in
    let sealed : Clean (IsOwn made) s0 s2 = clean_then (IsOwn made) s0 s1 s2 taken (clean_more (IsOwn (g.G.Group.made group1)) (IsOwn made) s1 s2 own1 c.in_ok-seal.ensures.ok) in
    let gives : (l changes : Graph) (asked : Pairs) → Starts l changes asked → g.G.Group.gives s2 group2 p.verdict asked (grouped p.verdict asked) = λ l changes asked b.
    (subst (λ (k : MergeRule). (l : Pairs) → g.G.Group.took s1 group1 k l → g.G.Group.gives s2 group2 k l (grouped k l)) c.verdict-2.ensures c.in_ok-seal.ensures.gives) asked (took l changes asked b) in
    let len2 : s2.page_len ≡ s0.page_len = sealed.touches.page_len in
    let Merges = λ (n : ℕ) (asked : Pairs) (l changes : Graph) (folds : Pairs). IsMerging p n (g.St.Store.holds c.args.store.now c.args.desk.now d0) (ToGive s2 c.args.updates.now) (g.G.Group.gives s2 group2 p.verdict asked) (Took s2 c.args.vids.now) l changes folds in
    let merging : (l changes : Graph) (asked : Pairs) → Starts l changes asked → Merges (room_of s2.page_len) asked l changes (grouped p.verdict asked) = λ l changes asked b.
    subst (λ (n : ℕ). Merges n asked l changes (grouped p.verdict asked)) (ap room_of (sym len2))
    (begins_merging p (g.met.P.Program.laws c.args.program.now).verdicts room c.args.tally.now _ (ToGive s0 c.args.updates.now) (ToGive s0 c.args.requests.now) (Took s0 c.args.vids.now) (ToGive s2 c.args.updates.now) (Took s2 c.args.vids.now) (g.G.Group.took s0 c.args.group.now p.verdict) (g.G.Group.gives s2 group2 p.verdict asked) l changes asked
    (λ es h. to_give_same s0 s2 c.args.updates.now es (same_by_touches (Only c.args.updates.now.file) (IsOwn made) s0 s2 (only_own made c.args.updates.now.file c.requires.apart.group_updates) sealed.touches) h)
    (λ es h. took_same s0 s2 c.args.vids.now es (same_by_touches (Only c.args.vids.now.file) (IsOwn made) s0 s2 (only_own made c.args.vids.now.file c.requires.apart.group_live) sealed.touches) h)
    (gives l changes asked b) b) in
    let s3 = g.SD.Disk.shown c.settle_all.new.scratch in
    let d3 = g.GD.Disk.shown c.settle_all.new.graph in
    let merged : (l changes : Graph) (asked : Pairs) → Starts l changes asked → IsMerged room (has_wide_fold p.verdict room asked ≡ false) (g.St.Store.holds c.settle_all.new.store c.settle_all.new.desk d3) (Took s3 c.settle_all.new.vids) l (settled_after p l changes asked) c.in_ok-counts.counts = λ l changes asked b.
    subst (λ (k : Graph). IsMerged room (has_wide_fold p.verdict room asked ≡ false) (g.St.Store.holds c.settle_all.new.store c.settle_all.new.desk d3) (Took s3 c.settle_all.new.vids) l k c.in_ok-counts.counts) (settled_grouped p (put_all l changes) asked)
    (subst (λ (n : ℕ). IsMerged n (has_wide_fold p.verdict n asked ≡ false) (g.St.Store.holds c.settle_all.new.store c.settle_all.new.desk d3) (Took s3 c.settle_all.new.vids) l (settled p (put_all l changes) (grouped p.verdict asked)) c.in_ok-counts.counts) (ap room_of len2)
    (c.in_ok-counts.ensures.merged l changes asked (grouped p.verdict asked) (merging l changes asked b))) in
    let own2 : (f : ℕ) → IsSettled (g.G.Group.made group2) c.args.vids.now.file f → mine f = λ f own. subst (λ (k : GroupMade). IsSettled k c.args.vids.now.file f) (c.seal.ensures.stays ∙ c.take_pairs.ensures.stays) own in
    let settled_clean : Clean mine s0 s3 = clean_then mine s0 s2 s3 (clean_more (IsOwn made) mine s0 s2 (λ f own. inl own) sealed) (clean_more (IsSettled (g.G.Group.made group2) c.args.vids.now.file) mine s2 s3 own2 c.in_ok-counts.ensures.ok) in
    c.tally_after.ensures.counted l (settled_after p l changes asked) b.is_ready.counted.count (merged l changes asked b).counted

pub returns-clause-vids : goal.returns-clause-vids
returns-clause-vids g c = λ l changes asked b.
    let p = g.P.Program.meaning c.args.program.now in
    let s0 = g.SD.Disk.shown c.args.scratch.now in
    let d0 = g.GD.Disk.shown c.args.graph.now in
    let s1 = g.SD.Disk.shown c.take_pairs.new.disk in
    let made = g.G.Group.made c.args.group.now in
    let room = room_of s0.page_len in
    let room_is : room_in made ≡ room = ap room_of c.requires.group_len in
    let mine = IsSettled made c.args.vids.now.file in
    let more = OrRead c.args.updates.now.file c.args.requests.now.file mine in
    let rule = g.P.Verdict.Merge.rule c.verdict.result.now in
    let Starts = Begun p room c.args.tally.now (g.St.Store.holds c.args.store.now c.args.desk.now d0) (ToGive s0 c.args.updates.now) (ToGive s0 c.args.requests.now) (Took s0 c.args.vids.now) (g.G.Group.took s0 c.args.group.now p.verdict) in
    let group1 = c.take_pairs.new.group in
    let taken : Clean (IsOwn made) s0 s1 = c.in_ok-take_pairs.ensures.ok in
    let took : (l changes : Graph) (asked : Pairs) → Starts l changes asked → g.G.Group.took s1 group1 p.verdict asked = λ l changes asked b.
    subst (λ (k : Pairs). g.G.Group.took s1 group1 p.verdict k) (pairs_requests asked)
    ((subst (λ (k : MergeRule). (ins : List Entry) (l : Pairs) → ToGive s0 c.args.requests.now ins → AllValid k (pairs_of ins) → g.G.Group.took s0 c.args.group.now k l → g.G.Group.took s1 group1 k (l ++ pairs_of ins)) c.verdict.ensures c.in_ok-take_pairs.ensures.took)
    (requests asked) [] b.requests_are (subst (AllValid p.verdict) (sym (pairs_requests asked)) b.is_ready.valid) b.group) in
    let s2 = g.SD.Disk.shown c.seal.new.disk in
    let group2 = c.seal.new.self in
    let own1 : (f : ℕ) → IsOwn (g.G.Group.made group1) f → IsOwn made f = λ f own. subst (λ (k : GroupMade). IsOwn k f) c.take_pairs.ensures.stays own in
    let sealed : Clean (IsOwn made) s0 s2 = clean_then (IsOwn made) s0 s1 s2 taken (clean_more (IsOwn (g.G.Group.made group1)) (IsOwn made) s1 s2 own1 c.in_ok-seal.ensures.ok) in
    let gives : (l changes : Graph) (asked : Pairs) → Starts l changes asked → g.G.Group.gives s2 group2 p.verdict asked (grouped p.verdict asked) = λ l changes asked b.
    (subst (λ (k : MergeRule). (l : Pairs) → g.G.Group.took s1 group1 k l → g.G.Group.gives s2 group2 k l (grouped k l)) c.verdict-2.ensures c.in_ok-seal.ensures.gives) asked (took l changes asked b) in
    let len2 : s2.page_len ≡ s0.page_len = sealed.touches.page_len in
    let Merges = λ (n : ℕ) (asked : Pairs) (l changes : Graph) (folds : Pairs). IsMerging p n (g.St.Store.holds c.args.store.now c.args.desk.now d0) (ToGive s2 c.args.updates.now) (g.G.Group.gives s2 group2 p.verdict asked) (Took s2 c.args.vids.now) l changes folds in
    let merging : (l changes : Graph) (asked : Pairs) → Starts l changes asked → Merges (room_of s2.page_len) asked l changes (grouped p.verdict asked) = λ l changes asked b.
    subst (λ (n : ℕ). Merges n asked l changes (grouped p.verdict asked)) (ap room_of (sym len2))
    (begins_merging p (g.met.P.Program.laws c.args.program.now).verdicts room c.args.tally.now _ (ToGive s0 c.args.updates.now) (ToGive s0 c.args.requests.now) (Took s0 c.args.vids.now) (ToGive s2 c.args.updates.now) (Took s2 c.args.vids.now) (g.G.Group.took s0 c.args.group.now p.verdict) (g.G.Group.gives s2 group2 p.verdict asked) l changes asked
    (λ es h. to_give_same s0 s2 c.args.updates.now es (same_by_touches (Only c.args.updates.now.file) (IsOwn made) s0 s2 (only_own made c.args.updates.now.file c.requires.apart.group_updates) sealed.touches) h)
    (λ es h. took_same s0 s2 c.args.vids.now es (same_by_touches (Only c.args.vids.now.file) (IsOwn made) s0 s2 (only_own made c.args.vids.now.file c.requires.apart.group_live) sealed.touches) h)
    (gives l changes asked b) b) in
    let s3 = g.SD.Disk.shown c.settle_all.new.scratch in
    let d3 = g.GD.Disk.shown c.settle_all.new.graph in
    let merged : (l changes : Graph) (asked : Pairs) → Starts l changes asked → IsMerged room (has_wide_fold p.verdict room asked ≡ false) (g.St.Store.holds c.settle_all.new.store c.settle_all.new.desk d3) (Took s3 c.settle_all.new.vids) l (settled_after p l changes asked) c.in_ok-counts.counts = λ l changes asked b.
    subst (λ (k : Graph). IsMerged room (has_wide_fold p.verdict room asked ≡ false) (g.St.Store.holds c.settle_all.new.store c.settle_all.new.desk d3) (Took s3 c.settle_all.new.vids) l k c.in_ok-counts.counts) (settled_grouped p (put_all l changes) asked)
    (subst (λ (n : ℕ). IsMerged n (has_wide_fold p.verdict n asked ≡ false) (g.St.Store.holds c.settle_all.new.store c.settle_all.new.desk d3) (Took s3 c.settle_all.new.vids) l (settled p (put_all l changes) (grouped p.verdict asked)) c.in_ok-counts.counts) (ap room_of len2)
    (c.in_ok-counts.ensures.merged l changes asked (grouped p.verdict asked) (merging l changes asked b))) in
    let own2 : (f : ℕ) → IsSettled (g.G.Group.made group2) c.args.vids.now.file f → mine f = λ f own. subst (λ (k : GroupMade). IsSettled k c.args.vids.now.file f) (c.seal.ensures.stays ∙ c.take_pairs.ensures.stays) own in
    let settled_clean : Clean mine s0 s3 = clean_then mine s0 s2 s3 (clean_more (IsOwn made) mine s0 s2 (λ f own. inl own) sealed) (clean_more (IsSettled (g.G.Group.made group2) c.args.vids.now.file) mine s2 s3 own2 c.in_ok-counts.ensures.ok) in
    on_ok c.tally_after.result _ (c.in_ok-finish.ensures.holds (vid_tuples (settled_after p l changes asked)) (merged l changes asked b).vids_are)

pub returns-clause-within : goal.returns-clause-within
returns-clause-within g c = λ l changes asked b.
    let p = g.P.Program.meaning c.args.program.now in
    let s0 = g.SD.Disk.shown c.args.scratch.now in
    let d0 = g.GD.Disk.shown c.args.graph.now in
    let s1 = g.SD.Disk.shown c.take_pairs.new.disk in
    let made = g.G.Group.made c.args.group.now in
    let room = room_of s0.page_len in
    let room_is : room_in made ≡ room = ap room_of c.requires.group_len in
    let mine = IsSettled made c.args.vids.now.file in
    let more = OrRead c.args.updates.now.file c.args.requests.now.file mine in
    let rule = g.P.Verdict.Merge.rule c.verdict.result.now in
    let Starts = Begun p room c.args.tally.now (g.St.Store.holds c.args.store.now c.args.desk.now d0) (ToGive s0 c.args.updates.now) (ToGive s0 c.args.requests.now) (Took s0 c.args.vids.now) (g.G.Group.took s0 c.args.group.now p.verdict) in
    let group1 = c.take_pairs.new.group in
    let taken : Clean (IsOwn made) s0 s1 = c.in_ok-take_pairs.ensures.ok in
    let took : (l changes : Graph) (asked : Pairs) → Starts l changes asked → g.G.Group.took s1 group1 p.verdict asked = λ l changes asked b.
    subst (λ (k : Pairs). g.G.Group.took s1 group1 p.verdict k) (pairs_requests asked)
    ((subst (λ (k : MergeRule). (ins : List Entry) (l : Pairs) → ToGive s0 c.args.requests.now ins → AllValid k (pairs_of ins) → g.G.Group.took s0 c.args.group.now k l → g.G.Group.took s1 group1 k (l ++ pairs_of ins)) c.verdict.ensures c.in_ok-take_pairs.ensures.took)
    (requests asked) [] b.requests_are (subst (AllValid p.verdict) (sym (pairs_requests asked)) b.is_ready.valid) b.group) in
    let s2 = g.SD.Disk.shown c.seal.new.disk in
    let group2 = c.seal.new.self in
    let own1 : (f : ℕ) → IsOwn (g.G.Group.made group1) f → IsOwn made f = λ f own. subst (λ (k : GroupMade). IsOwn k f) c.take_pairs.ensures.stays own in
    let sealed : Clean (IsOwn made) s0 s2 = clean_then (IsOwn made) s0 s1 s2 taken (clean_more (IsOwn (g.G.Group.made group1)) (IsOwn made) s1 s2 own1 c.in_ok-seal.ensures.ok) in
    let gives : (l changes : Graph) (asked : Pairs) → Starts l changes asked → g.G.Group.gives s2 group2 p.verdict asked (grouped p.verdict asked) = λ l changes asked b.
    (subst (λ (k : MergeRule). (l : Pairs) → g.G.Group.took s1 group1 k l → g.G.Group.gives s2 group2 k l (grouped k l)) c.verdict-2.ensures c.in_ok-seal.ensures.gives) asked (took l changes asked b) in
    let len2 : s2.page_len ≡ s0.page_len = sealed.touches.page_len in
    let Merges = λ (n : ℕ) (asked : Pairs) (l changes : Graph) (folds : Pairs). IsMerging p n (g.St.Store.holds c.args.store.now c.args.desk.now d0) (ToGive s2 c.args.updates.now) (g.G.Group.gives s2 group2 p.verdict asked) (Took s2 c.args.vids.now) l changes folds in
    let merging : (l changes : Graph) (asked : Pairs) → Starts l changes asked → Merges (room_of s2.page_len) asked l changes (grouped p.verdict asked) = λ l changes asked b.
    subst (λ (n : ℕ). Merges n asked l changes (grouped p.verdict asked)) (ap room_of (sym len2))
    (begins_merging p (g.met.P.Program.laws c.args.program.now).verdicts room c.args.tally.now _ (ToGive s0 c.args.updates.now) (ToGive s0 c.args.requests.now) (Took s0 c.args.vids.now) (ToGive s2 c.args.updates.now) (Took s2 c.args.vids.now) (g.G.Group.took s0 c.args.group.now p.verdict) (g.G.Group.gives s2 group2 p.verdict asked) l changes asked
    (λ es h. to_give_same s0 s2 c.args.updates.now es (same_by_touches (Only c.args.updates.now.file) (IsOwn made) s0 s2 (only_own made c.args.updates.now.file c.requires.apart.group_updates) sealed.touches) h)
    (λ es h. took_same s0 s2 c.args.vids.now es (same_by_touches (Only c.args.vids.now.file) (IsOwn made) s0 s2 (only_own made c.args.vids.now.file c.requires.apart.group_live) sealed.touches) h)
    (gives l changes asked b) b) in
    let s3 = g.SD.Disk.shown c.settle_all.new.scratch in
    let d3 = g.GD.Disk.shown c.settle_all.new.graph in
    let merged : (l changes : Graph) (asked : Pairs) → Starts l changes asked → IsMerged room (has_wide_fold p.verdict room asked ≡ false) (g.St.Store.holds c.settle_all.new.store c.settle_all.new.desk d3) (Took s3 c.settle_all.new.vids) l (settled_after p l changes asked) c.in_ok-counts.counts = λ l changes asked b.
    subst (λ (k : Graph). IsMerged room (has_wide_fold p.verdict room asked ≡ false) (g.St.Store.holds c.settle_all.new.store c.settle_all.new.desk d3) (Took s3 c.settle_all.new.vids) l k c.in_ok-counts.counts) (settled_grouped p (put_all l changes) asked)
    (subst (λ (n : ℕ). IsMerged n (has_wide_fold p.verdict n asked ≡ false) (g.St.Store.holds c.settle_all.new.store c.settle_all.new.desk d3) (Took s3 c.settle_all.new.vids) l (settled p (put_all l changes) (grouped p.verdict asked)) c.in_ok-counts.counts) (ap room_of len2)
    (c.in_ok-counts.ensures.merged l changes asked (grouped p.verdict asked) (merging l changes asked b))) in
    let own2 : (f : ℕ) → IsSettled (g.G.Group.made group2) c.args.vids.now.file f → mine f = λ f own. subst (λ (k : GroupMade). IsSettled k c.args.vids.now.file f) (c.seal.ensures.stays ∙ c.take_pairs.ensures.stays) own in
    let settled_clean : Clean mine s0 s3 = clean_then mine s0 s2 s3 (clean_more (IsOwn made) mine s0 s2 (λ f own. inl own) sealed) (clean_more (IsSettled (g.G.Group.made group2) c.args.vids.now.file) mine s2 s3 own2 c.in_ok-counts.ensures.ok) in
    let m = merged l changes asked b in
    on_ok_map c.tally_after.result _ _ (λ few. or_from _ _ (or_from _ _ m.fit m.folds_fit) few) (c.tally_after.ensures.within l (settled_after p l changes asked) b.is_ready.counted.count m.counted)

pub returns-clause-err : goal.returns-clause-err
returns-clause-err g c =
    let p = g.P.Program.meaning c.args.program.now in
    let s0 = g.SD.Disk.shown c.args.scratch.now in
    let d0 = g.GD.Disk.shown c.args.graph.now in
    let s1 = g.SD.Disk.shown c.take_pairs.new.disk in
    let made = g.G.Group.made c.args.group.now in
    let room = room_of s0.page_len in
    let room_is : room_in made ≡ room = ap room_of c.requires.group_len in
    let mine = IsSettled made c.args.vids.now.file in
    let more = OrRead c.args.updates.now.file c.args.requests.now.file mine in
    let rule = g.P.Verdict.Merge.rule c.verdict.result.now in
    let Starts = Begun p room c.args.tally.now (g.St.Store.holds c.args.store.now c.args.desk.now d0) (ToGive s0 c.args.updates.now) (ToGive s0 c.args.requests.now) (Took s0 c.args.vids.now) (g.G.Group.took s0 c.args.group.now p.verdict) in
    let group1 = c.take_pairs.new.group in
    let taken : Clean (IsOwn made) s0 s1 = c.in_ok-take_pairs.ensures.ok in
    let took : (l changes : Graph) (asked : Pairs) → Starts l changes asked → g.G.Group.took s1 group1 p.verdict asked = λ l changes asked b.
    subst (λ (k : Pairs). g.G.Group.took s1 group1 p.verdict k) (pairs_requests asked)
    ((subst (λ (k : MergeRule). (ins : List Entry) (l : Pairs) → ToGive s0 c.args.requests.now ins → AllValid k (pairs_of ins) → g.G.Group.took s0 c.args.group.now k l → g.G.Group.took s1 group1 k (l ++ pairs_of ins)) c.verdict.ensures c.in_ok-take_pairs.ensures.took)
    (requests asked) [] b.requests_are (subst (AllValid p.verdict) (sym (pairs_requests asked)) b.is_ready.valid) b.group) in
    let s2 = g.SD.Disk.shown c.seal.new.disk in
    let group2 = c.seal.new.self in
    let own1 : (f : ℕ) → IsOwn (g.G.Group.made group1) f → IsOwn made f = λ f own. subst (λ (k : GroupMade). IsOwn k f) c.take_pairs.ensures.stays own in
    let sealed : Clean (IsOwn made) s0 s2 = clean_then (IsOwn made) s0 s1 s2 taken (clean_more (IsOwn (g.G.Group.made group1)) (IsOwn made) s1 s2 own1 c.in_ok-seal.ensures.ok) in
    let gives : (l changes : Graph) (asked : Pairs) → Starts l changes asked → g.G.Group.gives s2 group2 p.verdict asked (grouped p.verdict asked) = λ l changes asked b.
    (subst (λ (k : MergeRule). (l : Pairs) → g.G.Group.took s1 group1 k l → g.G.Group.gives s2 group2 k l (grouped k l)) c.verdict-2.ensures c.in_ok-seal.ensures.gives) asked (took l changes asked b) in
    let len2 : s2.page_len ≡ s0.page_len = sealed.touches.page_len in
    let Merges = λ (n : ℕ) (asked : Pairs) (l changes : Graph) (folds : Pairs). IsMerging p n (g.St.Store.holds c.args.store.now c.args.desk.now d0) (ToGive s2 c.args.updates.now) (g.G.Group.gives s2 group2 p.verdict asked) (Took s2 c.args.vids.now) l changes folds in
    let merging : (l changes : Graph) (asked : Pairs) → Starts l changes asked → Merges (room_of s2.page_len) asked l changes (grouped p.verdict asked) = λ l changes asked b.
    subst (λ (n : ℕ). Merges n asked l changes (grouped p.verdict asked)) (ap room_of (sym len2))
    (begins_merging p (g.met.P.Program.laws c.args.program.now).verdicts room c.args.tally.now _ (ToGive s0 c.args.updates.now) (ToGive s0 c.args.requests.now) (Took s0 c.args.vids.now) (ToGive s2 c.args.updates.now) (Took s2 c.args.vids.now) (g.G.Group.took s0 c.args.group.now p.verdict) (g.G.Group.gives s2 group2 p.verdict asked) l changes asked
    (λ es h. to_give_same s0 s2 c.args.updates.now es (same_by_touches (Only c.args.updates.now.file) (IsOwn made) s0 s2 (only_own made c.args.updates.now.file c.requires.apart.group_updates) sealed.touches) h)
    (λ es h. took_same s0 s2 c.args.vids.now es (same_by_touches (Only c.args.vids.now.file) (IsOwn made) s0 s2 (only_own made c.args.vids.now.file c.requires.apart.group_live) sealed.touches) h)
    (gives l changes asked b) b) in
    let s3 = g.SD.Disk.shown c.settle_all.new.scratch in
    let d3 = g.GD.Disk.shown c.settle_all.new.graph in
    let merged : (l changes : Graph) (asked : Pairs) → Starts l changes asked → IsMerged room (has_wide_fold p.verdict room asked ≡ false) (g.St.Store.holds c.settle_all.new.store c.settle_all.new.desk d3) (Took s3 c.settle_all.new.vids) l (settled_after p l changes asked) c.in_ok-counts.counts = λ l changes asked b.
    subst (λ (k : Graph). IsMerged room (has_wide_fold p.verdict room asked ≡ false) (g.St.Store.holds c.settle_all.new.store c.settle_all.new.desk d3) (Took s3 c.settle_all.new.vids) l k c.in_ok-counts.counts) (settled_grouped p (put_all l changes) asked)
    (subst (λ (n : ℕ). IsMerged n (has_wide_fold p.verdict n asked ≡ false) (g.St.Store.holds c.settle_all.new.store c.settle_all.new.desk d3) (Took s3 c.settle_all.new.vids) l (settled p (put_all l changes) (grouped p.verdict asked)) c.in_ok-counts.counts) (ap room_of len2)
    (c.in_ok-counts.ensures.merged l changes asked (grouped p.verdict asked) (merging l changes asked b))) in
    let own2 : (f : ℕ) → IsSettled (g.G.Group.made group2) c.args.vids.now.file f → mine f = λ f own. subst (λ (k : GroupMade). IsSettled k c.args.vids.now.file f) (c.seal.ensures.stays ∙ c.take_pairs.ensures.stays) own in
    let settled_clean : Clean mine s0 s3 = clean_then mine s0 s2 s3 (clean_more (IsOwn made) mine s0 s2 (λ f own. inl own) sealed) (clean_more (IsSettled (g.G.Group.made group2) c.args.vids.now.file) mine s2 s3 own2 c.in_ok-counts.ensures.ok) in
    let s4 = g.SD.Disk.shown c.finish.new.disk in
    let by = c.in_ok-finish.ensures.ok in
    let wrote : Clean more s3 s4 = clean_more (Only c.settle_all.new.vids.file) more s3 s4 (λ f is. inl (inr (is ∙ c.settle_all.ensures.vids_file))) (record { touches = by.touches; no_fault = by.no_fault }) in
    let clean : Clean more s0 s4 = clean_then more s0 s3 s4 (clean_more mine more s0 s3 (λ f own. inl own) settled_clean) wrote in
    tally_stops c.tally_after.result more Starts (λ l changes asked. IsTrue (has_many_vertices (settled_after p l changes asked))) (λ l changes asked. IsTrue (is_settling_beyond p room (settled_after p l changes asked) asked)) d0 d3 s0 s4
    (λ l changes asked many. or_right _ _ many) c.tally_after.ensures.only
    (λ l changes asked b. c.tally_after.ensures.beyond l (settled_after p l changes asked) b.is_ready.counted.count (merged l changes asked b).counted)
    c.in_ok-counts.ensures.done.clean clean
