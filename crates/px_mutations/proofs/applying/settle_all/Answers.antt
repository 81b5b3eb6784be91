use Rattle.std.proofs.Common.{rules, arith, ◌≡◌, ◌≤◌, ◌<◌, ◌+◌, ◌∷◌, ℕ, List, true, false, IsTrue, sym, ◌∙◌, ap, subst, inl, inr}
use Rattle.std.specs.Prelude.{Option, Some}
use Rattle.std.specs.List.{AllByRecursion}
use Rattle.std.proofs.lemmas.Option.{MatchOption-at_some}
use Rattle.std.proofs.lemmas.Bool.{or_left, or_right, OnTrue_from}
use Rattle.std.proofs.lemmas.Result.{err_from_is_err_and}
use Rattle.px_core.specs.Shown.{Only, NoFile, Clean}
use Rattle.px_core.specs.declared.stop.Stop.TheVariants.{Scratch}
use Rattle.px_core.proofs.Keeping.{same_by_touches, same_by_none, same_then}
use Rattle.px_core.proofs.Steps.{clean_refl, clean_more, clean_then, broke_more}
use Rattle.px_cache.specs.View.{AnyFile}
use Rattle.px_meaning.specs.Graph.{Graph, Vertex, IsMap, room_of}
use Rattle.px_meaning.specs.Merge.{MergeRule, Pairs}
use Rattle.px_meaning.specs.Step.{put_all, settled, has_wide_vertex, has_wide_fold}
use Rattle.px_program.specs.Groups.{GroupMade, IsOwn, room_in}
use Rattle.px_record.specs.Body.{IsVertex}
use Rattle.px_stream.specs.Stream.{Took, ToGive}
use Rattle.px_stream.proofs.Kept.{took_same, to_give_same}
use Rattle.px_store.specs.Desks.{IsDone}
use Rattle.px_store.specs.Joins.{vertex_tuples}
use Rattle.px_store.proofs.Apart.{done_refl, done_then, desk_refl, desk_then}
use Rattle.px_mutations.specs.declared.turns.Turn.{Turn}
use Rattle.px_mutations.specs.Turns.{first_vid, Comes, IsTurn, given_if, Takes, Waits}
use Rattle.px_mutations.specs.Effects.{left_at, turned, IsEffect, IsTooWide}
use Rattle.px_mutations.specs.Applying.{IsSettled, OrRead}
use Rattle.px_mutations.proofs.Apart.{only_own, own_only, only_other, scratch_stops, settling_stops, grouping_stops, grouping_more}
use Rattle.px_mutations.proofs.Merging.{merging_first, merging_next, merging_end, merging_wide, waits_map, reads_so_far, leaves_so_far, reads_within, leaves_within, turn_takes}
use Rattle.px_mutations.proofs.applying.settle_all.Goals as goal

pub loop-turn-init : goal.loop-turn-init
loop-turn-init g c =
    let p = g.P.Program.meaning c.args.program.now in
    let s0 = g.SD.Disk.shown c.args.scratch.now in
    let s1 = g.SD.Disk.shown c.next_fold.new.scratch in
    let d = g.GD.Disk.shown c.args.graph.now in
    let made = g.G.Group.made c.args.group.now in
    let updates = c.args.updates.now in
    let vids = c.args.vids.now in
    let by = c.in_ok-asked.ensures.ok.touches in
    let room = room_of s0.page_len in
    let room_is : room_in made ≡ room = ap room_of c.requires.group_len in
    let Next : MergeRule → ℕ → Type 0 = λ k n. (all fs : Pairs) → g.G.Group.gives s0 c.args.group.now k all fs → Waits c.in_ok-asked.asked c.next_fold.new.verdict.bytes (has_wide_fold k n all ≡ false) (g.G.Group.gives s1 c.next_fold.new.group k all) fs in
    let next : Next p.verdict room = subst (λ (k : MergeRule). Next k room) c.verdict.ensures (subst (Next (g.P.Verdict.Merge.rule c.verdict.result.now)) room_is c.in_ok-asked.ensures.waits) in
    record {
      going = λ x changes all folds m. merging_first p room (has_wide_fold p.verdict room all ≡ false) g.St.Store.counted d.reads (g.St.Store.leaves c.args.store.now) (g.St.Store.holds c.args.store.now c.args.desk.now d)
          (ToGive s0 updates) (ToGive s1 updates) (g.G.Group.gives s0 c.args.group.now p.verdict all) (g.G.Group.gives s1 c.next_fold.new.group p.verdict all) (Took s0 vids) (Took s1 vids)
          c.in_ok-asked.asked c.next_fold.new.verdict.bytes c.none-counts.result x changes folds (g.met.St.Store.is_map c.args.store.now c.args.desk.now d x m.held) c.none-counts.ensures
          (λ es h. to_give_same s0 s1 updates es (same_by_touches (Only updates.file) (IsOwn made) s0 s1 (only_own made updates.file c.requires.updates_apart) by) h)
          (λ es h. took_same s0 s1 vids es (same_by_touches (Only vids.file) (IsOwn made) s0 s1 (only_own made vids.file c.requires.vids_apart) by) h)
          (next all) m;
      clean = clean_more (IsOwn made) (IsSettled made vids.file) s0 s1 (λ f own. inl own) c.in_ok-asked.ensures.ok;
      done = done_refl g.St.Store.counted (g.St.Store.part c.args.store.now) c.args.desk.now d c.requires.ready;
      part = search rules;
      desk = desk_refl c.args.desk.now;
      sealed = search rules;
      group = search rules;
      first = search rules;
      second = search rules;
      verdict = search rules;
      updates_file = search rules;
      updates_len = search rules;
      vids_file = search rules;
      vids_len = search rules;
      vids_first = search rules;
    }

pub returns-in_err-turn-clause-reads : goal.returns-in_err-turn-clause-reads
returns-in_err-turn-clause-reads g c = λ x changes all folds m.
    let i = c.loop-turn.invariant in
    let p = g.P.Program.meaning c.args.program.now in
    let sa = g.SD.Disk.shown c.args.scratch.now in
    let s0 = g.SD.Disk.shown c.loop-turn.scratch in
    let s1 = g.SD.Disk.shown c.next_turn.new.scratch in
    let da = g.GD.Disk.shown c.args.graph.now in
    let d0 = g.GD.Disk.shown c.loop-turn.graph in
    let made = g.G.Group.made c.args.group.now in
    let group = c.loop-turn.group in
    let vids = c.loop-turn.vids in
    let room = room_of sa.page_len in
    let mine = IsSettled made c.args.vids.now.file in
    let more = OrRead c.args.updates.now.file c.args.updates.now.file mine in
    let so_far : Clean more sa s0 = clean_more mine more sa s0 (λ f own. inl own) i.clean in
    let holding = g.St.Store.holds c.loop-turn.store c.loop-turn.desk d0 in
    reads_so_far p room (has_wide_fold p.verdict room all ≡ false) g.St.Store.counted d0.reads (g.St.Store.leaves c.loop-turn.store) da.reads (g.St.Store.leaves c.args.store.now) holding (ToGive s0 c.loop-turn.updates) (g.G.Group.gives s0 group p.verdict all) (Took s0 vids) c.loop-turn.asked c.loop-turn.verdict.bytes c.loop-turn.counts x changes folds (i.going x changes all folds m) d0.reads (OnTrue_from g.St.Store.counted _ (λ on. omega arith))

pub returns-in_err-turn-clause-leaves : goal.returns-in_err-turn-clause-leaves
returns-in_err-turn-clause-leaves g c = λ x changes all folds m.
    let i = c.loop-turn.invariant in
    let p = g.P.Program.meaning c.args.program.now in
    let sa = g.SD.Disk.shown c.args.scratch.now in
    let s0 = g.SD.Disk.shown c.loop-turn.scratch in
    let s1 = g.SD.Disk.shown c.next_turn.new.scratch in
    let da = g.GD.Disk.shown c.args.graph.now in
    let d0 = g.GD.Disk.shown c.loop-turn.graph in
    let made = g.G.Group.made c.args.group.now in
    let group = c.loop-turn.group in
    let vids = c.loop-turn.vids in
    let room = room_of sa.page_len in
    let mine = IsSettled made c.args.vids.now.file in
    let more = OrRead c.args.updates.now.file c.args.updates.now.file mine in
    let so_far : Clean more sa s0 = clean_more mine more sa s0 (λ f own. inl own) i.clean in
    let holding = g.St.Store.holds c.loop-turn.store c.loop-turn.desk d0 in
    leaves_so_far p room (has_wide_fold p.verdict room all ≡ false) g.St.Store.counted d0.reads (g.St.Store.leaves c.loop-turn.store) da.reads (g.St.Store.leaves c.args.store.now) holding (ToGive s0 c.loop-turn.updates) (g.G.Group.gives s0 group p.verdict all) (Took s0 vids) c.loop-turn.asked c.loop-turn.verdict.bytes c.loop-turn.counts x changes folds (i.going x changes all folds m) (g.St.Store.leaves c.loop-turn.store) (OnTrue_from g.St.Store.counted _ (λ on. omega arith))

pub returns-in_err-effect-clause-reads : goal.returns-in_err-effect-clause-reads
returns-in_err-effect-clause-reads g c = λ x changes all folds m.
    let i = c.loop-turn.invariant in
    let p = g.P.Program.meaning c.args.program.now in
    let sa = g.SD.Disk.shown c.args.scratch.now in
    let s0 = g.SD.Disk.shown c.loop-turn.scratch in
    let s1 = g.SD.Disk.shown c.next_turn.new.scratch in
    let da = g.GD.Disk.shown c.args.graph.now in
    let d0 = g.GD.Disk.shown c.loop-turn.graph in
    let made = g.G.Group.made c.args.group.now in
    let group = c.loop-turn.group in
    let vids = c.loop-turn.vids in
    let room = room_of sa.page_len in
    let mine = IsSettled made c.args.vids.now.file in
    let more = OrRead c.args.updates.now.file c.args.updates.now.file mine in
    let so_far : Clean more sa s0 = clean_more mine more sa s0 (λ f own. inl own) i.clean in
    let holding = g.St.Store.holds c.loop-turn.store c.loop-turn.desk d0 in
    let t = c.in-Some.turn in
    let due : (cs : Graph) (fs : Pairs) → IsMap cs → IsMap fs → ToGive s0 c.loop-turn.updates (vertex_tuples cs) → first_vid fs ≡ c.loop-turn.asked → IsTurn (Some t) cs fs = λ cs fs mc mf h first. subst (λ (o : Option Turn). IsTurn o cs fs) c.in-Some.is (c.in_ok-turn.ensures.turn cs fs mc mf h first) in
    let some = MatchOption-at_some _ _ _ c.in-Some.is c.in_ok-turn.ensures.some in
    let is_asked = MatchOption-at_some _ _ _ c.in-Some.is c.in_ok-turn.ensures.asked in
    let len1 : s1.page_len ≡ sa.page_len = c.in_ok-turn.ensures.ok.touches.page_len ∙ i.clean.touches.page_len in
    let take : (cs : Graph) → AllByRecursion (λ (e : ℕ × Vertex). IsVertex e.1) cs → ToGive s0 c.loop-turn.updates (vertex_tuples cs) → Comes t.has_update t.vid cs → (rest : Graph) × Takes t.vid (given_if t.has_update c.take_update.new.first.vertex) cs rest × ToGive s1 c.take_update.new.updates (vertex_tuples rest) =
    λ cs stored h comes. c.take_update.ensures.taken s1 cs (i.first.room ∙ c.requires.first ∙ ap room_of (sym len1)) stored (c.in_ok-turn.ensures.to_give cs h) comes in
    let read : Clean more s0 s1 = clean_more NoFile more s0 s1 (λ f no. absurd no) c.in_ok-turn.ensures.ok in
    reads_within p room (has_wide_fold p.verdict room all ≡ false) g.St.Store.counted d0.reads (g.St.Store.leaves c.loop-turn.store) da.reads (g.St.Store.leaves c.args.store.now) holding (ToGive s0 c.loop-turn.updates) (g.G.Group.gives s0 group p.verdict all) (Took s0 vids) c.loop-turn.asked c.loop-turn.verdict.bytes c.loop-turn.counts x changes folds (i.going x changes all folds m) t due some is_asked (g.GD.Disk.shown c.settle_vid.new.graph).reads c.settle_vid.ensures.reads

pub returns-in_err-effect-clause-leaves : goal.returns-in_err-effect-clause-leaves
returns-in_err-effect-clause-leaves g c = λ x changes all folds m.
    let i = c.loop-turn.invariant in
    let p = g.P.Program.meaning c.args.program.now in
    let sa = g.SD.Disk.shown c.args.scratch.now in
    let s0 = g.SD.Disk.shown c.loop-turn.scratch in
    let s1 = g.SD.Disk.shown c.next_turn.new.scratch in
    let da = g.GD.Disk.shown c.args.graph.now in
    let d0 = g.GD.Disk.shown c.loop-turn.graph in
    let made = g.G.Group.made c.args.group.now in
    let group = c.loop-turn.group in
    let vids = c.loop-turn.vids in
    let room = room_of sa.page_len in
    let mine = IsSettled made c.args.vids.now.file in
    let more = OrRead c.args.updates.now.file c.args.updates.now.file mine in
    let so_far : Clean more sa s0 = clean_more mine more sa s0 (λ f own. inl own) i.clean in
    let holding = g.St.Store.holds c.loop-turn.store c.loop-turn.desk d0 in
    let t = c.in-Some.turn in
    let due : (cs : Graph) (fs : Pairs) → IsMap cs → IsMap fs → ToGive s0 c.loop-turn.updates (vertex_tuples cs) → first_vid fs ≡ c.loop-turn.asked → IsTurn (Some t) cs fs = λ cs fs mc mf h first. subst (λ (o : Option Turn). IsTurn o cs fs) c.in-Some.is (c.in_ok-turn.ensures.turn cs fs mc mf h first) in
    let some = MatchOption-at_some _ _ _ c.in-Some.is c.in_ok-turn.ensures.some in
    let is_asked = MatchOption-at_some _ _ _ c.in-Some.is c.in_ok-turn.ensures.asked in
    let len1 : s1.page_len ≡ sa.page_len = c.in_ok-turn.ensures.ok.touches.page_len ∙ i.clean.touches.page_len in
    let take : (cs : Graph) → AllByRecursion (λ (e : ℕ × Vertex). IsVertex e.1) cs → ToGive s0 c.loop-turn.updates (vertex_tuples cs) → Comes t.has_update t.vid cs → (rest : Graph) × Takes t.vid (given_if t.has_update c.take_update.new.first.vertex) cs rest × ToGive s1 c.take_update.new.updates (vertex_tuples rest) =
    λ cs stored h comes. c.take_update.ensures.taken s1 cs (i.first.room ∙ c.requires.first ∙ ap room_of (sym len1)) stored (c.in_ok-turn.ensures.to_give cs h) comes in
    let read : Clean more s0 s1 = clean_more NoFile more s0 s1 (λ f no. absurd no) c.in_ok-turn.ensures.ok in
    leaves_within p room (has_wide_fold p.verdict room all ≡ false) g.St.Store.counted d0.reads (g.St.Store.leaves c.loop-turn.store) da.reads (g.St.Store.leaves c.args.store.now) holding (ToGive s0 c.loop-turn.updates) (g.G.Group.gives s0 group p.verdict all) (Took s0 vids) c.loop-turn.asked c.loop-turn.verdict.bytes c.loop-turn.counts x changes folds (i.going x changes all folds m) t due some is_asked (g.St.Store.leaves c.settle_vid.new.store) c.settle_vid.ensures.leaves

pub returns-in_err-write_live-clause-reads : goal.returns-in_err-write_live-clause-reads
returns-in_err-write_live-clause-reads g c = λ x changes all folds m.
    let i = c.loop-turn.invariant in
    let p = g.P.Program.meaning c.args.program.now in
    let sa = g.SD.Disk.shown c.args.scratch.now in
    let s0 = g.SD.Disk.shown c.loop-turn.scratch in
    let s1 = g.SD.Disk.shown c.next_turn.new.scratch in
    let da = g.GD.Disk.shown c.args.graph.now in
    let d0 = g.GD.Disk.shown c.loop-turn.graph in
    let made = g.G.Group.made c.args.group.now in
    let group = c.loop-turn.group in
    let vids = c.loop-turn.vids in
    let room = room_of sa.page_len in
    let mine = IsSettled made c.args.vids.now.file in
    let more = OrRead c.args.updates.now.file c.args.updates.now.file mine in
    let so_far : Clean more sa s0 = clean_more mine more sa s0 (λ f own. inl own) i.clean in
    let holding = g.St.Store.holds c.loop-turn.store c.loop-turn.desk d0 in
    let t = c.in-Some.turn in
    let due : (cs : Graph) (fs : Pairs) → IsMap cs → IsMap fs → ToGive s0 c.loop-turn.updates (vertex_tuples cs) → first_vid fs ≡ c.loop-turn.asked → IsTurn (Some t) cs fs = λ cs fs mc mf h first. subst (λ (o : Option Turn). IsTurn o cs fs) c.in-Some.is (c.in_ok-turn.ensures.turn cs fs mc mf h first) in
    let some = MatchOption-at_some _ _ _ c.in-Some.is c.in_ok-turn.ensures.some in
    let is_asked = MatchOption-at_some _ _ _ c.in-Some.is c.in_ok-turn.ensures.asked in
    let len1 : s1.page_len ≡ sa.page_len = c.in_ok-turn.ensures.ok.touches.page_len ∙ i.clean.touches.page_len in
    let take : (cs : Graph) → AllByRecursion (λ (e : ℕ × Vertex). IsVertex e.1) cs → ToGive s0 c.loop-turn.updates (vertex_tuples cs) → Comes t.has_update t.vid cs → (rest : Graph) × Takes t.vid (given_if t.has_update c.take_update.new.first.vertex) cs rest × ToGive s1 c.take_update.new.updates (vertex_tuples rest) =
    λ cs stored h comes. c.take_update.ensures.taken s1 cs (i.first.room ∙ c.requires.first ∙ ap room_of (sym len1)) stored (c.in_ok-turn.ensures.to_give cs h) comes in
    let read : Clean more s0 s1 = clean_more NoFile more s0 s1 (λ f no. absurd no) c.in_ok-turn.ensures.ok in
    reads_within p room (has_wide_fold p.verdict room all ≡ false) g.St.Store.counted d0.reads (g.St.Store.leaves c.loop-turn.store) da.reads (g.St.Store.leaves c.args.store.now) holding (ToGive s0 c.loop-turn.updates) (g.G.Group.gives s0 group p.verdict all) (Took s0 vids) c.loop-turn.asked c.loop-turn.verdict.bytes c.loop-turn.counts x changes folds (i.going x changes all folds m) t due some is_asked (g.GD.Disk.shown c.settle_vid.new.graph).reads c.settle_vid.ensures.reads

pub returns-in_err-write_live-clause-leaves : goal.returns-in_err-write_live-clause-leaves
returns-in_err-write_live-clause-leaves g c = λ x changes all folds m.
    let i = c.loop-turn.invariant in
    let p = g.P.Program.meaning c.args.program.now in
    let sa = g.SD.Disk.shown c.args.scratch.now in
    let s0 = g.SD.Disk.shown c.loop-turn.scratch in
    let s1 = g.SD.Disk.shown c.next_turn.new.scratch in
    let da = g.GD.Disk.shown c.args.graph.now in
    let d0 = g.GD.Disk.shown c.loop-turn.graph in
    let made = g.G.Group.made c.args.group.now in
    let group = c.loop-turn.group in
    let vids = c.loop-turn.vids in
    let room = room_of sa.page_len in
    let mine = IsSettled made c.args.vids.now.file in
    let more = OrRead c.args.updates.now.file c.args.updates.now.file mine in
    let so_far : Clean more sa s0 = clean_more mine more sa s0 (λ f own. inl own) i.clean in
    let holding = g.St.Store.holds c.loop-turn.store c.loop-turn.desk d0 in
    let t = c.in-Some.turn in
    let due : (cs : Graph) (fs : Pairs) → IsMap cs → IsMap fs → ToGive s0 c.loop-turn.updates (vertex_tuples cs) → first_vid fs ≡ c.loop-turn.asked → IsTurn (Some t) cs fs = λ cs fs mc mf h first. subst (λ (o : Option Turn). IsTurn o cs fs) c.in-Some.is (c.in_ok-turn.ensures.turn cs fs mc mf h first) in
    let some = MatchOption-at_some _ _ _ c.in-Some.is c.in_ok-turn.ensures.some in
    let is_asked = MatchOption-at_some _ _ _ c.in-Some.is c.in_ok-turn.ensures.asked in
    let len1 : s1.page_len ≡ sa.page_len = c.in_ok-turn.ensures.ok.touches.page_len ∙ i.clean.touches.page_len in
    let take : (cs : Graph) → AllByRecursion (λ (e : ℕ × Vertex). IsVertex e.1) cs → ToGive s0 c.loop-turn.updates (vertex_tuples cs) → Comes t.has_update t.vid cs → (rest : Graph) × Takes t.vid (given_if t.has_update c.take_update.new.first.vertex) cs rest × ToGive s1 c.take_update.new.updates (vertex_tuples rest) =
    λ cs stored h comes. c.take_update.ensures.taken s1 cs (i.first.room ∙ c.requires.first ∙ ap room_of (sym len1)) stored (c.in_ok-turn.ensures.to_give cs h) comes in
    let read : Clean more s0 s1 = clean_more NoFile more s0 s1 (λ f no. absurd no) c.in_ok-turn.ensures.ok in
    leaves_within p room (has_wide_fold p.verdict room all ≡ false) g.St.Store.counted d0.reads (g.St.Store.leaves c.loop-turn.store) da.reads (g.St.Store.leaves c.args.store.now) holding (ToGive s0 c.loop-turn.updates) (g.G.Group.gives s0 group p.verdict all) (Took s0 vids) c.loop-turn.asked c.loop-turn.verdict.bytes c.loop-turn.counts x changes folds (i.going x changes all folds m) t due some is_asked (g.St.Store.leaves c.settle_vid.new.store) c.settle_vid.ensures.leaves

pub returns-in_err-asked-2-clause-reads : goal.returns-in_err-asked-2-clause-reads
returns-in_err-asked-2-clause-reads g c = λ x changes all folds m.
    let i = c.loop-turn.invariant in
    let p = g.P.Program.meaning c.args.program.now in
    let sa = g.SD.Disk.shown c.args.scratch.now in
    let s0 = g.SD.Disk.shown c.loop-turn.scratch in
    let s1 = g.SD.Disk.shown c.next_turn.new.scratch in
    let da = g.GD.Disk.shown c.args.graph.now in
    let d0 = g.GD.Disk.shown c.loop-turn.graph in
    let made = g.G.Group.made c.args.group.now in
    let group = c.loop-turn.group in
    let vids = c.loop-turn.vids in
    let room = room_of sa.page_len in
    let mine = IsSettled made c.args.vids.now.file in
    let more = OrRead c.args.updates.now.file c.args.updates.now.file mine in
    let so_far : Clean more sa s0 = clean_more mine more sa s0 (λ f own. inl own) i.clean in
    let holding = g.St.Store.holds c.loop-turn.store c.loop-turn.desk d0 in
    let t = c.in-Some.turn in
    let due : (cs : Graph) (fs : Pairs) → IsMap cs → IsMap fs → ToGive s0 c.loop-turn.updates (vertex_tuples cs) → first_vid fs ≡ c.loop-turn.asked → IsTurn (Some t) cs fs = λ cs fs mc mf h first. subst (λ (o : Option Turn). IsTurn o cs fs) c.in-Some.is (c.in_ok-turn.ensures.turn cs fs mc mf h first) in
    let some = MatchOption-at_some _ _ _ c.in-Some.is c.in_ok-turn.ensures.some in
    let is_asked = MatchOption-at_some _ _ _ c.in-Some.is c.in_ok-turn.ensures.asked in
    let len1 : s1.page_len ≡ sa.page_len = c.in_ok-turn.ensures.ok.touches.page_len ∙ i.clean.touches.page_len in
    let take : (cs : Graph) → AllByRecursion (λ (e : ℕ × Vertex). IsVertex e.1) cs → ToGive s0 c.loop-turn.updates (vertex_tuples cs) → Comes t.has_update t.vid cs → (rest : Graph) × Takes t.vid (given_if t.has_update c.take_update.new.first.vertex) cs rest × ToGive s1 c.take_update.new.updates (vertex_tuples rest) =
    λ cs stored h comes. c.take_update.ensures.taken s1 cs (i.first.room ∙ c.requires.first ∙ ap room_of (sym len1)) stored (c.in_ok-turn.ensures.to_give cs h) comes in
    let read : Clean more s0 s1 = clean_more NoFile more s0 s1 (λ f no. absurd no) c.in_ok-turn.ensures.ok in
    reads_within p room (has_wide_fold p.verdict room all ≡ false) g.St.Store.counted d0.reads (g.St.Store.leaves c.loop-turn.store) da.reads (g.St.Store.leaves c.args.store.now) holding (ToGive s0 c.loop-turn.updates) (g.G.Group.gives s0 group p.verdict all) (Took s0 vids) c.loop-turn.asked c.loop-turn.verdict.bytes c.loop-turn.counts x changes folds (i.going x changes all folds m) t due some is_asked (g.GD.Disk.shown c.settle_vid.new.graph).reads c.settle_vid.ensures.reads

pub returns-in_err-asked-2-clause-leaves : goal.returns-in_err-asked-2-clause-leaves
returns-in_err-asked-2-clause-leaves g c = λ x changes all folds m.
    let i = c.loop-turn.invariant in
    let p = g.P.Program.meaning c.args.program.now in
    let sa = g.SD.Disk.shown c.args.scratch.now in
    let s0 = g.SD.Disk.shown c.loop-turn.scratch in
    let s1 = g.SD.Disk.shown c.next_turn.new.scratch in
    let da = g.GD.Disk.shown c.args.graph.now in
    let d0 = g.GD.Disk.shown c.loop-turn.graph in
    let made = g.G.Group.made c.args.group.now in
    let group = c.loop-turn.group in
    let vids = c.loop-turn.vids in
    let room = room_of sa.page_len in
    let mine = IsSettled made c.args.vids.now.file in
    let more = OrRead c.args.updates.now.file c.args.updates.now.file mine in
    let so_far : Clean more sa s0 = clean_more mine more sa s0 (λ f own. inl own) i.clean in
    let holding = g.St.Store.holds c.loop-turn.store c.loop-turn.desk d0 in
    let t = c.in-Some.turn in
    let due : (cs : Graph) (fs : Pairs) → IsMap cs → IsMap fs → ToGive s0 c.loop-turn.updates (vertex_tuples cs) → first_vid fs ≡ c.loop-turn.asked → IsTurn (Some t) cs fs = λ cs fs mc mf h first. subst (λ (o : Option Turn). IsTurn o cs fs) c.in-Some.is (c.in_ok-turn.ensures.turn cs fs mc mf h first) in
    let some = MatchOption-at_some _ _ _ c.in-Some.is c.in_ok-turn.ensures.some in
    let is_asked = MatchOption-at_some _ _ _ c.in-Some.is c.in_ok-turn.ensures.asked in
    let len1 : s1.page_len ≡ sa.page_len = c.in_ok-turn.ensures.ok.touches.page_len ∙ i.clean.touches.page_len in
    let take : (cs : Graph) → AllByRecursion (λ (e : ℕ × Vertex). IsVertex e.1) cs → ToGive s0 c.loop-turn.updates (vertex_tuples cs) → Comes t.has_update t.vid cs → (rest : Graph) × Takes t.vid (given_if t.has_update c.take_update.new.first.vertex) cs rest × ToGive s1 c.take_update.new.updates (vertex_tuples rest) =
    λ cs stored h comes. c.take_update.ensures.taken s1 cs (i.first.room ∙ c.requires.first ∙ ap room_of (sym len1)) stored (c.in_ok-turn.ensures.to_give cs h) comes in
    let read : Clean more s0 s1 = clean_more NoFile more s0 s1 (λ f no. absurd no) c.in_ok-turn.ensures.ok in
    leaves_within p room (has_wide_fold p.verdict room all ≡ false) g.St.Store.counted d0.reads (g.St.Store.leaves c.loop-turn.store) da.reads (g.St.Store.leaves c.args.store.now) holding (ToGive s0 c.loop-turn.updates) (g.G.Group.gives s0 group p.verdict all) (Took s0 vids) c.loop-turn.asked c.loop-turn.verdict.bytes c.loop-turn.counts x changes folds (i.going x changes all folds m) t due some is_asked (g.St.Store.leaves c.settle_vid.new.store) c.settle_vid.ensures.leaves

pub returns-clause-reads : goal.returns-clause-reads
returns-clause-reads g c = λ x changes all folds m.
    let i = c.loop-turn.invariant in
    let p = g.P.Program.meaning c.args.program.now in
    let sa = g.SD.Disk.shown c.args.scratch.now in
    let s0 = g.SD.Disk.shown c.loop-turn.scratch in
    let s1 = g.SD.Disk.shown c.next_turn.new.scratch in
    let da = g.GD.Disk.shown c.args.graph.now in
    let d0 = g.GD.Disk.shown c.loop-turn.graph in
    let made = g.G.Group.made c.args.group.now in
    let group = c.loop-turn.group in
    let vids = c.loop-turn.vids in
    let room = room_of sa.page_len in
    let mine = IsSettled made c.args.vids.now.file in
    let more = OrRead c.args.updates.now.file c.args.updates.now.file mine in
    let so_far : Clean more sa s0 = clean_more mine more sa s0 (λ f own. inl own) i.clean in
    let holding = g.St.Store.holds c.loop-turn.store c.loop-turn.desk d0 in
    reads_so_far p room (has_wide_fold p.verdict room all ≡ false) g.St.Store.counted d0.reads (g.St.Store.leaves c.loop-turn.store) da.reads (g.St.Store.leaves c.args.store.now) holding (ToGive s0 c.loop-turn.updates) (g.G.Group.gives s0 group p.verdict all) (Took s0 vids) c.loop-turn.asked c.loop-turn.verdict.bytes c.loop-turn.counts x changes folds (i.going x changes all folds m) d0.reads (OnTrue_from g.St.Store.counted _ (λ on. omega arith))

pub returns-clause-leaves : goal.returns-clause-leaves
returns-clause-leaves g c = λ x changes all folds m.
    let i = c.loop-turn.invariant in
    let p = g.P.Program.meaning c.args.program.now in
    let sa = g.SD.Disk.shown c.args.scratch.now in
    let s0 = g.SD.Disk.shown c.loop-turn.scratch in
    let s1 = g.SD.Disk.shown c.next_turn.new.scratch in
    let da = g.GD.Disk.shown c.args.graph.now in
    let d0 = g.GD.Disk.shown c.loop-turn.graph in
    let made = g.G.Group.made c.args.group.now in
    let group = c.loop-turn.group in
    let vids = c.loop-turn.vids in
    let room = room_of sa.page_len in
    let mine = IsSettled made c.args.vids.now.file in
    let more = OrRead c.args.updates.now.file c.args.updates.now.file mine in
    let so_far : Clean more sa s0 = clean_more mine more sa s0 (λ f own. inl own) i.clean in
    let holding = g.St.Store.holds c.loop-turn.store c.loop-turn.desk d0 in
    leaves_so_far p room (has_wide_fold p.verdict room all ≡ false) g.St.Store.counted d0.reads (g.St.Store.leaves c.loop-turn.store) da.reads (g.St.Store.leaves c.args.store.now) holding (ToGive s0 c.loop-turn.updates) (g.G.Group.gives s0 group p.verdict all) (Took s0 vids) c.loop-turn.asked c.loop-turn.verdict.bytes c.loop-turn.counts x changes folds (i.going x changes all folds m) (g.St.Store.leaves c.loop-turn.store) (OnTrue_from g.St.Store.counted _ (λ on. omega arith))

-- an update was not read
pub returns-in_err-turn-clause-err : goal.returns-in_err-turn-clause-err
returns-in_err-turn-clause-err g c =
    let i = c.loop-turn.invariant in
    let p = g.P.Program.meaning c.args.program.now in
    let sa = g.SD.Disk.shown c.args.scratch.now in
    let s0 = g.SD.Disk.shown c.loop-turn.scratch in
    let s1 = g.SD.Disk.shown c.next_turn.new.scratch in
    let da = g.GD.Disk.shown c.args.graph.now in
    let d0 = g.GD.Disk.shown c.loop-turn.graph in
    let made = g.G.Group.made c.args.group.now in
    let group = c.loop-turn.group in
    let vids = c.loop-turn.vids in
    let room = room_of sa.page_len in
    let mine = IsSettled made c.args.vids.now.file in
    let more = OrRead c.args.updates.now.file c.args.updates.now.file mine in
    let so_far : Clean more sa s0 = clean_more mine more sa s0 (λ f own. inl own) i.clean in
    let holding = g.St.Store.holds c.loop-turn.store c.loop-turn.desk d0 in
    let end = err_from_is_err_and c.from_residual-in_err-turn.result c.from_residual-in_err-turn.ensures.1 in
    let stop : end.0 ≡ c.in_err-turn.field-0.0 = cc in
    rw (end.1, stop) (scratch_stops more _ da d0 d0 sa s0 s1 c.in_err-turn.field-0.0 i.done.clean so_far (clean_refl AnyFile d0)
    (broke_more Scratch (Only c.loop-turn.updates.file) more s0 s1 c.in_err-turn.field-0.0 (λ f is. inr (inl (is ∙ i.updates_file))) c.in_err-turn.ensures.err))

-- a vid was not settled
pub returns-in_err-effect-clause-err : goal.returns-in_err-effect-clause-err
returns-in_err-effect-clause-err g c =
    let i = c.loop-turn.invariant in
    let p = g.P.Program.meaning c.args.program.now in
    let sa = g.SD.Disk.shown c.args.scratch.now in
    let s0 = g.SD.Disk.shown c.loop-turn.scratch in
    let s1 = g.SD.Disk.shown c.next_turn.new.scratch in
    let da = g.GD.Disk.shown c.args.graph.now in
    let d0 = g.GD.Disk.shown c.loop-turn.graph in
    let made = g.G.Group.made c.args.group.now in
    let group = c.loop-turn.group in
    let vids = c.loop-turn.vids in
    let room = room_of sa.page_len in
    let mine = IsSettled made c.args.vids.now.file in
    let more = OrRead c.args.updates.now.file c.args.updates.now.file mine in
    let so_far : Clean more sa s0 = clean_more mine more sa s0 (λ f own. inl own) i.clean in
    let holding = g.St.Store.holds c.loop-turn.store c.loop-turn.desk d0 in
    let t = c.in-Some.turn in
    let due : (cs : Graph) (fs : Pairs) → IsMap cs → IsMap fs → ToGive s0 c.loop-turn.updates (vertex_tuples cs) → first_vid fs ≡ c.loop-turn.asked → IsTurn (Some t) cs fs = λ cs fs mc mf h first. subst (λ (o : Option Turn). IsTurn o cs fs) c.in-Some.is (c.in_ok-turn.ensures.turn cs fs mc mf h first) in
    let some = MatchOption-at_some _ _ _ c.in-Some.is c.in_ok-turn.ensures.some in
    let is_asked = MatchOption-at_some _ _ _ c.in-Some.is c.in_ok-turn.ensures.asked in
    let len1 : s1.page_len ≡ sa.page_len = c.in_ok-turn.ensures.ok.touches.page_len ∙ i.clean.touches.page_len in
    let take : (cs : Graph) → AllByRecursion (λ (e : ℕ × Vertex). IsVertex e.1) cs → ToGive s0 c.loop-turn.updates (vertex_tuples cs) → Comes t.has_update t.vid cs → (rest : Graph) × Takes t.vid (given_if t.has_update c.take_update.new.first.vertex) cs rest × ToGive s1 c.take_update.new.updates (vertex_tuples rest) =
    λ cs stored h comes. c.take_update.ensures.taken s1 cs (i.first.room ∙ c.requires.first ∙ ap room_of (sym len1)) stored (c.in_ok-turn.ensures.to_give cs h) comes in
    let read : Clean more s0 s1 = clean_more NoFile more s0 s1 (λ f no. absurd no) c.in_ok-turn.ensures.ok in
    let end = err_from_is_err_and c.from_residual-in_err-effect.result c.from_residual-in_err-effect.ensures.1 in
    let stop : end.0 ≡ c.in_err-effect.field-0.0 = cc in
    let d1 = g.GD.Disk.shown c.settle_vid.new.graph in
    let room_is : room_of d0.page_len ≡ room = ap room_of (i.done.clean.touches.page_len ∙ c.requires.graph_len) in
    let Wide : List ℕ → ℕ → Type 0 = λ bytes n. (t.has_verdict ≡ true → IsTrue (p.verdict.valid bytes)) → (k : Graph) → holding k → IsTooWide n (left_at p t.vid (given_if t.has_update c.take_update.new.first.vertex) (given_if t.has_verdict bytes) k) in
    rw (end.1, stop) (settling_stops more _ da d0 d1 sa s0 s1 c.in_err-effect.field-0.0 i.done.clean so_far (Wide c.bytes.result.now (room_of d0.page_len))
    (λ wide x changes all folds m. merging_wide p room (has_wide_fold p.verdict room all ≡ false) g.St.Store.counted d0.reads (g.St.Store.leaves c.loop-turn.store) da.reads (g.St.Store.leaves c.args.store.now) holding (ToGive s0 c.loop-turn.updates) (g.G.Group.gives s0 group p.verdict all) (Took s0 vids) c.loop-turn.asked c.loop-turn.verdict.bytes c.loop-turn.counts x changes folds (i.going x changes all folds m) t due some is_asked (ToGive s1 c.take_update.new.updates) c.take_update.new.first.vertex take all
    (subst (Wide c.loop-turn.verdict.bytes) room_is (subst (λ (b : List ℕ). Wide b (room_of d0.page_len)) c.bytes.ensures.bytes wide))
    (λ fs waits comes. turn_takes t.has_verdict t.vid c.loop-turn.asked c.loop-turn.verdict.bytes _ _ fs is_asked waits comes))
    read c.in_err-effect.ensures.err)

-- a live vid was not written
pub returns-in_err-write_live-clause-err : goal.returns-in_err-write_live-clause-err
returns-in_err-write_live-clause-err g c =
    let i = c.loop-turn.invariant in
    let p = g.P.Program.meaning c.args.program.now in
    let sa = g.SD.Disk.shown c.args.scratch.now in
    let s0 = g.SD.Disk.shown c.loop-turn.scratch in
    let s1 = g.SD.Disk.shown c.next_turn.new.scratch in
    let da = g.GD.Disk.shown c.args.graph.now in
    let d0 = g.GD.Disk.shown c.loop-turn.graph in
    let made = g.G.Group.made c.args.group.now in
    let group = c.loop-turn.group in
    let vids = c.loop-turn.vids in
    let room = room_of sa.page_len in
    let mine = IsSettled made c.args.vids.now.file in
    let more = OrRead c.args.updates.now.file c.args.updates.now.file mine in
    let so_far : Clean more sa s0 = clean_more mine more sa s0 (λ f own. inl own) i.clean in
    let holding = g.St.Store.holds c.loop-turn.store c.loop-turn.desk d0 in
    let t = c.in-Some.turn in
    let due : (cs : Graph) (fs : Pairs) → IsMap cs → IsMap fs → ToGive s0 c.loop-turn.updates (vertex_tuples cs) → first_vid fs ≡ c.loop-turn.asked → IsTurn (Some t) cs fs = λ cs fs mc mf h first. subst (λ (o : Option Turn). IsTurn o cs fs) c.in-Some.is (c.in_ok-turn.ensures.turn cs fs mc mf h first) in
    let some = MatchOption-at_some _ _ _ c.in-Some.is c.in_ok-turn.ensures.some in
    let is_asked = MatchOption-at_some _ _ _ c.in-Some.is c.in_ok-turn.ensures.asked in
    let len1 : s1.page_len ≡ sa.page_len = c.in_ok-turn.ensures.ok.touches.page_len ∙ i.clean.touches.page_len in
    let take : (cs : Graph) → AllByRecursion (λ (e : ℕ × Vertex). IsVertex e.1) cs → ToGive s0 c.loop-turn.updates (vertex_tuples cs) → Comes t.has_update t.vid cs → (rest : Graph) × Takes t.vid (given_if t.has_update c.take_update.new.first.vertex) cs rest × ToGive s1 c.take_update.new.updates (vertex_tuples rest) =
    λ cs stored h comes. c.take_update.ensures.taken s1 cs (i.first.room ∙ c.requires.first ∙ ap room_of (sym len1)) stored (c.in_ok-turn.ensures.to_give cs h) comes in
    let read : Clean more s0 s1 = clean_more NoFile more s0 s1 (λ f no. absurd no) c.in_ok-turn.ensures.ok in
    let s2 = g.SD.Disk.shown c.write_live.new.scratch in
    let d1 = g.GD.Disk.shown c.settle_vid.new.graph in
    let part : g.St.Store.part c.loop-turn.store ≡ g.St.Store.part c.args.store.now = i.part in
    let settled_done : IsDone g.St.Store.counted (g.St.Store.part c.args.store.now) c.loop-turn.desk d0 c.settle_vid.new.desk d1 = subst (λ (q : ℕ). IsDone g.St.Store.counted q c.loop-turn.desk d0 c.settle_vid.new.desk d1) part c.in_ok-effect.ensures.done in
    let end = err_from_is_err_and c.from_residual-in_err-write_live.result c.from_residual-in_err-write_live.ensures.1 in
    let stop : end.0 ≡ c.in_err-write_live.field-0.0 = cc in
    rw (end.1, stop) (scratch_stops more _ da d0 d1 sa s1 s2 c.in_err-write_live.field-0.0 i.done.clean (clean_then more sa s0 s1 so_far read) settled_done.clean
    (broke_more Scratch (Only vids.file) more s1 s2 c.in_err-write_live.field-0.0 (λ f is. inl (inr (is ∙ i.vids_file))) c.in_err-write_live.ensures.err))

-- no next fold was given
pub returns-in_err-asked-2-clause-err : goal.returns-in_err-asked-2-clause-err
returns-in_err-asked-2-clause-err g c =
    let i = c.loop-turn.invariant in
    let p = g.P.Program.meaning c.args.program.now in
    let sa = g.SD.Disk.shown c.args.scratch.now in
    let s0 = g.SD.Disk.shown c.loop-turn.scratch in
    let s1 = g.SD.Disk.shown c.next_turn.new.scratch in
    let da = g.GD.Disk.shown c.args.graph.now in
    let d0 = g.GD.Disk.shown c.loop-turn.graph in
    let made = g.G.Group.made c.args.group.now in
    let group = c.loop-turn.group in
    let vids = c.loop-turn.vids in
    let room = room_of sa.page_len in
    let mine = IsSettled made c.args.vids.now.file in
    let more = OrRead c.args.updates.now.file c.args.updates.now.file mine in
    let so_far : Clean more sa s0 = clean_more mine more sa s0 (λ f own. inl own) i.clean in
    let holding = g.St.Store.holds c.loop-turn.store c.loop-turn.desk d0 in
    let t = c.in-Some.turn in
    let due : (cs : Graph) (fs : Pairs) → IsMap cs → IsMap fs → ToGive s0 c.loop-turn.updates (vertex_tuples cs) → first_vid fs ≡ c.loop-turn.asked → IsTurn (Some t) cs fs = λ cs fs mc mf h first. subst (λ (o : Option Turn). IsTurn o cs fs) c.in-Some.is (c.in_ok-turn.ensures.turn cs fs mc mf h first) in
    let some = MatchOption-at_some _ _ _ c.in-Some.is c.in_ok-turn.ensures.some in
    let is_asked = MatchOption-at_some _ _ _ c.in-Some.is c.in_ok-turn.ensures.asked in
    let len1 : s1.page_len ≡ sa.page_len = c.in_ok-turn.ensures.ok.touches.page_len ∙ i.clean.touches.page_len in
    let take : (cs : Graph) → AllByRecursion (λ (e : ℕ × Vertex). IsVertex e.1) cs → ToGive s0 c.loop-turn.updates (vertex_tuples cs) → Comes t.has_update t.vid cs → (rest : Graph) × Takes t.vid (given_if t.has_update c.take_update.new.first.vertex) cs rest × ToGive s1 c.take_update.new.updates (vertex_tuples rest) =
    λ cs stored h comes. c.take_update.ensures.taken s1 cs (i.first.room ∙ c.requires.first ∙ ap room_of (sym len1)) stored (c.in_ok-turn.ensures.to_give cs h) comes in
    let read : Clean more s0 s1 = clean_more NoFile more s0 s1 (λ f no. absurd no) c.in_ok-turn.ensures.ok in
    let s2 = g.SD.Disk.shown c.write_live.new.scratch in
    let d1 = g.GD.Disk.shown c.settle_vid.new.graph in
    let part : g.St.Store.part c.loop-turn.store ≡ g.St.Store.part c.args.store.now = i.part in
    let settled_done : IsDone g.St.Store.counted (g.St.Store.part c.args.store.now) c.loop-turn.desk d0 c.settle_vid.new.desk d1 = subst (λ (q : ℕ). IsDone g.St.Store.counted q c.loop-turn.desk d0 c.settle_vid.new.desk d1) part c.in_ok-effect.ensures.done in
    let s3 = g.SD.Disk.shown c.next_asked.new.scratch in
    let own_is : (f : ℕ) → IsOwn (g.G.Group.made group) f → IsOwn made f = λ f own. subst (λ (k : GroupMade). IsOwn k f) i.group own in
    let wrote = c.in_ok-write_live.ensures.ok in
    let written : Clean more s1 s2 = clean_more (Only vids.file) more s1 s2 (λ f is. inl (inr (is ∙ i.vids_file))) wrote in
    let group_apart : IsOwn (g.G.Group.made group) vids.file → ⊥ = λ own. c.requires.vids_apart (own_is c.args.vids.now.file (subst (IsOwn (g.G.Group.made group)) i.vids_file own)) in
    let stay : (all fs : Pairs) → g.G.Group.gives s0 group p.verdict all fs → g.G.Group.gives s2 group p.verdict all fs = λ all fs h. g.met.G.Group.gives_stays s0 s2 group p.verdict all fs
    (same_then (IsOwn (g.G.Group.made group)) s0 s1 s2 (same_by_none (IsOwn (g.G.Group.made group)) s0 s1 c.in_ok-turn.ensures.ok.touches) (same_by_touches (IsOwn (g.G.Group.made group)) (Only vids.file) s1 s2 (own_only (g.G.Group.made group) vids.file group_apart) wrote.touches)) h in
    let group_room : room_in (g.G.Group.made group) ≡ room = ap room_in i.group ∙ ap room_of c.requires.group_len in
    let end = err_from_is_err_and c.from_residual-in_err-asked-2.result c.from_residual-in_err-asked-2.ensures.1 in
    let stop : end.0 ≡ c.in_err-asked-2.field-0.0 = cc in
    let Long : MergeRule → ℕ → Type 0 = λ k n. (all fs : Pairs) → Waits c.loop-turn.asked c.loop-turn.verdict.bytes (has_wide_fold k n all ≡ false) (g.G.Group.gives s2 group k all) fs → IsTrue (has_wide_fold k n all) in
    let rule = g.P.Verdict.Merge.rule c.verdict-in-Some.result.now in
    rw (end.1, stop) (grouping_stops more _ da d0 d1 sa s2 s3 c.in_err-asked-2.field-0.0 i.done.clean (clean_then more sa s1 s2 (clean_then more sa s0 s1 so_far read) written) (Long rule (room_in (g.G.Group.made group)))
    (λ long x changes all folds m.
    let was = i.going x changes all folds m in
    or_left _ _ (or_right (has_wide_vertex room (settled p (put_all x changes) folds)) _
    ((subst (Long p.verdict) group_room (subst (λ (k : MergeRule). Long k (room_in (g.G.Group.made group))) c.verdict-in-Some.ensures long)) all was.waiting
    (waits_map c.loop-turn.asked c.loop-turn.verdict.bytes (has_wide_fold p.verdict room all ≡ false) (g.G.Group.gives s0 group p.verdict all) (g.G.Group.gives s2 group p.verdict all) was.waiting (stay all) was.waits))))
    settled_done.clean (grouping_more (IsOwn (g.G.Group.made group)) more _ s2 s3 c.in_err-asked-2.field-0.0 (λ f own. inl (inl (own_is f own))) c.in_err-asked-2.ensures.err))

pub loop-turn-preserved : goal.loop-turn-preserved
loop-turn-preserved g c =
    let i = c.loop-turn.invariant in
    let p = g.P.Program.meaning c.args.program.now in
    let sa = g.SD.Disk.shown c.args.scratch.now in
    let s0 = g.SD.Disk.shown c.loop-turn.scratch in
    let s1 = g.SD.Disk.shown c.next_turn.new.scratch in
    let da = g.GD.Disk.shown c.args.graph.now in
    let d0 = g.GD.Disk.shown c.loop-turn.graph in
    let made = g.G.Group.made c.args.group.now in
    let group = c.loop-turn.group in
    let vids = c.loop-turn.vids in
    let room = room_of sa.page_len in
    let mine = IsSettled made c.args.vids.now.file in
    let more = OrRead c.args.updates.now.file c.args.updates.now.file mine in
    let so_far : Clean more sa s0 = clean_more mine more sa s0 (λ f own. inl own) i.clean in
    let holding = g.St.Store.holds c.loop-turn.store c.loop-turn.desk d0 in
    let t = c.in-Some.turn in
    let due : (cs : Graph) (fs : Pairs) → IsMap cs → IsMap fs → ToGive s0 c.loop-turn.updates (vertex_tuples cs) → first_vid fs ≡ c.loop-turn.asked → IsTurn (Some t) cs fs = λ cs fs mc mf h first. subst (λ (o : Option Turn). IsTurn o cs fs) c.in-Some.is (c.in_ok-turn.ensures.turn cs fs mc mf h first) in
    let some = MatchOption-at_some _ _ _ c.in-Some.is c.in_ok-turn.ensures.some in
    let is_asked = MatchOption-at_some _ _ _ c.in-Some.is c.in_ok-turn.ensures.asked in
    let len1 : s1.page_len ≡ sa.page_len = c.in_ok-turn.ensures.ok.touches.page_len ∙ i.clean.touches.page_len in
    let take : (cs : Graph) → AllByRecursion (λ (e : ℕ × Vertex). IsVertex e.1) cs → ToGive s0 c.loop-turn.updates (vertex_tuples cs) → Comes t.has_update t.vid cs → (rest : Graph) × Takes t.vid (given_if t.has_update c.take_update.new.first.vertex) cs rest × ToGive s1 c.take_update.new.updates (vertex_tuples rest) =
    λ cs stored h comes. c.take_update.ensures.taken s1 cs (i.first.room ∙ c.requires.first ∙ ap room_of (sym len1)) stored (c.in_ok-turn.ensures.to_give cs h) comes in
    let read : Clean more s0 s1 = clean_more NoFile more s0 s1 (λ f no. absurd no) c.in_ok-turn.ensures.ok in
    let s2 = g.SD.Disk.shown c.write_live.new.scratch in
    let d1 = g.GD.Disk.shown c.settle_vid.new.graph in
    let part : g.St.Store.part c.loop-turn.store ≡ g.St.Store.part c.args.store.now = i.part in
    let settled_done : IsDone g.St.Store.counted (g.St.Store.part c.args.store.now) c.loop-turn.desk d0 c.settle_vid.new.desk d1 = subst (λ (q : ℕ). IsDone g.St.Store.counted q c.loop-turn.desk d0 c.settle_vid.new.desk d1) part c.in_ok-effect.ensures.done in
    let s3 = g.SD.Disk.shown c.next_asked.new.scratch in
    let own_is : (f : ℕ) → IsOwn (g.G.Group.made group) f → IsOwn made f = λ f own. subst (λ (k : GroupMade). IsOwn k f) i.group own in
    let wrote = c.in_ok-write_live.ensures.ok in
    let written : Clean more s1 s2 = clean_more (Only vids.file) more s1 s2 (λ f is. inl (inr (is ∙ i.vids_file))) wrote in
    let group_apart : IsOwn (g.G.Group.made group) vids.file → ⊥ = λ own. c.requires.vids_apart (own_is c.args.vids.now.file (subst (IsOwn (g.G.Group.made group)) i.vids_file own)) in
    let stay : (all fs : Pairs) → g.G.Group.gives s0 group p.verdict all fs → g.G.Group.gives s2 group p.verdict all fs = λ all fs h. g.met.G.Group.gives_stays s0 s2 group p.verdict all fs
    (same_then (IsOwn (g.G.Group.made group)) s0 s1 s2 (same_by_none (IsOwn (g.G.Group.made group)) s0 s1 c.in_ok-turn.ensures.ok.touches) (same_by_touches (IsOwn (g.G.Group.made group)) (Only vids.file) s1 s2 (own_only (g.G.Group.made group) vids.file group_apart) wrote.touches)) h in
    let group_room : room_in (g.G.Group.made group) ≡ room = ap room_in i.group ∙ ap room_of c.requires.group_len in
    let u2 = c.take_update.new.updates in
    let file : u2.file ≡ c.args.updates.now.file = c.take_update.ensures.file ∙ c.in_ok-turn.ensures.stays.file ∙ i.updates_file in
    let group' = c.next_asked.new.group in
    let vids' = c.write_live.new.vids in
    let file' : vids'.file ≡ vids.file = c.write_live.ensures.file in
    let by = c.in_ok-asked-2.ensures.ok in
    let rule = g.P.Verdict.Merge.rule c.verdict-in-Some.result.now in
    let room_is : room_of d0.page_len ≡ room = ap room_of (i.done.clean.touches.page_len ∙ c.requires.graph_len) in
    let Ask : MergeRule → ℕ → Type 0 = λ k n. (all fs : Pairs) → Waits c.loop-turn.asked c.loop-turn.verdict.bytes (has_wide_fold k n all ≡ false) (g.G.Group.gives s2 group k all) fs → Comes t.has_verdict t.vid fs
    → (rest : Pairs) × Takes t.vid (given_if t.has_verdict c.loop-turn.verdict.bytes) fs rest × Waits c.in_ok-asked-2.asked c.next_asked.new.verdict.bytes (has_wide_fold k n all ≡ false) (g.G.Group.gives s3 group' k all) rest in
    let ask : Ask p.verdict room = subst (λ (k : MergeRule). Ask k room) c.verdict-in-Some.ensures (subst (Ask rule) group_room c.in_ok-asked-2.ensures.waits) in
    let x1 = c.take_update.new.first.vertex in
    let holding' = g.St.Store.holds c.settle_vid.new.store c.settle_vid.new.desk d1 in
    let Hold : List ℕ → Type 0 = λ b. (t.has_verdict ≡ true → IsTrue (p.verdict.valid b)) → (k : Graph) → holding k → holding' (turned p t x1 b k) in
    let hold : Hold c.loop-turn.verdict.bytes = subst Hold c.bytes.ensures.bytes c.in_ok-effect.ensures.holds in
    let Effect : List ℕ → ℕ → Type 0 = λ b n. (t.has_verdict ≡ true → IsTrue (p.verdict.valid b)) → (k : Graph) → holding k → IsEffect c.in_ok-effect.effect t.vid n k (turned p t x1 b k) in
    let effect : Effect c.loop-turn.verdict.bytes room = subst (Effect c.loop-turn.verdict.bytes) room_is (subst (λ (b : List ℕ). Effect b (room_of d0.page_len)) c.bytes.ensures.bytes c.in_ok-effect.ensures.effect) in
    record {
      going = λ x changes all folds m. merging_next p room (has_wide_fold p.verdict room all ≡ false) g.St.Store.counted d0.reads (g.St.Store.leaves c.loop-turn.store) da.reads (g.St.Store.leaves c.args.store.now) holding (ToGive s0 c.loop-turn.updates) (g.G.Group.gives s0 group p.verdict all) (Took s0 vids) c.loop-turn.asked c.loop-turn.verdict.bytes c.loop-turn.counts x changes folds (i.going x changes all folds m) t due some is_asked (ToGive s1 u2) x1 take d1.reads (g.St.Store.leaves c.settle_vid.new.store) holding' (g.G.Group.gives s3 group' p.verdict all) (Took s3 vids')
          c.in_ok-asked-2.asked c.next_asked.new.verdict.bytes c.with-counts.result c.in_ok-effect.effect (ToGive s3 u2)
          (λ es h. to_give_same s1 s3 u2 es (same_then (Only u2.file) s1 s2 s3
          (same_by_touches (Only u2.file) (Only vids.file) s1 s2 (only_other u2.file vids.file (λ is. c.requires.apart (sym file ∙ is ∙ i.vids_file))) wrote.touches)
          (same_by_touches (Only u2.file) (IsOwn (g.G.Group.made group)) s2 s3 (only_own (g.G.Group.made group) u2.file (λ own. c.requires.updates_apart (own_is c.args.updates.now.file (subst (IsOwn (g.G.Group.made group)) file own)))) by.touches)) h)
          hold effect c.with-counts.ensures
          (λ vs h. took_same s2 s3 vids' _ (same_by_touches (Only vids'.file) (IsOwn (g.G.Group.made group)) s2 s3 (only_own (g.G.Group.made group) vids'.file (λ own. group_apart (subst (IsOwn (g.G.Group.made group)) file' own))) by.touches)
          (c.in_ok-write_live.ensures.took vs (took_same s0 s1 vids _ (same_by_none (Only vids.file) s0 s1 c.in_ok-turn.ensures.ok.touches) h)))
          (λ fs waits comes. ask all fs (waits_map c.loop-turn.asked c.loop-turn.verdict.bytes (has_wide_fold p.verdict room all ≡ false) (g.G.Group.gives s0 group p.verdict all) (g.G.Group.gives s2 group p.verdict all) fs (stay all) waits) comes)
          c.settle_vid.ensures.reads c.settle_vid.ensures.leaves;
      clean = clean_then mine sa s2 s3 (clean_then mine sa s1 s2 (clean_then mine sa s0 s1 i.clean (clean_more NoFile mine s0 s1 (λ f no. absurd no) c.in_ok-turn.ensures.ok)) (clean_more (Only vids.file) mine s1 s2 (λ f is. inr (is ∙ i.vids_file)) wrote))
          (clean_more (IsOwn (g.G.Group.made group)) mine s2 s3 (λ f own. inl (own_is f own)) by);
      done = done_then g.St.Store.counted (g.St.Store.part c.args.store.now) c.args.desk.now c.loop-turn.desk c.settle_vid.new.desk da d0 d1 i.done settled_done;
      part = c.settle_vid.ensures.part ∙ i.part;
      desk = desk_then c.args.desk.now c.loop-turn.desk c.settle_vid.new.desk i.desk c.settle_vid.ensures.desk;
      sealed = search rules;
      group = c.next_asked.ensures.stays ∙ i.group;
      first = search rules;
      second = search rules;
      verdict = search rules;
      updates_file = file;
      updates_len = c.take_update.ensures.len ∙ c.in_ok-turn.ensures.stays.page_len ∙ i.updates_len;
      vids_file = file' ∙ i.vids_file;
      vids_len = c.write_live.ensures.len ∙ i.vids_len;
      vids_first = c.in_ok-write_live.ensures.first ∙ i.vids_first;
    }

-- none is left
pub returns-clause-merged : goal.returns-clause-merged
returns-clause-merged g c = λ x changes all folds m.
    let i = c.loop-turn.invariant in
    let p = g.P.Program.meaning c.args.program.now in
    let sa = g.SD.Disk.shown c.args.scratch.now in
    let s0 = g.SD.Disk.shown c.loop-turn.scratch in
    let s1 = g.SD.Disk.shown c.next_turn.new.scratch in
    let da = g.GD.Disk.shown c.args.graph.now in
    let d0 = g.GD.Disk.shown c.loop-turn.graph in
    let made = g.G.Group.made c.args.group.now in
    let group = c.loop-turn.group in
    let vids = c.loop-turn.vids in
    let room = room_of sa.page_len in
    let mine = IsSettled made c.args.vids.now.file in
    let more = OrRead c.args.updates.now.file c.args.updates.now.file mine in
    let so_far : Clean more sa s0 = clean_more mine more sa s0 (λ f own. inl own) i.clean in
    let holding = g.St.Store.holds c.loop-turn.store c.loop-turn.desk d0 in
    merging_end p room (has_wide_fold p.verdict room all ≡ false) g.St.Store.counted d0.reads (g.St.Store.leaves c.loop-turn.store) da.reads (g.St.Store.leaves c.args.store.now) holding (ToGive s0 c.loop-turn.updates) (g.G.Group.gives s0 group p.verdict all) (Took s0 vids) c.loop-turn.asked c.loop-turn.verdict.bytes c.loop-turn.counts x changes folds (i.going x changes all folds m) holding (Took s1 vids) (λ k h. h) (λ es h. took_same s0 s1 vids es (same_by_none (Only vids.file) s0 s1 c.in_ok-turn.ensures.ok.touches) h)
    (λ cs fs mc mf h first. subst (λ (o : Option Turn). IsTurn o cs fs) c.in_default.is (c.in_ok-turn.ensures.turn cs fs mc mf h first))
