use Rattle.std.proofs.Common.{rules, ◌≡◌, ◌∙◌, List, ◌∷◌, ◌++◌, [], subst, IsTrue}
use Rattle.std.proofs.lemmas.Option.{MatchOption-at_some, MatchOption-at_none}
use Rattle.std.proofs.lemmas.Result.{err_from_is_err_and}
use Rattle.px_core.proofs.Keeping.{same_by_none, same_by_touches}
use Rattle.px_pages.specs.Entry.{Entry}
use Rattle.px_stream.specs.Stream.{ToGive, Leads, tuple}
use Rattle.px_meaning.specs.Merge.{Pairs}
use Rattle.px_meaning.specs.Step.{has_wide_fold}
use Rattle.px_program.specs.Groups.{IsOwn, room_in}
use Rattle.px_connectors.specs.Messages.{pairs_of}
use Rattle.px_connectors.proofs.Between.{adding_next, adding_end, adding_beyond}
use Rattle.px_connectors.proofs.gathering.take_pairs.Goals as goal

pub loop-head-preserved : goal.loop-head-preserved
loop-head-preserved g c =
    let i = c.loop-head.invariant in
    let rule = g.M.Merge.rule c.args.merge.now in
    let s = g.D.Disk.shown c.loop-head.disk in
    let t = g.D.Disk.shown c.next.new.disk in
    let group = c.loop-head.group in
    let made = g.G.Group.made group in
    let e = tuple c.in-Some.head c.next.new.into.bytes in
    let gives : (k : List Entry) → ToGive s c.loop-head.from k → Leads e k (ToGive t c.next.new.self) = MatchOption-at_some _ _ _ c.in-Some.is c.in_ok-head.ensures.some in
    let same : (k : Pairs) → g.G.Group.took s group rule k → g.G.Group.took t group rule k =
    λ k h. g.met.G.Group.took_stays s t group rule k (same_by_none (IsOwn made) s t c.in_ok-head.ensures.ok.touches) h in
    let takes : (k : Pairs) → IsTrue (rule.valid e.body) → g.G.Group.took t group rule k → g.G.Group.took (g.D.Disk.shown c.add.new.disk) c.add.new.self rule (k ++ (e.key, e.body) ∷ []) =
    rw (← c.bytes.ensures.bytes) c.in_ok-add.ensures.took in
    record {
      adding = λ ins k to_give valid took. adding_next _ _ _ rule s t _ c.loop-head.from c.next.new.self e k ins
          (same_by_touches _ (IsOwn made) t _ (λ f is own. c.requires.apart (subst (λ m. IsOwn m c.args.from.now.file) i.made (subst (IsOwn made) (is ∙ c.next.ensures.on.file ∙ i.from_file) own))) c.in_ok-add.ensures.ok.touches)
          valid gives same takes (i.adding ins k to_give valid took);
      clean = search rules;
      made = search rules;
      opened = search rules;
      from_file = search rules;
      from_len = search rules;
      room = search rules;
    }

pub returns-in_err-add-clause-err : goal.returns-in_err-add-clause-err
returns-in_err-add-clause-err g c =
    let i = c.loop-head.invariant in
    let rule = g.M.Merge.rule c.args.merge.now in
    let s = g.D.Disk.shown c.loop-head.disk in
    let t = g.D.Disk.shown c.next.new.disk in
    let group = c.loop-head.group in
    let made = g.G.Group.made group in
    let e = tuple c.in-Some.head c.next.new.into.bytes in
    let end = err_from_is_err_and c.from_residual-in_err-add.result c.from_residual-in_err-add.ensures.1 in
    let stop : end.0 ≡ c.in_err-add.field-0.0 = cc in
    let gives : (k : List Entry) → ToGive s c.loop-head.from k → Leads e k (ToGive t c.next.new.self) = MatchOption-at_some _ _ _ c.in-Some.is c.in_ok-head.ensures.some in
    let same : (k : Pairs) → g.G.Group.took s group rule k → g.G.Group.took t group rule k =
    λ k h. g.met.G.Group.took_stays s t group rule k (same_by_none (IsOwn made) s t c.in_ok-head.ensures.ok.touches) h in
    rw (end.1, stop) (record {
      beyond = λ is ins k to_give valid took.
          let wide : (k : Pairs) → IsTrue (rule.valid e.body) → g.G.Group.took t group rule k → IsTrue (has_wide_fold rule (room_in made) (k ++ (e.key, e.body) ∷ [])) =
          rw (← c.bytes.ensures.bytes) (c.in_err-add.ensures.err.beyond is) in
          subst (λ m. IsTrue (has_wide_fold rule (room_in m) (k ++ pairs_of ins))) i.made
          (adding_beyond _ _ rule (g.met.M.Merge.laws c.args.merge.now) (room_in made) s t c.loop-head.from c.next.new.self e k ins valid gives same (g.met.G.Group.valid t group rule) wide (i.adding ins k to_give valid took));
      cause = search rules;
      touches = search rules;
    })

pub returns-clause-took : goal.returns-clause-took
returns-clause-took g c = λ ins k to_give valid took.
    let i = c.loop-head.invariant in
    let rule = g.M.Merge.rule c.args.merge.now in
    let s = g.D.Disk.shown c.loop-head.disk in
    let t = g.D.Disk.shown c.next.new.disk in
    let group = c.loop-head.group in
    let none : (k : List Entry) → ToGive s c.loop-head.from k → k ≡ [] = MatchOption-at_none _ _ c.in_default.is c.in_ok-head.ensures.none in
    adding_end _ _ s c.loop-head.from k ins none (λ k h. g.met.G.Group.took_stays s t group rule k (same_by_none (IsOwn (g.G.Group.made group)) s t c.in_ok-head.ensures.ok.touches) h) (i.adding ins k to_give valid took)
