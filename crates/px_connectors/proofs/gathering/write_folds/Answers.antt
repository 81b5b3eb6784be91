use Rattle.std.proofs.Common.{rules, ◌≡◌, List, ◌∷◌, ◌++◌, [], subst}
use Rattle.std.proofs.lemmas.Option.{MatchOption-at_some, MatchOption-at_none}
use Rattle.px_core.specs.Shown.{Only}
use Rattle.px_core.proofs.Keeping.{same_by_touches}
use Rattle.px_pages.specs.Entry.{Entry, entry}
use Rattle.px_stream.specs.Stream.{Took}
use Rattle.px_meaning.specs.Merge.{Pairs}
use Rattle.px_program.specs.Groups.{IsOwn, LeadsPair}
use Rattle.px_connectors.proofs.Between.{giving_first, giving_next, giving_end, counting_first, counting_next, counting_end}
use Rattle.px_connectors.proofs.gathering.write_folds.Goals as goal

pub loop-vid-init : goal.loop-vid-init
loop-vid-init g c = record {
  giving = λ all rest k gave took. giving_first _ _ c.args.to.now k rest gave took;
  some = λ all rest gave. (rest, gave);
  counted = λ all rest gave. counting_first _ rest gave;
  clean = search rules;
  made = search rules;
  sealed = search rules;
  to_file = search rules;
  to_first = search rules;
  to_len = search rules;
  room = search rules;
}

pub loop-vid-preserved : goal.loop-vid-preserved
loop-vid-preserved g c =
    let i = c.loop-vid.invariant in
    let rule = g.M.Merge.rule c.args.merge.now in
    let s = g.D.Disk.shown c.loop-vid.disk in
    let t = g.D.Disk.shown c.next.new.disk in
    let u = g.D.Disk.shown c.put.new.disk in
    let group = c.next.new.self in
    let before = g.G.Group.made c.loop-vid.group in
    let after = g.G.Group.made group in
    let file = c.loop-vid.to.file in
    let bytes = c.next.new.into.bytes in
    let gives : (all k : Pairs) → g.G.Group.gives s c.loop-vid.group rule all k → LeadsPair c.in-Some.vid bytes k (g.G.Group.gives t group rule all) = MatchOption-at_some _ _ _ c.in-Some.is c.in_ok-vid.ensures.some in
    let other : IsOwn before file → ⊥ = λ own. c.requires.apart (subst (λ m. IsOwn m c.args.to.now.file) i.made (subst (IsOwn before) i.to_file own)) in
    let same : (all k : Pairs) → g.G.Group.gives t group rule all k → g.G.Group.gives u group rule all k =
    λ all k h. g.met.G.Group.gives_stays t u group rule all k
    (same_by_touches (IsOwn after) (Only file) t u (λ f own is. other (subst (λ m. IsOwn m file) c.next.ensures.stays (subst (IsOwn after) is own))) c.in_ok-put.ensures.ok.touches) h in
    let takes : (k : List Entry) → Took t c.loop-vid.to k → Took u c.put.new.self (k ++ entry c.in-Some.vid 0 bytes ∷ []) = rw (← c.bytes.ensures.bytes) c.in_ok-put.ensures.took in
    record {
      giving = λ all rest k gave took. giving_next _ _ _ s t u c.loop-vid.to c.put.new.self c.in-Some.vid bytes k rest
          (same_by_touches (Only file) (IsOwn before) s t (λ f is own. other (subst (IsOwn before) is own)) c.in_ok-vid.ensures.ok.touches) (gives all) (same all) takes (i.giving all rest k gave took);
      some = λ all rest gave. let now = i.some all rest gave in let lead = gives all now.0 now.1 in (lead.rest, same all lead.rest lead.after);
      counted = λ all rest gave. counting_next _ _ _ c.in-Some.vid bytes c.loop-vid.count c.one_more-count.result rest (gives all) (same all) c.one_more-count.ensures (i.counted all rest gave);
      clean = search rules;
      made = search rules;
      sealed = search rules;
      to_file = search rules;
      to_first = search rules;
      to_len = search rules;
      room = search rules;
    }

pub returns-clause-took : goal.returns-clause-took
returns-clause-took g c = λ all rest k gave took.
    let i = c.loop-vid.invariant in
    let rule = g.M.Merge.rule c.args.merge.now in
    let s = g.D.Disk.shown c.loop-vid.disk in
    let t = g.D.Disk.shown c.next.new.disk in
    let before = g.G.Group.made c.loop-vid.group in
    let file = c.loop-vid.to.file in
    let other : IsOwn before file → ⊥ = λ own. c.requires.apart (subst (λ m. IsOwn m c.args.to.now.file) i.made (subst (IsOwn before) i.to_file own)) in
    let none : (all k : Pairs) → g.G.Group.gives s c.loop-vid.group rule all k → k ≡ [] = MatchOption-at_none _ _ c.in_default.is c.in_ok-vid.ensures.none in
    giving_end _ s t c.loop-vid.to k rest (same_by_touches (Only file) (IsOwn before) s t (λ f is own. other (subst (IsOwn before) is own)) c.in_ok-vid.ensures.ok.touches) (none all) (i.giving all rest k gave took)

pub returns-clause-count : goal.returns-clause-count
returns-clause-count g c = λ all rest gave.
    let rule = g.M.Merge.rule c.args.merge.now in
    let s = g.D.Disk.shown c.loop-vid.disk in
    let none : (all k : Pairs) → g.G.Group.gives s c.loop-vid.group rule all k → k ≡ [] = MatchOption-at_none _ _ c.in_default.is c.in_ok-vid.ensures.none in
    counting_end _ c.loop-vid.count rest (none all) (c.loop-vid.invariant.counted all rest gave)
