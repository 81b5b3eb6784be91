use Rattle.std.proofs.Common.{rules, ◌≡◌, ◌<◌, ℕ, ◌∷◌, ◌++◌, [], sym, ◌∙◌, ap, subst}
use Rattle.std.proofs.lemmas.Option.{MatchOption-at_some, MatchOption-at_none}
use Rattle.px_core.specs.Same.{Apart}
use Rattle.px_core.proofs.Keeping.{same_by_touches}
use Rattle.px_meaning.specs.Merge.{Pairs}
use Rattle.px_program.specs.Groups.{GroupMade, IsOwn, LeadsPair}
use Rattle.px_connectors.specs.Views.{ConnectorView, IsSenderFile, AllUpTo}
use Rattle.px_connectors.specs.Views.{IsConnectorFile}
use Rattle.px_compute_op.proofs.Apart.{sender_file}
use Rattle.px_compute_op.proofs.Moving.{moving_first, moving_next, moving_end}
use Rattle.px_compute_op.proofs.phase.move_folds.Goals as goal

pub loop-vid-init : goal.loop-vid-init
loop-vid-init g c = record {
  moving = λ all rest map gave sends. moving_first _ _ rest gave sends;
  some = λ all rest gave. (rest, gave);
  others = λ p k lt other h. h;
  clean = search rules;
  made = search rules;
  sealed = search rules;
  view = search rules;
  into = search rules;
}

pub loop-vid-preserved : goal.loop-vid-preserved
loop-vid-preserved g c =
    let i = c.loop-vid.invariant in
    let rule = g.M.Merge.rule c.args.merge.now in
    let s = g.SD.Disk.shown c.loop-vid.scratch in
    let t = g.SD.Disk.shown c.next.new.disk in
    let u = g.SD.Disk.shown c.put.new.disk in
    let group = c.next.new.self in
    let was = c.loop-vid.connector in
    let before = g.G.Group.made c.loop-vid.group in
    let after = g.G.Group.made group in
    let sender = (g.C.Connector.view c.args.connector.now).sender in
    let bytes = c.next.new.into.bytes in
    let sender_is : (g.C.Connector.view was).sender ≡ sender = ap (λ (v : ConnectorView). v.sender) i.view in
    let apart_before : Apart (IsOwn before) IsConnectorFile = subst (λ (m : GroupMade). Apart (IsOwn m) IsConnectorFile) (sym i.made) c.requires.apart in
    let apart_after : Apart (IsOwn after) IsConnectorFile = subst (λ (m : GroupMade). Apart (IsOwn m) IsConnectorFile) (sym (c.next.ensures.stays ∙ i.made)) c.requires.apart in
    let lt : (g.C.Connector.view was).sender < 16 = subst (λ (n : ℕ). n < 16) (sym sender_is) c.requires.sender in
    let gives : (all k : Pairs) → g.G.Group.gives s c.loop-vid.group rule all k → LeadsPair c.in-Some.vid bytes k (g.G.Group.gives t group rule all) = MatchOption-at_some _ _ _ c.in-Some.is c.in_ok-vid.ensures.some in
    let same : (all k : Pairs) → g.G.Group.gives t group rule all k → g.G.Group.gives u group rule all k =
    λ all k h. g.met.G.Group.gives_stays t u group rule all k (same_by_touches (IsOwn after) (IsSenderFile (g.C.Connector.view was).sender) t u (λ f own file. apart_after f own (sender_file _ lt f file)) c.in_ok-put.ensures.ok.touches) h in
    let keep : (p : ℕ) (k : Pairs) → p < 16 → g.C.Connector.sending was s p k → g.C.Connector.sending was t p k =
    λ p k low h. g.met.C.Connector.sending_stays was s t p k (same_by_touches (IsSenderFile p) (IsOwn before) s t (λ f file own. apart_before f own (sender_file p low f file)) c.in_ok-vid.ensures.ok.touches) h in
    let keep_sent : (p : ℕ) (k : Pairs) → p < 16 → g.C.Connector.sent was s p k → g.C.Connector.sent was t p k =
    λ p k low h. g.met.C.Connector.sent_stays was s t p k (same_by_touches (IsSenderFile p) (IsOwn before) s t (λ f file own. apart_before f own (sender_file p low f file)) c.in_ok-vid.ensures.ok.touches) h in
    let put : (p : ℕ) (k : Pairs) → AllUpTo c.in-Some.vid k → g.C.Connector.sending was t p k → g.C.Connector.sending c.put.new.self u p (k ++ (c.in-Some.vid, bytes) ∷ []) = rw (← c.bytes.ensures.bytes) c.in_ok-put.ensures.sending in
    record {
      moving = λ all rest map gave sends. moving_next _ _ _ _ _ _ rest c.in-Some.vid bytes map (gives all) (same all) (λ k h. keep sender k c.requires.sender h) (put sender) (i.moving all rest map gave sends);
      some = λ all rest gave. let now = i.some all rest gave in let lead = gives all now.0 now.1 in (lead.rest, same all lead.rest lead.after);
      others = λ p k low other h. c.in_ok-put.ensures.others p k (λ is. other (is ∙ sender_is)) (keep_sent p k low (i.others p k low other h));
      clean = search rules;
      made = search rules;
      sealed = search rules;
      view = search rules;
      into = search rules;
    }

pub returns-clause-sending : goal.returns-clause-sending
returns-clause-sending g c = λ all rest map gave sends.
    let i = c.loop-vid.invariant in
    let rule = g.M.Merge.rule c.args.merge.now in
    let s = g.SD.Disk.shown c.loop-vid.scratch in
    let t = g.SD.Disk.shown c.next.new.disk in
    let was = c.loop-vid.connector in
    let before = g.G.Group.made c.loop-vid.group in
    let sender = (g.C.Connector.view c.args.connector.now).sender in
    let apart_before : Apart (IsOwn before) IsConnectorFile = subst (λ (m : GroupMade). Apart (IsOwn m) IsConnectorFile) (sym i.made) c.requires.apart in
    let none : (k : Pairs) → g.G.Group.gives s c.loop-vid.group rule all k → k ≡ [] = MatchOption-at_none _ _ c.in_default.is c.in_ok-vid.ensures.none all in
    moving_end _ _ _ rest none (λ k h. g.met.C.Connector.sending_stays was s t sender k (same_by_touches (IsSenderFile sender) (IsOwn before) s t (λ f file own. apart_before f own (sender_file sender c.requires.sender f file)) c.in_ok-vid.ensures.ok.touches) h) (i.moving all rest map gave sends)

pub returns-clause-others : goal.returns-clause-others
returns-clause-others g c = λ p k low other h.
    let i = c.loop-vid.invariant in
    let s = g.SD.Disk.shown c.loop-vid.scratch in
    let t = g.SD.Disk.shown c.next.new.disk in
    let before = g.G.Group.made c.loop-vid.group in
    let apart_before : Apart (IsOwn before) IsConnectorFile = subst (λ (m : GroupMade). Apart (IsOwn m) IsConnectorFile) (sym i.made) c.requires.apart in
    g.met.C.Connector.sent_stays c.loop-vid.connector s t p k (same_by_touches (IsSenderFile p) (IsOwn before) s t (λ f file own. apart_before f own (sender_file p low f file)) c.in_ok-vid.ensures.ok.touches) (i.others p k low other h)
