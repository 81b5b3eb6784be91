use Rattle.std.proofs.Common.{rules, ◌≡◌, ◌∙◌, sym, ap, refl, ℕ, Bool, ◌||◌}
use Rattle.std.specs.List.{list_any}
use Rattle.px_store.specs.Joins.{rows_in}
use Rattle.px_store.proofs.Joining.{is_of, any_next, any_ends}
use Rattle.px_store.proofs.tests.joining.has_row.Goals as goal

pub loop-row-init : goal.loop-row-init
loop-row-init g c = record {
  gives = λ t m h a. (rows_in t m, c.in_ok-start.ensures.gives t m h a, refl);
  done = search rules;
  ok = search rules;
  part = search rules;
  view = search rules;
  vertex_len = search rules;
  room = search rules;
  limit = search rules;
  leaves = search rules;
  reads = search rules;
  desk = search rules;
}

pub loop-row-preserved : goal.loop-row-preserved
loop-row-preserved g c =
    let i = c.loop-row.invariant in
    record {
      gives = λ t m h a.
          (let old = i.gives t m h a in
          let next = any_next c.args.vid _ c.loop-row.found _ c.in-Some.row _ _ old.0 _ c.in-Some.is old.2 (c.in_ok-next_row.ensures.gives t old.0 old.1) in
          (next.0, next.1, next.2 ∙ ap (λ (b : Bool). b || list_any (is_of c.args.vid) next.0) (sym c.either-found.ensures)));
      done = search rules;
      ok = search rules;
      part = search rules;
      view = search rules;
      vertex_len = search rules;
      room = search rules;
      limit = search rules;
      leaves = search rules;
      reads = search rules;
      desk = search rules;
    }

pub returns-in-None-clause-found : goal.returns-in-None-clause-found
returns-in-None-clause-found g c = λ t m h a.
    let old = c.loop-row.invariant.gives t m h a in
    let end = any_ends c.args.vid _ c.loop-row.found _ _ _ old.0 _ c.in-None.is old.2 (c.in_ok-next_row.ensures.gives t old.0 old.1) in
    (end.0, end.1.held)
