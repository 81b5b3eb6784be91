use Rattle.std.proofs.Common.{◌<◌, length, sym, subst, refl, Ok, Err}
use Rattle.std.specs.Prelude.{OnErr, IsErr}
use Rattle.std.specs.declared.result.Result.{Result}
use Rattle.px_meaning.specs.Graph.{size_of}
use Rattle.px_record.proofs.Bytes.{length-edges_in}
use Rattle.px_programs.specs.Entries.{count, entries_whole}
use Rattle.px_programs.proofs.reverse.take_edges.Goals as goal

on_err : {T E P : Type 0} (r : Result T E) → (IsErr r → P) → OnErr r P
on_err (Ok v) h = tt
on_err (Err e) h = h refl

pub returns-then-entries-ne0-clause-ok : goal.returns-then-entries-ne0-clause-ok
returns-then-entries-ne0-clause-ok c = λ are. absurd (c.if-entries-ne0.true (entries_whole c.args.entries.now are))

pub returns-clause-wide : goal.returns-clause-wide
returns-clause-wide c = λ are.
    subst (λ n. OnErr c.set_edges.result (c.args.v.now.room < size_of (length c.args.v.now.vertex.value) n)) (sym (length-edges_in (count c.args.entries.now) c.args.entries.now))
    (on_err c.set_edges.result c.set_edges.ensures.wide.0)
