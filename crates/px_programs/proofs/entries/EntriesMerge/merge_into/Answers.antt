use Rattle.std.proofs.Common.{rules, ◌≡◌, ◌∙◌, ◌++◌, length, ap}
use Rattle.px_frames.proofs.Places.{fitted_same}
use Rattle.px_programs.specs.Entries.{count, length-merged_entries}
use Rattle.px_programs.proofs.MergedEntries.{woven_is_merged}
use Rattle.px_programs.proofs.entries.EntriesMerge.merge_into.Goals as goal

pub returns-in_err-append-clause-wide : goal.returns-in_err-append-clause-wide
returns-in_err-append-clause-wide c = λ a b. rw (length-merged_entries c.args.buf.now.bytes c.args.bytes.now a b) (search rules)

pub returns-clause-ok : goal.returns-clause-ok
returns-clause-ok c = λ a b.
    let lent : c.bytes_mut.result.now ≡ c.args.buf.now.bytes ++ c.args.bytes.now = search rules in
    fitted_same c.append.new.self.bytes c.weave.new.bytes (c.weave.ensures.len ∙ ap length c.bytes_mut.ensures.value)
    ∙ woven_is_merged _ c.args.buf.now.bytes c.args.bytes.now _ c.weave.new.bytes a b (ap count c.bytes.ensures.bytes) lent c.weave.ensures.woven

pub returns-clause-wide : goal.returns-clause-wide
returns-clause-wide c = λ a b. rw (length-merged_entries c.args.buf.now.bytes c.args.bytes.now a b) (search rules)
