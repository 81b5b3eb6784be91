use Rattle.std.proofs.Common.{◌≡◌, ◌≤◌, ◌+◌, ℕ, length, ◌∙◌, ap, arith}
use Rattle.px_record.specs.Body.{is_vertex_body, vertex_of}
use Rattle.px_stream.specs.Stream.{ToGive, first_body}
use Rattle.px_mutations.proofs.Taking.{next_is, taken_next}
use Rattle.px_mutations.proofs.turns.read_update.Goals as goal

pub returns-clause-taken : goal.returns-clause-taken
returns-clause-taken c = λ s cs room stored to_give first.
    let body = first_body c.args.updates.now.here in
    let n = next_is s c.args.updates.now c.args.vid cs c.requires.here stored to_give first in
    let is = c.peeked.ensures in
    let size : 13 + length c.peeked.result.now ≤ c.args.first.now.room = (let len = ap length is in omega (arith, n.size, len, room)) in
    let x = c.load_or_reset.ensures.loaded (ap is_vertex_body is ∙ n.spells) size ∙ ap vertex_of is in
    taken_next s c.args.vid c.load_or_reset.new.first.vertex body cs (ToGive s c.args.updates.now) (ToGive s c.pass.new.self) n x to_give (λ l. c.pass.ensures.to_give s l)
