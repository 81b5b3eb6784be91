use Rattle.std.proofs.Common.{◌≤◌, ◌-◌, ◌++◌, List, ℕ, length, drop, ap, ◌∙◌, arith}
use Rattle.px_record.specs.Body.{header_bytes, edge_bytes}
use Rattle.px_record.proofs.Bytes.{edge_put}
use Rattle.px_record.proofs.body.add_edge.Goals as goal

pub returns : goal.returns
returns c =
    let long : length c.args.bytes.now - c.args.at ≤ length c.args.bytes.now - c.args.at = omega arith in
    c.put.ensures
    ∙ ap (λ (l : List ℕ). header_bytes c.args.header.halt c.args.header.value c.args.header.edges ++ drop 9 l) (edge_put c.args.bytes.now (edge_bytes (c.args.dst, c.args.weight)) c.put_edge.new.out c.args.at _ long c.put_edge.ensures)
