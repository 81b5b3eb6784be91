use Rattle.std.proofs.Common.{◌≡◌, ◌≤◌, ◌+◌, ◌-◌, length, drop, arith}
use Rattle.std.proofs.lemmas.List.{length-drop}
use Rattle.px_record.proofs.Bytes.{spliced}
use Rattle.px_record.proofs.body.splice.Goals as goal

pub returns : goal.returns
returns c =
    let room : c.args.from + length c.args.more.now ≤ length c.args.bytes.now = omega arith in
    let long : c.args.end - c.args.to ≤ length (drop c.args.to c.args.bytes.now) = omega (arith, length-drop c.args.to c.args.bytes.now) in
    let k : c.args.from + length c.args.more.now - c.args.from ≡ length c.args.more.now = omega arith in
    spliced c.args.bytes.now c.args.more.now c.shift.new.bytes c.copy_from_slice.new.self c.args.from c.args.to (c.args.end - c.args.to) _ room long c.shift.ensures c.copy_from_slice.ensures.after k
