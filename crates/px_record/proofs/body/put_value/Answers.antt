use Rattle.std.proofs.Common.{refl}
use Rattle.px_record.specs.Body.{header_bytes}
use Rattle.px_record.proofs.Bytes.{value_put}
use Rattle.px_record.proofs.body.put_value.Goals as goal

pub returns : goal.returns
returns c =
    value_put c.args.bytes.now c.args.more.now c.splice.new.bytes c.put.new.out (header_bytes c.args.header.halt c.args.header.value c.args.header.edges) c.args.from c.args.was.value c.args.was.edges c.body_len.result refl c.body_len.ensures c.splice.ensures c.put.ensures
