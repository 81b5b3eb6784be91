use Rattle.std.proofs.Common.{arith, drop}
use Rattle.std.proofs.lemmas.List.{length-drop}
use Rattle.px_pages.specs.Page.{count_of, tuples_of}
use Rattle.px_pages.proofs.Reading.{length-bytes_of-entries_in}
use Rattle.px_pages.proofs.Writing.{length-bytes_of}
use Rattle.px_pages.proofs.reader.PageReader.open.Goals as goal

pub returns-clause-within : goal.returns-clause-within
returns-clause-within c =
    omega (arith, length-bytes_of-entries_in (count_of c.args.page.now) (drop 32 c.args.page.now), length-drop 32 c.args.page.now)

pub returns-clause-few : goal.returns-clause-few
returns-clause-few c =
    omega (arith, length-bytes_of (tuples_of c.args.page.now), length-bytes_of-entries_in (count_of c.args.page.now) (drop 32 c.args.page.now), length-drop 32 c.args.page.now)
