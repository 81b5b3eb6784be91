use Rattle.px_pages.proofs.Writing.{put_block}
use Rattle.px_pages.proofs.zero.zero_block.Goals as goal

pub returns : goal.returns
returns c = put_block c.args.page.now c.copy_from_slice.new.self c.args.at c.copy_from_slice.ensures.after
