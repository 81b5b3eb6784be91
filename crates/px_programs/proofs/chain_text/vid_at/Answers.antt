use Rattle.std.proofs.Common.{◌≡◌, ◌-◌, ◌*◌, ◌/◌, ◌<◌, length, take, drop, Some, sym, ap, ◌∙◌, arith}
use Rattle.std.proofs.lemmas.List.{take_all, length-drop}
use Rattle.byteorder.specs.Endian.{big_number}
use Rattle.px_program.specs.Numbers.{number}
use Rattle.px_programs.proofs.ChainTexts.{slice_get-vids_in}
use Rattle.px_programs.proofs.chain_text.vid_at.Goals as goal

pub returns : goal.returns
unfolding number
returns c =
    let vids = c.args.vids.now in
    let rest = drop (8 * c.args.at) vids in
    let below : c.args.at < length vids / 8 = omega (arith, c.requires) in
    let read : c.read_u64.result ≡ big_number 8 (take (length vids - 8 * c.args.at) rest) = c.read_u64.ensures in
    let whole : take (length vids - 8 * c.args.at) rest ≡ rest = take_all (length vids - 8 * c.args.at) rest (omega (arith, length-drop (8 * c.args.at) vids)) in
    slice_get-vids_in (length vids / 8) c.args.at vids below ∙ ap Some (sym (read ∙ ap (big_number 8) whole))
