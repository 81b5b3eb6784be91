use Rattle.std.proofs.Common.{◌<◌, ap, sym, ◌∙◌, arith, rules, Vec, List, ℕ, length, set}
use Rattle.std.proofs.lemmas.List.{map-set, length-map}
use Rattle.std.specs.declared.alloc.Global.{Global}
use Rattle.px_memdisk.specs.Files.{bytes_of}
use Rattle.px_memdisk.proofs.Pages.{long_at, written_within}
use Rattle.px_memdisk.proofs.files.put_page.Goals as goal

pub copy_from_slice-requires : goal.copy_from_slice-requires
copy_from_slice-requires c =
    search rules ∙ ap (λ (page : Vec ℕ Global). length page.items) c.index_mut.ensures.value ∙ long_at _ c.args.pages.now.items c.args.page c.index_mut.result.now c.requires (omega arith)

pub returns-then-page-end-clause-ok : goal.returns-then-page-end-clause-ok
returns-then-page-end-clause-ok c =
    let pages = c.args.pages.now.items in
    let within : c.args.page < length (bytes_of c.args.pages.now) = rw length-map (omega arith) in
    map-set (λ page. page.items) pages c.args.page c.copy_from_slice.new.self
    ∙ ap (λ (b : List ℕ). set (bytes_of c.args.pages.now) c.args.page b) c.copy_from_slice.ensures.items
    ∙ sym (written_within c.args.page c.args.from.now (bytes_of c.args.pages.now) within)
