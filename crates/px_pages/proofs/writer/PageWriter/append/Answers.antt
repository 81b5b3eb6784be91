use Rattle.std.proofs.Common.{◌≤◌, ◌+◌, refl, sym, subst, length, arith, rules}
use Rattle.px_pages.specs.Entry.{IsEntry, entry}
use Rattle.px_pages.specs.Page.{kind_of, link_of, tuples_of, PageWriterView, IsWritten}
use Rattle.px_pages.proofs.Writing.{made_append, written_of, made_tuples, made_link, made_count}
use Rattle.px_pages.proofs.writer.PageWriter.append.Goals as goal

pub overflow_add-self : goal.overflow_add-self
overflow_add-self c =
    let written : IsWritten _ c.args.page.now = subst (λ (v : PageWriterView). IsWritten v c.args.page.now) (sym c.self.view_is) c.requires.written in
    omega (arith, made_count _ _ _ _ _ written)

pub returns : goal.returns
returns c =
    let page = c.args.page.now in
    let e = entry c.args.key c.args.tag c.args.body.now in
    let w : PageWriterView = record { count = c.self.inside.count; used = c.self.inside.used; len = c.self.inside.len } in
    let new : PageWriterView = record { count = w.count + 1; used = w.used + (13 + length e.body); len = w.len } in
    let written : IsWritten w page = subst (λ (v : PageWriterView). IsWritten v page) (sym c.self.view_is) c.requires.written in
    let fits : w.used + 13 + length e.body ≤ w.len = omega arith in
    let is_entry : IsEntry e = record { key = omega arith; tag = omega arith; body = omega (arith, fits, written.len) } in
    let made = made_append w new (kind_of page) (link_of page) (tuples_of page) e page c.put_entry.new.out c.put_counts.new.page written is_entry fits c.put_entry.ensures c.put_counts.ensures refl refl refl in
    record {
      written = written_of _ _ _ _ _ made;
      tuples = made_tuples _ _ _ _ _ made;
      count = search rules;
      kind = search rules;
      link = made_link _ _ _ _ _ made;
      used = search rules;
      len = search rules;
    }
