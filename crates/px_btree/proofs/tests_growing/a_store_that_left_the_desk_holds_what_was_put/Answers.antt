use Rattle.px_btree.proofs.tests_growing.a_store_that_left_the_desk_holds_what_was_put.Goals as goal

pub agrees-requires-clause-ready : goal.agrees-requires-clause-ready
agrees-requires-clause-ready g c = c.in_ok-put_both.ensures.ready c.put_both.new.first.tree.part
