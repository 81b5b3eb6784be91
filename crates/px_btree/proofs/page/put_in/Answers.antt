use Rattle.px_btree.proofs.page.put_in.Goals as goal

pub returns-clause-put : goal.returns-clause-put
returns-clause-put c = λ yes. c.put_tuple_at.ensures.put yes (record { place = c.find-place.ensures.place; first = c.find-place.ensures.first })

pub returns-clause-full : goal.returns-clause-full
returns-clause-full c = λ none. c.put_tuple_at.ensures.full none (record { place = c.find-place.ensures.place; first = c.find-place.ensures.first })
