use Rattle.std.proofs.Common.{rules, ◌≡◌, ℕ, List, [], ◌∷◌, ◌++◌, IsTrue, sym, subst}
use Rattle.px_programs.specs.ChainMessages.{note, note_is, is_message}
use Rattle.px_programs.proofs.chain_messages.note.Goals as goal

pub returns-clause-valid : goal.returns-clause-valid
returns-clause-valid c =
    let bytes : 1 ∷ c.from.result ∷ (c.copy_from_slice.new.self ++ []) ≡ note c.args.flag c.args.vid = search rules in
    subst (λ (b : List ℕ). IsTrue (is_message b)) (sym bytes) (note_is c.args.flag c.args.vid)
