use Rattle.std.proofs.Common.{◌≡◌, ◌++◌, List, ℕ, take, refl, sym}
use Rattle.std.proofs.lemmas.Result.{on_err_weaker}
use Rattle.px_core.specs.Memory.{SinkView}
use Rattle.px_core.proofs.tests.write_here.Goals as goal

-- what a failed write says of every list, said of the one that is held
prefix : (old new : SinkView) (bytes : List ℕ)
    → ((h : List ℕ) → h ≡ old.held → (n : ℕ) × (h ++ take n bytes ≡ new.held))
    → (n : ℕ) × (new.held ≡ old.held ++ take n bytes)
prefix old new bytes told = let part = told old.held refl in (part.0, sym part.1)

pub returns-clause-err : goal.returns-clause-err
returns-clause-err c = on_err_weaker _ (prefix c.args.sink.now c.write_all.new.sink c.args.bytes.now) c.write_all.ensures.err
