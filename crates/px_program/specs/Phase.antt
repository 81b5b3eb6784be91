-- A compute phase, as an outbox sees it.
use Rattle.std.specs.Prelude.{◌++◌}
use Rattle.px_meaning.specs.Merge.{AllValid}
use Rattle.px_meaning.specs.Step.{Computed}
use Rattle.px_program.specs.Posted.{Posted, MadeFor, Begins}

-- with all that was computed
abbrev pub with_all : Computed → Posted → Posted
with_all c p = record { sends = p.sends ++ c.sends; requests = p.requests ++ c.requests; contributions = p.contributions ++ c.contributions }

-- what was made begins what is computed
pub record IsPartOfAll (c : Computed) (old made : Posted) : Type 0 where
  pub sends : Begins old.sends made.sends c.sends
  pub requests : Begins old.requests made.requests c.requests
  pub contributions : Begins old.contributions made.contributions c.contributions

-- the pairs so far are valid
abbrev pub ArePosted : MadeFor → Posted → Type 0
ArePosted f p = AllValid f.message p.sends × AllValid f.verdict p.requests
