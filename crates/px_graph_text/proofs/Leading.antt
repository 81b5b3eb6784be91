-- Bytes that lead from a spot to another.
use Rattle.std.proofs.Common.{◌≡◌, ◌≢◌, ℕ, List, [], ◌∷◌, ◌++◌, subst, sym, refl}
use Rattle.px_meaning.specs.GraphText.{line_feed}
use Rattle.px_meaning.specs.Line.{Spot, On, move}
use Rattle.px_graph_text.specs.Steps.{Leads}

-- one byte more
pub leads_more : (room : ℕ) (spot : Spot) (front : List ℕ) (mid end : Spot) (b : ℕ) → b ≢ line_feed → Leads room spot front mid → move room mid b ≡ On end → Leads room spot (front ++ b ∷ []) end
leads_more room spot [] mid end b ne is on = (ne, (end, (subst (λ (s : Spot). move room s b ≡ On end) (sym is) on, refl)))
leads_more room spot (a ∷ front) mid end b ne led on = (led.0, (led.1.0, (led.1.1.0, leads_more room led.1.0 front mid end b ne led.1.1.1 on)))
