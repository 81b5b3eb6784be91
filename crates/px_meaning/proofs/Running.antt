-- One more step of a run, and how it ends, for what stands for its states.
use Rattle.std.proofs.Common.{◌≡◌, ℕ, zero, suc, ◌+◌, ◌-◌, ◌<◌, if◌then◌else◌, Bool, true, false, Option, Some, None, ◌∙◌, ap, refl, subst, arith}
use Rattle.std.proofs.lemmas.Bool.{cond-true}
use Rattle.px_meaning.specs.Meaning.{Outcome, Halted, Limit, Beyond, is_halted, run}
use Rattle.px_meaning.specs.Program.{ProgramMeaning}
use Rattle.px_meaning.specs.Step.{State, step}
use Rattle.px_meaning.specs.Runs.{HasRun, HasHalted}

-- what a run is, by what it finds
abbrev pub found : ProgramMeaning → ℕ → ℕ → State → Bool → Option State → Outcome
found p room n s true next = Halted s
found p room n s false None = Beyond (suc s.superstep)
found p room n s false (Some t) = run p room n t

pub run_found : (p : ProgramMeaning) (room n : ℕ) (s : State) → run p room (suc n) s ≡ found p room n s (is_halted s) (step p room s)
run_found p room n s = go (is_halted s) (step p room s) where
  go : (b : Bool) (o : Option State) → (elim b [ true ↦ Halted s | false ↦ elim o [ None ↦ Beyond (suc s.superstep) | Some t ↦ run p room n t ] ]) ≡ found p room n s b o
  go true o = refl
  go false None = refl
  go false (Some t) = refl

-- a run from a halted state is over
pub halted_now : (p : ProgramMeaning) (room n : ℕ) (s : State) → is_halted s ≡ true → run p room n s ≡ Halted s
halted_now p room zero s h = cond-true (is_halted s) (Halted s) (Limit s.superstep) h
halted_now p room (suc n) s h = run_found p room n s ∙ ap (λ b. found p room n s b (step p room s)) h

module _ (p : ProgramMeaning) (room most taken : ℕ) (s : State) (Stands : State → Type 0) (has : HasRun p room most taken s Stands) where
  more : taken < most → most - taken ≡ suc (most - (taken + 1))
  more low = omega arith

  -- the state is halted
  pub run_halted : is_halted has.state ≡ true → HasHalted p room most s Stands
  run_halted h = record { state = has.state; halted = has.same ∙ halted_now p room (most - taken) has.state h; stands = has.stands }

  -- the run takes one more step
  pub run_more : taken < most → is_halted has.state ≡ false → (t : State) (Now : State → Type 0) → step p room has.state ≡ Some t → Now t → t.superstep ≡ has.state.superstep + 1 → HasRun p room most (taken + 1) s Now
  run_more low awake t Now is stands rose = record {
    state = t;
    same = has.same ∙ ap (λ n. run p room n has.state) (more low) ∙ run_found p room (most - (taken + 1)) has.state
        ∙ ap (λ b. found p room (most - (taken + 1)) has.state b (step p room has.state)) awake ∙ ap (found p room (most - (taken + 1)) has.state false) is;
    superstep_is = omega (arith, rose, has.superstep_is);
    stands = stands;
  }

  -- the step is beyond the limits
  pub run_beyond : taken < most → is_halted has.state ≡ false → step p room has.state ≡ None → run p room most s ≡ Beyond (suc has.state.superstep)
  run_beyond low awake none =
      has.same ∙ ap (λ k. run p room k has.state) (more low) ∙ run_found p room (most - (taken + 1)) has.state
      ∙ ap (λ b. found p room (most - (taken + 1)) has.state b (step p room has.state)) awake ∙ ap (found p room (most - (taken + 1)) has.state false) none

-- a run that halts ends in a halted state

halts_step : (p : ProgramMeaning) (room n last : ℕ) (o : Option State) (t : State) → ((u : State) → run p room n u ≡ Halted t → is_halted t ≡ true) → elim o [ None ↦ Beyond (suc last) | Some u ↦ run p room n u ] ≡ Halted t → is_halted t ≡ true
halts_step p room n last None t later h = cc
halts_step p room n last (Some u) t later h = later u h

halts_at : (p : ProgramMeaning) (room n : ℕ) (s : State) (b : Bool) (t : State) → is_halted s ≡ b → ((u : State) → run p room n u ≡ Halted t → is_halted t ≡ true) → elim b [ true ↦ Halted s | false ↦ elim (step p room s) [ None ↦ Beyond (suc s.superstep) | Some u ↦ run p room n u ] ] ≡ Halted t → is_halted t ≡ true
halts_at p room n s true t is later h = let same : s ≡ t = cc in subst (λ x. is_halted x ≡ true) same is
halts_at p room n s false t is later h = halts_step p room n s.superstep (step p room s) t later h

halts_last : (s : State) (b : Bool) (t : State) → is_halted s ≡ b → (if b then Halted s else Limit s.superstep) ≡ Halted t → is_halted t ≡ true
halts_last s true t is h = let same : s ≡ t = cc in subst (λ x. is_halted x ≡ true) same is
halts_last s false t is h = cc

pub halts : (p : ProgramMeaning) (room n : ℕ) (s t : State) → run p room n s ≡ Halted t → is_halted t ≡ true
halts p room zero s t h = halts_last s (is_halted s) t refl h
halts p room (suc n) s t h = halts_at p room n s (is_halted s) t refl (λ u. halts p room n u t) h
