-- One delivery: its files, what is sent to it, and what its tools give back.
use Rattle.std.proofs.Common.{◌≡◌, ◌<◌, ◌+◌, ℕ, Bool, List, [], ◌∷◌, ◌++◌, filter, sym, ◌∙◌, ap, subst, refl, arith, inl, inr}
use Rattle.std.specs.Prelude.{◌==◌, flat_map}
use Rattle.std.proofs.lemmas.List.Elements.{filter-append}
use Rattle.px_core.specs.Counts.{Rose}
use Rattle.px_core.specs.Parts.{to_part, all_of, upto}
use Rattle.px_core.specs.Partition.{partition_of}
use Rattle.px_core.specs.Same.{Apart}
use Rattle.px_core.specs.Shown.{Shown, Only, NoFile, Clean, Worked, Broke}
use Rattle.px_core.specs.declared.stop.Stop.{Stop}
use Rattle.px_core.specs.declared.stop.Stop.TheVariants.{Scratch}
use Rattle.px_core.proofs.Pages.{touches_then, touches_more}
use Rattle.px_core.proofs.Steps.{clean_of, clean_more, clean_then}
use Rattle.px_frames.specs.Banks.{BankView}
use Rattle.px_meaning.specs.Merge.{MergeRule, Pairs, AllValid}
use Rattle.px_program.specs.Groups.{GroupMade, made_of, IsOwn, StopsGrouping}
use Rattle.px_connectors.specs.Files.{OwnOr, OwnOrConnector}
use Rattle.px_connectors.specs.Views.{IsSenderFile, IsConnectorFile}
use Rattle.px_superstep.specs.Gathering.{AreGatherTools, SameGatherTools}
use Rattle.px_superstep.specs.Files.{IsMsgFile, IsResultFile, IsStepFile}
use Rattle.px_superstep.specs.Lending.{IsLent}
use Rattle.px_superstep.specs.declared.benches.Lent.{Lent}
use Rattle.px_superstep.specs.declared.gather.GatherTools.{GatherTools}
use Rattle.px_superstep.proofs.Phases.{valid_filter}

-- what is kept of all is what is kept of each
filter-flat_map : {X Y : Type 0} (test : Y → Bool) (f : X → List Y) (xs : List X) → flat_map (λ x. filter test (f x)) xs ≡ filter test (flat_map f xs)
filter-flat_map test f [] = refl
filter-flat_map test f (x ∷ xs) = ap (λ l. filter test (f x) ++ l) (filter-flat_map test f xs) ∙ sym (filter-append test (f x) (flat_map f xs))

-- so it is of the pairs to a partition
pub part_of_all : (parts q : ℕ) (ls : ℕ → Pairs) → all_of parts (λ p. to_part parts q (ls p)) ≡ to_part parts q (all_of parts ls)
part_of_all parts q ls = filter-flat_map (λ (e : ℕ × List ℕ). partition_of e.0 parts == q) ls (upto parts)

pub part_valid : (rule : MergeRule) (parts q : ℕ) (ls : ℕ → Pairs) → AllValid rule (all_of parts ls) → AllValid rule (all_of parts (λ p. to_part parts q (ls p)))
part_valid rule parts q ls h = subst (AllValid rule) (sym (part_of_all parts q ls)) (valid_filter rule (λ (e : ℕ × List ℕ). partition_of e.0 parts == q) (all_of parts ls) h)

module _ (u : ℕ) (msg : IsMsgFile u) where
  -- the file of messages is none of a sender
  pub sender_msg : (p : ℕ) → Apart (IsSenderFile p) (Only u)
  sender_msg p f s is = absurd (let low = s.low in let high = msg.high in omega (arith, low, high, is))

  pub msg_connector : IsConnectorFile u → ⊥
  msg_connector c = absurd (let low = c.low in let high = msg.high in omega (arith, low, high))

  pub only_step : (f : ℕ) → Only u f → IsStepFile f
  only_step f is = (let high = msg.high in record { high = omega (arith, high, is) })

  pub connector_step : (f : ℕ) → IsConnectorFile f → IsStepFile f
  connector_step f c = (let high = c.high in record { high = high })

  module _ (made : GroupMade) (first : made.first ≡ 2) (second : made.second ≡ 3) where
    own_low : (f : ℕ) → IsOwn made f → f < 16
    own_low f (inl is) = omega (arith, first, is)
    own_low f (inr is) = omega (arith, second, is)

    pub own_connector : (f : ℕ) → IsOwn made f → IsConnectorFile f → ⊥
    own_connector f own c = absurd (let low = own_low f own in let high = c.low in omega (arith, low, high))

    pub own_msg : IsOwn made u → ⊥
    own_msg own = absurd (let low = own_low u own in let high = msg.low in omega (arith, low, high))

    -- what a gathering changes, and what it may spoil
    pub gathered_file : (f : ℕ) → OwnOr made u f → IsResultFile u f
    gathered_file f (inl own) = inl (record { low = own_low f own })
    gathered_file f (inr is) = inr is

    pub gathering_step : (f : ℕ) → OwnOrConnector made u f → IsStepFile f
    gathering_step f (inl own) = (let low = own_low f own in record { high = omega (arith, low) })
    gathering_step f (inr (inl is)) = only_step f is
    gathering_step f (inr (inr c)) = connector_step f c

-- the writer was started, and a receiver is open
pub clean_opened : (mine : ℕ → Type 0) (u : ℕ) (s0 s1 s2 : Shown) → ((f : ℕ) → Only u f → mine f) → Worked (Only u) 0 0 s0 s1 → Clean NoFile s1 s2 → Clean mine s0 s2
clean_opened mine u s0 s1 s2 sub one two =
    clean_then mine s0 s1 s2 (clean_more (Only u) mine s0 s1 sub (clean_of (Only u) 0 0 s0 s1 one)) (clean_more NoFile mine s1 s2 (λ f no. absurd no) two)

-- the disk failed
pub grouping_broke : (mine more : ℕ → Type 0) (TooMuch : Type 0) (s0 s1 s2 : Shown) (e : Stop) → ((f : ℕ) → mine f → more f) → Clean more s0 s1
    → Broke Scratch mine s1 s2 e → StopsGrouping more TooMuch s0 s2 e
grouping_broke mine more TooMuch s0 s1 s2 e sub sc h = record {
  beyond = λ is. absurd (cc (sym h.only ∙ is));
  cause = record {
    scratch = λ is. subst (λ (n : ℕ). Rose n s2.faults) sc.no_fault h.rose;
    no_fault = λ other. absurd (other h.only);
    no_graph = λ is. absurd (cc (sym h.only ∙ is));
  };
  touches = touches_then more s0 s1 s2 sc.touches (touches_more mine more s1 s2 sub h.touches);
}

module _ {G : Type 0} (made : G → GroupMade) (to : ℕ) (b : BankView) (lent : Lent) (t t' : GatherTools G)
    (of : IsLent b lent) (are : AreGatherTools made to lent t) (same : SameGatherTools made t t') where
  made_is : made t'.group ≡ made_of lent.group lent.table 2 3
  made_is = same.group ∙ are.group
