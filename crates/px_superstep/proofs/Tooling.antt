-- The tools of a compute phase give back what they were made of.
use Rattle.std.proofs.Common.{◌≡◌, ◌≤◌, ℕ, ◌+◌, length, sym, ◌∙◌, ap, arith}
use Rattle.px_frames.specs.Banks.{BankView}
use Rattle.px_frames.specs.Shares.{ShareView}
use Rattle.px_program.specs.Groups.{GroupMade, made_of}
use Rattle.px_store.specs.Joins.{JoinView}
use Rattle.px_superstep.specs.Lending.{IsShareOf, IsLent}
use Rattle.px_superstep.specs.Tooling.{IsShort, AreTools, SameTools}
use Rattle.px_superstep.specs.declared.benches.Lent.{Lent}
use Rattle.px_superstep.specs.declared.tools.Tools.{Tools}

-- a share of which frames were taken and put back
pub again : (b : BankView) (slot n : ℕ) (share rest rest' share' : ShareView) → IsShareOf b slot share → IsShort n share rest → rest' ≡ rest → IsShort n share' rest' → IsShareOf b slot share'
again b slot n share rest rest' share' of short same short' =
    let size : share'.size ≡ share.size = sym short'.size ∙ ap (λ (s : ShareView). s.size) same ∙ short.size in
    let left : length rest'.frames ≡ length rest.frames = ap (λ (s : ShareView). length s.frames) same in
    record {
      size = size ∙ of.size;
      frame_len = sym short'.frame_len ∙ ap (λ (s : ShareView). s.frame_len) same ∙ short.frame_len ∙ of.frame_len;
      full = omega (arith, short.frames, short'.frames, left, of.full, size);
    }

module _ {J G : Type 0} (view : J → JoinView) (made : G → GroupMade) (q : ℕ) (b : BankView) (lent : Lent) (t t' : Tools J G)
    (of : IsLent b lent) (are : AreTools view made q lent t) (same : SameTools view made t t') where
  made_is : made t'.bench.group ≡ made_of lent.group lent.table 2 3
  made_is = same.bench.group ∙ are.group

  work_len : t'.work.frame_len ≡ lent.work.frame_len
  work_len = ap (λ (s : ShareView). s.frame_len) same.work ∙ are.work.frame_len
