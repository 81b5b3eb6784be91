-- The files of a compute phase are different ones.
use Rattle.std.proofs.Common.{◌≡◌, ◌<◌, ℕ, inl, inr, sym, subst, arith}
use Rattle.px_core.specs.Same.{Apart}
use Rattle.px_core.specs.Shown.{Only}
use Rattle.px_program.specs.Groups.{GroupMade, IsOwn}
use Rattle.px_connectors.specs.Asking.{IsRequestFile}
use Rattle.px_connectors.specs.Views.{IsSenderFile, IsConnectorFile}
use Rattle.px_store.specs.Joins.{IsInput}
use Rattle.px_store.specs.declared.join.Inputs.{Inputs}
use Rattle.px_compute_op.specs.Outs.{IsOutFile}
use Rattle.px_compute_op.specs.Phase.{AreApart, IsRunFile, OwnOrSent}

-- they stay so where these are the same
pub apart_at : (made made' : GroupMade) (u u' : ℕ) (ins ins' : Inputs) → made' ≡ made → u' ≡ u → ins' ≡ ins → AreApart made u ins → AreApart made' u' ins'
apart_at made made' u u' ins ins' a b c h = subst (λ (x : GroupMade). AreApart x u' ins') (sym a) (subst (λ (x : ℕ). AreApart made x ins') (sym b) (subst (λ (x : Inputs). AreApart made u x) (sym c) h))

pub sender_file : (p : ℕ) → p < 16 → (f : ℕ) → IsSenderFile p f → IsConnectorFile f
sender_file p lt f s = record { low = omega (arith, s.low); high = omega (arith, s.high, lt) }

pub request_sender : (p : ℕ) → Apart IsRequestFile (IsSenderFile p)
request_sender p f r s = absurd (omega (arith, r.high, s.low))

module _ (made : GroupMade) (u : ℕ) (ins : Inputs) (a : AreApart made u ins) where
  pub inputs_out : Apart (IsInput ins) (IsOutFile made)
  inputs_out f i (inl own) = a.inputs_group f i own
  inputs_out f i (inr r) = a.inputs_requests f i r

  pub inputs_update : Apart (IsInput ins) (Only u)
  inputs_update f i is = a.inputs_updates (subst (IsInput ins) is i)

  pub own_update : Apart (IsOwn made) (Only u)
  own_update f own is = a.group_updates (subst (IsOwn made) is own)

  pub update_own : Apart (Only u) (IsOwn made)
  update_own f is own = own_update f own is

  pub request_update : Apart IsRequestFile (Only u)
  request_update f r is = a.updates_requests (subst IsRequestFile is r)

  pub request_own : Apart IsRequestFile (IsOwn made)
  request_own f r own = a.group_requests f own r

  pub update_out : Apart (Only u) (IsOutFile made)
  update_out f is (inl own) = own_update f own is
  update_out f is (inr r) = request_update f r is

  module _ (p : ℕ) (lt : p < 16) where
    pub sender_own : Apart (IsSenderFile p) (IsOwn made)
    sender_own f s own = a.group_senders f own (sender_file p lt f s)

    pub sender_update : Apart (IsSenderFile p) (Only u)
    sender_update f s is = a.updates_senders (subst IsConnectorFile is (sender_file p lt f s))

    pub update_sender : Apart (Only u) (IsSenderFile p)
    update_sender f is s = sender_update f s is

    pub sender_run : Apart (IsSenderFile p) (IsRunFile made u)
    sender_run f s (inl (inl own)) = sender_own f s own
    sender_run f s (inl (inr r)) = request_sender p f r s
    sender_run f s (inr is) = sender_update f s is

    pub update_moved : Apart (Only u) (OwnOrSent made p)
    update_moved f is (inl own) = own_update f own is
    update_moved f is (inr s) = update_sender f is s

    pub request_moved : Apart IsRequestFile (OwnOrSent made p)
    request_moved f r (inl own) = request_own f r own
    request_moved f r (inr s) = request_sender p f r s
