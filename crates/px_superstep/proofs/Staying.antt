-- What is lent to a superstep stays.
use Rattle.std.proofs.Common.{◌≡◌, ◌<◌, ◌≤◌, ℕ, List, length, set, sym, ◌∙◌, ap, refl, subst, arith}
use Rattle.std.specs.Prelude.{Bool}
use Rattle.px_core.specs.Shown.{Shown, Touches}
use Rattle.px_frames.specs.Banks.{BankView}
use Rattle.px_connectors.specs.Asking.{RequestsView, SameRequests}
use Rattle.px_connectors.specs.Views.{ConnectorView}
use Rattle.px_store.specs.Desks.{SameDesk}
use Rattle.px_store.specs.declared.shared.Desk.{Desk}
use Rattle.px_store.proofs.Apart.{desk_refl, desk_then}
use Rattle.px_load.specs.Loading.{IsFree, AreStores}
use Rattle.px_superstep.specs.Benches.{HasBench, IsLent, StaysLent}
use Rattle.px_superstep.specs.Phases.{SameConnector}
use Rattle.px_superstep.proofs.Slices.{each_set, length_set}

-- a store of the same partition in a store's place
pub stores_set : {X : Type 0} (part : X → ℕ) (stores : List X) (q : ℕ) (y : X) → q < length stores → part y ≡ q → AreStores part stores → AreStores part (set stores q y)
stores_set part stores q y lt is h =
    let len = length_set stores q y in record {
      some = omega (arith, len, h.some);
      most = omega (arith, len, h.most);
      parts = each_set (λ i x. part x ≡ i) (λ i x. part x ≡ i) stores q y lt is (λ i x other at own. own) h.parts;
    }

requests_refl : (r : RequestsView) → SameRequests r r
requests_refl r = record { receivers_stay = refl; frame_len = refl; size = refl; frames = refl }

requests_then : (a b c : RequestsView) → SameRequests a b → SameRequests b c → SameRequests a c
requests_then a b c h k = record { receivers_stay = k.receivers_stay ∙ h.receivers_stay; frame_len = k.frame_len ∙ h.frame_len; size = k.size ∙ h.size; frames = k.frames ∙ h.frames }

connector_refl : (c : ConnectorView) → SameConnector c c
connector_refl c = record { parts = refl; frame_len = refl; size = refl; frames = refl }

connector_then : (a b c : ConnectorView) → SameConnector a b → SameConnector b c → SameConnector a c
connector_then a b c h k = record { parts = k.parts ∙ h.parts; frame_len = k.frame_len ∙ h.frame_len; size = k.size ∙ h.size; frames = k.frames ∙ h.frames }

module _ {X : Type 0} (part : X → ℕ) where
  pub stays_refl : (b : BankView) (xs : List X) (d : Desk) (c : ConnectorView) (r : RequestsView) → AreStores part xs → StaysLent part b xs d c r b xs d c r
  stays_refl b xs d c r parts = record { bank_stays = refl; count = refl; parts = parts; same_desk = desk_refl d; same_connector = connector_refl c; same_requests = requests_refl r }

  pub stays_then : (b b1 b2 : BankView) (xs xs1 xs2 : List X) (d d1 d2 : Desk) (c c1 c2 : ConnectorView) (r r1 r2 : RequestsView) → StaysLent part b xs d c r b1 xs1 d1 c1 r1 → StaysLent part b1 xs1 d1 c1 r1 b2 xs2 d2 c2 r2 → StaysLent part b xs d c r b2 xs2 d2 c2 r2
  stays_then b b1 b2 xs xs1 xs2 d d1 d2 c c1 c2 r r1 r2 h k = record {
    bank_stays = k.bank_stays ∙ h.bank_stays;
    count = k.count ∙ h.count;
    parts = k.parts;
    same_desk = desk_then d d1 d2 h.same_desk k.same_desk;
    same_connector = connector_then c c1 c2 h.same_connector k.same_connector;
    same_requests = requests_then r r1 r2 h.same_requests k.same_requests;
  }

  -- one store changed
  pub stays_set : (b b' : BankView) (xs : List X) (q : ℕ) (y : X) (d d' : Desk) (c c' : ConnectorView) (r r' : RequestsView) → q < length xs → part y ≡ q → AreStores part xs → b' ≡ b → SameDesk d d' → SameConnector c c' → SameRequests r r'
      → StaysLent part b xs d c r b' (set xs q y) d' c' r'
  stays_set b b' xs q y d d' c c' r r' lt is parts bank desk connector requests = record {
    bank_stays = bank;
    count = length_set xs q y;
    parts = stores_set part xs q y lt is parts;
    same_desk = desk;
    same_connector = connector;
    same_requests = requests;
  }

  -- the requests alone changed
  pub stays_requests : (b : BankView) (xs : List X) (d : Desk) (c : ConnectorView) (r r' : RequestsView) → AreStores part xs → SameRequests r r' → StaysLent part b xs d c r b xs d c r'
  stays_requests b xs d c r r' parts requests = record { bank_stays = refl; count = refl; parts = parts; same_desk = desk_refl d; same_connector = connector_refl c; same_requests = requests }

  -- and neither the requests nor the connector did
  pub stays_stores : (b b' : BankView) (xs xs' : List X) (d d' : Desk) (c c' : ConnectorView) (r : RequestsView) → b' ≡ b → length xs' ≡ length xs → AreStores part xs' → SameDesk d d' → c' ≡ c → StaysLent part b xs d c r b' xs' d' c' r
  stays_stores b b' xs xs' d d' c c' r bank count parts desk connector = record {
    bank_stays = bank;
    count = count;
    parts = parts;
    same_desk = desk;
    same_connector = subst (SameConnector c) (sym connector) (connector_refl c);
    same_requests = requests_refl r;
  }

  -- what stays may be lent again
  pub lent_again : (counted : Bool) (mine theirs : ℕ → Type 0) (b b' : BankView) (xs xs' : List X) (d d' : Desk) (c c' : ConnectorView) (r r' : RequestsView) (g g' s s' : Shown) → IsLent counted part b xs d c r g s → StaysLent part b xs d c r b' xs' d' c' r'
      → IsFree counted d' g' → Touches mine g g' → Touches theirs s s' → IsLent counted part b' xs' d' c' r' g' s'
  lent_again counted mine theirs b b' xs xs' d d' c c' r r' g g' s s' h k free tg ts = record {
    bench = subst HasBench (sym k.bank_stays) h.bench;
    parts = k.parts;
    free = free;
    graph_len = ap (λ (v : BankView). v.frame_len) k.bank_stays ∙ h.graph_len ∙ sym tg.page_len;
    scratch_len = ap (λ (v : BankView). v.frame_len) k.bank_stays ∙ h.scratch_len ∙ sym ts.page_len;
    senders = k.same_connector.parts ∙ h.senders ∙ sym k.count;
    connector_len = k.same_connector.frame_len ∙ h.connector_len ∙ sym (ap (λ (v : BankView). v.frame_len) k.bank_stays);
    receivers_are = k.same_requests.receivers_stay ∙ h.receivers_are ∙ sym k.count;
    requests_len = k.same_requests.frame_len ∙ h.requests_len ∙ sym (ap (λ (v : BankView). v.frame_len) k.bank_stays);
  }
