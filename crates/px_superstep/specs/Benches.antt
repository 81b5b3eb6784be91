-- What the work of a superstep needs of what it is lent, and what of that stays.
use Rattle.std.specs.Prelude.{◌≡◌, ◌≤◌, ◌<◌, ℕ, Bool, List, length, IsTrue}
use Rattle.px_core.specs.Shown.{Shown}
use Rattle.px_frames.specs.Banks.{BankView, IsFrameLen, is_home, size_of}
use Rattle.px_connectors.specs.Asking.{RequestsView, receivers, SameRequests}
use Rattle.px_connectors.specs.Views.{ConnectorView}
use Rattle.px_store.specs.Desks.{SameDesk}
use Rattle.px_store.specs.declared.shared.Desk.{Desk}
use Rattle.px_load.specs.Loading.{IsFree, AreStores}
use Rattle.px_superstep.specs.Phases.{SameConnector}

-- a slot is home, with so many frames at least
pub record HasSlot (b : BankView) (slot least : ℕ) : Type 0 where
  pub in_range : slot < length b.slots
  pub home : IsTrue (is_home b slot)
  pub frames : least ≤ size_of b slot

-- the slots from which one partition is computed, delivered to and settled at a time, and the slot table
pub record HasBench (b : BankView) : Type 0 where
  pub len : IsFrameLen b.frame_len
  pub work : HasSlot b 0 4
  pub join : HasSlot b 1 3
  pub streams : HasSlot b 2 3
  pub group : HasSlot b 5 6
  pub table : IsTrue b.table_home
  pub entries : 32 ≤ b.table_entries

-- a list of stores on a free desk and the bank, a connector and requests for as many partitions, with frames as long as the pages of the disks
pub record IsLent {X : Type 0} (counted : Bool) (part : X → ℕ) (bank : BankView) (stores : List X) (desk : Desk) (connector : ConnectorView) (requests : RequestsView) (graph scratch : Shown) : Type 0 where
  pub bench : HasBench bank
  pub parts : AreStores part stores
  pub free : IsFree counted desk graph
  pub graph_len : bank.frame_len ≡ graph.page_len
  pub scratch_len : bank.frame_len ≡ scratch.page_len
  pub senders : connector.parts ≡ length stores
  pub connector_len : connector.frame_len ≡ bank.frame_len
  pub receivers_are : receivers requests ≡ length stores
  pub requests_len : requests.frame_len ≡ bank.frame_len

-- what of them stays, whatever is answered
pub record StaysLent {X : Type 0} (part : X → ℕ) (bank : BankView) (stores : List X) (desk : Desk) (connector : ConnectorView) (requests : RequestsView) (bank' : BankView) (stores' : List X) (desk' : Desk) (connector' : ConnectorView) (requests' : RequestsView) : Type 0 where
  pub bank_stays : bank' ≡ bank
  pub count : length stores' ≡ length stores
  pub parts : AreStores part stores'
  pub same_desk : SameDesk desk desk'
  pub same_connector : SameConnector connector connector'
  pub same_requests : SameRequests requests requests'
