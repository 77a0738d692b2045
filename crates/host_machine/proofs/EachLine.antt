-- Each line follows each pool.
use Rattle.std.proofs.Common.{◌⊎◌, List, Option, Some, None, inl, inr}
use Rattle.bank_core.specs.Disk.{Noted, AllAnswer}
use Rattle.pool_wire.specs.declared.reply.Reply.TheVariants as replies
use Rattle.pool_wire.specs.declared.request.Request.{Request}
use Rattle.pool_wire.specs.declared.request.Request.TheVariants as requests
use Rattle.mp_base.specs.declared.refusal.Refusal.TheVariants as refusals
use Rattle.pool_history.specs.Pools.{Pool}
use Rattle.host_machine.specs.Fitness.{IsFit}
use Rattle.host_machine.specs.Machine.{HostState, Entry, IsAnswered, WantsMemory, Clashes, named_pool}
use Rattle.host_machine.specs.Tracking.{Cost, Device, Opening, Brought, Takes, Follows}
use Rattle.host_machine.proofs.AwayLines.{offline_follows, online_follows, logs_follows}
use Rattle.host_machine.proofs.Creating.{quiet_follows, create_follows}
use Rattle.host_machine.proofs.Following.{reads_follow}
use Rattle.host_machine.proofs.Importing.{import_follows}
use Rattle.host_machine.proofs.QuietLines.{read_follows, write_follows}
use Rattle.host_machine.proofs.SyncLines.{sync_follows}

answered_follows : (T : Cost → Type 0) (p : Pool) (h next : HostState) (entry : Entry) (asked : Option Request) (made : List Noted) → ((cost : Cost) → Takes p.name h asked made cost → T cost) → IsFit h → AllAnswer p.sectors made → IsAnswered h asked entry made next → Follows p h T made next
answered_follows T p h next entry None made takes fit all is = quiet_follows T p h made next entry.reply (replies.Refused refusals.NotBuilt) is
answered_follows T p h next entry (Some requests.Nothing) made takes fit all is = quiet_follows T p h made next entry.reply replies.Done is
answered_follows T p h next entry (Some (requests.Create pool blocks one other)) made takes fit all is = create_follows T p h entry.second pool blocks one other made next entry.reply (λ d. takes (Device d)) is
answered_follows T p h next entry (Some (requests.Import pool)) made takes fit all is = import_follows T p h pool made next entry.reply fit all (λ d. takes (Device d)) (takes Opening) is
answered_follows T p h next entry (Some (requests.Write pool a block)) made takes fit all is = write_follows T p h next pool a block made entry.reply is
answered_follows T p h next entry (Some (requests.Read pool a)) made takes fit all is =
    read_follows T p h next (named_pool pool h.pool) a entry.outside entry.given made entry.reply is.0 is.1
answered_follows T p h next entry (Some (requests.Sync pool)) made takes fit all is = sync_follows T p h next pool made entry.reply fit is
answered_follows T p h next entry (Some (requests.Offline pool device temporary)) made takes fit all is = offline_follows T p h next pool device temporary made entry.reply fit is
answered_follows T p h next entry (Some (requests.Online pool device)) made takes fit all is =
    online_follows T p h next pool device made entry.reply fit (λ d. takes (Device d)) (λ d. takes (Brought d)) is
answered_follows T p h next entry (Some (requests.Logs pool)) made takes fit all is = logs_follows T p h next (named_pool pool h.pool) made entry.reply is

pub line_follows : (T : Cost → Type 0) (p : Pool) (h next : HostState) (entry : Entry) (made : List Noted) → ((cost : Cost) → Takes p.name h entry.asked made cost → T cost) → IsFit h → AllAnswer p.sectors made
    → IsAnswered h entry.asked entry made next ⊎ (WantsMemory h entry made next ⊎ Clashes h entry made next) → Follows p h T made next
line_follows T p h next entry made takes fit all (inl is) = answered_follows T p h next entry entry.asked made takes fit all is
line_follows T p h next entry made takes fit all (inr (inl memory)) = reads_follow T p h made next memory.reads memory.same
line_follows T p h next entry made takes fit all (inr (inr clashes)) = reads_follow T p h made next clashes.reads clashes.same
