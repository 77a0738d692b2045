-- The lines of leaves that are away.
use Rattle.std.proofs.Common.{◌≡◌, ℕ, Bool, true, false, List, [], map, Option, Some, None, is_some, Result, refl, sym, ◌∙◌, ap, subst, inl, inr, ◌⊎◌}
use mathlib.Core.List.{map-map}
use Rattle.mp_base.specs.declared.range.GroupRange.{GroupRange}
use Rattle.mp_base.specs.declared.refusal.Refusal.{Refusal}
use Rattle.mp_base.specs.declared.refusal.Refusal.TheVariants as refusals
use Rattle.bank_core.specs.Disk.{Noted}
use Rattle.bank_core.specs.Story.{Story}
use Rattle.bank_core.proofs.Composing.{made_none}
use Rattle.label_store.specs.Newest.{AreReads}
use Rattle.vdev_tree.specs.declared.vdev.State.{State}
use Rattle.pool_wire.specs.declared.reply.LeafLog.{LeafLog}
use Rattle.pool_wire.specs.declared.reply.Reply.{Reply}
use Rattle.pool_wire.specs.declared.reply.Reply.TheVariants as replies
use Rattle.pool_wire.specs.declared.request.Request.TheVariants as requests
use Rattle.pool_core.specs.declared.away.LeafLog.{LeafLog as PoolLog}
use Rattle.pool_core.specs.declared.pool.Pool.{Pool}
use Rattle.pool_core.specs.Away.{leaf_named, IsOffline, OnlinesLeaf, IsOnline}
use Rattle.pool_core.specs.Done.{Onlines, shown_logs}
use Rattle.pool_core.specs.Keeping.{Represents}
use Rattle.pool_core.specs.State.{LeafState, PoolState, leaves}
use Rattle.host_machine.specs.Devices.{number_in}
use Rattle.host_machine.specs.Machine.{HostState, IsAnswered, WantsMemory, Clashes, OnlinesOn, OnlinesNamed, online_reply, reply_of, shown_log, with_pool}
use Rattle.host_machine.proofs.AwayLines.{leaf_name}
use Rattle.host_front.specs.declared.host.Host.{Host}
use Rattle.host_front.specs.Bringing.{BringsBack, IsBrought}
use Rattle.host_front.specs.Session.{Answers}
use Rattle.host_front.specs.Standing.{Keeps}
use Rattle.host_front.proofs.Answering.{IsNamed, answers_by, answers_quiet, entry_of, keeps_with, same_pool, same_sizes, sizes_on}

-- `offline`
pub answers_offline : {new : Host} {told : Option Story} {faults size : ℕ → ℕ} {reply : Reply} (h : HostState) (pool pool' : Pool) (name device : List ℕ) (temporary : Bool) (second : ℕ)
    (result : Result (Unit {0}) Refusal) → IsNamed pool h name
    → ((s : PoolState) → Represents pool s → (next : PoolState) × Represents pool' next × IsOffline s device temporary next result)
    → h.table ≡ new.table.items → ((d : ℕ) → h.size d ≡ size d) → new.pool ≡ Some pool' → reply ≡ reply_of (λ done. replies.Done) result
    → Answers h (Some (requests.Offline name device temporary)) second told told faults faults size new reply
answers_offline {size = size} h pool pool' name device temporary second result n offline table sizes is reply_is =
    let o = offline n.s n.represents in
    answers_quiet h (with_pool h o.0) (Some (requests.Offline name device temporary)) second (keeps_with size h pool' o.0 table sizes is o.1)
    (rw n.named (o.0, result, o.2, (refl, ap (λ r. (with_pool h o.0, r)) reply_is)))

-- `online`

module _ (size : ℕ → ℕ) (h : HostState) (s : PoolState) (sizes : h.size ≡ size) (is_open : h.pool ≡ Some s) (made : List Noted) (next : PoolState) (reply : Reply) where
  same_outcome : (said : Reply) → next ≡ s → reply ≡ said → ◌≡◌ {A = HostState × Reply} (with_pool h next, reply) (h, said)
  same_outcome said same is = ap (λ (x : PoolState). (with_pool h x, reply)) same ∙ ap (λ (x : HostState). (x, reply)) (same_pool h s is_open) ∙ ap (λ r. (h, r)) is

  brought_on : (leaf : LeafState) (dev : Option ℕ) → IsBrought s (Some leaf) dev size made next reply → OnlinesOn h s leaf dev made (with_pool h next) reply
  brought_on leaf None b = (b.0, same_outcome (replies.NoDevice leaf.name) b.1 b.2)
  brought_on leaf (Some dev) b = (next, b.0, subst (λ at. OnlinesLeaf at s leaf dev made next b.0) (sym sizes) b.1, refl, b.2)

  brought_named : (device : List ℕ) (dev : Option ℕ) (leaf : Option LeafState) → leaf_named device (leaves s) ≡ leaf → dev ≡ number_in device h.table
      → IsBrought s leaf dev size made next reply → OnlinesNamed h s leaf made (with_pool h next) reply
  brought_named device dev None e number b = (b.0, same_outcome (replies.Refused refusals.NoVdev) b.1 b.2)
  brought_named device dev (Some leaf) e number b =
      subst (λ at. OnlinesOn h s leaf at made (with_pool h next) reply) (number ∙ ap (λ name. number_in name h.table) (sym (leaf_name s device leaf e)))
      (brought_on leaf dev b)

pub answers_online : {host : Host} {old new : Option Story} {f g size' : ℕ → ℕ} {reply : Reply} (size : ℕ → ℕ) (h : HostState) (pool pool' : Pool) (name device : List ℕ) (second : ℕ)
    (dev : Option ℕ) → IsNamed pool h name → dev ≡ number_in device h.table → ((s : PoolState) → Represents pool s → BringsBack s device dev size old new f g pool' reply)
    → h.table ≡ host.table.items → ((d : ℕ) → h.size d ≡ size d) → ((d : ℕ) → size' d ≡ size d) → host.pool ≡ Some pool'
    → Answers h (Some (requests.Online name device)) second old new f g size' host reply
answers_online {host} {old} {new} {f} {g} {size'} {reply} size h pool pool' name device second dev n number brings table sizes still is =
    let b = brings n.s n.represents in
    answers_by h (with_pool h b.next) (Some (requests.Online name device)) second b.made b.calls
    (keeps_with size' h pool' b.next table (sizes_on h.size size size' sizes still) is b.represents) (steps b b.step)
  where
    steps : (b : BringsBack n.s device dev size old new f g pool' reply) → IsBrought n.s (leaf_named device (leaves n.s)) dev size b.made b.next reply
        ⊎ ((reply ≡ replies.Refused refusals.Memory) × (b.next ≡ n.s) × (b.made ≡ []))
        → IsAnswered h (Some (requests.Online name device)) (entry_of h (Some (requests.Online name device)) second b.made reply) b.made (with_pool h b.next)
        ⊎ (WantsMemory h (entry_of h (Some (requests.Online name device)) second b.made reply) b.made (with_pool h b.next)
        ⊎ Clashes h (entry_of h (Some (requests.Online name device)) second b.made reply) b.made (with_pool h b.next))
    steps b (inl done) =
        inl (rw n.named (brought_named size h n.s (same_sizes h.size size sizes) n.is b.made b.next reply device dev (leaf_named device (leaves n.s)) refl number done))
    steps b (inr memory) =
        inr (inl (record { reply = memory.0; same = ap (with_pool h) memory.1 ∙ same_pool h n.s n.is; reads = subst AreReads (sym memory.2) tt }))

-- what a leaf's coming back did

quiet_back : {s : PoolState} {name : List ℕ} {dev : Option ℕ} {size : ℕ → ℕ} {told : Option Story} {faults : ℕ → ℕ} {reply : Reply} (pool : Pool) → Represents pool s
    → IsBrought s (leaf_named name (leaves s)) dev size [] s reply ⊎ ((reply ≡ replies.Refused refusals.Memory) × (s ≡ s) × ◌≡◌ {A = List Noted} [] [])
    → BringsBack s name dev size told told faults faults pool reply
quiet_back {s} {told = told} {faults = faults} pool r step = record { made = []; next = s; calls = made_none told faults; represents = r; step = step }

-- no leaf has the name
no_leaf_at : (s : PoolState) (dev : Option ℕ) (size : ℕ → ℕ) (leaf : Option LeafState) → false ≡ is_some leaf → IsBrought s leaf dev size [] s (replies.Refused refusals.NoVdev)
no_leaf_at s dev size None e = (refl, refl, refl)
no_leaf_at s dev size (Some leaf) e = absurd (cc)

pub back_without : {s : PoolState} {name : List ℕ} {dev : Option ℕ} {size : ℕ → ℕ} {told : Option Story} {faults : ℕ → ℕ} (pool : Pool) → Represents pool s
    → false ≡ is_some (leaf_named name (leaves s)) → BringsBack s name dev size told told faults faults pool (replies.Refused refusals.NoVdev)
back_without {s} {name} {dev} {size} pool r e = quiet_back pool r (inl (no_leaf_at s dev size (leaf_named name (leaves s)) e))

-- there was no memory
pub back_memory : {s : PoolState} {name : List ℕ} {dev : Option ℕ} {size : ℕ → ℕ} {told : Option Story} {faults : ℕ → ℕ} (pool : Pool) → Represents pool s
    → BringsBack s name dev size told told faults faults pool (replies.Refused refusals.Memory)
back_memory pool r = quiet_back pool r (inr (refl, refl, refl))

-- the device wasn't found
no_device_at : (s : PoolState) (name : List ℕ) (size : ℕ → ℕ) (leaf : Option LeafState) → true ≡ is_some leaf → leaf_named name (leaves s) ≡ leaf
    → IsBrought s leaf None size [] s (replies.NoDevice name)
no_device_at s name size None e is = absurd (cc)
no_device_at s name size (Some leaf) e is = (refl, refl, ap replies.NoDevice (sym (leaf_name s name leaf is)))

pub back_nowhere : {s : PoolState} {name : List ℕ} {size : ℕ → ℕ} {told : Option Story} {faults : ℕ → ℕ} (pool : Pool) → Represents pool s
    → true ≡ is_some (leaf_named name (leaves s)) → BringsBack s name None size told told faults faults pool (replies.NoDevice name)
back_nowhere {s} {name} {size} pool r e = quiet_back pool r (inl (no_device_at s name size (leaf_named name (leaves s)) e refl))

-- it was, and the pool answered
back_at : (s : PoolState) (name : List ℕ) (dev : ℕ) (size : ℕ → ℕ) (made : List Noted) (next : PoolState) (answer : Result State Refusal) (reply : Reply) (leaf : Option LeafState)
    → true ≡ is_some leaf → leaf_named name (leaves s) ≡ leaf → ((leaf : LeafState) → leaf.name ≡ name → reply ≡ online_reply leaf answer)
    → IsOnline size s leaf dev made next answer → IsBrought s leaf (Some dev) size made next reply
back_at s name dev size made next answer reply None e is said o = absurd (cc)
back_at s name dev size made next answer reply (Some leaf) e is said o = (answer, o, said leaf (leaf_name s name leaf is))

pub back_by : {s : PoolState} {name : List ℕ} {dev : ℕ} {size : ℕ → ℕ} {old new : Option Story} {f g : ℕ → ℕ} {reply : Reply} (pool : Pool) (answer : Result State Refusal)
    → true ≡ is_some (leaf_named name (leaves s)) → ((leaf : LeafState) → leaf.name ≡ name → reply ≡ online_reply leaf answer)
    → Onlines size s (leaf_named name (leaves s)) dev old new f g pool answer → BringsBack s name (Some dev) size old new f g pool reply
back_by {s} {name} {dev} {size} {reply = reply} pool answer e said o = record {
  made = o.made;
  next = o.next;
  calls = o.calls;
  represents = o.represents;
  step = inl (back_at s name dev size o.made o.next answer reply (leaf_named name (leaves s)) e refl said o.onlines);
}

-- `logs`

abbrev pub as_shown : PoolLog → LeafLog
as_shown log = record { name = log.name; log = log.log }

abbrev of_pair : List ℕ × List GroupRange → LeafLog
of_pair p = record { name = p.0; log = p.1 }

pub logs_are : (s : PoolState) (logs : List PoolLog) → map (λ (log : PoolLog). (log.name, log.log)) logs ≡ shown_logs s → map as_shown logs ≡ map (shown_log s.number) (leaves s)
logs_are s logs is = sym (map-map of_pair (λ (log : PoolLog). (log.name, log.log)) logs) ∙ ap (map of_pair) is

pub answers_logs : {host : Host} {told : Option Story} {faults size : ℕ → ℕ} (h : HostState) (pool : Pool) (name : List ℕ) (second : ℕ) (logs : List LeafLog) → IsNamed pool h name
    → ((s : PoolState) → Represents pool s → logs ≡ map (shown_log s.number) (leaves s)) → Keeps size host h
    → Answers h (Some (requests.Logs name)) second told told faults faults size host (replies.Logs logs)
answers_logs h pool name second logs n is keeps = answers_quiet h h (Some (requests.Logs name)) second keeps (refl, rw (n.named, is n.s n.represents) refl)
