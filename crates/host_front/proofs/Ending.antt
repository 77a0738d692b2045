-- The end of a commit: the pool is open as it was committed, or none is.
use Rattle.std.proofs.Common.{◌≡◌, ℕ, zero, suc, ◌+◌, Bool, true, false, List, [], Option, Some, None, Result, Ok, Err, refl, sym, ◌∙◌, ap, subst, inl, inr, ◌⊎◌}
use Rattle.mp_base.specs.declared.number.Group.{Group}
use Rattle.mp_base.specs.declared.refusal.Refusal.{Refusal}
use Rattle.mp_base.specs.declared.refusal.Refusal.TheVariants as refusals
use Rattle.bank_core.specs.Calls.{Made}
use Rattle.bank_core.specs.Disk.{Noted}
use Rattle.bank_core.specs.Story.{Story}
use Rattle.pool_wire.specs.declared.reply.Reply.{Reply}
use Rattle.pool_wire.specs.declared.reply.Reply.TheVariants as replies
use Rattle.label_store.specs.Newest.{AreReads}
use Rattle.pool_wire.specs.declared.request.Request.TheVariants as requests
use Rattle.pool_core.specs.declared.pool.Pool.{Pool}
use Rattle.pool_core.specs.Commits.{IsCommit}
use Rattle.pool_core.specs.Done.{Refuses, SyncsIf, commit_answer, no_leaf}
use Rattle.pool_core.specs.Keeping.{Represents}
use Rattle.pool_core.specs.State.{PoolState, has_nobody, is_spent, last_number}
use Rattle.pool_core.specs.Syncing.{sync_plan, synced}
use Rattle.host_machine.specs.Machine.{HostState, IsAnswered, WantsMemory, Clashes, SyncsUnless, commit_outcome}
use Rattle.host_machine.specs.Records.{with_record}
use Rattle.host_front.specs.declared.host.Host.{Host}
use Rattle.host_front.specs.Closing.{left_by}
use Rattle.host_front.specs.Session.{Answers}
use Rattle.host_front.specs.Standing.{Keeps, PoolStands}
use Rattle.host_front.proofs.Answering.{IsNamed, answers_by, entry_of, same_sizes, sizes_on, same_pool}

-- the state behind a commit in which no call failed, and behind another one
abbrev pub committed_by : HostState → PoolState → HostState
committed_by h s = record h { records = with_record s h.records; pool = Some s }

abbrev pub closed_by : HostState → PoolState → HostState
closed_by h s = record h { records = with_record s h.records; pool = None }

pub keeps_committed : {host : Host} (size : ℕ → ℕ) (h : HostState) (s : PoolState) (pool : Pool) → h.table ≡ host.table.items → ((d : ℕ) → h.size d ≡ size d)
    → host.pool ≡ Some pool → Represents pool s → Keeps size host (committed_by h s)
keeps_committed {host} size h s pool table sizes is r = record { table = table; sizes = sizes; pool = subst (λ p. PoolStands p (Some s)) (sym is) r }

pub keeps_closed : {host : Host} (size : ℕ → ℕ) (h : HostState) (s : PoolState) → h.table ≡ host.table.items → ((d : ℕ) → h.size d ≡ size d)
    → host.pool ≡ None → Keeps size host (closed_by h s)
keeps_closed {host} size h s table sizes is = record { table = table; sizes = sizes; pool = subst (λ p. PoolStands p None) (sym is) tt }

same_group : (one other : Group) → ◌≡◌ {A = Result Group Refusal} (Ok one) (Ok other) → one ≡ other
same_group one other e = cc

same_refusal : (one other : Refusal) → ◌≡◌ {A = Result Group Refusal} (Err one) (Err other) → one ≡ other
same_refusal one other e = cc

ok_err : (group : Group) (refusal : Refusal) → ◌≡◌ {A = Result Group Refusal} (Ok group) (Err refusal) → ⊥
ok_err group refusal e = cc

-- no call failed where there is a group
pub none_failed : (s : PoolState) (group : Group) (failed : ℕ) → Ok group ≡ commit_answer s failed → failed ≡ 0
none_failed s group zero e = refl
none_failed s group (suc n) e = absurd (ok_err group _ e)

pub commit_done : (h : HostState) (s : PoolState) (group : Group) (failed : ℕ) → Ok group ≡ commit_answer s failed
    → (committed_by h s, replies.Committed group) ≡ commit_outcome h s failed
commit_done h s group zero e = ap (λ n. (committed_by h s, replies.Committed n)) (same_group group _ e)
commit_done h s group (suc n) e = absurd (ok_err group _ e)

pub commit_failed : (h : HostState) (s : PoolState) (refusal : Refusal) (failed : ℕ) → Err refusal ≡ commit_answer s failed
    → (closed_by h s, replies.Refused refusal) ≡ commit_outcome h s failed
commit_failed h s refusal zero e = absurd (ok_err _ refusal (sym e))
commit_failed h s refusal (suc n) e = ap (λ r. (closed_by h s, replies.Refused r)) (same_refusal refusal _ e)

-- What a sync did, where the numbers are spent, or not, and where no leaf is readable, or one is; or there was no memory.
record Synced (spent nobody : Bool) (h : HostState) (s : PoolState) (old new : Option Story) (f g : ℕ → ℕ) (size : ℕ → ℕ) (host : Host) (reply : Reply) : Type 0 where
  made : List Noted
  next : HostState
  calls : Made old new f g made
  keeps : Keeps size host next
  step : SyncsUnless spent nobody h s made next reply ⊎ ((reply ≡ replies.Refused refusals.Memory) × (next ≡ h) × (made ≡ []))

module _ (old new : Option Story) (f g : ℕ → ℕ) (size size' : ℕ → ℕ) (still : (d : ℕ) → size' d ≡ size d) (h : HostState) (s : PoolState) (host : Host) (pool : Pool)
    (is_open : h.pool ≡ Some s) (table : h.table ≡ host.table.items) (sizes : (d : ℕ) → h.size d ≡ size d) where
  commit_on : (made : List Noted) (failed : ℕ) → IsCommit size (sync_plan s) (synced s) made failed → IsCommit h.size (sync_plan s) (synced s) made failed
  commit_on made failed c = subst (λ at. IsCommit at (sync_plan s) (synced s) made failed) (sym (same_sizes h.size size sizes)) c

  synced_ok : (spent nobody : Bool) (group : Group) → host.pool ≡ Some pool → SyncsIf spent nobody size s old new f g pool (Ok group)
      → Synced spent nobody h s old new f g size' host (replies.Committed group)
  synced_ok true nobody group is y = absurd (ok_err group _ y.2)
  synced_ok false true group is y = absurd (ok_err group _ y.2)
  synced_ok false false group is (inr y) = absurd (ok_err group _ y.2)
  synced_ok false false group is (inl y) = record {
    made = y.made;
    next = committed_by h (synced s);
    calls = y.calls;
    keeps = keeps_committed size' h (synced s) pool table (sizes_on h.size size size' sizes still) is (y.represents (none_failed (synced s) group y.failed y.answer_is));
    step = inl (y.failed, commit_on y.made y.failed y.commit, commit_done h (synced s) group y.failed y.answer_is);
  }

  -- a refusal without a call leaves the pool
  unsynced : (spent nobody : Bool) (refusal other : Refusal) → left_by other (Some pool) ≡ Some pool → host.pool ≡ left_by refusal (Some pool)
      → Refuses s old new f g pool (Err refusal) other
      → (refusal ≡ other → SyncsUnless spent nobody h s [] h (replies.Refused refusal) ⊎ ((replies.Refused refusal ≡ replies.Refused refusals.Memory) × (h ≡ h) × ◌≡◌ {A = List Noted} [] []))
      → Synced spent nobody h s old new f g size' host (replies.Refused refusal)
  unsynced spent nobody refusal other stays is y step =
      let same = same_refusal refusal other y.2 in
      let left : host.pool ≡ Some pool = is ∙ ap (λ r. left_by r (Some pool)) same ∙ stays in
      record {
        made = [];
        next = h;
        calls = y.0;
        keeps = subst (Keeps size' host) (same_pool h s is_open)
            (record { table = table; sizes = sizes_on h.size size size' sizes still; pool = subst (λ p. PoolStands p (Some s)) (sym left) y.1 });
        step = step same;
      }

  -- and one behind failed calls leaves none
  closed : (refusal : Refusal) (failed : ℕ) → Err refusal ≡ commit_answer (synced s) failed → left_by refusal (Some pool) ≡ None
  closed refusal zero e = absurd (ok_err _ refusal (sym e))
  closed refusal (suc n) e = ap (λ r. left_by r (Some pool)) (same_refusal refusal _ e)

  synced_refused : (spent nobody : Bool) (refusal : Refusal) → host.pool ≡ left_by refusal (Some pool)
      → SyncsIf spent nobody size s old new f g pool (Err refusal) → Synced spent nobody h s old new f g size' host (replies.Refused refusal)
  synced_refused true nobody refusal is y =
      unsynced true nobody refusal (refusals.TreeFull last_number (s.number + 1)) refl is y (λ same. inl (refl, ap (λ r. (h, replies.Refused r)) same))
  synced_refused false true refusal is y = unsynced false true refusal (no_leaf s) refl is y (λ same. inl (refl, ap (λ r. (h, replies.Refused r)) same))
  synced_refused false false refusal is (inr y) =
      unsynced false false refusal refusals.Memory refl is y (λ same. inr (ap (λ r. replies.Refused r) same, refl, refl))
  synced_refused false false refusal is (inl y) = record {
    made = y.made;
    next = closed_by h (synced s);
    calls = y.calls;
    keeps = keeps_closed size' h (synced s) table (sizes_on h.size size size' sizes still) (is ∙ closed refusal y.failed y.answer_is);
    step = inl (y.failed, commit_on y.made y.failed y.commit, commit_failed h (synced s) refusal y.failed y.answer_is);
  }

module _ {host : Host} {reply : Reply} {old new : Option Story} {f g size : ℕ → ℕ} (h : HostState) (pool : Pool) (name : List ℕ) (second : ℕ) (n : IsNamed pool h name) where
  answers_synced : Synced (is_spent n.s.number) (has_nobody n.s) h n.s old new f g size host reply → Answers h (Some (requests.Sync name)) second old new f g size host reply
  answers_synced y = answers_by h y.next (Some (requests.Sync name)) second y.made y.calls y.keeps (steps y.step)
    where
      steps : SyncsUnless (is_spent n.s.number) (has_nobody n.s) h n.s y.made y.next reply ⊎ ((reply ≡ replies.Refused refusals.Memory) × (y.next ≡ h) × (y.made ≡ []))
          → IsAnswered h (Some (requests.Sync name)) (entry_of h (Some (requests.Sync name)) second y.made reply) y.made y.next
          ⊎ (WantsMemory h (entry_of h (Some (requests.Sync name)) second y.made reply) y.made y.next
          ⊎ Clashes h (entry_of h (Some (requests.Sync name)) second y.made reply) y.made y.next)
      steps (inl done) = inl (rw n.named done)
      steps (inr memory) = inr (inl (record { reply = memory.0; same = memory.1; reads = subst AreReads (sym memory.2) tt }))

module _ {host : Host} {old new : Option Story} {f g size' : ℕ → ℕ} (size : ℕ → ℕ) (h : HostState) (pool pool' : Pool) (name : List ℕ) (second : ℕ) (n : IsNamed pool h name)
    (still : (d : ℕ) → size' d ≡ size d) (table : h.table ≡ host.table.items) (sizes : (d : ℕ) → h.size d ≡ size d) where
  -- a sync that committed
  pub answers_sync : (group : Group) → ((s : PoolState) → Represents pool s → SyncsIf (is_spent s.number) (has_nobody s) size s old new f g pool' (Ok group)) → host.pool ≡ Some pool'
      → Answers h (Some (requests.Sync name)) second old new f g size' host (replies.Committed group)
  answers_sync group y is = answers_synced h pool name second n
      (synced_ok old new f g size size' still h n.s host pool' n.is table sizes (is_spent n.s.number) (has_nobody n.s) group is (y n.s n.represents))

  -- one that was refused
  pub answers_unless : (refusal : Refusal) → ((s : PoolState) → Represents pool s → SyncsIf (is_spent s.number) (has_nobody s) size s old new f g pool' (Err refusal))
      → host.pool ≡ left_by refusal (Some pool') → Answers h (Some (requests.Sync name)) second old new f g size' host (replies.Refused refusal)
  answers_unless refusal y is = answers_synced h pool name second n
      (synced_refused old new f g size size' still h n.s host pool' n.is table sizes (is_spent n.s.number) (has_nobody n.s) refusal is (y n.s n.represents))
