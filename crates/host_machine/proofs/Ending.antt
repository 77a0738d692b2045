-- How a sync, a create and an opening end, by the counts of failed calls.
use Rattle.std.proofs.Common.{◌≡◌, ◌⊎◌, ℕ, zero, suc, ◌+◌, ◌<◌, ◌≤◌, Bool, true, false, List, [], ◌++◌, Option, Some, None, refl, sym, ap, ◌∙◌, subst, arith, inl, inr}
use Rattle.mp_base.specs.declared.number.Group.{Group}
use Rattle.mp_base.specs.declared.number.Guid.{Guid}
use Rattle.mp_base.specs.declared.refusal.Refusal.TheVariants as refusals
use Rattle.bank_core.specs.Calls.{AllCaused}
use Rattle.bank_core.specs.Disk.{Noted}
use Rattle.label_store.specs.declared.found.Found.{Found}
use Rattle.bank_core.proofs.Composing.{caused_counts, caused_split}
use Rattle.config_codec.specs.Fields.{Fields}
use Rattle.pool_wire.specs.declared.reply.Reply.{Reply}
use Rattle.pool_wire.specs.declared.reply.Reply.TheVariants as replies
use Rattle.pool_wire.specs.declared.request.Request.{Request}
use Rattle.pool_wire.specs.declared.request.Request.TheVariants as requests
use Rattle.pool_core.specs.Commits.{IsCommit}
use Rattle.pool_core.specs.Done.{no_leaf}
use Rattle.pool_core.specs.Logs.{drawn}
use Rattle.pool_core.specs.State.{LeafState, PoolState, has_nobody, is_spent, last_number}
use Rattle.pool_core.specs.Syncing.{flush_plan, sync_plan, synced}
use Rattle.pool_core.proofs.Drawing.{drawn_number, drawn_relogs}
use Rattle.host_machine.specs.Answering.{HasNoMemory, SomeRose, LeafRose, NoneMoved, NoneRose, IsSuspended, IsBlamed, SuspendsByCounts, CommitsByCounts, CreatesByCounts}
use Rattle.host_machine.specs.Machine.{HostState, Entry, Step, IsAnswered, WantsMemory, Clashes, IsSync, SyncsUnless, commit_outcome, named_pool, CreatesUnless, CreatesOn, create_outcome, new_state, new_seats, is_bad_size, IsImport, OpensBest, OpensUnless, OpensOn, OpensIf, open_state}
use Rattle.host_machine.proofs.Away.{not_both}
use Rattle.host_machine.proofs.Rising.{earlier, AllFine, fine_still, commit_fine, sync_rose, opening_rose, MadeEnds, made_ends}

still_less : (a b : ℕ) → b ≡ a → a < b → ⊥
still_less a b e l = omega arith

-- the replies differ
committed_suspended : (group g : Group) (top : Guid) (faults : ℕ) (reply : Reply) → reply ≡ replies.Committed group → reply ≡ replies.Refused (refusals.Suspended g top faults) → ⊥
committed_suspended group g top faults reply e f = cc

memory_suspended : (g : Group) (top : Guid) (faults : ℕ) (reply : Reply) → reply ≡ replies.Refused refusals.Memory → reply ≡ replies.Refused (refusals.Suspended g top faults) → ⊥
memory_suspended g top faults reply e f = cc

memory_committed : (group : Group) (reply : Reply) → reply ≡ replies.Refused refusals.Memory → reply ≡ replies.Committed group → ⊥
memory_committed group reply e f = cc

fault_committed : (name : List ℕ) (group : Group) (reply : Reply) → reply ≡ replies.DeviceFault name → reply ≡ replies.Committed group → ⊥
fault_committed name group reply e f = cc

memory_fault : (name : List ℕ) (reply : Reply) → reply ≡ replies.Refused refusals.Memory → reply ≡ replies.DeviceFault name → ⊥
memory_fault name reply e f = cc

-- a read is another line, so that no clash ends these
read_sync : (read : List ℕ) (a : ℕ) (name : List ℕ) (asked : Option Request) → asked ≡ Some (requests.Read read a) → asked ≡ Some (requests.Sync name) → ⊥
read_sync read a name asked e f = cc

read_create : (read : List ℕ) (a : ℕ) (name : List ℕ) (blocks : ℕ) (first second : List ℕ) (asked : Option Request) → asked ≡ Some (requests.Read read a)
    → asked ≡ Some (requests.Create name blocks first second) → ⊥
read_create read a name blocks first second asked e f = cc

read_import : (read : List ℕ) (a : ℕ) (name : List ℕ) (asked : Option Request) → asked ≡ Some (requests.Read read a) → asked ≡ Some (requests.Import name) → ⊥
read_import read a name asked e f = cc

-- All ends of a sync of a pool with numbers left.
data SyncEnds (s : PoolState) (f g : ℕ → ℕ) (reply : Reply) : Type 0 where
  Commits : has_nobody s ≡ false → reply ≡ replies.Committed (record { 0 = s.number + 1 }) → NoneMoved f g → SyncEnds s f g reply
  Suspends : has_nobody s ≡ false → IsSuspended s reply → LeafRose s f g → SyncEnds s f g reply
  HasNone : has_nobody s ≡ true → reply ≡ replies.Refused (no_leaf s) → NoneMoved f g → SyncEnds s f g reply
  WantsRoom : HasNoMemory reply → SyncEnds s f g reply

synced_top : (s : PoolState) → ((synced s).number ≡ s.number + 1) × ((synced s).mirror ≡ s.mirror)
synced_top s = (drawn_number s, ap (λ (t : PoolState). t.mirror) (drawn_relogs s).is)

commit_ends : (h : HostState) (s : PoolState) (entry : Entry) (made : List Noted) (next : HostState) (failed : ℕ) (f g : ℕ → ℕ) → has_nobody s ≡ false
    → IsCommit h.size (sync_plan s) (synced s) made failed → ((next, entry.reply) ≡ commit_outcome h (synced s) failed) → AllCaused made f g → SyncEnds s f g entry.reply
commit_ends h s entry made next zero f g some commit e c =
    Commits some (ap (λ (x : HostState × Reply). x.1) e ∙ ap (λ n. replies.Committed (record { 0 = n })) (synced_top s).0)
    (fine_still made f g (commit_fine h.size (sync_plan s) (synced s) made commit) c)
commit_ends h s entry made next (suc n) f g some commit e c = Suspends some (suc n, one_more n, reply) (sync_rose h.size s made n f g commit c)
  where
    one_more : (n : ℕ) → 1 ≤ suc n
    one_more n = omega arith

    reply : entry.reply ≡ replies.Refused (refusals.Suspended (record { 0 = s.number + 1 }) s.mirror (suc n))
    reply = ap (λ (x : HostState × Reply). x.1) e ∙ ap (λ k. replies.Refused (refusals.Suspended (record { 0 = k }) (synced s).mirror (suc n))) (synced_top s).0
        ∙ ap (λ top. replies.Refused (refusals.Suspended (record { 0 = s.number + 1 }) top (suc n))) (synced_top s).1

unless_commits : (h : HostState) (s : PoolState) (entry : Entry) (made : List Noted) (next : HostState) (nobody : Bool) (f g : ℕ → ℕ) → has_nobody s ≡ nobody
    → SyncsUnless false nobody h s made next entry.reply → AllCaused made f g → SyncEnds s f g entry.reply
unless_commits h s entry made next true f g is line c =
    HasNone is (ap (λ (x : HostState × Reply). x.1) line.1) (fine_still made f g (subst AllFine (sym line.0) tt) c)
unless_commits h s entry made next false f g is line c = commit_ends h s entry made next line.0 f g is line.1 line.2 c

sync_ends : (h : HostState) (entry : Entry) (made : List Noted) (next : HostState) (name : List ℕ) (s : PoolState) (f g : ℕ → ℕ) → Step h entry made next
    → entry.asked ≡ Some (requests.Sync name) → named_pool name h.pool ≡ Some s → is_spent s.number ≡ false → AllCaused made f g → SyncEnds s f g entry.reply
sync_ends h entry made next name s f g step asked named spent c = by step.step
  where
    by : IsAnswered h entry.asked entry made next ⊎ (WantsMemory h entry made next ⊎ Clashes h entry made next) → SyncEnds s f g entry.reply
    by (inl is) =
        let line : IsSync h (named_pool name h.pool) made next entry.reply = subst (λ q. IsAnswered h q entry made next) asked is in
        let own : SyncsUnless (is_spent s.number) (has_nobody s) h s made next entry.reply = subst (λ pool. IsSync h pool made next entry.reply) named line in
        unless_commits h s entry made next (has_nobody s) f g refl (subst (λ t. SyncsUnless t (has_nobody s) h s made next entry.reply) spent own) c
    by (inr (inl memory)) = WantsRoom memory.reply
    by (inr (inr clashes)) = absurd (read_sync clashes.name clashes.a name entry.asked clashes.asked asked)

-- a suspension without a leaf has no fault
same_faults : (group g : Group) (top t : Guid) (n m : ℕ) (reply : Reply) → reply ≡ replies.Refused (refusals.Suspended g t m) → reply ≡ replies.Refused (refusals.Suspended group top n) → n ≡ m
same_faults group g top t n m reply e f = cc

pub sync_suspends : (h : HostState) (entry : Entry) (made : List Noted) (next : HostState) (name : List ℕ) (s : PoolState) (f g : ℕ → ℕ) → Step h entry made next
    → entry.asked ≡ Some (requests.Sync name) → named_pool name h.pool ≡ Some s → is_spent s.number ≡ false → AllCaused made f g → SuspendsByCounts s f g entry.reply
sync_suspends h entry made next name s f g step asked named spent c =
    record { cause = λ group top faults is. cause group top faults is ends; suspended = λ d less. suspended d less ends; nobody = λ none. nobody none ends }
  where
    ends : SyncEnds s f g entry.reply
    ends = sync_ends h entry made next name s f g step asked named spent c

    cause : (group : Group) (top : Guid) (faults : ℕ) → entry.reply ≡ replies.Refused (refusals.Suspended group top faults) → SyncEnds s f g entry.reply
        → ((has_nobody s ≡ true) × (faults ≡ 0)) ⊎ LeafRose s f g
    cause group top faults is (Commits some e none) = absurd (committed_suspended (record { 0 = s.number + 1 }) group top faults entry.reply e is)
    cause group top faults is (Suspends some e rose) = inr rose
    cause group top faults is (HasNone none e still) = inl (none, same_faults group (record { 0 = s.number + 1 }) top s.mirror faults 0 entry.reply e is)
    cause group top faults is (WantsRoom memory) = absurd (memory_suspended group top faults entry.reply memory is)

    suspended : (d : ℕ) → f d < g d → SyncEnds s f g entry.reply → IsSuspended s entry.reply ⊎ HasNoMemory entry.reply
    suspended d less (Commits some e none) = absurd (still_less (f d) (g d) (none d) less)
    suspended d less (Suspends some e rose) = inl e
    suspended d less (HasNone none e still) = absurd (still_less (f d) (g d) (still d) less)
    suspended d less (WantsRoom memory) = inr memory

    nobody : has_nobody s ≡ true → SyncEnds s f g entry.reply → (entry.reply ≡ replies.Refused (no_leaf s)) ⊎ HasNoMemory entry.reply
    nobody is (Commits some e none) = absurd (not_both (has_nobody s) some is)
    nobody is (Suspends some e rose) = absurd (not_both (has_nobody s) some is)
    nobody is (HasNone none e still) = inl e
    nobody is (WantsRoom memory) = inr memory

none_of : (s : PoolState) (f g : ℕ → ℕ) → NoneRose f g → LeafRose s f g → ⊥
none_of s f g none (i, m, at, rose) = none m.dev rose

pub sync_commits : (h : HostState) (entry : Entry) (made : List Noted) (next : HostState) (name : List ℕ) (s : PoolState) (f g : ℕ → ℕ) → Step h entry made next
    → entry.asked ≡ Some (requests.Sync name) → named_pool name h.pool ≡ Some s → is_spent s.number ≡ false → AllCaused made f g → CommitsByCounts s f g entry.reply
sync_commits h entry made next name s f g step asked named spent c = record { calm = λ group is. calm group is ends; committed = λ some none. committed some none ends }
  where
    ends : SyncEnds s f g entry.reply
    ends = sync_ends h entry made next name s f g step asked named spent c

    calm : (group : Group) → entry.reply ≡ replies.Committed group → SyncEnds s f g entry.reply → NoneMoved f g
    calm group is (Commits some e none) = none
    calm group is (Suspends some (faults, many, e) rose) = absurd (committed_suspended group (record { 0 = s.number + 1 }) s.mirror faults entry.reply is e)
    calm group is (HasNone none e still) = still
    calm group is (WantsRoom memory) = absurd (memory_committed group entry.reply memory is)

    committed : has_nobody s ≡ false → NoneRose f g → SyncEnds s f g entry.reply → (entry.reply ≡ replies.Committed (record { 0 = s.number + 1 })) ⊎ HasNoMemory entry.reply
    committed is none (Commits some e still) = inl e
    committed is none (Suspends some e rose) = absurd (none_of s f g none rose)
    committed is none (HasNone empty e still) = absurd (not_both (has_nobody s) is empty)
    committed is none (WantsRoom memory) = inr memory

-- all ends of a create on two devices
abbrev CreateEnds : (first second : List ℕ) → (seats : ℕ × ℕ) → (before after : ℕ → ℕ) → Reply → Type 0
CreateEnds first second seats f g reply = ((reply ≡ replies.Committed (record { 0 = 1 })) × NoneMoved f g)
    ⊎ (IsBlamed first seats.0 f g reply ⊎ (IsBlamed second seats.1 f g reply ⊎ HasNoMemory reply))

outcome_ends : (h : HostState) (name : List ℕ) (blocks : ℕ) (first second : List ℕ) (seats : ℕ × ℕ) (entry : Entry) (made : List Noted) (next : HostState) (failed : Option LeafState) (f g : ℕ → ℕ)
    → MadeEnds (new_state h entry.second name blocks first second seats) seats made failed f g
    → ((next, entry.reply) ≡ create_outcome h (new_state h entry.second name blocks first second seats) failed) → AllCaused made f g → CreateEnds first second seats f g entry.reply
outcome_ends h name blocks first second seats entry made next failed f g (inl (none, fine)) e c =
    inl (ap (λ (x : HostState × Reply). x.1) (e ∙ ap (create_outcome h (new_state h entry.second name blocks first second seats)) none), fine_still made f g fine c)
outcome_ends h name blocks first second seats entry made next failed f g (inr (inl (is, rose))) e c =
    inr (inl (ap (λ (x : HostState × Reply). x.1) (e ∙ ap (create_outcome h (new_state h entry.second name blocks first second seats)) is), rose))
outcome_ends h name blocks first second seats entry made next failed f g (inr (inr (is, rose))) e c =
    inr (inr (inl (ap (λ (x : HostState × Reply). x.1) (e ∙ ap (create_outcome h (new_state h entry.second name blocks first second seats)) is), rose)))

create_ends : (h : HostState) (entry : Entry) (made : List Noted) (next : HostState) (name : List ℕ) (blocks : ℕ) (first second : List ℕ) (seats : ℕ × ℕ) (f g : ℕ → ℕ)
    → Step h entry made next → entry.asked ≡ Some (requests.Create name blocks first second) → is_bad_size blocks ≡ false → new_seats h blocks first second ≡ Some seats
    → AllCaused made f g → CreateEnds first second seats f g entry.reply
create_ends h entry made next name blocks first second seats f g step asked good are c = by step.step
  where
    by : IsAnswered h entry.asked entry made next ⊎ (WantsMemory h entry made next ⊎ Clashes h entry made next) → CreateEnds first second seats f g entry.reply
    by (inl is) =
        let line : CreatesUnless (is_bad_size blocks) h entry.second name blocks first second made next entry.reply = subst (λ q. IsAnswered h q entry made next) asked is in
        let own : CreatesOn h entry.second name blocks first second (new_seats h blocks first second) made next entry.reply =
        subst (λ t. CreatesUnless t h entry.second name blocks first second made next entry.reply) good line in
        let creates : CreatesOn h entry.second name blocks first second (Some seats) made next entry.reply =
        subst (λ s. CreatesOn h entry.second name blocks first second s made next entry.reply) are own in
        outcome_ends h name blocks first second seats entry made next creates.0 f g
        (made_ends h.size (new_state h entry.second name blocks first second seats) seats made creates.0 f g refl creates.1 c) creates.2 c
    by (inr (inl memory)) = inr (inr (inr memory.reply))
    by (inr (inr clashes)) = absurd (read_create clashes.name clashes.a name blocks first second entry.asked clashes.asked asked)

pub create_counts : (h : HostState) (entry : Entry) (made : List Noted) (next : HostState) (name : List ℕ) (blocks : ℕ) (first second : List ℕ) (seats : ℕ × ℕ) (f g : ℕ → ℕ)
    → Step h entry made next → entry.asked ≡ Some (requests.Create name blocks first second) → is_bad_size blocks ≡ false → new_seats h blocks first second ≡ Some seats
    → AllCaused made f g → CreatesByCounts first second seats f g entry.reply
create_counts h entry made next name blocks first second seats f g step asked good are c = record {
  calm = λ group is. calm group is ends;
  committed = λ none. committed none ends;
  cause = λ device is. cause device is ends;
  blamed = λ d less. blamed d less ends;
}
  where
    ends : CreateEnds first second seats f g entry.reply
    ends = create_ends h entry made next name blocks first second seats f g step asked good are c

    calm : (group : Group) → entry.reply ≡ replies.Committed group → CreateEnds first second seats f g entry.reply → NoneMoved f g
    calm group is (inl (e, none)) = none
    calm group is (inr (inl (e, rose))) = absurd (fault_committed first group entry.reply e is)
    calm group is (inr (inr (inl (e, rose)))) = absurd (fault_committed second group entry.reply e is)
    calm group is (inr (inr (inr memory))) = absurd (memory_committed group entry.reply memory is)

    committed : NoneRose f g → CreateEnds first second seats f g entry.reply → (entry.reply ≡ replies.Committed (record { 0 = 1 })) ⊎ HasNoMemory entry.reply
    committed none (inl (e, still)) = inl e
    committed none (inr (inl (e, rose))) = absurd (none seats.0 rose)
    committed none (inr (inr (inl (e, rose)))) = absurd (none seats.1 rose)
    committed none (inr (inr (inr memory))) = inr memory

    cause : (device : List ℕ) → entry.reply ≡ replies.DeviceFault device → CreateEnds first second seats f g entry.reply
        → IsBlamed first seats.0 f g entry.reply ⊎ IsBlamed second seats.1 f g entry.reply
    cause device is (inl (e, none)) = absurd (fault_committed device (record { 0 = 1 }) entry.reply is e)
    cause device is (inr (inl one)) = inl one
    cause device is (inr (inr (inl other))) = inr other
    cause device is (inr (inr (inr memory))) = absurd (memory_fault device entry.reply memory is)

    blamed : (d : ℕ) → f d < g d → CreateEnds first second seats f g entry.reply
        → IsBlamed first seats.0 f g entry.reply ⊎ (IsBlamed second seats.1 f g entry.reply ⊎ HasNoMemory entry.reply)
    blamed d less (inl (e, none)) = absurd (still_less (f d) (g d) (none d) less)
    blamed d less (inr rest) = rest

-- How an opening ends, by the record that was found and the calls behind the reads of the labels.
data OpenEnds (h : HostState) (best : Option Found) (more : List Noted) (reply : Reply) : Type 0 where
  NoneFound : best ≡ None → more ≡ [] → reply ≡ replies.Refused refusals.NoRecord → OpenEnds h best more reply
  Refuses : reply ≡ replies.Refused refusals.NotBuilt → OpenEnds h best more reply
  IsFull : (limit count : ℕ) → reply ≡ replies.Refused (refusals.TreeFull limit count) → OpenEnds h best more reply
  NoLeaf : (s : PoolState) → reply ≡ replies.Refused (no_leaf s) → OpenEnds h best more reply
  Opens : (group : Group) → reply ≡ replies.Committed group → OpenEnds h best more reply
  Suspends : (s : PoolState) (ids round : List Noted) (n : ℕ) → more ≡ ids ++ round → IsCommit h.size (flush_plan s) (drawn s) round (suc n)
      → (group : Group) (top : Guid) (faults : ℕ) → reply ≡ replies.Refused (refusals.Suspended group top faults) → OpenEnds h best more reply

drawn_ends : (h : HostState) (best : Option Found) (s : PoolState) (more ids round : List Noted) (next : HostState) (reply : Reply) (failed : ℕ) → more ≡ ids ++ round
    → IsCommit h.size (flush_plan s) (drawn s) round failed → ((next, reply) ≡ commit_outcome h (drawn s) failed) → OpenEnds h best more reply
drawn_ends h best s more ids round next reply zero all commit e = Opens (record { 0 = (drawn s).number }) (ap (λ (x : HostState × Reply). x.1) e)
drawn_ends h best s more ids round next reply (suc n) all commit e =
    Suspends s ids round n all commit (record { 0 = (drawn s).number }) (drawn s).mirror (suc n) (ap (λ (x : HostState × Reply). x.1) e)

if_ends : (h : HostState) (best : Option Found) (s : PoolState) (more ids round : List Noted) (next : HostState) (reply : Reply) (nobody : Bool) → more ≡ ids ++ round
    → OpensIf nobody h s round next reply → OpenEnds h best more reply
if_ends h best s more ids round next reply true all opens = NoLeaf s (ap (λ (x : HostState × Reply). x.1) opens.1)
if_ends h best s more ids round next reply false all opens = drawn_ends h best s more ids round next reply opens.0 all opens.1 opens.2

on_ends : (h : HostState) (best : Option Found) (config : List ℕ) (fields : Fields) (pool : Option PoolState) (more : List Noted) (next : HostState) (reply : Reply)
    → OpensOn h config fields pool more next reply → OpenEnds h best more reply
on_ends h best config fields (Some other) more next reply opens = Refuses (ap (λ (x : HostState × Reply). x.1) opens.1)
on_ends h best config fields None more next reply opens =
    let s = open_state h config fields opens.2 in if_ends h best s more opens.0 opens.1 next reply (has_nobody s) opens.3 opens.5

unless_ends : (h : HostState) (best : Option Found) (config : List ℕ) (fields : Fields) (spent : Bool) (more : List Noted) (next : HostState) (reply : Reply)
    → OpensUnless spent h config fields more next reply → OpenEnds h best more reply
unless_ends h best config fields true more next reply opens = IsFull last_number (fields.number.0 + 1) (ap (λ (x : HostState × Reply). x.1) opens.1)
unless_ends h best config fields false more next reply opens = on_ends h best config fields h.pool more next reply opens

best_ends : (h : HostState) (best : Option Found) (more : List Noted) (next : HostState) (reply : Reply) → OpensBest h best more next reply → OpenEnds h best more reply
best_ends h None more next reply opens = NoneFound refl opens.0 (ap (λ (x : HostState × Reply). x.1) opens.1)
best_ends h (Some found) more next reply opens =
    unless_ends h (Some found) found.blob.items opens.0 (is_spent opens.0.number.0) more next reply opens.2

-- a step of an import: the opening, or its free end
import_line : (h : HostState) (entry : Entry) (made : List Noted) (next : HostState) (name : List ℕ) → Step h entry made next → entry.asked ≡ Some (requests.Import name)
    → IsImport h name made next entry.reply ⊎ HasNoMemory entry.reply
import_line h entry made next name step asked = by step.step
  where
    by : IsAnswered h entry.asked entry made next ⊎ (WantsMemory h entry made next ⊎ Clashes h entry made next) → IsImport h name made next entry.reply ⊎ HasNoMemory entry.reply
    by (inl is) = inl (subst (λ q. IsAnswered h q entry made next) asked is)
    by (inr (inl memory)) = inr memory.reply
    by (inr (inr clashes)) = absurd (read_import clashes.name clashes.a name entry.asked clashes.asked asked)

norecord_suspended : (g : Group) (top : Guid) (faults : ℕ) (reply : Reply) → reply ≡ replies.Refused refusals.NoRecord → reply ≡ replies.Refused (refusals.Suspended g top faults) → ⊥
norecord_suspended g top faults reply e f = cc

notbuilt_suspended : (g : Group) (top : Guid) (faults : ℕ) (reply : Reply) → reply ≡ replies.Refused refusals.NotBuilt → reply ≡ replies.Refused (refusals.Suspended g top faults) → ⊥
notbuilt_suspended g top faults reply e f = cc

full_suspended : (limit count : ℕ) (g : Group) (top : Guid) (faults : ℕ) (reply : Reply) → reply ≡ replies.Refused (refusals.TreeFull limit count)
    → reply ≡ replies.Refused (refusals.Suspended g top faults) → ⊥
full_suspended limit count g top faults reply e f = cc

leaf_some : (s : PoolState) (f g : ℕ → ℕ) → LeafRose s f g → SomeRose f g
leaf_some s f g (i, m, at, rose) = (m.dev, rose)

before_some : (f g h : ℕ → ℕ) → ((d : ℕ) → f d ≤ g d) → SomeRose g h → SomeRose f h
before_some f g h up (d, rose) = (d, earlier (f d) (g d) (h d) (up d) rose)

pub import_suspends : (h : HostState) (entry : Entry) (made : List Noted) (next : HostState) (name : List ℕ) (f g : ℕ → ℕ) (group : Group) (top : Guid) (faults : ℕ)
    → Step h entry made next → entry.asked ≡ Some (requests.Import name) → entry.reply ≡ replies.Refused (refusals.Suspended group top faults)
    → AllCaused made f g → (faults ≡ 0) ⊎ SomeRose f g
import_suspends h entry made next name f g group top faults step asked is c = by (import_line h entry made next name step asked)
  where
    by_end : (line : IsImport h name made next entry.reply) → OpenEnds h line.best line.more entry.reply → (faults ≡ 0) ⊎ SomeRose f g
    by_end line (NoneFound none no_more e) = absurd (norecord_suspended group top faults entry.reply e is)
    by_end line (Refuses e) = absurd (notbuilt_suspended group top faults entry.reply e is)
    by_end line (IsFull limit count e) = absurd (full_suspended limit count group top faults entry.reply e is)
    by_end line (NoLeaf s e) = inl (same_faults group (record { 0 = s.number + 1 }) top s.mirror faults 0 entry.reply e is)
    by_end line (Opens acked e) = absurd (committed_suspended acked group top faults entry.reply e is)
    by_end line (Suspends s ids round n all commit group' top' faults' e) =
        let one = caused_split line.reads line.more f g (subst (λ calls. AllCaused calls f g) line.all c) in
        let two = caused_split ids round one.0 g (subst (λ calls. AllCaused calls one.0 g) all one.2) in
        inr (before_some f one.0 g (caused_counts line.reads f one.0 one.1)
        (before_some one.0 two.0 g (caused_counts ids one.0 two.0 two.1)
        (leaf_some s two.0 g (opening_rose h.size s round n two.0 g commit two.2))))

    by : IsImport h name made next entry.reply ⊎ HasNoMemory entry.reply → (faults ≡ 0) ⊎ SomeRose f g
    by (inl line) = by_end line (best_ends h line.best line.more next entry.reply line.opens)
    by (inr memory) = absurd (memory_suspended group top faults entry.reply memory is)

suspended_norecord : (g : Group) (top : Guid) (faults : ℕ) (reply : Reply) → reply ≡ replies.Refused (refusals.Suspended g top faults) → reply ≡ replies.Refused refusals.NoRecord → ⊥
suspended_norecord g top faults reply e f = norecord_suspended g top faults reply f e

notbuilt_norecord : (reply : Reply) → reply ≡ replies.Refused refusals.NotBuilt → reply ≡ replies.Refused refusals.NoRecord → ⊥
notbuilt_norecord reply e f = cc

memory_norecord : (reply : Reply) → reply ≡ replies.Refused refusals.Memory → reply ≡ replies.Refused refusals.NoRecord → ⊥
memory_norecord reply e f = cc

full_norecord : (limit count : ℕ) (reply : Reply) → reply ≡ replies.Refused (refusals.TreeFull limit count) → reply ≡ replies.Refused refusals.NoRecord → ⊥
full_norecord limit count reply e f = cc

committed_norecord : (group : Group) (reply : Reply) → reply ≡ replies.Committed group → reply ≡ replies.Refused refusals.NoRecord → ⊥
committed_norecord group reply e f = cc

none_found : (h : HostState) (best : Option Found) (more : List Noted) (reply : Reply) → reply ≡ replies.Refused refusals.NoRecord → OpenEnds h best more reply → (best ≡ None) × (more ≡ [])
none_found h best more reply is (NoneFound none no_more e) = (none, no_more)
none_found h best more reply is (Refuses e) = absurd (notbuilt_norecord reply e is)
none_found h best more reply is (IsFull limit count e) = absurd (full_norecord limit count reply e is)
none_found h best more reply is (NoLeaf s e) = absurd (suspended_norecord (record { 0 = s.number + 1 }) s.mirror 0 reply e is)
none_found h best more reply is (Opens acked e) = absurd (committed_norecord acked reply e is)
none_found h best more reply is (Suspends s ids round n all commit group top faults e) = absurd (suspended_norecord group top faults reply e is)

-- An opening that finds no record read the labels, and there was no best one.
pub import_none : (h : HostState) (entry : Entry) (made : List Noted) (next : HostState) (name : List ℕ) → Step h entry made next → entry.asked ≡ Some (requests.Import name)
    → entry.reply ≡ replies.Refused refusals.NoRecord → (line : IsImport h name made next entry.reply) × (line.best ≡ None) × (line.more ≡ [])
import_none h entry made next name step asked is = by (import_line h entry made next name step asked)
  where
    by : IsImport h name made next entry.reply ⊎ HasNoMemory entry.reply → (line : IsImport h name made next entry.reply) × (line.best ≡ None) × (line.more ≡ [])
    by (inl line) = let found = none_found h line.best line.more entry.reply is (best_ends h line.best line.more next entry.reply line.opens) in (line, found.0, found.1)
    by (inr memory) = absurd (memory_norecord entry.reply memory is)
