-- Openings, against the abstract machine.
use Rattle.std.proofs.lemmas.Bool.{le-leb, lt-leb}
use Rattle.std.proofs.Common.{◌≡◌, ℕ, zero, suc, ◌+◌, ◌*◌, Bool, true, false, List, [], ◌++◌, length, ◌<◌, ◌≤◌, arith, Option, Some, None, is_some, Result, Ok, Err, refl, sym, ◌∙◌, ap, subst, inl, inr, ◌⊎◌, append-nil}
use Rattle.mp_base.specs.declared.number.Group.{Group}
use Rattle.mp_base.specs.declared.refusal.Refusal.{Refusal}
use Rattle.mp_base.specs.declared.refusal.Refusal.TheVariants as refusals
use Rattle.bank_core.specs.Disk.{Noted}
use Rattle.bank_core.specs.BankView.{BankView}
use Rattle.bank_core.specs.Story.{Story}
use Rattle.bank_core.proofs.Composing.{made_none, made_more}
use Rattle.label_store.specs.declared.found.Found.{Found}
use Rattle.label_store.specs.Newest.{Parts, IsLook, IsBest, AreReads, ReadsOnly}
use Rattle.label_store.proofs.Reading.{are_reads_more, look_reads}
use Rattle.pool_wire.specs.declared.reply.Reply.{Reply}
use Rattle.pool_wire.specs.declared.reply.Reply.TheVariants as replies
use Rattle.pool_wire.specs.declared.request.Request.TheVariants as requests
use Rattle.config_codec.specs.declared.config.Config.{Config}
use Rattle.config_codec.specs.Fields.{Fields, config_fields}
use Rattle.config_codec.specs.Reading.{config_in}
use Rattle.pool_core.specs.declared.pool.Pool.{Pool}
use Rattle.pool_core.specs.Commits.{IsCommit}
use Rattle.pool_core.specs.Done.{Seeks, Identifies, Opens, OpensIf, IsOpened, IsConfigOf}
use Rattle.pool_core.specs.Heads.{head_of}
use Rattle.pool_core.specs.Keeping.{Represents}
use Rattle.pool_core.specs.Logs.{drawn}
use Rattle.pool_core.specs.Opening.{IsIdentified, found_state}
use Rattle.pool_core.specs.State.{PoolState, has_nobody, is_spent, last_number}
use Rattle.pool_core.specs.Syncing.{flush_plan}
use Rattle.pool_core.proofs.Drawing.{drawn_number}
use Rattle.host_machine.specs.Devices.{all_handed}
use Rattle.host_machine.specs.Machine.{HostState, OpensIf as MachineOpens, OpensOn, OpensUnless, OpensBest, commit_outcome, open_seats, open_state, IsAnswered, WantsMemory, Clashes}
use Rattle.host_machine.specs.Records.{committed_in}
use Rattle.host_front.specs.declared.host.Host.{Host}
use Rattle.host_front.specs.Importing.{AreRooms, OpensFound, OpensThere}
use Rattle.host_front.specs.Session.{Answers}
use Rattle.host_front.specs.Standing.{Keeps, PoolStands}
use Rattle.host_machine.proofs.Away.{identified_reads}
use Rattle.host_front.proofs.Answering.{answers_by, answers_without, entry_of, same_sizes, sizes_on, keeps_on}
use Rattle.host_front.proofs.Ending.{committed_by, closed_by, keeps_committed, keeps_closed}

-- the numbers are spent, or not
pub spent_is : (n : ℕ) → last_number ≤ n → is_spent n ≡ true
spent_is n le = le-leb last_number n le

pub fresh_is : (n : ℕ) → n < last_number → is_spent n ≡ false
fresh_is n lt = lt-leb last_number n lt

-- devices with room for data sectors have it for the labels, and keep it
pub label_room : (sectors size : ℕ) → 64 ≤ sectors → sectors + 256 ≤ size → 320 ≤ size
label_room sectors size some room = omega arith

-- devices that were found are some of those that were looked at
pub rooms_found : (size size' : ℕ → ℕ) (sectors : ℕ) (seats found : Option ℕ × Option ℕ) → ((d : ℕ) → size' d ≡ size d) → ((d : ℕ) → found.0 ≡ Some d → seats.0 ≡ Some d)
    → ((d : ℕ) → found.1 ≡ Some d → seats.1 ≡ Some d) → AreRooms size sectors seats → AreRooms size' sectors found
rooms_found size size' sectors seats found still first second rooms = record {
  apart = λ d one two. rooms.apart d (first d one) (second d two);
  first_room = λ d one. rw (still d) (rooms.first_room d (first d one));
  second_room = λ d two. rw (still d) (rooms.second_room d (second d two));
}

-- an opening on two devices

none_opened : (s : PoolState) (failed : ℕ) (pool : Pool) → IsOpened s failed (Ok pool) → failed ≡ 0
none_opened s zero pool is = refl
none_opened s (suc n) pool is = absurd is

opened_is : (s : PoolState) (failed : ℕ) (pool : Pool) → IsOpened s failed (Ok pool) → Represents pool s
opened_is s zero pool is = is
opened_is s (suc n) pool is = absurd is

opened_outcome : (h : HostState) (s : PoolState) (failed : ℕ) (pool : Pool) (group : Group) → IsOpened s failed (Ok pool) → group ≡ record { 0 = s.number }
    → (committed_by h s, replies.Committed group) ≡ commit_outcome h s failed
opened_outcome h s zero pool group is same = ap (λ n. (committed_by h s, replies.Committed n)) same
opened_outcome h s (suc n) pool group is same = absurd is

refused_outcome : (h : HostState) (s : PoolState) (failed : ℕ) (refusal : Refusal) → IsOpened s failed (Err refusal)
    → (closed_by h s, replies.Refused refusal) ≡ commit_outcome h s failed
refused_outcome h s zero refusal is = absurd is
refused_outcome h s (suc n) refusal is = ap (λ r. (closed_by h s, replies.Refused r)) is

not_refused : (pool : Pool) (refusal : Refusal) → ◌≡◌ {A = Result Pool Refusal} (Ok pool) (Err refusal) → ⊥
not_refused pool refusal e = cc

same_refusal : (one other : Refusal) → ◌≡◌ {A = Result Pool Refusal} (Err one) (Err other) → one ≡ other
same_refusal one other e = cc

module _ (old new : Option Story) (f g : ℕ → ℕ) (size size' : ℕ → ℕ) (still : (d : ℕ) → size' d ≡ size d) (h : HostState) (bytes : List ℕ) (c : Fields) (found : Option ℕ × Option ℕ) where
  abbrev state : PoolState
  state = found_state c (committed_in h.records bytes c) found.0 found.1

  commit_there : (host : Host) → Keeps size host h → (result : Result Pool Refusal) (o : Opens size state old new f g result)
      → IsCommit h.size (flush_plan state) (drawn state) o.made o.failed
  commit_there host keeps result o = subst (λ at. IsCommit at (flush_plan state) (drawn state) o.made o.failed) (sym (same_sizes h.size size keeps.sizes)) o.commit

  opened_if : (nobody : Bool) → has_nobody state ≡ nobody → (host host' : Host) (pool : Pool) (group : Group) → Keeps size host h → h.table ≡ host'.table.items → host'.pool ≡ Some pool
      → group ≡ record { 0 = c.number.0 + 1 } → OpensIf nobody size state old new f g (Ok pool)
      → OpensThere h bytes c found old new f g size' host' (replies.Committed group)
  opened_if true e host host' pool group keeps table is same o = absurd (not_refused pool _ o.0)
  opened_if false e host host' pool group keeps table is same (inr o) = absurd (not_refused pool _ o.0)
  opened_if false e host host' pool group keeps table is same (inl o) = record {
    made = o.made;
    next = committed_by h (drawn state);
    calls = o.calls;
    keeps = keeps_committed size' h (drawn state) pool table (sizes_on h.size size size' keeps.sizes still) is (opened_is (drawn state) o.failed pool o.is_opened);
    step = inl (rw e (o.failed, commit_there host keeps (Ok pool) o, opened_outcome h (drawn state) o.failed pool group o.is_opened (same ∙ ap (λ n. record { 0 = n }) (sym (drawn_number state)))));
  }

  pub opened_there : (host host' : Host) (pool : Pool) (group : Group) → Keeps size host h → h.table ≡ host'.table.items → host'.pool ≡ Some pool
      → group ≡ record { 0 = c.number.0 + 1 }
      → OpensIf (has_nobody (found_state c (committed_in h.records bytes c) found.0 found.1)) size (found_state c (committed_in h.records bytes c) found.0 found.1) old new f g (Ok pool)
      → OpensThere h bytes c found old new f g size' host' (replies.Committed group)
  opened_there host host' pool group keeps table is same o = opened_if (has_nobody state) refl host host' pool group keeps table is same o

  refused_if : (nobody : Bool) → has_nobody state ≡ nobody → (host : Host) (refusal : Refusal) → Keeps size host h → host.pool ≡ None
      → OpensIf nobody size state old new f g (Err refusal) → OpensThere h bytes c found old new f g size' host (replies.Refused refusal)
  refused_if true e host refusal keeps is o = record {
    made = [];
    next = h;
    calls = o.1;
    keeps = keeps_on size size' still keeps;
    step = inl (rw e (refl, ap (λ r. (h, replies.Refused r)) (same_refusal refusal _ o.0)));
  }
  refused_if false e host refusal keeps is (inr o) = record {
    made = [];
    next = h;
    calls = o.1;
    keeps = keeps_on size size' still keeps;
    step = inr (ap replies.Refused (same_refusal refusal _ o.0), refl, refl);
  }
  refused_if false e host refusal keeps is (inl o) = record {
    made = o.made;
    next = closed_by h (drawn state);
    calls = o.calls;
    keeps = keeps_closed size' h (drawn state) keeps.table (sizes_on h.size size size' keeps.sizes still) is;
    step = inl (rw e (o.failed, commit_there host keeps (Err refusal) o, refused_outcome h (drawn state) o.failed refusal o.is_opened));
  }

  pub refused_there : (host : Host) (refusal : Refusal) → Keeps size host h → host.pool ≡ None
      → OpensIf (has_nobody (found_state c (committed_in h.records bytes c) found.0 found.1)) size (found_state c (committed_in h.records bytes c) found.0 found.1) old new f g (Err refusal)
      → OpensThere h bytes c found old new f g size' host (replies.Refused refusal)
  refused_there host refusal keeps is o = refused_if (has_nobody state) refl host refusal keeps is o

-- an opening by a configuration

pub found_quiet : {host : Host} {told : Option Story} {faults size : ℕ → ℕ} {reply : Reply} (h : HostState) (bytes : List ℕ) (c : Fields) → Keeps size host h
    → OpensUnless (is_spent c.number.0) h bytes c [] h reply → OpensFound h bytes c told told faults faults size host reply
found_quiet {told = told} {faults = faults} h bytes c keeps step = record { made = []; next = h; calls = made_none told faults; keeps = keeps; step = inl step }

pub none_is : (pool : Option Pool) → is_some pool ≡ false → pool ≡ None
none_is None e = refl
none_is (Some pool) e = absurd (cc)

pub some_is : (pool : Option Pool) → is_some pool ≡ true → (p : Pool) × (pool ≡ Some p)
some_is None e = absurd (cc)
some_is (Some pool) e = (pool, refl)

-- another pool is open
pub found_beside : {host : Host} {told : Option Story} {faults size : ℕ → ℕ} (h : HostState) (bytes : List ℕ) (c : Fields) (pool : Pool) → is_spent c.number.0 ≡ false
    → host.pool ≡ Some pool → Keeps size host h → OpensFound h bytes c told told faults faults size host (replies.Refused refusals.NotBuilt)
found_beside h bytes c pool fresh is keeps = found_quiet h bytes c keeps (rw fresh (beside h.pool (subst (λ p. PoolStands p h.pool) is keeps.pool)))
  where
    beside : (state : Option PoolState) → PoolStands (Some pool) state → OpensOn h bytes c state [] h (replies.Refused refusals.NotBuilt)
    beside None stands = absurd stands
    beside (Some s) stands = (refl, refl)

closed_state : (state : Option PoolState) → PoolStands None state → state ≡ None
closed_state None stands = refl
closed_state (Some s) stands = absurd stands

-- the leaves were looked for
pub found_there : {host host' : Host} {old mid new : Option Story} {f g k size'' : ℕ → ℕ} {reply : Reply} (size : ℕ → ℕ) (h : HostState) (bytes : List ℕ) (c : Fields)
    (seats found : Option ℕ × Option ℕ) → is_spent c.number.0 ≡ false → host.pool ≡ None → seats ≡ open_seats h c → Keeps size host h
    → Identifies size c seats old mid f g found → OpensThere h bytes c found mid new g k size'' host' reply → OpensFound h bytes c old new f k size'' host' reply
found_there {host} {host'} {old} {mid} {new} {f} {g} {k} {size''} {reply} size h bytes c seats found fresh is seats_are keeps i o = record {
  made = i.made ++ o.made;
  next = o.next;
  calls = made_more old mid new f g k i.made o.made i.calls o.calls;
  keeps = o.keeps;
  step = go o.step;
}
  where
    none : h.pool ≡ None
    none = closed_state h.pool (subst (λ p. PoolStands p h.pool) is keeps.pool)

    identified : IsIdentified h.size c (open_seats h c) found i.made
    identified = subst (λ at. IsIdentified at c (open_seats h c) found i.made) (sym (same_sizes h.size size keeps.sizes))
        (subst (λ at. IsIdentified size c at found i.made) seats_are i.identified)

    go : MachineOpens (has_nobody (open_state h bytes c found)) h (open_state h bytes c found) o.made o.next reply
        ⊎ ((reply ≡ replies.Refused refusals.Memory) × (o.next ≡ h) × (o.made ≡ []))
        → OpensUnless (is_spent c.number.0) h bytes c (i.made ++ o.made) o.next reply
        ⊎ ((reply ≡ replies.Refused refusals.Memory) × (o.next ≡ h) × AreReads (i.made ++ o.made))
    go (inl done) = inl (rw fresh (subst (λ p. OpensOn h bytes c p (i.made ++ o.made) o.next reply) (sym none) (i.made, o.made, found, refl, identified, done)))
    go (inr memory) = inr (memory.0, memory.1, are_reads_more i.made o.made (identified_reads size c seats found i.made i.identified) (subst AreReads (sym memory.2) tt))

-- the line, by the newest record of the name

no_config : (best : Option Found) → IsConfigOf best None → best ≡ None
no_config None is = refl
no_config (Some found) is = absurd is

some_config : (best : Option Found) (config : Config) → IsConfigOf best (Some config)
    → (found : Found) × (best ≡ Some found) × (config_in found.blob.items ≡ Some (config_fields config))
some_config None config is = absurd is
some_config (Some found) config is = (found, refl, is)

look_on : (size : ℕ → ℕ) (host : Host) (h : HostState) (looks : List Parts) (made : List Noted) → Keeps size host h → IsLook size (all_handed host.table.items) looks made
    → IsLook h.size (all_handed h.table) looks made
look_on size host h looks made keeps l = subst (λ at. IsLook at (all_handed h.table) looks made) (sym (same_sizes h.size size keeps.sizes))
    (subst (λ table. IsLook size (all_handed table) looks made) (sym keeps.table) l)

best_on : (size : ℕ → ℕ) (host : Host) (h : HostState) (looks : List Parts) (name : List ℕ) (best : Option Found) → Keeps size host h
    → IsBest head_of looks name (128 * length (all_handed host.table.items)) best → IsBest head_of looks name (128 * length (all_handed h.table)) best
best_on size host h looks name best keeps b = subst (λ table. IsBest head_of looks name (128 * length (all_handed table)) best) (sym keeps.table) b

-- no record was found
pub answers_no_record : {host : Host} {old new : Option Story} {f g size' : ℕ → ℕ} (size : ℕ → ℕ) (h : HostState) (name : List ℕ) (second : ℕ) → Keeps size host h
    → ((d : ℕ) → size' d ≡ size d) → Seeks size (all_handed host.table.items) name old new f g None
    → Answers h (Some (requests.Import name)) second old new f g size' host (replies.Refused refusals.NoRecord)
answers_no_record {host} {size' = size'} size h name second keeps still k =
    answers_by h h (Some (requests.Import name)) second k.made k.calls (keeps_on size size' still keeps) (inl (record {
      reads = k.made;
      more = [];
      all = sym (append-nil k.made);
      looks = k.looks;
      look = look_on size host h k.looks k.made keeps k.look;
      best = k.best;
      is_best = best_on size host h k.looks name k.best keeps k.is_best;
      opens = subst (λ best. OpensBest h best [] h (replies.Refused refusals.NoRecord)) (sym (no_config k.best k.is_config)) (refl, refl);
    }))

-- there was no memory for the look
pub answers_unlooked : {host : Host} {old new : BankView} {size' : ℕ → ℕ} (size : ℕ → ℕ) (h : HostState) (name : List ℕ) (second : ℕ) → Keeps size host h
    → ((d : ℕ) → size' d ≡ size d) → ReadsOnly old new
    → Answers h (Some (requests.Import name)) second old.told new.told old.faults new.faults size' host (replies.Refused refusals.Memory)
answers_unlooked {size' = size'} size h name second keeps still r =
    answers_without h (Some (requests.Import name)) second r.made r.calls.calls r.reads (keeps_on size size' still keeps)

-- one was found, and its pool opened, or not
pub answers_found : {host host' : Host} {old mid new : Option Story} {f g k size'' : ℕ → ℕ} {reply : Reply} (size : ℕ → ℕ) (h : HostState) (name : List ℕ) (second : ℕ) (config : Config)
    → Keeps size host h → Seeks size (all_handed host.table.items) name old mid f g (Some config)
    → ((bytes : List ℕ) → config_in bytes ≡ Some (config_fields config) → OpensFound h bytes (config_fields config) mid new g k size'' host' reply)
    → Answers h (Some (requests.Import name)) second old new f k size'' host' reply
answers_found {host} {host'} {old} {mid} {new} {f} {g} {k} {size''} {reply = reply} size h name second config keeps s opens =
    let found = some_config s.best config s.is_config in
    let o = opens found.0.blob.items found.2 in
    answers_by h o.next (Some (requests.Import name)) second (s.made ++ o.made) (made_more old mid new f g k s.made o.made s.calls o.calls) o.keeps (steps found o o.step)
  where
    steps : (found : (found : Found) × (s.best ≡ Some found) × (config_in found.blob.items ≡ Some (config_fields config)))
        → (o : OpensFound h found.0.blob.items (config_fields config) mid new g k size'' host' reply)
        → OpensUnless (is_spent config.number.0) h found.0.blob.items (config_fields config) o.made o.next reply
        ⊎ ((reply ≡ replies.Refused refusals.Memory) × (o.next ≡ h) × AreReads o.made)
        → IsAnswered h (Some (requests.Import name)) (entry_of h (Some (requests.Import name)) second (s.made ++ o.made) reply) (s.made ++ o.made) o.next
        ⊎ (WantsMemory h (entry_of h (Some (requests.Import name)) second (s.made ++ o.made) reply) (s.made ++ o.made) o.next
        ⊎ Clashes h (entry_of h (Some (requests.Import name)) second (s.made ++ o.made) reply) (s.made ++ o.made) o.next)
    steps found o (inl done) = inl (record {
      reads = s.made;
      more = o.made;
      all = refl;
      looks = s.looks;
      look = look_on size host h s.looks s.made keeps s.look;
      best = s.best;
      is_best = best_on size host h s.looks name s.best keeps s.is_best;
      opens = subst (λ best. OpensBest h best o.made o.next reply) (sym found.1) (config_fields config, found.2, done);
    })
    steps found o (inr memory) = inr (inl (record {
      reply = memory.0;
      same = memory.1;
      reads = are_reads_more s.made o.made (look_reads size (all_handed host.table.items) s.looks s.made s.look) memory.2;
    }))
