-- A sync follows each pool.
use Rattle.std.proofs.Common.{◌≡◌, ◌⊎◌, ℕ, ◌+◌, zero, suc, Bool, true, false, List, [], ◌∷◌, Option, Some, None, refl, sym, ap, ◌∙◌, subst, inl, inr, ⊎_elim}
use Rattle.std.specs.List.{flat_map}
use Rattle.mp_base.specs.Block.{zero_block}
use Rattle.mp_base.specs.declared.refusal.Refusal.TheVariants as refusals
use Rattle.bank_core.specs.Asks.{IsPart}
use Rattle.bank_core.specs.Disk.{Noted, run}
use Rattle.pool_wire.specs.declared.reply.Reply.{Reply}
use Rattle.pool_history.specs.Moves.{AreSparing}
use Rattle.pool_history.specs.Needs.{Held}
use Rattle.mp_base.specs.declared.number.Guid.{Guid}
use Rattle.label_store.specs.declared.member.Member.{Member}
use Rattle.host_machine.specs.declared.device.HostDevice.{HostDevice}
use Rattle.pool_history.specs.Pools.{Pool, pool_after}
use Rattle.pool_history.specs.Records.{Cell, IsIn, block_of, data_start}
use Rattle.pool_history.specs.Survival.{Survives}
use Rattle.pool_core.proofs.Drawing.{drawn_relogs, drawn_number}
use Rattle.pool_core.specs.Commits.{IsCommit}
use Rattle.pool_core.specs.Heads.{head_of}
use Rattle.pool_core.specs.Reading.{source_of, block_from}
use Rattle.pool_core.specs.Recorded.{addresses}
use Rattle.pool_core.specs.Done.{no_leaf}
use Rattle.pool_core.specs.Logs.{drawn}
use Rattle.pool_core.specs.State.{Content, Known, Summed, Version, PoolState, is_readable, board, has_nobody, other_sector, is_spent, last_number}
use Rattle.pool_core.specs.Syncing.{writes_to, writes_at, flush_plan, sync_plan, next_version, synced}
use Rattle.host_machine.specs.Fitness.{IsFitPool, PoolIsFit, IsFit}
use Rattle.host_machine.specs.Machine.{HostState, named_pool, refused, commit_outcome, SyncsUnless, IsSync}
use Rattle.host_machine.specs.Records.{cell_with, cell_of, is_known_version, owed_by}
use Rattle.host_machine.specs.Tracking.{Cost, Place, IsAt, IsOpenAs, IsElsewhere, StandsIn, Tracks, Follows}
use Rattle.host_machine.proofs.Away.{AreAsksAway, asks_away_more, AreElsewhere}
use Rattle.host_machine.proofs.CommitsAway.{IsOff, board_elsewhere, commit_away, flushes_away}
use Rattle.host_machine.proofs.Boards.{first_board, second_board}
use Rattle.host_machine.proofs.Creating.{quiet_follows}
use Rattle.host_machine.proofs.Committing.{IsReady, up_by, some_device, commit_follows, outcome_table, outcome_size, outcome_records}
use Rattle.host_machine.proofs.Knowing.{cells_back, known_back}
use Rattle.host_machine.proofs.DrawnLogs.{first_drawn, second_drawn, first_current, second_current, first_had, second_had, owed_had}
use Rattle.host_machine.proofs.DrawnStates.{synced_fit}
use Rattle.host_machine.proofs.Following.{kept_last, losing_follow}
use Rattle.host_machine.proofs.RoundMarks.{marks_open_none, marks_looked}
use Rattle.host_machine.proofs.QuietLines.{named_is}
use Rattle.host_machine.proofs.Settling.{same_some, first_owed, second_owed}
use Rattle.host_machine.proofs.Standings.{drawn_stays, tracks_closed}
use Rattle.host_machine.proofs.SyncPlans.{free_at, sync_sparing, reads_held, sync_held}
use Rattle.host_machine.proofs.Whose.{is_this, this_open, not_this, off_first, off_second}

-- The open pool.

-- each block that it reads is known
next_known : (n a : ℕ) (committed : Option Version) (writes : Option (List ℕ)) → is_known_version committed ≡ true → is_known_version (next_version n a committed writes) ≡ true
next_known n a committed None known = known
next_known n a committed (Some block) known = refl

-- what it answers is what is committed next
known_block : (content : Content) (birth sector : ℕ) (block : List ℕ) → content ≡ Known block → block_of (cell_with birth sector content) ≡ block
known_block (Known some) birth sector block e = same_known some block e
  where
    same_known : (x y : List ℕ) → Known x ≡ Known y → x ≡ y
    same_known x y e = cc
known_block (Summed sum) birth sector block e = absurd (no sum block e)
  where
    no : (x y : List ℕ) → Summed x ≡ Known y → ⊥
    no x y e = cc

next_block : (n a : ℕ) (committed : Option Version) (writes : Option (List ℕ)) (block : List ℕ) → block_from (source_of writes committed) ≡ Known block
    → block_of (cell_of (next_version n a committed writes)) ≡ block
next_block n a None None block e = known_block (Known zero_block) 0 0 block e
next_block n a (Some version) None block e = known_block version.content version.birth version.sector block e
next_block n a committed (Some some) block e = known_block (Known some) 0 0 block e

-- a cell behind the sync is one that the pool reads, or a block that was written
next_cell : (n a : ℕ) (committed : Option Version) (writes : Option (List ℕ)) (cell : Cell) → cell_of (next_version n a committed writes) ≡ Some cell
    → (cell_of committed ≡ Some cell) ⊎ ((block : List ℕ) × (writes ≡ Some block) × (record { birth = n; sector = other_sector a committed; block = block } ≡ cell))
next_cell n a committed None cell e = inl e
next_cell n a committed (Some block) cell e = inr (block, refl, same_some _ cell e)

-- a leaf changes in nothing but its log

first_member : (s : PoolState) → (synced s).first.member ≡ s.first.member
first_member s = ap (λ (t : PoolState). t.first.member) (drawn_relogs s).is

second_member : (s : PoolState) → (synced s).second.member ≡ s.second.member
second_member s = ap (λ (t : PoolState). t.second.member) (drawn_relogs s).is

module _ (p : Pool) (h : HostState) (s : PoolState) (tr : Tracks p h) (one : IsAt s.first tr.first) (two : IsAt s.second tr.second) (is : IsOpenAs p s) (fit : IsFitPool h.size s)
    (open_numbers : is_spent s.number ≡ false) (sv : Survives head_of p) where
  sparing : AreSparing p (sync_plan s)
  sparing = sync_sparing h.size p s fit sv is.idle is.committed

  -- a leaf that doesn't owe the new number is on the board
  first_up : (d : ℕ) → d ≡ tr.first.dev → owed_by (synced s) (p.guid d) (s.number + 1) ≡ false → is_readable s.first ≡ true
  first_up d same none =
      up_by ((drawn s).first.owes (s.number + 1)) (is_readable s.first) (first_drawn s fit.first.logged)
      (sym (first_owed (synced s) (s.number + 1)) ∙ ap (λ m. owed_by (synced s) m (s.number + 1)) (first_member s ∙ one.0 ∙ sym tr.first_guid ∙ ap p.guid (sym same)) ∙ none)

  second_up : (d : ℕ) → d ≡ tr.second.dev → owed_by (synced s) (p.guid d) (s.number + 1) ≡ false → is_readable s.second ≡ true
  second_up d same none =
      up_by ((drawn s).second.owes (s.number + 1)) (is_readable s.second) (second_drawn s fit.second.logged)
      (sym (second_owed (synced s) (s.number + 1) (λ e. fit.valid.two_members (ap (λ (g : Guid). g.0) (sym (first_member s)) ∙ e ∙ ap (λ (g : Guid). g.0) (second_member s))))
      ∙ ap (λ m. owed_by (synced s) m (s.number + 1)) (second_member s ∙ two.0 ∙ sym tr.second_guid ∙ ap p.guid (sym same)) ∙ none)

  abbrev NewHeld : List Noted → (d a : ℕ) → List ℕ → Type 0
  NewHeld before d a block = Held (run before p.sectors d (free_at s a)) block

  first_held : (before : List Noted) (d a : ℕ) (block : List ℕ) → IsPart (sync_plan s) before None → s.writes a ≡ Some block → is_readable s.first ≡ true → d ≡ tr.first.dev → NewHeld before d a block
  first_held before d a block part wrote up same =
      let at = some_device s.first.dev (fit.first.seated up) in
      let on = first_board s at.0 up at.1 in
      subst (λ e. NewHeld before e a block) (one.2 at.0 at.1 ∙ sym same) (sync_held h.size s p.sectors before on.0 a (record { dev = at.0; guid = s.first.member }) block fit part wrote on.1)

  second_held : (before : List Noted) (d a : ℕ) (block : List ℕ) → IsPart (sync_plan s) before None → s.writes a ≡ Some block → is_readable s.second ≡ true → d ≡ tr.second.dev → NewHeld before d a block
  second_held before d a block part wrote up same =
      let at = some_device s.second.dev (fit.second.seated up) in
      let on = second_board s at.0 up at.1 in
      subst (λ e. NewHeld before e a block) (two.2 at.0 at.1 ∙ sym same) (sync_held h.size s p.sectors before on.0 a (record { dev = at.0; guid = s.second.member }) block fit part wrote on.1)

  new_held : (before : List Noted) (d a : ℕ) (block : List ℕ) → IsPart (sync_plan s) before None → p.member d ≡ true → s.writes a ≡ Some block
      → owed_by (synced s) (p.guid d) (s.number + 1) ≡ false → NewHeld before d a block
  new_held before d a block part member wrote none = ⊎_elim
      (λ same. first_held before d a block part wrote (first_up d same none) same) (λ same. second_held before d a block part wrote (second_up d same none) same) (tr.members d member)

  -- what a member has behind the draw, it has in the record that the pool reads
  had_before : (d g : ℕ) → p.member d ≡ true → owed_by (synced s) (p.guid d) g ≡ false → p.reads.owes (p.guid d) g ≡ false
  had_before d g member none =
      is.grown d g member (owed_had s (synced s) (p.guid d) g (first_member s) (second_member s) (first_had s g fit.first.logged) (second_had s g fit.second.logged) none)

  all_held : (before : List Noted) → IsPart (sync_plan s) before None → (d a : ℕ) (cell : Cell) → p.member d ≡ true → cell_of ((synced s).committed a) ≡ Some cell
      → owed_by (synced s) (p.guid d) cell.birth ≡ false → Held (run before p.sectors d (data_start + cell.sector)) cell.block
  all_held before part d a cell member e none = ⊎_elim
      (λ old. reads_held p (sync_plan s) before d a cell sv sparing part member (sym (ap cell_of (is.committed a) ∙ cells_back (p.reads.cells a)) ∙ old) (had_before d cell.birth member none))
      (λ new. subst (λ (c : Cell). Held (run before p.sectors d (data_start + c.sector)) c.block) new.2
      (new_held before d a new.0 part member new.1 (ap (λ (c : Cell). owed_by (synced s) (p.guid d) c.birth) new.2 ∙ none)))
      (next_cell (s.number + 1) a (s.committed a) (s.writes a) cell e)

  sync_ready : IsReady p h (sync_plan s) (synced s)
  sync_ready = record {
    tracks = tracks_closed p h tr;
    first = subst (λ (t : PoolState). IsAt t.first tr.first) (sym (drawn_relogs s).is) one;
    second = subst (λ (t : PoolState). IsAt t.second tr.second) (sym (drawn_relogs s).is) two;
    name = ap (λ (t : PoolState). t.name) (drawn_relogs s).is ∙ is.name;
    pool = ap (λ (t : PoolState). t.pool) (drawn_relogs s).is ∙ is.pool;
    number = drawn_number s ∙ ap (λ n. n + 1) is.number;
    fit = synced_fit h.size s fit open_numbers;
    known = λ a. next_known (s.number + 1) a (s.committed a) (s.writes a) (ap is_known_version (is.committed a) ∙ known_back (p.reads.cells a));
    no_writes = λ a. refl;
    blocks = λ a. next_block (s.number + 1) a (s.committed a) (s.writes a) (p.written a) (is.written a);
    first_owes = first_current s fit.first.logged;
    second_owes = second_current s fit.second.logged;
    sparing = sparing;
    held = all_held;
  }

-- A pool that is open as another one, on other devices.

-- What a sync of it asks.

writes_away : (member : ℕ → Bool) (ms : List Member) (at : ℕ) (block : Option (List ℕ)) → AreElsewhere member ms → AreAsksAway member (writes_to ms at block)
writes_away member ms at None away = tt
writes_away member [] at (Some block) away = tt
writes_away member (m ∷ ms) at (Some block) away = (away.0, writes_away member ms at (Some block) away.1)

all_away : (member : ℕ → Bool) (s : PoolState) (list : List ℕ) → AreElsewhere member (board s) → AreAsksAway member (flat_map (writes_at s) list)
all_away member s [] away = tt
all_away member s (a ∷ list) away =
    asks_away_more member (writes_at s a) (flat_map (writes_at s) list) (writes_away member (board s) (free_at s a) (s.writes a) away) (all_away member s list away)

sync_away : (member : ℕ → Bool) (s : PoolState) → IsOff member s.first → IsOff member s.second → AreAsksAway member (sync_plan s)
sync_away member s one two =
    asks_away_more member (flat_map (writes_at s) (addresses s.blocks)) (flush_plan s) (all_away member s (addresses s.blocks) (board_elsewhere member s one two)) (flushes_away member s)

-- It is another one still.
synced_elsewhere : (p : Pool) (table : List HostDevice) (s : PoolState) → IsElsewhere p table s → IsElsewhere p table (synced s)
synced_elsewhere p table s other =
    subst (λ (t : PoolState). IsElsewhere p table (record t { committed = λ a. next_version (s.number + 1) a (s.committed a) (s.writes a); writes = λ a. None })) (sym (drawn_relogs s).is)
    (record { seated = other.seated; first = other.first; second = other.second; alone_first = other.alone_first; alone_second = other.alone_second })

elsewhere_stands : (p : Pool) (h : HostState) (t : PoolState) (first second : Place) (failed : ℕ) → IsElsewhere p h.table t
    → StandsIn p first second (commit_outcome h t failed).0.table (commit_outcome h t failed).0.pool
elsewhere_stands p h t first second zero other = inr other
elsewhere_stands p h t first second (suc n) other = tt

-- The line.

synced_follows : (T : Cost → Type 0) (p : Pool) (h : HostState) (s : PoolState) (made : List Noted) (failed : ℕ) (this : Bool) → is_this p s ≡ this → h.pool ≡ Some s → IsFitPool h.size s
    → is_spent s.number ≡ false → IsCommit h.size (sync_plan s) (synced s) made failed → Follows p h T made (commit_outcome h (synced s) failed).0
synced_follows T p h s made failed true this is fit open_numbers c =
    let follows = commit_follows p h (sync_plan s) (synced s) made failed c in
    record {
      vs = follows.vs;
      calls = follows.calls;
      one_run = follows.one_run;
      devices = (outcome_table h (synced s) failed, outcome_size h (synced s) failed);
      looked = marks_looked h [] follows.vs follows.marks;
      asked = inl (marks_open_none follows.vs follows.marks);
      keeps = λ d is. inl (ap (λ f. f d) follows.member ∙ is);
      safe = λ tr twins sv good.
          let opened = this_open p tr.first tr.second h.table s this (subst (StandsIn p tr.first tr.second h.table) is tr.stands) in
          follows.safe (sync_ready p h s tr opened.0 opened.1 opened.2 fit open_numbers sv) sv;
      last = λ tr twins sv good. kept_last T p (pool_after follows.vs p) follows.member;
    }
synced_follows T p h s made failed false off is fit open_numbers c =
    losing_follow T p h [] made (commit_outcome h (synced s) failed).0 (λ d is at. absurd at)
    (commit_away p.member h.size (sync_plan s) (synced s) made failed
    (subst (λ (t : PoolState). IsOff p.member t.first) (sym (drawn_relogs s).is) (off_first p s off)) (subst (λ (t : PoolState). IsOff p.member t.second) (sym (drawn_relogs s).is) (off_second p s off))
    (sync_away p.member s (off_first p s off) (off_second p s off)) c)
    (outcome_table h (synced s) failed) (outcome_size h (synced s) failed) (λ r i. subst (IsIn r) (sym (outcome_records h (synced s) failed)) (drawn_stays (synced s) h.records r i))
    (λ tr. elsewhere_stands p h (synced s) tr.first tr.second failed
    (synced_elsewhere p h.table s (not_this p h s tr off (subst (StandsIn p tr.first tr.second h.table) is tr.stands)))) (λ tr. kept_last T p p refl)

sync_by : (T : Cost → Type 0) (p : Pool) (h next : HostState) (s : PoolState) (spent nobody : Bool) (made : List Noted) (reply : Reply) → IsFit h → h.pool ≡ Some s → is_spent s.number ≡ spent
    → SyncsUnless spent nobody h s made next reply → Follows p h T made next
sync_by T p h next s true nobody made reply fit is spent quiet = quiet_follows T p h made next reply (refused h (refusals.TreeFull last_number (s.number + 1))).1 quiet
sync_by T p h next s false true made reply fit is spent quiet = quiet_follows T p h made next reply (refused h (no_leaf s)).1 quiet
sync_by T p h next s false false made reply fit is spent (failed, c, e) =
    subst (Follows p h T made) (sym (ap (λ x. x.0) e))
    (synced_follows T p h s made failed (is_this p s) refl is (subst (PoolIsFit h.size) is fit.pool) spent c)

sync_named : (T : Cost → Type 0) (p : Pool) (h next : HostState) (pool : Option PoolState) (made : List Noted) (reply : Reply) → IsFit h → ((s : PoolState) → pool ≡ Some s → h.pool ≡ Some s)
    → IsSync h pool made next reply → Follows p h T made next
sync_named T p h next None made reply fit named quiet = quiet_follows T p h made next reply (refused h refusals.NoPool).1 quiet
sync_named T p h next (Some s) made reply fit named syncs = sync_by T p h next s (is_spent s.number) (has_nobody s) made reply fit (named s refl) refl syncs

pub sync_follows : (T : Cost → Type 0) (p : Pool) (h next : HostState) (name : List ℕ) (made : List Noted) (reply : Reply) → IsFit h → IsSync h (named_pool name h.pool) made next reply → Follows p h T made next
sync_follows T p h next name made reply fit syncs = sync_named T p h next (named_pool name h.pool) made reply fit (λ s e. named_is name h.pool s e) syncs
