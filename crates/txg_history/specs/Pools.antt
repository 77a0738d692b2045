-- A pool and its devices as a history leaves them: a fold over the history's events.
use Rattle.std.specs.Prelude.{ℕ, ◌+◌, ◌-◌, ◌==◌, ◌&&◌, Bool, true, false, cond, List, [], ◌∷◌, ◌++◌, Some, None}
use Rattle.mp_base.specs.declared.number.Guid.{Guid}
use Rattle.bank_core.specs.Disk.{Call, Noted, Read, Write, Flush, Admit, Eject, Sectors, run, covers, sectors_in, sector_of}
use Rattle.label_store.specs.declared.member.Member.{Member}
use Rattle.txg_history.specs.Events.{
  Event,
  Calls,
  Accepts,
  Freezes,
  Wrote,
  Flushed,
  Draws,
  Leaves,
  Grows,
  Burns,
  Begins,
  Third,
  Ends,
  Acks,
  Looks,
  Opens,
  Joins,
  Loses,
  Scans,
  Passes,
  Drops,
  Clears,
  Rests,
  Stops,
}
use Rattle.txg_history.specs.Groups.{Group, frozen_group, thawed, no_group, same_key, at_device, Logs, between, grown, cleared, off, no_log}
use Rattle.txg_history.specs.Labels.{Status, Odd, Even, Lost, begun}
use Rattle.txg_history.specs.Records.{Rec, Cells, number_of, takes_part, block_at, nothing, above, rest_of}
use Rattle.txg_history.specs.Scans.{Scan, up_to, started, at_rest, no_scan, scanned_log}

pub record Pool : Type 0 where
  pub name : List ℕ
  pub pool : Guid
  -- which devices are its members, with their member numbers, and how many sectors each device has
  pub member : ℕ → Bool
  pub guid : ℕ → Guid
  pub size : ℕ → ℕ
  -- how many data sectors each top has, and under which top each member ever stands
  pub room : ℕ → ℕ
  pub home : ℕ → ℕ
  pub sectors : Sectors
  -- what was written to each sector in this run
  pub since : ℕ → ℕ → List (List ℕ)
  -- what was written there by calls that answered Ok since a scan came past its last key
  pub copies : ℕ → ℕ → List (List ℕ)
  -- the last acknowledged record, and all that were acknowledged ever
  pub acked : Rec
  pub acks : List Rec
  -- it, and each record whose round was begun since, the newest first
  pub live : List Rec
  -- records that an acknowledgement gave up
  pub given : List Rec
  -- records above one that some opening read, though they were live then
  pub missed : List Rec
  -- the record that the pool reads, the last one it read where it is closed
  pub reads : Rec
  -- an acknowledgement has come since the last opening and the last stop, so places may be handed out
  pub opened : Bool
  -- a read's answer: the last write accepted since the opening, else the record's block
  pub written : ℕ → List ℕ
  -- the highest number that this run drew or read
  pub highest : ℕ
  pub status : ℕ → Status
  -- the tree of now: each device's top, 0 where it is no leaf; and the logs of now
  pub in_top : ℕ → ℕ
  pub owes : Logs
  -- what each log has held since the last round began, and the groups that are settled
  pub unbroken : Logs
  pub settled : Logs
  pub group : Group
  -- the keys of suspended groups whose rounds were begun: their places stay taken until the next acknowledgement
  pub pinned : List Cells
  pub scan : Scan

-- the records whose rounds were ever begun, and the first one
abbrev pub drawn : Pool → List Rec
drawn p = p.live ++ p.given

abbrev pub seat : Pool → ℕ → Member
seat p d = record { dev = d; guid = p.guid d }

-- what a call writes to a sector, before what was written there
abbrev pub noted_since : Call → (ℕ → ℕ → List (List ℕ)) → ℕ → ℕ → List (List ℕ)
noted_since (Read dev at bytes fault) since d s = since d s
noted_since (Write dev at bytes fault) since d s =
    cond ((dev == d) && covers at (sectors_in bytes) s) (sector_of (s - at) bytes ∷ since d s) (since d s)
noted_since (Flush dev fault) since d s = since d s
noted_since (Admit dev holds) since d s = since d s
noted_since (Eject dev) since d s = since d s

-- what these calls, the oldest first, wrote to each sector, before what was written there
abbrev pub since_after : List Noted → (ℕ → ℕ → List (List ℕ)) → ℕ → ℕ → List (List ℕ)
since_after [] since = since
since_after (noted ∷ made) since = since_after made (noted_since noted.call since)

-- the same of calls that answered Ok
abbrev pub noted_copies : Call → (ℕ → ℕ → List (List ℕ)) → ℕ → ℕ → List (List ℕ)
noted_copies (Read dev at bytes fault) copies d s = copies d s
noted_copies (Write dev at bytes None) copies d s =
    cond ((dev == d) && covers at (sectors_in bytes) s) (sector_of (s - at) bytes ∷ copies d s) (copies d s)
noted_copies (Write dev at bytes (Some fault)) copies d s = copies d s
noted_copies (Flush dev fault) copies d s = copies d s
noted_copies (Admit dev holds) copies d s = copies d s
noted_copies (Eject dev) copies d s = copies d s

abbrev pub copies_after : List Noted → (ℕ → ℕ → List (List ℕ)) → ℕ → ℕ → List (List ℕ)
copies_after [] copies = copies
copies_after (noted ∷ made) copies = copies_after made (noted_copies noted.call copies)

-- a member but where it has this number
abbrev pub other_than : (m : Guid) → (guid : ℕ → Guid) → (member : ℕ → Bool) → ℕ → Bool
other_than m guid member e = cond ((guid e).0 == m.0) false (member e)

-- the log of a leaf that is brought in: each group so far
abbrev pub whole_log : (highest : ℕ) → ℕ → Bool
whole_log highest g = between 1 highest g

-- of what a log held unbroken, what is still in the log
abbrev pub kept_in : (log held : ℕ → Bool) → ℕ → Bool
kept_in log held g = log g && held g

-- A round touches the labels of those members alone that take part in it. One that stayed out of an
-- acknowledged round promises nothing any more, since the record that its labels hold is given up. A device that is
-- brought in takes its member number from each other device.
abbrev pub after : Event → Pool → Pool
after (Calls noted) p = record p {
  sectors = run (noted ∷ []) p.sectors;
  since = noted_since noted.call p.since;
  copies = noted_copies noted.call p.copies;
}
after (Accepts a block) p = record p { written = λ x. cond (a == x) block (p.written x) }
after (Freezes cells board) p = record p {
  highest = p.highest + 1;
  owes = grown (off board) (p.highest + 1) (p.highest + 1) p.owes;
  group = frozen_group (p.highest + 1) cells board p.written;
}
after (Wrote k) p = record p { group = record (p.group) { done = λ j. cond (same_key k j) true (p.group.done j) } }
after Flushed p = record p { group = record (p.group) { flushed = true } }
after Draws p = record p {
  highest = p.highest + 1;
  owes = grown (off p.group.board) (p.highest + 1) (p.highest + 1) p.owes;
  group = record (p.group) { fresh = true };
}
after (Leaves d) p = record p {
  owes = grown (λ e. d == e) p.group.first p.highest p.owes;
  group = record (p.group) { board = at_device d false p.group.board };
}
after (Grows owes) p = record p { owes = owes }
after Burns p = record p {
  owes = cleared p.group.first p.highest p.owes;
  unbroken = cleared p.group.first p.highest p.unbroken;
  settled = cleared p.group.first p.highest p.settled;
  group = thawed p.group;
  pinned = cond p.group.begun (p.group.cells ∷ p.pinned) p.pinned;
}
after (Begins q) p = record p {
  live = q ∷ p.live;
  status = λ d. cond (takes_part q (p.guid d)) (begun (p.status d) q) (p.status d);
  unbroken = p.owes;
  group = record (p.group) { fresh = false; begun = true };
}
after (Third q d) p = record p { status = at_device d (Even q) p.status }
after (Ends q d) p = record p { status = at_device d (Odd q) p.status }
after (Acks q) p = record p {
  acked = q;
  acks = q ∷ p.acks;
  reads = q;
  opened = true;
  live = q ∷ [];
  given = rest_of p.live ++ p.given;
  status = λ d. cond (takes_part q (p.guid d)) (p.status d) Lost;
  in_top = λ d. q.tops (p.guid d);
  settled = p.unbroken;
  group = thawed p.group;
  pinned = [];
}
after (Looks known) p = p
after (Opens r) p = record p {
  reads = r;
  written = block_at r;
  highest = number_of r;
  opened = false;
  missed = above (number_of r) p.live ++ p.missed;
  in_top = λ d. r.tops (p.guid d);
  owes = λ d. r.owes (p.guid d);
  unbroken = no_log;
  settled = no_log;
  group = thawed p.group;
  pinned = [];
  scan = at_rest p.scan;
}
after (Joins d m top) p = record p {
  member = at_device d true (other_than m p.guid p.member);
  guid = at_device d m p.guid;
  home = at_device d top p.home;
  in_top = at_device d top p.in_top;
  owes = at_device d (whole_log p.highest) p.owes;
  unbroken = at_device d (whole_log p.highest) p.unbroken;
  settled = at_device d (whole_log p.highest) p.settled;
  status = at_device d Lost p.status;
  since = at_device d (λ s. []) p.since;
  group = record (p.group) { board = at_device d false p.group.board };
  scan = record (p.scan) { eligible = at_device d false p.scan.eligible };
}
after (Loses d) p = record p { member = at_device d false p.member; status = at_device d Lost p.status }
after (Scans hi eligible) p = record p { scan = started hi eligible; copies = λ d s. [] }
after (Passes k scrub) p = record p {
  scan = record (p.scan) { passed = up_to k; scrub = scrub };
  copies = λ d s. [];
}
after (Drops d) p = record p { scan = record (p.scan) { eligible = at_device d false p.scan.eligible } }
after (Clears d) p = record p {
  owes = at_device d (scanned_log p.scan d (p.owes d)) p.owes;
  unbroken = at_device d (kept_in (scanned_log p.scan d (p.owes d)) (p.unbroken d)) p.unbroken;
  settled = at_device d (kept_in (scanned_log p.scan d (p.owes d)) (p.settled d)) p.settled;
}
after Rests p = record p { scan = at_rest p.scan }
after (Stops sectors size) p = record p {
  sectors = sectors;
  since = λ d s. [];
  opened = false;
  size = λ d. cond (p.member d) (p.size d) (size d);
  group = thawed p.group;
  scan = at_rest p.scan;
}

abbrev pub pool_after : List Event → Pool → Pool
pool_after [] p = p
pool_after (v ∷ vs) p = pool_after vs (after v p)

-- A pool as it is made, behind the stamps of its members: each stands under a top, and no log has a group.
abbrev pub stamped : (name : List ℕ) → (pool : Guid) → (member : ℕ → Bool) → (guid : ℕ → Guid) → (size room home : ℕ → ℕ) → Sectors → Pool
stamped name pool member guid size room home sectors = record {
  name = name;
  pool = pool;
  member = member;
  guid = guid;
  size = size;
  room = room;
  home = home;
  sectors = sectors;
  since = λ d s. [];
  copies = λ d s. [];
  acked = nothing pool;
  acks = nothing pool ∷ [];
  live = nothing pool ∷ [];
  given = [];
  missed = [];
  reads = nothing pool;
  opened = false;
  written = block_at (nothing pool);
  highest = 0;
  status = λ d. Lost;
  in_top = home;
  owes = no_log;
  unbroken = no_log;
  settled = no_log;
  group = no_group;
  pinned = [];
  scan = no_scan;
}
