-- A pool and its devices as a history leaves them: a fold over the history's events.
use Rattle.std.specs.Prelude.{ℕ, ◌-◌, ◌==◌, ◌&&◌, Bool, true, false, cond, List, [], ◌∷◌, ◌++◌}
use Rattle.mp_base.specs.declared.number.Guid.{Guid}
use Rattle.bank_core.specs.Disk.{Call, Read, Write, Flush, Admit, Eject, Sectors, run, covers, sectors_in, sector_of}
use Rattle.label_store.specs.declared.member.Member.{Member}
use Rattle.pool_history.specs.Events.{Event, Calls, Accepts, Looks, Opens, Begins, Third, Ends, Acks, Loses, Stops}
use Rattle.pool_history.specs.Labels.{Status, Odd, Even, Lost, begun}
use Rattle.pool_history.specs.Records.{Rec, number_of, takes_part, block_at, nothing, above, rest_of}

pub record Pool : Type 0 where
  pub name : List ℕ
  pub pool : Guid
  -- which devices are its members, with their member numbers, and how many sectors each device has
  pub member : ℕ → Bool
  pub guid : ℕ → Guid
  pub size : ℕ → ℕ
  pub sectors : Sectors
  -- what was written to each sector in this run
  pub since : ℕ → ℕ → List (List ℕ)
  -- the last acknowledged record
  pub acked : Rec
  -- it, and each record whose round was begun since, the newest first
  pub live : List Rec
  -- records that an acknowledgement gave up
  pub given : List Rec
  -- records above one that some opening read, though they were live then
  pub missed : List Rec
  -- the record that the pool reads, the last one it read where it is closed
  pub reads : Rec
  -- it is open, and neither a round nor an opening is under way
  pub idle : Bool
  -- a read's answer: the last write accepted since the opening, else the record's block
  pub written : ℕ → List ℕ
  -- the highest number that this run drew or read
  pub top : ℕ
  pub status : ℕ → Status

-- the records whose rounds were ever begun, and the first one
abbrev pub drawn : Pool → List Rec
drawn p = p.live ++ p.given

abbrev pub seat : Pool → ℕ → Member
seat p d = record { dev = d; guid = p.guid d }

-- what a call writes to a sector, before what was written there
abbrev pub noted_since : Call → (ℕ → ℕ → List (List ℕ)) → ℕ → ℕ → List (List ℕ)
noted_since (Read dev at bytes fault) since d s = since d s
noted_since (Write dev at bytes fault) since d s =
    cond ((dev == d) && covers at (sectors_in bytes) s) (sector_of (s - at) bytes ∷ since d s) (since d s)
noted_since (Flush dev fault) since d s = since d s
noted_since (Admit dev holds) since d s = since d s
noted_since (Eject dev) since d s = since d s

-- one device's value, the others' as they were
abbrev pub at_device : {A : Type 0} → ℕ → A → (ℕ → A) → ℕ → A
at_device d x f e = cond (d == e) x (f e)

-- A round touches the labels of those members alone that take part in it. One that stayed out of an
-- acknowledged round promises nothing any more, since the record that its labels hold is given up.
abbrev pub after : Event → Pool → Pool
after (Calls noted) p = record p { sectors = run (noted ∷ []) p.sectors; since = noted_since noted.call p.since }
after (Accepts a block) p = record p { written = λ x. cond (a == x) block (p.written x) }
after (Looks known) p = p
after (Opens r) p = record p { reads = r; written = block_at r; top = number_of r; idle = false; missed = above (number_of r) p.live ++ p.missed }
after (Begins q) p = record p { live = q ∷ p.live; top = number_of q; idle = false; status = λ d. cond (takes_part q (p.guid d)) (begun (p.status d) q) (p.status d) }
after (Third q d) p = record p { status = at_device d (Even q) p.status }
after (Ends q d) p = record p { status = at_device d (Odd q) p.status }
after (Acks q) p = record p { acked = q; reads = q; idle = true; live = q ∷ []; given = rest_of p.live ++ p.given; status = λ d. cond (takes_part q (p.guid d)) (p.status d) Lost }
after (Loses d) p = record p { member = at_device d false p.member; status = at_device d Lost p.status }
after (Stops sectors size) p = record p { sectors = sectors; since = λ d s. []; idle = false; size = λ d. cond (p.member d) (p.size d) (size d) }

abbrev pub pool_after : List Event → Pool → Pool
pool_after [] p = p
pool_after (v ∷ vs) p = pool_after vs (after v p)

-- A pool as it is made, behind the stamps of its members.
abbrev pub stamped : (name : List ℕ) → (pool : Guid) → (member : ℕ → Bool) → (guid : ℕ → Guid) → (size : ℕ → ℕ) → Sectors → (ℕ → ℕ → List (List ℕ)) → Pool
stamped name pool member guid size sectors since = record {
  name = name;
  pool = pool;
  member = member;
  guid = guid;
  size = size;
  sectors = sectors;
  since = since;
  acked = nothing pool;
  live = nothing pool ∷ [];
  given = [];
  missed = [];
  reads = nothing pool;
  idle = false;
  written = block_at (nothing pool);
  top = 0;
  status = λ d. Lost;
}
