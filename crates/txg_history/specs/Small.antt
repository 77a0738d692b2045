-- A small history whole, of which nothing is assumed: a pool of one leaf that was just made is committed, a block is written to it
-- and committed with the page above it on each level, the machine stops, and an opening finds the record.
use Rattle.std.specs.Prelude.{ℕ, zero, suc, ◌+◌, ◌==◌, true, false, cond, List, [], ◌∷◌, ◌++◌, Option, Some, None}
use Rattle.mp_base.specs.Block.{zeros}
use Rattle.mp_base.specs.declared.number.Guid.{Guid}
use Rattle.bank_core.specs.Disk.{Write, Noted}
use Rattle.bank_core.specs.Memory.{clean_sector, zero_sector}
use Rattle.label_store.specs.declared.member.Member.{Member}
use Rattle.label_store.specs.declared.rule.Head.{Head}
use Rattle.label_store.specs.Layout.{labels_of, even_labels, odd_labels, config_offset, ring_offset, slot_of}
use Rattle.label_store.specs.Rounds.{uberblock_of}
use Rattle.label_store.specs.Uberblock.{uberblock_bytes}
use Rattle.vdev_tree.specs.declared.vdev.State.TheVariants.{Online}
use Rattle.txg_history.specs.Branches.{Branch, cell_on, branch_cells, day_until_round, stopped_day, stop_and_open}
use Rattle.txg_history.specs.Events.{Event, Freezes, Flushed, Begins, Third, Ends, Acks, as_events}
use Rattle.txg_history.specs.Pages.{Codec, Sum, LeafKept, sum_of, kept_top, kept_log}
use Rattle.txg_history.specs.Pools.{Pool, pool_after, stamped}
use Rattle.txg_history.specs.Trees.{Single, Plain}
use Rattle.txg_history.specs.Records.{Rec, Cells, number_of}
use Rattle.txg_history.specs.Branches.{flushes_well}

-- a block that begins with this number and goes on with zeros
abbrev pub numbered : ℕ → List ℕ
numbered n = n ∷ zeros 4095

abbrev pub small_guid : Guid
small_guid = record { 0 = 5 }

abbrev pub small_name : List ℕ
small_name = 112 ∷ []

-- the one leaf, which owes nothing, and its device
abbrev pub small_leaf : LeafKept
small_leaf = record { guid = record { 0 = 7 }; name = 97 ∷ []; mode = Online; marked = false; top = 1; owes = λ g. false }

abbrev pub small_member : Member
small_member = record { dev = 0; guid = record { 0 = 7 } }

-- the block of address 0 and the pages above it: each begins with a number by its level
abbrev pub small_branch : Branch
small_branch = record { birth = 2; top = 1; bytes = λ level. numbered (suc level) }

-- A configuration begins with its record's number, and that of record 2 has the root's pointer. A page begins with a number by its
-- level, and has the pointer of the page or block below it.
abbrev pub small_head : List ℕ → Option Head
small_head [] = None
small_head (n ∷ bytes) = Some (record { pool = small_guid; name = small_name; number = record { 0 = n } })

abbrev pub small_root : List ℕ → Option Sum
small_root [] = None
small_root (n ∷ bytes) = cond (n == 2) (sum_of (Some (cell_on small_branch 3))) None

abbrev pub below_page : (number : ℕ) → Option Sum
below_page zero = None
below_page (suc zero) = None
below_page (suc (suc level)) = sum_of (Some (cell_on small_branch level))

abbrev pub small_pointer : List ℕ → ℕ → Option Sum
small_pointer [] j = None
small_pointer (n ∷ bytes) j = cond (j == 0) (below_page n) None

-- one top of four data sectors
abbrev pub small_room : ℕ → ℕ
small_room top = cond (top == 1) 4 0

abbrev pub small_codec : Codec
small_codec = record {
  head_of = small_head;
  blocks = λ bytes. 1;
  room = λ bytes. small_room;
  top_number = λ bytes top. record { 0 = 6 };
  children = λ bytes top. cond (top == 1) (Plain (Single small_leaf.guid) ∷ []) [];
  spares = λ bytes. [];
  next_member = λ bytes. 8;
  root = small_root;
  leaves = λ bytes. small_leaf ∷ [];
  is_page = λ bytes. true;
  pointer = small_pointer;
}

-- the record of this number with these keys
abbrev pub small_record : (n : ℕ) → Cells → Rec
small_record n cells = record {
  commit = record { pool = small_guid; number = record { 0 = n }; blob = numbered n; length = 1 };
  cells = cells;
  tops = kept_top (small_leaf ∷ []);
  owes = kept_log (small_leaf ∷ []);
}

-- the pool as it is made, on one device of zeros
abbrev pub small_pool : Pool
small_pool = stamped small_name small_guid (λ d. 0 == d) (λ d. small_leaf.guid) (λ d. 320) small_room (λ d. 1) (λ d s. clean_sector zero_sector)

-- calls that answer Ok, with no damage: these bytes go into each of these labels, and are flushed
abbrev pub labels_well : (d : ℕ) → (labels : List ℕ) → (offset : ℕ) → List ℕ → List Noted
labels_well d [] offset bytes = flushes_well d ∷ []
labels_well d (at ∷ labels) offset bytes = record { call = Write d (at + offset) bytes None; damage = λ e s. false } ∷ labels_well d labels offset bytes

-- a round over one leaf in which no call fails
abbrev pub round_well : (size : ℕ) → Rec → Member → List Event
round_well size q m = Begins q ∷ (as_events (labels_well m.dev (even_labels size) config_offset q.commit.blob)
    ++ (as_events (labels_well m.dev (labels_of size) (ring_offset + slot_of (number_of q)) (uberblock_bytes (uberblock_of q.commit m)))
    ++ ((Third q m.dev ∷ (as_events (labels_well m.dev (odd_labels size) config_offset q.commit.blob) ++ (Ends q m.dev ∷ []))) ++ (Acks q ∷ []))))

-- its first commit, and the pool behind it
abbrev pub small_create : List Event
small_create = Freezes (λ k. None) (λ d. 0 == d) ∷ Flushed ∷ round_well 320 (small_record 1 (λ k. None)) small_member

abbrev pub small_made : Pool
small_made = pool_after small_create small_pool

-- its second record, and the round of it
abbrev pub small_second : Rec
small_second = small_record 2 (branch_cells small_branch)

abbrev pub small_round : List Event
small_round = round_well 320 small_second small_member

-- all events, and the pool at the stop
abbrev pub small_history : List Event
small_history = small_create ++ (day_until_round 0 small_branch
    ++ (small_round ++ stop_and_open small_second (λ d. 320) (pool_after small_round (pool_after (day_until_round 0 small_branch) small_made))))

abbrev pub small_stopped : Pool
small_stopped = stopped_day 0 small_branch small_round (λ d. 320) small_made
