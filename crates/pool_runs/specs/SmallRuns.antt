-- A small run: a pool is made on one device, a block is written, read and synced.
use Rattle.std.specs.Prelude.{ℕ, zero, suc, ◌==◌, true, false, cond, List, [], ◌∷◌, ◌++◌, map, replicate, Option, Some, None}
use Rattle.bank_core.specs.Asks.{Ask, Writes}
use Rattle.bank_core.specs.Disk.{Write, Flush, Noted, Nothing, sector_size, after_crash}
use Rattle.label_store.specs.declared.member.Member.{Member}
use Rattle.label_store.specs.declared.rule.Head.{Head}
use Rattle.label_store.specs.Plans.{stamp_plan}
use Rattle.label_store.specs.Rounds.{Commit, first_plan, second_plan, third_plan}
use Rattle.mp_base.specs.Block.{zeros}
use Rattle.mp_base.specs.declared.number.Guid.{Guid}
use Rattle.txg_history.specs.Branches.{Branch, cell_on, branch_cells}
use Rattle.txg_history.specs.Pages.{Sum, Codec, sum_of}
use Rattle.txg_history.specs.Records.{key}
use Rattle.txg_history.specs.Turns.{write_plan, flush_plan}
use Rattle.pool_moves.specs.AwayRows.{Taken}
use Rattle.pool_moves.specs.Drafts.{kept_leaf, draft_of}
use Rattle.pool_moves.specs.FreezeRow.{up_devs}
use Rattle.pool_moves.specs.LineRows.{TurnReply, Write as WriteTurn, Flush as FlushTurn, Committed, Ended, moves_in}
use Rattle.pool_moves.specs.Moves.{Draft, Move, Puts, Freeze, Wrote_key, Flushed_all, Copies, Copied, Commits, steps}
use Rattle.pool_moves.specs.ReadRow.{Gives}
use Rattle.pool_moves.specs.StampRow.{new_room, new_top_number, children_under, next_from, new_leaf_seen, Stamp, new_state, Created}
use Rattle.pool_moves.specs.States.{PoolState}
use Rattle.pool_moves.specs.TurnRows.{round_moves}
use Rattle.pool_moves.specs.Walking.{as_moves}
use Rattle.pool_runs.specs.Acts.{Act, Birth, Gives_for, Marks, Hears, Names, Bears, does, history}
use Rattle.pool_runs.specs.Creating.{tops_of, leaves_of, new_birth, stamp_acts, pool_number, host_stamped, commit_acts}
use Rattle.pool_runs.specs.Devices.{Device, name_in, size_in}
use Rattle.pool_runs.specs.Hosts.{Host, host_by}
use Rattle.pool_runs.specs.HostRows.{acts_in}
use Rattle.pool_runs.specs.Lines.{Asks_write, Asks_read, Asks_sync, Asks_create, To_write, To_read, To_sync, To_create, Entry}
use Rattle.pool_runs.specs.Pasts.{Past, Born, pool_of, then_all, in_size, next_past}

-- One device, of 320 sectors, and a host that begins with it: no pool is open, and nothing was ever written.
abbrev pub small_device : List ℕ
small_device = 97 ∷ []

abbrev pub small_table : List Device
small_table = record { name = small_device; number = Some 0; sectors = 320 } ∷ []

abbrev pub small_host : Host
small_host = record { table = small_table; pools = []; owner = λ d. None; second = 0; disk = λ d s. record { stable = zeros sector_size; pending = Nothing; damaged = false } }

-- The pool that it makes: a volume of one block on the device. Its number is by its name and the second 1.
abbrev pub small_name : List ℕ
small_name = 112 ∷ []

abbrev pub small_pool : Guid
small_pool = pool_number small_name 1

abbrev pub small_tops : List (List (List ℕ))
small_tops = (small_device ∷ []) ∷ []

abbrev pub small_birth : Birth
small_birth = new_birth small_name small_pool 1 small_table small_tops

abbrev pub small_state : PoolState
small_state = new_state (size_in small_table) small_name small_pool 1 (tops_of small_table small_tops)

abbrev pub small_member : Member
small_member = record { dev = 0; guid = record { 0 = 2 } }

-- The block that is written, and the pages above it: each begins with its level.
abbrev pub small_bytes : (block : List ℕ) → (level : ℕ) → List ℕ
small_bytes block zero = block
small_bytes block (suc level) = suc level ∷ replicate 4095 0

abbrev pub small_branch : (block : List ℕ) → Branch
small_branch block = record { birth = 2; top = 1; bytes = small_bytes block }

-- A configuration is its record's number alone, and a page is told by its first byte.
abbrev pub small_root : (block : List ℕ) → (config : List ℕ) → Option Sum
small_root block [] = None
small_root block (n ∷ config) = cond (n == 2) (sum_of (Some (cell_on (small_branch block) 3))) None

abbrev pub small_pointer : (block page : List ℕ) → (j : ℕ) → Option Sum
small_pointer block (suc level ∷ page) j = cond (j == 0) (sum_of (Some (cell_on (small_branch block) level))) None
small_pointer block page j = None

abbrev pub small_head : (number : ℕ) → Head
small_head number = record { pool = small_pool; name = small_name; number = record { 0 = number } }

abbrev pub small_head_of : (config : List ℕ) → Option Head
small_head_of (n ∷ []) = Some (small_head n)
small_head_of config = None

abbrev pub small_codec : (block : List ℕ) → Codec
small_codec block = record {
  head_of = small_head_of;
  blocks = λ config. 1;
  room = λ config. new_room (size_in small_table) (leaves_of small_table small_tops);
  top_number = λ config. new_top_number (tops_of small_table small_tops);
  next_member = λ config. next_from 1 (tops_of small_table small_tops);
  children = λ config. children_under (leaves_of small_table small_tops);
  spares = λ config. [];
  root = small_root block;
  leaves = λ config. map kept_leaf (map new_leaf_seen (leaves_of small_table small_tops));
  is_page = λ page. true;
  pointer = small_pointer block;
}

-- each of these asks is made, and answers Ok
abbrev pub answered : Ask → Noted
answered (Writes dev at bytes) = record { call = Write dev at bytes None; damage = λ d s. false }
answered ask = record { call = Flush 0 None; damage = λ d s. false }

abbrev pub all_answered : List Ask → List Noted
all_answered asks = map answered asks

-- The record of this number.
abbrev pub small_commit : (number : ℕ) → Commit
small_commit number = record { pool = small_pool; number = record { 0 = number }; blob = number ∷ replicate 4095 0; length = 1 }

-- A round in which each call answers Ok, and its third phase.
abbrev pub small_thirds : (draft : Draft) → List Move
small_thirds draft = Copies draft 0 ∷ (as_moves (all_answered (third_plan (size_in small_table) draft.commit small_member)) ++ (Copied draft 0 ∷ []))

abbrev pub small_round : (draft : Draft) → List Move
small_round draft = round_moves draft (all_answered (first_plan (size_in small_table) draft.commit small_member))
    (all_answered (second_plan (size_in small_table) draft.commit small_member)) (small_thirds draft) ++ (Commits draft ∷ [])

-- Its creation.
abbrev pub small_first : List Move
small_first = Freeze (λ k. None) (up_devs small_state.core.leaves) ∷ (Flushed_all ∷ [])

abbrev pub small_draft : (number : ℕ) → PoolState → Draft
small_draft number s = draft_of (small_commit number) s.core.leaves

abbrev pub small_founding : List Move
small_founding = small_first ++ small_round (small_draft 1 (steps small_first small_state))

abbrev pub small_made : PoolState
small_made = steps small_founding small_state

-- The write, and the sync: a freeze, a write turn for each key, a flush turn and a round.
abbrev pub small_written : (block : List ℕ) → PoolState
small_written block = steps (Puts 0 block ∷ []) small_made

abbrev pub small_freeze : (block : List ℕ) → List Move
small_freeze block = Freeze (branch_cells (small_branch block)) (up_devs small_made.core.leaves) ∷ []

abbrev pub small_turn : (block : List ℕ) → (level : ℕ) → List Move
small_turn block level = as_moves (all_answered (write_plan (cell_on (small_branch block) level) small_member)) ++ (Wrote_key (key level 0) ∷ [])

abbrev pub small_flush : List Move
small_flush = as_moves (all_answered (flush_plan small_member)) ++ (Flushed_all ∷ [])

abbrev pub small_flushed : (block : List ℕ) → List Move
small_flushed block = small_freeze block ++ (small_turn block 0 ++ (small_turn block 1 ++ (small_turn block 2 ++ (small_turn block 3 ++ small_flush))))

abbrev pub small_last : (block : List ℕ) → List Move
small_last block = small_round (small_draft 2 (steps (small_flushed block) (small_written block)))

abbrev pub small_turns : (block : List ℕ) → List (List Move × TurnReply)
small_turns block = (small_turn block 0, WriteTurn) ∷ ((small_turn block 1, WriteTurn) ∷ ((small_turn block 2, WriteTurn) ∷ ((small_turn block 3, WriteTurn)
    ∷ ((small_flush, FlushTurn) ∷ ((small_last block, Committed 2) ∷ [])))))

abbrev pub small_sync : (block : List ℕ) → List Move
small_sync block = small_freeze block ++ moves_in (small_turns block)

-- Its lines.
abbrev pub small_stamp : Stamp
small_stamp = record { dev = 0; made = all_answered (stamp_plan 0 320 small_pool small_member.guid) }

abbrev pub small_create : Entry
small_create = record {
  asked = Asks_create small_name 1 small_tops;
  second = 1;
  acts = Names small_pool.0 ∷ (stamp_acts small_pool.0 (small_stamp ∷ []) ++ (Bears small_birth ∷ does small_pool.0 small_founding));
  reply = To_create Created;
}

abbrev pub small_later : (block : List ℕ) → List Entry
small_later block = record { asked = Asks_write small_name 0 block; second = 2; acts = does small_pool.0 (Puts 0 block ∷ []); reply = To_write Taken }
    ∷ (record { asked = Asks_read small_name 0; second = 3; acts = Marks small_pool.0 (Gives_for 0 (Gives block)) ∷ []; reply = To_read (Gives block) }
    ∷ (record { asked = Asks_sync small_name; second = 4; acts = does small_pool.0 (small_sync block); reply = To_sync (Ended (Committed 2)) } ∷ []))

-- The pool's past where it begins, what is left of its creation and what follows, and its past behind that.
abbrev pub small_born : Past
small_born = Born small_birth (host_stamped (host_by (Hears 1) small_host) small_pool.0 (small_stamp ∷ [])).disk

abbrev pub small_rest : (block : List ℕ) → List Act
small_rest block = commit_acts Created small_pool.0 small_founding ++ acts_in (small_later block)

abbrev pub small_past : (block : List ℕ) → Past
small_past block = then_all small_born (history (small_rest block) (pool_of small_born))

-- The machine stops, and a run begins with what was stable on the device.
abbrev pub small_images : (block : List ℕ) → ℕ → ℕ → List ℕ
small_images block d s = ((pool_of (small_past block)).sectors d s).stable

abbrev pub small_next : (block : List ℕ) → Host
small_next block = record small_host { disk = after_crash (pool_of (small_past block)).sectors (small_images block) }

-- The pool's past as that run finds it; the other number is no member's.
abbrev pub small_again : (block : List ℕ) → (other : ℕ) → Past
small_again block other = next_past (small_past block) (in_size (small_past block) (λ d. d) other (small_next block)) (name_in small_table)
    (small_images block) (small_next block)
