-- What `read` answers is what its row says, and the state that it leaves is the row's.
use Rattle.std.proofs.Common.{◌≡◌, inl, inr, ℕ, zero, suc, ◌+◌, ◌<◌, ◌≤◌, Bool, List, [], ◌∷◌, ◌++◌, map, Option, Some, None, is_some, Result, Ok, Err, refl, sym, ap, ap₂, ◌∙◌, subst, arith}
use Rattle.std.specs.Prelude.{slice_get}
use Rattle.std.specs.List.{AllByRecursion, AllZip, filter}
use Rattle.std.specs.Option.{option_map}
use Rattle.std.proofs.lemmas.List.{map-append}
use Rattle.std.proofs.lemmas.Option.{none-some, same_Some}
use Rattle.mp_base.specs.Block.{zero_block}
use Rattle.mp_base.specs.declared.place.Pointer.{Pointer}
use Rattle.bank_core.specs.BankView.{BankView}
use Rattle.bank_core.specs.Calls.{Makes}
use Rattle.bank_core.specs.Disk.{Noted}
use Rattle.vdev_tree.specs.declared.top.Top.{Top}
use Rattle.vdev_tree.specs.declared.vdev.LeafVdev.{LeafVdev}
use Rattle.block_map.specs.Map.{pointer_at}
use Rattle.mirror_io.specs.Copies.{tries}
use Rattle.mirror_io.specs.Reads.{IsReads}
use Rattle.mirror_io.specs.Seen.{copy_seen}
use Rattle.txg_history.specs.Pages.{Sum}
use Rattle.txg_history.specs.Records.{Cell, key}
use Rattle.txg_engine.specs.declared.seat.Seat.{Seat}
use Rattle.txg_engine.specs.Frozen.{FrozenGroup}
use Rattle.txg_engine.specs.Writes.{block_at}
use Rattle.pool_codec.specs.Pointers.{told, sum_in}
use Rattle.pool_moves.specs.Leaves.{OwnLeaf, LeafSeen}
use Rattle.pool_moves.specs.Moves.{Move, steps}
use Rattle.pool_moves.specs.ReadRow.{copies_of, stands_under, count_reads, counted_calls, RowCopies, ReadReply, Gives, NoAddress, reply_by, ReadRecord, ReadGroup, ReadOpen, RowRead, made_in}
use Rattle.pool_moves.specs.Showing.{leaf_shown}
use Rattle.pool_moves.specs.States.{Sums, PoolState}
use Rattle.pool_moves.specs.Walking.{as_moves}
use Rattle.open_pool.specs.declared.count.Counted.{Counted}
use Rattle.open_pool.specs.declared.read.ReadFault.{ReadFault}
use Rattle.open_pool.specs.declared.read.ReadFault.TheVariants as fault
use Rattle.open_pool.specs.Answering.{Does}
use Rattle.open_pool.specs.Copies.{copy_on, copies_on}
use Rattle.open_pool.specs.Counting.{counted_by, counts_of}
use Rattle.open_pool.specs.Form.{IsPool, all_leaves}
use Rattle.open_pool.specs.Parts.{TopParts, PoolParts, all_parts}
use Rattle.open_pool.specs.Reading.{seen_as, read_says, answer_of, block_in, first_of, uncommitted, seen_on, ReadsAt}
use Rattle.open_pool.specs.State.{own_of, leaf_of, leaves_from, cells_of, group_of, seats_in, leaves_under, Stands, state_of, seen_of}
use Rattle.open_pool.proofs.CopiesOfTops.{copies_under, under_one}
use Rattle.open_pool.proofs.CopiesOnDevices.{apart_under, pairs_first, pairs_behind}
use Rattle.open_pool.proofs.CountsAsMoves.{numbers_of, IsCounted, sets_are_counts, steps_both, calls_step}
use Rattle.open_pool.proofs.FormCounted.{counted_pools, pools_counted, states_counted}
use Rattle.open_pool.proofs.GroupBlocks.{blocks_of_cells}
use Rattle.open_pool.proofs.KeysFound.{written_sum}
use Rattle.open_pool.proofs.LeavesByTops.{under_all, all_are_under}
use Rattle.open_pool.proofs.LeavesCounted.{counts_all, leaves_shown}
use Rattle.open_pool.proofs.LeavesInForm.{leaves_numbered}
use Rattle.open_pool.proofs.NumbersApart.{Differ, leaf_numbers, leaves_differ}
use Rattle.open_pool.proofs.ReadsCounted.{counted_own}
use Rattle.open_pool.proofs.SeatsOfFreeze.{OnOwnDevices}
use Rattle.open_pool.proofs.StatesStand.{stands_there, by_state}

-- Where nothing is done.
module _ (p : PoolParts) (a : ℕ) (view : BankView) (still : Makes [] view view) where
  -- nothing moves, and this is the reply
  stays : (reply : ReadReply) (answer : Result (List ℕ) ReadFault) → answer ≡ read_says reply
      → ((held : List Sums) → RowRead (state_of held p) a [] reply)
      → (s : PoolState) → Stands p s → Does (RowRead s a) read_says answer s p view view
  stays reply answer says row = by_state (λ s. Does (RowRead s a) read_says answer s p view view) p (λ held pins. record {
    answers = record { moves = []; reply = reply; is = row held; says_so = says; leaves = stands_there held p pins };
    calls = still;
  })

  pub bad_address : (limit : ℕ) → limit ≡ p.map.blocks → limit ≤ a → (s : PoolState) → Stands p s
      → Does (RowRead s a) read_says (Err (fault.BadAddress limit)) s p view view
  bad_address limit is above = stays (NoAddress p.map.blocks) (Err (fault.BadAddress limit)) (ap (λ n. Err (fault.BadAddress n)) is)
      (λ held. inl (subst (λ n. n ≤ a) is above, refl, refl))

  module _ (low : a < p.map.blocks) where
    -- by what the groups have of the address
    abbrev InGroup : (cell : Option Cell) → (held : List Sums) → (block : List ℕ) → Type 0
    InGroup cell held block = ReadGroup cell (sum_in (pointer_at p.map (key 0 a))) (seen_of held p) [] (Gives block)

    by_cell : (cell : Option Cell) (held : List Sums) (block : List ℕ) → option_map (λ (c : Cell). c.block) cell ≡ Some block → InGroup cell held block
    by_cell None held block is = absurd (none-some block is)
    by_cell (Some cell) held block is = (refl, ap Gives (same_Some block cell.block (sym is)))

    by_group : (frozen : Option FrozenGroup) (held : List Sums) (block : List ℕ) → block_in frozen a ≡ Some block
        → InGroup ((group_of frozen).cells (key 0 a)) held block
    by_group None held block is = absurd (none-some block is)
    by_group (Some group) held block is = by_cell (cells_of group.items (key 0 a)) held block (blocks_of_cells group.items a ∙ is)

    by_open : (open_block : Option (List ℕ)) (held : List Sums) (block : List ℕ) → first_of open_block (block_in p.frozen a) ≡ Some block
        → ReadOpen open_block ((group_of p.frozen).cells (key 0 a)) (sum_in (pointer_at p.map (key 0 a))) (seen_of held p) [] (Gives block)
    by_open (Some here) held block is = (refl, ap Gives (same_Some block here (sym is)))
    by_open None held block is = by_group p.frozen held block is

    pub in_memory : (block : List ℕ) → uncommitted p a ≡ Some block → (s : PoolState) → Stands p s
        → Does (RowRead s a) read_says (Ok block) s p view view
    in_memory block is = stays (Gives block) (Ok block) refl (λ held. inr (low, by_open (block_at p.unfrozen.writes a) held block is))

-- Where neither group has the address, the row is the record's.
no_open : (o f : Option (List ℕ)) → first_of o f ≡ None → (o ≡ None) × (f ≡ None)
no_open None f none = (refl, none)
no_open (Some block) f none = absurd (none-some block (sym none))

no_cell : (cell : Option Cell) → option_map (λ (c : Cell). c.block) cell ≡ None → cell ≡ None
no_cell None none = refl
no_cell (Some cell) none = absurd (none-some cell.block (sym none))

no_group : (frozen : Option FrozenGroup) (a : ℕ) → block_in frozen a ≡ None → (group_of frozen).cells (key 0 a) ≡ None
no_group None a none = refl
no_group (Some group) a none = no_cell (cells_of group.items (key 0 a)) (blocks_of_cells group.items a ∙ none)

record_row : (p : PoolParts) (a : ℕ) (held : List Sums) (vs : List Move) (reply : ReadReply) → a < p.map.blocks → uncommitted p a ≡ None
    → ReadRecord (sum_in (pointer_at p.map (key 0 a))) (seen_of held p) vs reply → RowRead (state_of held p) a vs reply
record_row p a held vs reply low none row =
    let both = no_open (block_at p.unfrozen.writes a) (block_in p.frozen a) none in
    inr (
      low,
      subst (λ o. ReadOpen o ((group_of p.frozen).cells (key 0 a)) (sum_in (pointer_at p.map (key 0 a))) (seen_of held p) vs reply) (sym both.0)
          (subst (λ o. ReadGroup o (sum_in (pointer_at p.map (key 0 a))) (seen_of held p) vs reply) (sym (no_group p.frozen a both.1)) row),
    )

pub of_hole : (p : PoolParts) (a : ℕ) (view : BankView) → Makes [] view view → a < p.map.blocks → uncommitted p a ≡ None
    → sum_in (pointer_at p.map (key 0 a)) ≡ None → (s : PoolState) → Stands p s → Does (RowRead s a) read_says (Ok zero_block) s p view view
of_hole p a view still low none hole =
    stays p a view still (Gives zero_block) (Ok zero_block) refl
    (λ held. record_row p a held [] (Gives zero_block) low none
    (subst (λ sum. ReadRecord sum (seen_of held p) [] (Gives zero_block)) (sym hole) (refl, refl)))

-- The numbers of the state's leaves are those of the pool's, and those under one top have devices of their own.
numbers_under : (seats : List Seat) (top : ℕ) (under : List LeafVdev) → numbers_of (map (leaf_of seats top) under) ≡ leaf_numbers under
numbers_under seats top [] = refl
numbers_under seats top (leaf ∷ under) = ap (λ ns. leaf.guid.0 ∷ ns) (numbers_under seats top under)

pub numbers_seen : (seats : List Seat) (top : ℕ) (tops : List (List LeafVdev)) → numbers_of (leaves_from seats top tops) ≡ leaf_numbers (under_all tops)
numbers_seen seats top [] = refl
numbers_seen seats top (under ∷ tops) =
    map-append (λ (leaf : LeafSeen). leaf.guid.0) (map (leaf_of seats top) under) (leaves_from seats (suc top) tops)
    ∙ ap₂ (λ (a b : List ℕ). a ++ b) (numbers_under seats top under) (numbers_seen seats (suc top) tops)
    ∙ sym (map-append (λ (leaf : LeafVdev). leaf.guid.0) under (under_all tops))

devices_under : (tops : List (List LeafVdev)) (i : ℕ) (under : List LeafVdev) → slice_get tops i ≡ Some under → OnOwnDevices (under_all tops) → OnOwnDevices under
devices_under [] i under at own = absurd (none-some under at)
devices_under (here ∷ tops) zero under at own = subst OnOwnDevices (same_Some here under at) (pairs_first here (under_all tops) own)
devices_under (here ∷ tops) (suc i) under at own = devices_under tops i under at (pairs_behind here (under_all tops) own)

-- what is set on each leaf is what is counted there
each_set : (seats : List Seat) (top birth : ℕ) (sum : List ℕ) (made : List Noted) (served : Bool) (under : List LeafVdev)
    → AllByRecursion (λ leaf. (own : OwnLeaf) → counted_calls sum leaf.dev made own
    ≡ counted_own (counted_by served leaf.guid (copy_on birth leaf) (copy_seen sum made (copy_on birth leaf))) own) under
    → AllZip (IsCounted (λ leaf. counted_calls sum leaf.dev made leaf.own)) (map (leaf_of seats top) under)
    (counts_of served under (copies_on birth under) (seen_on sum made birth under))
each_set seats top birth sum made served [] all = tt
each_set seats top birth sum made served (leaf ∷ under) all =
    (record { number = refl; is = all.0 (own_of seats leaf) }, each_set seats top birth sum made served under all.1)

module _ (trees : List Top) (p : PoolParts) (parts : p.tops ≡ all_parts trees) (pool : IsPool p) (a : ℕ) (low : a < p.map.blocks)
    (none : uncommitted p a ≡ None) (pointer : Pointer) (pointer_is : pointer ≡ pointer_at p.map (key 0 a)) (stored : 1 ≤ pointer.birth.0)
    (new : List TopParts) (group : Option FrozenGroup) (answer : Result (List ℕ) ReadFault) (from to : BankView)
    (r : ReadsAt pointer p.tops new p.frozen group answer from to) where
  abbrev made : List Noted
  made = r.reads ++ r.rewrites

  abbrev sum : Sum
  sum = told pointer

  there : sum_in (pointer_at p.map (key 0 a)) ≡ Some sum
  there = ap sum_in (sym pointer_is) ∙ written_sum pointer stored

  abbrev seen : List LeafSeen
  seen = leaves_from (seats_in p.frozen) 1 (leaves_under p.tops)

  top_is : sum.top ≡ suc pointer.place.top
  top_is = omega arith

  -- the copies as the row has them
  copies : copies_on pointer.birth.0 r.under ≡ copies_of sum seen
  copies = copies_under (seats_in p.frozen) (leaves_under p.tops) r.under pointer.place.top pointer.birth.0 sum r.there top_is refl

  own_here : OnOwnDevices r.under
  own_here = devices_under (leaves_under p.tops) pointer.place.top r.under r.there (subst OnOwnDevices (all_are_under p.tops) pool.leaves.apart)

  abbrev counts : List Counted
  counts = counts_of (is_some r.outcome) r.under (copies_on pointer.birth.0 r.under) (seen_on pointer.sum made pointer.birth.0 r.under)

  set_all : AllZip (IsCounted (λ leaf. counted_calls pointer.sum leaf.dev made leaf.own)) (filter (stands_under sum.top) seen) counts
  set_all = subst (λ xs. AllZip (IsCounted (λ leaf. counted_calls pointer.sum leaf.dev made leaf.own)) xs counts)
      (sym (under_one (seats_in p.frozen) 1 pointer.place.top sum.top (leaves_under p.tops) r.under (omega (arith, top_is)) r.there))
      (each_set (seats_in p.frozen) sum.top pointer.birth.0 pointer.sum made (is_some r.outcome) r.under
      (counts_all (128 + pointer.place.sector) pointer.sum pointer.birth.0 r.under r.reads r.rewrites r.wrong r.outcome own_here
      (apart_under pointer.birth.0 r.under own_here) r.is_read r.is_healed))

  differ : Differ (numbers_of seen)
  differ = subst Differ (sym (numbers_seen (seats_in p.frozen) 1 (leaves_under p.tops)))
      (subst (λ ls. Differ (leaf_numbers ls)) (all_are_under p.tops) (leaves_differ (all_leaves p) (leaves_numbered trees p parts pool.recordable)))

  abbrev moves : List Move
  moves = as_moves made ++ count_reads sum.sum made (filter (stands_under sum.top) seen)

  abbrev pub counted : PoolParts
  counted = record p { tops = new; frozen = group }

  counted_is : counted_pools counts p ≡ counted
  counted_is = ap₂ (λ ts g. record p { tops = ts; frozen = g }) (sym r.tops) (sym r.group)

  moved : (held : List Sums) → steps moves (state_of held p) ≡ state_of held counted
  moved held =
      steps_both (as_moves made) (count_reads sum.sum made (filter (stands_under sum.top) seen)) (state_of held p)
      ∙ ap (steps (count_reads sum.sum made (filter (stands_under sum.top) seen))) (calls_step made (state_of held p))
      ∙ sets_are_counts (λ leaf. counted_calls pointer.sum leaf.dev made leaf.own) (stands_under sum.top) counts (state_of held p) differ set_all
      ∙ sym (states_counted held counts p) ∙ ap (state_of held) counted_is

  abbrev row_copies : (held : List Sums) → RowCopies (seen_of held p) sum moves r.outcome
  row_copies held = record {
    reads = r.reads;
    rewrites = r.rewrites;
    wrong = r.wrong;
    is_read = subst (λ cs. IsReads (128 + pointer.place.sector) pointer.sum (tries cs) r.reads r.wrong r.outcome) copies r.is_read;
    is_healed = r.is_healed;
    moves = refl;
  }

  says_by : (o : Option (List ℕ)) → r.outcome ≡ o
      → answer_of o (seen_on pointer.sum made pointer.birth.0 r.under) ≡ read_says (reply_by (map (leaf_shown r.reads) (copies_of sum seen)) o)
  says_by (Some block) is = refl
  says_by None is =
      ap (λ shown. Err (fault.Exhausted shown))
      (leaves_shown (128 + pointer.place.sector) pointer.sum pointer.birth.0 r.under r.reads r.rewrites r.wrong r.outcome own_here
      (apart_under pointer.birth.0 r.under own_here) r.is_read r.is_healed is
      ∙ ap (λ cs. map seen_as (map (leaf_shown r.reads) cs)) copies)

  calls_in : (made : List Noted) (vs : List Move) → made_in vs ≡ [] → made_in (as_moves made ++ vs) ≡ made
  calls_in [] vs none = none
  calls_in (noted ∷ made) vs none = ap (λ l. noted ∷ l) (calls_in made vs none)

  no_calls : (leaves : List LeafSeen) → made_in (count_reads sum.sum made leaves) ≡ []
  no_calls [] = refl
  no_calls (leaf ∷ leaves) = no_calls leaves

  pub of_copies : (s : PoolState) → Stands p s → Does (RowRead s a) read_says answer s counted from to
  of_copies = by_state (λ s. Does (RowRead s a) read_says answer s counted from to) p (λ held pins. record {
    answers = record {
      moves = moves;
      reply = reply_by (map (leaf_shown r.reads) (copies_of sum seen)) r.outcome;
      is = record_row p a held moves (reply_by (map (leaf_shown r.reads) (copies_of sum seen)) r.outcome) low none
          (subst (λ o. ReadRecord o (seen_of held p) moves (reply_by (map (leaf_shown r.reads) (copies_of sum seen)) r.outcome)) (sym there)
          (r.outcome, row_copies held, refl));
      says_so = r.says ∙ says_by r.outcome refl;
      leaves = subst (Stands counted) (sym (moved held))
          (stands_there held counted (record { pinned = pins.pinned; held_places = pins.held_places }));
    };
    calls = subst (λ l. Makes l from to) (sym (calls_in made (count_reads sum.sum made (filter (stands_under sum.top) seen))
        (no_calls (filter (stands_under sum.top) seen)))) r.calls;
  })

  pub form_counted : IsPool counted
  form_counted = subst IsPool counted_is (pools_counted counts p pool)
