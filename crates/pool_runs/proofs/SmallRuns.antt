-- A small run is one.
use Rattle.std.proofs.Common.{◌≡◌, ◌≢◌, inl, inr, ℕ, zero, suc, ◌+◌, ◌-◌, ◌*◌, ◌≤◌, ◌<◌, ◌^◌, nat_lt, ◌%◌, ◌/◌, ◌==◌, ◌&&◌, Bool, true, false, cond, List, [], ◌∷◌, ◌++◌, map, length, take, append-nil, Option, Some, None, refl, sym, ap, ◌∙◌, subst, arith}
use Rattle.std.specs.List.{AllByRecursion, list_all}
use Rattle.std.specs.Option.{option_map}
use Rattle.std.specs.Str.{bytes_eq}
use Rattle.std.specs.Prelude.{AllPairs, Contains, slice_index_or}
use Rattle.std.proofs.lemmas.Bool.Decides.{nat_tests}
use Rattle.std.proofs.lemmas.Bool.{and_parts}
use Rattle.std.proofs.lemmas.Slice.Eq.{bytes_eq-Decides}
use Rattle.std.proofs.lemmas.List.{length-replicate}
use Rattle.sha2.proofs.Facts256.{length-sha256}
use Rattle.bank_core.specs.Asks.{Ask, Writes, Flushes, ask_of, IsPart}
use Rattle.bank_core.specs.Calls.{device_of, fault_of}
use Rattle.bank_core.specs.Disk.{Call, Write, Flush, Noted, Sectors, AllAnswer, run, sector_size}
use Rattle.label_store.specs.declared.member.Member.{Member}
use Rattle.label_store.specs.declared.rule.Head.{Head}
use Rattle.label_store.specs.Layout.{config_sectors}
use Rattle.mp_base.specs.declared.place.Key.{Key}
use Rattle.group_set.specs.Ranges.{ranges_upto}
use Rattle.mp_base.specs.Block.{zeros}
use Rattle.label_store.specs.Committing.{IsSealed}
use Rattle.label_store.specs.Records.{IsRecord}
use Rattle.label_store.specs.Rounds.{uberblock_of, config_of, first_plan, second_plan, third_plan}
use Rattle.txg_history.specs.Branches.{cell_on, branch_cells}
use Rattle.txg_history.specs.Pages.{Sum, Codec, span, IsOfVolume, sum_of}
use Rattle.txg_history.specs.Events.{Accepts}
use Rattle.label_store.specs.Records.{place_at}
use Rattle.txg_history.specs.Pools.{Pool, pool_after}
use Rattle.txg_history.specs.Records.{Cell, key}
use Rattle.txg_history.proofs.Branching.{branch_is, branch_has, keys_one}
use Rattle.txg_history.specs.Turns.{write_plan, flush_plan}
use Rattle.txg_history.proofs.Logging.{by_bool, true_not_false}
use Rattle.pool_moves.specs.AwayRows.{Taken, RowWrite}
use Rattle.label_store.specs.Phases.{IsPhase}
use Rattle.label_store.specs.Seats.{AreSeated}
use Rattle.label_store.proofs.Keeping.{same_member, no_member}
use Rattle.pool_moves.specs.Boards.{board_of, board_under, emptied}
use Rattle.pool_moves.specs.CommitRows.{RowFound}
use Rattle.pool_moves.specs.Drafts.{draft_of}
use Rattle.pool_moves.specs.FreezeRow.{up_devs, IsBefore, IsPlaceBefore, IsGivenBefore, ArePlacesGiven, AreDirtyKeys, RowFreeze}
use Rattle.pool_moves.specs.LineRows.{Write as WriteTurn, Flush as FlushTurn, Committed, EndsBy, IsTurnOf, StartsBy, TurnBy, RowTurn, moves_in, Ended, RowSync}
use Rattle.pool_moves.specs.Moves.{Draft, Move, Makes, Puts, Comes, Freeze, Commits, sum_over, sums_over, step, state_step, steps}
use Rattle.pool_moves.specs.ReadRow.{Gives, RowRead}
use Rattle.pool_moves.specs.Refusing.{IsUsed, CountsOpen}
use Rattle.pool_moves.specs.StampRow.{room_or_none, AreStamps, CommitsFirst, Created}
use Rattle.pool_moves.specs.States.{PoolSeen, PoolState}
use Rattle.pool_moves.specs.TurnRows.{RowWriteTurn, FitsState, IsThirdMoves, RowRound}
use Rattle.pool_moves.specs.Widening.{ranges_together, AreLeaves}
use Rattle.pool_runs.specs.Acts.{Act, Gives_for, Hears, Bare, Does, Marks, Names, Takes, Bears, does, bare, calls_along, pool_by, pool_along, history}
use Rattle.pool_runs.specs.Creating.{create_refusal, leaves_of, stamp_acts, host_stamped, commit_acts, Creates}
use Rattle.pool_runs.specs.Devices.{number_in, name_in, size_in}
use Rattle.pool_runs.specs.Fairness.{AreFair}
use Rattle.pool_runs.specs.Headline.{Headline}
use Rattle.pool_runs.specs.HostRows.{AreMade, WriteLine, ReadLine, SyncLine, OnPool, HostRow, acts_of, acts_in, IsRun}
use Rattle.pool_runs.specs.Hosts.{Host, named, moved, host_by, host_along}
use Rattle.pool_runs.specs.Pasts.{pool_of, then_all, Left, BeginsRun, in_size}
use Rattle.pool_runs.specs.Knowing.{IsOwnCall, IsOwnMove, AreOwnActs}
use Rattle.pool_runs.specs.Lines.{To_write, To_read, To_sync}
use Rattle.pool_runs.specs.SmallRuns.{small_table, small_host, small_name, small_pool, small_tops, small_birth, small_state, small_member, small_stamp, small_head, small_pointer, small_codec, small_commit, small_draft, small_first, small_thirds, small_round, small_founding, small_made, small_written, small_freeze, small_turn, small_flush, small_last, small_turns, small_sync, small_bytes, small_branch, answered, all_answered, small_device, small_create, small_later, small_born, small_rest, small_past, small_images, small_next, small_again}
use Rattle.pool_runs.proofs.Acting.{same_number}
use Rattle.pool_runs.proofs.Bearing.{born_headline}
use Rattle.pool_runs.proofs.Knowing.{acts_number, moved_own, moved_number}
use Rattle.pool_runs.proofs.Pasting.{then_called, is_in_size, next_begins}
use Rattle.pool_runs.proofs.Numbers.{number_fits}
use Rattle.pool_moves.proofs.Tests.{some_same}

none_refused : create_refusal small_host small_name 1 small_tops ≡ None
none_refused = refl

-- calls on the device that answered
abbrev small_call : Call → Bool
small_call (Write dev at bytes None) = dev == 0
small_call (Flush dev None) = dev == 0
small_call call = false

stamped : AreStamps (size_in small_table) small_pool (leaves_of small_table small_tops) (small_stamp ∷ []) None
stamped = (refl, inl ((refl, inl (refl, (refl, inl (refl, (refl, inl (refl, (refl, inl (refl, (refl, inl (refl, (refl, inl (refl, (refl, inl (refl, (refl, inl (refl, (refl, inl (refl, refl)))))))))))))))))), refl))

-- Calls that answered Ok on the device, told by a test.
answer_one : (sectors : Sectors) (noted : Noted) → small_call noted.call ≡ true → (device_of noted.call ≡ 0) × AllAnswer sectors (noted ∷ [])
answer_one sectors noted is = of noted.call is
  where
    of : (call : Call) → small_call call ≡ true → (device_of call ≡ 0) × AllAnswer sectors (record { call = call; damage = noted.damage } ∷ [])
    of (Write dev at bytes None) is = (let same : dev ≡ 0 = grind (arith, nat_tests) in same, (tt, tt))
    of (Flush dev None) is = (let same : dev ≡ 0 = grind (arith, nat_tests) in same, (tt, tt))
    of call is = absurd (cc)

all_made : (h : Host) (calls : List Noted) → h.table ≡ small_table → list_all (λ noted. small_call noted.call) calls ≡ true → AreMade h calls
all_made h calls table is = record { here = here calls is; answer = answer calls h.disk is }
  where
    on_device : (d : ℕ) → d ≡ 0 → 1 ≤ size_in h.table d
    on_device d zero_is = subst (λ t. 1 ≤ size_in t d) (sym table) (subst (λ e. 1 ≤ size_in small_table e) (sym zero_is) (omega arith))

    here : (calls : List Noted) → list_all (λ noted. small_call noted.call) calls ≡ true → AllByRecursion (λ noted. 1 ≤ size_in h.table (device_of noted.call)) calls
    here [] is = tt
    here (noted ∷ calls) is = let both = and_parts (small_call noted.call) (list_all (λ noted. small_call noted.call) calls) is in
        (on_device (device_of noted.call) (answer_one h.disk noted both.0).0, here calls both.1)

    answer : (calls : List Noted) (sectors : Sectors) → list_all (λ noted. small_call noted.call) calls ≡ true → AllAnswer sectors calls
    answer [] sectors is = tt
    answer (noted ∷ calls) sectors is = let both = and_parts (small_call noted.call) (list_all (λ noted. small_call noted.call) calls) is in
        ((answer_one sectors noted both.0).1.0, answer calls (run (noted ∷ []) sectors) both.1)

-- asks of the device that write or flush
abbrev small_ask : Ask → Bool
small_ask (Writes dev at bytes) = true
small_ask (Flushes dev) = dev == 0
small_ask ask = false

ask_made : (ask : Ask) → small_ask ask ≡ true → (ask_of (answered ask).call ≡ ask) × (fault_of (answered ask).call ≡ None)
ask_made (Writes dev at bytes) is = (refl, refl)
ask_made (Flushes dev) is = (let same : 0 ≡ dev = grind (arith, nat_tests) in ap Flushes same, refl)
ask_made ask is = absurd (cc)

-- Acts of a pool that owns the device, told by a test.
abbrev small_move : Move → Bool
small_move (Makes noted) = small_call noted.call
small_move (Comes i d m top own) = false
small_move v = true

own_call : (g : ℕ) (owner : ℕ → Option ℕ) (call : Call) → owner 0 ≡ Some g → small_call call ≡ true → IsOwnCall g owner call
own_call g owner (Write dev at bytes None) mine is = let same : dev ≡ 0 = grind (arith, nat_tests) in subst (λ d. owner d ≡ Some g) (sym same) mine
own_call g owner (Flush dev None) mine is = tt
own_call g owner call mine is = absurd (cc)

own_move : (g : ℕ) (owner : ℕ → Option ℕ) (v : Move) → owner 0 ≡ Some g → small_move v ≡ true → IsOwnMove g owner v
own_move g owner (Makes noted) mine is = own_call g owner noted.call mine is
own_move g owner (Comes i d m top own) mine is = absurd (cc)
own_move g owner v mine is = tt

own_does : (g : ℕ) (h : Host) (vs : List Move) → h.owner 0 ≡ Some g → list_all small_move vs ≡ true → AreOwnActs g h (does g vs)
own_does g h [] mine is = tt
own_does g h (v ∷ vs) mine is = let both = and_parts (small_move v) (list_all small_move vs) is in
    ((refl, own_move g h.owner v mine both.0), own_does g (host_by (Does g v) h) vs mine both.1)

own_bare : (g : ℕ) (h : Host) (made : List Noted) (rest : List Act) → h.owner 0 ≡ Some g → list_all (λ noted. small_call noted.call) made ≡ true
    → ((x : Host) → x.owner 0 ≡ Some g → AreOwnActs g x rest) → AreOwnActs g h (bare made ++ rest)
own_bare g h [] rest mine is then = then h mine
own_bare g h (noted ∷ made) rest mine is then = let both = and_parts (small_call noted.call) (list_all (λ noted. small_call noted.call) made) is in
    (own_call g h.owner noted.call mine both.0, own_bare g (host_by (Bare noted) h) made rest mine both.1 then)

-- The host has the device, which is the pool's, and this open pool alone.
record HasOpen (h : Host) (s : PoolState) : Type 0 where
  table : h.table ≡ small_table
  pools : h.pools ≡ s ∷ []
  owner : h.owner 0 ≡ Some small_pool.0

heard : (second : ℕ) (h : Host) (s : PoolState) → HasOpen h s → HasOpen (host_by (Hears second) h) s
heard second h s has = record { table = has.table; pools = has.pools; owner = has.owner }

open_along : (vs : List Move) (h : Host) (s : PoolState) → s.core.pool.0 ≡ small_pool.0 → HasOpen h s → HasOpen (host_along (does small_pool.0 vs) h) (steps vs s)
open_along [] h s number has = has
open_along (v ∷ vs) h s number has = open_along vs (host_by (Does small_pool.0 v) h) (state_step v s)
    (ap (λ u. u.core.pool.0) (sym (moved_own small_pool.0 v s number)) ∙ (ap (λ n. n.0) (moved_number small_pool.0 v s) ∙ number)) (record {
      table = has.table;
      pools = ap (map (moved small_pool.0 v)) has.pools ∙ ap (λ u. u ∷ []) (moved_own small_pool.0 v s number);
      owner = has.owner;
    })

-- The record of a number is one.
small_blob : (n : ℕ) → length (small_commit n).blob ≡ 4096
small_blob n = let none : ℕ = 0 in ap suc (length-replicate 4095 none)

small_is : (block : List ℕ) (n : ℕ) (m : Member) → 1 ≤ n → n ≤ 2 → m.guid.0 < 2 ^ 64
    → IsRecord (small_codec block).head_of (uberblock_of (small_commit n) m) (small_commit n).blob (config_of (small_commit n))
unfolding sector_size
small_is block n m one two low = record {
  in_range = record {
    pool = number_fits small_name 1;
    member = low;
    number = omega (arith, two);
    config = omega arith;
    sum = length-sha256 (config_of (small_commit n));
    no_config = λ none. absurd (omega (arith, one, none));
    no_sum = λ none. absurd (omega (arith, one, none));
  };
  some = one;
  whole = ap (λ n. n % sector_size) (small_blob n);
  most = subst (λ n. n / sector_size ≤ config_sectors) (sym (small_blob n)) (omega arith);
  within = subst (λ k. 1 ≤ k) (sym (small_blob n)) (omega arith);
  config_is = refl;
  sum = refl;
  headed = record { head = small_head n; reads = refl; pool_is = refl; number_is = refl };
}

small_sealed : (n : ℕ) → IsSealed (small_commit n).blob (small_commit n).length
unfolding sector_size zeros
small_sealed n = let long = small_blob n in record {
  whole = ap (λ k. k % sector_size) long;
  most = subst (λ k. k / sector_size ≤ config_sectors) (sym long) (omega arith);
  some = omega arith;
  within = omega (arith, long);
  last = omega (arith, long);
  rest = ap zeros (let rest : 4095 ≡ length (small_commit n).blob - 1 = omega (arith, long) in rest);
}

no_sums : (k : Key) (sum : Sum) → sums_over (λ j. None) (λ j. None) k ≡ Some sum → IsOfVolume 1 k
no_sums k sum is = absurd (cc)

fits_first : (block : List ℕ) → FitsState (small_codec block) (steps small_first small_state).core (small_draft 1 (steps small_first small_state))
fits_first block = record {
  pool_is = refl;
  number_is = refl;
  is_record = λ m low. small_is block 1 m (omega arith) (omega arith) low;
  sealed = small_sealed 1;
  name_is = λ head is. ap (λ h. h.name) (same_head (small_head 1) head is);
  room_is = refl;
  inside = no_sums;
  root = refl;
  leaves_are = refl;
}
  where
    same_head : (a b : Head) → Some a ≡ Some b → b ≡ a
    same_head a b e = cc

phase : (plan : List Ask) → list_all small_ask plan ≡ true → IsPart plan (all_answered plan) None
phase [] is = refl
phase (ask ∷ plan) is = let both = and_parts (small_ask ask) (list_all small_ask plan) is in
    let one = ask_made ask both.0 in (one.0, inl (one.1, phase plan both.1))

-- A round over the device.
one_phase : (plan : Member → List Ask) → list_all small_ask (plan small_member) ≡ true
    → IsPhase plan (small_member ∷ []) (true ∷ []) (true ∷ []) (all_answered (plan small_member))
one_phase plan is = (all_answered (plan small_member), [], sym (append-nil (all_answered (plan small_member))), (None, phase (plan small_member) is, refl), refl)

one_seated : AreSeated (size_in small_table) (small_member ∷ [])
one_seated zero m is = subst (λ x. 320 ≤ size_in small_table x.dev) (same_member small_member m is) (omega arith)
one_seated (suc i) m is = absurd (no_member m is)

thirds_made : (draft : Draft) → list_all small_ask (third_plan (size_in small_table) draft.commit small_member) ≡ true
    → IsThirdMoves (third_plan (size_in small_table) draft.commit) draft (small_member ∷ []) (true ∷ []) (true ∷ [])
    (small_thirds draft)
thirds_made draft is = (
  all_answered (third_plan (size_in small_table) draft.commit small_member),
  [],
  refl,
  (None, phase (third_plan (size_in small_table) draft.commit small_member) is, refl),
  refl,
)

round_made : (c : Codec) (s : PoolSeen) (draft : Draft) → s.group.frozen ≡ true → s.group.flushed ≡ true → s.group.fresh ≡ true → emptied s.leaves ≡ None
    → board_of s.leaves ≡ small_member ∷ [] → draft ≡ draft_of draft.commit s.leaves → FitsState c s draft
    → list_all small_ask (first_plan (size_in small_table) draft.commit small_member) ≡ true
    → list_all small_ask (second_plan (size_in small_table) draft.commit small_member) ≡ true
    → list_all small_ask (third_plan (size_in small_table) draft.commit small_member) ≡ true
    → RowRound c (size_in small_table) s (small_round draft) true
round_made c s draft frozen flushed fresh boards board leaves fits one two three = record {
  frozen = frozen;
  flushed = flushed;
  fresh = fresh;
  boards = boards;
  draft = draft;
  leaves = leaves;
  fits = fits;
  seated = subst (AreSeated (size_in small_table)) (sym board) one_seated;
  first = all_answered (first_plan (size_in small_table) draft.commit small_member);
  second = all_answered (second_plan (size_in small_table) draft.commit small_member);
  thirds = small_thirds draft;
  in_first = true ∷ [];
  in_second = true ∷ [];
  results = true ∷ [];
  whole_is = refl;
  configs = subst (λ ms. IsPhase (first_plan (size_in small_table) draft.commit) ms (map (λ m. true) ms) (true ∷ [])
      (all_answered (first_plan (size_in small_table) draft.commit small_member))) (sym board) (one_phase (first_plan (size_in small_table) draft.commit) one);
  uberblocks = subst (λ ms. IsPhase (second_plan (size_in small_table) draft.commit) ms (true ∷ []) (true ∷ [])
      (all_answered (second_plan (size_in small_table) draft.commit small_member))) (sym board) (one_phase (second_plan (size_in small_table) draft.commit) two);
  copies = subst (λ ms. IsThirdMoves (third_plan (size_in small_table) draft.commit) draft ms (true ∷ []) (true ∷ []) (small_thirds draft)) (sym board)
      (thirds_made draft three);
  ending = Commits draft ∷ [];
  ends = refl;
  moves = refl;
}

-- No log has a range.
few_first : ranges_together 1 (step (Freeze (λ k. None) (up_devs small_state.core.leaves)) small_state.core).leaves ≤ 4096
unfolding ranges_upto
few_first = omega arith

founded : (block : List ℕ) → RowFound (small_codec block) (size_in small_table) small_state small_founding true
founded block = record {
  first = Freeze (λ k. None) (up_devs small_state.core.leaves) ∷ [];
  freeze = record { idle = refl; unwritten = λ a. refl; tops = (omega arith, tt); moves = record { widens = []; are = few_first; moves = refl } };
  round = small_round (small_draft 1 (steps small_first small_state));
  ends = round_made (small_codec block) (steps small_first small_state).core (small_draft 1 (steps small_first small_state)) refl refl refl refl refl refl (fits_first block) refl refl refl;
  own = record { volume = refl; top_numbers = refl; children_are = refl; spares_are = refl; next = refl };
  moves = refl;
}

first_commit : (block : List ℕ) → CommitsFirst (small_codec block) (size_in small_table) small_state small_founding Created
unfolding founded round_made
first_commit block = record { whole = true; row = founded block; says = refl }

-- The creation is a line.
creates : (block : List ℕ) → Creates (small_codec block) (host_by (Hears 1) small_host) small_name 1 small_tops small_create.acts small_create.reply
creates block = record {
  pool = small_pool;
  may = record { none = none_refused; number = refl; one = omega arith; some = (omega arith, tt); apart = (tt, tt) };
  stamps = small_stamp ∷ [];
  are = stamped;
  moves = small_founding;
  answer = Created;
  row = first_commit block;
  all = refl;
  own = (
    refl,
    (
      (refl, λ s is. absurd is),
      own_bare small_pool.0 (host_by (Takes small_pool.0 0) (host_by (Names small_pool.0) (host_by (Hears 1) small_host))) small_stamp.made
          (Bears small_birth ∷ does small_pool.0 small_founding) refl refl (λ x mine. (refl, own_does small_pool.0 (host_by (Bears small_birth) x) small_founding mine refl)),
    ),
  );
  says = refl;
}

create_row : (block : List ℕ) → HostRow (small_codec block) (host_by (Hears 1) small_host) small_create
create_row block = inl (inr (inr (creates block)), all_made (host_by (Hears 1) small_host) (calls_along small_create.acts) refl refl)

-- Behind it the pool is open, and nothing else is.
abbrev host_made : Host
host_made = host_along (acts_of small_create) small_host

abbrev host_born : Host
host_born = host_along (Hears 1 ∷ (Names small_pool.0 ∷ (stamp_acts small_pool.0 (small_stamp ∷ []) ++ (Bears small_birth ∷ [])))) small_host

made_open : HasOpen host_made small_made
made_open = open_along small_founding host_born small_state refl (record { table = refl; pools = refl; owner = refl })

-- The places of its top that are open: the first so many sectors.
abbrev places_below : (n : ℕ) → List (ℕ × ℕ)
places_below zero = []
places_below (suc n) = (1, n) ∷ places_below n

places_count : (n : ℕ) → length (places_below n) ≡ n
places_count zero = refl
places_count (suc n) = ap suc (places_count n)

places_low : (n j : ℕ) (d : ℕ × ℕ) → j < length (places_below n) → ((slice_index_or (places_below n) j d).0 ≡ 1) × ((slice_index_or (places_below n) j d).1 < n)
places_low zero j d low = absurd (omega (arith, low))
places_low (suc n) zero d low = (refl, omega arith)
places_low (suc n) (suc j) d low = let more = places_low n j d (omega (arith, low)) in (more.0, let less = more.1 in omega (arith, less))

places_differ : (n : ℕ) → AllPairs (λ a b. a ≢ b) (places_below n)
places_differ zero i j d before low = absurd (omega (arith, low))
places_differ (suc n) i zero d before low = absurd (omega (arith, before))
places_differ (suc n) zero (suc j) d before low = λ same. let less = (places_low n j d (omega (arith, low))).1 in
    let equal = ap (λ x. x.1) same in absurd (omega (arith, less, equal))
places_differ (suc n) (suc i) (suc j) d before low = places_differ n i j d (omega (arith, before)) (omega (arith, low))

place_in : (n sector : ℕ) → sector < n → Contains (places_below n) (1, sector)
place_in zero sector low = absurd (omega (arith, low))
place_in (suc n) sector low = by_bool (sector == n)
    (λ is. (0, let long = places_count n in omega (arith, long), let same : n ≡ sector = grind (arith, nat_tests) in ap (λ x. (1, x)) same))
    (λ off. let more = place_in n sector (let less : sector < n = grind (arith, nat_tests) in less) in
    (suc more.0, let low = more.1 in omega (arith, low), more.2))

in_places : (n top sector : ℕ) → Contains (places_below n) (top, sector) → (top ≡ 1) × (sector < n)
in_places n top sector has = let low = places_low n has.0 (top, sector) has.1 in
    (ap (λ x. x.0) (sym has.2) ∙ low.0, subst (λ x. x < n) (ap (λ x. x.1) has.2) low.1)

small_room : (top : ℕ) → small_made.core.room top ≡ cond (1 == top) 64 0
small_room top = by (1 == top)
  where
    by : (t : Bool) → room_or_none (cond t (Some 64) None) ≡ cond t 64 0
    by true = refl
    by false = refl

in_room : (top sector : ℕ) → sector < small_made.core.room top → (top ≡ 1) × (sector < 64)
in_room top sector low = by_bool (1 == top)
    (λ is. (let same : top ≡ 1 = grind (arith, nat_tests) in same, subst (λ n. sector < n) (small_room top ∙ ap (λ t. cond t 64 0) is) low))
    (λ off. absurd (let none : sector < 0 = subst (λ n. sector < n) (small_room top ∙ ap (λ t. cond t 64 0) off) low in omega (arith, none)))

nothing_used : (top sector : ℕ) → IsUsed small_made.core top sector → ⊥
nothing_used top sector (inl (inl at)) = let no = at.sum_is in cc
nothing_used top sector (inl (inr at)) = at
nothing_used top sector (inr at) = let no = at.sum_is in cc

small_open : CountsOpen small_made.core 64
small_open = record {
  places = places_below 64;
  count = places_count 64;
  differ = places_differ 64;
  all = λ top sector is. let at = in_room top sector is.0 in subst (λ x. Contains (places_below 64) (x, sector)) (sym at.0) (place_in 64 sector at.1);
  only = λ top sector has. let at = in_places 64 top sector has in
      (subst (λ x. sector < small_made.core.room x) (sym at.0) (subst (λ n. sector < n) (sym (small_room 1)) at.1), nothing_used top sector);
}

-- The write, the read and the sync are rows.
write_row : (block : List ℕ) → RowWrite small_made 0 block (Puts 0 block ∷ []) Taken
write_row block = inr (omega arith, (64, small_open, (refl, refl)))

read_row : (block : List ℕ) → RowRead (small_written block) 0 [] (Gives block)
read_row block = inr (omega arith, (refl, refl))

-- The keys of the block and its pages.
level_key : (k : Key) → k.index ≡ 0 → k ≡ key k.level 0
level_key k is = keys_one k (key k.level 0) refl is

small_long : (block : List ℕ) (level : ℕ) → length block ≡ 4096 → length (small_bytes block level) ≡ 4096
small_long block zero long = long
small_long block (suc level) long = let none : ℕ = 0 in ap suc (length-replicate 4095 none)

taken_by : (t : Bool) (cell : Cell) → option_map (λ (x : Cell). x.block) (cond (t && true) (Some cell) None) ≡ cond t (Some cell.block) None
taken_by true cell = refl
taken_by false cell = refl

pointed_by : (t u : Bool) (cell : Cell) → u ≡ true → cond t (sum_of (Some cell)) None ≡ sum_over (cond (t && u) (Some cell) None) None
pointed_by true u cell is = ap (λ v. sum_over (cond v (Some cell) None) None) (sym is)
pointed_by false u cell is = refl

one_test : (a : ℕ) → (a == 0) ≡ (0 == a)
one_test a = grind (arith, nat_tests)

child_test : (index j : ℕ) → index ≡ 0 → (j == 0) ≡ (64 * index + j == 0)
child_test index j is = grind (arith, nat_tests)

below_four : (level : ℕ) → level < 4 → nat_lt level 4 ≡ true
below_four level low = grind (arith, nat_tests)

small_dirty : (block : List ℕ) → length block ≡ 4096 → AreDirtyKeys (small_codec block) (small_written block) (branch_cells (small_branch block))
small_dirty block long = record {
  takes = λ a. taken_by (a == 0) (cell_on (small_branch block) 0) ∙ ap (λ t. cond t (Some block) None) (one_test a);
  up = λ level index j cell low below is. let has = branch_is (small_branch block) (key level (64 * index + j)) cell is in
      let none = has.0 in (cell_on (small_branch block) (suc level), branch_has (small_branch block) (suc level) index (omega (arith, none)) (omega (arith, low)));
  only = λ level index cell low is. let has = branch_is (small_branch block) (key (suc level) index) cell is in record {
    j = 0;
    below = omega arith;
    cell = cell_on (small_branch block) level;
    cell_is = branch_has (small_branch block) level (64 * index + 0) (let none = has.0 in omega (arith, none)) (omega (arith, low));
  };
  levels = λ k cell is. let low = (branch_is (small_branch block) k cell is).1 in omega (arith, low);
  formed = λ level index cell low is. refl;
  pages = λ level index cell low is j below. let has = branch_is (small_branch block) (key (suc level) index) cell is in
      subst (λ x. small_pointer block x.block j ≡ sum_over (branch_cells (small_branch block) (key level (64 * index + j))) None) has.2
      (subst (λ t. cond (j == 0) (sum_of (Some (cell_on (small_branch block) level))) None
      ≡ sum_over (cond (t && nat_lt level 4) (Some (cell_on (small_branch block) level)) None) None) (child_test index j has.0)
      (pointed_by (j == 0) (nat_lt level 4) (cell_on (small_branch block) level) (below_four level (omega (arith, low)))));
  births = λ k cell is. ap (λ x. x.birth) (sym (branch_is (small_branch block) k cell is).2);
  long = λ k cell is. ap (λ x. length x.block) (sym (branch_is (small_branch block) k cell is).2) ∙ small_long block k.level long;
}

small_places : (block : List ℕ) → ArePlacesGiven (small_written block).core (branch_cells (small_branch block))
small_places block = record {
  inside = λ k cell is. let has = branch_is (small_branch block) k cell is in
      subst (λ x. x.sector < small_made.core.room x.top) has.2 (subst (λ n. k.level < n) (sym (small_room 1)) (let low = has.1 in omega (arith, low)));
  free = λ k cell is taken. nothing_used cell.top cell.sector (inl taken);
  apart = λ j k a b ja kb at. let x = branch_is (small_branch block) j a ja in let y = branch_is (small_branch block) k b kb in
      keys_one j k (ap (λ c. c.sector) x.2 ∙ (at.1 ∙ sym (ap (λ c. c.sector) y.2))) (x.0 ∙ sym y.0);
  least = λ k cell top sector is before room. let has = branch_is (small_branch block) k cell is in
      let at = in_room top sector room in
      inr (given k cell top sector has.1 at.0 (subst (λ x. IsPlaceBefore top sector x) (sym has.2) before));
}
  where
    given : (k : Key) (cell : Cell) (top sector : ℕ) → k.level < 4 → top ≡ 1 → IsPlaceBefore top sector (cell_on (small_branch block) k.level)
        → IsGivenBefore (branch_cells (small_branch block)) k top sector
    given k cell top sector low one (inl less) = record {
      j = key sector 0;
      cell = cell_on (small_branch block) sector;
      cell_is = branch_has (small_branch block) sector 0 refl (omega (arith, less, low));
      before = inl less;
      top_is = sym one;
      sector_is = refl;
    }
    given k cell top sector low one (inr (same, less)) = absurd (omega (arith, less, one))

few_ranges : (block : List ℕ)
    → ranges_together 2 (step (Freeze (branch_cells (small_branch block)) (up_devs small_made.core.leaves)) (small_written block).core).leaves ≤ 4096
unfolding ranges_upto
few_ranges block = omega arith

small_frozen : (block : List ℕ) → length block ≡ 4096 → RowFreeze (small_codec block) (small_written block) (small_freeze block)
small_frozen block long = record {
  idle = refl;
  opened = refl;
  tops = (omega arith, tt);
  cells = branch_cells (small_branch block);
  dirty = small_dirty block long;
  places = small_places block;
  moves = record { widens = []; are = few_ranges block; moves = refl };
}

-- A write turn of a key.
turn_part : (block : List ℕ) (level : ℕ) (s : PoolState) → level < 4 → s.core.group.frozen ≡ true → s.core.group.flushed ≡ false
    → s.core.group.cells ≡ branch_cells (small_branch block) → s.core.group.done (key level 0) ≡ false
    → ((i : ℕ) → i < level → s.core.group.done (key i 0) ≡ true) → board_under 1 s.core.leaves ≡ small_member ∷ []
    → RowWriteTurn s.core (small_turn block level)
turn_part block level s low frozen unflushed cells undone done board = record {
  frozen = frozen;
  unflushed = unflushed;
  key = key level 0;
  cell = cell_on (small_branch block) level;
  cell_is = ap (λ f. f (key level 0)) cells ∙ branch_has (small_branch block) level 0 refl low;
  undone = undone;
  least = λ j other is left before. least j other (sym (ap (λ f. f j) cells) ∙ is) left before;
  made = all_answered (write_plan (cell_on (small_branch block) level) small_member);
  results = true ∷ [];
  calls = subst (λ ms. IsPhase (write_plan (cell_on (small_branch block) level)) ms (map (λ m. true) ms) (true ∷ [])
      (all_answered (write_plan (cell_on (small_branch block) level) small_member))) (sym board) (one_phase (write_plan (cell_on (small_branch block) level)) refl);
  leaving = [];
  leaves = subst (λ ms. AreLeaves s.core ms (true ∷ []) []) (sym board) refl;
  moves = refl;
}
  where
    least : (j : Key) (other : Cell) → branch_cells (small_branch block) j ≡ Some other → s.core.group.done j ≡ false → IsBefore j (key level 0) → ⊥
    least j other is left (inl less) = let has = branch_is (small_branch block) j other is in
        let yes : s.core.group.done j ≡ true = subst (λ k. s.core.group.done k ≡ true) (sym (level_key j has.0)) (done j.level less) in
        true_not_false (s.core.group.done j) yes left
    least j other is left (inr (same, less)) = absurd (omega (arith, less))

small_write_turn : (block : List ℕ) (level : ℕ) (c : Codec) (s : PoolState) → level < 4 → s.core.group.frozen ≡ true → s.core.group.flushed ≡ false
    → s.core.group.cells ≡ branch_cells (small_branch block) → s.core.group.done (key level 0) ≡ false
    → ((i : ℕ) → i < level → s.core.group.done (key i 0) ≡ true) → board_under 1 s.core.leaves ≡ small_member ∷ [] → emptied s.core.leaves ≡ None
    → emptied (steps (small_turn block level) s).core.leaves ≡ None → RowTurn c (size_in small_table) s (small_turn block level) WriteTurn
unfolding turn_part
small_write_turn block level c s low frozen unflushed cells undone done board some still =
    subst (λ t. TurnBy t c (size_in small_table) s (small_turn block level) WriteTurn) (sym frozen)
    (subst (λ top. StartsBy top c (size_in small_table) s (small_turn block level) WriteTurn) (sym some) (inl (record {
      part = small_turn block level;
      row = turn_part block level s low frozen unflushed cells undone done board;
      turn = subst (λ ms. IsTurnOf s (small_turn block level) ms (true ∷ []) WriteTurn (small_turn block level) WriteTurn) (sym board) (record {
        ending = [];
        ends = subst (λ top. EndsBy top (steps (small_turn block level) s) false WriteTurn [] WriteTurn) (sym still) (refl, refl);
        moves = refl;
      });
    })))

small_flush_turn : (block : List ℕ) (c : Codec) (s : PoolState) → s.core.group.frozen ≡ true → s.core.group.flushed ≡ false
    → s.core.group.cells ≡ branch_cells (small_branch block) → ((i : ℕ) → i < 4 → s.core.group.done (key i 0) ≡ true)
    → board_of s.core.leaves ≡ small_member ∷ [] → emptied s.core.leaves ≡ None
    → emptied (steps small_flush s).core.leaves ≡ None → RowTurn c (size_in small_table) s small_flush FlushTurn
small_flush_turn block c s frozen unflushed cells done board some still =
    subst (λ t. TurnBy t c (size_in small_table) s small_flush FlushTurn) (sym frozen)
    (subst (λ top. StartsBy top c (size_in small_table) s small_flush FlushTurn) (sym some) (inr (inl (record {
      part = small_flush;
      unflushed = unflushed;
      row = record {
        frozen = frozen;
        written = λ k cell is. let has = branch_is (small_branch block) k cell (sym (ap (λ f. f k) cells) ∙ is) in
            subst (λ j. s.core.group.done j ≡ true) (sym (level_key k has.0)) (done k.level has.1);
        made = all_answered (flush_plan small_member);
        results = true ∷ [];
        calls = subst (λ ms. IsPhase flush_plan ms (map (λ m. true) ms) (true ∷ []) (all_answered (flush_plan small_member))) (sym board) (one_phase flush_plan refl);
        leaving = [];
        leaves = subst (λ ms. AreLeaves s.core ms (true ∷ []) []) (sym board) refl;
        moves = refl;
      };
      turn = subst (λ ms. IsTurnOf s small_flush ms (true ∷ []) FlushTurn small_flush FlushTurn) (sym board) (record {
        ending = [];
        ends = subst (λ top. EndsBy top (steps small_flush s) false FlushTurn [] FlushTurn) (sym still) (refl, refl);
        moves = refl;
      });
    }))))

-- numbers below a limit up to four, one by one
each_low : (n : ℕ) (P : ℕ → Type 0) → (0 < n → P 0) → (1 < n → P 1) → (2 < n → P 2) → (3 < n → P 3) → n ≤ 4 → (i : ℕ) → i < n → P i
each_low n P a b d e low zero less = a less
each_low n P a b d e low (suc zero) less = b less
each_low n P a b d e low (suc (suc zero)) less = d less
each_low n P a b d e low (suc (suc (suc zero))) less = e less
each_low n P a b d e low (suc (suc (suc (suc i)))) less = absurd (omega (arith, low, less))

-- the pool behind the write turns below a level
abbrev small_at : (block : List ℕ) → (level : ℕ) → PoolState
small_at block zero = steps (small_freeze block) (small_written block)
small_at block (suc level) = steps (small_turn block level) (small_at block level)

abbrev AreDone : (block : List ℕ) → (n : ℕ) → Type 0
AreDone block n = (i : ℕ) → i < n → (small_at block n).core.group.done (key i 0) ≡ true

none_done : (block : List ℕ) → AreDone block 0
none_done block i less = absurd (omega (arith, less))

one_done : (block : List ℕ) → AreDone block 1
one_done block = each_low 1 (λ i. (small_at block 1).core.group.done (key i 0) ≡ true) (λ l. refl) (λ l. absurd (omega (arith, l))) (λ l. absurd (omega (arith, l)))
    (λ l. absurd (omega (arith, l))) (omega arith)

two_done : (block : List ℕ) → AreDone block 2
two_done block = each_low 2 (λ i. (small_at block 2).core.group.done (key i 0) ≡ true) (λ l. refl) (λ l. refl) (λ l. absurd (omega (arith, l)))
    (λ l. absurd (omega (arith, l))) (omega arith)

three_done : (block : List ℕ) → AreDone block 3
three_done block = each_low 3 (λ i. (small_at block 3).core.group.done (key i 0) ≡ true) (λ l. refl) (λ l. refl) (λ l. refl) (λ l. absurd (omega (arith, l))) (omega arith)

all_done : (block : List ℕ) → AreDone block 4
all_done block = each_low 4 (λ i. (small_at block 4).core.group.done (key i 0) ≡ true) (λ l. refl) (λ l. refl) (λ l. refl) (λ l. refl) (omega arith)

-- The record of the sync.
volume_keys : (block : List ℕ) (k : Key) (sum : Sum) → sums_over (branch_cells (small_branch block)) (λ j. None) k ≡ Some sum → IsOfVolume 1 k
volume_keys block k sum is = of (branch_cells (small_branch block) k) refl is
  where
    of : (cell : Option Cell) → branch_cells (small_branch block) k ≡ cell → sum_over cell None ≡ Some sum → IsOfVolume 1 k
    of None at is = absurd (cc)
    of (Some cell) at is = let has = branch_is (small_branch block) k cell at in record {
      low = let low = has.1 in omega (arith, low);
      inside = subst (λ n. span k.level * n < 1) (sym has.0) (let none : span k.level * 0 ≡ 0 = grind (arith) in omega (arith, none));
    }

small_fits : (block : List ℕ) → FitsState (small_codec block) (steps small_flush (small_at block 4)).core (small_draft 2 (steps small_flush (small_at block 4)))
small_fits block = record {
  pool_is = refl;
  number_is = refl;
  is_record = λ m low. small_is block 2 m (omega arith) (omega arith) low;
  sealed = small_sealed 2;
  name_is = λ head is. ap (λ h. h.name) (same_head (small_head 2) head is);
  room_is = refl;
  inside = volume_keys block;
  root = refl;
  leaves_are = refl;
}
  where
    same_head : (a b : Head) → Some a ≡ Some b → b ≡ a
    same_head a b e = cc

small_round_turn : (block : List ℕ) → RowTurn (small_codec block) (size_in small_table) (steps small_flush (small_at block 4)) (small_last block) (Committed 2)
unfolding round_made
small_round_turn block = inr (inr (record {
  part = small_last block;
  whole = true;
  row = round_made (small_codec block) (steps small_flush (small_at block 4)).core (small_draft 2 (steps small_flush (small_at block 4))) refl refl refl refl refl refl
      (small_fits block) refl refl refl;
  own = record { volume = refl; top_numbers = refl; children_are = refl; spares_are = refl; next = refl };
  behind = small_last block;
  counted = refl;
  ending = [];
  ends = (refl, refl);
  moves = refl;
}))

sync_row : (block : List ℕ) → length block ≡ 4096 → RowSync (small_codec block) (size_in small_table) (small_written block) (small_sync block) (Ended (Committed 2))
sync_row block long = (
  None,
  (64, small_open, refl),
  (
    Committed 2,
    record {
      first = small_freeze block;
      freeze = small_frozen block long;
      rest = moves_in (small_turns block);
      ends = record {
        turns = small_turns block;
        are = (
          small_write_turn block 0 (small_codec block) (small_at block 0) (omega arith) refl refl refl refl (none_done block) refl refl refl,
          refl,
          (
            small_write_turn block 1 (small_codec block) (small_at block 1) (omega arith) refl refl refl refl (one_done block) refl refl refl,
            refl,
            (
              small_write_turn block 2 (small_codec block) (small_at block 2) (omega arith) refl refl refl refl (two_done block) refl refl refl,
              refl,
              (
                small_write_turn block 3 (small_codec block) (small_at block 3) (omega arith) refl refl refl refl (three_done block) refl refl refl,
                refl,
                (
                  small_flush_turn block (small_codec block) (small_at block 4) refl refl refl (all_done block) refl refl refl,
                  refl,
                  (small_round_turn block, refl, refl),
                ),
              ),
            ),
          ),
        );
        moves = refl;
      };
      moves = refl;
    },
    refl,
  ),
)

-- They are lines of a host that has the pool.
write_line : (block : List ℕ) (h : Host) → HasOpen h small_made
    → OnPool (named small_name h.pools) (WriteLine h 0 block) (does small_pool.0 (Puts 0 block ∷ [])) (To_write Taken)
write_line block h has = subst (λ pools. OnPool (named small_name pools) (WriteLine h 0 block) (does small_pool.0 (Puts 0 block ∷ [])) (To_write Taken)) (sym has.pools)
    (Taken, refl, record { moves = Puts 0 block ∷ []; row = write_row block; are = refl; own = own_does small_pool.0 h (Puts 0 block ∷ []) has.owner refl })

read_line : (block : List ℕ) (h : Host) → HasOpen h (small_written block)
    → OnPool (named small_name h.pools) (ReadLine h 0) (Marks small_pool.0 (Gives_for 0 (Gives block)) ∷ []) (To_read (Gives block))
read_line block h has = subst (λ pools. OnPool (named small_name pools) (ReadLine h 0) (Marks small_pool.0 (Gives_for 0 (Gives block)) ∷ []) (To_read (Gives block))) (sym has.pools)
    (Gives block, refl, record { moves = []; row = read_row block; are = refl; own = (refl, tt) })

sync_line : (block : List ℕ) (h : Host) → length block ≡ 4096 → HasOpen h (small_written block)
    → OnPool (named small_name h.pools) (SyncLine (small_codec block) h) (does small_pool.0 (small_sync block)) (To_sync (Ended (Committed 2)))
sync_line block h long has =
    subst (λ pools. OnPool (named small_name pools) (SyncLine (small_codec block) h) (does small_pool.0 (small_sync block)) (To_sync (Ended (Committed 2)))) (sym has.pools) (
      Ended (Committed 2),
      refl,
      record {
        moves = small_sync block;
        row = subst (λ table. RowSync (small_codec block) (size_in table) (small_written block) (small_sync block) (Ended (Committed 2))) (sym has.table) (sync_row block long);
        are = refl;
        own = own_does small_pool.0 h (small_sync block) has.owner refl;
      },
    )

-- The lines, one after another.
abbrev host_written : (block : List ℕ) → Host
host_written block = host_along (Hears 2 ∷ does small_pool.0 (Puts 0 block ∷ [])) host_made

abbrev host_read : (block : List ℕ) → Host
host_read block = host_along (Hears 3 ∷ (Marks small_pool.0 (Gives_for 0 (Gives block)) ∷ [])) (host_written block)

written_open : (block : List ℕ) → HasOpen (host_written block) (small_written block)
written_open block = open_along (Puts 0 block ∷ []) (host_by (Hears 2) host_made) small_made refl (heard 2 host_made small_made made_open)

read_open : (block : List ℕ) → HasOpen (host_read block) (small_written block)
read_open block = heard 3 (host_written block) (small_written block) (written_open block)

pub small_runs : (block : List ℕ) → length block ≡ 4096 → IsRun (small_codec block) small_host (small_create ∷ small_later block)
small_runs block long = (
  create_row block,
  (
    inl (write_line block (host_by (Hears 2) host_made) (heard 2 host_made small_made made_open), all_made (host_by (Hears 2) host_made) [] made_open.table refl),
    (
      inl (
        read_line block (host_by (Hears 3) (host_written block)) (heard 3 (host_written block) (small_written block) (written_open block)),
        all_made (host_by (Hears 3) (host_written block)) [] (written_open block).table refl,
      ),
      (
        inl (
          sync_line block (host_by (Hears 4) (host_read block)) long (heard 4 (host_read block) (small_written block) (read_open block)),
          all_made (host_by (Hears 4) (host_read block)) (calls_along (does small_pool.0 (small_sync block))) (read_open block).table refl,
        ),
        tt,
      ),
    ),
  ),
)

-- Nothing that is assumed of its acts fails.
fair_more : (c : Codec) (first second : List Act) (p : Pool) → AreFair c p first → AreFair c (pool_along first p) second → AreFair c p (first ++ second)
fair_more c [] second p a b = b
fair_more c (act ∷ first) second p a b = (a.0, fair_more c first second (pool_by act p) a.1 b)

does_fair : (c : Codec) (g : ℕ) (vs : List Move) (p : Pool) → AreFair c p (does g vs)
does_fair c g [] p = tt
does_fair c g (v ∷ vs) p = (tt, does_fair c g vs (pool_by (Does g v) p))

-- behind the creation
abbrev pool_made : Pool
pool_made = pool_along (commit_acts Created small_pool.0 small_founding) (pool_of small_born)

made_number : pool_made.pool.0 ≡ small_pool.0
made_number = ap (λ n. n.0) (acts_number (commit_acts Created small_pool.0 small_founding) (pool_of small_born))

put_written : (block : List ℕ) (p : Pool) → p.pool.0 ≡ small_pool.0 → (pool_by (Does small_pool.0 (Puts 0 block)) p).written 0 ≡ block
put_written block p number = ap (λ t. (pool_after (cond t (Accepts 0 block ∷ []) []) p).written 0) (same_number p.pool.0 small_pool.0 number)

pub small_fair : (block : List ℕ) → AreFair (small_codec block) (pool_of small_born) (small_rest block)
small_fair block = fair_more (small_codec block) (commit_acts Created small_pool.0 small_founding) (acts_in (small_later block)) (pool_of small_born)
    (does_fair (small_codec block) small_pool.0 small_founding (pool_of small_born)) (
      tt,
      (
        tt,
        (
          tt,
          (
            (λ number clash. clash.other (sym (put_written block pool_made made_number))),
            (
              tt,
              fair_more (small_codec block) (does small_pool.0 (small_sync block)) [] (pool_by (Does small_pool.0 (Puts 0 block)) pool_made)
                  (does_fair (small_codec block) small_pool.0 (small_sync block) (pool_by (Does small_pool.0 (Puts 0 block)) pool_made)) tt,
            ),
          ),
        ),
      ),
    )

-- The stop.
one_name : (name : List ℕ) (d : ℕ) → number_in name small_table ≡ Some d → name_in small_table d ≡ name
one_name name d is = by (bytes_eq small_device name) refl is
  where
    named_so : (t : Bool) → bytes_eq small_device name ≡ t → t ≡ true → small_device ≡ name
    named_so t same so = (bytes_eq-Decides small_device name).0 (same ∙ so)

    first_one : (d : ℕ) → Some 0 ≡ Some d → name_in small_table d ≡ small_device
    first_one d same = ap (name_in small_table) (sym (some_same 0 d same))

    by : (t : Bool) → bytes_eq small_device name ≡ t → cond t (Some 0) None ≡ Some d → name_in small_table d ≡ name
    by true same at = first_one d at ∙ named_so true same refl
    by false same at = absurd (cc)

small_headline : (block : List ℕ) → length block ≡ 4096
    → Headline (small_codec block) small_born (host_by (Bears small_birth) (host_stamped (host_by (Hears 1) small_host) small_pool.0 (small_stamp ∷ [])))
    (commit_acts Created small_pool.0 small_founding) (small_later block)
unfolding creates
small_headline block long = born_headline (small_codec block) (host_by (Hears 1) small_host) small_name 1 small_tops small_create.acts small_create.reply (small_later block) (creates block)
    (record { number = λ s is. absurd is; names = one_name }) (small_runs block long).1

take_all : {A : Type 0} (xs : List A) → take (length xs) xs ≡ xs
take_all [] = refl
take_all (x ∷ xs) = ap (λ more. x ∷ more) (take_all xs)

pub small_left : (block : List ℕ) → length block ≡ 4096 → Left (small_codec block) (small_past block)
    (host_along (small_rest block) (host_by (Bears small_birth) (host_stamped (host_by (Hears 1) small_host) small_pool.0 (small_stamp ∷ []))))
small_left block long = subst (λ acts. Left (small_codec block) (then_all small_born (history acts (pool_of small_born)))
    (host_along acts (host_by (Bears small_birth) (host_stamped (host_by (Hears 1) small_host) small_pool.0 (small_stamp ∷ []))))) (take_all (small_rest block))
    ((small_headline block long).left (record {
      count = length (small_rest block);
      fair = subst (AreFair (small_codec block) (pool_of small_born)) (sym (take_all (small_rest block))) (small_fair block);
    }))

pub small_stops : (block : List ℕ) (other : ℕ) → length block ≡ 4096 → (pool_of (small_past block)).member other ≡ false
    → BeginsRun (small_codec block) (small_again block other) (small_next block)
small_stops block other long none = let left = small_left block long in
    next_begins (small_codec block) (small_past block) (λ d. d) (name_in small_table) (small_images block) (small_next block) other left.allowed
    (record {
      numbers = (λ d. d, λ d is. refl);
      kept = λ d is. sym (ap (λ called. called d) (then_called small_born (history (small_rest block) (pool_of small_born))));
      here = one_name;
    }) none
    (record {
      crash = λ d is s clean. ap (λ n. (p.sectors n s).stable) (sym (at d is));
      unforged = λ d place u member inside correct. inl (ap (λ n. (p.sectors n (place_at (p.size (now d)) place)).stable) (sym (at d member)));
      disk = λ d s is one. record { stable = refl; still = refl; damage = λ was. subst (λ n. (p.sectors n s).damaged ≡ true) (at d is) was };
      closed = refl;
      unknown = λ d. refl;
    })
  where
    p : Pool
    p = pool_of (small_past block)

    now : ℕ → ℕ
    now = in_size (small_past block) (λ d. d) other (small_next block)

    at : (d : ℕ) → p.member (now d) ≡ true → now d ≡ d
    at d is = (is_in_size (small_past block) (λ d. d) (name_in small_table) (small_next block) other none d is).0
