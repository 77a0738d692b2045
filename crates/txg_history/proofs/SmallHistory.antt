-- The small history is allowed, and its opening finds the record with the block: nothing of it is assumed.
use Rattle.std.proofs.Common.{
  ◌≡◌,
  ◌⊎◌,
  ℕ,
  suc,
  ◌+◌,
  ◌*◌,
  ◌%◌,
  ◌<◌,
  ◌≤◌,
  ◌==◌,
  ◌&&◌,
  nat_lt,
  Bool,
  true,
  false,
  cond,
  List,
  [],
  ◌∷◌,
  ◌++◌,
  length,
  take,
  Option,
  Some,
  None,
  refl,
  sym,
  ap,
  ◌∙◌,
  subst,
  arith,
  inl,
  inr,
  ⊎_elim,
}
use Rattle.std.proofs.lemmas.Bool.Decides.{nat_tests}
use Rattle.std.specs.List.{AllByRecursion}
use Rattle.std.specs.Prelude.{slice_index}
use Rattle.sha2.proofs.Facts256.{length-sha256}
use Rattle.mp_base.specs.declared.place.Key.{Key}
use Rattle.bank_core.specs.Disk.{sector_size, sectors_in}
use Rattle.label_store.proofs.Bare.{length-zeros}
use Rattle.label_store.specs.declared.rule.Head.{Head}
use Rattle.label_store.specs.Layout.{labels_of}
use Rattle.label_store.specs.Records.{AreUnhurt}
use Rattle.label_store.specs.Rounds.{config_of}
use Rattle.txg_history.specs.Branches.{cell_on, branch_cells, IsDay, day_until_round, stop_and_open, FindsJust}
use Rattle.txg_history.specs.Calm.{stable_of}
use Rattle.txg_history.specs.Events.{Event, Freezes, Flushed, calls_of}
use Rattle.txg_history.specs.Moves.{IsLeafOf, IsDrawnUp, Mays}
use Rattle.txg_history.specs.Pages.{sum_of, span, IsOfVolume}
use Rattle.txg_history.specs.Pools.{Pool, drawn, pool_after, seat}
use Rattle.txg_history.specs.Premises.{AreOwnConfigs}
use Rattle.txg_history.specs.Places.{AllHaveNone}
use Rattle.txg_history.specs.Records.{Rec, Cell, Cells, IsIn, number_of, nothing, key, cell_over, block_of}
use Rattle.txg_history.specs.Rounds.{IsRoundEvents, RoundEnds}
use Rattle.txg_history.specs.Small.{numbered, small_guid, small_member, small_codec, small_record, small_pool}
use Rattle.txg_history.specs.Small.{small_made, small_room, small_branch, small_create, small_pointer, below_page, round_well}
use Rattle.txg_history.specs.Small.{small_name, small_head, small_second, small_round, small_history, small_stopped}
use Rattle.txg_history.specs.Survival.{Fits, Survives}
use Rattle.txg_history.specs.Turns.{OnBoard}
use Rattle.txg_history.proofs.Branching.{branch_is, day_may}
use Rattle.txg_history.proofs.Folding.{mays_more}
use Rattle.txg_history.proofs.Freezing.{empty_freeze}
use Rattle.txg_history.proofs.Listing.{only_one}
use Rattle.txg_history.proofs.Logging.{by_bool, true_not_false, same_device}
use Rattle.txg_history.proofs.Branching.{alone, one_apart}
use Rattle.txg_history.proofs.RoundMoves.{round_may, round_ends}
use Rattle.txg_history.proofs.SmallRounds.{round_is, IsGentle, gentle_events, round_gentle}
use Rattle.txg_history.proofs.Stamping.{stamped_survives}
use Rattle.txg_history.proofs.Surviving.{history_survives}

no_cell : {A : Type 0} (cell : Cell) → None ≡ Some cell → A
no_cell cell e = absurd (cc)

numbered_long : (n : ℕ) → length (numbered n) ≡ 4096
numbered_long n = ap suc (length-zeros 4095)

one_sector : (blob : List ℕ) → length blob ≡ 4096 → (length blob % sector_size ≡ 0) × (sectors_in blob ≤ 28)
unfolding sector_size
one_sector blob e = (omega (arith, e), omega (arith, e))

-- A record of a number with keys of the volume's one address, one below the other, fits.
small_fits : (n : ℕ) (cells : Cells) → 1 ≤ n → n ≤ 2 → ((k : Key) (cell : Cell) → cells k ≡ Some cell → IsOfVolume 1 k)
    → small_codec.root (n ∷ []) ≡ sum_of (cells (key 3 0)) → Fits small_codec small_pool.name small_pool.pool small_room (small_record n cells)
small_fits n cells some low inside root = record {
  pool_is = refl;
  is_record = λ m in_range. record {
    in_range = record {
      pool = omega arith;
      member = in_range;
      number = omega (arith, low);
      config = omega arith;
      sum = length-sha256 (n ∷ []);
      no_config = λ none. absurd (omega (arith, some, none));
      no_sum = λ none. absurd (omega (arith, some, none));
    };
    some = some;
    whole = (one_sector (numbered n) (numbered_long n)).0;
    most = (one_sector (numbered n) (numbered_long n)).1;
    within = let e = numbered_long n in omega (arith, e);
    config_is = refl;
    sum = refl;
    headed = record { head = record { pool = small_guid; name = 112 ∷ []; number = record { 0 = n } }; reads = refl; pool_is = refl; number_is = refl };
  };
  name_is = λ head e. head_name head e;
  config = record { room_is = refl; inside = inside; root = root; tops = refl; owes = refl };
}
  where
    head_name : (head : Head) → Some (record { pool = small_guid; name = 112 ∷ []; number = record { 0 = n } }) ≡ Some head → head.name ≡ 112 ∷ []
    head_name head e = cc

small_survives : Survives small_codec small_pool
small_survives = stamped_survives small_codec small_pool.name small_pool.pool small_pool.member small_pool.guid small_pool.size small_pool.room small_pool.home
    small_pool.sectors (record {
      in_range = omega arith;
      guids = λ d is. omega arith;
      sizes = λ d is. omega arith;
      rooms = λ d is. omega arith;
      no_top = refl;
      rings = λ d place is inside. record { still = refl; stands = inl refl };
    })

-- The pool at the round of its first record.
abbrev small_flushed : Pool
small_flushed = pool_after (Freezes (λ k. None) (λ d. 0 == d) ∷ Flushed ∷ []) small_pool

first_group : Mays small_codec small_pool (Freezes (λ k. None) (λ d. 0 == d) ∷ Flushed ∷ [])
first_group = (
  empty_freeze small_codec small_pool (λ d. 0 == d) refl (λ a. refl) (λ d is on. omega arith),
  (record { frozen = refl; all = λ k cell e. no_cell cell e; held = λ d s bytes is n. no_cell n.cell n.cell_is }, tt),
)

first_drawn : IsDrawnUp small_codec small_flushed (small_record 1 (λ k. None))
first_drawn = record {
  frozen = refl;
  flushed = refl;
  fresh = refl;
  fits = small_fits 1 (λ k. None) (omega arith) (omega arith) (λ k cell e. no_cell cell e) refl;
  number_is = refl;
  cells_are = λ k. refl;
  leaves = λ d is. inl (record { top_is = refl; log_is = λ g. log_of d g is });
  boards = λ d is leaf. record { d = 0; is_member = refl; on_board = refl; top_is = refl };
}
  where
    log_of : (d g : ℕ) → (0 == d) ≡ true → false ≡ small_flushed.owes d g
    log_of d g is = subst (λ d. false ≡ small_flushed.owes d g) (same_device 0 d is) refl

abbrev first_record : Rec
first_record = small_record 1 (λ k. None)

first_round : IsRoundEvents small_flushed.size first_record (seat small_flushed 0 ∷ []) (true ∷ []) (round_well 320 first_record small_member)
first_round = round_is small_flushed.size first_record small_member

first_may : Mays small_codec small_flushed (round_well 320 first_record small_member)
first_may = round_may small_codec small_flushed first_record (seat small_flushed 0 ∷ []) (true ∷ []) (round_well 320 first_record small_member)
    (history_survives small_codec (Freezes (λ k. None) (λ d. 0 == d) ∷ Flushed ∷ []) small_pool small_survives first_group) first_drawn
    (alone small_flushed small_flushed 0 (OnBoard small_flushed) refl refl refl (λ d member on. same_device 0 d on))
    (one_apart (seat small_flushed 0)) first_round

create_may : Mays small_codec small_pool small_create
create_may = (first_group.0, (first_group.1.0, first_may))

made_ends : RoundEnds small_flushed small_made first_record true (seat small_flushed 0 ∷ []) (true ∷ []) (calls_of (round_well 320 first_record small_member))
made_ends = round_ends small_flushed.size small_flushed first_record (seat small_flushed 0 ∷ []) (true ∷ [])
    (round_well 320 first_record small_member) first_round

made_none : (k : Key) → small_made.reads.cells k ≡ None
made_none k = ap (λ r. r.cells k) made_ends.reads

pointer_is : (level j : ℕ) → level < 3 → small_pointer (numbered (suc (suc level))) j ≡ sum_of (branch_cells small_branch (key level (64 * 0 + j)))
pointer_is level j low = by_bool (j == 0) (λ here. here_is here)
    (λ away. ap (λ t. cond t (below_page (suc (suc level))) None) away ∙ sym (ap sum_of (away_is away)))
  where
    same_index : 64 * 0 + j ≡ j
    same_index = omega arith

    low_test : nat_lt level 4 ≡ true
    low_test = let lt : level < 4 = omega (arith, low) in grind (arith, nat_tests)

    cell_is : (t : Bool) → (j == 0) ≡ t → branch_cells small_branch (key level (64 * 0 + j)) ≡ cond (t && true) (Some (cell_on small_branch level)) None
    cell_is t is = ap (λ i. cond ((i == 0) && nat_lt level 4) (Some (cell_on small_branch level)) None) same_index
        ∙ (ap (λ t. cond (t && nat_lt level 4) (Some (cell_on small_branch level)) None) is
        ∙ ap (λ u. cond (t && u) (Some (cell_on small_branch level)) None) low_test)

    here_is : (j == 0) ≡ true → small_pointer (numbered (suc (suc level))) j ≡ sum_of (branch_cells small_branch (key level (64 * 0 + j)))
    here_is here = ap (λ t. cond t (below_page (suc (suc level))) None) here ∙ sym (ap sum_of (cell_is true here))

    away_is : (j == 0) ≡ false → branch_cells small_branch (key level (64 * 0 + j)) ≡ None
    away_is away = cell_is false away

small_is_day : IsDay small_codec small_made 0 small_branch
small_is_day = record {
  survives = history_survives small_codec small_create small_pool small_survives create_may;
  opened = made_ends.opened;
  idle = made_ends.frozen;
  is_a = ap (λ f. f 0) made_ends.member;
  a_top = ap (λ f. f 0) made_ends.in_top;
  none = made_none;
  written = λ x. ap (λ f. f x) made_ends.written ∙ sym (ap block_of (made_none (key 0 x)));
  born = sym (ap (λ n. n + 1) made_ends.highest);
  free = λ level low. record {
    opened = made_ends.opened;
    not_read = λ k cell e top at. no_cell cell (sym (made_none k) ∙ e);
    not_frozen = λ frozen. true_not_false small_made.group.frozen frozen made_ends.frozen;
    not_pinned = subst (λ l. AllHaveNone l 1 level) (sym made_ends.pinned) tt;
  };
  inside = subst (λ f. 4 ≤ f 1) (sym made_ends.room) (omega arith);
  long = λ level low. numbered_long (suc level);
  formed = λ level low. refl;
  pages = λ level low j lt. pointer_is level j low;
}

-- The pool at the round of its second record.
abbrev small_day : Pool
small_day = pool_after (day_until_round 0 small_branch) small_made

over_none : (x old : Option Cell) → old ≡ None → x ≡ cell_over x old
over_none (Some cell) old e = refl
over_none None old e = sym e

branch_inside : (k : Key) (cell : Cell) → branch_cells small_branch k ≡ Some cell → IsOfVolume 1 k
branch_inside k cell e = of k.level k.index (branch_is small_branch k cell e).1 (branch_is small_branch k cell e).0
  where
    of : (level index : ℕ) → level < 4 → index ≡ 0 → IsOfVolume 1 (key level index)
    of level index low none = record { low = omega (arith, low); inside = subst (λ i. span level * i < 1) (sym none) (omega arith) }

is_zero : (d : ℕ) → small_made.member d ≡ true → 0 ≡ d
is_zero d is = same_device 0 d (sym (ap (λ f. f d) made_ends.member) ∙ is)

second_drawn : IsDrawnUp small_codec small_day small_second
second_drawn = record {
  frozen = refl;
  flushed = refl;
  fresh = refl;
  fits = subst (λ f. Fits small_codec small_made.name small_made.pool f small_second) (sym made_ends.room)
      (subst (λ n. Fits small_codec small_made.name n small_room small_second) (sym made_ends.pool)
      (subst (λ n. Fits small_codec n small_pool.pool small_room small_second) (sym made_ends.name)
      (small_fits 2 (branch_cells small_branch) (omega arith) (omega arith) branch_inside refl)));
  number_is = sym (ap (λ n. n + 1) made_ends.highest);
  cells_are = λ k. over_none (branch_cells small_branch k) (small_made.reads.cells k) (made_none k);
  leaves = λ d is. inl (subst (IsLeafOf small_day small_second) (is_zero d is) leaf);
  boards = λ d is leaf. record {
    d = 0;
    is_member = ap (λ f. f 0) made_ends.member;
    on_board = refl;
    top_is = ap small_made.in_top (is_zero d is);
  };
}
  where
    leaf : IsLeafOf small_day small_second 0
    leaf = record {
      top_is = ap (λ f. small_second.tops (f 0)) made_ends.guid ∙ sym (ap (λ f. f 0) made_ends.in_top);
      log_is = λ g. ap (λ f. small_second.owes (f 0) g) made_ends.guid ∙ sym (ap (λ f. f 0 g) (made_ends.owes refl));
    }

second_round : IsRoundEvents small_day.size small_second (seat small_day 0 ∷ []) (true ∷ []) small_round
second_round = subst (λ m. IsRoundEvents small_day.size small_second (seat small_day 0 ∷ []) (true ∷ []) (round_well 320 small_second m)) seat_is
    (subst (λ n. IsRoundEvents small_day.size small_second (seat small_day 0 ∷ []) (true ∷ []) (round_well n small_second (seat small_day 0)))
    (ap (λ f. f 0) made_ends.size) (round_is small_day.size small_second (seat small_day 0)))
  where
    seat_is : seat small_day 0 ≡ small_member
    seat_is = ap (λ f. record { dev = 0; guid = f 0 }) made_ends.guid

second_ends : RoundEnds small_day (pool_after small_round small_day) small_second true (seat small_day 0 ∷ []) (true ∷ []) (calls_of small_round)
second_ends = round_ends small_day.size small_day small_second (seat small_day 0 ∷ []) (true ∷ []) small_round second_round

-- No call damaged anything.
small_unhurt : AreUnhurt (small_stopped.size 0) (small_stopped.sectors 0)
small_unhurt label s low few = gentle_events small_round small_day (round_gentle 320 small_second small_member)
    (gentle_events (day_until_round 0 small_branch) small_made day_gentle
    (gentle_events small_create small_pool (tt, (tt, round_gentle 320 first_record small_member)) (λ d s. refl))) 0
    (slice_index (labels_of (small_stopped.size 0)) label + s)
  where
    call : {A : Type 0} → A → (Unit {0} × ((d s : ℕ) → false ≡ false)) × A
    call rest = ((tt, λ d s. refl), rest)

    day_gentle : AllByRecursion IsGentle (day_until_round 0 small_branch)
    day_gentle = (tt, (tt, call (tt, call (tt, call (tt, call (tt, call (tt, tt)))))))

-- A record that was drawn is the first one, without a number, or its configuration is its number alone.
abbrev IsSmall : Rec → Type 0
IsSmall r = (number_of r ≡ 0) ⊎ ((r.commit.length ≡ 1) × (config_of r.commit ≡ number_of r ∷ []))

drawn_small : (r : Rec) → IsIn r (drawn small_stopped) → IsSmall r
drawn_small r i = ⊎_elim (λ e. subst IsSmall (sym e) (inr (refl, refl))) (λ more. before more) (second_ends.drawn_in r i)
  where
    first_ones : IsIn r (nothing small_guid ∷ []) → IsSmall r
    first_ones i = only_one IsSmall (nothing small_guid) r (inl refl) i

    before : IsIn r (drawn small_made) → IsSmall r
    before i = ⊎_elim (λ e. subst IsSmall (sym e) (inr (refl, refl))) first_ones (made_ends.drawn_in r i)

some_one : {A : Type 0} (a b : A) → Some a ≡ Some b → a ≡ b
some_one a b e = cc

no_head : {A : Type 0} (head : Head) → None ≡ Some head → A
no_head head e = absurd (cc)

-- a configuration of one byte is its number
first_byte : (config : List ℕ) (number : ℕ) (blob : List ℕ) (head : Head) → config ≡ take 1 blob → small_head config ≡ Some head → head.number.0 ≡ number
    → config ≡ number ∷ []
first_byte config number [] head e reads is = no_head head (subst (λ c. small_head c ≡ Some head) e reads)
first_byte config number (n ∷ blob) head e reads is = e
    ∙ ap (λ n. n ∷ []) (ap (λ h. h.number.0) (some_one (record { pool = small_guid; name = small_name; number = record { 0 = n } }) head
    (subst (λ c. small_head c ≡ Some head) e reads)) ∙ is)

-- Configurations are told by their numbers, so none has another's sum.
small_own : AreOwnConfigs small_codec.head_of small_stopped (stable_of small_stopped)
small_own r d u config drawn_one member is v same = of (drawn_small r drawn_one)
  where
    number_is : u.number.0 ≡ number_of r
    number_is = ap (λ u. u.number.0) is

    length_is : u.length ≡ r.commit.length
    length_is = ap (λ u. u.length) is

    of : IsSmall r → config ≡ config_of r.commit
    of (inl none) = absurd (let some = v.verified.is_record.some in let e = number_is in omega (arith, some, e, none))
    of (inr (long, own)) = let rec = v.verified.is_record in
        first_byte config u.number.0 v.verified.blob rec.headed.head (rec.config_is ∙ ap (λ n. take n v.verified.blob) (length_is ∙ long)) rec.headed.reads
        (ap (λ n. n.0) rec.headed.number_is)
        ∙ (ap (λ n. n ∷ []) number_is ∙ sym own)

-- the events behind its first commit
abbrev small_rest : List Event
small_rest = day_until_round 0 small_branch ++ (small_round ++ stop_and_open small_second (λ d. 320) (pool_after small_round small_day))

pub small_history_may : Mays small_codec small_pool small_history × FindsJust small_codec small_stopped small_second (numbered 1)
small_history_may = (
  mays_more small_codec small_create small_rest small_pool create_may day.0,
  day.1 made_ends.missed small_unhurt small_own,
)
  where
    day : Mays small_codec small_made small_rest
        × (small_made.missed ≡ [] → AreUnhurt (small_stopped.size 0) (small_stopped.sectors 0)
        → AreOwnConfigs small_codec.head_of small_stopped (stable_of small_stopped) → FindsJust small_codec small_stopped small_second (numbered 1))
    day = day_may small_codec small_made 0 small_branch small_second small_round (λ d. 320) small_is_day second_drawn second_round
