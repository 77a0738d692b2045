-- A read may be made, or its bytes and the block clash; and what it gives is the block.
use Rattle.std.proofs.Common.{◌≡◌, ◌≢◌, ◌⊎◌, inl, inr, ⊎_elim, ℕ, ◌+◌, not, Bool, true, false, cond, Option, Some, None, List, [], ◌∷◌, ◌++◌, map, length, refl, sym, ap, ◌∙◌, subst}
use Rattle.std.specs.List.{AllByRecursion, filter}
use Rattle.std.proofs.lemmas.Bool.{and_parts}
use Rattle.std.specs.Str.{bytes_eq}
use Rattle.std.proofs.lemmas.Slice.Eq.{bytes_eq-Decides}
use Rattle.sha2.specs.Sha256.{sha256}
use Rattle.mp_base.specs.Block.{zero_block}
use Rattle.mp_base.specs.declared.place.Key.{Key}
use Rattle.bank_core.specs.declared.bank.Fault.{Fault}
use Rattle.bank_core.specs.Asks.{Writes, ask_of, asks_of}
use Rattle.bank_core.specs.Disk.{Call, Read, Write, Flush, Admit, Eject, Noted, Sectors, Answers, AllAnswer, as_found, run}
use Rattle.mirror_io.specs.declared.copies.CopyOf.{CopyOf}
use Rattle.mirror_io.specs.Copies.{is_due, tries}
use Rattle.mirror_io.specs.Mirror.{IsHealed}
use Rattle.mirror_io.specs.Reads.{IsReads, rewrites}
use Rattle.txg_history.specs.Events.{Calls, as_events}
use Rattle.txg_history.specs.Groups.{Logs}
use Rattle.txg_history.specs.Moves.{IsSparing, Mays}
use Rattle.txg_history.specs.Pages.{Codec, Sum, sum_of, IsClash}
use Rattle.txg_history.specs.Pools.{Pool, after}
use Rattle.txg_history.specs.Reads.{heals, NoneHeals}
use Rattle.txg_history.specs.Records.{Cell, key, data_start, block_of, block_in, cell_over}
use Rattle.txg_history.specs.Survival.{Survives}
use Rattle.txg_history.proofs.Folding.{with_calls, calls_after, events_more, mays_calls}
use Rattle.txg_history.proofs.Logging.{by_bool, same_device}
use Rattle.txg_history.proofs.Moving.{event_survives}
use Rattle.txg_history.proofs.Showing.{read_damage, stays_damaged}
use Rattle.txg_history.proofs.Surviving.{history_survives}
use Rattle.txg_history.proofs.Writing.{heal_sparing}
use Rattle.vdev_tree.specs.Leaf.{is_up}
use Rattle.pool_moves.specs.Keeping.{IsAway, IsSeated, over, beneath, Kept, Walks}
use Rattle.pool_moves.specs.Leaves.{LeafSeen, Seat, At, Adrift, told, leaf_seen}
use Rattle.pool_moves.specs.Moves.{Move, Makes, after_move, after_moves}
use Rattle.pool_moves.specs.ReadRow.{copy_at, copy_of, stands_under, copies_of, count_reads, RowCopies, ReadReply, Gives, NoAddress, reply_by, ReadRecord, ReadGroup, ReadOpen, RowRead, ClashesWith, made_in}
use Rattle.pool_moves.specs.Showing.{LeafShown, leaf_shown}
use Rattle.pool_moves.specs.States.{group_seen, PoolState, Side, seen}
use Rattle.pool_moves.specs.Walking.{as_moves}
use Rattle.pool_moves.proofs.FreeWalks.{walks_more}
use Rattle.pool_moves.proofs.LineWalks.{IsSet, sets_walk}
use Rattle.pool_moves.proofs.Lists.{all_append, all_filter}
use Rattle.pool_moves.proofs.Tests.{some_same}
use Rattle.txg_history.proofs.LookedParts.{answer_first}

-- A read is always allowed.
pub read_sparing : (p : Pool) (d at : ℕ) (bytes : List ℕ) (fault : Option Fault) → IsSparing p (Read d at bytes fault)
read_sparing p d at bytes fault = record {
  plain = tt;
  firm = λ d s bytes is n. refl;
  soft = λ d s bytes is n. inl refl;
  true_to = λ r d k cell i is at top touched. absurd (let no : false ≡ true = touched in cc);
  known = λ d place is inside touched. absurd (let no : false ≡ true = touched in cc);
}

-- A copy of a block of the record that the pool reads, on a leaf of its top.
pub record IsCopy (member : ℕ → Bool) (in_top : ℕ → ℕ) (owes : Logs) (cell : Cell) (copy : CopyOf) : Type 0 where
  pub is_member : member copy.dev ≡ true
  pub top_is : in_top copy.dev ≡ cell.top
  pub lacks_is : owes copy.dev cell.birth ≡ copy.lacks

-- it gave wrong bytes, and its leaf doesn't owe the block: its sector is damaged
abbrev pub IsHurt : Cell → Sectors → CopyOf → Type 0
IsHurt cell sectors copy = copy.lacks ≡ false → (sectors copy.dev (data_start + cell.sector)).damaged ≡ true

-- only reads and writes are among these calls
abbrev pub IsReadOrWrite : Call → Type 0
IsReadOrWrite (Read d at bytes fault) = Unit {0}
IsReadOrWrite (Write d at bytes fault) = Unit {0}
IsReadOrWrite (Flush d fault) = ⊥
IsReadOrWrite (Admit d holds) = ⊥
IsReadOrWrite (Eject d) = ⊥

pub none_heals : (made : List Noted) (d : ℕ) → AllByRecursion (λ noted. IsReadOrWrite noted.call) made → NoneHeals made d
none_heals [] d all = tt
none_heals (noted ∷ made) d all = (one noted.call all.0, none_heals made d all.1)
  where
    one : (call : Call) → IsReadOrWrite call → heals call d ≡ false
    one (Read e at bytes fault) is = refl
    one (Write e at bytes fault) is = refl
    one call is = absurd is

-- what the reads of some copies may do and leave
pub record AreRead (c : Codec) (p : Pool) (cell : Cell) (made : List Noted) (wrong : List CopyOf) : Type 0 where
  pub may : Mays c p (as_events made)
  pub only : AllByRecursion (λ noted. IsReadOrWrite noted.call) made
  pub hurt : AllByRecursion (IsHurt cell (run made p.sectors)) wrong
  pub are : AllByRecursion (IsCopy p.member p.in_top p.owes cell) wrong

pub read_one : (c : Codec) (p : Pool) (noted : Noted) (d at : ℕ) (bytes : List ℕ) (fault : Option Fault) → noted.call ≡ Read d at bytes fault → IsSparing p noted.call
read_one c p noted d at bytes fault is = subst (IsSparing p) (sym is) (read_sparing p d at bytes fault)

pub plain_one : (noted : Noted) (d at : ℕ) (bytes : List ℕ) (fault : Option Fault) → noted.call ≡ Read d at bytes fault → IsReadOrWrite noted.call
plain_one noted d at bytes fault is = subst IsReadOrWrite (sym is) tt

-- a read that gave wrong bytes of a copy whose leaf doesn't owe the block
pub hurt_one : (c : Codec) (p : Pool) (k : Key) (cell : Cell) (copy : CopyOf) (noted : Noted) (bytes : List ℕ) → Survives c p → p.reads.cells k ≡ Some cell → IsCopy p.member p.in_top p.owes cell copy
    → noted.call ≡ Read copy.dev (data_start + cell.sector) bytes None → length bytes ≡ 4096 → sha256 bytes ≢ sha256 cell.block → Answers (as_found noted p.sectors) noted.call
    → IsHurt cell (after (Calls noted) p).sectors copy
hurt_one c p k cell copy noted bytes sv at is call long other answers lacks =
    read_damage c p noted copy.dev (data_start + cell.sector) bytes cell.block sv is.is_member
    (inr (record { k = k; cell = cell; cell_is = at; top_is = is.top_is; has = is.lacks_is ∙ lacks; at = record { sector_is = refl; bytes_are = refl } })) call long answers (λ same. other (ap sha256 same))

pub copies_read : (c : Codec) (p : Pool) (k : Key) (cell : Cell) (copies : List CopyOf) (made : List Noted) (wrong : List CopyOf) (outcome : Option (List ℕ)) → Survives c p → p.reads.cells k ≡ Some cell
    → AllByRecursion (IsCopy p.member p.in_top p.owes cell) copies → AllAnswer p.sectors made → IsReads (data_start + cell.sector) (sha256 cell.block) copies made wrong outcome → AreRead c p cell made wrong
copies_read c p k cell [] made wrong outcome sv at are answers reads = none made wrong reads.0 reads.1
  where
    none : (made : List Noted) (wrong : List CopyOf) → made ≡ [] → wrong ≡ [] → AreRead c p cell made wrong
    none [] [] a b = record { may = tt; only = tt; hurt = tt; are = tt }
    none (noted ∷ made) wrong a b = absurd (cc)
    none [] (copy ∷ wrong) a b = absurd (cc)
copies_read c p k cell (copy ∷ more) [] wrong outcome sv at are answers reads = absurd reads
copies_read c p k cell (copy ∷ more) (noted ∷ made) wrong outcome sv at are answers (inl (fails, rest)) =
    let call = fails.gives.is in
    let sparing = read_one c p noted copy.dev (data_start + cell.sector) fails.bytes (Some fails.fault) call in
    let later = copies_read c (after (Calls noted) p) k cell more made wrong outcome (event_survives c p (Calls noted) sv sparing) at are.1 answers.1 rest in
    record { may = (sparing, later.may); only = (plain_one noted copy.dev (data_start + cell.sector) fails.bytes (Some fails.fault) call, later.only); hurt = later.hurt; are = later.are }
copies_read c p k cell (copy ∷ more) (noted ∷ made) wrong outcome sv at are answers (inr (inl (others, differs, wrong_is, rest))) =
    let call = differs.gives.is in
    let sparing = read_one c p noted copy.dev (data_start + cell.sector) differs.bytes None call in
    let later = copies_read c (after (Calls noted) p) k cell more made others outcome (event_survives c p (Calls noted) sv sparing) at are.1 answers.1 rest in
    let hurt = hurt_one c p k cell copy noted differs.bytes sv at are.0 call differs.gives.whole differs.other answers.0 in
    record {
      may = (sparing, later.may);
      only = (plain_one noted copy.dev (data_start + cell.sector) differs.bytes None call, later.only);
      hurt = subst (AllByRecursion (IsHurt cell (run made (after (Calls noted) p).sectors))) (sym wrong_is)
          ((λ lacks. stays_damaged made copy.dev (data_start + cell.sector) (after (Calls noted) p).sectors (none_heals made copy.dev later.only) (hurt lacks)), later.hurt);
      are = subst (AllByRecursion (IsCopy p.member p.in_top p.owes cell)) (sym wrong_is) (are.0, later.are);
    }
copies_read c p k cell (copy ∷ more) (noted ∷ made) wrong outcome sv at are answers (inr (inr (bytes, serves, made_is, wrong_is, outcome_is))) =
    let call = serves.gives.is in
    one made wrong made_is wrong_is (read_one c p noted copy.dev (data_start + cell.sector) bytes None call) (plain_one noted copy.dev (data_start + cell.sector) bytes None call)
  where
    one : (made : List Noted) (wrong : List CopyOf) → made ≡ [] → wrong ≡ [] → IsSparing p noted.call → IsReadOrWrite noted.call → AreRead c p cell (noted ∷ made) wrong
    one [] [] a b sparing plain = record { may = (sparing, tt); only = (plain, tt); hurt = tt; are = tt }
    one (noted ∷ made) wrong a b sparing plain = absurd (cc)
    one [] (copy ∷ wrong) a b sparing plain = absurd (cc)

-- a call that asked for a write is one
pub write_call : (call : Call) (d at : ℕ) (bytes : List ℕ) → ask_of call ≡ Writes d at bytes → (fault : Option Fault) × (call ≡ Write d at bytes fault)
write_call (Write e from found fault) d at bytes is = (fault, let a : e ≡ d = cc in let b : from ≡ at = cc in let c : found ≡ bytes = cc in ap (λ x. Write x from found fault) a ∙ (ap (λ x. Write d x found fault) b ∙ ap (λ x. Write d at x fault) c))
write_call call d at bytes is = absurd (cc)

-- The rewriting of the wrong ones.
healed_rest : (cell : Cell) (p : Pool) (noted : Noted) → IsReadOrWrite noted.call → (wrong : List CopyOf) → AllByRecursion (IsHurt cell p.sectors) wrong
    → AllByRecursion (IsHurt cell (after (Calls noted) p).sectors) wrong
healed_rest cell p noted plain [] all = tt
healed_rest cell p noted plain (copy ∷ wrong) all =
    ((λ lacks. stays_damaged (noted ∷ []) copy.dev (data_start + cell.sector) p.sectors (none_heals (noted ∷ []) copy.dev (plain, tt)) (all.0 lacks)), healed_rest cell p noted plain wrong all.1)

heal_first : (c : Codec) (p : Pool) (k : Key) (cell : Cell) (copy : CopyOf) (wrong : List CopyOf) (made : List Noted) → Survives c p → p.reads.cells k ≡ Some cell
    → AllByRecursion (IsCopy p.member p.in_top p.owes cell) (copy ∷ wrong) → AllByRecursion (IsHurt cell p.sectors) (copy ∷ wrong) → copy.lacks ≡ false
    → asks_of made ≡ Writes copy.dev (data_start + cell.sector) cell.block ∷ rewrites (data_start + cell.sector) cell.block (filter (λ copy. not copy.lacks) wrong)
    → ((noted : Noted) (made : List Noted) → IsReadOrWrite noted.call → Survives c (after (Calls noted) p)
    → asks_of made ≡ rewrites (data_start + cell.sector) cell.block (filter (λ copy. not copy.lacks) wrong) → Mays c (after (Calls noted) p) (as_events made))
    → Mays c p (as_events made)
heal_first c p k cell copy wrong [] sv at are hurt has asks rest = absurd (cc)
heal_first c p k cell copy wrong (noted ∷ made) sv at are hurt has asks rest =
    let call = write_call noted.call copy.dev (data_start + cell.sector) cell.block (let a : ask_of noted.call ≡ Writes copy.dev (data_start + cell.sector) cell.block = cc in a) in
    let sparing = subst (IsSparing p) (sym call.1) (heal_sparing c p k cell copy.dev call.0 sv at (λ is. (are.0.top_is, hurt.0 has))) in (
      sparing,
      rest noted made (subst IsReadOrWrite (sym call.1) tt) (event_survives c p (Calls noted) sv sparing)
          (let more : asks_of made ≡ rewrites (data_start + cell.sector) cell.block (filter (λ copy. not copy.lacks) wrong) = cc in more),
    )

pub heals_may : (c : Codec) (p : Pool) (k : Key) (cell : Cell) (wrong : List CopyOf) (made : List Noted) → Survives c p → p.reads.cells k ≡ Some cell
    → AllByRecursion (IsCopy p.member p.in_top p.owes cell) wrong → AllByRecursion (IsHurt cell p.sectors) wrong
    → asks_of made ≡ rewrites (data_start + cell.sector) cell.block (filter (λ copy. not copy.lacks) wrong) → Mays c p (as_events made)
heals_may c p k cell [] [] sv at are hurt asks = tt
heals_may c p k cell [] (noted ∷ made) sv at are hurt asks = absurd (cc)
heals_may c p k cell (copy ∷ wrong) made sv at are hurt asks = by_bool copy.lacks
    (λ lacks. heals_may c p k cell wrong made sv at are.1 hurt.1 (asks ∙ ap (λ t. rewrites (data_start + cell.sector) cell.block (cond (not t) (copy ∷ filter (λ copy. not copy.lacks) wrong) (filter (λ copy. not copy.lacks) wrong))) lacks))
    (λ has. heal_first c p k cell copy wrong made sv at are hurt has (asks ∙ ap (λ t. rewrites (data_start + cell.sector) cell.block (cond (not t) (copy ∷ filter (λ copy. not copy.lacks) wrong) (filter (λ copy. not copy.lacks) wrong))) has)
    (λ noted made plain sv asks. heals_may c (after (Calls noted) p) k cell wrong made sv at are.1 (healed_rest cell p noted plain wrong hurt.1) asks))

-- The copies on the leaves of a top.
abbrev pub IsReadable : Pool → Cell → CopyOf → Type 0
IsReadable p cell copy = copy.readable ≡ true → IsCopy p.member p.in_top p.owes cell copy

pub copy_at_seat : (p : Pool) (cell : Cell) (f : Bool) (seat : Seat) → IsAway seat → IsSeated p.member seat → stands_under cell.top (leaf_seen f (told p) seat) ≡ true
    → IsReadable p cell (copy_of cell.birth (leaf_seen f (told p) seat))
copy_at_seat p cell f (At d true own) away seated under readable = record { is_member = seated; top_is = same_device (p.in_top d) cell.top under; lacks_is = refl }
copy_at_seat p cell f (At d false own) away seated under readable = absurd (let no : false ≡ true = readable in cc)
copy_at_seat p cell f (Adrift leaf) away seated under readable =
    absurd (let no : false ≡ true = sym (ap (λ dev. (copy_at (is_up leaf.own.mode) dev (leaf.owes cell.birth)).readable) away.0) ∙ readable in cc)

pub copies_on : (p : Pool) (cell : Cell) (f : Bool) (seats : List Seat) → AllByRecursion IsAway seats → AllByRecursion (IsSeated p.member) seats
    → AllByRecursion (IsReadable p cell) (map (copy_of cell.birth) (filter (stands_under cell.top) (map (leaf_seen f (told p)) seats)))
copies_on p cell f [] away seated = tt
copies_on p cell f (seat ∷ seats) away seated = step (copies_on p cell f seats away.1 seated.1) (stands_under cell.top (leaf_seen f (told p) seat)) refl
  where
    step : AllByRecursion (IsReadable p cell) (map (copy_of cell.birth) (filter (stands_under cell.top) (map (leaf_seen f (told p)) seats)))
        → (t : Bool) → stands_under cell.top (leaf_seen f (told p) seat) ≡ t
        → AllByRecursion (IsReadable p cell) (map (copy_of cell.birth) (cond t (leaf_seen f (told p) seat ∷ filter (stands_under cell.top) (map (leaf_seen f (told p)) seats)) (filter (stands_under cell.top) (map (leaf_seen f (told p)) seats))))
    step rest true is = (copy_at_seat p cell f seat away.0 seated.0 is, rest)
    step rest false is = rest

pub tried_all : (p : Pool) (cell : Cell) (copies : List CopyOf) → AllByRecursion (IsReadable p cell) copies → AllByRecursion (IsCopy p.member p.in_top p.owes cell) (tries copies)
tried_all p cell copies all = all_append _ (filter (is_due false) copies) (filter (is_due true) copies)
    (all_filter (is_due false) (λ copy is due. is (and_parts copy.readable (not copy.lacks) due).0) copies all)
    (all_filter (is_due true) (λ copy is due. is (and_parts copy.readable copy.lacks due).0) copies all)

-- what a read's outcome is worth
pub outcome_sum : (at : ℕ) (sum : List ℕ) (copies : List CopyOf) (made : List Noted) (wrong : List CopyOf) (bytes : List ℕ) → IsReads at sum copies made wrong (Some bytes) → sha256 bytes ≡ sum
outcome_sum at sum [] made wrong bytes reads = absurd (let no : Some bytes ≡ None = reads.2 in cc)
outcome_sum at sum (copy ∷ more) [] wrong bytes reads = absurd reads
outcome_sum at sum (copy ∷ more) (noted ∷ made) wrong bytes (inl (fails, rest)) = outcome_sum at sum more made wrong bytes rest
outcome_sum at sum (copy ∷ more) (noted ∷ made) wrong bytes (inr (inl (others, differs, wrong_is, rest))) = outcome_sum at sum more made others bytes rest
outcome_sum at sum (copy ∷ more) (noted ∷ made) wrong bytes (inr (inr (found, serves, made_is, wrong_is, outcome_is))) =
    let same : bytes ≡ found = some_same bytes found outcome_is in ap sha256 same ∙ serves.same

-- calls alone, and then what no event tells
pub calls_walk : (c : Codec) (made : List Noted) (t : Side) → Mays c t.pool (as_events made) → Walks c t (as_moves made)
calls_walk c [] t may = tt
calls_walk c (noted ∷ made) t may = (((may.0, tt), tt), calls_walk c made (after_move (Makes noted) t) may.1)

pub read_sets : (sum : List ℕ) (made : List Noted) (leaves : List LeafSeen) → AllByRecursion IsSet (count_reads sum made leaves)
read_sets sum made [] = tt
read_sets sum made (leaf ∷ leaves) = (tt, read_sets sum made leaves)

-- the sum of a key's cell
abbrev pub sum_of_cell : Cell → Sum
sum_of_cell cell = record { birth = cell.birth; top = cell.top; sector = cell.sector; sum = sha256 cell.block }

-- A read of a key of the record: its moves may be made, or the block and these very bytes are two with one sum.
abbrev ClashBy : Cell → Option (List ℕ) → Type 0
ClashBy cell None = ⊥
ClashBy cell (Some bytes) = IsClash cell.block bytes

copies_at : (c : Codec) (t : Side) (k : Key) (cell : Cell) (sum : Sum) (vs : List Move) (outcome : Option (List ℕ)) (s : PoolState) → Kept c s t → t.pool.reads.cells k ≡ Some cell → sum_of (Some cell) ≡ Some sum
    → (row : RowCopies (seen t) sum vs outcome) → AllAnswer t.pool.sectors row.reads → Walks c t vs ⊎ ClashBy cell outcome
copies_at c t k cell sum vs outcome s kept at is row answers = subst Goal (some_same (sum_of_cell cell) sum is) whole row answers
  where
    Goal : Sum → Type 0
    Goal sum = (row : RowCopies (seen t) sum vs outcome) → AllAnswer t.pool.sectors row.reads → Walks c t vs ⊎ ClashBy cell outcome

    whole : (row : RowCopies (seen t) (sum_of_cell cell) vs outcome) → AllAnswer t.pool.sectors row.reads → Walks c t vs ⊎ ClashBy cell outcome
    whole row answers = read_then outcome row.is_read row.is_healed
      where
        are : AreRead c t.pool cell row.reads row.wrong
        are = copies_read c t.pool k cell (tries (copies_of (sum_of_cell cell) (seen t).leaves)) row.reads row.wrong outcome kept.survives at
            (tried_all t.pool cell (copies_of (sum_of_cell cell) (seen t).leaves) (copies_on t.pool cell t.pool.group.frozen t.seats kept.away kept.seated)) answers row.is_read

        walk : Mays c t.pool (as_events (row.reads ++ row.rewrites)) → Walks c t vs
        walk may = subst (Walks c t) (sym row.moves) (walks_more c (as_moves (row.reads ++ row.rewrites)) (count_reads (sum_of_cell cell).sum (row.reads ++ row.rewrites) (filter (stands_under cell.top) (seen t).leaves)) t
            (calls_walk c (row.reads ++ row.rewrites) t may)
            (sets_walk c (count_reads (sum_of_cell cell).sum (row.reads ++ row.rewrites) (filter (stands_under cell.top) (seen t).leaves)) (after_moves (as_moves (row.reads ++ row.rewrites)) t)
            (read_sets (sum_of_cell cell).sum (row.reads ++ row.rewrites) (filter (stands_under cell.top) (seen t).leaves))))

        survives : Survives c (with_calls row.reads t.pool)
        survives = subst (Survives c) (calls_after row.reads t.pool) (history_survives c (as_events row.reads) t.pool kept.survives are.may)

        both : Mays c (with_calls row.reads t.pool) (as_events row.rewrites) → Mays c t.pool (as_events (row.reads ++ row.rewrites))
        both more = subst (Mays c t.pool) (sym (events_more row.reads row.rewrites)) (mays_calls c row.reads (as_events row.rewrites) t.pool are.may more)

        read_then : (outcome : Option (List ℕ)) → IsReads (data_start + cell.sector) (sha256 cell.block) (tries (copies_of (sum_of_cell cell) (seen t).leaves)) row.reads row.wrong outcome
            → IsHealed (data_start + cell.sector) outcome row.wrong row.rewrites → Walks c t vs ⊎ ClashBy cell outcome
        read_then None reads healed = inl (walk (both (subst (λ made. Mays c (with_calls row.reads t.pool) (as_events made)) (sym healed) tt)))
        read_then (Some bytes) reads healed = by_bool (bytes_eq bytes cell.block)
            (λ same. let equal = (bytes_eq-Decides bytes cell.block).0 same in
            inl (walk (both (heals_may c (with_calls row.reads t.pool) k cell row.wrong row.rewrites survives at are.are are.hurt
            (healed ∙ ap (λ b. rewrites (data_start + cell.sector) b (filter (λ copy. not copy.lacks) row.wrong)) equal)))))
            (λ other. inr (record {
              other = λ equal. absurd (let no : true ≡ false = sym ((bytes_eq-Decides bytes cell.block).1 equal) ∙ other in cc);
              same_sum = outcome_sum (data_start + cell.sector) (sha256 cell.block)
                  (tries (copies_of (sum_of_cell cell) (seen t).leaves)) row.reads row.wrong bytes reads;
            }))

-- the reads among a read's calls answer
pub made_calls : (made : List Noted) (vs : List Move) → made_in (as_moves made ++ vs) ≡ made ++ made_in vs
made_calls [] vs = refl
made_calls (noted ∷ made) vs = ap (λ l. noted ∷ l) (made_calls made vs)

answers_first : (reads rewrites : List Noted) (vs : List Move) (sectors : Sectors) → AllAnswer sectors (made_in (as_moves (reads ++ rewrites) ++ vs)) → AllAnswer sectors reads
answers_first reads rewrites vs sectors all = answer_first reads rewrites sectors
    (answer_first (reads ++ rewrites) (made_in vs) sectors
    (subst (AllAnswer sectors) (made_calls (reads ++ rewrites) vs) all))

-- `read`
read_record : (c : Codec) (a : ℕ) (sum : Option Sum) (s : PoolState) (t : Side) (vs : List Move) (reply : ReadReply) → Kept c s t → sum ≡ sum_of (t.pool.reads.cells (key 0 a))
    → AllAnswer t.pool.sectors (made_in vs) → ReadRecord sum (seen t) vs reply → Walks c t vs ⊎ ClashesWith (block_in t.pool.reads.cells a) reply
read_record c a None s t vs reply kept is answers row = inl (subst (Walks c t) (sym row.0) tt)
read_record c a (Some sum) s t vs reply kept is answers row = by_cell (t.pool.reads.cells (key 0 a)) refl
  where
    by_cell : (cell : Option Cell) → t.pool.reads.cells (key 0 a) ≡ cell → Walks c t vs ⊎ ClashesWith (block_in t.pool.reads.cells a) reply
    by_cell None at = absurd (let no : Some sum ≡ None = is ∙ ap sum_of at in cc)
    by_cell (Some cell) at = ⊎_elim (λ walks. inl walks) (λ clash. inr (clash_of row.0 row.2 clash))
        (copies_at c t (key 0 a) cell sum vs row.0 s kept at (sym (is ∙ ap sum_of at)) row.1 (answers_first row.1.reads row.1.rewrites
        (count_reads sum.sum (row.1.reads ++ row.1.rewrites) (filter (stands_under sum.top) (seen t).leaves)) t.pool.sectors (subst (λ l. AllAnswer t.pool.sectors (made_in l)) row.1.moves answers)))
      where
        clash_of : (outcome : Option (List ℕ)) → reply ≡ reply_by (map (leaf_shown row.1.reads) (copies_of sum (seen t).leaves)) outcome → ClashBy cell outcome → ClashesWith (block_in t.pool.reads.cells a) reply
        clash_of None says clash = absurd clash
        clash_of (Some bytes) says clash = subst (ClashesWith (block_in t.pool.reads.cells a)) (sym says) (subst (λ o. IsClash (block_of o) bytes) (sym at) clash)

-- what is beneath an open write: the frozen group's block, else the record's
below_group : (c : Codec) (s : PoolState) (t : Side) (a : ℕ) → Kept c s t → (cell : Option Cell) → (seen t).group.cells (key 0 a) ≡ cell
    → cond t.pool.group.frozen (t.pool.group.content a) (block_in t.pool.reads.cells a) ≡ block_of (cell_over cell (t.pool.reads.cells (key 0 a)))
below_group c s t a kept cell is = by_bool t.pool.group.frozen
    (λ f. ap (λ x. cond x (t.pool.group.content a) (block_in t.pool.reads.cells a)) f ∙ (sym (kept.survives.come_to.contents f a)
    ∙ ap (λ o. block_of (cell_over o (t.pool.reads.cells (key 0 a)))) (sym (ap (λ x. (group_seen x t.pool.group).cells (key 0 a)) f) ∙ is)))
    (λ f. ap (λ x. cond x (t.pool.group.content a) (block_in t.pool.reads.cells a)) f
    ∙ ap (λ o. block_of (cell_over o (t.pool.reads.cells (key 0 a)))) (sym (ap (λ x. (group_seen x t.pool.group).cells (key 0 a)) f) ∙ is))

read_group : (c : Codec) (a : ℕ) (cell : Option Cell) (s : PoolState) (t : Side) (vs : List Move) (reply : ReadReply) → Kept c s t → (seen t).group.cells (key 0 a) ≡ cell
    → t.pool.written a ≡ cond t.pool.group.frozen (t.pool.group.content a) (block_in t.pool.reads.cells a) → AllAnswer t.pool.sectors (made_in vs)
    → ReadGroup cell ((seen t).committed (key 0 a)) (seen t) vs reply → Walks c t vs ⊎ ClashesWith (t.pool.written a) reply
read_group c a (Some cell) s t vs reply kept is below answers row = inl (subst (Walks c t) (sym row.0) tt)
read_group c a None s t vs reply kept is below answers row = subst (λ block. Walks c t vs ⊎ ClashesWith block reply) (sym (below ∙ below_group c s t a kept None is))
    (read_record c a ((seen t).committed (key 0 a)) s t vs reply kept refl answers row)

read_open : (c : Codec) (a : ℕ) (write : Option (List ℕ)) (s : PoolState) (t : Side) (vs : List Move) (reply : ReadReply) → Kept c s t → s.own.writes a ≡ write
    → AllAnswer t.pool.sectors (made_in vs) → ReadOpen write ((seen t).group.cells (key 0 a)) ((seen t).committed (key 0 a)) (seen t) vs reply
    → Walks c t vs ⊎ ClashesWith (t.pool.written a) reply
read_open c a (Some block) s t vs reply kept is answers row = inl (subst (Walks c t) (sym row.0) tt)
read_open c a None s t vs reply kept is answers row = read_group c a ((seen t).group.cells (key 0 a)) s t vs reply kept refl
    (kept.written a ∙ ap (λ w. over w (cond t.pool.group.frozen (t.pool.group.content a) (block_in t.pool.reads.cells a))) is) answers row

read_at : (c : Codec) (s : PoolState) (t : Side) (a : ℕ) (vs : List Move) (reply : ReadReply) → Kept c s t → AllAnswer t.pool.sectors (made_in vs)
    → RowRead (record { own = s.own; core = seen t }) a vs reply → Walks c t vs ⊎ ClashesWith (t.pool.written a) reply
read_at c s t a vs reply kept answers (inl row) = inl (subst (Walks c t) (sym row.1) tt)
read_at c s t a vs reply kept answers (inr row) = read_open c a (s.own.writes a) s t vs reply kept refl answers row.1

pub read_walks : (c : Codec) (s : PoolState) (t : Side) (a : ℕ) (vs : List Move) (reply : ReadReply) → Kept c s t → AllAnswer t.pool.sectors (made_in vs) → RowRead s a vs reply
    → Walks c t vs ⊎ ClashesWith (t.pool.written a) reply
read_walks c s t a vs reply kept answers row = read_at c s t a vs reply kept answers (subst (λ core. RowRead (record { own = s.own; core = core }) a vs reply) kept.core row)

-- What a read gives is the block that was written last, or the two clash.
same_block : (block bytes : List ℕ) → sha256 bytes ≡ sha256 block → (bytes ≡ block) ⊎ IsClash block bytes
same_block block bytes sums = by_bool (bytes_eq bytes block) (λ same. inl ((bytes_eq-Decides bytes block).0 same))
    (λ other. inr (record { other = λ equal. absurd (let no : true ≡ false = sym ((bytes_eq-Decides bytes block).1 equal) ∙ other in cc); same_sum = sums }))

gives_same : (a b : List ℕ) → Gives a ≡ Gives b → a ≡ b
gives_same a b e = cc

right_record : (a : ℕ) (sum : Option Sum) (t : Side) (vs : List Move) (bytes : List ℕ) → sum ≡ sum_of (t.pool.reads.cells (key 0 a)) → ReadRecord sum (seen t) vs (Gives bytes)
    → (bytes ≡ block_in t.pool.reads.cells a) ⊎ IsClash (block_in t.pool.reads.cells a) bytes
right_record a None t vs bytes is row = by_cell (t.pool.reads.cells (key 0 a)) refl
  where
    by_cell : (cell : Option Cell) → t.pool.reads.cells (key 0 a) ≡ cell → (bytes ≡ block_in t.pool.reads.cells a) ⊎ IsClash (block_in t.pool.reads.cells a) bytes
    by_cell None at = inl (gives_same bytes zero_block row.1 ∙ ap block_of (sym at))
    by_cell (Some cell) at = absurd (let no : None ≡ Some (sum_of_cell cell) = is ∙ ap sum_of at in cc)
right_record a (Some sum) t vs bytes is row = by_cell (t.pool.reads.cells (key 0 a)) refl
  where
    given : (shown : List LeafShown) (outcome : Option (List ℕ)) → Gives bytes ≡ reply_by shown outcome → (row : RowCopies (seen t) sum vs outcome) → sha256 bytes ≡ sum.sum
    given shown None says row = absurd (cc)
    given shown (Some found) says row = ap sha256 (gives_same bytes found says)
        ∙ outcome_sum (data_start + sum.sector) sum.sum (tries (copies_of sum (seen t).leaves)) row.reads row.wrong found row.is_read

    by_cell : (cell : Option Cell) → t.pool.reads.cells (key 0 a) ≡ cell → (bytes ≡ block_in t.pool.reads.cells a) ⊎ IsClash (block_in t.pool.reads.cells a) bytes
    by_cell None at = absurd (let no : Some sum ≡ None = is ∙ ap sum_of at in cc)
    by_cell (Some cell) at = subst (λ o. (bytes ≡ block_of o) ⊎ IsClash (block_of o) bytes) (sym at)
        (same_block cell.block bytes (given (map (leaf_shown row.1.reads) (copies_of sum (seen t).leaves)) row.0 row.2 row.1 ∙ ap (λ x. x.sum) (some_same sum (sum_of_cell cell) (is ∙ ap sum_of at))))

right_group : (c : Codec) (a : ℕ) (cell : Option Cell) (s : PoolState) (t : Side) (vs : List Move) (bytes : List ℕ) → Kept c s t → (seen t).group.cells (key 0 a) ≡ cell
    → t.pool.written a ≡ cond t.pool.group.frozen (t.pool.group.content a) (block_in t.pool.reads.cells a)
    → ReadGroup cell ((seen t).committed (key 0 a)) (seen t) vs (Gives bytes) → (bytes ≡ t.pool.written a) ⊎ IsClash (t.pool.written a) bytes
right_group c a (Some cell) s t vs bytes kept is below row = inl (gives_same bytes cell.block row.1 ∙ sym (below ∙ below_group c s t a kept (Some cell) is))
right_group c a None s t vs bytes kept is below row = subst (λ block. (bytes ≡ block) ⊎ IsClash block bytes) (sym (below ∙ below_group c s t a kept None is))
    (right_record a ((seen t).committed (key 0 a)) t vs bytes refl row)

right_open : (c : Codec) (a : ℕ) (write : Option (List ℕ)) (s : PoolState) (t : Side) (vs : List Move) (bytes : List ℕ) → Kept c s t → s.own.writes a ≡ write
    → ReadOpen write ((seen t).group.cells (key 0 a)) ((seen t).committed (key 0 a)) (seen t) vs (Gives bytes) → (bytes ≡ t.pool.written a) ⊎ IsClash (t.pool.written a) bytes
right_open c a (Some block) s t vs bytes kept is row = inl (gives_same bytes block row.1 ∙ sym (kept.written a ∙ ap (λ w. over w (beneath t.pool a)) is))
right_open c a None s t vs bytes kept is row = right_group c a ((seen t).group.cells (key 0 a)) s t vs bytes kept refl
    (kept.written a ∙ ap (λ w. over w (cond t.pool.group.frozen (t.pool.group.content a) (block_in t.pool.reads.cells a))) is) row

right_at : (c : Codec) (s : PoolState) (t : Side) (a : ℕ) (vs : List Move) (bytes : List ℕ) → Kept c s t → RowRead (record { own = s.own; core = seen t }) a vs (Gives bytes)
    → (bytes ≡ t.pool.written a) ⊎ IsClash (t.pool.written a) bytes
right_at c s t a vs bytes kept (inl row) = absurd (let no : Gives bytes ≡ NoAddress s.own.blocks = row.2 in cc)
right_at c s t a vs bytes kept (inr row) = right_open c a (s.own.writes a) s t vs bytes kept refl row.1

pub read_right : (c : Codec) (s : PoolState) (t : Side) (a : ℕ) (vs : List Move) (bytes : List ℕ) → Kept c s t → RowRead s a vs (Gives bytes)
    → (bytes ≡ t.pool.written a) ⊎ IsClash (t.pool.written a) bytes
read_right c s t a vs bytes kept row = right_at c s t a vs bytes kept (subst (λ core. RowRead (record { own = s.own; core = core }) a vs (Gives bytes)) kept.core row)

pub sum_cell : (cell : Option Cell) (sum : Sum) → sum_of cell ≡ Some sum → (x : Cell) × (cell ≡ Some x)
    × (sum_of_cell x ≡ sum)
sum_cell (Some x) sum is = (x, refl, some_same (sum_of_cell x) sum is)
sum_cell None sum is = absurd (cc)
