-- A step of a scan may be made: its walk from its row.
use Rattle.std.proofs.Common.{◌≡◌, ◌⊎◌, inl, inr, ⊎_elim, ℕ, suc, zero, ◌+◌, ◌<◌, ◌≤◌, ◌==◌, ◌&&◌, ◌||◌, nat_lt, nat_le, not, Bool, true, false, cond, Option, Some, None, List, [], ◌∷◌, ◌++◌, map, length, drop, refl, sym, ap, ◌∙◌, subst, arith}
use Rattle.std.specs.List.{AllByRecursion, filter, list_any}
use Rattle.std.specs.Str.{bytes_eq}
use Rattle.std.proofs.lemmas.Bool.{and_parts, or_cases}
use Rattle.std.proofs.lemmas.Bool.Decides.{nat_tests}
use Rattle.std.proofs.lemmas.Slice.Eq.{bytes_eq-Decides}
use Rattle.sha2.specs.Sha256.{sha256}
use Rattle.mp_base.specs.declared.place.Key.{Key}
use Rattle.bank_core.specs.Disk.{Noted, AllAnswer, run}
use Rattle.bank_core.specs.Standing.{Untouched}
use Rattle.mirror_io.specs.declared.copies.CopyOf.{CopyOf}
use Rattle.mirror_io.specs.Copies.{tries}
use Rattle.mirror_io.specs.Mirror.{IsHealed}
use Rattle.mirror_io.specs.Reads.{IsReads}
use Rattle.txg_history.specs.Events.{as_events}
use Rattle.txg_history.specs.Groups.{grown}
use Rattle.txg_history.specs.Moves.{WasCopied, Mays, MayPass}
use Rattle.txg_history.specs.Pages.{Codec, Sum, sum_of}
use Rattle.txg_history.specs.Pools.{Pool, pool_after}
use Rattle.txg_history.specs.Records.{Cell, data_start}
use Rattle.txg_history.specs.Scans.{up_to}
use Rattle.txg_history.specs.Survival.{Survives}
use Rattle.txg_history.proofs.Folding.{with_calls, calls_after, calls_then, events_more, mays_calls}
use Rattle.txg_history.proofs.Logging.{by_bool, same_device, true_not_false, grown_more, grown_in, grown_of}
use Rattle.txg_history.proofs.Surviving.{history_survives}
use Rattle.pool_moves.specs.FreezeRow.{IsBefore, is_dev}
use Rattle.pool_moves.specs.Keeping.{IsAway, Kept, Walks}
use Rattle.pool_moves.specs.Leaves.{LeafSeen, Seat, At, Adrift, told, leaf_seen}
use Rattle.pool_moves.specs.Moves.{Move, Sets, Pass, after_move, after_moves}
use Rattle.pool_moves.specs.ReadRow.{copies_of, stands_under, count_reads, made_in}
use Rattle.pool_moves.specs.ScanRows.{first_reads, IsNextKey, targets, AreCopied, untried, LooksBy, AreStepCalls, reads_key, StepCalls, has_copied, is_spared, is_scrubbed, RowKey, WereRead, FoundClash}
use Rattle.pool_moves.specs.States.{PoolSeen, PoolState, Side, seen_by}
use Rattle.pool_moves.specs.Walking.{as_moves}
use Rattle.pool_moves.proofs.FreeWalks.{walks_more, calls_pool}
use Rattle.pool_moves.proofs.LineWalks.{sets_walk}
use Rattle.pool_moves.proofs.ReadWalks.{IsCopy, AreRead, copies_read, heals_may, copies_on, tried_all, calls_walk, read_sets, outcome_sum, made_calls, sum_of_cell, sum_cell}
use Rattle.pool_moves.proofs.ScanCalls.{outcome_first, first_longer, copies_may, looks_may, AreOthers, looks_untouched, copied_at, targets_are, targets_apart}
use Rattle.pool_moves.proofs.Lists.{all_filter}
use Rattle.pool_moves.proofs.Tests.{same_test, lt_of}
use Rattle.txg_history.proofs.LookedParts.{answer_first, answer_second}
use Rattle.txg_history.proofs.Branching.{keys_one}

-- The state while a scan runs.
running_of : (r : Bool) (s : PoolSeen) (t : Side) → s ≡ seen_by t.pool.group.frozen r t.seats t.pool → s.scan.running ≡ true → r ≡ true
running_of true s t core is = refl
running_of false s t core is = absurd (let never : false ≡ true = sym (ap (λ c. c.scan.running) core) ∙ is in cc)

pub is_running : (c : Codec) (s : PoolState) (t : Side) → Kept c s t → s.core.scan.running ≡ true → t.pool.scan.running ≡ true
is_running c s t kept is = running_of t.pool.scan.running s.core t kept.core is

abbrev pub scan_core : Side → PoolSeen
scan_core t = seen_by t.pool.group.frozen true t.seats t.pool

pub seen_running : (c : Codec) (s : PoolState) (t : Side) → Kept c s t → t.pool.scan.running ≡ true → s.core ≡ scan_core t
seen_running c s t kept r = kept.core ∙ ap (λ x. seen_by t.pool.group.frozen x t.seats t.pool) r

-- The order of keys.
at_most_is : (a b : ℕ) → nat_le a b ≡ true → (a < b) ⊎ (a ≡ b)
at_most_is a b is = let low : a ≤ b = grind (arith, nat_tests) in grind (arith)

up_to_is : (k j : Key) → up_to k j ≡ true → IsBefore j k ⊎ (j ≡ k)
up_to_is k j is = ⊎_elim (λ lower. inl (inl (lt_of j.level k.level lower)))
    (λ level. let parts = and_parts (j.level == k.level) (nat_le j.index k.index) level in let same = same_device j.level k.level parts.0 in
    ⊎_elim (λ less. inl (inr (same, less))) (λ index. inr (keys_one j k same index))
    (at_most_is j.index k.index parts.1))
    (or_cases (nat_lt j.level k.level) ((j.level == k.level) && nat_le j.index k.index) is)

-- Behind calls, and behind the counts of leaves.
counts_pool : (sum : List ℕ) (made : List Noted) (leaves : List LeafSeen) (t : Side) → (after_moves (count_reads sum made leaves) t).pool ≡ t.pool
counts_pool sum made [] t = refl
counts_pool sum made (leaf ∷ leaves) t = counts_pool sum made leaves (after_move (Sets leaf.guid _) t)

more_calls : (first second : List Noted) (p : Pool) → pool_after (as_events (first ++ second)) p ≡ pool_after (as_events second) (with_calls first p)
more_calls first second p = ap (λ l. pool_after l p) (events_more first second) ∙ calls_then first (as_events second) p

mays_both : (c : Codec) (first second : List Noted) (p : Pool) → Mays c p (as_events first) → Mays c (with_calls first p) (as_events second)
    → Mays c p (as_events (first ++ second))
mays_both c first second p a b = subst (Mays c p) (sym (events_more first second)) (mays_calls c first (as_events second) p a b)

behind_calls : (c : Codec) (made : List Noted) (p : Pool) → Survives c p → Mays c p (as_events made) → Survives c (with_calls made p)
behind_calls c made p sv may = subst (Survives c) (calls_after made p) (history_survives c (as_events made) p sv may)

-- The scan may come past the key.
abbrev IsBrought : Pool → Cell → (behind : Pool) → (which : ℕ → Bool) → Type 0
IsBrought p cell behind which = (d : ℕ) → p.scan.eligible d ≡ true → p.in_top d ≡ cell.top → which d ≡ false → (p.owes d cell.birth ≡ false) ⊎ WasCopied behind d cell

between_one : (b g : ℕ) → b ≤ g → g ≤ b → g ≡ b
between_one b g low high = omega (arith, low, high)

may_pass : (c : Codec) (p : Pool) (made : List Noted) (k : Key) (cell : Cell) (which : ℕ → Bool) → p.scan.running ≡ true → p.reads.cells k ≡ Some cell
    → cell.birth ≤ p.scan.hi
    → p.scan.passed k ≡ false → ((j : Key) (other : Cell) → p.reads.cells j ≡ Some other → other.birth ≤ p.scan.hi → p.scan.passed j ≡ false → IsBefore j k → ⊥)
    → IsBrought p cell (with_calls made p) which → MayPass (with_calls made p) k (grown which cell.birth cell.birth p.scan.scrub)
may_pass c p made k cell which running at low ahead least brought = record {
  running = running;
  cell = cell;
  cell_is = at;
  low = low;
  new = ahead;
  next = λ j other up passed there born. ⊎_elim (λ before. absurd (least j other there born passed before)) (λ same. same) (up_to_is k j up);
  more = λ d g is. grown_more which cell.birth cell.birth p.scan.scrub d g is;
  only = λ d g is. ⊎_elim (λ new. inr (between_one cell.birth g new.1 new.2)) (λ old. inl old) (grown_of which cell.birth cell.birth p.scan.scrub d g is);
  each = λ d mine eligible top. by_bool (which d)
      (λ on. inr (inl (grown_in which cell.birth cell.birth p.scan.scrub d cell.birth on (omega arith) (omega arith))))
      (λ off. ⊎_elim (λ has. inl has) (λ copied. inr (inr copied)) (brought d eligible top off));
}

-- the moves of a step, where its calls may be made
key_walk : (c : Codec) (s : PoolState) (t : Side) (calls : List Noted) (k : Key) (cell : Cell) (leaves : List LeafSeen) (which : ℕ → Bool)
    → t.pool.scan.running ≡ true
    → t.pool.reads.cells k ≡ Some cell → IsNextKey (scan_core t) k (sum_of_cell cell) → Mays c t.pool (as_events calls)
    → IsBrought t.pool cell (with_calls calls t.pool) which
    → Walks c t (as_moves calls ++ (count_reads (sha256 cell.block) calls leaves ++ (Pass k cell.birth which ∷ [])))
key_walk c s t calls k cell leaves which running at next may brought =
    walks_more c (as_moves calls) (count_reads (sha256 cell.block) calls leaves ++ (Pass k cell.birth which ∷ [])) t (calls_walk c calls t may)
    (walks_more c (count_reads (sha256 cell.block) calls leaves) (Pass k cell.birth which ∷ []) called
    (sets_walk c (count_reads (sha256 cell.block) calls leaves) called (read_sets (sha256 cell.block) calls leaves)) (
      subst Passing (sym same) (
        (
          may_pass c t.pool calls k cell which running at next.low next.ahead
              (λ j other there born passed before. next.least j (sum_of_cell other) (ap sum_of there) born passed before) brought,
          tt,
        ),
        running,
      ),
      tt,
    ))
  where
    called : Side
    called = after_moves (as_moves calls) t

    same : (after_moves (count_reads (sha256 cell.block) calls leaves) (after_moves (as_moves calls) t)).pool ≡ with_calls calls t.pool
    same = counts_pool (sha256 cell.block) calls leaves (after_moves (as_moves calls) t) ∙ calls_pool calls t

    Passing : Pool → Type 0
    Passing p = (MayPass p k (grown which cell.birth cell.birth p.scan.scrub) × Unit {0}) × (p.scan.running ≡ true)

-- Leaves that are spared have the key or got it.
not_cases : (eligible t : Bool) → eligible ≡ true → (eligible && not t) ≡ false → t ≡ true
not_cases true true on is = refl
not_cases true false on is = absurd (cc)
not_cases false t on is = absurd (cc)

has_or_copied : (owes copied : Bool) → cond owes copied true ≡ true → (owes ≡ false) ⊎ (copied ≡ true)
has_or_copied true copied is = inr is
has_or_copied false copied is = inl refl

spared_here : (owes copied rest : Bool) (a b : ℕ) → a ≡ b → (not (a == b) || (cond owes copied true && rest)) ≡ true → (owes ≡ false) ⊎ (copied ≡ true)
spared_here owes copied rest a b same is = has_or_copied owes copied (and_parts (cond owes copied true) rest
    (sym (ap (λ t. not t || (cond owes copied true && rest)) (same_test a b same)) ∙ is)).0

abbrev HasOrGot : Pool → Cell → (copied : List Noted) → (d : ℕ) → Type 0
HasOrGot p cell copied d = (p.owes d cell.birth ≡ false) ⊎ (has_copied (Some d) copied ≡ true)

spared_seat : (p : Pool) (cell : Cell) (f scrubs : Bool) (calls copied : List Noted) (d : ℕ) (seat : Seat) → IsAway seat → p.in_top d ≡ cell.top
    → (is_dev d (leaf_seen f (told p) seat).dev && is_spared scrubs (sum_of_cell cell) calls copied (leaf_seen f (told p) seat)) ≡ true
    → HasOrGot p cell copied d
spared_seat p cell f scrubs calls copied d (At e true own) away top is =
    let parts = and_parts (d == e) (is_spared scrubs (sum_of_cell cell) calls copied (leaf_seen f (told p) (At e true own))) is in
    let same = same_device d e parts.0 in
    subst (HasOrGot p cell copied) (sym same)
    (spared_here (p.owes e cell.birth) (has_copied (Some e) copied) _ (p.in_top e) cell.top (subst (λ n. p.in_top n ≡ cell.top) same top) parts.1)
spared_seat p cell f scrubs calls copied d (At e false own) away top is = absurd (let never : false ≡ true = is in cc)
spared_seat p cell f scrubs calls copied d (Adrift leaf) away top is =
    absurd (let never : false ≡ true = sym (ap (is_dev d) away.0) ∙ (and_parts (is_dev d leaf.dev)
    (is_spared scrubs (sum_of_cell cell) calls copied leaf) is).0 in cc)

spared_at : (p : Pool) (cell : Cell) (f scrubs : Bool) (calls copied : List Noted) (d : ℕ) (seats : List Seat) → AllByRecursion IsAway seats
    → p.in_top d ≡ cell.top
    → list_any (λ leaf. is_dev d leaf.dev && is_spared scrubs (sum_of_cell cell) calls copied leaf) (map (leaf_seen f (told p)) seats) ≡ true
    → HasOrGot p cell copied d
spared_at p cell f scrubs calls copied d [] away top is = absurd (cc)
spared_at p cell f scrubs calls copied d (seat ∷ seats) away top is = ⊎_elim (λ here. spared_seat p cell f scrubs calls copied d seat away.0 top here)
    (λ more. spared_at p cell f scrubs calls copied d seats away.1 top more)
    (or_cases (is_dev d (leaf_seen f (told p) seat).dev && is_spared scrubs (sum_of_cell cell) calls copied
    (leaf_seen f (told p) seat))
    (list_any (λ leaf. is_dev d leaf.dev && is_spared scrubs (sum_of_cell cell) calls copied leaf) (map (leaf_seen f (told p)) seats)) is)

-- A step that makes no call.
no_copies : (d : ℕ) (copied : List Noted) → copied ≡ [] → has_copied (Some d) copied ≡ false
no_copies d copied none = ap (has_copied (Some d)) none

quiet_brought : (t : Side) (cell : Cell) (scrubs : Bool) (calls copied : List Noted) → AllByRecursion IsAway t.seats → copied ≡ []
    → IsBrought t.pool cell (with_calls calls t.pool) (is_scrubbed scrubs (scan_core t) (sum_of_cell cell) calls copied)
quiet_brought t cell scrubs calls copied away none d on top off =
    ⊎_elim (λ has. inl has) (λ got. true_not_false (has_copied (Some d) copied) got (no_copies d copied none))
    (spared_at t.pool cell t.pool.group.frozen scrubs calls copied d t.seats away top (not_cases _ _ on off))

-- A step that reads its key.
all_drop : {A : Type 0} (P : A → Type 0) (n : ℕ) (xs : List A) → AllByRecursion P xs → AllByRecursion P (drop n xs)
all_drop P zero xs all = all
all_drop P (suc n) [] all = tt
all_drop P (suc n) (x ∷ xs) all = all_drop P n xs all.1

not_lacks : (t : Bool) → not t ≡ true → t ≡ false
not_lacks true is = absurd (cc)
not_lacks false is = refl

untried_are : (p : Pool) (cell : Cell) (copies : List CopyOf) (reads : List Noted) → AllByRecursion (IsCopy p.member p.in_top p.owes cell) (tries copies)
    → AllByRecursion (IsCopy p.member p.in_top p.owes cell) (untried copies reads)
untried_are p cell copies reads all = all_filter (λ copy. not copy.lacks) (λ copy is has. is)
    (drop (length reads) (tries copies)) (all_drop (IsCopy p.member p.in_top p.owes cell) (length reads) (tries copies) all)

all_any : {A : Type 0} (xs : List A) → AllByRecursion (λ x. Unit {0}) xs
all_any [] = tt
all_any (x ∷ xs) = (tt, all_any xs)

untried_have : (copies : List CopyOf) (reads : List Noted) → AllByRecursion (λ copy. copy.lacks ≡ false) (untried copies reads)
untried_have copies reads = all_filter (λ copy. not copy.lacks) (λ copy is has. not_lacks copy.lacks has)
    (drop (length reads) (tries copies)) (all_any (drop (length reads) (tries copies)))

-- a leaf that owes the key has none of these copies
others_of : (p : Pool) (cell : Cell) (d : ℕ) (copies : List CopyOf) → p.owes d cell.birth ≡ true → AllByRecursion (IsCopy p.member p.in_top p.owes cell) copies
    → AllByRecursion (λ copy. copy.lacks ≡ false) copies → AreOthers d copies
others_of p cell d [] owes are have = tt
others_of p cell d (copy ∷ copies) owes are have = (
  by_bool (copy.dev == d) (λ same. true_not_false (p.owes d cell.birth) owes
      (subst (λ n. p.owes n cell.birth ≡ false) (same_device copy.dev d same) (are.0.lacks_is ∙ have.0))) (λ off. off),
  others_of p cell d copies owes are.1 have.1,
)

-- what a step's calls are, and where a good copy was found
record IsGood (c : Codec) (t : Side) (cell : Cell) (calls copied : List Noted) : Type 0 where
  pub may : Mays c t.pool (as_events calls)
  pub got : (d : ℕ) → t.pool.owes d cell.birth ≡ true → has_copied (Some d) copied ≡ true → WasCopied (with_calls calls t.pool) d cell

good_brought : (c : Codec) (t : Side) (cell : Cell) (scrubs : Bool) (calls copied : List Noted) → AllByRecursion IsAway t.seats → IsGood c t cell calls copied
    → IsBrought t.pool cell (with_calls calls t.pool) (is_scrubbed scrubs (scan_core t) (sum_of_cell cell) calls copied)
good_brought c t cell scrubs calls copied away good d on top off = by_bool (t.pool.owes d cell.birth)
    (λ owes. ⊎_elim (λ has. inl has) (λ got. inr (good.got d owes got))
    (spared_at t.pool cell t.pool.group.frozen scrubs calls copied d t.seats away top (not_cases _ _ on off)))
    (λ has. inl has)

looks_by : (c : Codec) (p : Pool) (k : Key) (cell : Cell) (scrubs : Bool) (copies : List CopyOf) (looks : List Noted) → Survives c p
    → p.reads.cells k ≡ Some cell
    → AllByRecursion (IsCopy p.member p.in_top p.owes cell) copies → AllByRecursion (λ copy. copy.lacks ≡ false) copies → AllAnswer p.sectors looks
    → LooksBy scrubs (data_start + cell.sector) (sha256 cell.block) (Some cell.block) copies looks → Mays c p (as_events looks)
looks_by c p k cell true copies looks sv at are have answers is = looks_may c p k cell copies looks sv at are have answers is
looks_by c p k cell false copies looks sv at are have answers is = subst (λ made. Mays c p (as_events made)) (sym is) tt

looks_off : (cell : Cell) (scrubs : Bool) (copies : List CopyOf) (looks : List Noted) (d : ℕ) → AreOthers d copies
    → LooksBy scrubs (data_start + cell.sector) (sha256 cell.block) (Some cell.block) copies looks → Untouched looks d (data_start + cell.sector)
looks_off cell true copies looks d others is =
    looks_untouched (data_start + cell.sector) (sha256 cell.block) cell.block copies looks d (data_start + cell.sector) others is
looks_off cell false copies looks d others is = subst (λ made. Untouched made d (data_start + cell.sector)) (sym is) tt

-- where a good copy was found, and it is the block
found_good : (c : Codec) (s : PoolState) (t : Side) (k : Key) (cell : Cell) (scrubs : Bool) (reads rewritten copied looks : List Noted) (wrong : List CopyOf)
    → Kept c s t
    → t.pool.reads.cells k ≡ Some cell → t.pool.scan.passed k ≡ false → AllAnswer t.pool.sectors (reads ++ (rewritten ++ (copied ++ looks)))
    → IsReads (data_start + cell.sector) (sha256 cell.block) (tries (copies_of (sum_of_cell cell) (scan_core t).leaves)) reads wrong (Some cell.block)
    → IsHealed (data_start + cell.sector) (Some cell.block) wrong rewritten
    → AreCopied (data_start + cell.sector) (Some cell.block) (targets (sum_of_cell cell) (scan_core t).leaves) copied
    → LooksBy scrubs (data_start + cell.sector) (sha256 cell.block) (Some cell.block) (untried (copies_of (sum_of_cell cell) (scan_core t).leaves) reads) looks
    → IsGood c t cell (reads ++ (rewritten ++ (copied ++ looks))) copied
found_good c s t k cell scrubs reads rewritten copied looks wrong kept at ahead answers is_read is_healed is_copied
    is_looked =
    let p : Pool = t.pool in
    let sum = sum_of_cell cell in
    let tried = tried_all t.pool cell (copies_of sum (scan_core t).leaves)
    (copies_on t.pool cell t.pool.group.frozen t.seats kept.away kept.seated) in
    let are : AreRead c t.pool cell reads wrong = copies_read c t.pool k cell
    (tries (copies_of sum (scan_core t).leaves)) reads wrong (Some cell.block) kept.survives at tried
    (answer_first reads (rewritten ++ (copied ++ looks)) t.pool.sectors answers) is_read in
    let first = behind_calls c reads t.pool kept.survives are.may in
    let healed = heals_may c (with_calls reads t.pool) k cell wrong rewritten first at are.are are.hurt is_healed in
    let second = behind_calls c rewritten (with_calls reads t.pool) first healed in
    let copies : Mays c (with_calls rewritten (with_calls reads t.pool)) (as_events copied) = copies_may c
    (with_calls rewritten (with_calls reads t.pool)) k cell (targets sum (scan_core t).leaves) copied second at
    ahead
    (targets_are t.pool cell sum t.pool.group.frozen t.seats refl refl kept.away kept.seated) is_copied in
    let behind : with_calls (reads ++ (rewritten ++ (copied ++ looks))) t.pool
    ≡ pool_after (as_events (copied ++ looks)) (with_calls rewritten (with_calls reads t.pool)) = sym
    (calls_after (reads ++ (rewritten ++ (copied ++ looks))) t.pool)
    ∙ (more_calls reads (rewritten ++ (copied ++ looks)) t.pool
    ∙ more_calls rewritten (copied ++ looks) (with_calls reads t.pool)) in
    record {
      may = mays_both c reads (rewritten ++ (copied ++ looks)) p are.may
          (mays_both c rewritten (copied ++ looks) (with_calls reads p) healed
          (mays_both c copied looks (with_calls rewritten (with_calls reads p)) copies
          (looks_by c (with_calls copied (with_calls rewritten (with_calls reads p))) k cell scrubs
          (untried (copies_of sum (scan_core t).leaves) reads) looks
          (behind_calls c copied (with_calls rewritten (with_calls reads p)) second copies) at
          (untried_are p cell (copies_of sum (scan_core t).leaves) reads tried)
          (untried_have (copies_of sum (scan_core t).leaves) reads)
          (answer_second copied looks (run rewritten (run reads p.sectors))
          (answer_second rewritten (copied ++ looks) (run reads p.sectors)
          (answer_second reads (rewritten ++ (copied ++ looks)) p.sectors answers))) is_looked)));
      got = λ d owes ok. subst (λ q. WasCopied q d cell) (sym behind)
          (copied_at (with_calls rewritten (with_calls reads p)) cell d (targets sum (scan_core t).leaves) copied looks
          (kept.survives.one_key.mapped t.pool.reads k cell kept.survives.order.reads_live at).long
          (targets_apart p sum t.pool.group.frozen t.seats kept.away kept.apart) is_copied ok
          (looks_off cell scrubs (untried (copies_of sum (scan_core t).leaves) reads) looks d
          (others_of p cell d (untried (copies_of sum (scan_core t).leaves) reads) owes
          (untried_are p cell (copies_of sum (scan_core t).leaves) reads tried)
          (untried_have (copies_of sum (scan_core t).leaves) reads)) is_looked));
    }

-- where none was found, only reads were made
none_good : (c : Codec) (s : PoolState) (t : Side) (k : Key) (cell : Cell) (reads : List Noted) (wrong : List CopyOf) → Kept c s t
    → t.pool.reads.cells k ≡ Some cell
    → AllAnswer t.pool.sectors reads → IsReads (data_start + cell.sector) (sha256 cell.block)
    (tries (copies_of (sum_of_cell cell) (scan_core t).leaves)) reads wrong None → Mays c t.pool (as_events reads)
none_good c s t k cell reads wrong kept at answers is_read =
    (copies_read c t.pool k cell (tries (copies_of (sum_of_cell cell) (scan_core t).leaves)) reads wrong None kept.survives at
    (tried_all t.pool cell (copies_of (sum_of_cell cell) (scan_core t).leaves) (copies_on t.pool cell t.pool.group.frozen t.seats kept.away kept.seated))
    answers is_read).may

no_looks : (scrubs : Bool) (at : ℕ) (sum : List ℕ) (copies : List CopyOf) (looks : List Noted) → LooksBy scrubs at sum None copies looks → looks ≡ []
no_looks true at sum copies looks is = is
no_looks false at sum copies looks is = is

-- The calls of a step that reads its key.
step_calls : (c : Codec) (s : PoolState) (t : Side) (k : Key) (cell : Cell) (scrubs : Bool) (calls copied : List Noted) → Kept c s t
    → t.pool.reads.cells k ≡ Some cell
    → t.pool.scan.passed k ≡ false → AllAnswer t.pool.sectors calls → AreStepCalls scrubs (scan_core t) (sum_of_cell cell) calls copied
    → IsGood c t cell calls copied ⊎ FoundClash t.pool (first_reads calls)
step_calls c s t k cell scrubs calls copied kept at ahead answers row = by_outcome row.outcome row.is_read row.is_healed row.is_copied row.is_looked
  where
    split : AllAnswer t.pool.sectors (row.reads ++ (row.rewritten ++ (copied ++ row.looks)))
    split = subst (AllAnswer t.pool.sectors) row.all answers

    nothing_copied : {A : Type 0} (d : ℕ) (made : List Noted) → made ≡ [] → has_copied (Some d) made ≡ true → A
    nothing_copied d made none ok = true_not_false (has_copied (Some d) made) ok (no_copies d made none)

    by_outcome : (outcome : Option (List ℕ)) → IsReads (data_start + cell.sector) (sha256 cell.block)
        (tries (copies_of (sum_of_cell cell) (scan_core t).leaves)) row.reads row.wrong outcome
        → IsHealed (data_start + cell.sector) outcome row.wrong row.rewritten
        → AreCopied (data_start + cell.sector) outcome (targets (sum_of_cell cell) (scan_core t).leaves) copied
        → LooksBy scrubs (data_start + cell.sector) (sha256 cell.block) outcome
        (untried (copies_of (sum_of_cell cell) (scan_core t).leaves) row.reads) row.looks
        → IsGood c t cell calls copied ⊎ FoundClash t.pool (first_reads calls)
    by_outcome None reads healed copies looks = inl (record {
      may = subst (λ made. Mays c t.pool (as_events made)) (sym row.all) (mays_both c row.reads (row.rewritten ++ (copied ++ row.looks)) t.pool
          (none_good c s t k cell row.reads row.wrong kept at
          (answer_first row.reads (row.rewritten ++ (copied ++ row.looks)) t.pool.sectors split) reads)
          (subst (λ made. Mays c (with_calls row.reads t.pool) (as_events (made ++ (copied ++ row.looks)))) (sym healed)
          (subst (λ made. Mays c (with_calls row.reads t.pool) (as_events (made ++ row.looks))) (sym copies)
          (subst (λ made. Mays c (with_calls row.reads t.pool) (as_events made))
          (sym (no_looks scrubs (data_start + cell.sector) (sha256 cell.block)
          (untried (copies_of (sum_of_cell cell) (scan_core t).leaves) row.reads) row.looks looks)) tt))));
      got = λ d owes ok. nothing_copied d copied copies ok;
    })
    by_outcome (Some bytes) reads healed copies looks = by_bool (bytes_eq bytes cell.block)
        (λ same. let equal = (bytes_eq-Decides bytes cell.block).0 same in
        inl (subst (λ made. IsGood c t cell made copied) (sym row.all)
        (found_good c s t k cell scrubs row.reads row.rewritten copied row.looks row.wrong kept at ahead split
        (subst (λ b. IsReads (data_start + cell.sector) (sha256 cell.block) (tries (copies_of (sum_of_cell cell) (scan_core t).leaves)) row.reads row.wrong
        (Some b)) equal reads)
        (subst (λ b. IsHealed (data_start + cell.sector) (Some b) row.wrong row.rewritten) equal healed)
        (subst (λ b. AreCopied (data_start + cell.sector) (Some b) (targets (sum_of_cell cell) (scan_core t).leaves) copied) equal copies)
        (subst (λ b. LooksBy scrubs (data_start + cell.sector) (sha256 cell.block) (Some b)
        (untried (copies_of (sum_of_cell cell) (scan_core t).leaves) row.reads) row.looks) equal looks))))
        (λ other. inr (record {
          k = k;
          cell = cell;
          cell_is = at;
          bytes = bytes;
          read = subst (λ made. WereRead bytes (first_reads made)) (sym row.all) (outcome_first (data_start + cell.sector) (sha256 cell.block)
              (tries (copies_of (sum_of_cell cell) (scan_core t).leaves)) row.reads (row.rewritten ++ (copied ++ row.looks)) row.wrong bytes reads);
          clash = record {
            other = λ equal. absurd (let never : true ≡ false = sym ((bytes_eq-Decides bytes cell.block).1 equal) ∙ other in cc);
            same_sum = outcome_sum (data_start + cell.sector) (sha256 cell.block)
                (tries (copies_of (sum_of_cell cell) (scan_core t).leaves)) row.reads row.wrong bytes reads;
          };
        }))

-- A step on one key.
key_at : (c : Codec) (s : PoolState) (t : Side) (scrubs : Bool) (k : Key) (cell : Cell) (calls copied : List Noted) (vs : List Move) → Kept c s t
    → t.pool.scan.running ≡ true
    → t.pool.reads.cells k ≡ Some cell → AllAnswer t.pool.sectors (made_in vs) → IsNextKey (scan_core t) k (sum_of_cell cell)
    → (reading : Bool) → StepCalls reading scrubs (scan_core t) (sum_of_cell cell) calls copied
    → vs ≡ as_moves calls ++ (count_reads (sha256 cell.block) calls (filter (stands_under cell.top) (scan_core t).leaves)
    ++ (Pass k cell.birth (is_scrubbed scrubs (scan_core t) (sum_of_cell cell) calls copied) ∷ []))
    → Walks c t vs ⊎ FoundClash t.pool (first_reads (made_in vs))
key_at c s t scrubs k cell calls copied vs kept running at answers next false row moves = inl (subst (Walks c t) (sym moves)
    (key_walk c s t calls k cell (filter (stands_under cell.top) (scan_core t).leaves)
    (is_scrubbed scrubs (scan_core t) (sum_of_cell cell) calls copied) running at next
    (subst (λ made. Mays c t.pool (as_events made)) (sym row.0) tt) (quiet_brought t cell scrubs calls copied kept.away row.1)))
key_at c s t scrubs k cell calls copied vs kept running at answers next true row moves =
    let rest : List Noted = made_in
    (count_reads (sha256 cell.block) calls (filter (stands_under cell.top) (scan_core t).leaves)
    ++ (Pass k cell.birth (is_scrubbed scrubs (scan_core t) (sum_of_cell cell) calls copied) ∷ [])) in
    let made_is : made_in vs ≡ calls ++ rest = ap made_in moves
    ∙ made_calls calls (count_reads (sha256 cell.block) calls (filter (stands_under cell.top) (scan_core t).leaves)
    ++ (Pass k cell.birth (is_scrubbed scrubs (scan_core t) (sum_of_cell cell) calls copied) ∷ [])) in
    ⊎_elim (λ good. inl (subst (Walks c t) (sym moves)
    (key_walk c s t calls k cell (filter (stands_under cell.top) (scan_core t).leaves)
    (is_scrubbed scrubs (scan_core t) (sum_of_cell cell) calls copied) running at next
    good.may (good_brought c t cell scrubs calls copied kept.away good))))
    (λ clash. inr (record {
      k = clash.k;
      cell = clash.cell;
      cell_is = clash.cell_is;
      bytes = clash.bytes;
      read = subst (λ made. WereRead clash.bytes (first_reads made)) (sym made_is) (first_longer clash.bytes calls rest clash.read);
      clash = clash.clash;
    })) (step_calls c s t k cell scrubs calls copied kept at next.ahead (answer_first calls rest t.pool.sectors
    (subst (AllAnswer t.pool.sectors) made_is answers)) row)

key_row : (c : Codec) (s : PoolState) (t : Side) (scrubs : Bool) (vs : List Move) → Kept c s t → t.pool.scan.running ≡ true
    → AllAnswer t.pool.sectors (made_in vs)
    → RowKey scrubs (scan_core t) vs → Walks c t vs ⊎ FoundClash t.pool (first_reads (made_in vs))
key_row c s t scrubs vs kept running answers row = let is = sum_cell (t.pool.reads.cells row.k) row.sum row.next.sum_is in
    subst Goal is.2 (λ next made moves. key_at c s t scrubs row.k is.0 row.calls row.copied vs kept running is.1 answers next
    (reads_key scrubs (scan_core t) (sum_of_cell is.0)) made moves) row.next row.made row.moves
  where
    Goal : Sum → Type 0
    Goal sum = IsNextKey (scan_core t) row.k sum → StepCalls (reads_key scrubs (scan_core t) sum) scrubs (scan_core t) sum row.calls row.copied
        → vs ≡ as_moves row.calls ++ (count_reads sum.sum row.calls (filter (stands_under sum.top) (scan_core t).leaves)
        ++ (Pass row.k sum.birth (is_scrubbed scrubs (scan_core t) sum row.calls row.copied) ∷ []))
        → Walks c t vs ⊎ FoundClash t.pool (first_reads (made_in vs))

pub key_walks : (c : Codec) (s : PoolState) (t : Side) (scrubs : Bool) (vs : List Move) → Kept c s t → s.core.scan.running ≡ true
    → AllAnswer t.pool.sectors (made_in vs)
    → RowKey scrubs s.core vs → Walks c t vs ⊎ FoundClash t.pool (first_reads (made_in vs))
key_walks c s t scrubs vs kept is answers row = let running = is_running c s t kept is in
    key_row c s t scrubs vs kept running answers (subst (λ core. RowKey scrubs core vs) (seen_running c s t kept running) row)
