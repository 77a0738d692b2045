-- A read is exhausted only where each leaf of the block's top missed it.
use Rattle.std.proofs.Common.{◌≡◌, inl, inr, ⊎_elim, ℕ, ◌+◌, ◌&&◌, not, Bool, true, false, cond, Option, Some, None, List, [], ◌∷◌, ◌++◌, map, refl, sym, ap, ◌∙◌, subst, append-nil}
use Rattle.std.specs.List.{AllByRecursion, filter}
use Rattle.sha2.specs.Sha256.{sha256}
use Rattle.mp_base.specs.Block.{zero_block}
use Rattle.mp_base.specs.declared.place.Key.{Key}
use Rattle.bank_core.specs.Disk.{Noted, Sectors, AllAnswer, run}
use Rattle.mirror_io.specs.declared.copies.CopyOf.{CopyOf}
use Rattle.mirror_io.specs.Copies.{is_due, tries}
use Rattle.mirror_io.specs.Reads.{IsReads}
use Rattle.txg_history.specs.Events.{Calls}
use Rattle.txg_history.specs.Pages.{Codec, Sum, sum_of}
use Rattle.txg_history.specs.Pools.{Pool, after}
use Rattle.txg_history.specs.Records.{Cell, key, data_start}
use Rattle.txg_history.specs.Survival.{Survives}
use Rattle.txg_history.proofs.Logging.{by_bool}
use Rattle.txg_history.proofs.Moving.{event_survives}
use Rattle.txg_history.proofs.Showing.{stays_damaged}
use Rattle.vdev_tree.specs.Leaf.{is_up}
use Rattle.pool_moves.specs.Keeping.{Kept}
use Rattle.pool_moves.specs.Leaves.{LeafSeen}
use Rattle.pool_moves.specs.Missing.{Lacked, Missed, AllMissed}
use Rattle.pool_moves.specs.Moves.{Move}
use Rattle.pool_moves.specs.ReadRow.{copy_at, copy_of, stands_under, copies_of, count_reads, RowCopies, Gives, Exhausted, NoAddress, reply_by, ReadRecord, ReadGroup, ReadOpen, RowRead, made_in}
use Rattle.pool_moves.specs.Showing.{LeafShown, leaf_shown}
use Rattle.pool_moves.specs.States.{PoolState, Side, seen}
use Rattle.pool_moves.proofs.ReadWalks.{IsCopy, IsReadOrWrite, none_heals, read_one, plain_one, hurt_one, copies_on, tried_all, made_calls, sum_of_cell}
use Rattle.pool_moves.proofs.Lists.{all_front, each}
use Rattle.pool_moves.proofs.Tests.{same_test, some_same}

-- What a copy's device shows behind the reads of a list: it lacked the block where its leaf doesn't owe it.
abbrev IsLacked : (sectors : Sectors) → (at : ℕ) → List Noted → CopyOf → Type 0
IsLacked sectors at made copy = copy.lacks ≡ false → Lacked sectors at made copy.dev

lacked_more : (sectors : Sectors) (at : ℕ) (noted : Noted) (made : List Noted) (copy : CopyOf) → IsLacked sectors at made copy
    → IsLacked sectors at (noted ∷ made) copy
lacked_more sectors at noted made copy is lacks = ⊎_elim (λ failed. inl (inr failed)) (λ damaged. inr damaged) (is lacks)

-- reads that none of the copies served
record AreLacked (sectors : Sectors) (at : ℕ) (copies : List CopyOf) (made : List Noted) : Type 0 where
  pub only : AllByRecursion (λ noted. IsReadOrWrite noted.call) made
  pub each : AllByRecursion (IsLacked (run made sectors) at made) copies

no_reads : (sectors : Sectors) (at : ℕ) (made : List Noted) → made ≡ [] → AreLacked sectors at [] made
no_reads sectors at [] none = record { only = tt; each = tt }
no_reads sectors at (noted ∷ made) none = absurd (cc)

none_served : (c : Codec) (p : Pool) (k : Key) (cell : Cell) (copies : List CopyOf) (made : List Noted) (wrong : List CopyOf) → Survives c p
    → p.reads.cells k ≡ Some cell → AllByRecursion (IsCopy p.member p.in_top p.owes cell) copies → AllAnswer p.sectors made
    → IsReads (data_start + cell.sector) (sha256 cell.block) copies made wrong None → AreLacked p.sectors (data_start + cell.sector) copies made
none_served c p k cell [] made wrong sv at are answers reads = no_reads p.sectors (data_start + cell.sector) made reads.0
none_served c p k cell (copy ∷ more) [] wrong sv at are answers reads = absurd reads
none_served c p k cell (copy ∷ more) (noted ∷ made) wrong sv at are answers (inl (fails, rest)) =
    let call = fails.gives.is in
    let sparing = read_one c p noted copy.dev (data_start + cell.sector) fails.bytes (Some fails.fault) call in
    let later = none_served c (after (Calls noted) p) k cell more made wrong (event_survives c p (Calls noted) sv sparing) at are.1 answers.1 rest in
    record {
      only = (plain_one noted copy.dev (data_start + cell.sector) fails.bytes (Some fails.fault) call, later.only);
      each = (
        (λ lacks. inl (inl (fails.bytes, fails.fault, call))),
        each
            (λ x is. lacked_more (run made (after (Calls noted) p).sectors) (data_start + cell.sector) noted made x is) more later.each,
      );
    }
none_served c p k cell (copy ∷ more) (noted ∷ made) wrong sv at are answers (inr (inl (others, differs, wrong_is, rest))) =
    let call = differs.gives.is in
    let sparing = read_one c p noted copy.dev (data_start + cell.sector) differs.bytes None call in
    let later = none_served c (after (Calls noted) p) k cell more made others (event_survives c p (Calls noted) sv sparing) at are.1 answers.1 rest in
    let hurt = hurt_one c p k cell copy noted differs.bytes sv at are.0 call differs.gives.whole differs.other answers.0 in
    record {
      only = (plain_one noted copy.dev (data_start + cell.sector) differs.bytes None call, later.only);
      each = (
        (λ lacks. inr (stays_damaged made copy.dev (data_start + cell.sector) (after (Calls noted) p).sectors (none_heals made copy.dev later.only)
            (hurt lacks))),
        each
            (λ x is. lacked_more (run made (after (Calls noted) p).sectors) (data_start + cell.sector) noted made x is) more later.each,
      );
    }
none_served c p k cell (copy ∷ more) (noted ∷ made) wrong sv at are answers (inr (inr (bytes, serves, made_is, wrong_is, outcome_is))) = absurd (cc)

-- From the copies that were tried to the leaves.
unfiltered : {A : Type 0} (P : A → Type 0) (test : A → Bool) (xs : List A) → AllByRecursion P (filter test xs) → AllByRecursion (λ x. test x ≡ true → P x) xs
unfiltered P test [] all = tt
unfiltered P test (x ∷ xs) all = by_bool (test x)
    (λ is. let here = subst (λ t. AllByRecursion P (cond t (x ∷ filter test xs) (filter test xs))) is all in ((λ t. here.0), unfiltered P test xs here.1))
    (λ off. (
      (λ is. absurd (let no : true ≡ false = sym is ∙ off in cc)),
      unfiltered P test xs (subst (λ t. AllByRecursion P (cond t (x ∷ filter test xs) (filter test xs))) off all),
    ))

unmapped : {A B : Type 0} (Q : B → Type 0) (f : A → B) (xs : List A) → AllByRecursion Q (map f xs) → AllByRecursion (λ x. Q (f x)) xs
unmapped Q f [] all = tt
unmapped Q f (x ∷ xs) all = (all.0, unmapped Q f xs all.1)

due_leaf : (up owes : Bool) → up ≡ true → owes ≡ false → (up && not owes) ≡ true
due_leaf up owes a b = rw (a, b) refl

missed_leaf : (sum : Sum) (made : List Noted) (sectors : Sectors) (leaf : LeafSeen)
    → (stands_under sum.top leaf ≡ true → is_due false (copy_of sum.birth leaf) ≡ true
    → IsLacked sectors (data_start + sum.sector) made (copy_of sum.birth leaf)) → Missed sum made sectors leaf
missed_leaf sum made sectors leaf one top up d dev = by_bool (leaf.owes sum.birth) (λ owes. inl owes)
    (λ has. inr (subst Shows dev (one (same_test leaf.top sum.top top))
    (due_leaf (is_up leaf.own.mode) (leaf.owes sum.birth) up has) has))
  where
    Shows : Option ℕ → Type 0
    Shows o = is_due false (copy_at (is_up leaf.own.mode) o (leaf.owes sum.birth)) ≡ true
        → IsLacked sectors (data_start + sum.sector) made (copy_at (is_up leaf.own.mode) o (leaf.owes sum.birth))

missed_leaves : (sum : Sum) (made : List Noted) (sectors : Sectors) (leaves : List LeafSeen)
    → AllByRecursion (IsLacked sectors (data_start + sum.sector) made) (tries (copies_of sum leaves)) → AllByRecursion (Missed sum made sectors) leaves
missed_leaves sum made sectors leaves all = each (λ leaf one. missed_leaf sum made sectors leaf one) leaves
    (unfiltered (λ leaf. is_due false (copy_of sum.birth leaf) ≡ true → IsLacked sectors (data_start + sum.sector) made (copy_of sum.birth leaf))
    (stands_under sum.top) leaves
    (unmapped (λ copy. is_due false copy ≡ true → IsLacked sectors (data_start + sum.sector) made copy) (copy_of sum.birth)
    (filter (stands_under sum.top) leaves)
    (unfiltered (IsLacked sectors (data_start + sum.sector) made) (is_due false) (copies_of sum leaves)
    (all_front _ (filter (is_due false) (copies_of sum leaves)) (filter (is_due true) (copies_of sum leaves)) all))))

-- The calls of an exhausted read are its reads alone.
counts_make_none : (sum : List ℕ) (made : List Noted) (leaves : List LeafSeen) → made_in (count_reads sum made leaves) ≡ []
counts_make_none sum made [] = refl
counts_make_none sum made (leaf ∷ leaves) = counts_make_none sum made leaves

exhausted_calls : (s : PoolState) (sum : Sum) (vs : List Move) (row : RowCopies s.core sum vs None) → made_in vs ≡ row.reads
exhausted_calls s sum vs row =
    let counts = count_reads sum.sum (row.reads ++ row.rewrites) (filter (stands_under sum.top) s.core.leaves) in
    ap made_in row.moves ∙ (made_calls (row.reads ++ row.rewrites) counts
    ∙ (ap (λ l. (row.reads ++ row.rewrites) ++ l) (counts_make_none sum.sum (row.reads ++ row.rewrites) (filter (stands_under sum.top) s.core.leaves))
    ∙ (append-nil (row.reads ++ row.rewrites) ∙ (ap (λ l. row.reads ++ l) row.is_healed ∙ append-nil row.reads))))

exhausted_copies : (c : Codec) (s : PoolState) (t : Side) (a : ℕ) (cell : Cell) (vs : List Move) → Kept c s t → t.pool.reads.cells (key 0 a) ≡ Some cell
    → AllAnswer t.pool.sectors (made_in vs) → RowCopies (seen t) (sum_of_cell cell) vs None
    → AllMissed (Some (sum_of_cell cell)) (made_in vs) (run (made_in vs) t.pool.sectors) (seen t).leaves
exhausted_copies c s t a cell vs kept at answers row = let sum = sum_of_cell cell in
    let calls = exhausted_calls (record { own = s.own; core = seen t }) sum vs row in
    subst (λ made. AllMissed (Some sum) made (run made t.pool.sectors) (seen t).leaves) (sym calls)
    (missed_leaves sum row.reads (run row.reads t.pool.sectors) (seen t).leaves
    (none_served c t.pool (key 0 a) cell (tries (copies_of sum (seen t).leaves)) row.reads row.wrong kept.survives at
    (tried_all t.pool cell (copies_of sum (seen t).leaves) (copies_on t.pool cell t.pool.group.frozen t.seats kept.away kept.seated))
    (subst (AllAnswer t.pool.sectors) calls answers) row.is_read).each)

exhausted_record : (c : Codec) (s : PoolState) (t : Side) (a : ℕ) (sum : Option Sum) (vs : List Move) (shown : List LeafShown) → Kept c s t → sum ≡ sum_of (t.pool.reads.cells (key 0 a))
    → AllAnswer t.pool.sectors (made_in vs) → ReadRecord sum (seen t) vs (Exhausted shown)
    → AllMissed sum (made_in vs) (run (made_in vs) t.pool.sectors) (seen t).leaves
exhausted_record c s t a None vs shown kept is answers row = absurd (let no : Exhausted shown ≡ Gives zero_block = row.1 in cc)
exhausted_record c s t a (Some sum) vs shown kept is answers row = by_outcome (map (leaf_shown row.1.reads) (copies_of sum (seen t).leaves)) row.0 row.1 row.2
  where
    by_cell : RowCopies (seen t) sum vs None → (cell : Option Cell) → t.pool.reads.cells (key 0 a) ≡ cell
        → AllMissed (Some sum) (made_in vs) (run (made_in vs) t.pool.sectors) (seen t).leaves
    by_cell row None at = absurd (let no : Some sum ≡ None = is ∙ ap sum_of at in cc)
    by_cell row (Some cell) at = let same = some_same (sum_of_cell cell) sum (sym (is ∙ ap sum_of at)) in
        subst (λ x. AllMissed (Some x) (made_in vs) (run (made_in vs) t.pool.sectors) (seen t).leaves) same
        (exhausted_copies c s t a cell vs kept at answers (subst (λ x. RowCopies (seen t) x vs None) (sym same) row))

    by_outcome : (found : List LeafShown) (outcome : Option (List ℕ)) → RowCopies (seen t) sum vs outcome → Exhausted shown ≡ reply_by found outcome
        → AllMissed (Some sum) (made_in vs) (run (made_in vs) t.pool.sectors) (seen t).leaves
    by_outcome found None row says = by_cell row (t.pool.reads.cells (key 0 a)) refl
    by_outcome found (Some bytes) row says = absurd (cc)

exhausted_group : (c : Codec) (s : PoolState) (t : Side) (a : ℕ) (cell : Option Cell) (vs : List Move) (shown : List LeafShown) → Kept c s t → AllAnswer t.pool.sectors (made_in vs)
    → ReadGroup cell ((seen t).committed (key 0 a)) (seen t) vs (Exhausted shown)
    → AllMissed ((seen t).committed (key 0 a)) (made_in vs) (run (made_in vs) t.pool.sectors) (seen t).leaves
exhausted_group c s t a (Some cell) vs shown kept answers row = absurd (let no : Exhausted shown ≡ Gives cell.block = row.1 in cc)
exhausted_group c s t a None vs shown kept answers row = exhausted_record c s t a ((seen t).committed (key 0 a)) vs shown kept refl answers row

exhausted_open : (c : Codec) (s : PoolState) (t : Side) (a : ℕ) (write : Option (List ℕ)) (vs : List Move) (shown : List LeafShown) → Kept c s t → AllAnswer t.pool.sectors (made_in vs)
    → ReadOpen write ((seen t).group.cells (key 0 a)) ((seen t).committed (key 0 a)) (seen t) vs (Exhausted shown)
    → AllMissed ((seen t).committed (key 0 a)) (made_in vs) (run (made_in vs) t.pool.sectors) (seen t).leaves
exhausted_open c s t a (Some block) vs shown kept answers row = absurd (let no : Exhausted shown ≡ Gives block = row.1 in cc)
exhausted_open c s t a None vs shown kept answers row = exhausted_group c s t a ((seen t).group.cells (key 0 a)) vs shown kept answers row

exhausted_at : (c : Codec) (s : PoolState) (t : Side) (a : ℕ) (vs : List Move) (shown : List LeafShown) → Kept c s t → AllAnswer t.pool.sectors (made_in vs)
    → RowRead (record { own = s.own; core = seen t }) a vs (Exhausted shown)
    → AllMissed ((seen t).committed (key 0 a)) (made_in vs) (run (made_in vs) t.pool.sectors) (seen t).leaves
exhausted_at c s t a vs shown kept answers (inl row) = absurd (let no : Exhausted shown ≡ NoAddress s.own.blocks = row.2 in cc)
exhausted_at c s t a vs shown kept answers (inr row) = exhausted_open c s t a (s.own.writes a) vs shown kept answers row.1

-- The law of an exhausted read.
pub exhausted_missed : (c : Codec) (s : PoolState) (t : Side) (a : ℕ) (vs : List Move) (shown : List LeafShown) → Kept c s t → AllAnswer t.pool.sectors (made_in vs)
    → RowRead s a vs (Exhausted shown)
    → AllMissed (s.core.committed (key 0 a)) (made_in vs) (run (made_in vs) t.pool.sectors) s.core.leaves
exhausted_missed c s t a vs shown kept answers row =
    subst (λ core. AllMissed (core.committed (key 0 a)) (made_in vs) (run (made_in vs) t.pool.sectors) core.leaves) (sym kept.core)
    (exhausted_at c s t a vs shown kept answers (subst (λ core. RowRead (record { own = s.own; core = core }) a vs (Exhausted shown)) kept.core row))
