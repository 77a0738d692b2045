-- The pages of a map may be read back, and wrong copies of them rewritten; and where each has a good leaf, each is found.
use Rattle.std.proofs.Common.{◌≡◌, ◌≢◌, ◌⊎◌, inl, inr, ⊎_elim, ℕ, suc, ◌+◌, ◌<◌, ◌==◌, ◌&&◌, ◌||◌, not, Bool, true, false, cond, Option, Some, None, List, [], ◌∷◌, ◌++◌, map, length, refl, sym, ap, ◌∙◌, subst, arith}
use Rattle.std.specs.List.{AllByRecursion, filter}
use Rattle.std.proofs.lemmas.Bool.{and_parts}
use Rattle.std.proofs.lemmas.Bool.Decides.{nat_tests}
use Rattle.mp_base.specs.declared.place.Key.{Key}
use Rattle.bank_core.specs.declared.bank.Fault.{Fault}
use Rattle.bank_core.specs.Disk.{Read, Noted, Answers, AllAnswer, as_found, run}
use Rattle.label_store.specs.Newest.{IsRead, AreReads}
use Rattle.mirror_io.specs.declared.copies.CopyOf.{CopyOf}
use Rattle.mirror_io.specs.Copies.{is_due, tries}
use Rattle.mirror_io.specs.Mirror.{IsHealed}
use Rattle.mirror_io.specs.Reads.{AreTried, rewrites}
use Rattle.mirror_io.proofs.Reading.{tried_good}
use Rattle.txg_history.specs.Events.{Calls, as_events}
use Rattle.txg_history.specs.Moves.{IsSparing, Mays}
use Rattle.txg_history.specs.Pages.{Codec, Sum, sum_of, ClashesAt}
use Rattle.txg_history.specs.Pools.{Pool, after}
use Rattle.txg_history.specs.Records.{Rec, Cell, key, data_start}
use Rattle.txg_history.specs.Survival.{Survives}
use Rattle.txg_history.proofs.Folding.{with_calls, calls_after, events_more, mays_calls}
use Rattle.txg_history.proofs.Logging.{by_bool, same_device, true_not_false}
use Rattle.txg_history.proofs.Moving.{event_survives}
use Rattle.txg_history.proofs.Showing.{read_damage, stays_damaged}
use Rattle.txg_history.proofs.Surviving.{history_survives}
use Rattle.pool_moves.specs.PageReads.{Reading, is_read_before, IsKnown, IsPageHere, PageTurn, page_of, calls_of_turns, IsPageTurn, is_failed_read, failed_at}
use Rattle.vdev_tree.specs.Leaf.{is_up}
use Rattle.txg_history.specs.Premises.{HasGoodLeaf}
use Rattle.txg_history.specs.Groups.{Logs}
use Rattle.pool_moves.specs.FreezeRow.{is_dev, up_devs}
use Rattle.pool_moves.specs.Leaves.{LeafSeen}
use Rattle.pool_moves.specs.ReadRow.{copy_at, copy_of, stands_under, copies_of}
use Rattle.pool_moves.proofs.PagesBack.{same_bytes_or, IsReadOf, page_here}
use Rattle.pool_moves.proofs.ReadWalks.{IsCopy, IsHurt, IsReadOrWrite, none_heals, AreRead, read_one, plain_one, heals_may, sum_of_cell, sum_cell}
use Rattle.pool_moves.proofs.Lists.{all_append, all_filter}
use Rattle.pool_moves.proofs.Tests.{same_test}
use Rattle.txg_history.proofs.LookedParts.{answer_first, answer_second}

-- Reads of copies, by what bytes are good: the record's own block always is.
hurt_by : (c : Codec) (p : Pool) (k : Key) (cell : Cell) (copy : CopyOf) (noted : Noted) (bytes : List ℕ) → Survives c p
    → p.reads.cells k ≡ Some cell → IsCopy p.member p.in_top p.owes cell copy
    → noted.call ≡ Read copy.dev (data_start + cell.sector) bytes None → length bytes ≡ 4096 → bytes ≢ cell.block
    → Answers (as_found noted p.sectors) noted.call → IsHurt cell (after (Calls noted) p).sectors copy
hurt_by c p k cell copy noted bytes sv at is call long other answers lacks =
    read_damage c p noted copy.dev (data_start + cell.sector) bytes cell.block sv is.is_member
    (inr (record {
      k = k;
      cell = cell;
      cell_is = at;
      top_is = is.top_is;
      has = is.lacks_is ∙ lacks;
      at = record { sector_is = refl; bytes_are = refl };
    })) call long answers other

tried_read : (c : Codec) (p : Pool) (k : Key) (cell : Cell) (Good : List ℕ → Type 0) (copies : List CopyOf) (made : List Noted) (wrong : List CopyOf)
    (outcome : Option (List ℕ)) → Good cell.block
    → Survives c p → p.reads.cells k ≡ Some cell → AllByRecursion (IsCopy p.member p.in_top p.owes cell) copies → AllAnswer p.sectors made
    → AreTried (data_start + cell.sector) Good copies made wrong outcome → AreRead c p cell made wrong
tried_read c p k cell Good [] made wrong outcome good sv at are answers tried = none made wrong tried.0 tried.1
  where
    none : (made : List Noted) (wrong : List CopyOf) → made ≡ [] → wrong ≡ [] → AreRead c p cell made wrong
    none [] [] a b = record { may = tt; only = tt; hurt = tt; are = tt }
    none (noted ∷ made) wrong a b = absurd (cc)
    none [] (copy ∷ wrong) a b = absurd (cc)
tried_read c p k cell Good (copy ∷ more) [] wrong outcome good sv at are answers tried = absurd tried
tried_read c p k cell Good (copy ∷ more) (noted ∷ made) wrong outcome good sv at are answers (inl (fails, rest)) =
    let call = fails.gives.is in
    let sparing = read_one c p noted copy.dev (data_start + cell.sector) fails.bytes (Some fails.fault) call in
    let later = tried_read c (after (Calls noted) p) k cell Good more made wrong outcome good (event_survives c p (Calls noted) sv sparing) at are.1
    answers.1 rest in
    record {
      may = (sparing, later.may);
      only = (plain_one noted copy.dev (data_start + cell.sector) fails.bytes (Some fails.fault) call, later.only);
      hurt = later.hurt;
      are = later.are;
    }
tried_read c p k cell Good (copy ∷ more) (noted ∷ made) wrong outcome good sv at are answers (inr (inl (others, bytes, gave, wrong_is, rest))) =
    let call = gave.gives.is in
    let sparing = read_one c p noted copy.dev (data_start + cell.sector) bytes None call in
    let later = tried_read c (after (Calls noted) p) k cell Good more made others outcome good (event_survives c p (Calls noted) sv sparing) at are.1
    answers.1 rest in
    let hurt = hurt_by c p k cell copy noted bytes sv at are.0 call gave.gives.whole (λ same. gave.is (subst Good (sym same) good)) answers.0 in
    record {
      may = (sparing, later.may);
      only = (plain_one noted copy.dev (data_start + cell.sector) bytes None call, later.only);
      hurt = subst (AllByRecursion (IsHurt cell (run made (after (Calls noted) p).sectors))) (sym wrong_is) (
        (λ lacks. stays_damaged made copy.dev (data_start + cell.sector) (after (Calls noted) p).sectors (none_heals made copy.dev later.only)
            (hurt lacks)),
        later.hurt,
      );
      are = subst (AllByRecursion (IsCopy p.member p.in_top p.owes cell)) (sym wrong_is) (are.0, later.are);
    }
tried_read c p k cell Good (copy ∷ more) (noted ∷ made) wrong outcome good sv at are answers (inr (inr (bytes, gave, made_is, wrong_is, outcome_is))) =
    let call = gave.gives.is in
    one made wrong made_is wrong_is (read_one c p noted copy.dev (data_start + cell.sector) bytes None call)
    (plain_one noted copy.dev (data_start + cell.sector) bytes None call)
  where
    one : (made : List Noted) (wrong : List CopyOf) → made ≡ [] → wrong ≡ [] → IsSparing p noted.call → IsReadOrWrite noted.call
        → AreRead c p cell (noted ∷ made) wrong
    one [] [] a b sparing plain = record { may = (sparing, tt); only = (plain, tt); hurt = tt; are = tt }
    one (noted ∷ made) wrong a b sparing plain = absurd (cc)
    one [] (copy ∷ wrong) a b sparing plain = absurd (cc)

-- All calls are reads.
pub tried_reads : (at : ℕ) (Good : List ℕ → Type 0) (copies : List CopyOf) (made : List Noted) (wrong : List CopyOf) (outcome : Option (List ℕ))
    → AreTried at Good copies made wrong outcome → AreReads made
tried_reads at Good [] made wrong outcome tried = subst AreReads (sym tried.0) tt
tried_reads at Good (copy ∷ more) [] wrong outcome tried = tt
tried_reads at Good (copy ∷ more) (noted ∷ made) wrong outcome (inl (fails, rest)) =
    (subst IsRead (sym fails.gives.is) tt, tried_reads at Good more made wrong outcome rest)
tried_reads at Good (copy ∷ more) (noted ∷ made) wrong outcome (inr (inl (others, bytes, gave, wrong_is, rest))) =
    (subst IsRead (sym gave.gives.is) tt, tried_reads at Good more made others outcome rest)
tried_reads at Good (copy ∷ more) (noted ∷ made) wrong outcome (inr (inr (bytes, gave, made_is, wrong_is, outcome_is))) =
    (subst IsRead (sym gave.gives.is) tt, subst AreReads (sym made_is) tt)

-- A leaf that has a device is as the history has it there.
pub record IsTrueLeaf (member : ℕ → Bool) (in_top : ℕ → ℕ) (owes : Logs) (leaf : LeafSeen) : Type 0 where
  pub is_member : (d : ℕ) → leaf.dev ≡ Some d → member d ≡ true
  pub top_is : (d : ℕ) → leaf.dev ≡ Some d → in_top d ≡ leaf.top
  pub log_is : (d g : ℕ) → leaf.dev ≡ Some d → owes d g ≡ leaf.owes g

-- The pool reads the record, and the leaves are the record's.
pub record IsOn (x : Reading) (r : Rec) (p : Pool) : Type 0 where
  pub of : IsReadOf x p r
  pub reads_is : (k : Key) → p.reads.cells k ≡ r.cells k
  pub tops : (d : ℕ) → p.in_top d ≡ r.tops (p.guid d)
  pub logs : (d g : ℕ) → p.owes d g ≡ r.owes (p.guid d) g
  pub leaves : AllByRecursion (IsTrueLeaf p.member p.in_top p.owes) x.leaves

pub on_behind : (x : Reading) (r : Rec) (p : Pool) (made : List Noted) → IsOn x r p → Mays x.codec p (as_events made) → IsOn x r (with_calls made p)
on_behind x r p made on may = record {
  of = record {
    survives = subst (Survives x.codec) (calls_after made p) (history_survives x.codec (as_events made) p on.of.survives may);
    live = on.of.live;
    number_is = on.of.number_is;
    room_is = on.of.room_is;
    inside = on.of.inside;
  };
  reads_is = on.reads_is;
  tops = on.tops;
  logs = on.logs;
  leaves = on.leaves;
}

-- The copies of a key on these leaves.
abbrev CopyIs : (member : ℕ → Bool) (in_top : ℕ → ℕ) (owes : Logs) → Cell → CopyOf → Type 0
CopyIs member in_top owes cell copy = copy.readable ≡ true → IsCopy member in_top owes cell copy

copy_is : (member : ℕ → Bool) (in_top : ℕ → ℕ) (owes : Logs) (cell : Cell) (leaf : LeafSeen) → IsTrueLeaf member in_top owes leaf
    → stands_under cell.top leaf ≡ true → CopyIs member in_top owes cell (copy_of cell.birth leaf)
copy_is member in_top owes cell leaf is under = by leaf.dev refl
  where
    by : (dev : Option ℕ) → leaf.dev ≡ dev → CopyIs member in_top owes cell (copy_at (is_up leaf.own.mode) dev (leaf.owes cell.birth))
    by None at readable = absurd (let no : false ≡ true = readable in cc)
    by (Some d) at readable = record {
      is_member = is.is_member d at;
      top_is = is.top_is d at ∙ same_device leaf.top cell.top under;
      lacks_is = is.log_is d cell.birth at;
    }

copies_are : (member : ℕ → Bool) (in_top : ℕ → ℕ) (owes : Logs) (cell : Cell) (leaves : List LeafSeen) → AllByRecursion (IsTrueLeaf member in_top owes) leaves
    → AllByRecursion (CopyIs member in_top owes cell) (copies_of (sum_of_cell cell) leaves)
copies_are member in_top owes cell [] all = tt
copies_are member in_top owes cell (leaf ∷ leaves) all = step (copies_are member in_top owes cell leaves all.1) (stands_under cell.top leaf) refl
  where
    step : AllByRecursion (CopyIs member in_top owes cell) (copies_of (sum_of_cell cell) leaves) → (t : Bool) → stands_under cell.top leaf ≡ t
        → AllByRecursion (CopyIs member in_top owes cell)
        (map (copy_of cell.birth) (cond t (leaf ∷ filter (stands_under cell.top) leaves) (filter (stands_under cell.top) leaves)))
    step rest true under = (copy_is member in_top owes cell leaf all.0 under, rest)
    step rest false off = rest

tried_copies : (member : ℕ → Bool) (in_top : ℕ → ℕ) (owes : Logs) (cell : Cell) (leaves : List LeafSeen) → AllByRecursion (IsTrueLeaf member in_top owes) leaves
    → AllByRecursion (IsCopy member in_top owes cell) (tries (copies_of (sum_of_cell cell) leaves))
tried_copies member in_top owes cell leaves all =
    let copies = copies_of (sum_of_cell cell) leaves in
    let are = copies_are member in_top owes cell leaves all in
    all_append _ (filter (is_due false) copies) (filter (is_due true) copies) (all_filter (is_due false)
    (λ copy is due. is (and_parts copy.readable (not copy.lacks) due).0) copies are) (all_filter (is_due true)
    (λ copy is due. is (and_parts copy.readable copy.lacks due).0) copies are)

-- The pointer of a page, and what is known before it is read, are right.
pub record IsRightTurn (x : Reading) (r : Rec) (level index : ℕ) : Type 0 where
  pub pointer : x.got (key (suc level) index) ≡ sum_of (r.cells (key (suc level) index))
  pub known : (k : Key) → IsKnown (λ above. is_read_before above (key (suc level) index)) k → x.got k ≡ sum_of (r.cells k)

-- One page: it may be read and its wrong copies rewritten, or its bytes clash.
pub turn_may : (x : Reading) (r : Rec) (p : Pool) (turn : PageTurn) (found : Key → Option (List ℕ)) → IsOn x r p → (is : IsPageTurn x turn)
    → found (page_of turn) ≡ Some is.bytes → IsRightTurn x r turn.level turn.index → AllAnswer p.sectors (turn.reads ++ turn.rewrites)
    → Mays x.codec p (as_events (turn.reads ++ turn.rewrites)) ⊎ ClashesAt r.cells found
turn_may x r p turn found on is here right answers = subst Goal cell.2 whole is.tried is.healed
  where
    cell : (c : Cell) × (r.cells (page_of turn) ≡ Some c) × (sum_of_cell c ≡ is.sum)
    cell = sum_cell (r.cells (page_of turn)) is.sum (sym right.pointer ∙ is.sum_is)

    Goal : Sum → Type 0
    Goal sum = AreTried (data_start + sum.sector) (IsPageHere x turn.level turn.index sum) (tries (copies_of sum x.leaves)) turn.reads turn.wrong
        (Some is.bytes) → IsHealed (data_start + sum.sector) (Some is.bytes) turn.wrong turn.rewrites
        → Mays x.codec p (as_events (turn.reads ++ turn.rewrites)) ⊎ ClashesAt r.cells found

    at : p.reads.cells (page_of turn) ≡ Some cell.0
    at = on.reads_is (page_of turn) ∙ cell.1

    good : IsPageHere x turn.level turn.index (sum_of_cell cell.0) cell.0.block
    good = page_here x p r turn.level turn.index cell.0 on.of is.low cell.1 right.known

    whole : Goal (sum_of_cell cell.0)
    whole tried healed =
        let are : AreRead x.codec p cell.0 turn.reads turn.wrong = tried_read x.codec p (page_of turn) cell.0
        (IsPageHere x turn.level turn.index (sum_of_cell cell.0))
        (tries (copies_of (sum_of_cell cell.0) x.leaves)) turn.reads turn.wrong (Some is.bytes) good
        on.of.survives at (tried_copies p.member p.in_top p.owes cell.0 x.leaves on.leaves)
        (answer_first turn.reads turn.rewrites p.sectors answers) tried in
        let survives : Survives x.codec (with_calls turn.reads p) = subst (Survives x.codec) (calls_after turn.reads p)
        (history_survives x.codec (as_events turn.reads) p on.of.survives are.may) in
        same_bytes_or is.bytes cell.0.block
        (λ same. inl (subst (Mays x.codec p) (sym (events_more turn.reads turn.rewrites)) (mays_calls x.codec turn.reads (as_events turn.rewrites) p are.may
        (heals_may x.codec (with_calls turn.reads p) (page_of turn) cell.0 turn.wrong turn.rewrites survives at are.are are.hurt
        (healed ∙ ap (λ b. rewrites (data_start + cell.0.sector) b (filter (λ copy. not copy.lacks) turn.wrong)) same)))))
        (λ other. inr (record {
          page = page_of turn;
          cell = cell.0;
          cell_is = cell.1;
          bytes = is.bytes;
          bytes_are = here;
          clash = record {
            other = other;
            same_sum = (tried_good (data_start + cell.0.sector) (IsPageHere x turn.level turn.index (sum_of_cell cell.0))
                (tries (copies_of (sum_of_cell cell.0) x.leaves)) turn.reads turn.wrong is.bytes tried).same_sum;
          };
        }))

-- One page after another.
pub turns_may : (x : Reading) (r : Rec) (p : Pool) (turns : List PageTurn) → IsOn x r p → AllByRecursion (IsPageTurn x) turns
    → AllByRecursion (λ turn. IsRightTurn x r turn.level turn.index) turns
    → AllAnswer p.sectors (calls_of_turns turns) → Mays x.codec p (as_events (calls_of_turns turns)) ⊎ ClashesAt r.cells x.found
turns_may x r p [] on each right answers = inl tt
turns_may x r p (turn ∷ turns) on each right answers = ⊎_elim
    (λ may. ⊎_elim (λ more. inl (subst (Mays x.codec p) (sym (events_more (turn.reads ++ turn.rewrites) (calls_of_turns turns)))
    (mays_calls x.codec (turn.reads ++ turn.rewrites) (as_events (calls_of_turns turns)) p may more)))
    (λ clash. inr clash)
    (turns_may x r (with_calls (turn.reads ++ turn.rewrites) p) turns (on_behind x r p (turn.reads ++ turn.rewrites) on may) each.1 right.1
    (answer_second (turn.reads ++ turn.rewrites) (calls_of_turns turns) p.sectors answers))) (λ clash. inr clash)
    (turn_may x r p turn x.found on each.0 each.0.bytes_are right.0
    (answer_first (turn.reads ++ turn.rewrites) (calls_of_turns turns) p.sectors answers))

-- A page none of whose copies is good.
pub stop_may : (x : Reading) (r : Rec) (p : Pool) (level index : ℕ) (sum : Sum) (reads : List Noted) (wrong : List CopyOf)
    (outcome : Option (List ℕ)) → IsOn x r p → level < 3 → x.got (key (suc level) index) ≡ Some sum
    → IsRightTurn x r level index → AllAnswer p.sectors reads
    → AreTried (data_start + sum.sector) (IsPageHere x level index sum) (tries (copies_of sum x.leaves)) reads wrong outcome
    → Mays x.codec p (as_events reads)
stop_may x r p level index sum reads wrong outcome on low sum_is right answers tried =
    subst Goal cell.2 (λ tried. (tried_read x.codec p (key (suc level) index) cell.0
    (IsPageHere x level index (sum_of_cell cell.0)) (tries (copies_of (sum_of_cell cell.0) x.leaves)) reads wrong outcome
    (page_here x p r level index cell.0 on.of low cell.1 right.known) on.of.survives (on.reads_is (key (suc level) index) ∙ cell.1)
    (tried_copies p.member p.in_top p.owes cell.0 x.leaves on.leaves) answers tried).may) tried
  where
    cell : (c : Cell) × (r.cells (key (suc level) index) ≡ Some c) × (sum_of_cell c ≡ sum)
    cell = sum_cell (r.cells (key (suc level) index)) sum (sym right.pointer ∙ sum_is)

    Goal : Sum → Type 0
    Goal sum = AreTried (data_start + sum.sector) (IsPageHere x level index sum) (tries (copies_of sum x.leaves)) reads wrong outcome
        → Mays x.codec p (as_events reads)

-- Where a good leaf has it, that does not come.
abbrev HasCopy : ℕ → List CopyOf → Type 0
HasCopy d [] = ⊥
HasCopy d (copy ∷ copies) = ((copy.dev ≡ d) × (copy.lacks ≡ false)) ⊎ HasCopy d copies

failed_here : (d : ℕ) (noted : Noted) (at : ℕ) (bytes : List ℕ) (fault : Fault) (made : List Noted) → noted.call ≡ Read d at bytes (Some fault)
    → failed_at at (noted ∷ made) d ≡ true
failed_here d noted at bytes fault made call =
    let here : (d == d) ≡ true = grind (arith, nat_tests) in let there : (at == at) ≡ true = grind (arith, nat_tests) in
    subst (λ call. (is_failed_read at d call || failed_at at made d) ≡ true) (sym call) (rw (here, there) refl)

failed_more : (at d : ℕ) (noted : Noted) (made : List Noted) → failed_at at made d ≡ true → failed_at at (noted ∷ made) d ≡ true
failed_more at d noted made is = by (is_failed_read at d noted.call)
  where
    by : (t : Bool) → (t || failed_at at made d) ≡ true
    by true = refl
    by false = is

none_good : (c : Codec) (p : Pool) (k : Key) (cell : Cell) (Good : List ℕ → Type 0) (d : ℕ) (copies : List CopyOf) (made : List Noted)
    (wrong : List CopyOf) → Good cell.block → Survives c p
    → p.reads.cells k ≡ Some cell → AllByRecursion (IsCopy p.member p.in_top p.owes cell) copies → AllAnswer p.sectors made
    → AreTried (data_start + cell.sector) Good copies made wrong None
    → HasCopy d copies → (run made p.sectors d (data_start + cell.sector)).damaged ≡ false → failed_at (data_start + cell.sector) made d ≡ true
none_good c p k cell Good d [] made wrong good sv at are answers tried has sound = absurd has
none_good c p k cell Good d (copy ∷ more) [] wrong good sv at are answers tried has sound = absurd tried
none_good c p k cell Good d (copy ∷ more) (noted ∷ made) wrong good sv at are answers (inl (fails, rest)) (inl here) sound =
    failed_here d noted (data_start + cell.sector) fails.bytes fails.fault made
    (subst (λ e. noted.call ≡ Read e (data_start + cell.sector) fails.bytes (Some fails.fault)) here.0 fails.gives.is)
none_good c p k cell Good d (copy ∷ more) (noted ∷ made) wrong good sv at are answers (inl (fails, rest)) (inr later) sound =
    failed_more (data_start + cell.sector) d noted made (none_good c (after (Calls noted) p) k cell Good d more made wrong good
    (event_survives c p (Calls noted) sv (read_one c p noted copy.dev (data_start + cell.sector) fails.bytes (Some fails.fault) fails.gives.is)) at
    are.1 answers.1 rest later sound)
none_good c p k cell Good d (copy ∷ more) (noted ∷ made) wrong good sv at are answers (inr (inl (others, bytes, gave, wrong_is, rest))) (inl here) sound =
    let call = gave.gives.is in
    let later = tried_read c (after (Calls noted) p) k cell Good more made others None good
    (event_survives c p (Calls noted) sv (read_one c p noted copy.dev (data_start + cell.sector) bytes None call)) at are.1 answers.1 rest in
    let hurt = hurt_by c p k cell copy noted bytes sv at are.0 call gave.gives.whole (λ same. gave.is (subst Good (sym same) good)) answers.0 here.1 in
    true_not_false (run made (after (Calls noted) p).sectors d (data_start + cell.sector)).damaged
    (subst (λ e. (run made (after (Calls noted) p).sectors e (data_start + cell.sector)).damaged ≡ true) here.0
    (stays_damaged made copy.dev (data_start + cell.sector) (after (Calls noted) p).sectors (none_heals made copy.dev later.only) hurt)) sound
none_good c p k cell Good d (copy ∷ more) (noted ∷ made) wrong good sv at are answers (inr (inl (others, bytes, gave, wrong_is, rest))) (inr later) sound =
    failed_more (data_start + cell.sector) d noted made (none_good c (after (Calls noted) p) k cell Good d more made others good
    (event_survives c p (Calls noted) sv (read_one c p noted copy.dev (data_start + cell.sector) bytes None gave.gives.is)) at are.1 answers.1 rest later sound)
none_good c p k cell Good d (copy ∷ more) (noted ∷ made) wrong good sv at are answers (inr (inr (bytes, gave, made_is, wrong_is, outcome_is))) has
    sound = absurd (let no : None ≡ Some bytes = outcome_is in cc)

copy_first : (d : ℕ) (copies others : List CopyOf) → HasCopy d copies → HasCopy d (copies ++ others)
copy_first d [] others has = absurd has
copy_first d (copy ∷ copies) others (inl here) = inl here
copy_first d (copy ∷ copies) others (inr more) = inr (copy_first d copies others more)

-- a readable leaf that has the block is tried
abbrev HasDue : (top birth d : ℕ) → List LeafSeen → Type 0
HasDue top birth d [] = ⊥
HasDue top birth d (leaf ∷ leaves) = ((is_up leaf.own.mode ≡ true) × (leaf.dev ≡ Some d) × (leaf.top ≡ top) × (leaf.owes birth ≡ false))
    ⊎ HasDue top birth d leaves

due_copy : (cell : Cell) (d : ℕ) (leaves : List LeafSeen) → HasDue cell.top cell.birth d leaves
    → HasCopy d (filter (is_due false) (copies_of (sum_of_cell cell) leaves))
due_copy cell d [] has = absurd has
due_copy cell d (leaf ∷ leaves) (inl is) =
    let under = same_test leaf.top cell.top is.2 in
    subst (λ t. HasCopy d (filter (is_due false)
    (map (copy_of cell.birth) (cond t (leaf ∷ filter (stands_under cell.top) leaves) (filter (stands_under cell.top) leaves))))) (sym under)
    (of (copy_of cell.birth leaf) (copy_shape leaf is.0 is.1 is.3))
  where
    Shape : CopyOf → Type 0
    Shape copy = (copy.dev ≡ d) × (copy.lacks ≡ false) × (copy.readable ≡ true)

    copy_shape : (leaf : LeafSeen) → is_up leaf.own.mode ≡ true → leaf.dev ≡ Some d → leaf.owes cell.birth ≡ false → Shape (copy_of cell.birth leaf)
    copy_shape leaf up dev has = subst (λ e. Shape (copy_at (is_up leaf.own.mode) e (leaf.owes cell.birth))) (sym dev) (refl, has, up)

    rest : List CopyOf
    rest = map (copy_of cell.birth) (filter (stands_under cell.top) leaves)

    due : (readable lacks : Bool) → readable ≡ true → lacks ≡ false → (readable && not lacks) ≡ true
    due readable lacks a b = rw (a, b) refl

    of : (copy : CopyOf) → Shape copy → HasCopy d (filter (is_due false) (copy ∷ rest))
    of copy shape = subst (λ t. HasCopy d (cond t (copy ∷ filter (is_due false) rest) (filter (is_due false) rest)))
        (sym (due copy.readable copy.lacks shape.2 shape.1)) (inl (shape.0, shape.1))
due_copy cell d (leaf ∷ leaves) (inr more) = by (stands_under cell.top leaf) (due_copy cell d leaves more)
  where
    rest : List CopyOf
    rest = map (copy_of cell.birth) (filter (stands_under cell.top) leaves)

    skip : (copy : CopyOf) → HasCopy d (filter (is_due false) rest) → HasCopy d (filter (is_due false) (copy ∷ rest))
    skip copy has = of (is_due false copy)
      where
        of : (t : Bool) → HasCopy d (cond t (copy ∷ filter (is_due false) rest) (filter (is_due false) rest))
        of true = inr has
        of false = has

    by : (t : Bool) → HasCopy d (filter (is_due false) rest)
        → HasCopy d (filter (is_due false) (map (copy_of cell.birth)
        (cond t (leaf ∷ filter (stands_under cell.top) leaves) (filter (stands_under cell.top) leaves))))
    by true has = skip (copy_of cell.birth leaf) has
    by false has = has

up_due : (p : Pool) (r : Rec) (cell : Cell) (d : ℕ) (leaves : List LeafSeen) → AllByRecursion (IsTrueLeaf p.member p.in_top p.owes) leaves
    → up_devs leaves d ≡ true
    → p.in_top d ≡ cell.top → p.owes d cell.birth ≡ false → HasDue cell.top cell.birth d leaves
up_due p r cell d [] all up top has = absurd (cc)
up_due p r cell d (leaf ∷ leaves) all up top has = by_bool (is_up leaf.own.mode && is_dev d leaf.dev)
    (λ yes. let parts = and_parts (is_up leaf.own.mode) (is_dev d leaf.dev) yes in let dev = dev_of leaf.dev parts.1 in
    inl (parts.0, dev, sym (all.0.top_is d dev) ∙ top, sym (all.0.log_is d cell.birth dev) ∙ has))
    (λ off. inr (up_due p r cell d leaves all.1 (sym (ap (λ t. t || up_devs leaves d) off) ∙ up) top has))
  where
    dev_of : (dev : Option ℕ) → is_dev d dev ≡ true → dev ≡ Some d
    dev_of None is = absurd (let no : false ≡ true = is in cc)
    dev_of (Some e) is = ap Some (sym (same_device d e is))

pub stop_never : (x : Reading) (r : Rec) (p : Pool) (level index : ℕ) (sum : Sum) (reads : List Noted) (wrong : List CopyOf) (answering : ℕ → Bool)
    → IsOn x r p → level < 3 → x.got (key (suc level) index) ≡ Some sum
    → IsRightTurn x r level index → AllAnswer p.sectors reads
    → AreTried (data_start + sum.sector) (IsPageHere x level index sum) (tries (copies_of sum x.leaves)) reads wrong None
    → ((d : ℕ) → answering d ≡ true → (up_devs x.leaves d ≡ true) × (failed_at (data_start + sum.sector) reads d ≡ false))
    → ((cell : Cell) → r.cells (key (suc level) index) ≡ Some cell → HasGoodLeaf (with_calls reads p) r cell answering) → ⊥
stop_never x r p level index sum reads wrong answering on low sum_is right answers tried up goods = subst Goal cell.2 whole tried up
  where
    cell : (c : Cell) × (r.cells (key (suc level) index) ≡ Some c) × (sum_of_cell c ≡ sum)
    cell = sum_cell (r.cells (key (suc level) index)) sum (sym right.pointer ∙ sum_is)

    good : HasGoodLeaf (with_calls reads p) r cell.0 answering
    good = goods cell.0 cell.1

    Goal : Sum → Type 0
    Goal sum = AreTried (data_start + sum.sector) (IsPageHere x level index sum) (tries (copies_of sum x.leaves)) reads wrong None
        → ((d : ℕ) → answering d ≡ true → (up_devs x.leaves d ≡ true) × (failed_at (data_start + sum.sector) reads d ≡ false)) → ⊥

    whole : Goal (sum_of_cell cell.0)
    whole tried up = true_not_false (failed_at (data_start + cell.0.sector) reads good.d)
        (none_good x.codec p (key (suc level) index) cell.0 (IsPageHere x level index (sum_of_cell cell.0)) good.d
        (tries (copies_of (sum_of_cell cell.0) x.leaves)) reads wrong
        (page_here x p r level index cell.0 on.of low cell.1 right.known) on.of.survives (on.reads_is (key (suc level) index) ∙ cell.1)
        (tried_copies p.member p.in_top p.owes cell.0 x.leaves on.leaves) answers tried
        (copy_first good.d (filter (is_due false) (copies_of (sum_of_cell cell.0) x.leaves)) (filter (is_due true) (copies_of (sum_of_cell cell.0) x.leaves))
        (due_copy cell.0 good.d x.leaves (up_due p r cell.0 good.d x.leaves on.leaves (up good.d good.answers).0 (on.tops good.d ∙ good.top_is)
        (on.logs good.d cell.0.birth ∙ good.has)))) good.unhurt) (up good.d good.answers).1
