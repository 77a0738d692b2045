-- A read's calls go to devices of the pool's leaves.
use Rattle.std.proofs.Common.{◌≡◌, inl, inr, ℕ, ◌+◌, ◌&&◌, not, Bool, true, false, cond, Option, Some, None, List, [], ◌∷◌, ◌++◌, map, refl, sym, subst}
use Rattle.std.specs.List.{AllByRecursion, filter}
use Rattle.bank_core.specs.Disk.{Noted}
use Rattle.mirror_io.specs.declared.copies.CopyOf.{CopyOf}
use Rattle.mirror_io.specs.Copies.{is_due, tries}
use Rattle.mirror_io.specs.Mirror.{IsHealed}
use Rattle.mirror_io.specs.Reads.{IsReads, rewrites}
use Rattle.txg_history.specs.Pages.{Sum}
use Rattle.txg_history.specs.Records.{Cell, data_start}
use Rattle.vdev_tree.specs.Leaf.{is_up}
use Rattle.pool_moves.specs.Leaves.{LeafSeen}
use Rattle.pool_moves.specs.Moves.{Move}
use Rattle.pool_moves.specs.ReadRow.{copy_at, copy_of, copies_of, stands_under, count_reads, ReadReply, ReadRecord, ReadGroup, ReadOpen, RowRead}
use Rattle.pool_moves.specs.States.{PoolSeen, PoolState}
use Rattle.pool_moves.specs.Walking.{as_moves}
use Rattle.pool_moves.proofs.Lists.{all_append}
use Rattle.host_core.proofs.CallsOnLeaves.{IsCallOn, AreCallsOn, IsAskOn, IsOn, IsSuch, AreSuch, on_asks, on_calls}

-- what passes a filter
all_filter : {X : Type 0} (P Q : X → Type 0) (test : X → Bool) → ((x : X) → P x → test x ≡ true → Q x) → (xs : List X) → AllByRecursion P xs
    → AllByRecursion Q (filter test xs)
all_filter P Q test more [] all = tt
all_filter P Q test more (x ∷ xs) all = by (test x) refl (all_filter P Q test more xs all.1)
  where
    by : (t : Bool) → test x ≡ t → AllByRecursion Q (filter test xs) → AllByRecursion Q (cond t (x ∷ filter test xs) (filter test xs))
    by true is rest = (more x all.0 is, rest)
    by false is rest = rest

both : (a b : Bool) → (a && b) ≡ true → a ≡ true
both true b is = refl
both false b is = absurd (let no : false ≡ true = is in cc)

due_readable : (owing : Bool) (copy : CopyOf) → is_due owing copy ≡ true → copy.readable ≡ true
due_readable false copy is = both copy.readable (not copy.lacks) is
due_readable true copy is = both copy.readable copy.lacks is

module _ (P : ℕ → Type 0) where
  abbrev On : List Move → Type 0
  On vs = AllByRecursion (IsOn P) vs

  -- a copy that may be read is on such a device
  abbrev IsFit : CopyOf → Type 0
  IsFit copy = copy.readable ≡ true → P copy.dev

  abbrev AreOn : List CopyOf → Type 0
  AreOn copies = AllByRecursion (λ copy. P copy.dev) copies

  copy_fit : (readable : Bool) (dev : Option ℕ) (lacks : Bool) → ((d : ℕ) → dev ≡ Some d → P d) → IsFit (copy_at readable dev lacks)
  copy_fit readable None lacks such is = absurd (let no : false ≡ true = is in cc)
  copy_fit readable (Some d) lacks such is = such d refl

  copies_fit : (birth : ℕ) (leaves : List LeafSeen) → AreSuch P leaves → AllByRecursion IsFit (map (copy_of birth) leaves)
  copies_fit birth [] such = tt
  copies_fit birth (leaf ∷ leaves) such = (copy_fit (is_up leaf.own.mode) leaf.dev (leaf.owes birth) such.0, copies_fit birth leaves such.1)

  tries_on : (copies : List CopyOf) → AllByRecursion IsFit copies → AreOn (tries copies)
  tries_on copies fit = all_append (λ copy. P copy.dev) (filter (is_due false) copies) (filter (is_due true) copies)
      (all_filter IsFit (λ copy. P copy.dev) (is_due false) (λ copy fit due. fit (due_readable false copy due)) copies fit)
      (all_filter IsFit (λ copy. P copy.dev) (is_due true) (λ copy fit due. fit (due_readable true copy due)) copies fit)

  reads_on : (at : ℕ) (sum : List ℕ) (copies : List CopyOf) (made : List Noted) (wrong : List CopyOf) (outcome : Option (List ℕ)) → AreOn copies
      → IsReads at sum copies made wrong outcome → AreCallsOn P made × AreOn wrong
  reads_on at sum [] made wrong outcome on reads = (subst (AreCallsOn P) (sym reads.0) tt, subst AreOn (sym reads.1) tt)
  reads_on at sum (copy ∷ more) [] wrong outcome on reads = absurd reads
  reads_on at sum (copy ∷ more) (noted ∷ made) wrong outcome on (inl (fails, rest)) =
      let later = reads_on at sum more made wrong outcome on.1 rest in
      ((subst (IsCallOn P) (sym fails.gives.is) on.0, later.0), later.1)
  reads_on at sum (copy ∷ more) (noted ∷ made) wrong outcome on (inr (inl (others, differs, wrong_is, rest))) =
      let later = reads_on at sum more made others outcome on.1 rest in
      ((subst (IsCallOn P) (sym differs.gives.is) on.0, later.0), subst AreOn (sym wrong_is) (on.0, later.1))
  reads_on at sum (copy ∷ more) (noted ∷ made) wrong outcome on (inr (inr (bytes, serves, none, right, given))) =
      ((subst (IsCallOn P) (sym serves.gives.is) on.0, subst (AreCallsOn P) (sym none) tt), subst AreOn (sym right) tt)

  rewrites_on : (at : ℕ) (block : List ℕ) (copies : List CopyOf) → AreOn copies → AllByRecursion (IsAskOn P) (rewrites at block copies)
  rewrites_on at block [] on = tt
  rewrites_on at block (copy ∷ copies) on = (on.0, rewrites_on at block copies on.1)

  healed_on : (at : ℕ) (outcome : Option (List ℕ)) (wrong : List CopyOf) (made : List Noted) → AreOn wrong → IsHealed at outcome wrong made → AreCallsOn P made
  healed_on at (Some block) wrong made on healed = on_asks P made (subst (AllByRecursion (IsAskOn P)) (sym healed)
      (rewrites_on at block (filter (λ copy. not copy.lacks) wrong) (all_filter (λ copy. P copy.dev) (λ copy. P copy.dev) (λ copy. not copy.lacks) (λ copy p is. p) wrong on)))
  healed_on at None wrong made on healed = subst (AreCallsOn P) (sym healed) tt

  counts_on : (sum : List ℕ) (made : List Noted) (leaves : List LeafSeen) → On (count_reads sum made leaves)
  counts_on sum made [] = tt
  counts_on sum made (leaf ∷ leaves) = (tt, counts_on sum made leaves)

  record_on : (sum : Option Sum) (s : PoolSeen) (vs : List Move) (reply : ReadReply) → AreSuch P s.leaves → ReadRecord sum s vs reply → On vs
  record_on None s vs reply such row = subst On (sym row.0) tt
  record_on (Some sum) s vs reply such row =
      let r = row.1 in let at = data_start + sum.sector in
      let under = filter (stands_under sum.top) s.leaves in
      let fit = copies_fit sum.birth under (all_filter (λ leaf. IsSuch P leaf.dev leaf.top) (λ leaf. IsSuch P leaf.dev leaf.top) (stands_under sum.top) (λ leaf such is. such) s.leaves such) in
      let read = reads_on at sum.sum (tries (copies_of sum s.leaves)) r.reads r.wrong row.0 (tries_on (copies_of sum s.leaves) fit) r.is_read in
      subst On (sym r.moves) (all_append (IsOn P) (as_moves (r.reads ++ r.rewrites)) (count_reads sum.sum (r.reads ++ r.rewrites) under)
      (on_calls P (r.reads ++ r.rewrites) (all_append (λ noted. IsCallOn P noted.call) r.reads r.rewrites read.0 (healed_on at row.0 r.wrong r.rewrites read.1 r.is_healed)))
      (counts_on sum.sum (r.reads ++ r.rewrites) under))

  pub read_on : (s : PoolState) (a : ℕ) (vs : List Move) (reply : ReadReply) → RowRead s a vs reply → AreSuch P s.core.leaves → On vs
  read_on s a vs reply (inl row) such = subst On (sym row.1) tt
  read_on s a vs reply (inr row) such = open_by (s.own.writes a) _ _ row.1
    where
      group_by : (cell : Option Cell) (sum : Option Sum) → ReadGroup cell sum s.core vs reply → On vs
      group_by (Some cell) sum row = subst On (sym row.0) tt
      group_by None sum row = record_on sum s.core vs reply such row

      open_by : (write : Option (List ℕ)) (cell : Option Cell) (sum : Option Sum) → ReadOpen write cell sum s.core vs reply → On vs
      open_by (Some block) cell sum row = subst On (sym row.0) tt
      open_by None cell sum row = group_by cell sum row
