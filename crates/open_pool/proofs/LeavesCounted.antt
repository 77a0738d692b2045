-- A read, on the leaves of its block's top: what is counted on each is what the row counts there, and what is told of each where no
-- copy is good.
use Rattle.std.proofs.Common.{◌≡◌, ◌≢◌, ◌&&◌, not, ℕ, zero, suc, cond, Bool, true, false, List, [], ◌∷◌, ◌++◌, map, Option, Some, None, is_some, refl, sym, ap, ap₂, ◌∙◌, subst, arith}
use Rattle.std.specs.Prelude.{All}
use Rattle.std.specs.List.{AllByRecursion, filter}
use Rattle.std.proofs.lemmas.Bool.{true≢false}
use Rattle.std.proofs.lemmas.List.Elements.{recursion_from_All}
use Rattle.group_set.specs.Groups.{holds}
use Rattle.vdev_tree.specs.Leaf.{is_readable}
use Rattle.vdev_tree.specs.declared.vdev.LeafVdev.{LeafVdev}
use Rattle.bank_core.specs.Disk.{Noted}
use Rattle.mirror_io.specs.declared.copies.CopyOf.{CopyOf}
use Rattle.mirror_io.specs.Copies.{AreApart, is_due, tries}
use Rattle.mirror_io.specs.Mirror.{IsHealed}
use Rattle.mirror_io.specs.Reads.{IsReads}
use Rattle.mirror_io.specs.Seen.{copy_seen}
use Rattle.mirror_io.proofs.Causing.{all_readable}
use Rattle.mirror_io.proofs.Showing.{due_readable}
use Rattle.mirror_io.proofs.Wrong.{Away}
use Rattle.pool_moves.specs.Leaves.{OwnLeaf}
use Rattle.pool_moves.specs.ReadRow.{copy_at, counted_calls}
use Rattle.pool_moves.specs.Showing.{leaf_shown}
use Rattle.open_pool.specs.Copies.{copy_on, copies_on}
use Rattle.open_pool.specs.Counting.{counted_by}
use Rattle.open_pool.specs.Reading.{seen_as}
use Rattle.open_pool.proofs.CallsOnCopies.{calls_on, on_both, OwnDevices, OnCopy, on_unread, wrong_own, wrong_mended, away_mended, all_on, all_still}
use Rattle.open_pool.proofs.ReadsCounted.{counted_own, copy_counted, other_counted, copy_shown_as}
use Rattle.open_pool.proofs.SeatsOfFreeze.{OnOwnDevices}

-- A leaf that isn't readable has a device that none of those has that are read.
away_due : (d : ℕ) (owing : Bool) (copies : List CopyOf) → AllByRecursion (λ copy. copy.readable ≡ true → d ≢ copy.dev) copies
    → Away d (filter (is_due owing) copies)
away_due d owing [] off = tt
away_due d owing (copy ∷ copies) off = by (is_due owing copy) refl (away_due d owing copies off.1)
  where
    by : (t : Bool) → is_due owing copy ≡ t → Away d (filter (is_due owing) copies)
        → Away d (cond t (copy ∷ filter (is_due owing) copies) (filter (is_due owing) copies))
    by true is rest = (off.0 (due_readable owing copy is), rest)
    by false is rest = rest

away_both : (d : ℕ) (xs ys : List CopyOf) → Away d xs → Away d ys → Away d (xs ++ ys)
away_both d [] ys a b = b
away_both d (x ∷ xs) ys a b = (a.0, away_both d xs ys a.1 b)

away_tries : (d : ℕ) (copies : List CopyOf) → AllByRecursion (λ copy. copy.readable ≡ true → d ≢ copy.dev) copies → Away d (tries copies)
away_tries d copies off =
    away_both d (filter (is_due false) copies) (filter (is_due true) copies) (away_due d false copies off) (away_due d true copies off)

-- Readable copies of different devices are tried on devices of their own.
away_insert : (d : ℕ) (copy : CopyOf) (xs ys : List CopyOf) → d ≢ copy.dev → Away d (xs ++ ys) → Away d (xs ++ copy ∷ ys)
away_insert d copy [] ys here rest = (here, rest)
away_insert d copy (x ∷ xs) ys here rest = (rest.0, away_insert d copy xs ys here rest.1)

own_insert : (copy : CopyOf) (xs ys : List CopyOf) → Away copy.dev (xs ++ ys) → OwnDevices (xs ++ ys) → OwnDevices (xs ++ copy ∷ ys)
own_insert copy [] ys away own = (away, own)
own_insert copy (x ∷ xs) ys away own = (away_insert x.dev copy xs ys (λ e. away.0 (sym e)) own.0, own_insert copy xs ys away.1 own.1)

own_tries : (copies : List CopyOf) → AreApart copies → OwnDevices (tries copies)
own_tries [] apart = tt
own_tries (copy ∷ copies) apart =
    by copy.readable copy.lacks refl (own_tries copies (λ i j d less lt. apart (suc i) (suc j) d (omega arith) (omega arith)))
  where
    away : copy.readable ≡ true → Away copy.dev (tries copies)
    away is = away_tries copy.dev copies (recursion_from_All (λ c. c.readable ≡ true → copy.dev ≢ c.dev) copies
        (λ k d lt up. apart zero (suc k) d (omega arith) (omega arith) is up))

    by : (r l : Bool) → copy.readable ≡ r → OwnDevices (tries copies)
        → OwnDevices (cond (r && not l) (copy ∷ filter (is_due false) copies) (filter (is_due false) copies)
        ++ cond (r && l) (copy ∷ filter (is_due true) copies) (filter (is_due true) copies))
    by false l is own = own
    by true false is own = (away is, own)
    by true true is own = own_insert copy (filter (is_due false) copies) (filter (is_due true) copies) (away is) own

-- what a leaf's copy has of its device
pub copy_dev : (birth : ℕ) (leaf : LeafVdev) → (copy_on birth leaf).readable ≡ true → leaf.dev ≡ Some (copy_on birth leaf).dev
copy_dev birth leaf up = by leaf.dev refl up
  where
    by : (dev : Option ℕ) → leaf.dev ≡ dev → (copy_at (is_readable leaf) dev (holds leaf.log birth)).readable ≡ true
        → leaf.dev ≡ Some (copy_at (is_readable leaf) dev (holds leaf.log birth)).dev
    by None is up = absurd (let no : false ≡ true = up in cc)
    by (Some d) is up = is

module _ (birth : ℕ) where
  abbrev IsOff : LeafVdev → LeafVdev → Type 0
  IsOff x y = (d : ℕ) → x.dev ≡ Some d → (copy_on birth x).readable ≡ false → (copy_on birth y).readable ≡ true → d ≢ (copy_on birth y).dev

  off_itself : (x : LeafVdev) → IsOff x x
  off_itself x d is down up = absurd (true≢false (sym up ∙ down))

  off_two : (x y : LeafVdev) → ((d : ℕ) → x.dev ≡ Some d → y.dev ≡ Some d → ⊥) → IsOff x y
  off_two x y apart d is down up same = apart d is (copy_dev birth y up ∙ ap (λ n. Some n) (sym same))

  off_back : (x y : LeafVdev) → ((d : ℕ) → x.dev ≡ Some d → y.dev ≡ Some d → ⊥) → IsOff y x
  off_back x y apart d is down up same = apart d (copy_dev birth x up ∙ ap (λ n. Some n) (sym same)) is

  off_first : (x : LeafVdev) (xs : List LeafVdev) → AllByRecursion (λ y. (d : ℕ) → x.dev ≡ Some d → y.dev ≡ Some d → ⊥) xs → AllByRecursion (IsOff x) xs
  off_first x [] apart = tt
  off_first x (y ∷ xs) apart = (off_two x y apart.0, off_first x xs apart.1)

  off_others : (x : LeafVdev) (all xs : List LeafVdev) → AllByRecursion (λ y. (d : ℕ) → x.dev ≡ Some d → y.dev ≡ Some d → ⊥) xs
      → AllByRecursion (λ y. AllByRecursion (IsOff y) all) xs → AllByRecursion (λ y. AllByRecursion (IsOff y) (x ∷ all)) xs
  off_others x all [] apart off = tt
  off_others x all (y ∷ xs) apart off = ((off_back x y apart.0, off.0), off_others x all xs apart.1 off.1)

  apart_from : (x : LeafVdev) (xs : List LeafVdev) → All (λ y. (d : ℕ) → x.dev ≡ Some d → y.dev ≡ Some d → ⊥) xs
      → AllByRecursion (λ y. (d : ℕ) → x.dev ≡ Some d → y.dev ≡ Some d → ⊥) xs
  apart_from x [] devices = tt
  apart_from x (y ∷ xs) devices = (devices 0 y (omega arith), apart_from x xs (λ k d lt. devices (suc k) d (omega arith)))

  all_off : (under : List LeafVdev) → OnOwnDevices under → AllByRecursion (λ x. AllByRecursion (IsOff x) under) under
  all_off [] devices = tt
  all_off (x ∷ xs) devices =
      let apart = apart_from x xs (λ k d lt. devices 0 (suc k) d (omega arith) (omega arith)) in
      ((off_itself x, off_first x xs apart), off_others x xs xs apart (all_off xs (λ i j d lt within. devices (suc i) (suc j) d (omega arith) (omega arith))))

  copies_off : (x : LeafVdev) (d : ℕ) (ys : List LeafVdev) → x.dev ≡ Some d → (copy_on birth x).readable ≡ false → AllByRecursion (IsOff x) ys
      → AllByRecursion (λ copy. copy.readable ≡ true → d ≢ copy.dev) (copies_on birth ys)
  copies_off x d [] is down off = tt
  copies_off x d (y ∷ ys) is down off = ((λ up. off.0 d is down up), copies_off x d ys is down off.1)

-- One read of copies on leaves, each with a device of its own.
module _ (at : ℕ) (sum : List ℕ) (birth : ℕ) (under : List LeafVdev) (reads mended : List Noted) (wrong : List CopyOf) (outcome : Option (List ℕ))
    (devices : OnOwnDevices under) (apart : AreApart (copies_on birth under)) (is_read : IsReads at sum (tries (copies_on birth under)) reads wrong outcome)
    (healed : IsHealed at outcome wrong mended) where
  abbrev HasCalls : CopyOf → Type 0
  HasCalls copy = OnCopy at sum outcome mended copy (calls_on copy.dev reads)

  have_calls : AllByRecursion (λ copy. copy.readable ≡ true → HasCalls copy) (copies_on birth under)
  have_calls =
      let own = own_tries (copies_on birth under) apart in
      all_readable HasCalls (copies_on birth under)
      (all_on at sum (tries (copies_on birth under)) reads wrong outcome mended own is_read
      (wrong_mended at outcome wrong mended (wrong_own at sum (tries (copies_on birth under)) reads wrong outcome own is_read) healed)
      (all_still at outcome wrong mended (tries (copies_on birth under)) healed))

  uncalled : (x : LeafVdev) (d : ℕ) → x.dev ≡ Some d → (copy_on birth x).readable ≡ false → AllByRecursion (IsOff birth x) under
      → calls_on d (reads ++ mended) ≡ []
  uncalled x d is down off =
      let away = away_tries d (copies_on birth under) (copies_off birth x d under is down off) in
      let none = on_unread d at sum (tries (copies_on birth under)) reads wrong outcome away is_read in
      on_both d reads mended ∙ ap₂ (λ a b. a ++ b) none.0 (away_mended d at outcome wrong mended none.1 healed)

  -- what is counted on a leaf
  abbrev pub CountsLeaf : LeafVdev → Type 0
  CountsLeaf leaf = (own : OwnLeaf) → counted_calls sum leaf.dev (reads ++ mended) own
      ≡ counted_own (counted_by (is_some outcome) leaf.guid (copy_on birth leaf) (copy_seen sum (reads ++ mended) (copy_on birth leaf))) own

  counts_one : (leaf : LeafVdev) → ((copy_on birth leaf).readable ≡ true → HasCalls (copy_on birth leaf)) → AllByRecursion (IsOff birth leaf) under → CountsLeaf leaf
  counts_one leaf calls off own = by (copy_on birth leaf).readable refl
    where
      by : (t : Bool) → (copy_on birth leaf).readable ≡ t → counted_calls sum leaf.dev (reads ++ mended) own
          ≡ counted_own (counted_by (is_some outcome) leaf.guid (copy_on birth leaf) (copy_seen sum (reads ++ mended) (copy_on birth leaf))) own
      by true up = ap (λ dev. counted_calls sum dev (reads ++ mended) own) (copy_dev birth leaf up)
          ∙ copy_counted at sum outcome mended (copy_on birth leaf) leaf.guid own reads up (calls up)
      by false down = other_counted at sum outcome mended (copy_on birth leaf) leaf.guid own leaf.dev (reads ++ mended) down
          (λ d is. uncalled leaf d is down off)

  counts_each : (some : List LeafVdev) → AllByRecursion (λ copy. copy.readable ≡ true → HasCalls copy) (copies_on birth some)
      → AllByRecursion (λ x. AllByRecursion (IsOff birth x) under) some → AllByRecursion CountsLeaf some
  counts_each [] calls off = tt
  counts_each (leaf ∷ some) calls off = (counts_one leaf calls.0 off.0, counts_each some calls.1 off.1)

  pub counts_all : AllByRecursion CountsLeaf under
  counts_all = counts_each under have_calls (all_off birth under devices)

  shown_each : (copies : List CopyOf) → outcome ≡ None → AllByRecursion (λ copy. copy.readable ≡ true → HasCalls copy) copies
      → map (copy_seen sum (reads ++ mended)) copies ≡ map seen_as (map (leaf_shown reads) copies)
  shown_each [] none calls = refl
  shown_each (copy ∷ copies) none calls = ap₂ (λ a b. a ∷ b)
      (copy_shown_as at sum mended copy reads (subst (λ o. IsHealed at o wrong mended) none healed)
      (λ up. subst (λ o. OnCopy at sum o mended copy (calls_on copy.dev reads)) none (calls.0 up)))
      (shown_each copies none calls.1)

  -- and what is told where none is good
  pub leaves_shown : outcome ≡ None
      → map (copy_seen sum (reads ++ mended)) (copies_on birth under) ≡ map seen_as (map (leaf_shown reads) (copies_on birth under))
  leaves_shown none = shown_each (copies_on birth under) none have_calls
