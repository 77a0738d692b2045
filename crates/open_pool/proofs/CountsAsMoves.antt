-- The counts of a read as moves: each leaf of the top is set, once, to what is counted on it.
use Rattle.std.proofs.Common.{◌≡◌, ℕ, ◌==◌, cond, Bool, true, false, List, [], ◌∷◌, ◌++◌, map, refl, sym, ap, ap₂, ◌∙◌}
use Rattle.std.specs.List.{AllByRecursion, AllZip, filter}
use Rattle.std.proofs.lemmas.Bool.{true≢false}
use Rattle.bank_core.specs.Disk.{Noted}
use Rattle.pool_moves.specs.Leaves.{OwnLeaf, LeafSeen}
use Rattle.pool_moves.specs.Moves.{Move, Sets, steps, state_step}
use Rattle.pool_moves.specs.States.{PoolState}
use Rattle.pool_moves.specs.Walking.{as_moves}
use Rattle.open_pool.specs.declared.count.Counted.{Counted}
use Rattle.open_pool.proofs.FaultsCounted.{with_leaves}
use Rattle.open_pool.proofs.NumbersApart.{Differ, same_number, turned_test}
use Rattle.open_pool.proofs.ReadsCounted.{counted_own}

pub steps_both : (first second : List Move) (s : PoolState) → steps (first ++ second) s ≡ steps second (steps first s)
steps_both [] second s = refl
steps_both (v ∷ first) second s = steps_both first second (state_step v s)

-- calls alone change no state
pub calls_step : (made : List Noted) (s : PoolState) → steps (as_moves made) s ≡ s
calls_step [] s = refl
calls_step (noted ∷ made) s = calls_step made s

abbrev pub numbers_of : List LeafSeen → List ℕ
numbers_of leaves = map (λ leaf. leaf.guid.0) leaves

-- a leaf with what is counted on the leaf of each of these numbers
abbrev pub own_with : Counted → (number : ℕ) → OwnLeaf → OwnLeaf
own_with c number own = cond (number == c.member.0) (counted_own c own) own

abbrev pub own_along : List Counted → (number : ℕ) → OwnLeaf → OwnLeaf
own_along [] number own = own
own_along (c ∷ cs) number own = own_along cs number (own_with c number own)

abbrev pub leaf_with : Counted → LeafSeen → LeafSeen
leaf_with c leaf = record leaf { own = own_with c leaf.guid.0 leaf.own }

abbrev pub leaf_along : List Counted → LeafSeen → LeafSeen
leaf_along cs leaf = record leaf { own = own_along cs leaf.guid.0 leaf.own }

same_map : (leaves : List LeafSeen) → map (λ leaf. leaf) leaves ≡ leaves
same_map [] = refl
same_map (leaf ∷ leaves) = ap (λ ls. leaf ∷ ls) (same_map leaves)

pub twice_map : (f g : LeafSeen → LeafSeen) (leaves : List LeafSeen) → map g (map f leaves) ≡ map (λ leaf. g (f leaf)) leaves
twice_map f g [] = refl
twice_map f g (leaf ∷ leaves) = ap (λ ls. g (f leaf) ∷ ls) (twice_map f g leaves)

each_map : (f g : LeafSeen → LeafSeen) (leaves : List LeafSeen) → AllByRecursion (λ leaf. f leaf ≡ g leaf) leaves → map f leaves ≡ map g leaves
each_map f g [] same = refl
each_map f g (leaf ∷ leaves) same = ap₂ (λ a b. a ∷ b) same.0 (each_map f g leaves same.1)

-- no leaf of this number is among them
abbrev pub NoneOf : ℕ → List LeafSeen → Type 0
NoneOf n xs = AllByRecursion (λ x. (n == x.guid.0) ≡ false) xs

none_of : (n m : ℕ) (xs : List LeafSeen) → n ≡ m → AllByRecursion (λ k. (m == k) ≡ false) (numbers_of xs) → NoneOf n xs
none_of n m [] is differ = tt
none_of n m (x ∷ xs) is differ = (ap (λ k. k == x.guid.0) is ∙ differ.0, none_of n m xs is differ.1)

module _ (f : LeafSeen → OwnLeaf) where
  abbrev pub sets : List LeafSeen → List Move
  sets xs = map (λ leaf. Sets leaf.guid (f leaf)) xs

  abbrev pub set_one : LeafSeen → LeafSeen → LeafSeen
  set_one x leaf = cond (leaf.guid.0 == x.guid.0) (record leaf { own = f x }) leaf

  abbrev pub set_along : List LeafSeen → LeafSeen → LeafSeen
  set_along [] leaf = leaf
  set_along (x ∷ xs) leaf = set_along xs (set_one x leaf)

  pub steps_sets : (xs : List LeafSeen) (s : PoolState) → steps (sets xs) s ≡ with_leaves (map (set_along xs) s.core.leaves) s
  steps_sets [] s = ap (λ ls. with_leaves ls s) (sym (same_map s.core.leaves))
  steps_sets (x ∷ xs) s =
      steps_sets xs (state_step (Sets x.guid (f x)) s)
      ∙ ap (λ ls. with_leaves ls s) (twice_map (set_one x) (set_along xs) s.core.leaves)

  pub unset : (xs : List LeafSeen) (leaf : LeafSeen) → NoneOf leaf.guid.0 xs → set_along xs leaf ≡ leaf
  unset [] leaf none = refl
  unset (x ∷ xs) leaf none = ap (λ b. set_along xs (cond b (record leaf { own = f x }) leaf)) none.0 ∙ unset xs leaf none.1

  -- leaf by leaf what is set is what is counted
  pub record IsCounted (x : LeafSeen) (c : Counted) : Type 0 where
    pub number : c.member.0 ≡ x.guid.0
    pub is : f x ≡ counted_own c x.own

  uncounted : (xs : List LeafSeen) (cs : List Counted) (n : ℕ) (own : OwnLeaf) → AllZip IsCounted xs cs → NoneOf n xs → own_along cs n own ≡ own
  uncounted [] [] n own are none = refl
  uncounted [] (c ∷ cs) n own are none = absurd are
  uncounted (x ∷ xs) [] n own are none = absurd are
  uncounted (x ∷ xs) (c ∷ cs) n own are none =
      ap (λ b. own_along cs n (cond b (counted_own c own) own)) (ap (λ m. n == m) are.0.number ∙ none.0) ∙ uncounted xs cs n own are.1 none.1

  -- the leaf has what those of its number have
  abbrev pub AgreesWith : LeafSeen → List LeafSeen → Type 0
  AgreesWith leaf xs = AllByRecursion (λ x. (leaf.guid.0 == x.guid.0) ≡ true → x.own ≡ leaf.own) xs

  set_counted : (xs : List LeafSeen) (cs : List Counted) (leaf : LeafSeen) → AllZip IsCounted xs cs → Differ (numbers_of xs) → AgreesWith leaf xs
      → set_along xs leaf ≡ leaf_along cs leaf
  set_counted [] [] leaf are differ agree = refl
  set_counted [] (c ∷ cs) leaf are differ agree = absurd are
  set_counted (x ∷ xs) [] leaf are differ agree = absurd are
  set_counted (x ∷ xs) (c ∷ cs) leaf are differ agree = by (leaf.guid.0 == x.guid.0) refl (set_counted xs cs leaf are.1 differ.1 agree.1)
    where
      test : (leaf.guid.0 == c.member.0) ≡ (leaf.guid.0 == x.guid.0)
      test = ap (λ m. leaf.guid.0 == m) are.0.number

      by : (t : Bool) → (leaf.guid.0 == x.guid.0) ≡ t → set_along xs leaf ≡ leaf_along cs leaf → set_along (x ∷ xs) leaf ≡ leaf_along (c ∷ cs) leaf
      by true is rest =
          let none = none_of leaf.guid.0 x.guid.0 xs (same_number leaf.guid.0 x.guid.0 is) differ.0 in
          ap (λ b. set_along xs (cond b (record leaf { own = f x }) leaf)) is
          ∙ unset xs (record leaf { own = f x }) none
          ∙ ap (λ own. record leaf { own = own }) (are.0.is ∙ ap (counted_own c) (agree.0 is)
          ∙ sym (uncounted xs cs leaf.guid.0 (counted_own c leaf.own) are.1 none))
          ∙ ap (λ b. record leaf { own = own_along cs leaf.guid.0 (cond b (counted_own c leaf.own) leaf.own) }) (sym (test ∙ is))
      by false is rest =
          ap (λ b. set_along xs (cond b (record leaf { own = f x }) leaf)) is ∙ rest
          ∙ ap (λ b. record leaf { own = own_along cs leaf.guid.0 (cond b (counted_own c leaf.own) leaf.own) }) (sym (test ∙ is))

  -- Leaves of which these are some, by a test.
  module _ (which : LeafSeen → Bool) where
    none_here : (n : ℕ) (own : OwnLeaf) (ys : List LeafSeen) → AllByRecursion (λ k. (n == k) ≡ false) (numbers_of ys)
        → AllByRecursion (λ x. (n == x.guid.0) ≡ true → x.own ≡ own) (filter which ys)
    none_here n own [] differ = tt
    none_here n own (y ∷ ys) differ = by (which y) (none_here n own ys differ.1)
      where
        by : (t : Bool) → AllByRecursion (λ x. (n == x.guid.0) ≡ true → x.own ≡ own) (filter which ys)
            → AllByRecursion (λ x. (n == x.guid.0) ≡ true → x.own ≡ own) (cond t (y ∷ filter which ys) (filter which ys))
        by true rest = ((λ is. absurd (true≢false (sym is ∙ differ.0))), rest)
        by false rest = rest

    agree_first : (y : LeafSeen) (ys : List LeafSeen) → AllByRecursion (λ k. (y.guid.0 == k) ≡ false) (numbers_of ys)
        → AgreesWith y (filter which (y ∷ ys))
    agree_first y ys differ = by (which y) (none_here y.guid.0 y.own ys differ)
      where
        by : (t : Bool) → AgreesWith y (filter which ys) → AgreesWith y (cond t (y ∷ filter which ys) (filter which ys))
        by true rest = ((λ is. refl), rest)
        by false rest = rest

    agree_others : (y : LeafSeen) (all ys : List LeafSeen) → AllByRecursion (λ k. (y.guid.0 == k) ≡ false) (numbers_of ys)
        → AllByRecursion (λ leaf. AgreesWith leaf (filter which all)) ys → AllByRecursion (λ leaf. AgreesWith leaf (filter which (y ∷ all))) ys
    agree_others y all [] differ agree = tt
    agree_others y all (leaf ∷ ys) differ agree = (by (which y), agree_others y all ys differ.1 agree.1)
      where
        by : (t : Bool) → AgreesWith leaf (cond t (y ∷ filter which all) (filter which all))
        by true = ((λ is. absurd (true≢false (sym is ∙ turned_test y.guid.0 leaf.guid.0 differ.0))), agree.0)
        by false = agree.0

    pub all_agree : (all : List LeafSeen) → Differ (numbers_of all) → AllByRecursion (λ leaf. AgreesWith leaf (filter which all)) all
    all_agree [] differ = tt
    all_agree (y ∷ ys) differ = (agree_first y ys differ.0, agree_others y ys ys differ.0 (all_agree ys differ.1))

    fewer : (n : ℕ) (ys : List LeafSeen) → AllByRecursion (λ k. (n == k) ≡ false) (numbers_of ys)
        → AllByRecursion (λ k. (n == k) ≡ false) (numbers_of (filter which ys))
    fewer n [] differ = tt
    fewer n (y ∷ ys) differ = by (which y) (fewer n ys differ.1)
      where
        by : (t : Bool) → AllByRecursion (λ k. (n == k) ≡ false) (numbers_of (filter which ys))
            → AllByRecursion (λ k. (n == k) ≡ false) (numbers_of (cond t (y ∷ filter which ys) (filter which ys)))
        by true rest = (differ.0, rest)
        by false rest = rest

    some_differ : (all : List LeafSeen) → Differ (numbers_of all) → Differ (numbers_of (filter which all))
    some_differ [] differ = tt
    some_differ (y ∷ ys) differ = by (which y) (some_differ ys differ.1)
      where
        by : (t : Bool) → Differ (numbers_of (filter which ys)) → Differ (numbers_of (cond t (y ∷ filter which ys) (filter which ys)))
        by true rest = (fewer y.guid.0 ys differ.0, rest)
        by false rest = rest

    counted_each : (cs : List Counted) (xs some : List LeafSeen) → AllZip IsCounted xs cs → Differ (numbers_of xs)
        → AllByRecursion (λ leaf. AgreesWith leaf xs) some → AllByRecursion (λ leaf. set_along xs leaf ≡ leaf_along cs leaf) some
    counted_each cs xs [] are differ agree = tt
    counted_each cs xs (leaf ∷ some) are differ agree = (set_counted xs cs leaf are differ agree.0, counted_each cs xs some are differ agree.1)

    -- so these moves leave each leaf with what is counted on it
    pub sets_are_counts : (cs : List Counted) (s : PoolState) → Differ (numbers_of s.core.leaves) → AllZip IsCounted (filter which s.core.leaves) cs
        → steps (sets (filter which s.core.leaves)) s ≡ with_leaves (map (leaf_along cs) s.core.leaves) s
    sets_are_counts cs s differ are =
        let xs = filter which s.core.leaves in
        steps_sets xs s
        ∙ ap (λ ls. with_leaves ls s) (each_map (set_along xs) (leaf_along cs) s.core.leaves
        (counted_each cs xs s.core.leaves are (some_differ s.core.leaves differ) (all_agree s.core.leaves differ)))
