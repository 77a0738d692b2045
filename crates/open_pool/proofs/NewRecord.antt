-- The first record of a new pool is a valid configuration.
use Rattle.std.proofs.Common.{◌≡◌, ◌≢◌, inl, ℕ, suc, ◌+◌, ◌-◌, ◌<◌, ◌≤◌, ◌^◌, List, [], ◌∷◌, ◌++◌, length, map, min, Some, None, Option, refl, sym, ap, ◌∙◌, subst, arith, length-append}
use Rattle.std.specs.Prelude.{All, AllPairs, IsTrue, sum}
use Rattle.std.specs.List.{AllByRecursion, flat_map}
use Rattle.std.proofs.lemmas.List.{length-map, map-append}
use Rattle.std.proofs.lemmas.List.Elements.{All-cons, All-nil, All-from_recursion, recursion_from_All}
use Rattle.std.proofs.lemmas.List.Kept.{AllPairs-cons}
use Rattle.mp_base.specs.Name.{is_name}
use Rattle.mp_base.specs.declared.number.Guid.{Guid}
use Rattle.mp_base.specs.declared.place.Pointer.{Pointer}
use Rattle.vdev_tree.specs.Tree.{leaves}
use Rattle.vdev_tree.specs.declared.top.Top.{Top}
use Rattle.vdev_tree.specs.declared.vdev.LeafVdev.{LeafVdev}
use Rattle.dtl_rules.specs.Widening.{leaves_of}
use Rattle.pool_config.specs.Seen.{ConfigSeen, leaf_vdev, leaf_seen, leaf_name, leaves_among, number_of_vdev, mirror_vdevs, top_vdevs}
use Rattle.pool_config.specs.Validity.{IsHole, IsIn, IsTop, IsLeaf, IsDrawn, IsValid, log_length}
use Rattle.pool_config.proofs.Shaping.{tree_is_top}
use Rattle.pool_moves.specs.StampRow.{NewMember, NewLeaf, leaves_from, new_leaves, next_from, least_with, top_leaves}
use Rattle.open_pool.specs.Creating.{AreMade, AreNewTops, IsNewTop, IsAsked, least_room}
use Rattle.open_pool.specs.Form.{top_of}
use Rattle.open_pool.specs.Parts.{all_parts, top_parts}
use Rattle.open_pool.proofs.LeavesInForm.{vdevs_of_trees}
use Rattle.open_pool.proofs.NewLeavesMade.{as_many, names_differ, no_ranges_together, recordable, trees_made}
use Rattle.open_pool.proofs.RecordStill.{seen_tops, leaves_in}

-- Numbers that go up one by one from here on.
abbrev Runs : ℕ → List ℕ → Type 0
Runs n [] = Unit {0}
Runs n (k ∷ ks) = (k ≡ n) × Runs (suc n) ks

runs_on : (n m : ℕ) (xs ys : List ℕ) → Runs n xs → m ≡ n + length xs → Runs m ys → Runs n (xs ++ ys)
runs_on n m [] ys run is more = subst (λ k. Runs k ys) (let same : m ≡ n = omega (arith, is) in same) more
runs_on n m (x ∷ xs) ys run is more = (run.0, runs_on (suc n) m xs ys run.1 (omega (arith, is)) more)

above : (n m : ℕ) (xs : List ℕ) → m < n → Runs n xs → All (λ k. m ≢ k) xs
above n m [] lt run = All-nil (λ k. m ≢ k)
above n m (x ∷ xs) lt run =
    All-cons (λ k. m ≢ k) x xs (λ same. omega (arith, same, lt, run.0)) (above (suc n) m xs (omega (arith, lt)) run.1)

runs_differ : (n : ℕ) (xs : List ℕ) → Runs n xs → AllPairs (λ a b. a ≢ b) xs
runs_differ n [] run = λ i j d lt within. absurd (omega (arith, within))
runs_differ n (x ∷ xs) run =
    AllPairs-cons (λ a b. a ≢ b) x xs (above (suc n) x xs (omega (arith, run.0)) run.1) (runs_differ (suc n) xs run.1)

runs_drawn : (n next : ℕ) (xs : List ℕ) → Runs n xs → 1 ≤ n → n + length xs ≤ next → All (IsDrawn next) xs
runs_drawn n next [] run low high = All-nil (IsDrawn next)
runs_drawn n next (x ∷ xs) run low high =
    All-cons (IsDrawn next) x xs (omega (arith, low, run.0), omega (arith, high, run.0))
    (runs_drawn (suc n) next xs run.1 (omega (arith, low)) (omega (arith, high)))

-- The numbers of new tops.
leaves_run : (next : ℕ) (members : List NewMember) (under : List LeafVdev) → AreMade next members under
    → Runs next (map number_of_vdev (map leaf_vdev (map leaf_seen under)))
leaves_run next [] [] made = tt
leaves_run next [] (leaf ∷ under) made = absurd made
leaves_run next (m ∷ members) [] made = absurd made
leaves_run next (m ∷ members) (leaf ∷ under) made = (ap (λ (g : Guid). g.0) made.0.guid_is, leaves_run (suc next) members under made.1)

leaves_long : (next : ℕ) (members : List NewMember) (under : List LeafVdev) → AreMade next members under
    → length (map number_of_vdev (map leaf_vdev (map leaf_seen under))) ≡ length members
leaves_long next [] [] made = refl
leaves_long next [] (leaf ∷ under) made = absurd made
leaves_long next (m ∷ members) [] made = absurd made
leaves_long next (m ∷ members) (leaf ∷ under) made = ap suc (leaves_long (suc next) members under made.1)

module _ (size : ℕ → ℕ) where
  abbrev tree_numbers : Top → List ℕ
  tree_numbers tree = map number_of_vdev (mirror_vdevs tree)

  tree_runs : (next : ℕ) (members : List NewMember) (tree : Top) → IsNewTop size next members tree → Runs next (tree_numbers tree)
  tree_runs next members tree is =
      subst (λ vdevs. Runs next (map number_of_vdev vdevs)) (sym is.mirror.vdevs) (refl, leaves_run (suc next) members (leaves tree.mirror) is.mirror.made)

  tree_long : (next : ℕ) (members : List NewMember) (tree : Top) → IsNewTop size next members tree → length (tree_numbers tree) ≡ suc (length members)
  tree_long next members tree is =
      ap (λ vdevs. length (map number_of_vdev vdevs)) is.mirror.vdevs
      ∙ ap suc (leaves_long (suc next) members (leaves tree.mirror) is.mirror.made)

  abbrev numbers : List Top → List ℕ
  numbers trees = map number_of_vdev (flat_map mirror_vdevs trees)

  more_numbers : (tree : Top) (trees : List Top) → numbers (tree ∷ trees) ≡ tree_numbers tree ++ numbers trees
  more_numbers tree trees = map-append number_of_vdev (mirror_vdevs tree) (flat_map mirror_vdevs trees)

  all_run : (next : ℕ) (asked : List (List NewMember)) (trees : List Top) → AreNewTops size next asked trees → Runs next (numbers trees)
  all_run next [] [] are = tt
  all_run next [] (tree ∷ trees) are = absurd are
  all_run next (members ∷ asked) [] are = absurd are
  all_run next (members ∷ asked) (tree ∷ trees) are =
      subst (Runs next) (sym (more_numbers tree trees))
      (runs_on next (suc next + length members) (tree_numbers tree) (numbers trees) (tree_runs next members tree are.0)
      (let long = tree_long next members tree are.0 in omega (arith, long))
      (all_run (suc next + length members) asked trees are.1))

  next_is : (next : ℕ) (asked : List (List NewMember)) (trees : List Top) → AreNewTops size next asked trees
      → next_from next asked ≡ next + length (numbers trees)
  next_is next [] [] are = omega arith
  next_is next [] (tree ∷ trees) are = absurd are
  next_is next (members ∷ asked) [] are = absurd are
  next_is next (members ∷ asked) (tree ∷ trees) are =
      let rest = next_is (suc next + length members) asked trees are.1 in
      let long = tree_long next members tree are.0 in
      let all = ap length (more_numbers tree trees) in
      let both = length-append (tree_numbers tree) (numbers trees) in
      omega (arith, rest, long, all, both)

  -- so many as tops and leaves together
  made_long : (n top : ℕ) (ms : List NewMember) → length (top_leaves n top ms) ≡ length ms
  made_long n top [] = refl
  made_long n top (m ∷ ms) = ap suc (made_long (suc n) top ms)

  next_counts : (next top : ℕ) (asked : List (List NewMember))
      → next_from next asked ≡ next + length asked + length (leaves_from next top asked)
  next_counts next top [] = omega arith
  next_counts next top (members ∷ asked) =
      let rest = next_counts (suc next + length members) (suc top) asked in
      let here = made_long (suc next) top members in
      let both = length-append (top_leaves (suc next) top members) (leaves_from (suc next + length members) (suc top) asked) in
      omega (arith, rest, here, both)

  -- The sectors of each.
  pub each_under : (next top : ℕ) (P : ℕ → Type 0) (ms : List NewMember) (rest : List NewLeaf)
      → AllByRecursion (λ (leaf : NewLeaf). P (size leaf.dev)) (top_leaves next top ms ++ rest)
      → AllByRecursion (λ (m : NewMember). P (size m.dev)) ms × AllByRecursion (λ (leaf : NewLeaf). P (size leaf.dev)) rest
  each_under next top P [] rest all = (tt, all)
  each_under next top P (m ∷ ms) rest all = let more = each_under (suc next) top P ms rest all.1 in ((all.0, more.0), more.1)

  some_is : (a b : ℕ) → Some a ≡ Some b → a ≡ b
  some_is a b e = cc

  least_by : (m : NewMember) (n : ℕ) (o : Option ℕ) → 320 ≤ size m.dev → size m.dev ≤ 1048576 → ((k : ℕ) → o ≡ Some k → IsIn 64 1048320 k)
      → Some (least_with (size m.dev - 256) o) ≡ Some n → IsIn 64 1048320 n
  least_by m n None big short rest is = let same = some_is (size m.dev - 256) n is in (omega (arith, same, big), omega (arith, same, short))
  least_by m n (Some k) big short rest is =
      let same = some_is (min (size m.dev - 256) k) n is in
      let more = rest k refl in
      let low = more.0 in
      let high = more.1 in (omega (arith, same, big, low), omega (arith, same, short, high))

  least_within : (ms : List NewMember) (n : ℕ) → AllByRecursion (λ (m : NewMember). 320 ≤ size m.dev) ms
      → AllByRecursion (λ (m : NewMember). size m.dev ≤ 1048576) ms → least_room size ms ≡ Some n → IsIn 64 1048320 n
  least_within [] n big short is = absurd (let no : None ≡ Some n = is in cc)
  least_within (m ∷ ms) n big short is = least_by m n (least_room size ms) big.0 short.0 (λ k some. least_within ms k big.1 short.1 some) is

  pub sized : (next top : ℕ) (asked : List (List NewMember)) (trees : List Top) → AreNewTops size next asked trees
      → AllByRecursion (λ (leaf : NewLeaf). 320 ≤ size leaf.dev) (leaves_from next top asked)
      → AllByRecursion (λ (leaf : NewLeaf). size leaf.dev ≤ 1048576) (leaves_from next top asked) → AllByRecursion IsTop (seen_tops trees)
  sized next top [] [] are big short = tt
  sized next top [] (tree ∷ trees) are big short = absurd are
  sized next top (members ∷ asked) [] are big short = absurd are
  sized next top (members ∷ asked) (tree ∷ trees) are big short =
      let rest = leaves_from (suc next + length members) (suc top) asked in
      let large = each_under (suc next) top (λ n. 320 ≤ n) members rest big in
      let few = each_under (suc next) top (λ n. n ≤ 1048576) members rest short in (
        record { sectors = least_within members tree.sectors large.0 few.0 are.0.sectors; tree = tree_is_top tree.mirror ∙ tree.valid },
        sized (suc next + length members) (suc top) asked trees are.1 large.1 few.1,
      )

  pub as_many_tops : (next : ℕ) (asked : List (List NewMember)) (trees : List Top) → AreNewTops size next asked trees → length trees ≡ length asked
  as_many_tops next [] [] are = refl
  as_many_tops next [] (tree ∷ trees) are = absurd are
  as_many_tops next (members ∷ asked) [] are = absurd are
  as_many_tops next (members ∷ asked) (tree ∷ trees) are = ap suc (as_many_tops (suc next + length members) asked trees are.1)

-- The configuration of the first record.
abbrev pub first_config : (name : List ℕ) (pool : Guid) (blocks next : ℕ) → Pointer → List Top → ConfigSeen
first_config name pool blocks next root trees = record {
  pool = pool;
  name = name;
  blocks = blocks;
  number = record { 0 = 1 };
  next_guid = next;
  root = root;
  tops = seen_tops trees;
  spares = [];
}

pub first_valid : (size : ℕ → ℕ) (name : List ℕ) (pool : Guid) (blocks : ℕ) (asked : List (List NewMember)) (trees : List Top) (root : Pointer)
    → IsAsked size blocks asked → AreNewTops size 1 asked trees → IsTrue (is_name name) → pool.0 < 2 ^ 64 → IsHole root
    → IsValid (first_config name pool blocks (next_from 1 asked) root trees)
first_valid size name pool blocks asked trees root is are named in_range hole =
    let new = is.is_new in
    let made = trees_made size 1 1 asked trees are in
    let all : leaves_among (flat_map top_vdevs (seen_tops trees)) ≡ map leaf_seen (leaves_of trees) = leaves_in trees in
    let vdevs : map number_of_vdev (flat_map top_vdevs (seen_tops trees)) ≡ map number_of_vdev (flat_map mirror_vdevs trees) =
    ap (map number_of_vdev) (vdevs_of_trees trees) in
    let tops = as_many_tops size 1 asked trees are in
    let many : length (seen_tops trees) ≡ length asked = length-map (all_parts trees) top_of ∙ length-map trees top_parts ∙ tops in
    let count = next_counts size 1 1 asked in
    let next = next_is size 1 asked trees are in
    let few = new.few_tops in
    let leaves = new.few_leaves in
    let run = all_run size 1 asked trees are in
    record {
      pool = in_range;
      name = named;
      blocks = (new.some, new.most);
      number = (omega arith, omega arith);
      next_guid = omega (arith, count, few, leaves);
      root = inl hole;
      few_tops = (let some = is.some in omega (arith, some, many), omega (arith, few, many));
      tops = All-from_recursion IsTop (seen_tops trees)
          (sized size 1 1 asked trees are new.big (recursion_from_All (λ (leaf : NewLeaf). size leaf.dev ≤ 1048576) (new_leaves asked) is.short));
      few_leaves = (let long = ap length all in let leaf = length-map (leaves_of trees) leaf_seen in
          let same = as_many (new_leaves asked) (leaves_of trees) made in omega (arith, long, leaf, same, leaves));
      leaves = subst (All (IsLeaf (record { 0 = 1 }))) (sym all)
          (All-from_recursion (IsLeaf (record { 0 = 1 })) (map leaf_seen (leaves_of trees)) (recordable (new_leaves asked) (leaves_of trees) made));
      devices = subst (λ ls. AllPairs (λ a b. a ≢ b) (map leaf_name ls)) (sym all) (names_differ (new_leaves asked) (leaves_of trees) made is.names);
      drawn = subst (All (IsDrawn (next_from 1 asked))) (sym vdevs)
          (runs_drawn 1 (next_from 1 asked) (map number_of_vdev (flat_map mirror_vdevs trees)) run (omega arith) (omega (arith, next)));
      apart = subst (AllPairs (λ a b. a ≢ b)) (sym vdevs) (runs_differ 1 (map number_of_vdev (flat_map mirror_vdevs trees)) run);
      few_ranges = (let none = ap (λ ls. sum (map log_length ls)) all ∙ no_ranges_together (new_leaves asked) (leaves_of trees) made in omega (arith, none));
      few_spares = omega arith;
      spares = All-nil (λ name. IsTrue (is_name name));
      spares_differ = λ i j d lt within. absurd (omega (arith, within));
    }
