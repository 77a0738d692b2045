-- What may be recorded of a pool may be so with other logs, within its numbers, and under a higher number.
use Rattle.std.proofs.Common.{◌≡◌, ◌≢◌, ◌⊎◌, inl, inr, ℕ, zero, suc, ◌+◌, ◌-◌, ◌<◌, ◌≤◌, ◌^◌, true, List, [], ◌∷◌, length, map, Some, None, refl, sym, ap, ◌∙◌, subst, arith}
use Rattle.std.specs.Prelude.{IsTrue, All, AllPairs, slice_get, sum}
use Rattle.std.specs.List.{AllByRecursion, AllZip, flat_map}
use Rattle.std.proofs.lemmas.Bool.{false_from_ne_true}
use Rattle.std.proofs.lemmas.List.{length-map}
use Rattle.std.proofs.lemmas.List.Elements.{recursion_from_All, All-from_recursion}
use Rattle.mp_base.specs.Name.{is_name}
use Rattle.mp_base.specs.Ranges.{Rises}
use Rattle.mp_base.specs.declared.number.Group.{Group}
use Rattle.mp_base.specs.declared.place.Pointer.{Pointer}
use Rattle.group_set.specs.Groups.{holds}
use Rattle.group_set.specs.Ranges.{ranges_upto}
use Rattle.group_set.proofs.Upto.{upto_rises, upto_further}
use Rattle.vdev_tree.specs.declared.top.Top.{Top}
use Rattle.vdev_tree.specs.declared.vdev.LeafVdev.{LeafVdev}
use Rattle.dtl_rules.specs.Widening.{leaves_of, marks_of, sectors_of}
use Rattle.pool_config.specs.Flags.{is_recorded, recorded}
use Rattle.pool_config.specs.Seen.{TopSeen, ConfigSeen, leaf_seen, leaf_name, leaves_among, number_of_vdev, all_vdevs, mirror_vdevs, ranges_of}
use Rattle.pool_config.specs.Validity.{IsHole, IsPlaced, IsIn, IsTop, IsLeaf, IsDrawn, IsValid, log_length}
use Rattle.pool_config.proofs.Bounds.{sum_cons}
use Rattle.pool_config.proofs.Shaping.{tree_is_top}
use Rattle.open_pool.specs.Form.{top_of}
use Rattle.open_pool.specs.Parts.{all_parts}
use Rattle.open_pool.proofs.BoardKept.{AreSameLeaves}
use Rattle.open_pool.proofs.LeavesInForm.{vdevs_of_trees, leaves_of_trees}
use Rattle.open_pool.proofs.LeavesKept.{AreKept}
use Rattle.open_pool.proofs.LogsWidened.{IsWithin}
use Rattle.open_pool.proofs.TreesStay.{AreNumberedAlike, numbered_alike}
use Rattle.open_pool.proofs.VdevNumbers.{same_vdev_numbers}

abbrev pub seen_tops : List Top → List TopSeen
seen_tops trees = map top_of (all_parts trees)

head_is : (a b : ℕ) (xs ys : List ℕ) → a ∷ xs ≡ b ∷ ys → a ≡ b
head_is a b xs ys e = cc

tail_is : (a b : ℕ) (xs ys : List ℕ) → a ∷ xs ≡ b ∷ ys → xs ≡ ys
tail_is a b xs ys e = cc

-- The tops.
tops_still : (old new : List Top) → sectors_of new ≡ sectors_of old → AllByRecursion IsTop (seen_tops old)
    → AllByRecursion IsTop (seen_tops new)
tops_still old [] same are = tt
tops_still [] (t ∷ new) same are = absurd (cc)
tops_still (t ∷ old) (u ∷ new) same are = (
  record {
    sectors = subst (IsIn 64 1048320) (sym (head_is u.sectors t.sectors (sectors_of new) (sectors_of old) same)) are.0.sectors;
    tree = tree_is_top u.mirror ∙ u.valid;
  },
  tops_still old new (tail_is u.sectors t.sectors (sectors_of new) (sectors_of old) same) are.1,
)

-- the top at a place, with its sectors
record HasSectors (tops : List TopSeen) (at sector : ℕ) : Type 0 where
  top : TopSeen
  there : slice_get tops at ≡ Some top
  inside : sector < top.sectors

sectors_still : (old new : List Top) (at sector : ℕ) (top : TopSeen) → sectors_of new ≡ sectors_of old
    → slice_get (seen_tops old) at ≡ Some top → sector < top.sectors → HasSectors (seen_tops new) at sector
sectors_still [] new at sector top same there inside = absurd (let no : None ≡ Some top = there in cc)
sectors_still (t ∷ old) [] at sector top same there inside = absurd (cc)
sectors_still (t ∷ old) (u ∷ new) zero sector top same there inside =
    record {
      top = record { sectors = u.sectors; vdevs = mirror_vdevs u };
      there = refl;
      inside = (
          let is : t.sectors ≡ top.sectors = sectors_are (record { sectors = t.sectors; vdevs = mirror_vdevs t }) top there in
          let first = head_is u.sectors t.sectors (sectors_of new) (sectors_of old) same in
          omega (arith, is, first, inside));
    }
  where
    sectors_are : (a b : TopSeen) → Some a ≡ Some b → a.sectors ≡ b.sectors
    sectors_are a b e = let is : a ≡ b = cc in ap (λ (x : TopSeen). x.sectors) is
sectors_still (t ∷ old) (u ∷ new) (suc at) sector top same there inside =
    let more = sectors_still old new at sector top
    (tail_is u.sectors t.sectors (sectors_of new) (sectors_of old) same) there inside in
    record { top = more.top; there = more.there; inside = more.inside }

pub placed_still : (old new : List Top) (low high : Group) (root : Pointer) → sectors_of new ≡ sectors_of old → low.0 ≤ high.0
    → IsHole root ⊎ IsPlaced low (seen_tops old) root → IsHole root ⊎ IsPlaced high (seen_tops new) root
placed_still old new low high root same le (inl hole) = inl hole
placed_still old new low high root same le (inr is) =
    let more = sectors_still old new root.place.top root.place.sector is.place.0 same is.place.1 is.place.2 in
    inr (record {
      birth = (is.birth.0, (let birth = is.birth.1 in omega (arith, birth, le)));
      place = (more.top, more.there, more.inside);
      sum = is.sum;
    })

-- The logs.
pub ranges_at : (number : ℕ) (leaf : LeafVdev) → number ≤ 2 ^ 62 → IsWithin number leaf
    → ranges_of leaf.log ≡ ranges_upto (holds leaf.log) number
unfolding ranges_of
ranges_at number leaf high within =
    ap (ranges_upto (holds leaf.log)) (let sum : 2 ^ 62 ≡ number + (2 ^ 62 - number) = omega (arith, high) in sum)
    ∙ upto_further (holds leaf.log) number (2 ^ 62 - number)
    (λ g above. false_from_ne_true (holds leaf.log g) (λ has. let low = (within g has).1 in omega (arith, above, low)))

-- A leaf has its name still, and its state may be recorded where it could be before.
pub record IsRecordedStill (old new : LeafVdev) : Type 0 where
  pub name : new.name ≡ old.name
  pub state : is_recorded (recorded old.state old.temporary) ≡ true → is_recorded (recorded new.state new.temporary) ≡ true

abbrev pub AreRecordedStill : List LeafVdev → List LeafVdev → Type 0
AreRecordedStill old new = AllZip IsRecordedStill old new

kept_recorded : (old new : List LeafVdev) → AreKept old new → AreRecordedStill old new
kept_recorded [] [] kept = tt
kept_recorded [] (y ∷ new) kept = absurd kept
kept_recorded (x ∷ old) [] kept = absurd kept
kept_recorded (x ∷ old) (y ∷ new) kept = (
  record { name = kept.0.name; state = subst (λ state. is_recorded state ≡ true) (sym kept.0.state) },
  kept_recorded old new kept.1,
)

leaves_still : (low high : Group) (old new : List LeafVdev) → high.0 ≤ 2 ^ 62 → AreRecordedStill old new
    → AllByRecursion (IsWithin high.0) new → sum (map log_length (map leaf_seen new)) ≤ 4096
    → AllByRecursion (IsLeaf low) (map leaf_seen old) → AllByRecursion (IsLeaf high) (map leaf_seen new)
leaves_still low high [] [] most kept within few are = tt
leaves_still low high [] (y ∷ new) most kept within few are = absurd kept
leaves_still low high (x ∷ old) [] most kept within few are = absurd kept
leaves_still low high (x ∷ old) (y ∷ new) most kept within few are =
    let all = sum_cons (length (ranges_of y.log)) (map log_length (map leaf_seen new)) in (
      record {
        name = subst (λ name. IsTrue (is_name name)) (sym kept.0.name) are.0.name;
        state = kept.0.state are.0.state;
        few = omega (arith, all, few);
        log = subst (Rises 1 high.0) (sym (ranges_at high.0 y most within.0)) (upto_rises (holds y.log) high.0);
      },
      leaves_still low high old new most kept.1 within.1 (omega (arith, all, few)) are.1,
    )

names_still : (old new : List LeafVdev) → AreRecordedStill old new → map leaf_name (map leaf_seen new) ≡ map leaf_name (map leaf_seen old)
names_still [] [] kept = refl
names_still [] (y ∷ new) kept = absurd kept
names_still (x ∷ old) [] kept = absurd kept
names_still (x ∷ old) (y ∷ new) kept =
    ap (λ n. n ∷ map leaf_name (map leaf_seen new)) kept.0.name ∙ ap (λ ns. x.name ∷ ns) (names_still old new kept.1)

pub leaves_in : (trees : List Top) → leaves_among (flat_map (λ (top : TopSeen). top.vdevs) (seen_tops trees)) ≡ map leaf_seen (leaves_of trees)
leaves_in trees = ap leaves_among (vdevs_of_trees trees) ∙ leaves_of_trees trees

-- The whole.
module _ (old new : List Top) (built : marks_of new ≡ marks_of old) (sectors : sectors_of new ≡ sectors_of old)
    (same : AreNumberedAlike (leaves_of old) (leaves_of new)) (kept : AreRecordedStill (leaves_of old) (leaves_of new)) where
  numbers_in : (trees : List Top) → map number_of_vdev (flat_map (λ (top : TopSeen). top.vdevs) (seen_tops trees))
      ≡ map number_of_vdev (flat_map mirror_vdevs trees)
  numbers_in trees = ap (map number_of_vdev) (vdevs_of_trees trees)

  numbers_still : map number_of_vdev (flat_map (λ (top : TopSeen). top.vdevs) (seen_tops old))
      ≡ map number_of_vdev (flat_map (λ (top : TopSeen). top.vdevs) (seen_tops new))
  numbers_still = numbers_in old ∙ sym (same_vdev_numbers old new built same) ∙ sym (numbers_in new)

  long : (trees : List Top) → length (seen_tops trees) ≡ length (sectors_of trees)
  long [] = refl
  long (t ∷ trees) = ap suc (long trees)

  pub recorded_still : (c : ConfigSeen) (number : Group) (root : Pointer) → c.tops ≡ seen_tops old → IsValid c
      → IsIn 1 (2 ^ 62) number.0 → AllByRecursion (IsWithin number.0) (leaves_of new)
      → sum (map log_length (map leaf_seen (leaves_of new))) ≤ 4096 → IsHole root ⊎ IsPlaced number (seen_tops new) root
      → IsValid (record c { number = number; root = root; tops = seen_tops new })
  recorded_still c number root tops valid high within few placed =
      let was : leaves_among (all_vdevs c) ≡ map leaf_seen (leaves_of old) =
      ap (λ ts. leaves_among (flat_map (λ (top : TopSeen). top.vdevs) ts)) tops ∙ leaves_in old in
      let numbers : map number_of_vdev (all_vdevs c) ≡ map number_of_vdev (flat_map (λ (top : TopSeen). top.vdevs) (seen_tops new)) =
      ap (λ ts. map number_of_vdev (flat_map (λ (top : TopSeen). top.vdevs) ts)) tops ∙ numbers_still in
      let names : map leaf_name (leaves_among (all_vdevs c)) ≡ map leaf_name (leaves_among (flat_map (λ (top : TopSeen). top.vdevs) (seen_tops new))) =
      ap (map leaf_name) was ∙ sym (names_still (leaves_of old) (leaves_of new) kept) ∙ ap (map leaf_name) (sym (leaves_in new)) in
      record {
        pool = valid.pool;
        name = valid.name;
        blocks = valid.blocks;
        number = high;
        next_guid = valid.next_guid;
        root = placed;
        few_tops = subst (IsIn 1 8) (ap length tops ∙ long old ∙ ap length (sym sectors) ∙ sym (long new)) valid.few_tops;
        tops = All-from_recursion IsTop (seen_tops new)
            (tops_still old new sectors (recursion_from_All IsTop (seen_tops old) (subst (All IsTop) tops valid.tops)));
        few_leaves = (
            let many = ap length names in
            let before = length-map (leaves_among (all_vdevs c)) leaf_name in
            let after = length-map (leaves_among (flat_map (λ (top : TopSeen). top.vdevs) (seen_tops new))) leaf_name in
            let most = valid.few_leaves in
            omega (arith, many, before, after, most));
        leaves = All-from_recursion (IsLeaf number) (leaves_among (flat_map (λ (top : TopSeen). top.vdevs) (seen_tops new)))
            (subst (AllByRecursion (IsLeaf number)) (sym (leaves_in new))
            (leaves_still c.number number (leaves_of old) (leaves_of new) high.1 kept within few
            (subst (AllByRecursion (IsLeaf c.number)) was (recursion_from_All (IsLeaf c.number) (leaves_among (all_vdevs c)) valid.leaves))));
        devices = subst (AllPairs (λ a b. a ≢ b)) names valid.devices;
        drawn = subst (All (IsDrawn c.next_guid)) numbers valid.drawn;
        apart = subst (AllPairs (λ a b. a ≢ b)) numbers valid.apart;
        few_ranges = subst (λ ls. sum (map log_length ls) ≤ 4096) (sym (leaves_in new)) few;
        few_spares = valid.few_spares;
        spares = valid.spares;
        spares_differ = valid.spares_differ;
      }

-- so where the leaves are the same but for their logs
pub valid_still : (old new : List Top) → marks_of new ≡ marks_of old → sectors_of new ≡ sectors_of old
    → AreSameLeaves (leaves_of old) (leaves_of new) → AreKept (leaves_of old) (leaves_of new)
    → (c : ConfigSeen) (number : Group) (root : Pointer) → c.tops ≡ seen_tops old → IsValid c
    → c.number.0 ≤ number.0 → number.0 ≤ 2 ^ 62 → AllByRecursion (IsWithin number.0) (leaves_of new)
    → sum (map log_length (map leaf_seen (leaves_of new))) ≤ 4096 → IsHole root ⊎ IsPlaced number (seen_tops new) root
    → IsValid (record c { number = number; root = root; tops = seen_tops new })
valid_still old new built sectors same kept c number root tops valid later most =
    recorded_still old new built sectors (numbered_alike (leaves_of old) (leaves_of new) same) (kept_recorded (leaves_of old) (leaves_of new) kept)
    c number root tops valid ((let some = valid.number.0 in omega (arith, some, later)), most)
