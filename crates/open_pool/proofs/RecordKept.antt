-- The record that a pool would draw up is a valid configuration still, where its trees are built alike over the same leaves.
use Rattle.std.proofs.Common.{◌≡◌, ◌⊎◌, ℕ, ◌+◌, ◌≤◌, ◌^◌, List, [], ◌∷◌, length, map, refl, sym, ap, ◌∙◌, subst}
use Rattle.std.specs.Prelude.{sum}
use Rattle.std.specs.List.{AllByRecursion, flat_map}
use Rattle.mp_base.specs.declared.number.Group.{Group}
use Rattle.mp_base.specs.declared.place.Pointer.{Pointer}
use Rattle.group_set.specs.Groups.{holds}
use Rattle.group_set.specs.Ranges.{ranges_upto}
use Rattle.vdev_tree.specs.declared.top.Top.{Top}
use Rattle.vdev_tree.specs.declared.vdev.LeafVdev.{LeafVdev}
use Rattle.dtl_rules.specs.Widening.{leaves_of, marks_of, sectors_of}
use Rattle.pool_config.specs.Flags.{recorded, is_recorded}
use Rattle.pool_config.specs.Seen.{ConfigSeen, TopSeen, leaf_seen, top_seen, leaves_among, ranges_of}
use Rattle.pool_config.specs.Validity.{IsValid, IsIn, IsHole, IsPlaced, log_length}
use Rattle.pool_config.proofs.Bounds.{sum_cons}
use Rattle.open_pool.proofs.BoardKept.{AreSameLeaves}
use Rattle.open_pool.proofs.LogsWidened.{IsWithin}
use Rattle.open_pool.proofs.RecordStill.{AreRecordedStill, leaves_in, ranges_at, recorded_still, seen_tops}
use Rattle.open_pool.proofs.TreesStay.{numbered_alike}

-- how many ranges these logs have together, up to a number
abbrev pub ranges_in_all : (number : ℕ) → List LeafVdev → ℕ
ranges_in_all number [] = 0
ranges_in_all number (leaf ∷ leaves) = length (ranges_upto (holds leaf.log) number) + ranges_in_all number leaves

more_of : (number : ℕ) (leaves : List LeafVdev) → number ≤ 2 ^ 62 → AllByRecursion (IsWithin number) leaves
    → sum (map log_length (map leaf_seen leaves)) ≡ ranges_in_all number leaves
more_of number [] low within = refl
more_of number (leaf ∷ leaves) low within =
    sum_cons (length (ranges_of leaf.log)) (map log_length (map leaf_seen leaves))
    ∙ ap (λ n. n + sum (map log_length (map leaf_seen leaves))) (ap length (ranges_at number leaf low within.0))
    ∙ ap (λ n. length (ranges_upto (holds leaf.log) number) + n) (more_of number leaves low within.1)

-- the tops of a pool, as a record has them
pub tops_seen : (tops : List Top) → seen_tops tops ≡ map top_seen tops
tops_seen [] = refl
tops_seen (top ∷ tops) = ap (λ ts. top_seen top ∷ ts) (tops_seen tops)

-- the logs of a valid configuration have few ranges
pub few_recorded : (c : ConfigSeen) (number : ℕ) (tops : List Top) → c.tops ≡ map top_seen tops → IsValid c → number ≤ 2 ^ 62
    → AllByRecursion (IsWithin number) (leaves_of tops) → ranges_in_all number (leaves_of tops) ≤ 4096
few_recorded c number tops is valid high within =
    subst (λ n. n ≤ 4096)
    (ap (λ ts. sum (map log_length (leaves_among (flat_map (λ (top : TopSeen). top.vdevs) ts)))) (is ∙ sym (tops_seen tops))
    ∙ ap (λ ls. sum (map log_length ls)) (leaves_in tops) ∙ more_of number (leaves_of tops) high within) valid.few_ranges

same_recorded : (old new : List LeafVdev) → AreSameLeaves old new → AreRecordedStill old new
same_recorded [] [] same = tt
same_recorded [] (y ∷ new) same = absurd same
same_recorded (x ∷ old) [] same = absurd same
same_recorded (x ∷ old) (y ∷ new) same = (
  record {
    name = same.0.name;
    state = λ is. ap (λ s. is_recorded (recorded s y.temporary)) same.0.state
        ∙ ap (λ t. is_recorded (recorded x.state t)) same.0.temporary ∙ is;
  },
  same_recorded old new same.1,
)

-- The same configuration over other trees, of this number and root.
abbrev pub redrawn : ConfigSeen → (number : Group) (root : Pointer) → List Top → ConfigSeen
redrawn c number root tops = record c { number = number; root = root; tops = map top_seen tops }

pub valid_kept : (c : ConfigSeen) (number : Group) (root : Pointer) (old new : List Top) → c.tops ≡ map top_seen old → IsValid c
    → IsIn 1 (2 ^ 62) number.0 → IsHole root ⊎ IsPlaced number (map top_seen new) root
    → marks_of new ≡ marks_of old → sectors_of new ≡ sectors_of old → AreSameLeaves (leaves_of old) (leaves_of new)
    → AllByRecursion (IsWithin number.0) (leaves_of new) → ranges_in_all number.0 (leaves_of new) ≤ 4096
    → IsValid (redrawn c number root new)
valid_kept c number root old new tops valid high placed built sectors same within few =
    subst (λ ts. IsValid (record c { number = number; root = root; tops = ts })) (tops_seen new)
    (recorded_still old new built sectors (numbered_alike (leaves_of old) (leaves_of new) same) (same_recorded (leaves_of old) (leaves_of new) same)
    c number root (tops ∙ sym (tops_seen old)) valid high within
    (subst (λ n. n ≤ 4096) (sym (more_of number.0 (leaves_of new) high.1 within)) few)
    (subst (λ ts. IsHole root ⊎ IsPlaced number ts root) (sym (tops_seen new)) placed))
