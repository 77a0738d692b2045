-- The leaves of a valid configuration are such as an opening asks for, and their logs are within its number.
use Rattle.std.proofs.Common.{◌≡◌, ℕ, suc, ◌<◌, ◌≤◌, ◌==◌, ◌^◌, false, List, [], ◌∷◌, ◌++◌, map, Some, refl, sym, ap, ap₂, ◌∙◌, subst, arith}
use Rattle.std.specs.Prelude.{All}
use Rattle.std.specs.List.{AllByRecursion, flat_map}
use Rattle.std.proofs.lemmas.List.{map-append}
use Rattle.std.proofs.lemmas.List.Elements.{recursion_from_All}
use mathlib.Core.List.{map-map}
use Rattle.mp_base.specs.declared.number.Group.{Group}
use Rattle.group_set.specs.Groups.{holds}
use Rattle.group_set.specs.Ranges.{ranges_upto}
use Rattle.group_set.proofs.Upto.{upto_has, ranges_within}
use Rattle.vdev_tree.specs.declared.top.Top.{Top}
use Rattle.vdev_tree.specs.declared.vdev.LeafVdev.{LeafVdev}
use Rattle.dtl_rules.specs.Widening.{leaves_of}
use Rattle.pool_config.specs.declared.config.Config.{Config}
use Rattle.pool_config.specs.Reading.{config_in}
use Rattle.pool_config.specs.Seen.{LeafSeen, VdevSeen, leaf_vdev, inner_vdev, TopSeen, ConfigSeen, config_seen, leaf_seen, top_seen, ranges_of, leaves_among, number_of_vdev, top_vdevs, all_vdevs, IsRecorded}
use Rattle.pool_config.specs.Validity.{IsDrawn, IsLeaf, IsValid}
use Rattle.pool_config.proofs.Bounds.{leaves-append}
use Rattle.pool_config.proofs.Deciding.{is_config}
use Rattle.txg_history.specs.Pages.{LeafKept}
use Rattle.pool_codec.specs.Codecs.{pool_codec}
use Rattle.pool_codec.specs.Tops.{kept_under, kept_from, LiesWithin}
use Rattle.pool_codec.proofs.LeavesKept.{owed_is_the_log}
use Rattle.pool_moves.specs.Opened.{AreNumbersApart, AreValidLeaves}
use Rattle.open_pool.proofs.LeavesInForm.{numbers_differ, leaves_differ_too}
use Rattle.open_pool.proofs.LeavesPlaced.{IsDecoded}
use Rattle.open_pool.proofs.LogsWidened.{IsWithin}
use Rattle.open_pool.proofs.NumbersApart.{Differ}
use Rattle.open_pool.proofs.RecordKept.{tops_seen}
use Rattle.open_pool.proofs.RecordStill.{leaves_in}
use Rattle.open_pool.proofs.RecordsTold.{seen_is}

abbrev kept_number : LeafKept → ℕ
kept_number leaf = leaf.guid.0

abbrev seen_number : LeafSeen → ℕ
seen_number leaf = leaf.guid.0

-- the numbers of the leaves that are kept are those of the configuration's
no_numbers : map kept_number [] ≡ map seen_number (leaves_among [])
unfolding leaves_among
no_numbers = refl

kept_numbers : (top : ℕ) (tops : List TopSeen) → map kept_number (kept_from top (map top_vdevs tops)) ≡ map seen_number (leaves_among (flat_map top_vdevs tops))
kept_numbers top [] = no_numbers
kept_numbers top (t ∷ tops) =
    map-append kept_number (map (kept_under top) (leaves_among t.vdevs)) (kept_from (suc top) (map top_vdevs tops))
    ∙ ap₂ (λ a b. a ++ b) (map-map kept_number (kept_under top) (leaves_among t.vdevs)) (kept_numbers (suc top) tops)
    ∙ sym (map-append seen_number (leaves_among t.vdevs) (leaves_among (flat_map top_vdevs tops)))
    ∙ ap (map seen_number) (sym (leaves-append t.vdevs (flat_map top_vdevs tops)))

drawn_too : (next : ℕ) (vdevs : List VdevSeen) → AllByRecursion (IsDrawn next) (map number_of_vdev vdevs)
    → AllByRecursion (λ n. n < next) (map seen_number (leaves_among vdevs))
unfolding leaves_among
drawn_too next [] drawn = tt
drawn_too next (leaf_vdev leaf ∷ vdevs) drawn = (drawn.0.1, drawn_too next vdevs drawn.1)
drawn_too next (inner_vdev guid kind count ∷ vdevs) drawn = drawn_too next vdevs drawn.1

by_number : (P : ℕ → Type 0) (leaves : List LeafKept) → AllByRecursion P (map kept_number leaves) → AllByRecursion (λ leaf. P leaf.guid.0) leaves
by_number P [] all = tt
by_number P (leaf ∷ leaves) all = (all.0, by_number P leaves all.1)

apart_by : (leaves : List LeafKept) → Differ (map kept_number leaves) → AreNumbersApart leaves
apart_by [] differ = tt
apart_by (leaf ∷ leaves) differ = (by_number (λ k. (leaf.guid.0 == k) ≡ false) leaves differ.0, apart_by leaves differ.1)

-- each is under a top
under_one : (top : ℕ) (leaves : List LeafSeen) (rest : List LeafKept) → 1 ≤ top → AllByRecursion (λ leaf. 1 ≤ leaf.top) rest
    → AllByRecursion (λ leaf. 1 ≤ leaf.top) (map (kept_under top) leaves ++ rest)
under_one top [] rest some all = all
under_one top (leaf ∷ leaves) rest some all = (some, under_one top leaves rest some all)

under_all : (top : ℕ) (tops : List TopSeen) → 1 ≤ top → AllByRecursion (λ leaf. 1 ≤ leaf.top) (kept_from top (map top_vdevs tops))
under_all top [] some = tt
under_all top (t ∷ tops) some =
    under_one top (leaves_among t.vdevs) (kept_from (suc top) (map top_vdevs tops)) some (under_all (suc top) tops (omega (arith, some)))

pub valid_kept_leaves : (c : ConfigSeen) → IsValid c → AreValidLeaves c.next_guid (kept_from 1 (map top_vdevs c.tops))
valid_kept_leaves c valid =
    let leaves = kept_from 1 (map top_vdevs c.tops) in
    let same = sym (kept_numbers 1 c.tops) in
    record {
      apart = apart_by leaves (subst Differ same (leaves_differ_too (all_vdevs c) (numbers_differ (map number_of_vdev (all_vdevs c)) valid.apart)));
      under = under_all 1 c.tops (omega arith);
      below = by_number (λ n. n < c.next_guid) leaves (subst (AllByRecursion (λ n. n < c.next_guid)) same
          (drawn_too c.next_guid (all_vdevs c) (recursion_from_All (IsDrawn c.next_guid) (map number_of_vdev (all_vdevs c)) valid.drawn)));
    }

-- of the bytes that such a configuration was decoded from
pub valid_leaves : (bytes : List ℕ) (c : Config) → config_in bytes ≡ Some (config_seen c)
    → AreValidLeaves (pool_codec.next_member bytes) (pool_codec.leaves bytes)
valid_leaves bytes c reads =
    subst (λ s. AreValidLeaves s.next_guid (kept_from 1 (map top_vdevs s.tops))) (sym (seen_is bytes c reads))
    (valid_kept_leaves (config_seen c) (is_config bytes (config_seen c) reads).valid)

-- A log that a record can have has groups up to the number of its record alone. That a record can have it is no fact of the configuration, which
-- tells of groups from 1 to 2^62 and of no other.
log_told : (number : Group) (leaf : LeafVdev) → LiesWithin leaf.log → IsLeaf number (leaf_seen leaf) → IsWithin number.0 leaf
unfolding ranges_of
log_told number leaf lies is g there =
    ranges_within number.0 g (ranges_upto (holds leaf.log) (2 ^ 62)) is.log
    (upto_has (holds leaf.log) (2 ^ 62) g ∙ ap (λ has. has g) (owed_is_the_log leaf.log lies) ∙ there)

logs_told : (number : Group) (leaves : List LeafVdev) → AllByRecursion (λ leaf. LiesWithin leaf.log) leaves
    → AllByRecursion (IsLeaf number) (map leaf_seen leaves) → AllByRecursion (IsWithin number.0) leaves
logs_told number [] lie are = tt
logs_told number (leaf ∷ leaves) lie are = (log_told number leaf lie.0 are.0, logs_told number leaves lie.1 are.1)

pub logs_within : (c : ConfigSeen) (trees : List Top) → c.tops ≡ map top_seen trees → IsValid c → AllByRecursion (λ leaf. LiesWithin leaf.log) (leaves_of trees)
    → AllByRecursion (IsWithin c.number.0) (leaves_of trees)
logs_within c trees tops valid lie =
    logs_told c.number (leaves_of trees) lie
    (subst (AllByRecursion (IsLeaf c.number)) (ap (λ ts. leaves_among (flat_map top_vdevs ts)) (tops ∙ sym (tops_seen trees)) ∙ leaves_in trees)
    (recursion_from_All (IsLeaf c.number) (leaves_among (all_vdevs c)) valid.leaves))

-- so the leaves are decoded ones
decoded_all : (leaves : List LeafVdev) → AllByRecursion IsRecorded leaves → AllByRecursion (λ leaf. LiesWithin leaf.log) leaves
    → AllByRecursion IsDecoded leaves
decoded_all [] recorded lie = tt
decoded_all (leaf ∷ leaves) recorded lie = (record { recorded = recorded.0; within = lie.0 }, decoded_all leaves recorded.1 lie.1)

pub are_decoded : (leaves : List LeafVdev) → All IsRecorded leaves → All (λ leaf. LiesWithin leaf.log) leaves → AllByRecursion IsDecoded leaves
are_decoded leaves recorded lie =
    decoded_all leaves (recursion_from_All IsRecorded leaves recorded) (recursion_from_All (λ (leaf : LeafVdev). LiesWithin leaf.log) leaves lie)
