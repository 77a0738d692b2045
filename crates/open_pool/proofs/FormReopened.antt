-- A pool that was read back has the form of an open one, had it acknowledged its record.
use Rattle.std.proofs.Common.{true≢false, ◌≡◌, ◌⊎◌, inl, inr, ⊎_elim, ℕ, suc, ◌+◌, ◌<◌, ◌≤◌, ◌||◌, true, false, List, [], ◌∷◌, length, map, Option, Some, None, refl, sym, ap, ◌∙◌, subst, arith}
use Rattle.std.specs.Prelude.{All, AllPairs, is_some, sum}
use Rattle.std.specs.List.{AllByRecursion, flat_map}
use Rattle.std.proofs.lemmas.List.Elements.{All-nil, All-from_recursion, recursion_from_All}
use Rattle.std.proofs.lemmas.List.Kept.{AllPairs-cons}
use Rattle.mp_base.specs.Block.{zeros}
use Rattle.mp_base.specs.declared.number.Group.{Group}
use Rattle.mp_base.specs.declared.place.Key.{Key}
use Rattle.mp_base.specs.declared.place.Place.{Place}
use Rattle.mp_base.specs.declared.place.Pointer.{Pointer}
use Rattle.group_set.specs.Groups.{holds}
use Rattle.block_map.specs.Keys.{root}
use Rattle.block_map.specs.Map.{Map, pointer_at, is_free}
use Rattle.block_map.specs.Places.{IsPlace}
use Rattle.block_map.specs.Pointers.{IsPointer, IsInForm}
use Rattle.block_map.specs.Reading.{NamesPlaces}
use Rattle.vdev_tree.specs.Leaf.{is_readable}
use Rattle.vdev_tree.specs.declared.top.Top.{Top}
use Rattle.vdev_tree.specs.declared.vdev.LeafVdev.{LeafVdev}
use Rattle.dtl_rules.specs.Widening.{leaves_of, sectors_of}
use Rattle.pool_config.specs.declared.config.Config.{Config}
use Rattle.pool_config.specs.Seen.{TopSeen, config_seen, leaf_seen, top_seen, leaves_among}
use Rattle.pool_config.specs.Validity.{IsHole, IsPlaced, IsValid, log_length}
use Rattle.txg_history.specs.Pages.{Sum}
use Rattle.txg_history.specs.Records.{key}
use Rattle.txg_engine.specs.Pins.{PinsSeen}
use Rattle.txg_engine.specs.Writes.{OpenGroup, is_written}
use Rattle.pool_codec.specs.Pointers.{told}
use Rattle.pool_codec.specs.Tops.{LiesWithin}
use Rattle.pool_moves.specs.FreezeRow.{IsAtPlace}
use Rattle.pool_moves.specs.Refusing.{count_below}
use Rattle.pool_moves.specs.OpeningRow.{last_numbers}
use Rattle.open_pool.specs.Form.{IsPool, IsRecordable, all_leaves}
use Rattle.open_pool.specs.Opening.{placed, all_placed, IsReopened}
use Rattle.open_pool.specs.Pages.{HaveOwnDevices}
use Rattle.open_pool.specs.Parts.{PoolParts}
use Rattle.open_pool.specs.State.{sums_of, cells_in}
use Rattle.open_pool.proofs.CountsBelow.{none_pass}
use Rattle.open_pool.proofs.DevicesFound.{AreTwo}
use Rattle.open_pool.proofs.DraftValid.{placed_top}
use Rattle.open_pool.proofs.GroupEnds.{no_board}
use Rattle.open_pool.proofs.LeavesInForm.{leaves_are}
use Rattle.open_pool.proofs.LeavesPlaced.{IsDecoded}
use Rattle.open_pool.proofs.LogsWidened.{IsWithin}
use Rattle.open_pool.proofs.RecordKept.{tops_seen}
use Rattle.open_pool.proofs.RecordReopened.{reopened, ArePlaced, numbered_as}
use Rattle.open_pool.proofs.RecordStill.{AreRecordedStill, recorded_still, leaves_in, seen_tops}
use Rattle.open_pool.proofs.RightPages.{written_cases, written_told, told_is, same_place}
use Rattle.open_pool.proofs.TurnSteps.{sectors_are}
use Rattle.open_pool.proofs.ValidLeaves.{logs_within}

-- a place as the history counts it
next_is : (n m : ℕ) → n + 1 ≡ suc m → n + 1 ≡ m + 1
next_is n m is = omega (arith, is)

one_more : (n : ℕ) → n + 1 ≡ suc n
one_more n = omega arith

-- A map that was read back has the places that its keys name.
module _ (m : Map) (places : NamesPlaces m) where
  named : (place : Place) → IsPlace m.sectors place → is_free m place ≡ false → IsAtPlace (sums_of m) (suc place.top) place.sector
  named place inside taken =
      let by = places.only place inside taken in
      record {
        k = by.0;
        sum = told (pointer_at m by.0);
        sum_is = written_told (pointer_at m by.0) by.1;
        top_is = ap (λ (p : Place). p.top + 1) by.2 ∙ one_more place.top;
        sector_is = ap (λ (p : Place). p.sector) by.2;
      }

  used : (place : Place) → IsAtPlace (sums_of m) (suc place.top) place.sector → is_free m place ≡ false
  used place at =
      let is = told_is (pointer_at m at.k) at.sum at.sum_is in
      let top : (pointer_at m at.k).place.top + 1 ≡ suc place.top = ap (λ (s : Sum). s.top) is.1 ∙ at.top_is in
      subst (λ p. is_free m p ≡ false)
      (same_place (pointer_at m at.k).place place (next_is (pointer_at m at.k).place.top place.top top) (ap (λ (s : Sum). s.sector) is.1 ∙ at.sector_is))
      (places.used at.k is.0)

  apart : (j k : Key) (a b : Sum) → sums_of m j ≡ Some a → sums_of m k ≡ Some b → a.top ≡ b.top → a.sector ≡ b.sector → j ≡ k
  apart j k a b at_j at_k top sector =
      let is_a = told_is (pointer_at m j) a at_j in
      let is_b = told_is (pointer_at m k) b at_k in
      places.apart j k is_a.0 is_b.0 (same_place (pointer_at m j).place (pointer_at m k).place
      (ap (λ (s : Sum). s.top) is_a.1 ∙ top ∙ sym (ap (λ (s : Sum). s.top) is_b.1)) (ap (λ (s : Sum). s.sector) is_a.1 ∙ sector ∙ sym (ap (λ (s : Sum). s.sector) is_b.1)))

no_group_at : (top sector : ℕ) → IsAtPlace (λ k. None) top sector → ⊥
no_group_at top sector at = let no : None ≡ Some at.sum = at.sum_is in cc

-- What holds of leaves holds of them on their devices.
still_one : (dev : Option ℕ) (leaf : LeafVdev) → AreRecordedStill (leaf ∷ []) (placed dev leaf ∷ [])
still_one None leaf = (record { name = refl; state = λ is. refl }, tt)
still_one (Some d) leaf = (record { name = refl; state = λ is. is }, tt)

placed_still : (devs : List (Option ℕ)) (leaves : List LeafVdev) → length devs ≡ length leaves → AreRecordedStill leaves (all_placed devs leaves)
placed_still devs [] long = tt
placed_still [] (leaf ∷ leaves) long = absurd (omega (arith, long))
placed_still (dev ∷ devs) (leaf ∷ leaves) long = ((still_one dev leaf).0, placed_still devs leaves (omega (arith, long)))

one_log : (dev : Option ℕ) (leaf : LeafVdev) → (placed dev leaf).log ≡ leaf.log
one_log None leaf = refl
one_log (Some d) leaf = refl

one_settled : (dev : Option ℕ) (leaf : LeafVdev) → (placed dev leaf).settled ≡ leaf.settled
one_settled None leaf = refl
one_settled (Some d) leaf = refl

one_dev : (dev : Option ℕ) (leaf : LeafVdev) → (placed dev leaf).dev ≡ dev
one_dev None leaf = refl
one_dev (Some d) leaf = refl

one_writable : (dev : Option ℕ) (leaf : LeafVdev) → is_readable (placed dev leaf) ≡ true → is_some (placed dev leaf).dev ≡ true
one_writable None leaf up = absurd (true≢false (sym up))
one_writable (Some d) leaf up = refl

placed_logs : (devs : List (Option ℕ)) (leaves : List LeafVdev) → length devs ≡ length leaves
    → map log_length (map leaf_seen (all_placed devs leaves)) ≡ map log_length (map leaf_seen leaves)
placed_logs devs [] long = refl
placed_logs [] (leaf ∷ leaves) long = absurd (omega (arith, long))
placed_logs (None ∷ devs) (leaf ∷ leaves) long = ap (λ ns. log_length (leaf_seen leaf) ∷ ns) (placed_logs devs leaves (omega (arith, long)))
placed_logs (Some d ∷ devs) (leaf ∷ leaves) long = ap (λ ns. log_length (leaf_seen leaf) ∷ ns) (placed_logs devs leaves (omega (arith, long)))

placed_within : (n : ℕ) (devs : List (Option ℕ)) (leaves : List LeafVdev) → length devs ≡ length leaves
    → AllByRecursion (IsWithin n) leaves → AllByRecursion (IsWithin n) (all_placed devs leaves)
placed_within n devs [] long all = tt
placed_within n [] (leaf ∷ leaves) long all = absurd (omega (arith, long))
placed_within n (dev ∷ devs) (leaf ∷ leaves) long all = (
  (λ g there. all.0 g (ap (λ log. holds log g) (sym (one_log dev leaf)) ∙ there)),
  placed_within n devs leaves (omega (arith, long)) all.1,
)

abbrev IsSettledTo : ℕ → LeafVdev → Type 0
IsSettledTo n leaf = (g : ℕ) → n < g → holds leaf.settled g ≡ false

placed_settled : (n : ℕ) (devs : List (Option ℕ)) (leaves : List LeafVdev) → length devs ≡ length leaves
    → AllByRecursion IsDecoded leaves → AllByRecursion (IsSettledTo n) (all_placed devs leaves)
placed_settled n devs [] long all = tt
placed_settled n [] (leaf ∷ leaves) long all = absurd (omega (arith, long))
placed_settled n (dev ∷ devs) (leaf ∷ leaves) long all = (
  (λ g above. ap (λ settled. holds settled g) (one_settled dev leaf) ∙ all.0.recorded.settled g),
  placed_settled n devs leaves (omega (arith, long)) all.1,
)

abbrev IsWritable : LeafVdev → Type 0
IsWritable leaf = is_readable leaf ≡ true → is_some leaf.dev ≡ true

placed_writable : (devs : List (Option ℕ)) (leaves : List LeafVdev) → length devs ≡ length leaves → AllByRecursion IsWritable (all_placed devs leaves)
placed_writable devs [] long = tt
placed_writable [] (leaf ∷ leaves) long = absurd (omega (arith, long))
placed_writable (dev ∷ devs) (leaf ∷ leaves) long = (one_writable dev leaf, placed_writable devs leaves (omega (arith, long)))

two_on : (dev : Option ℕ) (leaf : LeafVdev) (devs : List (Option ℕ)) (leaves : List LeafVdev) → length devs ≡ length leaves
    → AllByRecursion (AreTwo dev) devs → AllByRecursion (λ other. AreTwo (placed dev leaf).dev other.dev) (all_placed devs leaves)
two_on dev leaf devs [] long two = tt
two_on dev leaf [] (other ∷ leaves) long two = absurd (omega (arith, long))
two_on dev leaf (d ∷ devs) (other ∷ leaves) long two = (
  (λ n one same. two.0 n (sym (one_dev dev leaf) ∙ one) (sym (one_dev d other) ∙ same)),
  two_on dev leaf devs leaves (omega (arith, long)) two.1,
)

placed_apart : (devs : List (Option ℕ)) (leaves : List LeafVdev) → length devs ≡ length leaves → AllPairs AreTwo devs → HaveOwnDevices (all_placed devs leaves)
placed_apart devs [] long two = λ i j d lt within. absurd (omega (arith, within))
placed_apart [] (leaf ∷ leaves) long two = absurd (omega (arith, long))
placed_apart (dev ∷ devs) (leaf ∷ leaves) long two =
    AllPairs-cons (λ a b. AreTwo a.dev b.dev) (placed dev leaf) (all_placed devs leaves)
    (All-from_recursion (λ other. AreTwo (placed dev leaf).dev other.dev) (all_placed devs leaves)
    (two_on dev leaf devs leaves (omega (arith, long)) (recursion_from_All (AreTwo dev) devs (λ k d lt. two 0 (suc k) d (omega arith) (omega (arith, lt))))))
    (placed_apart devs leaves (omega (arith, long)) (λ i j d lt within. two (suc i) (suc j) d (omega (arith, lt)) (omega (arith, within))))

-- so the leaves that an opening puts on their devices have each their own
pub own_devices : (devs : List (Option ℕ)) (was is : List Top) → ArePlaced devs was is → AllPairs AreTwo devs → HaveOwnDevices (leaves_of is)
own_devices devs was is on two = subst HaveOwnDevices (sym on.leaves) (placed_apart devs (leaves_of was) on.paired two)

-- The root's pointer may stand in a record.
root_placed : (p : Pointer) (number : Group) (tops : List Top) → IsPointer (sectors_of tops) p → IsInForm p → p.birth.0 ≤ number.0
    → IsHole p ⊎ IsPlaced number (map top_seen tops) p
unfolding zeros
root_placed p number tops fits form born =
    ⊎_elim (λ written.
    let place = fits.place written in
    inr (record { birth = (written, born); place = placed_top tops p.place.top p.place.sector place.top place.sector; sum = form.sum }))
    (λ none.
    let is = fits.hole none in
    inl (record { birth = none; top = ap (λ (q : Pointer). q.place.top) is; sector = ap (λ (q : Pointer). q.place.sector) is; sum = ap (λ (q : Pointer). q.sum) is }))
    (written_cases p)

nothing_dirty : (blocks : ℕ) (unfrozen : OpenGroup) → unfrozen.writes ≡ []
    → count_below blocks (λ x. is_written unfrozen.writes x || is_some (cells_in None (key 0 x))) ≡ 0
nothing_dirty blocks unfrozen none =
    ap (λ writes. count_below blocks (λ x. is_written writes x || is_some (cells_in None (key 0 x)))) none ∙ none_pass blocks

-- The configuration is valid, its leaves are decoded and on devices of which no two are one; the map is one of its blocks and tops, names its
-- places, and has pointers in their form, born up to the record's number; nothing is written, and no place is pinned.
module _ (c : Config) (valid : IsValid (config_seen c)) (is : List Top) (devs : List (Option ℕ)) (decoded : AllByRecursion IsDecoded (leaves_of c.tops.items))
    (on : ArePlaced devs c.tops.items is) (two : AllPairs AreTwo devs)
    (m : Map) (blocks : m.blocks ≡ c.blocks) (sectors : m.sectors ≡ sectors_of is) (places : NamesPlaces m)
    (born : (k : Key) → (pointer_at m k).birth.0 ≤ c.number.0) (fits : (k : Key) → IsPointer m.sectors (pointer_at m k))
    (form : (k : Key) → IsInForm (pointer_at m k))
    (pins : PinsSeen) (unpinned : pins.places ≡ []) (unfrozen : OpenGroup) (none : unfrozen.writes ≡ []) (room : 4096 ≤ unfrozen.room) where
  abbrev as_pool : PoolParts
  as_pool = reopened c is m pins unfrozen

  lying : (leaves : List LeafVdev) → AllByRecursion IsDecoded leaves → AllByRecursion (λ leaf. LiesWithin leaf.log) leaves
  lying [] all = tt
  lying (leaf ∷ leaves) all = (all.0.within, lying leaves all.1)

  within : AllByRecursion (IsWithin c.number.0) (leaves_of is)
  within = subst (AllByRecursion (IsWithin c.number.0)) (sym on.leaves)
      (placed_within c.number.0 devs (leaves_of c.tops.items) on.paired
      (logs_within (config_seen c) c.tops.items refl valid (lying (leaves_of c.tops.items) decoded)))

  few : sum (map log_length (map leaf_seen (leaves_of is))) ≤ 4096
  few = subst (λ n. n ≤ 4096)
      (ap (λ ts. sum (map log_length (leaves_among (flat_map (λ (top : TopSeen). top.vdevs) ts)))) (sym (tops_seen c.tops.items))
      ∙ ap (λ ls. sum (map log_length ls)) (leaves_in c.tops.items)
      ∙ ap sum (sym (placed_logs devs (leaves_of c.tops.items) on.paired)) ∙ ap (λ ls. sum (map log_length (map leaf_seen ls))) (sym on.leaves))
      valid.few_ranges

  recordable : IsRecordable as_pool
  recordable =
      subst (λ n. IsValid (record (config_seen c) { blocks = n; root = pointer_at m root; tops = seen_tops is })) (sym blocks)
      (recorded_still c.tops.items is on.built on.sectors (numbered_as devs c.tops.items is on)
      (subst (AreRecordedStill (leaves_of c.tops.items)) (sym on.leaves) (placed_still devs (leaves_of c.tops.items) on.paired))
      (config_seen c) c.number (pointer_at m root) (sym (tops_seen c.tops.items)) valid valid.number within few
      (subst (λ ts. IsHole (pointer_at m root) ⊎ IsPlaced c.number ts (pointer_at m root)) (sym (tops_seen is))
      (root_placed (pointer_at m root) c.number is (subst (λ s. IsPointer s (pointer_at m root)) sectors (fits root)) (form root) (born root))))

  leaves_there : all_leaves as_pool ≡ leaves_of is
  leaves_there = leaves_are is as_pool refl

  of_leaves : (P : LeafVdev → Type 0) → AllByRecursion P (all_placed devs (leaves_of c.tops.items)) → All P (all_leaves as_pool)
  of_leaves P all = subst (All P) (sym (leaves_there ∙ on.leaves)) (All-from_recursion P (all_placed devs (leaves_of c.tops.items)) all)

  pub is_pool : IsPool as_pool
  is_pool = record {
    recordable = recordable;
    tops = sectors ∙ sym (sectors_are is);
    read = omega arith;
    births = born;
    places = record {
      taken = λ place inside off. inl (named m places place inside off);
      committed = used m places;
      frozen = λ place at. absurd (no_group_at (suc place.top) place.sector at);
      listed = λ place pin. absurd (true≢false (sym pin ∙ places.unpinned place));
      inside = subst (All (IsPlace m.sectors)) (sym unpinned) (All-nil (IsPlace m.sectors));
    };
    apart = record {
      committed = apart m places;
      frozen = λ j k a b at_j at_k one. absurd (let no : None ≡ Some a = at_j in cc);
      between = λ top sector at none. no_group_at top sector none;
    };
    leaves = record {
      within = subst (All (IsWithin c.number.0)) (sym leaves_there) (All-from_recursion (IsWithin c.number.0) (leaves_of is) within);
      apart = subst HaveOwnDevices (sym leaves_there) (own_devices devs c.tops.items is on two);
      writable = of_leaves IsWritable (placed_writable devs (leaves_of c.tops.items) on.paired);
      settled = of_leaves (IsSettledTo c.number.0) (placed_settled c.number.0 devs (leaves_of c.tops.items) on.paired decoded);
    };
    board = no_board as_pool;
    group = tt;
    unfrozen = record {
      inside = subst (All (λ write. write.addr < m.blocks)) (sym none) (All-nil (λ write. write.addr < m.blocks));
      room = room;
      count = nothing_dirty m.blocks unfrozen none;
      few = omega arith;
    };
  }

  pub is_reopened : c.number.0 < last_numbers → IsReopened (reopened c is m pins unfrozen)
  is_reopened below = record { pool = is_pool; below = below; unopened = refl; same = refl; unfrozen = none; frozen = refl; pins = unpinned }
