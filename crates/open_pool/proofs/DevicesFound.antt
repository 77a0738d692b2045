-- Where the leaves of a record are found: on devices that were handed in under their names, with the room of their tops.
use mathlib.Core.List.{map-map}
use Rattle.std.proofs.Common.{◌≡◌, ◌≢◌, ⊎_elim, ℕ, suc, ◌+◌, ◌≤◌, cond, Bool, true, false, nat_le, List, [], ◌∷◌, ◌++◌, length, map, take, slice_index, Option, Some, None, Result, Ok, Err, refl, sym, ap, ap₂, ◌∙◌, subst, subst₂, arith}
use Rattle.std.specs.Prelude.{All, AllPairs}
use Rattle.std.specs.List.{AllByRecursion, AllZip}
use Rattle.std.specs.Str.{bytes_eq}
use Rattle.std.proofs.lemmas.Bool.{true≢false, false_from_ne_true, leb-true}
use Rattle.std.proofs.lemmas.List.{map-append, length-map, length-append}
use Rattle.std.proofs.lemmas.List.Elements.{All-from_recursion, AllZip-get_or, length_all_zip}
use Rattle.std.proofs.lemmas.Slice.Eq.{bytes_eq-Decides}
use Rattle.mp_base.specs.declared.number.Guid.{Guid}
use Rattle.bank_core.specs.declared.bank.Fault.{Fault}
use Rattle.bank_core.specs.Disk.{Noted}
use Rattle.label_store.specs.Identities.{AreMisses, IsSearch, rings_of}
use Rattle.label_store.specs.Newest.{AreReads}
use Rattle.label_store.proofs.Reading.{IsReadAsk, is_read, are_reads_more}
use Rattle.vdev_tree.specs.Tree.{leaves}
use Rattle.vdev_tree.specs.declared.top.Top.{Top}
use Rattle.vdev_tree.specs.declared.vdev.LeafVdev.{LeafVdev}
use Rattle.dtl_rules.specs.Widening.{leaves_of, sectors_of}
use Rattle.pool_config.specs.Seen.{leaf_name, leaf_seen}
use Rattle.txg_history.specs.Pages.{LeafKept}
use Rattle.pool_codec.specs.Tops.{room_of, kept_of, kept_leaves_from}
use Rattle.pool_moves.specs.OpeningRow.{IsSoughtOn, IsSought, AreSought}
use Rattle.open_pool.specs.Finding.{handed_to}
use Rattle.open_pool.specs.Here.{IsHere, AreHere}
use Rattle.open_pool.specs.Opening.{placed, all_placed}
use Rattle.open_pool.specs.Parts.{all_parts}
use Rattle.open_pool.specs.State.{leaves_under}
use Rattle.open_pool.proofs.LeavesByTops.{tops_from, sizes, same_tops}
use Rattle.open_pool.proofs.LeavesPlaced.{kept_at, kept_by_tops}

-- two devices of which not both are one
abbrev pub AreTwo : Option ℕ → Option ℕ → Type 0
AreTwo a b = (d : ℕ) → a ≡ Some d → b ≡ Some d → ⊥

-- Leaves whose names differ: there is one who hands in these devices under them.
abbrev NamesDiffer : List LeafVdev → Type 0
NamesDiffer [] = Unit {0}
NamesDiffer (leaf ∷ leaves) = AllByRecursion (λ other. bytes_eq leaf.name other.name ≡ false) leaves × NamesDiffer leaves

other_names : (name : List ℕ) (leaves : List LeafVdev) → All (λ k. name ≢ k) (map leaf_name (map leaf_seen leaves))
    → AllByRecursion (λ other. bytes_eq name other.name ≡ false) leaves
other_names name [] all = tt
other_names name (leaf ∷ leaves) all = (
  false_from_ne_true (bytes_eq name leaf.name) (λ is. all 0 leaf.name (omega arith) ((bytes_eq-Decides name leaf.name).0 is)),
  other_names name leaves (λ k d lt. all (suc k) d (omega (arith, lt))),
)

names_differ : (leaves : List LeafVdev) → AllPairs (λ a b. a ≢ b) (map leaf_name (map leaf_seen leaves)) → NamesDiffer leaves
names_differ [] apart = tt
names_differ (leaf ∷ leaves) apart = (
  other_names leaf.name leaves (λ k d lt. apart 0 (suc k) d (omega arith) (omega (arith, lt))),
  names_differ leaves (λ i j d lt within. apart (suc i) (suc j) d (omega (arith, lt)) (omega (arith, within))),
)

abbrev pub handed_by : List LeafVdev → List (Option ℕ) → List ℕ → Option ℕ
handed_by [] devs name = None
handed_by (leaf ∷ leaves) [] name = None
handed_by (leaf ∷ leaves) (dev ∷ devs) name = cond (bytes_eq leaf.name name) dev (handed_by leaves devs name)

passed : (name : List ℕ) (dev : Option ℕ) (handed : List ℕ → Option ℕ) (leaves : List LeafVdev)
    → AllByRecursion (λ other. bytes_eq name other.name ≡ false) leaves
    → handed_to (λ n. cond (bytes_eq name n) dev (handed n)) leaves ≡ handed_to handed leaves
passed name dev handed [] differ = refl
passed name dev handed (leaf ∷ leaves) differ =
    ap₂ (λ d ds. d ∷ ds) (ap (λ b. cond b dev (handed leaf.name)) differ.0) (passed name dev handed leaves differ.1)

handed_back : (leaves : List LeafVdev) (devs : List (Option ℕ)) → length devs ≡ length leaves → NamesDiffer leaves
    → handed_to (handed_by leaves devs) leaves ≡ devs
handed_back [] [] long differ = refl
handed_back [] (dev ∷ devs) long differ = absurd (omega (arith, long))
handed_back (leaf ∷ leaves) [] long differ = absurd (omega (arith, long))
handed_back (leaf ∷ leaves) (dev ∷ devs) long differ =
    ap₂ (λ d ds. d ∷ ds) (ap (λ b. cond b dev (handed_by leaves devs leaf.name)) ((bytes_eq-Decides leaf.name leaf.name).1 refl))
    (passed leaf.name dev (handed_by leaves devs) leaves differ.0 ∙ handed_back leaves devs (omega (arith, long)) differ.1)

pub are_handed : (leaves : List LeafVdev) (devs : List (Option ℕ)) → length devs ≡ length leaves
    → AllPairs (λ a b. a ≢ b) (map leaf_name (map leaf_seen leaves)) → handed_to (handed_by leaves devs) leaves ≡ devs
are_handed leaves devs long apart = handed_back leaves devs long (names_differ leaves apart)

-- A leaf that is found is on the device that was handed in, which has the room, and its search made reads alone.
pub record IsFoundOn (size room : ℕ) (made : List Noted) (d : ℕ) (found : Option ℕ) : Type 0 where
  pub same : (dev : ℕ) → found ≡ Some dev → d ≡ dev
  pub roomy : (dev : ℕ) → found ≡ Some dev → room + 256 ≤ size
  pub reads : AreReads made

misses_read : (pool member : Guid) (dev : ℕ) (rings : List ℕ) (made : List Noted) → AreMisses pool member dev rings made → AreReads made
misses_read pool member dev [] made none = subst AreReads (sym none) tt
misses_read pool member dev (at ∷ rings) [] misses = absurd misses
misses_read pool member dev (at ∷ rings) (noted ∷ made) misses =
    (is_read noted.call (subst IsReadAsk (sym misses.0) tt), misses_read pool member dev rings made misses.2)

search_reads : (pool member : Guid) (dev size : ℕ) (made : List Noted) (result : Result Bool Fault) → IsSearch pool member dev size made result → AreReads made
search_reads pool member dev size made (Ok true) hit =
    subst AreReads (sym hit.all) (are_reads_more hit.misses (hit.hit ∷ []) (misses_read pool member dev (take hit.before (rings_of size)) hit.misses hit.are_misses)
    (is_read hit.hit.call (subst IsReadAsk (sym hit.ask) tt), tt))
search_reads pool member dev size made (Ok false) missed = misses_read pool member dev (rings_of size) made missed.0
search_reads pool member dev size made (Err fault) missed = misses_read pool member dev (rings_of size) made missed.0

unwrap : {A : Type 0} (x y : A) → Some x ≡ Some y → x ≡ y
unwrap x y same = cc

none_is : {A : Type 0} (x : A) → None ≡ Some x → ⊥
none_is x same = cc

found_on : (pool member : Guid) (size room d : ℕ) (made : List Noted) (found : Option ℕ)
    → IsSoughtOn (nat_le (room + 256) size) pool size member d made found → IsFoundOn size room made d found
found_on pool member size room d made found = by (nat_le (room + 256) size) refl
  where
    nowhere : found ≡ None → (dev : ℕ) → found ≡ Some dev → ⊥
    nowhere none dev is = none_is dev (sym none ∙ is)

    by : (roomy : Bool) → nat_le (room + 256) size ≡ roomy → IsSoughtOn roomy pool size member d made found → IsFoundOn size room made d found
    by false no_room none = record {
      same = λ dev is. absurd (nowhere none.1 dev is);
      roomy = λ dev is. absurd (nowhere none.1 dev is);
      reads = subst AreReads (sym none.0) tt;
    }
    by true enough sought = record {
      same = λ dev is. ⊎_elim (λ hit. unwrap d dev (sym hit.0 ∙ is)) (λ missed. absurd (nowhere missed.0 dev is)) sought;
      roomy = λ dev is. leb-true (room + 256) size enough;
      reads = ⊎_elim (λ hit. search_reads pool member d size made (Ok true) hit.1)
          (λ missed. search_reads pool member d size made missed.1 missed.3) sought;
    }

-- so each, leaf by leaf
abbrev pub IsFrom : Option ℕ → Option ℕ → Type 0
IsFrom handed found = (d : ℕ) → found ≡ Some d → handed ≡ Some d

module _ (pool : Guid) (size room : ℕ → ℕ) (handed : List ℕ → Option ℕ) where
  abbrev device_of : LeafKept → Option ℕ
  device_of leaf = handed leaf.name

  one_from : (member : Guid) (sectors : ℕ) (given : Option ℕ) (made : List Noted) (found : Option ℕ)
      → IsSought pool size sectors member given made found → IsFrom given found
  one_from member sectors None made found sought d is = absurd (none_is d (sym sought.1 ∙ is))
  one_from member sectors (Some h) made found sought d is = ap Some ((found_on pool member (size h) sectors h made found sought).same d is)

  one_reads : (member : Guid) (sectors : ℕ) (given : Option ℕ) (made : List Noted) (found : Option ℕ)
      → IsSought pool size sectors member given made found → AreReads made
  one_reads member sectors None made found sought = subst AreReads (sym sought.0) tt
  one_reads member sectors (Some h) made found sought = (found_on pool member (size h) sectors h made found sought).reads

  one_room : (member : Guid) (sectors : ℕ) (given : Option ℕ) (made : List Noted) (found : Option ℕ)
      → IsSought pool size sectors member given made found → (d : ℕ) → found ≡ Some d → sectors + 256 ≤ size d
  one_room member sectors None made found sought d is = absurd (none_is d (sym sought.1 ∙ is))
  one_room member sectors (Some h) made found sought d is =
      let on = found_on pool member (size h) sectors h made found sought in
      subst (λ n. sectors + 256 ≤ size n) (on.same d is) (on.roomy d is)

  all_from : (leaves : List LeafKept) (made : List Noted) (found : List (Option ℕ)) → AreSought pool size room handed leaves made found
      → AllZip IsFrom (map device_of leaves) found
  all_from [] made [] sought = tt
  all_from [] made (dev ∷ devs) sought = absurd sought
  all_from (leaf ∷ leaves) made [] sought = absurd sought
  all_from (leaf ∷ leaves) made (dev ∷ devs) sought =
      (one_from leaf.guid (room leaf.top) (handed leaf.name) sought.0 dev sought.3, all_from leaves sought.1 devs sought.4)

  -- no call of it wrote
  pub sought_reads : (leaves : List LeafKept) (made : List Noted) (found : List (Option ℕ)) → AreSought pool size room handed leaves made found → AreReads made
  sought_reads [] made [] sought = subst AreReads (sym sought) tt
  sought_reads [] made (dev ∷ devs) sought = absurd sought
  sought_reads (leaf ∷ leaves) made [] sought = absurd sought
  sought_reads (leaf ∷ leaves) made (dev ∷ devs) sought =
      subst AreReads (sym sought.2) (are_reads_more sought.0 sought.1 (one_reads leaf.guid (room leaf.top) (handed leaf.name) sought.0 dev sought.3)
      (sought_reads leaves sought.1 devs sought.4))

  kept_devices : (first : ℕ) (tops : List Top) → map device_of (kept_leaves_from first tops) ≡ handed_to handed (leaves_of tops)
  kept_devices first [] = refl
  kept_devices first (top ∷ tops) =
      map-append device_of (map (kept_of first) (leaves top.mirror)) (kept_leaves_from (suc first) tops)
      ∙ ap₂ (λ a b. a ++ b) (map-map device_of (kept_of first) (leaves top.mirror)) (kept_devices (suc first) tops)
      ∙ sym (map-append (λ (leaf : LeafVdev). handed leaf.name) (leaves top.mirror) (leaves_of tops))

  two_found : (given found : List (Option ℕ)) → AllZip IsFrom given found → AllPairs AreTwo given → AllPairs AreTwo found
  two_found given found from two i j d lt within dev one other =
      let long = length_all_zip IsFrom given found from in
      two i j d lt (omega (arith, long, within)) dev (AllZip-get_or IsFrom given found i d d from (omega (arith, long, lt, within)) dev one)
      (AllZip-get_or IsFrom given found j d d from (omega (arith, long, within)) dev other)

  -- Where no two of the devices that are handed in are one, no two of those are where leaves were found.
  pub found_apart : (tops : List Top) (made : List Noted) (given found : List (Option ℕ)) → AreSought pool size room handed (kept_leaves_from 1 tops) made found
      → handed_to handed (leaves_of tops) ≡ given → AllPairs AreTwo given → AllPairs AreTwo found
  found_apart tops made given found sought are two =
      two_found given found (subst (λ l. AllZip IsFrom l found) (kept_devices 1 tops ∙ are) (all_from (kept_leaves_from 1 tops) made found sought)) two

  -- The room of the leaves' tops.
  here_one : (sectors : ℕ) (dev : Option ℕ) (leaf : LeafVdev) → ((d : ℕ) → dev ≡ Some d → sectors + 256 ≤ size d) → IsHere size sectors (placed dev leaf)
  here_one sectors None leaf roomy d up is = absurd (true≢false (sym up))
  here_one sectors (Some n) leaf roomy d up is = roomy d is

  here_at : (tops : List ℕ) (under : List LeafVdev) (made : List Noted) (devs : List (Option ℕ)) → AreSought pool size room handed (kept_at tops under) made devs
      → length tops ≡ length under → AllZip (λ top leaf. IsHere size (room top) leaf) tops (all_placed devs under)
  here_at [] [] made devs sought long = tt
  here_at [] (leaf ∷ under) made devs sought long = absurd (omega (arith, long))
  here_at (top ∷ tops) [] made devs sought long = absurd (omega (arith, long))
  here_at (top ∷ tops) (leaf ∷ under) made [] sought long = absurd sought
  here_at (top ∷ tops) (leaf ∷ under) made (dev ∷ devs) sought long = (
    here_one (room top) dev leaf (one_room leaf.guid (room top) (handed leaf.name) sought.0 dev sought.3),
    here_at tops under sought.1 devs sought.4 (omega (arith, long)),
  )

front_zip : (R : ℕ → LeafVdev → Type 0) (top : ℕ) (under : List LeafVdev) (tops : List ℕ) (rest : List LeafVdev)
    → AllZip R (map (λ leaf. top) under ++ tops) (under ++ rest) → AllByRecursion (R top) under × AllZip R tops rest
front_zip R top [] tops rest all = (tt, all)
front_zip R top (leaf ∷ under) tops rest all = let more = front_zip R top under tops rest all.1 in ((all.0, more.0), more.1)

by_tops : (size : ℕ → ℕ) (first : ℕ) (room : ℕ → ℕ) (tops : List Top) → ((i : ℕ) → room (first + i) ≡ slice_index (sectors_of tops) i)
    → AllZip (λ top leaf. IsHere size (room top) leaf) (tops_from first (leaves_under (all_parts tops))) (leaves_of tops)
    → AllByRecursion (λ top. All (IsHere size top.sectors) top.leaves) (all_parts tops)
by_tops size first room [] rooms all = tt
by_tops size first room (top ∷ tops) rooms all =
    let parts = front_zip (λ top leaf. IsHere size (room top) leaf) first (leaves top.mirror) (tops_from (suc first) (leaves_under (all_parts tops))) (leaves_of tops) all in
    let here : room first ≡ top.sectors = ap room (let same : first ≡ first + 0 = omega arith in same) ∙ rooms 0 in (
      All-from_recursion (IsHere size top.sectors) (leaves top.mirror)
          (subst (λ n. AllByRecursion (IsHere size n) (leaves top.mirror)) here parts.0),
      by_tops size (suc first) room tops (λ i. ap room (let same : suc first + i ≡ first + suc i = omega arith in same) ∙ rooms (suc i)) parts.1,
    )

tops_long : (first : ℕ) (tops : List Top) → length (tops_from first (leaves_under (all_parts tops))) ≡ length (leaves_of tops)
tops_long first [] = refl
tops_long first (top ∷ tops) =
    omega (
      arith,
      length-append (map {B = ℕ} (λ leaf. first) (leaves top.mirror)) (tops_from (suc first) (leaves_under (all_parts tops))),
      length-map {B = ℕ} (leaves top.mirror) (λ leaf. first),
      length-append (leaves top.mirror) (leaves_of tops),
      tops_long (suc first) tops,
    )

-- So the bank has the devices of leaves that were found, with room for their labels and the data sectors of their tops.
pub found_here : (pool : Guid) (size : ℕ → ℕ) (handed : List ℕ → Option ℕ) (was is : List Top) (made : List Noted) (devs : List (Option ℕ))
    → AreSought pool size (room_of (sectors_of was)) handed (kept_leaves_from 1 was) made devs
    → leaves_of is ≡ all_placed devs (leaves_of was) → sizes (leaves_under (all_parts was)) ≡ sizes (leaves_under (all_parts is))
    → sectors_of is ≡ sectors_of was → AreHere size (all_parts is)
found_here pool size handed was is made devs sought on same sectors =
    All-from_recursion (λ top. All (IsHere size top.sectors) top.leaves) (all_parts is)
    (by_tops size 1 (room_of (sectors_of was)) is (λ i. ap (room_of (sectors_of was)) (let next : 1 + i ≡ suc i = omega arith in next) ∙ ap (λ l. slice_index l i) (sym sectors))
    (subst₂ (λ tops ls. AllZip (λ top leaf. IsHere size (room_of (sectors_of was) top) leaf) tops ls)
    (same_tops 1 (leaves_under (all_parts was)) (leaves_under (all_parts is)) same) (sym on)
    (here_at pool size (room_of (sectors_of was)) handed (tops_from 1 (leaves_under (all_parts was))) (leaves_of was) made devs
    (subst (λ ls. AreSought pool size (room_of (sectors_of was)) handed ls made devs) (kept_by_tops 1 was) sought) (tops_long 1 was))))
