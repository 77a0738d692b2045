-- The leaves of a record are looked for one after another.
use mathlib.Core.Path.{fun_ext}
use Rattle.std.proofs.Common.{◌≡◌, ℕ, zero, suc, ◌+◌, ◌<◌, ◌≤◌, List, [], ◌∷◌, ◌++◌, map, length, take, drop, get_or, set, All, Option, Some, refl, sym, ap, ap₂, ◌∙◌, subst, subst₂, arith, append_assoc, append-nil, length-append, length-take-le, take_all, drop_of_length-le}
use Rattle.std.proofs.Math.Seq.{get_or-append_seam, set-append_seam}
use Rattle.std.specs.Prelude.{slice_get}
use Rattle.std.proofs.lemmas.List.{take_more, drop_more, map-append, length-map}
use Rattle.std.proofs.lemmas.List.Elements.{All-get_or}
use Rattle.std.proofs.lemmas.Option.{none-some, same_Some}
use Rattle.mp_base.specs.declared.number.Guid.{Guid}
use Rattle.bank_core.specs.BankView.{BankView}
use Rattle.bank_core.specs.Disk.{Noted}
use Rattle.bank_core.proofs.Framing.{makes_none, makes_more}
use Rattle.vdev_tree.specs.declared.top.Top.{Top}
use Rattle.vdev_tree.specs.declared.vdev.LeafVdev.{LeafVdev}
use Rattle.vdev_tree.specs.Tree.{leaves}
use Rattle.dtl_rules.specs.Widening.{leaves_of, sectors_of}
use Rattle.txg_history.specs.Pages.{LeafKept}
use Rattle.txg_engine.proofs.Seating.{got_inside, got_there}
use Rattle.pool_config.specs.Validity.{IsIn}
use Rattle.pool_codec.specs.Tops.{room_of, kept_of, kept_leaves_from}
use Rattle.pool_moves.specs.OpeningRow.{IsSought, AreSought}
use Rattle.open_pool.specs.Finding.{FindsDevice, FindsLeaves, handed_to}

module _ (pool : Guid) (size room : ℕ → ℕ) (handed : List ℕ → Option ℕ) where
  length_sought : (leaves : List LeafKept) (made : List Noted) (found : List (Option ℕ)) → AreSought pool size room handed leaves made found
      → length found ≡ length leaves
  length_sought [] made [] sought = refl
  length_sought [] made (dev ∷ devs) sought = absurd sought
  length_sought (leaf ∷ leaves) made [] sought = absurd sought
  length_sought (leaf ∷ leaves) made (dev ∷ devs) sought = ap suc (length_sought leaves sought.1 devs sought.4)

  -- one more at the end
  sought_more : (leaves : List LeafKept) (leaf : LeafKept) (made mine : List Noted) (found : List (Option ℕ)) (dev : Option ℕ)
      → AreSought pool size room handed leaves made found → IsSought pool size (room leaf.top) leaf.guid (handed leaf.name) mine dev
      → AreSought pool size room handed (leaves ++ leaf ∷ []) (made ++ mine) (found ++ dev ∷ [])
  sought_more [] leaf made mine [] dev none last = (mine, [], ap (λ m. m ++ mine) none ∙ sym (append-nil mine), last, refl)
  sought_more [] leaf made mine (first ∷ found) dev none last = absurd none
  sought_more (first ∷ leaves) leaf made mine [] dev none last = absurd none
  sought_more (first ∷ leaves) leaf made mine (one ∷ found) dev sought last = (
    sought.0,
    sought.1 ++ mine,
    ap (λ m. m ++ mine) sought.2 ∙ append_assoc sought.0 sought.1 mine,
    sought.3,
    sought_more leaves leaf sought.1 mine found dev sought.4 last,
  )

module _ (pool : Guid) (room : ℕ → ℕ) (handed : List ℕ → Option ℕ) where
  pub finds_none : (left devs : List (Option ℕ)) (bank : BankView) → left ≡ devs → FindsLeaves pool room handed [] left devs bank bank
  finds_none left devs bank same = record { made = []; calls = makes_none; found = []; sought = refl; devs_are = sym same }

  -- one leaf more, whose device stood first of what was left
  finds_more : (done : List LeafKept) (leaf : LeafKept) (rest devs : List (Option ℕ)) (n : ℕ) (dev d : Option ℕ) (start between new : BankView)
      → length done ≡ n → FindsLeaves pool room handed done (handed leaf.name ∷ rest) devs start between
      → FindsDevice pool leaf.guid (room leaf.top) (get_or devs n d) dev between new
      → FindsLeaves pool room handed (done ++ leaf ∷ []) rest (set devs n dev) start new
  finds_more done leaf rest devs n dev d start between new count f one =
      let long : length f.found ≡ n = length_sought pool start.size room handed done f.made f.found f.sought ∙ count in
      let given : get_or devs n d ≡ handed leaf.name =
      ap₂ (λ ds k. get_or ds k d) f.devs_are (sym long) ∙ get_or-append_seam f.found (handed leaf.name) rest d in
      let size : between.size ≡ start.size = fun_ext f.calls.frame.sizes in
      record {
        made = f.made ++ one.made;
        calls = makes_more f.calls one.calls;
        found = f.found ++ dev ∷ [];
        sought = sought_more pool start.size room handed done leaf f.made one.made f.found dev f.sought
            (subst₂ (λ s g. IsSought pool s (room leaf.top) leaf.guid g one.made dev) size given one.sought);
        devs_are = ap₂ (λ ds k. set ds k dev) f.devs_are (sym long) ∙ set-append_seam f.found (handed leaf.name) rest dev
            ∙ sym (append_assoc f.found (dev ∷ []) rest);
      }

  -- So the leaves of a top are looked for, by their places under it.
  module _ (number : ℕ) (done : List LeafKept) (under : List LeafVdev) (left : List (Option ℕ)) where
    abbrev pub SoFar : (place : ℕ) (devs : List (Option ℕ)) (start now : BankView) → Type 0
    SoFar place devs start now =
        FindsLeaves pool room handed (done ++ map (kept_of number) (take place under)) (handed_to handed (drop place under) ++ left) devs start now

    pub finds_next : (place at sectors : ℕ) (leaf : LeafVdev) (devs : List (Option ℕ)) (dev d : Option ℕ) (start between new : BankView)
        → slice_get under place ≡ Some leaf → room number ≡ sectors → length done ≡ at → SoFar place devs start between
        → FindsDevice pool leaf.guid sectors (get_or devs (at + place) d) dev between new → SoFar (place + 1) (set devs (at + place) dev) start new
    finds_next place at sectors leaf devs dev d start between new is sectors_are count f one =
        let inside = got_inside under place leaf is in
        let so_far = done ++ map (kept_of number) (take place under) in
        let rest = handed_to handed (drop (place + 1) under) ++ left in
        let mid : handed_to handed (drop place under) ++ left ≡ handed leaf.name ∷ rest =
        ap (λ ls. handed_to handed ls ++ left) (drop_more under place leaf inside ∙ ap (λ l. l ∷ drop (place + 1) under) (got_there under place leaf leaf is)) in
        let many : length so_far ≡ at + place =
        length-append done (map (kept_of number) (take place under))
        ∙ ap₂ (λ m k. m + k) count (length-map (take place under) (kept_of number) ∙ length-take-le place under (omega (arith, inside))) in
        let all : so_far ++ kept_of number leaf ∷ [] ≡ done ++ map (kept_of number) (take (place + 1) under) =
        append_assoc done (map (kept_of number) (take place under)) (kept_of number leaf ∷ [])
        ∙ ap (λ ls. done ++ ls) (sym (ap (map (kept_of number)) (take_more under place leaf inside ∙ ap (λ l. take place under ++ l ∷ [])
        (got_there under place leaf leaf is)) ∙ map-append (kept_of number) (take place under) (leaf ∷ []))) in
        subst (λ ls. FindsLeaves pool room handed ls rest (set devs (at + place) dev) start new) all
        (finds_more so_far (kept_of number leaf) rest devs (at + place) dev d start between new many
        (subst (λ m. FindsLeaves pool room handed so_far m devs start between) mid f)
        (subst (λ s. FindsDevice pool leaf.guid s (get_or devs (at + place) d) dev between new) (sym sectors_are) one))

    pub finds_under : (place : ℕ) (devs : List (Option ℕ)) (start new : BankView) → length under ≤ place → SoFar place devs start new
        → FindsLeaves pool room handed (done ++ map (kept_of number) under) left devs start new
    finds_under place devs start new past f =
        subst₂ (λ ls rest. FindsLeaves pool room handed (done ++ map (kept_of number) ls) (handed_to handed rest ++ left) devs start new)
        (take_all place under past) (drop_of_length-le under past) f

-- top by top

kept_more : (first i : ℕ) (tops : List Top) (top : Top) → slice_get tops i ≡ Some top
    → kept_leaves_from first (take (suc i) tops) ≡ kept_leaves_from first (take i tops) ++ map (kept_of (first + i)) (leaves top.mirror)
kept_more first i [] top is = absurd (none-some top is)
kept_more first zero (t ∷ tops) top is =
    append-nil (map (kept_of first) (leaves t.mirror))
    ∙ ap₂ (λ n (x : Top). map (kept_of n) (leaves x.mirror)) (omega arith) (same_Some t top is)
kept_more first (suc i) (t ∷ tops) top is =
    ap (λ ls. map (kept_of first) (leaves t.mirror) ++ ls) (kept_more (suc first) i tops top is)
    ∙ sym (append_assoc (map (kept_of first) (leaves t.mirror)) (kept_leaves_from (suc first) (take i tops)) (map (kept_of (suc first + i)) (leaves top.mirror)))
    ∙ ap (λ n. map (kept_of first) (leaves t.mirror) ++ kept_leaves_from (suc first) (take i tops) ++ map (kept_of n) (leaves top.mirror)) (omega arith)

pub length-kept : (first : ℕ) (tops : List Top) → length (kept_leaves_from first tops) ≡ length (leaves_of tops)
length-kept first [] = refl
length-kept first (top ∷ tops) =
    omega (
      arith,
      length-append (map (kept_of first) (leaves top.mirror)) (kept_leaves_from (suc first) tops),
      length-map (leaves top.mirror) (kept_of first),
      length-append (leaves top.mirror) (leaves_of tops),
      length-kept (suc first) tops,
    )

room_at : (tops : List Top) (i : ℕ) (top : Top) → slice_get tops i ≡ Some top → room_of (sectors_of tops) (suc i) ≡ top.sectors
room_at [] i top is = absurd (none-some top is)
room_at (t ∷ tops) zero top is = ap (λ (x : Top). x.sectors) (same_Some t top is)
room_at (t ∷ tops) (suc i) top is = room_at tops i top is

pub sized_at : (tops : List Top) (i : ℕ) (top : Top) → slice_get tops i ≡ Some top → All (IsIn 64 1048320) (sectors_of tops) → IsIn 64 1048320 top.sectors
sized_at tops i top is sized =
    subst (IsIn 64 1048320) (room_at tops i top is)
    (All-get_or (IsIn 64 1048320) (sectors_of tops) i 0 (subst (λ n. i < n) (sym (length-map tops (λ (t : Top). t.sectors))) (got_inside tops i top is)) sized)

parted : (tops : List Top) (i : ℕ) → length (leaves_of (take i tops)) + length (leaves_of (drop i tops)) ≡ length (leaves_of tops)
parted [] zero = refl
parted [] (suc i) = refl
parted (top ∷ tops) zero = omega arith
parted (top ∷ tops) (suc i) =
    omega (arith, length-append (leaves top.mirror) (leaves_of (take i tops)), length-append (leaves top.mirror) (leaves_of tops), parted tops i)

leaves_more : (tops : List Top) (i : ℕ) (top : Top) → slice_get tops i ≡ Some top → leaves_of (drop i tops) ≡ leaves top.mirror ++ leaves_of (drop (i + 1) tops)
leaves_more tops i top is =
    ap leaves_of (drop_more tops i top (got_inside tops i top is) ∙ ap (λ (t : Top). t ∷ drop (i + 1) tops) (got_there tops i top top is))

-- how many leaves stand before the next top, and with it
pub count_more : (tops : List Top) (i : ℕ) (top : Top) → slice_get tops i ≡ Some top
    → (length (leaves_of (take i tops)) + length (leaves top.mirror) ≡ length (leaves_of (take (i + 1) tops)))
    × (length (leaves_of (take (i + 1) tops)) ≤ length (leaves_of tops))
count_more tops i top is =
    let here = ap length (leaves_more tops i top is) ∙ length-append (leaves top.mirror) (leaves_of (drop (i + 1) tops)) in
    let before = parted tops i in
    let behind = parted tops (i + 1) in
    (omega (arith, here, before, behind), omega (arith, behind))

module _ (pool : Guid) (handed : List ℕ → Option ℕ) (tops : List Top) where
  abbrev pub SoFarUnder : (i : ℕ) (devs : List (Option ℕ)) (start now : BankView) → Type 0
  SoFarUnder i devs start now =
      FindsLeaves pool (room_of (sectors_of tops)) handed (kept_leaves_from 1 (take i tops)) (handed_to handed (leaves_of (drop i tops))) devs start now

  -- The leaves of one top more were looked for.
  pub top_more : (i at : ℕ) (top : Top) (devs after : List (Option ℕ)) (start between new : BankView) → slice_get tops i ≡ Some top
      → at ≡ length (leaves_of (take i tops)) → SoFarUnder i devs start between
      → ((done : List LeafKept) (left : List (Option ℕ)) → room_of (sectors_of tops) (suc i) ≡ top.sectors → length done ≡ at
      → FindsLeaves pool (room_of (sectors_of tops)) handed done (handed_to handed (leaves top.mirror) ++ left) devs start between
      → FindsLeaves pool (room_of (sectors_of tops)) handed (done ++ map (kept_of (suc i)) (leaves top.mirror)) left after start new)
      → SoFarUnder (i + 1) after start new
  top_more i at top devs after start between new is count f goes =
      let left = handed_to handed (leaves_of (drop (i + 1) tops)) in
      let mid : handed_to handed (leaves_of (drop i tops)) ≡ handed_to handed (leaves top.mirror) ++ left =
      ap (handed_to handed) (leaves_more tops i top is) ∙ map-append (λ (leaf : LeafVdev). handed leaf.name) (leaves top.mirror) (leaves_of (drop (i + 1) tops)) in
      let next : kept_leaves_from 1 (take i tops) ++ map (kept_of (suc i)) (leaves top.mirror) ≡ kept_leaves_from 1 (take (i + 1) tops) =
      let number : suc i ≡ 1 + i = omega arith in
      let next : suc i ≡ i + 1 = omega arith in
      ap (λ n. kept_leaves_from 1 (take i tops) ++ map (kept_of n) (leaves top.mirror)) number ∙ sym (kept_more 1 i tops top is)
      ∙ ap (λ n. kept_leaves_from 1 (take n tops)) next in
      subst (λ ls. FindsLeaves pool (room_of (sectors_of tops)) handed ls left after start new) next
      (goes (kept_leaves_from 1 (take i tops)) left (room_at tops i top is) (length-kept 1 (take i tops) ∙ sym count)
      (subst (λ m. FindsLeaves pool (room_of (sectors_of tops)) handed (kept_leaves_from 1 (take i tops)) m devs start between) mid f))

  pub all_sought : (i : ℕ) (devs : List (Option ℕ)) (start now : BankView) → length tops ≤ i → SoFarUnder i devs start now
      → FindsLeaves pool (room_of (sectors_of tops)) handed (kept_leaves_from 1 tops) [] devs start now
  all_sought i devs start now past f =
      subst₂ (λ few rest. FindsLeaves pool (room_of (sectors_of tops)) handed (kept_leaves_from 1 few) (handed_to handed (leaves_of rest)) devs start now)
      (take_all i tops past) (drop_of_length-le tops past) f
