-- The copies on the leaves of a top are on devices of their own, which have the block's sector.
use Rattle.std.proofs.Common.{◌≡◌, ◌≢◌, ℕ, zero, suc, ◌+◌, ◌≤◌, ◌<◌, true, false, List, [], ◌∷◌, ◌++◌, length, get_or, All, Option, Some, None, refl, sym, ap, ◌∙◌, subst, arith}
use Rattle.std.specs.Prelude.{slice_get, slice_index}
use Rattle.std.specs.List.{AllByRecursion}
use Rattle.std.proofs.lemmas.List.{get_or_append_left, get_or-append-add, length-append, length-map}
use Rattle.std.proofs.lemmas.List.Elements.{All-head, All-tail, All-get_or, All-from_recursion}
use Rattle.std.proofs.lemmas.List.Kept.{AllPairs-cons}
use Rattle.mp_base.specs.declared.place.Place.{Place}
use Rattle.group_set.specs.Groups.{holds}
use Rattle.vdev_tree.specs.Leaf.{is_readable}
use Rattle.vdev_tree.specs.Tree.{leaves}
use Rattle.vdev_tree.specs.declared.top.Top.{Top}
use Rattle.vdev_tree.specs.declared.vdev.LeafVdev.{LeafVdev}
use Rattle.dtl_rules.specs.Widening.{leaves_of, sectors_of}
use Rattle.block_map.specs.Places.{AreTops, IsPlace}
use Rattle.mirror_io.specs.declared.copies.CopyOf.{CopyOf}
use Rattle.mirror_io.specs.Copies.{AreApart, AreWithin}
use Rattle.pool_moves.specs.ReadRow.{copy_at}
use Rattle.open_pool.specs.Here.{IsHere, AreHere}
use Rattle.open_pool.specs.Copies.{copy_on, copies_on}
use Rattle.open_pool.specs.Pages.{HaveOwnDevices}
use Rattle.open_pool.specs.Parts.{TopParts, all_parts}
use Rattle.open_pool.specs.State.{leaves_under}

-- A place is under a top, at a sector that fits.
pub top_inside : (tops : List Top) (place : Place) → IsPlace (sectors_of tops) place → place.top < length tops
top_inside tops place at = let inside = at.top in let long = length-map tops (λ (top : Top). top.sectors) in omega (arith, inside, long)

pub sector_fits : (tops : List Top) (place : Place) → AreTops (sectors_of tops) → IsPlace (sectors_of tops) place → place.sector < 1048320
sector_fits tops place tops_are at =
    let inside = at.sector in
    let most = All-get_or (λ s. s ≤ 1048320) (sectors_of tops) place.top 0 at.top tops_are.sizes in omega (arith, inside, most)

-- the leaves of one of these tops
pub under_at : (tops : List Top) (i : ℕ) (d : Top) → i < length tops → slice_get (leaves_under (all_parts tops)) i ≡ Some (leaves (get_or tops i d).mirror)
under_at [] i d lt = absurd (omega arith)
under_at (top ∷ tops) zero d lt = refl
under_at (top ∷ tops) (suc i) d lt = under_at tops i d (omega arith)

pub under_top : (tops : List Top) (place : Place) (top : Top) → IsPlace (sectors_of tops) place → top ≡ get_or tops place.top top
    → (under : List (List LeafVdev)) → under ≡ leaves_under (all_parts tops) → slice_get under place.top ≡ Some (leaves top.mirror)
under_top tops place top at is under under_is =
    ap (λ l. slice_get l place.top) under_is ∙ under_at tops place.top top (top_inside tops place at) ∙ ap (λ (t : Top). Some (leaves t.mirror)) (sym is)

-- The devices have the sector.
within_one : (size : ℕ → ℕ) (sectors at : ℕ) (leaf : LeafVdev) (birth : ℕ) → IsHere size sectors leaf → at < sectors + 256
    → (copy_on birth leaf).readable ≡ true → at < size (copy_on birth leaf).dev
within_one size sectors at leaf birth here lt = by leaf.dev refl
  where
    by : (dev : Option ℕ) → leaf.dev ≡ dev → (copy_at (is_readable leaf) dev (holds leaf.log birth)).readable ≡ true
        → at < size (copy_at (is_readable leaf) dev (holds leaf.log birth)).dev
    by None is readable = absurd (let no : false ≡ true = readable in cc)
    by (Some d) is readable = let big = here d readable is in omega (arith, big, lt)

within_all : (size : ℕ → ℕ) (sectors at birth : ℕ) (under : List LeafVdev) → All (IsHere size sectors) under → at < sectors + 256
    → AllByRecursion (λ copy. copy.readable ≡ true → at < size copy.dev) (copies_on birth under)
within_all size sectors at birth [] here lt = tt
within_all size sectors at birth (leaf ∷ under) here lt = (
  within_one size sectors at leaf birth (All-head (IsHere size sectors) leaf under here) lt,
  within_all size sectors at birth under (All-tail (IsHere size sectors) leaf under here) lt,
)

pub top_within : (size : ℕ → ℕ) (tops : List Top) (i : ℕ) (d : Top) (sector birth : ℕ) → i < length tops → sector < slice_index (sectors_of tops) i
    → AreHere size (all_parts tops) → AreWithin size (copies_on birth (leaves (get_or tops i d).mirror)) (128 + sector)
top_within size [] i d sector birth lt inside here = absurd (omega arith)
top_within size (top ∷ tops) zero d sector birth lt inside here =
    All-from_recursion (λ copy. copy.readable ≡ true → 128 + sector < size copy.dev) (copies_on birth (leaves top.mirror))
    (within_all size top.sectors (128 + sector) birth (leaves top.mirror)
    (All-head (λ (top : TopParts). All (IsHere size top.sectors) top.leaves) _ (all_parts tops) here) (omega (arith, inside)))
top_within size (top ∷ tops) (suc i) d sector birth lt inside here =
    top_within size tops i d sector birth (omega arith) inside
    (All-tail (λ (top : TopParts). All (IsHere size top.sectors) top.leaves) _ (all_parts tops) here)

pub copies_within : (size : ℕ → ℕ) (tops : List Top) (place : Place) (top : Top) (birth : ℕ) (copies : List CopyOf) → IsPlace (sectors_of tops) place
    → top ≡ get_or tops place.top top → copies ≡ copies_on birth (leaves top.mirror) → AreHere size (all_parts tops) → AreWithin size copies (128 + place.sector)
copies_within size tops place top birth copies at is on here =
    subst (λ l. AreWithin size l (128 + place.sector)) (sym (on ∙ ap (λ (t : Top). copies_on birth (leaves t.mirror)) is))
    (top_within size tops place.top top place.sector birth (top_inside tops place at) at.sector here)

-- The devices differ.
abbrev AreTwo : LeafVdev → LeafVdev → Type 0
AreTwo a b = (d : ℕ) → a.dev ≡ Some d → b.dev ≡ Some d → ⊥

abbrev ReadApart : CopyOf → CopyOf → Type 0
ReadApart one other = one.readable ≡ true → other.readable ≡ true → one.dev ≢ other.dev

apart_one : (birth : ℕ) (a b : LeafVdev) → AreTwo a b → ReadApart (copy_on birth a) (copy_on birth b)
apart_one birth a b two = by a.dev b.dev refl refl
  where
    by : (da db : Option ℕ) → a.dev ≡ da → b.dev ≡ db
        → ReadApart (copy_at (is_readable a) da (holds a.log birth)) (copy_at (is_readable b) db (holds b.log birth))
    by None db is is' readable readable' same = absurd (let no : false ≡ true = readable in cc)
    by (Some d) None is is' readable readable' same = absurd (let no : false ≡ true = readable' in cc)
    by (Some d) (Some e) is is' readable readable' same = two d is (is' ∙ ap Some (sym same))

apart_all : (birth : ℕ) (a : LeafVdev) (under : List LeafVdev) → All (AreTwo a) under → AllByRecursion (ReadApart (copy_on birth a)) (copies_on birth under)
apart_all birth a [] two = tt
apart_all birth a (b ∷ under) two = (apart_one birth a b (All-head (AreTwo a) b under two), apart_all birth a under (All-tail (AreTwo a) b under two))

pub apart_under : (birth : ℕ) (under : List LeafVdev) → HaveOwnDevices under → AreApart (copies_on birth under)
apart_under birth [] apart = λ i j d less lt. absurd (omega (arith, lt))
apart_under birth (a ∷ under) apart = AllPairs-cons ReadApart (copy_on birth a) (copies_on birth under)
    (All-from_recursion (ReadApart (copy_on birth a)) (copies_on birth under)
    (apart_all birth a under (λ k d lt. apart zero (suc k) d (omega arith) (omega arith))))
    (apart_under birth under (λ i j d less lt. apart (suc i) (suc j) d (omega arith) (omega arith)))

pub pairs_first : (xs ys : List LeafVdev) → HaveOwnDevices (xs ++ ys) → HaveOwnDevices xs
pairs_first xs ys apart i j d less lt e =
    subst (λ b. (get_or xs i d).dev ≡ Some e → b.dev ≡ Some e → ⊥) (get_or_append_left xs ys d j lt)
    (subst (λ a. a.dev ≡ Some e → (get_or (xs ++ ys) j d).dev ≡ Some e → ⊥) (get_or_append_left xs ys d i (omega (arith, less, lt)))
    (apart i j d less (let long = length-append xs ys in omega (arith, lt, long)) e))

pub pairs_behind : (xs ys : List LeafVdev) → HaveOwnDevices (xs ++ ys) → HaveOwnDevices ys
pairs_behind xs ys apart i j d less lt e =
    subst (λ b. (get_or ys i d).dev ≡ Some e → b.dev ≡ Some e → ⊥) (get_or-append-add xs ys j d)
    (subst (λ a. a.dev ≡ Some e → (get_or (xs ++ ys) (length xs + j) d).dev ≡ Some e → ⊥) (get_or-append-add xs ys i d)
    (apart (length xs + i) (length xs + j) d (omega (arith, less)) (let long = length-append xs ys in omega (arith, lt, long)) e))

pub top_apart : (tops : List Top) (i : ℕ) (d : Top) (birth : ℕ) → i < length tops → HaveOwnDevices (leaves_of tops)
    → AreApart (copies_on birth (leaves (get_or tops i d).mirror))
top_apart [] i d birth lt apart = absurd (omega arith)
top_apart (top ∷ tops) zero d birth lt apart = apart_under birth (leaves top.mirror) (pairs_first (leaves top.mirror) (leaves_of tops) apart)
top_apart (top ∷ tops) (suc i) d birth lt apart = top_apart tops i d birth (omega arith) (pairs_behind (leaves top.mirror) (leaves_of tops) apart)

pub copies_apart : (tops : List Top) (place : Place) (top : Top) (birth : ℕ) (copies : List CopyOf) → IsPlace (sectors_of tops) place
    → top ≡ get_or tops place.top top → copies ≡ copies_on birth (leaves top.mirror) → HaveOwnDevices (leaves_of tops) → AreApart copies
copies_apart tops place top birth copies at is on apart = subst AreApart (sym (on ∙ ap (λ (t : Top). copies_on birth (leaves t.mirror)) is))
    (top_apart tops place.top top birth (top_inside tops place at) apart)
