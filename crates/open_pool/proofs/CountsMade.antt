-- What each copy showed is counted on its leaf, one after another.
use Rattle.std.proofs.Common.{◌≡◌, ℕ, zero, suc, ◌+◌, ◌<◌, ◌==◌, cond, Bool, true, false, List, [], ◌∷◌, length, map, get_or, drop, Option, Some, None, refl, sym, ap, ap₂, ◌∙◌, arith}
use Rattle.std.specs.Prelude.{slice_get}
use Rattle.std.specs.Option.{option_map}
use Rattle.std.proofs.lemmas.List.{drop_all, drop_more, length-map}
use Rattle.std.proofs.lemmas.Option.{same_Some}
use Rattle.mp_base.specs.declared.number.Guid.{Guid}
use Rattle.vdev_tree.specs.Tree.{leaves}
use Rattle.vdev_tree.specs.declared.top.Top.{Top}
use Rattle.vdev_tree.specs.declared.vdev.LeafVdev.{LeafVdev}
use Rattle.mirror_io.specs.declared.copies.CopyOf.{CopyOf}
use Rattle.mirror_io.specs.declared.copies.CopySeen.{CopySeen}
use Rattle.txg_engine.specs.Frozen.{FrozenGroup}
use Rattle.txg_engine.proofs.Seating.{got_there, got_none}
use Rattle.open_pool.specs.declared.count.Counted.{Counted}
use Rattle.open_pool.specs.Counting.{counted_by, counts_of, counts_with, counted_leaf, counted_top, counted_group, counted_tops, counted_groups, guids_of, CountsSoFar}
use Rattle.open_pool.specs.Parts.{TopParts, top_parts, all_parts}
use Rattle.open_pool.specs.State.{leaves_under}

counts_long : (served : Bool) (under : List LeafVdev) (copies : List CopyOf) (shown : List CopySeen) → length under ≡ length shown
    → length copies ≡ length shown → length (counts_of served under copies shown) ≡ length shown
counts_long served [] copies [] long many = refl
counts_long served [] copies (s ∷ shown) long many = absurd (omega (arith, long))
counts_long served (leaf ∷ under) copies [] long many = absurd (omega (arith, long))
counts_long served (leaf ∷ under) [] (s ∷ shown) long many = absurd (omega (arith, many))
counts_long served (leaf ∷ under) (copy ∷ copies) (s ∷ shown) long many =
    let rest = counts_long served under copies shown (omega (arith, long)) (omega (arith, many)) in omega (arith, rest)

counts_get : (served : Bool) (under : List LeafVdev) (copies : List CopyOf) (shown : List CopySeen) (i : ℕ) (l : LeafVdev) (co : CopyOf) (s : CopySeen) (d : Counted)
    → i < length under → i < length copies → i < length shown
    → get_or (counts_of served under copies shown) i d ≡ counted_by served (get_or under i l).guid (get_or copies i co) (get_or shown i s)
counts_get served [] copies shown i l co s d lt lt' lt'' = absurd (omega (arith, lt))
counts_get served (leaf ∷ under) [] shown i l co s d lt lt' lt'' = absurd (omega (arith, lt'))
counts_get served (leaf ∷ under) (copy ∷ copies) [] i l co s d lt lt' lt'' = absurd (omega (arith, lt''))
counts_get served (leaf ∷ under) (copy ∷ copies) (x ∷ shown) zero l co s d lt lt' lt'' = refl
counts_get served (leaf ∷ under) (copy ∷ copies) (x ∷ shown) (suc i) l co s d lt lt' lt'' =
    counts_get served under copies shown i l co s d (omega (arith, lt)) (omega (arith, lt')) (omega (arith, lt''))

-- leaves of the same numbers
guids_long : (xs ys : List LeafVdev) → guids_of xs ≡ guids_of ys → length xs ≡ length ys
guids_long [] [] same = refl
guids_long [] (y ∷ ys) same = absurd (cc)
guids_long (x ∷ xs) [] same = absurd (cc)
guids_long (x ∷ xs) (y ∷ ys) same =
    let rest = guids_long xs ys (let tail : guids_of xs ≡ guids_of ys = cc in tail) in omega (arith, rest)

guid_same : (xs ys : List LeafVdev) (i : ℕ) (d : LeafVdev) → guids_of xs ≡ guids_of ys → (get_or xs i d).guid ≡ (get_or ys i d).guid
guid_same [] [] i d same = refl
guid_same [] (y ∷ ys) i d same = absurd (cc)
guid_same (x ∷ xs) [] i d same = absurd (cc)
guid_same (x ∷ xs) (y ∷ ys) zero d same = let here : x.guid ≡ y.guid = cc in here
guid_same (x ∷ xs) (y ∷ ys) (suc i) d same = guid_same xs ys i d (let tail : guids_of xs ≡ guids_of ys = cc in tail)

pub counted_guid : (c : Counted) (leaf : LeafVdev) → (counted_leaf c leaf).guid ≡ leaf.guid
counted_guid c leaf = one (leaf.guid.0 == c.member.0)
  where
    one : (t : Bool) → (cond t (record leaf { counts = counts_with c leaf.counts }) leaf).guid ≡ leaf.guid
    one true = refl
    one false = refl

counted_guids : (c : Counted) (leaves : List LeafVdev) → guids_of (map (counted_leaf c) leaves) ≡ guids_of leaves
counted_guids c [] = refl
counted_guids c (leaf ∷ leaves) = ap₂ (λ (a : Guid) b. a ∷ b) (counted_guid c leaf) (counted_guids c leaves)

counted_under : (c : Counted) (tops : List TopParts) (place : ℕ)
    → slice_get (leaves_under (map (counted_top c) tops)) place ≡ option_map (map (counted_leaf c)) (slice_get (leaves_under tops) place)
counted_under c [] place = refl
counted_under c (top ∷ tops) zero = refl
counted_under c (top ∷ tops) (suc place) = counted_under c tops place

pub same_long : (c : Counted) (new old : List Top) → all_parts new ≡ map (counted_top c) (all_parts old) → length new ≡ length old
same_long c new old is = sym (length-map new top_parts) ∙ ap length is ∙ length-map (all_parts old) (counted_top c) ∙ length-map old top_parts

module _ (served : Bool) (under : List LeafVdev) (copies : List CopyOf) (shown : List CopySeen) (long : length under ≡ length shown)
    (many : length copies ≡ length shown) (place : ℕ) (old : List TopParts) (was : Option FrozenGroup) where
  abbrev Far : ℕ → List TopParts → Option FrozenGroup → Type 0
  Far i new is = CountsSoFar (counts_of served under copies shown) i under place old new was is

  -- the beginning, one leaf more, and the end
  pub counts_first : slice_get (leaves_under old) place ≡ Some under → Far 0 old was
  counts_first at = record { tops = refl; group = refl; now = under; now_is = at; same = refl }

  pub counts_more : (i : ℕ) (new : List TopParts) (is : Option FrozenGroup) (leaf : LeafVdev) (here : List LeafVdev) (co : CopyOf) (s : CopySeen)
      → i < length shown → Far i new is
      → slice_get (leaves_under new) place ≡ Some here → slice_get here i ≡ Some leaf
      → Far (i + 1) (map (counted_top (counted_by served leaf.guid (get_or copies i co) (get_or shown i s))) new)
      (option_map (counted_group (counted_by served leaf.guid (get_or copies i co) (get_or shown i s))) is)
  counts_more i new is leaf here co s lt far here_is at =
      let cs = counts_of served under copies shown in
      let c = counted_by served leaf.guid (get_or copies i co) (get_or shown i s) in
      let now_here : far.now ≡ here = same_Some far.now here (sym far.now_is ∙ here_is) in
      let at_now : slice_get far.now i ≡ Some leaf = ap (λ l. slice_get l i) now_here ∙ at in
      let number : leaf.guid ≡ (get_or under i leaf).guid =
      ap (λ (l : LeafVdev). l.guid) (sym (got_there far.now i leaf leaf at_now)) ∙ guid_same far.now under i leaf far.same in
      let first : drop i cs ≡ c ∷ drop (i + 1) cs =
      drop_more cs i c (let n = counts_long served under copies shown long many in omega (arith, n, lt))
      ∙ ap (λ d. d ∷ drop (i + 1) cs)
      (counts_get served under copies shown i leaf co s c (omega (arith, long, lt)) (omega (arith, many, lt)) lt
      ∙ ap (λ g. counted_by served g (get_or copies i co) (get_or shown i s)) (sym number)) in
      record {
        tops = ap (λ l. counted_tops l new) (sym first) ∙ far.tops;
        group = ap (λ l. counted_groups l is) (sym first) ∙ far.group;
        now = map (counted_leaf c) far.now;
        now_is = counted_under c new place ∙ ap (option_map (map (counted_leaf c))) far.now_is;
        same = counted_guids c far.now ∙ far.same;
      }

  pub counts_done : (i : ℕ) (new : List TopParts) (is : Option FrozenGroup) → length shown ≡ i → Far i new is
      → (new ≡ counted_tops (counts_of served under copies shown) old) × (is ≡ counted_groups (counts_of served under copies shown) was)
  counts_done i new is end far =
      let cs = counts_of served under copies shown in
      let all : drop i cs ≡ [] = drop_all i cs (let n = counts_long served under copies shown long many in omega (arith, n, end)) in
      (ap (λ l. counted_tops l new) (sym all) ∙ far.tops, ap (λ l. counted_groups l is) (sym all) ∙ far.group)

  -- there is a leaf for each copy
  pub no_more : (i : ℕ) (new : List TopParts) (is : Option FrozenGroup) (here : List LeafVdev) → i < length shown → Far i new is
      → slice_get (leaves_under new) place ≡ Some here → slice_get here i ≡ None → ⊥
  no_more i new is here lt far here_is none =
      let now_here : far.now ≡ here = same_Some far.now here (sym far.now_is ∙ here_is) in
      let past = got_none here i none in
      let n = guids_long far.now under far.same in
      let m = ap length now_here in
      absurd (omega (arith, lt, past, n, m, long))
