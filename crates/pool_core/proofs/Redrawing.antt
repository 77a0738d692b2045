-- The draw of a number on a pair of leaves, whose logs are made to fit.
use Rattle.std.proofs.Common.{◌≡◌, ℕ, ◌+◌, ◌-◌, ◌^◌, ◌<◌, ◌≤◌, min, max, Bool, true, false, cond, ◌&&◌, ◌==◌, not, nat_le, inl, inr, ◌⊎◌, List, [], ◌∷◌, ◌++◌, All, length, refl, ap, sym, ◌∙◌, subst, arith, length-append}
use Rattle.std.specs.List.{AllZip}
use Rattle.std.proofs.lemmas.Bool.{false≢true}
use Rattle.std.proofs.lemmas.Bool.Decides.{nat_tests}
use Rattle.std.proofs.lemmas.List.Elements.{All-head, All-tail}
use Rattle.vdev_tree.specs.Leaf.{SameLeaf}
use Rattle.vdev_tree.specs.Changes.{Owes, KeepsLog}
use Rattle.vdev_tree.specs.Tree.{leaves, marks, guid_of, pair_marks, IsCopy}
use Rattle.vdev_tree.specs.declared.top.Top.{Top}
use Rattle.vdev_tree.specs.declared.vdev.LeafVdev.{LeafVdev}
use Rattle.dtl_rules.specs.Widening.{ranges_of, total_ranges, most_ranges, none_has, IsCounted, WidensLeaf, WidensFirst, Widenings, none, more}
use Rattle.pool_core.specs.Keeping.{Stands}
use Rattle.pool_core.specs.Logs.{count_upto, widened, fitted_once, fitted, owing_too, drawn}
use Rattle.pool_core.specs.Pairs.{PairState, pair_in, HasTwo, IsLoggedTo, both}
use Rattle.pool_core.specs.State.{PoolState}
use Rattle.pool_core.proofs.Boards.{state_of, stands_here}
use Rattle.pool_core.proofs.Pairs.{pair_of, HasTwo-of}
use Rattle.pool_core.proofs.Widened.{IsLogged, owed_leaf, widened_leaf}

-- Two leaves with their logs, which stand for those of a state: its numbers are those of a pair.
pub record Keeps (n : ℕ) (pair : PairState) (some : List LeafVdev) (s : PoolState) : Type 0 where
  pub first : LeafVdev
  pub second : LeafVdev
  pub are : some ≡ first ∷ second ∷ []
  pub number : s.number ≡ n
  pub mirror : s.mirror ≡ pair.mirror
  pub sectors : s.sectors ≡ pair.sectors
  pub one : IsLogged n first s.first
  pub other : IsLogged n second s.second

-- one of two logs is small now, and it wasn't the smaller one
abbrev Drops : (a b : ℕ) (now_a now_b : ℕ) → Type 0
Drops a b now_a now_b = ((now_a ≤ 1) × (now_b ≡ b) × (b ≤ a)) ⊎ ((now_b ≤ 1) × (now_a ≡ a) × (a ≤ b))

two_parts : (a b leaf : LeafVdev) (before behind : List LeafVdev) → a ∷ b ∷ [] ≡ before ++ leaf ∷ behind
    → ((before ≡ []) × (leaf ≡ a) × (behind ≡ b ∷ [])) ⊎ ((before ≡ a ∷ []) × (leaf ≡ b) × (behind ≡ []))
two_parts a b leaf [] behind is = inl (refl, cc, cc)
two_parts a b leaf (x ∷ []) behind is = inr (cc, cc, cc)
two_parts a b leaf (x ∷ (y ∷ before)) behind is = absurd (omega (arith, ap length is, length-append before (leaf ∷ behind)))

le_true : (a b : ℕ) → a ≤ b → nat_le a b ≡ true
le_true a b h = grind (arith, nat_tests)

le_false : (a b : ℕ) → b < a → nat_le a b ≡ false
le_false a b h = grind (arith, nat_tests)

-- the widened state, by which log is the larger
abbrev once_by : (fits first : Bool) (s : PoolState) → PoolState
once_by fits first s = cond fits s (cond first (record s { first = widened s.number s.first }) (record s { second = widened s.number s.second }))

module _ (n : ℕ) (pair : PairState) where
  counts_first : (some : List LeafVdev) (s : PoolState) (keeps : Keeps n pair some s) → count_upto s.first.owes s.number ≡ ranges_of keeps.first
  counts_first some s keeps = ap (count_upto s.first.owes) keeps.number ∙ keeps.one.count

  counts_second : (some : List LeafVdev) (s : PoolState) (keeps : Keeps n pair some s) → count_upto s.second.owes s.number ≡ ranges_of keeps.second
  counts_second some s keeps = ap (count_upto s.second.owes) keeps.number ∙ keeps.other.count

  total_is : (some : List LeafVdev) (s : PoolState) (keeps : Keeps n pair some s) → total_ranges some ≡ ranges_of keeps.first + ranges_of keeps.second
  total_is some s keeps = omega (arith, ap total_ranges keeps.are)

  most_is : (some : List LeafVdev) (s : PoolState) (keeps : Keeps n pair some s) → most_ranges some ≡ max (ranges_of keeps.first) (ranges_of keeps.second)
  most_is some s keeps = omega (arith, ap most_ranges keeps.are)

  -- logs that fit stay as they are
  once_none : (some : List LeafVdev) (s : PoolState) → Keeps n pair some s → total_ranges some ≤ 4096 → fitted_once s ≡ s
  once_none some s keeps fits =
      ap (λ b. once_by b (nat_le (count_upto s.second.owes s.number) (count_upto s.first.owes s.number)) s)
      (le_true (count_upto s.first.owes s.number + count_upto s.second.owes s.number) 4096 (omega (arith, counts_first some s keeps, counts_second some s keeps, total_is some s keeps)))

  too_many : (some : List LeafVdev) (s : PoolState) → Keeps n pair some s → 4096 < total_ranges some
      → nat_le (count_upto s.first.owes s.number + count_upto s.second.owes s.number) 4096 ≡ false
  too_many some s keeps large =
      le_false (count_upto s.first.owes s.number + count_upto s.second.owes s.number) 4096 (omega (arith, counts_first some s keeps, counts_second some s keeps, total_is some s keeps))

  once_first : (some : List LeafVdev) (s : PoolState) (keeps : Keeps n pair some s) → 4096 < total_ranges some → ranges_of keeps.second ≤ ranges_of keeps.first
      → fitted_once s ≡ record s { first = widened s.number s.first }
  once_first some s keeps large first =
      ap (λ b. once_by b (nat_le (count_upto s.second.owes s.number) (count_upto s.first.owes s.number)) s) (too_many some s keeps large)
      ∙ ap (λ b. once_by false b s) (le_true (count_upto s.second.owes s.number) (count_upto s.first.owes s.number) (omega (arith, counts_first some s keeps, counts_second some s keeps)))

  once_second : (some : List LeafVdev) (s : PoolState) (keeps : Keeps n pair some s) → 4096 < total_ranges some → ranges_of keeps.first < ranges_of keeps.second
      → fitted_once s ≡ record s { second = widened s.number s.second }
  once_second some s keeps large second =
      ap (λ b. once_by b (nat_le (count_upto s.second.owes s.number) (count_upto s.first.owes s.number)) s) (too_many some s keeps large)
      ∙ ap (λ b. once_by false b s) (le_false (count_upto s.second.owes s.number) (count_upto s.first.owes s.number) (omega (arith, counts_first some s keeps, counts_second some s keeps)))

  record Once (now new : List LeafVdev) (s : PoolState) (keeps : Keeps n pair now s) : Type 0 where
    next : Keeps n pair new (fitted_once s)
    drops : Drops (ranges_of keeps.first) (ranges_of keeps.second) (ranges_of next.first) (ranges_of next.second)

  widens_first : (now new : List LeafVdev) (s : PoolState) (keeps : Keeps n pair now s) (w : LeafVdev) → 4096 < total_ranges now → ranges_of keeps.second ≤ ranges_of keeps.first
      → WidensLeaf keeps.first w → new ≡ w ∷ keeps.second ∷ [] → Once now new s keeps
  widens_first now new s keeps w large first wide is =
      let t : PoolState = record s { first = widened s.number s.first } in
      let once : t ≡ fitted_once s = sym (once_first now s keeps large first) in
      let some : 1 ≤ ranges_of keeps.first = omega (arith, total_is now s keeps) in
      let logged : IsLogged n w t.first = subst (λ k. IsLogged n w (widened k s.first)) (sym keeps.number) (widened_leaf n keeps.first w s.first some keeps.one wide) in
      record {
        next = record {
          first = w;
          second = keeps.second;
          are = is;
          number = sym (ap (λ (u : PoolState). u.number) once) ∙ keeps.number;
          mirror = sym (ap (λ (u : PoolState). u.mirror) once) ∙ keeps.mirror;
          sectors = sym (ap (λ (u : PoolState). u.sectors) once) ∙ keeps.sectors;
          one = subst (λ (u : PoolState). IsLogged n w u.first) once logged;
          other = subst (λ (u : PoolState). IsLogged n keeps.second u.second) once keeps.other;
        };
        drops = inl (omega (arith, wide.ranges), refl, first);
      }

  widens_second : (now new : List LeafVdev) (s : PoolState) (keeps : Keeps n pair now s) (w : LeafVdev) → 4096 < total_ranges now → ranges_of keeps.first < ranges_of keeps.second
      → WidensLeaf keeps.second w → new ≡ keeps.first ∷ w ∷ [] → Once now new s keeps
  widens_second now new s keeps w large second wide is =
      let t : PoolState = record s { second = widened s.number s.second } in
      let once : t ≡ fitted_once s = sym (once_second now s keeps large second) in
      let logged : IsLogged n w t.second = subst (λ k. IsLogged n w (widened k s.second)) (sym keeps.number) (widened_leaf n keeps.second w s.second (omega arith) keeps.other wide) in
      record {
        next = record {
          first = keeps.first;
          second = w;
          are = is;
          number = sym (ap (λ (u : PoolState). u.number) once) ∙ keeps.number;
          mirror = sym (ap (λ (u : PoolState). u.mirror) once) ∙ keeps.mirror;
          sectors = sym (ap (λ (u : PoolState). u.sectors) once) ∙ keeps.sectors;
          one = subst (λ (u : PoolState). IsLogged n keeps.first u.first) once keeps.one;
          other = subst (λ (u : PoolState). IsLogged n w u.second) once logged;
        };
        drops = inr (omega (arith, wide.ranges), refl, omega arith);
      }

  other_than : (c m : ℕ) → (not (c == m) && true) ≡ true → (c ≡ m → ⊥)
  other_than c m h e = absurd (false≢true (sym (grind (arith, nat_tests)) ∙ h))

  -- one widening
  widens : (now new : List LeafVdev) (s : PoolState) (keeps : Keeps n pair now s) → 4096 < total_ranges now → WidensFirst (most_ranges now) now new → Once now new s keeps
  widens now new s keeps large w = elim (two_parts keeps.first keeps.second w.leaf w.before w.behind (sym keeps.are ∙ w.was)) [
    | inl here ↦ widens_first now new s keeps w.widened large
        (let a = most_is now s keeps in let b = w.large in let c = ap ranges_of here.1 in omega arith)
        (subst (λ l. WidensLeaf l w.widened) here.1 w.widens)
        (w.is ∙ ap (λ ls. ls ++ w.widened ∷ w.behind) here.0 ∙ ap (λ ls. w.widened ∷ ls) here.2)
    | inr there ↦ widens_second now new s keeps w.widened large
        (let a = most_is now s keeps in let b = w.large in let c = ap ranges_of there.1 in
        let d = other_than (ranges_of keeps.first) (most_ranges now) (sym (ap (none_has (most_ranges now)) there.0) ∙ w.earlier) in omega arith)
        (subst (λ l. WidensLeaf l w.widened) there.1 w.widens)
        (w.is ∙ ap (λ ls. ls ++ w.widened ∷ w.behind) there.0 ∙ ap (λ ls. keeps.first ∷ w.widened ∷ ls) there.2)
  ]

  -- after one widening one log is small, after two both are
  record After (some : List LeafVdev) (s : PoolState) : Type 0 where
    next : Keeps n pair some (fitted_once s)
    few : min (ranges_of next.first) (ranges_of next.second) ≤ 1

  record AfterBoth (some : List LeafVdev) (s : PoolState) : Type 0 where
    next : Keeps n pair some (fitted s)
    few : total_ranges some ≤ 2

  abbrev Stage : List LeafVdev → PoolState → Type 0
  Stage some s = Keeps n pair some s ⊎ (After some s ⊎ AfterBoth some s)

  once_more : (now new : List LeafVdev) (s : PoolState) → Stage now s → 4096 < total_ranges now → WidensFirst (most_ranges now) now new → Stage new s
  once_more now new s (inl keeps) large w =
      let once = widens now new s keeps large w in
      inr (inl (record { next = once.next; few = elim once.drops [ inl a ↦ (let x = a.0 in omega arith) | inr b ↦ (let x = b.0 in omega arith) ] }))
  once_more now new s (inr (inl after)) large w =
      let once = widens now new (fitted_once s) after.next large w in
      let was = total_is now (fitted_once s) after.next in
      let is = total_is new (fitted s) once.next in
      let few = after.few in
      inr (inr (record {
        next = once.next;
        few = elim once.drops [
          | inl a ↦ (let x = a.0 in let y = a.1 in let z = a.2 in omega arith)
          | inr b ↦ (let x = b.0 in let y = b.1 in let z = b.2 in omega arith)
        ];
      }))
  once_more now new s (inr (inr both)) large w = absurd (let few = both.few in omega arith)

  stage : (old new : List LeafVdev) (s : PoolState) → Keeps n pair old s → Widenings old new → Stage new s
  stage old new s keeps none = inl keeps
  stage old new s keeps (more {now = now} before large w) = once_more now new s (stage old now s keeps before) large w

  -- at the end they fit
  at_end : (some : List LeafVdev) (s : PoolState) → Stage some s → total_ranges some ≤ 4096 → Keeps n pair some (fitted s)
  at_end some s (inl keeps) fits =
      let still = once_none some s keeps fits in
      subst (Keeps n pair some) (sym (ap fitted_once still ∙ still)) keeps
  at_end some s (inr (inl after)) fits = subst (Keeps n pair some) (sym (once_none some (fitted_once s) after.next fits)) after.next
  at_end some s (inr (inr both)) fits = both.next

  pub fits : (old new : List LeafVdev) (s : PoolState) → Keeps n pair old s → Widenings old new → total_ranges new ≤ 4096 → Keeps n pair new (fitted s)
  fits old new s keeps widenings few = at_end new s (stage old new s keeps widenings) few

-- lists as long as two leaves
record Two (R : LeafVdev → LeafVdev → Type 0) (some : List LeafVdev) (a b : LeafVdev) : Type 0 where
  first : LeafVdev
  second : LeafVdev
  are : some ≡ first ∷ second ∷ []
  one : R first a
  other : R second b

two_before : (R : LeafVdev → LeafVdev → Type 0) (some : List LeafVdev) (a b : LeafVdev) → AllZip R some (a ∷ b ∷ []) → Two R some a b
two_before R [] a b all = absurd all
two_before R (x ∷ []) a b all = absurd all.1
two_before R (x ∷ (y ∷ [])) a b all = record { first = x; second = y; are = refl; one = all.0; other = all.1.0 }
two_before R (x ∷ (y ∷ (z ∷ some))) a b all = absurd all.1.1

two_behind : (R : LeafVdev → LeafVdev → Type 0) (some : List LeafVdev) (a b : LeafVdev) → AllZip R (a ∷ b ∷ []) some → Two (λ x y. R y x) some a b
two_behind R [] a b all = absurd all
two_behind R (x ∷ []) a b all = absurd all.1
two_behind R (x ∷ (y ∷ [])) a b all = record { first = x; second = y; are = refl; one = all.0; other = all.1.0 }
two_behind R (x ∷ (y ∷ (z ∷ some))) a b all = absurd all.1.1

-- the leaves behind a draw stand for those of the state behind it
pub drawn_keeps : (n : ℕ) (pair : PairState) (copy kept owed new : List LeafVdev) (s : PoolState) → 1 ≤ n → n ≤ 2 ^ 62 → IsLoggedTo n pair.first → IsLoggedTo n pair.second
    → AllZip SameLeaf copy (both pair) → AllZip KeepsLog copy kept → AllZip (Owes n) kept owed → All IsCounted owed → Widenings owed new → total_ranges new ≤ 4096
    → Stands pair s → s.number + 1 ≡ n → Keeps n pair new (drawn s)
drawn_keeps n pair copy kept owed new s first last first_log second_log copies keeps owes counted widenings few stands next =
    let c = two_before SameLeaf copy pair.first pair.second copies in
    let k = two_behind KeepsLog kept c.first c.second (subst (λ ls. AllZip KeepsLog ls kept) c.are keeps) in
    let o = two_behind (Owes n) owed k.first k.second (subst (λ ls. AllZip (Owes n) ls owed) k.are owes) in
    let are_counted : All IsCounted (o.first ∷ o.second ∷ []) = subst (All IsCounted) o.are counted in
    let one_counted = All-head IsCounted o.first (o.second ∷ []) are_counted in
    let other_counted = All-head IsCounted o.second [] (All-tail IsCounted o.first (o.second ∷ []) are_counted) in
    let one = owed_leaf n pair.first c.first k.first o.first s.first c.one k.one o.one first last first_log one_counted stands.first in
    let other = owed_leaf n pair.second c.second k.second o.second s.second c.other k.other o.other first last second_log other_counted stands.second in
    fits n pair owed new (record s { number = s.number + 1; first = owing_too (s.number + 1) s.first; second = owing_too (s.number + 1) s.second })
    (record {
      first = o.first;
      second = o.second;
      are = o.are;
      number = next;
      mirror = stands.mirror;
      sectors = stands.sectors;
      one = subst (λ m. IsLogged n o.first (owing_too m s.first)) (sym next) one;
      other = subst (λ m. IsLogged n o.second (owing_too m s.second)) (sym next) other;
    }) widenings few

-- A draw on a tree: a copy of it with room, in which the number is owed and the logs are made to fit.
pub record IsDraw (n : ℕ) (old copy kept owed new : Top) : Type 0 where
  pub two : HasTwo old
  pub copies : IsCopy copy.mirror old.mirror
  pub copy_sectors : copy.sectors ≡ old.sectors
  pub keeps : AllZip KeepsLog (leaves copy.mirror) (leaves kept.mirror)
  pub kept_built : marks kept.mirror ≡ marks copy.mirror
  pub kept_sectors : kept.sectors ≡ copy.sectors
  pub owes : AllZip (Owes n) (leaves kept.mirror) (leaves owed.mirror)
  pub owed_built : marks owed.mirror ≡ marks kept.mirror
  pub owed_sectors : owed.sectors ≡ kept.sectors
  pub widened : Widenings (leaves owed.mirror) (leaves new.mirror)
  pub small : total_ranges (leaves new.mirror) ≤ 4096
  pub counted : All IsCounted (leaves owed.mirror)
  pub built : marks new.mirror ≡ marks owed.mirror
  pub sectors : new.sectors ≡ owed.sectors

module _ (n : ℕ) (old copy kept owed new : Top) (draw : IsDraw n old copy kept owed new) where
  new_built : marks new.mirror ≡ pair_marks (guid_of old.mirror)
  new_built = draw.built ∙ draw.owed_built ∙ draw.kept_built ∙ draw.copies.built ∙ draw.two.built

  new_keeps : (s : PoolState) → 1 ≤ n → n ≤ 2 ^ 62 → IsLoggedTo n (pair_in old).first → IsLoggedTo n (pair_in old).second → Stands (pair_in old) s → s.number + 1 ≡ n
      → Keeps n (pair_in old) (leaves new.mirror) (drawn s)
  new_keeps s first last first_log second_log stands next =
      drawn_keeps n (pair_in old) (leaves copy.mirror) (leaves kept.mirror) (leaves owed.mirror) (leaves new.mirror) s first last first_log second_log
      (subst (AllZip SameLeaf (leaves copy.mirror)) draw.two.leaves_are draw.copies.leaves) draw.keeps draw.owes draw.counted draw.widened draw.small stands next

  -- it is a mirror of two leaves again
  pub HasTwo-drawn : 1 ≤ n → n ≤ 2 ^ 62 → IsLoggedTo n (pair_in old).first → IsLoggedTo n (pair_in old).second → HasTwo new
  HasTwo-drawn first last first_log second_log =
      let keeps = new_keeps (state_of (pair_in old) (n - 1)) first last first_log second_log (stands_here (pair_in old) (n - 1)) (omega arith) in
      HasTwo-of new keeps.first keeps.second (guid_of old.mirror) keeps.are new_built

  -- which stand for the leaves behind the draw
  pub Stands-drawn : (s : PoolState) → 1 ≤ n → n ≤ 2 ^ 62 → IsLoggedTo n (pair_in old).first → IsLoggedTo n (pair_in old).second → Stands (pair_in old) s → s.number + 1 ≡ n
      → Stands (pair_in new) (drawn s)
  Stands-drawn s first last first_log second_log stands next =
      let keeps = new_keeps s first last first_log second_log stands next in
      subst (λ pair. Stands pair (drawn s)) (sym (pair_of new keeps.first keeps.second (guid_of old.mirror) keeps.are new_built))
      (record {
        mirror = keeps.mirror;
        sectors = keeps.sectors ∙ sym (draw.sectors ∙ draw.owed_sectors ∙ draw.kept_sectors ∙ draw.copy_sectors);
        first = keeps.one.is;
        second = keeps.other.is;
      })
