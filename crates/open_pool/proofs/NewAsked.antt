-- What is asked for of a new pool, as its code has it, and what the tops made of it are.
use Rattle.std.proofs.Common.{◌≡◌, ℕ, suc, ◌+◌, ◌-◌, ◌≤◌, List, [], ◌∷◌, length, min, Option, Some, None, refl, sym, ◌∙◌, subst, arith}
use Rattle.std.specs.Global.{Vec}
use Rattle.std.specs.Prelude.{All}
use Rattle.std.specs.List.{AllByRecursion}
use Rattle.std.proofs.lemmas.List.{length-map}
use Rattle.std.proofs.lemmas.List.Elements.{All-from_recursion, recursion_from_All}
use Rattle.block_map.specs.Places.{AreTops}
use Rattle.vdev_tree.specs.Tree.{leaves}
use Rattle.vdev_tree.specs.declared.top.Top.{Top}
use Rattle.vdev_tree.specs.declared.vdev.LeafVdev.{LeafVdev}
use Rattle.dtl_rules.specs.Widening.{leaves_of, sectors_of}
use Rattle.pool_config.specs.Validity.{IsTop}
use Rattle.pool_moves.specs.StampRow.{NewMember, NewLeaf, leaves_from, least_with, new_leaves}
use Rattle.open_pool.specs.declared.new_tops.NewLeaf as code
use Rattle.open_pool.specs.Creating.{AreMade, AreNewTops, IsAsked, least_room, members_in, members_of, member_of}
use Rattle.open_pool.specs.Here.{AreHere, IsHere}
use Rattle.open_pool.specs.Parts.{TopParts, all_parts}
use Rattle.open_pool.proofs.NewLeavesMade as made
use Rattle.open_pool.proofs.NewRecord.{as_many_tops, each_under, sized}
use Rattle.open_pool.proofs.RecordStill.{seen_tops}

-- Each top has 1 to 8 leaves.
few_along : (tops : List (Vec code.NewLeaf)) → AllByRecursion (λ (ms : List NewMember). (1 ≤ length ms) × (length ms ≤ 8)) (members_of tops)
    → AllByRecursion (λ (ls : Vec code.NewLeaf). (1 ≤ length ls.items) × (length ls.items ≤ 8)) tops
few_along [] all = tt
few_along (ls ∷ tops) all =
    let long = length-map ls.items member_of in
    let some = all.0.0 in
    let few = all.0.1 in ((omega (arith, some, long), omega (arith, few, long)), few_along tops all.1)

pub few_asked : (tops : List (Vec code.NewLeaf)) → AllByRecursion (λ (ms : List NewMember). (1 ≤ length ms) × (length ms ≤ 8)) (members_of tops)
    → All (λ (ls : Vec code.NewLeaf). (1 ≤ length ls.items) × (length ls.items ≤ 8)) tops
few_asked tops all = All-from_recursion (λ (ls : Vec code.NewLeaf). (1 ≤ length ls.items) × (length ls.items ≤ 8)) tops (few_along tops all)

module _ (size : ℕ → ℕ) where
  -- Each leaf's device has room for the labels.
  abbrev IsBig : code.NewLeaf → Type 0
  IsBig leaf = 256 ≤ size leaf.dev

  big_in : (ls : List code.NewLeaf) → AllByRecursion (λ (m : NewMember). 320 ≤ size m.dev) (members_in ls) → AllByRecursion IsBig ls
  big_in [] all = tt
  big_in (leaf ∷ ls) all = (let big = all.0 in omega (arith, big), big_in ls all.1)

  big_along : (next top : ℕ) (tops : List (Vec code.NewLeaf)) → AllByRecursion (λ (leaf : NewLeaf). 320 ≤ size leaf.dev) (leaves_from next top (members_of tops))
      → AllByRecursion (λ (ls : Vec code.NewLeaf). All IsBig ls.items) tops
  big_along next top [] all = tt
  big_along next top (ls ∷ tops) all =
      let both = each_under size (suc next) top (λ n. 320 ≤ n) (members_in ls.items) (leaves_from (suc next + length (members_in ls.items)) (suc top) (members_of tops)) all in
      (All-from_recursion IsBig ls.items (big_in ls.items both.0), big_along (suc next + length (members_in ls.items)) (suc top) tops both.1)

  pub big_asked : (tops : List (Vec code.NewLeaf)) → AllByRecursion (λ (leaf : NewLeaf). 320 ≤ size leaf.dev) (new_leaves (members_of tops))
      → All (λ (ls : Vec code.NewLeaf). All IsBig ls.items) tops
  big_asked tops all = All-from_recursion (λ (ls : Vec code.NewLeaf). All IsBig ls.items) tops (big_along 1 1 tops all)

  -- The tops are such as a map takes.
  sizes_of : (trees : List Top) → AllByRecursion IsTop (seen_tops trees) → AllByRecursion (λ s. s ≤ 1048320) (sectors_of trees)
  sizes_of [] all = tt
  sizes_of (tree ∷ trees) all = (all.0.sectors.1, sizes_of trees all.1)

  pub tops_are : (blocks : ℕ) (asked : List (List NewMember)) (trees : List Top) → IsAsked size blocks asked → AreNewTops size 1 asked trees
      → AreTops (sectors_of trees)
  tops_are blocks asked trees is are =
      let many = as_many_tops size 1 asked trees are in
      let long = length-map trees (λ (tree : Top). tree.sectors) in
      let some = is.some in
      let few = is.is_new.few_tops in
      record {
        some = omega (arith, many, long, some);
        most = omega (arith, many, long, few);
        sizes = All-from_recursion (λ s. s ≤ 1048320) (sectors_of trees)
            (sizes_of trees (sized size 1 1 asked trees are is.is_new.big (recursion_from_All (λ (leaf : NewLeaf). size leaf.dev ≤ 1048576) (new_leaves asked) is.short)));
      }

  pub few_tops : (blocks : ℕ) (asked : List (List NewMember)) (trees : List Top) → IsAsked size blocks asked → AreNewTops size 1 asked trees → length trees ≤ 8
  few_tops blocks asked trees is are = let many = as_many_tops size 1 asked trees are in let few = is.is_new.few_tops in omega (arith, many, few)

  pub few_leaves : (blocks : ℕ) (asked : List (List NewMember)) (trees : List Top) → IsAsked size blocks asked → AreNewTops size 1 asked trees
      → length (leaves_of trees) ≤ 32
  few_leaves blocks asked trees is are =
      let many = made.as_many (new_leaves asked) (leaves_of trees) (made.trees_made size 1 1 asked trees are) in
      let few = is.is_new.few_leaves in omega (arith, many, few)

  -- The devices are here.
  least_by : (m : NewMember) (n : ℕ) (o : Option ℕ) → Some (least_with (size m.dev - 256) o) ≡ Some n → n ≤ size m.dev - 256
  least_by m n None is = (let same : size m.dev - 256 ≡ n = cc in omega (arith, same))
  least_by m n (Some k) is = (let same : min (size m.dev - 256) k ≡ n = cc in omega (arith, same))

  least_more : (m : NewMember) (n : ℕ) (o : Option ℕ) (k : ℕ) → o ≡ Some k → Some (least_with (size m.dev - 256) o) ≡ Some n → n ≤ k
  least_more m n None k is of = absurd (let no : None ≡ Some k = is in cc)
  least_more m n (Some j) k is of = (let same : min (size m.dev - 256) j ≡ n = cc in let one : j ≡ k = cc in omega (arith, same, one))

  -- within the room of each
  abbrev HasRoom : ℕ → NewMember → Type 0
  HasRoom n m = n + 256 ≤ size m.dev

  room_less : (n k : ℕ) (ms : List NewMember) → n ≤ k → AllByRecursion (HasRoom k) ms → AllByRecursion (HasRoom n) ms
  room_less n k [] le all = tt
  room_less n k (m ∷ ms) le all = (let room = all.0 in omega (arith, le, room), room_less n k ms le all.1)

  room_of_all : (ms : List NewMember) (n : ℕ) → AllByRecursion (λ (m : NewMember). 320 ≤ size m.dev) ms → least_room size ms ≡ Some n
      → AllByRecursion (HasRoom n) ms
  room_of_all [] n big is = tt
  room_of_all (m ∷ ms) n big is = (
    (let least = least_by m n (least_room size ms) is in let large = big.0 in omega (arith, least, large)),
    by (least_room size ms) refl (λ k some. room_of_all ms k big.1 some),
  )
    where
      by : (o : Option ℕ) → least_room size ms ≡ o → ((k : ℕ) → least_room size ms ≡ Some k → AllByRecursion (HasRoom k) ms) → AllByRecursion (HasRoom n) ms
      by None none rest = none_there ms none
        where
          none_there : (ls : List NewMember) → least_room size ls ≡ None → AllByRecursion (HasRoom n) ls
          none_there [] e = tt
          none_there (x ∷ ls) e = absurd (let no : Some (least_with (size x.dev - 256) (least_room size ls)) ≡ None = e in cc)
      by (Some k) some rest = room_less n k ms (least_more m n (least_room size ms) k some is) (rest k some)

  under_here : (next : ℕ) (members : List NewMember) (under : List LeafVdev) (sectors : ℕ) → AreMade next members under
      → AllByRecursion (HasRoom sectors) members → AllByRecursion (IsHere size sectors) under
  under_here next [] [] sectors are room = tt
  under_here next [] (leaf ∷ under) sectors are room = absurd are
  under_here next (m ∷ members) [] sectors are room = absurd are
  under_here next (m ∷ members) (leaf ∷ under) sectors are room = (
    (λ d up is. subst (λ n. sectors + 256 ≤ size n) (let same : m.dev ≡ d = (let both : Some m.dev ≡ Some d = sym are.0.dev ∙ is in cc) in same) room.0),
    under_here (suc next) members under sectors are.1 room.1,
  )

  here_along : (next top : ℕ) (asked : List (List NewMember)) (trees : List Top) → AreNewTops size next asked trees
      → AllByRecursion (λ (leaf : NewLeaf). 320 ≤ size leaf.dev) (leaves_from next top asked)
      → AllByRecursion (λ (t : TopParts). All (IsHere size t.sectors) t.leaves) (all_parts trees)
  here_along next top [] [] are big = tt
  here_along next top [] (tree ∷ trees) are big = absurd are
  here_along next top (members ∷ asked) [] are big = absurd are
  here_along next top (members ∷ asked) (tree ∷ trees) are big =
      let both = each_under size (suc next) top (λ n. 320 ≤ n) members (leaves_from (suc next + length members) (suc top) asked) big in (
        All-from_recursion (IsHere size tree.sectors) (leaves tree.mirror)
            (under_here (suc next) members (leaves tree.mirror) tree.sectors are.0.mirror.made (room_of_all members tree.sectors both.0 are.0.sectors)),
        here_along (suc next + length members) (suc top) asked trees are.1 both.1,
      )

  pub here_asked : (blocks : ℕ) (asked : List (List NewMember)) (trees : List Top) → IsAsked size blocks asked → AreNewTops size 1 asked trees
      → AreHere size (all_parts trees)
  here_asked blocks asked trees is are =
      All-from_recursion (λ (t : TopParts). All (IsHere size t.sectors) t.leaves) (all_parts trees) (here_along 1 1 asked trees are is.is_new.big)
