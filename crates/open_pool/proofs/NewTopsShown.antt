-- What a state shows of new tops: their leaves, their numbers and children, and their room.
use Rattle.std.proofs.Common.{◌≡◌, ℕ, zero, suc, ◌+◌, ◌-◌, ◌<◌, cond, List, [], ◌∷◌, ◌++◌, length, map, take, Some, None, refl, sym, ap, ◌∙◌, arith}
use mathlib.Core.Path.{fun_ext}
use Rattle.std.specs.Prelude.{slice_index}
use Rattle.std.proofs.Math.Seq.{take-length}
use Rattle.std.proofs.lemmas.Bool.{eq-eqb, ne_eqb}
use Rattle.std.proofs.lemmas.List.{length-map}
use Rattle.mp_base.specs.declared.number.Guid.{Guid}
use Rattle.group_set.specs.Groups.{holds}
use Rattle.vdev_tree.specs.Tree.{leaves}
use Rattle.vdev_tree.specs.declared.top.Top.{Top}
use Rattle.vdev_tree.specs.declared.vdev.LeafVdev.{LeafVdev}
use Rattle.pool_codec.specs.Tops.{room_of, number_of, children_of}
use Rattle.pool_codec.specs.Vdevs.{a_child, nodes, children_in, mirror_number, mirror_children}
use Rattle.pool_config.specs.Seen.{leaf_vdev, leaf_seen, mirror_vdevs}
use Rattle.pool_moves.specs.StampRow.{NewMember, NewLeaf, top_leaves, leaves_from as new_from, mirror_from, new_leaves, new_top_number, least_with, least_room as room_under, room_or_none, new_room, children_under, new_leaf_seen}
use Rattle.pool_moves.specs.Trees.{Child, Plain, Single}
use Rattle.txg_history.specs.Groups.{no_log}
use Rattle.open_pool.specs.Creating.{IsMade, AreMade, IsNewTop, AreNewTops, least_room}
use Rattle.open_pool.specs.Parts.{all_parts}
use Rattle.open_pool.specs.State.{leaf_of, leaves_from, leaves_under, vdevs_in, sectors_in}

-- The leaves.
abbrev new_leaf : (next top : ℕ) → NewMember → NewLeaf
new_leaf next top m = record { name = m.name; dev = m.dev; guid = record { 0 = next }; top = top }

leaf_shown : (next top : ℕ) (m : NewMember) (leaf : LeafVdev) → IsMade (record { 0 = next }) m leaf
    → leaf_of [] top leaf ≡ new_leaf_seen (new_leaf next top m)
leaf_shown next top m leaf made =
    let guid = made.guid_is in
    let name = made.name in
    let dev = made.dev in
    let state = made.state in
    let marked = made.marked in
    let temporary = made.temporary in
    let counts = made.counts in
    let owes : holds leaf.log ≡ no_log 0 = fun_ext made.log in
    let settled : holds leaf.settled ≡ no_log 0 = fun_ext made.settled in
    cc

under_shown : (next top : ℕ) (members : List NewMember) (under : List LeafVdev) → AreMade next members under
    → map (leaf_of [] top) under ≡ map new_leaf_seen (top_leaves next top members)
under_shown next top [] [] made = refl
under_shown next top [] (leaf ∷ under) made = absurd made
under_shown next top (m ∷ members) [] made = absurd made
under_shown next top (m ∷ members) (leaf ∷ under) made =
    ap (λ l. l ∷ map (leaf_of [] top) under) (leaf_shown next top m leaf made.0)
    ∙ ap (λ ls. new_leaf_seen (new_leaf next top m) ∷ ls) (under_shown (suc next) top members under made.1)

mapped : (xs ys : List NewLeaf) → map new_leaf_seen (xs ++ ys) ≡ map new_leaf_seen xs ++ map new_leaf_seen ys
mapped [] ys = refl
mapped (x ∷ xs) ys = ap (λ ls. new_leaf_seen x ∷ ls) (mapped xs ys)

module _ (size : ℕ → ℕ) where
  pub leaves_shown : (next top : ℕ) (asked : List (List NewMember)) (trees : List Top) → AreNewTops size next asked trees
      → leaves_from [] top (leaves_under (all_parts trees)) ≡ map new_leaf_seen (new_from next top asked)
  leaves_shown next top [] [] are = refl
  leaves_shown next top [] (tree ∷ trees) are = absurd are
  leaves_shown next top (members ∷ asked) [] are = absurd are
  leaves_shown next top (members ∷ asked) (tree ∷ trees) are =
      ap (λ ls. ls ++ leaves_from [] (suc top) (leaves_under (all_parts trees)))
      (under_shown (suc next) top members (leaves tree.mirror) are.0.mirror.made)
      ∙ ap (λ ls. map new_leaf_seen (top_leaves (suc next) top members) ++ ls)
      (leaves_shown (suc next + length members) (suc top) asked trees are.1)
      ∙ sym (mapped (top_leaves (suc next) top members) (new_from (suc next + length members) (suc top) asked))

  -- The numbers of the mirrors.
  mirror_is : (next : ℕ) (members : List NewMember) (tree : Top) → IsNewTop size next members tree
      → mirror_number (nodes (mirror_vdevs tree)) ≡ record { 0 = next }
  unfolding nodes
  mirror_is next members tree is = ap (λ vdevs. mirror_number (nodes vdevs)) is.mirror.vdevs

  numbers_at : (next : ℕ) (asked : List (List NewMember)) (trees : List Top) → AreNewTops size next asked trees → (i : ℕ)
      → number_of (vdevs_in (all_parts trees)) (suc i) ≡ mirror_from next asked i
  numbers_at next [] [] are i = refl
  numbers_at next [] (tree ∷ trees) are i = absurd are
  numbers_at next (members ∷ asked) [] are i = absurd are
  numbers_at next (members ∷ asked) (tree ∷ trees) are zero = mirror_is next members tree are.0
  numbers_at next (members ∷ asked) (tree ∷ trees) are (suc i) = numbers_at (suc next + length members) asked trees are.1 i

  numbers_along : (asked : List (List NewMember)) (trees : List Top) → AreNewTops size 1 asked trees → (i : ℕ)
      → number_of (vdevs_in (all_parts trees)) i ≡ new_top_number asked i
  numbers_along [] [] are zero = refl
  numbers_along [] (tree ∷ trees) are zero = refl
  numbers_along (members ∷ asked) [] are zero = refl
  numbers_along (members ∷ asked) (tree ∷ trees) are zero = refl
  numbers_along asked trees are (suc i) = numbers_at 1 asked trees are i

  pub numbers_shown : (asked : List (List NewMember)) (trees : List Top) → AreNewTops size 1 asked trees
      → number_of (vdevs_in (all_parts trees)) ≡ new_top_number asked
  numbers_shown asked trees are = fun_ext (numbers_along asked trees are)

  -- Their children.
  abbrev child_of : LeafVdev → Child
  child_of leaf = Plain (Single leaf.guid)

  leaf_nodes : (under : List LeafVdev) → nodes (map leaf_vdev (map leaf_seen under)) ≡ map (λ leaf. a_child (child_of leaf)) under
  unfolding nodes
  leaf_nodes [] = refl
  leaf_nodes (leaf ∷ under) = ap (λ ns. a_child (child_of leaf) ∷ ns) (leaf_nodes under)

  nodes_children : (under : List LeafVdev) → children_in (map (λ leaf. a_child (child_of leaf)) under) ≡ map child_of under
  nodes_children [] = refl
  nodes_children (leaf ∷ under) = ap (λ cs. child_of leaf ∷ cs) (nodes_children under)

  as_many : (next : ℕ) (members : List NewMember) (under : List LeafVdev) → AreMade next members under → length members ≡ length under
  as_many next [] [] made = refl
  as_many next [] (leaf ∷ under) made = absurd made
  as_many next (m ∷ members) [] made = absurd made
  as_many next (m ∷ members) (leaf ∷ under) made = ap suc (as_many (suc next) members under made.1)

  all_taken : (under : List LeafVdev) (n : ℕ) → n ≡ length under
      → take n (map (λ leaf. a_child (child_of leaf)) under) ≡ map (λ leaf. a_child (child_of leaf)) under
  all_taken under n is =
      ap (λ k. take k (map (λ leaf. a_child (child_of leaf)) under)) (is ∙ sym (length-map under (λ leaf. a_child (child_of leaf))))
      ∙ take-length (map (λ leaf. a_child (child_of leaf)) under)

  mirror_has : (next : ℕ) (members : List NewMember) (tree : Top) → IsNewTop size next members tree
      → mirror_children (nodes (mirror_vdevs tree)) ≡ map child_of (leaves tree.mirror)
  unfolding nodes
  mirror_has next members tree is =
      let under = leaves tree.mirror in
      ap (λ vdevs. mirror_children (nodes vdevs)) is.mirror.vdevs
      ∙ ap (λ ns. children_in (take (length members) ns)) (leaf_nodes under)
      ∙ ap children_in (all_taken under (length members) (as_many (suc next) members under is.mirror.made))
      ∙ nodes_children under

  skip_under : (n first i : ℕ) (ms : List NewMember) (rest : List NewLeaf) → (first ≡ i → ⊥)
      → children_under (top_leaves n first ms ++ rest) i ≡ children_under rest i
  skip_under n first i [] rest other = refl
  skip_under n first i (m ∷ ms) rest other =
      ap (λ b. cond b (Plain (Single (record { 0 = n })) ∷ children_under (top_leaves (suc n) first ms ++ rest) i)
      (children_under (top_leaves (suc n) first ms ++ rest) i)) (ne_eqb first i other)
      ∙ skip_under (suc n) first i ms rest other

  none_under : (next first i : ℕ) (asked : List (List NewMember)) → i < first → children_under (new_from next first asked) i ≡ []
  none_under next first i [] below = refl
  none_under next first i (members ∷ asked) below =
      skip_under (suc next) first i members (new_from (suc next + length members) (suc first) asked) (λ same. omega (arith, same, below))
      ∙ none_under (suc next + length members) (suc first) i asked (omega (arith, below))

  own_under : (n first : ℕ) (ms : List NewMember) (under : List LeafVdev) (rest : List NewLeaf) → AreMade n ms under
      → children_under rest first ≡ [] → children_under (top_leaves n first ms ++ rest) first ≡ map child_of under
  own_under n first [] [] rest made none = none
  own_under n first [] (leaf ∷ under) rest made none = absurd made
  own_under n first (m ∷ ms) [] rest made none = absurd made
  own_under n first (m ∷ ms) (leaf ∷ under) rest made none =
      ap (λ b. cond b (Plain (Single (record { 0 = n })) ∷ children_under (top_leaves (suc n) first ms ++ rest) first)
      (children_under (top_leaves (suc n) first ms ++ rest) first)) (eq-eqb first first refl)
      ∙ ap (λ cs. Plain (Single (record { 0 = n })) ∷ cs) (own_under (suc n) first ms under rest made.1 none)
      ∙ ap (λ (g : Guid). Plain (Single g) ∷ map child_of under) (sym made.0.guid_is)

  children_at : (next first : ℕ) (asked : List (List NewMember)) (trees : List Top) → AreNewTops size next asked trees → (i : ℕ)
      → children_of (vdevs_in (all_parts trees)) (suc i) ≡ children_under (new_from next first asked) (first + i)
  children_at next first [] [] are i = refl
  children_at next first [] (tree ∷ trees) are i = absurd are
  children_at next first (members ∷ asked) [] are i = absurd are
  children_at next first (members ∷ asked) (tree ∷ trees) are zero =
      let rest = new_from (suc next + length members) (suc first) asked in
      mirror_has next members tree are.0
      ∙ sym (own_under (suc next) first members (leaves tree.mirror) rest are.0.mirror.made
      (none_under (suc next + length members) (suc first) first asked (omega arith)))
      ∙ ap (children_under (top_leaves (suc next) first members ++ rest)) (let none : first ≡ first + 0 = omega arith in none)
  children_at next first (members ∷ asked) (tree ∷ trees) are (suc i) =
      let rest = new_from (suc next + length members) (suc first) asked in
      children_at (suc next + length members) (suc first) asked trees are.1 i
      ∙ ap (children_under rest) (let one : suc first + i ≡ first + suc i = omega arith in one)
      ∙ sym (skip_under (suc next) first (first + suc i) members rest (λ same. omega (arith, same)))

  children_along : (asked : List (List NewMember)) (trees : List Top) → AreNewTops size 1 asked trees → (i : ℕ)
      → children_of (vdevs_in (all_parts trees)) i ≡ children_under (new_leaves asked) i
  children_along asked trees are zero = none_yet trees ∙ sym (none_under 1 1 0 asked (omega arith))
    where
      none_yet : (trees : List Top) → children_of (vdevs_in (all_parts trees)) 0 ≡ []
      none_yet [] = refl
      none_yet (tree ∷ trees) = refl
  children_along asked trees are (suc i) =
      children_at 1 1 asked trees are i ∙ ap (children_under (new_leaves asked)) (let one : 1 + i ≡ suc i = omega arith in one)

  pub children_shown : (asked : List (List NewMember)) (trees : List Top) → AreNewTops size 1 asked trees
      → children_of (vdevs_in (all_parts trees)) ≡ children_under (new_leaves asked)
  children_shown asked trees are = fun_ext (children_along asked trees are)

  -- Their room.
  skip_room : (n first i : ℕ) (ms : List NewMember) (rest : List NewLeaf) → (first ≡ i → ⊥)
      → room_under size (top_leaves n first ms ++ rest) i ≡ room_under size rest i
  skip_room n first i [] rest other = refl
  skip_room n first i (m ∷ ms) rest other =
      ap (λ b. cond b (Some (least_with (size m.dev - 256) (room_under size (top_leaves (suc n) first ms ++ rest) i)))
      (room_under size (top_leaves (suc n) first ms ++ rest) i)) (ne_eqb first i other)
      ∙ skip_room (suc n) first i ms rest other

  no_room : (next first i : ℕ) (asked : List (List NewMember)) → i < first → room_under size (new_from next first asked) i ≡ None
  no_room next first i [] below = refl
  no_room next first i (members ∷ asked) below =
      skip_room (suc next) first i members (new_from (suc next + length members) (suc first) asked) (λ same. omega (arith, same, below))
      ∙ no_room (suc next + length members) (suc first) i asked (omega (arith, below))

  own_room : (n first : ℕ) (ms : List NewMember) (rest : List NewLeaf) → room_under size rest first ≡ None
      → room_under size (top_leaves n first ms ++ rest) first ≡ least_room size ms
  own_room n first [] rest none = none
  own_room n first (m ∷ ms) rest none =
      ap (λ b. cond b (Some (least_with (size m.dev - 256) (room_under size (top_leaves (suc n) first ms ++ rest) first)))
      (room_under size (top_leaves (suc n) first ms ++ rest) first)) (eq-eqb first first refl)
      ∙ ap (λ o. Some (least_with (size m.dev - 256) o)) (own_room (suc n) first ms rest none)

  room_at : (next first : ℕ) (asked : List (List NewMember)) (trees : List Top) → AreNewTops size next asked trees → (i : ℕ)
      → slice_index (sectors_in (all_parts trees)) i ≡ room_or_none (room_under size (new_from next first asked) (first + i))
  room_at next first [] [] are zero = refl
  room_at next first [] [] are (suc i) = refl
  room_at next first [] (tree ∷ trees) are i = absurd are
  room_at next first (members ∷ asked) [] are i = absurd are
  room_at next first (members ∷ asked) (tree ∷ trees) are zero =
      let rest = new_from (suc next + length members) (suc first) asked in
      ap room_or_none (sym are.0.sectors ∙ sym (own_room (suc next) first members rest (no_room (suc next + length members) (suc first) first asked (omega arith)))
      ∙ ap (room_under size (top_leaves (suc next) first members ++ rest)) (let none : first ≡ first + 0 = omega arith in none))
  room_at next first (members ∷ asked) (tree ∷ trees) are (suc i) =
      let rest = new_from (suc next + length members) (suc first) asked in
      room_at (suc next + length members) (suc first) asked trees are.1 i
      ∙ ap room_or_none (ap (room_under size rest) (let one : suc first + i ≡ first + suc i = omega arith in one)
      ∙ sym (skip_room (suc next) first (first + suc i) members rest (λ same. omega (arith, same))))

  room_along : (asked : List (List NewMember)) (trees : List Top) → AreNewTops size 1 asked trees → (i : ℕ)
      → room_of (sectors_in (all_parts trees)) i ≡ new_room size (new_leaves asked) i
  room_along asked trees are zero = sym (ap room_or_none (no_room 1 1 0 asked (omega arith)))
  room_along asked trees are (suc i) =
      room_at 1 1 asked trees are i ∙ ap (new_room size (new_leaves asked)) (let one : 1 + i ≡ suc i = omega arith in one)

  pub room_shown : (asked : List (List NewMember)) (trees : List Top) → AreNewTops size 1 asked trees
      → room_of (sectors_in (all_parts trees)) ≡ new_room size (new_leaves asked)
  room_shown asked trees are = fun_ext (room_along asked trees are)
