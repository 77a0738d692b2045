-- What a part of a configuration is read as.
use Rattle.std.specs.Prelude.{◌≡◌, ℕ, true, List, [], ◌∷◌, map, All}
use Rattle.std.specs.List.{list_all, flat_map}
use Rattle.mp_base.specs.declared.number.Group.{Group}
use Rattle.vdev_tree.specs.declared.vdev.LeafVdev.{LeafVdev}
use Rattle.vdev_tree.specs.declared.vdev.Vdev.{Vdev}
use Rattle.vdev_tree.specs.declared.top.Top.{Top}
use Rattle.vdev_tree.specs.Tree.{leaves}
use Rattle.pool_config.specs.Seen.{LeafSeen, VdevSeen, leaf_vdev, TopSeen, leaf_seen, vdevs_of, top_seen, top_vdevs}
use Rattle.pool_config.specs.Seen.{top_leaves, config_seen, all_vdevs, IsRecorded}
use Rattle.pool_config.specs.Members.{Gathered, nothing, gathered}
use Rattle.pool_config.specs.Reading.{Read, seen_in}
use Rattle.pool_config.specs.Validity.{is_vdev_of, is_top_of, are_parts}
use Rattle.pool_config.specs.declared.decoding.Unchecked.{Unchecked}

-- A tree that was read: it is the one that stands there, its leaves may stand in a record of this number and are as
-- a record keeps them, and its vdevs are gathered.
pub record IsTakenTree (number : Group) (there : Read (List VdevSeen)) (behind : List ℕ) (before after : Gathered)
    (tree : Vdev) : Type 0 where
  pub vdevs : vdevs_of tree ≡ there.value
  pub rest : behind ≡ there.rest
  pub gathered : after ≡ gathered before there.value
  pub stand : list_all (is_vdev_of number) there.value ≡ true
  pub recorded : All IsRecorded (leaves tree)

pub record IsTakenLeaf (number : Group) (there : Read LeafSeen) (behind : List ℕ) (before after : Gathered)
    (taken : LeafVdev) : Type 0 where
  pub leaf : leaf_seen taken ≡ there.value
  pub rest : behind ≡ there.rest
  pub gathered : after ≡ gathered before (leaf_vdev there.value ∷ [])
  pub stands : is_vdev_of number (leaf_vdev there.value) ≡ true
  pub recorded : IsRecorded taken

pub record IsTakenTop (number : Group) (there : Read TopSeen) (behind : List ℕ) (before after : Gathered)
    (taken : Top) : Type 0 where
  pub top : top_seen taken ≡ there.value
  pub rest : behind ≡ there.rest
  pub gathered : after ≡ gathered before there.value.vdevs
  pub stands : is_top_of number there.value ≡ true
  pub recorded : All IsRecorded (top_leaves taken)

pub record AreTakenTops (number : Group) (there : Read (List TopSeen)) (behind : List ℕ) (before after : Gathered)
    (taken : List Top) : Type 0 where
  pub tops : map top_seen taken ≡ there.value
  pub rest : behind ≡ there.rest
  pub gathered : after ≡ gathered before (flat_map top_vdevs there.value)
  pub stand : list_all (is_top_of number) there.value ≡ true
  pub recorded : All IsRecorded (flat_map top_leaves taken)

-- what was read of some bytes: their fields, with parts that are valid one by one
pub record IsUnchecked (bytes : List ℕ) (read : Unchecked) : Type 0 where
  pub seen : config_seen read.config ≡ seen_in bytes
  pub parts : are_parts (seen_in bytes) ≡ true
  pub members : read.members ≡ gathered nothing (all_vdevs (config_seen read.config))
  pub recorded : All IsRecorded (flat_map top_leaves read.config.tops.items)
