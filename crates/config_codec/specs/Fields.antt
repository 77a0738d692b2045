-- What a configuration says, apart from where it lies in memory.
use Rattle.std.specs.Prelude.{ℕ, List, Option}
use Rattle.mp_base.specs.declared.number.Group.{Group}
use Rattle.mp_base.specs.declared.number.Guid.{Guid}
use Rattle.config_codec.specs.declared.config.Pointer.{Pointer}
use Rattle.config_codec.specs.declared.config.LeafConfig.{LeafConfig}
use Rattle.config_codec.specs.declared.config.Config.{Config}
use Rattle.config_codec.specs.declared.parts.LeafParts.{LeafParts}
use Rattle.config_codec.specs.declared.parts.Parts.{Parts}

pub record Fields : Type 0 where
  pub pool : Guid
  pub name : List ℕ
  pub blocks : ℕ
  pub number : Group
  pub next_member : ℕ
  pub pointers : List (Option Pointer)
  pub sectors : ℕ
  pub mirror : Guid
  pub first : LeafConfig
  pub second : LeafConfig

-- what a kept configuration says
abbrev pub config_fields : Config → Fields
config_fields c = record {
  pool = c.pool;
  name = c.name;
  blocks = c.blocks;
  number = c.number;
  next_member = c.next_member;
  pointers = c.pointers.items;
  sectors = c.sectors;
  mirror = c.mirror;
  first = c.first;
  second = c.second;
}

abbrev pub parts_leaf : LeafParts → LeafConfig
parts_leaf leaf = record {
  member = leaf.member;
  name = leaf.name.now;
  kept = leaf.kept;
  marked = leaf.marked;
  log = leaf.log.now;
}

-- what borrowed parts say
abbrev pub parts_fields : Parts → Fields
parts_fields c = record {
  pool = c.pool;
  name = c.name.now;
  blocks = c.blocks;
  number = c.number;
  next_member = c.next_member;
  pointers = c.pointers.now;
  sectors = c.sectors;
  mirror = c.mirror;
  first = parts_leaf c.first;
  second = parts_leaf c.second;
}
