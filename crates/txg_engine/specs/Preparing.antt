-- What a freeze has taken before anything changes.
use Rattle.std.specs.Prelude.{◌≡◌, ◌+◌, ◌≤◌, None, List, [], length, map, All}
use Rattle.std.specs.Vec.{vec_capacity}
use Rattle.block_map.specs.Map.{Map}
use Rattle.vdev_tree.specs.declared.top.Top.{Top}
use Rattle.txg_engine.specs.declared.prepare.Prepared.{Prepared}
use Rattle.txg_engine.specs.declared.write.Write.{Write}
use Rattle.txg_engine.specs.Boards.{seats_of}
use Rattle.txg_engine.specs.Freezing.{addr_of, page_keys}
use Rattle.txg_engine.specs.Refusing.{need, unwritable}

-- The pages of the group with a buffer for each, its board, and room for its keys and for the open group that it may become.
pub record IsPrepared (writes : List Write) (old : Map) (tops : List Top) (prepared : Prepared) : Type 0 where
  pub pages : prepared.pages.items ≡ page_keys (map addr_of writes)
  pub buffers : length prepared.buffers.items ≡ length prepared.pages.items
  pub sizes : All (λ buffer. length buffer.items ≡ 4096) prepared.buffers.items
  pub board : prepared.board ≡ seats_of 0 tops
  pub everywhere : unwritable tops ≡ None
  pub enough : need writes ≤ old.count
  pub no_items : prepared.items.items ≡ []
  pub items_room : need writes ≤ vec_capacity prepared.items
  pub no_writes : prepared.back.items ≡ []
  pub room : need writes + 4096 ≤ vec_capacity prepared.back
