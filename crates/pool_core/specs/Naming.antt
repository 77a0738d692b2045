-- A leaf by its member number.
use Rattle.std.specs.Prelude.{List, [], ◌∷◌, ◌==◌, Option, Some, None, if◌then◌else◌}
use Rattle.mp_base.specs.declared.number.Guid.{Guid}
use Rattle.pool_core.specs.State.{LeafState}

abbrev pub leaf_of : List LeafState → Guid → Option LeafState
leaf_of [] member = None
leaf_of (leaf ∷ leaves) member = if leaf.member.0 == member.0 then Some leaf else leaf_of leaves member
