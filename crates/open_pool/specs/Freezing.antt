-- What a freeze answers, what it makes of the parts of an open pool, and what holds of a group that was just frozen.
use Rattle.std.specs.Prelude.{◌≡◌, ℕ, ◌+◌, ◌≤◌, List, [], All, length, Result, Ok, Err}
use Rattle.std.specs.List.{AllZip}
use Rattle.mp_base.specs.declared.number.Group.{Group}
use Rattle.mp_base.specs.declared.place.Key.{Key}
use Rattle.block_map.specs.Map.{Map, pointer_at}
use Rattle.block_map.specs.Pointers.{IsInForm, IsPointer}
use Rattle.vdev_tree.specs.declared.top.Top.{Top}
use Rattle.dtl_rules.specs.Widening.{leaves_of, marks_of, sectors_of}
use Rattle.txg_engine.specs.declared.freezing.FreezeFault as engine
use Rattle.txg_engine.specs.declared.freezing.FreezeFault.TheVariants as engine_fault
use Rattle.txg_engine.specs.declared.item.Item.{Item}
use Rattle.txg_engine.specs.Boards.{seats_of}
use Rattle.txg_engine.specs.Frozen.{FrozenGroup, KeysRise}
use Rattle.txg_engine.specs.Logs.{AreOwing, KeepsSets, IsReady, is_off}
use Rattle.txg_engine.specs.Pins.{PinsSeen}
use Rattle.txg_engine.specs.Refusing.{BeginsGroup, IsCause}
use Rattle.txg_engine.specs.Writes.{OpenGroup, RiseFrom}
use Rattle.pool_moves.specs.LineRows as rows
use Rattle.pool_moves.specs.Refusing as refusals
use Rattle.open_pool.specs.declared.freeze.FreezeFault.{FreezeFault}
use Rattle.open_pool.specs.declared.freeze.FreezeFault.TheVariants as fault
use Rattle.open_pool.specs.Parts.{PoolParts}

abbrev pub group_at : ℕ → Group
group_at number = record { 0 = number }

abbrev pub refusal_says : refusals.FreezeRefusal → FreezeFault
refusal_says (refusals.NoNumber limit count) = fault.NoNumber limit count
refusal_says (refusals.NoBoard group top) = fault.NoBoard (group_at group) top
refusal_says (refusals.NoRoom need free) = fault.NoSpace need free

abbrev pub freeze_says : rows.FreezeReply → Result Group FreezeFault
freeze_says (rows.Frozen number) = Ok (group_at number)
freeze_says (rows.InFlight group) = Err (fault.InFlight (group_at group))
freeze_says (rows.Unfrozen refusal) = Err (refusal_says refusal)

-- what the engine refuses a group of this number for
abbrev pub why_says : Group → engine.FreezeFault → FreezeFault
why_says group (engine_fault.NoBoard top) = fault.NoBoard group top
why_says group (engine_fault.NoRoom need free) = fault.NoSpace need free
why_says group engine_fault.Memory = fault.Memory

-- What a freeze works on.
pub record FreezeParts : Type 0 where
  pub unfrozen : OpenGroup
  pub map : Map
  pub pins : PinsSeen
  pub trees : List Top

-- The group begins, who isn't on its board owes its number, and the next open group is empty.
pub record FreezesParts (number : Group) (old new : FreezeParts) (group : FrozenGroup) : Type 0 where
  pub begins : BeginsGroup number old.unfrozen.writes old.map new.map old.trees group
  pub logs : AreOwing (is_off (seats_of 0 old.trees)) number.0 (leaves_of old.trees) (leaves_of new.trees)
  pub ready : All (IsReady group.board number.0) (leaves_of new.trees)
  pub pins : new.pins.places ≡ old.pins.places
  pub pins_room : length new.pins.places + length group.items ≤ new.pins.room
  pub built : marks_of new.trees ≡ marks_of old.trees
  pub sectors : sectors_of new.trees ≡ sectors_of old.trees
  pub empty : new.unfrozen.writes ≡ []
  pub room : 4096 ≤ new.unfrozen.room

-- No group begins, for a cause of the engine's, and nothing has changed but the room in the sets of leaves and for pins.
pub record RefusesParts (number : Group) (old new : FreezeParts) (why : FreezeFault) : Type 0 where
  pub by : engine.FreezeFault
  pub says : why ≡ why_says number by
  pub cause : IsCause old.unfrozen.writes old.map old.trees by
  pub unfrozen : new.unfrozen ≡ old.unfrozen
  pub map : new.map ≡ old.map
  pub pins : new.pins.places ≡ old.pins.places
  pub leaves : AllZip KeepsSets (leaves_of old.trees) (leaves_of new.trees)
  pub built : marks_of new.trees ≡ marks_of old.trees
  pub sectors : sectors_of new.trees ≡ sectors_of old.trees

-- Addresses and keys rise, blocks have 4,096 bytes, and pointers are in their form.
pub record HasForms (p : PoolParts) (items : List Item) : Type 0 where
  pub writes : RiseFrom 0 p.unfrozen.writes
  pub keys : KeysRise items
  pub blocks : All (λ item. length item.block ≡ 4096) items
  pub new : All (λ item. IsInForm item.pointer) items
  pub pointers : (k : Key) → IsPointer p.map.sectors (pointer_at p.map k)
  pub forms : (k : Key) → IsInForm (pointer_at p.map k)
