-- The logs that are told are those of the state's leaves.
use Rattle.std.proofs.Common.{◌≡◌, ℕ, suc, ◌+◌, List, [], ◌∷◌, ◌++◌, map, take, Some, Result, Ok, Err, refl, sym, ap, ap₂, ◌∙◌, append_assoc}
use Rattle.std.specs.Prelude.{slice_get, IfOk}
use Rattle.std.specs.List.{flat_map}
use Rattle.std.proofs.lemmas.List.{take_more, map-append}
use Rattle.vdev_tree.specs.Tree.{leaves}
use Rattle.vdev_tree.specs.declared.top.Top.{Top}
use Rattle.vdev_tree.specs.declared.vdev.LeafVdev.{LeafVdev}
use Rattle.dtl_rules.specs.Widening.{leaves_of}
use Rattle.txg_engine.specs.declared.seat.Seat.{Seat}
use Rattle.txg_engine.proofs.Seating.{got_inside, got_there}
use Rattle.pool_moves.specs.CommitRows.{NamedLog, named_log, RowLogs}
use Rattle.pool_moves.specs.States.{PoolState}
use Rattle.open_pool.specs.declared.logs.LeafLog.{LeafLog}
use Rattle.open_pool.specs.Parts.{PoolParts, all_parts}
use Rattle.open_pool.specs.State.{leaf_of, leaves_from, seats_in, leaves_under, Stands}
use Rattle.open_pool.specs.Telling.{log_of, logs_told}
use Rattle.open_pool.proofs.LeavesByTops.{under_all, all_are_under}
use Rattle.open_pool.proofs.LeavesInForm.{leaves_are}
use Rattle.open_pool.proofs.StatesStand.{by_state}

-- one leaf more
pub logs_more : (under : List LeafVdev) (place : ℕ) (leaf : LeafVdev) (was now after : List NamedLog) → slice_get under place ≡ Some leaf
    → now ≡ was ++ map log_of (take place under) → after ≡ now ++ log_of leaf ∷ [] → after ≡ was ++ map log_of (take (place + 1) under)
logs_more under place leaf was now after at is is' =
    is' ∙ ap (λ l. l ++ log_of leaf ∷ []) is ∙ append_assoc was (map log_of (take place under)) (log_of leaf ∷ [])
    ∙ ap (λ l. was ++ l) (sym (map-append log_of (take place under) (leaf ∷ []))
    ∙ ap (map log_of) (sym (take_more under place leaf (got_inside under place leaf at) ∙ ap (λ l. take place under ++ l ∷ []) (got_there under place leaf leaf at))))

-- and of the leaves of all tops
abbrev pub top_logs : Top → List NamedLog
top_logs top = map log_of (leaves top.mirror)

pub all_logs : (tops : List Top) → flat_map top_logs tops ≡ map log_of (leaves_of tops)
all_logs [] = refl
all_logs (top ∷ tops) = ap (λ l. top_logs top ++ l) (all_logs tops) ∙ sym (map-append log_of (leaves top.mirror) (leaves_of tops))

under_logs : (seats : List Seat) (top : ℕ) (under : List LeafVdev) → map log_of under ≡ map named_log (map (leaf_of seats top) under)
under_logs seats top [] = refl
under_logs seats top (leaf ∷ under) = ap (λ l. log_of leaf ∷ l) (under_logs seats top under)

pub logs_seen : (seats : List Seat) (top : ℕ) (tops : List (List LeafVdev)) → map log_of (under_all tops) ≡ map named_log (leaves_from seats top tops)
logs_seen seats top [] = refl
logs_seen seats top (under ∷ tops) =
    map-append log_of under (under_all tops) ∙ ap₂ (λ a b. a ++ b) (under_logs seats top under) (logs_seen seats (suc top) tops)
    ∙ sym (map-append named_log (map (leaf_of seats top) under) (leaves_from seats (suc top) tops))

row_told : (p : PoolParts) (trees : List Top) → p.tops ≡ all_parts trees → (logs : List LeafLog) → logs_told logs ≡ map log_of (leaves_of trees)
    → (s : PoolState) → Stands p s → RowLogs s [] (logs_told logs)
row_told p trees parts logs are = by_state (λ s. RowLogs s [] (logs_told logs)) p (λ held pins. (
  refl,
  are ∙ ap (map log_of) (sym (leaves_are trees p parts) ∙ all_are_under p.tops) ∙ logs_seen (seats_in p.frozen) 1 (leaves_under p.tops),
))

-- so it is of a call that tells them
pub told_by : {T E : Type 0} (items : T → List LeafLog) (p : PoolParts) (trees : List Top) → p.tops ≡ all_parts trees → (result : Result T E)
    → IfOk result (λ logs. logs_told (items logs) ≡ map log_of (leaves_of trees)) → (s : PoolState) → Stands p s
    → IfOk result (λ logs. RowLogs s [] (logs_told (items logs)))
told_by items p trees parts (Ok logs) are s stands = row_told p trees parts (items logs) are s stands
told_by items p trees parts (Err fault) are s stands = tt
