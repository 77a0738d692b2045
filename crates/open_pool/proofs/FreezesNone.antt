-- The freeze of a group without keys: what it answers, and what it leaves.
use Rattle.std.proofs.Common.{◌≡◌, ◌⊎◌, inl, inr, ℕ, suc, ◌+◌, ◌<◌, ◌≤◌, ◌==◌, ◌&&◌, ◌||◌, ◌^◌, cond, Bool, true, false, List, [], ◌∷◌, length, Option, Some, None, Result, Ok, refl, sym, ap, ◌∙◌, subst, arith}
use mathlib.Core.Path.{fun_ext}
use Rattle.std.specs.Prelude.{IfSome, is_some, is_ok}
use Rattle.std.specs.List.{AllByRecursion, list_any}
use Rattle.std.specs.Option.{option_map}
use Rattle.std.proofs.lemmas.List.{length-map}
use Rattle.std.proofs.lemmas.List.Elements.{recursion_from_All}
use Rattle.block_map.specs.Dirty.{pages_above, pages_from}
use Rattle.block_map.specs.Map.{is_open, CountsPlaces}
use Rattle.vdev_tree.specs.Leaf.{is_up, is_readable}
use Rattle.vdev_tree.specs.declared.vdev.LeafVdev.{LeafVdev}
use Rattle.txg_engine.specs.declared.freezing.FreezeFault as engine
use Rattle.txg_engine.specs.declared.freezing.FreezeFault.TheVariants as engine_fault
use Rattle.txg_engine.specs.declared.item.Item.{Item}
use Rattle.txg_engine.specs.declared.seat.Seat.{Seat}
use Rattle.txg_engine.specs.Frozen.{FrozenGroup}
use Rattle.txg_engine.specs.Items.{key_of}
use Rattle.txg_engine.specs.Refusing as engine_refusals
use Rattle.txg_engine.specs.Writes.{RiseFrom, block_at}
use Rattle.pool_moves.specs.FreezeRow.{up_devs}
use Rattle.pool_moves.specs.Leaves.{LeafSeen}
use Rattle.pool_moves.specs.Moves.{Freeze}
use Rattle.pool_moves.specs.OpeningRow.{is_up_under, lacking_of, last_numbers}
use Rattle.pool_moves.specs.Refusing.{is_writable_under, unwritable_of}
use Rattle.pool_moves.specs.States.{Sums, PoolState}
use Rattle.pool_moves.specs.Widening.{IsWidened}
use Rattle.open_pool.specs.declared.freeze.FreezeFault.{FreezeFault}
use Rattle.open_pool.specs.declared.resuming.ResumeFault.{ResumeFault}
use Rattle.open_pool.specs.declared.resuming.ResumeFault.TheVariants as resumes
use Rattle.open_pool.specs.Form.{HasGroup, IsPool}
use Rattle.open_pool.specs.Freezing.{FreezeParts, FreezesParts, RefusesParts, group_at, why_says}
use Rattle.open_pool.specs.Parts.{PoolParts, all_parts}
use Rattle.open_pool.specs.Resuming.{FreezesNone, IsLacking, lacking, unfrozen_as}
use Rattle.open_pool.specs.State.{ArePinned, Stands, cells_of, leaves_from, leaves_under, state_of}
use Rattle.open_pool.proofs.FreezeAnswered.{Starts, starts}
use Rattle.open_pool.proofs.FreezeBegins.{begun_parts, pins_then}
use Rattle.open_pool.proofs.FreezeSteps.{owes, steps_are, tops_count}
use Rattle.open_pool.proofs.FreezeRefused.{idle_parts, with_parts}
use Rattle.open_pool.proofs.LeavesByTops.{leaves_at, by_tops, tops_from, under_all, all_are_under}
use Rattle.open_pool.proofs.TurnLeaves.{AreInForm}
use Rattle.open_pool.proofs.LeavesInForm.{in_form}
use Rattle.open_pool.proofs.StatesStand.{stands_there, by_state}
use Rattle.open_pool.proofs.UnwritableTops.{unwritable_is, number_there}

-- A pool that says that it has acknowledged a record.
abbrev pub opened_parts : PoolParts → PoolParts
opened_parts p = record p { opened = true }

pub opened_too : (p : PoolParts) → p.frozen ≡ None → IsPool p → IsPool (opened_parts p)
opened_too p idle pool = record {
  recordable = pool.recordable;
  tops = pool.tops;
  read = pool.read;
  births = pool.births;
  places = record {
    taken = pool.places.taken;
    committed = pool.places.committed;
    frozen = pool.places.frozen;
    listed = pool.places.listed;
    inside = pool.places.inside;
  };
  apart = record { committed = pool.apart.committed; frozen = pool.apart.frozen; between = pool.apart.between };
  leaves = record { within = pool.leaves.within; apart = pool.leaves.apart; writable = pool.leaves.writable; settled = pool.leaves.settled };
  board = record { order = pool.board.order; seated = pool.board.seated };
  group = subst (λ f. IfSome f (HasGroup (opened_parts p))) (sym idle) tt;
  unfrozen = record {
    inside = pool.unfrozen.inside;
    room = pool.unfrozen.room;
    count = pool.unfrozen.count;
    few = pool.unfrozen.few;
  };
}

-- Where each readable leaf has a device, a top lacks a readable leaf just where it lacks one that may be written.
abbrev HaveDevices : List LeafSeen → Type 0
HaveDevices leaves = AllByRecursion (λ leaf. is_up leaf.own.mode ≡ true → is_some leaf.dev ≡ true) leaves

up_is_writable : (top : ℕ) (leaves : List LeafSeen) → HaveDevices leaves → list_any (is_up_under top) leaves ≡ list_any (is_writable_under top) leaves
up_is_writable top [] have = refl
up_is_writable top (leaf ∷ leaves) have =
    ap (λ b. (b && (leaf.top == top)) || list_any (is_up_under top) leaves) (by (is_up leaf.own.mode) refl)
    ∙ ap (λ b. ((is_up leaf.own.mode && is_some leaf.dev) && (leaf.top == top)) || b) (up_is_writable top leaves have.1)
  where
    by : (up : Bool) → is_up leaf.own.mode ≡ up → up ≡ (up && is_some leaf.dev)
    by true up = sym (have.0 up)
    by false up = refl

lacking_along : (all leaves : List LeafSeen) → ((top : ℕ) → list_any (is_up_under top) all ≡ list_any (is_writable_under top) all)
    → lacking_of all leaves ≡ unwritable_of all leaves
lacking_along all [] same = refl
lacking_along all (leaf ∷ leaves) same =
    ap (λ b. cond b (lacking_of all leaves) (Some leaf.top)) (same leaf.top)
    ∙ ap (λ o. cond (list_any (is_writable_under leaf.top) all) o (Some leaf.top)) (lacking_along all leaves same)

devices_at : (seats : List Seat) (tops : List ℕ) (leaves : List LeafVdev) → AllByRecursion (λ leaf. is_readable leaf ≡ true → is_some leaf.dev ≡ true) leaves
    → HaveDevices (leaves_at seats tops leaves)
devices_at seats [] leaves have = tt
devices_at seats (top ∷ tops) [] have = tt
devices_at seats (top ∷ tops) (leaf ∷ leaves) have = (have.0, devices_at seats tops leaves have.1)

no_keys : (items : List Item) → length items ≡ 0 → items ≡ []
no_keys [] none = refl
no_keys (item ∷ items) none = absurd (omega (arith, none))

none_needed : engine_refusals.need [] ≡ 0
unfolding pages_above pages_from
none_needed = refl

-- What such a freeze begins with.
pub starts_none : (p : PoolParts) (old : FreezeParts) → with_parts p old ≡ p → p.frozen ≡ None → IsPool p → p.highest < last_numbers
    → p.unfrozen.writes ≡ [] → CountsPlaces (is_open p.map) p.map.count → Starts p old
starts_none p old over idle pool below none counted = starts p p old refl over idle below pool (subst (RiseFrom 0) (sym none) tt) counted

module _ (p : PoolParts) (old new : FreezeParts) (start : Starts p old) (none : old.unfrozen.writes ≡ []) where
  needs_none : engine_refusals.need old.unfrozen.writes ≡ 0
  needs_none = ap engine_refusals.need none ∙ none_needed

  lacks : (held : List Sums) (top : Option ℕ) → engine_refusals.unwritable old.trees ≡ top
      → lacking (state_of held (idle_parts p old)) ≡ option_map suc top
  lacks held top is =
      let leaves = leaves_from [] 1 (leaves_under (all_parts old.trees)) in
      let have : HaveDevices leaves =
      subst HaveDevices (sym (by_tops [] 1 (leaves_under (all_parts old.trees))))
      (devices_at [] (tops_from 1 (leaves_under (all_parts old.trees))) (under_all (leaves_under (all_parts old.trees)))
      (subst (AllByRecursion (λ leaf. is_readable leaf ≡ true → is_some leaf.dev ≡ true)) (all_are_under (all_parts old.trees))
      (recursion_from_All (λ leaf. is_readable leaf ≡ true → is_some leaf.dev ≡ true) _ start.pool.leaves.writable))) in
      lacking_along leaves leaves (λ top. up_is_writable top leaves have)
      ∙ unwritable_is old.trees (idle_parts p old) refl (in_form old.trees (idle_parts p old) refl start.pool.recordable start.pool.leaves)
      ∙ ap (option_map suc) is

  -- It is refused for a top without a readable leaf, or there is no memory.
  module _ (why : FreezeFault) (refuses : RefusesParts (group_at (p.highest + 1)) old new why) where
    by_cause : (by : engine.FreezeFault) → why ≡ why_says (group_at (p.highest + 1)) by → engine_refusals.IsCause old.unfrozen.writes old.map old.trees by
        → (told : ResumeFault) × (unfrozen_as why ≡ Ok told) × ((s : PoolState) → Stands p s → IsLacking s told ⊎ (told ≡ resumes.Memory))
    by_cause (engine_fault.NoBoard number) says cause = (
      resumes.Suspended (record { group = group_at (p.highest + 1); top = number; faults = 0 }),
      ap unfrozen_as says,
      λ s stands. by_state (λ t. IsLacking t (resumes.Suspended (record { group = group_at (p.highest + 1); top = number; faults = 0 }))
          ⊎ (resumes.Suspended (record { group = group_at (p.highest + 1); top = number; faults = 0 }) ≡ resumes.Memory)) (idle_parts p old)
          (λ held pins. inl (record {
            top = suc cause.0;
            lacks = lacks held (Some cause.0) cause.1;
            why_is = ap (λ top. resumes.Suspended (record { group = group_at (p.highest + 1); top = top; faults = 0 }))
                (sym (number_there old.trees cause.0 number cause.2));
          })) s (subst (λ q. Stands q s) (sym start.whole) stands),
    )
    by_cause (engine_fault.NoRoom needed free) says cause =
        absurd (let zero = needs_none in let less = cause.3 in omega (arith, zero, less, cause.1))
    by_cause engine_fault.Memory says cause = (resumes.Memory, ap unfrozen_as says, λ s stands. inr refl)

    caused : (told : ResumeFault) × (unfrozen_as why ≡ Ok told) × ((s : PoolState) → Stands p s → IsLacking s told ⊎ (told ≡ resumes.Memory))
    caused = by_cause refuses.by refuses.says refuses.cause

    pub may_be_told : is_ok (unfrozen_as why) ≡ true
    may_be_told = ap is_ok caused.1

    pub lacks_one : (told : ResumeFault) → unfrozen_as why ≡ Ok told → (s : PoolState) → Stands p s → IsLacking s told ⊎ (told ≡ resumes.Memory)
    lacks_one told is s stands = subst (λ t. IsLacking s t ⊎ (t ≡ resumes.Memory)) (one (unfrozen_as why) caused.0 told caused.1 is) (caused.2 s stands)
      where
        one : (r : Result ResumeFault FreezeFault) (a b : ResumeFault) → r ≡ Ok a → r ≡ Ok b → a ≡ b
        one r a b first second = cc

  -- Else the group has no keys, and its moves are those of the row.
  module _ (group : FrozenGroup) (f : FreezesParts (group_at (p.highest + 1)) old new group) where
    more : p.highest + 1 ≤ 2 ^ 62
    more = let below = start.below in omega (arith, below)

    form : AreInForm (idle_parts p old)
    form = in_form old.trees (idle_parts p old) refl start.pool.recordable start.pool.leaves

    no_cells : cells_of group.items ≡ (λ k. None)
    no_cells =
        let keys = ap length f.begins.freeze.keys in
        let many = length-map group.items key_of in
        let zero = needs_none in
        ap cells_of (no_keys group.items (omega (arith, keys, many, zero))) ∙ fun_ext (λ k. refl)

    freezes_at : (held : List Sums) → ArePinned held (idle_parts p old)
        → FreezesNone (state_of held (idle_parts p old)) (opened_parts (begun_parts p new group))
    freezes_at held pins =
        let s = state_of held (idle_parts p old) in
        let o = owes p old new group f form more held in
        let then = pins_then p old new group f start.pool more held pins in
        record {
          served = lacks held None f.begins.everywhere;
          moves = o.moves;
          row = record {
            idle = refl;
            unwritten = λ a. ap (λ ws. block_at ws a) none;
            tops = tops_count [] 1 (leaves_under (all_parts old.trees)) (omega arith);
            moves = subst (λ cells. IsWidened s.core (Freeze cells (up_devs s.core.leaves)) o.moves) no_cells o.are;
          };
          stands = subst (λ t. Stands (opened_parts (begun_parts p new group)) (record t { core = record (t.core) { opened = true } }))
              (sym (steps_are p old new group f form more held))
              (stands_there held (opened_parts (begun_parts p new group)) (record { pinned = then.pinned; held_places = then.held_places }));
        }

    pub freezes_none : (s : PoolState) → Stands p s → FreezesNone s (opened_parts (begun_parts p new group))
    freezes_none s stands = by_state (λ t. FreezesNone t (opened_parts (begun_parts p new group))) (idle_parts p old) freezes_at s
        (subst (λ q. Stands q s) (sym start.whole) stands)
