-- What a freeze answers where it is refused is what its row says.
use Rattle.std.proofs.Common.{◌≡◌, ◌⊎◌, inl, inr, ℕ, suc, ◌+◌, ◌<◌, ◌≤◌, cond, false, List, [], Option, Some, None, Result, Err, refl, sym, ap, ◌∙◌, subst, arith}
use Rattle.std.specs.Option.{option_map}
use Rattle.std.proofs.lemmas.Bool.{lt-ltb, le-leb, lt-leb}
use Rattle.mp_base.specs.declared.number.Group.{Group}
use Rattle.block_map.specs.Map.{is_open, CountsPlaces}
use Rattle.txg_engine.specs.declared.freezing.FreezeFault as engine
use Rattle.txg_engine.specs.declared.freezing.FreezeFault.TheVariants as engine_fault
use Rattle.txg_engine.specs.Frozen.{FrozenGroup}
use Rattle.txg_engine.specs.Refusing as engine_refusals
use Rattle.txg_engine.specs.Writes.{RiseFrom}
use Rattle.pool_codec.specs.Codecs.{pool_codec}
use Rattle.pool_moves.specs.LineRows.{InFlight, Unfrozen, FreezeBy, RowFreezeLine}
use Rattle.pool_moves.specs.Refusing.{FreezeRefusal, NoNumber, NoBoard, NoRoom, RefusedBy, IsRefused, last_number, room_refusal, unwritable}
use Rattle.pool_moves.specs.States.{Sums, PoolState}
use Rattle.open_pool.specs.declared.freeze.FreezeFault.{FreezeFault}
use Rattle.open_pool.specs.declared.freeze.FreezeFault.TheVariants as fault
use Rattle.open_pool.specs.Answering.{Answers, OutOfMemory}
use Rattle.open_pool.specs.Form.{IsPool}
use Rattle.open_pool.specs.Freezing.{FreezeParts, RefusesParts, group_at, refusal_says, freeze_says, why_says}
use Rattle.open_pool.specs.Parts.{PoolParts}
use Rattle.open_pool.specs.State.{ArePinned, Stands, group_of, state_of, seen_of}
use Rattle.open_pool.proofs.FreezeNeeds.{need_counted}
use Rattle.open_pool.proofs.FreezeRefused.{idle_parts, refused_stands}
use Rattle.open_pool.proofs.LeavesInForm.{in_form}
use Rattle.open_pool.proofs.OpenPlaces.{counts_open}
use Rattle.open_pool.proofs.StatesStand.{stands_there, by_state}
use Rattle.open_pool.proofs.UnwritableTops.{unwritable_is, number_there}

-- A group is frozen already.
pub in_flight : (p : PoolParts) (group : FrozenGroup) → p.frozen ≡ Some group → (s : PoolState) → Stands p s
    → Answers (RowFreezeLine pool_codec s) freeze_says (Err (fault.InFlight group.numbers.first)) s p
in_flight p group is = by_state (λ s. Answers (RowFreezeLine pool_codec s) freeze_says (Err (fault.InFlight group.numbers.first)) s p) p
    (λ held pins. record {
      moves = [];
      reply = InFlight group.numbers.first.0;
      is = subst (λ (o : Option FrozenGroup). FreezeBy (group_of o).frozen pool_codec (state_of held p) [] (InFlight group.numbers.first.0))
          (sym is) (refl, ap (λ (o : Option FrozenGroup). InFlight (group_of o).first) (sym is));
      says_so = refl;
      leaves = stands_there held p pins;
    })

-- No group is, and none is frozen.
abbrev Refuses : PoolParts → PoolParts → FreezeFault → PoolState → Type 0
Refuses p q why s = Answers (RowFreezeLine pool_codec s) freeze_says (Err why) s q

refused_by : (held : List Sums) (p q : PoolParts) (refusal : FreezeRefusal) (why : FreezeFault) → Stands q (state_of held p)
    → p.frozen ≡ None → IsRefused (state_of held p) (Some refusal) → why ≡ refusal_says refusal → Refuses p q why (state_of held p)
refused_by held p q refusal why stands idle is says = record {
  moves = [];
  reply = Unfrozen refusal;
  is = subst (λ (o : Option FrozenGroup). FreezeBy (group_of o).frozen pool_codec (state_of held p) [] (Unfrozen refusal)) (sym idle)
      (Some refusal, is, (refl, refl));
  says_so = ap (λ w. Err w) says;
  leaves = stands;
}

pub no_number : (p : PoolParts) → p.frozen ≡ None → last_number ≤ p.highest → (s : PoolState) → Stands p s
    → Refuses p p (fault.NoNumber last_number (p.highest + 1)) s
no_number p idle above = by_state (Refuses p p (fault.NoNumber last_number (p.highest + 1))) p (λ held pins.
    refused_by held p p (NoNumber last_number (p.highest + 1)) (fault.NoNumber last_number (p.highest + 1)) (stands_there held p pins) idle
    (subst (λ b. RefusedBy b (unwritable (seen_of held p).leaves) (state_of held p) (Some (NoNumber last_number (p.highest + 1))))
    (sym (le-leb last_number p.highest above)) refl) refl)

-- What the engine refuses it for.
module _ (r : PoolParts) (old new : FreezeParts) (pool : IsPool (idle_parts r old)) (rise : RiseFrom 0 old.unfrozen.writes)
    (counted : CountsPlaces (is_open old.map) old.map.count) (below : r.highest < last_number) where
  -- by whether each top has a leaf that may be written
  by_tops : (held : List Sums) (refusal : Option FreezeRefusal) (top : Option ℕ) → engine_refusals.unwritable old.trees ≡ top
      → RefusedBy false (option_map suc top) (state_of held (idle_parts r old)) refusal → IsRefused (state_of held (idle_parts r old)) refusal
  by_tops held refusal top is refused =
      subst (λ b. RefusedBy b (unwritable (seen_of held (idle_parts r old)).leaves) (state_of held (idle_parts r old)) refusal)
      (sym (lt-leb last_number r.highest below))
      (subst (λ o. RefusedBy false o (state_of held (idle_parts r old)) refusal)
      (sym (unwritable_is old.trees (idle_parts r old) refl (in_form old.trees (idle_parts r old) refl pool.recordable pool.leaves)
      ∙ ap (option_map suc) is)) refused)

  pub room_by : (held : List Sums) → ArePinned held (idle_parts r old) → (refusal : Option FreezeRefusal)
      → engine_refusals.unwritable old.trees ≡ None
      → refusal ≡ room_refusal (engine_refusals.need old.unfrozen.writes) old.map.count
      → IsRefused (state_of held (idle_parts r old)) refusal
  room_by held pins refusal none is = by_tops held refusal None none (
    old.map.count,
    counts_open (idle_parts r old) held pool.places pins pool.tops old.map.count counted,
    is ∙ ap (λ n. room_refusal n old.map.count) (sym (need_counted old.map.blocks old.unfrozen.writes rise pool.unfrozen.inside)),
  )

  by_cause : (by : engine.FreezeFault) → engine_refusals.IsCause old.unfrozen.writes old.map old.trees by → (held : List Sums)
      → ArePinned held (idle_parts r old) → Stands (idle_parts r new) (state_of held (idle_parts r old))
      → Refuses (idle_parts r old) (idle_parts r new) (why_says (group_at (r.highest + 1)) by) (state_of held (idle_parts r old))
      ⊎ OutOfMemory {A = Result Group FreezeFault} (Err fault.Memory) (Err (why_says (group_at (r.highest + 1)) by))
      (state_of held (idle_parts r old)) (idle_parts r new)
  by_cause (engine_fault.NoBoard number) cause held pins stands =
      let told = number_there old.trees cause.0 number cause.2 in
      inl (refused_by held (idle_parts r old) (idle_parts r new) (NoBoard (r.highest + 1) ((state_of held (idle_parts r old)).own.top_number (suc cause.0)))
      (fault.NoBoard (group_at (r.highest + 1)) number) stands refl
      (by_tops held (Some (NoBoard (r.highest + 1) ((state_of held (idle_parts r old)).own.top_number (suc cause.0)))) (Some cause.0) cause.1 refl)
      (ap (fault.NoBoard (group_at (r.highest + 1))) (sym told)))
  by_cause (engine_fault.NoRoom needed free) cause held pins stands =
      let short : old.map.count < engine_refusals.need old.unfrozen.writes = (let less = cause.3 in omega (arith, less, cause.1, cause.2)) in
      inl (refused_by held (idle_parts r old) (idle_parts r new) (NoRoom (engine_refusals.need old.unfrozen.writes) old.map.count)
      (fault.NoSpace needed free) stands refl
      (room_by held pins (Some (NoRoom (engine_refusals.need old.unfrozen.writes) old.map.count)) cause.0
      (ap (λ b. cond b (Some (NoRoom (engine_refusals.need old.unfrozen.writes) old.map.count)) None)
      (sym (lt-ltb old.map.count (engine_refusals.need old.unfrozen.writes) short))))
      (ap (λ n. fault.NoSpace n free) cause.1 ∙ ap (fault.NoSpace (engine_refusals.need old.unfrozen.writes)) cause.2))
  by_cause engine_fault.Memory cause held pins stands = inr (refl, stands)

  pub refused : (why : FreezeFault) → RefusesParts (group_at (r.highest + 1)) old new why → (s : PoolState) → Stands (idle_parts r old) s
      → Refuses (idle_parts r old) (idle_parts r new) why s
      ⊎ OutOfMemory {A = Result Group FreezeFault} (Err fault.Memory) (Err why) s (idle_parts r new)
  refused why refuses = by_state (λ s. Refuses (idle_parts r old) (idle_parts r new) why s
      ⊎ OutOfMemory {A = Result Group FreezeFault} (Err fault.Memory) (Err why) s (idle_parts r new)) (idle_parts r old) (λ held pins.
      subst (λ w. Refuses (idle_parts r old) (idle_parts r new) w (state_of held (idle_parts r old))
      ⊎ OutOfMemory {A = Result Group FreezeFault} (Err fault.Memory) (Err w) (state_of held (idle_parts r old)) (idle_parts r new))
      (sym refuses.says)
      (by_cause refuses.by refuses.cause held pins (refused_stands r old new (group_at (r.highest + 1)) why refuses held pins)))
