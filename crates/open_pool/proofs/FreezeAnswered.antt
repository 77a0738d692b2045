-- A freeze of an open pool without a frozen group: what it answers, and what it leaves.
use Rattle.std.proofs.Common.{◌≡◌, ◌⊎◌, ◌+◌, ◌<◌, ◌≤◌, ◌^◌, length, get_or, None, true, Result, Ok, Err, sym, ap, ◌∙◌, subst, arith}
use Rattle.sha2.proofs.Facts256.{length-sha256}
use Rattle.mp_base.specs.declared.number.Group.{Group}
use Rattle.mp_base.specs.declared.place.Key.{Key}
use Rattle.block_map.specs.Map.{pointer_at, is_open, CountsPlaces}
use Rattle.block_map.specs.Places.{AreTops}
use Rattle.block_map.specs.Pointers.{IsInForm, IsPointer}
use Rattle.txg_engine.specs.declared.item.Item.{Item}
use Rattle.txg_engine.specs.Freezing.{IsSigned}
use Rattle.txg_engine.specs.Frozen.{FrozenGroup, IsGroup}
use Rattle.txg_engine.specs.Writes.{RiseFrom}
use Rattle.pool_codec.specs.Codecs.{pool_codec}
use Rattle.pool_moves.specs.LineRows.{RowFreezeLine}
use Rattle.pool_moves.specs.Refusing.{last_number}
use Rattle.pool_moves.specs.States.{PoolState}
use Rattle.open_pool.specs.declared.freeze.FreezeFault.{FreezeFault}
use Rattle.open_pool.specs.declared.freeze.FreezeFault.TheVariants as fault
use Rattle.open_pool.specs.Answering.{Answers, OutOfMemory}
use Rattle.open_pool.specs.Form.{IsPool}
use Rattle.open_pool.specs.Freezing.{FreezeParts, FreezesParts, RefusesParts, HasForms, group_at, freeze_says}
use Rattle.open_pool.specs.Parts.{PoolParts}
use Rattle.open_pool.specs.State.{Stands}
use Rattle.open_pool.proofs.FreezeBegins.{begun_parts, begun}
use Rattle.open_pool.proofs.FreezeForm.{pool_then}
use Rattle.open_pool.proofs.FreezeRefused.{with_parts, idle_parts, refused_pool}
use Rattle.open_pool.proofs.FreezeRows.{refused}

-- What a freeze begins with.
pub record Starts (p : PoolParts) (old : FreezeParts) : Type 0 where
  pub idle : p.frozen ≡ None
  pub whole : idle_parts p old ≡ p
  pub pool : IsPool (idle_parts p old)
  pub rise : RiseFrom 0 old.unfrozen.writes
  pub counted : CountsPlaces (is_open old.map) old.map.count
  pub below : p.highest < last_number

-- the parts of a value that stands for a pool
pub starts : (v p : PoolParts) (old : FreezeParts) → v ≡ p → with_parts v old ≡ v → v.frozen ≡ None → v.highest < last_number
    → IsPool p → RiseFrom 0 p.unfrozen.writes → CountsPlaces (is_open p.map) p.map.count → Starts p old
starts v p old is over none below pool rise counted =
    let idle : p.frozen ≡ None = ap (λ (q : PoolParts). q.frozen) (sym is) ∙ none in
    let whole : idle_parts p old ≡ p =
    ap (λ f. record (with_parts p old) { frozen = f }) (sym idle) ∙ subst (λ (q : PoolParts). with_parts q old ≡ q) is over in
    record {
      idle = idle;
      whole = whole;
      pool = subst IsPool (sym whole) pool;
      rise = subst (λ (q : PoolParts). RiseFrom 0 q.unfrozen.writes) (sym whole) rise;
      counted = subst (λ (q : PoolParts). CountsPlaces (is_open q.map) q.map.count) (sym whole) counted;
      below = subst (λ (q : PoolParts). q.highest < last_number) is below;
    }

module _ (p : PoolParts) (old new : FreezeParts) (start : Starts p old) where
  idle_is : with_parts p new ≡ idle_parts p new
  idle_is = ap (λ f. record (with_parts p new) { frozen = f }) start.idle

  module _ (why : FreezeFault) (refuses : RefusesParts (group_at (p.highest + 1)) old new why) where
    pub refused_form : IsPool (with_parts p new)
    refused_form = subst IsPool (sym idle_is) (refused_pool p old new (group_at (p.highest + 1)) why refuses start.pool)

    pub refused_row : (s : PoolState) → Stands p s → Answers (RowFreezeLine pool_codec s) freeze_says (Err why) s (with_parts p new)
        ⊎ OutOfMemory {A = Result Group FreezeFault} (Err fault.Memory) (Err why) s (with_parts p new)
    refused_row s stands =
        subst (λ q. Answers (RowFreezeLine pool_codec s) freeze_says (Err why) s q
        ⊎ OutOfMemory {A = Result Group FreezeFault} (Err fault.Memory) (Err why) s q) (sym idle_is)
        (refused p old new start.pool start.rise start.counted start.below why refuses s
        (subst (λ q. Stands q s) (sym start.whole) stands))

  module _ (group : FrozenGroup) (f : FreezesParts (group_at (p.highest + 1)) old new group) (is : IsGroup group) where
    more : p.highest + 1 ≤ 2 ^ 62
    more = let below = start.below in omega (arith, below)

    pub begun_form : IsPool (begun_parts p new group)
    begun_form = pool_then p old new group f start.pool more is.rise

    module _ (tops : AreTops old.map.sectors) (pointers : (k : Key) → IsPointer old.map.sectors (pointer_at old.map k))
        (forms : (k : Key) → IsInForm (pointer_at old.map k)) where
      item_formed : (item : Item) → IsSigned (p.highest + 1) item → IsPointer old.map.sectors item.pointer → IsInForm item.pointer
      item_formed item signed pointer =
          let place = pointer.place (let birth = signed.birth in omega (arith, birth)) in
          let most = tops.most in
          let sizes = tops.sizes item.pointer.place.top 0 place.top in
          record {
            birth = (let birth = signed.birth in omega (arith, birth, more));
            top = (let top = place.top in omega (arith, top, most));
            sector = (let sector = place.sector in omega (arith, sector, sizes));
            sum = ap length signed.sum ∙ length-sha256 item.block;
          }

      has_forms : HasForms (idle_parts p old) group.items
      has_forms = record {
        writes = start.rise;
        keys = is.rise;
        blocks = is.blocks;
        new = λ k d lt. item_formed (get_or group.items k d) (f.begins.freeze.signed k d lt) (f.begins.freeze.pointers k d lt);
        pointers = pointers;
        forms = forms;
      }

      pub begun_row : p.opened ≡ true → (s : PoolState) → Stands p s
          → Answers (RowFreezeLine pool_codec s) freeze_says (Ok (group_at (p.highest + 1))) s (begun_parts p new group)
      begun_row opened s stands =
          begun p old new group f start.pool more start.rise start.counted start.below is.rise has_forms opened s
          (subst (λ q. Stands q s) (sym start.whole) stands)
