-- A pool whose members were stamped begins with the invariant, and a stamp leaves what that wants.
use Rattle.std.proofs.Common.{◌≡◌, ◌≢◌, ◌⊎◌, ℕ, zero, suc, ◌/◌, ◌%◌, ◌<◌, ◌≤◌, ◌==◌, ◌&&◌, Bool, true, false, List, [], ◌∷◌, ◌++◌, Option, Some, None, refl, sym, ap, ◌∙◌, subst, inl, inr, arith}
use Rattle.std.proofs.lemmas.Bool.Decides.{nat_tests}
use Rattle.mp_base.specs.declared.number.Guid.{Guid}
use Rattle.bank_core.specs.declared.bank.Fault.{Fault}
use Rattle.bank_core.specs.Asks.{Flushes, IsPart}
use Rattle.bank_core.specs.Disk.{Sector, Sectors, Noted, replay, run}
use Rattle.bank_core.specs.Memory.{zero_sector}
use Rattle.bank_core.specs.Standing.{Stands, Spares, Untouched}
use Rattle.bank_core.proofs.Standing.{part_spares, spares_more, untouched_stands}
use Rattle.label_store.specs.declared.rule.Head.{Head}
use Rattle.label_store.specs.declared.uberblock.Uberblock.{Uberblock}
use Rattle.label_store.specs.Clearing.{stamp_sector}
use Rattle.label_store.specs.Layout.{labels_of}
use Rattle.label_store.specs.Plans.{label_writes, blank_uberblock, zero_ring, stamp_plan}
use Rattle.label_store.specs.Records.{place_at}
use Rattle.label_store.specs.Uberblock.{uberblock_bytes, IsUberblock}
use Rattle.label_store.proofs.Bare.{zeros_bare, blank_bare}
use Rattle.label_store.proofs.Clearing.{stamped_rings}
use Rattle.pool_history.specs.Needs.{Held, NeedsCell}
use Rattle.pool_history.specs.Pools.{stamped}
use Rattle.pool_history.specs.Records.{Rec, Cell, IsIn, nothing, number_of}
use Rattle.pool_history.specs.Stamps.{IsBlank, AreStamped}
use Rattle.pool_history.specs.Survival.{Survives, IsNoted}

no_cell : (cell : Cell) → None ≡ Some cell → ⊥
no_cell cell e = cc

no_rest : (q r : Rec) (rest : List Rec) → q ∷ [] ≡ r ∷ rest → [] ≡ rest
no_rest q r rest e = cc

-- A pool that was just stamped has the invariant.
pub stamped_survives : (head_of : List ℕ → Option Head) (name : List ℕ) (pool : Guid) (member : ℕ → Bool) (guids : ℕ → Guid) (size : ℕ → ℕ) (sectors : Sectors)
    → AreStamped pool member guids size sectors → Survives head_of (stamped name pool member guids size sectors (λ d s. []))
stamped_survives head_of name pool member guids size sectors st = record {
  sizes = st.sizes;
  held = λ d s bytes n. of_needs d s bytes n.1;
  rings = λ d place is inside. record {
    stable = λ u right some. absurd (none d (place_at (size d) place) is u right some (st.rings d place is inside));
    since = λ bytes among. absurd among;
    pending = subst (λ p. IsNoted p []) (sym (st.rings d place is inside).still) tt;
  };
  places = λ r a cell d i at is. absurd (no_cell_of r a cell i at);
  status_live = λ d is. tt;
  acked_live = inl refl;
  reads_live = inl refl;
  not_below = λ r i. omega arith;
  acked_top = omega arith;
  live_top = λ r i. inl (low r i);
  newest_above = λ q rest e r i. absurd (subst (IsIn r) (sym (no_rest _ q rest e)) i);
  given_below = λ r i. absurd i;
  idle_alone = λ e. absurd (cc);
  pools = λ r i. this r i;
}
  where
    this : (r : Rec) → IsIn r (nothing pool ∷ []) → r.commit.pool ≡ pool
    this r (inl e) = ap (λ r. r.commit.pool) e
    this r (inr i) = absurd i

    no_cell_of : (r : Rec) (a : ℕ) (cell : Cell) → IsIn r (nothing pool ∷ []) → r.cells a ≡ Some cell → ⊥
    no_cell_of r a cell (inl e) at = no_cell cell (sym (ap (λ r. r.cells a) e) ∙ at)
    no_cell_of r a cell (inr i) at = i

    of_needs : (d s : ℕ) (bytes : List ℕ) → ⊥ ⊎ NeedsCell (nothing pool ∷ []) (guids d) s bytes → Held (sectors d s) bytes
    of_needs d s bytes (inl n) = absurd n
    of_needs d s bytes (inr n) = absurd (no_cell_of n.r n.a n.cell n.is_live n.cell_is)

    none : (d s : ℕ) → member d ≡ true → (u : Uberblock) → IsUberblock u (sectors d s).stable → 1 ≤ u.number.0 → IsBlank (sectors d s) pool (guids d) → ⊥
    none d s is u right some blank = by_kind blank.stands
      where
        by_kind : ((sectors d s).stable ≡ zero_sector) ⊎ ((sectors d s).stable ≡ uberblock_bytes (blank_uberblock pool (guids d))) → ⊥
        by_kind (inl e) = zeros_bare u (subst (IsUberblock u) e right) some
        by_kind (inr e) = blank_bare pool (guids d) st.in_range (st.guids d is) u (subst (IsUberblock u) e right) some

    low : (r : Rec) → IsIn r (nothing pool ∷ []) → number_of r ≤ 0
    low r (inl e) = omega (arith, ap number_of e)
    low r (inr i) = absurd i

-- what a stamp brings to a slot, standing there, is blank
holds_blank : (x : Sector) (pool member : Guid) (slot : ℕ) → Stands x (stamp_sector pool member slot) → IsBlank x pool member
holds_blank x pool member zero st = record { still = st.still; stands = inr st.stable }
holds_blank x pool member (suc slot) st = record { still = st.still; stands = inl st.stable }

-- A whole stamp leaves every place blank.
pub stamp_blanks : (dev size : ℕ) (pool member : Guid) (made : List Noted) (sectors : Sectors) → 320 ≤ size → IsPart (stamp_plan dev size pool member) made None
    → (place : ℕ) → place < 128 → IsBlank (run made sectors dev (place_at size place)) pool member
stamp_blanks dev size pool member made sectors big part place inside =
    holds_blank _ pool member (place % 32) (stamped_rings dev size pool member made sectors big part (place / 32) (place % 32) (omega arith) (omega arith))

elsewhere : (dev d : ℕ) (x : Bool) → dev ≢ d → ((dev == d) && x) ≡ false
elsewhere dev d x ne = ap (λ b. b && x) (let other : (dev == d) ≡ false = grind (arith, nat_tests) in other)

writes_elsewhere : (dev : ℕ) (labels : List ℕ) (offset : ℕ) (bytes : List ℕ) (d s : ℕ) → dev ≢ d → Spares (label_writes dev labels offset bytes) d s
writes_elsewhere dev [] offset bytes d s ne = tt
writes_elsewhere dev (at ∷ labels) offset bytes d s ne = (elsewhere dev d _ ne, writes_elsewhere dev labels offset bytes d s ne)

-- A stamp puts nothing on another device, however far it came.
pub stamp_elsewhere : (dev size : ℕ) (pool member : Guid) (made : List Noted) (outcome : Option Fault) (d s : ℕ) → dev ≢ d
    → IsPart (stamp_plan dev size pool member) made outcome → Untouched made d s
stamp_elsewhere dev size pool member made outcome d s ne part =
    let u = uberblock_bytes (blank_uberblock pool member) in
    part_spares (stamp_plan dev size pool member) made outcome d s part
    (spares_more (label_writes dev (labels_of size) 32 zero_ring) (label_writes dev (labels_of size) 32 u ++ Flushes dev ∷ []) d s
    (writes_elsewhere dev (labels_of size) 32 zero_ring d s ne)
    (spares_more (label_writes dev (labels_of size) 32 u) (Flushes dev ∷ []) d s (writes_elsewhere dev (labels_of size) 32 u d s ne) (refl, tt)))

-- What is blank stays so behind calls that put nothing there.
pub untouched_blank : (made : List Noted) (d s : ℕ) (x : Sector) (pool member : Guid) → Untouched made d s → IsBlank x pool member → IsBlank (replay made d s x) pool member
untouched_blank made d s x pool member u blank = of blank.stands
  where
    stays : (b : List ℕ) → x.stable ≡ b → Stands (replay made d s x) b
    stays b e = untouched_stands made d s x b u (record { stable = e; still = blank.still })

    of : (x.stable ≡ zero_sector) ⊎ (x.stable ≡ uberblock_bytes (blank_uberblock pool member)) → IsBlank (replay made d s x) pool member
    of (inl e) = let st = stays zero_sector e in record { still = st.still; stands = inl st.stable }
    of (inr e) = let st = stays (uberblock_bytes (blank_uberblock pool member)) e in record { still = st.still; stands = inr st.stable }
