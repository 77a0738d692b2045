-- A pool whose members were stamped begins with the invariant, and a stamp leaves what that wants.
use Rattle.std.proofs.Common.{
  ◌≡◌,
  ◌≢◌,
  ◌⊎◌,
  ℕ,
  zero,
  suc,
  ◌/◌,
  ◌%◌,
  ◌^◌,
  ◌<◌,
  ◌≤◌,
  ◌==◌,
  ◌&&◌,
  Bool,
  false,
  List,
  [],
  ◌∷◌,
  ◌++◌,
  Option,
  Some,
  None,
  refl,
  sym,
  ap,
  ◌∙◌,
  subst,
  inl,
  inr,
  arith,
}
use Rattle.std.proofs.lemmas.Bool.Decides.{nat_tests}
use Rattle.mp_base.specs.declared.number.Guid.{Guid}
use Rattle.mp_base.specs.declared.place.Key.{Key}
use Rattle.bank_core.specs.declared.bank.Fault.{Fault}
use Rattle.bank_core.specs.Asks.{Flushes, IsPart}
use Rattle.bank_core.specs.Disk.{Sector, Sectors, Noted, replay, run}
use Rattle.bank_core.specs.Memory.{zero_sector}
use Rattle.bank_core.specs.Standing.{Stands, Spares, Untouched}
use Rattle.bank_core.proofs.Standing.{part_spares, spares_more, untouched_stands}
use Rattle.label_store.specs.declared.member.Member.{Member}
use Rattle.label_store.specs.declared.uberblock.Uberblock.{Uberblock}
use Rattle.label_store.specs.Clearing.{stamp_sector}
use Rattle.label_store.specs.Layout.{labels_of}
use Rattle.label_store.specs.Plans.{label_writes, blank_uberblock, zero_ring, stamp_plan}
use Rattle.label_store.specs.Records.{place_at}
use Rattle.label_store.specs.Rounds.{uberblock_of}
use Rattle.label_store.specs.Uberblock.{uberblock_bytes, IsUberblock}
use Rattle.label_store.proofs.Bare.{zeros_none, blank_only}
use Rattle.label_store.proofs.Clearing.{stamped_rings}
use Rattle.txg_history.specs.Pages.{Codec}
use Rattle.txg_history.specs.Pools.{stamped}
use Rattle.txg_history.specs.Records.{Rec, Cell, IsIn, nothing, number_of}
use Rattle.txg_history.specs.Stamps.{IsBlank, AreStamped}
use Rattle.txg_history.specs.Survival.{Survives, IsFit, IsLog, IsNoted, IsKnownRing}
use Rattle.txg_history.proofs.Listing.{only_one}
use Rattle.txg_history.proofs.Logging.{true_not_false}

-- A ring's sector as a stamp leaves it has no other uberblock than the one that gives the identity.
pub blank_known : (records : List Rec) (pool : Guid) (m : Member) (x : Sector) → pool.0 < 2 ^ 64 → m.guid.0 < 2 ^ 64
    → IsBlank x pool m.guid → IsKnownRing records pool m x []
blank_known records pool m x p g blank = record {
  stable = λ u is. of u is blank.stands;
  written = λ bytes among. absurd among;
  pending = subst (λ w. IsNoted w []) (sym blank.still) tt;
}
  where
    of : (u : Uberblock) → IsUberblock u x.stable → (x.stable ≡ zero_sector) ⊎ (x.stable ≡ uberblock_bytes (blank_uberblock pool m.guid))
        → ((r : Rec) × IsIn r records × (u ≡ uberblock_of r.commit m)) ⊎ (u ≡ blank_uberblock pool m.guid)
    of u is (inl e) = absurd (zeros_none u (subst (IsUberblock u) e is))
    of u is (inr e) = inr (sym (blank_only pool m.guid u p g (subst (IsUberblock u) e is)))

no_cell : (cell : Cell) → None ≡ Some cell → ⊥
no_cell cell e = cc

no_rest : (q r : Rec) (rest : List Rec) → q ∷ [] ≡ r ∷ rest → [] ≡ rest
no_rest q r rest e = cc

-- no key stands in the first record
nothing_in : (pool : Guid) (r : Rec) (k : Key) (cell : Cell) → IsIn r (nothing pool ∷ []) → r.cells k ≡ Some cell → ⊥
nothing_in pool r k cell (inl e) at = no_cell cell (sym (ap (λ r. r.cells k) e) ∙ at)
nothing_in pool r k cell (inr i) at = i

-- A pool that was just stamped has the invariant.
pub stamped_survives : (c : Codec) (name : List ℕ) (pool : Guid) (member : ℕ → Bool) (guid : ℕ → Guid) (size room home : ℕ → ℕ) (sectors : Sectors)
    → AreStamped pool member guid size room home sectors → Survives c (stamped name pool member guid size room home sectors)
stamped_survives c name pool member guid size room home sectors st = record {
  labels = λ d s bytes is n. absurd n;
  puts = λ d s bytes is n. true_not_false false n.is_frozen refl;
  cells = λ d s bytes is n. absurd (nothing_in pool n.r n.k n.cell n.is_live n.cell_is);
  current = λ d s bytes is n. absurd (no_cell n.cell n.cell_is);
  scanned = λ d s bytes is n. true_not_false false n.running refl;
  rings = λ d place is inside. blank_known (nothing pool ∷ []) pool (record { dev = d; guid = guid d })
      (sectors d (place_at (size d) place)) st.in_range (st.guids d is) (st.rings d place is inside);
  status_live = λ d is. tt;
  roomy = record { sizes = st.sizes; rooms = st.rooms; guids = st.guids; no_top = st.no_top };
  placed = record {
    in_records = λ r d i is. only_one (λ r. (r.tops (guid d) ≡ 0) ⊎ (r.tops (guid d) ≡ home d)) (nothing pool) r (inl refl) i;
    in_tree = λ d is. inr refl;
    newest = λ f. absurd (cc);
  };
  one_key = record {
    mapped = λ r k cell i at. absurd (nothing_in pool r k cell i at);
    births = λ r k cell i at. absurd (nothing_in pool r k cell i at);
    one = λ r s j k a b i i' at bt one. absurd (nothing_in pool r j a i at);
    group_mapped = λ f. absurd (cc);
    group_births = λ f. absurd (cc);
    group_apart = λ f. absurd (cc);
    group_one = λ f. absurd (cc);
  };
  cover = λ is. absurd (cc);
  order = record {
    acked_live = inl refl;
    reads_live = inl refl;
    not_below = λ r i. omega arith;
    acked_top = omega arith;
    reads_top = omega arith;
    live_top = λ r i. only_one (λ r. (number_of r ≤ 0) ⊎ IsIn r []) (nothing pool) r (inl (omega arith)) i;
    newest_above = λ q rest e r i. absurd (subst (IsIn r) (sym (no_rest (nothing pool) q rest e)) i);
    given_below = λ r i. absurd i;
    fresh_above = λ f. absurd (cc);
    acks_below = λ r i. only_one (λ r. (r ≡ nothing pool) ⊎ (number_of r < 0)) (nothing pool) r (inl refl) i;
  };
  come_to = record {
    flushed_all = λ f. absurd (cc);
    begun_flushed = λ f. absurd (cc);
    tree = λ f. absurd (cc);
    contents = λ f. absurd (cc);
    newest = λ f. absurd (cc);
  };
  boards = record { reads_first = λ f. absurd (cc); first_top = λ f. absurd (cc); off_board = λ f. absurd (cc); on_board = λ f. absurd (cc) };
  logs = record {
    now = λ d is leaf g has. absurd (cc);
    in_records = λ r d i is leaf. only_one (λ r. 1 ≤ r.tops (guid d) → IsLog (number_of r) (r.owes (guid d)))
        (nothing pool) r (λ leaf. absurd (omega (arith, leaf))) i leaf;
    boarded = λ f. absurd (cc);
  };
  unbroken = record {
    still = λ d g is held. absurd (cc);
    newest = λ d g is held. absurd
        (cc);
    settled_still = λ d g is held. absurd (cc);
    settled_live = λ d g is held. absurd (cc);
  };
  bounds = record { open_one = λ on. absurd (cc); hi_low = λ on. absurd (cc); scrubbed = λ on. absurd (cc) };
  fit = λ r i. only_one (IsFit c name pool room) (nothing pool) r (
    inl refl,
    record {
      formed = λ level index cell low at. absurd
          (no_cell cell at);
      pages = λ level index cell low at. absurd
          (no_cell cell at);
      holes = λ level index j low lt none. refl;
    },
  ) i;
  pools = λ r i. only_one (λ r. r.commit.pool ≡ pool) (nothing pool) r refl i;
  in_range = st.in_range;
}

-- what a stamp brings to a slot, standing there, is blank
holds_blank : (x : Sector) (pool member : Guid) (slot : ℕ) → Stands x (stamp_sector pool member slot) → IsBlank x pool member
holds_blank x pool member zero st = record { still = st.still; stands = inr st.stable }
holds_blank x pool member (suc slot) st = record { still = st.still; stands = inl st.stable }

-- A whole stamp leaves every place blank.
pub stamp_blanks : (dev size : ℕ) (pool member : Guid) (made : List Noted) (sectors : Sectors) → 320 ≤ size → IsPart (stamp_plan dev size pool member) made None
    → (place : ℕ) → place < 128 → IsBlank (run made sectors dev (place_at size place)) pool member
stamp_blanks dev size pool member made sectors big part place inside =
    holds_blank _ pool member (place % 32) (stamped_rings dev size pool member made sectors big part (place / 32) (place % 32) (omega arith) (omega arith))

elsewhere : (dev d : ℕ) (x : Bool) → dev ≢ d → ((dev == d) && x) ≡ false
elsewhere dev d x ne = ap (λ b. b && x) (let other : (dev == d) ≡ false = grind (arith, nat_tests) in other)

writes_elsewhere : (dev : ℕ) (labels : List ℕ) (offset : ℕ) (bytes : List ℕ) (d s : ℕ) → dev ≢ d → Spares (label_writes dev labels offset bytes) d s
writes_elsewhere dev [] offset bytes d s ne = tt
writes_elsewhere dev (at ∷ labels) offset bytes d s ne = (elsewhere dev d _ ne, writes_elsewhere dev labels offset bytes d s ne)

-- A stamp puts nothing on another device, however far it came.
pub stamp_elsewhere : (dev size : ℕ) (pool member : Guid) (made : List Noted) (outcome : Option Fault) (d s : ℕ) → dev ≢ d
    → IsPart (stamp_plan dev size pool member) made outcome → Untouched made d s
stamp_elsewhere dev size pool member made outcome d s ne part =
    let u = uberblock_bytes (blank_uberblock pool member) in
    part_spares (stamp_plan dev size pool member) made outcome d s part
    (spares_more (label_writes dev (labels_of size) 32 zero_ring) (label_writes dev (labels_of size) 32 u ++ Flushes dev ∷ []) d s
    (writes_elsewhere dev (labels_of size) 32 zero_ring d s ne)
    (spares_more (label_writes dev (labels_of size) 32 u) (Flushes dev ∷ []) d s (writes_elsewhere dev (labels_of size) 32 u d s ne) (refl, tt)))

-- What is blank stays so behind calls that put nothing there.
pub untouched_blank : (made : List Noted) (d s : ℕ) (x : Sector) (pool member : Guid) → Untouched made d s
    → IsBlank x pool member → IsBlank (replay made d s x) pool member
untouched_blank made d s x pool member u blank = of blank.stands
  where
    stays : (b : List ℕ) → x.stable ≡ b → Stands (replay made d s x) b
    stays b e = untouched_stands made d s x b u (record { stable = e; still = blank.still })

    of : (x.stable ≡ zero_sector) ⊎ (x.stable ≡ uberblock_bytes (blank_uberblock pool member)) → IsBlank (replay made d s x) pool member
    of (inl e) = let st = stays zero_sector e in record { still = st.still; stands = inl st.stable }
    of (inr e) = let st = stays (uberblock_bytes (blank_uberblock pool member)) e in record { still = st.still; stands = inr st.stable }
