-- No record is found on cleared rings, and no identity but the one that a stamp gave.
use Rattle.std.proofs.Common.{◌≡◌, ◌⊎◌, ℕ, zero, suc, ◌+◌, ◌-◌, ◌*◌, ◌/◌, ◌%◌, ◌^◌, ◌<◌, ◌≤◌, ◌==◌, ◌&&◌, Bool, true, false, List, [], ◌∷◌, ◌++◌, take, get_or, Option, Some, refl, sym, ap, ◌∙◌, subst, inl, inr, arith, ⊎_elim}
use Rattle.std.specs.Prelude.{slice_get, slice_index}
use Rattle.std.proofs.lemmas.Bool.Decides.{nat_tests}
use Rattle.std.proofs.lemmas.Option.{same_Some}
use Rattle.mp_base.specs.declared.number.Guid.{Guid}
use Rattle.bank_core.specs.declared.bank.Fault.{Fault}
use Rattle.bank_core.specs.Asks.{Ask, Flushes, IsPart}
use Rattle.bank_core.specs.Disk.{Sector, Sectors, Pending, Nothing, Written, Failing, Noted, covers, sectors_in, sector_of, run, IsClean, IsImage, ShowsStable}
use Rattle.bank_core.specs.Memory.{zero_sector}
use Rattle.bank_core.specs.Standing.{Stands, Spares, Untouched}
use Rattle.bank_core.proofs.Standing.{part_spares, spares_more, untouched_stands, untouched_front}
use Rattle.label_store.specs.declared.rule.Head.{Head}
use Rattle.label_store.specs.declared.uberblock.Uberblock.{Uberblock}
use Rattle.label_store.specs.Clearing.{IsBare, RingsHold, IsOffRings, IsOnTheWay, IsHeld, IsUnforged, IsReadUnforged, ShowsOnly, AreConfigsUnhurt, MayShow, stamp_sector}
use Rattle.label_store.specs.Identities.{HasIdentity}
use Rattle.label_store.specs.Layout.{labels_of}
use Rattle.label_store.specs.Newest.{Parts, IsVerifiedBy}
use Rattle.label_store.specs.Plans.{label_writes, blank_uberblock, zero_ring, stamp_plan, wipe_plan}
use Rattle.label_store.specs.Records.{place_at, config_at, AreUnhurt, IsVerified}
use Rattle.label_store.specs.Uberblock.{uberblock_bytes, IsUberblock}
use Rattle.label_store.proofs.Bare.{zeros_bare, zeros_none, blank_bare, blank_only, blank_in_range, length-zeros}
use Rattle.label_store.proofs.Fading.{AllBring, IsWiped, IsStamped, part_fades, fading_shows, wipe_brings, stamp_brings}
use Rattle.label_store.proofs.Places.{spared, label_is, labels_apart, uberblock_sectors}
use Rattle.label_store.proofs.Writing.{ring_sectors}

pub stamp_bare : (pool member : Guid) (slot : ℕ) → pool.0 < 2 ^ 64 → member.0 < 2 ^ 64 → IsBare (stamp_sector pool member slot)
stamp_bare pool member zero p m = blank_bare pool member p m
stamp_bare pool member (suc slot) p m = zeros_bare

-- What is held of a sector on which bytes stand is these.
pub standing_held : (x : Sector) (stood bytes : List ℕ) → Stands x stood → IsHeld x bytes → bytes ≡ stood
standing_held x stood bytes st (inl e) = e ∙ st.stable
standing_held x stood bytes st (inr way) = absurd (subst (λ p. IsOnTheWay p bytes) st.still way)

-- On no unforged image a record is verified.
pub none_verified : (head_of : List ℕ → Option Head) (size : ℕ) (sectors : ℕ → Sector) (image : ℕ → List ℕ) (bytes : ℕ → List ℕ)
    → ((slot : ℕ) → slot < 32 → IsBare (bytes slot)) → RingsHold size sectors bytes → IsUnforged 1 size sectors image
    → (place : ℕ) (u : Uberblock) (config : List ℕ) → IsVerified head_of size (λ s. Some (image s)) place u config → ⊥
none_verified head_of size sectors image bytes_at bare hold unforged place u config v =
    let inside : place < 128 = v.inside in
    let slot : place % 32 < 32 = omega arith in
    let at = place_at size place in
    let bytes : image at ≡ uberblock_bytes u = same_Some (image at) (uberblock_bytes u) v.uberblock in
    let is : IsUberblock u (image at) = record { in_range = v.is_record.in_range; bytes = bytes } in
    let st = hold (place / 32) (place % 32) (omega arith) slot in
    let stood = standing_held (sectors at) (bytes_at (place % 32)) (image at) st
    (unforged place u inside is v.is_record.some) in
    bare (place % 32) slot u (subst (IsUberblock u) stood is) v.is_record.some

-- An image of undamaged rings is unforged.
pub unhurt_unforged : (least size : ℕ) (sectors : ℕ → Sector) (image : ℕ → List ℕ) (bytes : ℕ → List ℕ)
    → RingsHold size sectors bytes
    → AreUnhurt size sectors → IsImage sectors image → IsUnforged least size sectors image
unhurt_unforged least size sectors image bytes hold unhurt shows place u inside is enough =
    let label : place / 32 < 4 = omega arith in
    let slot : place % 32 < 32 = omega arith in
    let st = hold (place / 32) (place % 32) label slot in
    inl (shows (place_at size place)
    (record { still = st.still; sound = unhurt (place / 32) (32 + place % 32) label (omega arith) }))

-- A read of such a ring shows in each undamaged slot what stands there,
pub slot_shown : (size : ℕ) (sectors : ℕ → Sector) (bytes : ℕ → List ℕ) (label slot : ℕ) (ring : List ℕ) → label < 4
    → slot < 32 → RingsHold size sectors bytes
    → (sectors (slice_index (labels_of size) label + (32 + slot))).damaged ≡ false → slot < sectors_in ring
    → ShowsStable sectors (slice_index (labels_of size) label + 32) ring → sector_of slot ring ≡ bytes slot
slot_shown size sectors bytes label slot ring few small hold sound inside shows =
    let st = hold label slot few small in
    let at : slice_index (labels_of size) label + 32 + slot ≡ slice_index (labels_of size) label + (32 + slot) = omega arith in
    shows slot inside (rw at (record { still = st.still; sound = sound })) ∙ ap (λ s. (sectors s).stable) at ∙ st.stable

-- and unforged it shows no uberblock but what stands there.
pub only_shown : (least size : ℕ) (sectors : ℕ → Sector) (bytes : ℕ → List ℕ) (label : ℕ) (ring : List ℕ) → label < 4
    → RingsHold size sectors bytes
    → IsReadUnforged least sectors (slice_index (labels_of size) label + 32) ring → ShowsOnly least ring bytes
only_shown least size sectors bytes label ring few hold unforged slot u inside is enough =
    let ring_at = slice_index (labels_of size) label + 32 in
    let at : slice_index (labels_of size) label + (32 + slot) ≡ ring_at + slot = omega arith in
    let st : Stands (sectors (ring_at + slot)) (bytes slot) = subst (λ s. Stands (sectors s) (bytes slot)) at (hold label slot few inside) in
    standing_held (sectors (ring_at + slot)) (bytes slot) (sector_of slot ring) st (unforged slot u inside is enough)

-- By parts that show such rings no record is verified.
pub none_looked : (head_of : List ℕ → Option Head) (parts : Parts) (name : List ℕ) (bytes : ℕ → List ℕ) → ((slot : ℕ) → slot < 32 → IsBare (bytes slot))
    → ((label : ℕ) (ring : List ℕ) → label < 4 → slice_get parts (2 * label) ≡ Some (Some ring)
    → ShowsOnly 1 ring bytes)
    → (place : ℕ) (u : Uberblock) (config : List ℕ) → place < 128 → IsVerifiedBy head_of parts name place u config → ⊥
none_looked head_of parts name bytes bare shown place u config inside v =
    let label : place / 32 < 4 = omega arith in
    let slot : place % 32 < 32 = omega arith in
    let same = shown (place / 32) v.ring label v.ring_is (place % 32) u slot v.is_uberblock v.some in
    bare (place % 32) slot u (subst (IsUberblock u) same v.is_uberblock) v.some

-- what the slot of an identity has there
identity_shown : (pool member : Guid) (ring : List ℕ) (bytes : ℕ → List ℕ) → ShowsOnly 0 ring bytes
    → (h : HasIdentity pool member ring) → IsUberblock h.u (bytes h.slot)
identity_shown pool member ring bytes shown h =
    subst (IsUberblock h.u) (shown h.slot h.u h.inside h.is_uberblock (omega arith)) h.is_uberblock

-- A wiped ring gives no identity.
pub zeros_identity : (pool member : Guid) (ring : List ℕ) → ShowsOnly 0 ring (λ slot. zero_sector)
    → HasIdentity pool member ring → ⊥
zeros_identity pool member ring shown h = zeros_none h.u (identity_shown pool member ring (λ slot. zero_sector) shown h)

-- A stamped one gives the one of the stamp, by its first slot.
pub stamp_identity : (pool member : Guid) (ring : List ℕ) → pool.0 < 2 ^ 64 → member.0 < 2 ^ 64
    → sector_of 0 ring ≡ stamp_sector pool member 0
    → HasIdentity pool member ring
stamp_identity pool member ring p m shown = record {
  slot = 0;
  inside = omega arith;
  u = blank_uberblock pool member;
  is_uberblock = record { in_range = blank_in_range pool member p m; bytes = shown };
  pool_is = refl;
  member_is = refl;
}

-- and no other
pub only_identity : (pool member : Guid) (ring : List ℕ) (pool' member' : Guid) → pool.0 < 2 ^ 64 → member.0 < 2 ^ 64
    → ShowsOnly 0 ring (stamp_sector pool member) → HasIdentity pool' member' ring → (pool' ≡ pool) × (member' ≡ member)
only_identity pool member ring pool' member' p m shown h =
    of h.slot (identity_shown pool' member' ring (stamp_sector pool member) shown h)
  where
    of : (slot : ℕ) → IsUberblock h.u (stamp_sector pool member slot) → (pool' ≡ pool) × (member' ≡ member)
    of zero is =
        let same = blank_only pool member h.u p m is in
        (sym h.pool_is ∙ sym (ap (λ u. u.pool) same), sym h.member_is ∙ sym (ap (λ u. u.member) same))
    of (suc slot) is = absurd (zeros_none h.u is)

-- What rings hold they hold behind calls that put nothing there.
pub still_hold : (dev size : ℕ) (sectors : Sectors) (bytes : ℕ → List ℕ) (more : List Noted) → RingsHold size (sectors dev) bytes
    → ((label slot : ℕ) → label < 4 → slot < 32 → Untouched more dev (slice_index (labels_of size) label + (32 + slot))) → RingsHold size (run more sectors dev) bytes
still_hold dev size sectors bytes more hold off label slot few inside = untouched_stands more dev _ _ _ (off label slot few inside) (hold label slot few inside)

-- Off the rings nothing is put.
off_ring : (size s k n : ℕ) → k < 4 → n ≤ 32 → IsOffRings size s → get_or (labels_of size) k 0 + 32 ≤ s → s < get_or (labels_of size) k 0 + 32 + n → ⊥
off_ring size s k n few small off above below =
    off k (s - (get_or (labels_of size) k 0 + 32)) few (omega arith) (omega arith)

off_other : (dev d : ℕ) (t : Bool) → (dev == d) ≡ t → (at n s : ℕ) → (d ≡ dev → at ≤ s → s < at + n → ⊥) → ((dev == d) && covers at n s) ≡ false
off_other dev d true e at n s off = spared dev at n d s (off (grind (arith, nat_tests)))
off_other dev d false e at n s off = rw e refl

off_writes : (dev size : ℕ) (bytes : List ℕ) (n d s : ℕ) → sectors_in bytes ≡ n → n ≤ 32 → (d ≡ dev → IsOffRings size s)
    → Spares (label_writes dev (labels_of size) 32 bytes) d s
off_writes dev size bytes n d s long small off = (one 0 (omega arith), (one 1 (omega arith), (one 2 (omega arith), (one 3 (omega arith), tt))))
  where
    one : (k : ℕ) → k < 4 → ((dev == d) && covers (get_or (labels_of size) k 0 + 32) (sectors_in bytes) s) ≡ false
    one k few = ap (λ m. (dev == d) && covers (get_or (labels_of size) k 0 + 32) m s) long
        ∙ off_other dev d (dev == d) refl (get_or (labels_of size) k 0 + 32) n s (λ same. off_ring size s k n few small (off same))

wipe_spares : (dev size d s : ℕ) → (d ≡ dev → IsOffRings size s) → Spares (wipe_plan dev size) d s
wipe_spares dev size d s off =
    spares_more (label_writes dev (labels_of size) 32 zero_ring) (Flushes dev ∷ []) d s
    (off_writes dev size zero_ring 32 d s (ring_sectors zero_ring refl) (omega arith) off) (refl, tt)

stamp_spares : (dev size : ℕ) (pool member : Guid) (d s : ℕ) → (d ≡ dev → IsOffRings size s) → Spares (stamp_plan dev size pool member) d s
stamp_spares dev size pool member d s off =
    let u = uberblock_bytes (blank_uberblock pool member) in
    spares_more (label_writes dev (labels_of size) 32 zero_ring) (label_writes dev (labels_of size) 32 u ++ Flushes dev ∷ []) d s
    (off_writes dev size zero_ring 32 d s (ring_sectors zero_ring refl) (omega arith) off)
    (spares_more (label_writes dev (labels_of size) 32 u) (Flushes dev ∷ []) d s
    (off_writes dev size u 1 d s (uberblock_sectors (blank_uberblock pool member) (length-zeros 32)) (omega arith) off) (refl, tt))

pub wipe_elsewhere : (dev size : ℕ) (made : List Noted) (outcome : Option Fault) (d s : ℕ) → (d ≡ dev → IsOffRings size s)
    → IsPart (wipe_plan dev size) made outcome → Untouched made d s
wipe_elsewhere dev size made outcome d s off part = part_spares (wipe_plan dev size) made outcome d s part (wipe_spares dev size d s off)

pub stamp_elsewhere : (dev size : ℕ) (pool member : Guid) (made : List Noted) (outcome : Option Fault) (d s : ℕ) → (d ≡ dev → IsOffRings size s)
    → IsPart (stamp_plan dev size pool member) made outcome → Untouched made d s
stamp_elsewhere dev size pool member made outcome d s off part =
    part_spares (stamp_plan dev size pool member) made outcome d s part (stamp_spares dev size pool member d s off)

pub config_off : (size label i : ℕ) → 320 ≤ size → label < 4 → i < 28 → IsOffRings size (get_or (labels_of size) label 0 + (4 + i))
config_off size label i big few small other slot few' inside = λ same.
    let a = get_or (labels_of size) label 0 in
    let b = get_or (labels_of size) other 0 in
    let one = labels_apart size a b big (label_is size label few) (label_is size other few') (omega (arith, same)) (omega (arith, same)) in
    omega (arith, same, one)

-- At each moment of such calls, an uberblock that an unforged image shows was held there before them, or they brought it.
held_before : (Kind : List ℕ → Type 0) (asks : List Ask) (least dev size : ℕ) (made : List Noted)
    (outcome : Option Fault)
    (sectors : Sectors) (k : ℕ) (image : ℕ → List ℕ) → ((d s : ℕ) → AllBring Kind asks d s) → IsPart asks made outcome
    → IsUnforged least size (run (take k made) sectors dev) image
    → (place : ℕ) (u : Uberblock) → place < 128 → IsUberblock u (image (place_at size place)) → least ≤ u.number.0
    → IsHeld (sectors dev (place_at size place)) (image (place_at size place)) ⊎ Kind (image (place_at size place))
held_before Kind asks least dev size made outcome sectors k image bring part unforged place u inside is enough =
    let at = place_at size place in
    let fades = part_fades Kind asks made outcome dev at (sectors dev at) (sectors dev at) k part (bring dev at)
    (record { stable = inl (inl refl); pending = inl refl }) in
    fading_shows Kind (sectors dev at) _ (image at) fades (unforged place u inside is enough)

pub wipe_held : (least dev size : ℕ) (made : List Noted) (outcome : Option Fault) (sectors : Sectors) (k : ℕ)
    (image : ℕ → List ℕ) → IsPart (wipe_plan dev size) made outcome
    → IsUnforged least size (run (take k made) sectors dev) image
    → (place : ℕ) (u : Uberblock) → place < 128 → IsUberblock u (image (place_at size place)) → least ≤ u.number.0
    → IsHeld (sectors dev (place_at size place)) (image (place_at size place))
wipe_held least dev size made outcome sectors k image part unforged place u inside is enough =
    let at = place_at size place in
    ⊎_elim {A = IsHeld (sectors dev at) (image at)} {B = IsWiped (image at)} (λ held. held)
    (λ zeros. absurd (zeros_none u (subst (IsUberblock u) zeros is)))
    (held_before IsWiped (wipe_plan dev size) least dev size made outcome sectors k image (wipe_brings dev size) part
    unforged place u inside is enough)

stamped_blank : (pool member : Guid) (u : Uberblock) (bytes : List ℕ) → pool.0 < 2 ^ 64 → member.0 < 2 ^ 64
    → IsStamped pool member bytes → IsUberblock u bytes → u ≡ blank_uberblock pool member
stamped_blank pool member u bytes p m (inl zeros) is = absurd (zeros_none u (subst (IsUberblock u) zeros is))
stamped_blank pool member u bytes p m (inr blank) is = sym
    (blank_only pool member u p m (subst (IsUberblock u) blank is))

pub stamp_held : (least dev size : ℕ) (pool member : Guid) (made : List Noted) (outcome : Option Fault)
    (sectors : Sectors) (k : ℕ) (image : ℕ → List ℕ) → pool.0 < 2 ^ 64 → member.0 < 2 ^ 64
    → IsPart (stamp_plan dev size pool member) made outcome
    → IsUnforged least size (run (take k made) sectors dev) image
    → (place : ℕ) (u : Uberblock) → place < 128 → IsUberblock u (image (place_at size place)) → least ≤ u.number.0
    → IsHeld (sectors dev (place_at size place)) (image (place_at size place)) ⊎ (u ≡ blank_uberblock pool member)
stamp_held least dev size pool member made outcome sectors k image p m part unforged place u inside is enough =
    let at = place_at size place in
    ⊎_elim {A = IsHeld (sectors dev at) (image at)} {B = IsStamped pool member (image at)} (λ held. inl held)
    (λ stamped. inr (stamped_blank pool member u (image at) p m stamped is))
    (held_before (IsStamped pool member) (stamp_plan dev size pool member) least dev size made outcome sectors k image
    (stamp_brings dev size pool member) part unforged place u inside is enough)

-- Where a crash inside the calls left these bytes of a sector, one before them could have left the same, or, of a clean
-- sector, what was stable.
abbrev left_before : Pending → (damaged : Bool) → (stable bytes : List ℕ) → List ℕ
left_before Nothing false stable bytes = stable
left_before Nothing true stable bytes = bytes
left_before (Written on_way) damaged stable bytes = bytes
left_before (Failing on_way) damaged stable bytes = bytes

left_clean : (x : Sector) (bytes : List ℕ) → IsClean x → left_before x.pending x.damaged x.stable bytes ≡ x.stable
left_clean x bytes c =
    ap (λ p. left_before p x.damaged x.stable bytes) c.still ∙ ap (λ d. left_before Nothing d x.stable bytes) c.sound

left_same : (p : Pending) (damaged : Bool) (stable bytes : List ℕ) → (p ≡ Nothing → damaged ≡ false → bytes ≡ stable)
    → left_before p damaged stable bytes ≡ bytes
left_same Nothing false stable bytes same = sym (same refl refl)
left_same Nothing true stable bytes same = refl
left_same (Written on_way) damaged stable bytes same = refl
left_same (Failing on_way) damaged stable bytes same = refl

left_either : (p : Pending) (damaged : Bool) (stable bytes : List ℕ) (P Q : List ℕ → Type 0) → (P stable → Q stable)
    → (P bytes → Q bytes)
    → P (left_before p damaged stable bytes) → Q (left_before p damaged stable bytes)
left_either Nothing false stable bytes P Q a b = a
left_either Nothing true stable bytes P Q a b = b
left_either (Written on_way) damaged stable bytes P Q a b = b
left_either (Failing on_way) damaged stable bytes P Q a b = b

-- At each moment of calls that bring no record, what an unforged image verifies one of the moment before may verify.
pub shown_before : (head_of : List ℕ → Option Head) (asks : List Ask) (dev size : ℕ) (made : List Noted)
    (outcome : Option Fault) (sectors : Sectors) (k : ℕ) (image : ℕ → List ℕ) → 320 ≤ size
    → ((place : ℕ) (u : Uberblock) → place < 128 → IsUberblock u (image (place_at size place)) → 1 ≤ u.number.0
    → IsHeld (sectors dev (place_at size place)) (image (place_at size place)))
    → ((d s : ℕ) → (d ≡ dev → IsOffRings size s) → Spares asks d s)
    → IsPart asks made outcome → AreConfigsUnhurt size (sectors dev) (run (take k made) sectors dev)
    → IsImage (run (take k made) sectors dev) image
    → (place : ℕ) (u : Uberblock) (config : List ℕ) → IsVerified head_of size (λ s. Some (image s)) place u config
    → MayShow head_of size (sectors dev) place u config
shown_before head_of asks dev size made outcome sectors k image big held spare part unhurt shows place u config v = record {
  image = before;
  is_image = λ s clean. left_clean (sectors dev s) (image s) clean;
  unforged = λ place' u' inside is some.
      let at = place_at size place' in
      left_either (sectors dev at).pending (sectors dev at).damaged (sectors dev at).stable (image at) (IsUberblock u')
      (IsHeld (sectors dev at))
      (λ is'. inl refl) (λ is'. held place' u' inside is' some) is;
  verified = record {
    inside = v.inside;
    uberblock = ap Some (place_same ∙ bytes);
    label = v.label;
    is_label = v.is_label;
    blob = v.blob;
    shown = λ i lt. ap Some (config_same i (omega (arith, lt, v.is_record.most))) ∙ v.shown i lt;
    is_record = v.is_record;
  };
}
  where
    before : ℕ → List ℕ
    before s = left_before (sectors dev s).pending (sectors dev s).damaged (sectors dev s).stable (image s)

    bytes : image (place_at size place) ≡ uberblock_bytes u
    bytes = same_Some (image (place_at size place)) (uberblock_bytes u) v.uberblock

    place_same : before (place_at size place) ≡ image (place_at size place)
    place_same =
        let at = place_at size place in
        left_same (sectors dev at).pending (sectors dev at).damaged (sectors dev at).stable (image at)
        (λ still sound. standing_held (sectors dev at) (sectors dev at).stable (image at)
        (record { stable = refl; still = still })
        (held place u v.inside (record { in_range = v.is_record.in_range; bytes = bytes }) v.is_record.some))

    config_same : (i : ℕ) → i < 28 → before (config_at size v.label + i) ≡ image (config_at size v.label + i)
    config_same i small =
        let s = config_at size v.label + i in
        left_same (sectors dev s).pending (sectors dev s).damaged (sectors dev s).stable (image s)
        (λ still sound.
        let at : get_or (labels_of size) v.label 0 + (4 + i) ≡ config_at size v.label + i = omega arith in
        let off : IsOffRings size s = subst (IsOffRings size) at (config_off size v.label i big v.is_label small) in
        let spared = part_spares asks made outcome dev s part (spare dev s (λ same. off)) in
        let untouched = untouched_front made k dev s spared in
        let st = untouched_stands (take k made) dev s (sectors dev s) (sectors dev s).stable untouched
        (record { stable = refl; still = still }) in
        shows s (record { still = st.still; sound = unhurt v.label i v.is_label small sound }) ∙ st.stable)

pub wipe_before : (head_of : List ℕ → Option Head) (dev size : ℕ) (made : List Noted) (outcome : Option Fault)
    (sectors : Sectors) (k : ℕ) (image : ℕ → List ℕ) → 320 ≤ size → IsPart (wipe_plan dev size) made outcome
    → AreConfigsUnhurt size (sectors dev) (run (take k made) sectors dev)
    → IsImage (run (take k made) sectors dev) image → IsUnforged 1 size (run (take k made) sectors dev) image
    → (place : ℕ) (u : Uberblock) (config : List ℕ) → IsVerified head_of size (λ s. Some (image s)) place u config
    → MayShow head_of size (sectors dev) place u config
wipe_before head_of dev size made outcome sectors k image big part unhurt shows unforged =
    shown_before head_of (wipe_plan dev size) dev size made outcome sectors k image big
    (wipe_held 1 dev size made outcome sectors k image part unforged) (wipe_spares dev size) part unhurt shows

blank_number : (pool member : Guid) (u : Uberblock) → u ≡ blank_uberblock pool member → 1 ≤ u.number.0 → ⊥
blank_number pool member u same some = let number : u.number.0 ≡ 0 = ap (λ v. v.number.0) same in omega arith

pub stamp_before : (head_of : List ℕ → Option Head) (dev size : ℕ) (pool member : Guid) (made : List Noted)
    (outcome : Option Fault) (sectors : Sectors) (k : ℕ) (image : ℕ → List ℕ) → 320 ≤ size
    → pool.0 < 2 ^ 64 → member.0 < 2 ^ 64 → IsPart (stamp_plan dev size pool member) made outcome
    → AreConfigsUnhurt size (sectors dev) (run (take k made) sectors dev)
    → IsImage (run (take k made) sectors dev) image → IsUnforged 1 size (run (take k made) sectors dev) image
    → (place : ℕ) (u : Uberblock) (config : List ℕ) → IsVerified head_of size (λ s. Some (image s)) place u config
    → MayShow head_of size (sectors dev) place u config
stamp_before head_of dev size pool member made outcome sectors k image big p m part unhurt shows unforged =
    shown_before head_of (stamp_plan dev size pool member) dev size made outcome sectors k image big held
    (stamp_spares dev size pool member) part unhurt shows
  where
    held : (place : ℕ) (u : Uberblock) → place < 128 → IsUberblock u (image (place_at size place)) → 1 ≤ u.number.0
        → IsHeld (sectors dev (place_at size place)) (image (place_at size place))
    held place u inside is some =
        let at = place_at size place in
        ⊎_elim {A = IsHeld (sectors dev at) (image at)} {B = u ≡ blank_uberblock pool member} (λ was. was)
        (λ same. absurd (blank_number pool member u same some))
        (stamp_held 1 dev size pool member made outcome sectors k image p m part unforged place u inside is some)
