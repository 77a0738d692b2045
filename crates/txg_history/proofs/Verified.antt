-- The record of a member's sound labels is verified there; and labels that hold a record are sound where they are undamaged
-- and were read.
use Rattle.std.proofs.Common.{◌≡◌, ◌⊎◌, ℕ, ◌+◌, ◌%◌, ◌/◌, ◌<◌, ◌≤◌, true, false, List, Some, refl, sym, ap, ◌∙◌, subst, arith, inl, inr, get_or}
use Rattle.bank_core.specs.Disk.{sectors_in, sector_of}
use Rattle.label_store.specs.Layout.{labels_of, slot_of}
use Rattle.label_store.specs.Records.{AreUnhurt, IsRecord, config_at, place_at}
use Rattle.label_store.specs.Rounds.{config_of, uberblock_of}
use Rattle.label_store.specs.Uberblock.{uberblock_bytes}
use Rattle.txg_history.specs.Events.{Known}
use Rattle.txg_history.specs.Pages.{Codec}
use Rattle.txg_history.specs.Moves.{ReadsTrue}
use Rattle.txg_history.specs.Needs.{Held, InPart, odd_part, even_part}
use Rattle.txg_history.specs.Openings.{IsVerifiedOn, IsReadWhole}
use Rattle.txg_history.specs.Pools.{Pool, seat}
use Rattle.txg_history.specs.Premises.{HoldsLabels, IsReadClean, HasSoundLabels}
use Rattle.txg_history.specs.Records.{Rec, number_of}
use Rattle.txg_history.specs.Survival.{Fits, Survives}
use Rattle.txg_history.proofs.ReadingBack.{numbered_fits}
use Rattle.txg_history.proofs.RoundParts.{taken_fits}

-- what was read of a clean sector is what stands there
read_is : (p : Pool) (known : Known) (d s : ℕ) (bytes : List ℕ) → ReadsTrue p.sectors known → IsReadClean p known d s bytes → known d s ≡ Some bytes
read_is p known d s bytes true_to r = r.is_read.1 ∙ ap Some (true_to d s r.is_read.0 r.is_read.1 r.clean ∙ r.stands)

-- the good member's record is verified there
pub good_verified : (c : Codec) (p : Pool) (known : Known) (d : ℕ) → Survives c p → ReadsTrue p.sectors known → (sound : HasSoundLabels p known d)
    → IsVerifiedOn c.head_of p.size known p.name d (uberblock_of sound.promised.commit (seat p d)) (config_of sound.promised.commit)
good_verified c p known d sv true_to sound =
    let fits = numbered_fits c p sound.promised sv sound.is_live sound.numbered in
    let rec : IsRecord c.head_of (uberblock_of sound.promised.commit (seat p d)) sound.promised.commit.blob (config_of sound.promised.commit) =
    fits.is_record (seat p d) (sv.roomy.guids d sound.is_member) in
    record {
      place = sound.place;
      verified = record {
        inside = sound.in_rings;
        uberblock = read_is p known d _ _ true_to sound.uberblock;
        label = sound.label;
        is_label = sound.is_label;
        blob = sound.promised.commit.blob;
        shown = λ i lt. read_is p known d _ _ true_to (sound.config i lt);
        is_record = rec;
      };
      is_read = sound.part_read;
      head = rec.headed.head;
      reads = rec.headed.reads;
      name_is = fits.name_is rec.headed.head rec.headed.reads;
    }

-- what is held on an undamaged sector that was read
held_clean : (p : Pool) (known : Known) (d s : ℕ) (bytes : List ℕ) → Held (p.sectors d s) bytes → (p.sectors d s).damaged ≡ false
    → (shown : List ℕ) × (known d s ≡ Some shown) → IsReadClean p known d s bytes
held_clean p known d s bytes h sound read = record { clean = record { still = h.still; sound = sound }; stands = of h.stands; is_read = read }
  where
    of : ((p.sectors d s).stable ≡ bytes) ⊎ ((p.sectors d s).damaged ≡ true) → (p.sectors d s).stable ≡ bytes
    of (inl e) = e
    of (inr hurt) = absurd (cc)

-- its uberblock in the ring of label 0, and its configuration in one of labels 0 and 1
record HasIt (p : Pool) (d : ℕ) (r : Rec) : Type 0 where
  ring : Held (p.sectors d (32 + slot_of (number_of r))) (uberblock_bytes (uberblock_of r.commit (seat p d)))
  label : ℕ
  is_label : label < 4
  part : (i : ℕ) → i < sectors_in r.commit.blob → Held (p.sectors d (config_at (p.size d) label + i)) (sector_of i r.commit.blob)

has_it : (p : Pool) (d : ℕ) (r : Rec) → HoldsLabels p d r → HasIt p d r
has_it p d r holds = of holds.part
  where
    ring : Held (p.sectors d (32 + slot_of (number_of r))) (uberblock_bytes (uberblock_of r.commit (seat p d)))
    ring = holds.ring (32 + slot_of (number_of r)) (uberblock_bytes (uberblock_of r.commit (seat p d))) (refl, refl)

    of : ((s : ℕ) (bytes : List ℕ) → InPart odd_part r s bytes → Held (p.sectors d s) bytes)
        ⊎ ((s : ℕ) (bytes : List ℕ) → InPart even_part r s bytes → Held (p.sectors d s) bytes)
        → HasIt p d r
    of (inl odd) = record { ring = ring; label = 1; is_label = omega arith; part = λ i lt. odd (68 + i) (sector_of i r.commit.blob) (i, lt, refl, refl) }
    of (inr even) = record { ring = ring; label = 0; is_label = omega arith; part = λ i lt. even (4 + i) (sector_of i r.commit.blob) (i, lt, refl, refl) }

-- the place of a number in the ring of label 0
slot_place : (size number : ℕ) → place_at size (number % 32) ≡ 0 + (32 + number % 32)
slot_place size number =
    let lt : number % 32 < 32 = omega arith in
    let none : (number % 32) / 32 ≡ 0 = omega arith in
    let same : (number % 32) % 32 ≡ number % 32 = omega arith in
    ap (λ l. get_or (labels_of size) l 0 + (32 + (number % 32) % 32)) none ∙ ap (λ t. 0 + (32 + t)) same

-- a sector of a label, counted from the label's first
label_sector_is : (a i : ℕ) → a + (4 + i) ≡ (a + 4) + i
label_sector_is a i = omega arith

-- Labels that hold a record are sound where none of their sectors is damaged and each was read.
pub labels_sound : (c : Codec) (p : Pool) (known : Known) (d : ℕ) (r : Rec) → Survives c p → p.member d ≡ true → HoldsLabels p d r
    → AreUnhurt (p.size d) (p.sectors d) → IsReadWhole (p.size d) (known d) → HasSoundLabels p known d
labels_sound c p known d r sv member holds unhurt whole =
    let fits : Fits c p.name p.pool p.room r = taken_fits c p.name p.pool p.room r (p.guid d) (sv.fit r holds.is_live) holds.takes in
    let pr = has_it p d r holds in
    let rec = fits.is_record (seat p d) (sv.roomy.guids d member) in
    let few : sectors_in r.commit.blob ≤ 28 = rec.most in
    let low : number_of r % 32 < 32 = omega arith in
    let ring_at : 0 + (32 + number_of r % 32) ≡ 32 + slot_of (number_of r) = omega arith in
    let label_at = get_or (labels_of (p.size d)) pr.label 0 in
    record {
      is_member = member;
      promised = r;
      is_live = holds.is_live;
      numbered = rec.some;
      place = number_of r % 32;
      in_rings = omega arith;
      uberblock = subst (λ s. IsReadClean p known d s (uberblock_bytes (uberblock_of r.commit (seat p d)))) (sym (slot_place (p.size d) (number_of r)))
          (held_clean p known d _ _ (subst (λ s. Held (p.sectors d s) (uberblock_bytes (uberblock_of r.commit (seat p d)))) (sym ring_at) pr.ring)
          (unhurt 0 (32 + number_of r % 32) (omega arith) (omega arith)) (whole 0 (32 + number_of r % 32) (omega arith) (omega arith) (omega arith)));
      label = pr.label;
      is_label = pr.is_label;
      config = λ i lt. let at : label_at + (4 + i) ≡ (label_at + 4) + i = label_sector_is label_at i in
          held_clean p known d _ _ (pr.part i lt)
          (subst (λ s. (p.sectors d s).damaged ≡ false) at (unhurt pr.label (4 + i) pr.is_label (omega arith)))
          (subst (λ s. (bytes : List ℕ) × (known d s ≡ Some bytes)) at (whole pr.label (4 + i) pr.is_label (omega arith) (omega arith)));
      part_read = whole pr.label 4 pr.is_label (omega arith) (omega arith);
    }
