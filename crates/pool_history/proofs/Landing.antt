-- What a whole plan brings stands behind it, and which plans bring it.
use Rattle.std.proofs.Common.{◌≡◌, ℕ, ◌-◌, ◌<◌, zero, suc, List, [], ◌∷◌, ◌++◌, append_assoc, length, map, Some, None, refl, sym, ap, ◌∙◌, subst, arith, inl, inr}
use Rattle.std.specs.Prelude.{slice_get}
use Rattle.std.specs.List.{flat_map}
use Rattle.bank_core.specs.declared.bank.Fault.{Fault}
use Rattle.bank_core.specs.Asks.{Ask, Writes, Flushes, IsPart}
use Rattle.bank_core.specs.Disk.{Sector, Sectors, Noted, run, replay, sector_of, after_call}
use Rattle.bank_core.specs.Standing.{Stands, Spares}
use Rattle.bank_core.proofs.Blocks.{block_sectors}
use Rattle.bank_core.proofs.Standing.{untouched_stands, part_spares, spares_more}
use Rattle.pool_history.specs.Commits.{WritesLast, FlushesDevice, Brings}
use Rattle.pool_history.proofs.RoundParts.{first_bytes}
use Rattle.label_store.proofs.Clearing.{lands}

no_fault : (fault : Fault) → None ≡ Some fault → ⊥
no_fault fault e = cc

-- what stands behind a whole part stays through the rest of the plan, where this doesn't aim there
lands_ahead : (first second : List Ask) (made : List Noted) (d s : ℕ) (x : Sector) (b : List ℕ) → ((mine : List Noted) → IsPart first mine None → Stands (replay mine d s x) b)
    → Spares second d s → IsPart (first ++ second) made None → Stands (replay made d s x) b
lands_ahead [] second made d s x b brings sp part = untouched_stands made d s x b (part_spares second made None d s part sp) (brings [] refl)
lands_ahead (ask ∷ first) second [] d s x b brings sp part = absurd part
lands_ahead (ask ∷ first) second (noted ∷ made) d s x b brings sp (is, inl (ok, more)) =
    lands_ahead first second made d s (after_call noted d s x) b (λ mine part. brings (noted ∷ mine) (is, inl (ok, part))) sp more
lands_ahead (ask ∷ first) second (noted ∷ made) d s x b brings sp (is, inr (fault, failed, none, end)) = absurd (no_fault fault end)

-- the plan up to its flush of the device, and the rest
up_to_flush : (dev at : ℕ) (block : List ℕ) (before between later : List Ask)
    → before ++ Writes dev at block ∷ (between ++ Flushes dev ∷ later) ≡ (before ++ Writes dev at block ∷ (between ++ Flushes dev ∷ [])) ++ later
up_to_flush dev at block before between later =
    ap (λ l. before ++ Writes dev at block ∷ l) (sym (append_assoc between (Flushes dev ∷ []) later))
    ∙ sym (append_assoc before (Writes dev at block ∷ (between ++ Flushes dev ∷ [])) later)

-- What a plan brings stands behind it, where no call of it failed.
pub landed : (plan : List Ask) (dev at : ℕ) (block : List ℕ) (made : List Noted) (sectors : Sectors) → Brings plan dev at block → length block ≡ 4096
    → IsPart plan made None → Stands (run made sectors dev at) block
landed plan dev at block made sectors b long part =
    subst (Stands (replay made dev at (sectors dev at))) (first_bytes (at - at) block long (omega arith))
    (lands_ahead (b.before ++ Writes dev at block ∷ (b.between ++ Flushes dev ∷ [])) b.later made dev at (sectors dev at) (sector_of (at - at) block)
    (λ mine front. lands dev b.before at block b.between mine 1 at (sectors dev at) (block_sectors block long) (omega arith) (omega arith) b.last front)
    b.no_later (subst (λ l. IsPart l made None) (b.plan_is ∙ up_to_flush dev at block b.before b.between b.later) part))

left_spares : (first second : List Ask) (d s : ℕ) → Spares (first ++ second) d s → Spares first d s
left_spares [] second d s sp = tt
left_spares (ask ∷ first) second d s sp = (sp.0, left_spares first second d s sp.1)

right_spares : (first second : List Ask) (d s : ℕ) → Spares (first ++ second) d s → Spares second d s
right_spares [] second d s sp = sp
right_spares (ask ∷ first) second d s sp = right_spares first second d s sp.1

-- Writes, and then flushes.
pub writes_then_flushes : (writes flushes : List Ask) (dev at : ℕ) (block : List ℕ) → WritesLast writes dev at block → FlushesDevice flushes dev → Spares flushes dev at
    → Brings (writes ++ flushes) dev at block
writes_then_flushes writes flushes dev at block w f sp = record {
  before = w.before;
  between = w.later ++ f.before;
  later = f.later;
  plan_is = ap (λ l. l ++ flushes) w.asks_are
      ∙ append_assoc w.before (Writes dev at block ∷ w.later) flushes
      ∙ ap (λ l. w.before ++ Writes dev at block ∷ l) (ap (λ l. w.later ++ l) f.asks_are ∙ sym (append_assoc w.later f.before (Flushes dev ∷ f.later)));
  last = spares_more w.later f.before dev at w.last (left_spares f.before (Flushes dev ∷ f.later) dev at parts);
  no_later = (right_spares f.before (Flushes dev ∷ f.later) dev at parts).1;
}
  where
    parts : Spares (f.before ++ Flushes dev ∷ f.later) dev at
    parts = subst (λ l. Spares l dev at) f.asks_are sp

-- more asks on either side
pub writes_last_left : (first second : List Ask) (dev at : ℕ) (block : List ℕ) → WritesLast first dev at block → Spares second dev at → WritesLast (first ++ second) dev at block
writes_last_left first second dev at block w sp = record {
  before = w.before;
  later = w.later ++ second;
  asks_are = ap (λ l. l ++ second) w.asks_are ∙ append_assoc w.before (Writes dev at block ∷ w.later) second;
  last = spares_more w.later second dev at w.last sp;
}

pub writes_last_right : (first second : List Ask) (dev at : ℕ) (block : List ℕ) → WritesLast second dev at block → WritesLast (first ++ second) dev at block
writes_last_right first second dev at block w = record {
  before = first ++ w.before;
  later = w.later;
  asks_are = ap (λ l. first ++ l) w.asks_are ∙ sym (append_assoc first w.before (Writes dev at block ∷ w.later));
  last = w.last;
}

same_item : {A : Type 0} (x y : A) → Some x ≡ Some y → x ≡ y
same_item x y e = cc

no_item : {A : Type 0} (x : A) → None ≡ Some x → ⊥
no_item x e = cc

-- asks by items that each spare the sector
pub all_spare : {A : Type 0} (f : A → List Ask) (items : List A) (d s : ℕ) → ((j : ℕ) (item : A) → slice_get items j ≡ Some item → Spares (f item) d s) → Spares (flat_map f items) d s
all_spare f [] d s h = tt
all_spare f (item ∷ items) d s h = spares_more (f item) (flat_map f items) d s (h zero item refl) (all_spare f items d s (λ j other e. h (suc j) other e))

pub each_spares : {A : Type 0} (f : A → Ask) (items : List A) (d s : ℕ) → ((j : ℕ) (item : A) → slice_get items j ≡ Some item → Spares (f item ∷ []) d s) → Spares (map f items) d s
each_spares f [] d s h = tt
each_spares f (item ∷ items) d s h = ((h zero item refl).0, each_spares f items d s (λ j other e. h (suc j) other e))

-- one item's asks write the block, and those of later items spare the sector
pub all_write_last : {A : Type 0} (f : A → List Ask) (items : List A) (i : ℕ) (item : A) (dev at : ℕ) (block : List ℕ) → slice_get items i ≡ Some item → WritesLast (f item) dev at block
    → ((j : ℕ) (other : A) → i < j → slice_get items j ≡ Some other → Spares (f other) dev at) → WritesLast (flat_map f items) dev at block
all_write_last f [] i item dev at block e w h = absurd (no_item item e)
all_write_last f (first ∷ items) zero item dev at block e w h =
    writes_last_left (f first) (flat_map f items) dev at block (subst (λ x. WritesLast (f x) dev at block) (sym (same_item first item e)) w)
    (all_spare f items dev at (λ j other e. h (suc j) other (omega arith) e))
all_write_last f (first ∷ items) (suc i) item dev at block e w h =
    writes_last_right (f first) (flat_map f items) dev at block
    (all_write_last f items i item dev at block e w (λ j other lt e. h (suc j) other (omega arith) e))

pub each_write_last : {A : Type 0} (f : A → Ask) (items : List A) (i : ℕ) (item : A) (dev at : ℕ) (block : List ℕ) → slice_get items i ≡ Some item → f item ≡ Writes dev at block
    → ((j : ℕ) (other : A) → i < j → slice_get items j ≡ Some other → Spares (f other ∷ []) dev at) → WritesLast (map f items) dev at block
each_write_last f [] i item dev at block e is h = absurd (no_item item e)
each_write_last f (first ∷ items) zero item dev at block e is h = record {
  before = [];
  later = map f items;
  asks_are = ap (λ a. a ∷ map f items) (ap f (same_item first item e) ∙ is);
  last = each_spares f items dev at (λ j other e. h (suc j) other (omega arith) e);
}
each_write_last f (first ∷ items) (suc i) item dev at block e is h =
    writes_last_right (f first ∷ []) (map f items) dev at block
    (each_write_last f items i item dev at block e is (λ j other lt e. h (suc j) other (omega arith) e))

-- one item's device is flushed
pub each_flushed : {A : Type 0} (f : A → ℕ) (items : List A) (i : ℕ) (item : A) → slice_get items i ≡ Some item → FlushesDevice (map (λ x. Flushes (f x)) items) (f item)
each_flushed f [] i item e = absurd (no_item item e)
each_flushed f (first ∷ items) zero item e =
    record { before = []; later = map (λ x. Flushes (f x)) items; asks_are = ap (λ x. Flushes (f x) ∷ map (λ y. Flushes (f y)) items) (same_item first item e) }
each_flushed f (first ∷ items) (suc i) item e =
    let more = each_flushed f items i item e in
    record { before = Flushes (f first) ∷ more.before; later = more.later; asks_are = ap (λ l. Flushes (f first) ∷ l) more.asks_are }

pub flushes_spare : {A : Type 0} (f : A → ℕ) (items : List A) (d s : ℕ) → Spares (map (λ x. Flushes (f x)) items) d s
flushes_spare f [] d s = tt
flushes_spare f (item ∷ items) d s = (refl, flushes_spare f items d s)
