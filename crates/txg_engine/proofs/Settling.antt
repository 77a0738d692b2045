-- Keys that get their places, one after another.
use Rattle.std.proofs.Common.{◌≡◌, ◌≢◌, ◌⊎◌, ℕ, zero, suc, ◌+◌, ◌≤◌, ◌==◌, ◌&&◌, not, cond, Bool, true, false, List, [], ◌∷◌, ◌++◌, length, Option, Some, None, refl, ⊎_elim, sym, ap, ◌∙◌, subst, arith, inl, inr, append_assoc, append-nil, length-append}
use Rattle.std.specs.Prelude.{Contains}
use Rattle.std.proofs.lemmas.Bool.{true≢false, cases_eq}
use Rattle.std.proofs.lemmas.Bool.Decides.{nat_tests}
use Rattle.std.proofs.lemmas.List.{map-append}
use Rattle.std.proofs.lemmas.List.Elements.{All-nil, All-cons, All-append, Contains-append_left, Contains-append_right, Contains-append_cases, Contains-push, Contains-push_cases}
use Rattle.mp_base.specs.declared.place.Key.{Key}
use Rattle.mp_base.specs.declared.place.Place.{Place}
use Rattle.mp_base.specs.declared.place.Pointer.{Pointer}
use Rattle.block_map.specs.Map.{Map, pointer_at, is_free, is_pinned, is_open, IsLeastOpen, FreeIs, children}
use Rattle.block_map.specs.NumberSet.{one_if}
use Rattle.block_map.specs.Pages.{page_bytes}
use Rattle.block_map.specs.Places.{IsPlace}
use Rattle.txg_history.specs.Groups.{same_key}
use Rattle.txg_history.specs.Records.{key}
use Rattle.txg_engine.specs.declared.item.Item.{Item}
use Rattle.txg_engine.specs.declared.write.Write.{Write}
use Rattle.txg_engine.specs.Freezing.{AreNextPlaces, IsNextPlace, Takes, IsSigned, IsFilled, AreFilled, AreSettled, SettlesNext}
use Rattle.txg_engine.specs.Items.{key_of, keys_of, place_of, places_of, laid, frozen_block}
use Rattle.txg_engine.specs.Writes.{block_at}

are_equal : (a b : ℕ) → a ≡ b → (a == b) ≡ true
are_equal a b e = grind (arith, nat_tests)

-- two places are one, or they aren't
pub place_cases : (p q : Place) → (p ≡ q) ⊎ (p ≢ q)
place_cases p q =
    ⊎_elim {A = p.top ≡ q.top} {B = p.top ≢ q.top}
    (λ top. ⊎_elim {A = p.sector ≡ q.sector} {B = p.sector ≢ q.sector}
    (λ sector. inl (ap (λ t. place t p.sector) top ∙ ap (λ s. place q.top s) sector))
    (λ apart. inr (λ e. apart (ap (λ (r : Place). r.sector) e)))
    (cases_eq p.sector q.sector))
    (λ apart. inr (λ e. apart (ap (λ (r : Place). r.top) e)))
    (cases_eq p.top q.top)
  where
    place : ℕ → ℕ → Place
    place t s = record { top = t; sector = s }

only_one : (q p : Place) → Contains (q ∷ []) p → q ≡ p
only_one q p (zero, lt, e) = e
only_one q p (suc k, lt, e) = absurd (omega arith)

-- a place is among these, or it isn't
pub contains_cases : (ps : List Place) (p : Place) → Contains ps p ⊎ (Contains ps p → ⊥)
contains_cases [] p = inr (λ c. absurd (omega (arith, c.1)))
contains_cases (q ∷ ps) p =
    ⊎_elim {A = Contains ps p} {B = Contains ps p → ⊥}
    (λ there. inl (Contains-append_right (q ∷ []) ps p there))
    (λ not. ⊎_elim {A = q ≡ p} {B = q ≢ p}
    (λ e. inl (subst (Contains (q ∷ ps)) e (0, omega arith, refl)))
    (λ other. inr (λ c. ⊎_elim (λ first. other (only_one q p first)) not (Contains-append_cases (q ∷ []) ps p c)))
    (place_cases q p))
    (contains_cases ps p)

-- the first of two blocks
abbrev pub first_block : Option (List ℕ) → Option (List ℕ) → Option (List ℕ)
first_block (Some block) other = Some block
first_block None other = other

first_assoc : (x y z : Option (List ℕ)) → first_block (first_block x y) z ≡ first_block x (first_block y z)
first_assoc (Some block) y z = refl
first_assoc None y z = refl

-- the block of one key
one_block : Item → ℕ → Option (List ℕ)
one_block item a = cond (same_key item.key (key 0 a)) (Some item.block) None

at_first : (t : Bool) (block : List ℕ) (other : Option (List ℕ)) → cond t (Some block) other ≡ first_block (cond t (Some block) None) other
at_first true block other = refl
at_first false block other = refl

frozen_snoc : (items : List Item) (item : Item) (a : ℕ) → frozen_block (items ++ item ∷ []) a ≡ first_block (frozen_block items a) (one_block item a)
unfolding one_block
frozen_snoc [] item a = refl
frozen_snoc (x ∷ items) item a =
    ap (cond (same_key x.key (key 0 a)) (Some x.block)) (frozen_snoc items item a)
    ∙ at_first (same_key x.key (key 0 a)) x.block (first_block (frozen_block items a) (one_block item a))
    ∙ sym (first_assoc (one_block x a) (frozen_block items a) (one_block item a))
    ∙ ap (λ o. first_block o (one_block item a)) (sym (at_first (same_key x.key (key 0 a)) x.block (frozen_block items a)))

places_snoc : (old : Map) (given ps : List Place) (p : Place) → AreNextPlaces old given ps → IsNextPlace old (given ++ ps) p → AreNextPlaces old given (ps ++ p ∷ [])
places_snoc old given [] p are next = (subst (λ g. IsNextPlace old g p) (append-nil given) next, tt)
places_snoc old given (q ∷ ps) p are next =
    (are.0, places_snoc old (given ++ q ∷ []) ps p are.1 (subst (λ g. IsNextPlace old g p) (sym (append_assoc given (q ∷ []) ps)) next))

filled_snoc : (at : Key → Pointer) (before items : List Item) (item : Item) → AreFilled at before items → IsFilled (laid (before ++ items) at) item
    → AreFilled at before (items ++ item ∷ [])
filled_snoc at before [] item are next = (subst (λ b. IsFilled (laid b at) item) (append-nil before) next, tt)
filled_snoc at before (x ∷ items) item are next =
    (are.0, filled_snoc at (before ++ x ∷ []) items item are.1 (subst (λ b. IsFilled (laid b at) item) (sym (append_assoc before (x ∷ []) items)) next))

open_not_free : (m : Map) (p : Place) → is_free m p ≡ false → is_open m p ≡ false
open_not_free m p e = ap (λ b. b && not (is_pinned m p)) e

module _ (old mid : Map) (ps : List Place) (takes : Takes old mid ps) where
  same_open : (p : Place) → (Contains ps p → ⊥) → is_open mid p ≡ is_open old p
  same_open p none = ap (λ b. b && not (is_pinned mid p)) (takes.others p none) ∙ ap (λ b. is_free old p && not b) (takes.pinned p)

  module _ (p : Place) (least : IsLeastOpen mid p) where
    fresh : Contains ps p → ⊥
    fresh c = true≢false (sym least.passes ∙ open_not_free mid p (takes.taken p c))

    -- the least place that is open now is the next one
    next_place : IsNextPlace old ps p
    next_place = record {
      inside = subst (λ sectors. IsPlace sectors p) takes.volume.sectors least.inside;
      passes = sym (same_open p fresh) ∙ least.passes;
      fresh = fresh;
      least = λ other before passes. ⊎_elim (λ there. there)
          (λ not. absurd (true≢false (sym passes ∙ sym (same_open other not) ∙ least.least other before))) (contains_cases ps other);
    }

    takes_next : (new : Map) → FreeIs false mid new p → Takes old new (ps ++ p ∷ [])
    takes_next new free = record {
      taken = λ q c. ⊎_elim {A = q ≡ p} {B = q ≢ p} (λ e. ap (is_free new) e ∙ free.now)
          (λ other. free.others q other ∙ ⊎_elim (λ there. takes.taken q there) (λ e. absurd (other (sym e))) (Contains-push_cases ps p q c)) (place_cases q p);
      others = λ q not. free.others q (λ e. not (subst (Contains (ps ++ p ∷ [])) (sym e) (Contains-push ps p)))
          ∙ takes.others q (λ c. not (Contains-append_left ps (p ∷ []) q c));
      pinned = λ q. free.pinned q ∙ takes.pinned q;
      keys = λ k. free.keys k ∙ takes.keys k;
      volume = record { blocks = free.volume.blocks ∙ takes.volume.blocks; sectors = free.volume.sectors ∙ takes.volume.sectors };
      count = omega (arith, free.count, takes.count, ap one_if least.passes, ap one_if (open_not_free new p free.now), length-append ps (p ∷ []));
    }

places_append : (items : List Item) (item : Item) → places_of (items ++ item ∷ []) ≡ places_of items ++ item.pointer.place ∷ []
places_append items item = map-append place_of items (item ∷ [])

pub keys_append : (items : List Item) (item : Item) → keys_of (items ++ item ∷ []) ≡ keys_of items ++ item.key ∷ []
keys_append items item = map-append key_of items (item ∷ [])

pub settled_none : (number : ℕ) (m : Map) → AreSettled number m m []
settled_none number m = record {
  places = tt;
  takes = record {
    taken = λ p c. absurd (omega (arith, c.1));
    others = λ p not. refl;
    pinned = λ p. refl;
    keys = λ k. refl;
    volume = record { blocks = refl; sectors = refl };
    count = omega arith;
  };
  signed = All-nil (IsSigned number);
  filled = tt;
}

-- One key more has its place. A page has the pointers of the keys so far.
pub settled_next : {number : ℕ} {old mid new : Map} {items after : List Item} {k : Key} {block : List ℕ} → AreSettled number old mid items
    → (1 ≤ k.level → block ≡ page_bytes (children (laid items (pointer_at old)) k)) → SettlesNext number mid new items after k block → AreSettled number old new after
settled_next {number} {old} {mid} {new} {items} {after} {k} {block} so page next =
    let item = next.item in
    let filled : IsFilled (laid items (pointer_at old)) item =
    λ level. next.block_is ∙ page (subst (λ (j : Key). 1 ≤ j.level) next.key_is level) ∙ ap (λ j. page_bytes (children (laid items (pointer_at old)) j)) (sym next.key_is) in
    subst (AreSettled number old new) (sym next.more) (record {
      places = subst (AreNextPlaces old []) (sym (places_append items item))
          (places_snoc old [] (places_of items) item.pointer.place so.places (next_place old mid (places_of items) so.takes item.pointer.place next.least));
      takes = subst (Takes old new) (sym (places_append items item)) (takes_next old mid (places_of items) so.takes item.pointer.place next.least new next.taken);
      signed = All-append (IsSigned number) items (item ∷ []) so.signed (All-cons (IsSigned number) item [] next.signed (All-nil (IsSigned number)));
      filled = filled_snoc (pointer_at old) [] items item so.filled filled;
    })

pub one_place_less : {number : ℕ} {mid new : Map} {items after : List Item} {k : Key} {block : List ℕ} → SettlesNext number mid new items after k block → new.count + 1 ≡ mid.count
one_place_less {number} {mid} {new} next =
    let p = next.item.pointer.place in
    omega (arith, next.taken.count, ap one_if next.least.passes, ap one_if (open_not_free new p next.taken.now))

pub keys_next : {number : ℕ} {mid new : Map} {items after : List Item} {k : Key} {block : List ℕ} → SettlesNext number mid new items after k block → keys_of after ≡ keys_of items ++ k ∷ []
keys_next {number} {mid} {new} {items} {after} {k} next = ap keys_of next.more ∙ keys_append items next.item ∙ ap (λ j. keys_of items ++ j ∷ []) next.key_is

-- a block more, of the writes that are left
pub block_next : {number : ℕ} {mid new : Map} {items after : List Item} (write : Write) (writes : List Write) (a : ℕ) → SettlesNext number mid new items after (key 0 write.addr) write.block
    → first_block (frozen_block after a) (block_at writes a) ≡ first_block (frozen_block items a) (block_at (write ∷ writes) a)
unfolding one_block
block_next {number} {mid} {new} {items} {after} write writes a next =
    ap (λ l. first_block (frozen_block l a) (block_at writes a)) next.more
    ∙ ap (λ o. first_block o (block_at writes a)) (frozen_snoc items next.item a)
    ∙ first_assoc (frozen_block items a) (one_block next.item a) (block_at writes a)
    ∙ ap (first_block (frozen_block items a))
    (ap (λ o. first_block o (block_at writes a)) (ap (λ j. cond (same_key j (key 0 a)) (Some next.item.block) None) next.key_is ∙ ap (λ b. cond (write.addr == a) (Some b) None) next.block_is)
    ∙ sym (at_first (write.addr == a) write.block (block_at writes a)))

not_block : (k : Key) (a : ℕ) → 1 ≤ k.level → same_key k (key 0 a) ≡ false
not_block k a level = ap (λ b. b && (k.index == a)) (not_zero k.level level)
  where
    not_zero : (n : ℕ) → 1 ≤ n → (n == 0) ≡ false
    not_zero n le = grind (arith, nat_tests)

first_none : (o : Option (List ℕ)) → first_block o None ≡ o
first_none (Some block) = refl
first_none None = refl

-- a page is no block
pub page_next : {number : ℕ} {mid new : Map} {items after : List Item} {k : Key} {block : List ℕ} (a : ℕ) → 1 ≤ k.level → SettlesNext number mid new items after k block
    → frozen_block after a ≡ frozen_block items a
unfolding one_block
page_next {number} {mid} {new} {items} {after} {k} a level next =
    ap (λ l. frozen_block l a) next.more ∙ frozen_snoc items next.item a
    ∙ ap (first_block (frozen_block items a)) (ap (λ j. cond (same_key j (key 0 a)) (Some next.item.block) None) next.key_is ∙ ap (λ b. cond b (Some next.item.block) None) (not_block k a level))
    ∙ first_none (frozen_block items a)

pub length_next : {number : ℕ} {mid new : Map} {items after : List Item} {k : Key} {block : List ℕ} → SettlesNext number mid new items after k block → length after ≡ length items + 1
length_next {number} {mid} {new} {items} next = ap length next.more ∙ length-append items (next.item ∷ [])
