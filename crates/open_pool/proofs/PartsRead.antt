-- A page's pointers are put into a map that is being read: what holds of its part goes on.
use Rattle.std.proofs.Common.{◌≡◌, ◌≢◌, ◌⊎◌, inl, inr, ⊎_elim, ℕ, zero, suc, ◌+◌, ◌*◌, ◌<◌, ◌==◌, nat_lt, Bool, true, List, get_or, Option, Some, None, IfSome, refl, sym, ap, ◌∙◌, subst, arith}
use Rattle.std.specs.Prelude.{Decides}
use Rattle.std.proofs.lemmas.Bool.Decides.{Decides-eqb, Decides-ltb, Decides-and, Decides-or}
use Rattle.mp_base.specs.declared.place.Key.{Key}
use Rattle.mp_base.specs.declared.place.Pointer.{Pointer}
use Rattle.block_map.specs.Keys.{IsVolume, IsKey, IsPage, child, root}
use Rattle.block_map.specs.Map.{Map, pointer_at}
use Rattle.block_map.specs.Pointers.{hole, IsPointer}
use Rattle.block_map.specs.Reading.{Reading as MapReading, IsReadBefore, IsRead, NextPage, IsWritten, NamesPlaces}
use Rattle.block_map.proofs.ReadPages.{child_cases}
use Rattle.txg_history.specs.Records.{key}
use Rattle.pool_codec.proofs.KeysOfVolumes.{of_volume}
use Rattle.pool_moves.specs.PageReads.{is_read_before, IsKnown}
use Rattle.pool_moves.proofs.PagesBack.{before_more, not_itself}
use Rattle.open_pool.specs.Pages.{MapSource, is_past, IsPartOf, pages_left}
use Rattle.open_pool.proofs.RightPages.{child_is}

-- The order of pages.
before_decides : (a b : Key) → Decides (is_read_before a b) (IsReadBefore a b)
before_decides a b = Decides-or (nat_lt b.level a.level) _ (Decides-ltb b.level a.level)
    (Decides-and (a.level == b.level) (nat_lt a.index b.index) (Decides-eqb a.level b.level) (Decides-ltb a.index b.index))

pub before_of : (a b : Key) → is_read_before a b ≡ true → IsReadBefore a b
before_of a b = (before_decides a b).0

is_before : (a b : Key) → IsReadBefore a b → is_read_before a b ≡ true
is_before a b = (before_decides a b).1

pub order_cases : (a b : Key) → (is_read_before a b ≡ true) ⊎ ((a ≡ b) ⊎ (is_read_before b a ≡ true))
order_cases a b = ⊎_elim (λ lower. inl (is_before a b (inl lower))) (λ rest. ⊎_elim
    (λ level. ⊎_elim (λ less. inl (is_before a b (inr (level, less)))) (λ more. ⊎_elim (λ index. inr (inl (same a b level index)))
    (λ less. inr (inr (is_before b a (inr (sym level, less))))) more) (three a.index b.index))
    (λ lower. inr (inr (is_before b a (inl lower)))) rest) (three b.level a.level)
  where
    three : (m n : ℕ) → (m < n) ⊎ ((n ≡ m) ⊎ (n < m))
    three m n = grind arith

    same : (a b : Key) → a.level ≡ b.level → b.index ≡ a.index → a ≡ b
    same a b level index = ap (λ l. key l a.index) level ∙ ap (λ i. key b.level i) (sym index)

-- what is behind a page is behind all before it
pub past_more : (page : Key) (next : Option Key) (map : Map) (k : Key) → NextPage map page next → is_read_before k page ≡ true → is_past next k ≡ true
past_more page None map k is before = refl
past_more page (Some next) map k is before = before_more k page next before (is_before page next is.behind)

pub past_page : (page : Key) (next : Option Key) (map : Map) → NextPage map page next → is_past next page ≡ true
past_page page None map is = refl
past_page page (Some next) map is = is_before page next is.behind

-- a page between one and the next is a hole
pub hole_between : (page k : Key) (next : Option Key) (map : Map) → NextPage map page next → IsPage map.blocks k → is_read_before page k ≡ true
    → is_past next k ≡ true → pointer_at map k ≡ hole
hole_between page k None map is inside behind past = is k inside (before_of page k behind)
hole_between page k (Some next) map is inside behind past = is.first k inside (before_of page k behind) (before_of k next past)

pub known_more : (few many : Key → Bool) (k : Key) → ((a : Key) → few a ≡ true → many a ≡ true) → IsKnown few k → IsKnown many k
known_more few many k up (inl is) = inl is
known_more few many k up (inr b) = inr (record {
  level = b.level;
  index = b.index;
  j = b.j;
  low = b.low;
  few = b.few;
  is = b.is;
  reaches = up (key (suc b.level) b.index) b.reaches;
})

-- A key that is known isn't below a page that isn't reached yet.
pub known_apart : (level index j : ℕ) (k : Key) → j < 64 → IsKnown (λ above. is_read_before above (key (suc level) index)) k → level < 3
    → key level (64 * index + j) ≢ k
known_apart level index j k lt (inl is) low same = let e = ap (λ k. k.level) (same ∙ is) in absurd (omega (arith, low, e))
known_apart level index j k lt (inr b) low same =
    let level_is : b.level ≡ level = sym (ap (λ k. k.level) (same ∙ b.is)) in
    let index_is : 64 * b.index + b.j ≡ 64 * index + j = sym (ap (λ k. k.index) (same ∙ b.is)) in
    let one : b.index ≡ index = (let few = b.few in omega (arith, index_is, few, lt)) in
    not_itself (key (suc level) index) (subst (λ n. is_read_before (key (suc level) n) (key (suc level) index) ≡ true) one
    (subst (λ l. is_read_before (key (suc l) b.index) (key (suc level) index) ≡ true) level_is b.reaches))

-- its pointer stays
pub known_stays : (old new : MapReading) (level index : ℕ) (bytes : List ℕ) (k : Key) → level < 3 → IsRead old new (key (suc level) index) bytes
    → IsKnown (λ above. is_read_before above (key (suc level) index)) k → pointer_at new.map k ≡ pointer_at old.map k
known_stays old new level index bytes k low read known =
    read.read.others k (λ j lt same. known_apart level index j k lt known low (sym (child_is level index j) ∙ same))

pub root_key : (blocks : ℕ) → IsVolume blocks → IsKey blocks root
root_key blocks volume = (of_volume blocks root).1 (record { low = omega arith; inside = let some = volume.some in omega (arith, some) })

module _ (m : MapSource) (old new : MapReading) (level index : ℕ) (bytes : List ℕ) (part : IsPartOf m old) (low : level < 3)
    (next : old.next ≡ Some (key (suc level) index)) (read : IsRead old new (key (suc level) index) bytes) (places : NamesPlaces new.map) where
  abbrev page : Key
  page = key (suc level) index

  abbrev p : ℕ → Pointer
  p j = get_or read.pointers j hole

  known_before : (k : Key) → IsWritten (pointer_at old.map k) → IsKnown (λ above. is_read_before above (key (suc level) index)) k
  known_before k written = subst (λ n. IsKnown (is_past n) k) next (part.known k written)

  there : (j : ℕ) (k : Key) → j < 64 → child page j ≡ k → pointer_at new.map k ≡ p j
  there j k lt is = subst (λ c. pointer_at new.map c ≡ p j) is (read.read.there j lt)

  pointer_of : (k : Key) → IsPointer m.sectors (pointer_at new.map k)
  pointer_of k = ⊎_elim
      (λ c. subst (λ l. IsPointer l (pointer_at new.map k)) part.sectors_are
      (subst (IsPointer old.map.sectors) (sym (there c.0 k c.1 c.2)) (read.may.each c.0 c.1).pointer))
      (λ other. subst (IsPointer m.sectors) (sym (read.read.others k other)) (part.pointers k)) (child_cases page k)

  inside_of : (k : Key) → IsWritten (pointer_at new.map k) → IsKey m.blocks k
  inside_of k written = ⊎_elim
      (λ c. subst (λ n. IsKey n k) part.blocks_are (subst (IsKey old.map.blocks) c.2
      ((read.may.each c.0 c.1).inside (subst IsWritten (there c.0 k c.1 c.2) written))))
      (λ other. part.inside k (subst IsWritten (read.read.others k other) written)) (child_cases page k)

  known_of : (k : Key) → IsWritten (pointer_at new.map k) → IsKnown (is_past new.next) k
  known_of k written = ⊎_elim
      (λ c. inr (record {
        level = level;
        index = index;
        j = c.0;
        low = low;
        few = c.1;
        is = sym c.2 ∙ child_is level index c.0;
        reaches = past_page page new.next new.map read.next;
      }))
      (λ other. known_more (λ above. is_read_before above page) (is_past new.next) k (λ a before. past_more page new.next new.map a read.next before)
      (known_before k (subst IsWritten (read.read.others k other) written))) (child_cases page k)

  next_inside : (n : Option Key) → NextPage new.map page n → IfSome n (IsPage m.blocks)
  next_inside None is = tt
  next_inside (Some n) is = subst (λ b. IsPage b n) (read.read.volume.blocks ∙ part.blocks_are) is.inside

  pub part_next : IsPartOf m new
  part_next = record {
    volume = part.volume;
    blocks_are = read.read.volume.blocks ∙ part.blocks_are;
    sectors_are = read.read.volume.sectors ∙ part.sectors_are;
    number_is = read.number ∙ part.number_is;
    there = read.read.others root (λ j lt same. let e = ap (λ k. k.level) (sym (child_is level index j) ∙ same) in absurd (omega (arith, low, e))) ∙ part.there;
    page = next_inside new.next read.next;
    pointers = pointer_of;
    inside = inside_of;
    known = known_of;
    places = places;
  }

-- fewer pages are left
index_of : (blocks level index : ℕ) → IsVolume blocks → IsPage blocks (key level index) → index < 4096
index_of blocks zero index volume is = absurd (let some = is.level in omega (arith, some))
index_of blocks (suc zero) index volume is =
    let of = ((of_volume blocks (key 1 index)).0 is.key).inside in let most = volume.most in omega (arith, of, most)
index_of blocks (suc (suc zero)) index volume is =
    let of = ((of_volume blocks (key 2 index)).0 is.key).inside in let most = volume.most in omega (arith, of, most)
index_of blocks (suc (suc (suc zero))) index volume is =
    let of = ((of_volume blocks (key 3 index)).0 is.key).inside in let most = volume.most in omega (arith, of, most)
index_of blocks (suc (suc (suc (suc level)))) index volume is = absurd (let low = is.key.level in omega (arith, low))

pub fewer_left : (blocks : ℕ) (page : Key) (next : Option Key) (map : Map) → IsVolume blocks → map.blocks ≡ blocks → IsPage blocks page → NextPage map page next
    → pages_left next < pages_left (Some page)
fewer_left blocks page None map volume blocks_are inside is =
    let level = inside.level in let index = index_of blocks page.level page.index volume inside in omega (arith, level, index)
fewer_left blocks page (Some next) map volume blocks_are inside is =
    let level = inside.level in let index = index_of blocks page.level page.index volume inside in
    let level' = is.inside.level in let index' = index_of blocks next.level next.index volume (subst (λ b. IsPage b next) blocks_are is.inside) in
    ⊎_elim (λ lower. omega (arith, lower, level, index, level', index'))
    (λ same. let e = same.0 in let less = same.1 in omega (arith, e, less, level, index, index'))
    is.behind
