-- How many addresses two groups have together.
use Rattle.std.proofs.Common.{◌≡◌, ◌≢◌, ℕ, ◌+◌, ◌<◌, ◌≤◌, ◌&&◌, not, Bool, true, false, cond, eqb, List, [], ◌∷◌, ◌++◌}
use Rattle.std.proofs.Common.{length, map, All, Option, Some, refl, ap, sym, subst, ◌∙◌, ⊎_elim, arith}
use Rattle.std.specs.Prelude.{is_some}
use Rattle.std.proofs.lemmas.Bool.{cases_Bool, eqb-true, eq-eqb, ne_eqb, cond-true, cond-false}
use Rattle.std.proofs.lemmas.Bool.Decides.{nat_tests}
use Rattle.std.proofs.lemmas.List.Elements.{All-nil, All-cons, All-head, All-tail}
use Rattle.mp_base.specs.declared.place.Key.{Key}
use Rattle.block_map.specs.Map.{Map}
use Rattle.txg_engine.specs.declared.item.Item.{Item}
use Rattle.txg_engine.specs.declared.write.Write.{Write}
use Rattle.txg_engine.specs.Ending.{fresh_count}
use Rattle.txg_engine.specs.Freezing.{IsFreeze, addr_of, block_keys, page_keys}
use Rattle.txg_engine.specs.Frozen.{KeysRise}
use Rattle.txg_engine.specs.Items.{keys_of, frozen_block}
use Rattle.txg_engine.specs.Merging.{write_of}
use Rattle.txg_engine.specs.Writes.{RiseFrom, block_at, is_written}
use Rattle.txg_engine.proofs.Merged.{writes_of, block_of_writes, keys_rise, none_below, rise_tail, TakesLeast, Older, Newer, Both}
use Rattle.txg_engine.proofs.Rising.{RiseFromKey, level_from, pages_rise_all}

-- how many of these writes are at addresses that the newer ones lack
abbrev pub fresh_writes : List Write → List Write → ℕ
fresh_writes newer [] = 0
fresh_writes newer (write ∷ writes) = cond (not (is_written newer write.addr)) 1 0 + fresh_writes newer writes

-- by whether an address was written
abbrev if_fresh : Bool → ℕ
if_fresh written = cond (not written) 1 0

pub fresh_of_writes : (newer : List Write) (items : List Item) → fresh_count newer items ≡ fresh_writes newer (writes_of items)
fresh_of_writes newer [] = refl
fresh_of_writes newer (item ∷ items) = one (eqb item.key.level 0) (fresh_of_writes newer items)
  where
    one : (b : Bool) → fresh_count newer items ≡ fresh_writes newer (writes_of items)
        → cond (b && not (is_written newer item.key.index)) 1 0 + fresh_count newer items
        ≡ fresh_writes newer (cond b (write_of item ∷ writes_of items) (writes_of items))
    one true rest = ap (λ n. cond (not (is_written newer item.key.index)) 1 0 + n) rest
    one false rest = omega (arith, rest)

not_written : (low a : ℕ) (writes : List Write) → RiseFrom low writes → a < low → is_written writes a ≡ false
not_written low a writes rise below = ap is_some (none_below low a writes rise below)

-- a write below these makes none of them less fresh
fresh_above : (low : ℕ) (write : Write) (newer older : List Write) → RiseFrom low older → write.addr < low
    → fresh_writes (write ∷ newer) older ≡ fresh_writes newer older
fresh_above low write newer [] rise below = refl
fresh_above low write newer (v ∷ older) rise below =
    let least = rise.0 in
    let other : eqb write.addr v.addr ≡ false = ne_eqb write.addr v.addr (λ e. omega (arith, e)) in
    let here : is_written (write ∷ newer) v.addr ≡ is_written newer v.addr =
    ap is_some (cond-false (eqb write.addr v.addr) (Some write.block) (block_at newer v.addr) other) in
    ap (λ b. cond (not b) 1 0 + fresh_writes (write ∷ newer) older) here
    ∙ ap (λ n. cond (not (is_written newer v.addr)) 1 0 + n) (fresh_above (v.addr + 1) write newer older rise.1 (omega arith))

written_there : (write : Write) (newer : List Write) (a : ℕ) → write.addr ≡ a → is_written (write ∷ newer) a ≡ true
written_there write newer a is = ap is_some (cond-true (eqb write.addr a) (Some write.block) (block_at newer a) (eq-eqb write.addr a is))

-- each write that is taken is one address
pub count_taken : (out older newer older' newer' : List Write) (w : Write) → TakesLeast older newer older' newer' w
    → RiseFrom 0 (out ++ older)
    → (length newer' + fresh_writes newer' older') + 1 ≡ length newer + fresh_writes newer older
count_taken out older newer older' newer' w (Older is same behind) rise =
    let none : is_written newer w.addr ≡ false = not_written (w.addr + 1) w.addr newer behind (omega arith) in
    let first : fresh_writes newer (w ∷ older') ≡ cond (not (is_written newer w.addr)) 1 0 + fresh_writes newer older' = refl in
    let one : if_fresh (is_written newer w.addr) ≡ 1 = ap if_fresh none in
    rw (is, same) (omega (arith, first, one))
count_taken out older newer older' newer' w (Newer is same behind) rise =
    let rest : fresh_writes (w ∷ newer') older ≡ fresh_writes newer' older = fresh_above (w.addr + 1) w newer' older behind (omega arith) in
    rw (is, same) (omega (arith, rest))
count_taken out older newer older' newer' w (Both v is both one) rise =
    let behind : RiseFrom (v.addr + 1) older' = rise_tail 0 out v older' (subst (λ l. RiseFrom 0 (out ++ l)) both rise) in
    let there : is_written (w ∷ newer') v.addr ≡ true = written_there w newer' v.addr (sym one) in
    let first : fresh_writes (w ∷ newer') (v ∷ older') ≡ cond (not (is_written (w ∷ newer') v.addr)) 1 0 + fresh_writes (w ∷ newer') older' = refl in
    let none : if_fresh (is_written (w ∷ newer') v.addr) ≡ 0 = ap if_fresh there in
    let rest : fresh_writes (w ∷ newer') older' ≡ fresh_writes newer' older' = fresh_above (v.addr + 1) w newer' older' behind (omega (arith, one)) in
    rw (is, both) (omega (arith, first, none, rest))

-- blocks of 4,096 bytes
abbrev pub IsLong : Write → Type 0
IsLong write = length write.block ≡ 4096

pub long_writes : (items : List Item) → All (λ item. length item.block ≡ 4096) items → All IsLong (writes_of items)
long_writes [] all = All-nil IsLong
long_writes (item ∷ items) all =
    one (eqb item.key.level 0) (long_writes items (All-tail (λ (i : Item). length i.block ≡ 4096) item items all))
  where
    one : (b : Bool) → All IsLong (writes_of items) → All IsLong (cond b (write_of item ∷ writes_of items) (writes_of items))
    one true rest =
        All-cons IsLong (write_of item) (writes_of items) (All-head (λ (i : Item). length i.block ≡ 4096) item items all) rest
    one false rest = rest

-- what is taken and what is left
pub record AreLong (w : Write) (olds news : List Write) : Type 0 where
  pub taken : IsLong w
  pub older : All IsLong olds
  pub newer : All IsLong news

pub long_taken : (older newer older' newer' : List Write) (w : Write) → TakesLeast older newer older' newer' w
    → All IsLong older → All IsLong newer → AreLong w older' newer'
long_taken older newer older' newer' w (Older is same behind) old new =
    let all = subst (All IsLong) is old in
    record { taken = All-head IsLong w older' all; older = All-tail IsLong w older' all; newer = subst (All IsLong) (sym same) new }
long_taken older newer older' newer' w (Newer is same behind) old new =
    let all = subst (All IsLong) is new in
    record { taken = All-head IsLong w newer' all; older = subst (All IsLong) (sym same) old; newer = All-tail IsLong w newer' all }
long_taken older newer older' newer' w (Both v is both one) old new =
    let all = subst (All IsLong) is new in
    record {
      taken = All-head IsLong w newer' all;
      older = All-tail IsLong v older' (subst (All IsLong) both old);
      newer = All-tail IsLong w newer' all;
    }

-- a write at an address

-- whether the group has a block at an address that wasn't written so far
abbrev shared : (written : Bool) → Option (List ℕ) → ℕ
shared written block = cond written 0 (cond (is_some block) 1 0)

abbrev pub PutsAt : ℕ → List ℕ → (old new : List Write) → Type 0
PutsAt addr block old new = (a : ℕ) → block_at new a ≡ cond (eqb addr a) (Some block) (block_at old a)

module _ (addr : ℕ) (block : List ℕ) (old new : List Write) (puts : PutsAt addr block old new) where
  elsewhere : (a : ℕ) → addr ≢ a → is_written new a ≡ is_written old a
  elsewhere a other = ap is_some (puts a ∙ cond-false (eqb addr a) (Some block) (block_at old a) (ne_eqb addr a other))

  here : is_written new addr ≡ true
  here = ap is_some (puts addr ∙ cond-true (eqb addr addr) (Some block) (block_at old addr) (eq-eqb addr addr refl))

  behind_it : (low : ℕ) (older : List Write) → RiseFrom low older → addr < low → fresh_writes new older ≡ fresh_writes old older
  behind_it low [] rise below = refl
  behind_it low (v ∷ older) rise below =
      let least = rise.0 in
      ap (λ b. cond (not b) 1 0 + fresh_writes new older) (elsewhere v.addr (λ e. omega (arith, e)))
      ∙ ap (λ n. cond (not (is_written old v.addr)) 1 0 + n) (behind_it (v.addr + 1) older rise.1 (omega arith))

  -- the group's block at this address is fresh no more
  pub put_count : (low : ℕ) (older : List Write) → RiseFrom low older
      → fresh_writes new older + shared (is_written old addr) (block_at older addr) ≡ fresh_writes old older
  put_count low [] rise = none (is_written old addr)
    where
      none : (b : Bool) → 0 + cond b 0 0 ≡ 0
      none true = refl
      none false = refl
  put_count low (v ∷ older) rise = ⊎_elim same (differs (put_count (v.addr + 1) older rise.1)) (cases_Bool (eqb v.addr addr))
    where
      at_it : (b : Bool) → (if_fresh true + fresh_writes old older) + cond b 0 1 ≡ if_fresh b + fresh_writes old older
      at_it true = omega arith
      at_it false = omega arith

      same : eqb v.addr addr ≡ true → fresh_writes new (v ∷ older) + shared (is_written old addr) (block_at (v ∷ older) addr)
          ≡ fresh_writes old (v ∷ older)
      same is =
          let e : v.addr ≡ addr = eqb-true v.addr addr is in
          let found : block_at (v ∷ older) addr ≡ Some v.block = cond-true (eqb v.addr addr) (Some v.block) (block_at older addr) is in
          let rest : fresh_writes new older ≡ fresh_writes old older = behind_it (v.addr + 1) older rise.1 (omega arith) in
          ap (λ o. fresh_writes new (v ∷ older) + shared (is_written old addr) o) found
          ∙ ap (λ b. (if_fresh b + fresh_writes new older) + cond (is_written old addr) 0 1) (ap (is_written new) e ∙ here)
          ∙ ap (λ n. (if_fresh true + n) + cond (is_written old addr) 0 1) rest
          ∙ at_it (is_written old addr)
          ∙ ap (λ a. if_fresh (is_written old a) + fresh_writes old older) (sym e)

      differs : fresh_writes new older + shared (is_written old addr) (block_at older addr) ≡ fresh_writes old older
          → eqb v.addr addr ≡ false → fresh_writes new (v ∷ older) + shared (is_written old addr) (block_at (v ∷ older) addr)
          ≡ fresh_writes old (v ∷ older)
      differs rest is =
          let other : addr ≢ v.addr = λ e. not_same is (sym e) in
          let found : block_at (v ∷ older) addr ≡ block_at older addr = cond-false (eqb v.addr addr) (Some v.block) (block_at older addr) is in
          let first = elsewhere v.addr other in
          let a : if_fresh (is_written new v.addr) ≡ if_fresh (is_written old v.addr) = ap if_fresh first in
          let b : shared (is_written old addr) (block_at (v ∷ older) addr) ≡ shared (is_written old addr) (block_at older addr) =
          ap (shared (is_written old addr)) found in
          let all : fresh_writes new (v ∷ older) ≡ cond (not (is_written new v.addr)) 1 0 + fresh_writes new older = refl in
          let all' : fresh_writes old (v ∷ older) ≡ cond (not (is_written old v.addr)) 1 0 + fresh_writes old older = refl in
          omega (arith, rest, a, b, all, all')
        where
          not_same : eqb v.addr addr ≡ false → v.addr ≢ addr
          not_same is e = grind (arith, nat_tests)

-- a write adds one address where neither group has it
pub put_counted : (items : List Item) (old new : List Write) (addr : ℕ) (block : List ℕ) → KeysRise items → PutsAt addr block old new
    → fresh_count new items + shared (is_written old addr) (frozen_block items addr) ≡ fresh_count old items
put_counted items old new addr block rise puts =
    let both = put_count addr block old new puts 0 (writes_of items) (keys_rise items rise) in
    ap (λ n. n + shared (is_written old addr) (frozen_block items addr)) (fresh_of_writes new items)
    ∙ ap (λ o. fresh_writes new (writes_of items) + shared (is_written old addr) o) (block_of_writes items addr)
    ∙ both ∙ sym (fresh_of_writes old items)

-- a group that was just frozen has the addresses that were written

abbrev blocks_in : List Key → ℕ
blocks_in [] = 0
blocks_in (k ∷ ks) = cond (eqb k.level 0) 1 0 + blocks_in ks

all_fresh : (items : List Item) → fresh_count [] items ≡ blocks_in (keys_of items)
all_fresh [] = refl
all_fresh (item ∷ items) = one (eqb item.key.level 0) ∙ ap (λ n. cond (eqb item.key.level 0) 1 0 + n) (all_fresh items)
  where
    one : (b : Bool) → cond (b && true) 1 0 + fresh_count [] items ≡ cond b 1 0 + fresh_count [] items
    one true = refl
    one false = refl

blocks_append : (xs ys : List Key) → blocks_in (xs ++ ys) ≡ blocks_in xs + blocks_in ys
blocks_append [] ys = omega arith
blocks_append (x ∷ xs) ys = let rest = blocks_append xs ys in omega arith

blocks_all : (writes : List Write) → blocks_in (block_keys writes) ≡ length writes
blocks_all [] = refl
blocks_all (write ∷ writes) = let rest = blocks_all writes in omega arith

no_blocks : (level index : ℕ) (ks : List Key) → 1 ≤ level → RiseFromKey level index ks → blocks_in ks ≡ 0
no_blocks level index [] one rise = refl
no_blocks level index (k ∷ ks) one rise =
    let above = level_from level index k rise.0 in
    let page : eqb k.level 0 ≡ false = ne_eqb k.level 0 (λ e. omega (arith, e)) in
    let none : cond (eqb k.level 0) 1 0 ≡ cond {A = ℕ} false 1 0 = ap (λ b. cond {A = ℕ} b 1 0) page in
    let all : blocks_in (k ∷ ks) ≡ cond (eqb k.level 0) 1 0 + blocks_in ks = refl in
    omega (arith, no_blocks k.level (k.index + 1) ks (omega arith) rise.1, none, all)

pub frozen_counted : (number : ℕ) (old new : Map) (writes : List Write) (items : List Item) → IsFreeze number old new writes items
    → fresh_count [] items ≡ length writes
frozen_counted number old new writes items freeze =
    let pages = page_keys (map addr_of writes) in
    all_fresh items ∙ ap blocks_in freeze.keys ∙ blocks_append (block_keys writes) pages
    ∙ (let none = no_blocks 1 0 pages (omega arith) (pages_rise_all (map addr_of writes)) in
    let all = blocks_all writes in omega arith)
