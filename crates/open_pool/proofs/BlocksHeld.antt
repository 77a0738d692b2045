-- Blocks that stand in memory have 4,096 bytes; and what a map says of an address.
use Rattle.std.proofs.Common.{◌≡◌, ℕ, ◌≤◌, ◌<◌, ◌==◌, cond, Bool, true, false, List, [], ◌∷◌, length, replicate, All, Option, Some, None, refl, sym, ap, ◌∙◌, subst, arith}
use Rattle.std.specs.Prelude.{IfSome}
use Rattle.std.proofs.lemmas.Bool.Decides.{nat_tests}
use Rattle.std.proofs.lemmas.List.Elements.{All-head, All-tail}
use Rattle.std.proofs.lemmas.Option.{none-some, same_Some}
use Rattle.mp_base.specs.Block.{zero_block, zeros, block_bytes}
use Rattle.mp_base.specs.declared.place.Pointer.{Pointer}
use Rattle.block_map.specs.Keys.{IsKey, keys_at}
use Rattle.block_map.specs.Pointers.{written}
use Rattle.txg_history.specs.Groups.{same_key}
use Rattle.txg_history.specs.Records.{key}
use Rattle.txg_engine.specs.declared.item.Item.{Item}
use Rattle.txg_engine.specs.declared.write.Write.{Write}
use Rattle.txg_engine.specs.Items.{frozen_block}
use Rattle.txg_engine.specs.Writes.{block_at}

abbrev pub IsLong : List ℕ → Type 0
IsLong block = length block ≡ 4096

first_long : (t : Bool) (block : List ℕ) (rest : Option (List ℕ)) → IsLong block → IfSome rest IsLong → IfSome (cond t (Some block) rest) IsLong
first_long true block rest here later = here
first_long false block rest here later = later

pub writes_long : (writes : List Write) (a : ℕ) → All (λ write. length write.block ≡ 4096) writes → IfSome (block_at writes a) IsLong
writes_long [] a long = tt
writes_long (write ∷ writes) a long =
    first_long (write.addr == a) write.block (block_at writes a) (All-head (λ (write : Write). length write.block ≡ 4096) write writes long)
    (writes_long writes a (All-tail (λ (write : Write). length write.block ≡ 4096) write writes long))

pub items_long : (items : List Item) (a : ℕ) → All (λ item. length item.block ≡ 4096) items → IfSome (frozen_block items a) IsLong
items_long [] a long = tt
items_long (item ∷ items) a long =
    first_long (same_key item.key (key 0 a)) item.block (frozen_block items a) (All-head (λ (item : Item). length item.block ≡ 4096) item items long)
    (items_long items a (All-tail (λ (item : Item). length item.block ≡ 4096) item items long))

pub some_long : (o : Option (List ℕ)) (block : List ℕ) → o ≡ Some block → IfSome o IsLong → IsLong block
some_long o block is long = subst (λ o. IfSome o IsLong) is long

pub zeros_block : (n : ℕ) (bytes : List ℕ) → n ≡ 4096 → bytes ≡ replicate n 0 → bytes ≡ zero_block
unfolding zero_block zeros block_bytes
zeros_block n bytes long is = is ∙ ap (λ m. replicate m 0) long

pub block_key : (blocks a : ℕ) → a < blocks → IsKey blocks (record { level = 0; index = a })
unfolding keys_at
block_key blocks a low = record { level = omega arith; index = low }

-- a pointer that is told is the map's, and no hole
pub written_is : (told at : Pointer) → Some told ≡ written at → (told ≡ at) × (1 ≤ told.birth.0)
unfolding written
written_is told at is = by (at.birth.0 == 0) refl is
  where
    by : (t : Bool) → (at.birth.0 == 0) ≡ t → Some told ≡ cond t None (Some at) → (told ≡ at) × (1 ≤ told.birth.0)
    by true zero is = absurd (none-some told (sym is))
    by false some is =
        let same : told ≡ at = same_Some told at is in
        let one : 1 ≤ at.birth.0 = grind (arith, nat_tests) in
        (same, subst (λ (q : Pointer). 1 ≤ q.birth.0) (sym same) one)
