-- The words of a line, as bytes. This file names no type of the crate.
use Rattle.std.specs.Prelude.{◌≡◌, ℕ, ◌^◌, ◌<◌, ◌≤◌, ◌⊎◌, Bool, true, ◌==◌, List, [], ◌∷◌, length, decimal, codes, nat_lt, if◌then◌else◌}
use Rattle.std.specs.List.{list_all, join_with_byte}
use Rattle.hex.specs.Hex.{encode_lower}
use Rattle.mp_base.specs.Block.{padded, zero_block}

-- every number is a byte
abbrev pub are_bytes : List ℕ → Bool
are_bytes bytes = list_all (λ b. nat_lt b 256) bytes

-- the text of a number of 1 to 19 digits, the first of them not 0; or `0`
abbrev pub IsNumber : List ℕ → ℕ → Type 0
IsNumber text n = (n < 10 ^ 19) × (text ≡ decimal n)

-- 1 to 4,096 bytes as pairs of lower-case hexadecimal digits: the block that begins with them
abbrev pub IsPairs : List ℕ → List ℕ → Type 0
IsPairs text block =
    (bytes : List ℕ) × (0 < length bytes) × (length bytes ≤ 4096) × (are_bytes bytes ≡ true)
    × (text ≡ encode_lower bytes) × (block ≡ padded bytes)

-- `-` is the block of zeros
abbrev pub IsData : List ℕ → List ℕ → Type 0
IsData text block = ((text ≡ codes "-") × (block ≡ zero_block)) ⊎ IsPairs text block

abbrev pub is_zero : ℕ → Bool
is_zero b = b == 0

-- without the zero bytes at the end
abbrev pub trimmed : List ℕ → List ℕ
trimmed [] = []
trimmed (b ∷ bs) = if list_all is_zero (b ∷ bs) then [] else b ∷ trimmed bs

-- bytes in hexadecimal digits, `-` where there are none
abbrev pub digits_text : List ℕ → List ℕ
digits_text [] = codes "-"
digits_text (b ∷ bs) = encode_lower (b ∷ bs)

-- a block without the zero bytes at its end
abbrev pub block_text : List ℕ → List ℕ
block_text block = digits_text (trimmed block)

-- texts with one comma between two
abbrev pub with_commas : List (List ℕ) → List ℕ
with_commas texts = join_with_byte 44 texts
