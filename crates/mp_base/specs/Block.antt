-- Blocks of a volume, as bytes. This file names no type of the crate.
use Rattle.std.specs.Prelude.{ℕ, ◌-◌, List, ◌++◌, length, replicate}

-- a block has 4,096 bytes
unfoldable pub block_bytes : ℕ
block_bytes = 4096

-- as many zero bytes
unfoldable pub zeros : ℕ → List ℕ
zeros n = replicate n 0

-- the block that begins with these bytes and goes on with zeros
unfoldable pub padded : List ℕ → List ℕ
padded bytes = bytes ++ zeros (block_bytes - length bytes)

-- the block of a hole
unfoldable pub zero_block : List ℕ
zero_block = zeros block_bytes
