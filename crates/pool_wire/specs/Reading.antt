-- Reading a line from left to right: a function on lists, which answers what the line asks, or none.
use Rattle.std.specs.Prelude.{◌≡◌, ℕ, ◌+◌, Bool, true, false, ◌==◌, ◌&&◌, ◌||◌, nat_le, not, List, length, take, drop, slice_index, codes, Option, Some, None, option_map, Result, Ok, Err, if◌then◌else◌}
use Rattle.std.specs.List.{list_all, position}
use Rattle.std.specs.Result.{result_ok}
use Rattle.std.specs.Str.{bytes_eq}
use Rattle.std.specs.Str.Parse.{digits_value}
use Rattle.hex.specs.Hex.{decode_of}
use Rattle.mp_base.specs.Block.{padded, zero_block}
use Rattle.mp_base.specs.Name.{is_name}
use Rattle.pool_wire.specs.declared.request.LineFault.{LineFault}
use Rattle.pool_wire.specs.declared.request.LineFault.TheVariants.{Bad, Memory}
use Rattle.pool_wire.specs.declared.request.Request.{Request}
use Rattle.pool_wire.specs.declared.request.Request.TheVariants.{Nothing, Create, Import, Write, Read, Sync, Offline, Online, Logs}

infixl 10 ◌>>=◌
abbrev pub ◌>>=◌ : {A B : Type 0} → Option A → (A → Option B) → Option B
(Some x) >>= f = f x
None >>= f = None

-- What a function returned, seen by view, is what reading gives, unless memory ran out.
abbrev pub Gives : {X Y : Type 0} → (X → Y) → Result X LineFault → Option Y → Type 0
Gives view (Ok x) read = read ≡ Some (view x)
Gives view (Err Bad) read = read ≡ None
Gives view (Err Memory) read = Unit {0}

abbrev pub is_space : ℕ → Bool
is_space b = b == 32

-- the word before the first space, and the text behind that space
unfoldable pub cut_word : List ℕ → Option (List ℕ × List ℕ)
cut_word text = option_map (λ at. (take at text, drop (at + 1) text)) (position is_space text)

-- the text behind a word that has to come first
unfoldable pub after_word : List ℕ → List ℕ → Option (List ℕ)
after_word word text = do
  cut ← cut_word text
  if bytes_eq cut.0 word then Some cut.1 else None

unfoldable pub name_of : List ℕ → Option (List ℕ)
name_of text = if is_name text then Some text else None

abbrev pub is_digit : ℕ → Bool
is_digit b = nat_le 48 b && nat_le b 57

-- 1 to 19 digits, of which the first isn't 0 where others follow
abbrev pub is_number : List ℕ → Bool
is_number text =
    nat_le 1 (length text) && (nat_le (length text) 19
    && (list_all is_digit text && ((length text == 1) || not (slice_index text 0 == 48))))

unfoldable pub number_of : List ℕ → Option ℕ
number_of text = if is_number text then Some (digits_value 10 text) else None

abbrev pub is_capital : ℕ → Bool
is_capital b = nat_le 65 b && nat_le b 90

-- 1 to 4,096 pairs by their length, with no capital letter
abbrev pub may_be_pairs : List ℕ → Bool
may_be_pairs text =
    nat_le 1 (length text) && (nat_le (length text) 8192 && list_all (λ b. not (is_capital b)) text)

-- the block that begins with these pairs of digits
unfoldable pub pairs_of : List ℕ → Option (List ℕ)
pairs_of text = if may_be_pairs text then option_map padded (result_ok (decode_of text)) else None

unfoldable pub data_of : List ℕ → Option (List ℕ)
data_of text = if bytes_eq text (codes "-") then Some zero_block else pairs_of text

-- what stands behind `create `
unfoldable pub create_of : List ℕ → Option Request
create_of text = do
  pool ← cut_word text
  blocks ← cut_word pool.1
  devices ← after_word (codes "mirror") blocks.1
  first ← cut_word devices
  name ← name_of pool.0
  number ← number_of blocks.0
  one ← name_of first.0
  two ← name_of first.1
  Some (Create name number one two)

-- what stands behind `import `
unfoldable pub import_of : List ℕ → Option Request
import_of text = do
  name ← name_of text
  Some (Import name)

-- what stands behind `write `
unfoldable pub write_of : List ℕ → Option Request
write_of text = do
  pool ← cut_word text
  address ← cut_word pool.1
  name ← name_of pool.0
  number ← number_of address.0
  block ← data_of address.1
  Some (Write name number block)

-- what stands behind `read `
unfoldable pub read_of : List ℕ → Option Request
read_of text = do
  pool ← cut_word text
  name ← name_of pool.0
  number ← number_of pool.1
  Some (Read name number)

-- what stands behind `sync `
unfoldable pub sync_of : List ℕ → Option Request
sync_of text = do
  name ← name_of text
  Some (Sync name)

-- POOL DEV, as the names of a pool and of a device
unfoldable pub leaf_in : List ℕ → Option (List ℕ × List ℕ)
leaf_in text = do
  cut ← cut_word text
  pool ← name_of cut.0
  device ← name_of cut.1
  Some (pool, device)

unfoldable pub away_of : (temporary : Bool) → List ℕ → Option Request
away_of temporary text = do
  leaf ← leaf_in text
  Some (Offline leaf.0 leaf.1 temporary)

-- what stands behind `offline `; the word `-t` is no name
unfoldable pub offline_of : List ℕ → Option Request
offline_of text = do
  cut ← cut_word text
  if bytes_eq cut.0 (codes "-t") then away_of true cut.1 else away_of false text

-- what stands behind `online `
unfoldable pub online_of : List ℕ → Option Request
online_of text = do
  leaf ← leaf_in text
  Some (Online leaf.0 leaf.1)

-- what stands behind `logs `
unfoldable pub logs_of : List ℕ → Option Request
logs_of text = do
  name ← name_of text
  Some (Logs name)

-- of the lines that speak of a pool's leaves, what the one asks whose first word is this one
unfoldable pub leaf_verb_of : List ℕ → List ℕ → Option Request
leaf_verb_of verb text =
    if bytes_eq verb (codes "offline") then offline_of text
    else if bytes_eq verb (codes "online") then online_of text
    else if bytes_eq verb (codes "logs") then logs_of text
    else None

-- what a line asks whose first word is this one
unfoldable pub verb_of : List ℕ → List ℕ → Option Request
verb_of verb text =
    if bytes_eq verb (codes "create") then create_of text
    else if bytes_eq verb (codes "import") then import_of text
    else if bytes_eq verb (codes "write") then write_of text
    else if bytes_eq verb (codes "read") then read_of text
    else if bytes_eq verb (codes "sync") then sync_of text
    else leaf_verb_of verb text

-- What a line asks, or none where it asks nothing that is built.
unfoldable pub request_of : List ℕ → Option Request
request_of line =
    if length line == 0 then Some Nothing
    else if slice_index line 0 == 35 then Some Nothing
    else (do
      cut ← cut_word line
      verb_of cut.0 cut.1)
