-- VDEVS word by word: what was read so far is tops, and the names of a group where one was begun.
use Rattle.std.specs.Prelude.{ℕ, List, [], ◌∷◌, ◌++◌, length, nat_le, Option, Some, None, if◌then◌else◌}
use Rattle.pool_lines.specs.Grammar.{alone}
use Rattle.pool_lines.specs.Reading.{is_mirror, name_of, some_of, ◌>>=◌}
use Rattle.pool_lines.specs.declared.tops.Names.{Names}
use Rattle.pool_lines.specs.declared.tops.Tops.{Tops}
use Rattle.pool_lines.specs.declared.vdevs.Begun.{Begun}

-- the tops, behind them the group that was begun, which needs two names for that
unfoldable pub closed : Begun → Option Tops
closed begun = closed_by begun.group
  where
    closed_by : Option Names → Option Tops
    closed_by None = Some begun.tops
    closed_by (Some names) = if nat_le 2 (length names) then Some (begun.tops ++ names ∷ []) else None

-- a name is the next of its group, or a top of one device where no group was begun
unfoldable pub with_name : Begun → List ℕ → Begun
with_name begun name = named_by begun.group
  where
    named_by : Option Names → Begun
    named_by None = record { tops = begun.tops ++ alone name ∷ []; group = None }
    named_by (Some names) = record { tops = begun.tops; group = Some (names ++ name ∷ []) }

-- what was read behind one more word
unfoldable pub take_word : Begun → List ℕ → Option Begun
take_word begun word =
    if is_mirror word then (do
      tops ← closed begun
      Some (record { tops = tops; group = Some [] }))
    else (do
      name ← name_of word
      Some (with_name begun name))

-- all tops, of which there is one at least
unfoldable pub whole : Begun → Option Tops
whole begun = do
  tops ← closed begun
  some_of tops
