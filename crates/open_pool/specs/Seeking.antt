-- Which record an opening takes.
use Rattle.std.specs.Prelude.{◌≡◌, ◌⊎◌, ℕ, List, Some, Result, Ok, Err}
use Rattle.bank_core.specs.BankView.{BankView}
use Rattle.bank_core.specs.Calls.{Makes}
use Rattle.bank_core.specs.Disk.{Noted}
use Rattle.label_store.specs.declared.found.Found.{Found}
use Rattle.label_store.specs.Newest.{ReadsOnly}
use Rattle.pool_config.specs.Reading.{config_in}
use Rattle.pool_config.specs.Seen.{ConfigSeen}
use Rattle.pool_codec.specs.Codecs.{pool_codec}
use Rattle.pool_moves.specs.OpeningRow.{SeekReply, NoRecord, NumbersEnd, TakesRecord, RowSeek}
use Rattle.open_pool.specs.declared.seeking.SeekFault.{SeekFault}
use Rattle.open_pool.specs.declared.seeking.SeekFault.TheVariants as fault

abbrev pub seek_says : SeekReply → Result Found SeekFault
seek_says NoRecord = Err fault.NoRecord
seek_says (NumbersEnd limit count) = Err (fault.NumbersEnd limit count)
seek_says (TakesRecord found) = Ok found

-- The bytes that were found are a configuration, with the record's pool, number and name.
pub record HasConfig (name : List ℕ) (found : Found) : Type 0 where
  pub config : ConfigSeen
  pub reads : config_in found.blob.items ≡ Some config
  pub name_is : config.name ≡ name
  pub pool_is : config.pool ≡ found.pool
  pub number_is : config.number ≡ found.number

-- It answers what its row says of the parts of labels that it read, and made just those reads.
pub record Seeks (devs : List ℕ) (name : List ℕ) (answer : Result Found SeekFault) (old new : BankView) : Type 0 where
  pub made : List Noted
  pub calls : Makes made old new
  pub reply : SeekReply
  pub row : RowSeek pool_codec old.size devs name made reply
  pub says_so : answer ≡ seek_says reply

-- or there was no memory, and it only read
abbrev pub SeeksOrStops : (devs : List ℕ) → (name : List ℕ) → Result Found SeekFault → (old new : BankView) → Type 0
SeeksOrStops devs name answer old new = Seeks devs name answer old new ⊎ ((answer ≡ Err fault.Memory) × ReadsOnly old new)
