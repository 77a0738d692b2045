-- A file that is open stays open under its number.
use Rattle.std.proofs.Common.{◌<◌, ℕ, List, length, set, Option, Some, None, get_or-set_same}
use Rattle.bank_files.specs.Told.{IsOpen}

pub opened : {D : Type 0} (files : List (Option D)) (dev : ℕ) (file : D) (P : D → Type 0) → dev < length files → P file
    → IsOpen (set files dev (Some file)) dev P
opened files dev file P within so = record {
  file = file;
  there = get_or-set_same files dev (Some file) None within;
  so = so;
}
