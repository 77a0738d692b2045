-- Pointers as the history has them: tops count from 1, and a hole is none.
use Rattle.std.specs.Prelude.{◌+◌, ◌==◌, Option, Some, None, if◌then◌else◌}
use Rattle.mp_base.specs.declared.place.Pointer.{Pointer}
use Rattle.txg_history.specs.Pages.{Sum}

abbrev pub told : Pointer → Sum
told pointer = record {
  birth = pointer.birth.0;
  top = pointer.place.top + 1;
  sector = pointer.place.sector;
  sum = pointer.sum;
}

abbrev pub sum_in : Pointer → Option Sum
sum_in pointer = if pointer.birth.0 == 0 then None else Some (told pointer)
