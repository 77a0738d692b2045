-- A front of a text that was written.
use Rattle.std.specs.Prelude.{◌≡◌, ℕ, List, ◌++◌, take, Option}
use Rattle.mp_base.specs.Outside.{Taken}

pub record WritesFront (old new : Option (List ℕ)) (text : List ℕ) : Type 0 where
  pub kept : ℕ
  pub taken : Taken old new (take kept text)

-- so far: this was written, and the rest of the text is to come
pub record Writes (old new : Option (List ℕ)) (text rest : List ℕ) : Type 0 where
  pub done : List ℕ
  pub split : done ++ rest ≡ text
  pub taken : Taken old new done
