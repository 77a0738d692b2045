-- The devices of the host, as long as no host file names them.
use Rattle.std.specs.Prelude.{ℕ, List, [], ◌∷◌, codes}

abbrev pub host_devices : List (List ℕ)
host_devices = codes "a" ∷ codes "b" ∷ codes "c" ∷ codes "d" ∷ codes "n" ∷ codes "s" ∷ codes "t" ∷ []
