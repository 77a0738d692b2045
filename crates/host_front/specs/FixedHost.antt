-- The devices of the host, as long as no host file names them.
use Rattle.std.specs.Prelude.{ℕ, Bool, true, false, List, [], ◌∷◌, codes}

-- a device's name, and whether it is a spare device
abbrev pub host_devices : List (List ℕ × Bool)
host_devices = (codes "a", false) ∷ (codes "b", false) ∷ (codes "c", false) ∷ (codes "d", false) ∷ (codes "n", false)
    ∷ (codes "s", true) ∷ (codes "t", true) ∷ []
