-- The grammar of lines: `Asks line request` says that the line, as a whole, asks for the request. A line
-- that asks for none is a bad one.
use Rattle.std.specs.Prelude.{◌≡◌, ℕ, ◌⊎◌, List, [], ◌∷◌, ◌++◌, codes, IsTrue, true, false}
use Rattle.mp_base.specs.Name.{is_name}
use Rattle.pool_wire.specs.Words.{IsNumber, IsData}
use Rattle.pool_wire.specs.declared.request.Request.{Request}
use Rattle.pool_wire.specs.declared.request.Request.TheVariants.{Nothing, Create, Import, Write, Read, Sync, Offline, Online, Logs}

-- an empty line, and a line that begins with `#`, whatever follows
abbrev pub IsRemark : List ℕ → Type 0
IsRemark line = (line ≡ []) ⊎ ((rest : List ℕ) × (line ≡ codes "#" ++ rest))

-- The words of each form, with one space between two and nothing else in the line.
abbrev pub Asks : List ℕ → Request → Type 0
Asks line Nothing = IsRemark line
Asks line (Create pool blocks first second) =
    (number : List ℕ) × IsTrue (is_name pool) × IsNumber number blocks × IsTrue (is_name first) × IsTrue (is_name second)
    × (line ≡ codes "create " ++ (pool ++ (32 ∷ (number ++ (codes " mirror " ++ (first ++ (32 ∷ second)))))))
Asks line (Import pool) = IsTrue (is_name pool) × (line ≡ codes "import " ++ pool)
Asks line (Write pool address block) =
    (number text : List ℕ) × IsTrue (is_name pool) × IsNumber number address × IsData text block
    × (line ≡ codes "write " ++ (pool ++ (32 ∷ (number ++ (32 ∷ text)))))
Asks line (Read pool address) =
    (number : List ℕ) × IsTrue (is_name pool) × IsNumber number address
    × (line ≡ codes "read " ++ (pool ++ (32 ∷ number)))
Asks line (Sync pool) = IsTrue (is_name pool) × (line ≡ codes "sync " ++ pool)
Asks line (Offline pool device false) =
    IsTrue (is_name pool) × IsTrue (is_name device) × (line ≡ codes "offline " ++ (pool ++ (32 ∷ device)))
Asks line (Offline pool device true) =
    IsTrue (is_name pool) × IsTrue (is_name device) × (line ≡ codes "offline -t " ++ (pool ++ (32 ∷ device)))
Asks line (Online pool device) =
    IsTrue (is_name pool) × IsTrue (is_name device) × (line ≡ codes "online " ++ (pool ++ (32 ∷ device)))
Asks line (Logs pool) = IsTrue (is_name pool) × (line ≡ codes "logs " ++ pool)
