-- What the calls of a read show of each copy.
use Rattle.std.specs.Prelude.{ℕ, ◌==◌, Bool, true, false, if◌then◌else◌, List, [], ◌∷◌, Option, Some, None}
use Rattle.std.specs.Str.{bytes_eq}
use Rattle.sha2.specs.Sha256.{sha256}
use Rattle.bank_core.specs.Calls.{device_of}
use Rattle.bank_core.specs.Disk.{Call, Read, Write, Flush, Admit, Eject, Noted}
use Rattle.mirror_io.specs.declared.copies.CopyOf.{CopyOf}
use Rattle.mirror_io.specs.declared.copies.CopySeen.{CopySeen}
use Rattle.mirror_io.specs.declared.copies.CopySeen.TheVariants as seen

-- whether bytes have this sum, and whether they are those that a read answered
abbrev pub has_sum : (sum : List ℕ) → List ℕ → Bool
has_sum sum bytes = bytes_eq (sha256 bytes) sum

abbrev pub is_outcome : Option (List ℕ) → List ℕ → Bool
is_outcome None bytes = false
is_outcome (Some block) bytes = bytes_eq bytes block

-- Behind a call on a copy's device: a read shows the copy, by which bytes are good, and a write that answered Ok heals it.
abbrev pub sees : (good : List ℕ → Bool) → CopySeen → Call → CopySeen
sees good before (Read dev at bytes None) = if good bytes then seen.Good else seen.Mismatch
sees good before (Read dev at bytes (Some fault)) = seen.Failed
sees good before (Write dev at bytes None) = seen.Healed
sees good before (Write dev at bytes (Some fault)) = before
sees good before (Flush dev fault) = before
sees good before (Admit dev holds) = before
sees good before (Eject dev) = before

-- behind calls, of which those on other devices show nothing of it
abbrev pub seen_after : (good : List ℕ → Bool) → (dev : ℕ) → CopySeen → List Noted → CopySeen
seen_after good dev before [] = before
seen_after good dev before (noted ∷ more) =
    seen_after good dev (if device_of noted.call == dev then sees good before noted.call else before) more

-- what is known of a copy before any call
abbrev pub unread : CopyOf → CopySeen
unread copy = if copy.readable then seen.NotTried else seen.NotReadable

-- what these calls show of a copy, by which bytes are good, and where these are the bytes of this sum
abbrev pub copy_shown : (good : List ℕ → Bool) → List Noted → CopyOf → CopySeen
copy_shown good made copy = if copy.readable then seen_after good copy.dev seen.NotTried made else seen.NotReadable

abbrev pub copy_seen : (sum : List ℕ) → List Noted → CopyOf → CopySeen
copy_seen sum made copy = copy_shown (has_sum sum) made copy

abbrev pub is_mismatch : CopySeen → Bool
is_mismatch seen.Mismatch = true
is_mismatch seen.NotTried = false
is_mismatch seen.NotReadable = false
is_mismatch seen.Failed = false
is_mismatch seen.Good = false
is_mismatch seen.Healed = false

abbrev pub is_good : CopySeen → Bool
is_good seen.Good = true
is_good seen.NotTried = false
is_good seen.NotReadable = false
is_good seen.Failed = false
is_good seen.Mismatch = false
is_good seen.Healed = false
