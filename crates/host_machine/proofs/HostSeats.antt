-- The devices of a host by what they have room for, and the seats of an opening's leaves.
use Rattle.std.proofs.Common.{◌≡◌, ℕ, ◌+◌, ◌≤◌, zero, suc, Bool, true, false, List, [], ◌∷◌, Option, Some, None, refl, sym, ap, ◌∙◌, subst}
use Rattle.std.specs.Prelude.{slice_get, nat_le, if◌then◌else◌}
use Rattle.std.specs.Str.{bytes_eq}
use Rattle.std.proofs.lemmas.Bool.{leb-true}
use Rattle.bank_core.specs.Disk.{Noted}
use Rattle.config_codec.specs.declared.config.LeafConfig.{LeafConfig}
use Rattle.config_codec.specs.Fields.{Fields}
use Rattle.pool_history.specs.Looks.{HaveRoom}
use Rattle.pool_core.specs.Opening.{IsLooked, IsIdentified}
use Rattle.host_machine.specs.declared.device.HostDevice.{HostDevice}
use Rattle.host_machine.specs.Devices.{handed, usable, front, all_handed, member_of, seat_of, number_in}
use Rattle.host_machine.specs.Fitness.{AreSized}
use Rattle.host_machine.specs.Machine.{HostState, both, open_seats}
use Rattle.host_machine.proofs.Settling.{same_some, none_some}

-- the number where the test holds
if_some : (t : Bool) (x : Option ℕ) (d : ℕ) → (if t then x else None) ≡ Some d → (t ≡ true) × (x ≡ Some d)
if_some true x d e = (refl, e)
if_some false x d e = absurd (none_some d e)

handed_is : (device : HostDevice) (d : ℕ) → handed device ≡ Some d → (320 ≤ device.sectors) × (device.dev ≡ Some d)
handed_is device d e =
    let parts = if_some (nat_le 320 device.sectors) device.dev d e in
    (leb-true 320 device.sectors parts.0, parts.1)

-- Each device that is handed has the room of the labels.
pub handed_room : (size : ℕ → ℕ) (table : List HostDevice) → AreSized size table → HaveRoom size (all_handed table)
handed_room size [] sized i dev e = absurd (none_some dev e)
handed_room size (device ∷ table) sized i dev e = by_front (handed device) refl i e (handed_room size table sized.1)
  where
    by_front : (hand : Option ℕ) → handed device ≡ hand → (i : ℕ) → slice_get (front hand (all_handed table)) i ≡ Some dev → HaveRoom size (all_handed table) → 320 ≤ size dev
    by_front None is i e rest = rest i dev e
    by_front (Some d) is zero e rest =
        let known = handed_is device d is in
        let here : d ≡ dev = same_some d dev e in
        subst (λ n. 320 ≤ n) (sym (sized.0 dev (known.1 ∙ ap Some here))) known.0
    by_front (Some d) is (suc i) e rest = rest i dev e

-- the seat of a leaf is the device of its name
pub seat_number : (name : List ℕ) (sectors : ℕ) (table : List HostDevice) (d : ℕ) → seat_of name sectors table ≡ Some d → number_in name table ≡ Some d
seat_number name sectors [] d e = absurd (none_some d e)
seat_number name sectors (device ∷ table) d e = by_test (bytes_eq device.name name) e (seat_number name sectors table d)
  where
    by_test : (t : Bool) → (if t then (if nat_le (sectors + 256) device.sectors then device.dev else None) else seat_of name sectors table) ≡ Some d
        → (seat_of name sectors table ≡ Some d → number_in name table ≡ Some d) → (if t then device.dev else number_in name table) ≡ Some d
    by_test true e more = (if_some (nat_le (sectors + 256) device.sectors) device.dev d e).1
    by_test false e more = more e

-- and has the room
pub seat_room : (size : ℕ → ℕ) (name : List ℕ) (sectors : ℕ) (table : List HostDevice) (d : ℕ) → AreSized size table → seat_of name sectors table ≡ Some d → sectors + 256 ≤ size d
seat_room size name sectors [] d sized e = absurd (none_some d e)
seat_room size name sectors (device ∷ table) d sized e = by_test (bytes_eq device.name name) e (seat_room size name sectors table d sized.1)
  where
    by_test : (t : Bool) → (if t then (if nat_le (sectors + 256) device.sectors then device.dev else None) else seat_of name sectors table) ≡ Some d
        → (seat_of name sectors table ≡ Some d → sectors + 256 ≤ size d) → sectors + 256 ≤ size d
    by_test true e more =
        let parts = if_some (nat_le (sectors + 256) device.sectors) device.dev d e in
        subst (λ n. sectors + 256 ≤ n) (sym (sized.0 d parts.1)) (leb-true (sectors + 256) device.sectors parts.0)
    by_test false e more = more e

-- a device that may become a member is the one of its name, and has the labels' room
pub member_number : (name : List ℕ) (table : List HostDevice) (d : ℕ) → member_of name table ≡ Some d → number_in name table ≡ Some d
member_number name [] d e = absurd (none_some d e)
member_number name (device ∷ table) d e = by_test (bytes_eq device.name name) e (member_number name table d)
  where
    by_spare : (spare : Bool) → (if spare then None else handed device) ≡ Some d → device.dev ≡ Some d
    by_spare true e = absurd (none_some d e)
    by_spare false e = (handed_is device d e).1

    by_test : (t : Bool) → (if t then usable device else member_of name table) ≡ Some d → (member_of name table ≡ Some d → number_in name table ≡ Some d)
        → (if t then device.dev else number_in name table) ≡ Some d
    by_test true e more = by_spare device.spare e
    by_test false e more = more e

pub member_room : (size : ℕ → ℕ) (name : List ℕ) (table : List HostDevice) (d : ℕ) → AreSized size table → member_of name table ≡ Some d → 320 ≤ size d
member_room size name [] d sized e = absurd (none_some d e)
member_room size name (device ∷ table) d sized e = by_test (bytes_eq device.name name) e (member_room size name table d sized.1)
  where
    by_spare : (spare : Bool) → (if spare then None else handed device) ≡ Some d → 320 ≤ size d
    by_spare true e = absurd (none_some d e)
    by_spare false e = let known = handed_is device d e in subst (λ n. 320 ≤ n) (sym (sized.0 d known.1)) known.0

    by_test : (t : Bool) → (if t then usable device else member_of name table) ≡ Some d → (member_of name table ≡ Some d → 320 ≤ size d) → 320 ≤ size d
    by_test true e more = by_spare device.spare e
    by_test false e more = more e

pub both_are : (x y : Option ℕ) (seats : ℕ × ℕ) → both x y ≡ Some seats → (x ≡ Some seats.0) × (y ≡ Some seats.1)
both_are None y seats e = absurd (none_some seats e)
both_are (Some d) None seats e = absurd (none_some seats e)
both_are (Some d) (Some e) seats is = let same = same_some (d, e) seats is in (ap (λ s. Some s.0) same, ap (λ s. Some s.1) same)

-- Of the seats of an opening's leaves some were found.
pub record AreFound (seats found : Option ℕ × Option ℕ) : Type 0 where
  pub first : (d : ℕ) → found.0 ≡ Some d → seats.0 ≡ Some d
  pub second : (d : ℕ) → found.1 ≡ Some d → seats.1 ≡ Some d

-- the device that has a leaf's identity is the one that was looked at
looked_found : (c : Fields) (leaf : LeafConfig) (seat : Option ℕ) (size : ℕ → ℕ) (made : List Noted) (found : Option ℕ) → IsLooked c leaf seat size made found
    → (d : ℕ) → found ≡ Some d → seat ≡ Some d
looked_found c leaf None size made found looked d e = absurd (none_some d (sym looked.1 ∙ e))
looked_found c leaf (Some dev) size made (Some found) looked d e = ap Some (sym looked.0) ∙ e
looked_found c leaf (Some dev) size made None looked d e = absurd (none_some d e)

pub identified_found : (size : ℕ → ℕ) (c : Fields) (seats found : Option ℕ × Option ℕ) (made : List Noted) → IsIdentified size c seats found made → AreFound seats found
identified_found size c seats found made (one, more, all, first, second) = record {
  first = looked_found c c.first seats.0 size one found.0 first;
  second = looked_found c c.second seats.1 size more found.1 second;
}

-- The devices on which a pool of a record is opened: each is the one of its leaf's name, and has room.
pub record AreSeated (h : HostState) (c : Fields) (found : Option ℕ × Option ℕ) : Type 0 where
  pub first_number : (d : ℕ) → found.0 ≡ Some d → number_in c.first.name h.table ≡ Some d
  pub second_number : (d : ℕ) → found.1 ≡ Some d → number_in c.second.name h.table ≡ Some d
  pub first_room : (d : ℕ) → found.0 ≡ Some d → c.sectors + 256 ≤ h.size d
  pub second_room : (d : ℕ) → found.1 ≡ Some d → c.sectors + 256 ≤ h.size d

pub found_seated : (h : HostState) (c : Fields) (found : Option ℕ × Option ℕ) → AreSized h.size h.table → AreFound (open_seats h c) found → AreSeated h c found
found_seated h c found sized are = record {
  first_number = λ d e. seat_number c.first.name c.sectors h.table d (are.first d e);
  second_number = λ d e. seat_number c.second.name c.sectors h.table d (are.second d e);
  first_room = λ d e. seat_room h.size c.first.name c.sectors h.table d sized (are.first d e);
  second_room = λ d e. seat_room h.size c.second.name c.sectors h.table d sized (are.second d e);
}
