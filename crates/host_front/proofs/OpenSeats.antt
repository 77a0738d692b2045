-- The devices of names, those that are handed to an opening, and those of the pool's leaves.
use Rattle.std.proofs.Common.{◌≡◌, ◌≢◌, ℕ, suc, ◌+◌, ◌<◌, true, cond, List, ◌∷◌, None, length, drop, get_or, refl, sym, ◌∙◌, ap, subst, drop-cons, nat_le, bytes_eq}
use Rattle.pool_history.specs.Looks.{HaveRoom}
use Rattle.host_machine.specs.declared.device.HostDevice.{HostDevice}
use Rattle.host_machine.specs.Devices.{all_handed, seat_of, number_in, AreApart}
use Rattle.host_machine.specs.Fitness.{AreSized}
use Rattle.host_machine.proofs.HostSeats.{handed_room, seat_number, seat_room}
use Rattle.host_front.specs.Importing.{AreRooms}

-- the first device of the name
pub seat_here : (name : List ℕ) (sectors : ℕ) (table : List HostDevice) (i : ℕ) (device : HostDevice) → i < length table → device ≡ get_or table i device
    → true ≡ bytes_eq device.name name → seat_of name sectors (drop i table) ≡ seat_of name sectors table
    → cond (nat_le (sectors + 256) device.sectors) device.dev None ≡ seat_of name sectors table
seat_here name sectors table i device inside is test from =
    sym (ap (seat_of name sectors) (drop-cons table i device inside) ∙ ap (λ d. seat_of name sectors (d ∷ drop (suc i) table)) (sym is) ∙ found) ∙ from
  where
    found : seat_of name sectors (device ∷ drop (suc i) table) ≡ cond (nat_le (sectors + 256) device.sectors) device.dev None
    found = rw (← test) refl

pub number_here : (name : List ℕ) (table : List HostDevice) (i : ℕ) (device : HostDevice) → i < length table → device ≡ get_or table i device
    → true ≡ bytes_eq device.name name → number_in name (drop i table) ≡ number_in name table → device.dev ≡ number_in name table
number_here name table i device inside is test from =
    sym (ap (number_in name) (drop-cons table i device inside) ∙ ap (λ d. number_in name (d ∷ drop (suc i) table)) (sym is) ∙ found) ∙ from
  where
    found : number_in name (device ∷ drop (suc i) table) ≡ device.dev
    found = rw (← test) refl

-- the seats of two names are two devices, each with the room
pub two_seats : (size : ℕ → ℕ) (table : List HostDevice) (first second : List ℕ) (sectors : ℕ) → AreSized size table → AreApart table → first ≢ second
    → AreRooms size sectors (seat_of first sectors table, seat_of second sectors table)
two_seats size table first second sectors sized apart differ = record {
  apart = λ d one two. differ (apart.by first second d (seat_number first sectors table d one) (seat_number second sectors table d two));
  first_room = λ d one. seat_room size first sectors table d sized one;
  second_room = λ d two. seat_room size second sectors table d sized two;
}

-- each device that is handed has the labels' room
pub each_roomy : (size : ℕ → ℕ) (table : List HostDevice) (devs : List ℕ) → AreSized size table → devs ≡ all_handed table → HaveRoom size devs
each_roomy size table devs sized is = subst (HaveRoom size) (sym is) (handed_room size table sized)
