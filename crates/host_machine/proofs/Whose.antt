-- Whose the open pool is: the one of the history, or another one.
use Rattle.std.proofs.Common.{◌≡◌, ◌⊎◌, ⊎_elim, ℕ, Bool, true, false, not, ◌&&◌, ◌||◌, List, Option, Some, None, refl, sym, ap, ◌∙◌, subst, inl, inr}
use Rattle.std.specs.Prelude.{is_some}
use Rattle.std.specs.Str.{bytes_eq}
use Rattle.std.proofs.lemmas.Bool.{or_cases, and_parts}
use Rattle.std.proofs.lemmas.Slice.Eq.{bytes_eq-Decides}
use Rattle.pool_history.specs.Pools.{Pool}
use Rattle.pool_core.specs.State.{PoolState}
use Rattle.host_machine.specs.declared.device.HostDevice.{HostDevice}
use Rattle.host_machine.specs.Devices.{number_in}
use Rattle.host_machine.specs.Machine.{HostState}
use Rattle.host_machine.specs.Tracking.{Place, IsAt, IsOpenAs, is_member, IsAlone, has_device, IsElsewhere, is_ours, StandsIn, Tracks}
use Rattle.host_machine.proofs.Away.{not_both}
use Rattle.host_machine.proofs.CommitsAway.{IsOff}
use Rattle.host_machine.proofs.Settling.{none_some}

-- It is this one where one of its devices is a member; and where it has the name, but no device at all.
abbrev pub is_this : Pool → PoolState → Bool
is_this p s = is_ours p s || (bytes_eq s.name p.name && not (has_device s))

not_left : (a b : Bool) → (a || b) ≡ false → a ≡ false
not_left true b e = e
not_left false b e = refl

not_right : (a b : Bool) → (a || b) ≡ false → b ≡ false
not_right true b e = absurd (let no : true ≡ false = e in cc)
not_right false b e = e

not_true : (b : Bool) → not b ≡ true → b ≡ false
not_true true e = absurd (let no : false ≡ true = e in cc)
not_true false e = refl

has_one : (named has : Bool) → named ≡ true → (named && not has) ≡ false → has ≡ true
has_one true true n e = refl
has_one true false n e = absurd (let no : true ≡ false = e in cc)
has_one false has n e = absurd (let no : false ≡ true = n in cc)

neither : (a b : Bool) → a ≡ false → b ≡ false → (a || b) ≡ true → ⊥
neither true b e f t = cc
neither false b e f t = cc

pub this_open : (p : Pool) (first second : Place) (table : List HostDevice) (s : PoolState) → is_this p s ≡ true → StandsIn p first second table (Some s)
    → IsAt s.first first × IsAt s.second second × IsOpenAs p s
this_open p first second table s this (inl is) = is
this_open p first second table s this (inr other) = absurd (⊎_elim
    (neither (is_member p s.first.dev) (is_member p s.second.dev) other.first other.second)
    (λ same. let parts = and_parts (bytes_eq s.name p.name) (not (has_device s)) same in
    not_both (has_device s) (not_true (has_device s) parts.1) (other.seated ((bytes_eq-Decides s.name p.name).0 parts.0)))
    (or_cases (is_ours p s) (bytes_eq s.name p.name && not (has_device s)) this))

-- Of an open pool none of whose devices is a member, the other leaf's device is the last one.
last_of : (p : Pool) (a b : ℕ) (one other : Option ℕ) → ((x : ℕ) → one ≡ Some x → x ≡ a) → ((y : ℕ) → other ≡ Some y → y ≡ b) → is_member p one ≡ false → is_member p other ≡ false
    → (is_some one || is_some other) ≡ true → ((e : ℕ) → p.member e ≡ true → (e ≡ a) ⊎ (e ≡ b)) → (d : ℕ) → d ≡ a → p.member d ≡ true → IsAlone p d
last_of p a b (Some x) other at at_other off off_other has members d here is e member =
    absurd (not_both (p.member d) (ap p.member (here ∙ sym (at x refl)) ∙ off) is)
last_of p a b None None at at_other off off_other has members d here is e member = absurd (let no : false ≡ true = has in cc)
last_of p a b None (Some y) at at_other off off_other has members d here is e member =
    ⊎_elim (λ same. same ∙ sym here) (λ there. absurd (not_both (p.member e) (ap p.member (there ∙ sym (at_other y refl)) ∙ off_other) member)) (members e member)

flipped : (a b : Bool) → (a || b) ≡ true → (b || a) ≡ true
flipped true true e = refl
flipped true false e = refl
flipped false true e = refl
flipped false false e = e

swapped : {A B : Type 0} → A ⊎ B → B ⊎ A
swapped (inl a) = inr a
swapped (inr b) = inl b

open_elsewhere : (p : Pool) (h : HostState) (s : PoolState) (tr : Tracks p h) → is_ours p s ≡ false → has_device s ≡ true → IsAt s.first tr.first → IsAt s.second tr.second
    → IsElsewhere p h.table s
open_elsewhere p h s tr off has one two = record {
  seated = λ same. has;
  first = off_first;
  second = off_second;
  alone_first = λ same d e. last_of p tr.first.dev tr.second.dev s.first.dev s.second.dev one.2 two.2 off_first off_second has tr.members d
      (tr.first_number d (subst (λ n. number_is n d) one.1 e));
  alone_second = λ same d e. last_of p tr.second.dev tr.first.dev s.second.dev s.first.dev two.2 one.2 off_second off_first
      (flipped (is_some s.first.dev) (is_some s.second.dev) has) (λ x member. swapped (tr.members x member)) d
      (tr.second_number d (subst (λ n. number_is n d) two.1 e));
}
  where
    number_is : List ℕ → ℕ → Type 0
    number_is name d = number_in name h.table ≡ Some d

    off_first : is_member p s.first.dev ≡ false
    off_first = not_left (is_member p s.first.dev) (is_member p s.second.dev) off

    off_second : is_member p s.second.dev ≡ false
    off_second = not_right (is_member p s.first.dev) (is_member p s.second.dev) off

-- Else it is another one.
pub not_this : (p : Pool) (h : HostState) (s : PoolState) (tr : Tracks p h) → is_this p s ≡ false → StandsIn p tr.first tr.second h.table (Some s) → IsElsewhere p h.table s
not_this p h s tr off (inr other) = other
not_this p h s tr off (inl (one, two, is)) =
    open_elsewhere p h s tr (not_left (is_ours p s) (bytes_eq s.name p.name && not (has_device s)) off)
    (has_one (bytes_eq s.name p.name) (has_device s) ((bytes_eq-Decides s.name p.name).1 is.name)
    (not_right (is_ours p s) (bytes_eq s.name p.name && not (has_device s)) off)) one two

-- Then no leaf of it is on a member's device.

off_member : (p : Pool) (dev : Option ℕ) (d : ℕ) → is_member p dev ≡ false → dev ≡ Some d → p.member d ≡ false
off_member p None d off e = absurd (none_some d e)
off_member p (Some x) d off e = ap (is_member p) (sym e) ∙ off

pub not_ours : (p : Pool) (s : PoolState) → is_this p s ≡ false → (is_member p s.first.dev ≡ false) × (is_member p s.second.dev ≡ false)
not_ours p s off =
    let out = not_left (is_ours p s) (bytes_eq s.name p.name && not (has_device s)) off in
    (not_left (is_member p s.first.dev) (is_member p s.second.dev) out, not_right (is_member p s.first.dev) (is_member p s.second.dev) out)

pub off_first : (p : Pool) (s : PoolState) → is_this p s ≡ false → IsOff p.member s.first
off_first p s off d e = off_member p s.first.dev d (not_ours p s off).0 e

pub off_second : (p : Pool) (s : PoolState) → is_this p s ≡ false → IsOff p.member s.second
off_second p s off d e = off_member p s.second.dev d (not_ours p s off).1 e
