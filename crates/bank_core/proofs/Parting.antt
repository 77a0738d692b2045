-- Parts of a plan, one after another.
use Rattle.std.proofs.Common.{◌≡◌, ◌≢◌, ℕ, ◌≤◌, List, [], ◌∷◌, ◌++◌, Bool, Option, Some, None, Result, Ok, Err, OnOk, OnErr, refl, arith, inl, inr, ◌⊎◌, sym}
use Rattle.std.proofs.lemmas.Option.{none-some}
use Rattle.mp_base.specs.Outside.{Rose}
use Rattle.bank_core.specs.declared.bank.Fault.{Fault}
use Rattle.bank_core.specs.Disk.{Call, Noted}
use Rattle.bank_core.specs.Story.{Story, Tells, fault_in}
use Rattle.bank_core.specs.Calls.{device_of, fault_of}
use Rattle.bank_core.specs.Asks.{Ask, ask_of, IsPart}
use Rattle.bank_core.specs.Parts.{MakesPart}
use Rattle.bank_core.proofs.Composing.{made_none, made_more, one_made, call_caused}

pub part_none : {told : Option Story} {faults : ℕ → ℕ} → MakesPart [] told told faults faults None
part_none {told} {faults} = record { made = []; calls = made_none told faults; part = refl }

-- the rest of a part behind its first call
abbrev Rest : Noted → List Ask → List Noted → Option Fault → Type 0
Rest noted asks made outcome = ((fault_of noted.call ≡ None) × IsPart asks made outcome)
    ⊎ ((fault : Fault) × (fault_of noted.call ≡ Some fault) × (made ≡ []) × (outcome ≡ Some fault))

rest_more : (noted : Noted) (first second : List Ask) (made made' : List Noted) (outcome : Option Fault)
    → (IsPart first made None → IsPart (first ++ second) (made ++ made') outcome) → Rest noted first made None
    → Rest noted (first ++ second) (made ++ made') outcome
rest_more noted first second made made' outcome more (inl ok) = inl (ok.0, more ok.1)
rest_more noted first second made made' outcome more (inr failed) = absurd (none-some failed.0 failed.3)

pub is_part_more : (first second : List Ask) (made made' : List Noted) (outcome : Option Fault)
    → IsPart first made None → IsPart second made' outcome → IsPart (first ++ second) (made ++ made') outcome
is_part_more [] second [] made' outcome a b = b
is_part_more [] second (noted ∷ made) made' outcome a b = absurd a
is_part_more (ask ∷ first) second [] made' outcome a b = absurd a
is_part_more (ask ∷ first) second (noted ∷ made) made' outcome a b =
    (a.0, rest_more noted first second made made' outcome (λ rest. is_part_more first second made made' outcome rest b) a.1)

rest_stop : (noted : Noted) (first second : List Ask) (made : List Noted) (fault : Fault)
    → (IsPart first made (Some fault) → IsPart (first ++ second) made (Some fault)) → Rest noted first made (Some fault)
    → Rest noted (first ++ second) made (Some fault)
rest_stop noted first second made fault more (inl ok) = inl (ok.0, more ok.1)
rest_stop noted first second made fault more (inr failed) = inr failed

pub is_part_stop : (first second : List Ask) (made : List Noted) (fault : Fault) → IsPart first made (Some fault) → IsPart (first ++ second) made (Some fault)
is_part_stop [] second [] fault a = absurd (none-some fault (sym a))
is_part_stop [] second (noted ∷ made) fault a = absurd a
is_part_stop (ask ∷ first) second [] fault a = absurd a
is_part_stop (ask ∷ first) second (noted ∷ made) fault a = (a.0, rest_stop noted first second made fault (is_part_stop first second made fault) a.1)

-- a part that was made whole, and then more
pub part_more : {first second : List Ask} {old mid new : Option Story} {f g h : ℕ → ℕ} {outcome : Option Fault}
    → MakesPart first old mid f g None → MakesPart second mid new g h outcome → MakesPart (first ++ second) old new f h outcome
part_more {first} {second} {old} {mid} {new} {f} {g} {h} {outcome} a b = record {
  made = a.made ++ b.made;
  calls = made_more old mid new f g h a.made b.made a.calls b.calls;
  part = is_part_more first second a.made b.made outcome a.part b.part;
}

-- a part that stopped, of whatever plan goes on behind it
pub part_stop : {first : List Ask} (second : List Ask) {old new : Option Story} {f g : ℕ → ℕ} {fault : Fault}
    → MakesPart first old new f g (Some fault) → MakesPart (first ++ second) old new f g (Some fault)
part_stop {first} second {old} {new} {f} {g} {fault} a = record {
  made = a.made;
  calls = a.calls;
  part = is_part_stop first second a.made fault a.part;
}

pub one_part : (ask : Ask) (call : Call) (damage : ℕ → ℕ → Bool) (outcome : Option Fault) → ask_of call ≡ ask → fault_of call ≡ outcome
    → IsPart (ask ∷ []) (record { call = call; damage = damage } ∷ []) outcome
one_part ask call damage None is ok = (is, inl (ok, refl))
one_part ask call damage (Some fault) is failed = (is, inr (fault, failed, refl, refl))

-- one call
pub part_one : {A : Type 0} {old new : Option Story} {f g : ℕ → ℕ} (call : Call) (r : Result A Fault) → fault_of call ≡ fault_in r
    → ((d : ℕ) → f d ≤ g d) → OnErr r (Rose (f (device_of call)) (g (device_of call))) → OnOk r ((d : ℕ) → g d ≡ f d)
    → ((d : ℕ) → d ≢ device_of call → g d ≡ f d) → Tells old new call → MakesPart (ask_of call ∷ []) old new f g (fault_in r)
part_one {old = old} {new = new} {f = f} {g = g} call r is counts cause still others tells =
    let one = one_made old new f g call (call_caused call r f g is counts cause still others) tells in
    record { made = record { call = call; damage = one.damage } ∷ []; calls = one.made; part = one_part (ask_of call) call one.damage (fault_in r) refl is }

-- one call that answered Ok
pub part_ok : {old new : Option Story} {f g : ℕ → ℕ} (call : Call) → fault_of call ≡ None → ((d : ℕ) → g d ≡ f d) → Tells old new call
    → MakesPart (ask_of call ∷ []) old new f g None
part_ok {old} {new} {f} {g} call is still tells =
    part_one {A = Unit {0}} call (Ok tt) is (λ d. let same = still d in omega arith) tt still (λ d _. still d) tells

-- one call that failed
pub part_failed : {old new : Option Story} {f g : ℕ → ℕ} (call : Call) (fault : Fault) → fault_of call ≡ Some fault → ((d : ℕ) → f d ≤ g d)
    → Rose (f (device_of call)) (g (device_of call)) → ((d : ℕ) → d ≢ device_of call → g d ≡ f d) → Tells old new call
    → MakesPart (ask_of call ∷ []) old new f g (Some fault)
part_failed {old} {new} {f} {g} call fault is counts cause others tells = part_one {A = Unit {0}} call (Err fault) is counts cause tt others tells
