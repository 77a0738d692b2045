-- What stays the same over calls, one after another, and parts of a plan on one device.
use Rattle.std.proofs.Common.{◌≡◌, ℕ, ◌+◌, ◌<◌, ◌≤◌, Bool, List, [], ◌∷◌, ◌++◌, length, take, drop, get_or, Option, Some, None, IfSome, IfNone, refl, sym, ap, ◌∙◌, subst, arith, append-nil, take-append-drop}
use Rattle.std.specs.List.{flat_map}
use Rattle.std.proofs.lemmas.List.{take_more, take_all}
use Rattle.std.proofs.lemmas.Grind.{flat_map-append}
use Rattle.mp_base.specs.Outside.{Rose}
use Rattle.bank_core.specs.declared.bank.Fault.{Fault}
use Rattle.bank_core.specs.Asks.{Ask, Reads, Writes, Flushes, ask_of}
use Rattle.bank_core.specs.BankView.{BankView, SameBank, NoneRose}
use Rattle.bank_core.specs.Calls.{Called, Makes, IsCaused, device_of, fault_of}
use Rattle.bank_core.specs.Disk.{Call, Read, Write, Flush, Noted, sectors_in}
use Rattle.bank_core.specs.Parts.{Part, MakesPart}
use Rattle.bank_core.proofs.Composing.{made_none, made_more, one_made}
use Rattle.bank_core.proofs.Parting.{is_part_more, is_part_stop, one_part}

-- no call was made
pub same_bank : (bank : BankView) → SameBank bank bank
same_bank bank = record { sizes = λ d. refl; numbers = λ name. refl; names = refl; lookups = refl; counts = λ d. omega arith; telling = λ _ was. was }

-- where no count rose over all, none rose in a part of it
pub none_earlier : (old mid new : BankView) → SameBank mid new → NoneRose old new → NoneRose old mid
none_earlier old mid new later none d = λ rose. let up = later.counts d in none d (omega (arith, rose, up))

pub none_later : (old mid new : BankView) → SameBank old mid → NoneRose old new → NoneRose mid new
none_later old mid new earlier none d = λ rose. let up = earlier.counts d in none d (omega (arith, rose, up))

-- one after another
pub same_more : {old mid new : BankView} → SameBank old mid → SameBank mid new → SameBank old new
same_more {old} {mid} {new} a b = record {
  sizes = λ d. b.sizes d ∙ a.sizes d;
  numbers = λ name. b.numbers name ∙ a.numbers name;
  names = b.names ∙ a.names;
  lookups = b.lookups ∙ a.lookups;
  counts = λ d. let first = a.counts d in let second = b.counts d in omega arith;
  telling = λ none was. b.telling (none_later old mid new a none) (a.telling (none_earlier old mid new b none) was);
}

pub makes_none : {bank : BankView} → Makes [] bank bank
makes_none {bank} = record { frame = same_bank bank; calls = made_none bank.told bank.faults }

pub makes_more : {first second : List Noted} {old mid new : BankView} → Makes first old mid → Makes second mid new → Makes (first ++ second) old new
makes_more {first} {second} {old} {mid} {new} a b = record {
  frame = same_more a.frame b.frame;
  calls = made_more old.told mid.told new.told old.faults mid.faults new.faults first second a.calls b.calls;
}

if_some : {P : Type 0} (outcome : Option Fault) (fault : Fault) → outcome ≡ Some fault → IfSome outcome (λ _. P) → P
if_some None fault e p = absurd (cc)
if_some (Some x) fault e p = p

if_none : {P : Type 0} (outcome : Option Fault) → outcome ≡ None → IfNone outcome P → P
if_none None e p = p
if_none (Some x) e p = absurd (cc)

-- the counts of one call
pub called_caused : (call : Call) (old new : BankView) → Called call old new → IsCaused call old.faults new.faults
called_caused call old new c = record {
  counts = c.frame.counts;
  cause = λ fault is. if_some (fault_of call) fault is c.cause;
  still = λ is. if_none (fault_of call) is c.still;
  others = c.others;
}

-- one call, with the damage that came with it
pub record MakesOne (call : Call) (old new : BankView) : Type 0 where
  pub damage : ℕ → ℕ → Bool
  pub makes : Makes (record { call = call; damage = damage } ∷ []) old new

pub makes_one : {call : Call} {old new : BankView} → Called call old new → MakesOne call old new
makes_one {call} {old} {new} c =
    let one = one_made old.told new.told old.faults new.faults call (called_caused call old new c) c.told in
    record { damage = one.damage; makes = record { frame = c.frame; calls = one.made } }

-- a call is a part
pub part_call : {call : Call} {old new : BankView} → Called call old new → Part (device_of call) (ask_of call ∷ []) old new (fault_of call)
part_call {call} {old} {new} c =
    let one = one_made old.told new.told old.faults new.faults call (called_caused call old new c) c.told in
    record {
      frame = c.frame;
      made = record { call = call; damage = one.damage } ∷ [];
      calls = one.made;
      part = one_part (ask_of call) call one.damage (fault_of call) refl refl;
      cause = c.cause;
      still = c.still;
      others = c.others;
    }

pub part_read : {dev at : ℕ} {bytes : List ℕ} {fault : Option Fault} {old new : BankView} → Called (Read dev at bytes fault) old new
    → Part dev (Reads dev at (sectors_in bytes) ∷ []) old new fault
part_read c = part_call c

pub part_write : {dev at : ℕ} {bytes : List ℕ} {fault : Option Fault} {old new : BankView} → Called (Write dev at bytes fault) old new
    → Part dev (Writes dev at bytes ∷ []) old new fault
part_write c = part_call c

pub part_flush : {dev : ℕ} {fault : Option Fault} {old new : BankView} → Called (Flush dev fault) old new → Part dev (Flushes dev ∷ []) old new fault
part_flush c = part_call c

-- the calls of a part, where devices don't matter
pub part_calls : {dev : ℕ} {asks : List Ask} {old new : BankView} {outcome : Option Fault} → Part dev asks old new outcome
    → MakesPart asks old.told new.told old.faults new.faults outcome
part_calls p = record { made = p.made; calls = p.calls; part = p.part }

pub part_makes : {dev : ℕ} {asks : List Ask} {old new : BankView} {outcome : Option Fault} (p : Part dev asks old new outcome) → Makes p.made old new
part_makes p = record { frame = p.frame; calls = p.calls }

-- nothing was asked
pub part_none : {dev : ℕ} {bank : BankView} → Part dev [] bank bank None
part_none {dev} {bank} = record {
  frame = same_bank bank;
  made = [];
  calls = made_none bank.told bank.faults;
  part = refl;
  cause = tt;
  still = λ d. refl;
  others = λ d _. refl;
}

later_cause : (outcome : Option Fault) (x y z : ℕ) → x ≤ y → IfSome outcome (λ fault. Rose y z) → IfSome outcome (λ fault. Rose x z)
later_cause None x y z le c = tt
later_cause (Some fault) x y z le c = omega arith

later_still : (outcome : Option Fault) (f g h : ℕ → ℕ) → ((d : ℕ) → g d ≡ f d) → IfNone outcome ((d : ℕ) → h d ≡ g d) → IfNone outcome ((d : ℕ) → h d ≡ f d)
later_still None f g h same s = λ d. s d ∙ same d
later_still (Some fault) f g h same s = tt

-- a part that was made whole, and then more
pub part_more : {dev : ℕ} {first second : List Ask} {old mid new : BankView} {outcome : Option Fault}
    → Part dev first old mid None → Part dev second mid new outcome → Part dev (first ++ second) old new outcome
part_more {dev} {first} {second} {old} {mid} {new} {outcome} a b = record {
  frame = same_more a.frame b.frame;
  made = a.made ++ b.made;
  calls = made_more old.told mid.told new.told old.faults mid.faults new.faults a.made b.made a.calls b.calls;
  part = is_part_more first second a.made b.made outcome a.part b.part;
  cause = later_cause outcome (old.faults dev) (mid.faults dev) (new.faults dev) (a.frame.counts dev) b.cause;
  still = later_still outcome old.faults mid.faults new.faults a.still b.still;
  others = λ d differs. b.others d differs ∙ a.others d differs;
}

-- a part that stopped, of whatever plan goes on behind it
pub part_stop : {dev : ℕ} {first : List Ask} (second : List Ask) {old new : BankView} {fault : Fault}
    → Part dev first old new (Some fault) → Part dev (first ++ second) old new (Some fault)
part_stop {dev} {first} second {old} {new} {fault} a = record {
  frame = a.frame;
  made = a.made;
  calls = a.calls;
  part = is_part_stop first second a.made fault a.part;
  cause = a.cause;
  still = tt;
  others = a.others;
}

asks_next : {X : Type 0} (plan : X → List Ask) (items : List X) (i : ℕ) (item : X) → i < length items → get_or items i item ≡ item
    → flat_map plan (take (i + 1) items) ≡ flat_map plan (take i items) ++ plan item
asks_next plan items i item lt at =
    ap (flat_map plan) (take_more items i item lt ∙ ap (λ x. take i items ++ x ∷ []) at)
    ∙ flat_map-append plan (take i items) (item ∷ [])
    ∙ ap (λ asks. flat_map plan (take i items) ++ asks) (append-nil (plan item))

asks_all : {X : Type 0} (plan : X → List Ask) (items : List X) (i : ℕ) → flat_map plan (take i items) ++ flat_map plan (drop i items) ≡ flat_map plan items
asks_all plan items i = sym (flat_map-append plan (take i items) (drop i items)) ∙ ap (flat_map plan) (take-append-drop i items)

-- A loop over items, each with its asks: the ones of the first i were made.
pub part_next : {X : Type 0} (plan : X → List Ask) (items : List X) (i : ℕ) (item : X) {dev : ℕ} {old mid new : BankView} {outcome : Option Fault}
    → i < length items → get_or items i item ≡ item
    → Part dev (flat_map plan (take i items)) old mid None → Part dev (plan item) mid new outcome
    → Part dev (flat_map plan (take (i + 1) items)) old new outcome
part_next plan items i item {dev} {old} {mid} {new} {outcome} lt at before this =
    subst (λ asks. Part dev asks old new outcome) (sym (asks_next plan items i item lt at)) (part_more before this)

-- the loop stopped at one of them
pub part_broken : {X : Type 0} (plan : X → List Ask) (items : List X) (i : ℕ) {dev : ℕ} {old new : BankView} {fault : Fault}
    → Part dev (flat_map plan (take i items)) old new (Some fault) → Part dev (flat_map plan items) old new (Some fault)
part_broken plan items i {dev} {old} {new} {fault} p =
    subst (λ asks. Part dev asks old new (Some fault)) (asks_all plan items i) (part_stop (flat_map plan (drop i items)) p)

-- it went over all of them
pub part_whole : {X : Type 0} (plan : X → List Ask) (items : List X) (i : ℕ) {dev : ℕ} {old new : BankView} {outcome : Option Fault}
    → length items ≤ i → Part dev (flat_map plan (take i items)) old new outcome → Part dev (flat_map plan items) old new outcome
part_whole plan items i {dev} {old} {new} {outcome} le p =
    subst (λ asks. Part dev asks old new outcome) (ap (flat_map plan) (take_all i items le)) p
