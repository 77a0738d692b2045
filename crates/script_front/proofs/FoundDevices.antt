-- Look-ups, one after another.
use Rattle.std.proofs.Common.{◌≡◌, ◌≢◌, ℕ, zero, suc, ◌+◌, ◌<◌, ◌≤◌, List, [], ◌∷◌, ◌++◌, Bool, true, false, cond, Option, Some, None, bytes_eq, take, refl, sym, ◌∙◌, ap, subst, inl, inr, ◌⊎◌, arith}
use Rattle.std.specs.Prelude.{slice_get}
use Rattle.std.specs.List.{AllByRecursion}
use Rattle.std.proofs.lemmas.Bool.Decides.{nat_tests}
use Rattle.std.proofs.lemmas.List.{take_more}
use Rattle.std.proofs.lemmas.Slice.Eq.{bytes_eq-Decides}
use Rattle.std.proofs.lemmas.Option.{get_or_from_slice_get, slice_get_within}
use Rattle.mp_base.specs.Outside.{Rose}
use Rattle.bank_core.specs.Absent.{IsAbsent}
use Rattle.host_core.specs.Standing.{AreTwo, AreApart}
use Rattle.pool_moves.specs.FreezeRow.{is_dev}
use Rattle.pool_runs.specs.Devices.{Device, size_in}
use Rattle.script_front.specs.FixedHost.{host_devices}
use Rattle.script_front.specs.LookingUp.{IsLookedUp, AreLookedUp, LooksUp}

none_some : (d : ℕ) → None ≡ Some d → ⊥
none_some d e = cc

at_most_on : (before mid after : ℕ) → before ≤ mid → mid ≤ after → before ≤ after
at_most_on before mid after l m = omega arith

module _ (number_of number_of' : List ℕ → Option ℕ) (size size' : ℕ → ℕ) (names : Option (List (List ℕ)))
    (keeps : (name : List ℕ) (dev : ℕ) → number_of name ≡ Some dev → number_of' name ≡ Some dev)
    (sizes : (d : ℕ) → 0 < size d → size' d ≡ size d) where
  one_on : (before after : ℕ) (name : List ℕ) (device : Device) → IsLookedUp number_of size names before after name device
      → IsLookedUp number_of' size' names before after name device
  one_on before after name device l = record {
    name_is = l.name_is;
    found = λ dev e. let f = l.found dev e in (keeps name dev f.0, sizes dev f.2 ∙ f.1, rw (sizes dev f.2) f.2);
    absent = l.absent;
  }

  -- what was looked up stays so
  pub looked_up_on : (before mid after : ℕ) → mid ≤ after → (named : List (List ℕ)) (table : List Device) → AreLookedUp number_of size names before mid named table
      → AreLookedUp number_of' size' names before after named table
  looked_up_on before mid after le [] table l = (l.0, at_most_on before mid after l.1 le)
  looked_up_on before mid after le (n ∷ named) [] l = absurd l
  looked_up_on before mid after le (n ∷ named) (device ∷ table) l = (l.0, l.1, one_on before l.0 n device l.2, looked_up_on l.0 mid after le named table l.3)

rose_since : (before mid after : ℕ) → before ≤ mid → Rose mid after → Rose before after
rose_since before mid after le rose = omega arith

-- the count before a look-up may be taken earlier
looked_up_since : (number_of : List ℕ → Option ℕ) (size : ℕ → ℕ) (names : Option (List (List ℕ))) (before mid after : ℕ) (name : List ℕ) (device : Device) → before ≤ mid
    → IsLookedUp number_of size names mid after name device → IsLookedUp number_of size names before after name device
looked_up_since number_of size names before mid after name device le l =
    record { name_is = l.name_is; found = l.found; absent = λ e. earlier (l.absent e) }
  where
    earlier : IsAbsent names name ⊎ Rose mid after → IsAbsent names name ⊎ Rose before after
    earlier (inl absent) = inl absent
    earlier (inr rose) = inr (rose_since before mid after le rose)

-- one more device
looked_up_more : (number_of : List ℕ → Option ℕ) (size : ℕ → ℕ) (names : Option (List (List ℕ))) (before mid after : ℕ) → mid ≤ after
    → (named : List (List ℕ)) (table : List Device) (one : List ℕ) (device : Device) → AreLookedUp number_of size names before mid named table
    → IsLookedUp number_of size names mid after one device → AreLookedUp number_of size names before after (named ++ one ∷ []) (table ++ device ∷ [])
looked_up_more number_of size names before mid after le [] table one device l d =
    subst (λ t. AreLookedUp number_of size names before after (one ∷ []) (t ++ device ∷ [])) (sym l.0)
    (after, at_most_on before mid after l.1 le, looked_up_since number_of size names before mid after one device l.1 d, (refl, at_most_on after after after (omega arith) (omega arith)))
looked_up_more number_of size names before mid after le (n ∷ named) [] one device l d = absurd l
looked_up_more number_of size names before mid after le (n ∷ named) (other ∷ table) one device l d =
    (l.0, l.1, l.2, looked_up_more number_of size names l.0 mid after le named table one device l.3 d)

-- the next device of the host
next_named : (i : ℕ) (named : List ℕ) → slice_get host_devices i ≡ Some named → take (i + 1) host_devices ≡ take i host_devices ++ named ∷ []
next_named i named is = take_more host_devices i named (slice_get_within host_devices i named is)
    ∙ ap (λ d. take i host_devices ++ d ∷ []) (get_or_from_slice_get host_devices i named named is)

-- one more look-up, in the course of all
pub found_next : (number_of number_of' : List ℕ → Option ℕ) (size size' : ℕ → ℕ) (names names' : Option (List (List ℕ))) (before mid after i : ℕ)
    (table items : List Device) (device : Device)
    → ((name : List ℕ) (dev : ℕ) → number_of name ≡ Some dev → number_of' name ≡ Some dev)
    → ((d : ℕ) → 0 < size d → size' d ≡ size d) → mid ≤ after → names' ≡ names
    → AreLookedUp number_of size names before mid (take i host_devices) table → LooksUp number_of' size' names' mid after i device
    → items ≡ table ++ device ∷ [] → AreLookedUp number_of' size' names before after (take (i + 1) host_devices) items
found_next number_of number_of' size size' names names' before mid after i table items device keeps sizes le same found next is =
    let its : LooksUp number_of' size' names mid after i device = subst (λ n. LooksUp number_of' size' n mid after i device) same next in
    rw (is, next_named i its.name its.is_named)
    (looked_up_more number_of' size' names before mid after le (take i host_devices) table its.name device
    (looked_up_on number_of number_of' size size' names keeps sizes before mid mid (at_most_on mid mid mid (omega arith) (omega arith)) (take i host_devices) table found)
    its.looked_up)

-- The host's names differ from one another.

-- this name differs from each of these
abbrev pub Differs : List ℕ → List (List ℕ) → Type 0
Differs name [] = Unit {0}
Differs name (n ∷ named) = (name ≢ n) × Differs name named

abbrev pub AllDiffer : List (List ℕ) → Type 0
AllDiffer [] = Unit {0}
AllDiffer (n ∷ named) = Differs n named × AllDiffer named

unequal : (one other : List ℕ) → bytes_eq one other ≡ false → one ≢ other
unequal one other test same = absurd (let no : true ≡ false = sym ((bytes_eq-Decides one other).1 same) ∙ test in cc)

host_differs : AllDiffer host_devices
host_differs =
    ((unequal _ _ refl, (unequal _ _ refl, (unequal _ _ refl, (unequal _ _ refl, (unequal _ _ refl, (unequal _ _ refl, tt)))))), ((unequal _ _ refl, (unequal _ _ refl, (unequal _ _ refl, (unequal _ _ refl, (unequal _ _ refl, tt))))), ((unequal _ _ refl, (unequal _ _ refl, (unequal _ _ refl, (unequal _ _ refl, tt)))), ((unequal _ _ refl, (unequal _ _ refl, (unequal _ _ refl, tt))), ((unequal _ _ refl, (unequal _ _ refl, tt)), ((unequal _ _ refl, tt), (tt, tt)))))))

front_differs : (name : List ℕ) (named : List (List ℕ)) (k : ℕ) → Differs name named → Differs name (take k named)
front_differs name named zero d = tt
front_differs name [] (suc k) d = tt
front_differs name (n ∷ named) (suc k) d = (d.0, front_differs name named k d.1)

all_front : (named : List (List ℕ)) (k : ℕ) → AllDiffer named → AllDiffer (take k named)
all_front named zero d = tt
all_front [] (suc k) d = tt
all_front (n ∷ named) (suc k) d = (front_differs n named k d.0, all_front named k d.1)

pub fronts_differ : (k : ℕ) → AllDiffer (take k host_devices)
fronts_differ k = all_front host_devices k host_differs

-- Where no two names have one number, no two devices of the table are one.

module _ (number_of : List ℕ → Option ℕ) (size : ℕ → ℕ) (names : Option (List (List ℕ)))
    (apart : (one other : List ℕ) (d : ℕ) → number_of one ≡ Some d → number_of other ≡ Some d → one ≡ other) where
  all_two : (before after : ℕ) (name : List ℕ) (named : List (List ℕ)) (device : Device) (table : List Device) → device.name ≡ name
      → ((d : ℕ) → device.number ≡ Some d → number_of name ≡ Some d) → Differs name named → AreLookedUp number_of size names before after named table
      → AllByRecursion (AreTwo device) table
  all_two before after name [] device table is found differ l = subst (AllByRecursion (AreTwo device)) (sym l.0) tt
  all_two before after name (n ∷ named) device [] is found differ l = absurd l
  all_two before after name (n ∷ named) device (other ∷ table) is found differ l = (
    record {
      names = λ e. differ.0 (sym is ∙ e ∙ l.2.name_is);
      numbers = λ d one two. differ.0 (apart name n d (found d one) (l.2.found d two).0);
    },
    all_two l.0 after name named device table is found differ.1 l.3,
  )

  pub are_apart : (before after : ℕ) (named : List (List ℕ)) (table : List Device) → AllDiffer named → AreLookedUp number_of size names before after named table
      → AreApart table
  are_apart before after [] table differ l = subst AreApart (sym l.0) tt
  are_apart before after (n ∷ named) [] differ l = absurd l
  are_apart before after (n ∷ named) (device ∷ table) differ l = (
    all_two l.0 after n named device table l.2.name_is (λ d e. (l.2.found d e).0) differ.0 l.3,
    are_apart l.0 after named table differ.1 l.3,
  )

-- The devices that were found have the sizes of the table.

none_has : (d : ℕ) → 1 ≤ size_in [] d → ⊥
none_has d some = omega (arith, some)

is_number : (d : ℕ) (number : Option ℕ) → is_dev d number ≡ true → number ≡ Some d
is_number d None is = absurd (let no : false ≡ true = is in cc)
is_number d (Some e) is = let same : d ≡ e = grind (arith, nat_tests) in ap (λ n. Some n) (sym same)

pub sizes_are : (number_of : List ℕ → Option ℕ) (size : ℕ → ℕ) (names : Option (List (List ℕ))) (before after : ℕ) (named : List (List ℕ)) (table : List Device)
    → AreLookedUp number_of size names before after named table → (d : ℕ) → 1 ≤ size_in table d → size d ≡ size_in table d
sizes_are number_of size names before after [] table l d some = absurd (none_has d (subst (λ t. 1 ≤ size_in t d) l.0 some))
sizes_are number_of size names before after (n ∷ named) [] l d some = absurd l
sizes_are number_of size names before after (n ∷ named) (device ∷ table) l d some =
    by (is_dev d device.number) refl some (sizes_are number_of size names l.0 after named table l.3 d)
  where
    by : (t : Bool) → is_dev d device.number ≡ t → 1 ≤ cond t device.sectors (size_in table d) → (1 ≤ size_in table d → size d ≡ size_in table d)
        → size d ≡ cond t device.sectors (size_in table d)
    by true here some more = (l.2.found d (is_number d device.number here)).1
    by false other some more = more some
