-- Writes of a block, device by device.
use Rattle.std.proofs.Common.{true≢false, ◌≡◌, ℕ, ◌+◌, ◌<◌, ◌≤◌, Bool, true, false, List, [], ◌∷◌, ◌++◌, map, length, take, get_or, set, Option, Some, None, Result, is_none, is_ok, Ok, Err, refl, sym, ap, ◌∙◌, subst, inl, inr, ◌⊎◌, arith, append_assoc, append-nil}
use Rattle.std.specs.List.{AllZip}
use Rattle.std.proofs.lemmas.List.{take_all, take_more, take_more_set, map-append}
use Rattle.std.proofs.lemmas.Option.{none-some}
use Rattle.mp_base.specs.Outside.{Rose}
use Rattle.bank_core.specs.declared.bank.Fault.{Fault}
use Rattle.bank_core.specs.Asks.{Ask, IsPart}
use Rattle.bank_core.specs.BankView.{BankView}
use Rattle.bank_core.specs.Calls.{AllCaused, Called, device_of, fault_of}
use Rattle.bank_core.specs.Disk.{Write, Noted}
use Rattle.label_store.specs.Phases.{IsTurn, IsPhase}
use Rattle.bank_core.specs.Story.{fault_in}
use Rattle.bank_core.proofs.Composing.{caused_counts, caused_split}
use Rattle.bank_core.proofs.Framing.{makes_none, makes_more, makes_one}
use Rattle.mirror_io.specs.Mirror.{WritesBlock, IsExcused, write_plan}
use Rattle.mirror_io.proofs.Causing.{rose_from}
use Rattle.mirror_io.proofs.Rewriting.{written}

phase_more : (plan : ℕ → List Ask) (ms : List ℕ) (bs cs : List Bool) (made mine : List Noted) (m : ℕ) (b c : Bool)
    → IsPhase plan ms bs cs made → IsTurn (plan m) b c mine → IsPhase plan (ms ++ m ∷ []) (bs ++ b ∷ []) (cs ++ c ∷ []) (made ++ mine)
phase_more plan [] [] [] made mine m b c p t = (mine, [], ap (λ l. l ++ mine) p ∙ sym (append-nil mine), t, refl)
phase_more plan [] [] (c' ∷ cs) made mine m b c p t = absurd p
phase_more plan [] (b' ∷ bs) cs made mine m b c p t = absurd p
phase_more plan (m' ∷ ms) [] cs made mine m b c p t = absurd p
phase_more plan (m' ∷ ms) (b' ∷ bs) [] made mine m b c p t = absurd p
phase_more plan (m' ∷ ms) (b' ∷ bs) (c' ∷ cs) made mine m b c p t =
    (p.0, p.1 ++ mine, ap (λ l. l ++ mine) p.2 ∙ append_assoc p.0 p.1 mine, p.3, phase_more plan ms bs cs p.1 mine m b c p.4 t)

turn_one : (dev at : ℕ) (block : List ℕ) (damage : ℕ → ℕ → Bool) (r : Result (Unit {0}) Fault)
    → IsTurn (write_plan at block dev) true (is_ok r) (record { call = Write dev at block (fault_in r); damage = damage } ∷ [])
turn_one dev at block damage (Ok done) = (None, (refl, inl (refl, refl)), refl)
turn_one dev at block damage (Err fault) = (Some fault, (refl, inr (fault, refl, refl, refl)), refl)

pub writes_none : {at : ℕ} {block : List ℕ} {bank : BankView} → WritesBlock [] at block [] bank bank
writes_none = record { made = []; bank = makes_none; phase = refl }

-- one more device
pub writes_next : {at : ℕ} {block : List ℕ} {old mid new : BankView} (devs : List ℕ) (done : List Bool) (i d : ℕ) (r : Result (Unit {0}) Fault) (did : Bool)
    → i < length devs → length done ≡ length devs → did ≡ is_ok r → WritesBlock (take i devs) at block (take i done) old mid
    → Called (Write (get_or devs i d) at block (fault_in r)) mid new → WritesBlock (take (i + 1) devs) at block (take (i + 1) (set done i did)) old new
writes_next {at} {block} devs done i d r did lt paired is w called =
    let dev = get_or devs i d in
    let one = makes_one called in
    let mine : List Noted = record { call = Write dev at block (fault_in r); damage = one.damage } ∷ [] in
    rw (take_more devs i d lt, take_more_set done i did (omega arith), is) (record {
      made = w.made ++ mine;
      bank = makes_more w.bank one.makes;
      phase = subst (λ all. IsPhase (write_plan at block) (take i devs ++ dev ∷ []) all (take i done ++ is_ok r ∷ []) (w.made ++ mine))
          (sym (map-append (λ dev. true) (take i devs) (dev ∷ [])))
          (phase_more (write_plan at block) (take i devs) (map (λ dev. true) (take i devs)) (take i done) w.made mine dev true (is_ok r) w.phase
          (turn_one dev at block one.damage r));
    })

not_done : (outcome : Option Fault) → false ≡ is_none outcome → (fault : Fault) × (outcome ≡ Some fault)
not_done None e = absurd (true≢false (sym e))
not_done (Some fault) e = (fault, refl)

-- the one call of a turn that failed
turn_failed : (dev at : ℕ) (block : List ℕ) (mine : List Noted) (outcome : Option Fault) (fault : Fault) (f g : ℕ → ℕ) → outcome ≡ Some fault
    → IsPart (write_plan at block dev) mine outcome → AllCaused mine f g → Rose (f dev) (g dev)
turn_failed dev at block [] outcome fault f g e p caused = absurd p
turn_failed dev at block (noted ∷ more) outcome fault f g e p caused = go p.1
  where
    one : (fault : Option Fault) × (noted.call ≡ Write dev at block fault)
    one = written noted.call dev at block p.0

    none_left : (asks : List Noted) → IsPart [] asks outcome → outcome ≡ None
    none_left [] q = q
    none_left (x ∷ xs) q = absurd q

    go : ((fault_of noted.call ≡ None) × IsPart [] more outcome) ⊎ ((other : Fault) × (fault_of noted.call ≡ Some other) × (more ≡ []) × (outcome ≡ Some other)) → Rose (f dev) (g dev)
    go (inl (ok, rest)) = absurd (none-some fault (sym (none_left more rest) ∙ e))
    go (inr (other, failed, last, is)) =
        rose_from (f dev) (f dev) (caused.0 dev) (g dev) (omega arith)
        (subst (λ d. Rose (f d) (caused.0 d)) (ap device_of one.1) (caused.1.cause other failed)) (caused_counts more caused.0 g caused.2 dev)

excused_more : (devs : List ℕ) (done : List Bool) (f m g : ℕ → ℕ) → ((d : ℕ) → f d ≤ m d) → AllZip (IsExcused m g) devs done → AllZip (IsExcused f g) devs done
excused_more [] [] f m g le a = tt
excused_more [] (c ∷ done) f m g le a = a
excused_more (dev ∷ devs) [] f m g le a = a
excused_more (dev ∷ devs) (c ∷ done) f m g le a =
    ((λ e. rose_from (f dev) (m dev) (g dev) (g dev) (le dev) (a.0 e) (omega arith)), excused_more devs done f m g le a.1)

phase_excused : (at : ℕ) (block : List ℕ) (devs : List ℕ) (done : List Bool) (made : List Noted) (f g : ℕ → ℕ)
    → IsPhase (write_plan at block) devs (map (λ dev. true) devs) done made → AllCaused made f g → AllZip (IsExcused f g) devs done
phase_excused at block [] [] made f g p caused = tt
phase_excused at block [] (c ∷ done) made f g p caused = absurd p
phase_excused at block (dev ∷ devs) [] made f g p caused = absurd p
phase_excused at block (dev ∷ devs) (c ∷ done) made f g p caused =
    let split = caused_split p.0 p.1 f g (subst (λ l. AllCaused l f g) p.2 caused) in
    let between = split.0 in (
      (λ e. let failed = not_done p.3.0 (sym e ∙ p.3.2) in
          rose_from (f dev) (f dev) (between dev) (g dev) (omega arith) (turn_failed dev at block p.0 p.3.0 failed.0 f between failed.1 p.3.1 split.1)
          (caused_counts p.1 between g split.2 dev)),
      excused_more devs done f between g (caused_counts p.0 f between split.1) (phase_excused at block devs done p.1 between g p.4 split.2),
    )

pub all_excused : {devs : List ℕ} {at : ℕ} {block : List ℕ} {done : List Bool} {old new : BankView} → WritesBlock devs at block done old new
    → AllZip (IsExcused old.faults new.faults) devs done
all_excused {devs} {at} {block} {done} {old} {new} w = phase_excused at block devs done w.made old.faults new.faults w.phase w.bank.calls.caused

pub all_written : {at : ℕ} {block : List ℕ} {old new : BankView} (devs : List ℕ) (done : List Bool) (i : ℕ) → length devs ≤ i → length done ≤ i
    → WritesBlock (take i devs) at block (take i done) old new → WritesBlock devs at block done old new
all_written {at} {block} {old} {new} devs done i le le' w =
    subst (λ ds. WritesBlock ds at block done old new) (take_all i devs le) (subst (λ cs. WritesBlock (take i devs) at block cs old new) (take_all i done le') w)
