-- The calls of a turn, member by member.
use Rattle.std.proofs.Common.{◌≡◌, ℕ, zero, suc, ◌+◌, ◌<◌, ◌≤◌, Bool, true, false, List, [], ◌∷◌, ◌++◌, length, get_or, set, map, take, Result, Ok, Err, is_ok, refl, sym, ◌∙◌, subst, arith}
use Rattle.std.specs.Prelude.{IfSome, All}
use Rattle.std.specs.List.{AllZip}
use Rattle.std.proofs.lemmas.Bool.{true≢false}
use Rattle.std.proofs.lemmas.List.{take_more, take_more_set, take_all, map-append}
use Rattle.std.proofs.lemmas.List.Elements.{All-nil, All-cons, All-head, All-tail}
use Rattle.std.proofs.lemmas.Option.{none-some, same_Some}
use Rattle.mp_base.specs.Outside.{Rose}
use Rattle.bank_core.specs.declared.bank.Fault.{Fault}
use Rattle.bank_core.specs.Asks.{Ask}
use Rattle.bank_core.specs.BankView.{BankView}
use Rattle.bank_core.specs.Disk.{Noted}
use Rattle.bank_core.specs.Parts.{Part}
use Rattle.bank_core.specs.Story.{fault_in}
use Rattle.label_store.specs.declared.member.Member.{Member}
use Rattle.label_store.specs.Committing.{AreExcused}
use Rattle.label_store.specs.Phases.{IsPhase}
use Rattle.label_store.specs.Turns.{MakesPhase}
use Rattle.label_store.proofs.Phasing.{phase_none, phase_more, turn_on}
use Rattle.mirror_io.specs.Mirror.{WritesBlock, IsExcused}
use Rattle.mirror_io.specs.Mirror.{write_plan as plan_on}
use Rattle.txg_history.specs.Records.{Cell}
use Rattle.txg_history.specs.Turns.{write_plan}
use Rattle.txg_engine.specs.Boards.{dev_of}
use Rattle.txg_engine.specs.Turns.{MakesCalls}

rose_later : (x y z : ℕ) → Rose x y → y ≤ z → Rose x z
rose_later x y z rose le = omega arith

rose_before : (w x y : ℕ) → w ≤ x → Rose x y → Rose w y
rose_before w x y le rose = omega arith

if_some : {P : Type 0} (r : Result (Unit {0}) Fault) → is_ok r ≡ false → IfSome (fault_in r) (λ fault. P) → P
if_some (Ok x) e p = absurd (true≢false e)
if_some (Err fault) e p = p

-- a member that didn't do it had its count rise
abbrev pub Excuses : (before after : ℕ → ℕ) → Member → Bool → Type 0
Excuses before after m done = done ≡ false → Rose (before m.dev) (after m.dev)

-- the calls so far
pub record CallsSo (plan : Member → List Ask) (ms : List Member) (done : List Bool) (old new : BankView) : Type 0 where
  pub phase : MakesPhase plan ms (map (λ m. true) ms) done old new
  pub excused : AllZip (Excuses old.faults new.faults) ms done

pub so_none : {plan : Member → List Ask} {bank : BankView} → CallsSo plan [] [] bank bank
so_none = record { phase = phase_none; excused = tt }

later : (f g h : ℕ → ℕ) (ms : List Member) (done : List Bool) → ((d : ℕ) → g d ≤ h d) → AllZip (Excuses f g) ms done → AllZip (Excuses f h) ms done
later f g h [] [] le all = tt
later f g h [] (c ∷ done) le all = absurd all
later f g h (m ∷ ms) [] le all = absurd all
later f g h (m ∷ ms) (c ∷ done) le all =
    ((λ off. rose_later (f m.dev) (g m.dev) (h m.dev) (all.0 off) (le m.dev)), later f g h ms done le all.1)

pushed : (f g : ℕ → ℕ) (ms : List Member) (done : List Bool) (m : Member) (c : Bool) → AllZip (Excuses f g) ms done → Excuses f g m c
    → AllZip (Excuses f g) (ms ++ m ∷ []) (done ++ c ∷ [])
pushed f g [] [] m c all last = (last, tt)
pushed f g [] (b ∷ done) m c all last = absurd all
pushed f g (n ∷ ms) [] m c all last = absurd all
pushed f g (n ∷ ms) (b ∷ done) m c all last = (all.0, pushed f g ms done m c all.1 last)

-- one member more
so_next : {plan : Member → List Ask} (ms : List Member) (done : List Bool) (m : Member) (c : Bool) (r : Result (Unit {0}) Fault) {old mid new : BankView}
    → CallsSo plan ms done old mid → Part m.dev (plan m) mid new (fault_in r) → c ≡ is_ok r → CallsSo plan (ms ++ m ∷ []) (done ++ c ∷ []) old new
so_next {plan} ms done m c r {old} {mid} {new} so part is = record {
  phase = subst (λ was. MakesPhase plan (ms ++ m ∷ []) was (done ++ c ∷ []) old new) (sym (map-append (λ m. true) ms (m ∷ [])))
      (phase_more so.phase (turn_on (plan m) m.dev true c r mid new refl is part));
  excused = pushed old.faults new.faults ms done m c (later old.faults mid.faults new.faults ms done part.frame.counts so.excused)
      (λ off. rose_before (old.faults m.dev) (mid.faults m.dev) (new.faults m.dev) (so.phase.calls.frame.counts m.dev) (if_some r (sym is ∙ off) part.cause));
}

-- the same by places in lists
pub so_more : {plan : Member → List Ask} (ms : List Member) (done : List Bool) (i : ℕ) (m : Member) (c : Bool) (r : Result (Unit {0}) Fault) {old mid new : BankView}
    → i < length ms → length done ≡ length ms → get_or ms i m ≡ m → CallsSo plan (take i ms) (take i done) old mid → Part m.dev (plan m) mid new (fault_in r) → c ≡ is_ok r
    → CallsSo plan (take (i + 1) ms) (take (i + 1) (set done i c)) old new
so_more {plan} ms done i m c r {old} {mid} {new} inside paired at so part is =
    rw (take_more ms i m inside, at, take_more_set done i c (omega arith)) (so_next (take i ms) (take i done) m c r so part is)

zip_excused : (f g : ℕ → ℕ) (ms : List Member) (done : List Bool) → AllZip (Excuses f g) ms done → AreExcused ms done f g
zip_excused f g [] [] all i m at off = absurd (none-some m at)
zip_excused f g [] (c ∷ done) all i m at off = absurd all
zip_excused f g (n ∷ ms) [] all i m at off = absurd all
zip_excused f g (n ∷ ms) (c ∷ done) all zero m at off = subst (λ k. Rose (f k.dev) (g k.dev)) (same_Some n m at) (all.0 (same_Some c false off))
zip_excused f g (n ∷ ms) (c ∷ done) all (suc i) m at off = zip_excused f g ms done all.1 i m at off

pub so_all : {plan : Member → List Ask} (ms : List Member) (done : List Bool) (i : ℕ) {old new : BankView} → length ms ≤ i → length done ≡ length ms
    → CallsSo plan (take i ms) (take i done) old new → MakesCalls plan ms done old new
so_all {plan} ms done i {old} {new} past paired so =
    let so' : CallsSo plan ms done old new =
    subst (λ ns. CallsSo plan ns done old new) (take_all i ms past) (subst (λ cs. CallsSo plan (take i ms) cs old new) (take_all i done (omega arith)) so) in
    record { made = so'.phase.made; calls = so'.phase.calls; phase = so'.phase.phase; excused = zip_excused old.faults new.faults ms done so'.excused }

-- a phase over devices is one over the members on them
phase_on : (cell : Cell) (ms : List Member) (done : List Bool) (made : List Noted)
    → IsPhase (plan_on (128 + cell.sector) cell.block) (map dev_of ms) (map (λ d. true) (map dev_of ms)) done made → IsPhase (write_plan cell) ms (map (λ m. true) ms) done made
phase_on cell [] [] made p = p
phase_on cell [] (c ∷ done) made p = p
phase_on cell (m ∷ ms) [] made p = p
phase_on cell (m ∷ ms) (c ∷ done) made p = (p.0, p.1, p.2, p.3, phase_on cell ms done p.1 p.4)

excuses_on : (f g : ℕ → ℕ) (ms : List Member) (done : List Bool) → AllZip (IsExcused f g) (map dev_of ms) done → AllZip (Excuses f g) ms done
excuses_on f g [] [] all = tt
excuses_on f g [] (c ∷ done) all = all
excuses_on f g (m ∷ ms) [] all = all
excuses_on f g (m ∷ ms) (c ∷ done) all = (all.0, excuses_on f g ms done all.1)

pub writes_on : (cell : Cell) (ms : List Member) (devs : List ℕ) (done : List Bool) {old new : BankView} → devs ≡ map dev_of ms
    → WritesBlock devs (128 + cell.sector) cell.block done old new → AllZip (IsExcused old.faults new.faults) devs done → MakesCalls (write_plan cell) ms done old new
writes_on cell ms devs done {old} {new} are w excused =
    let w' = subst (λ ds. WritesBlock ds (128 + cell.sector) cell.block done old new) are w in
    record {
      made = w'.made;
      calls = w'.bank;
      phase = phase_on cell ms done w'.made w'.phase;
      excused = zip_excused old.faults new.faults ms done (excuses_on old.faults new.faults ms done (subst (λ ds. AllZip (IsExcused old.faults new.faults) ds done) are excused));
    }

-- what holds of the device of each member
pub all_devs : (P : ℕ → Type 0) (ms : List Member) → All (λ m. P m.dev) ms → All P (map dev_of ms)
all_devs P [] all = All-nil P
all_devs P (m ∷ ms) all = All-cons P m.dev (map dev_of ms) (All-head (λ n. P n.dev) m ms all) (all_devs P ms (All-tail (λ n. P n.dev) m ms all))
