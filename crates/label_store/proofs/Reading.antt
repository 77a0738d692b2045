-- A look makes reads, and no other call.
use Rattle.std.proofs.Common.{◌≡◌, ℕ, List, [], ◌∷◌, ◌++◌, Option, Result, Ok, Err, OnErr, sym, subst}
use Rattle.std.specs.List.{flat_map}
use Rattle.bank_core.specs.Asks.{Ask, Reads, Writes, Flushes, Admits, Ejects, ask_of, asks_of}
use Rattle.bank_core.specs.Disk.{Call, Read, Write, Flush, Admit, Eject, Noted}
use Rattle.bank_core.specs.BankView.{BankView}
use Rattle.bank_core.proofs.Framing.{makes_more}
use Rattle.label_store.specs.declared.found.Found.{Found}
use Rattle.label_store.specs.declared.rule.Head.{Head}
use Rattle.label_store.specs.Layout.{labels_of}
use Rattle.label_store.specs.Newest.{Parts, label_asks, look_asks, Looks, IsLook, IsRead, AreReads, ReadsOnly}
use Rattle.label_store.specs.Opening.{ReadsPart}
use Rattle.label_store.proofs.Looking.{LooksSoFar}

abbrev pub IsReadAsk : Ask → Type 0
IsReadAsk (Reads dev at sectors) = Unit {0}
IsReadAsk (Writes dev at bytes) = ⊥
IsReadAsk (Flushes dev) = ⊥
IsReadAsk (Admits dev) = ⊥
IsReadAsk (Ejects dev) = ⊥

abbrev pub AreReadAsks : List Ask → Type 0
AreReadAsks [] = Unit {0}
AreReadAsks (ask ∷ asks) = IsReadAsk ask × AreReadAsks asks

-- a call that asked for a read is one
pub is_read : (call : Call) → IsReadAsk (ask_of call) → IsRead call
is_read (Read dev at bytes fault) a = tt
is_read (Write dev at bytes fault) a = a
is_read (Flush dev fault) a = a
is_read (Admit dev holds) a = a
is_read (Eject dev) a = a

pub are_reads : (made : List Noted) → AreReadAsks (asks_of made) → AreReads made
are_reads [] a = tt
are_reads (noted ∷ made) a = (is_read noted.call a.0, are_reads made a.1)

pub are_reads_more : (first second : List Noted) → AreReads first → AreReads second → AreReads (first ++ second)
are_reads_more [] second a b = b
are_reads_more (noted ∷ first) second a b = (a.0, are_reads_more first second a.1 b)

labels_read : (dev : ℕ) (labels : List ℕ) → AreReadAsks (flat_map (label_asks dev) labels)
labels_read dev [] = tt
labels_read dev (at ∷ labels) = (tt, (tt, labels_read dev labels))

made_reads : (dev : ℕ) (labels : List ℕ) (made : List Noted) → asks_of made ≡ flat_map (label_asks dev) labels → AreReads made
made_reads dev labels made are = are_reads made (subst AreReadAsks (sym are) (labels_read dev labels))

-- no call of a look is another
pub looks_read : {old new : BankView} {parts : Parts} (dev : ℕ) (labels : List ℕ) → Looks (flat_map (label_asks dev) labels) old new parts → ReadsOnly old new
looks_read dev labels l = record { made = l.made; calls = l.calls; reads = made_reads dev labels l.made l.asks_are }

pub look_read : {old new : BankView} {parts : Parts} (dev size : ℕ) → Looks (look_asks dev size) old new parts → ReadsOnly old new
look_read dev size l = looks_read dev (labels_of size) l

pub part_reads : {old new : BankView} {dev at n : ℕ} {part : Option (List ℕ)} → ReadsPart dev at n old new part → ReadsOnly old new
part_reads r = record { made = r.noted ∷ []; calls = r.calls; reads = (is_read r.noted.call (subst IsReadAsk (sym r.ask) tt), tt) }

-- reads, and more reads
pub reads_more : {old mid new : BankView} → ReadsOnly old mid → ReadsOnly mid new → ReadsOnly old new
reads_more {old} {mid} {new} a b = record {
  made = a.made ++ b.made;
  calls = makes_more a.calls b.calls;
  reads = are_reads_more a.made b.made a.reads b.reads;
}

pub look_reads : (size : ℕ → ℕ) (devs : List ℕ) (looks : List Parts) (made : List Noted) → IsLook size devs looks made → AreReads made
look_reads size [] [] made l = subst AreReads (sym l) tt
look_reads size [] (parts ∷ looks) made l = absurd l
look_reads size (dev ∷ devs) [] made l = absurd l
look_reads size (dev ∷ devs) (parts ∷ looks) made l =
    subst AreReads (sym l.2) (are_reads_more l.0 l.1 (made_reads dev (labels_of (size dev)) l.0 l.3) (look_reads size devs looks l.1 l.5))

pub so_far_reads : {old new : BankView} {head_of : List ℕ → Option Head} {size : ℕ → ℕ} {devs : List ℕ} {name : List ℕ} {n : ℕ} {best : Option Found}
    → LooksSoFar head_of size devs name n old new best → ReadsOnly old new
so_far_reads {size = size} {devs = devs} s = record { made = s.made; calls = s.calls; reads = look_reads size devs s.looks s.made s.look }

pub on_err : {T E P : Type 0} (r : Result T E) → P → OnErr r P
on_err (Ok x) p = tt
on_err (Err e) p = p
