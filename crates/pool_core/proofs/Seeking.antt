-- What a search for the newest record says of its configuration.
use Rattle.std.proofs.Common.{◌≡◌, ℕ, List, [], ◌∷◌, ◌++◌, Option, Some, None, Result, Ok, Err, IfOk, OnErr, sym, subst, length, ◌*◌}
use Rattle.std.specs.Option.{option_map}
use Rattle.std.specs.List.{flat_map}
use Rattle.mp_base.specs.declared.fault.MemFault.{MemFault}
use Rattle.bank_core.specs.Asks.{Ask, Reads, Writes, Flushes, Admits, Ejects, ask_of, asks_of}
use Rattle.bank_core.specs.Disk.{Call, Read, Write, Flush, Admit, Eject, Noted}
use Rattle.bank_core.specs.BankView.{BankView}
use Rattle.label_store.specs.declared.found.Found.{Found}
use Rattle.label_store.specs.declared.rule.Head.{Head}
use Rattle.label_store.specs.Layout.{labels_of}
use Rattle.label_store.specs.Newest.{Parts, label_asks, IsLook, IsRead, AreReads, ReadsOnly, FindsNewest, IsBest}
use Rattle.config_codec.specs.declared.config.Config.{Config}
use Rattle.config_codec.specs.Fields.{Fields, config_fields}
use Rattle.config_codec.specs.Reading.{config_in}
use Rattle.pool_core.specs.Done.{Seeks, IsConfigOf}
use Rattle.pool_core.specs.Heads.{head_of, head_from}

-- a record that was found has a configuration
config_of_best : (looks : List Parts) (name : List ℕ) (n : ℕ) (found : Found) (found_config : Option Config) → IsBest head_of looks name n (Some found)
    → option_map config_fields found_config ≡ config_in found.blob.items → IsConfigOf (Some found) found_config
config_of_best looks name n found (Some config) best is = sym is
config_of_best looks name n found None best is =
    let reads = best.candidate.verified.reads in
    absurd (no_head (config_in found.blob.items) best.candidate.verified.head (sym is) reads)
  where
    no_head : (c : Option Fields) (h : Head) → c ≡ None → option_map head_from c ≡ Some h → ⊥
    no_head None h e f = cc
    no_head (Some c) h e f = cc

seeks_of : (old new : BankView) (size : ℕ → ℕ) (devs name : List ℕ) (found : Found) (r : Result (Option Config) MemFault)
    → FindsNewest head_of size devs name old new (Some found) → IfOk r (λ config. option_map config_fields config ≡ config_in found.blob.items)
    → IfOk r (λ config. Seeks size devs name old.told new.told old.faults new.faults config)
seeks_of old new size devs name found (Err e) finds is = tt
seeks_of old new size devs name found (Ok config) finds is = record {
  made = finds.made;
  calls = finds.calls.calls;
  looks = finds.looks;
  look = finds.look;
  best = Some found;
  is_best = finds.is_best;
  is_config = config_of_best finds.looks name (128 * length devs) found config finds.is_best is;
}

pub seeks_some : {old new : BankView} (size : ℕ → ℕ) (devs name : List ℕ) (best : Option Found) (found : Found) (bytes : List ℕ)
    (r : Result (Option Config) MemFault) → best ≡ Some found → bytes ≡ found.blob.items → FindsNewest head_of size devs name old new best
    → IfOk r (λ config. option_map config_fields config ≡ config_in bytes) → IfOk r (λ config. Seeks size devs name old.told new.told old.faults new.faults config)
seeks_some {old} {new} size devs name best found bytes r is bytes_are finds decoded =
    seeks_of old new size devs name found r (subst (FindsNewest head_of size devs name old new) is finds)
    (subst (λ b. IfOk r (λ config. option_map config_fields config ≡ config_in b)) bytes_are decoded)

-- a look makes reads, and no other call
abbrev IsReadAsk : Ask → Type 0
IsReadAsk (Reads dev at sectors) = Unit {0}
IsReadAsk (Writes dev at bytes) = ⊥
IsReadAsk (Flushes dev) = ⊥
IsReadAsk (Admits dev) = ⊥
IsReadAsk (Ejects dev) = ⊥

abbrev AreReadAsks : List Ask → Type 0
AreReadAsks [] = Unit {0}
AreReadAsks (ask ∷ asks) = IsReadAsk ask × AreReadAsks asks

is_read : (call : Call) → IsReadAsk (ask_of call) → IsRead call
is_read (Read dev at bytes fault) a = tt
is_read (Write dev at bytes fault) a = a
is_read (Flush dev fault) a = a
is_read (Admit dev holds) a = a
is_read (Eject dev) a = a

are_reads : (made : List Noted) → AreReadAsks (asks_of made) → AreReads made
are_reads [] a = tt
are_reads (noted ∷ made) a = (is_read noted.call a.0, are_reads made a.1)

are_reads_more : (first second : List Noted) → AreReads first → AreReads second → AreReads (first ++ second)
are_reads_more [] second a b = b
are_reads_more (noted ∷ first) second a b = (a.0, are_reads_more first second a.1 b)

labels_read : (dev : ℕ) (labels : List ℕ) → AreReadAsks (flat_map (label_asks dev) labels)
labels_read dev [] = tt
labels_read dev (at ∷ labels) = (tt, (tt, labels_read dev labels))

look_reads : (size : ℕ → ℕ) (devs : List ℕ) (looks : List Parts) (made : List Noted) → IsLook size devs looks made → AreReads made
look_reads size [] [] made l = subst AreReads (sym l) tt
look_reads size [] (parts ∷ looks) made l = absurd l
look_reads size (dev ∷ devs) [] made l = absurd l
look_reads size (dev ∷ devs) (parts ∷ looks) made l =
    subst AreReads (sym l.2) (are_reads_more l.0 l.1 (are_reads l.0 (subst AreReadAsks (sym l.3) (labels_read dev (labels_of (size dev)))))
    (look_reads size devs looks l.1 l.5))

on_err : {T E P : Type 0} (r : Result T E) → P → OnErr r P
on_err (Ok x) p = tt
on_err (Err e) p = p

pub finds_read : {old new : BankView} {best : Option Found} {T E : Type 0} (size : ℕ → ℕ) (devs name : List ℕ) (r : Result T E)
    → FindsNewest head_of size devs name old new best → OnErr r (ReadsOnly old new)
finds_read size devs name r finds = on_err r (record { made = finds.made; calls = finds.calls; reads = look_reads size devs finds.looks finds.made finds.look })
