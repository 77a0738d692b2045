-- Rings that are searched one after another.
use Rattle.std.proofs.Common.{◌≡◌, ℕ, zero, suc, ◌+◌, ◌-◌, ◌*◌, ◌%◌, ◌<◌, ◌≤◌, Bool, true, false, List, [], ◌∷◌, ◌++◌, map, length, take, drop, get_or, Option, Some, None, Result, Ok, Err, OnErr, IfSome, refl, sym, ap, ◌∙◌, subst, arith}
use Rattle.std.proofs.lemmas.List.{take_more, map-append, take_all}
use Rattle.mp_base.specs.Outside.{Rose}
use Rattle.mp_base.specs.declared.number.Guid.{Guid}
use Rattle.bank_core.specs.declared.bank.Fault.{Fault}
use Rattle.bank_core.specs.Asks.{Reads, ask_of}
use Rattle.bank_core.specs.BankView.{BankView}
use Rattle.bank_core.specs.Calls.{Called, fault_of}
use Rattle.bank_core.specs.Disk.{Call, Read, Noted, sector_of, sectors_in, sector_size}
use Rattle.bank_core.specs.Story.{fault_in}
use Rattle.bank_core.proofs.Framing.{makes_none, makes_more, makes_one}
use Rattle.bank_core.proofs.Sectors.{piece_is}
use Rattle.label_store.specs.Layout.{labels_of}
use Rattle.label_store.proofs.Writing.{label_room}
use Rattle.label_store.specs.Uberblock.{IsUberblock}
use Rattle.label_store.specs.Identities.{HasIdentity, NamesMember, GivesIdentity, AreMisses, IsFound, ReadsRing, Misses, Searches, fault_or, first_fault, search_outcome}

pub identity_here : (pool member : Guid) (ring piece : List ℕ) (slot start : ℕ) → start ≡ slot * 4096 → slot < 32
    → piece ≡ take (start + 4096 - start) (drop start ring) → NamesMember pool member piece → HasIdentity pool member ring
identity_here pool member ring piece slot start e lt is n = record {
  slot = slot;
  inside = lt;
  u = n.u;
  is_uberblock = subst (λ b. IsUberblock n.u b) (piece_is ring piece slot start e is) n.is_uberblock;
  pool_is = n.pool_is;
  member_is = n.member_is;
}

pub missed_here : (pool member : Guid) (ring piece : List ℕ) (slot start : ℕ) → start ≡ slot * 4096
    → piece ≡ take (start + 4096 - start) (drop start ring) → ¬ (NamesMember pool member piece) → ¬ (NamesMember pool member (sector_of slot ring))
missed_here pool member ring piece slot start e is non = subst (λ b. ¬ (NamesMember pool member b)) (piece_is ring piece slot start e is) non

pub missed_all : (pool member : Guid) (ring : List ℕ) (n : ℕ) → 32 ≤ n → ((k : ℕ) → k < n → ¬ (NamesMember pool member (sector_of k ring))) → ¬ (HasIdentity pool member ring)
missed_all pool member ring n enough non h =
    non h.slot (omega (arith, h.inside)) (record { u = h.u; is_uberblock = h.is_uberblock; pool_is = h.pool_is; member_is = h.member_is })

ring_sectors : (bytes : List ℕ) → length bytes ≡ 131072 → sectors_in bytes ≡ 32
unfolding sector_size
ring_sectors bytes long = rw long refl

pub ring_whole : (bytes : List ℕ) → length bytes ≡ 131072 → length bytes % sector_size ≡ 0
unfolding sector_size
ring_whole bytes long = rw long refl

pub ring_inside : (bytes : List ℕ) (at size : ℕ) → length bytes ≡ 131072 → at + 32 ≤ size → at + sectors_in bytes ≤ size
ring_inside bytes at size long inside = rw (ring_sectors bytes long) inside

pub ring_failed : {old new : BankView} (pool member : Guid) (dev at : ℕ) (bytes : List ℕ) (fault : Fault) → length bytes ≡ 131072
    → Called (Read dev at bytes (Some fault)) old new → ReadsRing pool member dev at old new (Err fault)
ring_failed pool member dev at bytes fault long c =
    let call : Call = Read dev at bytes (Some fault) in
    let one = makes_one c in
    record {
      noted = record { call = call; damage = one.damage };
      calls = one.makes;
      ask = ap (Reads dev at) (ring_sectors bytes long);
      found = (refl, λ h. h);
      cause = c.cause;
    }

answered : (pool member : Guid) (dev at : ℕ) (bytes : List ℕ) (found : Bool) → (found ≡ true → HasIdentity pool member bytes)
    → (found ≡ false → ¬ (HasIdentity pool member bytes)) → IsFound pool member (Read dev at bytes None) (Ok found)
answered pool member dev at bytes true has non = has refl
answered pool member dev at bytes false has non = (refl, non refl)

pub ring_answered : {old new : BankView} (pool member : Guid) (dev at : ℕ) (bytes : List ℕ) (found : Bool) → length bytes ≡ 131072
    → (found ≡ true → HasIdentity pool member bytes) → (found ≡ false → ¬ (HasIdentity pool member bytes))
    → Called (Read dev at bytes None) old new → ReadsRing pool member dev at old new (Ok found)
ring_answered pool member dev at bytes found long has non c =
    let call : Call = Read dev at bytes None in
    let one = makes_one c in
    record {
      noted = record { call = call; damage = one.damage };
      calls = one.makes;
      ask = ap (Reads dev at) (ring_sectors bytes long);
      found = answered pool member dev at bytes found has non;
      cause = tt;
    }

misses_snoc : (pool member : Guid) (dev : ℕ) (rings : List ℕ) (made : List Noted) (at : ℕ) (noted : Noted) → AreMisses pool member dev rings made
    → ask_of noted.call ≡ Reads dev at 32 → ¬ (GivesIdentity pool member noted.call) → AreMisses pool member dev (rings ++ at ∷ []) (made ++ noted ∷ [])
misses_snoc pool member dev [] [] at noted m ask non = (ask, non, refl)
misses_snoc pool member dev [] (x ∷ made) at noted m ask non = absurd (cc)
misses_snoc pool member dev (a ∷ rings) [] at noted m ask non = absurd m
misses_snoc pool member dev (a ∷ rings) (x ∷ made) at noted m ask non = (m.0, m.1, misses_snoc pool member dev rings made at noted m.2 ask non)

or_none : (a : Option Fault) → fault_or a None ≡ a
or_none None = refl
or_none (Some fault) = refl

or_assoc : (a b c : Option Fault) → fault_or a (fault_or b c) ≡ fault_or (fault_or a b) c
or_assoc None b c = refl
or_assoc (Some fault) b c = refl

first_snoc : (made : List Noted) (noted : Noted) → first_fault (made ++ noted ∷ []) ≡ fault_or (first_fault made) (fault_of noted.call)
first_snoc [] noted = or_none (fault_of noted.call)
first_snoc (x ∷ made) noted = ap (fault_or (fault_of x.call)) (first_snoc made noted) ∙ or_assoc (fault_of x.call) (first_fault made) (fault_of noted.call)

found_fault : (pool member : Guid) (call : Call) (found : Result Bool Fault) (test : Bool) → (found ≡ Ok true → test ≡ true) → test ≡ false → IsFound pool member call found
    → (fault_of call ≡ fault_in found) × (¬ (GivesIdentity pool member call))
found_fault pool member call (Ok true) test tells fails f = let t : test ≡ true = tells refl in absurd (cc)
found_fault pool member call (Ok false) test tells fails f = f
found_fault pool member call (Err fault) test tells fails f = f

pub misses_none : {bank : BankView} {pool member : Guid} {dev : ℕ} → Misses pool member dev [] bank bank None
misses_none {bank} {pool} {member} {dev} = record { made = []; calls = makes_none; are_misses = refl; first = refl; cause = tt }

fault_cause : (failed : Option Fault) (found : Result Bool Fault) (x y z : ℕ) → IfSome failed (λ fault. Rose x y) → x ≤ y → y ≤ z
    → OnErr found (Rose y z) → IfSome (fault_or failed (fault_in found)) (λ fault. Rose x z)
fault_cause None (Ok b) x y z earlier le le' cause = tt
fault_cause None (Err f) x y z earlier le le' cause = omega arith
fault_cause (Some f) found x y z earlier le le' cause = omega arith

-- one more ring, that doesn't give it
pub misses_more : {old mid new : BankView} (pool member : Guid) (dev : ℕ) (labels : List ℕ) (i : ℕ) (failed : Option Fault) (found : Result Bool Fault) (test : Bool)
    → i < length labels → (found ≡ Ok true → test ≡ true) → test ≡ false
    → Misses pool member dev (map (λ at. at + 32) (take i labels)) old mid failed
    → ReadsRing pool member dev (get_or labels i 0 + 32) mid new found
    → Misses pool member dev (map (λ at. at + 32) (take (i + 1) labels)) old new (fault_or failed (fault_in found))
misses_more {old} {mid} {new} pool member dev labels i failed found test lt tells fails m r =
    let one = found_fault pool member r.noted.call found test tells fails r.found in
    let rings : map (λ at. at + 32) (take (i + 1) labels) ≡ map (λ at. at + 32) (take i labels) ++ (get_or labels i 0 + 32) ∷ [] =
    ap (map (λ at. at + 32)) (take_more labels i 0 lt) ∙ map-append (λ at. at + 32) (take i labels) (get_or labels i 0 ∷ []) in
    record {
      made = m.made ++ r.noted ∷ [];
      calls = makes_more m.calls r.calls;
      are_misses = subst (λ l. AreMisses pool member dev l (m.made ++ r.noted ∷ [])) (sym rings)
          (misses_snoc pool member dev _ m.made _ r.noted m.are_misses r.ask one.1);
      first = first_snoc m.made r.noted ∙ ap (λ a. fault_or a (fault_of r.noted.call)) m.first ∙ ap (fault_or failed) one.0;
      cause = fault_cause failed found _ _ _ m.cause (m.calls.frame.counts dev) (r.calls.frame.counts dev) r.cause;
    }

ring_of : (labels : List ℕ) (i : ℕ) → i < length labels → get_or (map (λ at. at + 32) labels) i 0 ≡ get_or labels i 0 + 32
ring_of [] i lt = absurd (omega arith)
ring_of (x ∷ labels) zero lt = refl
ring_of (x ∷ labels) (suc i) lt = ring_of labels i (omega arith)

take_map : (labels : List ℕ) (i : ℕ) → take i (map (λ at. at + 32) labels) ≡ map (λ at. at + 32) (take i labels)
take_map labels zero = refl
take_map [] (suc i) = refl
take_map (x ∷ labels) (suc i) = ap (λ l. (x + 32) ∷ l) (take_map labels i)

-- the ring that gives it ends the search
pub search_hit : {old mid new : BankView} (pool member : Guid) (dev size : ℕ) (labels : List ℕ) (i : ℕ) (failed : Option Fault) (found : Result Bool Fault)
    → labels ≡ labels_of size → i < length labels → found ≡ Ok true
    → Misses pool member dev (map (λ at. at + 32) (take i labels)) old mid failed
    → ReadsRing pool member dev (get_or labels i 0 + 32) mid new found
    → Searches pool member dev size old new (Ok true)
search_hit {old} {mid} {new} pool member dev size labels i failed found are lt hit m r = record {
  made = m.made ++ r.noted ∷ [];
  calls = makes_more m.calls r.calls;
  search = record {
    before = i;
    inside = omega (arith, ap length are);
    misses = m.made;
    hit = r.noted;
    all = refl;
    are_misses = subst (λ l. AreMisses pool member dev l m.made) (sym (take_map labels i) ∙ ap (λ l. take i (map (λ at. at + 32) l)) are) m.are_misses;
    ask = r.ask ∙ ap (λ at. Reads dev at 32) (sym (ring_of labels i lt) ∙ ap (λ l. get_or (map (λ at. at + 32) l) i 0) are);
    gives = subst (IsFound pool member r.noted.call) hit r.found;
  };
  cause = tt;
}

pub search_missed : {old new : BankView} (pool member : Guid) (dev size : ℕ) (labels : List ℕ) (i : ℕ) (failed : Option Fault)
    → labels ≡ labels_of size → length labels ≤ i → Misses pool member dev (map (λ at. at + 32) (take i labels)) old new failed
    → Searches pool member dev size old new (search_outcome failed)
search_missed pool member dev size labels i None are end m = record {
  made = m.made;
  calls = m.calls;
  search = (subst (λ l. AreMisses pool member dev l m.made) (ap (map (λ at. at + 32)) (take_all i labels end ∙ are)) m.are_misses, m.first);
  cause = tt;
}
search_missed pool member dev size labels i (Some fault) are end m = record {
  made = m.made;
  calls = m.calls;
  search = (subst (λ l. AreMisses pool member dev l m.made) (ap (map (λ at. at + 32)) (take_all i labels end ∙ are)) m.are_misses, m.first);
  cause = m.cause;
}

pub ring_room : (labels : List ℕ) (sectors size k : ℕ) → labels ≡ labels_of sectors → sectors ≡ size → 320 ≤ size → k < length labels → get_or labels k 0 + 32 + 32 ≤ size
ring_room labels sectors size k are is big lt =
    let same : get_or labels k 0 ≡ get_or (labels_of size) k 0 = ap (λ l. get_or l k 0) (are ∙ ap labels_of is) in
    let room = label_room size 64 k big (omega arith) in omega arith

pub misses_as : {old new : BankView} {pool member : Guid} {dev : ℕ} {rings : List ℕ} (failed failed' : Option Fault) → failed' ≡ failed
    → Misses pool member dev rings old new failed → Misses pool member dev rings old new failed'
misses_as {old} {new} {pool} {member} {dev} {rings} failed failed' e m = subst (Misses pool member dev rings old new) (sym e) m

pub searches_as : {old new : BankView} {pool member : Guid} {dev size : ℕ} (answer answer' : Result Bool Fault) → answer' ≡ answer
    → Searches pool member dev size old new answer → Searches pool member dev size old new answer'
searches_as {old} {new} {pool} {member} {dev} {size} answer answer' e s = subst (Searches pool member dev size old new) (sym e) s
