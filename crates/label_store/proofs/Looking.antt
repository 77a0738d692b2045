-- Reads of the parts of labels, one after another.
use Rattle.std.proofs.Common.{◌≡◌, ℕ, ◌+◌, ◌*◌, ◌/◌, ◌%◌, ◌<◌, ◌≤◌, List, [], ◌∷◌, ◌++◌, length, take, get_or, Option, Some, None, refl, sym, ap, ◌∙◌, subst, arith, append_assoc, append-nil}
use Rattle.std.specs.Prelude.{slice_get}
use Rattle.std.specs.List.{flat_map}
use Rattle.std.proofs.lemmas.List.{map-append, take_more, take_all, take_at, length_push}
use Rattle.std.proofs.lemmas.Grind.{flat_map-append}
use Rattle.bank_core.specs.declared.bank.Fault.{Fault}
use Rattle.bank_core.specs.Asks.{Ask, Reads, ask_of, asks_of}
use Rattle.bank_core.specs.BankView.{BankView}
use Rattle.bank_core.specs.Calls.{Called, Makes}
use Rattle.bank_core.specs.Disk.{Call, Read, Noted, sector_size, sectors_in}
use Rattle.bank_core.proofs.Adding.{get_front, get_last}
use Rattle.bank_core.proofs.Framing.{makes_none, makes_more, makes_one}
use Rattle.label_store.specs.declared.found.Found.{Found}
use Rattle.label_store.specs.declared.rule.Head.{Head}
use Rattle.label_store.specs.declared.uberblock.Uberblock.{Uberblock}
use Rattle.label_store.specs.Layout.{labels_of}
use Rattle.label_store.specs.Newest.{Parts, parts_of, given_by, label_asks, look_asks, Looks, IsLook, IsBest, IsCandidate, FindsNewest}
use Rattle.label_store.specs.Opening.{ReadsPart}

pub many_whole : (bytes : List ℕ) (n : ℕ) → length bytes ≡ n * 4096 → length bytes % sector_size ≡ 0
unfolding sector_size
many_whole bytes n long = rw long (omega arith)

pub many_sectors : (bytes : List ℕ) (n : ℕ) → length bytes ≡ n * 4096 → sectors_in bytes ≡ n
unfolding sector_size
many_sectors bytes n long = rw long (omega arith)

pub part_answered : {old new : BankView} (dev at n : ℕ) (bytes : List ℕ) (part : Option (List ℕ)) → length bytes ≡ n * 4096 → part ≡ Some bytes
    → Called (Read dev at bytes None) old new → ReadsPart dev at n old new part
part_answered dev at n bytes part long is c =
    let call : Call = Read dev at bytes None in
    let one = makes_one c in
    record { noted = record { call = call; damage = one.damage }; calls = one.makes; ask = ap (Reads dev at) (many_sectors bytes n long); part_is = is }

pub part_failed : {old new : BankView} (dev at n : ℕ) (bytes : List ℕ) (fault : Fault) (part : Option (List ℕ)) → length bytes ≡ n * 4096 → part ≡ None
    → Called (Read dev at bytes (Some fault)) old new → ReadsPart dev at n old new part
part_failed dev at n bytes fault part long is c =
    let call : Call = Read dev at bytes (Some fault) in
    let one = makes_one c in
    record { noted = record { call = call; damage = one.damage }; calls = one.makes; ask = ap (Reads dev at) (many_sectors bytes n long); part_is = is }

pub looks_none : {bank : BankView} → Looks [] bank bank []
looks_none {bank} = record { made = []; calls = makes_none; asks_are = refl; parts_are = refl }

-- one more part
pub looks_more : {old mid new : BankView} {asks : List Ask} {parts : Parts} (dev at n : ℕ) (part : Option (List ℕ))
    → Looks asks old mid parts → ReadsPart dev at n mid new part → Looks (asks ++ Reads dev at n ∷ []) old new (parts ++ part ∷ [])
looks_more {old} {mid} {new} {asks} {parts} dev at n part l r = record {
  made = l.made ++ r.noted ∷ [];
  calls = makes_more l.calls r.calls;
  asks_are = map-append (λ noted. ask_of noted.call) l.made (r.noted ∷ []) ∙ ap (λ a. a ++ ask_of r.noted.call ∷ []) l.asks_are ∙ ap (λ a. asks ++ a ∷ []) r.ask;
  parts_are = ap (λ p. p ++ part ∷ []) l.parts_are ∙ ap (λ p. parts_of l.made ++ p ∷ []) r.part_is ∙ sym (map-append (λ noted. given_by noted.call) l.made (r.noted ∷ []));
}

two_more : (asks : List Ask) (a b : Ask) → (asks ++ a ∷ []) ++ b ∷ [] ≡ asks ++ (a ∷ b ∷ [])
two_more asks a b = append_assoc asks (a ∷ []) (b ∷ [])

-- the parts of one more label
pub label_more : {old mid between new : BankView} {parts : Parts} (dev : ℕ) (labels : List ℕ) (k : ℕ) (ring config : Option (List ℕ)) (parts' : Parts) → k < length labels
    → parts' ≡ (parts ++ ring ∷ []) ++ config ∷ []
    → Looks (flat_map (label_asks dev) (take k labels)) old mid parts
    → ReadsPart dev (get_or labels k 0 + 32) 32 mid between ring → ReadsPart dev (get_or labels k 0 + 4) 28 between new config
    → Looks (flat_map (label_asks dev) (take (k + 1) labels)) old new parts'
label_more {old} {mid} {between} {new} {parts} dev labels k ring config parts' lt are l r c =
    let both = looks_more dev (get_or labels k 0 + 4) 28 config (looks_more dev (get_or labels k 0 + 32) 32 ring l r) c in
    let asks : flat_map (label_asks dev) (take (k + 1) labels) ≡ (flat_map (label_asks dev) (take k labels) ++ Reads dev (get_or labels k 0 + 32) 32 ∷ []) ++ Reads dev (get_or labels k 0 + 4) 28 ∷ [] =
    ap (flat_map (label_asks dev)) (take_more labels k 0 lt) ∙ flat_map-append (label_asks dev) (take k labels) (get_or labels k 0 ∷ [])
    ∙ sym (two_more (flat_map (label_asks dev) (take k labels)) (Reads dev (get_or labels k 0 + 32) 32) (Reads dev (get_or labels k 0 + 4) 28)) in
    subst (λ p. Looks (flat_map (label_asks dev) (take (k + 1) labels)) old new p) (sym are)
    (subst (λ a. Looks a old new ((parts ++ ring ∷ []) ++ config ∷ [])) (sym asks) both)

pub looked : {old new : BankView} {parts : Parts} (dev size : ℕ) (labels : List ℕ) (k : ℕ) → labels ≡ labels_of size → length labels ≤ k
    → Looks (flat_map (label_asks dev) (take k labels)) old new parts → Looks (look_asks dev size) old new parts
looked {old} {new} {parts} dev size labels k are end l =
    subst (λ a. Looks a old new parts) (ap (flat_map (label_asks dev)) (take_all k labels end ∙ are)) l

-- Devices that were looked at, and the best record so far.
pub record LooksSoFar (head_of : List ℕ → Option Head) (size : ℕ → ℕ) (devs : List ℕ) (name : List ℕ) (n : ℕ) (old new : BankView) (best : Option Found) : Type 0 where
  pub made : List Noted
  pub calls : Makes made old new
  pub looks : List Parts
  pub look : IsLook size devs looks made
  pub count : length looks ≡ n
  pub is_best : IsBest head_of looks name (128 * n) best

pub so_far_none : {bank : BankView} {head_of : List ℕ → Option Head} {size : ℕ → ℕ} {name : List ℕ} → LooksSoFar head_of size [] name 0 bank bank None
so_far_none {bank} = record { made = []; calls = makes_none; looks = []; look = refl; count = refl; is_best = λ k v config lt c. absurd (omega arith) }

is_look_more : (size : ℕ → ℕ) (devs : List ℕ) (looks : List Parts) (made mine : List Noted) (dev : ℕ) (parts : Parts) → IsLook size devs looks made
    → asks_of mine ≡ look_asks dev (size dev) → parts ≡ parts_of mine → IsLook size (devs ++ dev ∷ []) (looks ++ parts ∷ []) (made ++ mine)
is_look_more size [] [] made mine dev parts l asks are = (mine, [], ap (λ x. x ++ mine) l ∙ sym (append-nil mine), asks, are, refl)
is_look_more size [] (p ∷ looks) made mine dev parts l asks are = absurd l
is_look_more size (d ∷ devs) [] made mine dev parts l asks are = absurd l
is_look_more size (d ∷ devs) (p ∷ looks) made mine dev parts l asks are =
    (l.0, l.1 ++ mine, ap (λ x. x ++ mine) l.2 ∙ append_assoc l.0 l.1 mine, l.3, l.4, is_look_more size devs looks l.1 mine dev parts l.5 asks are)

-- a look at a further device changes no candidate of the earlier ones
candidate_front : (head_of : List ℕ → Option Head) (looks : List Parts) (parts : Parts) (name : List ℕ) (k : ℕ) (v : Uberblock) (config : List ℕ) → k < 128 * length looks
    → IsCandidate head_of (looks ++ parts ∷ []) name k v config → IsCandidate head_of looks name k v config
candidate_front head_of looks parts name k v config lt c =
    let low : k / 128 < length looks = omega arith in
    record { parts = c.parts; parts_are = sym (get_front looks parts (k / 128) low) ∙ c.parts_are; verified = c.verified }

candidate_longer : (head_of : List ℕ → Option Head) (looks : List Parts) (parts : Parts) (name : List ℕ) (k : ℕ) (v : Uberblock) (config : List ℕ) → k < 128 * length looks
    → IsCandidate head_of looks name k v config → IsCandidate head_of (looks ++ parts ∷ []) name k v config
candidate_longer head_of looks parts name k v config lt c =
    let low : k / 128 < length looks = omega arith in
    record { parts = c.parts; parts_are = get_front looks parts (k / 128) low ∙ c.parts_are; verified = c.verified }

pub best_longer : (head_of : List ℕ → Option Head) (looks : List Parts) (parts : Parts) (name : List ℕ) (best : Option Found) → IsBest head_of looks name (128 * length looks) best
    → IsBest head_of (looks ++ parts ∷ []) name (128 * length looks) best
best_longer head_of looks parts name None b = λ k v config lt c. b k v config lt (candidate_front head_of looks parts name k v config lt c)
best_longer head_of looks parts name (Some found) b = record {
  place = b.place;
  inside = b.inside;
  u = b.u;
  number_is = b.number_is;
  pool_is = b.pool_is;
  candidate = candidate_longer head_of looks parts name b.place b.u found.blob.items b.inside b.candidate;
  greatest = λ k v config lt c. b.greatest k v config lt (candidate_front head_of looks parts name k v config lt c);
  first = λ k v config lt c. b.first k v config lt (candidate_front head_of looks parts name k v config (omega (arith, lt, b.inside)) c);
}

-- one more device
pub so_far_more : {old mid new : BankView} (head_of : List ℕ → Option Head) (size : ℕ → ℕ) (devs : List ℕ) (name : List ℕ) (i : ℕ) (dev : ℕ) (parts : Parts) (best best' : Option Found)
    → i < length devs → dev ≡ get_or devs i 0
    → LooksSoFar head_of size (take i devs) name i old mid best → Looks (look_asks dev (size dev)) mid new parts
    → ((looks : List Parts) (n : ℕ) → slice_get looks n ≡ Some parts → IsBest head_of looks name (128 * n) best → IsBest head_of looks name (128 * (n + 1)) best')
    → LooksSoFar head_of size (take (i + 1) devs) name (i + 1) old new best'
so_far_more {old} {mid} {new} head_of size devs name i dev parts best best' lt at s l improve =
    let more : take (i + 1) devs ≡ take i devs ++ dev ∷ [] = take_more devs i 0 lt ∙ ap (λ d. take i devs ++ d ∷ []) (sym at) in
    let there : slice_get (s.looks ++ parts ∷ []) i ≡ Some parts = ap (slice_get (s.looks ++ parts ∷ [])) (sym s.count) ∙ get_last s.looks parts in
    let longer : IsBest head_of (s.looks ++ parts ∷ []) name (128 * i) best = subst (λ n. IsBest head_of (s.looks ++ parts ∷ []) name (128 * n) best) s.count
    (best_longer head_of s.looks parts name best (subst (λ n. IsBest head_of s.looks name (128 * n) best) (sym s.count) s.is_best)) in
    record {
      made = s.made ++ l.made;
      calls = makes_more s.calls l.calls;
      looks = s.looks ++ parts ∷ [];
      look = subst (λ d. IsLook size d (s.looks ++ parts ∷ []) (s.made ++ l.made)) (sym more) (is_look_more size (take i devs) s.looks s.made l.made dev parts s.look l.asks_are l.parts_are);
      count = length_more s.looks parts ∙ ap (λ n. n + 1) s.count;
      is_best = improve (s.looks ++ parts ∷ []) i there longer;
    }
  where
    length_more : (xs : List Parts) (p : Parts) → length (xs ++ p ∷ []) ≡ length xs + 1
    length_more xs p = length_push xs p

pub found_newest : {old new : BankView} (head_of : List ℕ → Option Head) (size : ℕ → ℕ) (devs : List ℕ) (name : List ℕ) (i : ℕ) (best : Option Found) → i ≡ length devs
    → LooksSoFar head_of size (take i devs) name i old new best → FindsNewest head_of size devs name old new best
found_newest head_of size devs name i best e s = record {
  made = s.made;
  calls = s.calls;
  looks = s.looks;
  look = subst (λ d. IsLook size d s.looks s.made) (take_all i devs (omega arith)) s.look;
  is_best = subst (λ n. IsBest head_of s.looks name (128 * n) best) e s.is_best;
}

-- a look names the size of its device
pub looks_same : {old new : BankView} {parts : Parts} (dev size size' : ℕ) → size' ≡ size → Looks (look_asks dev size') old new parts → Looks (look_asks dev size) old new parts
looks_same {old} {new} {parts} dev size size' e l = subst (λ n. Looks (look_asks dev n) old new parts) e l

pub many_inside : (bytes : List ℕ) (at n size : ℕ) → length bytes ≡ n * 4096 → at + n ≤ size → at + sectors_in bytes ≤ size
many_inside bytes at n size long inside = rw (many_sectors bytes n long) inside

pub written_whole : (r : Option (List ℕ)) (out rest : List ℕ) (n : ℕ) → r ≡ Some (take n (out ++ rest)) → length out ≡ n → r ≡ Some out
written_whole r out rest n is long = is ∙ ap Some (take_at out rest n long)

pub pushed_two : (first second third : Parts) (a b : Option (List ℕ)) → second ≡ first ++ a ∷ [] → third ≡ second ++ b ∷ [] → third ≡ (first ++ a ∷ []) ++ b ∷ []
pushed_two first second third a b e f = f ∙ ap (λ l. l ++ b ∷ []) e

pub pushed_count : (first third : Parts) (a b : Option (List ℕ)) (i : ℕ) → third ≡ (first ++ a ∷ []) ++ b ∷ [] → length first ≡ 2 * i → length third ≡ 2 * (i + 1)
pushed_count first third a b i e n =
    let l = ap length e ∙ length_push (first ++ a ∷ []) b in let m = length_push first a in omega arith
