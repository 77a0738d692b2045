-- The steps of a search for the newest record.
use Rattle.std.proofs.Common.{◌≡◌, ℕ, ◌+◌, ◌-◌, ◌*◌, ◌/◌, ◌%◌, ◌<◌, ◌≤◌, List, length, take, drop, Option, Some, None, refl, sym, ap, ◌∙◌, subst, arith, IfSome, below_more, ⊎_elim}
use Rattle.std.specs.Prelude.{slice_get}
use Rattle.std.proofs.lemmas.Bool.{cases_lt}
use Rattle.std.proofs.lemmas.List.{length-take, length-drop}
use Rattle.std.proofs.lemmas.Option.{none-some, same_Some}
use Rattle.bank_core.specs.Disk.{sector_of, sector_size}
use Rattle.bank_core.proofs.Sectors.{piece_is}
use Rattle.label_store.specs.declared.found.Found.{Found}
use Rattle.label_store.specs.declared.rule.Head.{Head}
use Rattle.label_store.specs.declared.uberblock.Uberblock.{Uberblock}
use Rattle.label_store.specs.Newest.{Parts, IsVerifiedBy, IsCandidate, IsTop, IsBest}
use Rattle.label_store.specs.Opening.{NamesConfig, HasConfig, HasConfigIn, HasConfigAt, IsUberblockAt, IsNewer, number_of}
use Rattle.label_store.specs.Uberblock.{IsUberblock, fields_of}
use Rattle.sha2.specs.Sha256.{sha256}
use Rattle.label_store.proofs.Fields.{is_of_fields}
use Rattle.label_store.proofs.Places.{length-uberblock}

-- a ring with an uberblock in a slot has that slot
pub slot_inside : (u : Uberblock) (ring : List ℕ) (slot : ℕ) → IsUberblock u (sector_of slot ring) → slot * 4096 + 4096 ≤ length ring
unfolding sector_size
slot_inside u ring slot is =
    let long : length (take 4096 (drop (slot * 4096) ring)) ≡ 4096 = ap length is.bytes ∙ length-uberblock u is.in_range.sum in
    omega (arith, long, length-take 4096 (drop (slot * 4096) ring), length-drop (slot * 4096) ring)

pub slot_correct : (r : Option Uberblock) (ring piece : List ℕ) (slot : ℕ) → piece ≡ take (slot * 4096 + 4096 - slot * 4096) (drop (slot * 4096) ring)
    → IfSome r (λ u. IsUberblock u piece) → IfSome r (λ u. IsUberblock u (sector_of slot ring))
slot_correct None ring piece slot is c = tt
slot_correct (Some u) ring piece slot is c = subst (IsUberblock u) (piece_is ring piece slot (slot * 4096) refl is) c

pub slot_exact : (r : Option Uberblock) (ring piece : List ℕ) (slot : ℕ) → piece ≡ take (slot * 4096 + 4096 - slot * 4096) (drop (slot * 4096) ring)
    → ((u : Uberblock) → IsUberblock u piece → r ≡ Some u) → (u : Uberblock) → IsUberblock u (sector_of slot ring) → r ≡ Some u
slot_exact r ring piece slot is exact u at = exact u (subst (IsUberblock u) (sym (piece_is ring piece slot (slot * 4096) refl is)) at)

pub not_newer : (u v : Uberblock) (above : ℕ) → Some u ≡ Some v → u.number.0 ≤ above → above < v.number.0 → ⊥
not_newer u v above e le lt = let same : u.number.0 ≡ v.number.0 = ap (λ w. w.number.0) (same_Some u v e) in omega arith

-- None of the configuration parts below this label has it.
pub LacksBelow : (List ℕ → Option Head) → Parts → List ℕ → Uberblock → ℕ → Type 0
LacksBelow head_of parts name u n = (k : ℕ) → k < n → (part : List ℕ) → slice_get parts (2 * k + 1) ≡ Some (Some part) → HasConfig head_of name u part → ⊥

pub lacks_none : (head_of : List ℕ → Option Head) (parts : Parts) (name : List ℕ) (u : Uberblock) → LacksBelow head_of parts name u 0
unfolding LacksBelow
lacks_none head_of parts name u k lt = absurd (omega arith)

pub lacks_more : (head_of : List ℕ → Option Head) (parts : Parts) (name : List ℕ) (u : Uberblock) (n : ℕ) (part : Option (List ℕ)) → slice_get parts (2 * n + 1) ≡ Some part
    → ((config : List ℕ) → HasConfigAt head_of part name u config → ⊥) → LacksBelow head_of parts name u n → LacksBelow head_of parts name u (n + 1)
unfolding LacksBelow
lacks_more head_of parts name u n part at lacks below =
    below_more (λ k. (part' : List ℕ) → slice_get parts (2 * k + 1) ≡ Some (Some part') → HasConfig head_of name u part' → ⊥) n below
    (λ part' at' has. lacks (take u.length part')
    (subst (λ p. HasConfigAt head_of p name u (take u.length part')) (same_Some (Some part') part (sym at' ∙ at)) (has, refl)))

pub lacks_all : (head_of : List ℕ → Option Head) (parts : Parts) (name : List ℕ) (u : Uberblock) (n : ℕ) → 4 ≤ n → LacksBelow head_of parts name u n
    → (config : List ℕ) → HasConfigIn head_of parts name u config → ⊥
unfolding LacksBelow
lacks_all head_of parts name u n enough below config h = below h.label (omega (arith, h.is_label)) h.part h.part_is h.has

pub has_in : (head_of : List ℕ → Option Head) (parts : Parts) (name : List ℕ) (u : Uberblock) (n : ℕ) (part : Option (List ℕ)) (config : List ℕ) → n < 4
    → slice_get parts (2 * n + 1) ≡ Some part → HasConfigAt head_of part name u config → HasConfigIn head_of parts name u config
has_in head_of parts name u n None config lt at h = absurd h
has_in head_of parts name u n (Some part) config lt at h = record { label = n; is_label = lt; part = part; part_is = at; has = h.0; config_is = h.1 }

-- a verified record is the place's uberblock with a part's configuration
verified_place : (head_of : List ℕ → Option Head) (parts : Parts) (name : List ℕ) (place : ℕ) (u : Uberblock) (config : List ℕ) → IsVerifiedBy head_of parts name place u config
    → IsUberblockAt parts place u
verified_place head_of parts name place u config v = record { ring = v.ring; ring_is = v.ring_is; is_uberblock = v.is_uberblock }

verified_config : (head_of : List ℕ → Option Head) (parts : Parts) (name : List ℕ) (place : ℕ) (u : Uberblock) (config : List ℕ) → IsVerifiedBy head_of parts name place u config
    → HasConfigIn head_of parts name u config
verified_config head_of parts name place u config v = record {
  label = v.label;
  is_label = v.is_label;
  part = v.part;
  part_is = v.part_is;
  has = record {
    within = v.within;
    sum = ap sha256 (sym v.config_is) ∙ v.sum;
    names = subst (NamesConfig head_of name u) v.config_is (record { head = v.head; reads = v.reads; pool_is = v.pool_is; number_is = v.number_is; name_is = v.name_is });
  };
  config_is = v.config_is;
}

pub is_newer : (head_of : List ℕ → Option Head) (parts : Parts) (name : List ℕ) (place above : ℕ) (u : Uberblock) (found : Found) → IsUberblockAt parts place u → above < u.number.0
    → found.number ≡ u.number → found.pool ≡ u.pool → HasConfigIn head_of parts name u found.blob.items → IsNewer head_of parts name place above found
is_newer head_of parts name place above u found at newer number pool h =
    let names = subst (NamesConfig head_of name u) (sym h.config_is) h.has.names in
    record {
      u = u;
      number_is = number;
      pool_is = pool;
      newer = newer;
      verified = record {
        ring = at.ring;
        ring_is = at.ring_is;
        is_uberblock = at.is_uberblock;
        some = omega arith;
        label = h.label;
        is_label = h.is_label;
        part = h.part;
        part_is = h.part_is;
        within = h.has.within;
        config_is = h.config_is;
        sum = ap sha256 h.config_is ∙ h.has.sum;
        head = names.head;
        reads = names.reads;
        pool_is = names.pool_is;
        number_is = names.number_is;
        name_is = names.name_is;
      };
    }

not_above : (a b : ℕ) → (a < b → ⊥) → b ≤ a
not_above a b n = ⊎_elim {A = a < b} {B = b ≤ a} (λ lt. absurd (n lt)) (λ le. le) (cases_lt a b)

-- no uberblock above the number, so no record
pub none_newer : (head_of : List ℕ → Option Head) (parts : Parts) (name : List ℕ) (place above : ℕ) → ((u : Uberblock) → IsUberblockAt parts place u → above < u.number.0 → None ≡ Some u)
    → (u : Uberblock) (config : List ℕ) → IsVerifiedBy head_of parts name place u config → u.number.0 ≤ above
none_newer head_of parts name place above none u config v =
    not_above above u.number.0 (λ lt. none-some u (none u (verified_place head_of parts name place u config v) lt))

-- one uberblock above the number, but no configuration of it
pub none_configured : (head_of : List ℕ → Option Head) (parts : Parts) (name : List ℕ) (place above : ℕ) (u : Uberblock) → ((w : Uberblock) → IsUberblockAt parts place w → above < w.number.0 → Some u ≡ Some w)
    → ((config : List ℕ) → HasConfigIn head_of parts name u config → ⊥)
    → (w : Uberblock) (config : List ℕ) → IsVerifiedBy head_of parts name place w config → w.number.0 ≤ above
none_configured head_of parts name place above u only none w config v =
    not_above above w.number.0 (λ lt. none config (subst (λ x. HasConfigIn head_of parts name x config)
    (sym (same_Some u w (only w (verified_place head_of parts name place w config v) lt))) (verified_config head_of parts name place w config v)))

-- two uberblocks at one place are one
one_at_place : (head_of : List ℕ → Option Head) (parts : Parts) (name : List ℕ) (place : ℕ) (u v : Uberblock) (config config' : List ℕ) → IsVerifiedBy head_of parts name place u config
    → IsVerifiedBy head_of parts name place v config' → u ≡ v
one_at_place head_of parts name place u v config config' a b =
    let ring : a.ring ≡ b.ring = same_Some a.ring b.ring (same_Some (Some a.ring) (Some b.ring) (sym a.ring_is ∙ b.ring_is)) in
    sym (is_of_fields u (sector_of (place % 32) a.ring) a.is_uberblock) ∙ ap (λ r. fields_of (sector_of (place % 32) r)) ring ∙ is_of_fields v (sector_of (place % 32) b.ring) b.is_uberblock

-- the records at the places before are at most the best
below_best : (head_of : List ℕ → Option Head) (looks : List Parts) (name : List ℕ) (n : ℕ) (best : Option Found) → IsBest head_of looks name n best
    → (k : ℕ) (v : Uberblock) (config : List ℕ) → k < n → IsCandidate head_of looks name k v config → v.number.0 ≤ number_of best
below_best head_of looks name n None b k v config lt c = absurd (b k v config lt c)
below_best head_of looks name n (Some found) b k v config lt c = let le = b.greatest k v config lt c in let e : found.number.0 ≡ b.u.number.0 = ap (λ g. g.0) b.number_is in omega arith

-- what a candidate at a place of this device is
here_verified : (head_of : List ℕ → Option Head) (looks : List Parts) (name : List ℕ) (i place k : ℕ) (parts : Parts) (v : Uberblock) (config : List ℕ) → slice_get looks i ≡ Some parts
    → place < 128 → k ≡ 128 * i + place → IsCandidate head_of looks name k v config → IsVerifiedBy head_of parts name place v config
here_verified head_of looks name i place k parts v config at lt e c =
    let dev : k / 128 ≡ i = omega arith in
    let there : k % 128 ≡ place = omega arith in
    let same : c.parts ≡ parts = same_Some c.parts parts (sym c.parts_are ∙ ap (slice_get looks) dev ∙ at) in
    subst (λ p. IsVerifiedBy head_of parts name p v config) there (subst (λ q. IsVerifiedBy head_of q name (k % 128) v config) same c.verified)

candidate_here : (head_of : List ℕ → Option Head) (looks : List Parts) (name : List ℕ) (i place : ℕ) (parts : Parts) (u : Uberblock) (config : List ℕ) → slice_get looks i ≡ Some parts
    → place < 128 → IsVerifiedBy head_of parts name place u config → IsCandidate head_of looks name (128 * i + place) u config
candidate_here head_of looks name i place parts u config at lt v =
    let dev : (128 * i + place) / 128 ≡ i = omega arith in
    let there : (128 * i + place) % 128 ≡ place = omega arith in
    record { parts = parts; parts_are = ap (slice_get looks) dev ∙ at; verified = subst (λ p. IsVerifiedBy head_of parts name p u config) (sym there) v }

-- a newer record is the best one
pub best_takes : (head_of : List ℕ → Option Head) (looks : List Parts) (name : List ℕ) (i place : ℕ) (parts : Parts) (best : Option Found) (found : Found) → slice_get looks i ≡ Some parts
    → place < 128 → IsBest head_of looks name (128 * i + place) best → IsNewer head_of parts name place (number_of best) found → IsTop head_of looks name (128 * i + place + 1) found
best_takes head_of looks name i place parts best found at lt b x = record {
  place = 128 * i + place;
  inside = omega arith;
  u = x.u;
  number_is = x.number_is;
  pool_is = x.pool_is;
  candidate = candidate_here head_of looks name i place parts x.u found.blob.items at lt x.verified;
  greatest = λ k v config below c.
      ⊎_elim {A = k < 128 * i + place} {B = 128 * i + place ≤ k}
      (λ lower. let le = below_best head_of looks name (128 * i + place) best b k v config lower c in let newer = x.newer in omega arith)
      (λ le. let here : k ≡ 128 * i + place = omega arith in
      let same : v.number.0 ≡ x.u.number.0 = ap (λ w. w.number.0) (one_at_place head_of parts name place v x.u config found.blob.items (here_verified head_of looks name i place k parts v config at lt here c) x.verified) in
      omega arith)
      (cases_lt k (128 * i + place));
  first = λ k v config below c. let le = below_best head_of looks name (128 * i + place) best b k v config below c in let newer = x.newer in omega arith;
}

-- with no newer record it stays
pub best_keeps : (head_of : List ℕ → Option Head) (looks : List Parts) (name : List ℕ) (i place : ℕ) (parts : Parts) (best : Option Found) → slice_get looks i ≡ Some parts
    → place < 128 → IsBest head_of looks name (128 * i + place) best → ((u : Uberblock) (config : List ℕ) → IsVerifiedBy head_of parts name place u config → u.number.0 ≤ number_of best)
    → IsBest head_of looks name (128 * i + place + 1) best
best_keeps head_of looks name i place parts None at lt b none = λ k v config below c.
    ⊎_elim {A = k < 128 * i + place} {B = 128 * i + place ≤ k}
    (λ lower. b k v config lower c)
    (λ le. let here : k ≡ 128 * i + place = omega arith in
    let ver = here_verified head_of looks name i place k parts v config at lt here c in
    let low = none v config ver in let high = ver.some in omega arith)
    (cases_lt k (128 * i + place))
best_keeps head_of looks name i place parts (Some found) at lt b none =
    let e : found.number.0 ≡ b.u.number.0 = ap (λ g. g.0) b.number_is in
    record {
      place = b.place;
      inside = omega (arith, b.inside);
      u = b.u;
      number_is = b.number_is;
      pool_is = b.pool_is;
      candidate = b.candidate;
      greatest = λ k v config below c.
          ⊎_elim {A = k < 128 * i + place} {B = 128 * i + place ≤ k}
          (λ lower. b.greatest k v config lower c)
          (λ le. let here : k ≡ 128 * i + place = omega arith in
          let low = none v config (here_verified head_of looks name i place k parts v config at lt here c) in omega arith)
          (cases_lt k (128 * i + place));
      first = b.first;
    }
