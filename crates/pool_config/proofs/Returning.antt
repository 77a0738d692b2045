-- What is written is read back.
use Rattle.std.proofs.Common.{◌≡◌, inl, inr, ℕ, zero, suc, ◌^◌, ◌≤◌, List, [], ◌∷◌, ◌++◌, map, length, drop, sym, ap}
use Rattle.std.proofs.Common.{◌∙◌, arith, append_assoc, Some, All, subst}
use Rattle.std.specs.Prelude.{slice_get}
use Rattle.std.specs.List.{flat_map}
use Rattle.std.proofs.lemmas.Option.{slice_get_within, none-some}
use Rattle.std.proofs.lemmas.List.{drop_at, append-nil}
use Rattle.std.proofs.lemmas.List.Elements.{All-head, All-tail}
use Rattle.mp_base.specs.declared.number.Group.{Group}
use Rattle.mp_base.specs.declared.place.Pointer.{Pointer}
use Rattle.pool_config.specs.Seen.{VdevSeen, leaf_vdev, inner_vdev, TopSeen, ConfigSeen, all_vdevs, top_vdevs}
use Rattle.pool_config.specs.Seen.{leaves_among, number_of_vdev}
use Rattle.pool_config.specs.Validity.{IsDrawn, IsLeaf, IsTop, IsValid}
use Rattle.pool_config.specs.Spelling.{be32, be64, text_bytes, pointer_bytes, top_bytes, head_bytes, tops_bytes}
use Rattle.pool_config.specs.Spelling.{spares_bytes, config_bytes}
use Rattle.pool_config.specs.Reading.{number_in, text_in, behind_text, pointer_in, many_in, top_in, spare_in, tops_in}
use Rattle.pool_config.specs.Reading.{spares_in, from_pool, from_name, from_blocks, from_number, from_next_guid}
use Rattle.pool_config.specs.Reading.{from_root, from_tops, seen_in}
use Rattle.pool_config.proofs.Placing.{length-zeros}
use Rattle.pool_config.proofs.Suffixes.{read_as, number_is, behind_number, behind_count, text_is, behind_text_is}
use Rattle.pool_config.proofs.Suffixes.{many_none, many_more, spares_are, counted_are, IsKept, length-pointer_bytes}
use Rattle.pool_config.proofs.Suffixes.{pointer_is}
use Rattle.pool_config.proofs.Growing.{AreKept, top_is}

-- ---- what is read back of a valid configuration

kept_vdevs : (number : Group) (next : ℕ) (vdevs : List VdevSeen) → number.0 ≤ 2 ^ 62 → next ≤ 2 ^ 62
    → All (IsDrawn next) (map number_of_vdev vdevs)
    → All (IsLeaf number) (leaves_among vdevs) → AreKept vdevs
unfolding leaves_among
kept_vdevs number next [] last end drawn leaves = tt
kept_vdevs number next (leaf_vdev leaf ∷ vdevs) last end drawn leaves =
    let is = All-head (IsLeaf number) leaf (leaves_among vdevs) leaves in
    let guid = All-head (IsDrawn next) leaf.guid.0 (map number_of_vdev vdevs) drawn in (
      record {
        guid = omega (arith, guid.1, end);
        state = is.state;
        few = is.few;
        most = number.0;
        last = omega (arith, last);
        rise = is.log;
      },
      kept_vdevs number next vdevs last end (All-tail (IsDrawn next) leaf.guid.0 (map number_of_vdev vdevs) drawn)
          (All-tail (IsLeaf number) leaf (leaves_among vdevs) leaves),
    )
kept_vdevs number next (inner_vdev guid kind count ∷ vdevs) last end drawn leaves =
    let is = All-head (IsDrawn next) guid.0 (map number_of_vdev vdevs) drawn in (
      omega (arith, is.1, end),
      kept_vdevs number next vdevs last end (All-tail (IsDrawn next) guid.0 (map number_of_vdev
          vdevs) drawn) leaves,
    )

kept_parts : (xs ys : List VdevSeen) → AreKept (xs ++ ys) → AreKept xs × AreKept ys
kept_parts [] ys kept = (tt, kept)
kept_parts (x ∷ xs) ys kept =
    let parts = kept_parts xs ys kept.1 in
    ((kept.0, parts.0), parts.1)

tops_are : (tops : List TopSeen) (rest : List ℕ) → All IsTop tops → AreKept (flat_map top_vdevs tops)
    → many_in top_in (length tops) (flat_map top_bytes tops ++ rest) ≡ read_as tops rest
tops_are [] rest all kept = many_none top_in rest
tops_are (top ∷ tops) rest all kept =
    let parts = kept_parts top.vdevs (flat_map top_vdevs tops) kept in
    let is = All-head IsTop top tops all in
    many_more top_in (length tops) _ (flat_map top_bytes tops ++ rest) rest top tops
    (ap top_in (append_assoc (top_bytes top) (flat_map top_bytes tops) rest)
    ∙ top_is top (flat_map top_bytes tops ++ rest) (omega (arith, is.sectors.1)) is.tree parts.0)
    (tops_are tops rest (All-tail IsTop top tops all) parts.1)

top_at : (tops : List TopSeen) (i : ℕ) (top : TopSeen) → slice_get tops i ≡ Some top → All IsTop tops → IsTop top
top_at [] i top at all = absurd (none-some top at)
top_at (t ∷ tops) zero top at all = let e : t ≡ top = cc in subst IsTop e (All-head IsTop t tops all)
top_at (t ∷ tops) (suc i) top at all = top_at tops i top at (All-tail IsTop t tops all)

pub kept_root : (c : ConfigSeen) → IsValid c → IsKept c.root
kept_root c v = elim v.root [
  | inl hole ↦ record {
    birth = omega (arith, hole.birth);
    top = omega (arith, hole.top);
    sector = omega (arith, hole.sector);
    sum = ap length hole.sum ∙ length-zeros 32;
  }
  | inr placed ↦ record {
    birth = omega (arith, placed.birth.1, v.number.1);
    top = omega (arith, slice_get_within c.tops c.root.place.top placed.place.0 placed.place.1, v.few_tops.1);
    sector = omega (
      arith,
      placed.place.2,
      (top_at c.tops c.root.place.top placed.place.0 placed.place.1
          v.tops).sectors.1,
    );
    sum = placed.sum;
  }
]

-- ---- the bytes from each field on

abbrev rest_spares : ConfigSeen → List ℕ
rest_spares c = spares_bytes c.spares ++ []

abbrev rest_tops : ConfigSeen → List ℕ
rest_tops c = tops_bytes c.tops ++ rest_spares c

abbrev rest_root : ConfigSeen → List ℕ
rest_root c = pointer_bytes c.root ++ rest_tops c

abbrev rest_next : ConfigSeen → List ℕ
rest_next c = be64 c.next_guid ++ rest_root c

abbrev rest_number : ConfigSeen → List ℕ
rest_number c = be64 c.number.0 ++ rest_next c

abbrev rest_blocks : ConfigSeen → List ℕ
rest_blocks c = be64 c.blocks ++ rest_number c

abbrev rest_name : ConfigSeen → List ℕ
rest_name c = text_bytes c.name ++ rest_blocks c

abbrev rest_pool : ConfigSeen → List ℕ
rest_pool c = be64 c.pool.0 ++ rest_name c

seven : (a b c d e f g t s : List ℕ) → (a ++ b ++ c ++ d ++ e ++ f ++ g) ++ t ++ s ≡ a ++ (b
    ++ (c ++ (d ++ (e ++ (f ++ (g ++ (t ++ s)))))))
seven a b c d e f g t s = simp append_assoc

split : (c : ConfigSeen) → config_bytes c ≡ be32 1 ++ rest_pool c
unfolding config_bytes head_bytes
split c =
    ap (λ s. head_bytes c.pool.0 c.name c.blocks c.number.0 c.next_guid c.root ++ tops_bytes c.tops ++ s)
    (sym (append-nil (spares_bytes c.spares)))
    ∙ seven (be32 1) (be64 c.pool.0) (text_bytes c.name) (be64 c.blocks) (be64 c.number.0) (be64 c.next_guid)
    (pointer_bytes c.root) (tops_bytes c.tops) (rest_spares c)

at_pool : (c : ConfigSeen) → from_pool (config_bytes c) ≡ rest_pool c
at_pool c = ap (drop 4) (split c) ∙ behind_count 1 (rest_pool c)

at_name : (c : ConfigSeen) → from_name (config_bytes c) ≡ rest_name c
at_name c = ap (drop 8) (at_pool c) ∙ behind_number c.pool.0 (rest_name c)

at_blocks : (c : ConfigSeen) → from_blocks (config_bytes c) ≡ rest_blocks c
at_blocks c = ap behind_text (at_name c) ∙ behind_text_is c.name (rest_blocks c)

at_number : (c : ConfigSeen) → from_number (config_bytes c) ≡ rest_number c
at_number c = ap (drop 8) (at_blocks c) ∙ behind_number c.blocks (rest_number c)

at_next : (c : ConfigSeen) → from_next_guid (config_bytes c) ≡ rest_next c
at_next c = ap (drop 8) (at_number c) ∙ behind_number c.number.0 (rest_next c)

at_root : (c : ConfigSeen) → from_root (config_bytes c) ≡ rest_root c
at_root c = ap (drop 8) (at_next c) ∙ behind_number c.next_guid (rest_root c)

at_tops : (c : ConfigSeen) → IsValid c → from_tops (config_bytes c) ≡ rest_tops c
at_tops c v =
    ap (drop 52) (at_root c) ∙ drop_at (pointer_bytes c.root) (rest_tops c) 52 (length-pointer_bytes c.root
    (kept_root c v).sum)

tops_back : (c : ConfigSeen) → IsValid c → tops_in (from_tops (config_bytes c)) ≡ read_as c.tops (rest_spares c)
unfolding tops_in tops_bytes
tops_back c v =
    counted_are top_in (from_tops (config_bytes c)) (flat_map top_bytes c.tops ++ rest_spares c) (rest_spares c) c.tops
    (at_tops c v ∙ append_assoc (be32 (length c.tops)) (flat_map top_bytes c.tops) (rest_spares c))
    (omega (arith, v.few_tops.1))
    (tops_are c.tops (rest_spares c) v.tops (kept_vdevs c.number c.next_guid (all_vdevs c) v.number.1 v.next_guid
    v.drawn v.leaves))

spares_back : (c : ConfigSeen) → IsValid c → spares_in (rest_spares c) ≡ read_as c.spares []
unfolding spares_in spares_bytes
spares_back c v =
    counted_are spare_in (rest_spares c) (flat_map text_bytes c.spares ++ []) [] c.spares
    (append_assoc (be32 (length c.spares)) (flat_map text_bytes c.spares) []) (omega (arith, v.few_spares))
    (spares_are c.spares [])

abbrev pub seen_with : (pool : ℕ) → List ℕ → (blocks number next : ℕ) → Pointer → List TopSeen → List (List ℕ)
    → ConfigSeen
seen_with pool name blocks number next root tops spares = record {
  pool = record { 0 = pool };
  name = name;
  blocks = blocks;
  number = record { 0 = number };
  next_guid = next;
  root = root;
  tops = tops;
  spares = spares;
}

pub same_seen : (p p' : ℕ) (n n' : List ℕ) (b b' k k' m m' : ℕ) (r r' : Pointer) (t t' : List TopSeen)
    (s s' : List (List ℕ))
    → p ≡ p' → n ≡ n' → b ≡ b' → k ≡ k' → m ≡ m' → r ≡ r' → t ≡ t' → s ≡ s'
    → seen_with p n b k m r t s ≡ seen_with p' n' b' k' m' r' t' s'
same_seen p p' n n' b b' k k' m m' r r' t t' s s' e1 e2 e3 e4 e5 e6 e7 e8 = cc

pub seen_back : (c : ConfigSeen) → IsValid c → seen_in (config_bytes c) ≡ c
unfolding seen_in
seen_back c v =
    let tops = tops_back c v in
    same_seen _ _ _ _ _ _ _ _ _ _ _ _ _ _ _ _
    (ap number_in (at_pool c) ∙ number_is c.pool.0 (rest_name c) v.pool)
    (ap text_in (at_name c) ∙ text_is c.name (rest_blocks c))
    (ap number_in (at_blocks c) ∙ number_is c.blocks (rest_number c) (omega (arith, v.blocks.1)))
    (ap number_in (at_number c) ∙ number_is c.number.0 (rest_next c) (omega (arith, v.number.1)))
    (ap number_in (at_next c) ∙ number_is c.next_guid (rest_root c) (omega (arith, v.next_guid)))
    (ap pointer_in (at_root c) ∙ pointer_is c.root (rest_tops c) (kept_root c v))
    (ap (λ r. r.value) tops)
    (ap (λ r. (spares_in r.rest).value) tops ∙ ap (λ r. r.value) (spares_back c v))
