-- Which bytes are a configuration, and how long it is.
use Rattle.std.proofs.Common.{◌≡◌, ℕ, zero, suc, ◌+◌, ◌*◌, ◌<◌, ◌≤◌, Bool, true, false, cond, ◌&&◌, List, [], ◌∷◌, ◌++◌}
use Rattle.std.proofs.Common.{length, take, refl, sym, ap, ◌∙◌, subst, arith, length-append, append_assoc, Some, None}
use Rattle.std.proofs.Common.{All}
use Rattle.std.specs.List.{flat_map}
use Rattle.std.proofs.lemmas.List.{take_at}
use Rattle.std.proofs.lemmas.List.Concat.{flat_map-append}
use Rattle.std.proofs.lemmas.List.Elements.{All-head, All-tail}
use Rattle.mp_base.specs.Name.{is_name}
use Rattle.mp_base.specs.declared.number.Group.{Group}
use Rattle.vdev_tree.specs.declared.vdev.Kind.{Kind}
use Rattle.std.specs.Str.{bytes_eq}
use Rattle.std.proofs.lemmas.Bool.{and_parts, and_from, and_left, and_right, cond-true, cond-false}
use Rattle.std.proofs.lemmas.Slice.Eq.{bytes_eq-Decides}
use Rattle.mp_base.specs.declared.range.GroupRange.{GroupRange}
use Rattle.pool_config.specs.Flags.{flags_of}
use Rattle.pool_config.specs.Seen.{LeafSeen, VdevSeen, leaf_vdev, inner_vdev, TopSeen, ConfigSeen, leaves_among}
use Rattle.pool_config.specs.Seen.{top_vdevs, all_vdevs, room}
use Rattle.pool_config.specs.Validity.{IsLeaf, IsValid, are_parts, is_whole, is_valid}
use Rattle.pool_config.specs.Spelling.{be32, be64, text_bytes, pointer_bytes, range_bytes, log_bytes, leaf_bytes}
use Rattle.pool_config.specs.Spelling.{kind_byte, inner_bytes, vdev_bytes, top_bytes, head_bytes, tops_bytes}
use Rattle.pool_config.specs.Spelling.{spares_bytes, config_bytes, laid}
use Rattle.pool_config.specs.Reading.{seen_in, config_in}
use Rattle.pool_config.proofs.Placing.{length-be32, length-be64, length-text_bytes, name_short}
use Rattle.pool_config.proofs.Bounds.{valid_room}
use Rattle.pool_config.proofs.Returning.{kept_root, seen_back}
use Rattle.pool_config.proofs.Suffixes.{length-ranges, length-pointer_bytes}
use Rattle.pool_config.proofs.Testing.{valid_from, valid_test}

chosen : {A : Type 0} (b : Bool) (x y : A) → cond b (Some x) None ≡ Some y → (b ≡ true) × (x ≡ y)
chosen true x y e = (refl, cc)
chosen false x y e = absurd cc

pub back : (c : ConfigSeen) → IsValid c → config_in (config_bytes c) ≡ Some c
unfolding config_in
back c v =
    let bytes = config_bytes c in
    let same : seen_in bytes ≡ c = seen_back c v in
    let valid : is_valid (seen_in bytes) ≡ true = ap is_valid same ∙ valid_test c v in
    let spelled : bytes_eq (config_bytes (seen_in bytes)) bytes ≡ true =
    (bytes_eq-Decides (config_bytes (seen_in bytes)) bytes).1 (ap config_bytes same) in
    cond-true _ _ _ (and_from (is_valid (seen_in bytes)) _ valid spelled) ∙ ap Some same

-- what it takes that bytes are a configuration
pub record Is (bytes : List ℕ) (c : ConfigSeen) : Type 0 where
  pub valid : IsValid c
  pub spelled : bytes ≡ config_bytes c

pub is_config : (bytes : List ℕ) (c : ConfigSeen) → config_in bytes ≡ Some c → Is bytes c
unfolding config_in
is_config bytes c e =
    let parts = chosen (is_valid (seen_in bytes) && bytes_eq (config_bytes (seen_in bytes)) bytes) (seen_in bytes) c e
    in
    let both = and_parts (is_valid (seen_in bytes)) _ parts.0 in
    let spelled : config_bytes (seen_in bytes) ≡ bytes =
    (bytes_eq-Decides (config_bytes (seen_in bytes)) bytes).0 both.1 in
    record {
      valid = subst IsValid parts.1 (valid_from (seen_in bytes) both.0);
      spelled = sym spelled ∙ ap config_bytes parts.1;
    }

pub is_none : (bytes : List ℕ) → are_parts (seen_in bytes) ≡ false → config_in bytes ≡ None
unfolding config_in is_valid
is_none bytes e =
    cond-false _ _ _ (and_left (are_parts (seen_in bytes) && is_whole (seen_in bytes)) _
    (and_left (are_parts (seen_in bytes)) _ e))

-- what a test of the fields and the bytes gives
pub kept_some : (bytes : List ℕ) (c : ConfigSeen) → c ≡ seen_in bytes
    → (is_valid (seen_in bytes) && bytes_eq (config_bytes (seen_in bytes)) bytes) ≡ true → config_in bytes ≡ Some c
unfolding config_in
kept_some bytes c same t = cond-true _ _ _ t ∙ ap Some (sym same)

pub kept_none : (bytes : List ℕ) → (is_valid (seen_in bytes) && bytes_eq (config_bytes (seen_in bytes)) bytes) ≡ false
    → config_in bytes ≡ None
unfolding config_in
kept_none bytes t = cond-false _ _ _ t

pub kept_valid : (c seen : ConfigSeen) (b : Bool) → c ≡ seen → (is_valid seen && b) ≡ true → IsValid c
kept_valid c seen b same t = subst IsValid (sym same) (valid_from seen (and_parts (is_valid seen) b t).0)

-- ---- lengths

length_seven : (a b c d e f g : List ℕ) → length (a ++ b ++ c ++ d ++ e ++ f
    ++ g) ≡ length a + length b + length c + length d + length e + length f + length g
length_seven a b c d e f g = simp length-append

length_three : (a b c : List ℕ) → length (a ++ b ++ c) ≡ length a + length b + length c
length_three a b c = simp length-append

length-log_bytes : (log : List GroupRange) → length (log_bytes log) ≡ 4 + 16 * length log
unfolding log_bytes
length-log_bytes log =
    omega (
      arith,
      length-append (be32 (length log)) (flat_map range_bytes log),
      length-be32 (length log),
      length-ranges log,
    )

length-leaf_bytes : (leaf : LeafSeen) → length (leaf_bytes leaf) ≡ 15 + length leaf.name + 16 * length leaf.log
unfolding leaf_bytes
length-leaf_bytes leaf =
    omega (
      arith,
      length_three (0 ∷ be64 leaf.guid.0) (text_bytes leaf.name) (flags_of leaf.state leaf.marked ∷ log_bytes leaf.log),
      length-be64 leaf.guid.0,
      length-text_bytes leaf.name,
      length-log_bytes leaf.log,
    )

length-inner_bytes : (guid : ℕ) (kind : Kind) (count : ℕ) → length (inner_bytes guid kind count) ≡ 10
unfolding inner_bytes
length-inner_bytes guid kind count =
    omega (arith, length-append (kind_byte kind ∷ be64 guid) (count ∷ []), length-be64 guid)

vdevs_short : (number : Group) (vdevs : List VdevSeen) → All (IsLeaf number) (leaves_among vdevs)
    → length (flat_map vdev_bytes vdevs) ≤ room vdevs
unfolding leaves_among room
vdevs_short number [] leaves = omega arith
vdevs_short number (leaf_vdev leaf ∷ vdevs) leaves =
    omega (
      arith,
      length-append (leaf_bytes leaf) (flat_map vdev_bytes vdevs),
      length-leaf_bytes leaf,
      name_short leaf.name (All-head (IsLeaf number) leaf (leaves_among vdevs) leaves).name,
      vdevs_short number vdevs (All-tail (IsLeaf number) leaf (leaves_among vdevs) leaves),
    )
vdevs_short number (inner_vdev guid kind count ∷ vdevs) leaves =
    omega (
      arith,
      length-append (inner_bytes guid.0 kind count) (flat_map vdev_bytes vdevs),
      length-inner_bytes guid.0 kind count,
      vdevs_short number vdevs leaves,
    )

length-tops : (tops : List TopSeen) → length (flat_map top_bytes tops) ≡ 8 * length tops + length (flat_map vdev_bytes
    (flat_map top_vdevs tops))
unfolding top_bytes
length-tops [] = refl
length-tops (top ∷ tops) =
    omega (
      arith,
      length-append (be64 top.sectors ++ flat_map vdev_bytes top.vdevs) (flat_map top_bytes tops),
      length-append (be64 top.sectors) (flat_map vdev_bytes top.vdevs),
      length-be64 top.sectors,
      length-tops tops,
      ap length (flat_map-append vdev_bytes top.vdevs (flat_map top_vdevs tops)),
      length-append (flat_map vdev_bytes top.vdevs) (flat_map vdev_bytes (flat_map top_vdevs tops)),
    )

spares_short : (spares : List (List ℕ)) → All (λ name. is_name name ≡ true) spares
    → length (flat_map text_bytes spares) ≤ 65 * length spares
spares_short [] all = omega arith
spares_short (name ∷ spares) all =
    omega (
      arith,
      length-append (text_bytes name) (flat_map text_bytes spares),
      length-text_bytes name,
      name_short name (All-head (λ name. is_name name ≡ true) name spares all),
      spares_short spares (All-tail (λ name. is_name name ≡ true) name spares all),
    )

head_short : (c : ConfigSeen) → IsValid c
    → length (head_bytes c.pool.0 c.name c.blocks c.number.0 c.next_guid c.root) ≤ 153
unfolding head_bytes
head_short c v =
    omega (
      arith,
      length_seven (be32 1) (be64 c.pool.0) (text_bytes c.name) (be64 c.blocks) (be64 c.number.0) (be64 c.next_guid)
          (pointer_bytes c.root),
      length-be32 1,
      length-be64 c.pool.0,
      length-text_bytes c.name,
      name_short c.name v.name,
      length-be64 c.blocks,
      length-be64 c.number.0,
      length-be64 c.next_guid,
      length-pointer_bytes c.root (kept_root c v).sum,
    )

tops_short : (c : ConfigSeen) → IsValid c → length (tops_bytes c.tops) ≤ 68452
unfolding tops_bytes
tops_short c v =
    omega (
      arith,
      length-append (be32 (length c.tops)) (flat_map top_bytes c.tops),
      length-be32 (length c.tops),
      length-tops c.tops,
      v.few_tops.1,
      vdevs_short c.number (all_vdevs c) v.leaves,
      valid_room c v,
    )

all_spares_short : (c : ConfigSeen) → IsValid c → length (spares_bytes c.spares) ≤ 1044
unfolding spares_bytes
all_spares_short c v =
    omega (
      arith,
      length-append (be32 (length c.spares)) (flat_map text_bytes c.spares),
      length-be32 (length c.spares),
      spares_short c.spares v.spares,
      v.few_spares,
    )

pub short : (c : ConfigSeen) → IsValid c → length (config_bytes c) < 72000
unfolding config_bytes
short c v =
    omega (
      arith,
      length_three (head_bytes c.pool.0 c.name c.blocks c.number.0 c.next_guid c.root) (tops_bytes c.tops)
          (spares_bytes c.spares),
      head_short c v,
      tops_short c v,
      all_spares_short c v,
    )

-- what was laid at the front of a buffer is read back
pub laid_back : (c : ConfigSeen) (out buffer : List ℕ) (stop : ℕ) → IsValid c → out ≡ laid (config_bytes c) buffer
    → stop ≡ length (config_bytes c) → config_in (take stop out) ≡ Some c
unfolding laid
laid_back c out buffer stop v is end =
    ap (λ s. config_in (take stop s)) (is ∙ append_assoc (config_bytes c) _ _)
    ∙ ap config_in (take_at (config_bytes c) _ stop (sym end)) ∙ back c v

pub laid_front : (bytes buffer out : List ℕ) (stop : ℕ) → out ≡ laid bytes buffer → stop ≡ length bytes
    → take stop out ≡ bytes
unfolding laid
laid_front bytes buffer out stop is end = ap (take stop) (is ∙ append_assoc bytes _ _) ∙ take_at bytes _ stop (sym end)

-- ---- a configuration that was read, whose parts are valid

pub valid_whole : (bytes : List ℕ) (c : ConfigSeen) → c ≡ seen_in bytes → are_parts (seen_in bytes) ≡ true
    → is_whole c ≡ true → IsValid c
unfolding is_valid
valid_whole bytes c same parts whole = valid_from c (and_from (are_parts c) _ (ap are_parts same ∙ parts) whole)

pub spelled_not : (bytes : List ℕ) (c : ConfigSeen) (b : Bool) → c ≡ seen_in bytes → is_whole c ≡ false
    → false ≡ (is_valid (seen_in bytes) && b)
unfolding is_valid
spelled_not bytes c b same bad =
    sym (and_left (are_parts (seen_in bytes) && is_whole (seen_in bytes)) b
    (and_right (are_parts (seen_in bytes)) _ (ap is_whole (sym same) ∙ bad)))

pub spelled_so : (bytes again : List ℕ) (c : ConfigSeen) → c ≡ seen_in bytes → are_parts (seen_in bytes) ≡ true
    → is_whole c ≡ true → again ≡ config_bytes c
    → bytes_eq again bytes ≡ (is_valid (seen_in bytes) && bytes_eq (config_bytes (seen_in bytes)) bytes)
unfolding is_valid
spelled_so bytes again c same parts whole is =
    ap (λ s. bytes_eq s bytes) (is ∙ ap config_bytes same)
    ∙ sym (ap (λ b. (b && is_whole (seen_in bytes)) && bytes_eq (config_bytes (seen_in bytes)) bytes) parts
    ∙ ap (λ b. b && bytes_eq (config_bytes (seen_in bytes)) bytes) (ap is_whole (sym same) ∙ whole))

-- the front of a buffer that was written over
pub take_front : (k m : ℕ) (out rest : List ℕ) → k ≤ m → k ≤ length out → take k (take m (out ++ rest)) ≡ take k out
take_front zero m out rest few long = refl
take_front (suc k) zero out rest few long = absurd (omega arith)
take_front (suc k) (suc m) [] rest few long = absurd (omega arith)
take_front (suc k) (suc m) (x ∷ out) rest few long =
    ap (λ s. x ∷ s) (take_front k m out rest (omega arith) (omega arith))
