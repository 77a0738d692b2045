-- Which bytes are a configuration, and how long it is.
use Rattle.std.proofs.Common.{◌≡◌, ℕ, ◌+◌, ◌-◌, ◌*◌, ◌≤◌, ◌<◌, Bool, true, false, cond, ◌&&◌, List, ◌∷◌, ◌++◌, length, take, drop, refl, sym, ap, ◌∙◌, subst, arith, length-append, Some, None}
use Rattle.std.specs.List.{flat_map}
use Rattle.std.proofs.lemmas.List.{take_at, drop_at}
use Rattle.mp_base.specs.Block.{zeros}
use Rattle.std.specs.Str.{bytes_eq}
use Rattle.std.proofs.lemmas.Bool.{and_parts, and_from, and_left, cond-true, cond-false}
use Rattle.std.proofs.lemmas.Slice.Eq.{bytes_eq-Decides}
use Rattle.mp_base.specs.declared.range.GroupRange.{GroupRange}
use Rattle.config_codec.specs.declared.config.LeafConfig.{LeafConfig}
use Rattle.config_codec.specs.Fields.{Fields}
use Rattle.config_codec.specs.Validity.{IsValid, is_valid}
use Rattle.config_codec.specs.Flags.{flags_of}
use Rattle.config_codec.specs.Spelling.{be32, be64, text_bytes, pointer_bytes, range_bytes, log_bytes, leaf_bytes, head_bytes, tops_bytes, config_bytes}
use Rattle.config_codec.specs.Reading.{fields_of, config_in}
use Rattle.config_codec.proofs.Placing.{length-be32, length-be64, length-text_bytes, name_short}
use Rattle.config_codec.proofs.Returning.{all_kept, fields_are}
use Rattle.config_codec.proofs.Suffixes.{length-pointers, length-ranges}
use Rattle.config_codec.proofs.Testing.{valid_from, valid_test}

chosen : {A : Type 0} (b : Bool) (x y : A) → cond b (Some x) None ≡ Some y → (b ≡ true) × (x ≡ y)
chosen true x y e = (refl, cc)
chosen false x y e = absurd cc

pub back : (c : Fields) → IsValid c → config_in (config_bytes c) ≡ Some c
unfolding config_in
back c v =
    let bytes = config_bytes c in
    let same : fields_of bytes ≡ c = fields_are c v in
    let valid : is_valid (fields_of bytes) ≡ true = ap is_valid same ∙ valid_test c v in
    let spelled : bytes_eq (config_bytes (fields_of bytes)) bytes ≡ true = (bytes_eq-Decides (config_bytes (fields_of bytes)) bytes).1 (ap config_bytes same) in
    cond-true _ _ _ (and_from (is_valid (fields_of bytes)) _ valid spelled) ∙ ap Some same

-- what it takes that bytes are a configuration
pub record Is (bytes : List ℕ) (c : Fields) : Type 0 where
  pub valid : IsValid c
  pub spelled : bytes ≡ config_bytes c

pub is_config : (bytes : List ℕ) (c : Fields) → config_in bytes ≡ Some c → Is bytes c
unfolding config_in
is_config bytes c e =
    let parts = chosen (is_valid (fields_of bytes) && bytes_eq (config_bytes (fields_of bytes)) bytes) (fields_of bytes) c e in
    let both = and_parts (is_valid (fields_of bytes)) _ parts.0 in
    let spelled : config_bytes (fields_of bytes) ≡ bytes = (bytes_eq-Decides (config_bytes (fields_of bytes)) bytes).0 both.1 in
    record { valid = subst IsValid parts.1 (valid_from (fields_of bytes) both.0); spelled = sym spelled ∙ ap config_bytes parts.1 }

pub is_none : (bytes : List ℕ) → is_valid (fields_of bytes) ≡ false → config_in bytes ≡ None
unfolding config_in
is_none bytes e = cond-false _ _ _ (and_left (is_valid (fields_of bytes)) _ e)

-- what a test of the fields and the bytes gives
pub kept_some : (bytes : List ℕ) (c : Fields) → c ≡ fields_of bytes → (is_valid c && bytes_eq (config_bytes c) bytes) ≡ true → config_in bytes ≡ Some c
unfolding config_in
kept_some bytes c same t = cond-true _ _ _ (ap (λ f. is_valid f && bytes_eq (config_bytes f) bytes) (sym same) ∙ t) ∙ ap Some (sym same)

pub kept_valid : (c : Fields) (b : Bool) → (is_valid c && b) ≡ true → IsValid c
kept_valid c b t = valid_from c (and_parts (is_valid c) b t).0

pub kept_none : (bytes : List ℕ) (c : Fields) → c ≡ fields_of bytes → (is_valid c && bytes_eq (config_bytes c) bytes) ≡ false → config_in bytes ≡ None
unfolding config_in
kept_none bytes c same t = cond-false _ _ _ (ap (λ f. is_valid f && bytes_eq (config_bytes f) bytes) (sym same) ∙ t)

-- ---- lengths

length_six : (a b c d e f : List ℕ) → length (a ++ b ++ c ++ d ++ e ++ f) ≡ length a + length b + length c + length d + length e + length f
length_six a b c d e f = simp length-append

length_five : (a b c d e : List ℕ) → length (a ++ b ++ c ++ d ++ e) ≡ length a + length b + length c + length d + length e
length_five a b c d e = simp length-append

length_four : (a b c d : List ℕ) → length (a ++ b ++ c ++ d) ≡ length a + length b + length c + length d
length_four a b c d = simp length-append

length_three : (a b c : List ℕ) → length (a ++ b ++ c) ≡ length a + length b + length c
length_three a b c = simp length-append

length-log_bytes : (log : List GroupRange) → length (log_bytes log) ≡ 4 + 16 * length log
unfolding log_bytes
length-log_bytes log = omega (arith, length-append (be32 (length log)) (flat_map range_bytes log), length-be32 (length log), length-ranges log)

length-leaf_bytes : (leaf : LeafConfig) → length (leaf_bytes leaf) ≡ 15 + length leaf.name + 16 * length leaf.log
unfolding leaf_bytes
length-leaf_bytes leaf =
    omega (
      arith,
      length_three (0 ∷ be64 leaf.member.0) (text_bytes leaf.name) (flags_of leaf.kept leaf.marked ∷ log_bytes leaf.log),
      length-be64 leaf.member.0,
      length-text_bytes leaf.name,
      length-log_bytes leaf.log,
    )

length-head_bytes : (c : Fields) → length (head_bytes c) ≡ 37 + length c.name
unfolding head_bytes
length-head_bytes c =
    omega (
      arith,
      length_six (be32 1) (be64 c.pool.0) (text_bytes c.name) (be64 c.blocks) (be64 c.number.0) (be64 c.next_member),
      length-be32 1,
      length-be64 c.pool.0,
      length-text_bytes c.name,
      length-be64 c.blocks,
      length-be64 c.number.0,
      length-be64 c.next_member,
    )

length-tops_bytes : (c : Fields) → length (tops_bytes c) ≡ 52 + length c.first.name + length c.second.name + 16 * (length c.first.log + length c.second.log)
unfolding tops_bytes
length-tops_bytes c =
    omega (
      arith,
      length_five (be32 1) (be64 c.sectors) (1 ∷ be64 c.mirror.0) (2 ∷ leaf_bytes c.first) (leaf_bytes c.second),
      length-be32 1,
      length-be64 c.sectors,
      length-be64 c.mirror.0,
      length-leaf_bytes c.first,
      length-leaf_bytes c.second,
    )

-- how many bytes a configuration has
pub length-config_bytes : (c : Fields) → IsValid c
    → length (config_bytes c) ≡ 93 + 52 * c.blocks + length c.name + length c.first.name + length c.second.name + 16 * (length c.first.log + length c.second.log)
unfolding config_bytes
length-config_bytes c v =
    omega (
      arith,
      length_four (head_bytes c) (flat_map pointer_bytes c.pointers) (tops_bytes c) (be32 0),
      length-head_bytes c,
      length-tops_bytes c,
      length-be32 0,
      length-pointers c.pointers (all_kept c v),
      v.counted,
    )

pub fits : (c : Fields) → IsValid c → length (config_bytes c) ≤ 1949 + 16 * (length c.first.log + length c.second.log)
fits c v =
    omega (arith, length-config_bytes c v, v.blocks.1, name_short c.name v.name, name_short c.first.name v.first_name, name_short c.second.name v.second_name)

pub fits_part : (c : Fields) → IsValid c → length (config_bytes c) ≤ 114688
fits_part c v = omega (arith, fits c v, v.few_ranges)

pub some : (c : Fields) → IsValid c → 0 < length (config_bytes c)
some c v = omega (arith, length-config_bytes c v)

-- A part has a configuration at its front: it is read back, and zeros are behind it.
pub record Written (out : List ℕ) (stop : ℕ) (c : Fields) : Type 0 where
  pub some : 0 < stop
  pub within : stop ≤ 114688
  pub back : config_in (take stop out) ≡ Some c
  pub rest : drop stop out ≡ zeros (114688 - stop)

pub written : (out : List ℕ) (stop : ℕ) (c : Fields) → IsValid c → out ≡ config_bytes c ++ zeros (114688 - length (config_bytes c)) → stop ≡ length (config_bytes c)
    → Written out stop c
written out stop c v is end =
    let bytes = config_bytes c in
    record {
      some = omega (arith, end, some c v);
      within = omega (arith, end, fits_part c v);
      back = ap (λ s. config_in (take stop s)) is ∙ ap config_in (take_at bytes (zeros (114688 - length bytes)) stop (sym end)) ∙ back c v;
      rest = ap (drop stop) is ∙ drop_at bytes (zeros (114688 - length bytes)) stop (sym end) ∙ ap (λ n. zeros (114688 - n)) (sym end);
    }
