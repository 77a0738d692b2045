-- What is encoded of a valid configuration, cut at the end of its last sector, is a record's blob.
use Rattle.std.proofs.Common.{◌≡◌, ℕ, ◌-◌, ◌<◌, ◌≤◌, List, ◌++◌, length, take, drop, sym, ap, ◌∙◌, subst, arith, length-append}
use Rattle.std.proofs.Math.Seq.{take-append_seam, drop-append_seam}
use Rattle.mp_base.specs.Block.{zeros}
use Rattle.mp_base.specs.declared.place.Pointer.{Pointer}
use Rattle.bank_core.specs.Disk.{sector_size}
use Rattle.label_store.specs.Committing.{IsSealed}
use Rattle.pool_config.specs.Seen.{ConfigSeen}
use Rattle.pool_config.specs.Spelling.{be32, config_bytes, head_bytes, laid, whole_sectors}
use Rattle.pool_config.specs.Validity.{IsValid}
use Rattle.pool_config.proofs.Deciding.{short}
use Rattle.pool_config.proofs.Placing.{length-be32, length-zeros}

longer : (xs ys : List ℕ) → 0 < length xs → 0 < length (xs ++ ys)
longer xs ys some = let long = length-append xs ys in omega (arith, some, long)

-- a configuration begins with its version
head_some : (pool : ℕ) (name : List ℕ) (blocks number next : ℕ) (root : Pointer) → 0 < length (head_bytes pool name blocks number next root)
unfolding head_bytes
head_some pool name blocks number next root =
    longer _ _ (longer _ _ (longer _ _ (longer _ _ (longer _ _ (longer _ _ version)))))
  where
    version : 0 < length (be32 1)
    version = let first = length-be32 1 in omega (arith, first)

pub some_bytes : (c : ConfigSeen) → 0 < length (config_bytes c)
unfolding config_bytes
some_bytes c = longer _ _ (longer _ _ (head_some c.pool.0 c.name c.blocks c.number.0 c.next_guid c.root))

abbrev padding : ℕ → ℕ
padding n = whole_sectors n - n

-- so many bytes of a buffer that they were laid into are they, with zeros behind them
pub cut_laid : (bytes buffer : List ℕ) → take (whole_sectors (length bytes)) (laid bytes buffer) ≡ bytes ++ zeros (padding (length bytes))
unfolding laid
cut_laid bytes buffer =
    let n = length bytes in
    ap (λ m. take m ((bytes ++ zeros (padding n)) ++ drop (whole_sectors n) buffer))
    (let long = length-append bytes (zeros (padding n)) in let zero = length-zeros (padding n) in
    let whole : whole_sectors n ≡ length (bytes ++ zeros (padding n)) = omega (arith, long, zero) in whole)
    ∙ take-append_seam (bytes ++ zeros (padding n)) (drop (whole_sectors n) buffer)

sealed_whole : (bytes : List ℕ) → 0 < length bytes → length bytes ≤ 114688 → IsSealed (bytes ++ zeros (padding (length bytes))) (length bytes)
unfolding sector_size
sealed_whole bytes some fits =
    let long = length-append bytes (zeros (padding (length bytes))) in
    let zero = length-zeros (padding (length bytes)) in
    record {
      whole = omega (arith, long, zero);
      most = omega (arith, long, zero);
      some = some;
      within = omega (arith, long, zero);
      last = omega (arith, long, zero);
      rest = drop-append_seam bytes (zeros (padding (length bytes))) ∙ ap zeros (omega (arith, long, zero));
    }

-- What `encode_into` leaves of a valid configuration is sealed, and its bytes are the configuration's.
pub record IsCut (c : ConfigSeen) (blob : List ℕ) (n : ℕ) : Type 0 where
  pub bytes : take n blob ≡ config_bytes c
  pub sealed : IsSealed blob n

pub is_cut : (c : ConfigSeen) (buffer blob : List ℕ) (n : ℕ) → IsValid c → n ≡ length (config_bytes c)
    → blob ≡ take (whole_sectors n) (laid (config_bytes c) buffer) → IsCut c blob n
is_cut c buffer blob n valid long is =
    let bytes = config_bytes c in
    let blob_is : blob ≡ bytes ++ zeros (padding (length bytes)) = is ∙ ap (λ m. take (whole_sectors m) (laid bytes buffer)) long ∙ cut_laid bytes buffer in
    let fits = short c valid in
    record {
      bytes = ap (λ m. take m blob) long ∙ ap (take (length bytes)) blob_is ∙ take-append_seam bytes (zeros (padding (length bytes)));
      sealed = subst (λ m. IsSealed blob m) (sym long) (subst (λ b. IsSealed b (length bytes)) (sym blob_is)
          (sealed_whole bytes (some_bytes c) (omega (arith, fits))));
    }
