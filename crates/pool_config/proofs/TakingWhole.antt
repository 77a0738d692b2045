-- The spares that were read, and the whole.
use Rattle.std.proofs.Common.{◌≡◌, ℕ, suc, ◌^◌, Bool, true, false, List, [], ◌∷◌, ◌++◌, map, drop, refl, sym, ap, ◌∙◌}
use Rattle.std.proofs.Common.{subst, All, Ok, Err}
use Rattle.std.specs.List.{flat_map, list_all}
use Rattle.std.proofs.lemmas.Bool.{and_left, and_right, and_from}
use Rattle.std.proofs.lemmas.List.Folds.{list_all-append}
use Rattle.mp_base.specs.Name.{is_name}
use Rattle.mp_base.specs.declared.number.Group.{Group}
use Rattle.mp_base.specs.declared.place.Pointer.{Pointer}
use Rattle.vdev_tree.specs.declared.top.Top.{Top}
use Rattle.pool_config.specs.Members.{Gathered, nothing, gathered}
use Rattle.pool_config.specs.Reading.{count_in, number_in, text_in, behind_text, pointer_in, many_in, spare_in, tops_in}
use Rattle.pool_config.specs.Reading.{spares_in, from_pool, from_name, from_blocks, from_number, from_next_guid}
use Rattle.pool_config.specs.Reading.{from_root, from_tops, seen_in}
use Rattle.pool_config.specs.Seen.{TopSeen, ConfigSeen, top_seen, top_vdevs, top_leaves, all_vdevs, config_seen}
use Rattle.pool_config.specs.Seen.{IsRecorded}
use Rattle.pool_config.specs.Taken.{AreTakenTops, IsUnchecked}
use Rattle.pool_config.specs.declared.config.Config.{Config}
use Rattle.pool_config.specs.Validity.{is_in, is_top_of, are_parts}
use Rattle.pool_config.proofs.Returning.{seen_with, same_seen}
use Rattle.pool_config.proofs.Taking.{AreRead, one_read, all_read, bad_item}

-- ---- spares

spare_value : (s : List ℕ) → text_in s ≡ (spare_in s).value
unfolding spare_in
spare_value s = refl

spare_rest : (s : List ℕ) → behind_text s ≡ (spare_in s).rest
unfolding spare_in
spare_rest s = refl

pub record AreSpares (left total : ℕ) (start rest : List ℕ) (spares : List (List ℕ)) : Type 0 where
  pub read : AreRead spare_in left total spares rest start
  pub names : list_all is_name spares ≡ true

pub one_spare : (left less total : ℕ) (start rest next : List ℕ) (spares : List (List ℕ)) (name words : List ℕ)
    → left ≡ suc less → words ≡ text_in rest → name ≡ words
    → next ≡ behind_text rest → is_name name ≡ true → AreSpares left total start rest spares
    → AreSpares less total start next (spares ++ name ∷ [])
one_spare left less total start rest next spares name words is text named behind good so_far = record {
  read = one_read spare_in left less total spares rest next start name is (named ∙ text ∙ spare_value rest)
      (behind ∙ spare_rest rest) so_far.read;
  names = list_all-append is_name spares (name ∷ [])
      ∙ and_from (list_all is_name spares) _ so_far.names (and_from (is_name name) true good refl);
}

spares_there : (s start : List ℕ) (total : ℕ) → total ≡ count_in s → start ≡ drop 4 s
    → many_in spare_in total start ≡ spares_in s
unfolding spares_in
spares_there s start total e f = ap (λ n. many_in spare_in n start) e ∙ ap (many_in spare_in (count_in s)) f

pub spares_taken : (left total : ℕ) (s start rest : List ℕ) (spares : List (List ℕ)) → total ≡ count_in s
    → start ≡ drop 4 s → left ≡ 0 → AreSpares left total start rest spares
    → spares ≡ (spares_in s).value
spares_taken left total s start rest spares count at none are =
    (all_read spare_in left total spares rest start none are.read).0
    ∙ ap (λ r. r.value) (spares_there s start total count at)

pub spares_bad : (left less total : ℕ) (s start rest : List ℕ) (spares : List (List ℕ)) (words : List ℕ)
    → total ≡ count_in s → start ≡ drop 4 s → left ≡ suc less
    → AreSpares left total start rest spares → words ≡ text_in rest → is_name words ≡ false
    → list_all is_name (spares_in s).value ≡ false
spares_bad left less total s start rest spares words count at is are text bad =
    ap (λ r. list_all is_name r.value) (sym (spares_there s start total count at))
    ∙ bad_item spare_in is_name left less total spares rest start is are.read
    (ap is_name (sym (text ∙ spare_value rest)) ∙ bad)

-- ---- the whole

same_group : (g : Group) (n : ℕ) → g.0 ≡ n → g ≡ record { 0 = n }
same_group g n e = ap (λ k. group_of k) e
  where
    group_of : ℕ → Group
    group_of k = record { 0 = k }

-- Where a part can't be what is asked of it, the bytes have no valid fields.

pub number_bad : (bytes : List ℕ) (n : ℕ) → n ≡ number_in (from_number bytes) → is_in 1 (2 ^ 62) n ≡ false
    → are_parts (seen_in bytes) ≡ false
unfolding are_parts seen_in
number_bad bytes n e bad =
    and_left (is_in 1 (2 ^ 62) (number_in (from_number bytes))) _ (ap (is_in 1 (2 ^ 62)) (sym e) ∙ bad)

pub name_bad : (bytes words : List ℕ) → words ≡ text_in (from_name bytes) → is_name words ≡ false
    → are_parts (seen_in bytes) ≡ false
unfolding are_parts seen_in
name_bad bytes words e bad =
    and_right (is_in 1 (2 ^ 62) (number_in (from_number bytes))) _
    (and_left (is_name (text_in (from_name bytes))) _ (ap is_name (sym e) ∙ bad))

pub tops_unread : (bytes at : List ℕ) (number : Group) → at ≡ from_tops bytes → number.0 ≡ number_in (from_number bytes)
    → list_all (is_top_of number) (tops_in at).value ≡ false
    → are_parts (seen_in bytes) ≡ false
unfolding are_parts seen_in
tops_unread bytes at number e f bad =
    let here : list_all (is_top_of (record { 0 = number_in (from_number bytes) })) (tops_in (from_tops bytes)).value
    ≡ false =
    ap (λ g. list_all (is_top_of g) (tops_in (from_tops bytes)).value) (sym (same_group number _ f))
    ∙ ap (λ s. list_all (is_top_of number) (tops_in s).value) (sym e) ∙ bad in
    and_right (is_in 1 (2 ^ 62) (number_in (from_number bytes))) _
    (and_right (is_name (text_in (from_name bytes))) _ (and_left _ _ here))

pub spares_unread : (bytes at : List ℕ) → at ≡ (tops_in (from_tops bytes)).rest
    → list_all is_name (spares_in at).value ≡ false → are_parts (seen_in bytes) ≡ false
unfolding are_parts seen_in
spares_unread bytes at e bad =
    and_right (is_in 1 (2 ^ 62) (number_in (from_number bytes))) _ (and_right (is_name (text_in (from_name bytes))) _
    (and_right (list_all (is_top_of (record { 0 = number_in (from_number bytes) })) (tops_in (from_tops bytes)).value) _
    (ap (λ s. list_all is_name (spares_in s).value) (sym e) ∙ bad)))

-- what was read of the bytes, field by field
pub record AreFields (bytes at rest : List ℕ) (pool : ℕ) (name : List ℕ) (blocks : ℕ) (number : Group) (next : ℕ)
    (root : Pointer) (tops : List Top) (spares : List (List ℕ)) (before after : Gathered) : Type 0 where
  pub pool_is : pool ≡ number_in (from_pool bytes)
  pub name_is : name ≡ text_in (from_name bytes)
  pub named : is_name name ≡ true
  pub blocks_is : blocks ≡ number_in (from_blocks bytes)
  pub number_is : number.0 ≡ number_in (from_number bytes)
  pub in_range : is_in 1 (2 ^ 62) number.0 ≡ true
  pub next_is : next ≡ number_in (from_next_guid bytes)
  pub root_is : root ≡ pointer_in (from_root bytes)
  pub at_tops : at ≡ from_tops bytes
  pub taken : AreTakenTops number (tops_in at) rest before after tops
  pub spares_are : spares ≡ (spares_in rest).value
  pub spares_named : list_all is_name spares ≡ true
  pub none : before ≡ nothing

pub fields_seen : {bytes at rest : List ℕ} {pool : ℕ} {name : List ℕ} {blocks : ℕ} {number : Group} {next : ℕ}
    {root : Pointer} {tops : List Top} {spares : List (List ℕ)} {before after : Gathered}
    → AreFields bytes at rest pool name blocks number next root tops spares before after
    → seen_with pool name blocks number.0 next root (map top_seen tops) spares ≡ seen_in bytes
unfolding seen_in
fields_seen are =
    same_seen _ _ _ _ _ _ _ _ _ _ _ _ _ _ _ _ are.pool_is are.name_is are.blocks_is are.number_is are.next_is
    are.root_is
    (are.taken.tops ∙ ap (λ s. (tops_in s).value) are.at_tops)
    (are.spares_are ∙ ap (λ s. (spares_in s).value) (are.taken.rest ∙ ap (λ s. (tops_in s).rest) are.at_tops))

pub fields_parts : {bytes at rest : List ℕ} {pool : ℕ} {name : List ℕ} {blocks : ℕ} {number : Group} {next : ℕ}
    {root : Pointer} {tops : List Top} {spares : List (List ℕ)} {before after : Gathered}
    → AreFields bytes at rest pool name blocks number next root tops spares before after
    → are_parts (seen_with pool name blocks number.0 next root (map top_seen tops) spares) ≡ true
unfolding are_parts
fields_parts {bytes} {at} {rest} {pool} {name} {blocks} {number} {next} {root} {tops} {spares} are =
    and_from (is_in 1 (2 ^ 62) number.0) _ are.in_range (and_from (is_name name) _ are.named
    (and_from (list_all (is_top_of number) (map top_seen tops)) _
    (ap (list_all (is_top_of number)) are.taken.tops ∙ are.taken.stand) are.spares_named))

pub fields_gathered : {bytes at rest : List ℕ} {pool : ℕ} {name : List ℕ} {blocks : ℕ} {number : Group} {next : ℕ}
    {root : Pointer} {tops : List Top} {spares : List (List ℕ)} {before after : Gathered}
    → AreFields bytes at rest pool name blocks number next root tops spares before after
    → after ≡ gathered nothing (flat_map top_vdevs (map top_seen tops))
fields_gathered {bytes} {at} are =
    are.taken.gathered ∙ ap (λ m. gathered m (flat_map top_vdevs (tops_in at).value)) are.none
    ∙ ap (λ (ts : List TopSeen). gathered nothing (flat_map top_vdevs ts)) (sym are.taken.tops)

pub true_otherwise : (b : Bool) → (b ≡ false → ⊥) → b ≡ true
true_otherwise true never = refl
true_otherwise false never = absurd (never refl)

pub no_err : {T E : Type 0} (x : T) (e : E) → Ok x ≡ Err e → ⊥
no_err x e is = absurd cc

pub fields_unchecked : {bytes at rest : List ℕ} {pool : ℕ} {name : List ℕ} {blocks : ℕ} {number : Group} {next : ℕ}
    {root : Pointer} {tops : List Top} {spares : List (List ℕ)} {before after : Gathered}
    (config : Config) (members : Gathered) (all : List ℕ) → bytes ≡ all
    → AreFields bytes at rest pool name blocks number next root tops spares before after
    → config_seen config ≡ seen_with pool name blocks number.0 next root (map top_seen tops) spares
    → config.tops.items ≡ tops → members ≡ after
    → IsUnchecked all (record { config = config; members = members })
fields_unchecked {bytes} {at} {rest} {pool} {name} {blocks} {number} {next} {root} {tops} {spares} {before} {after}
    config members all is are same kept listed = record {
      seen = same ∙ fields_seen are ∙ ap seen_in is;
      parts = ap (λ s. are_parts (seen_in s)) (sym is) ∙ ap are_parts (sym (fields_seen are)) ∙ fields_parts are;
      members = listed ∙ fields_gathered are ∙ ap (λ (c : ConfigSeen). gathered nothing (all_vdevs c)) (sym same);
      recorded = subst (λ (ts : List Top). All IsRecorded (flat_map top_leaves ts)) (sym kept) are.taken.recorded;
    }
