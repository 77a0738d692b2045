-- What the history reads of a record's bytes is what the configuration says that was decoded from them.
use Rattle.std.proofs.Common.{◌≡◌, ◌≤◌, ℕ, List, [], map, Option, Some, sym, ap, ◌∙◌, subst, subst₂}
use Rattle.mp_base.specs.declared.number.Guid.{Guid}
use Rattle.bank_core.specs.BankView.{BankView}
use Rattle.dtl_rules.specs.Widening.{sectors_of}
use Rattle.pool_config.specs.declared.config.Config.{Config}
use Rattle.pool_config.specs.Reading.{config_in, seen_in}
use Rattle.pool_config.specs.Seen.{config_seen, top_vdevs}
use Rattle.pool_config.proofs.Deciding.{is_config}
use Rattle.pool_config.proofs.Returning.{seen_back}
use Rattle.pool_codec.specs.Codecs.{pool_codec}
use Rattle.pool_codec.specs.Tops.{top_sectors, room_of, kept_from, kept_leaves_from}
use Rattle.pool_codec.proofs.LeavesKept.{vdevs_seen, sectors_seen, leaves_kept}
use Rattle.open_pool.specs.Finding.{FindsLeaves}

module _ (bytes : List ℕ) (c : Config) (reads : config_in bytes ≡ Some (config_seen c)) where
  pub seen_is : seen_in bytes ≡ config_seen c
  seen_is =
      let is = is_config bytes (config_seen c) reads in
      ap seen_in is.spelled ∙ seen_back (config_seen c) is.valid

  pub few_blocks : pool_codec.blocks bytes ≤ 262144
  few_blocks = subst (λ n. n ≤ 262144) (sym (ap (λ s. s.blocks) seen_is)) (is_config bytes (config_seen c) reads).valid.blocks.1

  pub leaves_are : pool_codec.leaves bytes ≡ kept_leaves_from 1 c.tops.items
  leaves_are = ap (λ s. kept_from 1 (map top_vdevs s.tops)) seen_is ∙ ap (kept_from 1) (vdevs_seen c.tops.items) ∙ leaves_kept 1 c.tops.items

  pub room_is : pool_codec.room bytes ≡ room_of (sectors_of c.tops.items)
  room_is = ap (λ s. room_of (map top_sectors s.tops)) seen_is ∙ ap room_of (sectors_seen c.tops.items)

  -- so the leaves were looked for as the row of an opening has it
  pub sought_of : (pool : Guid) (handed : List ℕ → Option ℕ) (devs : List (Option ℕ)) (old new : BankView)
      → FindsLeaves pool (room_of (sectors_of c.tops.items)) handed (kept_leaves_from 1 c.tops.items) [] devs old new
      → FindsLeaves pool (pool_codec.room bytes) handed (pool_codec.leaves bytes) [] devs old new
  sought_of pool handed devs old new f = subst₂ (λ room leaves. FindsLeaves pool room handed leaves [] devs old new) (sym room_is) (sym leaves_are) f
