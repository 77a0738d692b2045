use Rattle.std.proofs.Common.{sym, ap, ◌∙◌, arith}
use Rattle.std.specs.List.{list_all}
use Rattle.std.proofs.lemmas.List.{length-map}
use Rattle.pool_config.specs.Seen.{top_seen, top_vdevs, fits, room}
use Rattle.pool_config.specs.Spelling.{config_bytes, whole_sectors}
use Rattle.pool_config.proofs.Bounds.{valid_room, valid_fit}
use Rattle.pool_config.proofs.Deciding.{laid_back}
use Rattle.pool_config.proofs.Lists.{flat_mapped}
use Rattle.pool_config.proofs.Placing.{puts_next, laid_is}
use Rattle.pool_config.proofs.encoding.encode_into.Goals as goal

pub put_tops-at-requires-clause-few : goal.put_tops-at-requires-clause-few
put_tops-at-requires-clause-few c = omega (arith, c.requires.valid.few_tops.1, length-map c.args.tops.now top_seen)

pub put_tops-at-requires-clause-fit : goal.put_tops-at-requires-clause-fit
put_tops-at-requires-clause-fit c =
    sym (ap (list_all fits) (flat_mapped top_vdevs top_seen c.args.tops.now)) ∙ valid_fit _ c.requires.valid

pub put_tops-at-requires-clause-room : goal.put_tops-at-requires-clause-room
put_tops-at-requires-clause-room c =
    omega (
      arith,
      c.put_head-at.ensures.stop,
      c.requires.part,
      c.requires.valid.few_tops.1,
      length-map c.args.tops.now top_seen,
      valid_room _ c.requires.valid,
      ap room (flat_mapped top_vdevs top_seen c.args.tops.now),
    )

pub put_spares-stop-requires-clause-room : goal.put_spares-stop-requires-clause-room
put_spares-stop-requires-clause-room c =
    omega (
      arith,
      c.put_head-at.ensures.stop,
      c.put_tops-at.ensures.stop,
      c.requires.part,
      c.requires.valid.few_tops.1,
      c.requires.valid.few_spares,
      length-map c.args.tops.now top_seen,
      valid_room _ c.requires.valid,
      ap room (flat_mapped top_vdevs top_seen c.args.tops.now),
    )

pub returns-clause-bytes : goal.returns-clause-bytes
unfolding config_bytes
returns-clause-bytes c =
    let body = puts_next (puts_next c.put_head-at.ensures.piece c.put_tops-at.ensures.piece)
    c.put_spares-stop.ensures.piece in
    laid_is c.args.out.now c.put_zeros.new.out _ _ c.put_zeros.result (puts_next body c.put_zeros.ensures.piece)
    (omega (arith, body.stop, c.next_multiple_of.ensures.value, ap (λ n. whole_sectors n) body.stop))
    (omega (
      arith,
      body.stop,
      c.put_zeros.ensures.stop,
      c.next_multiple_of.ensures.value,
      ap (λ n. whole_sectors n) body.stop,
    ))

pub returns-clause-stop : goal.returns-clause-stop
unfolding config_bytes
returns-clause-stop c =
    let body = puts_next (puts_next c.put_head-at.ensures.piece c.put_tops-at.ensures.piece)
    c.put_spares-stop.ensures.piece in
    omega (arith, body.stop)

pub returns-clause-back : goal.returns-clause-back
returns-clause-back c =
    laid_back _ c.put_zeros.new.out c.args.out.now c.put_spares-stop.result c.requires.valid (returns-clause-bytes c)
    (returns-clause-stop c)
