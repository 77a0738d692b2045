use Rattle.std.proofs.Common.{ℕ, List, length, ap, ◌∙◌, arith}
use Rattle.vdev_tree.specs.declared.top.Top.{Top}
use Rattle.pool_config.specs.Seen.{parts_seen}
use Rattle.pool_config.specs.Spelling.{config_bytes}
use Rattle.pool_config.proofs.Deciding.{short, take_front, laid_front}
use Rattle.pool_config.proofs.encoding.encode.Goals as goal

pub returns : goal.returns
returns c =
    let n = c.encode_into-length.result in
    let out = c.encode_into-length.new.out in
    let v = c.args.c.now in
    let tops = ap (λ (ts : List Top). config_bytes (parts_seen v.pool v.name v.blocks v.number v.next_guid v.root ts
    c.deref-2.result.now)) c.deref.ensures.value in
    let spares =
    ap (λ (names : List (List ℕ)). config_bytes (parts_seen v.pool v.name v.blocks v.number v.next_guid v.root
    v.tops.items names)) c.deref-2.ensures.value in
    let end = c.encode_into-length.ensures.stop ∙ ap length (tops ∙ spares) in
    c.truncate.ensures.items
    ∙ take_front n _ out _ (omega (arith, end, short _ c.requires, c.in_ok-bytes.ensures.len))
    (omega (
      arith,
      end,
      short _ c.requires,
      c.encode_into-length.auto.out,
      c.deref_mut.ensures.len,
      c.in_ok-bytes.ensures.len,
    ))
    ∙ laid_front _ c.deref_mut.result.now out n c.encode_into-length.ensures.bytes c.encode_into-length.ensures.stop
    ∙ tops ∙ spares
