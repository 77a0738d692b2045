use Rattle.std.proofs.Common.{◌<◌, Ok, sym, ap, ◌∙◌, subst}
use Rattle.std.specs.Option.{option_copied}
use Rattle.bank_core.proofs.Framing.{makes_none}
use Rattle.block_map.specs.Map.{pointer_at}
use Rattle.txg_history.specs.Records.{key}
use Rattle.pool_codec.specs.Pointers.{sum_in}
use Rattle.pool_moves.specs.ReadRow.{RowRead}
use Rattle.open_pool.specs.Answering.{Does}
use Rattle.open_pool.specs.Parts.{PoolParts}
use Rattle.open_pool.specs.Reading.{read_says}
use Rattle.open_pool.proofs.BlocksHeld.{some_long, zeros_block, block_key, written_is}
use Rattle.open_pool.proofs.ReadRows.{bad_address, in_memory, of_hole}
use Rattle.open_pool.proofs.pool.Pool.read.Goals as goal

pub returns-then-addr-limit : goal.returns-then-addr-limit
returns-then-addr-limit g c = record {
  row = bad_address c.args.self.now c.args.addr (g.B.Bank.view c.args.bank.now) makes_none c.blocks-limit.result
      (c.blocks-limit.ensures.blocks ∙ ap (λ (p : PoolParts). p.map.blocks) c.self.view_is) c.if-addr-limit.true;
}

pub copy_from_slice-requires : goal.copy_from_slice-requires
copy_from_slice-requires g c =
    c.requires.block ∙ sym (some_long (option_copied c.uncommitted.result) c.in-Some.block.now (ap option_copied c.in-Some.is) c.uncommitted.ensures.whole)

pub returns-in-Some : goal.returns-in-Some
returns-in-Some g c = record {
  row = λ s stands. subst (λ bytes. Does (RowRead s c.args.addr) read_says (Ok bytes) s c.args.self.now (g.B.Bank.view c.args.bank.now) (g.B.Bank.view c.args.bank.now))
      (sym c.copy_from_slice.ensures.after)
      (in_memory c.args.self.now c.args.addr (g.B.Bank.view c.args.bank.now) makes_none
      (subst (λ n. c.args.addr < n) (c.blocks-limit.ensures.blocks ∙ ap (λ (p : PoolParts). p.map.blocks) c.self.view_is) c.if-addr-limit.false)
      c.in-Some.block.now (sym c.uncommitted.ensures.block ∙ ap option_copied c.in-Some.is) s stands);
}

pub get-requires : goal.get-requires
get-requires g c = block_key c.self.inside.map.blocks c.args.addr (subst (λ n. c.args.addr < n) c.blocks-limit.ensures.blocks c.if-addr-limit.false)

pub returns-in_default-get : goal.returns-in_default-get
returns-in_default-get g c = record {
  row = λ s stands. subst (λ bytes. Does (RowRead s c.args.addr) read_says (Ok bytes) s c.args.self.now (g.B.Bank.view c.args.bank.now) (g.B.Bank.view c.args.bank.now))
      (sym (zeros_block _ c.fill.new.self c.requires.block (c.fill.ensures.after (λ y e. e))))
      (of_hole c.args.self.now c.args.addr (g.B.Bank.view c.args.bank.now) makes_none
      (subst (λ n. c.args.addr < n) (c.blocks-limit.ensures.blocks ∙ ap (λ (p : PoolParts). p.map.blocks) c.self.view_is) c.if-addr-limit.false)
      (sym c.uncommitted.ensures.block ∙ ap option_copied c.in_default.is)
      (ap (λ (p : PoolParts). sum_in (pointer_at p.map (key 0 c.args.addr))) (sym c.self.view_is) ∙ ap sum_in c.in_default-get.ensures.hole) s stands);
}

pub read_copies-requires-clause-pointer : goal.read_copies-requires-clause-pointer
read_copies-requires-clause-pointer g c =
    (written_is c.in-Some-get.pointer (pointer_at c.self.inside.map (key 0 c.args.addr)) (sym c.in-Some-get.is ∙ c.get.ensures.pointer)).0
    ∙ ap (λ (p : PoolParts). pointer_at p.map (key 0 c.args.addr)) c.self.view_is

pub read_copies-requires-clause-stored : goal.read_copies-requires-clause-stored
read_copies-requires-clause-stored g c =
    (written_is c.in-Some-get.pointer (pointer_at c.self.inside.map (key 0 c.args.addr)) (sym c.in-Some-get.is ∙ c.get.ensures.pointer)).1
