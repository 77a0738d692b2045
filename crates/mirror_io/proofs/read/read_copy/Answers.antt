use Rattle.std.proofs.Common.{rules, sym}
use Rattle.bank_core.proofs.Blocks.{block_whole, block_inside}
use Rattle.mirror_io.proofs.Trying.{copy_read, failed_copy, other_copy, good_copy}
use Rattle.mirror_io.proofs.read.read_copy.Goals as goal

pub read-requires-clause-whole : goal.read-requires-clause-whole
read-requires-clause-whole g c = block_whole c.args.out.now c.requires.block

pub read-requires-clause-inside : goal.read-requires-clause-inside
read-requires-clause-inside g c = block_inside c.args.out.now c.args.at _ c.requires.block c.requires.inside

pub returns-then-is_err-clause-read : goal.returns-then-is_err-clause-read
returns-then-is_err-clause-read g c =
    copy_read (search rules) (failed_copy (g.J.Judge.Good c.args.judge.now) c.read.result _ (sym c.if-is_err.ensures.value)) c.read.ensures

pub returns-then-not-takes-clause-read : goal.returns-then-not-takes-clause-read
returns-then-not-takes-clause-read g c =
    copy_read (search rules) (other_copy (g.J.Judge.Good c.args.judge.now) c.read.result _ (sym c.if-is_err.ensures.value) (c.takes.ensures.wrong (search rules)))
    c.read.ensures

pub returns-clause-read : goal.returns-clause-read
returns-clause-read g c =
    copy_read (search rules) (good_copy (g.J.Judge.Good c.args.judge.now) c.read.result _ (sym c.if-is_err.ensures.value) (c.takes.ensures.good (search rules)))
    c.read.ensures
