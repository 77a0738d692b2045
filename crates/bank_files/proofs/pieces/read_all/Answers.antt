use Rattle.std.proofs.Common.{ℕ, ◌+◌, ◌-◌, ◌≡◌, length, arith, ap, sym, ◌∙◌, subst, rules}
use Rattle.bank_files.specs.Told.{Told, Stands}
use Rattle.bank_files.proofs.Standing.{reads_more}
use Rattle.bank_files.proofs.pieces.read_all.Goals as goal
use borrow.Rule.Slice.PartMut.{post_of}

pub loop-preserved : goal.loop-preserved
loop-preserved g c =
    let told = g.F.HostFile.told in
    let done = c.loop.done in
    let piece = c.read_piece.new.out in
    let same = c.loop.invariant.same in
    record {
      most = search (rules, arith);
      given = reads_more (told c.args.file.now) c.args.at c.loop.out piece (post_of done (length c.loop.out - done) c.loop.out)
          done c.in_ok-done.field-0 c.loop.invariant.most c.in_ok-done.ensures.bound c.loop.invariant.given
          (subst (λ (of : Told). Stands of (c.args.at + done) piece c.in_ok-done.field-0) same c.in_ok-done.ensures.given);
      same = c.read_piece.ensures.same ∙ same;
    }
