use Rattle.std.proofs.Common.{ℕ, ◌+◌, ◌-◌, ◌∙◌, List, length, drop, ap, arith, rules, subst, length-drop}
use Rattle.std.proofs.lemmas.List.{take_rest}
use Rattle.bank_files.specs.Told.{Stands, Touches}
use Rattle.bank_files.proofs.Standing.{stands_more, touches_more}
use Rattle.bank_files.proofs.pieces.write_all.Goals as goal

pub loop-preserved : goal.loop-preserved
loop-preserved g c =
    let told = g.F.HostFile.told in
    let at = c.args.at in
    let bytes = c.args.bytes.now in
    let done = c.loop.done in
    let rest = take_rest bytes done in
    let len = ap (λ (piece : List ℕ). length piece) rest ∙ length-drop done bytes in
    let others = subst (λ n. Touches (told c.loop.file) (told c.write_piece.new.file) (at + done) n) len c.in_ok-done.ensures.others in
    record {
      most = search (rules, arith);
      taken = stands_more (told c.loop.file) (told c.write_piece.new.file) at bytes done c.in_ok-done.field-0
          (length bytes - done) c.loop.invariant.taken others
          (subst (λ piece. Stands (told c.write_piece.new.file) (at + done) piece c.in_ok-done.field-0) rest c.in_ok-done.ensures.taken);
      others = touches_more (told c.args.file.now) (told c.loop.file) (told c.write_piece.new.file) at (length bytes) done
          c.loop.invariant.most c.loop.invariant.others others;
    }
