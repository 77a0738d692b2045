use Rattle.std.proofs.Common.{rules}
use Rattle.std.proofs.lemmas.List.{take_at}
use Rattle.host_front.proofs.ReadReplies.{replies_block, replies_refused, replies_memory}
use Rattle.host_front.proofs.reading.read_from.Goals as goal

pub returns-in-Ok-read-clause-replies : goal.returns-in-Ok-read-clause-replies
returns-in-Ok-read-clause-replies g c = λ s r.
    rw (c.new.ensures, take_at c.read.new.out _ c.in-Ok.out.len (search rules)) (replies_block c.read.new.out (c.in-Ok-read.ensures.read s r))

pub returns-in-Err-read-clause-replies : goal.returns-in-Err-read-clause-replies
returns-in-Err-read-clause-replies g c = λ s r.
    replies_refused c.in-Err-read.refusal (c.read_refused.ensures s r) (c.in-Err-read.ensures.read s r)

pub returns-in-Err-clause-replies : goal.returns-in-Err-clause-replies
returns-in-Err-clause-replies g c = λ s r. replies_memory
