use Rattle.std.proofs.Common.{◌∙◌}
use Rattle.pool_core.proofs.Boards.{members_are}
use Rattle.pool_core.proofs.Recording.{parts_valid, own_round}
use Rattle.pool_core.proofs.Seated.{pool_seated, pool_apart}
use Rattle.pool_core.proofs.pool.Pool.commit_round.Goals as goal

pub commit_parts-requires-clause-valid : goal.commit_parts-requires-clause-valid
commit_parts-requires-clause-valid g c = parts_valid c.args.self.now _ c.parts-parts.ensures

pub commit_parts-requires-clause-seated : goal.commit_parts-requires-clause-seated
commit_parts-requires-clause-seated g c =
    pool_seated _ c.args.self.now _ (c.as_slice-3.ensures ∙ members_are c.args.self.now.pair c.args.members.now c.requires.board) c.requires.seated

pub commit_parts-requires-clause-apart : goal.commit_parts-requires-clause-apart
commit_parts-requires-clause-apart g c =
    pool_apart c.args.self.now _ (c.as_slice-3.ensures ∙ members_are c.args.self.now.pair c.args.members.now c.requires.board)

pub returns-clause-round : goal.returns-clause-round
returns-clause-round g c = λ s r.
    own_round _ c.args.self.now s _ _ r c.parts-parts.ensures (c.as_slice-3.ensures ∙ c.requires.board s r.pair) c.commit_parts.ensures.round
