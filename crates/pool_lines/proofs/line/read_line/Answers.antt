use Rattle.pool_lines.proofs.Forms.{line_bad, line_found, line_only}
use Rattle.pool_lines.proofs.line.read_line.Goals as goal

pub returns-clause-found : goal.returns-clause-found
returns-clause-found c = line_found c.args.line.now c.read_request.result c.read_request.ensures

pub returns-clause-only : goal.returns-clause-only
returns-clause-only c = line_only c.args.line.now c.read_request.result c.read_request.ensures

pub returns-clause-bad : goal.returns-clause-bad
returns-clause-bad c = line_bad c.args.line.now c.read_request.result c.read_request.ensures
