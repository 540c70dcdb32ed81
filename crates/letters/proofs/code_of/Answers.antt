-- `code_of` meets its contract: the table's rule, at the byte's place.
use native.Mathlib.Omega.{arith}
use Rattle.letters.specs.Table.{table}
use Rattle.letters.proofs.Laws.{code-there, code-none}
use Rattle.letters.proofs.code_of.Goals as goal

pub returns-then-p-b : goal.returns-then-p-b
unfolding table
returns-then-p-b c = code-there c.args.b (omega arith) c.place_of.result c.place_of.ensures.0 c.if-p-b.true

pub returns-else-p-b : goal.returns-else-p-b
unfolding table
returns-else-p-b c = code-none c.args.b (omega arith) c.place_of.result c.place_of.ensures.0 c.if-p-b.false
