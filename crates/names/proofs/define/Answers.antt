-- `define` meets its contract: the records above the place go up, and the name's record takes it.
use native.Mathlib.Omega.{arith}
use Rattle.std.proofs.Common.{◌≡◌, ◌∙◌, ◌*◌, ap}
use Rattle.std.proofs.lemmas.List.Edits.{sets}
use Rattle.names.specs.Steps.{shifted, name_bytes}
use Rattle.names.proofs.Table.{names-defined, rest-defined}
use Rattle.names.proofs.define.Goals as goal

pub returns-clause-names : goal.returns-clause-names
returns-clause-names c =
    let e : c.put_name.new.t ≡ sets (shifted (16 * c.place-at.result) (16 * c.args.count) c.args.t.now) (16 * c.place-at.result) (name_bytes c.args.x) =
    c.put_name.ensures.0 ∙ ap (λ m. sets m (16 * c.place-at.result) (name_bytes c.args.x)) c.shift_up.ensures in
    rw e (names-defined c.args.count c.args.t.now c.args.x (omega arith) (omega arith) c.put_name.ensures.1 (omega arith) c.place-at.result c.place-at.ensures.0)

pub returns-clause-rest : goal.returns-clause-rest
returns-clause-rest c =
    let e : c.put_name.new.t ≡ sets (shifted (16 * c.place-at.result) (16 * c.args.count) c.args.t.now) (16 * c.place-at.result) (name_bytes c.args.x) =
    c.put_name.ensures.0 ∙ ap (λ m. sets m (16 * c.place-at.result) (name_bytes c.args.x)) c.shift_up.ensures in
    rw e (rest-defined c.args.count c.args.t.now c.args.x (omega arith) (omega arith) c.put_name.ensures.1 (omega arith) c.place-at.result c.place-at.ensures.1)
