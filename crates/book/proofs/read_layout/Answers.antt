-- The layout of the whole is that of the records left, at each turn and at each end.
use Rattle.std.proofs.Common.{arith}
use Rattle.std.proofs.lemmas.Result.{err_from_is_err_and}
use Rattle.book.proofs.Turns.{layout_start, layout_no_header, layout_more, layout_end, layout_broken, gave}
use Rattle.book.proofs.read_layout.Goals as goal

pub returns-in_err-entry : goal.returns-in_err-entry
returns-in_err-entry c =
    let p = err_from_is_err_and c.from_residual.result c.from_residual.ensures.1 in
    rw p.1 (layout_no_header _ c.in_err-entry.ensures)

pub loop-behind-init : goal.loop-behind-init
loop-behind-init c = rw (c.first-cursor.ensures.0, c.first-cursor.ensures.1) (layout_start _ _ c.in_ok-entry.ensures)

pub returns-in_err-behind : goal.returns-in_err-behind
returns-in_err-behind c =
    let p = err_from_is_err_and c.from_residual-in_err-behind.result c.from_residual-in_err-behind.ensures.1 in
    rw p.1 (layout_broken _ _ _ _ c.loop-behind.invariant c.in_err-behind.ensures)

pub loop-behind-smaller : goal.loop-behind-smaller
loop-behind-smaller c =
    let found = rw c.in-Some.is at c.in_ok-behind.ensures in
    let g = gave _ _ _ _ _ found in
    omega (arith, g.on, g.within)

pub loop-behind-preserved : goal.loop-behind-preserved
loop-behind-preserved c =
    let found = rw c.in-Some.is at c.in_ok-behind.ensures in
    layout_more _ _ _ _ c.loop-behind.invariant _ _ found

pub returns : goal.returns
returns c =
    let end = rw c.in_default.is at c.in_ok-behind.ensures in
    layout_end _ _ _ _ c.loop-behind.invariant end
