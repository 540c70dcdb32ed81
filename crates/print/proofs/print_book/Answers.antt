-- The bytes of a broken book, and of a whole one.
use Rattle.std.proofs.Common.{arith}
use Rattle.print.proofs.Laws.{is_broken_lem, is_whole, by_bytes}
use Rattle.print.proofs.print_book.Goals as goal

pub returns-in-Err : goal.returns-in-Err
returns-in-Err c =
    let (n, m) = by_bytes _ _ _ _ _ (is_broken_lem _ (omega arith) c.in-Err.ensures) c.print_line-in-Err.ensures.value c.print_line-in-Err.ensures.out_after in
    record { value = n; out_after = m }

pub returns-in-Ok : goal.returns-in-Ok
returns-in-Ok c =
    let (n, m) = by_bytes _ _ _ _ _ (is_whole _ _ (omega arith) c.in-Ok.ensures) c.print_lines.ensures.value c.print_lines.ensures.out_after in
    record { value = n; out_after = m }
