-- What the printer writes is never longer than the buffer for it.
use Rattle.std.proofs.Common.{◌≡◌, ◌≤◌, ℕ, List, length, sym, arith}
use Rattle.std.proofs.Math.Seq.{length-take-le}
use Rattle.print.specs.Print.{printed}
use Rattle.print.proofs.Short.{printed-short}
use Rattle.printer.proofs.print_input.Goals as goal

has-room : (s out : List ℕ) (n : ℕ) → n ≡ length (printed s) → length out ≡ 196608 → n ≤ length out
has-room s out n e k = omega (arith, printed-short s)

pub slice_bounds-out-end : goal.slice_bounds-out-end
slice_bounds-out-end c = let x = c.print_book-length in has-room _ x.new.out x.result x.ensures.value x.auto.out

pub slice_bounds-write_all-end : goal.slice_bounds-write_all-end
slice_bounds-write_all-end c = let x = c.print_book-length in sym (length-take-le _ x.new.out (has-room _ x.new.out x.result x.ensures.value x.auto.out))
